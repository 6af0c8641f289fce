use Rattle.std.proofs.Common.{[], ◌∷◌, arith, refl}
use Rattle.serde_json.specs.View.{view}
use Rattle.zarr_codecs_meaning.specs.Types.{bool}
use mir.Val.{bool_byte}
use Rattle.zarr_codecs_json.specs.Inside.{cell_inside}
use Rattle.zarr_codecs_json.proofs.ReadLists.{fixed_read, says_flag}
use Rattle.zarr_codecs_json.proofs.reading.bools.Goals as goal

pub loop-value-preserved : goal.loop-value-preserved
loop-value-preserved c =
    let flag = c.in-Some.flag in
    let levels = c.args.levels in
    let value = c.value-item.result in
    fixed_read (cell_inside bool levels) 1 c.loop-value.bytes.items c.push.new.self.items (bool_byte flag ∷ []) c.args.values.now c.loop-value.value-index value (omega arith) refl
    (says_flag levels (view value) flag c.in-Some.ensures) c.loop-value-test.true c.value-item.is c.in_ok-push.ensures.items c.loop-value.invariant
