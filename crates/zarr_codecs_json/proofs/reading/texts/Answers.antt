use Rattle.std.proofs.Common.{sym, refl, arith, rules}
use Rattle.serde_json.specs.View.{items_view}
use Rattle.std.proofs.Common.{drop}
use Rattle.zarr_codecs_meaning.specs.Types.{string}
use Rattle.zarr_codecs_arrays.specs.Views.{payload_of}
use Rattle.zarr_codecs_json.specs.Inside.{cell_inside}
use Rattle.zarr_codecs_json.proofs.ReadLists.{variable_read, variable_rises, variable_ends}
use Rattle.zarr_codecs_json.proofs.reading.texts.Goals as goal

pub loop-value-preserved : goal.loop-value-preserved
loop-value-preserved c =
    variable_read (cell_inside string c.args.levels) c.loop-value.bytes.items c.extend_from_slice.new.self.items c.in-Some.text.now c.loop-value.offsets.items c.push-in-loop-value.new.self.items c.len.result c.args.values.now c.loop-value.value-index c.value-item.result
    (sym c.in-Some.ensures) c.in_ok-extend_from_slice.ensures.items (search rules) c.in_ok-push-2.ensures.items c.loop-value-test.true c.value-item.is c.loop-value.invariant

pub with_offsets-requires : goal.with_offsets-requires
with_offsets-requires c =
    variable_rises (cell_inside string c.args.levels) c.loop-value.bytes.items c.loop-value.offsets.items (items_view (drop c.loop-value.value-index c.args.values.now)) (items_view c.args.values.now) c.loop-value.invariant

pub returns-clause-some : goal.returns-clause-some
returns-clause-some c =
    variable_ends string c.args.levels (payload_of c.with_offsets.result) c.loop-value.bytes.items c.loop-value.offsets.items c.args.values.now c.loop-value.value-index refl c.with_offsets.ensures (omega arith) c.loop-value.invariant
