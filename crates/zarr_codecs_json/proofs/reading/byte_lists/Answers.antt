use Rattle.std.proofs.Common.{◌∙◌, ap, sym, refl, arith, rules, drop, option_map}
use Rattle.serde_json.specs.View.{items_view}
use Rattle.zarr_codecs_meaning.specs.Types.{variable_bytes, of_bytes}
use Rattle.zarr_codecs_arrays.specs.Views.{payload_of}
use Rattle.zarr_codecs_json.specs.Inside.{cell_inside}
use Rattle.zarr_codecs_json.proofs.ReadLists.{variable_read, variable_rises, variable_ends, bytes_appended}
use Rattle.zarr_codecs_json.proofs.reading.byte_lists.Goals as goal

pub loop-value-preserved : goal.loop-value-preserved
loop-value-preserved c =
    let more = bytes_appended (items_view c.in-Some.list.now) c.loop-value.bytes.items c.push_bytes.new.bytes.items c.in_ok-push_bytes.field-0 c.in_ok-push_bytes.ensures c.if-not-branch.false in
    variable_read (cell_inside variable_bytes c.args.levels) c.loop-value.bytes.items c.push_bytes.new.bytes.items more.0 c.loop-value.offsets.items c.push-in-loop-value.new.self.items c.len.result c.args.values.now c.loop-value.value-index c.value-item.result
    (sym c.in-Some.ensures ∙ ap (option_map of_bytes) more.1) more.2 (search rules) c.in_ok-push-2.ensures.items c.loop-value-test.true c.value-item.is c.loop-value.invariant

pub with_offsets-requires : goal.with_offsets-requires
with_offsets-requires c =
    variable_rises (cell_inside variable_bytes c.args.levels) c.loop-value.bytes.items c.loop-value.offsets.items (items_view (drop c.loop-value.value-index c.args.values.now)) (items_view c.args.values.now) c.loop-value.invariant

pub returns-clause-some : goal.returns-clause-some
returns-clause-some c =
    variable_ends variable_bytes c.args.levels (payload_of c.with_offsets.result) c.loop-value.bytes.items c.loop-value.offsets.items c.args.values.now c.loop-value.value-index refl c.with_offsets.ensures (omega arith) c.loop-value.invariant
