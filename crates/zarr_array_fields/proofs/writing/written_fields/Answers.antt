use Rattle.std.proofs.Common.{◌∙◌, option_map}
use Rattle.serde_json.specs.View.{members_view}
use Rattle.zarr_codecs_types.specs.Views.{type_of}
use Rattle.zarr_array_fields.proofs.Ascending.{Walk-none, Walk-more, Walk-all}
use Rattle.zarr_array_fields.proofs.writing.written_fields.Goals as goal

pub loop-name-init : goal.loop-name-init
loop-name-init c =
    Walk-none (option_map type_of c.args.form.now.data_type) c.args.form.now.has_names c.args.members.now.entries c.into_iter-name-iterator.result c.new-written.result.entries
    c.iter-name-items.ensures.ordered (c.into_iter-name-iterator.ensures.into_iter_gives ∙ c.iter-name-items.ensures.rest) c.new-written.ensures.empty

pub loop-name-preserved : goal.loop-name-preserved
loop-name-preserved c =
    Walk-more (option_map type_of c.args.form.now.data_type) c.args.form.now.has_names (members_view c.args.members.now.entries) (members_view c.loop-name.written.entries) c.loop-name.name-iterator (c.in-Some.name.now, c.in-Some.value.now) c.next.new.self
    c.as_str.result.now (members_view c.write_field.new.written.entries) c.loop-name.invariant c.in-Some.ensures.steps c.as_str.ensures.value c.in_ok-write_field.ensures

pub returns : goal.returns
returns c = Walk-all (option_map type_of c.args.form.now.data_type) c.args.form.now.has_names (members_view c.args.members.now.entries) (members_view c.loop-name.written.entries) c.loop-name.name-iterator c.loop-name.invariant c.in-None.ensures.steps.0
