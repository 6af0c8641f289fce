use Rattle.std.proofs.Common.{option_map}
use Rattle.serde_json.specs.View.{members_view}
use Rattle.zarr_codecs_types.specs.Views.{type_of}
use Rattle.zarr_array_fields.proofs.Ascending.{Walk}
use Rattle.zarr_array_fields.proofs.writing.written_fields.Given as goal

-- the fields that were passed are written, and the others come after them
abbrev pub invariant-loop-name : goal.invariant-loop-name
invariant-loop-name l = Walk (option_map type_of l.form.data_type) l.form.has_names (members_view l.members.entries) (members_view l.written.entries) (members_view l.name-iterator)
