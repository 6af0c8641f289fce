use Rattle.std.proofs.Common.{◌≡◌}
use Rattle.serde_json.specs.View.{members_view}
use Rattle.zarr_array_meaning.specs.Documents.{additional_in, must_understand_any}
use Rattle.zarr_array_fields.proofs.fields.must_understand_any.Given as goal

-- the fields that are left answer as all do
abbrev pub invariant-loop-name : goal.invariant-loop-name
invariant-loop-name l = must_understand_any (additional_in (members_view l.members.entries)) ≡ must_understand_any (additional_in (members_view l.name-iterator))
