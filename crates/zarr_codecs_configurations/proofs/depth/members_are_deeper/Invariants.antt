use Rattle.std.proofs.Common.{◌≡◌, nat_lt}
use Rattle.serde_json.specs.Data.{members_depth}
use Rattle.serde_json.specs.View.{members_view}
use Rattle.zarr_codecs_configurations.proofs.depth.members_are_deeper.Given as goal

-- the members that are left answer as all do
abbrev pub invariant-loop-member : goal.invariant-loop-member
invariant-loop-member l = nat_lt l.levels (members_depth (members_view l.members.entries)) ≡ nat_lt l.levels (members_depth (members_view l.member-iterator))
