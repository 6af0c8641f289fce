use Rattle.std.proofs.Common.{Some, option_map, ap, ◌∙◌}
use Rattle.serde_json.specs.Find.{get_member}
use Rattle.serde_json.specs.View.{view, members_view}
use Rattle.serde_json.proofs.Views.{view-lookup}
use Rattle.zarr_run_commands.proofs.Taken.{get_member-set_value}
use Rattle.zarr_run_commands.proofs.members.take.Goals as goal

pub returns-in-Some-clause-value : goal.returns-in-Some-clause-value
returns-in-Some-clause-value c = ap (λ v. Some (view v)) c.take.ensures.taken ∙ ap (option_map view) c.in-Some.ensures.value ∙ view-lookup c.args.name.now c.args.members.now.entries

pub returns-in-Some-clause-others : goal.returns-in-Some-clause-others
returns-in-Some-clause-others c = λ other differ.
    ap (λ es. get_member other (members_view es)) (c.get_mut.follows.holds c.take.new.self).0
    ∙ get_member-set_value c.args.name.now other c.args.members.now.entries c.take.new.self differ

pub returns-in-None-clause-value : goal.returns-in-None-clause-value
returns-in-None-clause-value c = ap (option_map view) c.in-None.ensures.value ∙ view-lookup c.args.name.now c.args.members.now.entries

pub returns-in-None-clause-others : goal.returns-in-None-clause-others
returns-in-None-clause-others c = λ other differ. ap (λ m. get_member other (members_view m.entries)) c.get_mut.follows.holds-at-none
