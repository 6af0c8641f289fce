use Rattle.std.proofs.Common.{option_map, unwrap_or, sym, ap, ◌∙◌}
use Rattle.std.proofs.lemmas.Result.{MatchResult-weaker}
use Rattle.serde_json.specs.Data.{no_members}
use Rattle.serde_json.specs.View.{members_view}
use Rattle.zarr_grids_metadata.proofs.Clones.{members_view-clone}
use Rattle.zarr_array_fields.proofs.writing.given_attributes.Goals as goal

pub returns-in-Some : goal.returns-in-Some
returns-in-Some c =
    let given = ap (λ o. unwrap_or o no_members) (ap (option_map (λ m. members_view m.now.entries)) (sym c.in-Some.is) ∙ c.attributes_of.ensures) in
    MatchResult-weaker c.clone.result c.clone.ensures.cases (λ x h. members_view-clone c.in-Some.attributes.now.entries x.entries h ∙ given) (λ y h. tt)
