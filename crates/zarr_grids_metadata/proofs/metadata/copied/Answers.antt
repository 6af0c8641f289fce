use Rattle.std.proofs.Common.{option_map, Option, Some, Bor, BTreeMap, String, Global, sym, ap, ◌∙◌}
use Rattle.serde_json.specs.View.{members_view}
use Rattle.serde_json.specs.declared.value.Value.{Value}
use Rattle.zarr_grids_metadata.proofs.Clones.{members_view-clone}
use Rattle.zarr_grids_metadata.proofs.metadata.copied.Goals as goal

pub returns-in_ok-clone-in-Some : goal.returns-in_ok-clone-in-Some
returns-in_ok-clone-in-Some c =
    let same = members_view-clone c.in-Some.members.now.entries c.in_ok-clone-in-Some.field-0.entries c.in_ok-clone-in-Some.ensures.cases in
    ap (λ ms. Some ms) same ∙ ap (λ (o : Option (Bor (BTreeMap (String Global) Value))). option_map (λ m. members_view m.now.entries) o) (sym c.in-Some.is)
