use Rattle.std.proofs.Common.{option_map, Option, Bor, BTreeMap, String, Global, codes, sym, ap, ◌∙◌}
use Rattle.std.proofs.lemmas.Result.{on_ok_weaker}
use Rattle.serde_json.specs.Data.{put, object}
use Rattle.serde_json.specs.View.{members_view}
use Rattle.serde_json.specs.declared.value.Value.{Value}
use Rattle.serde_json.proofs.Views.{view-Object}
use Rattle.zarr_grids_metadata.specs.ExtensionPoints.{put_configuration}
use Rattle.zarr_grids_metadata.proofs.Clones.{members_view-clone}
use Rattle.zarr_grids_metadata.proofs.extension_point.put_configuration.Goals as goal

pub returns-in_ok-clone-in-Some : goal.returns-in_ok-clone-in-Some
returns-in_ok-clone-in-Some c =
    let old = members_view c.args.members.now.entries in
    let map = c.in_ok-clone-in-Some.field-0 in
    let same = view-Object map ∙ ap object (members_view-clone c.in-Some.configuration.now.entries map.entries c.in_ok-clone-in-Some.ensures.cases) in
    let given = λ (o : Option (Bor (BTreeMap (String Global) Value))). put_configuration (option_map (λ m. members_view m.now.entries) o) old in
    on_ok_weaker c.put.result (λ e. e ∙ ap (λ d. put (codes "configuration") d old) same ∙ ap given (sym c.in-Some.is)) c.put.ensures.ok
