use Rattle.std.proofs.Common.{[], ◌∷◌, ◌++◌, map, codes, sym, ap, ◌∙◌}
use Rattle.serde_json.specs.Data.{array}
use Rattle.std.proofs.lemmas.List.{map-append}
use Rattle.serde_json.specs.View.{view}
use Rattle.serde_json.proofs.Views.{view-Array}
use Rattle.zarr_array_v2.specs.Codecs.{point, falling, dimensions_of, order_codecs}
use Rattle.zarr_array_v2.proofs.codecs.push_order.Goals as goal

pub returns-in_ok-push-in-F : goal.returns-in_ok-push-in-F
returns-in_ok-push-in-F c =
    let old = c.args.codecs.now.items in
    let order = view-Array c.in_ok-dimensions-in-F.dimensions ∙ ap array (c.in_ok-dimensions-in-F.ensures ∙ ap falling c.dimensions_of.ensures) in
    let made = c.in_ok-transpose-in-F.ensures ∙ ap (point (codes "transpose") (codes "order")) order in
    ap (map view) c.in_ok-push-in-F.ensures.items ∙ map-append view old (c.in_ok-transpose-in-F.transpose ∷ []) ∙ ap (λ d. map view old ++ d ∷ []) made
    ∙ ap (λ o. map view old ++ order_codecs o (dimensions_of (view c.args.shape.now))) (sym c.in-F.is)
