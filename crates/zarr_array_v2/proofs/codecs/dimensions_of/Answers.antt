use Rattle.std.proofs.Common.{sym, ap, ◌∙◌}
use Rattle.serde_json.specs.View.{view}
use Rattle.serde_json.proofs.Views.{view-Array, items_len-items_view}
use Rattle.zarr_array_v2.specs.Codecs.{dimensions_of}
use Rattle.zarr_array_v2.proofs.codecs.dimensions_of.Goals as goal

pub returns-in-Array : goal.returns-in-Array
returns-in-Array c =
    let sizes = c.in-Array.sizes in
    c.len.ensures ∙ sizes.ok.0 ∙ sym (ap (λ v. dimensions_of (view v)) c.in-Array.is ∙ ap dimensions_of (view-Array sizes) ∙ items_len-items_view sizes.items)
