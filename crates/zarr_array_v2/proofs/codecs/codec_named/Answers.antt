use Rattle.std.proofs.Common.{◌≡◌, ◌≢◌, IfOk, length, subst, sym, ap}
use Rattle.std.proofs.lemmas.Bool.{both_ways}
use Rattle.serde_json.specs.Data.{Data}
use Rattle.serde_json.specs.View.{view}
use Rattle.zarr_grids_metadata.specs.ExtensionPoints.{written_point}
use Rattle.zarr_array_v2.proofs.Listed.{named_with}
use Rattle.zarr_array_v2.proofs.codecs.codec_named.Goals as goal

pub returns : goal.returns
returns c =
    let entries = c.args.configuration.entries in
    let some : length entries ≢ 0 = λ e. both_ways c.is_empty.result c.if-is_empty.false (c.is_empty.ensures.1 e) in
    subst (λ (d : Data). IfOk c.configured.result (λ written. view written ≡ d)) (ap written_point (sym (named_with c.args.id.now entries some))) c.configured.ensures
