use Rattle.std.proofs.Common.{◌≤◌, ◌∙◌, length, map, ap, arith}
use Rattle.std.proofs.lemmas.List.{take_all}
use Rattle.serde_json.specs.View.{items_of}
use Rattle.zarr_grids_metadata.specs.ExtensionPoints.{written_point}
use Rattle.zarr_grids_metadata.specs.Views.{point_of}
use Rattle.zarr_sharding_configurations.proofs.lists.values_of.Goals as goal

pub returns : goal.returns
returns c =
    let all : length c.args.metadatas.now ≤ c.loop-metadata.metadata-index = omega arith in
    ap items_of (c.loop-metadata.invariant ∙ ap (λ ms. map written_point (map point_of ms)) (take_all c.loop-metadata.metadata-index c.args.metadatas.now all))
