use Rattle.std.proofs.Common.{map, sym, ap, ◌∙◌, arith}
use Rattle.std.proofs.lemmas.List.{take_all}
use Rattle.serde_json.specs.View.{view, items_of}
use Rattle.zarr_grids_metadata.specs.ExtensionPoints.{written_point_in}
use Rattle.zarr_array_fields.proofs.Lists.{points_written}
use Rattle.zarr_array_fields.proofs.writing.written_points.Goals as goal

pub returns : goal.returns
returns c =
    let points = c.args.points.now in
    ap items_of (c.loop-point.invariant ∙ ap (map (λ v. written_point_in (view v))) (take_all c.loop-point.point-index points (omega arith))) ∙ sym (points_written points)
