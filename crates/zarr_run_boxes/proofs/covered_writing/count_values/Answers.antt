use Rattle.std.proofs.Common.{ℕ, ◌<◌, ◌^◌, List, refl, subst}
use Rattle.zarr_grids_boxes.specs.Boxes.{product}
use Rattle.zarr_grids_boxes.specs.Subsets.{region_of}
use Rattle.zarr_array_core.specs.Views.{document_of}
use Rattle.zarr_run_boxes.proofs.Writes.{none_so_many}
use Rattle.zarr_run_boxes.proofs.covered_writing.count_values.Goals as goal

pub returns-in_default-count_places-clause-err : goal.returns-in_default-count_places-clause-err
returns-in_default-count_places-clause-err g c =
    let document = document_of g.C.ArrayToBytesCodecTraits.meaning c.args.array.now in (
      refl,
      λ values are. none_so_many document (region_of c.args.region.now) c.args.elements.now values
          (subst (λ (shape : List ℕ). product shape < 2 ^ 63 → ⊥) c.deref.ensures.value c.in_default-count_places.ensures) are,
    )
