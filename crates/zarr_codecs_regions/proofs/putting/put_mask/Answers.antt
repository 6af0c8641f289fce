use Rattle.std.proofs.Common.{◌≡◌, ℕ, List}
use Rattle.std.proofs.lemmas.Result.{IfOk-weaker}
use Rattle.zarr_grids_boxes.specs.Subsets.{region_of}
use Rattle.zarr_codecs_meaning.specs.Payloads.{fixed_cells}
use Rattle.zarr_codecs_traits.specs.Indexers.{numbers_of}
use Rattle.zarr_codecs_regions.specs.Updates.{put}
use Rattle.zarr_codecs_regions.proofs.MaskNumbers.{mask_put}
use Rattle.zarr_codecs_regions.proofs.putting.put_mask.Goals as goal

pub returns-in-Some-Some : goal.returns-in-Some-Some
returns-in-Some-Some c =
    let mask : List ℕ = c.args.mask.items in
    let marks : List ℕ = c.args.marks.now in
    let numbers = numbers_of c.args.shape.now (region_of c.args.region.now) in
    IfOk-weaker c.put_box.result (λ made. fixed_cells 1 made.items ≡ put numbers (fixed_cells 1 marks) (fixed_cells 1 mask)) (λ made. made.items ≡ put numbers marks mask)
    (λ made e. mask_put mask marks made.items numbers e) c.put_box.ensures.elements
