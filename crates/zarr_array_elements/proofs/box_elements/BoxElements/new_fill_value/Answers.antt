use Rattle.std.proofs.Common.{◌≡◌, ◌∙◌, ap, replicate, rules}
use Rattle.std.proofs.lemmas.List.{length-replicate}
use Rattle.zarr_grids_boxes.specs.Boxes.{Region, product}
use Rattle.zarr_grids_boxes.specs.Subsets.{region_of}
use Rattle.zarr_codecs_arrays.specs.Views.{elements_of}
use Rattle.zarr_array_elements.proofs.PlacedShown.{cells_are, numbered}
use Rattle.zarr_array_elements.proofs.box_elements.BoxElements.new_fill_value.Goals as goal

pub returns-in_ok-all-in-None : goal.returns-in_ok-all-in-None
returns-in_ok-all-in-None c =
    let elements = elements_of c.args.elements.now in
    let box : Region = region_of c.args.region.now in
    let all = c.in_ok-all-in-None.all in
    let count = c.unwrap-count.result in
    let total : c.unwrap-count.result ≡ product box.shape = search rules in
    record {
      shown = numbered elements (product box.shape) all (replicate count elements.fill) c.in_ok-all-in-None.ensures (length-replicate count elements.fill ∙ total);
      cells = cells_are elements all (replicate count elements.fill) c.in_ok-all-in-None.ensures ∙ ap (λ n. replicate n elements.fill) total;
    }
