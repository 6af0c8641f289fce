use Rattle.std.proofs.Common.{◌≡◌, ◌∙◌, ap, sym, subst, length, Some}
use Rattle.zarr_grids_boxes.specs.Subsets.{region_of}
use Rattle.zarr_codecs_arrays.specs.Views.{elements_of, payload_of}
use Rattle.zarr_codecs_arrays.specs.declared.array_bytes.ArrayBytes.{ArrayBytes}
use Rattle.zarr_codecs_meaning.specs.Payloads.{cells_in, fixed}
use Rattle.zarr_codecs_regions.specs.Updates.{put}
use Rattle.zarr_codecs_traits.specs.Indexers.{numbers_of}
use Rattle.zarr_sharding_places.specs.Boxed.{ShowsBoxes}
use Rattle.zarr_sharding_places.specs.Placed.{Shows}
use Rattle.zarr_sharding_places.specs.declared.boxed.BoxedElements.{BoxedElements}
use Rattle.zarr_sharding_places.proofs.BoxPuts.{length-numbers}
use Rattle.zarr_sharding_places.proofs.boxed.BoxedElements.put.Goals as goal

pub returns-in-Fixed-given : goal.returns-in-Fixed-given
returns-in-Fixed-given c = λ before others shown lists many.
    let elements = elements_of c.args.array.elements.now in
    let new : cells_in elements.type (fixed c.as_slice.result.now) ≡ Some others =
    ap (λ bs. cells_in elements.type (fixed bs)) c.as_slice.ensures.value ∙ (sym (ap (λ (b : ArrayBytes). cells_in elements.type (payload_of b)) c.in-Fixed-given.is) ∙ lists) in
    c.put_bytes.ensures before others (subst (λ (s : BoxedElements). ShowsBoxes elements s before) c.in-Fixed.is shown) new

pub returns-in_ok-made-in-Placed : goal.returns-in_ok-made-in-Placed
returns-in_ok-made-in-Placed c = λ before others shown lists many.
    let elements = elements_of c.args.array.elements.now in
    let shape = c.args.array.shape.now in
    let region = region_of c.args.region.now in
    let old : Shows elements c.in-Placed.all before = subst (λ (s : BoxedElements). ShowsBoxes elements s before) c.in-Placed.is shown in
    let at : c.as_slice-in-Placed.result.now ≡ numbers_of shape region = c.as_slice-in-Placed.ensures.value ∙ c.in_ok-at-in-Placed.ensures.numbers in
    let count = ap length at ∙ length-numbers shape region (sym c.args.region.now.same) in
    subst (λ ns. Shows elements c.in_ok-made-in-Placed.made (put ns others before)) at (c.in_ok-made-in-Placed.ensures before others old lists (many ∙ sym count))
