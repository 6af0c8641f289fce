use Rattle.std.proofs.Common.{◌≡◌, ap, sym, ◌∙◌, subst, true, Some, IfOk, nat_lt}
use Rattle.std.specs.List.{list_all}
use Rattle.zarr_grids_boxes.specs.Boxes.{product}
use Rattle.zarr_grids_boxes.specs.Subsets.{region_of}
use Rattle.zarr_codecs_arrays.specs.Views.{elements_of, payload_of}
use Rattle.zarr_codecs_meaning.specs.Payloads.{cells_in}
use Rattle.zarr_codecs_meaning.specs.Places.{gather}
use Rattle.zarr_codecs_traits.specs.Indexers.{numbers_of}
use Rattle.zarr_sharding_codec.proofs.subchunks.gather_box.Goals as goal

pub returns : goal.returns
returns c = λ cells counted.
    let elements = elements_of c.args.array.elements.now in
    let shape = c.args.array.shape.now in
    let numbers : c.as_slice.result.now ≡ numbers_of shape (region_of c.args.region.now) = c.as_slice.ensures.value ∙ c.in_ok-numbers.ensures.numbers in
    let within : list_all (λ n. nat_lt n (product shape)) c.as_slice.result.now ≡ true = ap (list_all (λ n. nat_lt n (product shape))) c.as_slice.ensures.value ∙ c.in_ok-numbers.ensures.within in
    let below = subst (λ k. list_all (λ n. nat_lt n k) c.as_slice.result.now ≡ true) (sym counted.many) within in
    subst (λ ns. IfOk c.gather_elements.result (λ piece. cells_in elements.type (payload_of piece) ≡ Some (gather elements.fill cells ns))) numbers (c.gather_elements.ensures cells counted.lists below)
