-- How many places are asked for.
use Rattle.std.proofs.Common.{◌≡◌, ◌∙◌, ◌<◌, ◌≤◌, ◌^◌, ℕ, List, length, sym, arith, Option, Some, None, true, inl, inr}
use Rattle.std.specs.Option.{IfNone, IfSome, SomeIff}
use Rattle.std.proofs.lemmas.List.{length-map}
use Rattle.std.proofs.lemmas.Bool.{cases_lt}
use Rattle.zarr_grids_boxes.specs.Boxes.{Region, places, product, ravel}
use Rattle.zarr_grids_boxes.proofs.InBox.{length-places}
use Rattle.zarr_codecs_traits.specs.Indexers.{in_box, shape_has, numbers_asked}
use Rattle.zarr_codecs_regions.proofs.InsideArray.{inside_product}

pub count_of_box : (shape : List ℕ) (region : Region) → length region.shape ≡ length region.start → product region.shape ≡ length (numbers_asked shape (in_box region))
count_of_box shape region same = sym (length-map (places region.start region.shape) (λ place. ravel place shape) ∙ length-places region.start region.shape (sym same))

pub box_counted : (shape : List ℕ) (region : Region) (found : Option ℕ) → length region.shape ≡ length region.start → SomeIff found (product region.shape < 2 ^ 63) (product region.shape) → IfSome found (λ count. count ≡ length (numbers_asked shape (in_box region)))
box_counted shape region None same h = tt
box_counted shape region (Some count) same h = h.1 ∙ count_of_box shape region same

pub box_too_large : (shape : List ℕ) (region : Region) (found : Option ℕ) → length region.shape ≡ length region.start → shape_has shape region ≡ true → SomeIff found (product region.shape < 2 ^ 63) (product region.shape) → IfNone found (2 ^ 63 ≤ product shape)
box_too_large shape region None same inside h =
    let few = inside_product shape region same inside in
    elim (cases_lt (product region.shape) (2 ^ 63)) [ inl below ↦ absurd (h below) | inr above ↦ omega (arith, few, above) ]
box_too_large shape region (Some count) same inside h = tt
