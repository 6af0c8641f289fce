-- The subchunk that a box begins in, by its number.
use Rattle.std.proofs.Common.{◌≡◌, ◌∙◌, ℕ, ◌-◌, ◌*◌, ◌/◌, ◌%◌, ◌+◌, ◌<◌, List, [], ◌∷◌, length, map, ap, sym, refl, subst, arith, true}
use Rattle.std.specs.Prelude.{nat_lt}
use Rattle.std.proofs.lemmas.Bool.{and_parts, ltb-true}
use Rattle.zarr_grids_boxes.specs.Boxes.{Region, place_at, places, product, ravel, each2, is_in_box, IsIndex}
use Rattle.zarr_grids_boxes.proofs.Dimensions.{ravel_below}
use Rattle.zarr_grids_boxes.proofs.InBox.{place_at-number}
use Rattle.zarr_grids_boxes.proofs.Places.{in_box_below}
use Rattle.zarr_grids_boxes.proofs.Walking.{start_in_box}
use Rattle.zarr_codecs_meaning.specs.Fits.{can_cut}
use Rattle.zarr_codecs_meaning.specs.Places.{Part, box_of, grid_of}
use Rattle.zarr_codecs_meaning.proofs.Covers.{place_ravel, zeros}
use Rattle.zarr_codecs_meaning.proofs.Parts.{block, inside, length-parts}
use Rattle.zarr_codecs_regions.proofs.InsideArray.{inside_rank}
use Rattle.zarr_codecs_traits.specs.Indexers.{shape_has, numbers_of}
use Rattle.zarr_sharding_places.specs.Locating.{part_shape, subchunk_box}
use Rattle.zarr_sharding_codec.specs.PartWriting.{AreSubchunk}
use Rattle.zarr_sharding_codec.proofs.BoxInSubchunk.{IsAround, inside_index}
use Rattle.zarr_sharding_codec.proofs.NumberedParts.{part_number}
use Rattle.zarr_sharding_codec.proofs.LocatedParts.{box_has, lies_in}
use Rattle.zarr_sharding_codec.proofs.MetBox.{cut_as}

-- the remainders are the place as it is seen from where its subchunk begins
pub remainders_are : (xs es : List ℕ) → can_cut xs es ≡ true → inside xs es ≡ each2 (λ s o. s - o) xs (each2 (λ i edge. i * edge) (block xs es) es)
remainders_are [] [] cuts = refl
remainders_are [] (e ∷ es) cuts = refl
remainders_are (x ∷ xs) [] cuts = cc
remainders_are (x ∷ xs) (e ∷ es) cuts =
    let positive = and_parts (nat_lt 0 e) (can_cut xs es) cuts in
    let some = ltb-true 0 e positive.0 in
    let split : e * (x / e) + x % e ≡ x = omega (arith, some) in
    let turn : x / e * e ≡ e * (x / e) = grind arith in
    let first : x % e ≡ x - x / e * e = omega (arith, split, turn) in
    ap (λ k. k ∷ inside xs es) first ∙ ap (λ ks. (x - x / e * e) ∷ ks) (remainders_are xs es positive.1)

-- a box with places lies in an array, and begins in the subchunk with this number
pub record BeginsIn (shape subchunk : List ℕ) (region : Region) (n : ℕ) : Type 0 where
  pub cuts : can_cut shape subchunk ≡ true
  pub inside : shape_has shape region ≡ true
  pub same : length region.shape ≡ length region.start
  pub some : 0 < product region.shape
  pub number : n ≡ ravel (block region.start subchunk) (grid_of shape subchunk)

module _ (shape subchunk : List ℕ) (region : Region) (n : ℕ) (is : BeginsIn shape subchunk region n) where
  -- the box of that subchunk, by the index of it
  abbrev around : Region
  around = box_of shape subchunk (block region.start subchunk)

  -- its first place is an index of the array
  first_index : IsIndex region.start shape
  first_index =
      let here = start_in_box region.start region.shape is.same is.some in
      let low = ravel_below (each2 (λ p s. p - s) region.start region.start) region.shape (in_box_below region.start region.shape region.start here) in
      subst (λ (p : List ℕ). IsIndex p shape) (place_at-number region.start region.shape region.start here)
      (inside_index shape region (ravel (each2 (λ p s. p - s) region.start region.start) region.shape) is.same is.inside low)

  start_cut : can_cut region.start subchunk ≡ true
  start_cut = cut_as subchunk shape region.start is.cuts (inside_rank shape region is.inside)

  in_grid : IsIndex (block region.start subchunk) (grid_of shape subchunk)
  in_grid = (lies_in shape subchunk region.start is.cuts first_index).grid

  pub number_low : n < product (grid_of shape subchunk)
  number_low = subst (λ k. k < product (grid_of shape subchunk)) (sym is.number) (ravel_below (block region.start subchunk) (grid_of shape subchunk) in_grid)

  box_is : subchunk_box shape subchunk n ≡ around
  box_is =
      let grid = grid_of shape subchunk in
      ap (box_of shape subchunk) (ap (place_at (zeros grid) grid) is.number ∙ place_ravel grid (block region.start subchunk) in_grid)

  pub extents_are : part_shape shape subchunk n ≡ around.shape
  extents_are = ap (λ (box : Region). box.shape) box_is

  -- a box that begins at the remainders is that box as it is seen from the subchunk
  pub around_is : (moved : Region) → moved.start ≡ inside region.start subchunk → moved.shape ≡ region.shape → length moved.shape ≡ length moved.start → shape_has around.shape moved ≡ true → IsAround shape subchunk region moved n
  around_is moved start shape_is long within = record {
    cuts = is.cuts;
    below = number_low;
    begins = ap (λ (box : Region). is_in_box box.start box.shape region.start) box_is ∙ box_has shape subchunk region.start is.cuts first_index;
    same = is.same;
    start = start ∙ (remainders_are region.start subchunk start_cut ∙ ap (λ (box : Region). each2 (λ s o. s - o) region.start box.start) (sym box_is));
    shape_is = shape_is;
    long = long;
    inside = ap (λ (box : Region). shape_has box.shape moved) box_is ∙ within;
  }

  -- one that has all numbers of that subchunk is it
  pub whole_is : region.start ≡ around.start → region.shape ≡ around.shape → AreSubchunk shape subchunk (numbers_of shape region) n
  whole_is start_is shape_is =
      let low = number_low in
      let many = length-parts shape subchunk in
      let are : numbers_of shape region ≡ numbers_of shape around = ap (λ s. map (λ place. ravel place shape) (places s region.shape)) start_is ∙ ap (λ e. map (λ place. ravel place shape) (places around.start e)) shape_is in
      record {
        below = omega (arith, low, many);
        is = λ d. ap (λ (p : Part). p.places) (part_number shape subchunk n d low) ∙ (ap (numbers_of shape) box_is ∙ sym are);
      }
