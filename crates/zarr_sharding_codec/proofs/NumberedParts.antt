-- The subchunks of a shape, by their numbers.
use Rattle.std.proofs.Common.{◌≡◌, ◌∙◌, ℕ, suc, ◌+◌, ◌-◌, ◌*◌, ◌/◌, ◌<◌, ◌≤◌, min, List, [], ◌∷◌, length, get_or, replicate, ap, sym, arith, refl, Bool, true, ◌&&◌}
use Rattle.std.specs.Prelude.{nat_lt}
use Rattle.std.proofs.lemmas.Bool.{and_parts, lt-ltb, ltb-true}
use Rattle.std.proofs.lemmas.List.{length-map}
use Rattle.std.proofs.Math.Nat.{le-div_iff_mul-le, mul-le-mul}
use Rattle.zarr_grids_boxes.specs.Boxes.{Region, product, place_at, places, ravel, IsIndex}
use Rattle.zarr_grids_boxes.proofs.Dimensions.{IsIndex-tail}
use Rattle.zarr_grids_boxes.proofs.InBox.{length-places}
use Rattle.zarr_grids_boxes.proofs.Places.{length-place_at}
use Rattle.zarr_codecs_meaning.specs.Chains.{Chain, Location, sharded}
use Rattle.zarr_codecs_meaning.specs.Fits.{can_cut, fits}
use Rattle.zarr_codecs_meaning.specs.Places.{Part, grid_of, box_of, part_of, parts_of}
use Rattle.zarr_codecs_meaning.specs.Types.{Elements}
use Rattle.zarr_codecs_meaning.proofs.Covers.{zeros, length-zeros, place_is_index, places_at, ravel_place}
use Rattle.zarr_codecs_meaning.proofs.Fitting.{fitted}
use Rattle.zarr_codecs_meaning.proofs.Lists.{Each, each_passes}
use Rattle.zarr_codecs_meaning.proofs.Parts.{box_lengths, length-parts, no_part, same_length}
use Rattle.zarr_codecs_meaning.proofs.Positions.{each_at}
use Rattle.zarr_codecs_traits.specs.Indexers.{numbers_of}
use Rattle.zarr_sharding_places.specs.Locating.{part_shape, subchunk_box}

pub each_from : {X : Type 0} (P : X → Type 0) (xs : List X) (d : X) → ((k : ℕ) → k < length xs → P (get_or xs k d)) → Each P xs
each_from P [] d h = tt
each_from P (x ∷ xs) d h = (h 0 (omega arith), each_from P xs d (λ k below. h (suc k) (omega arith)))

-- ---- the subchunk with a number

abbrev pub part_at : List ℕ → List ℕ → ℕ → Part
part_at shape subchunk n = part_of shape (box_of shape subchunk (place_at (zeros (grid_of shape subchunk)) (grid_of shape subchunk) n))

pub part_number : (shape subchunk : List ℕ) (n : ℕ) (d : Part) → n < product (grid_of shape subchunk) → get_or (parts_of shape subchunk) n d ≡ part_at shape subchunk n
part_number shape subchunk n d h =
    let grid = grid_of shape subchunk in
    let found = places_at (λ index. part_of shape (box_of shape subchunk index)) grid (place_at (zeros grid) grid n) d (place_is_index grid n h) in
    ap (λ k. get_or (parts_of shape subchunk) k d) (sym (ravel_place grid n h)) ∙ found.1

-- its shape
pub part_is : (shape subchunk : List ℕ) (k : ℕ) (d : Part) → k < length (parts_of shape subchunk) → (get_or (parts_of shape subchunk) k d).shape ≡ part_shape shape subchunk k
part_is shape subchunk k d below = let many = length-parts shape subchunk in ap (λ (part : Part). part.shape) (part_number shape subchunk k d (omega (arith, below, many)))

-- how many places it has
pub part_count : (shape subchunk : List ℕ) (k : ℕ) (d : Part) → can_cut shape subchunk ≡ true → k < length (parts_of shape subchunk) → length (get_or (parts_of shape subchunk) k d).places ≡ product (part_shape shape subchunk k)
part_count shape subchunk k d cuts below =
    let many = length-parts shape subchunk in
    let grid = grid_of shape subchunk in
    let index = place_at (zeros grid) grid k in
    let box = box_of shape subchunk index in
    ap (λ (part : Part). length part.places) (part_number shape subchunk k d (omega (arith, below, many)))
    ∙ (length-map (places box.start box.shape) (λ place. ravel place shape) ∙ length-places box.start box.shape (box_lengths shape subchunk index (same_length shape subchunk cuts)))

-- the numbers of the places of its box
pub region_numbers : (shape subchunk : List ℕ) (region : Region) (n : ℕ) → region ≡ subchunk_box shape subchunk n → numbers_of shape region ≡ (part_at shape subchunk n).places
region_numbers shape subchunk region n is = ap (numbers_of shape) is

pub cuts_when : (shape subchunk : List ℕ) → length shape ≡ length subchunk → 0 < product subchunk → can_cut shape subchunk ≡ true
cuts_when [] [] same positive = refl
cuts_when [] (p ∷ ps) same positive = absurd (omega arith)
cuts_when (n ∷ ns) [] same positive = absurd (omega arith)
cuts_when (n ∷ ns) (p ∷ ps) same positive =
    let one : 0 < p = grind (arith, positive) in
    let rest : 0 < product ps = grind (arith, positive) in
    ap (λ (b : Bool). b && can_cut ns ps) (lt-ltb 0 p one) ∙ cuts_when ns ps (omega (arith, same)) rest

-- as many zeros as there are dimensions
pub zeros_are : (shape : List ℕ) → replicate (length shape) 0 ≡ zeros shape
zeros_are [] = refl
zeros_are (n ∷ ns) = ap (λ ks. 0 ∷ ks) (zeros_are ns)

-- ---- how large subchunks are

pub grid_long : (shape subchunk : List ℕ) → length shape ≡ length subchunk → length (grid_of shape subchunk) ≡ length shape
grid_long [] [] same = refl
grid_long [] (p ∷ ps) same = absurd (omega arith)
grid_long (n ∷ ns) [] same = absurd (omega arith)
grid_long (n ∷ ns) (p ∷ ps) same = ap suc (grid_long ns ps (omega (arith, same)))

-- the index of a subchunk has a number for each dimension
index_long : (shape subchunk : List ℕ) (k : ℕ) → can_cut shape subchunk ≡ true → length (place_at (zeros (grid_of shape subchunk)) (grid_of shape subchunk) k) ≡ length shape
index_long shape subchunk k cuts =
    let grid = grid_of shape subchunk in
    length-place_at (zeros grid) grid k (length-zeros grid) ∙ (length-zeros grid ∙ grid_long shape subchunk (same_length shape subchunk cuts))

-- the box of a subchunk has no more places than the shape
fewer_places : (shape subchunk index : List ℕ) → can_cut shape subchunk ≡ true → length index ≡ length shape → product (box_of shape subchunk index).shape ≤ product shape
fewer_places [] [] index cuts l = omega arith
fewer_places [] (p ∷ ps) index cuts l = cc
fewer_places (n ∷ ns) [] index cuts l = cc
fewer_places (n ∷ ns) (p ∷ ps) [] cuts l = absurd (omega (arith, l))
fewer_places (n ∷ ns) (p ∷ ps) (i ∷ is) cuts l =
    let both = and_parts (nat_lt 0 p) (can_cut ns ps) cuts in
    let first : min p (n - i * p) ≤ n = omega arith in
    mul-le-mul first (fewer_places ns ps is both.1 (omega (arith, l)))

pub part_fewer : (shape subchunk : List ℕ) (n : ℕ) → can_cut shape subchunk ≡ true → product (part_shape shape subchunk n) ≤ product shape
part_fewer shape subchunk n cuts = let grid = grid_of shape subchunk in fewer_places shape subchunk (place_at (zeros grid) grid n) cuts (index_long shape subchunk n cuts)

-- a subchunk begins before the end
some_along : (n p i : ℕ) → 0 < p → i < (n + (p - 1)) / p → 1 ≤ min p (n - i * p)
some_along n p i some low =
    let turn : suc i * p ≡ i * p + p = grind arith in
    let most : suc i * p ≤ n + (p - 1) = (le-div_iff_mul-le {k = p} {x = suc i} {y = n + (p - 1)} some).0 low in
    omega (arith, most, turn, some)

-- the box of a subchunk has a place
some_places : (shape subchunk index : List ℕ) → can_cut shape subchunk ≡ true → IsIndex index (grid_of shape subchunk) → 1 ≤ product (box_of shape subchunk index).shape
some_places [] [] index cuts is = omega arith
some_places [] (p ∷ ps) index cuts is = cc
some_places (n ∷ ns) [] index cuts is = cc
some_places (n ∷ ns) (p ∷ ps) [] cuts is = let l = is.same in absurd (omega arith)
some_places (n ∷ ns) (p ∷ ps) (i ∷ is) cuts h =
    let both = and_parts (nat_lt 0 p) (can_cut ns ps) cuts in
    let low : i < (n + (p - 1)) / p = h.below 0 (omega arith) in
    mul-le-mul (some_along n p i (ltb-true 0 p both.0) low) (some_places ns ps is both.1 (IsIndex-tail i ((n + (p - 1)) / p) is (grid_of ns ps) h))

pub part_some : (shape subchunk : List ℕ) (k : ℕ) → can_cut shape subchunk ≡ true → k < length (parts_of shape subchunk) → 0 < product (part_shape shape subchunk k)
part_some shape subchunk k cuts below =
    let many = length-parts shape subchunk in
    let grid = grid_of shape subchunk in
    let one = some_places shape subchunk (place_at (zeros grid) grid k) cuts (place_is_index grid k (omega (arith, below, many))) in
    omega (arith, one)

-- ---- what fits

-- the inner chain of a shard fits each of its subchunks
pub part_fits : (subchunk : List ℕ) (inner index : Chain) (location : Location) (elements : Elements) (shape : List ℕ) (k : ℕ) → fits (sharded subchunk inner index location) elements.type shape ≡ true → k < length (parts_of shape subchunk)
    → fits inner elements.type (part_shape shape subchunk k) ≡ true
part_fits subchunk inner index location elements shape k fit below =
    let f = fitted subchunk inner index location elements shape fit in
    ap (fits inner elements.type) (sym (part_is shape subchunk k no_part below))
    ∙ each_at (λ (part : Part). fits inner elements.type part.shape ≡ true) (parts_of shape subchunk) k no_part (each_passes (λ (part : Part). fits inner elements.type part.shape) (parts_of shape subchunk) f.each) below
