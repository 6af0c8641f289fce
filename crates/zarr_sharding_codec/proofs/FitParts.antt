-- Which arrays a shard suits, and why it suits no other.
use Rattle.std.proofs.Common.{◌≡◌, ◌∙◌, ℕ, zero, suc, ◌/◌, ◌%◌, ◌<◌, ◌≤◌, List, [], ◌∷◌, ◌++◌, length, map, replicate, ap, sym, refl, arith, Option, Some, None, is_some, not, Bool, true, false, ◌&&◌, append-nil}
use Rattle.std.specs.List.{flat_map, list_all}
use Rattle.std.proofs.lemmas.List.Folds.{list_all-append, list_all-map}
use Rattle.zarr_codecs_meaning.specs.Chains.{Chain, Location, sharded}
use Rattle.zarr_codecs_meaning.specs.Fits.{can_cut, fits}
use Rattle.zarr_codecs_meaning.specs.Places.{Part, index_shape, parts_of}
use Rattle.zarr_codecs_meaning.specs.Types.{DataType, inner_type}
use Rattle.zarr_codecs_meaning.proofs.Parts.{same_length}
use Rattle.zarr_grids_boxes.specs.Boxes.{product}
use Rattle.zarr_sharding_index.specs.Stored.{SizesIndex, index_fits}
use Rattle.zarr_sharding_codec.specs.Fitting.{Suits, behind, fits_shapes, parts_fit, shapes_behind}
use Rattle.zarr_sharding_codec.proofs.PartShapes.{behind_are, behind_short, behind_step, left_over, lengths_along, more_lengths, no_shapes, shapes_of, shapes_with, some_whole}

and_true : (b : Bool) → (b && true) ≡ b
and_true true = refl
and_true false = refl

and_self : (b : Bool) → (b && b) ≡ b
and_self true = refl
and_self false = refl

-- ---- the shapes of subchunks

all_flat : (test : List ℕ → Bool) (h : ℕ → List (List ℕ)) (ms : List ℕ) → list_all test (flat_map h ms) ≡ list_all (λ m. list_all test (h m)) ms
all_flat test h [] = refl
all_flat test h (m ∷ ms) = list_all-append test (h m) (flat_map h ms) ∙ ap (λ (b : Bool). list_all test (h m) && b) (all_flat test h ms)

all_alike : (g : ℕ → Bool) (k m : ℕ) → 0 < k → list_all g (replicate k m) ≡ g m
all_alike g zero m some = absurd (omega (arith, some))
all_alike g (suc zero) m some = and_true (g m)
all_alike g (suc (suc k)) m some = ap (λ (b : Bool). g m && b) (all_alike g (suc k) m (omega arith)) ∙ and_self (g m)

-- in no dimension more
pub fits_none : (inner : Chain) (type : DataType) (front : List ℕ) → fits_shapes inner type (behind front [] []) ≡ fits inner type front
fits_none inner type front = ap (λ (s : List ℕ). fits inner type s && true) (append-nil front) ∙ and_true (fits inner type front)

-- in one that is shorter than the edge
pub fits_short : (inner : Chain) (type : DataType) (front : List ℕ) (n p : ℕ) (ns ps : List ℕ) → 0 < n → n < p → fits_shapes inner type (behind front (n ∷ ns) (p ∷ ps)) ≡ fits_shapes inner type (behind (front ++ n ∷ []) ns ps)
fits_short inner type front n p ns ps some less = ap (list_all (λ shape. fits inner type shape)) (behind_short front n p ns ps some less)

-- in one that has a whole subchunk
fits_split : (inner : Chain) (type : DataType) (front : List ℕ) (n p : ℕ) (ns ps : List ℕ) → 0 < p → p ≤ n
    → fits_shapes inner type (behind front (n ∷ ns) (p ∷ ps)) ≡ (fits_shapes inner type (behind (front ++ p ∷ []) ns ps) && list_all (λ m. fits_shapes inner type (behind (front ++ m ∷ []) ns ps)) (left_over (n % p)))
fits_split inner type front n p ns ps some whole =
    let test = λ (shape : List ℕ). fits inner type shape in
    let at_length = λ (m : ℕ). list_all test (shapes_with front ns ps m) in
    ap (list_all test) (behind_step front n p ns ps some)
    ∙ (all_flat test (shapes_with front ns ps) (lengths_along n p)
    ∙ (list_all-append at_length (replicate (n / p) p) (left_over (n % p))
    ∙ ap (λ (b : Bool). b && list_all at_length (left_over (n % p))) (all_alike at_length (n / p) p (some_whole n p some whole))))

pub fits_not : (inner : Chain) (type : DataType) (front : List ℕ) (n p : ℕ) (ns ps : List ℕ) → 0 < p → p ≤ n → fits_shapes inner type (behind (front ++ p ∷ []) ns ps) ≡ false → fits_shapes inner type (behind front (n ∷ ns) (p ∷ ps)) ≡ false
fits_not inner type front n p ns ps some whole first =
    fits_split inner type front n p ns ps some whole ∙ ap (λ (b : Bool). b && list_all (λ m. fits_shapes inner type (behind (front ++ m ∷ []) ns ps)) (left_over (n % p))) first

pub fits_even : (inner : Chain) (type : DataType) (front : List ℕ) (n p : ℕ) (ns ps : List ℕ) → 0 < p → p ≤ n → fits_shapes inner type (behind (front ++ p ∷ []) ns ps) ≡ true → n % p ≡ 0 → fits_shapes inner type (behind front (n ∷ ns) (p ∷ ps)) ≡ true
fits_even inner type front n p ns ps some whole first even =
    let at_length = λ (m : ℕ). fits_shapes inner type (behind (front ++ m ∷ []) ns ps) in
    fits_split inner type front n p ns ps some whole ∙ (ap (λ (b : Bool). b && list_all at_length (left_over (n % p))) first ∙ ap (λ r. list_all at_length (left_over r)) even)

pub fits_more : (inner : Chain) (type : DataType) (front : List ℕ) (n p : ℕ) (ns ps : List ℕ) → 0 < p → p ≤ n → fits_shapes inner type (behind (front ++ p ∷ []) ns ps) ≡ true → 0 < n % p
    → fits_shapes inner type (behind front (n ∷ ns) (p ∷ ps)) ≡ fits_shapes inner type (behind (front ++ n % p ∷ []) ns ps)
fits_more inner type front n p ns ps some whole first rest =
    let at_length = λ (m : ℕ). fits_shapes inner type (behind (front ++ m ∷ []) ns ps) in
    fits_split inner type front n p ns ps some whole ∙ (ap (λ (b : Bool). b && list_all at_length (left_over (n % p))) first ∙ (left (n % p) rest ∙ and_true (at_length (n % p)))) where
      left : (r : ℕ) → 0 < r → list_all (λ m. fits_shapes inner type (behind (front ++ m ∷ []) ns ps)) (left_over r) ≡ (fits_shapes inner type (behind (front ++ r ∷ []) ns ps) && true)
      left zero positive = absurd (omega (arith, positive))
      left (suc r) positive = refl

-- of all dimensions
pub fits_all : (inner : Chain) (type : DataType) (shape subchunk : List ℕ) → fits_shapes inner type (behind [] shape subchunk) ≡ parts_fit inner type shape subchunk
fits_all inner type shape subchunk = list_all-map (λ (s : List ℕ). fits inner type s) (λ (part : Part). [] ++ part.shape) (parts_of shape subchunk)

-- an array without places has no subchunk
pub fits_nothing : (inner : Chain) (type : DataType) (shape subchunk : List ℕ) → can_cut shape subchunk ≡ true → product shape ≡ 0 → parts_fit inner type shape subchunk ≡ true
fits_nothing inner type shape subchunk cuts none =
    sym (list_all-map (λ (s : List ℕ). fits inner type s) (λ (part : Part). part.shape) (parts_of shape subchunk)) ∙ ap (list_all (λ (s : List ℕ). fits inner type s)) (no_shapes shape subchunk cuts none)

-- ---- what fits

-- whether a type isn't optional
abbrev pub is_plain_type : DataType → Bool
is_plain_type type = not (is_some (inner_type type))

all_fit : (b c e f : Bool) → b ≡ true → c ≡ true → e ≡ true → (b && (c && (e && f))) ≡ f
all_fit true true true f two three five = refl
all_fit false c e f two three five = cc
all_fit true false e f two three five = cc
all_fit true true false f two three five = cc

-- an array that is cut into subchunks that the inner chain fits
pub record IsCutFit (subchunk : List ℕ) (inner : Chain) (type : DataType) (shape : List ℕ) : Type 0 where
  pub cuts : can_cut shape subchunk ≡ true
  pub plain : is_plain_type type ≡ true
  pub parts : parts_fit inner type shape subchunk ≡ true

pub suits_when : (subchunk : List ℕ) (inner index : Chain) (location : Location) (type : DataType) (shape : List ℕ) (size : ℕ) → IsCutFit subchunk inner type shape → SizesIndex index (index_shape shape subchunk) (Some size)
    → Suits (sharded subchunk inner index location) type shape (Some size)
suits_when subchunk inner index location type shape size is sized =
    (all_fit (is_plain_type type) (can_cut shape subchunk) (parts_fit inner type shape subchunk) (index_fits index (index_shape shape subchunk)) is.plain is.cuts is.parts ∙ sized.0, sized.1)

last_true : (b c e f : Bool) → (b && (c && (e && f))) ≡ true → f ≡ true
last_true true true true f h = h
last_true true true false f h = cc
last_true true false e f h = cc
last_true false c e f h = cc

-- the index of a shard that fits can be written
pub index_fit : (subchunk : List ℕ) (inner index : Chain) (location : Location) (type : DataType) (shape : List ℕ) → fits (sharded subchunk inner index location) type shape ≡ true → index_fits index (index_shape shape subchunk) ≡ true
index_fit subchunk inner index location type shape fit = last_true (is_plain_type type) (can_cut shape subchunk) (parts_fit inner type shape subchunk) (index_fits index (index_shape shape subchunk)) fit

-- ---- what doesn't fit

cut_false : (b c e f : Bool) → c ≡ false → (b && (c && (e && f))) ≡ false
cut_false true true e f h = cc
cut_false true false e f h = refl
cut_false false c e f h = refl

unequal : (t : Bool) (shape subchunk : List ℕ) → can_cut shape subchunk ≡ t → (length shape ≡ length subchunk → ⊥) → can_cut shape subchunk ≡ false
unequal true shape subchunk cuts differ = absurd (differ (same_length shape subchunk cuts))
unequal false shape subchunk cuts differ = cuts

pub no_dimensions : (subchunk : List ℕ) (inner index : Chain) (location : Location) (type : DataType) (shape : List ℕ) → (length shape ≡ length subchunk → ⊥) → fits (sharded subchunk inner index location) type shape ≡ false
no_dimensions subchunk inner index location type shape differ =
    cut_false (is_plain_type type) (can_cut shape subchunk) (parts_fit inner type shape subchunk) (index_fits index (index_shape shape subchunk)) (unequal (can_cut shape subchunk) shape subchunk refl differ)
