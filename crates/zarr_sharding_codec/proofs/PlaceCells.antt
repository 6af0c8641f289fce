-- The cell that a shard has at a place is that of the place's subchunk.
use Rattle.std.proofs.Common.{◌≡◌, ◌∙◌, ℕ, zero, suc, ◌<◌, ◌≤◌, List, [], ◌∷◌, length, get_or, ap, sym, refl, arith, Bool, true, false, Option, Some, option_and_then, if◌then◌else◌}
use Rattle.std.proofs.lemmas.Bool.{le-ltb, lt-ltb, ltb-false, ltb-true}
use Rattle.std.specs.Prelude.{nat_lt}
use Rattle.zarr_grids_boxes.specs.Boxes.{product}
use Rattle.zarr_codecs_meaning.specs.Chains.{Chain}
use Rattle.zarr_codecs_meaning.specs.Decoding.{cell_at, cell_of_part, is_absent, slice_at, cell_of_pair}
use Rattle.zarr_codecs_meaning.specs.Encoding.{Pair, absent_pair}
use Rattle.zarr_codecs_meaning.specs.Fits.{can_cut}
use Rattle.zarr_codecs_meaning.specs.Places.{Part, parts_of, position_of}
use Rattle.zarr_codecs_meaning.specs.Types.{Cell, Elements}
use Rattle.zarr_codecs_meaning.proofs.Parts.{no_part}
use Rattle.zarr_codecs_meaning.proofs.PartsOnce.{number_in}
use Rattle.zarr_codecs_meaning.proofs.Positions.{among_at, position_found, position_read}
use Rattle.zarr_sharding_places.proofs.PartPlaces.{IsPlace, places_apart}
use Rattle.zarr_sharding_places.specs.Locating.{inside_of, part_shape, subchunk_of}
use Rattle.zarr_sharding_codec.specs.Reading.{place_decoded, shard_cell, subchunks_of}
use Rattle.zarr_sharding_codec.proofs.NumberedParts.{part_count, part_is}
use Rattle.zarr_sharding_codec.proofs.LocatedParts.{located_place}
use Rattle.zarr_codecs_traits.specs.Arrays.{coded}

-- a place is found first in this part, where it stands so far
record IsFirst (parts : List Part) (n k i : ℕ) : Type 0 where
  pub part : k < length parts
  pub here : position_of n (get_or parts k no_part).places ≡ i
  pub inside : i < length (get_or parts k no_part).places
  pub before : (j : ℕ) → j < k → length (get_or parts j no_part).places ≤ position_of n (get_or parts j no_part).places

-- the cell at a place of a part, by its pair
abbrev pair_cell : (List ℕ → List ℕ → ℕ → Option Cell) → Cell → List ℕ → List ℕ → Pair → ℕ → Option Cell
pair_cell read fill value shape pair i = if is_absent pair then Some fill else option_and_then (λ slice. read shape slice i) (slice_at value pair)

met_cell : (read : List ℕ → List ℕ → ℕ → Option Cell) (fill : Cell) (value : List ℕ) (n : ℕ) (parts : List Part) (pairs : List Pair) (k i : ℕ) → length pairs ≡ length parts → IsFirst parts n k i
    → cell_of_part (cell_of_pair read fill value) n parts pairs ≡ pair_cell read fill value (get_or parts k no_part).shape (get_or pairs k absent_pair) i
met_cell read fill value n [] pairs k i same is = let p = is.part in absurd (omega arith)
met_cell read fill value n (part ∷ parts) [] k i same is = absurd (omega (arith, same))
met_cell read fill value n (part ∷ parts) (pair ∷ pairs) zero i same is =
    let q = position_of n part.places in
    let here = is.here in
    let within = is.inside in
    let low : nat_lt q (length part.places) ≡ true = lt-ltb q (length part.places) (omega (arith, here, within)) in
    ap (λ (b : Bool). elim b [ true ↦ pair_cell read fill value part.shape pair q | false ↦ cell_of_part (cell_of_pair read fill value) n parts pairs ]) low ∙ ap (pair_cell read fill value part.shape pair) is.here
met_cell read fill value n (part ∷ parts) (pair ∷ pairs) (suc k) i same is =
    let q = position_of n part.places in
    let below = is.part in
    let past : nat_lt q (length part.places) ≡ false = le-ltb q (length part.places) (is.before 0 (omega arith)) in
    ap (λ (b : Bool). elim b [ true ↦ pair_cell read fill value part.shape pair q | false ↦ cell_of_part (cell_of_pair read fill value) n parts pairs ]) past
    ∙ met_cell read fill value n parts pairs k i (omega (arith, same)) (record { part = omega (arith, below); here = is.here; inside = is.inside; before = λ j low. is.before (suc j) (omega (arith, low)) })

at_most : (b : Bool) (m c : ℕ) → nat_lt m c ≡ b → (m < c → ⊥) → c ≤ m
at_most true m c e never = absurd (never (ltb-true m c e))
at_most false m c e never = ltb-false m c e

first_here : (shape subchunk : List ℕ) (n k i : ℕ) → can_cut shape subchunk ≡ true → IsPlace (parts_of shape subchunk) k i → number_in (parts_of shape subchunk) k i ≡ n → IsFirst (parts_of shape subchunk) n k i
first_here shape subchunk n k i cuts is here =
    let parts = parts_of shape subchunk in
    let places = (get_or parts k no_part).places in
    let found = position_found n places (among_at places i n is.place here) in
    let one = places_apart shape subchunk k (position_of n places) k i cuts (record { part = is.part; place = found }) is (position_read n 0 places found ∙ sym here) in
    record {
      part = is.part;
      here = one.1;
      inside = is.place;
      before = λ j low.
          let others = (get_or parts j no_part).places in
          let below = is.part in
          at_most (nat_lt (position_of n others) (length others)) (position_of n others) (length others) refl (λ other.
          let same = places_apart shape subchunk j (position_of n others) k i cuts (record { part = omega (arith, low, below); place = other }) is (position_read n 0 others other ∙ sym here) in
          let k_is_j = same.0 in omega (arith, low, k_is_j));
    }

pub shard_place : (inner : Chain) (elements : Elements) (shape subchunk value : List ℕ) (pairs : List Pair) (n : ℕ) → can_cut shape subchunk ≡ true → length pairs ≡ length (parts_of shape subchunk) → n < product shape
    → shard_cell (subchunks_of inner elements shape subchunk) value pairs n
    ≡ place_decoded (coded inner elements (part_shape shape subchunk (subchunk_of shape subchunk n))) value (get_or pairs (subchunk_of shape subchunk n) absent_pair) (inside_of shape subchunk n)
shard_place inner elements shape subchunk value pairs n cuts same below =
    let k = subchunk_of shape subchunk n in
    let i = inside_of shape subchunk n in
    let located = located_place shape subchunk n cuts below in
    let is = first_here shape subchunk n k i cuts (record { part = located.part; place = located.place }) located.here in
    met_cell (cell_at inner elements) elements.fill value n (parts_of shape subchunk) pairs k i same is
    ∙ ap (λ (s : List ℕ). place_decoded (coded inner elements s) value (get_or pairs k absent_pair) i) (part_is shape subchunk k no_part located.part)

-- a place is one of its subchunk's
pub inside_below : (shape subchunk : List ℕ) (n : ℕ) → can_cut shape subchunk ≡ true → n < product shape → inside_of shape subchunk n < product (part_shape shape subchunk (subchunk_of shape subchunk n))
inside_below shape subchunk n cuts below =
    let k = subchunk_of shape subchunk n in
    let located = located_place shape subchunk n cuts below in
    let low = located.place in
    let count = part_count shape subchunk k no_part cuts located.part in
    omega (arith, low, count)
