-- All places of an array read alone are what its value is decoded to: where it isn't decoded, a place is lost.
use Rattle.std.proofs.Common.{◌≡◌, ◌∙◌, ◌⊎◌, inl, inr, ℕ, zero, suc, ◌+◌, ◌-◌, ◌*◌, ◌/◌, ◌<◌, ◌≤◌, min, List, [], ◌∷◌, length, map, get_or, slice_get, replicate, ap, sym, refl, arith, Option, Some, None, option_and_then, option_map, Bool, true, false, ◌&&◌, if◌then◌else◌}
use Rattle.std.proofs.Math.Nat.{le-div_iff_mul-le, mul-le-mul}
use Rattle.std.proofs.lemmas.Bool.{and_parts, le-ltb, lt-ltb, ltb-false, ltb-true}
use Rattle.std.proofs.lemmas.List.FromFn.{fill_by_all, get_or-range_with_len, length-range_with_len}
use Rattle.std.specs.Prelude.{nat_lt, nat_le}
use Rattle.std.specs.List.{list_all, range_with_len}
use Rattle.zarr_grids_boxes.specs.Boxes.{product, place_at, IsIndex}
use Rattle.zarr_grids_boxes.proofs.Dimensions.{IsIndex-tail}
use Rattle.zarr_codecs_meaning.specs.Chains.{Chain, Location}
use Rattle.zarr_codecs_meaning.specs.Chains.Chain.{bytes, packbits, vlen, optional, after_array_codec, then_bytes, sharded}
use Rattle.zarr_codecs_meaning.specs.Decoding.{all_there, cell_at, cell_of_part, decoded, element_at, index_bytes, is_absent, is_whole, opens, pairs_in, pairs_of_cells, part_decoded, pieces_decoded, slice_at, cell_of_pair}
use Rattle.zarr_codecs_meaning.specs.Encoding.{Pair, absent_pair, index_size}
use Rattle.zarr_codecs_meaning.specs.Fits.{array_codec_fits, can_cut, fits}
use Rattle.zarr_codecs_meaning.specs.Keeping.{arranged}
use Rattle.zarr_codecs_meaning.specs.Places.{Part, box_of, encoded_shape, gather, grid_of, index_shape, part_of, parts_of, place_numbers, position_of, source_places, undone_places}
use Rattle.zarr_codecs_meaning.specs.Types.{Cell, Elements, uint64, zero_filled}
use Rattle.zarr_codecs_meaning.proofs.ArrayCodecs.{array_codec_count}
use Rattle.zarr_codecs_meaning.proofs.Counts.{decoded_count}
use Rattle.zarr_codecs_meaning.proofs.Covers.{array_codec_covers, place_is_index, places_at, ravel_place, zeros}
use Rattle.zarr_codecs_meaning.proofs.Fitting.{fitted}
use Rattle.zarr_codecs_meaning.proofs.Lists.{each_passes, if_some, map_some}
use Rattle.zarr_codecs_meaning.proofs.Once.{array_codec_once, covering_long}
use Rattle.zarr_codecs_meaning.proofs.PartReading.{part_read}
use Rattle.zarr_codecs_meaning.proofs.Parts.{index_product, length-parts, no_part, part_counts}
use Rattle.zarr_codecs_meaning.proofs.PartsOnce.{number_in}
use Rattle.zarr_codecs_meaning.proofs.Positions.{among_at, each_at, position_found, position_read}
use Rattle.zarr_sharding_places.proofs.PartPlaces.{IsPlace, place_below, places_apart}
use Rattle.zarr_array_core.proofs.Selected.{lost_at}

-- one of so many places has no cell
abbrev pub Loses : ℕ → (ℕ → Option Cell) → Type 0
Loses count cell = (n : ℕ) × (n < count) × (cell n ≡ None)

unmapped : {X Y : Type 0} (f : X → Y) (o : Option X) → option_map f o ≡ None → o ≡ None
unmapped f None h = refl
unmapped f (Some x) h = absurd (cc)

-- a place is lost where what it is read of is lost, and else where it is lost there
lost_behind : {X : Type 0} (o : Option X) (decode : X → Option (List Cell)) (cell : X → ℕ → Option Cell) (count : ℕ) → 0 < count → ((x : X) → o ≡ Some x → decode x ≡ None → Loses count (cell x)) → option_and_then decode o ≡ None
    → Loses count (λ n. option_and_then (λ x. cell x n) o)
lost_behind None decode cell count some law h = (0, some, refl)
lost_behind (Some x) decode cell count some law h = law x refl h

pub range_at : (count n : ℕ) → n < count → get_or (range_with_len 0 count) n 0 ≡ n
range_at count n below = get_or-range_with_len 0 count n 0 below ∙ omega arith

element_lost : (b : Bool) (read : ℕ → Option Cell) (count : ℕ) (all : Option (List Cell)) → all ≡ all_there (map read (range_with_len 0 count)) → 0 < count → ◌≡◌ {A = Option (List Cell)} (elim b [ true ↦ all | false ↦ None ]) None → Loses count (λ n. if b then read n else None)
element_lost true read count all are some h =
    let lost = lost_at read (range_with_len 0 count) (sym are ∙ h) in
    let low = lost.1 in
    let below : lost.0 < count = omega (arith, low, length-range_with_len 0 count) in
    (lost.0, below, ap read (sym (range_at count lost.0 below)) ∙ lost.2)
element_lost false read count all are some h = (0, some, refl)

-- ---- the subchunks of a shard

in_pairs : (cells : List Cell) (n : ℕ) → length cells ≡ 2 * n → length (pairs_of_cells cells) ≡ n
in_pairs [] n is = omega (arith, is)
in_pairs (first ∷ []) n is = absurd (omega (arith, is))
in_pairs (first ∷ second ∷ cells) n is = let rest = in_pairs cells (n - 1) (omega (arith, is)) in omega (arith, rest, is)

pairs_many : (index : Chain) (location : Location) (shape subchunk value : List ℕ) (ps : List Pair) → pairs_in (decoded index (zero_filled uint64) (index_shape shape subchunk)) location (index_size index (index_shape shape subchunk)) value ≡ Some ps
    → length ps ≡ length (parts_of shape subchunk)
pairs_many index location shape subchunk value ps is =
    let pairs_shape = index_shape shape subchunk in
    let size = index_size index pairs_shape in
    let read = decoded index (zero_filled uint64) pairs_shape in
    let there = if_some (nat_le size (length value)) (option_map pairs_of_cells (read (index_bytes location size value))) ps is in
    let cells = map_some pairs_of_cells (read (index_bytes location size value)) ps there.1 in
    ap (λ (l : List Pair). length l) (sym cells.2)
    ∙ in_pairs cells.0 (length (parts_of shape subchunk)) (decoded_count index (zero_filled uint64) pairs_shape (index_bytes location size value) cells.0 cells.1 ∙ index_product shape subchunk)

-- a subchunk begins before the end
some_along : (n p i : ℕ) → 0 < p → i < (n + (p - 1)) / p → 1 ≤ min p (n - i * p)
some_along n p i some low =
    let turn : suc i * p ≡ i * p + p = grind arith in
    let most : suc i * p ≤ n + (p - 1) = (le-div_iff_mul-le {k = p} {x = suc i} {y = n + (p - 1)} some).0 low in
    omega (arith, most, turn, some)

some_places : (shape subchunk index : List ℕ) → can_cut shape subchunk ≡ true → IsIndex index (grid_of shape subchunk) → 1 ≤ product (box_of shape subchunk index).shape
some_places [] [] index cuts is = omega arith
some_places [] (p ∷ ps) index cuts is = cc
some_places (n ∷ ns) [] index cuts is = cc
some_places (n ∷ ns) (p ∷ ps) [] cuts is = let l = is.same in absurd (omega arith)
some_places (n ∷ ns) (p ∷ ps) (i ∷ is) cuts h =
    let both = and_parts (nat_lt 0 p) (can_cut ns ps) cuts in
    let low : i < (n + (p - 1)) / p = h.below 0 (omega arith) in
    mul-le-mul (some_along n p i (ltb-true 0 p both.0) low) (some_places ns ps is both.1 (IsIndex-tail i ((n + (p - 1)) / p) is (grid_of ns ps) h))

-- each has a place
part_some : (shape subchunk : List ℕ) (k : ℕ) → can_cut shape subchunk ≡ true → k < length (parts_of shape subchunk) → 0 < product (get_or (parts_of shape subchunk) k no_part).shape
part_some shape subchunk k cuts below =
    let many = length-parts shape subchunk in
    let grid = grid_of shape subchunk in
    let index = place_at (zeros grid) grid k in
    let low : k < product grid = omega (arith, below, many) in
    let found = places_at (λ index. part_of shape (box_of shape subchunk index)) grid index no_part (place_is_index grid k low) in
    let here : get_or (parts_of shape subchunk) k no_part ≡ part_of shape (box_of shape subchunk index) = ap (λ n. get_or (parts_of shape subchunk) n no_part) (sym (ravel_place grid k low)) ∙ found.1 in
    let size = ap (λ (part : Part). product part.shape) here in
    let one = some_places shape subchunk index cuts (place_is_index grid k low) in
    omega (arith, one, size)

-- what is decoded of the subchunk with a number
abbrev piece_of : (List ℕ → List ℕ → Option (List Cell)) → Cell → List ℕ → Part → Pair → Option (List Cell)
piece_of decode fill value part pair = if is_absent pair then Some (replicate (product part.shape) fill) else option_and_then (decode part.shape) (slice_at value pair)

first_or_later : (o : Option (List Cell)) (rest : Option (List (List Cell))) → option_and_then (λ cells. option_map (λ others. cells ∷ others) rest) o ≡ None → (o ≡ None) ⊎ (rest ≡ None)
first_or_later None rest h = inl refl
first_or_later (Some cells) None h = inr refl
first_or_later (Some cells) (Some others) h = absurd (cc)

-- where not all subchunks are decoded, one isn't
piece_lost : (decode : List ℕ → List ℕ → Option (List Cell)) (fill : Cell) (value : List ℕ) (parts : List Part) (ps : List Pair) → length ps ≡ length parts → pieces_decoded decode fill value parts ps ≡ None
    → (k : ℕ) × (k < length parts) × (piece_of decode fill value (get_or parts k no_part) (get_or ps k absent_pair) ≡ None)
piece_lost decode fill value [] ps same h = absurd (cc)
piece_lost decode fill value (part ∷ parts) [] same h = absurd (omega (arith, same))
piece_lost decode fill value (part ∷ parts) (p ∷ ps) same h = elim (first_or_later (piece_of decode fill value part p) (pieces_decoded decode fill value parts ps) h) [
  | inl lost ↦ (0, omega arith, lost)
  | inr lost ↦ let rest = piece_lost decode fill value parts ps (omega (arith, same)) lost in let low = rest.1 in (suc rest.0, omega (arith, low), rest.2)
]

-- where a subchunk isn't decoded, one of its places is lost
inside_lost : (absent : Bool) (decode : List ℕ → Option (List Cell)) (cell : List ℕ → ℕ → Option Cell) (fill : Cell) (all : List Cell) (count : ℕ) (slice : Option (List ℕ)) → 0 < count → ((s : List ℕ) → decode s ≡ None → Loses count (cell s))
    → (if absent then Some all else option_and_then decode slice) ≡ None → Loses count (λ i. if absent then Some fill else option_and_then (λ s. cell s i) slice)
inside_lost true decode cell fill all count slice some law h = absurd (cc)
inside_lost false decode cell fill all count slice some law h = lost_behind slice decode cell count some (λ s is lost. law s lost) h

-- ---- the cell at a place of a shard

-- a place is found first in this part, where it stands so far
record IsFirst (parts : List Part) (n k i : ℕ) : Type 0 where
  pub part : k < length parts
  pub here : position_of n (get_or parts k no_part).places ≡ i
  pub inside : i < length (get_or parts k no_part).places
  pub before : (j : ℕ) → j < k → length (get_or parts j no_part).places ≤ position_of n (get_or parts j no_part).places

-- the cell at a place of a part, by its pair
abbrev pair_cell : (List ℕ → List ℕ → ℕ → Option Cell) → Cell → List ℕ → List ℕ → Pair → ℕ → Option Cell
pair_cell read fill value shape pair i = if is_absent pair then Some fill else option_and_then (λ slice. read shape slice i) (slice_at value pair)

met_cell : (read : List ℕ → List ℕ → ℕ → Option Cell) (fill : Cell) (value : List ℕ) (n : ℕ) (parts : List Part) (pairs : List Pair) (k i : ℕ) → length pairs ≡ length parts → IsFirst parts n k i
    → cell_of_part (cell_of_pair read fill value) n parts pairs ≡ pair_cell read fill value (get_or parts k no_part).shape (get_or pairs k absent_pair) i
met_cell read fill value n [] pairs k i same is = let p = is.part in absurd (omega arith)
met_cell read fill value n (part ∷ parts) [] k i same is = absurd (omega (arith, same))
met_cell read fill value n (part ∷ parts) (pair ∷ pairs) zero i same is =
    let q = position_of n part.places in
    let here = is.here in
    let within = is.inside in
    let low : nat_lt q (length part.places) ≡ true = lt-ltb q (length part.places) (omega (arith, here, within)) in
    ap (λ (b : Bool). elim b [ true ↦ pair_cell read fill value part.shape pair q | false ↦ cell_of_part (cell_of_pair read fill value) n parts pairs ]) low ∙ ap (pair_cell read fill value part.shape pair) is.here
met_cell read fill value n (part ∷ parts) (pair ∷ pairs) (suc k) i same is =
    let q = position_of n part.places in
    let below = is.part in
    let past : nat_lt q (length part.places) ≡ false = le-ltb q (length part.places) (is.before 0 (omega arith)) in
    ap (λ (b : Bool). elim b [ true ↦ pair_cell read fill value part.shape pair q | false ↦ cell_of_part (cell_of_pair read fill value) n parts pairs ]) past
    ∙ met_cell read fill value n parts pairs k i (omega (arith, same)) (record { part = omega (arith, below); here = is.here; inside = is.inside; before = λ j low. is.before (suc j) (omega (arith, low)) })

at_most : (b : Bool) (m c : ℕ) → nat_lt m c ≡ b → (m < c → ⊥) → c ≤ m
at_most true m c e never = absurd (never (ltb-true m c e))
at_most false m c e never = ltb-false m c e

first_here : (shape subchunk : List ℕ) (n k i : ℕ) → can_cut shape subchunk ≡ true → IsPlace (parts_of shape subchunk) k i → number_in (parts_of shape subchunk) k i ≡ n → IsFirst (parts_of shape subchunk) n k i
first_here shape subchunk n k i cuts is here =
    let parts = parts_of shape subchunk in
    let places = (get_or parts k no_part).places in
    let found = position_found n places (among_at places i n is.place here) in
    let one = places_apart shape subchunk k (position_of n places) k i cuts (record { part = is.part; place = found }) is (position_read n 0 places found ∙ sym here) in
    record {
      part = is.part;
      here = one.1;
      inside = is.place;
      before = λ j low.
          let others = (get_or parts j no_part).places in
          let below = is.part in
          at_most (nat_lt (position_of n others) (length others)) (position_of n others) (length others) refl (λ other.
          let same = places_apart shape subchunk j (position_of n others) k i cuts (record { part = omega (arith, low, below); place = other }) is (position_read n 0 others other ∙ sym here) in
          let k_is_j = same.0 in omega (arith, low, k_is_j));
    }

shard_lost : (inner : Chain) (elements : Elements) (shape subchunk value : List ℕ) (ps : List Pair) → can_cut shape subchunk ≡ true → length ps ≡ length (parts_of shape subchunk)
    → ((k : ℕ) → k < length (parts_of shape subchunk) → (slice : List ℕ) → decoded inner elements (get_or (parts_of shape subchunk) k no_part).shape slice ≡ None
    → Loses (product (get_or (parts_of shape subchunk) k no_part).shape) (cell_at inner elements (get_or (parts_of shape subchunk) k no_part).shape slice))
    → pieces_decoded (decoded inner elements) elements.fill value (parts_of shape subchunk) ps ≡ None → Loses (product shape) (λ n. cell_of_part (cell_of_pair (cell_at inner elements) elements.fill value) n (parts_of shape subchunk) ps)
shard_lost inner elements shape subchunk value ps cuts many law h =
    let parts = parts_of shape subchunk in
    let fill = elements.fill in
    let piece = piece_lost (decoded inner elements) fill value parts ps many h in
    let k = piece.0 in
    let pair = get_or ps k absent_pair in
    let edges = (get_or parts k no_part).shape in
    let count : length (get_or parts k no_part).places ≡ product edges = each_at (λ (part : Part). length part.places ≡ product part.shape) parts k no_part (part_counts shape subchunk cuts) piece.1 in
    let found = inside_lost (is_absent pair) (decoded inner elements edges) (cell_at inner elements edges) fill (replicate (product edges) fill) (product edges) (slice_at value pair) (part_some shape subchunk k cuts piece.1) (law k piece.1) piece.2 in
    let i = found.0 in
    let low = found.1 in
    let place : IsPlace parts k i = record { part = piece.1; place = omega (arith, low, count) } in
    let n = number_in parts k i in
    (n, place_below shape subchunk k i cuts place, met_cell (cell_at inner elements) fill value n parts ps k i many (first_here shape subchunk n k i cuts place refl) ∙ found.2)

-- ---- chains

-- where an array with places isn't decoded, one of them is lost
undecoded_loses : (chain : Chain) (elements : Elements) (shape value : List ℕ) → fits chain elements.type shape ≡ true → 0 < product shape → decoded chain elements shape value ≡ None → Loses (product shape) (cell_at chain elements shape value)
undecoded_loses (bytes order) elements shape value fit some h = let read = element_at order elements.type value in element_lost (is_whole elements.type shape value) read (product shape) (all_there (map read (place_numbers shape))) refl some h
undecoded_loses (packbits padding first last) elements shape value fit some h = (0, some, ap (option_and_then (λ (cells : List Cell). slice_get cells 0)) h)
undecoded_loses (vlen index «data» width location) elements shape value fit some h = (0, some, ap (option_and_then (λ (cells : List Cell). slice_get cells 0)) h)
undecoded_loses (optional mask values) elements shape value fit some h = (0, some, ap (option_and_then (λ (cells : List Cell). slice_get cells 0)) h)
undecoded_loses (after_array_codec codec chain) elements shape value fit some h =
    let both = and_parts (array_codec_fits codec shape) (fits chain elements.type (encoded_shape codec shape)) fit in
    let ns = source_places codec shape in
    let once = array_codec_once codec shape both.0 in
    let many = array_codec_count codec shape both.0 in
    let long = covering_long (product shape) ns (array_codec_covers codec shape both.0) in
    let inside = unmapped (λ (found : List Cell). gather elements.fill found (undone_places codec shape)) (decoded chain elements (encoded_shape codec shape) value) h in
    let lost = undecoded_loses chain elements (encoded_shape codec shape) value both.1 (omega (arith, some, many, long)) inside in
    let low = lost.1 in
    let below : lost.0 < length ns = omega (arith, low, many) in
    (get_or ns lost.0 0, once.below lost.0 below, ap (cell_at chain elements (encoded_shape codec shape) value) (once.position lost.0 below) ∙ lost.2)
undecoded_loses (then_bytes chain codec) elements shape value fit some h =
    lost_behind (codec.decode value) (decoded chain elements shape) (cell_at chain elements shape) (product shape) some (λ inside is lost. undecoded_loses chain elements shape inside fit some lost) h
undecoded_loses (sharded subchunk inner index location) elements shape value fit some h =
    let pairs_shape = index_shape shape subchunk in
    let parts = parts_of shape subchunk in
    let fill = elements.fill in
    let arrange = λ (pieces : List (List Cell)). map (arranged fill parts pieces) (place_numbers shape) in
    let pieces = λ (ps : List Pair). pieces_decoded (decoded inner elements) fill value parts ps in
    let f = fitted subchunk inner index location elements shape fit in
    let fits_each = each_passes (λ (part : Part). fits inner elements.type part.shape) parts f.each in
    lost_behind (pairs_in (decoded index (zero_filled uint64) pairs_shape) location (index_size index pairs_shape) value) (λ ps. option_map arrange (pieces ps)) (λ ps n. cell_of_part (cell_of_pair (cell_at inner elements) fill value) n parts ps) (product shape) some
    (λ ps is lost.
    shard_lost inner elements shape subchunk value ps f.cuts (pairs_many index location shape subchunk value ps is)
    (λ k below slice gone.
    undecoded_loses inner elements (get_or parts k no_part).shape slice (each_at (λ (part : Part). fits inner elements.type part.shape ≡ true) parts k no_part fits_each below) (part_some shape subchunk k f.cuts below) gone) (unmapped arrange (pieces ps) lost)) h

-- ---- all places

all_low : (a n bound : ℕ) → a + n ≤ bound → list_all (λ m. nat_lt m bound) (range_with_len a n) ≡ true
all_low a zero bound h = refl
all_low a (suc n) bound h = ap (λ (b : Bool). b && list_all (λ m. nat_lt m bound) (range_with_len (a + 1) n)) (lt-ltb a bound (omega (arith, h))) ∙ all_low (a + 1) n bound (omega (arith, h))

none_mapped : {X Y : Type 0} (o : Option X) (f : X → Y) → o ≡ None → option_map f o ≡ None
none_mapped None f h = refl
none_mapped (Some x) f h = cc

none_behind : {X : Type 0} (o : Option X) (rest : Option (List X)) → rest ≡ None → option_and_then (λ x. option_map (λ xs. x ∷ xs) rest) o ≡ None
none_behind None rest h = refl
none_behind (Some x) rest h = none_mapped rest (λ xs. x ∷ xs) h

-- where one isn't there, they are not all there
one_lost : {X : Type 0} (f : ℕ → Option X) (ns : List ℕ) (i : ℕ) → i < length ns → f (get_or ns i 0) ≡ None → all_there (map f ns) ≡ None
one_lost f [] i below lost = absurd (omega arith)
one_lost f (n ∷ ns) zero below lost = ap (option_and_then (λ x. option_map (λ xs. x ∷ xs) (all_there (map f ns)))) lost
one_lost f (n ∷ ns) (suc i) below lost = none_behind (f n) (all_there (map f ns)) (one_lost f ns i (omega (arith, below)) lost)

none_if : {X : Type 0} (b : Bool) (o : Option X) → o ≡ None → (if b then o else None) ≡ None
none_if true o h = h
none_if false o h = refl

-- all places of an array that has some, read alone
pub whole_part : (chain : Chain) (elements : Elements) (shape value : List ℕ) → fits chain elements.type shape ≡ true → 0 < product shape → part_decoded chain elements shape value (place_numbers shape) ≡ decoded chain elements shape value
whole_part chain elements shape value fit some = told (decoded chain elements shape value) refl where
  told : (found : Option (List Cell)) → decoded chain elements shape value ≡ found → part_decoded chain elements shape value (place_numbers shape) ≡ found
  told None is =
      let lost = undecoded_loses chain elements shape value fit some is in
      let below = lost.1 in
      none_if (opens chain elements shape value) (all_there (map (cell_at chain elements shape value) (place_numbers shape)))
      (one_lost (cell_at chain elements shape value) (place_numbers shape) lost.0 (omega (arith, below, length-range_with_len 0 (product shape))) (ap (cell_at chain elements shape value) (range_at (product shape) lost.0 below) ∙ lost.2))
  told (Some cells) is =
      part_read chain elements shape value cells (place_numbers shape) fit is (all_low 0 (product shape) (product shape) (omega arith))
      ∙ ap Some (sym (fill_by_all (λ n. get_or cells n elements.fill) cells (product shape) elements.fill (decoded_count chain elements shape value cells is) (λ n low. refl)))
