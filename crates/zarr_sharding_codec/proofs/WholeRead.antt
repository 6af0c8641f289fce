-- All places of an array read alone are what its value is decoded to.
use Rattle.std.proofs.Common.{◌≡◌, ◌∙◌, ◌⊎◌, inl, inr, ℕ, zero, suc, ◌+◌, ◌-◌, ◌*◌, ◌<◌, ◌≤◌, List, [], ◌∷◌, length, map, get_or, slice_get, replicate, ap, sym, refl, arith, Option, Some, None, option_and_then, option_map, Bool, true, false, ◌&&◌, if◌then◌else◌, Result, Ok, Err}
use Rattle.std.proofs.lemmas.Bool.{and_parts, lt-ltb}
use Rattle.std.proofs.lemmas.List.FromFn.{fill_by_all, get_or-range_with_len, length-range_with_len}
use Rattle.std.specs.Prelude.{nat_lt, nat_le}
use Rattle.std.specs.List.{list_all, range_with_len}
use Rattle.zarr_grids_boxes.specs.Boxes.{product}
use Rattle.zarr_codecs_meaning.specs.Chains.{Chain, Location}
use Rattle.zarr_codecs_meaning.specs.Chains.Chain.{bytes, packbits, vlen, optional, after_array_codec, then_bytes, sharded}
use Rattle.zarr_codecs_meaning.specs.Decoding.{all_there, cell_at, cell_of_part, decoded, element_at, index_bytes, is_absent, is_whole, opens, pairs_in, pairs_of_cells, pieces_decoded, slice_at, cell_of_pair}
use Rattle.zarr_codecs_meaning.specs.Encoding.{Pair, absent_pair, index_size}
use Rattle.zarr_codecs_meaning.specs.Fits.{array_codec_fits, can_cut, fits}
use Rattle.zarr_codecs_meaning.specs.Keeping.{arranged}
use Rattle.zarr_codecs_meaning.specs.Places.{Part, encoded_shape, gather, index_shape, parts_of, place_numbers, source_places, undone_places}
use Rattle.zarr_codecs_meaning.specs.Types.{Cell, Elements, uint64, zero_filled}
use Rattle.zarr_codecs_meaning.proofs.ArrayCodecs.{array_codec_count}
use Rattle.zarr_codecs_meaning.proofs.Counts.{decoded_count}
use Rattle.zarr_codecs_meaning.proofs.Covers.{array_codec_covers}
use Rattle.zarr_codecs_meaning.proofs.Fitting.{fitted}
use Rattle.zarr_codecs_meaning.proofs.Lists.{if_some, map_some}
use Rattle.zarr_codecs_meaning.proofs.Once.{array_codec_once, covering_long}
use Rattle.zarr_codecs_meaning.proofs.PartReading.{part_read}
use Rattle.zarr_codecs_meaning.proofs.Parts.{index_product, no_part}
use Rattle.zarr_codecs_meaning.proofs.PartsOnce.{number_in}
use Rattle.zarr_codecs_arrays.specs.declared.array_bytes.ArrayBytes.{ArrayBytes}
use Rattle.zarr_codecs_arrays.specs.declared.error.CodecError.{CodecError}
use Rattle.zarr_codecs_arrays.specs.declared.error.CodecError.TheVariants as error
use Rattle.zarr_codecs_traits.specs.Arrays.{coded}
use Rattle.zarr_codecs_traits.specs.Outcomes.{Decodes}
use Rattle.zarr_sharding_places.specs.Locating.{inside_of, part_shape, subchunk_of}
use Rattle.zarr_sharding_places.proofs.PartPlaces.{IsPlace, place_below, places_apart}
use Rattle.zarr_sharding_codec.specs.Reading.{Lists, place_decoded, slice_cells}
use Rattle.zarr_sharding_codec.proofs.AllThere.{lost_one, one_lost}
use Rattle.zarr_sharding_codec.proofs.NumberedParts.{part_count, part_fits, part_is, part_some}
use Rattle.zarr_sharding_codec.proofs.LocatedParts.{located_place}
use Rattle.zarr_sharding_codec.proofs.PlaceCells.{shard_place}

-- one of so many places has no cell
abbrev pub Loses : ℕ → (ℕ → Option Cell) → Type 0
Loses count cell = (n : ℕ) × (n < count) × (cell n ≡ None)

unmapped : {X Y : Type 0} (f : X → Y) (o : Option X) → option_map f o ≡ None → o ≡ None
unmapped f None h = refl
unmapped f (Some x) h = absurd (cc)

-- a place is lost where what it is read of is lost, and else where it is lost there
lost_behind : {X : Type 0} (o : Option X) (decode : X → Option (List Cell)) (cell : X → ℕ → Option Cell) (count : ℕ) → 0 < count → ((x : X) → o ≡ Some x → decode x ≡ None → Loses count (cell x)) → option_and_then decode o ≡ None
    → Loses count (λ n. option_and_then (λ x. cell x n) o)
lost_behind None decode cell count some law h = (0, some, refl)
lost_behind (Some x) decode cell count some law h = law x refl h

element_lost : (b : Bool) (read : ℕ → Option Cell) (count : ℕ) (all : Option (List Cell)) → all ≡ all_there (map read (range_with_len 0 count)) → 0 < count → ◌≡◌ {A = Option (List Cell)} (elim b [ true ↦ all | false ↦ None ]) None → Loses count (λ n. if b then read n else None)
element_lost true read count all are some h =
    let lost = lost_one read (range_with_len 0 count) (sym are ∙ h) in
    let low = lost.below in
    let below : lost.at_ < count = omega (arith, low, length-range_with_len 0 count) in
    let here : get_or (range_with_len 0 count) lost.at_ 0 ≡ lost.at_ = get_or-range_with_len 0 count lost.at_ 0 below ∙ omega arith in
    (lost.at_, below, ap read (sym here) ∙ lost.is)
element_lost false read count all are some h = (0, some, refl)

-- ---- shards

in_pairs : (cells : List Cell) (n : ℕ) → length cells ≡ 2 * n → length (pairs_of_cells cells) ≡ n
in_pairs [] n is = omega (arith, is)
in_pairs (first ∷ []) n is = absurd (omega (arith, is))
in_pairs (first ∷ second ∷ cells) n is = let rest = in_pairs cells (n - 1) (omega (arith, is)) in omega (arith, rest, is)

pairs_many : (index : Chain) (location : Location) (shape subchunk value : List ℕ) (ps : List Pair) → pairs_in (decoded index (zero_filled uint64) (index_shape shape subchunk)) location (index_size index (index_shape shape subchunk)) value ≡ Some ps
    → length ps ≡ length (parts_of shape subchunk)
pairs_many index location shape subchunk value ps is =
    let pairs_shape = index_shape shape subchunk in
    let size = index_size index pairs_shape in
    let read = decoded index (zero_filled uint64) pairs_shape in
    let there = if_some (nat_le size (length value)) (option_map pairs_of_cells (read (index_bytes location size value))) ps is in
    let cells = map_some pairs_of_cells (read (index_bytes location size value)) ps there.1 in
    ap (λ (l : List Pair). length l) (sym cells.2)
    ∙ in_pairs cells.0 (length (parts_of shape subchunk)) (decoded_count index (zero_filled uint64) pairs_shape (index_bytes location size value) cells.0 cells.1 ∙ index_product shape subchunk)

first_or_later : (o : Option (List Cell)) (rest : Option (List (List Cell))) → option_and_then (λ cells. option_map (λ others. cells ∷ others) rest) o ≡ None → (o ≡ None) ⊎ (rest ≡ None)
first_or_later None rest h = inl refl
first_or_later (Some cells) None h = inr refl
first_or_later (Some cells) (Some others) h = absurd (cc)

-- what is decoded of the subchunk with a number
abbrev piece_of : (List ℕ → List ℕ → Option (List Cell)) → Cell → List ℕ → Part → Pair → Option (List Cell)
piece_of decode fill value part pair = if is_absent pair then Some (replicate (product part.shape) fill) else option_and_then (decode part.shape) (slice_at value pair)

-- where not all subchunks are decoded, one isn't
piece_lost : (decode : List ℕ → List ℕ → Option (List Cell)) (fill : Cell) (value : List ℕ) (parts : List Part) (ps : List Pair) → length ps ≡ length parts → pieces_decoded decode fill value parts ps ≡ None
    → (k : ℕ) × (k < length parts) × (piece_of decode fill value (get_or parts k no_part) (get_or ps k absent_pair) ≡ None)
piece_lost decode fill value [] ps same h = absurd (cc)
piece_lost decode fill value (part ∷ parts) [] same h = absurd (omega (arith, same))
piece_lost decode fill value (part ∷ parts) (p ∷ ps) same h = elim (first_or_later (piece_of decode fill value part p) (pieces_decoded decode fill value parts ps) h) [
  | inl lost ↦ (0, omega arith, lost)
  | inr lost ↦ let rest = piece_lost decode fill value parts ps (omega (arith, same)) lost in let low = rest.1 in (suc rest.0, omega (arith, low), rest.2)
]

-- where a subchunk isn't decoded, one of its places is lost
inside_lost : (absent : Bool) (decode : List ℕ → Option (List Cell)) (cell : List ℕ → ℕ → Option Cell) (fill : Cell) (all : List Cell) (count : ℕ) (slice : Option (List ℕ)) → 0 < count → ((s : List ℕ) → decode s ≡ None → Loses count (cell s))
    → (if absent then Some all else option_and_then decode slice) ≡ None → Loses count (λ i. if absent then Some fill else option_and_then (λ s. cell s i) slice)
inside_lost true decode cell fill all count slice some law h = absurd (cc)
inside_lost false decode cell fill all count slice some law h = lost_behind slice decode cell count some (λ s is lost. law s lost) h

shard_lost : (inner : Chain) (elements : Elements) (shape subchunk value : List ℕ) (ps : List Pair) → can_cut shape subchunk ≡ true → length ps ≡ length (parts_of shape subchunk)
    → ((k : ℕ) → k < length (parts_of shape subchunk) → (slice : List ℕ) → decoded inner elements (part_shape shape subchunk k) slice ≡ None → Loses (product (part_shape shape subchunk k)) (cell_at inner elements (part_shape shape subchunk k) slice))
    → pieces_decoded (decoded inner elements) elements.fill value (parts_of shape subchunk) ps ≡ None → Loses (product shape) (λ n. cell_of_part (cell_of_pair (cell_at inner elements) elements.fill value) n (parts_of shape subchunk) ps)
shard_lost inner elements shape subchunk value ps cuts many law h =
    let parts = parts_of shape subchunk in
    let fill = elements.fill in
    let piece = piece_lost (decoded inner elements) fill value parts ps many h in
    let k = piece.0 in
    let pair = get_or ps k absent_pair in
    let edges = part_shape shape subchunk k in
    let count = part_count shape subchunk k no_part cuts piece.1 in
    let lost : (if is_absent pair then Some (replicate (product edges) fill) else option_and_then (decoded inner elements edges) (slice_at value pair)) ≡ None =
    ap (λ (s : List ℕ). if is_absent pair then Some (replicate (product s) fill) else option_and_then (decoded inner elements s) (slice_at value pair)) (sym (part_is shape subchunk k no_part piece.1)) ∙ piece.2 in
    let found = inside_lost (is_absent pair) (decoded inner elements edges) (cell_at inner elements edges) fill (replicate (product edges) fill) (product edges) (slice_at value pair) (part_some shape subchunk k cuts piece.1) (law k piece.1) lost in
    let i = found.0 in
    let low = found.1 in
    let place : IsPlace parts k i = record { part = piece.1; place = omega (arith, low, count) } in
    let n = number_in parts k i in
    let below = place_below shape subchunk k i cuts place in
    let located = located_place shape subchunk n cuts below in
    let same = places_apart shape subchunk (subchunk_of shape subchunk n) (inside_of shape subchunk n) k i cuts (record { part = located.part; place = located.place }) place located.here in (
      n,
      below,
      shard_place inner elements shape subchunk value ps n cuts many below
          ∙ (ap (λ j. place_decoded (coded inner elements (part_shape shape subchunk j)) value (get_or ps j absent_pair) (inside_of shape subchunk n)) same.0
          ∙ (ap (place_decoded (coded inner elements edges) value pair) same.1 ∙ found.2)),
    )

-- ---- chains

-- where an array with places isn't decoded, one of them is lost
undecoded_loses : (chain : Chain) (elements : Elements) (shape value : List ℕ) → fits chain elements.type shape ≡ true → 0 < product shape → decoded chain elements shape value ≡ None → Loses (product shape) (cell_at chain elements shape value)
undecoded_loses (bytes order) elements shape value fit some h = let read = element_at order elements.type value in element_lost (is_whole elements.type shape value) read (product shape) (all_there (map read (place_numbers shape))) refl some h
undecoded_loses (packbits padding first last) elements shape value fit some h = (0, some, ap (option_and_then (λ (cells : List Cell). slice_get cells 0)) h)
undecoded_loses (vlen index «data» width location) elements shape value fit some h = (0, some, ap (option_and_then (λ (cells : List Cell). slice_get cells 0)) h)
undecoded_loses (optional mask values) elements shape value fit some h = (0, some, ap (option_and_then (λ (cells : List Cell). slice_get cells 0)) h)
undecoded_loses (after_array_codec codec chain) elements shape value fit some h =
    let both = and_parts (array_codec_fits codec shape) (fits chain elements.type (encoded_shape codec shape)) fit in
    let ns = source_places codec shape in
    let once = array_codec_once codec shape both.0 in
    let many = array_codec_count codec shape both.0 in
    let long = covering_long (product shape) ns (array_codec_covers codec shape both.0) in
    let inside = unmapped (λ (found : List Cell). gather elements.fill found (undone_places codec shape)) (decoded chain elements (encoded_shape codec shape) value) h in
    let lost = undecoded_loses chain elements (encoded_shape codec shape) value both.1 (omega (arith, some, many, long)) inside in
    let low = lost.1 in
    let below : lost.0 < length ns = omega (arith, low, many) in
    (get_or ns lost.0 0, once.below lost.0 below, ap (cell_at chain elements (encoded_shape codec shape) value) (once.position lost.0 below) ∙ lost.2)
undecoded_loses (then_bytes chain codec) elements shape value fit some h =
    lost_behind (codec.decode value) (decoded chain elements shape) (cell_at chain elements shape) (product shape) some (λ inside is lost. undecoded_loses chain elements shape inside fit some lost) h
undecoded_loses (sharded subchunk inner index location) elements shape value fit some h =
    let pairs_shape = index_shape shape subchunk in
    let parts = parts_of shape subchunk in
    let fill = elements.fill in
    let arrange = λ (pieces : List (List Cell)). map (arranged fill parts pieces) (place_numbers shape) in
    let pieces = λ (ps : List Pair). pieces_decoded (decoded inner elements) fill value parts ps in
    let f = fitted subchunk inner index location elements shape fit in
    lost_behind (pairs_in (decoded index (zero_filled uint64) pairs_shape) location (index_size index pairs_shape) value) (λ ps. option_map arrange (pieces ps)) (λ ps n. cell_of_part (cell_of_pair (cell_at inner elements) fill value) n parts ps) (product shape) some
    (λ ps is lost.
    shard_lost inner elements shape subchunk value ps f.cuts (pairs_many index location shape subchunk value ps is)
    (λ k below slice gone. undecoded_loses inner elements (part_shape shape subchunk k) slice (part_fits subchunk inner index location elements shape k fit below) (part_some shape subchunk k f.cuts below) gone) (unmapped arrange (pieces ps) lost)) h

all_low : (a n bound : ℕ) → a + n ≤ bound → list_all (λ m. nat_lt m bound) (range_with_len a n) ≡ true
all_low a zero bound h = refl
all_low a (suc n) bound h = ap (λ (b : Bool). b && list_all (λ m. nat_lt m bound) (range_with_len (a + 1) n)) (lt-ltb a bound (omega (arith, h))) ∙ all_low (a + 1) n bound (omega (arith, h))

-- all places of an array that has some, read alone
pub whole_cells : (chain : Chain) (elements : Elements) (shape value : List ℕ) → fits chain elements.type shape ≡ true → 0 < product shape → slice_cells chain elements shape value (place_numbers shape) ≡ decoded chain elements shape value
whole_cells chain elements shape value fit some = told (decoded chain elements shape value) refl where
  told : (found : Option (List Cell)) → decoded chain elements shape value ≡ found → slice_cells chain elements shape value (place_numbers shape) ≡ found
  told None is =
      let lost = undecoded_loses chain elements shape value fit some is in
      let below = lost.1 in
      let here : get_or (place_numbers shape) lost.0 0 ≡ lost.0 = get_or-range_with_len 0 (product shape) lost.0 0 below ∙ omega arith in
      one_lost (cell_at chain elements shape value) (place_numbers shape) lost.0 (omega (arith, below, length-range_with_len 0 (product shape))) (ap (cell_at chain elements shape value) here ∙ lost.2)
  told (Some cells) is =
      let read = part_read chain elements shape value cells (place_numbers shape) fit is (all_low 0 (product shape) (product shape) (omega arith)) in
      let all = (if_some (opens chain elements shape value) (slice_cells chain elements shape value (place_numbers shape)) (gather elements.fill cells (place_numbers shape)) read).1 in
      all ∙ ap Some (sym (fill_by_all (λ n. get_or cells n elements.fill) cells (product shape) elements.fill (decoded_count chain elements shape value cells is) (λ n low. refl)))

-- what a slice of a subchunk that has places is decoded to
pub slice_whole : (inner : Chain) (elements : Elements) (shape slice : List ℕ) (result : Result ArrayBytes CodecError) → fits inner elements.type shape ≡ true → 0 < product shape → Decodes (coded inner elements shape) slice result
    → Lists elements shape (slice_cells inner elements shape slice (place_numbers shape)) result
slice_whole inner elements shape slice (Ok found) fit some made = record { cells = made.cells; is = whole_cells inner elements shape slice fit some ∙ made.is; lists = made.lists }
slice_whole inner elements shape slice (Err error.Damage) fit some made = whole_cells inner elements shape slice fit some ∙ made.1
slice_whole inner elements shape slice (Err error.Size) fit some made = made
slice_whole inner elements shape slice (Err error.Memory) fit some made = tt
slice_whole inner elements shape slice (Err error.Fit) fit some made = cc
slice_whole inner elements shape slice (Err e) fit some made = absurd made
