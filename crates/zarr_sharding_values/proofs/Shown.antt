-- What compaction makes of a value is read as that value, whatever it is.
use Rattle.std.proofs.Common.{◌≡◌, ◌∙◌, ℕ, zero, suc, ◌+◌, ◌-◌, ◌*◌, ◌≤◌, List, [], ◌∷◌, length, map, take, drop, ap, ap₂, refl, sym, inl, arith, Option, Some, None, Bool, true, false, ◌&&◌, option_and_then, option_map, if◌then◌else◌, length-drop, length-take}
use Rattle.std.proofs.lemmas.Bool.{and_parts, leb-true, le-leb}
use Rattle.std.proofs.lemmas.List.{drop-drop, drop-take}
use Rattle.std.specs.Prelude.{nat_le, nat_lt, is_some}
use Rattle.zarr_codecs_meaning.specs.Types.{Cell, of_bytes, absent, Elements, uint64, zero_filled}
use Rattle.zarr_codecs_meaning.specs.Chains.{ByteCodec, Chain, Location}
use Rattle.zarr_codecs_meaning.specs.Chains.Location.{at_start, at_end}
use Rattle.zarr_codecs_meaning.specs.Chains.Chain.{bytes, packbits, vlen, optional, after_array_codec, then_bytes, sharded}
use Rattle.zarr_codecs_meaning.specs.Places.{Part, encoded_shape, index_shape, parts_of, position_of, source_places}
use Rattle.zarr_codecs_meaning.specs.Fits.{array_codec_fits, fits, is_lossless, is_plain}
use Rattle.zarr_codecs_meaning.specs.Encoding.{Pair, Piece, base_of, encoded, index_size, joined_slices, pair_cells, pairs_from, shard_of}
use Rattle.zarr_codecs_meaning.specs.Decoding.{all_there, cell_at, cell_of_part, decoded, index_bytes, is_absent, opens, pairs_in, pairs_of_cells, slice_at, cell_of_pair}
use Rattle.zarr_codecs_meaning.specs.Standing.{ShardStands, index_layout}
use Rattle.zarr_codecs_meaning.specs.Laws.{IsLawful, IsLawfulChain}
use Rattle.zarr_codecs_meaning.proofs.Counts.{decoded_count}
use Rattle.zarr_codecs_meaning.proofs.Fitting.{fitted, shard_made}
use Rattle.zarr_codecs_meaning.proofs.Lists.{bind_some, if_some, map_some, some_same}
use Rattle.zarr_codecs_meaning.proofs.Meaning.{laws_of, stands_decoded}
use Rattle.zarr_codecs_meaning.proofs.Parts.{index_product}
use Rattle.zarr_codecs_meaning.proofs.Representations.{index_long}
use Rattle.zarr_codecs_meaning.proofs.Shards.{SlicesStand, put}
use Rattle.zarr_sharding_changes.specs.Compaction.{data_in, slice_in, slices_in, slices_of, stored_at}
use Rattle.zarr_sharding_changes.specs.Compactions.{compacted_to, compaction}
use Rattle.zarr_sharding_changes.proofs.Slices.{shard_read}
use Rattle.zarr_sharding_values.specs.Laws.{ChainCompactedShows}
use Rattle.zarr_sharding_values.proofs.ChainCompaction.{shard_is, again_is, undone_at, undone_none, plain_at}

-- ---- the bytes of a pair

take_take : (n m : ℕ) (xs : List ℕ) → n ≤ m → take n (take m xs) ≡ take n xs
take_take zero m xs h = refl
take_take (suc n) zero xs h = absurd (omega arith)
take_take (suc n) (suc m) [] h = refl
take_take (suc n) (suc m) (x ∷ xs) h = ap (λ ys. x ∷ ys) (take_take n m xs (omega arith))

window : (k n m : ℕ) (xs : List ℕ) → k + n ≤ m → take n (drop k (take m xs)) ≡ take n (drop k xs)
window k n m xs h =
    let all : m ≡ k + (m - k) = omega (arith, h) in
    ap (λ j. take n (drop k (take j xs))) all ∙ (ap (take n) (drop-take k (m - k) xs) ∙ take_take n (m - k) (drop k xs) (omega (arith, h)))

slice_from : (value : List ℕ) (pair : Pair) (slice : List ℕ) → pair.0 + pair.1 ≤ length value → take pair.1 (drop pair.0 value) ≡ slice → slice_at value pair ≡ Some slice
slice_from value pair slice ends is = ap (λ (t : Bool). if t then Some (take pair.1 (drop pair.0 value)) else None) (le-leb (pair.0 + pair.1) (length value) ends) ∙ ap Some is

slice_read : (location : Location) (size : ℕ) (value : List ℕ) (pair : Pair) (slice : List ℕ) → size ≤ length value → slice_in (base_of location size) (data_in location size value) pair ≡ Some slice → slice_at value pair ≡ Some slice
slice_read at_start size value pair slice long h =
    let got = if_some (nat_le size pair.0 && nat_le (pair.0 + pair.1) (size + length (drop size value))) (Some (take pair.1 (drop (pair.0 - size) (drop size value)))) slice h in
    let tests = and_parts (nat_le size pair.0) (nat_le (pair.0 + pair.1) (size + length (drop size value))) got.0 in
    let one = leb-true size pair.0 tests.0 in
    let two = leb-true (pair.0 + pair.1) (size + length (drop size value)) tests.1 in
    let count = length-drop size value in
    let back : size + (pair.0 - size) ≡ pair.0 = omega (arith, one) in
    slice_from value pair slice (omega (arith, one, two, count, long)) (sym (ap (take pair.1) (drop-drop (pair.0 - size) size value ∙ ap (λ n. drop n value) back)) ∙ some_same got.1)
slice_read at_end size value pair slice long h =
    let m = length value - size in
    let got = if_some (nat_le 0 pair.0 && nat_le (pair.0 + pair.1) (0 + length (take m value))) (Some (take pair.1 (drop (pair.0 - 0) (take m value)))) slice h in
    let tests = and_parts (nat_le 0 pair.0) (nat_le (pair.0 + pair.1) (0 + length (take m value))) got.0 in
    let two = leb-true (pair.0 + pair.1) (0 + length (take m value)) tests.1 in
    let count = length-take m value in
    let skip : pair.0 - 0 ≡ pair.0 = omega arith in
    slice_from value pair slice (omega (arith, two, count, long)) (sym (ap (λ n. take pair.1 (drop n (take m value))) skip ∙ window pair.0 pair.1 m value (omega (arith, two, count, long))) ∙ some_same got.1)

-- ---- a cell, by the slices

abbrev cell_of_slice : (List ℕ → ℕ → Option Cell) → Cell → ℕ → Option (List ℕ) → Option Cell
cell_of_slice inner fill n stored = elim stored [ None ↦ Some fill | Some slice ↦ inner slice n ]

abbrev cell_of_stored : (List ℕ → List ℕ → ℕ → Option Cell) → Cell → ℕ → List Part → List (Option (List ℕ)) → Option Cell
cell_of_stored inner fill place [] stored = None
cell_of_stored inner fill place (part ∷ parts) [] = None
cell_of_stored inner fill place (part ∷ parts) (first ∷ others) =
    let n = position_of place part.places in
    elim (nat_lt n (length part.places)) [ true ↦ cell_of_slice (inner part.shape) fill n first | false ↦ cell_of_stored inner fill place parts others ]

abbrev ReadsSlices : ℕ → List ℕ → List ℕ → Type 0
ReadsSlices base «data» value = (pair : Pair) (slice : List ℕ) → slice_in base «data» pair ≡ Some slice → slice_at value pair ≡ Some slice

pair_read : (inner : List ℕ → ℕ → Option Cell) (fill : Cell) (n base : ℕ) («data» value : List ℕ) (pair : Pair) (first : Option (List ℕ)) (t : Bool) → ReadsSlices base «data» value
    → (if t then Some None else option_map Some (slice_in base «data» pair)) ≡ Some first → (if t then Some fill else option_and_then (λ slice. inner slice n) (slice_at value pair)) ≡ cell_of_slice inner fill n first
pair_read inner fill n base «data» value pair first true reads h = ap (λ (o : Option (List ℕ)). cell_of_slice inner fill n o) (some_same h)
pair_read inner fill n base «data» value pair first false reads h =
    let got = map_some Some (slice_in base «data» pair) first h in
    ap (option_and_then (λ slice. inner slice n)) (reads pair got.0 got.1) ∙ ap (λ (o : Option (List ℕ)). cell_of_slice inner fill n o) got.2

abbrev pick : Bool → Option Cell → Option Cell → Option Cell
pick t a b = elim t [ true ↦ a | false ↦ b ]

by_test : (t : Bool) (a b c d : Option Cell) → a ≡ c → b ≡ d → pick t a b ≡ pick t c d
by_test true a b c d one two = one
by_test false a b c d one two = two

by_stored : (inner : List ℕ → List ℕ → ℕ → Option Cell) (fill : Cell) (base : ℕ) («data» value : List ℕ) (place : ℕ) (parts : List Part) (pairs : List Pair) (stored : List (Option (List ℕ))) → ReadsSlices base «data» value
    → slices_of base «data» pairs ≡ Some stored → cell_of_part (cell_of_pair inner fill value) place parts pairs ≡ cell_of_stored inner fill place parts stored
by_stored inner fill base «data» value place [] pairs stored reads h = refl
by_stored inner fill base «data» value place (part ∷ parts) [] stored reads h = ap (λ (os : List (Option (List ℕ))). cell_of_stored inner fill place (part ∷ parts) os) (some_same h)
by_stored inner fill base «data» value place (part ∷ parts) (pair ∷ pairs) stored reads h =
    let got = bind_some (λ (first : Option (List ℕ)). option_map (λ (others : List (Option (List ℕ))). first ∷ others) (slices_of base «data» pairs)) (stored_at base «data» pair) stored h in
    let rest = map_some (λ (others : List (Option (List ℕ))). got.0 ∷ others) (slices_of base «data» pairs) stored got.2 in
    let n = position_of place part.places in
    by_test (nat_lt n (length part.places)) _ _ _ _
    (pair_read (inner part.shape) fill n base «data» value pair got.0 (is_absent pair) reads got.1)
    (by_stored inner fill base «data» value place parts pairs rest.0 reads rest.1)
    ∙ ap (λ (os : List (Option (List ℕ))). cell_of_stored inner fill place (part ∷ parts) os) rest.2

-- ---- slices that stand for themselves

abbrev piece_for : Option (List ℕ) → Piece
piece_for None = ([], [])
piece_for (Some slice) = ([], of_bytes slice ∷ [])

abbrev IsItself : List ℕ → List ℕ → List Cell → Type 0
IsItself shape slice cells = cells ≡ of_bytes slice ∷ []

stand_themselves : (stored : List (Option (List ℕ))) → SlicesStand IsItself absent (map piece_for stored) stored
stand_themselves [] = tt
stand_themselves (None ∷ others) = (refl, stand_themselves others)
stand_themselves (Some slice ∷ others) = ((refl, refl), stand_themselves others)

abbrev slice_of : List Cell → List ℕ
slice_of [] = []
slice_of (of_bytes slice ∷ cells) = slice
slice_of (cell ∷ cells) = []

are_themselves : (stored others : List (Option (List ℕ))) → SlicesStand IsItself absent (map piece_for stored) others → others ≡ stored
are_themselves [] [] h = refl
are_themselves [] (o ∷ os) h = elim h [ ]
are_themselves (None ∷ stored) [] h = elim h [ ]
are_themselves (Some slice ∷ stored) [] h = elim h [ ]
are_themselves (None ∷ stored) (None ∷ others) h = ap (λ (os : List (Option (List ℕ))). None ∷ os) (are_themselves stored others h.1)
are_themselves (None ∷ stored) (Some other ∷ others) h = let not_so = h.0.0 in cc
are_themselves (Some slice ∷ stored) (None ∷ others) h = let not_so = h.0 in cc
are_themselves (Some slice ∷ stored) (Some other ∷ others) h = ap₂ (λ (s : List ℕ) (os : List (Option (List ℕ))). Some s ∷ os) (sym (ap slice_of h.0.1)) (are_themselves stored others h.1)

-- ---- how many slices there are

slices_count : (base : ℕ) («data» : List ℕ) (ps : List Pair) (stored : List (Option (List ℕ))) → slices_of base «data» ps ≡ Some stored → length stored ≡ length ps
slices_count base «data» [] stored h = ap length (sym (some_same h))
slices_count base «data» (p ∷ ps) stored h =
    let got = bind_some (λ (first : Option (List ℕ)). option_map (λ (others : List (Option (List ℕ))). first ∷ others) (slices_of base «data» ps)) (stored_at base «data» p) stored h in
    let rest = map_some (λ (others : List (Option (List ℕ))). got.0 ∷ others) (slices_of base «data» ps) stored got.2 in
    let count = slices_count base «data» ps rest.0 rest.1 in
    ap length (sym rest.2) ∙ omega (arith, count)

in_pairs : (cells : List Cell) (n : ℕ) → length cells ≡ 2 * n → length (pairs_of_cells cells) ≡ n
in_pairs [] n is = omega (arith, is)
in_pairs (first ∷ []) n is = absurd (omega (arith, is))
in_pairs (first ∷ second ∷ cells) n is = let rest = in_pairs cells (n - 1) (omega (arith, is)) in omega (arith, rest, is)

-- ---- one shard

module _ (subchunk : List ℕ) (inner index : Chain) (location : Location) (elements : Elements) (shape : List ℕ) where
  -- a value whose slices are known opens, and is read by them
  sliced : (value : List ℕ) (stored : List (Option (List ℕ))) → slices_in subchunk index location shape value ≡ Some stored
      → (opens (sharded subchunk inner index location) elements shape value ≡ true) × ((place : ℕ) → cell_at (sharded subchunk inner index location) elements shape value place ≡ cell_of_stored (cell_at inner elements) elements.fill place (parts_of shape subchunk) stored)
  sliced value stored are =
      let pairs_shape = index_shape shape subchunk in
      let size = index_size index pairs_shape in
      let base = base_of location size in
      let read = decoded index (zero_filled uint64) pairs_shape in
      let got = bind_some (slices_of base (data_in location size value)) (pairs_in read location size value) stored are in
      let both = if_some (nat_le size (length value)) (option_map pairs_of_cells (read (index_bytes location size value))) got.0 got.1 in
      let long = leb-true size (length value) both.0 in (
        ap is_some got.1,
        λ place.
            ap (option_and_then (cell_of_part (cell_of_pair (cell_at inner elements) elements.fill value) place (parts_of shape subchunk))) got.1
            ∙ by_stored (cell_at inner elements) elements.fill base (data_in location size value) value place (parts_of shape subchunk) got.0 stored (λ pair slice is. slice_read location size value pair slice long is) got.2,
      )

  many_slices : (value : List ℕ) (stored : List (Option (List ℕ))) → slices_in subchunk index location shape value ≡ Some stored → length stored ≡ length (parts_of shape subchunk)
  many_slices value stored are =
      let pairs_shape = index_shape shape subchunk in
      let size = index_size index pairs_shape in
      let base = base_of location size in
      let read = decoded index (zero_filled uint64) pairs_shape in
      let got = bind_some (slices_of base (data_in location size value)) (pairs_in read location size value) stored are in
      let both = if_some (nat_le size (length value)) (option_map pairs_of_cells (read (index_bytes location size value))) got.0 got.1 in
      let cells = map_some pairs_of_cells (read (index_bytes location size value)) got.0 both.1 in
      let count = decoded_count index (zero_filled uint64) pairs_shape (index_bytes location size value) cells.0 cells.1 ∙ index_product shape subchunk in
      slices_count base (data_in location size value) got.0 stored got.2 ∙ (ap (λ (l : List Pair). length l) (sym cells.2) ∙ in_pairs cells.0 (length (parts_of shape subchunk)) count)

  -- a compacted shard has the slices that it was made of
  same_slices : (value made : List ℕ) (stored : List (Option (List ℕ))) → IsLawfulChain index → fits (sharded subchunk inner index location) elements.type shape ≡ true → is_lossless index uint64 ≡ true
      → slices_in subchunk index location shape value ≡ Some stored → shard_of (encoded index (zero_filled uint64) (index_shape shape subchunk)) location (index_size index (index_shape shape subchunk)) stored ≡ Some made
      → slices_in subchunk index location shape made ≡ Some stored
  same_slices value made stored lawful fit lossless are is =
      let pairs_shape = index_shape shape subchunk in
      let words = zero_filled uint64 in
      let size = index_size index pairs_shape in
      let base = base_of location size in
      let pairs = pairs_from base stored in
      let f = fitted subchunk inner index location elements shape fit in
      let shard = shard_made subchunk index location shape made stored (many_slices value stored are) is in
      let long = index_long subchunk inner index location elements shape made stored lawful f shard in
      let stands = (laws_of index lawful).stands words pairs_shape shard.index_bytes (pair_cells pairs) f.index_fits (inl lossless) shard.pairs_are shard.is_index in
      let back = stands_decoded index words pairs_shape shard.index_bytes (pair_cells pairs) lawful f.index_fits lossless shard.pairs_are stands in
      let laid = put IsItself absent base (joined_slices stored) (map piece_for stored) stored [] base (stand_themselves stored) refl (omega arith) shard.short in
      let h : ShardStands (index_layout index location pairs_shape) IsItself absent (map piece_for stored) made = (pairs, joined_slices stored, record { index_bytes = shard.index_bytes; long = long; read = back; is = sym shard.is }, laid) in
      let found = shard_read (index_layout index location pairs_shape) IsItself absent (map piece_for stored) made h in
      found.1 ∙ ap Some (are_themselves stored found.0 found.2)

-- ---- chains

abbrev SameRead : Chain → Elements → List ℕ → List ℕ → List ℕ → Type 0
SameRead chain elements shape made value = (opens chain elements shape made ≡ opens chain elements shape value) × ((place : ℕ) → cell_at chain elements shape made place ≡ cell_at chain elements shape value place)

read_after : (chain : Chain) (codec : ByteCodec) (elements : Elements) (shape value made : List ℕ) (plain : Bool) → is_plain chain ≡ plain → IsLawful codec
    → ((given inside : List ℕ) → compaction chain shape given ≡ compacted_to inside → SameRead chain elements shape inside given)
    → (found : Option (List ℕ)) → codec.decode value ≡ found → compaction (then_bytes chain codec) shape value ≡ compacted_to made → SameRead (then_bytes chain codec) elements shape made value
read_after chain codec elements shape value made true is lawful law found e what = let not_so = sym (plain_at chain codec shape value is) ∙ what in absurd (cc)
read_after chain codec elements shape value made false is lawful law None e what = let not_so = sym (undone_none chain codec shape value is e) ∙ what in absurd (cc)
read_after chain codec elements shape value made false is lawful law (Some given) e what =
    let next = again_is codec (compaction chain shape given) made (sym (undone_at chain codec shape value given is e) ∙ what) in
    let same = law given next.0 next.1 in
    let undone = lawful.undoes next.0 made next.2 in (
      ap (λ (o : Option (List ℕ)). elim o [ None ↦ false | Some inside ↦ opens chain elements shape inside ]) undone ∙ (same.0 ∙ sym (ap (λ (o : Option (List ℕ)). elim o [ None ↦ false | Some inside ↦ opens chain elements shape inside ]) e)),
      λ place. ap (option_and_then (λ inside. cell_at chain elements shape inside place)) undone ∙ (same.1 place ∙ sym (ap (option_and_then (λ inside. cell_at chain elements shape inside place)) e)),
    )

same_read : (chain : Chain) (elements : Elements) (shape value made : List ℕ) → IsLawfulChain chain → fits chain elements.type shape ≡ true → is_lossless chain elements.type ≡ true → compaction chain shape value ≡ compacted_to made → SameRead chain elements shape made value
same_read (bytes order) elements shape value made lawful fit lossless what = absurd (cc)
same_read (packbits padding first last) elements shape value made lawful fit lossless what = absurd (cc)
same_read (vlen index «data» width location) elements shape value made lawful fit lossless what = absurd (cc)
same_read (optional mask values) elements shape value made lawful fit lossless what = absurd (cc)
same_read (after_array_codec codec chain) elements shape value made lawful fit lossless what =
    let both = and_parts (array_codec_fits codec shape) (fits chain elements.type (encoded_shape codec shape)) fit in
    let same = same_read chain elements (encoded_shape codec shape) value made lawful both.1 lossless what in
    (same.0, λ place. same.1 (position_of place (source_places codec shape)))
same_read (then_bytes chain codec) elements shape value made lawful fit lossless what =
    read_after chain codec elements shape value made (is_plain chain) refl lawful.1 (λ given inside e. same_read chain elements shape given inside lawful.0 fit lossless e) (codec.decode value) refl what
same_read (sharded subchunk inner index location) elements shape value made lawful fit lossless what =
    let whole = shard_is subchunk index location shape value made what in
    let got = bind_some (shard_of (encoded index (zero_filled uint64) (index_shape shape subchunk)) location (index_size index (index_shape shape subchunk))) (slices_in subchunk index location shape value) made whole in
    let keeps = (and_parts (is_lossless inner elements.type) (is_lossless index uint64) lossless).1 in
    let one = sliced subchunk inner index location elements shape value got.0 got.1 in
    let two = sliced subchunk inner index location elements shape made got.0 (same_slices subchunk inner index location elements shape value made got.0 lawful.1 fit keeps got.1 got.2) in
    (two.0 ∙ sym one.0, λ place. two.1 place ∙ sym (one.1 place))

all_alike : (f g : ℕ → Option Cell) → ((n : ℕ) → f n ≡ g n) → (places : List ℕ) → all_there (map f places) ≡ all_there (map g places)
all_alike f g same [] = refl
all_alike f g same (n ∷ ns) =
    ap (λ (o : Option Cell). option_and_then (λ x. option_map (λ xs. x ∷ xs) (all_there (map f ns))) o) (same n)
    ∙ ap (λ (o : Option (List Cell)). option_and_then (λ x. option_map (λ xs. x ∷ xs) o) (g n)) (all_alike f g same ns)

pub chain_compacted_shows : ChainCompactedShows
chain_compacted_shows chain elements shape value made places lawful fit lossless what =
    let same = same_read chain elements shape value made lawful fit lossless what in
    ap (λ (b : Bool). if b then all_there (map (cell_at chain elements shape made) places) else None) same.0
    ∙ ap (λ (o : Option (List Cell)). if opens chain elements shape value then o else None) (all_alike (cell_at chain elements shape made) (cell_at chain elements shape value) same.1 places)
