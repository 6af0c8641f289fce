-- A compacted shard is as long as its index and its slices.
use Rattle.std.proofs.Common.{◌≡◌, inl, ℕ, ◌+◌, ◌*◌, ◌-◌, ◌^◌, List, [], ◌∷◌, ◌++◌, length, map, ap, ◌∙◌, sym, refl, arith, Option, Some, None, option_map, Bool, true, false, if◌then◌else◌, ◌==◌}
use Rattle.std.proofs.lemmas.Bool.{eq-eqb, eqb-true, ltb-true}
use Rattle.std.proofs.lemmas.Bool.{and_parts}
use Rattle.std.specs.Prelude.{nat_le, nat_lt}
use Rattle.zarr_grids_boxes.specs.Boxes.{product}
use Rattle.zarr_codecs_meaning.specs.Chains.{BytesRepresentation, Chain, Location, fixed_size, bounded_size, unbounded_size}
use Rattle.zarr_codecs_meaning.specs.Decoding.{decoded, index_bytes, pairs_in, pairs_of_cells}
use Rattle.zarr_codecs_meaning.specs.Encoding.{Pair, Piece, base_of, encoded, index_size, joined, joined_slices, pair_cells, pairs_from, shard_of}
use Rattle.zarr_codecs_meaning.specs.Fits.{fits, fixed_of, has_index_size, is_lossless, is_size_as, representation_of}
use Rattle.zarr_codecs_meaning.specs.Laws.{AreCells, IsLawfulChain}
use Rattle.zarr_codecs_meaning.specs.Places.{index_shape}
use Rattle.zarr_codecs_meaning.specs.Standing.{ShardStands, index_layout}
use Rattle.zarr_codecs_meaning.specs.Types.{Cell, absent, of_bytes, uint64, zero_filled}
use Rattle.zarr_codecs_meaning.specs.Places.{parts_of}
use Rattle.zarr_codecs_meaning.proofs.Counts.{decoded_count}
use Rattle.zarr_codecs_meaning.proofs.Fitting.{length-joined}
use Rattle.zarr_codecs_meaning.proofs.Lists.{bind_some, if_some, map_some, some_same}
use Rattle.zarr_codecs_meaning.proofs.Meaning.{laws_of, stands_decoded}
use Rattle.zarr_codecs_meaning.proofs.Parts.{index_product}
use Rattle.zarr_codecs_meaning.proofs.Representations.{encoded_size}
use Rattle.zarr_codecs_meaning.proofs.Shards.{SlicesStand, length-pair_cells, length-pairs_from, put}
use Rattle.zarr_sharding_changes.specs.Compaction.{compacted, data_in, slices_in, slices_of}
use Rattle.zarr_sharding_changes.specs.Compactions.{by_length, compacted_to, damaged, nothing_to_gain, shard_compaction, too_long, unless_refused}
use Rattle.zarr_sharding_changes.proofs.Slices.{shard_read}
use Rattle.zarr_sharding_index.specs.Stored.{index_fits}
use Rattle.zarr_sharding_index.proofs.StoredIndex.{index_below, pairs_are_values}
use Rattle.zarr_sharding_compaction.proofs.Copying.{slices_count}

-- ---- what was made

pub unless_is : (o : Option (List ℕ)) (made : List ℕ) → unless_refused o ≡ compacted_to made → o ≡ Some made
unless_is None made h = cc
unless_is (Some bytes) made h = cc

length_is : (t u : Bool) (o : Option (List ℕ)) (made : List ℕ) → (if t then nothing_to_gain else (if u then unless_refused o else too_long)) ≡ compacted_to made → o ≡ Some made
length_is true u o made h = cc
length_is false true o made h = unless_is o made h
length_is false false o made h = cc

found_is : (found : Option (List (Option (List ℕ)))) (before size : ℕ) (whole : Option (List ℕ)) (made : List ℕ)
    → (elim found [ None ↦ damaged | Some stored ↦ by_length before (size + length (joined_slices stored)) whole ]) ≡ compacted_to made → whole ≡ Some made
found_is None before size whole made h = cc
found_is (Some stored) before size whole made h = length_is (before == size + length (joined_slices stored)) (nat_lt (size + length (joined_slices stored)) (2 ^ 63)) whole made h

-- ---- slices that stand for themselves

abbrev pub piece_for : Option (List ℕ) → Piece
piece_for None = ([], [])
piece_for (Some slice) = ([], of_bytes slice ∷ [])

abbrev pub IsItself : List ℕ → List ℕ → List Cell → Type 0
IsItself shape slice cells = cells ≡ of_bytes slice ∷ []

pub stand_themselves : (stored : List (Option (List ℕ))) → SlicesStand IsItself absent (map piece_for stored) stored
stand_themselves [] = tt
stand_themselves (None ∷ others) = (refl, stand_themselves others)
stand_themselves (Some slice ∷ others) = ((refl, refl), stand_themselves others)

abbrev pub slice_of : List Cell → List ℕ
slice_of [] = []
slice_of (of_bytes slice ∷ cells) = slice
slice_of (cell ∷ cells) = []

are_same : (stored others : List (Option (List ℕ))) → SlicesStand IsItself absent (map piece_for stored) others → joined_slices others ≡ joined_slices stored
are_same [] [] h = refl
are_same [] (o ∷ os) h = elim h [ ]
are_same (None ∷ stored) [] h = elim h [ ]
are_same (Some slice ∷ stored) [] h = elim h [ ]
are_same (None ∷ stored) (None ∷ others) h = are_same stored others h.1
are_same (None ∷ stored) (Some other ∷ others) h = let no = h.0.0 in cc
are_same (Some slice ∷ stored) (None ∷ others) h = let no = h.0 in cc
are_same (Some slice ∷ stored) (Some other ∷ others) h =
    let same : slice ≡ other = ap slice_of h.0.1 in
    ap (λ (bytes : List ℕ). bytes ++ joined_slices others) (sym same) ∙ ap (λ (bytes : List ℕ). slice ++ bytes) (are_same stored others h.1)

-- ---- slices in a row

-- a shard whose slices stand in a row gains nothing
pub laid_gains_nothing : (subchunk : List ℕ) (index : Chain) (location : Location) (shape value : List ℕ) (stored : List (Option (List ℕ)))
    → ShardStands (index_layout index location (index_shape shape subchunk)) IsItself absent (map piece_for stored) value
    → length value ≡ index_size index (index_shape shape subchunk) + length (joined_slices stored) → shard_compaction subchunk index location shape value ≡ nothing_to_gain
laid_gains_nothing subchunk index location shape value stored stands long =
    let pairs_shape = index_shape shape subchunk in
    let size = index_size index pairs_shape in
    let read = shard_read (index_layout index location pairs_shape) IsItself absent (map piece_for stored) value stands in
    let after = size + length (joined_slices read.0) in
    let same : length value ≡ after = long ∙ ap (λ (l : List ℕ). size + length l) (sym (are_same stored read.0 read.2)) in
    let made = compacted subchunk index location shape value in
    ap (λ (o : Option (List (Option (List ℕ)))). elim o [ None ↦ damaged | Some stored ↦ by_length (length value) (size + length (joined_slices stored)) made ]) read.1
    ∙ ap (λ (b : Bool). if b then nothing_to_gain else (if nat_lt after (2 ^ 63) then unless_refused made else too_long)) (eq-eqb (length value) after same)

-- ---- the index of a compacted shard

in_pairs : (cells : List Cell) (n : ℕ) → length cells ≡ 2 * n → length (pairs_of_cells cells) ≡ n
in_pairs [] n is = omega (arith, is)
in_pairs (first ∷ []) n is = absurd (omega (arith, is))
in_pairs (first ∷ second ∷ cells) n is = let rest = in_pairs cells (n - 1) (omega (arith, is)) in omega (arith, rest, is)

fixed_long : (known : BytesRepresentation) (size long : ℕ) → is_size_as known long ≡ true → fixed_of known ≡ Some size → long ≡ size
fixed_long (fixed_size n) size long h is = eqb-true long n h ∙ some_same is
fixed_long (bounded_size n) size long h is = cc
fixed_long unbounded_size size long h is = cc

module _ (subchunk : List ℕ) (index : Chain) (location : Location) (shape value made : List ℕ) (lawful : IsLawfulChain index) (fit : index_fits index (index_shape shape subchunk) ≡ true) (lossless : is_lossless index uint64 ≡ true) where
  -- there are as many slices as subchunks
  many_slices : (stored : List (Option (List ℕ))) → slices_in subchunk index location shape value ≡ Some stored → length stored ≡ length (parts_of shape subchunk)
  many_slices stored are =
      let pairs_shape = index_shape shape subchunk in
      let size = index_size index pairs_shape in
      let base = base_of location size in
      let read = decoded index (zero_filled uint64) pairs_shape in
      let found = bind_some (slices_of base (data_in location size value)) (pairs_in read location size value) stored are in
      let both = if_some (nat_le size (length value)) (option_map pairs_of_cells (read (index_bytes location size value))) found.0 found.1 in
      let cells = map_some pairs_of_cells (read (index_bytes location size value)) found.0 both.1 in
      let count = decoded_count index (zero_filled uint64) pairs_shape (index_bytes location size value) cells.0 cells.1 ∙ index_product shape subchunk in
      slices_count base (data_in location size value) found.0 stored found.2 ∙ (ap (λ (l : List Pair). length l) (sym cells.2) ∙ in_pairs cells.0 (length (parts_of shape subchunk)) count)

  -- the compacted shard is laid out, each slice standing for itself
  made_stands : (stored : List (Option (List ℕ))) → slices_in subchunk index location shape value ≡ Some stored → shard_of (encoded index (zero_filled uint64) (index_shape shape subchunk)) location (index_size index (index_shape shape subchunk)) stored ≡ Some made
      → ShardStands (index_layout index location (index_shape shape subchunk)) IsItself absent (map piece_for stored) made × (length made ≡ index_size index (index_shape shape subchunk) + length (joined_slices stored))
  made_stands stored are is =
      let pairs_shape = index_shape shape subchunk in
      let words = zero_filled uint64 in
      let size = index_size index pairs_shape in
      let base = base_of location size in
      let pairs = pairs_from base stored in
      let slices = joined_slices stored in
      let room = if_some (nat_lt (base + length slices) (2 ^ 64 - 1)) (option_map (λ (bytes : List ℕ). joined location bytes slices) (encoded index words pairs_shape (pair_cells pairs))) made is in
      let written = map_some (λ (bytes : List ℕ). joined location bytes slices) (encoded index words pairs_shape (pair_cells pairs)) made room.1 in
      let fitting = (and_parts (fits index uint64 pairs_shape) (has_index_size index pairs_shape) fit).0 in
      let count : length (pair_cells pairs) ≡ product pairs_shape = length-pair_cells pairs ∙ (ap (λ n. 2 * n) (length-pairs_from stored base ∙ many_slices stored are) ∙ sym (index_product shape subchunk)) in
      let cells : AreCells words pairs_shape (pair_cells pairs) = record { fill = refl; values = pairs_are_values pairs; whole = count } in
      let stands = (laws_of index lawful).stands words pairs_shape written.0 (pair_cells pairs) fitting (inl lossless) cells written.1 in
      let read = stands_decoded index words pairs_shape written.0 (pair_cells pairs) lawful fitting lossless cells stands in
      let long : length written.0 ≡ size = fixed_long (representation_of index uint64 pairs_shape) size (length written.0) (encoded_size index words pairs_shape written.0 (pair_cells pairs) lawful fitting cells written.1) (index_below index pairs_shape fit).0 in
      let short = ltb-true (base + length slices) (2 ^ 64 - 1) room.0 in
      let laid = put IsItself absent base slices (map piece_for stored) stored [] base (stand_themselves stored) refl (omega arith) short in
      ((pairs, slices, record { index_bytes = written.0; long = long; read = read; is = sym written.2 }, laid), ap (λ (l : List ℕ). length l) (sym written.2) ∙ (length-joined location written.0 slices ∙ ap (λ n. n + length slices) long))

  pub compacted_once : shard_compaction subchunk index location shape value ≡ compacted_to made → shard_compaction subchunk index location shape made ≡ nothing_to_gain
  compacted_once h =
      let pairs_shape = index_shape shape subchunk in
      let size = index_size index pairs_shape in
      let whole = found_is (slices_in subchunk index location shape value) (length value) size (compacted subchunk index location shape value) made h in
      let found = bind_some (shard_of (encoded index (zero_filled uint64) pairs_shape) location size) (slices_in subchunk index location shape value) made whole in
      let stands = made_stands found.0 found.1 found.2 in
      laid_gains_nothing subchunk index location shape made found.0 stands.0 stands.1
