-- What a chain may make of cells: what encoding writes is one of the bytes, and without shards the only one.
use Rattle.std.proofs.Common.{◌≡◌, ℕ, ◌+◌, ◌-◌, ◌<◌, ◌≤◌, ◌^◌, List, [], ◌∷◌, ◌++◌, length, ◌∙◌, sym, refl, subst, arith, Option, Some, None, option_map, Bool, true, false, if◌then◌else◌, append_assoc, length-append}
use Rattle.std.specs.Prelude.{◌||◌, nat_le, nat_lt, MatchOption}
use Rattle.std.specs.List.{list_all}
use Rattle.std.proofs.Math.Bool.{or-true}
use Rattle.std.proofs.lemmas.Bool.{and_from, le-leb, ltb-true, or_left, or_right}
use Rattle.zarr_codecs_meaning.specs.Types.{Cell, Elements, is_fill, uint64, zero_filled}
use Rattle.zarr_codecs_meaning.specs.Chains.{Chain, Location}
use Rattle.zarr_codecs_meaning.specs.Chains.Chain.{bytes, packbits, vlen, optional, after_array_codec, then_bytes, sharded}
use Rattle.zarr_codecs_meaning.specs.Fits.{is_plain}
use Rattle.zarr_codecs_meaning.specs.Places.{gather, encoded_shape, source_places, parts_of, index_shape}
use Rattle.zarr_codecs_meaning.specs.Encoding.{Pair, Piece, absent_pair, base_of, encoded, index_size, joined, joined_slices, pair_cells, pairs_from, pieces_of, shard_of, stored_of, stored_pieces}
use Rattle.zarr_codecs_meaning.specs.Decoding.{is_absent}
use Rattle.zarr_codecs_meaning.specs.Making.{ArePairsOf, IsMadeOf, SlicesMade, are_apart, none_overlap}
use Rattle.zarr_codecs_meaning.proofs.Lists.{bind_some, if_some, map_some}

-- ---- the pairs of slices in a row

-- slices that stand in a row have the pairs that count from where the first begins
pub pairs_in_row : (base : ℕ) («data» : List ℕ) (slices : List (Option (List ℕ))) (before : List ℕ) (offset : ℕ) → «data» ≡ before ++ joined_slices slices → offset ≡ base + length before → offset + length (joined_slices slices) < 2 ^ 64 - 1
    → ArePairsOf base «data» slices (pairs_from offset slices)
pairs_in_row base «data» [] before offset is begins low = tt
pairs_in_row base «data» (None ∷ slices) before offset is begins low = (refl, pairs_in_row base «data» slices before (offset + 0) is (omega arith) (omega arith))
pairs_in_row base «data» (Some slice ∷ slices) before offset is begins low =
    let count = length-append slice (joined_slices slices) in
    let short : offset + length slice < 2 ^ 64 - 1 = omega arith in
    let others = pairs_in_row base «data» slices (before ++ slice) (offset + length slice) (is ∙ sym (append_assoc before slice (joined_slices slices))) (omega (arith, length-append before slice)) (omega arith) in
    (record { before = before; after = joined_slices slices; is = is; begins = begins; long = refl; low = short }, others)

-- and share no byte
absent_apart : (pairs : List Pair) → list_all (are_apart absent_pair) pairs ≡ true
absent_apart [] = refl
absent_apart (pair ∷ pairs) = absent_apart pairs

-- slices in a row from an offset are apart from each that ends before it
later_apart : (pair : Pair) (offset : ℕ) (stored : List (Option (List ℕ))) → pair.0 + pair.1 ≤ offset → list_all (are_apart pair) (pairs_from offset stored) ≡ true
later_apart pair offset [] ends = refl
later_apart pair offset (None ∷ stored) ends =
    and_from (are_apart pair absent_pair) (list_all (are_apart pair) (pairs_from (offset + 0) stored))
    (or_left (is_absent pair || true) (nat_le (pair.0 + pair.1) absent_pair.0 || nat_le (absent_pair.0 + absent_pair.1) pair.0) (or-true (is_absent pair)))
    (later_apart pair (offset + 0) stored (omega (arith, ends)))
later_apart pair offset (Some slice ∷ stored) ends =
    let next : Pair = (offset, length slice) in
    and_from (are_apart pair next) (list_all (are_apart pair) (pairs_from (offset + length slice) stored))
    (or_right (is_absent pair || is_absent next) (nat_le (pair.0 + pair.1) offset || nat_le (offset + length slice) pair.0)
    (or_left (nat_le (pair.0 + pair.1) offset) (nat_le (offset + length slice) pair.0) (le-leb (pair.0 + pair.1) offset ends)))
    (later_apart pair (offset + length slice) stored (omega (arith, ends)))

pub row_apart : (offset : ℕ) (stored : List (Option (List ℕ))) → none_overlap (pairs_from offset stored) ≡ true
row_apart offset [] = refl
row_apart offset (None ∷ stored) =
    let others = pairs_from (offset + 0) stored in
    and_from (list_all (are_apart absent_pair) others) (none_overlap others) (absent_apart others) (row_apart (offset + 0) stored)
row_apart offset (Some slice ∷ stored) =
    let next : Pair = (offset, length slice) in
    let others = pairs_from (offset + length slice) stored in
    and_from (list_all (are_apart next) others) (none_overlap others) (later_apart next (offset + length slice) stored (omega arith)) (row_apart (offset + length slice) stored)

-- ---- the slices

-- what is stored of a piece
pub piece_made : (t : Bool) (o : Option (List ℕ)) (first : Option (List ℕ)) (made : List ℕ → Type 0) → ((slice : List ℕ) → o ≡ Some slice → made slice) → (if t then Some None else option_map Some o) ≡ Some first
    → MatchOption first (t ≡ true) (λ slice. (t ≡ false) × made slice)
piece_made true o None made law h = refl
piece_made true o (Some slice) made law h = cc
piece_made false o None made law h = absurd (no_none (map_some Some o None h)) where
  no_none : (x : List ℕ) × (o ≡ Some x) × (Some x ≡ None) → ⊥
  no_none found = let e = found.2 in cc
piece_made false o (Some slice) made law h = let found = map_some Some o (Some slice) h in (refl, law slice (found.1 ∙ found.2))

pub slices_made : (encode : List ℕ → List Cell → Option (List ℕ)) (made : List ℕ → List Cell → List ℕ → Type 0) (fill : Cell) (pieces : List Piece) (slices : List (Option (List ℕ)))
    → ((shape : List ℕ) (cells : List Cell) (slice : List ℕ) → encode shape cells ≡ Some slice → made shape cells slice) → stored_pieces encode fill pieces ≡ Some slices → SlicesMade made fill pieces slices
slices_made encode made fill [] [] law h = tt
slices_made encode made fill [] (slice ∷ slices) law h = cc
slices_made encode made fill (x ∷ xs) slices law h =
    let now = bind_some (λ (first : Option (List ℕ)). option_map (λ (others : List (Option (List ℕ))). first ∷ others) (stored_pieces encode fill xs)) (stored_of fill x.1 (encode x.0 x.1)) slices h in
    let others = map_some (λ (others : List (Option (List ℕ))). now.0 ∷ others) (stored_pieces encode fill xs) slices now.2 in
    subst (SlicesMade made fill (x ∷ xs)) others.2 (piece_made (is_fill fill x.1) (encode x.0 x.1) now.0 (made x.0 x.1) (law x.0 x.1) now.1, slices_made encode made fill xs others.0 law others.1)

-- ---- chains

-- what encoding writes is made
pub encoded_made : (chain : Chain) (elements : Elements) (shape : List ℕ) (cells : List Cell) (made : List ℕ) → encoded chain elements shape cells ≡ Some made → IsMadeOf chain elements shape cells made
encoded_made (bytes order) elements shape cells made h = h
encoded_made (packbits padding first last) elements shape cells made h = h
encoded_made (vlen index «data» width location) elements shape cells made h = h
encoded_made (optional mask values) elements shape cells made h = h
encoded_made (after_array_codec codec chain) elements shape cells made h = encoded_made chain elements (encoded_shape codec shape) (gather elements.fill cells (source_places codec shape)) made h
encoded_made (then_bytes chain codec) elements shape cells made h = h
encoded_made (sharded subchunk inner index location) elements shape cells made h =
    let pairs_shape = index_shape shape subchunk in
    let size = index_size index pairs_shape in
    let base = base_of location size in
    let pieces = pieces_of elements.fill cells (parts_of shape subchunk) in
    let found = bind_some (shard_of (encoded index (zero_filled uint64) pairs_shape) location size) (stored_pieces (encoded inner elements) elements.fill pieces) made h in
    let content = joined_slices found.0 in
    let pairs = pairs_from base found.0 in
    let numbers = encoded index (zero_filled uint64) pairs_shape (pair_cells pairs) in
    let guarded = if_some (nat_lt (base + length content) (2 ^ 64 - 1)) (option_map (λ (front : List ℕ). joined location front content) numbers) made found.2 in
    let front = map_some (λ (front : List ℕ). joined location front content) numbers made guarded.1 in (
      found.0,
      slices_made (encoded inner elements) (IsMadeOf inner elements) elements.fill pieces found.0 (encoded_made inner elements) found.1,
      record {
        pairs = pairs;
        «data» = content;
        index_bytes = front.0;
        are = pairs_in_row base content found.0 [] base refl (omega arith) (ltb-true (base + length content) (2 ^ 64 - 1) guarded.0);
        apart = row_apart base found.0;
        whole = refl;
        written = encoded_made index (zero_filled uint64) pairs_shape (pair_cells pairs) front.0 front.1;
        is = sym front.2;
      },
    )

-- without shards nothing else is
pub plain_made : (chain : Chain) (elements : Elements) (shape : List ℕ) (cells : List Cell) (made : List ℕ) → is_plain chain ≡ true → IsMadeOf chain elements shape cells made → encoded chain elements shape cells ≡ Some made
plain_made (bytes order) elements shape cells made plain h = h
plain_made (packbits padding first last) elements shape cells made plain h = h
plain_made (vlen index «data» width location) elements shape cells made plain h = h
plain_made (optional mask values) elements shape cells made plain h = h
plain_made (after_array_codec codec chain) elements shape cells made plain h = plain_made chain elements (encoded_shape codec shape) (gather elements.fill cells (source_places codec shape)) made plain h
plain_made (then_bytes chain codec) elements shape cells made plain h = h
plain_made (sharded subchunk inner index location) elements shape cells made plain h = cc
