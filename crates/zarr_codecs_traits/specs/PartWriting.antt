-- What is stored for an array after some of its elements were replaced.
use Rattle.std.specs.Prelude.{◌≡◌, ◌⊎◌, ℕ, ◌+◌, ◌^◌, ◌<◌, ◌≤◌, List, [], ◌∷◌, map, length, get_or, Option, Some, None, unwrap_or, option_and_then, Result, Ok, Err, Bool, true, false, nat_lt, IsTrue, MatchBool, MatchOption}
use Rattle.std.specs.List.{list_all, list_any}
use Rattle.std.specs.Option.{option_map_or}
use Rattle.zarr_grids_boxes.specs.Boxes.{product}
use Rattle.zarr_codecs_meaning.specs.Chains.{ArrayCodec, Chain}
use Rattle.zarr_codecs_meaning.specs.Chains.Chain.{bytes, packbits, vlen, optional, after_array_codec, then_bytes, sharded}
use Rattle.zarr_codecs_meaning.specs.Chunks.{chunk_decoded, chunk_part}
use Rattle.zarr_codecs_meaning.specs.Decoding.{decoded, is_absent, opens, pairs_in, slice_at}
use Rattle.zarr_codecs_meaning.specs.Encoding.{Pair, base_of, encoded, index_size, pair_cells}
use Rattle.zarr_codecs_meaning.specs.Fits.{fits, is_lossless, is_plain, is_size_as, representation_of}
use Rattle.zarr_codecs_meaning.specs.Partial.{encodes_in_part}
use Rattle.zarr_codecs_meaning.specs.Laws.{AreCells}
use Rattle.zarr_codecs_meaning.specs.Places.{Part, encoded_shape, gather, index_shape, parts_of, place_numbers, position_of, source_places}
use Rattle.zarr_codecs_meaning.specs.Making.{IsMadeOf}
use Rattle.zarr_codecs_meaning.specs.Refusals.{CodecRefuses, PassesIndex}
use Rattle.zarr_codecs_meaning.specs.Standing.{ChunkStands, Tight}
use Rattle.zarr_codecs_meaning.specs.Types.{Cell, Elements, is_fill, uint64, zero_filled, IsTooLarge}
use Rattle.zarr_sharding_changes.specs.Changes.{Change, appended}
use Rattle.zarr_sharding_changes.specs.Compactions.{compaction, damaged}
use Rattle.zarr_sharding_changes.specs.Gapless.{IsGapless}
use Rattle.zarr_sharding_changes.specs.HeldShards.{HeldShard, held_after, held_in}
use Rattle.zarr_codecs_arrays.specs.Outcomes.{IsInvalid, IsValid}
use Rattle.zarr_codecs_arrays.specs.declared.error.CodecError.{CodecError}
use Rattle.zarr_codecs_arrays.specs.declared.error.CodecError.TheVariants as error
use Rattle.zarr_codecs_traits.specs.Arrays.{Coded, Update}
use Rattle.zarr_codecs_traits.specs.Indexers.{are_inside, numbers_asked, put}
use Rattle.zarr_codecs_traits.specs.Sources.{value_length}
use Rattle.zarr_codecs_traits.specs.Writes.{accepted_after}

-- ---- what is stored

-- the cell at each place, or that there is none: each place is read by itself
abbrev pub cells_shown : Chain → Elements → List ℕ → Option (List ℕ) → List (Option (List Cell))
cells_shown chain elements shape stored = map (λ n. chunk_part chain elements shape stored (n ∷ [])) (place_numbers shape)

-- the cell that was read, or another one where none was
abbrev pub only_cell : Cell → Option (List Cell) → Cell
only_cell other read = get_or (unwrap_or read []) 0 other

-- the cells of an array after new ones were put at the places with these numbers: elsewhere what is stored is read, and where that can't be, the fill value stands
abbrev pub cells_after : Coded → Option (List ℕ) → List ℕ → List Cell → List Cell
cells_after array stored numbers cells = put numbers cells (map (only_cell array.elements.fill) (cells_shown array.chain array.elements array.shape stored))

-- what is stored for cells, each slice of a shard as encoding writes it: no value for the fill value alone
abbrev pub ChunkTight : Chain → Elements → List ℕ → Option (List ℕ) → List Cell → Type 0
ChunkTight chain elements shape stored cells = MatchOption stored (is_fill elements.fill cells ≡ true) (λ value. Tight chain elements shape value cells)

-- a fact of each list of cells that an array may have
abbrev pub OnCells : Elements → List ℕ → (List Cell → Type 0) → Type 0
OnCells elements shape fact = (before : List Cell) → AreCells elements shape before → fact before

-- whether one of the places with these numbers lies in a subchunk
abbrev pub is_met : List ℕ → Part → Bool
is_met numbers part = list_any (λ n. nat_lt (position_of n part.places) (length part.places)) numbers

-- a subchunk that one of the places lies in is present in a value, and isn't decoded: its slice ends past the value, or its chain can't decode it
abbrev pub IsLostAmong : (List ℕ → List ℕ → Option (List Cell)) → List ℕ → List ℕ → List Part → List Pair → Type 0
IsLostAmong inner value numbers [] pairs = ⊥
IsLostAmong inner value numbers (part ∷ parts) [] = ⊥
IsLostAmong inner value numbers (part ∷ parts) (pair ∷ pairs) =
    ((is_met numbers part ≡ true) × (is_absent pair ≡ false) × (option_and_then (inner part.shape) (slice_at value pair) ≡ None)) ⊎ IsLostAmong inner value numbers parts pairs

-- a write at these places meets what can't be decoded: in a shard a subchunk that one of the places lies in, even where all of it is overwritten; if bytes codecs follow, anything in the value. Other values have no such parts: they open whole, or not at all
abbrev pub MeetsLost : Chain → Elements → List ℕ → List ℕ → List ℕ → Type 0
MeetsLost (bytes order) elements shape value numbers = ⊥
MeetsLost (packbits padding first last) elements shape value numbers = ⊥
MeetsLost (vlen index «data» width location) elements shape value numbers = ⊥
MeetsLost (optional mask values) elements shape value numbers = ⊥
MeetsLost (after_array_codec codec chain) elements shape value numbers = MeetsLost chain elements (encoded_shape codec shape) value (map (λ n. position_of n (source_places codec shape)) numbers)
MeetsLost (then_bytes chain codec) elements shape value numbers = decoded (then_bytes chain codec) elements shape value ≡ None
MeetsLost (sharded subchunk inner index location) elements shape value numbers =
    let pairs_shape = index_shape shape subchunk in
    (pairs : List Pair) × (pairs_in (decoded index (zero_filled uint64) pairs_shape) location (index_size index pairs_shape) value ≡ Some pairs)
    × IsLostAmong (decoded inner elements) value numbers (parts_of shape subchunk) pairs

-- no present slice of a shard lies outside the shard's data part, where the chain is encoded in part
abbrev pub IsPlaced : Chain → List ℕ → Option (List ℕ) → Type 0
IsPlaced chain shape stored = MatchOption stored (Unit {0}) (λ value. encodes_in_part chain ≡ true → compaction chain shape value ≡ damaged → ⊥)

-- new cells were put at the places that are asked for: what is stored for the array changed so, whatever was stored
pub record IsEncodedInto (array : Coded) (exact : Bool) (update : Update) (cells : List Cell) (new : Option (List ℕ)) : Type 0 where
  pub valid : IsValid array.elements.type update.payload (length (numbers_asked array.shape update.asked)) cells
  pub fit : fits array.chain array.elements.type array.shape ≡ true
  pub inside : are_inside array.shape update.asked ≡ true
  -- a value that can't be read at all is not written over
  pub opened : MatchOption update.stored (Unit {0}) (λ value. opens array.chain array.elements array.shape value ≡ true)
  -- nor over a subchunk that isn't decoded, where one of the places lies in it
  pub none_lost : MatchOption update.stored (Unit {0}) (λ value. ¬ MeetsLost array.chain array.elements array.shape value (numbers_asked array.shape update.asked))
  -- what stood for cells stands for the updated ones
  pub stands : is_lossless array.chain array.elements.type ≡ true → OnCells array.elements array.shape (λ before. ChunkStands array.chain array.elements array.shape update.stored before
      → ChunkStands array.chain array.elements array.shape new (put (numbers_asked array.shape update.asked) cells before))
  pub tight : IsTrue exact → is_lossless array.chain array.elements.type ≡ true → OnCells array.elements array.shape (λ before. ChunkTight array.chain array.elements array.shape update.stored before
      → ChunkTight array.chain array.elements array.shape new (put (numbers_asked array.shape update.asked) cells before))
  -- a shard that is all fill is taken away
  pub absent : is_plain array.chain ≡ false → is_lossless array.chain array.elements.type ≡ true → OnCells array.elements array.shape (λ before. ChunkStands array.chain array.elements array.shape update.stored before
      → is_fill array.elements.fill (put (numbers_asked array.shape update.asked) cells before) ≡ true → new ≡ None)
  -- without shards what is stored is the updated cells encoded, also those of a chain that drops bits; all fill keeps its value
  pub encodes : is_plain array.chain ≡ true → OnCells array.elements array.shape (λ before. chunk_decoded array.chain array.elements array.shape update.stored ≡ Some before
      → (value : List ℕ) × (new ≡ Some value) × (encoded array.chain array.elements array.shape (put (numbers_asked array.shape update.asked) cells before) ≡ Some value))
  -- each other place is read as before, also where another one can't be
  pub shows : is_lossless array.chain array.elements.type ≡ true → cells_shown array.chain array.elements array.shape new
      ≡ put (numbers_asked array.shape update.asked) (map (λ cell. Some (cell ∷ [])) cells) (cells_shown array.chain array.elements array.shape update.stored)

-- new elements were put at the places that are asked for
abbrev pub EncodesInto : Coded → Bool → Update → Option (List ℕ) → Type 0
EncodesInto array exact update new = (cells : List Cell) × IsEncodedInto array exact update cells new

-- ---- why nothing is written

-- a slice that a write may make of a subchunk's cells: one that its chain may make of them, with no gaps, and as long as the chain tells
pub record IsNewSlice (chain : Chain) (elements : Elements) (shape : List ℕ) (cells : List Cell) (slice : List ℕ) : Type 0 where
  pub made : IsMadeOf chain elements shape cells slice
  pub sized : is_size_as (representation_of chain elements.type shape) (length slice) ≡ true
  pub gapless : IsGapless chain shape slice

-- a write at the places with these numbers, into what is stored: the cells that the array then has
pub record AfterWrite : Type 0 where
  pub numbers : List ℕ
  pub stored : Option (List ℕ)
  pub cells : List Cell

-- the same, put together
abbrev pub after_write : List ℕ → Option (List ℕ) → List Cell → AfterWrite
after_write numbers stored cells = record { numbers = numbers; stored = stored; cells = cells }

-- the same write as an array codec moves its places and cells
abbrev pub write_moved : ArrayCodec → Cell → List ℕ → AfterWrite → AfterWrite
write_moved codec fill shape write = after_write (map (λ n. position_of n (source_places codec shape)) write.numbers) write.stored (gather fill write.cells (source_places codec shape))

-- no subchunk
abbrev pub no_part : Part
no_part = record { shape = []; places = [] }

-- the number of the subchunk of a change
abbrev pub number_at : List Change → ℕ → ℕ
number_at changes i = (get_or changes i (0, None)).0

-- that subchunk
abbrev pub part_at : List Part → List Change → ℕ → Part
part_at parts changes i = get_or parts (number_at changes i) no_part

-- changes are of the subchunks that one of the places with these numbers lies in, of all of them, one of each, in the order of their numbers
pub record AreMet (numbers : List ℕ) (parts : List Part) (changes : List Change) : Type 0 where
  pub below : (i : ℕ) → i < length changes → number_at changes i < length parts
  pub met : (i : ℕ) → i < length changes → is_met numbers (part_at parts changes i) ≡ true
  pub rising : (i j : ℕ) → i < j → j < length changes → number_at changes i < number_at changes j
  pub all : (k : ℕ) → k < length parts → is_met numbers (get_or parts k no_part) ≡ true → (i : ℕ) × (i < length changes) × (number_at changes i ≡ k)

-- the slice of each change was made of its subchunk's cells; there is none where they are all fill
abbrev pub NewSlicesMade : (List ℕ → List Cell → List ℕ → Type 0) → Cell → List Cell → List Part → List Change → Type 0
NewSlicesMade made fill cells parts changes = (i : ℕ) → i < length changes → let piece = gather fill cells (part_at parts changes i).places in
    MatchOption (get_or changes i (0, None)).1 (is_fill fill piece ≡ true) (λ slice. (is_fill fill piece ≡ false) × made (part_at parts changes i).shape piece slice)

-- what a write changes in a shard: each subchunk that one of its places lies in has a new slice, made of its cells, or none where they are all fill
pub record AreNewSlices (inner : Chain) (elements : Elements) (parts : List Part) (write : AfterWrite) (changes : List Change) : Type 0 where
  pub met : AreMet write.numbers parts changes
  pub made : NewSlicesMade (IsNewSlice inner elements) elements.fill write.cells parts changes

-- what is stored has 2^63 bytes or more; or it would have so many with the new slices of the subchunks that a write meets put behind it, or behind an index where nothing is stored
abbrev pub PassesLength : Chain → Elements → List ℕ → AfterWrite → Type 0
PassesLength (bytes order) elements shape write = ⊥
PassesLength (packbits padding first last) elements shape write = ⊥
PassesLength (vlen index «data» width location) elements shape write = ⊥
PassesLength (optional mask values) elements shape write = ⊥
PassesLength (after_array_codec codec chain) elements shape write = PassesLength chain elements (encoded_shape codec shape) (write_moved codec elements.fill shape write)
PassesLength (then_bytes chain codec) elements shape write = ⊥
PassesLength (sharded subchunk inner index location) elements shape write =
    (2 ^ 63 ≤ value_length write.stored)
    ⊎ ((changes : List Change) × AreNewSlices inner elements (parts_of shape subchunk) write changes
    × (2 ^ 63 ≤ option_map_or length write.stored (index_size index (index_shape shape subchunk)) + length (appended changes)))

-- a subchunk that one of the places lies in, and that isn't all fill then, is refused
abbrev pub MetRefused : (List ℕ → List Cell → Type 0) → Cell → AfterWrite → List Part → Type 0
MetRefused refused fill write [] = ⊥
MetRefused refused fill write (part ∷ parts) =
    ((is_met write.numbers part ≡ true) × (is_fill fill (gather fill write.cells part.places) ≡ false) × refused part.shape (gather fill write.cells part.places)) ⊎ MetRefused refused fill write parts

-- a caller's codec refuses what a write asks it to encode of the parts that it meets: in a shard what a met subchunk's chain is asked, or, if a subchunk is present after the met ones got their new slices behind the data part, the index of the pairs then
abbrev pub PartsRefused : Chain → Elements → List ℕ → AfterWrite → Type 0
PartsRefused (bytes order) elements shape write = ⊥
PartsRefused (packbits padding first last) elements shape write = ⊥
PartsRefused (vlen index «data» width location) elements shape write = ⊥
PartsRefused (optional mask values) elements shape write = ⊥
PartsRefused (after_array_codec codec chain) elements shape write = PartsRefused chain elements (encoded_shape codec shape) (write_moved codec elements.fill shape write)
PartsRefused (then_bytes chain codec) elements shape write = ⊥
PartsRefused (sharded subchunk inner index location) elements shape write =
    let parts = parts_of shape subchunk in
    let pairs_shape = index_shape shape subchunk in
    let base = base_of location (index_size index pairs_shape) in
    MetRefused (CodecRefuses inner elements) elements.fill write parts
    ⊎ ((held : HeldShard) × (changes : List Change) × (held_in subchunk index location shape write.stored ≡ Some held) × AreNewSlices inner elements parts write changes
    × (list_all is_absent (held_after base changes held).pairs ≡ false) × CodecRefuses index (zero_filled uint64) pairs_shape (pair_cells (held_after base changes held).pairs))

-- a caller's codec refuses what encoding all of an array's cells asks it to encode, if there is a value of them: a shard that is all fill is taken away
abbrev pub WholeRefused : Chain → Elements → List ℕ → List Cell → Type 0
WholeRefused chain elements shape cells = (is_plain chain ≡ false → is_fill elements.fill cells ≡ false) × CodecRefuses chain elements shape cells

-- valid elements for places of an array that the chain suits, and a fact of the cells that the array has after they were put there
pub record AfterPut (array : Coded) (update : Update) (fact : List Cell → Type 0) : Type 0 where
  pub cells : List Cell
  pub valid : IsValid array.elements.type update.payload (length (numbers_asked array.shape update.asked)) cells
  pub fit : fits array.chain array.elements.type array.shape ≡ true
  pub inside : are_inside array.shape update.asked ≡ true
  pub is : fact (cells_after array update.stored (numbers_asked array.shape update.asked) cells)

-- a value that can be written in part isn't, at the places with these numbers: it can't be read at all, or the write meets in it what can't be decoded, or a present slice of a shard lies outside the shard's data part
abbrev pub StopsPart : Chain → Elements → List ℕ → List ℕ → List ℕ → Type 0
StopsPart chain elements shape value numbers = (opens chain elements shape value ≡ false) ⊎ (MeetsLost chain elements shape value numbers ⊎ (compaction chain shape value ≡ damaged))

-- what is stored is damaged for a write at the places with these numbers. Where the chain is encoded in part, the parts that the write doesn't meet don't matter; else the value can't be decoded
abbrev pub IsDamaged : Chain → Elements → List ℕ → Option (List ℕ) → List ℕ → Type 0
IsDamaged chain elements shape stored numbers = MatchOption stored ⊥ (λ value. MatchBool (encodes_in_part chain) (StopsPart chain elements shape value numbers) (decoded chain elements shape value ≡ None))

-- the write that an update is, by the cells that the array has then
abbrev pub write_of : Coded → Update → List Cell → AfterWrite
write_of array update after = after_write (numbers_asked array.shape update.asked) update.stored after

-- there is no room behind what is stored for the new slices of the subchunks that the places lie in: put there, they would make 2^63 bytes or more
abbrev pub LacksRoom : Coded → Update → Type 0
LacksRoom array update = AfterPut array update (λ after. PassesLength array.chain array.elements array.shape (write_of array update after))

-- what is stored can't be decoded, and would have to be, since there is no room behind it for the new slices
abbrev pub HasNoRoom : Coded → Update → Type 0
HasNoRoom array update = (chunk_decoded array.chain array.elements array.shape update.stored ≡ None) × LacksRoom array update

-- why new elements are not put at the places that are asked for, with this for damage, and this for a codec that refuses the cells that the array would have
abbrev pub NotPut : {A : Type 0} → Type 0 → (List Cell → Type 0) → Coded → Update → Result A CodecError → Type 0
NotPut damage refuses array update (Ok value) = Unit {0}
NotPut damage refuses array update (Err error.Fit) = fits array.chain array.elements.type array.shape ≡ false
NotPut damage refuses array update (Err error.IncompatibleIndexer) = are_inside array.shape update.asked ≡ false
NotPut damage refuses array update (Err error.Size) =
    IsTooLarge array.elements.type (product array.shape)
    ⊎ AfterPut array update (λ after. PassesIndex array.chain array.elements array.shape after ⊎ PassesLength array.chain array.elements array.shape (write_of array update after))
NotPut damage refuses array update (Err error.Codec) = AfterPut array update refuses
NotPut damage refuses array update (Err error.Damage) = (fits array.chain array.elements.type array.shape ≡ true) × damage
NotPut damage refuses array update (Err error.Source) = Unit {0}
NotPut damage refuses array update (Err error.Memory) = Unit {0}
NotPut damage refuses array update (Err e) = (fits array.chain array.elements.type array.shape ≡ true) × IsInvalid array.elements.type update.payload (length (numbers_asked array.shape update.asked)) e

-- what is stored stops a write of these elements
abbrev pub StopsWrite : Coded → Update → Type 0
StopsWrite array update = IsDamaged array.chain array.elements array.shape update.stored (numbers_asked array.shape update.asked) ⊎ HasNoRoom array update

-- a caller's codec refuses what a write asks it to encode, by the cells that the array would have: where the chain is encoded in part, what is asked for the parts that the write meets, or, where there is no room for these, for the whole; else what is asked for the whole
abbrev pub WriteRefuses : Coded → Update → List Cell → Type 0
WriteRefuses array update after =
    let whole = WholeRefused array.chain array.elements array.shape after in
    MatchBool (encodes_in_part array.chain) (PartsRefused array.chain array.elements array.shape (write_of array update after) ⊎ (LacksRoom array update × whole)) whole

-- why new elements are not put at the places that are asked for
abbrev pub NotEncodedInto : {A : Type 0} → Coded → Update → Result A CodecError → Type 0
NotEncodedInto array update result = NotPut (StopsWrite array update) (WriteRefuses array update) array update result

-- the same where the value is decoded whole and written anew: it is damaged where it isn't decoded, and the whole is what is asked for
abbrev pub NotEncodedWhole : {A : Type 0} → Coded → Update → Result A CodecError → Type 0
NotEncodedWhole array update result =
    NotPut (chunk_decoded array.chain array.elements array.shape update.stored ≡ None) (WholeRefused array.chain array.elements array.shape) array update result

-- the same before anything is read, which tells of no damage and asks no codec
abbrev pub NotTaken : {A : Type 0} → Coded → Update → Result A CodecError → Type 0
NotTaken array update result = NotPut ⊥ (λ after. ⊥) array update result

-- at most one writing call was accepted, and none where the call is refused (a count stands still at 2^128 - 1)
abbrev pub WritesOnce : {A : Type 0} → ℕ → ℕ → Result A CodecError → Type 0
WritesOnce before after (Ok value) = (after ≡ before) ⊎ (after ≡ accepted_after before (Ok value))
WritesOnce before after (Err e) = after ≡ before
