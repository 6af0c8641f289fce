-- What is stored, where it is decoded whole.
use Rattle.std.proofs.Common.{◌≡◌, ◌∙◌, ℕ, List, [], ◌∷◌, ap, sym, subst, inl, inr, map, Option, None, Some, replicate, option_map, option_and_then, Bool, true, false, if◌then◌else◌, MatchBool, Result, Ok, Err}
use Rattle.std.specs.Prelude.{◌⊎◌}
use Rattle.std.proofs.lemmas.Bool.{and_parts}
use Rattle.zarr_grids_boxes.specs.Boxes.{product}
use Rattle.zarr_codecs_meaning.specs.Chains.{ArrayCodec, Chain}
use Rattle.zarr_codecs_meaning.specs.Chains.ArrayCodec.{transpose, reshape, squeeze}
use Rattle.zarr_codecs_meaning.specs.Chains.Chain.{bytes, packbits, vlen, optional, after_array_codec, then_bytes, sharded}
use Rattle.zarr_codecs_meaning.specs.Chunks.{chunk_decoded}
use Rattle.zarr_codecs_meaning.specs.Decoding.{decoded, is_absent, pairs_in, pieces_decoded, slice_at}
use Rattle.zarr_codecs_meaning.specs.Encoding.{Pair, index_size}
use Rattle.zarr_codecs_meaning.specs.Fits.{is_plain}
use Rattle.zarr_codecs_meaning.specs.Keeping.{arranged}
use Rattle.zarr_codecs_meaning.specs.Partial.{encodes_in_part}
use Rattle.zarr_codecs_meaning.specs.Places.{Part, encoded_shape, gather, index_shape, parts_of, place_numbers, position_of, source_places, undone_places}
use Rattle.zarr_codecs_meaning.specs.Types.{Cell, Elements, uint64, zero_filled}
use Rattle.zarr_codecs_meaning.proofs.Lists.{bind_some, map_some, some_same}
use Rattle.zarr_codecs_arrays.specs.declared.error.CodecError.{CodecError}
use Rattle.zarr_codecs_arrays.specs.declared.error.CodecError.TheVariants as error
use Rattle.zarr_codecs_traits.specs.Arrays.{Coded, Update}
use Rattle.zarr_codecs_traits.specs.Indexers.{numbers_asked}
use Rattle.zarr_codecs_traits.specs.PartWriting.{IsDamaged, IsLostAmong, IsPlaced, LacksRoom, MeetsLost, NotEncodedInto, NotEncodedWhole, NotPut, NotTaken, PartsRefused, StopsPart, StopsWrite, WholeRefused, WriteRefuses, cells_after, write_of}
use Rattle.zarr_sharding_changes.specs.Compactions.{compaction, damaged, nothing_to_gain, undone_compaction}

-- ---- a value that is decoded has lost nothing

pieces_intact : (inner : List ℕ → List ℕ → Option (List Cell)) (fill : Cell) (value numbers : List ℕ) (parts : List Part) (pairs : List Pair) (pieces : List (List Cell)) → pieces_decoded inner fill value parts pairs ≡ Some pieces
    → IsLostAmong inner value numbers parts pairs → ⊥
pieces_intact inner fill value numbers [] pairs pieces is lost = lost
pieces_intact inner fill value numbers (part ∷ parts) [] pieces is lost = lost
pieces_intact inner fill value numbers (part ∷ parts) (pair ∷ pairs) pieces is (inl lost) =
    let read = option_and_then (inner part.shape) (slice_at value pair) in
    let first = bind_some (λ cells. option_map (λ others. cells ∷ others) (pieces_decoded inner fill value parts pairs)) (if is_absent pair then Some (replicate (product part.shape) fill) else read) pieces is in
    let there : read ≡ Some first.0 = ap (λ (b : Bool). if b then Some (replicate (product part.shape) fill) else read) (sym lost.1) ∙ first.1 in
    let none = lost.2 in cc
pieces_intact inner fill value numbers (part ∷ parts) (pair ∷ pairs) pieces is (inr lost) =
    let read = option_and_then (inner part.shape) (slice_at value pair) in
    let first = bind_some (λ cells. option_map (λ others. cells ∷ others) (pieces_decoded inner fill value parts pairs)) (if is_absent pair then Some (replicate (product part.shape) fill) else read) pieces is in
    let others = map_some (λ others. first.0 ∷ others) (pieces_decoded inner fill value parts pairs) pieces first.2 in pieces_intact inner fill value numbers parts pairs others.0 others.1 lost

pub decoded_intact : (chain : Chain) (elements : Elements) (shape value numbers : List ℕ) (cells : List Cell) → decoded chain elements shape value ≡ Some cells → MeetsLost chain elements shape value numbers → ⊥
decoded_intact (bytes order) elements shape value numbers cells is lost = lost
decoded_intact (packbits padding first last) elements shape value numbers cells is lost = lost
decoded_intact (vlen index «data» width location) elements shape value numbers cells is lost = lost
decoded_intact (optional mask values) elements shape value numbers cells is lost = lost
decoded_intact (after_array_codec codec chain) elements shape value numbers cells is lost =
    let found = map_some (λ others. gather elements.fill others (undone_places codec shape)) (decoded chain elements (encoded_shape codec shape) value) cells is in
    decoded_intact chain elements (encoded_shape codec shape) value (map (λ n. position_of n (source_places codec shape)) numbers) found.0 found.1 lost
decoded_intact (then_bytes chain codec) elements shape value numbers cells is lost = cc
decoded_intact (sharded subchunk inner index location) elements shape value numbers cells is lost =
    let pairs_shape = index_shape shape subchunk in
    let parts = parts_of shape subchunk in
    let whole = λ (pieces : List (List Cell)). map (arranged elements.fill parts pieces) (place_numbers shape) in
    let found = bind_some (λ pairs. option_map whole (pieces_decoded (decoded inner elements) elements.fill value parts pairs)) (pairs_in (decoded index (zero_filled uint64) pairs_shape) location (index_size index pairs_shape) value) cells is in
    let pieces = map_some whole (pieces_decoded (decoded inner elements) elements.fill value parts found.0) cells found.2 in
    let same : lost.0 ≡ found.0 = some_same (sym lost.1 ∙ found.1) in
    pieces_intact (decoded inner elements) elements.fill value numbers parts found.0 pieces.0 pieces.1 (subst (λ pairs. IsLostAmong (decoded inner elements) value numbers parts pairs) same lost.2)

-- ---- chains that are not encoded in part, and those that are

pub whole_damaged : (chain : Chain) (elements : Elements) (shape : List ℕ) (stored : Option (List ℕ)) (numbers : List ℕ) → encodes_in_part chain ≡ false → chunk_decoded chain elements shape stored ≡ None → IsDamaged chain elements shape stored numbers
whole_damaged chain elements shape None numbers whole is = absurd (cc)
whole_damaged chain elements shape (Some value) numbers whole is =
    subst (λ (b : Bool). MatchBool b (StopsPart chain elements shape value numbers) (decoded chain elements shape value ≡ None)) (sym whole) is

pub part_damaged : (chain : Chain) (elements : Elements) (shape value numbers : List ℕ) → encodes_in_part chain ≡ true → StopsPart chain elements shape value numbers → IsDamaged chain elements shape (Some value) numbers
part_damaged chain elements shape value numbers partly is = subst (λ (b : Bool). MatchBool b (StopsPart chain elements shape value numbers) (decoded chain elements shape value ≡ None)) (sym partly) is

-- what stops a write in part
pub stops_part : (chain : Chain) (elements : Elements) (shape value numbers : List ℕ) → encodes_in_part chain ≡ true → IsDamaged chain elements shape (Some value) numbers → StopsPart chain elements shape value numbers
stops_part chain elements shape value numbers partly is = subst (λ (b : Bool). MatchBool b (StopsPart chain elements shape value numbers) (decoded chain elements shape value ≡ None)) partly is

-- what is damaged behind an array codec is damaged before it
pub damaged_before : (codec : ArrayCodec) (chain : Chain) (elements : Elements) (shape : List ℕ) (stored : Option (List ℕ)) (numbers : List ℕ) → encodes_in_part (after_array_codec codec chain) ≡ encodes_in_part chain
    → IsDamaged chain elements (encoded_shape codec shape) stored (map (λ n. position_of n (source_places codec shape)) numbers) → IsDamaged (after_array_codec codec chain) elements shape stored numbers
damaged_before codec chain elements shape None numbers same is = is
damaged_before codec chain elements shape (Some value) numbers same is =
    let moved = map (λ n. position_of n (source_places codec shape)) numbers in
    let undone = λ (cells : List Cell). gather elements.fill cells (undone_places codec shape) in
    subst (λ (b : Bool). MatchBool b (StopsPart (after_array_codec codec chain) elements shape value numbers) (decoded (after_array_codec codec chain) elements shape value ≡ None)) (sym same)
    (by (encodes_in_part chain) moved undone is) where
      by : (b : Bool) (moved : List ℕ) (undone : List Cell → List Cell) → MatchBool b (StopsPart chain elements (encoded_shape codec shape) value moved) (decoded chain elements (encoded_shape codec shape) value ≡ None)
          → MatchBool b (StopsPart chain elements (encoded_shape codec shape) value moved) (option_map undone (decoded chain elements (encoded_shape codec shape) value) ≡ None)
      by true moved undone h = h
      by false moved undone h = ap (option_map undone) h

-- ---- slices in the data part

-- a chain without shards has none
no_shard_damaged : (chain : Chain) (shape value : List ℕ) → is_plain chain ≡ true → compaction chain shape value ≡ damaged → ⊥
no_shard_damaged (bytes order) shape value plain is = cc
no_shard_damaged (packbits padding first last) shape value plain is = cc
no_shard_damaged (vlen index «data» width location) shape value plain is = cc
no_shard_damaged (optional mask values) shape value plain is = cc
no_shard_damaged (after_array_codec codec chain) shape value plain is = no_shard_damaged chain (encoded_shape codec shape) value plain is
no_shard_damaged (then_bytes chain codec) shape value plain is =
    let e : nothing_to_gain ≡ damaged = sym (ap (λ (b : Bool). if b then nothing_to_gain else undone_compaction codec (compaction chain shape) value) plain) ∙ is in cc
no_shard_damaged (sharded subchunk inner index location) shape value plain is = cc

pub plain_placed : (chain : Chain) (shape : List ℕ) (stored : Option (List ℕ)) → is_plain chain ≡ true → IsPlaced chain shape stored
plain_placed chain shape None plain = tt
plain_placed chain shape (Some value) plain = λ partly is. no_shard_damaged chain shape value plain is

pub whole_placed : (chain : Chain) (shape : List ℕ) (stored : Option (List ℕ)) → encodes_in_part chain ≡ false → IsPlaced chain shape stored
whole_placed chain shape None whole = tt
whole_placed chain shape (Some value) whole = λ partly is. (let e : true ≡ false = sym partly ∙ whole in cc)

partly_inside : (codec : ArrayCodec) (chain : Chain) → encodes_in_part (after_array_codec codec chain) ≡ true → encodes_in_part chain ≡ true
partly_inside (transpose order) chain partly = partly
partly_inside (reshape entries) chain partly = (and_parts (is_plain chain) (encodes_in_part chain) partly).1
partly_inside squeeze chain partly = partly

pub placed_before : (codec : ArrayCodec) (chain : Chain) (shape : List ℕ) (stored : Option (List ℕ)) → IsPlaced chain (encoded_shape codec shape) stored → IsPlaced (after_array_codec codec chain) shape stored
placed_before codec chain shape None is = tt
placed_before codec chain shape (Some value) is = λ partly lost. is (partly_inside codec chain partly) lost

-- ---- elements that are not taken are not put, whatever counts as damage

pub not_put : {A : Type 0} (less more : Type 0) (few many : List Cell → Type 0) (array : Coded) (update : Update) (r : Result A CodecError) → (less → more) → ((after : List Cell) → few after → many after)
    → NotPut less few array update r → NotPut more many array update r
not_put less more few many array update (Ok value) law wider h = tt
not_put less more few many array update (Err error.Fit) law wider h = h
not_put less more few many array update (Err error.IncompatibleIndexer) law wider h = h
not_put less more few many array update (Err error.Size) law wider h = h
not_put less more few many array update (Err error.Codec) law wider h =
    record { cells = h.cells; valid = h.valid; fit = h.fit; inside = h.inside; is = wider (cells_after array update.stored (numbers_asked array.shape update.asked) h.cells) h.is }
not_put less more few many array update (Err error.Damage) law wider h = (h.0, law h.1)
not_put less more few many array update (Err error.Source) law wider h = tt
not_put less more few many array update (Err error.Memory) law wider h = tt
not_put less more few many array update (Err e) law wider h = h

-- ---- what is refused where the whole is asked for, and before anything is

pub whole_not_put : {A : Type 0} (array : Coded) (update : Update) (r : Result A CodecError) → encodes_in_part array.chain ≡ false → NotEncodedWhole array update r → NotEncodedInto array update r
whole_not_put array update r whole h =
    let refused = λ (after : List Cell). WholeRefused array.chain array.elements array.shape after in
    not_put (chunk_decoded array.chain array.elements array.shape update.stored ≡ None) (StopsWrite array update) refused (WriteRefuses array update) array update r
    (λ none. inl (whole_damaged array.chain array.elements array.shape update.stored (numbers_asked array.shape update.asked) whole none))
    (λ after is. subst (λ (b : Bool). MatchBool b (PartsRefused array.chain array.elements array.shape (write_of array update after) ⊎ (LacksRoom array update × refused after)) (refused after)) (sym whole) is) h

pub untaken_not_put : {A : Type 0} (array : Coded) (update : Update) (r : Result A CodecError) → NotTaken array update r → NotEncodedInto array update r
untaken_not_put array update r h = not_put ⊥ (StopsWrite array update) (λ after. ⊥) (WriteRefuses array update) array update r (λ none. absurd none) (λ after none. absurd none) h

-- what isn't written whole, where there was no room for the new slices
pub unroomed_not_put : {A : Type 0} (array : Coded) (update : Update) (r : Result A CodecError) → encodes_in_part array.chain ≡ true → LacksRoom array update → NotEncodedWhole array update r → NotEncodedInto array update r
unroomed_not_put array update r partly room h =
    let refused = λ (after : List Cell). WholeRefused array.chain array.elements array.shape after in
    not_put (chunk_decoded array.chain array.elements array.shape update.stored ≡ None) (StopsWrite array update) refused (WriteRefuses array update) array update r (λ none. inr (none, room))
    (λ after is. subst (λ (b : Bool). MatchBool b (PartsRefused array.chain array.elements array.shape (write_of array update after) ⊎ (LacksRoom array update × refused after)) (refused after)) (sym partly) (inr (room, is))) h
