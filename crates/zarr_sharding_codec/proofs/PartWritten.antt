-- A part of an array was written into its shard, or why it wasn't.
use Rattle.std.proofs.Common.{◌≡◌, ◌⊎◌, ◌∙◌, inl, inr, ℕ, zero, suc, ◌+◌, ◌/◌, ◌<◌, ◌^◌, List, [], ◌∷◌, length, get_or, ap, sym, subst, arith, Bool, true, false, Option, Some, None, is_some, IsTrue, MatchOption, Result, Ok, Err}
use Rattle.std.proofs.lemmas.List.{length-map}
use Rattle.std.specs.Prelude.{nat_lt}
use Rattle.std.specs.List.{list_all}
use Rattle.zarr_grids_boxes.specs.Boxes.{product}
use Rattle.zarr_codecs_arrays.specs.declared.error.CodecError.{CodecError}
use Rattle.zarr_codecs_arrays.specs.declared.error.CodecError.TheVariants as error
use Rattle.zarr_codecs_meaning.specs.Chains.{Chain, Location, sharded}
use Rattle.zarr_codecs_meaning.specs.Decoding.{opens}
use Rattle.zarr_codecs_meaning.specs.Encoding.{Pair, Piece, absent_pair, index_size, pair_cells, piece_of, pieces_of}
use Rattle.zarr_codecs_meaning.specs.Laws.{IsLawfulChain}
use Rattle.zarr_codecs_meaning.specs.Payloads.{Payload}
use Rattle.zarr_codecs_meaning.specs.Places.{Part, gather, index_shape, parts_of}
use Rattle.zarr_codecs_meaning.specs.Refusals.{CodecRefuses, PassesIndex, PieceRefused}
use Rattle.zarr_codecs_meaning.specs.Types.{Cell, Elements, is_fill, is_value, uint64, zero_filled}
use Rattle.zarr_codecs_meaning.specs.Standing.{index_layout}
use Rattle.zarr_codecs_meaning.proofs.Fitting.{fitted}
use Rattle.zarr_codecs_meaning.proofs.Parts.{index_product, no_part}
use Rattle.zarr_codecs_traits.specs.Indexers.{Asked, numbers_asked}
use Rattle.zarr_codecs_traits.specs.Arrays.{coded, update_of}
use Rattle.zarr_codecs_traits.specs.PartWriting.{AfterPut, AfterWrite, IsDamaged, IsEncodedInto, MeetsLost, MetRefused, NotEncodedInto, PassesLength, WriteRefuses, after_write, cells_after, is_met, write_of}
use Rattle.zarr_sharding_changes.specs.Changes.{Change, appended, pairs_after}
use Rattle.zarr_sharding_changes.specs.HeldShards.{held_shard}
use Rattle.zarr_sharding_places.specs.Locating.{part_shape}
use Rattle.zarr_sharding_places.specs.Pieces.{piece_decoded}
use Rattle.zarr_sharding_index.specs.Held.{IsOpened, are_absent, held_as, index_coding}
use Rattle.zarr_sharding_index.specs.Written.{IsChanged}
use Rattle.zarr_sharding_index.specs.Opened as opening
use Rattle.zarr_sharding_index.proofs.Counts.{changed_count}
use Rattle.zarr_sharding_index.proofs.Reopened.{data_of, opened_ends, opened_length}
use Rattle.zarr_sharding_codec.specs.Appending.{ChangesUnwritten, IsTestedPart}
use Rattle.zarr_sharding_codec.specs.PartWriting.{AreChanged, IsLostAt, IsOf, IsRefusedAt, UpdatesSlices, put_at, stored_in}
use Rattle.zarr_sharding_codec.proofs.NumberedParts.{part_fewer, part_fits}
use Rattle.zarr_sharding_codec.proofs.PartFill.{none_present}
use Rattle.zarr_sharding_codec.proofs.AppendedShard.{are_new_slices, held_opened, is_met_at}
use Rattle.zarr_sharding_codec.proofs.PartAfter.{after_part, after_piece}
use Rattle.zarr_sharding_codec.proofs.PartIntact.{lost_meets, part_intact}
use Rattle.zarr_sharding_codec.proofs.PartKept.{shown_put}
use Rattle.zarr_sharding_codec.proofs.PartShown.{IsShardOpened, absent_at}
use Rattle.zarr_sharding_codec.proofs.PartStands.{IsAppended, absent_put, stands_put, tight_put}
use Rattle.zarr_sharding_codec.proofs.PartPlaced.{damaged_value}
use Rattle.zarr_sharding_codec.proofs.StoredLoop.{no_piece, too_large}
use Rattle.zarr_sharding_codec.proofs.StoredParts.{refused_at}

-- what was opened can be read
opened_opens : (subchunk : List ℕ) (inner index : Chain) (location : Location) (elements : Elements) (shape : List ℕ) (count end : ℕ) (old : Option (List ℕ)) (pairs : List Pair) → IsOpened (index_layout index location (index_shape shape subchunk)) count old pairs end
    → MatchOption old (Unit {0}) (λ value. opens (sharded subchunk inner index location) elements shape value ≡ true)
opened_opens subchunk inner index location elements shape count end None pairs opened = tt
opened_opens subchunk inner index location elements shape count end (Some value) pairs opened = ap is_some opened.0

pub part_encoded : (subchunk : List ℕ) (inner index : Chain) (location : Location) (exact one whole : Bool) (elements : Elements) (shape : List ℕ) (asked : Asked) (payload : Payload) (size : ℕ) (numbers : List ℕ) (old new : Option (List ℕ))
    → (tested : IsTestedPart (coded (sharded subchunk inner index location) elements shape) asked payload size numbers) → IsAppended subchunk inner index location exact one elements shape numbers tested.cells old new → (IsTrue whole → IsTrue exact)
    → IsEncodedInto (coded (sharded subchunk inner index location) elements shape) whole (update_of asked payload old) tested.cells new
part_encoded subchunk inner index location exact one whole elements shape asked payload size numbers old new tested appended to_exact =
    let h = subst (λ (ns : List ℕ). IsAppended subchunk inner index location exact one elements shape ns tested.cells old new) tested.numbers_are appended in
    let ns = numbers_asked shape asked in
    record {
      valid = tested.valid;
      fit = tested.fit;
      inside = tested.inside;
      opened = opened_opens subchunk inner index location elements shape (length (parts_of shape subchunk)) h.end old h.pairs h.opened;
      none_lost = part_intact subchunk inner index location exact elements shape ns tested.cells (length (parts_of shape subchunk)) h.end old h.pairs h.changes (fitted subchunk inner index location elements shape h.fit).cuts h.changed h.opened;
      stands = λ lossless before are stands. stands_put subchunk inner index location exact one elements shape ns tested.cells old new h before lossless are stands;
      tight = λ e lossless before are tight. tight_put subchunk inner index location exact one elements shape ns tested.cells old new h before (to_exact e) lossless are tight;
      absent = λ no lossless before are stands filled. absent_put subchunk inner index location exact one elements shape ns tested.cells old new h before lossless are stands filled;
      encodes = λ plain. absurd (cc);
      shows = λ lossless. shown_put subchunk inner index location exact one elements shape ns tested.cells old new h lossless;
    }

-- ---- what isn't opened

-- why elements that were tested are not put
pub refused_tested : (chain : Chain) (elements : Elements) (shape : List ℕ) (asked : Asked) (payload : Payload) (size : ℕ) (numbers : List ℕ) (stored : Option (List ℕ)) (refuses : List Cell → Type 0) → (tested : IsTestedPart (coded chain elements shape) asked payload size numbers)
    → refuses (cells_after (coded chain elements shape) stored (numbers_asked shape asked) tested.cells) → AfterPut (coded chain elements shape) (update_of asked payload stored) refuses
refused_tested chain elements shape asked payload size numbers stored refuses tested is = record { cells = tested.cells; valid = tested.valid; fit = tested.fit; inside = tested.inside; is = is }

-- a subchunk that is met and refused is so among all
refused_among : (refused : List ℕ → List Cell → Type 0) (fill : Cell) (write : AfterWrite) (parts : List Part) (k : ℕ) → k < length parts → is_met write.numbers (get_or parts k no_part) ≡ true → is_fill fill (gather fill write.cells (get_or parts k no_part).places) ≡ false
    → refused (get_or parts k no_part).shape (gather fill write.cells (get_or parts k no_part).places) → MetRefused refused fill write parts
refused_among refused fill write [] k low met some is = absurd (omega (arith, low))
refused_among refused fill write (part ∷ parts) zero low met some is = inl (met, some, is)
refused_among refused fill write (part ∷ parts) (suc k) low met some is = inr (refused_among refused fill write parts k (omega (arith, low)) met some is)

pub part_unopened : (A : Type 0) (subchunk : List ℕ) (inner index : Chain) (location : Location) (elements : Elements) (shape : List ℕ) (asked : Asked) (payload : Payload) (size : ℕ) (numbers : List ℕ) (old : Option (List ℕ)) (e : CodecError)
    → IsTestedPart (coded (sharded subchunk inner index location) elements shape) asked payload size numbers → opening.OpenRefused index location (index_shape shape subchunk) old e → NotEncodedInto {A = A} (coded (sharded subchunk inner index location) elements shape) (update_of asked payload old) (Err e)
part_unopened A subchunk inner index location elements shape asked payload size numbers None error.Damage tested why = absurd why
part_unopened A subchunk inner index location elements shape asked payload size numbers (Some value) error.Damage tested why = (tested.fit, inl (damaged_value subchunk inner index location elements shape value (numbers_asked shape asked) why))
part_unopened A subchunk inner index location elements shape asked payload size numbers None error.Size tested why = absurd why
part_unopened A subchunk inner index location elements shape asked payload size numbers (Some value) error.Size tested why =
    let chain = sharded subchunk inner index location in
    inr (refused_tested chain elements shape asked payload size numbers (Some value) (λ after. PassesIndex chain elements shape after ⊎ PassesLength chain elements shape (write_of (coded chain elements shape) (update_of asked payload (Some value)) after)) tested (inr (inl why)))
part_unopened A subchunk inner index location elements shape asked payload size numbers old error.Source tested why = tt
part_unopened A subchunk inner index location elements shape asked payload size numbers old error.Memory tested why = tt
part_unopened A subchunk inner index location elements shape asked payload size numbers old e tested why = absurd why

-- ---- what isn't updated

module _ (A : Type 0) (subchunk : List ℕ) (inner index : Chain) (location : Location) (exact : Bool) (elements : Elements) (shape : List ℕ) (asked : Asked) (payload : Payload) (size : ℕ) (numbers : List ℕ) (old : Option (List ℕ)) (pairs : List Pair)
    (tested : IsTestedPart (coded (sharded subchunk inner index location) elements shape) asked payload size numbers) (opened : IsShardOpened subchunk inner index location elements shape old pairs)
    (below : list_all (λ n. nat_lt n (product shape)) numbers ≡ true) where
  abbrev after : List Cell
  after = cells_after (coded (sharded subchunk inner index location) elements shape) old (numbers_asked shape asked) tested.cells

  -- an offset or a length is too large, by the cells then
  abbrev is_long : List Cell → Type 0
  is_long cells =
      PassesIndex (sharded subchunk inner index location) elements shape cells
      ⊎ PassesLength (sharded subchunk inner index location) elements shape (write_of (coded (sharded subchunk inner index location) elements shape) (update_of asked payload old) cells)

  after_refused : (refuses : Chain → Elements → List ℕ → List Cell → Type 0) → IsRefusedAt refuses (stored_in inner exact elements old pairs) (put_at shape subchunk numbers tested.cells) → PieceRefused (refuses inner elements) elements.fill (pieces_of elements.fill after (parts_of shape subchunk))
  after_refused refuses why =
      let is = after_piece subchunk inner index location elements shape asked payload size numbers old pairs tested opened why.number why.before why.below why.held in
      let many = opened.many in
      let low = why.below in
      let count = length-map (parts_of shape subchunk) (piece_of elements.fill after) in
      refused_at (refuses inner elements) elements.fill (pieces_of elements.fill after (parts_of shape subchunk)) why.number no_piece (omega (arith, many, low, count))
      (ap (λ (piece : Piece). is_fill elements.fill piece.1) is ∙ why.some) (subst (λ (piece : Piece). refuses inner elements piece.0 piece.1) (sym is) why.is)

  -- one that is refused is met
  met_refused : (refuses : Chain → Elements → List ℕ → List Cell → Type 0) → IsRefusedAt refuses (stored_in inner exact elements old pairs) (put_at shape subchunk numbers tested.cells)
      → MetRefused (refuses inner elements) elements.fill (after_write (numbers_asked shape asked) old after) (parts_of shape subchunk)
  met_refused refuses why =
      let here = after_part subchunk inner index location elements shape asked payload size numbers old pairs tested opened why.number why.before why.below why.held in
      let parts = parts_of shape subchunk in
      let many = opened.many in
      let low = why.below in
      let there : why.number < length parts = omega (arith, many, low) in
      refused_among (refuses inner elements) elements.fill (after_write (numbers_asked shape asked) old after) parts why.number there
      (subst (λ (ns : List ℕ). is_met ns (get_or parts why.number no_part) ≡ true) tested.numbers_are (is_met_at shape subchunk numbers tested.cells why.number opened.cuts there below why.met))
      (ap (λ (piece : Piece). is_fill elements.fill piece.1) here ∙ why.some) (subst (λ (piece : Piece). refuses inner elements piece.0 piece.1) (sym here) why.is)

  -- a subchunk that isn't decoded is damage, as one of the places lies in it
  lost_stops : (o : Option (List ℕ)) → IsShardOpened subchunk inner index location elements shape o pairs → IsLostAt (stored_in inner exact elements o pairs) (put_at shape subchunk numbers tested.cells)
      → IsDamaged (sharded subchunk inner index location) elements shape o (numbers_asked shape asked)
  lost_stops None is lost =
      let pair : get_or pairs lost.number absent_pair ≡ absent_pair = ap (λ (ps : List Pair). get_or ps lost.number absent_pair) is.opened.0 ∙ absent_at is.count lost.number in
      let shape_k = part_shape shape subchunk lost.number in
      let some : piece_decoded inner elements [] shape_k absent_pair ≡ None = ap (piece_decoded inner elements [] shape_k) (sym pair) ∙ lost.lost in
      absurd (cc)
  lost_stops (Some value) is lost =
      let meets = lost_meets subchunk inner index location exact elements shape numbers tested.cells value pairs is.cuts is.many below is.opened.0 lost in
      inr (inl (subst (λ (ns : List ℕ). MeetsLost (sharded subchunk inner index location) elements shape value ns) tested.numbers_are meets))

  pub part_not_updated : (e : CodecError) → UpdatesSlices (stored_in inner exact elements old pairs) (put_at shape subchunk numbers tested.cells) (Err e) → NotEncodedInto {A = A} (coded (sharded subchunk inner index location) elements shape) (update_of asked payload old) (Err e)
  part_not_updated error.Damage why = (tested.fit, inl (lost_stops old opened why))
  part_not_updated error.Codec why =
      refused_tested (sharded subchunk inner index location) elements shape asked payload size numbers old (WriteRefuses (coded (sharded subchunk inner index location) elements shape) (update_of asked payload old)) tested (inl (inl (met_refused CodecRefuses why)))
  part_not_updated error.Size (inl large) =
      inl (too_large elements.type (product (part_shape shape subchunk large.number)) (product shape) (part_fewer shape subchunk large.number opened.cuts) large.is)
  part_not_updated error.Size (inr why) =
      inr (refused_tested (sharded subchunk inner index location) elements shape asked payload size numbers old is_long tested (inl (inl (after_refused PassesIndex why))))
  part_not_updated error.Source why = tt
  part_not_updated error.Memory why = tt
  part_not_updated e why = absurd why

  -- ---- what isn't written

  pub part_not_written : (end : ℕ) (changes : List Change) (result : Result Bool CodecError) → IsOpened (index_layout index location (index_shape shape subchunk)) (length (parts_of shape subchunk)) old pairs end
      → AreChanged (stored_in inner exact elements old pairs) (put_at shape subchunk numbers tested.cells) changes → ChangesUnwritten index (index_shape shape subchunk) (pairs_after end changes pairs) result
      → NotEncodedInto (coded (sharded subchunk inner index location) elements shape) (update_of asked payload old) result
  part_not_written end changes (Ok written) held changed why = tt
  part_not_written end changes (Err error.Codec) held changed why =
      let chain = sharded subchunk inner index location in
      let pairs_shape = index_shape shape subchunk in
      let parts = parts_of shape subchunk in
      let ends = opened_ends index location pairs_shape (length parts) end old pairs held in
      refused_tested chain elements shape asked payload size numbers old (WriteRefuses (coded chain elements shape) (update_of asked payload old)) tested
      (inl (inr (
        held_shard pairs (data_of location (index_size index pairs_shape) old),
        changes,
        held_opened subchunk index location shape end old pairs held,
        are_new_slices subchunk inner index location exact elements shape asked payload size numbers old pairs changes tested opened changed,
        subst (λ n. are_absent (pairs_after n changes pairs) ≡ false) ends why.0,
        subst (λ n. CodecRefuses index (zero_filled uint64) pairs_shape (pair_cells (pairs_after n changes pairs))) ends why.1,
      )))
  part_not_written end changes (Err error.Size) held changed why =
      let made = pairs_after end changes pairs in
      inr (refused_tested (sharded subchunk inner index location) elements shape asked payload size numbers old is_long tested (inl (inr (inr (made, changed_count end changes pairs ∙ opened.many, why.1)))))
  part_not_written end changes (Err error.Source) held changed why = tt
  part_not_written end changes (Err error.Memory) held changed why = tt
  part_not_written end changes (Err e) held changed why = absurd why

-- ---- what is written

-- what is known before slices are appended
pub record IsReady (subchunk : List ℕ) (inner index : Chain) (location : Location) (exact : Bool) (elements : Elements) (shape : List ℕ) (asked : Asked) (payload : Payload) (size : ℕ) (numbers : List ℕ) (old : Option (List ℕ)) (pairs : List Pair) (end : ℕ) (changes : List Change) : Type 0 where
  pub lawful : IsLawfulChain (sharded subchunk inner index location)
  pub fill : is_value elements.type elements.fill ≡ true
  pub tested : IsTestedPart (coded (sharded subchunk inner index location) elements shape) asked payload size numbers
  pub count : length pairs ≡ length (parts_of shape subchunk)
  pub opened : IsOpened (index_layout index location (index_shape shape subchunk)) (product (index_shape shape subchunk) / 2) old pairs end
  pub changed : AreChanged (stored_in inner exact elements old pairs) (put_at shape subchunk numbers tested.cells) changes

-- as many pairs as subchunks
pub half_index : (shape subchunk : List ℕ) → product (index_shape shape subchunk) / 2 ≡ length (parts_of shape subchunk)
half_index shape subchunk = let two = index_product shape subchunk in omega (arith, two)

pub ready_appended : (subchunk : List ℕ) (inner index : Chain) (location : Location) (exact one : Bool) (elements : Elements) (shape : List ℕ) (asked : Asked) (payload : Payload) (size : ℕ) (numbers : List ℕ) (old new : Option (List ℕ)) (pairs : List Pair) (end ended : ℕ) (changes : List Change)
    → (h : IsReady subchunk inner index location exact elements shape asked payload size numbers old pairs end changes) → end + length (appended changes) < 2 ^ 63 → IsChanged (index_coding index one location (index_shape shape subchunk)) changes old end (held_as new (pairs_after end changes pairs) ended)
    → IsAppended subchunk inner index location exact one elements shape numbers h.tested.cells old new
ready_appended subchunk inner index location exact one elements shape asked payload size numbers old new pairs end ended changes h room written = record {
  lawful = h.lawful;
  fit = h.tested.fit;
  fill = h.fill;
  values = h.tested.valid.values;
  many = h.tested.valid.is.many ∙ ap (λ (ns : List ℕ). length ns) (sym h.tested.numbers_are);
  below = h.tested.below;
  pairs = pairs;
  end = end;
  ended = ended;
  changes = changes;
  count = h.count;
  opened = subst (λ n. IsOpened (index_layout index location (index_shape shape subchunk)) n old pairs end) (half_index shape subchunk) h.opened;
  changed = h.changed;
  room = room;
  written = written;
}

-- what is known of a shard that was opened
pub ready_opened : (subchunk : List ℕ) (inner index : Chain) (location : Location) (elements : Elements) (shape : List ℕ) (asked : Asked) (payload : Payload) (size : ℕ) (numbers : List ℕ) (old : Option (List ℕ)) (pairs : List Pair) (end : ℕ)
    → IsTestedPart (coded (sharded subchunk inner index location) elements shape) asked payload size numbers → length pairs ≡ length (parts_of shape subchunk) → IsOpened (index_layout index location (index_shape shape subchunk)) (product (index_shape shape subchunk) / 2) old pairs end
    → IsShardOpened subchunk inner index location elements shape old pairs
ready_opened subchunk inner index location elements shape asked payload size numbers old pairs end tested count opened = record {
  cuts = (fitted subchunk inner index location elements shape tested.fit).cuts;
  fit = λ k low. part_fits subchunk inner index location elements shape k tested.fit low;
  many = count;
  count = product (index_shape shape subchunk) / 2;
  end = end;
  opened = opened;
}

-- what is known is of what the source holds
pub opened_of : (index : Chain) (location : Location) (shape : List ℕ) (count end : ℕ) (old : Option (List ℕ)) (pairs : List Pair) → IsOpened (index_layout index location shape) count old pairs end → IsOf location (index_size index shape) old pairs end
opened_of index location shape count end None pairs opened = ap are_absent opened.0 ∙ none_present count
opened_of index location shape count end (Some value) pairs opened = opened_length index location shape count end value pairs opened
