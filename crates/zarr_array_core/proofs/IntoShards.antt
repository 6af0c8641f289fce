-- A part of a chunk that a codec put into the chunk's shard, or why it did not.
use Rattle.std.proofs.Common.{◌≡◌, ◌∙◌, ℕ, ◌<◌, Bool, true, false, ◌&&◌, if◌then◌else◌, List, [], ◌∷◌, length, map, get_or, set, refl, sym, ap, subst, arith, Option, Some, None, Err, inl, inr, ◌⊎◌}
use Rattle.std.specs.Prelude.{not, MatchBool, MatchOption}
use Rattle.std.specs.List.{list_all}
use Rattle.std.proofs.lemmas.Bool.{and_parts, false≢true}
use Rattle.std.proofs.lemmas.List.{get_or-map, length-map, length-set}
use Rattle.std.proofs.lemmas.List.FromFn.{get_or-map-range_with_len, length-map-range_with_len}
use Rattle.zarr_grids_boxes.specs.Boxes.{Region, product, places, is_in_box}
use Rattle.zarr_grids_boxes.specs.Cuts.{overlapped}
use Rattle.zarr_codecs_meaning.specs.Chunks.{chunk_part}
use Rattle.zarr_codecs_meaning.specs.Decoding.{opens}
use Rattle.zarr_codecs_meaning.specs.Fits.{is_plain}
use Rattle.zarr_codecs_meaning.specs.Partial.{encodes_in_part}
use Rattle.zarr_codecs_meaning.specs.Payloads.{Payload}
use Rattle.zarr_codecs_meaning.specs.Refusals.{PassesIndex}
use Rattle.zarr_codecs_meaning.specs.Standing.{ChunkStands}
use Rattle.zarr_codecs_meaning.specs.Types.{Cell, is_value, is_fill, IsTooLarge}
use Rattle.zarr_codecs_meaning.proofs.Lists.{some_same}
use Rattle.zarr_codecs_options.specs.declared.codec_options.CodecOptions.{CodecOptions}
use Rattle.zarr_codecs_arrays.specs.declared.error.CodecError.{CodecError}
use Rattle.zarr_codecs_arrays.specs.declared.error.CodecError.TheVariants as codec_error
use Rattle.zarr_codecs_traits.specs.Indexers.{in_box, numbers_of, put}
use Rattle.zarr_codecs_traits.specs.Arrays.{coded, update_of}
use Rattle.zarr_codecs_traits.specs.PartWriting.{AfterPut, ChunkTight, IsEncodedInto, IsPlaced, LacksRoom, MeetsLost, NotEncodedInto, PartsRefused, PassesLength, StopsWrite, WholeRefused, WriteRefuses, after_write, cells_after, cells_shown, only_cell}
use Rattle.zarr_codecs_traits.specs.ShardWrites.{Appends, AppendsParts, IsStoredGapless, LeavesParts}
use Rattle.zarr_codecs_traits.proofs.Damage.{stops_part}
use Rattle.zarr_array_storage.specs.declared.error.StorageError.{StorageError}
use Rattle.zarr_array_meaning.specs.Boxes.{cell_of_box}
use Rattle.zarr_array_meaning.specs.Chunks.{holds_box, number_in}
use Rattle.zarr_array_meaning.specs.Documents.{Document}
use Rattle.zarr_array_meaning.specs.Writes.{Write}
use Rattle.zarr_array_meaning.specs.Writing.{StopsInto, given_cell, is_into_shard, may_be_in_part, shared_numbers}
use Rattle.zarr_array_core.specs.IntoShards.{HasNoRoomFor, IntoShardStops, IsPutInto, LeavesOthers, NotPutInto, Putting, PutsIntoShard, RefusesInto, cells_over, cells_then, shard_refusal_of}
use Rattle.zarr_array_core.specs.Outcomes.{IsStoreRefusal}
use Rattle.zarr_array_core.proofs.ChunkPayloads.{listed_none, not_counted}
use Rattle.zarr_array_core.proofs.ChunkWritten.{cells_at_places}
use Rattle.zarr_array_core.proofs.PutParts.{ArePut, IsPutCall, are_put, cell_in, cell_out, counted_asked, part_is, part_of, puts_cells}
use Rattle.zarr_array_elements.proofs.FixedCells.{number_below}
use Rattle.zarr_array_elements.proofs.Meeting.{meeting}

-- ---- what a write into a shard is

-- a chain that is written in part and makes a shard, and a chunk of which a part is to stay
pub record IsIntoShard (document : Document) (region box : Region) : Type 0 where
  pub part : holds_box region box ≡ false
  pub partly : encodes_in_part document.chain ≡ true
  pub shard : is_plain document.chain ≡ false

negated : (b : Bool) → not b ≡ true → b ≡ false
negated true e = absurd (false≢true e)
negated false e = refl

pub shard_write : (document : Document) (options : CodecOptions) (region box : Region) → is_into_shard document options region box ≡ true → IsIntoShard document region box
shard_write document options region box h =
    let two = and_parts (may_be_in_part document options region box) (not (is_plain document.chain)) h in
    let given = and_parts options.experimental_partial_encoding (not (holds_box region box) && encodes_in_part document.chain) two.0 in
    let rest = and_parts (not (holds_box region box)) (encodes_in_part document.chain) given.1 in
    record { part = negated (holds_box region box) rest.0; partly = rest.1; shard = negated (is_plain document.chain) two.1 }

-- ---- what is damaged

-- what took a write doesn't stop it
taken_of : (document : Document) (region box : Region) (stored : Option (List ℕ)) → encodes_in_part document.chain ≡ true → MatchOption stored (Unit {0}) (λ value. opens document.chain document.elements box.shape value ≡ true)
    → MatchOption stored (Unit {0}) (λ value. ¬ MeetsLost document.chain document.elements box.shape value (shared_numbers region box)) → IsPlaced document.chain box.shape stored → StopsInto document region box stored → ⊥
taken_of document region box None partly opened met placed stops = stops
taken_of document region box (Some value) partly opened met placed (inl closed) = false≢true (sym closed ∙ opened)
taken_of document region box (Some value) partly opened met placed (inr (inl lost)) = met lost
taken_of document region box (Some value) partly opened met placed (inr (inr outside)) = placed partly outside

length-put : {X : Type 0} (ns : List ℕ) (xs ys : List X) → length (put ns xs ys) ≡ length ys
length-put [] xs ys = refl
length-put (n ∷ ns) [] ys = refl
length-put (n ∷ ns) (x ∷ xs) ys = length-put ns xs (set ys n x) ∙ length-set ys n x

-- ---- the cells

module _ (write : Write) (box : Region) (payload : Payload) (sub : List Cell) (rank : length box.start ≡ length box.shape) (are : ArePut write box payload sub) where
  abbrev document : Document
  document = write.array.document

  abbrev fill : Cell
  fill = document.elements.fill

  abbrev ns : List ℕ
  ns = numbers_of box.shape (part_of write.region box)

  -- what is put over cells that a chunk has
  put_over : (before : List Cell) (at : List ℕ → Cell) → length before ≡ product box.shape → ((place : List ℕ) → is_in_box box.start box.shape place ≡ true → cell_of_box box before fill place ≡ at place)
      → put ns sub before ≡ map (λ place. if is_in_box write.region.start write.region.shape place then given_cell write place else at place) (places box.start box.shape)
  put_over before at whole h =
      cells_at_places box (put ns sub before) (λ place. if is_in_box write.region.start write.region.shape place then given_cell write place else at place) fill rank (length-put ns sub before ∙ whole)
      (λ place inside. by (is_in_box write.region.start write.region.shape place) place refl inside) where
        by : (t : Bool) (place : List ℕ) → is_in_box write.region.start write.region.shape place ≡ t → is_in_box box.start box.shape place ≡ true → get_or (put ns sub before) (number_in box place) fill ≡ (if t then given_cell write place else at place)
        by true place r inside = cell_in write box payload sub are before place whole r inside
        by false place r inside = cell_out write box payload sub are before place r inside ∙ h place inside

  put_before : (before : List Cell) → length before ≡ product box.shape → put ns sub before ≡ cells_over write box before
  put_before before whole = put_over before (λ place. cell_of_box box before fill place) whole (λ place inside. refl)

  abbrev read : Option (List ℕ) → ℕ → Option (List Cell)
  read stored n = chunk_part document.chain document.elements box.shape stored (n ∷ [])

  -- what is put over what is read
  put_read : (stored : Option (List ℕ)) → cells_after (coded document.chain document.elements box.shape) stored ns sub ≡ cells_then write box stored
  put_read stored =
      let shown = cells_shown document.chain document.elements box.shape stored in
      let many : length shown ≡ product box.shape = length-map-range_with_len (read stored) 0 (product box.shape) in
      put_over (map (only_cell fill) shown) (λ place. only_cell fill (read stored (number_in box place))) (length-map shown (only_cell fill) ∙ many) (λ place inside.
      let below : number_in box place < product box.shape = number_below box place inside in
      get_or-map (only_cell fill) shown (number_in box place) None fill (omega (arith, below, many))
      ∙ ap (only_cell fill) (get_or-map-range_with_len (read stored) 0 (product box.shape) (number_in box place) (number_in box place) None below (omega arith)))

  then_cells : (cells : List Cell) (stored : Option (List ℕ)) → cells ≡ sub → cells_after (coded document.chain document.elements box.shape) stored ns cells ≡ cells_then write box stored
  then_cells cells stored same = ap (λ (cs : List Cell). cells_after (coded document.chain document.elements box.shape) stored ns cs) same ∙ put_read stored

  -- the cells after a put are those of the write
  then_put : (fact : List Cell → Type 0) (stored : Option (List ℕ)) (h : AfterPut (coded document.chain document.elements box.shape) (update_of (in_box (part_of write.region box)) payload stored) fact)
      → cells_after (coded document.chain document.elements box.shape) stored ns h.cells ≡ cells_then write box stored
  then_put fact stored h = then_cells h.cells stored (some_same (sym h.valid.is.lists ∙ are.are.valid.is.lists))

  -- there is no room for the new slices, by the cells after a put
  abbrev long_then : Option (List ℕ) → List Cell → Type 0
  long_then stored cells = PassesLength document.chain document.elements box.shape (after_write ns stored cells)

  -- ---- what a codec put

  -- what a write left of the subchunks that it didn't meet
  others_left : (old new : Option (List ℕ)) → IsIntoShard document write.region box → LeavesParts (coded document.chain document.elements box.shape) (update_of (in_box (part_of write.region box)) payload old) new → LeavesOthers write box old new
  others_left old new into left =
      let array = coded document.chain document.elements box.shape in
      let update = update_of (in_box (part_of write.region box)) payload old in
      let anew = IsStoredGapless document.chain box.shape new in
      elim (subst (λ (b : Bool). MatchBool b (AppendsParts array update new ⊎ (LacksRoom array update × anew)) anew) into.partly left.parts) as (λ _. LeavesOthers write box old new) [
        | inl h ↦ inl (subst (λ (cs : List Cell). Appends document.chain document.elements box.shape (after_write ns old cs) new) (then_put (λ after. Appends document.chain document.elements box.shape (after_write ns old after) new) old h) h.is)
        | inr h ↦ inr (subst (long_then old) (then_put (long_then old) old h.0) h.0.is, h.1)
      ]

  put_shard : (cells : List Cell) (old new : Option (List ℕ)) → IsIntoShard document write.region box → IsEncodedInto (coded document.chain document.elements box.shape) write.array.exact (update_of (in_box (part_of write.region box)) payload old) cells new
      → LeavesParts (coded document.chain document.elements box.shape) (update_of (in_box (part_of write.region box)) payload old) new → PutsIntoShard write box old new
  put_shard cells old new into h left =
      let same : cells ≡ sub = some_same (sym h.valid.is.lists ∙ are.are.valid.is.lists) in
      let over : (before : List Cell) → length before ≡ product box.shape → put ns cells before ≡ cells_over write box before = λ before whole. ap (λ (cs : List Cell). put ns cs before) same ∙ put_before before whole in
      record {
        fit = are.fit;
        taken = taken_of document write.region box old into.partly h.opened h.none_lost left.placed;
        puts = puts_cells write write.array.exact box payload sub cells old new are h;
        others = others_left old new into left;
        stands = λ lossless before is st. subst (λ (cs : List Cell). ChunkStands document.chain document.elements box.shape new cs) (over before is.whole) (h.stands lossless before is st);
        tight = λ exact lossless before is st. subst (λ (cs : List Cell). ChunkTight document.chain document.elements box.shape new cs) (over before is.whole) (h.tight exact lossless before is st);
        absent = λ lossless before is st filled. h.absent into.shard lossless before is st (ap (is_fill fill) (over before is.whole) ∙ filled);
      }

  -- ---- why it did not

  not_taken : (stored : Option (List ℕ)) → IsIntoShard document write.region box → StopsWrite (coded document.chain document.elements box.shape) (update_of (in_box (part_of write.region box)) payload stored) → StopsInto document write.region box stored ⊎ HasNoRoomFor write box stored
  not_taken None into (inl h) = absurd h
  not_taken (Some value) into (inl h) = inl (stops_part document.chain document.elements box.shape value ns into.partly h)
  not_taken stored into (inr h) = inr (h.0, subst (long_then stored) (then_put (long_then stored) stored h.1) h.1.is)

  -- what a codec refuses
  refused_into : (stored : Option (List ℕ)) → IsIntoShard document write.region box
      → AfterPut (coded document.chain document.elements box.shape) (update_of (in_box (part_of write.region box)) payload stored) (WriteRefuses (coded document.chain document.elements box.shape) (update_of (in_box (part_of write.region box)) payload stored))
      → RefusesInto write box stored
  refused_into stored into h =
      let array = coded document.chain document.elements box.shape in
      let update = update_of (in_box (part_of write.region box)) payload stored in
      let after = cells_after array stored ns h.cells in
      let parts = λ (cs : List Cell). PartsRefused document.chain document.elements box.shape (after_write ns stored cs) in
      let whole = λ (cs : List Cell). WholeRefused document.chain document.elements box.shape cs in
      let same = then_put (WriteRefuses array update) stored h in
      elim (subst (λ (b : Bool). MatchBool b (parts after ⊎ (LacksRoom array update × whole after)) (whole after)) into.partly h.is) as (λ _. RefusesInto write box stored) [
        | inl k ↦ inl (subst parts same k)
        | inr k ↦ inr (subst (long_then stored) (then_put (long_then stored) stored k.0) k.0.is, subst whole same k.1)
      ]

  not_into : (stored : Option (List ℕ)) (e : CodecError) (refusal : StorageError) → IsStoreRefusal refusal → IsIntoShard document write.region box → ¬ IsTooLarge document.elements.type (product box.shape)
      → NotEncodedInto {A = Unit {0}} (coded document.chain document.elements box.shape) (update_of (in_box (part_of write.region box)) payload stored) (Err e) → IntoShardStops write box stored (shard_refusal_of e refusal)
  not_into stored codec_error.Fit refusal told into small h = absurd (false≢true (sym h ∙ are.fit))
  not_into stored codec_error.Damage refusal told into small h = not_taken stored into h.1
  not_into stored codec_error.Codec refusal told into small h = refused_into stored into h
  not_into stored codec_error.Source refusal told into small h = told
  not_into stored codec_error.Size refusal told into small (inl large) = absurd (small large)
  not_into stored codec_error.Size refusal told into small (inr h) =
      subst (λ (cs : List Cell). PassesIndex document.chain document.elements box.shape cs ⊎ long_then stored cs)
      (then_cells h.cells stored (some_same (sym h.valid.is.lists ∙ are.are.valid.is.lists))) h.is
  not_into stored codec_error.CellOutOfRange refusal told into small h =
      let same = some_same (sym h.1.1.lists ∙ are.are.valid.is.lists) in
      absurd (false≢true (sym h.1.2 ∙ (ap (list_all (is_value document.elements.type)) same ∙ are.are.valid.values)))
  not_into stored codec_error.IncompatibleIndexer refusal told into small h = absurd (false≢true (sym h ∙ (meeting write.region box are.share).inside))
  not_into stored codec_error.InvalidNumberOfElements refusal told into small h =
      absurd (not_counted document.elements.type payload (length ns) sub (counted_asked write box payload sub are) h.1)
  not_into stored codec_error.ExpectedFixedLengthBytes refusal told into small h = absurd (listed_none document.elements (overlapped write.region box).shape payload sub are.are h.1.0)
  not_into stored codec_error.ExpectedVariableLengthBytes refusal told into small h = absurd (listed_none document.elements (overlapped write.region box).shape payload sub are.are h.1.0)
  not_into stored codec_error.ExpectedOptionalBytes refusal told into small h = absurd (listed_none document.elements (overlapped write.region box).shape payload sub are.are h.1.0)
  not_into stored codec_error.Unsupported refusal told into small h = absurd h.1
  not_into stored codec_error.Memory refusal told into small h = tt
  not_into stored (codec_error.Other text) refusal told into small h = absurd h.1

-- ---- a call of a codec

module _ (write : Write) (box shared part : Region) (shape start : List ℕ) (payload : Payload) (sub : List Cell) (rank : length box.start ≡ length box.shape) (into : IsIntoShard write.array.document write.region box) (call : IsPutCall write box shared part shape start payload sub) where
  abbrev chunk_part_is : Putting
  chunk_part_is = record { chain = write.array.document.chain; exact = write.array.exact; elements = write.array.document.elements; shape = shape; asked = in_box part; payload = payload }

  are : ArePut write box payload sub
  are = are_put write box shared part shape start payload sub call

  same_part : part ≡ part_of write.region box
  same_part = part_is write box shared part shape start payload sub call

  pub was_into : (old new : Option (List ℕ)) → IsPutInto chunk_part_is old new → PutsIntoShard write box old new
  was_into old new h =
      put_shard write box payload sub rank are h.cells old new into
      (subst (λ (s : List ℕ). IsEncodedInto (coded write.array.document.chain write.array.document.elements s) write.array.exact (update_of (in_box (part_of write.region box)) payload old) h.cells new) call.whole
      (subst (λ (r : Region). IsEncodedInto (coded write.array.document.chain write.array.document.elements shape) write.array.exact (update_of (in_box r) payload old) h.cells new) same_part h.encoded))
      (subst (λ (s : List ℕ). LeavesParts (coded write.array.document.chain write.array.document.elements s) (update_of (in_box (part_of write.region box)) payload old) new) call.whole
      (subst (λ (r : Region). LeavesParts (coded write.array.document.chain write.array.document.elements shape) (update_of (in_box r) payload old) new) same_part h.parts))

  pub was_not_into : (old : Option (List ℕ)) (e : CodecError) (refusal : StorageError) → IsStoreRefusal refusal → NotPutInto {A = Unit {0}} chunk_part_is old (Err e) → IntoShardStops write box old (shard_refusal_of e refusal)
  was_not_into old e refusal told h =
      not_into write box payload sub rank are old e refusal told into call.small
      (subst (λ (s : List ℕ). NotEncodedInto {A = Unit {0}} (coded write.array.document.chain write.array.document.elements s) (update_of (in_box (part_of write.region box)) payload old) (Err e)) call.whole
      (subst (λ (r : Region). NotEncodedInto {A = Unit {0}} (coded write.array.document.chain write.array.document.elements shape) (update_of (in_box r) payload old) (Err e)) same_part h))
