-- Boxes that are written through array codecs.
use Rattle.std.proofs.Common.{◌≡◌, ◌∙◌, ℕ, ◌<◌, List, [], ◌∷◌, length, map, get_or, refl, sym, ap, subst, arith, Option, Some, None, Bool, true, false, MatchBool, if◌then◌else◌, inl, inr, ◌⊎◌, Result, Ok, Err}
use Rattle.std.specs.Prelude.{MatchOption, nat_lt}
use Rattle.std.specs.List.{range_with_len}
use Rattle.std.proofs.lemmas.List.{get_or-map, length-map}
use Rattle.std.proofs.lemmas.List.FromFn.{length-range_with_len}
use Rattle.zarr_grids_boxes.specs.Boxes.{Region, product}
use Rattle.zarr_codecs_meaning.specs.Chains.{ArrayCodec, Chain}
use Rattle.zarr_codecs_meaning.specs.Chains.Chain.{bytes, packbits, vlen, optional, after_array_codec, then_bytes, sharded}
use Rattle.zarr_codecs_meaning.specs.Chunks.{chunk_part}
use Rattle.zarr_codecs_meaning.specs.Decoding.{decoded}
use Rattle.zarr_codecs_meaning.specs.Encoding.{Pair, encoded}
use Rattle.zarr_codecs_meaning.specs.Fits.{fits}
use Rattle.zarr_codecs_meaning.specs.Partial.{encodes_in_part}
use Rattle.zarr_codecs_meaning.specs.Payloads.{Payload}
use Rattle.zarr_codecs_meaning.specs.Places.{Part, encoded_shape, gather, parts_of, position_of, source_places, undone_places}
use Rattle.zarr_codecs_meaning.specs.Refusals.{CodecRefuses, PassesIndex}
use Rattle.zarr_codecs_meaning.specs.Standing.{ChunkStands}
use Rattle.zarr_codecs_meaning.specs.Types.{Cell, DataType, Elements, is_fill, is_value}
use Rattle.zarr_codecs_meaning.proofs.ArrayCodecs.{array_codec_count, length-gather, values_gathered}
use Rattle.zarr_codecs_meaning.proofs.Covers.{array_codec_covers}
use Rattle.zarr_codecs_meaning.proofs.Lists.{some_same}
use Rattle.zarr_codecs_meaning.proofs.Once.{IsOnce, array_codec_once}
use Rattle.zarr_codecs_meaning.proofs.Positions.{position_found, position_read}
use Rattle.zarr_codecs_arrays.specs.Outcomes.{IsInvalid, IsValid}
use Rattle.zarr_codecs_arrays.specs.declared.error.CodecError.{CodecError}
use Rattle.zarr_codecs_arrays.specs.declared.error.CodecError.TheVariants as error
use Rattle.zarr_codecs_array_to_array.specs.Moving.{moved_numbers}
use Rattle.zarr_codecs_traits.specs.Indexers.{in_box, listed, numbers_asked, put}
use Rattle.zarr_codecs_traits.specs.Outcomes.{EncodesArray, IsMoved, moving}
use Rattle.zarr_codecs_traits.specs.Arrays.{coded, update_of}
use Rattle.zarr_codecs_traits.specs.PartWriting.{AfterPut, AreMet, AreNewSlices, ChunkTight, IsDamaged, IsEncodedInto, IsLostAmong, LacksRoom, MeetsLost, MetRefused, NotEncodedInto, PartsRefused, PassesLength, StopsPart, StopsWrite, WholeRefused, WriteRefuses, after_write, cells_after, cells_shown, is_met, no_part, only_cell, part_at}
use Rattle.zarr_codecs_traits.specs.ShardWrites.{Appends, AppendsParts, IsStoredGapless, LeavesParts, most_for_parts}
use Rattle.zarr_codecs_traits.specs.Sources.{value_length}
use Rattle.zarr_codecs_traits.proofs.WrittenWhole.{either_by, gives_by}
use Rattle.zarr_sharding_changes.specs.Changes.{Change}
use Rattle.zarr_codecs_boxes.specs.Updates.{IsBoxIn}
use Rattle.zarr_codecs_boxes.proofs.Numbers.{asked_below}
use Rattle.zarr_codecs_boxes.proofs.Puts.{AreApart, length-numbers, numbers_apart}
use Rattle.zarr_codecs_boxes.proofs.Moved.{places_or_none}
use Rattle.zarr_codecs_around.specs.Parts.{SourceWrite, WritesPart}
use Rattle.zarr_codecs_around.proofs.ArrayCodecs.{not_invalid}
use Rattle.zarr_codecs_around.proofs.BoxParts.{AreAlike, IsMovedBox, any_order, box_alike, box_too_large, moved_alike, order_below, same_answer, undone_below}
use Rattle.zarr_codecs_around.proofs.PartChains.{asked_places}
use Rattle.zarr_codecs_around.proofs.Picked.{AreBelow, IsAnyOf, any_moved, any_picked, picked, put_picked}
use Rattle.zarr_codecs_around.proofs.WritingAfter.{are_moved, mapped_at, on_written, put_so, writes_after, writes_by_numbers, written_after, written_by_numbers}

-- ---- where the elements are put

-- the numbers of a box's places, as the codec moves them
abbrev moved_of : ArrayCodec → List ℕ → Region → List ℕ
moved_of codec shape region = moved_numbers codec shape (numbers_asked shape (in_box region))

asked_apart : (shape : List ℕ) (region : Region) → IsBoxIn shape region → AreApart (numbers_asked shape (in_box region))
asked_apart shape region is = elim (places_or_none shape region is) as (λ _. AreApart (numbers_asked shape (in_box region))) [
  | inl within ↦ numbers_apart shape region within
  | inr empty ↦ λ i j first second e. (let l = length-numbers shape region (sym is.dimensions) in absurd (omega (arith, l, empty.none, first)))
]

-- each is a place of the encoded array, and none stands twice
moved_at : (codec : ArrayCodec) (shape : List ℕ) (region moved : Region) (i : ℕ) → IsMovedBox codec shape region moved → i < length (moved_of codec shape region)
    → (get_or (moved_of codec shape region) i 0 < length (source_places codec shape)) × (get_or (source_places codec shape) (get_or (moved_of codec shape region) i 0) 0 ≡ get_or (numbers_asked shape (in_box region)) i 0)
moved_at codec shape region moved i b low =
    let numbers = numbers_asked shape (in_box region) in
    let places = source_places codec shape in
    let here : i < length numbers = omega (arith, low, length-map numbers (λ n. position_of n places)) in
    let n = get_or numbers i 0 in
    let is : get_or (moved_of codec shape region) i 0 ≡ position_of n places = get_or-map (λ n. position_of n places) numbers i 0 0 here in
    let found = position_found n places (array_codec_covers codec shape b.fit n (asked_below shape region i b.box.inside here)) in
    (omega (arith, is, found), ap (λ k. get_or places k 0) is ∙ position_read n 0 places found)

moved_apart : (codec : ArrayCodec) (shape : List ℕ) (region moved : Region) → IsMovedBox codec shape region moved → AreApart (moved_of codec shape region)
moved_apart codec shape region moved b = λ i j first second e.
    let numbers = numbers_asked shape (in_box region) in
    let places = source_places codec shape in
    let wide = length-map numbers (λ n. position_of n places) in
    asked_apart shape region b.box i j (omega (arith, first, wide)) (omega (arith, second, wide))
    (sym (moved_at codec shape region moved i b first).1 ∙ (ap (λ k. get_or places k 0) e ∙ (moved_at codec shape region moved j b second).1))

-- elements are put at the places of the moved box as they are put at those of the box
box_put : {X : Type 0} (other : X) (codec : ArrayCodec) (shape : List ℕ) (region moved : Region) (given before : List X) → IsMovedBox codec shape region moved → length given ≡ length (moved_of codec shape region) → length before ≡ product (encoded_shape codec shape)
    → put (numbers_asked (encoded_shape codec shape) (in_box moved)) (picked other given (source_places codec region.shape)) before ≡ put (moved_of codec shape region) given before
box_put {X} other codec shape region moved given before b same whole =
    let ns = moved_of codec shape region in
    let ks = source_places codec region.shape in
    let below : AreBelow (length before) ns = λ i low. (let m = (moved_at codec shape region moved i b low).0 in omega (arith, m, whole, array_codec_count codec shape b.fit)) in
    let once : IsOnce (length ns) ks = subst (λ n. IsOnce n ks) (sym b.count) (array_codec_once codec region.shape b.fits) in
    ap (λ ms. put ms (picked other given ks) before) b.numbers
    ∙ put_picked other ns ks given before (moved_apart codec shape region moved b) below same once (λ i low. array_codec_covers codec region.shape b.fits i (omega (arith, low, b.count)))

-- ---- what is lost

lost_pieces : (inner : List ℕ → List ℕ → Option (List Cell)) (value ns ms : List ℕ) (parts : List Part) (pairs : List Pair) → IsAnyOf ns ms → IsLostAmong inner value ns parts pairs → IsLostAmong inner value ms parts pairs
lost_pieces inner value ns ms [] pairs any lost = lost
lost_pieces inner value ns ms (part ∷ parts) [] any lost = lost
lost_pieces inner value ns ms (part ∷ parts) (pair ∷ pairs) any (inl lost) = inl (any (λ n. nat_lt (position_of n part.places) (length part.places)) lost.0, lost.1, lost.2)
lost_pieces inner value ns ms (part ∷ parts) (pair ∷ pairs) any (inr lost) = inr (lost_pieces inner value ns ms parts pairs any lost)

lost_any : (chain : Chain) (elements : Elements) (shape value ns ms : List ℕ) → IsAnyOf ns ms → MeetsLost chain elements shape value ns → MeetsLost chain elements shape value ms
lost_any (bytes order) elements shape value ns ms any lost = lost
lost_any (packbits padding first last) elements shape value ns ms any lost = lost
lost_any (vlen index «data» width location) elements shape value ns ms any lost = lost
lost_any (optional mask values) elements shape value ns ms any lost = lost
lost_any (after_array_codec codec chain) elements shape value ns ms any lost =
    let f : ℕ → ℕ = λ n. position_of n (source_places codec shape) in
    lost_any chain elements (encoded_shape codec shape) value (map f ns) (map f ms) (any_moved f ns ms any) lost
lost_any (then_bytes chain codec) elements shape value ns ms any lost = lost
lost_any (sharded subchunk inner index location) elements shape value ns ms any lost = (lost.0, lost.1, lost_pieces (decoded inner elements) value ns ms (parts_of shape subchunk) lost.0 any lost.2)

-- the places of the moved box are those of the box
box_any : (codec : ArrayCodec) (shape : List ℕ) (region moved : Region) → IsMovedBox codec shape region moved → IsAnyOf (numbers_asked (encoded_shape codec shape) (in_box moved)) (moved_of codec shape region)
box_any codec shape region moved b = subst (λ ns. IsAnyOf ns (moved_of codec shape region)) (sym b.numbers) (any_picked (moved_of codec shape region) (source_places codec region.shape) (order_below codec shape region moved b))

any_box : (codec : ArrayCodec) (shape : List ℕ) (region moved : Region) → IsMovedBox codec shape region moved → IsAnyOf (moved_of codec shape region) (numbers_asked (encoded_shape codec shape) (in_box moved))
any_box codec shape region moved b =
    let after = numbers_asked (encoded_shape codec shape) (in_box moved) in
    subst (λ ns. IsAnyOf ns after) (sym b.undone) (any_picked after (undone_places codec region.shape) (undone_below codec shape region moved b))

damaged_any : (chain : Chain) (elements : Elements) (shape : List ℕ) (stored : Option (List ℕ)) (ns ms : List ℕ) → IsAnyOf ns ms → IsDamaged chain elements shape stored ns → IsDamaged chain elements shape stored ms
damaged_any chain elements shape None ns ms any h = h
damaged_any chain elements shape (Some value) ns ms any h = by (encodes_in_part chain) h where
  stops : StopsPart chain elements shape value ns → StopsPart chain elements shape value ms
  stops (inl closed) = inl closed
  stops (inr (inl lost)) = inr (inl (lost_any chain elements shape value ns ms any lost))
  stops (inr (inr outside)) = inr (inr outside)

  by : (b : Bool) → MatchBool b (StopsPart chain elements shape value ns) (decoded chain elements shape value ≡ None) → MatchBool b (StopsPart chain elements shape value ms) (decoded chain elements shape value ≡ None)
  by true is = stops is
  by false is = is

-- ---- what is written

-- elements that an array codec moved as those of an array of the box's shape
abbrev pub IsTurned : ArrayCodec → Elements → Region → Payload → Payload → Type 0
IsTurned codec elements region payload turned = IsMoved (moving codec elements region.shape (product region.shape) (source_places codec region.shape)) payload turned

-- each cell in the order of places
ones_picked : (fill : Cell) (cells : List Cell) (ks : List ℕ) → map (λ (cell : Cell). Some (cell ∷ [])) (gather fill cells ks) ≡ picked (Some (fill ∷ [])) (map (λ (cell : Cell). Some (cell ∷ [])) cells) ks
ones_picked fill cells [] = refl
ones_picked fill cells (k ∷ ks) =
    let one = λ (cell : Cell). Some (cell ∷ []) in
    ap (λ x. x ∷ map one (gather fill cells ks)) (sym (mapped_at one cells k fill)) ∙ ap (λ xs. get_or (map one cells) k (Some (fill ∷ [])) ∷ xs) (ones_picked fill cells ks)

shown_count : (chain : Chain) (elements : Elements) (shape : List ℕ) (stored : Option (List ℕ)) → length (cells_shown chain elements shape stored) ≡ product shape
shown_count chain elements shape stored = length-map (range_with_len 0 (product shape)) (λ n. chunk_part chain elements shape stored (n ∷ [])) ∙ length-range_with_len 0 (product shape)

-- the same, by the numbers of the box's places
written_turned : (codec : ArrayCodec) (chain : Chain) (exact : Bool) (elements : Elements) (shape : List ℕ) (region moved : Region) (payload turned : Payload) (cells : List Cell) (old new : Option (List ℕ))
    → IsMovedBox codec shape region moved → (m : IsTurned codec elements region payload turned) → cells ≡ gather elements.fill m.cells (source_places codec region.shape)
    → IsEncodedInto (coded chain elements (encoded_shape codec shape)) exact (update_of (in_box moved) turned old) cells new → IsEncodedInto (coded chain elements (encoded_shape codec shape)) exact (update_of (listed (moved_of codec shape region)) payload old) m.cells new
written_turned codec chain exact elements shape region moved payload turned cells old new b m same h =
    let ns = moved_of codec shape region in
    let ks = source_places codec region.shape in
    let after = numbers_asked (encoded_shape codec shape) (in_box moved) in
    let fill = elements.fill in
    let count : length m.cells ≡ length ns = m.valid.is.many ∙ sym b.count in
    let one = λ (cell : Cell). Some (cell ∷ []) in
    let there : (before : List Cell) → length before ≡ product (encoded_shape codec shape) → put after cells before ≡ put ns m.cells before = λ before whole.
    ap (λ given. put after given before) same ∙ box_put fill codec shape region moved m.cells before b count whole in
    record {
      valid = subst (λ n. IsValid elements.type payload n m.cells) (sym b.count) m.valid;
      fit = h.fit;
      inside = are_moved codec shape (numbers_asked shape (in_box region)) b.fit (asked_places shape (in_box region) b.box.inside);
      opened = h.opened;
      none_lost = none_lost old h.none_lost;
      stands = λ lossless before are is. subst (ChunkStands chain elements (encoded_shape codec shape) new) (there before are.whole) (h.stands lossless before are is);
      tight = λ e lossless before are is. subst (ChunkTight chain elements (encoded_shape codec shape) new) (there before are.whole) (h.tight e lossless before are is);
      absent = λ shards lossless before are is filled. h.absent shards lossless before are is (ap (is_fill fill) (there before are.whole) ∙ filled);
      encodes = λ plain before are is.
          let found = h.encodes plain before are is in
          (found.0, found.1, ap (encoded chain elements (encoded_shape codec shape)) (sym (there before are.whole)) ∙ found.2);
      shows = λ lossless.
          let shown = cells_shown chain elements (encoded_shape codec shape) old in
          h.shows lossless
          ∙ (ap (λ given. put after (map one given) shown) same
          ∙ (ap (λ given. put after given shown) (ones_picked fill m.cells ks)
          ∙ box_put (Some (fill ∷ [])) codec shape region moved (map one m.cells) shown b (length-map m.cells one ∙ count) (shown_count chain elements (encoded_shape codec shape) old)));
    } where
      none_lost : (old : Option (List ℕ)) → MatchOption old (Unit {0}) (λ value. ¬ MeetsLost chain elements (encoded_shape codec shape) value (numbers_asked (encoded_shape codec shape) (in_box moved)))
          → MatchOption old (Unit {0}) (λ value. ¬ MeetsLost chain elements (encoded_shape codec shape) value (moved_of codec shape region))
      none_lost None h = tt
      none_lost (Some value) h = λ lost. h (lost_any chain elements (encoded_shape codec shape) value (moved_of codec shape region) (numbers_asked (encoded_shape codec shape) (in_box moved)) (any_box codec shape region moved b) lost)

-- elements are written where the codec moves the box
pub box_written : (codec : ArrayCodec) (chain : Chain) (exact : Bool) (elements : Elements) (shape : List ℕ) (region moved : Region) (payload turned : Payload) (cells : List Cell) (old new : Option (List ℕ))
    → IsMovedBox codec shape region moved → (m : IsTurned codec elements region payload turned)
    → IsEncodedInto (coded chain elements (encoded_shape codec shape)) exact (update_of (in_box moved) turned old) cells new → IsEncodedInto (coded (after_array_codec codec chain) elements shape) exact (update_of (in_box region) payload old) m.cells new
box_written codec chain exact elements shape region moved payload turned cells old new b m h =
    let numbers = numbers_asked shape (in_box region) in
    let same : cells ≡ gather elements.fill m.cells (source_places codec region.shape) = some_same (sym h.valid.is.lists ∙ m.lists) in
    written_by_numbers (after_array_codec codec chain) exact elements shape (in_box region) payload m.cells old new b.box.inside
    (written_after codec chain exact elements shape numbers payload m.cells old new b.fit (asked_places shape (in_box region) b.box.inside) (written_turned codec chain exact elements shape region moved payload turned cells old new b m same h))

-- ---- what is refused

refused_turned : (codec : ArrayCodec) (chain : Chain) (elements : Elements) (shape : List ℕ) (region moved : Region) (payload turned : Payload) (stored : Option (List ℕ)) (refuses : List Cell → Type 0)
    → IsMovedBox codec shape region moved → IsTurned codec elements region payload turned
    → AfterPut (coded chain elements (encoded_shape codec shape)) (update_of (in_box moved) turned stored) refuses → AfterPut (coded chain elements (encoded_shape codec shape)) (update_of (listed (moved_of codec shape region)) payload stored) refuses
refused_turned codec chain elements shape region moved payload turned stored refuses b m h =
    let ns = moved_of codec shape region in
    let after = numbers_asked (encoded_shape codec shape) (in_box moved) in
    let fill = elements.fill in
    let shown = cells_shown chain elements (encoded_shape codec shape) stored in
    let same : h.cells ≡ gather fill m.cells (source_places codec region.shape) = some_same (sym h.valid.is.lists ∙ m.lists) in
    let whole : length (map (only_cell fill) shown) ≡ product (encoded_shape codec shape) = length-map shown (only_cell fill) ∙ shown_count chain elements (encoded_shape codec shape) stored in
    let there : cells_after (coded chain elements (encoded_shape codec shape)) stored after h.cells ≡ cells_after (coded chain elements (encoded_shape codec shape)) stored ns m.cells =
    ap (λ given. put after given (map (only_cell fill) shown)) same ∙ box_put fill codec shape region moved m.cells (map (only_cell fill) shown) b (m.valid.is.many ∙ sym b.count) whole in
    record {
      cells = m.cells;
      valid = subst (λ n. IsValid elements.type payload n m.cells) (sym b.count) m.valid;
      fit = h.fit;
      inside = are_moved codec shape (numbers_asked shape (in_box region)) b.fit (asked_places shape (in_box region) b.box.inside);
      is = subst refuses there h.is;
    }

-- ---- what is met, by numbers with the same places

met_alike : (ns ms : List ℕ) (part : Part) → AreAlike ns ms → is_met ns part ≡ is_met ms part
met_alike ns ms part alike =
    let test = λ (n : ℕ). nat_lt (position_of n part.places) (length part.places) in
    same_answer (is_met ns part) (is_met ms part) (alike.ahead test) (alike.back test)

are_met_alike : (ns ms : List ℕ) (parts : List Part) (changes : List Change) → AreAlike ns ms → AreMet ns parts changes → AreMet ms parts changes
are_met_alike ns ms parts changes alike h = record {
  below = h.below;
  met = λ i low. sym (met_alike ns ms (part_at parts changes i) alike) ∙ h.met i low;
  rising = h.rising;
  all = λ k low met. h.all k low (met_alike ns ms (get_or parts k no_part) alike ∙ met);
}

-- what a write changes in a shard
new_slices_alike : (inner : Chain) (elements : Elements) (parts : List Part) (ns ms : List ℕ) (stored : Option (List ℕ)) (cells : List Cell) (changes : List Change) → AreAlike ns ms
    → AreNewSlices inner elements parts (after_write ns stored cells) changes → AreNewSlices inner elements parts (after_write ms stored cells) changes
new_slices_alike inner elements parts ns ms stored cells changes alike h = record { met = are_met_alike ns ms parts changes alike h.met; made = h.made }

passes_length_alike : (chain : Chain) (elements : Elements) (shape ns ms : List ℕ) (stored : Option (List ℕ)) (cells : List Cell) → AreAlike ns ms → PassesLength chain elements shape (after_write ns stored cells) → PassesLength chain elements shape (after_write ms stored cells)
passes_length_alike (bytes order) elements shape ns ms stored cells alike h = h
passes_length_alike (packbits padding first last) elements shape ns ms stored cells alike h = h
passes_length_alike (vlen index «data» width location) elements shape ns ms stored cells alike h = h
passes_length_alike (optional mask values) elements shape ns ms stored cells alike h = h
passes_length_alike (after_array_codec codec chain) elements shape ns ms stored cells alike h =
    passes_length_alike chain elements (encoded_shape codec shape) (moved_numbers codec shape ns) (moved_numbers codec shape ms) stored (gather elements.fill cells (source_places codec shape)) (moved_alike codec shape ns ms alike) h
passes_length_alike (then_bytes chain codec) elements shape ns ms stored cells alike h = h
passes_length_alike (sharded subchunk inner index location) elements shape ns ms stored cells alike (inl long) = inl long
passes_length_alike (sharded subchunk inner index location) elements shape ns ms stored cells alike (inr h) = inr (h.0, new_slices_alike inner elements (parts_of shape subchunk) ns ms stored cells h.0 alike h.1, h.2)

long_alike : (chain : Chain) (elements : Elements) (shape ns ms : List ℕ) (stored : Option (List ℕ)) (cells : List Cell) → AreAlike ns ms → PassesIndex chain elements shape cells ⊎ PassesLength chain elements shape (after_write ns stored cells)
    → PassesIndex chain elements shape cells ⊎ PassesLength chain elements shape (after_write ms stored cells)
long_alike chain elements shape ns ms stored cells alike (inl passes) = inl passes
long_alike chain elements shape ns ms stored cells alike (inr long) = inr (passes_length_alike chain elements shape ns ms stored cells alike long)

met_refused_alike : (refused : List ℕ → List Cell → Type 0) (fill : Cell) (ns ms : List ℕ) (stored : Option (List ℕ)) (cells : List Cell) (parts : List Part) → AreAlike ns ms
    → MetRefused refused fill (after_write ns stored cells) parts → MetRefused refused fill (after_write ms stored cells) parts
met_refused_alike refused fill ns ms stored cells [] alike h = h
met_refused_alike refused fill ns ms stored cells (part ∷ parts) alike (inl h) = inl (sym (met_alike ns ms part alike) ∙ h.0, h.1, h.2)
met_refused_alike refused fill ns ms stored cells (part ∷ parts) alike (inr h) = inr (met_refused_alike refused fill ns ms stored cells parts alike h)

parts_refused_alike : (chain : Chain) (elements : Elements) (shape ns ms : List ℕ) (stored : Option (List ℕ)) (cells : List Cell) → AreAlike ns ms → PartsRefused chain elements shape (after_write ns stored cells) → PartsRefused chain elements shape (after_write ms stored cells)
parts_refused_alike (bytes order) elements shape ns ms stored cells alike h = h
parts_refused_alike (packbits padding first last) elements shape ns ms stored cells alike h = h
parts_refused_alike (vlen index «data» width location) elements shape ns ms stored cells alike h = h
parts_refused_alike (optional mask values) elements shape ns ms stored cells alike h = h
parts_refused_alike (after_array_codec codec chain) elements shape ns ms stored cells alike h =
    parts_refused_alike chain elements (encoded_shape codec shape) (moved_numbers codec shape ns) (moved_numbers codec shape ms) stored (gather elements.fill cells (source_places codec shape)) (moved_alike codec shape ns ms alike) h
parts_refused_alike (then_bytes chain codec) elements shape ns ms stored cells alike h = h
parts_refused_alike (sharded subchunk inner index location) elements shape ns ms stored cells alike (inl h) =
    inl (met_refused_alike (CodecRefuses inner elements) elements.fill ns ms stored cells (parts_of shape subchunk) alike h)
parts_refused_alike (sharded subchunk inner index location) elements shape ns ms stored cells alike (inr h) = inr (h.0, h.1, h.2, new_slices_alike inner elements (parts_of shape subchunk) ns ms stored cells h.1 alike h.3, h.4, h.5)

appends_alike : (chain : Chain) (elements : Elements) (shape ns ms : List ℕ) (stored new : Option (List ℕ)) (cells : List Cell) → AreAlike ns ms → Appends chain elements shape (after_write ns stored cells) new → Appends chain elements shape (after_write ms stored cells) new
appends_alike (bytes order) elements shape ns ms stored new cells alike h = tt
appends_alike (packbits padding first last) elements shape ns ms stored new cells alike h = tt
appends_alike (vlen index «data» width location) elements shape ns ms stored new cells alike h = tt
appends_alike (optional mask values) elements shape ns ms stored new cells alike h = tt
appends_alike (after_array_codec codec chain) elements shape ns ms stored new cells alike h =
    appends_alike chain elements (encoded_shape codec shape) (moved_numbers codec shape ns) (moved_numbers codec shape ms) stored new (gather elements.fill cells (source_places codec shape)) (moved_alike codec shape ns ms alike) h
appends_alike (then_bytes chain codec) elements shape ns ms stored new cells alike h = tt
appends_alike (sharded subchunk inner index location) elements shape ns ms stored new cells alike h =
    λ keeps. (let found = h keeps in (found.0, new_slices_alike inner elements (parts_of shape subchunk) ns ms stored cells found.0 alike found.1, found.2))

takes_alike : (chain : Chain) (type : DataType) (shape ns ms : List ℕ) (stored : Option (List ℕ)) → AreAlike ns ms → most_for_parts chain type shape stored ns ≡ most_for_parts chain type shape stored ms
takes_alike (bytes order) type shape ns ms stored alike = refl
takes_alike (packbits padding first last) type shape ns ms stored alike = refl
takes_alike (vlen index «data» width location) type shape ns ms stored alike = refl
takes_alike (optional mask values) type shape ns ms stored alike = refl
takes_alike (after_array_codec codec chain) type shape ns ms stored alike = takes_alike chain type (encoded_shape codec shape) (moved_numbers codec shape ns) (moved_numbers codec shape ms) stored (moved_alike codec shape ns ms alike)
takes_alike (then_bytes chain codec) type shape ns ms stored alike = refl
takes_alike (sharded subchunk inner index location) type shape ns ms None alike = refl
takes_alike (sharded subchunk inner index location) type shape ns ms (Some value) alike = any_order (sharded subchunk inner index location) type shape ns ms value refl alike

-- ---- a box that was turned

room_turned : (codec : ArrayCodec) (chain : Chain) (elements : Elements) (shape : List ℕ) (region moved : Region) (payload turned : Payload) (stored : Option (List ℕ)) → IsMovedBox codec shape region moved → IsTurned codec elements region payload turned
    → LacksRoom (coded chain elements (encoded_shape codec shape)) (update_of (in_box moved) turned stored) → LacksRoom (coded chain elements (encoded_shape codec shape)) (update_of (listed (moved_of codec shape region)) payload stored)
room_turned codec chain elements shape region moved payload turned stored b m room =
    let ns = numbers_asked (encoded_shape codec shape) (in_box moved) in
    let ms = moved_of codec shape region in
    let first : List Cell → Type 0 = λ after. PassesLength chain elements (encoded_shape codec shape) (after_write ns stored after) in
    let second : List Cell → Type 0 = λ after. PassesLength chain elements (encoded_shape codec shape) (after_write ms stored after) in
    refused_turned codec chain elements shape region moved payload turned stored second b m
    (put_so (coded chain elements (encoded_shape codec shape)) (update_of (in_box moved) turned stored) first second
    (λ after is. passes_length_alike chain elements (encoded_shape codec shape) ns ms stored after (box_alike codec shape region moved b) is) room)

refuses_turned : (codec : ArrayCodec) (chain : Chain) (elements : Elements) (shape : List ℕ) (region moved : Region) (payload turned : Payload) (stored : Option (List ℕ)) (after : List Cell) → IsMovedBox codec shape region moved → IsTurned codec elements region payload turned
    → WriteRefuses (coded chain elements (encoded_shape codec shape)) (update_of (in_box moved) turned stored) after → WriteRefuses (coded chain elements (encoded_shape codec shape)) (update_of (listed (moved_of codec shape region)) payload stored) after
refuses_turned codec chain elements shape region moved payload turned stored after b m h =
    let array = coded chain elements (encoded_shape codec shape) in
    let ns = numbers_asked (encoded_shape codec shape) (in_box moved) in
    let ms = moved_of codec shape region in
    let whole = WholeRefused chain elements (encoded_shape codec shape) after in
    either_by (encodes_in_part chain) (PartsRefused chain elements (encoded_shape codec shape) (after_write ns stored after)) (PartsRefused chain elements (encoded_shape codec shape) (after_write ms stored after))
    (LacksRoom array (update_of (in_box moved) turned stored)) (LacksRoom array (update_of (listed ms) payload stored)) whole whole
    (parts_refused_alike chain elements (encoded_shape codec shape) ns ms stored after (box_alike codec shape region moved b)) (room_turned codec chain elements shape region moved payload turned stored b m) (λ is. is) h

leaves_turned : (codec : ArrayCodec) (chain : Chain) (elements : Elements) (shape : List ℕ) (region moved : Region) (payload turned : Payload) (stored new : Option (List ℕ)) → IsMovedBox codec shape region moved → IsTurned codec elements region payload turned
    → LeavesParts (coded chain elements (encoded_shape codec shape)) (update_of (in_box moved) turned stored) new → LeavesParts (coded chain elements (encoded_shape codec shape)) (update_of (listed (moved_of codec shape region)) payload stored) new
leaves_turned codec chain elements shape region moved payload turned stored new b m h =
    let array = coded chain elements (encoded_shape codec shape) in
    let ns = numbers_asked (encoded_shape codec shape) (in_box moved) in
    let ms = moved_of codec shape region in
    let inside = update_of (in_box moved) turned stored in
    let outside = update_of (listed ms) payload stored in
    let anew = IsStoredGapless chain (encoded_shape codec shape) new in
    let first : List Cell → Type 0 = λ after. Appends chain elements (encoded_shape codec shape) (after_write ns stored after) new in
    let second : List Cell → Type 0 = λ after. Appends chain elements (encoded_shape codec shape) (after_write ms stored after) new in
    record {
      placed = h.placed;
      parts = either_by (encodes_in_part chain) (AppendsParts array inside new) (AppendsParts array outside new) (LacksRoom array inside) (LacksRoom array outside) anew anew
          (λ appended. refused_turned codec chain elements shape region moved payload turned stored second b m
          (put_so array inside first second (λ after is. appends_alike chain elements (encoded_shape codec shape) ns ms stored new after (box_alike codec shape region moved b) is) appended))
          (room_turned codec chain elements shape region moved payload turned stored b m) (λ is. is) h.parts;
    }

-- the elements that the codec moved are as many values as the moved box has places
pub turned_valid : (codec : ArrayCodec) (elements : Elements) (shape : List ℕ) (region moved : Region) (payload turned : Payload) (e : CodecError) → is_value elements.type elements.fill ≡ true → IsMovedBox codec shape region moved
    → IsTurned codec elements region payload turned → IsInvalid elements.type turned (length (numbers_asked (encoded_shape codec shape) (in_box moved))) e → ⊥
turned_valid codec elements shape region moved payload turned e fill b m why =
    let ks = source_places codec region.shape in
    not_invalid elements.type turned (length (numbers_asked (encoded_shape codec shape) (in_box moved))) (gather elements.fill m.cells ks) e
    (record { lists = m.lists; many = length-gather elements.fill m.cells ks ∙ (array_codec_count codec region.shape b.fits ∙ sym b.long) }) (values_gathered (is_value elements.type) elements.fill m.cells ks fill m.valid.values) why

stopped_turned : (codec : ArrayCodec) (chain : Chain) (elements : Elements) (shape : List ℕ) (region moved : Region) (payload turned : Payload) (stored : Option (List ℕ)) → IsMovedBox codec shape region moved → IsTurned codec elements region payload turned
    → StopsWrite (coded chain elements (encoded_shape codec shape)) (update_of (in_box moved) turned stored) → StopsWrite (coded chain elements (encoded_shape codec shape)) (update_of (listed (moved_of codec shape region)) payload stored)
stopped_turned codec chain elements shape region moved payload turned stored b m (inl damage) =
    inl (damaged_any chain elements (encoded_shape codec shape) stored (numbers_asked (encoded_shape codec shape) (in_box moved)) (moved_of codec shape region) (box_any codec shape region moved b) damage)
stopped_turned codec chain elements shape region moved payload turned stored b m (inr full) =
    inr (full.0, room_turned codec chain elements shape region moved payload turned stored b m full.1)

unwritten_turned : {A : Type 0} (codec : ArrayCodec) (chain : Chain) (elements : Elements) (shape : List ℕ) (region moved : Region) (payload turned : Payload) (stored : Option (List ℕ)) (r : Result A CodecError) → is_value elements.type elements.fill ≡ true
    → IsMovedBox codec shape region moved → IsTurned codec elements region payload turned
    → NotEncodedInto (coded chain elements (encoded_shape codec shape)) (update_of (in_box moved) turned stored) r → NotEncodedInto (coded chain elements (encoded_shape codec shape)) (update_of (listed (moved_of codec shape region)) payload stored) r
unwritten_turned codec chain elements shape region moved payload turned stored (Ok value) fill b m h = tt
unwritten_turned codec chain elements shape region moved payload turned stored (Err error.Fit) fill b m h = h
unwritten_turned codec chain elements shape region moved payload turned stored (Err error.IncompatibleIndexer) fill b m h = absurd (let e = sym b.inside.inside ∙ h in cc)
unwritten_turned codec chain elements shape region moved payload turned stored (Err error.Size) fill b m (inl large) = inl large
unwritten_turned codec chain elements shape region moved payload turned stored (Err error.Size) fill b m (inr h) =
    let array = coded chain elements (encoded_shape codec shape) in
    let ns = numbers_asked (encoded_shape codec shape) (in_box moved) in
    let ms = moved_of codec shape region in
    let first : List Cell → Type 0 = λ after. PassesIndex chain elements (encoded_shape codec shape) after ⊎ PassesLength chain elements (encoded_shape codec shape) (after_write ns stored after) in
    let second : List Cell → Type 0 = λ after. PassesIndex chain elements (encoded_shape codec shape) after ⊎ PassesLength chain elements (encoded_shape codec shape) (after_write ms stored after) in
    inr (refused_turned codec chain elements shape region moved payload turned stored second b m
    (put_so array (update_of (in_box moved) turned stored) first second (λ after why. long_alike chain elements (encoded_shape codec shape) ns ms stored after (box_alike codec shape region moved b) why) h))
unwritten_turned codec chain elements shape region moved payload turned stored (Err error.Codec) fill b m h =
    let array = coded chain elements (encoded_shape codec shape) in
    let inside = update_of (in_box moved) turned stored in
    let outside = update_of (listed (moved_of codec shape region)) payload stored in
    refused_turned codec chain elements shape region moved payload turned stored (WriteRefuses array outside) b m
    (put_so array inside (WriteRefuses array inside) (WriteRefuses array outside) (λ after why. refuses_turned codec chain elements shape region moved payload turned stored after b m why) h)
unwritten_turned codec chain elements shape region moved payload turned stored (Err error.Damage) fill b m h = (h.0, stopped_turned codec chain elements shape region moved payload turned stored b m h.1)
unwritten_turned codec chain elements shape region moved payload turned stored (Err error.Source) fill b m h = tt
unwritten_turned codec chain elements shape region moved payload turned stored (Err error.Memory) fill b m h = tt
unwritten_turned codec chain elements shape region moved payload turned stored (Err e) fill b m h = absurd (turned_valid codec elements shape region moved payload turned e fill b m h.1)

writes_turned : {A : Type 0} (codec : ArrayCodec) (chain : Chain) (elements : Elements) (shape : List ℕ) (region moved : Region) (payload turned : Payload) (stored : Option (List ℕ)) (source : SourceWrite) (r : Result A CodecError) → is_value elements.type elements.fill ≡ true
    → IsMovedBox codec shape region moved → IsTurned codec elements region payload turned
    → WritesPart (coded chain elements (encoded_shape codec shape)) (update_of (in_box moved) turned stored) source r → WritesPart (coded chain elements (encoded_shape codec shape)) (update_of (listed (moved_of codec shape region)) payload stored) source r
writes_turned codec chain elements shape region moved payload turned stored source r fill b m h =
    let array = coded chain elements (encoded_shape codec shape) in
    let inside = update_of (in_box moved) turned stored in
    let outside = update_of (listed (moved_of codec shape region)) payload stored in
    let same = ap (λ n. if encodes_in_part chain then n else value_length stored)
    (takes_alike chain elements.type (encoded_shape codec shape) (numbers_asked (encoded_shape codec shape) (in_box moved)) (moved_of codec shape region) stored (box_alike codec shape region moved b)) in
    record {
      parts = on_written r (LeavesParts array inside source.new) (LeavesParts array outside source.new) (leaves_turned codec chain elements shape region moved payload turned stored source.new b m) h.parts;
      cause = unwritten_turned codec chain elements shape region moved payload turned stored r fill b m h.cause;
      given = gives_by array array inside outside source.ranges source.before source.after same refl refl (room_turned codec chain elements shape region moved payload turned stored b m) h.given;
    }

pub box_writes : {A : Type 0} (codec : ArrayCodec) (chain : Chain) (elements : Elements) (shape : List ℕ) (region moved : Region) (payload turned : Payload) (stored : Option (List ℕ)) (source : SourceWrite) (r : Result A CodecError) → is_value elements.type elements.fill ≡ true
    → IsMovedBox codec shape region moved → IsTurned codec elements region payload turned → encodes_in_part (after_array_codec codec chain) ≡ encodes_in_part chain
    → WritesPart (coded chain elements (encoded_shape codec shape)) (update_of (in_box moved) turned stored) source r → WritesPart (coded (after_array_codec codec chain) elements shape) (update_of (in_box region) payload stored) source r
box_writes codec chain elements shape region moved payload turned stored source r fill b m partly h =
    let numbers = numbers_asked shape (in_box region) in
    writes_by_numbers (after_array_codec codec chain) elements shape (in_box region) payload stored source r b.box.inside
    (writes_after codec chain elements shape numbers payload stored source r b.fit (asked_places shape (in_box region) b.box.inside) partly (writes_turned codec chain elements shape region moved payload turned stored source r fill b m h))

-- elements that the codec does not move
pub box_unturned : (A : Type 0) (codec : ArrayCodec) (chain : Chain) (elements : Elements) (shape : List ℕ) (region moved : Region) (payload : Payload) (stored : Option (List ℕ)) (e : CodecError) → IsMovedBox codec shape region moved
    → fits (after_array_codec codec chain) elements.type shape ≡ true → EncodesArray codec elements region.shape payload (Err e) → NotEncodedInto {A = A} (coded (after_array_codec codec chain) elements shape) (update_of (in_box region) payload stored) (Err e)
box_unturned A codec chain elements shape region moved payload stored error.Fit b fit h = absurd (let e = sym b.fits ∙ h in cc)
box_unturned A codec chain elements shape region moved payload stored error.Size b fit h = inl (box_too_large elements.type shape region b.box h)
box_unturned A codec chain elements shape region moved payload stored error.Memory b fit h = tt
box_unturned A codec chain elements shape region moved payload stored error.Source b fit h = tt
box_unturned A codec chain elements shape region moved payload stored error.Codec b fit h = absurd h.1
box_unturned A codec chain elements shape region moved payload stored error.Damage b fit h = absurd h.1
box_unturned A codec chain elements shape region moved payload stored error.IncompatibleIndexer b fit h = absurd h.1
box_unturned A codec chain elements shape region moved payload stored e b fit h =
    (fit, subst (λ n. IsInvalid elements.type payload n e) (sym b.count ∙ length-map (numbers_asked shape (in_box region)) (λ n. position_of n (source_places codec shape))) h.1)
