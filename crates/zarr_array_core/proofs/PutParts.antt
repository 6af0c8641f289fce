-- The elements of a box put into what a chunk's value holds, whatever its other elements are.
use Rattle.std.proofs.Common.{◌≡◌, ◌∙◌, ℕ, zero, suc, ◌<◌, ◌&&◌, Bool, true, false, List, [], ◌∷◌, length, map, get_or, set, replicate, refl, sym, ap, subst, arith, Option, Some, None, Err, inl, inr}
use Rattle.std.specs.Prelude.{MatchBool, MatchOption}
use Rattle.std.specs.List.{list_all}
use Rattle.std.proofs.lemmas.Bool.{false≢true}
use Rattle.std.proofs.lemmas.List.{get_or-map, get_or-replicate, get_or-set_other, length-map, length-replicate, length-set}
use Rattle.std.proofs.lemmas.List.FromFn.{get_or-map-range_with_len, length-map-range_with_len}
use Rattle.std.proofs.lemmas.Grind.{get_or-set_at}
use Rattle.zarr_grids_boxes.specs.Boxes.{Region, product, place_at, is_in_box, share_place}
use Rattle.zarr_grids_boxes.specs.Cuts.{overlapped, relative}
use Rattle.zarr_grids_boxes.proofs.InBox.{in_box-place_at, place_at-number, ravel-place_at}
use Rattle.zarr_grids_boxes.proofs.Places.{both}
use Rattle.zarr_codecs_meaning.specs.Chunks.{chunk_part, IsStored}
use Rattle.zarr_codecs_meaning.specs.Decoding.{opens}
use Rattle.zarr_codecs_meaning.specs.Fits.{is_lossless}
use Rattle.zarr_codecs_meaning.specs.Laws.{AreCells, IsLawfulChain}
use Rattle.zarr_codecs_meaning.specs.Payloads.{Payload}
use Rattle.zarr_codecs_meaning.specs.Standing.{Stands}
use Rattle.zarr_codecs_meaning.specs.Types.{Cell, is_fill, is_value, IsTooLarge}
use Rattle.zarr_codecs_meaning.proofs.Chunks.{stored_decoded}
use Rattle.zarr_codecs_meaning.proofs.DecodedElements.{all_filled}
use Rattle.zarr_codecs_meaning.proofs.Lists.{some_same}
use Rattle.zarr_codecs_arrays.specs.Outcomes.{IsCounted}
use Rattle.zarr_codecs_arrays.specs.declared.error.CodecError.{CodecError}
use Rattle.zarr_codecs_arrays.specs.declared.error.CodecError.TheVariants as codec_error
use Rattle.zarr_codecs_traits.specs.Indexers.{in_box, numbers_of, put}
use Rattle.zarr_codecs_traits.specs.Arrays.{coded, update_of}
use Rattle.zarr_codecs_traits.specs.PartWriting.{IsEncodedInto, NotEncodedInto, cells_shown}
use Rattle.zarr_codecs_traits.specs.Sources.{refused_after}
use Rattle.zarr_array_meaning.specs.Boxes.{cell_of_box}
use Rattle.zarr_array_meaning.specs.Chunks.{number_in, fits_box}
use Rattle.zarr_array_meaning.specs.Documents.{Document}
use Rattle.zarr_array_meaning.specs.ElementBytes.{KeepsBytes}
use Rattle.zarr_array_meaning.specs.Writes.{Write}
use Rattle.zarr_array_meaning.specs.Writing.{opens_in}
use Rattle.zarr_array_meaning.proofs.TakenParts.{part_of_decoded}
use Rattle.zarr_array_core.specs.ChunkValues.{CellsBecome, IsPutRefusal, PutsCells, PutStops, plain_write, put_refusal_of}
use Rattle.zarr_array_core.proofs.ChunkPayloads.{AreArrayElements, listed_none, not_counted}
use Rattle.zarr_array_core.proofs.InParts.{IsInPart, keeps_bits, stopped_closed, nothing_refuses, none_long, none_passes}
use Rattle.zarr_array_core.proofs.PlainBytes.{IsPartWrite, become_plain, cells_plain, fits_plain, fixed_of_fit, keeps_filled, large_plain, puts_back}
use Rattle.zarr_array_elements.proofs.ByNumber.{AreDistinct}
use Rattle.zarr_array_elements.proofs.FixedCells.{number_below}
use Rattle.zarr_array_elements.proofs.Meeting.{IsMeeting, meeting}
use Rattle.zarr_array_elements.proofs.Moved.{one_place}
use Rattle.zarr_array_elements.proofs.Shared.{large_grows, shared_smaller}

-- ---- a list after others were put at some places of it

-- at a number that isn't among the places
put_other : {X : Type 0} (n : ℕ) (ns : List ℕ) (xs ys : List X) (d : X) → ((k : ℕ) → k < length ns → get_or ns k 0 ≡ n → ⊥) → get_or (put ns xs ys) n d ≡ get_or ys n d
put_other n [] xs ys d apart = refl
put_other n (m ∷ ns) [] ys d apart = refl
put_other n (m ∷ ns) (x ∷ xs) ys d apart =
    put_other n ns xs (set ys m x) d (λ k below e. apart (suc k) (omega (arith, below)) e) ∙ get_or-set_other ys m n x d (λ e. apart 0 (omega arith) (sym e))

-- at one of the places, where no two of them are one
put_at : {X : Type 0} (k : ℕ) (ns : List ℕ) (xs ys : List X) (d : X) → AreDistinct ns → length xs ≡ length ns → k < length ns → get_or ns k 0 < length ys → get_or (put ns xs ys) (get_or ns k 0) d ≡ get_or xs k d
put_at k [] xs ys d distinct same below low = absurd (omega (arith, below))
put_at k (n ∷ ns) [] ys d distinct same below low = absurd (omega (arith, same))
put_at zero (n ∷ ns) (x ∷ xs) ys d distinct same below low =
    put_other n ns xs (set ys n x) d (λ k b e. let one : suc k ≡ 0 = distinct (suc k) 0 (omega (arith, b)) (omega arith) e in absurd (omega (arith, one)))
    ∙ get_or-set_at ys n n x d refl low
put_at (suc k) (n ∷ ns) (x ∷ xs) ys d distinct same below low =
    put_at k ns xs (set ys n x) d (λ i j a b e. let one : suc i ≡ suc j = distinct (suc i) (suc j) (omega (arith, a)) (omega (arith, b)) e in omega (arith, one)) (omega (arith, same)) (omega (arith, below)) (omega (arith, low, length-set ys n x))

-- ---- what a chunk shows

-- the elements of a box that lie in a chunk, and what is stored for the chunk before and after they are put there
pub record ArePut (write : Write) (box : Region) (payload : Payload) (sub : List Cell) : Type 0 where
  pub share : share_place box.start box.shape write.region.start write.region.shape ≡ true
  pub fit : fits_box write.array.document box ≡ true
  pub are : AreArrayElements write.array.document.elements (overlapped write.region box).shape payload sub
  pub becomes : CellsBecome write (overlapped write.region box) None sub

-- elements that were taken out of those of a write
put_elements : (write : Write) (box shared : Region) (payload : Payload) (sub : List Cell) → shared ≡ overlapped write.region box → share_place box.start box.shape write.region.start write.region.shape ≡ true
    → fits_box write.array.document box ≡ true → ¬ IsTooLarge write.array.document.elements.type (product box.shape) → CellsBecome write shared None sub → IsCounted write.array.document.elements.type payload (product shared.shape) sub
    → ArePut write box payload sub
put_elements write box shared payload sub same share fit small becomes counted =
    let there : CellsBecome write (overlapped write.region box) None sub = subst (λ (r : Region). CellsBecome write r None sub) same becomes in
    let many : IsCounted write.array.document.elements.type payload (product (overlapped write.region box).shape) sub = subst (λ (r : Region). IsCounted write.array.document.elements.type payload (product r.shape) sub) same counted in
    record {
      share = share;
      fit = fit;
      are = record {
        valid = record { is = many; values = there.values };
        small = λ large. small (large_grows write.array.document.elements.type (product (overlapped write.region box).shape) (product box.shape) (shared_smaller write.region box share) large);
      };
      becomes = there;
    }

abbrev pub part_of : Region → Region → Region
part_of region box = relative (overlapped region box) box.start

module _ (write : Write) (box : Region) (payload : Payload) (sub : List Cell) (are : ArePut write box payload sub) where
  abbrev shared : Region
  shared = overlapped write.region box

  meet : IsMeeting write.region box shared (part_of write.region box)
  meet = meeting write.region box are.share

  abbrev ns : List ℕ
  ns = numbers_of box.shape (part_of write.region box)

  abbrev place_of : ℕ → List ℕ
  place_of = place_at shared.start shared.shape

  in_chunk : (k : ℕ) → k < product shared.shape → is_in_box box.start box.shape (place_of k) ≡ true
  in_chunk k low =
      (both (is_in_box write.region.start write.region.shape (place_of k)) (is_in_box box.start box.shape (place_of k)) (sym (meet.both (place_of k)) ∙ in_box-place_at shared.start shared.shape k meet.rank low)).1

  distinct : AreDistinct ns
  distinct j k a b e =
      let low : j < product shared.shape = omega (arith, a, meet.many) in
      let under : k < product shared.shape = omega (arith, b, meet.many) in
      let same : place_of j ≡ place_of k = one_place box (place_of j) (place_of k) (in_chunk j low) (in_chunk k under) (sym (meet.number j low) ∙ (e ∙ meet.number k under)) in
      sym (ravel-place_at shared.start shared.shape j meet.rank low) ∙ (ap (number_in shared) same ∙ ravel-place_at shared.start shared.shape k meet.rank under)

  -- a list after others were put at the shared places: at a place in the box
  put_in : {X : Type 0} (xs before : List X) (d : X) (place : List ℕ) → length xs ≡ length ns → length before ≡ product box.shape → is_in_box write.region.start write.region.shape place ≡ true → is_in_box box.start box.shape place ≡ true
      → (number_in shared place < length ns) × (get_or (put ns xs before) (number_in box place) d ≡ get_or xs (number_in shared place) d)
  put_in xs before d place counted whole r t =
      let inside : is_in_box shared.start shared.shape place ≡ true = meet.both place ∙ (ap (λ (b : Bool). b && is_in_box box.start box.shape place) r ∙ t) in
      let k = number_in shared place in
      let low : k < product shared.shape = number_below shared place inside in
      let here : get_or ns k 0 ≡ number_in box place = meet.number k low ∙ ap (number_in box) (place_at-number shared.start shared.shape place inside) in
      let below : number_in box place < product box.shape = number_below box place t in
      let under : k < length ns = omega (arith, low, meet.many) in
      (under, ap (λ n. get_or (put ns xs before) n d) (sym here) ∙ put_at k ns xs before d distinct counted under (omega (arith, here, below, whole)))

  -- at a place outside of it
  put_out : {X : Type 0} (xs before : List X) (d : X) (place : List ℕ) → is_in_box write.region.start write.region.shape place ≡ false → is_in_box box.start box.shape place ≡ true → get_or (put ns xs before) (number_in box place) d ≡ get_or before (number_in box place) d
  put_out xs before d place r t =
      let outside : is_in_box shared.start shared.shape place ≡ false = meet.both place ∙ ap (λ (b : Bool). b && is_in_box box.start box.shape place) r in
      put_other (number_in box place) ns xs before d (λ k under e.
      let low : k < product shared.shape = omega (arith, under, meet.many) in
      let same : place_of k ≡ place = one_place box (place_of k) place (in_chunk k low) t (sym (meet.number k low) ∙ e) in
      false≢true (sym outside ∙ (ap (is_in_box shared.start shared.shape) (sym same) ∙ in_box-place_at shared.start shared.shape k meet.rank low)))

  -- the elements at a place in the box
  pub cell_in : (before : List Cell) (place : List ℕ) → length before ≡ product box.shape → is_in_box write.region.start write.region.shape place ≡ true → is_in_box box.start box.shape place ≡ true
      → get_or (put ns sub before) (number_in box place) write.array.document.elements.fill ≡ cell_of_box write.region write.cells write.array.document.elements.fill place
  cell_in before place whole r t = (put_in sub before write.array.document.elements.fill place (are.are.valid.is.many ∙ sym meet.many) whole r t).1 ∙ are.becomes.written place r (meet.both place ∙ (ap (λ (b : Bool). b && is_in_box box.start box.shape place) r ∙ t))

  -- and outside of it
  pub cell_out : (before : List Cell) (place : List ℕ) → is_in_box write.region.start write.region.shape place ≡ false → is_in_box box.start box.shape place ≡ true → get_or (put ns sub before) (number_in box place) write.array.document.elements.fill ≡ get_or before (number_in box place) write.array.document.elements.fill
  cell_out before place r t = put_out sub before write.array.document.elements.fill place r t

module _ (write : Write) (exact : Bool) (box : Region) (payload : Payload) (sub cells : List Cell) (old new : Option (List ℕ)) (are : ArePut write box payload sub) (h : IsEncodedInto (coded write.array.document.chain write.array.document.elements box.shape) exact (update_of (in_box (part_of write.region box)) payload old) cells new) (lossless : is_lossless write.array.document.chain write.array.document.elements.type ≡ true) where
  abbrev numbers : List ℕ
  numbers = numbers_of box.shape (part_of write.region box)

  -- what is stored is read at a place
  abbrev read : Option (List ℕ) → ℕ → Option (List Cell)
  read stored n = chunk_part write.array.document.chain write.array.document.elements box.shape stored (n ∷ [])

  shown_at : (stored : Option (List ℕ)) (n : ℕ) → n < product box.shape → get_or (cells_shown write.array.document.chain write.array.document.elements box.shape stored) n None ≡ read stored n
  shown_at stored n below = get_or-map-range_with_len (read stored) 0 (product box.shape) n n None below (omega arith)

  length-shown : length (cells_shown write.array.document.chain write.array.document.elements box.shape old) ≡ product box.shape
  length-shown = length-map-range_with_len (read old) 0 (product box.shape)

  abbrev one : Cell → Option (List Cell)
  one cell = Some (cell ∷ [])

  same_cells : cells ≡ sub
  same_cells = some_same (sym h.valid.is.lists ∙ are.are.valid.is.lists)

  -- a place in the box
  shows_in : (place : List ℕ) → is_in_box write.region.start write.region.shape place ≡ true → is_in_box box.start box.shape place ≡ true → read new (number_in box place) ≡ one (cell_of_box write.region write.cells write.array.document.elements.fill place)
  shows_in place r t =
      let fill = write.array.document.elements.fill in
      let inside : is_in_box (overlapped write.region box).start (overlapped write.region box).shape place ≡ true = (meeting write.region box are.share).both place ∙ (ap (λ (b : Bool). b && is_in_box box.start box.shape place) r ∙ t) in
      let k = number_in (overlapped write.region box) place in
      let counted : length cells ≡ length numbers = h.valid.is.many in
      let many : length (map one cells) ≡ length numbers = length-map cells one ∙ counted in
      let there = put_in write box payload sub are (map one cells) (cells_shown write.array.document.chain write.array.document.elements box.shape old) None place many length-shown r t in
      let long : k < length cells = omega (arith, there.0, counted) in
      sym (shown_at new (number_in box place) (number_below box place t))
      ∙ (ap (λ (xs : List (Option (List Cell))). get_or xs (number_in box place) None) (h.shows lossless)
      ∙ (there.1
      ∙ (get_or-map one cells k fill None long
      ∙ ap one (ap (λ (cs : List Cell). get_or cs k fill) same_cells ∙ are.becomes.written place r inside))))

  -- a place outside of it
  shows_out : (place : List ℕ) → is_in_box write.region.start write.region.shape place ≡ false → is_in_box box.start box.shape place ≡ true → read new (number_in box place) ≡ read old (number_in box place)
  shows_out place r t =
      let below : number_in box place < product box.shape = number_below box place t in
      sym (shown_at new (number_in box place) below)
      ∙ (ap (λ (xs : List (Option (List Cell))). get_or xs (number_in box place) None) (h.shows lossless)
      ∙ (put_out write box payload sub are (map one cells) (cells_shown write.array.document.chain write.array.document.elements box.shape old) None place r t
      ∙ shown_at old (number_in box place) below))

  shows_place : (place : List ℕ) (t : Bool) → is_in_box write.region.start write.region.shape place ≡ t → is_in_box box.start box.shape place ≡ true
      → MatchBool t (read new (number_in box place) ≡ one (cell_of_box write.region write.cells write.array.document.elements.fill place)) (read new (number_in box place) ≡ read old (number_in box place))
  shows_place place true r t = shows_in place r t
  shows_place place false r t = shows_out place r t

opened_of : (document : Document) (box : Region) (old : Option (List ℕ)) → MatchOption old (Unit {0}) (λ value. opens document.chain document.elements box.shape value ≡ true) → opens_in document box old ≡ true
opened_of document box None h = refl
opened_of document box (Some value) h = h

-- what a codec put into what is stored
pub puts_cells : (write : Write) (exact : Bool) (box : Region) (payload : Payload) (sub cells : List Cell) (old new : Option (List ℕ)) → ArePut write box payload sub
    → IsEncodedInto (coded write.array.document.chain write.array.document.elements box.shape) exact (update_of (in_box (part_of write.region box)) payload old) cells new → PutsCells write box old new
puts_cells write exact box payload sub cells old new are h = record {
  opened = opened_of write.array.document box old h.opened;
  shows = λ lossless place t. shows_place write exact box payload sub cells old new are h lossless place (is_in_box write.region.start write.region.shape place) refl t;
}

-- ---- the fill value, where a codec left no value

filled_read : (document : Document) (box : Region) (value : List ℕ) (n : ℕ) → IsLawfulChain document.chain → is_lossless document.chain document.elements.type ≡ true → is_value document.elements.type document.elements.fill ≡ true → fits_box document box ≡ true → n < product box.shape
    → Stands document.chain document.elements box.shape value (replicate (product box.shape) document.elements.fill) → chunk_part document.chain document.elements box.shape (Some value) (n ∷ []) ≡ Some (document.elements.fill ∷ [])
filled_read document box value n lawful lossless fine fit below stands =
    let fill = document.elements.fill in
    let filled = replicate (product box.shape) fill in
    let are : AreCells document.elements box.shape filled = record { fill = fine; values = all_filled (is_value document.elements.type) fill (product box.shape) fine; whole = length-replicate (product box.shape) fill } in
    let stored : IsStored document.chain document.elements box.shape (Some value) filled = subst (λ (b : Bool). MatchBool b (Stands document.chain document.elements box.shape value filled) ((Some value ≡ None) × (is_fill fill filled ≡ true))) (sym fit) stands in
    part_of_decoded document.chain document.elements box.shape (Some value) filled n fit below (stored_decoded document.chain document.elements box.shape (Some value) filled lawful lossless are stored)
    ∙ ap (λ c. Some (c ∷ [])) (get_or-replicate (product box.shape) n fill fill below)

same_shown : (t : Bool) (a b other : Option (List Cell)) (cell : Cell) → b ≡ a → MatchBool t (a ≡ Some (cell ∷ [])) (a ≡ other) → MatchBool t (b ≡ Some (cell ∷ [])) (b ≡ other)
same_shown true a b other cell e h = e ∙ h
same_shown false a b other cell e h = e ∙ h

-- the fill value encoded is read as no value
pub puts_filled : (write : Write) (box : Region) (old : Option (List ℕ)) (value : List ℕ) → IsLawfulChain write.array.document.chain → is_value write.array.document.elements.type write.array.document.elements.fill ≡ true → fits_box write.array.document box ≡ true
    → (is_lossless write.array.document.chain write.array.document.elements.type ≡ true → Stands write.array.document.chain write.array.document.elements box.shape value (replicate (product box.shape) write.array.document.elements.fill)) → PutsCells write box old None → PutsCells write box old (Some value)
puts_filled write box old value lawful fine fit stands puts = record {
  opened = puts.opened;
  shows = λ lossless place t.
      let n = number_in box place in
      let part = λ (stored : Option (List ℕ)). chunk_part write.array.document.chain write.array.document.elements box.shape stored (n ∷ []) in
      same_shown (is_in_box write.region.start write.region.shape place) (part None) (part (Some value)) (part old) (cell_of_box write.region write.cells write.array.document.elements.fill place)
      (filled_read write.array.document box value n lawful lossless fine fit (number_below box place t) (stands lossless)) (puts.shows lossless place t);
}

-- where a codec that was given plain bytes left none
pub fills_bytes : (write : Write) (box : Region) (old : Option (List ℕ)) (value : List ℕ) → IsLawfulChain write.array.document.chain → IsPartWrite write box → (is_lossless write.array.document.chain write.array.document.elements.type ≡ true → Stands write.array.document.chain write.array.document.elements box.shape value (replicate (product box.shape) write.array.document.elements.fill))
    → PutsCells (plain_write write) box old None → PutsCells write box old (Some value) × KeepsBytes write box old (Some value)
fills_bytes write box old value lawful is stands puts =
    let lossless = keeps_bits write.array.document.chain write.array.document.elements.type is.chain in (
      puts_filled write box old value lawful is.fine is.fit stands (puts_back write box is old None puts),
      keeps_filled write box is old value (λ n below. filled_read write.array.document box value n lawful lossless is.fine is.fit below (stands lossless)) puts,
    )

-- ---- why a codec puts nothing

-- an error that is damage, or of memory
abbrev pub IsPutStop : Document → Region → Option (List ℕ) → CodecError → Type 0
IsPutStop document box stored codec_error.Damage = opens_in document box stored ≡ false
IsPutStop document box stored codec_error.Memory = Unit {0}
IsPutStop document box stored codec_error.Source = Unit {0}
IsPutStop document box stored e = ⊥

pub counted_asked : (write : Write) (box : Region) (payload : Payload) (sub : List Cell) → ArePut write box payload sub → IsCounted write.array.document.elements.type payload (length (numbers_of box.shape (part_of write.region box))) sub
counted_asked write box payload sub are =
    subst (λ n. IsCounted write.array.document.elements.type payload n sub) (sym (meeting write.region box are.share).many) are.are.valid.is

why_not_put : (A : Type 0) (write : Write) (box : Region) (payload : Payload) (sub : List Cell) (stored : Option (List ℕ)) (e : CodecError) → IsInPart write.array.document.chain → ArePut write box payload sub → ¬ IsTooLarge write.array.document.elements.type (product box.shape)
    → NotEncodedInto {A = A} (coded write.array.document.chain write.array.document.elements box.shape) (update_of (in_box (part_of write.region box)) payload stored) (Err e) → IsPutStop write.array.document box stored e
why_not_put A write box payload sub stored codec_error.Fit chain are small h = false≢true (sym h ∙ are.fit)
why_not_put A write box payload sub stored codec_error.Damage chain are small h = stopped_closed write.array.document.chain write.array.document.elements box.shape _ payload stored chain h.1
why_not_put A write box payload sub stored codec_error.Codec chain are small h = nothing_refuses write.array.document.chain write.array.document.elements box.shape (update_of (in_box (part_of write.region box)) payload stored) _ chain h.is
why_not_put A write box payload sub stored codec_error.Source chain are small h = tt
why_not_put A write box payload sub stored codec_error.Size chain are small (inl large) = small large
why_not_put A write box payload sub stored codec_error.Size chain are small (inr h) = elim h.is [
  | inl k ↦ none_passes write.array.document.chain write.array.document.elements box.shape _ chain k
  | inr k ↦ none_long write.array.document.chain write.array.document.elements box.shape _ chain k
]
why_not_put A write box payload sub stored codec_error.CellOutOfRange chain are small h =
    let same = some_same (sym h.1.1.lists ∙ are.are.valid.is.lists) in
    false≢true (sym h.1.2 ∙ (ap (list_all (is_value write.array.document.elements.type)) same ∙ are.are.valid.values))
why_not_put A write box payload sub stored codec_error.IncompatibleIndexer chain are small h = false≢true (sym h ∙ (meeting write.region box are.share).inside)
why_not_put A write box payload sub stored codec_error.InvalidNumberOfElements chain are small h =
    not_counted write.array.document.elements.type payload (length (numbers_of box.shape (part_of write.region box))) sub (counted_asked write box payload sub are) h.1
why_not_put A write box payload sub stored codec_error.ExpectedFixedLengthBytes chain are small h = listed_none write.array.document.elements (overlapped write.region box).shape payload sub are.are h.1.0
why_not_put A write box payload sub stored codec_error.ExpectedVariableLengthBytes chain are small h = listed_none write.array.document.elements (overlapped write.region box).shape payload sub are.are h.1.0
why_not_put A write box payload sub stored codec_error.ExpectedOptionalBytes chain are small h = listed_none write.array.document.elements (overlapped write.region box).shape payload sub are.are h.1.0
why_not_put A write box payload sub stored codec_error.Unsupported chain are small h = h.1
why_not_put A write box payload sub stored codec_error.Memory chain are small h = tt
why_not_put A write box payload sub stored (codec_error.Other text) chain are small h = h.1

-- such an error as a chunk's: a source in memory refuses nothing
put_refusal_told : (A : Type 0) (document : Document) (box : Region) (stored : Option (List ℕ)) (e : CodecError) → IsPutStop document box stored e → refused_after {A = A} 0 (Err e) ≡ 0 → IsPutRefusal e × PutStops document box stored (put_refusal_of e)
put_refusal_told A document box stored codec_error.Fit h none = absurd h
put_refusal_told A document box stored codec_error.Damage h none = (tt, h)
put_refusal_told A document box stored codec_error.Codec h none = absurd h
put_refusal_told A document box stored codec_error.Source h none = absurd (omega (arith, none))
put_refusal_told A document box stored codec_error.Size h none = absurd h
put_refusal_told A document box stored codec_error.CellOutOfRange h none = absurd h
put_refusal_told A document box stored codec_error.IncompatibleIndexer h none = absurd h
put_refusal_told A document box stored codec_error.InvalidNumberOfElements h none = absurd h
put_refusal_told A document box stored codec_error.ExpectedFixedLengthBytes h none = absurd h
put_refusal_told A document box stored codec_error.ExpectedVariableLengthBytes h none = absurd h
put_refusal_told A document box stored codec_error.ExpectedOptionalBytes h none = absurd h
put_refusal_told A document box stored codec_error.Unsupported h none = absurd h
put_refusal_told A document box stored codec_error.Memory h none = (tt, tt)
put_refusal_told A document box stored (codec_error.Other text) h none = absurd h

-- ---- a call of a codec

-- the places that a write and a chunk share
pub shared_is : (subset region own met : Region) → subset ≡ region → met ≡ overlapped subset own → met ≡ overlapped region own
shared_is subset region own met e f = f ∙ ap (λ (r : Region). overlapped r own) e

-- elements were taken out of those of a write for a part of a chunk, and a codec was given these and that part
pub record IsPutCall (write : Write) (box shared part : Region) (shape start : List ℕ) (payload : Payload) (sub : List Cell) : Type 0 where
  pub same : shared ≡ overlapped write.region box
  pub seen : part ≡ relative shared start
  pub from : start ≡ box.start
  pub whole : shape ≡ box.shape
  pub share : share_place box.start box.shape write.region.start write.region.shape ≡ true
  pub fit : fits_box write.array.document box ≡ true
  pub small : ¬ IsTooLarge write.array.document.elements.type (product box.shape)
  pub becomes : CellsBecome write shared None sub
  pub counted : IsCounted write.array.document.elements.type payload (product shared.shape) sub

-- the same call, where the elements are plain bytes
pub plain_call : (write : Write) (box shared part : Region) (shape start : List ℕ) (payload : Payload) (sub : List Cell) → IsInPart write.array.document.chain → IsPutCall write box shared part shape start payload sub → IsPutCall (plain_write write) box shared part shape start payload sub
plain_call write box shared part shape start payload sub is call =
    let chain = write.array.document.chain in
    let type = write.array.document.elements.type in
    let one_size = fixed_of_fit chain type box.shape is call.fit in
    record {
      same = call.same;
      seen = call.seen;
      from = call.from;
      whole = call.whole;
      share = call.share;
      fit = fits_plain chain type box.shape is call.fit;
      small = λ large. call.small (large_plain type (product box.shape) one_size large);
      becomes = become_plain write shared sub one_size call.becomes;
      counted = record { lists = cells_plain type payload one_size ∙ call.counted.lists; many = call.counted.many };
    }

module _ (write : Write) (box shared part : Region) (shape start : List ℕ) (payload : Payload) (sub : List Cell) (call : IsPutCall write box shared part shape start payload sub) where
  pub are_put : ArePut write box payload sub
  are_put = put_elements write box shared payload sub call.same call.share call.fit call.small call.becomes call.counted

  pub part_is : part ≡ part_of write.region box
  part_is = call.seen ∙ (ap (λ (r : Region). relative r start) call.same ∙ ap (relative (overlapped write.region box)) call.from)

  pub was_put : (exact : Bool) (cells : List Cell) (old new : Option (List ℕ)) → IsEncodedInto (coded write.array.document.chain write.array.document.elements shape) exact (update_of (in_box part) payload old) cells new → PutsCells write box old new
  was_put exact cells old new h =
      puts_cells write exact box payload sub cells old new are_put
      (subst (λ (s : List ℕ). IsEncodedInto (coded write.array.document.chain write.array.document.elements s) exact (update_of (in_box (part_of write.region box)) payload old) cells new) call.whole
      (subst (λ (r : Region). IsEncodedInto (coded write.array.document.chain write.array.document.elements shape) exact (update_of (in_box r) payload old) cells new) part_is h))

  pub was_refused : (old : Option (List ℕ)) (e : CodecError) → IsInPart write.array.document.chain → NotEncodedInto {A = Unit {0}} (coded write.array.document.chain write.array.document.elements shape) (update_of (in_box part) payload old) (Err e) → refused_after {A = Unit {0}} 0 (Err e) ≡ 0 → IsPutRefusal e × PutStops write.array.document box old (put_refusal_of e)
  was_refused old e chain h none =
      put_refusal_told (Unit {0}) write.array.document box old e (why_not_put (Unit {0}) write box payload sub old e chain are_put call.small
      (subst (λ (s : List ℕ). NotEncodedInto {A = Unit {0}} (coded write.array.document.chain write.array.document.elements s) (update_of (in_box (part_of write.region box)) payload old) (Err e)) call.whole
      (subst (λ (r : Region). NotEncodedInto {A = Unit {0}} (coded write.array.document.chain write.array.document.elements shape) (update_of (in_box r) payload old) (Err e)) part_is h))) none
