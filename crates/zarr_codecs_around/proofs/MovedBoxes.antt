-- Boxes that array codecs move, one after another, and parts that are asked for by them.
use Rattle.std.proofs.Common.{◌≡◌, ◌∙◌, ℕ, List, [], ◌∷◌, ◌++◌, refl, sym, ap, subst, Option, Bool, true, false, ◌&&◌, inl, Result, Ok, Err}
use Rattle.zarr_grids_boxes.specs.Boxes.{Region, product}
use Rattle.zarr_codecs_meaning.specs.Chains.{ArrayCodec, Chain}
use Rattle.zarr_codecs_meaning.specs.Fits.{array_codec_fits, fits}
use Rattle.zarr_codecs_meaning.specs.Partial.{encodes_in_part}
use Rattle.zarr_codecs_meaning.specs.Payloads.{Payload}
use Rattle.zarr_codecs_meaning.specs.Places.{encoded_shape}
use Rattle.zarr_codecs_meaning.specs.Types.{Cell, DataType, Elements, IsTooLarge, is_value}
use Rattle.zarr_codecs_meaning.proofs.Lists.{some_same}
use Rattle.zarr_codecs_arrays.specs.Outcomes.{IsInvalid}
use Rattle.zarr_codecs_arrays.specs.Views.{payload_of}
use Rattle.zarr_codecs_arrays.specs.declared.array_bytes.ArrayBytes.{ArrayBytes}
use Rattle.zarr_codecs_arrays.specs.declared.error.CodecError.{CodecError}
use Rattle.zarr_codecs_arrays.specs.declared.error.CodecError.TheVariants as error
use Rattle.zarr_codecs_traits.specs.Indexers.{Asked, in_box}
use Rattle.zarr_codecs_traits.specs.Arrays.{coded, update_of}
use Rattle.zarr_codecs_traits.specs.Outcomes.{DecodesArray, DecodesPart, EncodesArray}
use Rattle.zarr_codecs_traits.specs.PartWriting.{IsEncodedInto, NotEncodedInto}
use Rattle.zarr_codecs_traits.specs.ReadBytes.{most_read}
use Rattle.zarr_codecs_traits.specs.Sources.{refused_after}
use Rattle.zarr_codecs_boxes.specs.Updates.{IsBoxIn}
use Rattle.zarr_codecs_boxes.proofs.Numbers.{moved_in}
use Rattle.zarr_codecs_boxes.proofs.Puts.{length-numbers}
use Rattle.zarr_codecs_around.specs.ArrayCodecs.{all_fit}
use Rattle.zarr_codecs_around.specs.Boxes.{takes_any_order}
use Rattle.zarr_codecs_around.specs.MovedBoxes.{IsBoxAfter, IsNextBox, IsTurnedTo, MovesBox, MovesBoxes, TurnsBox, UndoesBox, box_payload, array_box}
use Rattle.zarr_codecs_around.specs.Parts.{SourceWrite, WritesPart}
use Rattle.zarr_codecs_around.specs.Views.{with_array_codecs}
use Rattle.zarr_codecs_around.proofs.AllArrayCodecs.{never_before, with_more}
use Rattle.zarr_codecs_around.proofs.BoxParts.{box_most, box_read, box_too_large, box_unread, moved_box}
use Rattle.zarr_codecs_around.proofs.BoxWrites.{IsTurned, box_writes, box_written, turned_valid}
use Rattle.zarr_codecs_around.proofs.Counts.{array_codec_places}
use Rattle.zarr_codecs_around.proofs.WritingAfter.{partly_each}

-- ---- boxes

-- the box after more codecs is that of the last ones, from the box after the first ones
pub box_split : (first last : List ArrayCodec) (shape : List ℕ) (region : Region) (mid : List ℕ) (between : Region) (end : List ℕ) (moved : Region)
    → IsBoxAfter first shape region mid between → IsBoxAfter (first ++ last) shape region end moved → IsBoxAfter last mid between end moved
box_split [] last shape region mid between end moved one all =
    subst (λ es. IsBoxAfter last es between end moved) (sym one.0) (subst (λ r. IsBoxAfter last shape r end moved) (sym one.1) all)
box_split (codec ∷ first) last shape region mid between end moved one all =
    let same : all.next ≡ one.next = some_same (sym all.region_is ∙ one.region_is) in
    box_split first last (encoded_shape codec shape) one.next mid between end moved one.rest (subst (λ r. IsBoxAfter (first ++ last) (encoded_shape codec shape) r end moved) same all.rest)

pub box_inside : (codecs : List ArrayCodec) (shape : List ℕ) (region : Region) (last : List ℕ) (moved : Region) → IsBoxIn shape region → IsBoxAfter codecs shape region last moved → IsBoxIn last moved
box_inside [] shape region last moved box h = subst (λ es. IsBoxIn es moved) (sym h.0) (subst (λ r. IsBoxIn shape r) (sym h.1) box)
box_inside (codec ∷ codecs) shape region last moved box h =
    box_inside codecs (encoded_shape codec shape) h.next last moved (moved_in codec shape region h.next h.fit box h.region_is) h.rest

pub box_places : (codecs : List ArrayCodec) (shape : List ℕ) (region : Region) (last : List ℕ) (moved : Region) → IsBoxAfter codecs shape region last moved → product last ≡ product shape
box_places [] shape region last moved h = ap product h.0
box_places (codec ∷ codecs) shape region last moved h = box_places codecs (encoded_shape codec shape) h.next last moved h.rest ∙ array_codec_places codec shape h.fit

-- ---- codecs that are left

-- the codecs that are left suit a shape, and make of it and of a box there, what all codecs do of the first shape and the first box
pub record IsBoxLeft (left whole : List ArrayCodec) (shape : List ℕ) (region : Region) (now : List ℕ) (place : Region) : Type 0 where
  pub fit : all_fit left now ≡ all_fit whole shape
  pub moves : (last : List ℕ) (moved : Region) → IsBoxAfter left now place last moved → IsBoxAfter whole shape region last moved

less_fit : (codec : ArrayCodec) (others whole : List ArrayCodec) (shape now next : List ℕ) → array_codec_fits codec now ≡ true → next ≡ encoded_shape codec now → all_fit (codec ∷ others) now ≡ all_fit whole shape → all_fit others next ≡ all_fit whole shape
less_fit codec others whole shape now next fit told left = ap (all_fit others) told ∙ (sym (ap (λ (b : Bool). b && all_fit others (encoded_shape codec now)) fit) ∙ left)

none_fit : (codec : ArrayCodec) (others whole : List ArrayCodec) (shape now : List ℕ) → array_codec_fits codec now ≡ false → all_fit (codec ∷ others) now ≡ all_fit whole shape → all_fit whole shape ≡ false
none_fit codec others whole shape now none left = sym left ∙ ap (λ (b : Bool). b && all_fit others (encoded_shape codec now)) none

pub box_less : (codec : ArrayCodec) (others whole : List ArrayCodec) (shape : List ℕ) (region : Region) (now : List ℕ) (place : Region) (next : List ℕ) (moved : Region) → IsBoxLeft (codec ∷ others) whole shape region now place → IsNextBox codec now place next moved
    → IsBoxLeft others whole shape region next moved
box_less codec others whole shape region now place next moved left step = record {
  fit = less_fit codec others whole shape now next step.fit step.shape_is left.fit;
  moves = λ last after h. left.moves last after (record { next = moved; fit = step.fit; region_is = step.region_is; rest = subst (λ es. IsBoxAfter others es moved last after) step.shape_is h });
}

pub box_all_left : (codecs : List ArrayCodec) (shape : List ℕ) (region : Region) (now : List ℕ) (place : Region) → now ≡ shape → place ≡ region → IsBoxLeft codecs codecs shape region now place
box_all_left codecs shape region now place same at = record {
  fit = ap (all_fit codecs) same;
  moves = λ last moved h. subst (λ es. IsBoxAfter codecs es region last moved) same (subst (λ r. IsBoxAfter codecs now r last moved) at h);
}

pub box_refused : (codec : ArrayCodec) (others whole : List ArrayCodec) (shape : List ℕ) (region : Region) (now : List ℕ) (place : Region) (e : CodecError) → all_fit (codec ∷ others) now ≡ all_fit whole shape → MovesBox codec now place (Err e) → MovesBoxes whole shape region (Err e)
box_refused codec others whole shape region now place error.Fit left none = none_fit codec others whole shape now none left
box_refused codec others whole shape region now place error.Memory left h = tt
box_refused codec others whole shape region now place e left h = absurd h

-- ---- elements that are moved

-- the same, with the elements of the box: they are as many values as it has places, or those that are moved are not
pub record IsTurnedLeft (left whole : List ArrayCodec) (elements : Elements) (shape : List ℕ) (region : Region) (payload : Payload) (now : List ℕ) (place : Region) (turned : Payload) : Type 0 where
  pub fit : all_fit left now ≡ all_fit whole shape
  pub box : IsBoxIn now place
  pub many : product now ≡ product shape
  pub invalid : (e : CodecError) → IsInvalid elements.type turned (product place.shape) e → IsInvalid elements.type payload (product region.shape) e
  pub turns : (last : List ℕ) (moved : Region) (made : Payload) → IsTurnedTo left elements (box_payload now place turned) (box_payload last moved made) → IsTurnedTo whole elements (box_payload shape region payload) (box_payload last moved made)

pub turned_less : (codec : ArrayCodec) (others whole : List ArrayCodec) (elements : Elements) (shape : List ℕ) (region : Region) (payload : Payload) (now : List ℕ) (place : Region) (turned : Payload) (next : List ℕ) (moved : Region) (made : Payload)
    → is_value elements.type elements.fill ≡ true → IsTurnedLeft (codec ∷ others) whole elements shape region payload now place turned → IsNextBox codec now place next moved → IsTurned codec elements place turned made
    → IsTurnedLeft others whole elements shape region payload next moved made
turned_less codec others whole elements shape region payload now place turned next moved made fill left step m =
    let b = moved_box codec now place moved step.fit left.box step.region_is in
    let many = length-numbers (encoded_shape codec now) moved (sym b.inside.dimensions) in
    record {
      fit = less_fit codec others whole shape now next step.fit step.shape_is left.fit;
      box = subst (λ es. IsBoxIn es moved) (sym step.shape_is) b.inside;
      many = ap product step.shape_is ∙ (array_codec_places codec now step.fit ∙ left.many);
      invalid = λ e why. absurd (turned_valid codec elements now place moved turned made e fill b m (subst (λ n. IsInvalid elements.type made n e) (sym many) why));
      turns = λ last after all h. left.turns last after all (record { next = moved; turned = made; fit = step.fit; region_is = step.region_is; moves = m; rest = subst (λ es. IsTurnedTo others elements (box_payload es moved made) (box_payload last after all)) step.shape_is h });
    }

pub turned_all_left : (codecs : List ArrayCodec) (elements : Elements) (shape : List ℕ) (region : Region) (payload : Payload) (now : List ℕ) (place : Region) → now ≡ shape → place ≡ region → IsBoxIn shape region → IsTurnedLeft codecs codecs elements shape region payload now place payload
turned_all_left codecs elements shape region payload now place same at box = record {
  fit = ap (all_fit codecs) same;
  box = subst (λ es. IsBoxIn es place) (sym same) (subst (λ r. IsBoxIn shape r) (sym at) box);
  many = ap product same;
  invalid = λ e why. subst (λ (r : Region). IsInvalid elements.type payload (product r.shape) e) at why;
  turns = λ last moved made h. subst (λ es. IsTurnedTo codecs elements (box_payload es region payload) (box_payload last moved made)) same (subst (λ r. IsTurnedTo codecs elements (box_payload now r payload) (box_payload last moved made)) at h);
}

-- a codec that does not suit the shape that reaches it
pub turned_unboxed : (codec : ArrayCodec) (others whole : List ArrayCodec) (elements : Elements) (shape : List ℕ) (region : Region) (payload : Payload) (now : List ℕ) (place : Region) (e : CodecError) → all_fit (codec ∷ others) now ≡ all_fit whole shape → MovesBox codec now place (Err e)
    → TurnsBox whole elements (box_payload shape region payload) (Err e)
turned_unboxed codec others whole elements shape region payload now place error.Fit left none = none_fit codec others whole shape now none left
turned_unboxed codec others whole elements shape region payload now place error.Memory left h = tt
turned_unboxed codec others whole elements shape region payload now place e left h = absurd h

-- elements that a codec does not move
pub turned_refused : (codec : ArrayCodec) (others whole : List ArrayCodec) (elements : Elements) (shape : List ℕ) (region : Region) (payload : Payload) (now : List ℕ) (place : Region) (turned : Payload) (next : List ℕ) (moved : Region) (e : CodecError)
    → IsTurnedLeft (codec ∷ others) whole elements shape region payload now place turned → IsNextBox codec now place next moved → EncodesArray codec elements place.shape turned (Err e) → TurnsBox whole elements (box_payload shape region payload) (Err e)
turned_refused codec others whole elements shape region payload now place turned next moved error.Fit left step h =
    let b = moved_box codec now place moved step.fit left.box step.region_is in
    absurd (let e = sym b.fits ∙ h in cc)
turned_refused codec others whole elements shape region payload now place turned next moved error.Size left step h =
    subst (λ n. IsTooLarge elements.type n) left.many (box_too_large elements.type now place left.box h)
turned_refused codec others whole elements shape region payload now place turned next moved error.Memory left step h = tt
turned_refused codec others whole elements shape region payload now place turned next moved e left step h = left.invalid e h.1

pub turned_inside : (codecs : List ArrayCodec) (elements : Elements) (shape : List ℕ) (region : Region) (payload : Payload) (last : List ℕ) (moved : Region) (made : Payload) → IsBoxIn shape region → IsTurnedTo codecs elements (box_payload shape region payload) (box_payload last moved made) → IsBoxIn last moved
turned_inside [] elements shape region payload last moved made box h = subst (λ es. IsBoxIn es moved) (sym h.0) (subst (λ r. IsBoxIn shape r) (sym h.1) box)
turned_inside (codec ∷ codecs) elements shape region payload last moved made box h =
    turned_inside codecs elements (encoded_shape codec shape) h.next h.turned last moved made (moved_in codec shape region h.next h.fit box h.region_is) h.rest

pub turned_places : (codecs : List ArrayCodec) (elements : Elements) (shape : List ℕ) (region : Region) (payload : Payload) (last : List ℕ) (moved : Region) (made : Payload) → IsTurnedTo codecs elements (box_payload shape region payload) (box_payload last moved made) → product last ≡ product shape
turned_places [] elements shape region payload last moved made h = ap product h.0
turned_places (codec ∷ codecs) elements shape region payload last moved made h = turned_places codecs elements (encoded_shape codec shape) h.next h.turned last moved made h.rest ∙ array_codec_places codec shape h.fit

-- ---- what is written

pub boxes_written : (codecs : List ArrayCodec) (chain : Chain) (exact : Bool) (elements : Elements) (shape : List ℕ) (region : Region) (payload : Payload) (last : List ℕ) (moved : Region) (made : Payload) (old new : Option (List ℕ)) → IsBoxIn shape region
    → IsTurnedTo codecs elements (box_payload shape region payload) (box_payload last moved made) → ((cells : List Cell) × IsEncodedInto (coded chain elements last) exact (update_of (in_box moved) made old) cells new)
    → (cells : List Cell) × IsEncodedInto (coded (with_array_codecs codecs chain) elements shape) exact (update_of (in_box region) payload old) cells new
boxes_written [] chain exact elements shape region payload last moved made old new box h w = (
  w.0,
  subst (λ es. IsEncodedInto (coded chain elements es) exact (update_of (in_box region) payload old) w.0 new) h.0
      (subst (λ (r : Region). IsEncodedInto (coded chain elements last) exact (update_of (in_box r) payload old) w.0 new) h.1 (subst (λ (p : Payload). IsEncodedInto (coded chain elements last) exact (update_of (in_box moved) p old) w.0 new) h.2 w.1)),
)
boxes_written (codec ∷ codecs) chain exact elements shape region payload last moved made old new box h w =
    let b = moved_box codec shape region h.next h.fit box h.region_is in
    let inner = boxes_written codecs chain exact elements (encoded_shape codec shape) h.next h.turned last moved made old new b.inside h.rest w in
    (h.moves.cells, box_written codec (with_array_codecs codecs chain) exact elements shape region h.next payload h.turned inner.0 old new b h.moves inner.1)

pub boxes_writes : {A : Type 0} (codecs : List ArrayCodec) (chain : Chain) (elements : Elements) (shape : List ℕ) (region : Region) (payload : Payload) (last : List ℕ) (moved : Region) (made : Payload) (stored : Option (List ℕ)) (source : SourceWrite) (r : Result A CodecError)
    → is_value elements.type elements.fill ≡ true → IsBoxIn shape region → IsTurnedTo codecs elements (box_payload shape region payload) (box_payload last moved made) → encodes_in_part (with_array_codecs codecs chain) ≡ encodes_in_part chain
    → WritesPart (coded chain elements last) (update_of (in_box moved) made stored) source r → WritesPart (coded (with_array_codecs codecs chain) elements shape) (update_of (in_box region) payload stored) source r
boxes_writes [] chain elements shape region payload last moved made stored source r fill box h partly w =
    subst (λ es. WritesPart (coded chain elements es) (update_of (in_box region) payload stored) source r) h.0
    (subst (λ (r' : Region). WritesPart (coded chain elements last) (update_of (in_box r') payload stored) source r) h.1 (subst (λ (p : Payload). WritesPart (coded chain elements last) (update_of (in_box moved) p stored) source r) h.2 w))
boxes_writes (codec ∷ codecs) chain elements shape region payload last moved made stored source r fill box h partly w =
    let b = moved_box codec shape region h.next h.fit box h.region_is in
    let each = partly_each codec codecs chain partly in
    box_writes codec (with_array_codecs codecs chain) elements shape region h.next payload h.turned stored source r fill b h.moves each.0
    (boxes_writes codecs chain elements (encoded_shape codec shape) h.next h.turned last moved made stored source r fill b.inside h.rest each.1 w)

-- elements that are not moved are not written
pub unturned_into : (codecs : List ArrayCodec) (chain : Chain) (elements : Elements) (shape : List ℕ) (region : Region) (payload : Payload) (stored : Option (List ℕ)) (e : CodecError) → IsBoxIn shape region → fits (with_array_codecs codecs chain) elements.type shape ≡ true
    → TurnsBox codecs elements (box_payload shape region payload) (Err e) → NotEncodedInto {A = Unit {0}} (coded (with_array_codecs codecs chain) elements shape) (update_of (in_box region) payload stored) (Err e)
unturned_into codecs chain elements shape region payload stored error.Fit box fit h = sym (never_before codecs chain elements.type shape h)
unturned_into codecs chain elements shape region payload stored error.Size box fit h = inl h
unturned_into codecs chain elements shape region payload stored error.Memory box fit h = tt
unturned_into codecs chain elements shape region payload stored error.Source box fit h = tt
unturned_into codecs chain elements shape region payload stored error.Codec box fit h = absurd h
unturned_into codecs chain elements shape region payload stored error.Damage box fit h = absurd h
unturned_into codecs chain elements shape region payload stored error.IncompatibleIndexer box fit h = absurd h
unturned_into codecs chain elements shape region payload stored e box fit h = (fit, subst (λ n. IsInvalid elements.type payload n e) (sym (length-numbers shape region (sym box.dimensions))) h)

pub unturned_source : (A : Type 0) (codecs : List ArrayCodec) (elements : Elements) (shape : List ℕ) (region : Region) (payload : Payload) (e : CodecError) → TurnsBox codecs elements (box_payload shape region payload) (Err e) → (count : ℕ) → refused_after {A = A} count (Err e) ≡ count
unturned_source A codecs elements shape region payload error.Source h count = absurd h
unturned_source A codecs elements shape region payload e h count = refl

-- a chain after some codecs is encoded in part as it is without them, where it is so after more of them
pub partly_split : (first last : List ArrayCodec) (chain : Chain) → encodes_in_part (with_array_codecs (first ++ last) chain) ≡ encodes_in_part chain
    → (encodes_in_part (with_array_codecs (first ++ last) chain) ≡ encodes_in_part (with_array_codecs last chain)) × (encodes_in_part (with_array_codecs last chain) ≡ encodes_in_part chain)
partly_split [] last chain partly = (refl, partly)
partly_split (codec ∷ first) last chain partly =
    let each = partly_each codec (first ++ last) chain partly in
    let rest = partly_split first last chain each.1 in
    (each.0 ∙ rest.0, rest.1)

-- ---- what is read

pub boxes_unread : (codecs : List ArrayCodec) (chain : Chain) (elements : Elements) (shape : List ℕ) (stored : Option (List ℕ)) (region : Region) (last : List ℕ) (moved : Region) (e : CodecError) → IsBoxIn shape region → IsBoxAfter codecs shape region last moved
    → DecodesPart (coded chain elements last) stored (in_box moved) (Err e) → DecodesPart (coded (with_array_codecs codecs chain) elements shape) stored (in_box region) (Err e)
boxes_unread [] chain elements shape stored region last moved e box h d =
    subst (λ es. DecodesPart (coded chain elements es) stored (in_box region) (Err e)) h.0 (subst (λ (r : Region). DecodesPart (coded chain elements last) stored (in_box r) (Err e)) h.1 d)
boxes_unread (codec ∷ codecs) chain elements shape stored region last moved e box h d =
    let b = moved_box codec shape region h.next h.fit box h.region_is in
    box_unread codec (with_array_codecs codecs chain) elements shape stored region h.next e b (boxes_unread codecs chain elements (encoded_shape codec shape) stored h.next last moved e b.inside h.rest d)

pub unboxed_read : (codecs : List ArrayCodec) (chain : Chain) (elements : Elements) (shape : List ℕ) (stored : Option (List ℕ)) (region : Region) (asked : Asked) (e : CodecError) → MovesBoxes codecs shape region (Err e) → DecodesPart (coded (with_array_codecs codecs chain) elements shape) stored asked (Err e)
unboxed_read codecs chain elements shape stored region asked error.Fit none = sym (never_before codecs chain elements.type shape none)
unboxed_read codecs chain elements shape stored region asked error.Memory h = tt
unboxed_read codecs chain elements shape stored region asked e h = absurd h

pub unboxed_source : (A : Type 0) (codecs : List ArrayCodec) (shape : List ℕ) (region : Region) (e : CodecError) → MovesBoxes codecs shape region (Err e) → (count : ℕ) → refused_after {A = A} count (Err e) ≡ count
unboxed_source A codecs shape region error.Fit h count = refl
unboxed_source A codecs shape region error.Memory h count = refl
unboxed_source A codecs shape region e h count = absurd h

-- as many bytes are taken for the box as for the box that it becomes
pub boxes_most : (first last : List ArrayCodec) (chain : Chain) (type : DataType) (shape : List ℕ) (stored : Option (List ℕ)) (region : Region) (mid : List ℕ) (between : Region) → takes_any_order chain ≡ true
    → IsBoxIn shape region → IsBoxAfter first shape region mid between
    → most_read (with_array_codecs last chain) type mid stored (in_box between) ≡ most_read (with_array_codecs (first ++ last) chain) type shape stored (in_box region)
boxes_most [] last chain type shape stored region mid between takes box h =
    ap (λ es. most_read (with_array_codecs last chain) type es stored (in_box between)) h.0 ∙ ap (λ (r : Region). most_read (with_array_codecs last chain) type shape stored (in_box r)) h.1
boxes_most (codec ∷ first) last chain type shape stored region mid between takes box h =
    let b = moved_box codec shape region h.next h.fit box h.region_is in
    boxes_most first last chain type (encoded_shape codec shape) stored h.next mid between takes b.inside h.rest ∙ box_most codec (first ++ last) chain type shape stored region h.next takes b

-- ---- elements that are moved back

pub undoes_none : (elements : Elements) (shape : List ℕ) (region : Region) (found : ArrayBytes) → UndoesBox [] elements (array_box shape region) found (Ok found)
undoes_none elements shape region found = λ chain stored last moved h d.
    subst (λ es. DecodesPart (coded chain elements es) stored (in_box region) (Ok found)) h.0 (subst (λ (r : Region). DecodesPart (coded chain elements last) stored (in_box r) (Ok found)) h.1 d)

pub undoes_one : (codec : ArrayCodec) (elements : Elements) (shape : List ℕ) (region : Region) (found : ArrayBytes) (r : Result ArrayBytes CodecError) → is_value elements.type elements.fill ≡ true → IsBoxIn shape region → DecodesArray codec elements region.shape (payload_of found) r
    → UndoesBox (codec ∷ []) elements (array_box shape region) found r
undoes_one codec elements shape region found r fill box undone = λ chain stored last moved h d.
    let b = moved_box codec shape region h.next h.fit box h.region_is in
    let read = subst (λ es. DecodesPart (coded chain elements es) stored (in_box h.next) (Ok found)) h.rest.0 (subst (λ (m : Region). DecodesPart (coded chain elements last) stored (in_box m) (Ok found)) h.rest.1 d) in
    box_read codec chain elements shape stored region h.next found r fill b read undone

pub undone_source : (codec : ArrayCodec) (elements : Elements) (shape : List ℕ) (payload : Payload) (r : Result ArrayBytes CodecError) → DecodesArray codec elements shape payload r → (count : ℕ) → refused_after count r ≡ count
undone_source codec elements shape payload (Ok made) h count = refl
undone_source codec elements shape payload (Err error.Source) h count = absurd h.1
undone_source codec elements shape payload (Err e) h count = refl

-- elements that the last codecs moved back, and then the first
pub undoes_both : (first last : List ArrayCodec) (elements : Elements) (shape : List ℕ) (region : Region) (mid : List ℕ) (between : Region) (found moved : ArrayBytes) (r : Result ArrayBytes CodecError) → IsBoxAfter first shape region mid between
    → UndoesBox last elements (array_box mid between) found (Ok moved) → UndoesBox first elements (array_box shape region) moved r → UndoesBox (first ++ last) elements (array_box shape region) found r
undoes_both first last elements shape region mid between found moved r at second one = λ chain stored end place h d.
    subst (λ (whole : Chain). DecodesPart (coded whole elements shape) stored (in_box region) r) (sym (with_more first last chain))
    (one (with_array_codecs last chain) stored mid between at (second chain stored end place (box_split first last shape region mid between end place at h) d))

-- or that the last did not
pub undoes_first : (first last : List ArrayCodec) (elements : Elements) (shape : List ℕ) (region : Region) (mid : List ℕ) (between : Region) (found : ArrayBytes) (e : CodecError) → IsBoxIn shape region → IsBoxAfter first shape region mid between
    → UndoesBox last elements (array_box mid between) found (Err e) → UndoesBox (first ++ last) elements (array_box shape region) found (Err e)
undoes_first first last elements shape region mid between found e box at second = λ chain stored end place h d.
    subst (λ (whole : Chain). DecodesPart (coded whole elements shape) stored (in_box region) (Err e)) (sym (with_more first last chain))
    (boxes_unread first (with_array_codecs last chain) elements shape stored region mid between e box at (second chain stored end place (box_split first last shape region mid between end place at h) d))

-- or that there is no box after the first
pub undoes_unboxed : (first last : List ArrayCodec) (elements : Elements) (shape : List ℕ) (region : Region) (found : ArrayBytes) (e : CodecError) → MovesBoxes first shape region (Err e) → UndoesBox (first ++ last) elements (array_box shape region) found (Err e)
undoes_unboxed first last elements shape region found e none = λ chain stored end place h d.
    subst (λ (whole : Chain). DecodesPart (coded whole elements shape) stored (in_box region) (Err e)) (sym (with_more first last chain))
    (unboxed_read first (with_array_codecs last chain) elements shape stored region (in_box region) e none)
