-- Array codecs one after another, before a chain.
use Rattle.std.proofs.Common.{◌≡◌, ◌∙◌, ℕ, List, [], ◌∷◌, ◌++◌, length, map, ap, sym, refl, subst, Bool, true, false, ◌&&◌, Some, Result, Ok, Err, Vec, Global}
use Rattle.std.proofs.lemmas.Bool.{and_parts}
use Rattle.zarr_grids_boxes.specs.Boxes.{product}
use Rattle.zarr_codecs_meaning.specs.Chains.{ArrayCodec, ByteCodec, Chain}
use Rattle.zarr_codecs_meaning.specs.Chains.Chain.{after_array_codec, then_bytes}
use Rattle.zarr_codecs_meaning.specs.Fits.{array_codec_fits, fits, takes_each_shape}
use Rattle.zarr_codecs_meaning.specs.Payloads.{Payload}
use Rattle.zarr_codecs_meaning.specs.Places.{encoded_shape, source_places}
use Rattle.zarr_codecs_meaning.specs.Types.{DataType, is_value, Elements}
use Rattle.zarr_codecs_arrays.specs.Views.{payload_of}
use Rattle.zarr_codecs_arrays.specs.declared.array_bytes.ArrayBytes.{ArrayBytes}
use Rattle.zarr_codecs_arrays.specs.declared.error.CodecError.{CodecError}
use Rattle.zarr_codecs_arrays.specs.declared.error.CodecError.TheVariants as error
use Rattle.zarr_codecs_array_to_array.specs.declared.codec.ArrayToArrayCodec.{ArrayToArrayCodec}
use Rattle.zarr_codecs_traits.specs.Arrays.{coded}
use Rattle.zarr_codecs_traits.specs.Outcomes.{UndoesBytes, Encodes, Decodes, EncodesShape, IsMoved, EncodesArray, DecodesArray, moving}
use Rattle.zarr_codecs_traits.specs.Representations.{RepresentsArray}
use Rattle.zarr_codecs_traits.specs.declared.bytes_representation.BytesRepresentation.{BytesRepresentation}
use Rattle.zarr_codecs_around.specs.ArrayCodecs.{shape_after, all_fit, EncodesShapes, MovesAll, UndoesAll}
use Rattle.zarr_codecs_around.specs.Codecs.{all_decoded}
use Rattle.zarr_codecs_around.specs.Views.{chain_between, codecs_of, with_array_codecs, with_codecs}
use Rattle.zarr_codecs_around.proofs.ArrayCodecs.{encodes_after, unencoded_after, unshaped_encoding, decodes_after, undecoded_after, unshaped_decoding, represents_after}
use Rattle.zarr_codecs_around.proofs.Chains.{fits_with, decodes_with, undone_with}

-- ---- shapes

and_again : (a b c : Bool) → (a && (b && c)) ≡ ((a && b) && c)
and_again true b c = refl
and_again false b c = refl

-- a chain with array codecs before it suits an array where each of these does, and it suits what they make
pub fits_all : (codecs : List ArrayCodec) (chain : Chain) (type : DataType) (shape : List ℕ) → fits (with_array_codecs codecs chain) type shape ≡ (all_fit codecs shape && fits chain type (shape_after codecs shape))
fits_all [] chain type shape = refl
fits_all (codec ∷ codecs) chain type shape =
    ap (λ (b : Bool). array_codec_fits codec shape && b) (fits_all codecs chain type (encoded_shape codec shape))
    ∙ and_again (array_codec_fits codec shape) (all_fit codecs (encoded_shape codec shape)) (fits chain type (shape_after codecs (encoded_shape codec shape)))

both : (a b : Bool) → a ≡ true → b ≡ true → (a && b) ≡ true
both a b h k = ap (λ (x : Bool). x && b) h ∙ k

pub all_suit : (codecs : List ArrayCodec) (chain : Chain) (type : DataType) (shape : List ℕ) → all_fit codecs shape ≡ true → fits chain type (shape_after codecs shape) ≡ true → fits (with_array_codecs codecs chain) type shape ≡ true
all_suit codecs chain type shape all fit = fits_all codecs chain type shape ∙ both (all_fit codecs shape) (fits chain type (shape_after codecs shape)) all fit

-- whether it does, by the shape that they make
pub fits_before : (codecs : List ArrayCodec) (chain : Chain) (type : DataType) (shape last : List ℕ) → all_fit codecs shape ≡ true → last ≡ shape_after codecs shape → fits chain type last ≡ fits (with_array_codecs codecs chain) type shape
fits_before codecs chain type shape last all same = ap (fits chain type) same ∙ sym (fits_all codecs chain type shape ∙ ap (λ (b : Bool). b && fits chain type (shape_after codecs shape)) all)

pub never_before : (codecs : List ArrayCodec) (chain : Chain) (type : DataType) (shape : List ℕ) → all_fit codecs shape ≡ false → false ≡ fits (with_array_codecs codecs chain) type shape
never_before codecs chain type shape none = sym (fits_all codecs chain type shape ∙ ap (λ (b : Bool). b && fits chain type (shape_after codecs shape)) none)

-- the same with bytes codecs behind the chain
pub fits_between : {B : Type 0} (meaning : B → ByteCodec) (before : List ArrayToArrayCodec) (chain : Chain) (after : List B) (type : DataType) (shape last : List ℕ) → all_fit (codecs_of before) shape ≡ true → last ≡ shape_after (codecs_of before) shape
    → fits chain type last ≡ fits (chain_between meaning before chain after) type shape
fits_between meaning before chain after type shape last all same =
    let codecs = codecs_of before in
    let whole = with_codecs chain (map meaning after) in
    ap (fits chain type) same ∙ (sym (fits_with chain (map meaning after) type (shape_after codecs shape)) ∙ sym (fits_all codecs whole type shape ∙ ap (λ (b : Bool). b && fits whole type (shape_after codecs shape)) all))

pub never_between : {B : Type 0} (meaning : B → ByteCodec) (before : List ArrayToArrayCodec) (chain : Chain) (after : List B) (type : DataType) (shape : List ℕ) → all_fit (codecs_of before) shape ≡ false → false ≡ fits (chain_between meaning before chain after) type shape
never_between meaning before chain after type shape none =
    let codecs = codecs_of before in
    let whole = with_codecs chain (map meaning after) in
    sym (fits_all codecs whole type shape ∙ ap (λ (b : Bool). b && fits whole type (shape_after codecs shape)) none)

-- ---- chains that do the same for each shape

takes_with : (chain : Chain) (codecs : List ByteCodec) → takes_each_shape (with_codecs chain codecs) ≡ takes_each_shape chain
takes_with chain [] = refl
takes_with chain (codec ∷ codecs) = takes_with (then_bytes chain codec) codecs

pub takes_between : {B : Type 0} (meaning : B → ByteCodec) (before : List ArrayToArrayCodec) (chain : Chain) (after : List B) → length before ≡ 0 → takes_each_shape chain ≡ takes_each_shape (chain_between meaning before chain after)
takes_between meaning [] chain after none = sym (takes_with chain (map meaning after))
takes_between meaning (codec ∷ codecs) chain after none = absurd (cc)

pub never_takes : {B : Type 0} (meaning : B → ByteCodec) (before : List ArrayToArrayCodec) (chain : Chain) (after : List B) → (length before ≡ 0 → ⊥) → false ≡ takes_each_shape (chain_between meaning before chain after)
never_takes meaning [] chain after some = absurd (some refl)
never_takes meaning (codec ∷ codecs) chain after some = refl

-- ---- elements that are moved

pub moves_next : (codec : ArrayCodec) (codecs : List ArrayCodec) (elements : Elements) (shape : List ℕ) (payload : Payload) (moved : ArrayBytes) (r : Result ArrayBytes CodecError) → is_value elements.type elements.fill ≡ true
    → all_fit codecs (encoded_shape codec shape) ≡ true → IsMoved (moving codec elements shape (product shape) (source_places codec shape)) payload (payload_of moved) → MovesAll codecs elements (encoded_shape codec shape) (payload_of moved) r
    → MovesAll (codec ∷ codecs) elements shape payload r
moves_next codec codecs elements shape payload moved (Ok made) fill all m rest = λ chain exact r fit h.
    encodes_after codec (with_array_codecs codecs chain) exact elements shape payload (payload_of moved) r fill (all_suit codecs chain elements.type (encoded_shape codec shape) all fit) m (rest chain exact r fit h)
moves_next codec codecs elements shape payload moved (Err e) fill all m rest = λ chain exact fit.
    encodes_after codec (with_array_codecs codecs chain) exact elements shape payload (payload_of moved) (Err e) fill (all_suit codecs chain elements.type (encoded_shape codec shape) all fit) m (rest chain exact fit)

pub moves_refused : (codec : ArrayCodec) (codecs : List ArrayCodec) (elements : Elements) (shape : List ℕ) (payload : Payload) (e : CodecError) → all_fit (codec ∷ codecs) shape ≡ true → EncodesArray codec elements shape payload (Err e)
    → MovesAll (codec ∷ codecs) elements shape payload (Err e)
moves_refused codec codecs elements shape payload e all h = λ chain exact fit.
    unencoded_after codec (with_array_codecs codecs chain) exact elements shape payload e (all_suit (codec ∷ codecs) chain elements.type shape all fit) h

pub moves_unshaped : (codec : ArrayCodec) (codecs : List ArrayCodec) (elements : Elements) (shape : List ℕ) (payload : Payload) (e : CodecError) → EncodesShape codec shape (Err e) → MovesAll (codec ∷ codecs) elements shape payload (Err e)
moves_unshaped codec codecs elements shape payload e h = λ chain exact fit. unshaped_encoding codec (with_array_codecs codecs chain) exact elements shape payload e h

-- ---- elements that are moved back

pub undoes_next : (codec : ArrayCodec) (codecs : List ArrayCodec) (elements : Elements) (shape : List ℕ) (found moved : ArrayBytes) (r : Result ArrayBytes CodecError) → is_value elements.type elements.fill ≡ true
    → array_codec_fits codec shape ≡ true → UndoesAll codecs elements (encoded_shape codec shape) found (Ok moved) → DecodesArray codec elements shape (payload_of moved) r → UndoesAll (codec ∷ codecs) elements shape found r
undoes_next codec codecs elements shape found moved r fill fit rest m = λ chain value h. decodes_after codec (with_array_codecs codecs chain) elements shape value moved r fill fit (rest chain value h) m

pub undoes_refused : (codec : ArrayCodec) (codecs : List ArrayCodec) (elements : Elements) (shape : List ℕ) (found : ArrayBytes) (e : CodecError) → array_codec_fits codec shape ≡ true → UndoesAll codecs elements (encoded_shape codec shape) found (Err e)
    → UndoesAll (codec ∷ codecs) elements shape found (Err e)
undoes_refused codec codecs elements shape found e fit rest = λ chain value h. undecoded_after codec (with_array_codecs codecs chain) elements shape value e fit (rest chain value h)

pub undoes_unshaped : (codec : ArrayCodec) (codecs : List ArrayCodec) (elements : Elements) (shape : List ℕ) (found : ArrayBytes) (e : CodecError) → EncodesShape codec shape (Err e) → UndoesAll (codec ∷ codecs) elements shape found (Err e)
undoes_unshaped codec codecs elements shape found e h = λ chain value _. unshaped_decoding codec (with_array_codecs codecs chain) elements shape value e h

-- what a chain does not decode, it does not decode with array codecs before it
pub undecoded_all : (codecs : List ArrayCodec) (chain : Chain) (elements : Elements) (shape value : List ℕ) (e : CodecError) → all_fit codecs shape ≡ true → Decodes (coded chain elements (shape_after codecs shape)) value (Err e)
    → Decodes (coded (with_array_codecs codecs chain) elements shape) value (Err e)
undecoded_all [] chain elements shape value e all h = h
undecoded_all (codec ∷ codecs) chain elements shape value e all h =
    let two = and_parts (array_codec_fits codec shape) (all_fit codecs (encoded_shape codec shape)) all in
    undecoded_after codec (with_array_codecs codecs chain) elements shape value e two.0 (undecoded_all codecs chain elements (encoded_shape codec shape) value e two.1 h)

-- ---- codecs, and more of them

pub with_more : (first last : List ArrayCodec) (chain : Chain) → with_array_codecs (first ++ last) chain ≡ with_array_codecs first (with_array_codecs last chain)
with_more [] last chain = refl
with_more (codec ∷ first) last chain = ap (after_array_codec codec) (with_more first last chain)

pub shape_more : (first last : List ArrayCodec) (shape : List ℕ) → shape_after (first ++ last) shape ≡ shape_after last (shape_after first shape)
shape_more [] last shape = refl
shape_more (codec ∷ first) last shape = shape_more first last (encoded_shape codec shape)

pub fit_more : (first last : List ArrayCodec) (shape : List ℕ) → all_fit (first ++ last) shape ≡ (all_fit first shape && all_fit last (shape_after first shape))
fit_more [] last shape = refl
fit_more (codec ∷ first) last shape =
    ap (λ (b : Bool). array_codec_fits codec shape && b) (fit_more first last (encoded_shape codec shape))
    ∙ and_again (array_codec_fits codec shape) (all_fit first (encoded_shape codec shape)) (all_fit last (shape_after first (encoded_shape codec shape)))

-- elements that the last codecs moved back, and then the first
pub undoes_more : (first last : List ArrayCodec) (elements : Elements) (shape : List ℕ) (found moved : ArrayBytes) (r : Result ArrayBytes CodecError) → UndoesAll last elements (shape_after first shape) found (Ok moved) → UndoesAll first elements shape moved r
    → UndoesAll (first ++ last) elements shape found r
undoes_more first last elements shape found moved r second one = λ chain value h.
    subst (λ (whole : Chain). Decodes (coded whole elements shape) value r) (sym (with_more first last chain))
    (one (with_array_codecs last chain) value (second chain value (subst (λ es. Decodes (coded chain elements es) value (Ok found)) (shape_more first last shape) h)))

-- or that the last did not
pub undoes_none : (first last : List ArrayCodec) (elements : Elements) (shape : List ℕ) (found : ArrayBytes) (e : CodecError) → all_fit first shape ≡ true → UndoesAll last elements (shape_after first shape) found (Err e)
    → UndoesAll (first ++ last) elements shape found (Err e)
undoes_none first last elements shape found e all second = λ chain value h.
    subst (λ (whole : Chain). Decodes (coded whole elements shape) value (Err e)) (sym (with_more first last chain))
    (undecoded_all first (with_array_codecs last chain) elements shape value e all (second chain value (subst (λ es. Decodes (coded chain elements es) value (Ok found)) (shape_more first last shape) h)))

-- ---- sizes

-- what a chain tells of the size of what it makes of the shape after array codecs
pub represents_all : (codecs : List ArrayCodec) (chain : Chain) (type : DataType) (shape : List ℕ) (r : Result BytesRepresentation CodecError) → all_fit codecs shape ≡ true → RepresentsArray chain type (shape_after codecs shape) r
    → RepresentsArray (with_array_codecs codecs chain) type shape r
represents_all [] chain type shape r all h = h
represents_all (codec ∷ codecs) chain type shape r all h =
    let two = and_parts (array_codec_fits codec shape) (all_fit codecs (encoded_shape codec shape)) all in
    represents_after codec (with_array_codecs codecs chain) type shape r two.0 (represents_all codecs chain type (encoded_shape codec shape) r two.1 h)

pub unshaped_all : (codecs : List ArrayCodec) (chain : Chain) (type : DataType) (shape : List ℕ) (e : CodecError) → EncodesShapes codecs shape (Err e) → RepresentsArray (with_array_codecs codecs chain) type shape (Err e)
unshaped_all codecs chain type shape error.Fit none = sym (never_before codecs chain type shape none)
unshaped_all codecs chain type shape error.Memory h = tt
unshaped_all codecs chain type shape e h = absurd h

-- ---- with bytes codecs behind the chain

-- an array that the array codecs do not suit
pub unshaped_encodes : (codecs : List ArrayCodec) (chain : Chain) (exact : Bool) (elements : Elements) (shape : List ℕ) (payload : Payload) (e : CodecError) → EncodesShapes codecs shape (Err e) → Encodes (coded (with_array_codecs codecs chain) elements shape) exact payload (Err e)
unshaped_encodes codecs chain exact elements shape payload error.Fit none = fits_all codecs chain elements.type shape ∙ ap (λ (b : Bool). b && fits chain elements.type (shape_after codecs shape)) none
unshaped_encodes codecs chain exact elements shape payload error.Memory h = tt
unshaped_encodes codecs chain exact elements shape payload e h = absurd h

pub unshaped_decodes : (codecs : List ArrayCodec) (chain : Chain) (elements : Elements) (shape value : List ℕ) (e : CodecError) → EncodesShapes codecs shape (Err e) → Decodes (coded (with_array_codecs codecs chain) elements shape) value (Err e)
unshaped_decodes codecs chain elements shape value error.Fit none = fits_all codecs chain elements.type shape ∙ ap (λ (b : Bool). b && fits chain elements.type (shape_after codecs shape)) none
unshaped_decodes codecs chain elements shape value error.Memory h = tt
unshaped_decodes codecs chain elements shape value e h = absurd h

pub undoes_unfit : (first last : List ArrayCodec) (elements : Elements) (shape : List ℕ) (found : ArrayBytes) (e : CodecError) → EncodesShapes first shape (Err e) → UndoesAll (first ++ last) elements shape found (Err e)
undoes_unfit first last elements shape found e none = λ chain value h.
    subst (λ (whole : Chain). Decodes (coded whole elements shape) value (Err e)) (sym (with_more first last chain)) (unshaped_decodes first (with_array_codecs last chain) elements shape value e none)

-- what is made of elements that were moved, or not moved
pub encodes_between : (codecs : List ArrayCodec) (chain : Chain) (after : List ByteCodec) (elements : Elements) (shape last : List ℕ) (payload : Payload) (moved : ArrayBytes) (r : Result (Vec ℕ Global) CodecError)
    → MovesAll codecs elements shape payload (Ok moved) → last ≡ shape_after codecs shape → fits chain elements.type last ≡ true → Encodes (coded (with_codecs chain after) elements last) true (payload_of moved) r
    → Encodes (coded (with_array_codecs codecs (with_codecs chain after)) elements shape) true payload r
encodes_between codecs chain after elements shape last payload moved r moves same fit h =
    let whole = with_codecs chain after in
    moves whole true r (fits_with chain after elements.type (shape_after codecs shape) ∙ (ap (fits chain elements.type) (sym same) ∙ fit)) (subst (λ es. Encodes (coded whole elements es) true (payload_of moved) r) same h)

pub unmoved_between : (codecs : List ArrayCodec) (chain : Chain) (after : List ByteCodec) (elements : Elements) (shape last : List ℕ) (payload : Payload) (e : CodecError)
    → MovesAll codecs elements shape payload (Err e) → last ≡ shape_after codecs shape → fits chain elements.type last ≡ true → Encodes (coded (with_array_codecs codecs (with_codecs chain after)) elements shape) true payload (Err e)
unmoved_between codecs chain after elements shape last payload e moves same fit =
    moves (with_codecs chain after) true (fits_with chain after elements.type (shape_after codecs shape) ∙ (ap (fits chain elements.type) (sym same) ∙ fit))

-- what is decoded and moved back, or not decoded
pub decodes_between : (codecs : List ArrayCodec) (chain : Chain) (after : List ByteCodec) (elements : Elements) (shape last value inside : List ℕ) (found : ArrayBytes) (r : Result ArrayBytes CodecError)
    → last ≡ shape_after codecs shape → all_decoded after value ≡ Some inside → Decodes (coded chain elements last) inside (Ok found) → UndoesAll codecs elements shape found r → Decodes (coded (with_array_codecs codecs (with_codecs chain after)) elements shape) value r
decodes_between codecs chain after elements shape last value inside found r same undone h undoes =
    let whole = with_codecs chain after in
    undoes whole value (subst (λ es. Decodes (coded whole elements es) value (Ok found)) same (decodes_with chain after elements last value inside (Ok found) undone h))

pub undecoded_between : (codecs : List ArrayCodec) (chain : Chain) (after : List ByteCodec) (elements : Elements) (shape last value inside : List ℕ) (e : CodecError)
    → all_fit codecs shape ≡ true → last ≡ shape_after codecs shape → all_decoded after value ≡ Some inside → Decodes (coded chain elements last) inside (Err e) → Decodes (coded (with_array_codecs codecs (with_codecs chain after)) elements shape) value (Err e)
undecoded_between codecs chain after elements shape last value inside e all same undone h =
    let whole = with_codecs chain after in
    undecoded_all codecs whole elements shape value e all (subst (λ es. Decodes (coded whole elements es) value (Err e)) same (decodes_with chain after elements last value inside (Err e) undone h))

pub unundone_between : (codecs : List ArrayCodec) (chain : Chain) (after : List ByteCodec) (elements : Elements) (shape last value : List ℕ) (e : CodecError)
    → all_fit codecs shape ≡ true → last ≡ shape_after codecs shape → fits chain elements.type last ≡ true → UndoesBytes (all_decoded after) value (Err e) → Decodes (coded (with_array_codecs codecs (with_codecs chain after)) elements shape) value (Err e)
unundone_between codecs chain after elements shape last value e all same fit h =
    let whole = with_codecs chain after in
    undecoded_all codecs whole elements shape value e all (subst (λ es. Decodes (coded whole elements es) value (Err e)) same (undone_with chain after elements last value e fit h))
