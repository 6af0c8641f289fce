-- What chains with the caller's codecs tell of themselves.
use Rattle.std.proofs.Common.{◌≡◌, ◌∙◌, ℕ, List, [], ◌∷◌, length, map, ap, sym, refl, Bool, true, false, ◌&&◌, ◌||◌, inl, inr, None, Result, Ok, Err}
use Rattle.std.proofs.lemmas.Bool.{or_from}
use Rattle.zarr_codecs_meaning.specs.Types.{DataType, Elements}
use Rattle.zarr_codecs_meaning.specs.Chains.{ArrayCodec, ByteCodec, Chain}
use Rattle.zarr_codecs_meaning.specs.Chains.Chain.{then_bytes}
use Rattle.zarr_codecs_meaning.specs.Chains.ArrayCodec.{transpose, reshape, squeeze}
use Rattle.zarr_codecs_meaning.specs.Fits.{is_plain, is_too_long, representation_of, tells_too_long}
use Rattle.zarr_codecs_meaning.specs.Partial.{encodes_in_part}
use Rattle.zarr_codecs_meaning.specs.Payloads.{Payload}
use Rattle.zarr_codecs_arrays.specs.declared.error.CodecError.{CodecError}
use Rattle.zarr_codecs_arrays.specs.declared.error.CodecError.TheVariants as error
use Rattle.zarr_codecs_traits.specs.Capabilities.{decodes_parts, encodes_as_is, granularity}
use Rattle.zarr_codecs_traits.specs.Indexers.{Asked, in_box, listed}
use Rattle.zarr_codecs_traits.specs.Arrays.{coded}
use Rattle.zarr_codecs_traits.specs.PartEncoding.{EncodesAsked, encodes_ranges, takes_patches}
use Rattle.zarr_codecs_traits.specs.Representations.{IsRepresented, RepresentsArray, known_size}
use Rattle.zarr_codecs_traits.specs.declared.bytes_representation.BytesRepresentation.{BytesRepresentation}
use Rattle.zarr_codecs_around.specs.Codecs.{RepresentsAll, all_represented, any_too_long}
use Rattle.zarr_codecs_around.specs.Views.{codecs_of, plain_before, with_array_codecs, with_codecs}
use Rattle.zarr_codecs_array_to_array.specs.declared.codec.ArrayToArrayCodec.{ArrayToArrayCodec}
use Rattle.zarr_codecs_around.proofs.Chains.{fits_with}

-- ---- sizes

representation_with : (chain : Chain) (codecs : List ByteCodec) (type : DataType) (shape : List ℕ) → representation_of (with_codecs chain codecs) type shape ≡ all_represented codecs (representation_of chain type shape)
representation_with chain [] type shape = refl
representation_with chain (codec ∷ codecs) type shape = representation_with (then_bytes chain codec) codecs type shape

or_nothing : (a : Bool) → (a || false) ≡ a
or_nothing true = refl
or_nothing false = refl

or_both : (a b c : Bool) → (a || (b || c)) ≡ ((a || b) || c)
or_both true b c = refl
or_both false b c = refl

or_second : (a b : Bool) → b ≡ true → (a || b) ≡ true
or_second true b h = refl
or_second false b h = h

or_first : (a b : Bool) → a ≡ true → (a || b) ≡ true
or_first true b h = refl
or_first false b h = cc

-- a chain tells too long a size where it does before the codecs, or one of these does
too_long_with : (chain : Chain) (codecs : List ByteCodec) (type : DataType) (shape : List ℕ) → (tells_too_long chain type shape || any_too_long codecs (representation_of chain type shape)) ≡ tells_too_long (with_codecs chain codecs) type shape
too_long_with chain [] type shape = or_nothing (tells_too_long chain type shape)
too_long_with chain (codec ∷ codecs) type shape =
    let told = codec.representation (representation_of chain type shape) in
    or_both (tells_too_long chain type shape) (is_too_long told) (any_too_long codecs told) ∙ too_long_with (then_bytes chain codec) codecs type shape

-- too long a size is told where the chain tells one, or one of the codecs after it does
pub tells_first : (chain : Chain) (codecs : List ByteCodec) (type : DataType) (shape : List ℕ) → tells_too_long chain type shape ≡ true → tells_too_long (with_codecs chain codecs) type shape ≡ true
tells_first chain codecs type shape long = sym (too_long_with chain codecs type shape) ∙ or_first (tells_too_long chain type shape) (any_too_long codecs (representation_of chain type shape)) long

pub tells_with : (chain : Chain) (codecs : List ByteCodec) (type : DataType) (shape : List ℕ) (known : BytesRepresentation) → IsRepresented chain type shape known → any_too_long codecs (known_size known) ≡ true
    → tells_too_long (with_codecs chain codecs) type shape ≡ true
tells_with chain codecs type shape known done h =
    sym (too_long_with chain codecs type shape) ∙ or_second (tells_too_long chain type shape) (any_too_long codecs (representation_of chain type shape)) (ap (any_too_long codecs) (sym done.is) ∙ h)

-- what is told after the codecs
pub represents_with : (chain : Chain) (codecs : List ByteCodec) (type : DataType) (shape : List ℕ) (known : BytesRepresentation) (r : Result BytesRepresentation CodecError) → IsRepresented chain type shape known → RepresentsAll codecs (known_size known) r
    → RepresentsArray (with_codecs chain codecs) type shape r
represents_with chain codecs type shape known (Ok told) done h = record {
  fit = fits_with chain codecs type shape ∙ done.fit;
  is = h.0 ∙ (ap (all_represented codecs) done.is ∙ sym (representation_with chain codecs type shape));
  short = sym (too_long_with chain codecs type shape) ∙ or_from (tells_too_long chain type shape) (any_too_long codecs (representation_of chain type shape)) done.short (ap (any_too_long codecs) (sym done.is) ∙ h.1);
}
represents_with chain codecs type shape known (Err error.Size) done h =
    inr (sym (too_long_with chain codecs type shape) ∙ or_second (tells_too_long chain type shape) (any_too_long codecs (representation_of chain type shape)) (ap (any_too_long codecs) (sym done.is) ∙ h))
represents_with chain codecs type shape known (Err e) done h = absurd h

-- what is refused before the codecs
pub unrepresented_with : (chain : Chain) (codecs : List ByteCodec) (type : DataType) (shape : List ℕ) (e : CodecError) → RepresentsArray chain type shape (Err e) → RepresentsArray (with_codecs chain codecs) type shape (Err e)
unrepresented_with chain codecs type shape error.Fit h = fits_with chain codecs type shape ∙ h
unrepresented_with chain codecs type shape error.Size (inl large) = inl large
unrepresented_with chain codecs type shape error.Size (inr long) = inr (sym (too_long_with chain codecs type shape) ∙ or_first (tells_too_long chain type shape) (any_too_long codecs (representation_of chain type shape)) long)
unrepresented_with chain codecs type shape error.Memory h = tt
unrepresented_with chain codecs type shape e h = absurd h

-- ---- parts

decodes_after : (chain : Chain) (codec : ByteCodec) (codecs : List ByteCodec) → false ≡ decodes_parts (with_codecs (then_bytes chain codec) codecs)
decodes_after chain codec [] = refl
decodes_after chain codec (other ∷ codecs) = decodes_after (then_bytes chain codec) other codecs

encodes_after : (chain : Chain) (codec : ByteCodec) (codecs : List ByteCodec) → false ≡ encodes_in_part (with_codecs (then_bytes chain codec) codecs)
encodes_after chain codec [] = refl
encodes_after chain codec (other ∷ codecs) = encodes_after (then_bytes chain codec) other codecs

-- a chain with codecs after it decodes and encodes no part by a part
pub never_decodes : {B : Type 0} (chain : Chain) (meaning : B → ByteCodec) (codecs : List B) → (length codecs ≡ 0 → ⊥) → false ≡ decodes_parts (with_codecs chain (map meaning codecs))
never_decodes chain meaning [] some = absurd (some refl)
never_decodes chain meaning (codec ∷ codecs) some = decodes_after chain (meaning codec) (map meaning codecs)

pub never_encodes : {B : Type 0} (chain : Chain) (meaning : B → ByteCodec) (codecs : List B) → (length codecs ≡ 0 → ⊥) → false ≡ encodes_in_part (with_codecs chain (map meaning codecs))
never_encodes chain meaning [] some = absurd (some refl)
never_encodes chain meaning (codec ∷ codecs) some = encodes_after chain (meaning codec) (map meaning codecs)

-- a chain that encodes no ranges answers that there are none
pub none_asked : (chain : Chain) (exact : Bool) (elements : Elements) (shape : List ℕ) (asked : Asked) (payload : Payload) → encodes_ranges chain ≡ false → EncodesAsked (coded chain elements shape) exact asked payload (Ok None)
none_asked chain exact elements shape (in_box region) payload h = h
none_asked chain exact elements shape (listed numbers) payload h = tt

ranges_after : (chain : Chain) (codec : ByteCodec) (codecs : List ByteCodec) → encodes_ranges (with_codecs (then_bytes chain codec) codecs) ≡ false
ranges_after chain codec [] = refl
ranges_after chain codec (other ∷ codecs) = ranges_after (then_bytes chain codec) other codecs

-- a chain with codecs after it, or array codecs before it, encodes no ranges
pub no_ranges_with : {B : Type 0} (chain : Chain) (meaning : B → ByteCodec) (codecs : List B) → (length codecs ≡ 0 → ⊥) → encodes_ranges (with_codecs chain (map meaning codecs)) ≡ false
no_ranges_with chain meaning [] some = absurd (some refl)
no_ranges_with chain meaning (codec ∷ codecs) some = ranges_after chain (meaning codec) (map meaning codecs)

pub no_ranges_before : (codecs : List ArrayToArrayCodec) (chain : Chain) → (length codecs ≡ 0 → ⊥) → encodes_ranges (with_array_codecs (codecs_of codecs) chain) ≡ false
no_ranges_before [] chain some = absurd (some refl)
no_ranges_before (codec ∷ codecs) chain some = refl

-- codecs after a chain leave the parts that are decoded as they are
pub granularity_with : (chain : Chain) (codecs : List ByteCodec) (shape : List ℕ) → granularity (with_codecs chain codecs) shape ≡ granularity chain shape
granularity_with chain [] shape = refl
granularity_with chain (codec ∷ codecs) shape = granularity_with (then_bytes chain codec) codecs shape

-- ---- array codecs

-- array codecs before a chain leave whether parts are decoded by parts as it is
pub decodes_before : (codecs : List ArrayCodec) (chain : Chain) → decodes_parts (with_array_codecs codecs chain) ≡ decodes_parts chain
decodes_before [] chain = refl
decodes_before (codec ∷ codecs) chain = decodes_before codecs chain

-- whether parts are encoded by parts too, where there is no shard
pub encodes_before : (codecs : List ArrayCodec) (chain : Chain) → is_plain chain ≡ true → encodes_in_part (with_array_codecs codecs chain) ≡ encodes_in_part chain
encodes_before [] chain plain = refl
encodes_before (transpose order ∷ codecs) chain plain = encodes_before codecs chain plain
encodes_before (reshape entries ∷ codecs) chain plain = ap (λ (b : Bool). b && encodes_in_part (with_array_codecs codecs chain)) (plain_before codecs chain ∙ plain) ∙ encodes_before codecs chain plain
encodes_before (squeeze ∷ codecs) chain plain = encodes_before codecs chain plain

-- where there is an array codec, the parts that are decoded are all of the array, and no bytes are replaced in values that nobody reads
pub granularity_whole : (codecs : List ArrayToArrayCodec) (chain : Chain) (shape : List ℕ) → (length codecs ≡ 0 → ⊥) → shape ≡ granularity (with_array_codecs (codecs_of codecs) chain) shape
granularity_whole [] chain shape some = absurd (some refl)
granularity_whole (codec ∷ codecs) chain shape some = refl

pub never_replaced : (codecs : List ArrayToArrayCodec) (chain : Chain) (type : DataType) → (length codecs ≡ 0 → ⊥) → false ≡ takes_patches (with_array_codecs (codecs_of codecs) chain) type
never_replaced [] chain type some = absurd (some refl)
never_replaced (codec ∷ codecs) chain type some = refl

-- ---- values that are bytes as they stand in memory

-- with an array codec before it, or a bytes codec after it, no chain encodes elements as they are
pub never_as_is_before : (codecs : List ArrayToArrayCodec) (chain : Chain) → (length codecs ≡ 0 → ⊥) → false ≡ encodes_as_is (with_array_codecs (codecs_of codecs) chain)
never_as_is_before [] chain some = absurd (some refl)
never_as_is_before (codec ∷ codecs) chain some = refl

as_is_after : (chain : Chain) (codec : ByteCodec) (codecs : List ByteCodec) → false ≡ encodes_as_is (with_codecs (then_bytes chain codec) codecs)
as_is_after chain codec [] = refl
as_is_after chain codec (other ∷ codecs) = as_is_after (then_bytes chain codec) other codecs

pub never_as_is_after : {B : Type 0} (chain : Chain) (meaning : B → ByteCodec) (codecs : List B) → (length codecs ≡ 0 → ⊥) → false ≡ encodes_as_is (with_codecs chain (map meaning codecs))
never_as_is_after chain meaning [] some = absurd (some refl)
never_as_is_after chain meaning (codec ∷ codecs) some = as_is_after chain (meaning codec) (map meaning codecs)

-- ---- parts that are replaced

after_codec : (chain : Chain) (codec : ByteCodec) (codecs : List ByteCodec) (type : DataType) → false ≡ takes_patches (with_codecs (then_bytes chain codec) codecs) type
after_codec chain codec [] type = refl
after_codec chain codec (other ∷ codecs) type = after_codec (then_bytes chain codec) other codecs type

-- a chain with codecs after it takes no patches
pub never_patched : {B : Type 0} (chain : Chain) (meaning : B → ByteCodec) (codecs : List B) (type : DataType) → (length codecs ≡ 0 → ⊥) → false ≡ takes_patches (with_codecs chain (map meaning codecs)) type
never_patched chain meaning [] type some = absurd (some refl)
never_patched chain meaning (codec ∷ codecs) type some = after_codec chain (meaning codec) (map meaning codecs) type

-- ---- patches, as ranges and what is written there
