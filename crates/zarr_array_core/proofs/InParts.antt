-- Chains that are written in part and make no shard: `bytes`, alone or after array codecs. Their values have one size, nothing refuses their cells, and only a value that doesn't open is damaged.
use Rattle.std.proofs.Common.{◌≡◌, ◌∙◌, ℕ, ◌*◌, ◌^◌, ◌≤◌, ◌⊎◌, Bool, true, false, ◌&&◌, if◌then◌else◌, List, ◌∷◌, map, refl, sym, ap, subst, arith, Option, Some, None, Result, Ok, Err, IsTrue, inl, inr}
use Rattle.std.specs.Prelude.{not, OnErr, MatchBool, MatchOption}
use Rattle.std.proofs.lemmas.Bool.{and_parts, false≢true, leb-true}
use Rattle.zarr_grids_boxes.specs.Boxes.{Region, product}
use Rattle.zarr_codecs_meaning.specs.Chains.{Chain, ArrayCodec}
use Rattle.zarr_codecs_meaning.specs.Chains.ArrayCodec.{transpose, reshape, squeeze}
use Rattle.zarr_codecs_meaning.specs.Chains.BytesRepresentation.{fixed_size, bounded_size, unbounded_size}
use Rattle.zarr_codecs_meaning.specs.Chains.Chain.{bytes, packbits, vlen, optional, after_array_codec, then_bytes, sharded}
use Rattle.zarr_codecs_meaning.specs.Decoding.{opens}
use Rattle.zarr_codecs_meaning.specs.Fits.{array_codec_fits, at_most, bound_of, fits, is_lossless, is_plain, order_fits, representation_of, sum_of_bounds, tells_too_long}
use Rattle.zarr_codecs_meaning.specs.Partial.{encodes_in_part}
use Rattle.zarr_codecs_meaning.specs.Places.{Part, encoded_shape, gather, index_shape, parts_of, position_of, source_places}
use Rattle.zarr_codecs_meaning.specs.Refusals.{CodecRefuses, PassesIndex}
use Rattle.zarr_codecs_meaning.specs.Types.{Cell, DataType, Elements, bytes_in, components, is_fixed, byte_width, uint64, IsTooLarge}
use Rattle.zarr_codecs_meaning.proofs.Once.{product_moved}
use Rattle.zarr_codecs_options.specs.declared.codec_options.CodecOptions.{CodecOptions}
use Rattle.zarr_codecs_traits.specs.Arrays.{Update, coded, update_of}
use Rattle.zarr_codecs_traits.specs.PartWriting.{AfterWrite, LacksRoom, MeetsLost, PartsRefused, PassesLength, StopsWrite, WholeRefused, WriteRefuses, write_moved, write_of}
use Rattle.zarr_codecs_traits.specs.Indexers.{Asked, numbers_asked}
use Rattle.zarr_codecs_traits.proofs.Damage.{plain_placed, stops_part}
use Rattle.zarr_codecs_meaning.specs.Payloads.{Payload}
use Rattle.zarr_codecs_traits.specs.Representations.{IsRepresented}
use Rattle.zarr_codecs_traits.specs.declared.bytes_representation.BytesRepresentation.{BytesRepresentation}
use Rattle.zarr_codecs_traits.specs.declared.bytes_representation.BytesRepresentation.TheVariants.{FixedSize, BoundedSize, UnboundedSize}
use Rattle.zarr_array_meaning.specs.Chunks.{fits_box, holds_box}
use Rattle.zarr_array_meaning.specs.Documents.{Document}
use Rattle.zarr_array_meaning.specs.Writing.{is_in_part, may_be_in_part}
use Rattle.zarr_array_core.specs.ChunkValues.{EncodeRefuses, OnDamage, PutStops}
use Rattle.zarr_array_core.specs.PartWrites.{tells_size}
use Rattle.zarr_array_core.specs.declared.error.ChunkError.{ChunkError}
use Rattle.zarr_array_core.specs.declared.error.ChunkError.TheVariants as error

-- a chain that is written in part and makes no shard
pub record IsInPart (chain : Chain) : Type 0 where
  pub partly : encodes_in_part chain ≡ true
  pub plain : is_plain chain ≡ true

inner_partly : (codec : ArrayCodec) (chain : Chain) → encodes_in_part (after_array_codec codec chain) ≡ true → encodes_in_part chain ≡ true
inner_partly (transpose order) chain h = h
inner_partly (reshape entries) chain h = (and_parts (is_plain chain) (encodes_in_part chain) h).1
inner_partly squeeze chain h = h

pub inner : (codec : ArrayCodec) (chain : Chain) → IsInPart (after_array_codec codec chain) → IsInPart chain
inner codec chain is = record { partly = inner_partly codec chain is.partly; plain = is.plain }

-- what a write in part is
pub parts_of_write : (document : Document) (options : CodecOptions) (region box : Region) → is_in_part document options region box ≡ true → IsInPart document.chain × (holds_box region box ≡ false)
parts_of_write document options region box h =
    let both = and_parts (may_be_in_part document options region box) (is_plain document.chain) h in
    let given = and_parts options.experimental_partial_encoding (not (holds_box region box) && encodes_in_part document.chain) both.0 in
    let rest = and_parts (not (holds_box region box)) (encodes_in_part document.chain) given.1 in
    (record { partly = rest.1; plain = both.1 }, unheld (holds_box region box) rest.0) where
      unheld : (b : Bool) → not b ≡ true → b ≡ false
      unheld true e = absurd (false≢true e)
      unheld false e = refl

-- ---- refusals

pub no_codec_refuses : (chain : Chain) (elements : Elements) (shape : List ℕ) (cells : List Cell) → IsInPart chain → CodecRefuses chain elements shape cells → ⊥
no_codec_refuses (bytes order) elements shape cells is h = h
no_codec_refuses (packbits padding first last) elements shape cells is h = h
no_codec_refuses (vlen index «data» width location) elements shape cells is h = absurd (false≢true is.partly)
no_codec_refuses (optional mask values) elements shape cells is h = absurd (false≢true is.partly)
no_codec_refuses (after_array_codec codec chain) elements shape cells is h = no_codec_refuses chain elements (encoded_shape codec shape) (gather elements.fill cells (source_places codec shape)) (inner codec chain is) h
no_codec_refuses (then_bytes chain codec) elements shape cells is h = absurd (false≢true is.partly)
no_codec_refuses (sharded subchunk within index location) elements shape cells is h = absurd (false≢true is.plain)

-- nor what a write asks for of the parts that it meets
no_parts_refused : (chain : Chain) (elements : Elements) (shape : List ℕ) (write : AfterWrite) → IsInPart chain → PartsRefused chain elements shape write → ⊥
no_parts_refused (bytes order) elements shape write is h = h
no_parts_refused (packbits padding first last) elements shape write is h = h
no_parts_refused (vlen index «data» width location) elements shape write is h = h
no_parts_refused (optional mask values) elements shape write is h = h
no_parts_refused (after_array_codec codec chain) elements shape write is h = no_parts_refused chain elements (encoded_shape codec shape) (write_moved codec elements.fill shape write) (inner codec chain is) h
no_parts_refused (then_bytes chain codec) elements shape write is h = h
no_parts_refused (sharded subchunk within index location) elements shape write is h = absurd (false≢true is.plain)

pub nothing_refuses : (chain : Chain) (elements : Elements) (shape : List ℕ) (update : Update) (after : List Cell) → IsInPart chain → WriteRefuses (coded chain elements shape) update after → ⊥
nothing_refuses chain elements shape update after is h =
    let parts = PartsRefused chain elements shape (write_of (coded chain elements shape) update after) in
    let whole = WholeRefused chain elements shape after in
    elim (subst (λ (b : Bool). MatchBool b (parts ⊎ (LacksRoom (coded chain elements shape) update × whole)) whole) is.partly h) as (λ _. ⊥) [
      | inl k ↦ no_parts_refused chain elements shape (write_of (coded chain elements shape) update after) is k
      | inr k ↦ no_codec_refuses chain elements shape after is k.1.1
    ]

pub none_passes : (chain : Chain) (elements : Elements) (shape : List ℕ) (cells : List Cell) → IsInPart chain → PassesIndex chain elements shape cells → ⊥
none_passes (bytes order) elements shape cells is h = h
none_passes (packbits padding first last) elements shape cells is h = h
none_passes (vlen index «data» width location) elements shape cells is h = absurd (false≢true is.partly)
none_passes (optional mask values) elements shape cells is h = absurd (false≢true is.partly)
none_passes (after_array_codec codec chain) elements shape cells is h = none_passes chain elements (encoded_shape codec shape) (gather elements.fill cells (source_places codec shape)) (inner codec chain is) h
none_passes (then_bytes chain codec) elements shape cells is h = absurd (false≢true is.partly)
none_passes (sharded subchunk within index location) elements shape cells is h = absurd (false≢true is.plain)

pub none_long : (chain : Chain) (elements : Elements) (shape : List ℕ) (write : AfterWrite) → IsInPart chain → PassesLength chain elements shape write → ⊥
none_long (bytes order) elements shape write is h = h
none_long (packbits padding first last) elements shape write is h = h
none_long (vlen index «data» width location) elements shape write is h = h
none_long (optional mask values) elements shape write is h = h
none_long (after_array_codec codec chain) elements shape write is h = none_long chain elements (encoded_shape codec shape) (write_moved codec elements.fill shape write) (inner codec chain is) h
none_long (then_bytes chain codec) elements shape write is h = h
none_long (sharded subchunk within index location) elements shape write is h = absurd (false≢true is.plain)

-- what is damaged doesn't open
abbrev Opens : Chain → Elements → List ℕ → Option (List ℕ) → Bool
Opens chain elements shape stored = elim stored [ None ↦ true | Some value ↦ opens chain elements shape value ]

-- no subchunk is met
none_met : (chain : Chain) (elements : Elements) (shape value numbers : List ℕ) → IsInPart chain → MeetsLost chain elements shape value numbers → ⊥
none_met (bytes order) elements shape value numbers is h = h
none_met (packbits padding first last) elements shape value numbers is h = h
none_met (vlen index «data» width location) elements shape value numbers is h = h
none_met (optional mask values) elements shape value numbers is h = h
none_met (after_array_codec codec chain) elements shape value numbers is h = none_met chain elements (encoded_shape codec shape) value (map (λ n. position_of n (source_places codec shape)) numbers) (inner codec chain is) h
none_met (then_bytes chain codec) elements shape value numbers is h = absurd (false≢true is.partly)
none_met (sharded subchunk within index location) elements shape value numbers is h = absurd (false≢true is.plain)

-- each bit is kept
pub keeps_bits : (chain : Chain) (type : DataType) → IsInPart chain → is_lossless chain type ≡ true
keeps_bits (bytes order) type is = refl
keeps_bits (packbits padding first last) type is = absurd (false≢true is.partly)
keeps_bits (vlen index «data» width location) type is = absurd (false≢true is.partly)
keeps_bits (optional mask values) type is = absurd (false≢true is.partly)
keeps_bits (after_array_codec codec chain) type is = keeps_bits chain type (inner codec chain is)
keeps_bits (then_bytes chain codec) type is = absurd (false≢true is.partly)
keeps_bits (sharded subchunk within index location) type is = absurd (false≢true is.plain)

pub stopped_closed : (chain : Chain) (elements : Elements) (shape : List ℕ) (asked : Asked) (payload : Payload) (stored : Option (List ℕ)) → IsInPart chain → StopsWrite (coded chain elements shape) (update_of asked payload stored) → Opens chain elements shape stored ≡ false
stopped_closed chain elements shape asked payload stored is (inr h) = absurd (none_long chain elements shape _ is h.1.is)
stopped_closed chain elements shape asked payload None is (inl h) = absurd h
stopped_closed chain elements shape asked payload (Some value) is (inl h) = elim (stops_part chain elements shape value (numbers_asked shape asked) is.partly h) [
  | inl closed ↦ closed
  | inr (inl lost) ↦ absurd (none_met chain elements shape value (numbers_asked shape asked) is lost)
  | inr (inr outside) ↦ absurd (plain_placed chain shape (Some value) is.plain is.partly outside)
]

-- the fill value is encoded
pub fill_stops : (document : Document) (box : Region) (stored : Option (List ℕ)) (cells : List Cell) (e : ChunkError) → IsInPart document.chain → EncodeRefuses document box.shape cells e → PutStops document box stored e
fill_stops document box stored cells error.Fit is h = h
fill_stops document box stored cells (error.Storage s) is h = h
fill_stops document box stored cells error.Damage is h = absurd h
fill_stops document box stored cells error.Codec is h = no_codec_refuses document.chain document.elements box.shape cells is h
fill_stops document box stored cells error.Size is h = none_passes document.chain document.elements box.shape cells is h
fill_stops document box stored cells error.Memory is h = tt

-- ---- sizes

-- its size is told
told_size : (chain : Chain) (type : DataType) (shape : List ℕ) → IsInPart chain → (n : ℕ) × (representation_of chain type shape ≡ fixed_size n)
told_size (bytes order) type shape is = (bytes_in (components type) * product shape, refl)
told_size (packbits padding first last) type shape is = absurd (false≢true is.partly)
told_size (vlen index «data» width location) type shape is = absurd (false≢true is.partly)
told_size (optional mask values) type shape is = absurd (false≢true is.partly)
told_size (after_array_codec codec chain) type shape is = told_size chain type (encoded_shape codec shape) (inner codec chain is)
told_size (then_bytes chain codec) type shape is = absurd (false≢true is.partly)
told_size (sharded subchunk within index location) type shape is = absurd (false≢true is.plain)

wide : (type : DataType) (count width : ℕ) → is_fixed type ≡ true → bytes_in (components type) ≡ width → 2 ^ 63 ≤ width * count → IsTooLarge type count
wide type count width fixed same large =
    let sized : byte_width type ≡ Some width = ap (λ (b : Bool). if b then Some (bytes_in (components type)) else None) fixed ∙ ap (λ w. Some w) same in
    inr (subst (λ (o : Option ℕ). MatchOption o ⊥ (λ w. 2 ^ 63 ≤ count * w)) (sym sized) (omega (arith, large)))

-- it is too long only where the array is too large
too_long : (chain : Chain) (type : DataType) (shape : List ℕ) → IsInPart chain → fits chain type shape ≡ true → tells_too_long chain type shape ≡ true → IsTooLarge type (product shape)
too_long (bytes order) type shape is fit h =
    wide type (product shape) (bytes_in (components type)) (and_parts (is_fixed type) (order_fits order (components type)) fit).0 refl (leb-true (2 ^ 63) (bytes_in (components type) * product shape) h)
too_long (packbits padding first last) type shape is fit h = absurd (false≢true is.partly)
too_long (vlen index «data» width location) type shape is fit h = absurd (false≢true is.partly)
too_long (optional mask values) type shape is fit h = absurd (false≢true is.partly)
too_long (after_array_codec codec chain) type shape is fit h =
    let both = and_parts (array_codec_fits codec shape) (fits chain type (encoded_shape codec shape)) fit in
    subst (IsTooLarge type) (sym (product_moved codec shape both.0)) (too_long chain type (encoded_shape codec shape) (inner codec chain is) both.1 h)
too_long (then_bytes chain codec) type shape is fit h = absurd (false≢true is.partly)
too_long (sharded subchunk within index location) type shape is fit h = absurd (false≢true is.plain)

-- the size of a shard isn't told
not_fixed : (o : Option ℕ) (n : ℕ) → fixed_size n ≡ at_most o → ⊥
not_fixed None n h = cc
not_fixed (Some m) n h = cc

pub fixed_plain : (chain : Chain) (type : DataType) (shape : List ℕ) (n : ℕ) → encodes_in_part chain ≡ true → fixed_size n ≡ representation_of chain type shape → is_plain chain ≡ true
fixed_plain (bytes order) type shape n partly h = refl
fixed_plain (packbits padding first last) type shape n partly h = refl
fixed_plain (vlen index «data» width location) type shape n partly h = refl
fixed_plain (optional mask values) type shape n partly h = refl
fixed_plain (after_array_codec codec chain) type shape n partly h = fixed_plain chain type (encoded_shape codec shape) n (inner_partly codec chain partly) h
fixed_plain (then_bytes chain codec) type shape n partly h = absurd (false≢true partly)
fixed_plain (sharded subchunk within index location) type shape n partly h =
    absurd (not_fixed (sum_of_bounds (bound_of (representation_of index uint64 (index_shape shape subchunk)) ∷ map (λ (part : Part). bound_of (representation_of within type part.shape)) (parts_of shape subchunk))) n h)

unplain : (b : Bool) → (b ≡ true → ⊥) → b ≡ false
unplain true h = absurd (h refl)
unplain false h = refl

-- so it isn't written in part
not_in_part : (document : Document) (options : CodecOptions) (region box : Region) → (IsInPart document.chain → ⊥) → false ≡ is_in_part document options region box
not_in_part document options region box h = sym (unplain (is_in_part document options region box) (λ is. h (parts_of_write document options region box is).0))

-- a size that is told tells whether a write that may be in part is
pub told_in_part : (document : Document) (options : CodecOptions) (region box : Region) (told : BytesRepresentation) → may_be_in_part document options region box ≡ true → IsRepresented document.chain document.elements.type box.shape told
    → tells_size told ≡ is_in_part document options region box
told_in_part document options region box (FixedSize n) may h =
    let given = and_parts options.experimental_partial_encoding (not (holds_box region box) && encodes_in_part document.chain) may in
    let partly = (and_parts (not (holds_box region box)) (encodes_in_part document.chain) given.1).1 in
    sym (ap (λ (b : Bool). b && is_plain document.chain) may ∙ fixed_plain document.chain document.elements.type box.shape n partly h.is)
told_in_part document options region box (BoundedSize n) may h =
    not_in_part document options region box (λ is. let size = told_size document.chain document.elements.type box.shape is in let e : bounded_size n ≡ fixed_size size.0 = h.is ∙ size.1 in cc)
told_in_part document options region box UnboundedSize may h =
    not_in_part document options region box (λ is. let size = told_size document.chain document.elements.type box.shape is in let e : unbounded_size ≡ fixed_size size.0 = h.is ∙ size.1 in cc)

-- nor is one where a size is too large
pub long_in_part : (document : Document) (options : CodecOptions) (region box : Region) → fits_box document box ≡ true → ¬ IsTooLarge document.elements.type (product box.shape)
    → IsTooLarge document.elements.type (product box.shape) ⊎ IsTrue (tells_too_long document.chain document.elements.type box.shape) → false ≡ is_in_part document options region box
long_in_part document options region box fit small (inl h) = absurd (small h)
long_in_part document options region box fit small (inr h) = not_in_part document options region box (λ is. small (too_long document.chain document.elements.type box.shape is fit h))

-- ---- counts

-- a refused call of the store wrote nothing, whatever it was refused for
pub unwritten_after : {A : Type 0} (result : Result A ChunkError) (after between before : ℕ) → OnErr result (after ≡ between) → between ≡ before → OnDamage result (after ≡ before)
unwritten_after (Ok value) after between before same kept = tt
unwritten_after (Err error.Fit) after between before same kept = tt
unwritten_after (Err (error.Storage s)) after between before same kept = tt
unwritten_after (Err error.Damage) after between before same kept = same ∙ kept
unwritten_after (Err error.Codec) after between before same kept = tt
unwritten_after (Err error.Size) after between before same kept = tt
unwritten_after (Err error.Memory) after between before same kept = tt
