-- Compaction of the values of a chain with array codecs before it, or bytes codecs after it.
use Rattle.std.proofs.Common.{◌≡◌, ◌∙◌, ℕ, List, [], ◌∷◌, ap, refl, sym, subst, Bool, true, false, inl, inr, Option, Some, None, option_and_then, if◌then◌else◌, Result, Ok, Err, Vec, Global}
use Rattle.std.proofs.lemmas.Bool.{and_left, and_right}
use Rattle.zarr_codecs_meaning.specs.Chains.{ArrayCodec, ByteCodec, Chain}
use Rattle.zarr_codecs_meaning.specs.Chains.Chain.{then_bytes}
use Rattle.zarr_codecs_meaning.specs.Fits.{fits, is_plain}
use Rattle.zarr_codecs_meaning.specs.Places.{encoded_shape}
use Rattle.zarr_codecs_meaning.specs.Types.{DataType}
use Rattle.zarr_codecs_meaning.proofs.Lists.{some_same}
use Rattle.zarr_sharding_changes.specs.Compactions.{Compaction, nothing_to_gain, compacted_to, damaged, unless_refused, encoded_again, undone_compaction, compaction}
use Rattle.zarr_sharding_changes.specs.Refusals.{CompactionRefused, CompactionTooLong}
use Rattle.zarr_codecs_arrays.specs.declared.error.CodecError.{CodecError}
use Rattle.zarr_codecs_arrays.specs.declared.error.CodecError.TheVariants as error
use Rattle.zarr_codecs_traits.specs.Compactions.{Compacts}
use Rattle.zarr_codecs_traits.specs.Outcomes.{MakesBytes, UndoesBytes}
use Rattle.zarr_codecs_around.specs.ArrayCodecs.{EncodesShapes, all_fit, shape_after}
use Rattle.zarr_codecs_around.specs.Codecs.{all_decoded, all_encoded}
use Rattle.zarr_codecs_around.specs.Views.{with_array_codecs, with_codecs}
use Rattle.zarr_codecs_around.proofs.AllArrayCodecs.{all_suit, fits_all}
use Rattle.zarr_codecs_around.proofs.Chains.{fits_with}

-- ---- array codecs before a chain

compaction_before : (codecs : List ArrayCodec) (chain : Chain) (shape value : List ℕ) → compaction (with_array_codecs codecs chain) shape value ≡ compaction chain (shape_after codecs shape) value
compaction_before [] chain shape value = refl
compaction_before (codec ∷ codecs) chain shape value = compaction_before codecs chain (encoded_shape codec shape) value

refused_before : (codecs : List ArrayCodec) (chain : Chain) (shape value : List ℕ) → CompactionRefused chain (shape_after codecs shape) value → CompactionRefused (with_array_codecs codecs chain) shape value
refused_before [] chain shape value h = h
refused_before (codec ∷ codecs) chain shape value h = refused_before codecs chain (encoded_shape codec shape) value h

too_long_before : (codecs : List ArrayCodec) (chain : Chain) (shape value : List ℕ) → CompactionTooLong chain (shape_after codecs shape) value → CompactionTooLong (with_array_codecs codecs chain) shape value
too_long_before [] chain shape value h = h
too_long_before (codec ∷ codecs) chain shape value h = too_long_before codecs chain (encoded_shape codec shape) value h

-- what compaction makes of a value, it makes of it with array codecs before the chain
pub compacts_before : (codecs : List ArrayCodec) (chain : Chain) (type : DataType) (shape value : List ℕ) (r : Result (Option (Vec ℕ Global)) CodecError) → all_fit codecs shape ≡ true
    → Compacts chain type (shape_after codecs shape) value r → Compacts (with_array_codecs codecs chain) type shape value r
compacts_before codecs chain type shape value (Ok None) all h = (all_suit codecs chain type shape all h.0, compaction_before codecs chain shape value ∙ h.1)
compacts_before codecs chain type shape value (Ok (Some made)) all h = (all_suit codecs chain type shape all h.0, compaction_before codecs chain shape value ∙ h.1)
compacts_before codecs chain type shape value (Err error.Fit) all h = fits_all codecs chain type shape ∙ and_right (all_fit codecs shape) (fits chain type (shape_after codecs shape)) h
compacts_before codecs chain type shape value (Err error.Damage) all h = (all_suit codecs chain type shape all h.0, compaction_before codecs chain shape value ∙ h.1)
compacts_before codecs chain type shape value (Err error.Codec) all h = (all_suit codecs chain type shape all h.0, refused_before codecs chain shape value h.1)
compacts_before codecs chain type shape value (Err error.Size) all h = (all_suit codecs chain type shape all h.0, too_long_before codecs chain shape value h.1)
compacts_before codecs chain type shape value (Err error.Memory) all h = tt
compacts_before codecs chain type shape value (Err e) all h = absurd h

-- an array that the array codecs do not suit
pub uncompacted_before : (codecs : List ArrayCodec) (chain : Chain) (type : DataType) (shape value : List ℕ) (e : CodecError) → EncodesShapes codecs shape (Err e) → Compacts (with_array_codecs codecs chain) type shape value (Err e)
uncompacted_before codecs chain type shape value error.Fit none = fits_all codecs chain type shape ∙ and_left (all_fit codecs shape) (fits chain type (shape_after codecs shape)) none
uncompacted_before codecs chain type shape value error.Memory h = tt
uncompacted_before codecs chain type shape value e h = absurd h

-- ---- bytes codecs after a chain that makes shards

bound : (f : List ℕ → Option (List ℕ)) (o : Option (List ℕ)) (made : List ℕ) → option_and_then f o ≡ Some made → (given : List ℕ) × (o ≡ Some given) × (f given ≡ Some made)
bound f None made h = absurd (cc)
bound f (Some given) made h = (given, refl, h)

-- what compaction makes of what a codec is given
undone : (chain : Chain) (codec : ByteCodec) (shape value given : List ℕ) → is_plain chain ≡ false → codec.decode value ≡ Some given → compaction (then_bytes chain codec) shape value ≡ encoded_again codec (compaction chain shape given)
undone chain codec shape value given shards is =
    ap (λ (b : Bool). if b then nothing_to_gain else undone_compaction codec (compaction chain shape) value) shards
    ∙ ap (λ (o : Option (List ℕ)). elim o [ None ↦ damaged | Some given ↦ encoded_again codec (compaction chain shape given) ]) is

-- what no codec changes of a compaction
carried : (what : Compaction) → ((codec : ByteCodec) → encoded_again codec what ≡ what) → (chain : Chain) (codecs : List ByteCodec) (shape value inside : List ℕ) → is_plain chain ≡ false → all_decoded codecs value ≡ Some inside
    → compaction chain shape inside ≡ what → compaction (with_codecs chain codecs) shape value ≡ what
carried what same chain [] shape value inside shards made h = ap (compaction chain shape) (some_same made) ∙ h
carried what same chain (codec ∷ codecs) shape value inside shards made h =
    let two = bound codec.decode (all_decoded codecs value) inside made in
    carried what same (then_bytes chain codec) codecs shape value two.0 shards two.1 (undone chain codec shape two.0 inside shards two.2 ∙ (ap (encoded_again codec) h ∙ same codec))

refused_with : (chain : Chain) (codecs : List ByteCodec) (shape value inside : List ℕ) → all_decoded codecs value ≡ Some inside → CompactionRefused chain shape inside → CompactionRefused (with_codecs chain codecs) shape value
refused_with chain [] shape value inside made h = subst (CompactionRefused chain shape) (sym (some_same made)) h
refused_with chain (codec ∷ codecs) shape value inside made h =
    let two = bound codec.decode (all_decoded codecs value) inside made in
    refused_with (then_bytes chain codec) codecs shape value two.0 two.1 (inside, two.2, inl h)

too_long_with : (chain : Chain) (codecs : List ByteCodec) (shape value inside : List ℕ) → all_decoded codecs value ≡ Some inside → CompactionTooLong chain shape inside → CompactionTooLong (with_codecs chain codecs) shape value
too_long_with chain [] shape value inside made h = subst (CompactionTooLong chain shape) (sym (some_same made)) h
too_long_with chain (codec ∷ codecs) shape value inside made h =
    let two = bound codec.decode (all_decoded codecs value) inside made in
    too_long_with (then_bytes chain codec) codecs shape value two.0 two.1 (inside, two.2, h)

-- what codecs make of a compacted value
made_with : (chain : Chain) (codecs : List ByteCodec) (shape value inside made encoded : List ℕ) → is_plain chain ≡ false → all_decoded codecs value ≡ Some inside → compaction chain shape inside ≡ compacted_to made
    → all_encoded codecs made ≡ Some encoded → compaction (with_codecs chain codecs) shape value ≡ compacted_to encoded
made_with chain [] shape value inside made encoded shards given h is = ap (compaction chain shape) (some_same given) ∙ (h ∙ ap compacted_to (some_same is))
made_with chain (codec ∷ codecs) shape value inside made encoded shards given h is =
    let two = bound codec.decode (all_decoded codecs value) inside given in
    let next = bound (all_encoded codecs) (codec.encode made) encoded is in
    made_with (then_bytes chain codec) codecs shape value two.0 next.0 encoded shards two.1 (undone chain codec shape two.0 inside shards two.2 ∙ (ap (encoded_again codec) h ∙ ap unless_refused next.1)) next.2

-- what a codec refuses of it, or one after it
unmade_from : (chain : Chain) (codec : ByteCodec) (codecs : List ByteCodec) (shape value given inside made : List ℕ) (next : Option (List ℕ)) → all_decoded codecs value ≡ Some given → codec.decode given ≡ Some inside → compaction chain shape inside ≡ compacted_to made
    → codec.encode made ≡ next → ((more : List ℕ) → codec.encode made ≡ Some more → CompactionRefused (with_codecs (then_bytes chain codec) codecs) shape value) → CompactionRefused (with_codecs (then_bytes chain codec) codecs) shape value
unmade_from chain codec codecs shape value given inside made None before last h e later = refused_with (then_bytes chain codec) codecs shape value given before (inside, last, inr (made, h, e))
unmade_from chain codec codecs shape value given inside made (Some more) before last h e later = later more e

unmade_with : (chain : Chain) (codecs : List ByteCodec) (shape value inside made : List ℕ) → is_plain chain ≡ false → all_decoded codecs value ≡ Some inside → compaction chain shape inside ≡ compacted_to made
    → all_encoded codecs made ≡ None → CompactionRefused (with_codecs chain codecs) shape value
unmade_with chain [] shape value inside made shards given h none = absurd (cc)
unmade_with chain (codec ∷ codecs) shape value inside made shards given h none =
    let two = bound codec.decode (all_decoded codecs value) inside given in
    unmade_from chain codec codecs shape value two.0 inside made (codec.encode made) two.1 two.2 h refl
    (λ more e. unmade_with (then_bytes chain codec) codecs shape value two.0 more shards two.1 (undone chain codec shape two.0 inside shards two.2 ∙ (ap (encoded_again codec) h ∙ ap unless_refused e)) (ap (option_and_then (all_encoded codecs)) (sym e) ∙ none))

-- what a codec does not undo, or one after it
damaged_from : (chain : Chain) (codec : ByteCodec) (codecs : List ByteCodec) (shape value : List ℕ) (inside : Option (List ℕ)) → is_plain chain ≡ false → all_decoded codecs value ≡ inside → option_and_then codec.decode inside ≡ None
    → (all_decoded codecs value ≡ None → compaction (with_codecs (then_bytes chain codec) codecs) shape value ≡ damaged) → compaction (with_codecs (then_bytes chain codec) codecs) shape value ≡ damaged
damaged_from chain codec codecs shape value None shards e h later = later e
damaged_from chain codec codecs shape value (Some given) shards e h later =
    carried damaged (λ other. refl) (then_bytes chain codec) codecs shape value given shards e
    (ap (λ (b : Bool). if b then nothing_to_gain else undone_compaction codec (compaction chain shape) given) shards ∙ ap (λ (o : Option (List ℕ)). elim o [ None ↦ damaged | Some given ↦ encoded_again codec (compaction chain shape given) ]) h)

damaged_with : (chain : Chain) (codecs : List ByteCodec) (shape value : List ℕ) → is_plain chain ≡ false → all_decoded codecs value ≡ None → compaction (with_codecs chain codecs) shape value ≡ damaged
damaged_with chain [] shape value shards none = absurd (cc)
damaged_with chain (codec ∷ codecs) shape value shards none =
    damaged_from chain codec codecs shape value (all_decoded codecs value) shards refl none (damaged_with (then_bytes chain codec) codecs shape value shards)

-- ---- what calls answer

-- what codecs do not undo is not compacted
pub compacts_unless_undone : (chain : Chain) (codecs : List ByteCodec) (type : DataType) (shape value : List ℕ) (e : CodecError) → fits chain type shape ≡ true → is_plain chain ≡ false → UndoesBytes (all_decoded codecs) value (Err e)
    → Compacts (with_codecs chain codecs) type shape value (Err e)
compacts_unless_undone chain codecs type shape value error.Damage fit shards h = (fits_with chain codecs type shape ∙ fit, damaged_with chain codecs shape value shards h)
compacts_unless_undone chain codecs type shape value error.Memory fit shards h = tt
compacts_unless_undone chain codecs type shape value e fit shards h = absurd h

-- where nothing is gained inside, nothing is
pub compacts_nothing : (chain : Chain) (codecs : List ByteCodec) (type : DataType) (shape value inside : List ℕ) → is_plain chain ≡ false → all_decoded codecs value ≡ Some inside → Compacts chain type shape inside (Ok None)
    → Compacts (with_codecs chain codecs) type shape value (Ok None)
compacts_nothing chain codecs type shape value inside shards given h = (fits_with chain codecs type shape ∙ h.0, carried nothing_to_gain (λ codec. refl) chain codecs shape value inside shards given h.1)

-- what is refused inside is refused
pub compacts_refused : (chain : Chain) (codecs : List ByteCodec) (type : DataType) (shape value inside : List ℕ) (e : CodecError) → is_plain chain ≡ false → all_decoded codecs value ≡ Some inside → Compacts chain type shape inside (Err e)
    → Compacts (with_codecs chain codecs) type shape value (Err e)
compacts_refused chain codecs type shape value inside error.Fit shards given h = fits_with chain codecs type shape ∙ h
compacts_refused chain codecs type shape value inside error.Damage shards given h = (fits_with chain codecs type shape ∙ h.0, carried damaged (λ codec. refl) chain codecs shape value inside shards given h.1)
compacts_refused chain codecs type shape value inside error.Codec shards given h = (fits_with chain codecs type shape ∙ h.0, refused_with chain codecs shape value inside given h.1)
compacts_refused chain codecs type shape value inside error.Size shards given h = (fits_with chain codecs type shape ∙ h.0, too_long_with chain codecs shape value inside given h.1)
compacts_refused chain codecs type shape value inside error.Memory shards given h = tt
compacts_refused chain codecs type shape value inside e shards given h = absurd h

-- what was compacted inside is encoded again
pub compacts_again : (chain : Chain) (codecs : List ByteCodec) (type : DataType) (shape value inside : List ℕ) (made encoded : Vec ℕ Global) → is_plain chain ≡ false → all_decoded codecs value ≡ Some inside → Compacts chain type shape inside (Ok (Some made))
    → MakesBytes (all_encoded codecs) made.items (Ok encoded) → Compacts (with_codecs chain codecs) type shape value (Ok (Some encoded))
compacts_again chain codecs type shape value inside made encoded shards given h is = (fits_with chain codecs type shape ∙ h.0, made_with chain codecs shape value inside made.items encoded.items shards given h.1 is)

-- or refused by a codec
pub compacts_unmade : (chain : Chain) (codecs : List ByteCodec) (type : DataType) (shape value inside : List ℕ) (made : Vec ℕ Global) (e : CodecError) → is_plain chain ≡ false → all_decoded codecs value ≡ Some inside → Compacts chain type shape inside (Ok (Some made))
    → MakesBytes (all_encoded codecs) made.items (Err e) → Compacts (with_codecs chain codecs) type shape value (Err e)
compacts_unmade chain codecs type shape value inside made error.Codec shards given h none = (fits_with chain codecs type shape ∙ h.0, unmade_with chain codecs shape value inside made.items shards given h.1 none)
compacts_unmade chain codecs type shape value inside made error.Memory shards given h none = tt
compacts_unmade chain codecs type shape value inside made e shards given h none = absurd none
