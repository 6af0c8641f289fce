-- What chains tell of the sizes of what they make, by the chains inside of them.
use Rattle.std.proofs.Common.{rules, ◌≡◌, ◌∙◌, ◌⊎◌, ℕ, ◌^◌, ◌<◌, List, [], ◌∷◌, Bool, true, false, ◌||◌, ◌&&◌, ap, sym, subst, refl, inl, inr, arith, Option, Some, None, Result, Ok, Err}
use Rattle.std.specs.Prelude.{IfErr, IsTrue, unwrap_or}
use Rattle.std.proofs.lemmas.Bool.{and_left, and_parts, or_from, true≢false}
use Rattle.zarr_grids_boxes.specs.Boxes.{product}
use Rattle.zarr_codecs_meaning.specs.Types.{DataType, bool, inner_type, IsTooLarge}
use Rattle.zarr_codecs_meaning.specs.Chains.{ArrayCodec, ByteCodec, Chain}
use Rattle.zarr_codecs_meaning.specs.Chains.Chain.{optional}
use Rattle.zarr_codecs_meaning.specs.Fits.{array_codec_fits, at_most, bound_of, fits, is_too_long, representation_of, sum_of_bounds, takes_each_shape, tells_too_long}
use Rattle.zarr_codecs_meaning.proofs.KeptOptions.{options_fit}
use Rattle.zarr_codecs_packbits.specs.Told.{RefusesToldSizes}
use Rattle.zarr_codecs_meaning.specs.Places.{encoded_shape}
use Rattle.zarr_codecs_arrays.specs.declared.error.CodecError.{CodecError}
use Rattle.zarr_codecs_arrays.specs.declared.error.CodecError.TheVariants as error
use Rattle.zarr_codecs_traits.specs.Representations.{IsRepresented, RepresentsArray, RepresentsShort, known_size}
use Rattle.zarr_codecs_traits.specs.declared.bytes_representation.BytesRepresentation.{BytesRepresentation}
use Rattle.zarr_codecs_around.specs.ArrayCodecs.{EncodesShapes, all_fit, shape_after}
use Rattle.zarr_codecs_around.specs.Codecs.{RepresentsAll}
use Rattle.zarr_codecs_around.specs.Views.{with_array_codecs, with_codecs}
use Rattle.zarr_codecs_around.proofs.AllArrayCodecs.{fits_all}
use Rattle.zarr_codecs_around.proofs.ArrayCodecs.{represents_after}
use Rattle.zarr_codecs_around.proofs.Telling.{tells_first, tells_with}

-- what is told of the array after array codecs, is told of the array before
pub told_before : (codecs : List ArrayCodec) (chain : Chain) (type : DataType) (shape : List ℕ) (r : Result BytesRepresentation CodecError) → all_fit codecs shape ≡ true
    → RepresentsArray chain type (shape_after codecs shape) r → RepresentsArray (with_array_codecs codecs chain) type shape r
told_before [] chain type shape r all h = h
told_before (codec ∷ codecs) chain type shape r all h =
    let suits = and_parts (array_codec_fits codec shape) (all_fit codecs (encoded_shape codec shape)) all in
    represents_after codec (with_array_codecs codecs chain) type shape r suits.0 (told_before codecs chain type (encoded_shape codec shape) r suits.1 h)

-- nothing is told where array codecs do not suit the array
pub untold_before : (codecs : List ArrayCodec) (chain : Chain) (type : DataType) (shape : List ℕ) (e : CodecError) → EncodesShapes codecs shape (Err e) → RepresentsArray (with_array_codecs codecs chain) type shape (Err e)
untold_before codecs chain type shape error.Fit h = fits_all codecs chain type shape ∙ and_left (all_fit codecs shape) (fits chain type (shape_after codecs shape)) h
untold_before codecs chain type shape error.Memory h = tt
untold_before codecs chain type shape e h = absurd h

or_first : (a b : Bool) → a ≡ true → (a || b) ≡ true
or_first true b h = refl
or_first false b h = absurd (cc)

-- a mask that is too large has too many elements, or its chain tells too long a size
pub mask_too_long : (mask values : Chain) (type : DataType) (shape : List ℕ) → RepresentsArray mask bool shape (Err error.Size) → RepresentsArray (optional mask values) type shape (Err error.Size)
mask_too_long mask values type shape (inl (inl large)) = inl (inl large)
mask_too_long mask values type shape (inl (inr large)) = inl (inl (omega (arith, large)))
mask_too_long mask values type shape (inr long) = inr (or_first (tells_too_long mask bool shape) _ long)

-- ---- sizes that are refused for what is told alone

or_second : (a b : Bool) → b ≡ true → (a || b) ≡ true
or_second true b h = refl
or_second false b h = h

-- array codecs before a chain tell what it tells of the shape that they make
pub tells_before : (codecs : List ArrayCodec) (chain : Chain) (type : DataType) (shape : List ℕ) → tells_too_long (with_array_codecs codecs chain) type shape ≡ tells_too_long chain type (shape_after codecs shape)
tells_before [] chain type shape = refl
tells_before (codec ∷ codecs) chain type shape = tells_before codecs chain type (encoded_shape codec shape)

-- a chain that takes each shape has none
pub few_after : (codecs : List ArrayCodec) (chain : Chain) (shape : List ℕ) → takes_each_shape (with_array_codecs codecs chain) ≡ true → product shape < 2 ^ 63 → product (shape_after codecs shape) < 2 ^ 63
few_after [] chain shape takes few = few
few_after (codec ∷ codecs) chain shape takes few = absurd (cc)

-- a refusal by array codecs is none of a size
pub untold_size : (codecs : List ArrayCodec) (shape : List ℕ) (e : CodecError) → EncodesShapes codecs shape (Err e) → e ≡ error.Size → ⊥
untold_size codecs shape e h is = subst (λ e. EncodesShapes codecs shape (Err e)) is h

-- what codecs after a chain tell, and what it tells itself
pub all_told : (before : List ArrayCodec) (chain : Chain) (codecs : List ByteCodec) (type : DataType) (shape : List ℕ) (known : BytesRepresentation) (r : Result BytesRepresentation CodecError)
    → IsRepresented chain type (shape_after before shape) known → RepresentsAll codecs (known_size known) r → IfErr r (λ e. e ≡ error.Size → tells_too_long (with_array_codecs before (with_codecs chain codecs)) type shape ≡ true)
all_told before chain codecs type shape known (Ok told) done h = tt
all_told before chain codecs type shape known (Err e) done h = λ is.
    tells_before before (with_codecs chain codecs) type shape ∙ tells_with chain codecs type (shape_after before shape) known done (subst (λ e. RepresentsAll codecs (known_size known) (Err e)) is h)

pub codec_told : (before : List ArrayCodec) (chain : Chain) (codecs : List ByteCodec) (type : DataType) (shape last : List ℕ) (e : CodecError) → takes_each_shape (with_array_codecs before (with_codecs chain codecs)) ≡ true → product shape < 2 ^ 63
    → last ≡ shape_after before shape → RefusesToldSizes chain type last (Err e) → e ≡ error.Size → tells_too_long (with_array_codecs before (with_codecs chain codecs)) type shape ≡ true
codec_told before chain codecs type shape last e takes few same told is =
    let small = few_after before (with_codecs chain codecs) shape takes few in
    let long = subst (λ s. RefusesToldSizes chain type s (Err e)) same told small is in
    tells_before before (with_codecs chain codecs) type shape ∙ tells_first chain codecs type (shape_after before shape) long

-- ---- the sections of `optional`

-- what is refused of the mask is refused of the whole
pub mask_refused : (mask values : Chain) (type : DataType) (shape : List ℕ) (e : CodecError) → RepresentsArray mask bool shape (Err e) → RepresentsArray (optional mask values) type shape (Err e)
mask_refused mask values type shape error.Fit none = at (inner_type type) where
  at : (o : Option DataType) → elim o [ None ↦ false | Some inner ↦ fits mask bool shape && (takes_each_shape values && fits values inner (0 ∷ [])) ] ≡ false
  at None = refl
  at (Some inner) = ap (λ (b : Bool). b && (takes_each_shape values && fits values inner (0 ∷ []))) none
mask_refused mask values type shape error.Size h = mask_too_long mask values type shape h
mask_refused mask values type shape error.Memory h = tt
mask_refused mask values type shape e h = absurd h

-- a mask of few elements is refused as too large only where too long a size is told
pub mask_told : (mask values : Chain) (type : DataType) (shape : List ℕ) (e : CodecError) → RepresentsArray mask bool shape (Err e) → product shape < 2 ^ 63 → e ≡ error.Size → tells_too_long (optional mask values) type shape ≡ true
mask_told mask values type shape e h few is = at (subst (λ e. RepresentsArray mask bool shape (Err e)) is h) where
  at : IsTooLarge bool (product shape) ⊎ IsTrue (tells_too_long mask bool shape) → tells_too_long (optional mask values) type shape ≡ true
  at (inl (inl large)) = absurd (omega (arith, few, large))
  at (inl (inr large)) = absurd (omega (arith, few, large))
  at (inr long) = or_first (tells_too_long mask bool shape) _ long

-- elements are refused as too large only where too long a size is told
pub values_told : (mask values : Chain) (type inner : DataType) (shape : List ℕ) (count : ℕ) (e : CodecError) → inner_type type ≡ Some inner → count ≡ product shape → product shape < 2 ^ 63
    → RefusesToldSizes values inner (count ∷ []) (Err e) → e ≡ error.Size → tells_too_long (optional mask values) type shape ≡ true
values_told mask values type inner shape count e is same few told size =
    let small : product (count ∷ []) < 2 ^ 63 = search (rules, same, few) in
    let other : unwrap_or (inner_type type) type ≡ inner = ap (λ o. unwrap_or o type) is in
    let long : tells_too_long values (unwrap_or (inner_type type) type) (product shape ∷ []) ≡ true = subst (λ n. tells_too_long values (unwrap_or (inner_type type) type) (n ∷ []) ≡ true) same (subst (λ t. tells_too_long values t (count ∷ []) ≡ true) (sym other) (told small size)) in
    or_second (tells_too_long mask bool shape) _ (or_first (tells_too_long values (unwrap_or (inner_type type) type) (product shape ∷ [])) _ long)

-- a chain of elements suits as many as there are
pub values_fit : (mask values : Chain) (type inner : DataType) (shape some : List ℕ) → fits (optional mask values) type shape ≡ true → inner_type type ≡ Some inner → fits values inner some ≡ true
values_fit mask values type inner shape some fit is = subst (λ t. fits values t some ≡ true) (ap (λ o. unwrap_or o type) is) ((options_fit mask values type shape fit).values_fit some)

-- what is refused of the elements
pub values_refused : (mask values : Chain) (type inner : DataType) (shape : List ℕ) (count : ℕ) (e : CodecError) → fits (optional mask values) type shape ≡ true → inner_type type ≡ Some inner → count ≡ product shape → product shape < 2 ^ 63
    → RepresentsArray values inner (count ∷ []) (Err e) → RefusesToldSizes values inner (count ∷ []) (Err e) → RepresentsArray (optional mask values) type shape (Err e)
values_refused mask values type inner shape count error.Fit fit is same few h told = absurd (true≢false (sym (values_fit mask values type inner shape (count ∷ []) fit is) ∙ h))
values_refused mask values type inner shape count error.Size fit is same few h told = inr (values_told mask values type inner shape count error.Size is same few told refl)
values_refused mask values type inner shape count error.Memory fit is same few h told = tt
values_refused mask values type inner shape count e fit is same few h told = absurd h

-- what is told of the whole, by what is told of both sections
sections_known : (mask values : Chain) (type inner : DataType) (shape : List ℕ) (count : ℕ) (one two : BytesRepresentation) → inner_type type ≡ Some inner → count ≡ product shape → IsRepresented mask bool shape one → IsRepresented values inner (count ∷ []) two
    → at_most (sum_of_bounds (Some 16 ∷ bound_of (known_size one) ∷ bound_of (known_size two) ∷ [])) ≡ representation_of (optional mask values) type shape
sections_known mask values type inner shape count one two is same first second =
    let other : unwrap_or (inner_type type) type ≡ inner = ap (λ o. unwrap_or o type) is in
    let known : known_size two ≡ representation_of values (unwrap_or (inner_type type) type) (product shape ∷ []) =
    second.is ∙ (ap (λ t. representation_of values t (count ∷ [])) (sym other) ∙ ap (λ n. representation_of values (unwrap_or (inner_type type) type) (n ∷ [])) same) in
    ap (λ k. at_most (sum_of_bounds (Some 16 ∷ bound_of k ∷ bound_of (known_size two) ∷ []))) first.is ∙ ap (λ k. at_most (sum_of_bounds (Some 16 ∷ bound_of (representation_of mask bool shape) ∷ bound_of k ∷ []))) known

-- the elements' codecs tell no size too long, whichever way the array of them is written
values_short : (values : Chain) (type inner : DataType) (shape : List ℕ) (count : ℕ) (two : BytesRepresentation) → inner_type type ≡ Some inner → count ≡ product shape → IsRepresented values inner (count ∷ []) two
    → tells_too_long values (unwrap_or (inner_type type) type) (product shape ∷ []) ≡ false
values_short values type inner shape count two is same second =
    ap (λ t. tells_too_long values t (product shape ∷ [])) (ap (λ o. unwrap_or o type) is) ∙ (ap (λ n. tells_too_long values inner (n ∷ [])) (sym same) ∙ second.short)

pub sections_represent : (mask values : Chain) (type inner : DataType) (shape : List ℕ) (count : ℕ) (one two : BytesRepresentation) (r : Result BytesRepresentation CodecError) → fits (optional mask values) type shape ≡ true → inner_type type ≡ Some inner → count ≡ product shape
    → IsRepresented mask bool shape one → IsRepresented values inner (count ∷ []) two → RepresentsShort (at_most (sum_of_bounds (Some 16 ∷ bound_of (known_size one) ∷ bound_of (known_size two) ∷ []))) r → RepresentsArray (optional mask values) type shape r
sections_represent mask values type inner shape count one two (Ok known) fit is same first second h =
    let whole = sections_known mask values type inner shape count one two is same first second in
    record {
      fit = fit;
      is = h.0 ∙ whole;
      short = or_from (tells_too_long mask bool shape) _ first.short (or_from (tells_too_long values (unwrap_or (inner_type type) type) (product shape ∷ [])) _ (values_short values type inner shape count two is same second) (ap is_too_long (sym whole) ∙ h.1));
    }
sections_represent mask values type inner shape count one two (Err error.Size) fit is same first second h =
    inr (or_second (tells_too_long mask bool shape) _ (or_second (tells_too_long values (unwrap_or (inner_type type) type) (product shape ∷ [])) _ (ap is_too_long (sym (sections_known mask values type inner shape count one two is same first second)) ∙ h)))
sections_represent mask values type inner shape count one two (Err e) fit is same first second h = absurd h

pub sections_told : (mask values : Chain) (type inner : DataType) (shape : List ℕ) (count : ℕ) (one two : BytesRepresentation) (r : Result BytesRepresentation CodecError) → inner_type type ≡ Some inner → count ≡ product shape
    → IsRepresented mask bool shape one → IsRepresented values inner (count ∷ []) two → RepresentsShort (at_most (sum_of_bounds (Some 16 ∷ bound_of (known_size one) ∷ bound_of (known_size two) ∷ []))) r → RefusesToldSizes (optional mask values) type shape r
sections_told mask values type inner shape count one two (Ok known) is same first second h = λ few. tt
sections_told mask values type inner shape count one two (Err error.Size) is same first second h = λ few size.
    or_second (tells_too_long mask bool shape) _ (or_second (tells_too_long values (unwrap_or (inner_type type) type) (product shape ∷ [])) _ (ap is_too_long (sym (sections_known mask values type inner shape count one two is same first second)) ∙ h))
sections_told mask values type inner shape count one two (Err e) is same first second h = absurd h
