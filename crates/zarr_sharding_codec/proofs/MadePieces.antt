-- What was made of the pieces of a shard, or of its array.
use Rattle.std.proofs.Common.{◌≡◌, ◌∙◌, ◌⊎◌, ℕ, zero, suc, ◌+◌, ◌<◌, inl, inr, List, [], ◌∷◌, ◌++◌, length, get_or, map, refl, sym, ap, subst, arith, true, Result, Ok, Err}
use Rattle.std.specs.List.{AllZip, range_with_len}
use Rattle.std.proofs.lemmas.List.{get_or_default, get_or-map, length-map, map-append}
use Rattle.zarr_codecs_meaning.specs.Decoding.{decoded}
use Rattle.zarr_codecs_meaning.specs.Fits.{fits}
use Rattle.zarr_codecs_arrays.specs.declared.array_bytes.ArrayBytes.{ArrayBytes}
use Rattle.zarr_codecs_arrays.specs.declared.error.CodecError.{CodecError}
use Rattle.zarr_codecs_arrays.specs.declared.error.CodecError.TheVariants as error
use Rattle.zarr_codecs_traits.specs.Arrays.{Coded}
use Rattle.zarr_codecs_traits.specs.Outcomes.{Decodes}
use Rattle.zarr_codecs_traits.specs.Pieces.{AnswersPiece, AreMade}
use Rattle.zarr_codecs_traits.specs.Sources.{refused_after}
use Rattle.zarr_sharding_codec.specs.Pieces.{IsMadeRefusal}
use Rattle.zarr_sharding_codec.specs.Reading.{Lists}

-- of as many things as there are numbers from one on, each has what is said of its number
zip_long : {B : Type 0} (R : ℕ → B → Type 0) (a count : ℕ) (rs : List B) → AllZip R (range_with_len a count) rs → length rs ≡ count
zip_long R a zero [] h = refl
zip_long R a zero (r ∷ rs) h = elim h [ ]
zip_long R a (suc count) [] h = elim h [ ]
zip_long R a (suc count) (r ∷ rs) h = ap suc (zip_long R (a + 1) count rs h.1)

zip_at : {B : Type 0} (R : ℕ → B → Type 0) (a count : ℕ) (rs : List B) (k : ℕ) (d : B) → AllZip R (range_with_len a count) rs → k < count → R (a + k) (get_or rs k d)
zip_at R a zero rs k d h low = absurd (omega (arith, low))
zip_at R a (suc count) [] k d h low = elim h [ ]
zip_at R a (suc count) (r ∷ rs) zero d h low = let e : a ≡ a + 0 = omega arith in subst (λ n. R n r) e h.0
zip_at R a (suc count) (r ∷ rs) (suc k) d h low = let e : a + 1 + k ≡ a + suc k = omega arith in subst (λ n. R n (get_or rs k d)) e (zip_at R (a + 1) count rs k d h.1 (omega (arith, low)))

-- as many results as pieces
pub made_long : {A : Type 0} (made : ℕ → Result A CodecError → Type 0) (count : ℕ) (results : List (Result A CodecError)) → AreMade made count results → length results ≡ count
made_long made count results h = zip_long (λ n result. AnswersPiece (made n) result) 0 count results h

-- the result of one of the pieces
pub made_at : {A : Type 0} (made : ℕ → Result A CodecError → Type 0) (count : ℕ) (results : List (Result A CodecError)) (n : ℕ) (d : Result A CodecError) → AreMade made count results → n < count → AnswersPiece (made n) (get_or results n d)
made_at made count results n d h low =
    let e : 0 + n ≡ n = omega arith in
    subst (λ m. AnswersPiece (made m) (get_or results n d)) e (zip_at (λ n result. AnswersPiece (made n) result) 0 count results n d h low)

-- a refusal is what was to be made, or memory ran out
pub refusal_made : {A : Type 0} (made : Result A CodecError → Type 0) (e : CodecError) → AnswersPiece made (Err e) → (e ≡ error.Memory) ⊎ made (Err e)
refusal_made made error.Source h = absurd h
refusal_made made error.Memory h = inl refl
refusal_made made e h = inr h

-- what was made of one of the pieces, where all were made
pub value_made : {A : Type 0} (made : ℕ → Result A CodecError → Type 0) (count : ℕ) (results : List (Result A CodecError)) (found : List A) (n : ℕ) (d : A) → AreMade made count results → map Ok found ≡ results → n < count → made n (Ok (get_or found n d))
value_made {A} made count results found n d h same low =
    let long = made_long made count results h in
    let ok : A → Result A CodecError = λ x. Ok x in
    let all : length found ≡ length results = sym (length-map found ok) ∙ ap (λ (rs : List (Result A CodecError)). length rs) same in
    let is : get_or results n (Ok d) ≡ Ok (get_or found n d) = ap (λ (rs : List (Result A CodecError)). get_or rs n (Ok d)) (sym same) ∙ get_or-map ok found n d (Ok d) (omega (arith, low, long, all)) in
    subst (λ (r : Result A CodecError). AnswersPiece (made n) r) is (made_at made count results n (Ok d) h low)

-- ---- one result after another

-- the values of the results so far, and of one more
pub made_more : {A : Type 0} (found more : List A) (results : List (Result A CodecError)) (result : Result A CodecError) (value : A) → map Ok found ≡ results → result ≡ Ok value → more ≡ found ++ value ∷ [] → map Ok more ≡ results ++ result ∷ []
made_more {A} found more results result value so_far is pushed =
    let ok : A → Result A CodecError = λ x. Ok x in
    ap (map ok) pushed ∙ (map-append ok found (value ∷ []) ∙ (ap (λ (rs : List (Result A CodecError)). rs ++ Ok value ∷ []) so_far ∙ ap (λ (r : Result A CodecError). results ++ r ∷ []) (sym is)))

-- the result at a place is a refusal
pub made_lost : {A : Type 0} (results : List (Result A CodecError)) (n : ℕ) (result : Result A CodecError) (e : CodecError) → n < length results → result ≡ get_or results n result → result ≡ Err e → IsMadeRefusal results e
made_lost results n result e low here is = record { at_ = n; below = low; is = λ d. get_or_default results n d result low ∙ (sym here ∙ is) }

-- ---- answers

-- what is answered, where no source refused it
pub answered : {A : Type 0} (made : Result A CodecError → Type 0) (r : Result A CodecError) → refused_after 0 r ≡ 0 → made r → AnswersPiece made r
answered made (Ok value) none h = h
answered made (Err error.Source) none h = absurd (omega (arith, none))
answered made (Err error.Memory) none h = tt
answered made (Err e) none h = h

-- the same, of what is told by it
pub answers_as : {A : Type 0} (P Q : Result A CodecError → Type 0) (r : Result A CodecError) → ((x : Result A CodecError) → P x → Q x) → AnswersPiece P r → AnswersPiece Q r
answers_as P Q (Ok value) law h = law (Ok value) h
answers_as P Q (Err error.Source) law h = h
answers_as P Q (Err error.Memory) law h = tt
answers_as P Q (Err e) law h = law (Err e) h

-- decoding is refused by no source
pub decodes_unrefused : (array : Coded) (value : List ℕ) (r : Result ArrayBytes CodecError) → Decodes array value r → refused_after 0 r ≡ 0
decodes_unrefused array value (Ok bytes) h = refl
decodes_unrefused array value (Err error.Source) h = absurd h
decodes_unrefused array value (Err e) h = refl

-- what is decoded is listed, where the chain suits the array
pub decoded_listed : (array : Coded) (value : List ℕ) (r : Result ArrayBytes CodecError) → fits array.chain array.elements.type array.shape ≡ true → Decodes array value r → Lists array.elements array.shape (decoded array.chain array.elements array.shape value) r
decoded_listed array value (Ok bytes) fit h = record { cells = h.cells; is = h.is; lists = h.lists }
decoded_listed array value (Err error.Damage) fit h = h.1
decoded_listed array value (Err error.Size) fit h = h
decoded_listed array value (Err error.Memory) fit h = tt
decoded_listed array value (Err error.Fit) fit h = cc
decoded_listed array value (Err e) fit h = absurd h
