-- What is left of codecs, after some of them.
use Rattle.std.proofs.Common.{◌≡◌, ◌∙◌, ℕ, ◌+◌, ◌<◌, zero, suc, List, [], ◌∷◌, length, drop, get_or, map, ap, sym, Some, None, option_and_then, Err}
use Rattle.std.proofs.lemmas.List.{drop_more}
use Rattle.zarr_codecs_meaning.specs.Chains.{ByteCodec}
use Rattle.zarr_codecs_arrays.specs.declared.error.CodecError.{CodecError}
use Rattle.zarr_codecs_arrays.specs.declared.error.CodecError.TheVariants as error
use Rattle.zarr_codecs_traits.specs.Outcomes.{UndoesBytes}
use Rattle.zarr_codecs_around.specs.Codecs.{all_decoded}

-- the first of what is left
pub left_at : {X : Type 0} (xs : List X) (x : X) (m n : ℕ) → n ≡ m + 1 → m < length xs → x ≡ get_or xs m x → drop m xs ≡ x ∷ drop n xs
left_at xs x m n next low at = drop_more xs m x low ∙ (ap (λ y. y ∷ drop (m + 1) xs) (sym at) ∙ ap (λ k. x ∷ drop k xs) (sym next))

-- bytes that the last codecs do not undo are not undone
undone_by_last : {B : Type 0} (meaning : B → ByteCodec) (codecs : List B) (n : ℕ) (bytes : List ℕ) → all_decoded (map meaning (drop n codecs)) bytes ≡ None → all_decoded (map meaning codecs) bytes ≡ None
undone_by_last meaning codecs zero bytes h = h
undone_by_last meaning [] (suc n) bytes h = h
undone_by_last meaning (codec ∷ codecs) (suc n) bytes h = ap (option_and_then (meaning codec).decode) (undone_by_last meaning codecs n bytes h)

-- nor are those whose undoing a codec before these refuses
pub refused_before : {B : Type 0} (meaning : B → ByteCodec) (codecs : List B) (codec : B) (m n : ℕ) (bytes inside : List ℕ) (e : CodecError) → n ≡ m + 1 → m < length codecs → codec ≡ get_or codecs m codec
    → all_decoded (map meaning (drop n codecs)) bytes ≡ Some inside → UndoesBytes (meaning codec).decode inside (Err e) → UndoesBytes (all_decoded (map meaning codecs)) bytes (Err e)
refused_before meaning codecs codec m n bytes inside error.Damage next low at undone h =
    undone_by_last meaning codecs m bytes (ap (λ cs. all_decoded (map meaning cs) bytes) (left_at codecs codec m n next low at) ∙ (ap (option_and_then (meaning codec).decode) undone ∙ h))
refused_before meaning codecs codec m n bytes inside error.Memory next low at undone h = tt
refused_before meaning codecs codec m n bytes inside e next low at undone h = absurd h
