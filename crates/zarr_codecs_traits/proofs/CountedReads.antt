-- Refused calls, where a value is read in pieces.
use Rattle.std.proofs.Common.{◌≡◌, ◌∙◌, ℕ, ap, inl, inr, refl, Option, None, Some, Result, Ok, Err}
use Rattle.zarr_codecs_arrays.specs.declared.error.CodecError.{CodecError}
use Rattle.zarr_codecs_arrays.specs.declared.error.CodecError.TheVariants as error
use Rattle.zarr_codecs_traits.specs.Pieces.{IsStoppedBy, refused_by_pieces}
use Rattle.zarr_codecs_traits.specs.Sources.{CountsRead, refused_after}

-- a refusal is counted as it is told
pub refusal_counted : (A B : Type 0) (count after : ℕ) (e : CodecError) → after ≡ refused_after {A = A} count (Err e) → CountsRead {A = B} count (Err e) after
refusal_counted A B count after error.Source is = is
refusal_counted A B count after e is = inl is

pub read_counted : {A : Type 0} (count after : ℕ) (r : Result A CodecError) → after ≡ refused_after count r → CountsRead count r after
read_counted count after (Ok value) is = is
read_counted {A} count after (Err e) is = refusal_counted A A count after e is

-- a refusal other than the source's, where the source may have refused a piece
pub other_counted : (A : Type 0) (count after : ℕ) (stopped : Option CodecError) (e : CodecError) → (e ≡ error.Source → ⊥) → after ≡ refused_by_pieces count stopped → CountsRead {A = A} count (Err e) after
other_counted A count after None error.Source not is = absurd (not refl)
other_counted A count after (Some e) error.Source not is = absurd (not refl)
other_counted A count after None e not is = inl is
other_counted A count after (Some error.Source) e not is = inr is
other_counted A count after (Some other) e not is = inl is

-- want of memory, where the source may have refused a piece
pub stopped_counted : (A : Type 0) (count after : ℕ) (stopped : Option CodecError) → after ≡ refused_by_pieces count stopped → CountsRead {A = A} count (Err error.Memory) after
stopped_counted A count after None is = inl is
stopped_counted A count after (Some error.Source) is = inr is
stopped_counted A count after (Some other) is = inl is

pub pieces_counted : {A : Type 0} (count after : ℕ) (stopped : Option CodecError) (r : Result A CodecError) → after ≡ refused_by_pieces count stopped → IsStoppedBy stopped r → CountsRead count r after
pieces_counted count after stopped (Ok value) is none = is ∙ ap (refused_by_pieces count) none
pieces_counted count after stopped (Err error.Source) is source = is ∙ ap (refused_by_pieces count) source
pieces_counted {A} count after stopped (Err e) is h = other_counted A count after stopped e (λ same. cc) is
