-- Refused calls, where elements are read and put into a target.
use Rattle.std.proofs.Common.{◌≡◌, ℕ, inl, inr, Result, Ok, Err}
use Rattle.std.specs.Prelude.{IfErr}
use Rattle.zarr_codecs_meaning.specs.Payloads.{Payload}
use Rattle.zarr_codecs_arrays.specs.declared.error.CodecError.{CodecError}
use Rattle.zarr_codecs_arrays.specs.declared.error.CodecError.TheVariants as error
use Rattle.zarr_codecs_traits.specs.Sources.{CountsRead, IsRefusedAfter}

-- nothing was read
pub unread_refused : (A B : Type 0) (reads : Payload → Type 0) (misfits : Payload → CodecError → Type 0) (count after : ℕ) (e : CodecError) → CountsRead {A = A} count (Err e) after → IsRefusedAfter {A = B} reads misfits count (Err e) after
unread_refused A B reads misfits count after error.Source h = inl h
unread_refused A B reads misfits count after e h = inl h

-- elements were read, and the target took them or not
pub put_refused : {A : Type 0} (reads : Payload → Type 0) (misfits : Payload → CodecError → Type 0) (count after : ℕ) (payload : Payload) (result : Result A CodecError) → after ≡ count → reads payload → IfErr result (misfits payload)
    → IsRefusedAfter reads misfits count result after
put_refused reads misfits count after payload (Ok value) still read why = inl still
put_refused reads misfits count after payload (Err e) still read why = inr (still, (payload, read, why))
