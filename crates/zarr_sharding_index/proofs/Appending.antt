-- A slice that was appended to a shard, and an index that wasn't written.
use Rattle.std.proofs.Common.{◌≡◌, ◌∙◌, ℕ, ◌+◌, List, [], ◌∷◌, length, ap, sym, append-nil, inr, subst, Option, Some, unwrap_or, Bool, false, Result, Ok, Err, OnOk}
use Rattle.zarr_codecs_meaning.specs.Chains.{Chain, Location}
use Rattle.zarr_codecs_meaning.specs.Encoding.{Pair}
use Rattle.zarr_codecs_meaning.specs.Standing.{index_layout}
use Rattle.zarr_codecs_arrays.specs.declared.error.CodecError.{CodecError}
use Rattle.zarr_codecs_arrays.specs.declared.error.CodecError.TheVariants as error
use Rattle.zarr_sharding_changes.specs.Changes.{Change}
use Rattle.zarr_sharding_index.specs.Stored.{IsIndexWritten, WritesIndex}
use Rattle.zarr_sharding_index.specs.Held.{are_absent, held_as, index_coding}
use Rattle.zarr_sharding_index.specs.Written.{ChangesRefused, IsAppended, with_slices}

-- one slice was appended, with the index of pairs
pub slice_appended : {A : Type 0} (result : Result A CodecError) (index : Chain) (exact : Bool) (location : Location) (shape : List ℕ) (number end : ℕ) (pairs : List Pair) (before after : Option (List ℕ)) (slice ix : List ℕ)
    → are_absent pairs ≡ false → IsIndexWritten index exact shape pairs ix → OnOk result (after ≡ Some (with_slices location end ix slice (unwrap_or before [])))
    → OnOk result (IsAppended (index_coding index exact location shape) ((number, Some slice) ∷ []) before end (held_as after pairs (end + length slice)))
slice_appended (Ok done) index exact location shape number end pairs before after slice ix some written is =
    let alone = sym (append-nil slice) in
    record {
      some = some;
      index_bytes = ix;
      written = written;
      is = is ∙ ap (λ (bytes : List ℕ). Some (with_slices location end ix bytes (unwrap_or before []))) alone;
      ends = ap (λ (bytes : List ℕ). end + length bytes) alone;
    }
slice_appended (Err e) index exact location shape number end pairs before after slice ix some written is = tt

-- a refused index of pairs, some of which are present
pub index_unwritten : (A : Type 0) (index : Chain) (exact : Bool) (location : Location) (shape : List ℕ) (changes : List Change) (end : ℕ) (pairs held : List Pair) (absent : Bool) (e : CodecError)
    → held ≡ pairs → absent ≡ are_absent held → absent ≡ false → WritesIndex index exact shape held (Err e) → ChangesRefused {A = A} (index_layout index location shape) changes end pairs (Err e)
index_unwritten A index exact location shape changes end pairs held absent e same absent_is some why =
    by_cause e (subst (λ (ps : List Pair). WritesIndex index exact shape ps (Err e)) same why) where
      present : are_absent pairs ≡ false
      present = ap are_absent (sym same) ∙ (sym absent_is ∙ some)

      by_cause : (cause : CodecError) → WritesIndex index exact shape pairs (Err cause) → ChangesRefused {A = A} (index_layout index location shape) changes end pairs (Err cause)
      by_cause error.Codec h = (present, h)
      by_cause error.Size h = inr (present, h)
      by_cause error.Memory h = tt
      by_cause cause h = absurd h
