-- What a store's refusals are to a codec.
use Rattle.std.proofs.Common.{◌≡◌, ℕ, List, Option, Err, IsTrue, refl, arith}
use Rattle.zarr_array_meaning.specs.StoreMaps.{counted}
use Rattle.zarr_codecs_traits.specs.Sources as source
use Rattle.zarr_codecs_traits.specs.declared.byte_range.ByteRange.{ByteRange}
use Rattle.zarr_array_storage.specs.PartialDecoders.{misplaced_after, source_error, whole_error}
use Rattle.zarr_array_storage.specs.Refusals.{IfByteRange, refused_after}
use Rattle.zarr_array_storage.specs.declared.error.StorageError.{StorageError}
use Rattle.zarr_array_storage.specs.declared.error.StorageError.TheVariants.{Io, InvalidMetadata, InvalidKey, InvalidByteRange, Other, Memory}

-- the refusals that count are those of the source
pub source_counts : (A B : Type 0) (e : StorageError) (count : ℕ) → refused_after {A = A} count (Err e) ≡ source.refused_after {A = B} count (Err (source_error e))
source_counts A B Io count = refl
source_counts A B (InvalidMetadata key text) count = refl
source_counts A B InvalidKey count = refl
source_counts A B InvalidByteRange count = refl
source_counts A B (Other text) count = refl
source_counts A B Memory count = refl

-- the same of calls that name no range, with what counts only where it is kept
pub whole_counts : (A B : Type 0) (e : StorageError) (kept count : ℕ) → counted (misplaced_after kept e) (refused_after {A = A} count (Err e)) ≡ source.refused_after {A = B} (counted kept count) (Err (whole_error e))
whole_counts A B Io kept count = omega arith
whole_counts A B (InvalidMetadata key text) kept count = omega arith
whole_counts A B InvalidKey kept count = omega arith
whole_counts A B InvalidByteRange kept count = omega arith
whole_counts A B (Other text) kept count = omega arith
whole_counts A B Memory kept count = refl

-- a value isn't read or written where a store refuses
pub whole_refused : (A : Type 0) (e : StorageError) → source.ReadRefused {A = A} (Err (whole_error e))
whole_refused A Io = tt
whole_refused A (InvalidMetadata key text) = tt
whole_refused A InvalidKey = tt
whole_refused A InvalidByteRange = tt
whole_refused A (Other text) = tt
whole_refused A Memory = tt

-- a source isn't read where no byte range is refused
pub source_refused : (A : Type 0) (e : StorageError) → IfByteRange e ⊥ → source.ReadRefused {A = A} (Err (source_error e))
source_refused A Io none = tt
source_refused A (InvalidMetadata key text) none = tt
source_refused A InvalidKey none = tt
source_refused A InvalidByteRange none = none
source_refused A (Other text) none = tt
source_refused A Memory none = tt

-- ranges aren't read where one ends past the end, or the source isn't read
pub ranges_refused : (A : Type 0) (contents : Option (List ℕ)) (ranges : List ByteRange) (e : StorageError) → IfByteRange e (IsTrue (source.any_past_end contents ranges)) → source.RangesRefused {A = A} contents ranges (Err (source_error e))
ranges_refused A contents ranges Io past = tt
ranges_refused A contents ranges (InvalidMetadata key text) past = tt
ranges_refused A contents ranges InvalidKey past = tt
ranges_refused A contents ranges InvalidByteRange past = past
ranges_refused A contents ranges (Other text) past = tt
ranges_refused A contents ranges Memory past = tt
