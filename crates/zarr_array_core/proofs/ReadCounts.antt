-- The count of refused store calls after a read.
use Rattle.std.proofs.Common.{◌≡◌, ◌⊎◌, ℕ, refl, subst, sym, Option, Some, None, Result, Ok, Err, inl, inr}
use Rattle.std.specs.Prelude.{IfErr}
use Rattle.std.specs.Result.{IsErrAnd}
use Rattle.zarr_array_meaning.specs.StoreMaps.{counted}
use Rattle.zarr_array_storage.specs.declared.traits.ReadableStorageTraits as stores
use Rattle.zarr_array_core.specs.Fetching.{CountsUntil, IsOfDecoding, OnlyRead}
use Rattle.zarr_array_core.specs.Outcomes.{CountsRead, CountsStop}
use Rattle.zarr_array_core.specs.declared.error.ChunkError.{ChunkError}
use Rattle.zarr_array_core.specs.declared.error.ChunkError.TheVariants as error

-- ---- an error that a call passes on

pub err_is : {A : Type 0} (result : Result A ChunkError) (e : ChunkError) (causes : ChunkError → Type 0) → IsErrAnd result (λ k. k ≡ e) → causes e → IsErrAnd result causes
err_is (Ok value) e causes h is = absurd h
err_is (Err k) e causes h is = subst causes (sym h) is

pub if_err_is : {A : Type 0} (result : Result A ChunkError) (e : ChunkError) (causes : ChunkError → Type 0) → IsErrAnd result (λ k. k ≡ e) → causes e → IfErr result causes
if_err_is (Ok value) e causes h is = tt
if_err_is (Err k) e causes h is = subst causes (sym h) is

pub passed_counts : {A : Type 0} (result : Result A ChunkError) (e : ChunkError) (before mid after : ℕ) → IsErrAnd result (λ k. k ≡ e) → mid ≡ before → CountsStop e mid after → CountsRead result before after
passed_counts (Ok value) e before mid after h same counts = absurd h
passed_counts (Err k) e before mid after h same counts = subst (λ (k : ChunkError). CountsStop k before after) (sym h) (subst (λ (n : ℕ). CountsStop e n after) same counts)

-- for want of memory
pub memory_passed : {A : Type 0} (result : Result A ChunkError) (e : ChunkError) (before after : ℕ) → IsErrAnd result (λ k. k ≡ e) → e ≡ error.Memory → after ≡ before → CountsRead result before after
memory_passed result e before after h memory same = passed_counts result e before before after h refl (subst (λ (k : ChunkError). CountsStop k before after) (sym memory) (inl same))

-- ---- a store that was only read

-- fetching ended before a chunk, and nothing else came first
pub only_read_until : {S : Type 0} (A : Type 0) (s : stores.Ghosts S) (old new : S) (stopped : Option ChunkError) (e : ChunkError) → stopped ≡ Some e → OnlyRead s old new (CountsUntil stopped) → OnlyRead s old new (CountsRead {A = A} (Err e))
only_read_until A s old new stopped e is read =
    let counts : CountsStop e (s.refused_calls old) (s.refused_calls new) = subst (λ (o : Option ChunkError). CountsUntil o (s.refused_calls old) (s.refused_calls new)) is read.refused in
    record { held = read.held; honest = read.honest; refused = counts; accepted = read.accepted }

-- all chunks were fetched
pub only_read_all : {S A : Type 0} (s : stores.Ghosts S) (old new : S) (stopped : Option ChunkError) (value : A) → stopped ≡ None → OnlyRead s old new (CountsUntil stopped) → OnlyRead s old new (CountsRead (Ok value))
only_read_all s old new stopped value is read =
    let counts : s.refused_calls new ≡ s.refused_calls old = subst (λ (o : Option ChunkError). CountsUntil o (s.refused_calls old) (s.refused_calls new)) is read.refused in
    record { held = read.held; honest = read.honest; refused = counts; accepted = read.accepted }

one_or_none : (stopped : Option ChunkError) (before after : ℕ) → CountsUntil stopped before after → (after ≡ before) ⊎ (after ≡ counted before 1)
one_or_none None before after is = inl is
one_or_none (Some (error.Storage e)) before after is = inr is
one_or_none (Some e) before after is = is

counts_before : (stopped : Option ChunkError) (e : ChunkError) (before after : ℕ) → CountsUntil stopped before after → IsOfDecoding e → CountsStop e before after
counts_before stopped error.Fit before after is h = one_or_none stopped before after is
counts_before stopped error.Damage before after is h = one_or_none stopped before after is
counts_before stopped error.Memory before after is h = one_or_none stopped before after is
counts_before stopped e before after is h = absurd h

-- what was found of a chunk comes before the one that fetching ended before
pub only_read_before : {S A : Type 0} (s : stores.Ghosts S) (old new : S) (stopped : Option ChunkError) (result : Result A ChunkError) → OnlyRead s old new (CountsUntil stopped) → IsErrAnd result IsOfDecoding → OnlyRead s old new (CountsRead result)
only_read_before s old new stopped (Ok value) read h = absurd h
only_read_before s old new stopped (Err e) read h =
    record { held = read.held; honest = read.honest; refused = counts_before stopped e (s.refused_calls old) (s.refused_calls new) read.refused h; accepted = read.accepted }
