-- Arrays as the calls over them see them, and what a call leaves of a store.
use Rattle.std.specs.Prelude.{ℕ, IsTrue, OnOk, IfErr, Result, Ok, Err}
use Rattle.zarr_codecs_traits.specs.declared.array_to_bytes.ArrayToBytesCodecTraits as codecs
use Rattle.zarr_array_meaning.specs.Arrays.{Array}
use Rattle.zarr_array_meaning.specs.StoreMaps.{StoreMap}
use Rattle.zarr_array_storage.specs.declared.traits.ReadableStorageTraits as stores
use Rattle.zarr_array_core.specs.Calls.{Calls, KeptAtErr, calls_done}
use Rattle.zarr_array_core.specs.Outcomes.{refused_after, refused_by_many}
use Rattle.zarr_array_core.specs.Views.{document_of, is_exact, path_of}
use Rattle.zarr_array_core.specs.declared.array_core.ArrayCore.{ArrayCore}
use Rattle.zarr_array_core.specs.declared.error.ChunkError.{ChunkError}
use Rattle.zarr_array_core.specs.declared.error.ManyError.{ManyError}

-- the array that an `ArrayCore` is, given what its codecs mean
abbrev pub array_of : {C : Type 0} → codecs.Ghosts C → ArrayCore C → Array
array_of c array = record { path = path_of array; document = document_of c.meaning array; exact = is_exact c.is_function array }

-- what an honest store holds after a call that gave a value, by what it held before
abbrev pub OnHonestOk : {S A E : Type 0} → stores.Ghosts S → S → S → Result A E → (StoreMap → StoreMap → Type 0) → Type 0
OnHonestOk s old new result relates = IsTrue (s.is_honest old) → OnOk result (relates (s.held old) (s.held new))

-- what it holds after a call that gave an error
abbrev pub IfHonestErr : {S A E : Type 0} → stores.Ghosts S → S → S → Result A E → (E → StoreMap → StoreMap → Type 0) → Type 0
IfHonestErr s old new result relates = IsTrue (s.is_honest old) → IfErr result (λ e. relates e (s.held old) (s.held new))

-- calls of a store were made for one chunk, of which the last may have been refused: its refusal is counted, at most n writing calls are accepted, and an error accepts none and changes nothing
abbrev pub Called : {S A : Type 0} → stores.Ghosts S → ℕ → S → S → Result A ChunkError → Type 0
Called s n old new result = Calls s old new (refused_after (s.refused_calls old) result) (calls_done n result) × KeptAtErr s old new result

-- of so many chunks the call went through all, or through those before its error
abbrev pub chunks_done : {A : Type 0} → ℕ → Result A ManyError → ℕ
chunks_done many (Ok x) = many
chunks_done many (Err stopped) = stopped.applied

-- calls of a store were made over n chunks: in all, at most as many writing calls are accepted as the call went through chunks
abbrev pub CalledMany : {S A : Type 0} → stores.Ghosts S → ℕ → S → S → Result A ManyError → Type 0
CalledMany s n old new result = Calls s old new (refused_by_many (s.refused_calls old) result) (chunks_done n result)
