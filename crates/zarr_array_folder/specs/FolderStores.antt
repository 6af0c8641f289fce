-- The store of files below a folder: what it counts, and which calls it refuses by their key.
use Rattle.std.specs.Prelude.{◌≡◌, ◌≢◌, ◌↔◌, ℕ, List, false, Result, Err}
use Rattle.zarr_array_storage.specs.Calls as call
use Rattle.zarr_array_storage.specs.Calls.{Call}
use Rattle.zarr_array_storage.specs.declared.error.StorageError.{StorageError}
use Rattle.zarr_array_storage.specs.declared.error.StorageError.TheVariants.{InvalidKey}
use Rattle.zarr_array_folder.specs.FileKeys.{is_file_key}
use Rattle.zarr_array_folder.specs.declared.folder_store.FolderStore.{FolderStore}

-- how many calls a store refused
abbrev pub refused_by : {R File Dir : Type 0} → FolderStore R File Dir → ℕ
refused_by store = store.refused

-- how many bytes a store gave
abbrev pub given_by : {R File Dir : Type 0} → FolderStore R File Dir → ℕ
given_by store = store.given

-- how many writing calls a store accepted
abbrev pub accepted_by : {R File Dir : Type 0} → FolderStore R File Dir → ℕ
accepted_by store = store.accepted

-- a call is refused with `InvalidKey` exactly where its key isn't the path of a file below the folder
abbrev pub RefusesKey : {A : Type 0} → List ℕ → Result A StorageError → Type 0
RefusesKey key answer = (answer ≡ Err InvalidKey) ↔ (is_file_key key ≡ false)

-- each call that names a key is refused with `InvalidKey` exactly where that key isn't the path of a file below the folder, and a list of keys never is
abbrev pub RefusesKeys : Call → Type 0
RefusesKeys (call.get key answer) = RefusesKey key answer
RefusesKeys (call.get_partial key ranges answer) = RefusesKey key answer
RefusesKeys (call.size_key key answer) = RefusesKey key answer
RefusesKeys (call.list answer) = answer ≢ Err InvalidKey
RefusesKeys (call.set key value answer) = RefusesKey key answer
RefusesKeys (call.set_partial key patches answer) = RefusesKey key answer
RefusesKeys (call.erase key answer) = RefusesKey key answer
