-- The store in memory.
use Rattle.std.specs.Prelude.{◌≡◌, ℕ, List, true, false, refl}
use Rattle.std.specs.FinMap as fin
use Rattle.std.specs.Coded.{Coded, code_by, coded×, coded_ℕ, coded_list}
use Rattle.zarr_array_meaning.specs.StoreMaps.{StoreMap}
use Rattle.zarr_grids_keys.specs.Paths.{ends_with_slash}

-- what a store in memory holds, how many writing calls it accepted, and how many bytes its reading calls gave
pub record MemoryState : Type 0 where
  pub held : StoreMap
  pub accepted : ℕ
  pub given : ℕ

-- the state as one value, which is equal to another only where all three are
abbrev pub memory_code : Coded MemoryState
memory_code = code_by (StoreMap × (ℕ × ℕ)) (coded× (fin.code (coded_list coded_ℕ) (coded_list coded_ℕ)) (coded× coded_ℕ coded_ℕ)) (λ s. (s.held, (s.accepted, s.given))) (λ p. record { held = p.0; accepted = p.1.0; given = p.1.1 }) (λ _. refl)

-- no key that is held ends with a slash
abbrev pub HasStoreKeys : StoreMap → Type 0
HasStoreKeys held = (key : List ℕ) → fin.contains_key held key ≡ true → ends_with_slash key ≡ false
