-- What a store gives.
use Rattle.std.specs.Prelude.{◌≡◌, ℕ, List, Vec, Option, Some, option_map, length, sum_by, true}
use Rattle.std.specs.FinMap.{get}
use Rattle.std.specs.Option.{option_map_or}
use Rattle.std.specs.declared.alloc.Global.{Global}
use Rattle.zarr_array_meaning.specs.StoreMaps.{StoreMap}
use Rattle.zarr_codecs_meaning.specs.Types.{are_bytes}
use Rattle.zarr_codecs_traits.specs.Sources.{part_bytes}

-- the bytes of a value that a store gave, if it gave one
abbrev pub value_bytes : Option (Vec ℕ Global) → Option (List ℕ)
value_bytes found = option_map (λ (value : Vec ℕ Global). value.items) found

-- the bytes of each part of a value that a store gave, if it gave any
abbrev pub parts_bytes : Option (Vec (Vec ℕ Global) Global) → Option (List (List ℕ))
parts_bytes found = option_map (λ (parts : Vec (Vec ℕ Global) Global). part_bytes parts.items) found

-- how many bytes a value has, or 0 where there is none
abbrev pub value_size : Option (Vec ℕ Global) → ℕ
value_size found = option_map_or length (value_bytes found) 0

-- how many bytes the parts of a value have together, or 0 where there are none
abbrev pub parts_size : Option (Vec (Vec ℕ Global) Global) → ℕ
parts_size found = option_map_or (λ parts. sum_by length parts) (parts_bytes found) 0

-- the value at a key, if there is one, consists of bytes
abbrev pub HasBytesAt : StoreMap → List ℕ → Type 0
HasBytesAt held key = (value : List ℕ) → get held key ≡ Some value → are_bytes value ≡ true
