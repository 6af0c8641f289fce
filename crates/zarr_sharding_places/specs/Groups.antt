-- Places of one subchunk that stand side by side.
use Rattle.std.specs.Prelude.{◌≡◌, ◌≢◌, ◌==◌, ℕ, ◌<◌, List, length, get_or}
use Rattle.std.specs.List.{filter}
use Rattle.zarr_sharding_places.specs.declared.locating.AskedPlace.{AskedPlace}

-- no place
abbrev pub no_place : AskedPlace
no_place = record { subchunk = 0; inside = 0; position = 0 }

-- places lie in one subchunk, that of the first one
abbrev pub IsGroup : List AskedPlace → Type 0
IsGroup places = (m : ℕ) → m < length places → (get_or places m no_place).subchunk ≡ (get_or places 0 no_place).subchunk

-- the places of one subchunk, in their order
abbrev pub places_in : ℕ → List AskedPlace → List AskedPlace
places_in k places = filter (λ (place : AskedPlace). place.subchunk == k) places

-- places that follow others lie, if there are any, not all in the subchunk of those: the first one doesn't
abbrev pub StartsAnother : List AskedPlace → List AskedPlace → Type 0
StartsAnother group others = 0 < length others → (get_or others 0 no_place).subchunk ≢ (get_or group 0 no_place).subchunk
