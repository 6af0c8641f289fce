-- What a read of a box depends on.
use Rattle.std.specs.Prelude.{◌≡◌, ◌↔◌, ℕ, List, [], ◌∷◌, Option, Some}
use Rattle.zarr_grids_boxes.specs.Boxes.{Region}
use Rattle.zarr_codecs_meaning.specs.Chains.{Chain}
use Rattle.zarr_codecs_meaning.specs.Chains.Chain.{sharded}
use Rattle.zarr_codecs_meaning.specs.Types.{Cell}
use Rattle.zarr_sharding_values.specs.Local.{AreSameFor}
use Rattle.zarr_array_meaning.specs.Boxes.{IsDamagedIn, IsPlaceOf, IsRead, IsUnfitIn}
use Rattle.zarr_array_meaning.specs.Chunks.{number_in, stored_at}
use Rattle.zarr_array_meaning.specs.Documents.{Document}
use Rattle.zarr_array_meaning.specs.StoreMaps.{StoreMap}

-- what two stores hold for a chunk is alike where a read of the place with this number looks: of a shard that stands alone, the length, the index and the slice that the place lies in are the same; otherwise both hold the same value, or none
abbrev pub AreAlikeAt : Chain → List ℕ → ℕ → Option (List ℕ) → Option (List ℕ) → Type 0
AreAlikeAt (sharded subchunk inner index location) shape n (Some value) (Some other) = AreSameFor (record { subchunk = subchunk; index = index; location = location; shape = shape; numbers = n ∷ [] }) value other
AreAlikeAt chain shape n stored other = other ≡ stored

-- two stores are alike where a read of a region of an array looks, at each of its places
abbrev pub AreAlikeFor : List ℕ → Document → Region → StoreMap → StoreMap → Type 0
AreAlikeFor path document region store other = (chunk : List ℕ) (box : Region) (place : List ℕ) → IsPlaceOf document region chunk box place
    → AreAlikeAt document.chain box.shape (number_in box place) (stored_at path document store chunk) (stored_at path document other chunk)

-- a read of a box depends on these bytes alone: over two stores that are alike where it looks, it gives the same cells, or stops in both at a damaged chunk, or in both at one that doesn't fit
abbrev pub ReadsAreLocal : Type 0
ReadsAreLocal = (path : List ℕ) (document : Document) (region : Region) (store other : StoreMap) (cells : List Cell) → AreAlikeFor path document region store other
    → (IsRead path document store region cells ↔ IsRead path document other region cells)
    × (IsDamagedIn path document store region ↔ IsDamagedIn path document other region) × (IsUnfitIn path document store region ↔ IsUnfitIn path document other region)
