-- What a store holds for the chunks of an array.
use Rattle.std.specs.Prelude.{◌≡◌, ◌≢◌, ◌-◌, ℕ, List, [], ◌∷◌, Some, Option, Bool, ◌&&◌, nat_le, ◌+◌, true, bytes_eq, slice_get}
use Rattle.std.specs.List.{list_any}
use Rattle.std.specs.FinMap.{get}
use Rattle.zarr_grids_boxes.specs.Boxes.{Region, each2, ravel}
use Rattle.zarr_grids_chunks.specs.Grids.{Grid, chunk_box, intersecting}
use Rattle.zarr_grids_keys.specs.Keys.{chunk_key}
use Rattle.zarr_codecs_meaning.specs.Types.{Cell}
use Rattle.zarr_codecs_meaning.specs.Fits.{fits}
use Rattle.zarr_codecs_meaning.specs.Chunks.{chunk_decoded, chunk_part}
use Rattle.zarr_array_meaning.specs.Documents.{Document}
use Rattle.zarr_array_meaning.specs.StoreMaps.{StoreMap}

-- the number that a place has in a box
abbrev pub number_in : Region → List ℕ → ℕ
number_in box place = ravel (each2 (λ p s. p - s) place box.start) box.shape

-- what is stored for a chunk
abbrev pub stored_at : List ℕ → Document → StoreMap → List ℕ → Option (List ℕ)
stored_at path document store chunk = get store (chunk_key path document.keys chunk)

-- whether the chain fits a chunk with this box
abbrev pub fits_box : Document → Region → Bool
fits_box document box = fits document.chain document.elements.type box.shape

-- the cells that what is stored for a chunk with this box is decoded to, row-major
abbrev pub decoded_in : Document → Region → Option (List ℕ) → Option (List Cell)
decoded_in document box stored = chunk_decoded document.chain document.elements box.shape stored

-- what is read at one place of a chunk of what is stored for it: nothing where that part is damaged, else one cell
abbrev pub part_at : Document → Region → Option (List ℕ) → List ℕ → Option (List Cell)
part_at document box stored place = chunk_part document.chain document.elements box.shape stored (number_in box place ∷ [])

-- a place of a chunk is read as this cell
abbrev pub ReadsCell : Document → Region → Option (List ℕ) → List ℕ → Cell → Type 0
ReadsCell document box stored place cell = part_at document box stored place ≡ Some (cell ∷ [])

-- the chunk at a place among those that a box intersects, and its box
pub record IsNthIntersecting (grid : Grid) (region : Region) (n : ℕ) (chunk : List ℕ) (box : Region) : Type 0 where
  pub listed : slice_get (intersecting grid region) n ≡ Some chunk
  pub has_box : chunk_box grid chunk ≡ Some box

-- whether the second of two boxes of one number of dimensions lies in the first
abbrev pub contains_box : List ℕ → List ℕ → List ℕ → List ℕ → Bool
contains_box (s ∷ ss) (x ∷ xs) (t ∷ ts) (u ∷ us) = nat_le s t && (nat_le (t + u) (s + x) && contains_box ss xs ts us)
contains_box [] xs ts us = true
contains_box (s ∷ ss) [] ts us = true
contains_box (s ∷ ss) (x ∷ xs) [] us = true
contains_box (s ∷ ss) (x ∷ xs) (t ∷ ts) [] = true

-- whether a box holds the whole of another one
abbrev pub holds_box : Region → Region → Bool
holds_box region box = contains_box region.start region.shape box.start box.shape

-- whether a chunk is one of these
abbrev pub is_listed : List (List ℕ) → List ℕ → Bool
is_listed chunks chunk = list_any (bytes_eq chunk) chunks

-- no key but those of these chunks of an array changed
abbrev pub KeepsOtherKeys : List ℕ → Document → List (List ℕ) → StoreMap → StoreMap → Type 0
KeepsOtherKeys path document chunks old new = (key : List ℕ) → ((chunk : List ℕ) → is_listed chunks chunk ≡ true → key ≢ chunk_key path document.keys chunk) → get new key ≡ get old key
