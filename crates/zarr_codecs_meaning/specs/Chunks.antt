-- What is stored for a chunk: how it is read, and which cells it stands for.
use Rattle.std.specs.Prelude.{◌≡◌, ℕ, List, map, replicate, Option, Some, None, true, MatchBool}
use Rattle.zarr_grids_boxes.specs.Boxes.{product}
use Rattle.zarr_codecs_meaning.specs.Types.{Cell, is_fill, Elements}
use Rattle.zarr_codecs_meaning.specs.Chains.{Chain}
use Rattle.zarr_codecs_meaning.specs.Fits.{fits}
use Rattle.zarr_codecs_meaning.specs.Decoding.{decoded, part_decoded}
use Rattle.zarr_codecs_meaning.specs.Standing.{ChunkStands}

-- the cells of a chunk: the fill value everywhere where nothing is stored, else what the value is decoded to
abbrev pub chunk_decoded : Chain → Elements → List ℕ → Option (List ℕ) → Option (List Cell)
chunk_decoded chain elements shape None = Some (replicate (product shape) elements.fill)
chunk_decoded chain elements shape (Some value) = decoded chain elements shape value

-- the cells at some places of a chunk, in their order
abbrev pub chunk_part : Chain → Elements → List ℕ → Option (List ℕ) → List ℕ → Option (List Cell)
chunk_part chain elements shape None places = Some (map (λ place. elements.fill) places)
chunk_part chain elements shape (Some value) places = part_decoded chain elements shape value places

-- what is stored for a chunk stands for its cells; a chunk that the chain does not fit has no value, and is all fill
abbrev pub IsStored : Chain → Elements → List ℕ → Option (List ℕ) → List Cell → Type 0
IsStored chain elements shape stored cells = MatchBool (fits chain elements.type shape) (ChunkStands chain elements shape stored cells) ((stored ≡ None) × (is_fill elements.fill cells ≡ true))
