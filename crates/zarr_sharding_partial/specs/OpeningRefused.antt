-- Why a shard isn't opened for writing.
use Rattle.std.specs.Prelude.{◌≡◌, ◌⊎◌, ℕ, ◌^◌, ◌≤◌, List, Option, true, false, Err}
use Rattle.zarr_grids_boxes.specs.Boxes.{product}
use Rattle.zarr_codecs_arrays.specs.declared.error.CodecError.{CodecError}
use Rattle.zarr_codecs_arrays.specs.declared.error.CodecError.TheVariants as error
use Rattle.zarr_codecs_meaning.specs.Fits.{fits}
use Rattle.zarr_codecs_meaning.specs.Places.{index_shape}
use Rattle.zarr_codecs_traits.specs.Sources.{refused_after}
use Rattle.zarr_sharding_partial.specs.Shards.{ShardOf, chain_of}
use Rattle.zarr_sharding_index.specs.Opened.{OpenRefused}

-- why the shard that a source holds isn't opened: the codec doesn't suit the array, the value is no shard whose present slices lie in its data part, the array or the value is too large, or the source refuses
abbrev pub NotOpenedToWrite : ShardOf → Option (List ℕ) → CodecError → Type 0
NotOpenedToWrite s contents error.Fit = fits (chain_of s) s.elements.type s.shape ≡ false
NotOpenedToWrite s contents error.Damage = (fits (chain_of s) s.elements.type s.shape ≡ true) × OpenRefused s.index s.location (index_shape s.shape s.subchunk) contents error.Damage
NotOpenedToWrite s contents error.Size = (fits (chain_of s) s.elements.type s.shape ≡ true) × ((2 ^ 63 ≤ product s.shape) ⊎ OpenRefused s.index s.location (index_shape s.shape s.subchunk) contents error.Size)
NotOpenedToWrite s contents error.Source = Unit {0}
NotOpenedToWrite s contents error.Memory = Unit {0}
NotOpenedToWrite s contents e = ⊥

-- the count of refused calls after a source was given back with an error
abbrev pub refused_by : ℕ → CodecError → ℕ
refused_by count e = refused_after {A = Unit {0}} count (Err e)
