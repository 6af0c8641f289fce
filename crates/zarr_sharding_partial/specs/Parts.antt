-- Elements read from the shard that a source holds.
use Rattle.std.specs.Prelude.{◌⊎◌, ℕ, List, [], length, Option, None, Some, unwrap_or, Result, Err}
use Rattle.zarr_codecs_meaning.specs.Payloads.{Payload}
use Rattle.zarr_codecs_arrays.specs.declared.array_bytes.ArrayBytes.{ArrayBytes}
use Rattle.zarr_codecs_arrays.specs.declared.error.CodecError.{CodecError}
use Rattle.zarr_codecs_traits.specs.Indexers.{Asked, numbers_asked}
use Rattle.zarr_codecs_traits.specs.Arrays.{coded}
use Rattle.zarr_codecs_traits.specs.Outcomes.{DecodesPart, IsPart}
use Rattle.zarr_sharding_codec.specs.BytesMet.{bytes_met}
use Rattle.zarr_sharding_partial.specs.Pairs.{stored_pairs}
use Rattle.zarr_sharding_partial.specs.Shards.{ShardOf, chain_of}

-- the elements at the places that are asked for, of what is stored, or why there are none
abbrev pub ReadsPart : ShardOf → Option (List ℕ) → Asked → Result ArrayBytes CodecError → Type 0
ReadsPart s contents asked result = DecodesPart (coded (chain_of s) s.elements s.shape) contents asked result

-- the elements at the places that are asked for, of what is stored
abbrev pub GivesPart : ShardOf → Option (List ℕ) → Asked → Payload → Type 0
GivesPart s contents asked payload = IsPart (coded (chain_of s) s.elements s.shape) contents asked payload

-- how many bytes the slices have of the subchunks that the places lie in, of what is stored: each slice is counted once
abbrev pub slices_met : ShardOf → Option (List ℕ) → Asked → ℕ
slices_met s None asked = 0
slices_met s (Some value) asked = bytes_met s.shape s.subchunk (numbers_asked s.shape asked) (unwrap_or (stored_pairs s value) []) (length value)

-- the elements at the places that are asked for were put over those of a target
pub record IsPartInto (s : ShardOf) (contents : Option (List ℕ)) (asked : Asked) (puts : Payload → Type 0) : Type 0 where
  pub payload : Payload
  pub is : GivesPart s contents asked payload
  pub put : puts payload

-- why elements are not put over those of a target: they are not read, or the target refuses them
abbrev pub NotPartInto : ShardOf → Option (List ℕ) → Asked → (Payload → CodecError → Type 0) → CodecError → Type 0
NotPartInto s contents asked misfits e = ReadsPart s contents asked (Err e) ⊎ ((payload : Payload) × GivesPart s contents asked payload × misfits payload e)
