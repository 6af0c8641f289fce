-- Laws of what is read of a shard.
use Rattle.std.specs.Prelude.{◌≡◌, ℕ, List, get_or, true, nat_lt}
use Rattle.std.specs.List.{list_all}
use Rattle.zarr_grids_boxes.specs.Boxes.{product}
use Rattle.zarr_codecs_meaning.specs.Decoding.{part_decoded, slice_at}
use Rattle.zarr_codecs_meaning.specs.Encoding.{Pair, absent_pair}
use Rattle.zarr_codecs_meaning.specs.Fits.{fits}
use Rattle.zarr_codecs_meaning.specs.Places.{index_shape}
use Rattle.zarr_sharding_codec.specs.BytesMet.{is_met}
use Rattle.zarr_sharding_index.specs.HeldIndex.{IsIndexHeld}
use Rattle.zarr_sharding_partial.specs.Shards.{ShardOf, chain_of}

-- two values whose indexes say the same pairs have the same slices of the subchunks that places lie in: where a pair ends past the end of one, it does so in both
pub record MeetAlike (s : ShardOf) (numbers value other : List ℕ) : Type 0 where
  pub pairs : List Pair
  pub first : IsIndexHeld s.index s.location (index_shape s.shape s.subchunk) value pairs
  pub second : IsIndexHeld s.index s.location (index_shape s.shape s.subchunk) other pairs
  pub slices : (n : ℕ) → is_met s.shape s.subchunk numbers n ≡ true → slice_at value (get_or pairs n absent_pair) ≡ slice_at other (get_or pairs n absent_pair)

-- what a part of a shard is read as depends on the index and on the slices that it meets, and on nothing else
abbrev pub PartIsLocal : Type 0
PartIsLocal = (s : ShardOf) (numbers value other : List ℕ) → fits (chain_of s) s.elements.type s.shape ≡ true → list_all (λ n. nat_lt n (product s.shape)) numbers ≡ true → MeetAlike s numbers value other
    → part_decoded (chain_of s) s.elements s.shape value numbers ≡ part_decoded (chain_of s) s.elements s.shape other numbers
