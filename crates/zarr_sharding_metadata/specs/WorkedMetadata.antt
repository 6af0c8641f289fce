-- The definitions computed on small examples: the expected values were worked out by hand.
use Rattle.std.specs.Prelude.{◌≡◌, ℕ, [], ◌∷◌, codes, true, Some, None}
use Rattle.serde_json.specs.Data.{Data, number, string, array, no_items, item, Members, no_members, member}
use Rattle.serde_json.specs.Data.Num.{unsigned}
use Rattle.serde_json.specs.Data.Data.{object}
use Rattle.zarr_grids_metadata.specs.ExtensionPoints.{ExtensionPoint}
use Rattle.zarr_codecs_meaning.specs.Chains.Chain.{bytes, sharded}
use Rattle.zarr_codecs_meaning.specs.Chains.Location.{at_end, at_start}
use Rattle.zarr_codecs_metadata.specs.Chains.{ReadsCodecs}
use Rattle.zarr_sharding_metadata.specs.Metadata.{array_chain_of}

-- a list of codecs of `bytes` alone
abbrev pub bytes_alone : Data
bytes_alone = array (item (string (codes "bytes")) no_items)

-- a list of one number
abbrev pub one_number : ℕ → Data
one_number n = array (item (number (unsigned n)) no_items)

-- a configuration of `sharding_indexed` with this subchunk size, these codecs, `bytes` for the index, and what follows
abbrev pub configured : ℕ → Data → Members → Members
configured size codecs ms = member (codes "chunk_shape") (one_number size) (member (codes "codecs") codecs (member (codes "index_codecs") bytes_alone ms))

-- the metadata of a shard that is so configured
abbrev pub shard_point : Members → ExtensionPoint
shard_point ms = record { name = codes "sharding_indexed"; configuration = Some ms; must_understand = true }

-- a list of codecs of a shard alone that is so configured
abbrev pub shard_listed : Members → Data
shard_listed ms = array (item (object (member (codes "configuration") (object ms) (member (codes "name") (string (codes "sharding_indexed")) no_members))) no_items)

-- no codec is the caller's
abbrev pub no_codecs : ReadsCodecs
no_codecs point = None

-- what the metadata of some shards says, and which metadata says none
pub record MetadataRows : Type 0 where
  pub index_at_the_end : array_chain_of no_codecs (shard_point (configured 2 bytes_alone no_members) ∷ []) ≡ Some (sharded (2 ∷ []) (bytes None) (bytes None) at_end)
  pub index_at_the_start : array_chain_of no_codecs (shard_point (configured 2 bytes_alone (member (codes "index_location") (string (codes "start")) no_members)) ∷ []) ≡ Some (sharded (2 ∷ []) (bytes None) (bytes None) at_start)
  pub index_elsewhere : array_chain_of no_codecs (shard_point (configured 2 bytes_alone (member (codes "index_location") (string (codes "middle")) no_members)) ∷ []) ≡ None
  pub size_of_zero : array_chain_of no_codecs (shard_point (configured 0 bytes_alone no_members) ∷ []) ≡ None
  pub another_member : array_chain_of no_codecs (shard_point (configured 2 bytes_alone (member (codes "level") (number (unsigned 1)) no_members)) ∷ []) ≡ None
  pub two_shards : array_chain_of no_codecs (shard_point (configured 4 (shard_listed (configured 2 bytes_alone no_members)) no_members) ∷ []) ≡ Some (sharded (4 ∷ []) (sharded (2 ∷ []) (bytes None) (bytes None) at_end) (bytes None) at_end)
  pub three_shards : array_chain_of no_codecs (shard_point (configured 8 (shard_listed (configured 4 (shard_listed (configured 2 bytes_alone no_members)) no_members)) no_members) ∷ []) ≡ None
  pub shard_as_index : array_chain_of no_codecs (shard_point (member (codes "chunk_shape") (one_number 2) (member (codes "codecs") bytes_alone (member (codes "index_codecs") (shard_listed (configured 2 bytes_alone no_members)) no_members))) ∷ []) ≡ None
