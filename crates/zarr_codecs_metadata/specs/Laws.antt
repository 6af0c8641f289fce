-- Laws of what the metadata of chains says.
use Rattle.std.specs.Prelude.{◌≡◌}
use Rattle.zarr_grids_metadata.specs.ExtensionPoints.{ExtensionPoint}
use Rattle.zarr_codecs_metadata.specs.Chains.{ReadsCodecs, array_to_bytes_by, array_to_bytes_in, listed_chain}

-- a list of codecs says in the configuration of a codec what it says anywhere else, however deep it stands
abbrev pub ChainsNest : Type 0
ChainsNest = (reads : ReadsCodecs) (point : ExtensionPoint) → array_to_bytes_in reads point ≡ array_to_bytes_by (listed_chain reads) point
