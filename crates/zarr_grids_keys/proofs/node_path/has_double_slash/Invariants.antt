use Rattle.std.proofs.Common.{◌≡◌, drop}
use Rattle.zarr_grids_keys.specs.Paths.{has_double_slash}
use Rattle.zarr_grids_keys.proofs.PathLemmas.{has_double_slash_after}
use Rattle.zarr_grids_keys.proofs.node_path.has_double_slash.Given as goal

abbrev pub invariant-loop-byte : goal.invariant-loop-byte
invariant-loop-byte l = has_double_slash_after l.is_after_slash (drop l.byte-index l.bytes) ≡ has_double_slash l.bytes
