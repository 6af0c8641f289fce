use Rattle.zarr_grids_keys.proofs.PathLemmas.{has_double_slash_after-none}
use Rattle.zarr_grids_keys.proofs.node_path.has_double_slash.Goals as goal

pub loop-byte-init : goal.loop-byte-init
loop-byte-init c = has_double_slash_after-none c.args.bytes.now
