use Rattle.zarr_grids_keys.proofs.PathLemmas.{ends_with_slash-last}
use Rattle.zarr_grids_keys.proofs.node_path.ends_with_slash.Goals as goal

pub returns-in-Some : goal.returns-in-Some
returns-in-Some c = ends_with_slash-last c.args.bytes.now c.in-Some.byte.now c.in-Some.ensures.value
