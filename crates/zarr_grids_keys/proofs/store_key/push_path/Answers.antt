use Rattle.std.proofs.Common.{subst, sym}
use Rattle.std.specs.Str.{IsCharBoundary}
use Rattle.std.proofs.Math.Seq.{take-length}
use Rattle.zarr_grids_keys.proofs.PathLemmas.{is_node_path-boundary}
use Rattle.zarr_grids_keys.proofs.store_key.push_path.Goals as goal

pub range_from-requires : goal.range_from-requires
range_from-requires c = λ _. subst (λ t. IsCharBoundary t 1) (sym (take-length c.args.path.now)) (is_node_path-boundary c.args.path.now c.utf8.path c.requires)
