use Rattle.zarr_array_core.proofs.InParts.{unwritten_after}
use Rattle.zarr_array_core.proofs.array_core.ArrayCore.write_fitting.Goals as goal

pub returns-clause-unwritten : goal.returns-clause-unwritten
returns-clause-unwritten g c = unwritten_after c.put_value.result _ _ _ c.put_value.ensures.unwritten c.in_ok-bytes.ensures.accepted
