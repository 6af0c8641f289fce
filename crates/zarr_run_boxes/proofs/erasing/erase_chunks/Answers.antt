use Rattle.zarr_run_boxes.proofs.Calls.{many_err}
use Rattle.zarr_run_boxes.proofs.erasing.erase_chunks.Goals as goal

pub returns-in-Ok-clause-store : goal.returns-in-Ok-clause-store
returns-in-Ok-clause-store g c = c.in-Ok.ensures.store

pub returns-in-Err-clause-store : goal.returns-in-Err-clause-store
returns-in-Err-clause-store g c =
    many_err g.S.ReadableStorageTraits c.args.store.now c.erase_region.new.store c.in-Err.stopped c.at_chunk.result c.at_chunk.ensures c.in-Err.ensures.store
