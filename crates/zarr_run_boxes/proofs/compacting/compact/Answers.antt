use Rattle.std.proofs.Common.{sym, subst}
use Rattle.zarr_array_core.specs.Arrays.{array_of}
use Rattle.zarr_run_boxes.specs.Compacting.{CompactRefused}
use Rattle.zarr_run_boxes.proofs.Calls.{called_err}
use Rattle.zarr_run_boxes.proofs.Compactions.{compact_refused}
use Rattle.zarr_run_boxes.proofs.compacting.compact.Goals as goal

pub returns-in-Err-clause-err : goal.returns-in-Err-clause-err
returns-in-Err-clause-err g c = λ honest.
    let array = array_of g.C.ArrayToBytesCodecTraits c.args.array.now in
    let store = g.S.ReadableStorageTraits.held c.args.store.now in
    subst (λ cause. CompactRefused array c.args.chunk.now cause store) (sym c.cause_of.ensures)
    (compact_refused array c.args.chunk.now store c.in-Err.error c.in_ok-check_small.ensures.ok (c.in-Err.ensures.err honest))

pub returns-in-Ok-clause-store : goal.returns-in-Ok-clause-store
returns-in-Ok-clause-store g c = c.in-Ok.ensures.store

pub returns-in-Err-clause-store : goal.returns-in-Err-clause-store
returns-in-Err-clause-store g c = (
  called_err g.S.ReadableStorageTraits c.args.store.now c.compact_chunk.new.store c.in-Err.error c.cause_of.result c.cause_of.ensures c.in-Err.ensures.store.0,
  c.in-Err.ensures.store.1,
)
