use Rattle.std.proofs.Common.{refl}
use Rattle.zarr_grids_boxes.specs.Subsets.{region_of}
use Rattle.zarr_run_commands.specs.Commands.{answered}
use Rattle.zarr_run_session.proofs.EraseSteps.{erase_steps}
use Rattle.zarr_run_session.proofs.Refusals.{erase_not_found}
use Rattle.zarr_run_session.proofs.Counts.{change_counts, not_found_counts}
use Rattle.zarr_run_session.proofs.Bounds.{none_made, erase_bound}
use Rattle.zarr_run_session.proofs.session.Session.erase_chunks.Goals as goal

-- no array is held at the path
pub returns-in-Err : goal.returns-in-Err
returns-in-Err g c = record {
  steps = λ honest.
      let store = c.args.self.now.store in
      let readable = g.S.ReadableStorageTraits in
      let codec = g.B.BytesToBytesCodecTraits in
      erase_not_found g.row.B.Denot codec.meaning codec.reads c.args.self.now.arrays (readable.held store) (readable.refused_calls store)
      c.args.path.now (region_of c.args.chunks.now) c.in-Err.cause c.in-Err.ensures.err;
  writes = λ honest world is. none_made _ _ refl;
  given = λ honest world is. tt;
  honest = refl;
  refused = not_found_counts c.args.self.now.arrays c.args.path.now c.in-Err.cause (g.S.ReadableStorageTraits.refused_calls c.args.self.now.store) c.in-Err.ensures.err;
}

-- what was answered and left for the array
pub returns : goal.returns
returns g c = record {
  steps = λ honest.
      let old = c.args.self.now.store in
      let new = c.erase_chunks.new.store in
      let readable = g.S.ReadableStorageTraits in
      let codec = g.B.BytesToBytesCodecTraits in
      erase_steps g.row.B.Denot codec.meaning codec.reads c.args.self.now.arrays (readable.held old) (readable.held new) (readable.refused_calls old) (readable.refused_calls new)
      c.args.path.now (region_of c.args.chunks.now) c.in-Ok.array.now c.erase_chunks.result (answered c.reply_to_change.result)
      c.in-Ok.ensures.ok (change_counts c.erase_chunks.result _ _ _ c.reply_to_change.ensures c.erase_chunks.ensures.store.refused) c.reply_to_change.ensures (c.erase_chunks.ensures.ok honest) (c.erase_chunks.ensures.err honest);
  writes = λ honest world is. erase_bound world c.args.path.now (region_of c.args.chunks.now) c.erase_chunks.result _ _ _ c.reply_to_change.ensures c.erase_chunks.ensures.store.counts;
  given = λ honest world is. tt;
  honest = c.erase_chunks.ensures.store.honest;
  refused = change_counts c.erase_chunks.result _ _ _ c.reply_to_change.ensures c.erase_chunks.ensures.store.refused;
}
