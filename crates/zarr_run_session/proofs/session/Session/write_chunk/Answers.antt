use denote.Exit.{no}
use denote.Param.Send.{arg_sync, param_sync}
use Rattle.std.proofs.Common.{refl}
use Rattle.zarr_array_meaning.specs.Writes.{allowed}
use Rattle.zarr_run_commands.specs.Commands.{answered, given}
use Rattle.zarr_run_meaning.specs.Requests as ask
use Rattle.zarr_run_session.proofs.Refusals.{write_not_found}
use Rattle.zarr_run_session.proofs.WriteSteps.{write_steps}
use Rattle.zarr_run_session.proofs.Counts.{change_counts, not_found_counts}
use Rattle.zarr_run_session.proofs.Bounds.{none_made, write_bound}
use Rattle.zarr_sharding_chains.proofs.Crossing.{chain_sync}
use Rattle.zarr_run_session.proofs.session.Session.write_chunk.Goals as goal

-- no array is held at the path
pub returns-in-Err : goal.returns-in-Err
returns-in-Err g c = record {
  steps = λ honest.
      let store = c.args.self.now.store in
      let readable = g.S.ReadableStorageTraits in
      let codec = g.B.BytesToBytesCodecTraits in
      write_not_found g.row.B.Denot codec.meaning codec.reads c.args.self.now.arrays (readable.held store) (readable.refused_calls store)
      c.args.path.now (ask.in_chunk c.args.chunk.now) (given c.args.cells.now) (allowed g.S.WritableStorageTraits.supports_set_partial c.args.options.now) c.in-Err.cause c.in-Err.ensures.err;
  writes = λ honest world is. none_made _ _ refl;
  given = λ honest world is. tt;
  honest = refl;
  refused = not_found_counts c.args.self.now.arrays c.args.path.now c.in-Err.cause (g.S.ReadableStorageTraits.refused_calls c.args.self.now.store) c.in-Err.ensures.err;
}

-- what was answered and left for the array
pub returns : goal.returns
returns g c = record {
  steps = λ honest.
      let old = c.args.self.now.store in
      let new = c.write_chunk.new.store in
      let readable = g.S.ReadableStorageTraits in
      let codec = g.B.BytesToBytesCodecTraits in
      write_steps g.row.B.Denot codec.meaning codec.reads c.args.self.now.arrays (readable.held old) (readable.held new) (readable.refused_calls old) (readable.refused_calls new)
      c.args.path.now (record { target = ask.in_chunk c.args.chunk.now; cells = given c.args.cells.now; options = allowed g.S.WritableStorageTraits.supports_set_partial c.args.options.now }) c.in-Ok.array.now c.write_chunk.result (answered c.reply_to_change.result)
      c.in-Ok.ensures.ok (change_counts c.write_chunk.result _ _ _ c.reply_to_change.ensures c.write_chunk.ensures.store.refused) c.reply_to_change.ensures (c.write_chunk.ensures.ok honest) (c.write_chunk.ensures.err honest);
  writes = λ honest world is.
      let old = c.args.self.now.store in
      let readable = g.S.ReadableStorageTraits in
      let codec = g.B.BytesToBytesCodecTraits in
      write_bound g.row.B.Denot codec.meaning codec.reads c.args.self.now.arrays (readable.held old) (readable.refused_calls old) c.args.path.now c.in-Ok.array.now c.in-Ok.ensures.ok world is
      (ask.in_chunk c.args.chunk.now) (given c.args.cells.now) (allowed g.S.WritableStorageTraits.supports_set_partial c.args.options.now) c.write_chunk.result (answered c.reply_to_change.result) _ _ c.reply_to_change.ensures c.write_chunk.ensures.store.counts;
  given = λ honest world is. tt;
  honest = c.write_chunk.ensures.store.honest;
  refused = change_counts c.write_chunk.result _ _ _ c.reply_to_change.ensures c.write_chunk.ensures.store.refused;
}

pub write_chunk-requires-sync-C : goal.write_chunk-requires-sync-C
write_chunk-requires-sync-C g c κs within = param_sync _ _ (arg_sync _ no _ (chain_sync _ c.type_bounds.sync-B))
