use denote.Exit.{no}
use denote.Param.Send.{arg_sync, param_sync}
use Rattle.std.proofs.Common.{refl}
use Rattle.zarr_run_commands.specs.Commands.{answered}
use Rattle.zarr_run_session.proofs.CompactSteps.{compact_steps}
use Rattle.zarr_run_session.proofs.Refusals.{compact_not_found}
use Rattle.zarr_run_session.proofs.Counts.{compaction_counts, not_found_counts}
use Rattle.zarr_run_session.proofs.Bounds.{none_made, compact_bound}
use Rattle.zarr_sharding_chains.proofs.Crossing.{chain_sync}
use Rattle.zarr_run_session.proofs.session.Session.compact.Goals as goal

-- no array is held at the path
pub returns-in-Err : goal.returns-in-Err
returns-in-Err g c = record {
  steps = λ honest.
      let store = c.args.self.now.store in
      let readable = g.S.ReadableStorageTraits in
      let codec = g.B.BytesToBytesCodecTraits in
      compact_not_found g.row.B.Denot codec.meaning codec.reads c.args.self.now.arrays (readable.held store) (readable.refused_calls store)
      c.args.path.now c.args.chunk.now c.args.options.now c.in-Err.cause c.in-Err.ensures.err;
  writes = λ honest world is. none_made _ _ refl;
  given = λ honest world is. tt;
  honest = refl;
  refused = not_found_counts c.args.self.now.arrays c.args.path.now c.in-Err.cause (g.S.ReadableStorageTraits.refused_calls c.args.self.now.store) c.in-Err.ensures.err;
}

-- what was answered and left for the array
pub returns : goal.returns
returns g c = record {
  steps = λ honest.
      let old = c.args.self.now.store in
      let new = c.compact.new.store in
      let readable = g.S.ReadableStorageTraits in
      let codec = g.B.BytesToBytesCodecTraits in
      let outcome = c.compact.ensures in
      compact_steps g.row.B.Denot codec.meaning codec.reads c.args.self.now.arrays (readable.held old) (readable.held new) (readable.refused_calls old) (readable.refused_calls new)
      c.args.path.now c.args.chunk.now c.args.options.now c.in-Ok.array.now c.compact.result (answered c.reply_to_compaction.result)
      c.in-Ok.ensures.ok (compaction_counts c.compact.result _ _ _ c.reply_to_compaction.ensures outcome.store.0.refused) c.reply_to_compaction.ensures (outcome.ok honest) (outcome.err honest) (outcome.store.1 honest);
  writes = λ honest world is. compact_bound world c.args.path.now c.args.chunk.now c.args.options.now c.compact.result _ _ _ c.reply_to_compaction.ensures c.compact.ensures.store.0.counts;
  given = λ honest world is. tt;
  honest = c.compact.ensures.store.0.honest;
  refused = compaction_counts c.compact.result _ _ _ c.reply_to_compaction.ensures c.compact.ensures.store.0.refused;
}

pub compact-requires-sync-C : goal.compact-requires-sync-C
compact-requires-sync-C g c κs within = param_sync _ _ (arg_sync _ no _ (chain_sync _ c.type_bounds.sync-B))
