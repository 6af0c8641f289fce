use denote.Exit.{no}
use denote.Param.Send.{arg_sync, param_sync}
use Rattle.std.proofs.Common.{refl, true}
use Rattle.zarr_run_commands.specs.Commands.{answered}
use Rattle.zarr_run_session.proofs.RewriteSteps.{rewrite_steps}
use Rattle.zarr_run_session.proofs.Refusals.{rewrite_not_found}
use Rattle.zarr_run_session.proofs.Counts.{change_counts, not_found_counts}
use Rattle.zarr_run_session.proofs.Bounds.{none_made, rewrite_bound}
use Rattle.zarr_sharding_chains.proofs.Crossing.{chain_sync}
use Rattle.zarr_run_session.proofs.session.Session.rewrite.Goals as goal

-- no array is held at the path
pub returns-in-Err : goal.returns-in-Err
returns-in-Err g c = record {
  steps = λ honest.
      let store = c.args.self.now.store in
      let readable = g.S.ReadableStorageTraits in
      let codec = g.B.BytesToBytesCodecTraits in
      rewrite_not_found g.row.B.Denot codec.meaning codec.reads c.args.self.now.arrays (readable.held store) (readable.refused_calls store)
      c.args.path.now c.args.options.now c.in-Err.cause c.in-Err.ensures.err;
  writes = λ honest world is. none_made _ _ refl;
  given = λ honest world is. tt;
  honest = refl;
  refused = not_found_counts c.args.self.now.arrays c.args.path.now c.in-Err.cause (g.S.ReadableStorageTraits.refused_calls c.args.self.now.store) c.in-Err.ensures.err;
}

-- what was answered and left for the array
pub returns : goal.returns
returns g c = record {
  steps = λ honest.
      let old = c.args.self.now.store in
      let new = c.rewrite.new.store in
      let readable = g.S.ReadableStorageTraits in
      let codec = g.B.BytesToBytesCodecTraits in
      let outcome = c.rewrite.ensures in
      rewrite_steps g.row.B.Denot codec.meaning codec.reads c.args.self.now.arrays (readable.held old) (readable.held new) (readable.refused_calls old) (readable.refused_calls new)
      c.args.path.now c.args.options.now c.in-Ok.array.now c.rewrite.result (answered c.reply_to_change.result)
      c.in-Ok.ensures.ok (change_counts c.rewrite.result _ _ _ c.reply_to_change.ensures outcome.store.refused) c.reply_to_change.ensures (outcome.ok honest) (outcome.err honest);
  writes = λ honest world is.
      let old = c.args.self.now.store in
      let readable = g.S.ReadableStorageTraits in
      let codec = g.B.BytesToBytesCodecTraits in
      rewrite_bound g.row.B.Denot codec.meaning codec.reads c.args.self.now.arrays (readable.held old) (readable.refused_calls old) c.args.path.now c.in-Ok.array.now c.in-Ok.ensures.ok world is
      c.args.options.now true c.rewrite.result _ _ _ c.reply_to_change.ensures (c.rewrite.ensures.counts honest);
  given = λ honest world is. tt;
  honest = c.rewrite.ensures.store.honest;
  refused = change_counts c.rewrite.result _ _ _ c.reply_to_change.ensures c.rewrite.ensures.store.refused;
}

pub rewrite-requires-sync-C : goal.rewrite-requires-sync-C
rewrite-requires-sync-C g c κs within = param_sync _ _ (arg_sync _ no _ (chain_sync _ c.type_bounds.sync-B))
