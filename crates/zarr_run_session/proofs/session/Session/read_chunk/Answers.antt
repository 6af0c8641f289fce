use denote.Exit.{no}
use denote.Param.Send.{arg_sync, param_sync}
use Rattle.std.proofs.Common.{refl}
use Rattle.zarr_run_meaning.specs.Requests as ask
use Rattle.zarr_run_session.proofs.ReadSteps.{read_steps}
use Rattle.zarr_run_session.proofs.Refusals.{read_not_found}
use Rattle.zarr_run_session.proofs.Counts.{not_found_counts, read_counts}
use Rattle.zarr_run_session.proofs.Bounds.{bytes_bound, none_made, none_read, read_bound}
use Rattle.zarr_sharding_chains.proofs.Crossing.{chain_sync}
use Rattle.zarr_run_session.proofs.session.Session.read_chunk.Goals as goal

-- no array is held at the path
pub returns-in-Err : goal.returns-in-Err
returns-in-Err g c = record {
  steps = λ honest.
      let session = c.args.self.now in
      read_not_found g.row.B.Denot g.B.BytesToBytesCodecTraits.meaning g.B.BytesToBytesCodecTraits.reads session.arrays
      (g.S.ReadableStorageTraits.held session.store) (g.S.ReadableStorageTraits.refused_calls session.store) c.args.path.now
      (ask.in_chunk c.args.chunk.now) c.args.options.now c.in-Err.cause c.in-Err.ensures.err;
  writes = λ honest world is. none_made _ _ refl;
  given = λ honest world is. none_read world c.args.path.now (ask.in_chunk c.args.chunk.now) c.args.options.now c.in-Err.cause (g.S.ReadableStorageTraits.given_bytes c.args.self.now.store);
  honest = refl;
  refused = not_found_counts c.args.self.now.arrays c.args.path.now c.in-Err.cause (g.S.ReadableStorageTraits.refused_calls c.args.self.now.store) c.in-Err.ensures.err;
}

-- what was answered and left for the array
pub returns : goal.returns
returns g c = record {
  steps = λ honest.
      let session = c.args.self.now in
      let held = g.S.ReadableStorageTraits.held in
      let calls = g.S.ReadableStorageTraits.refused_calls in
      let outcome = c.read_chunk.ensures in
      rw c.reply_to_read.ensures
      (read_steps g.row.B.Denot g.B.BytesToBytesCodecTraits.meaning g.B.BytesToBytesCodecTraits.reads session.arrays
      (held session.store) (held c.read_chunk.new.store) (calls session.store) (calls c.read_chunk.new.store) c.args.path.now
      (ask.in_chunk c.args.chunk.now) c.args.options.now c.in-Ok.array.now c.in-Ok.ensures.ok tt
      outcome.held c.read_chunk.result (outcome.ok honest) (outcome.err honest) (read_counts c.read_chunk.result _ _ _ refl outcome.refused));
  writes = λ honest world is. read_bound world c.args.path.now (ask.in_chunk c.args.chunk.now) c.args.options.now c.read_chunk.result _ _ _ c.reply_to_read.ensures c.read_chunk.ensures.accepted;
  given = λ honest world is.
      let old = c.args.self.now.store in
      let readable = g.S.ReadableStorageTraits in
      let codec = g.B.BytesToBytesCodecTraits in
      bytes_bound g.row.B.Denot codec.meaning codec.reads c.args.self.now.arrays (readable.held old) (readable.refused_calls old) c.args.path.now c.in-Ok.array.now c.in-Ok.ensures.ok world is
      (ask.in_chunk c.args.chunk.now) c.args.options.now c.read_chunk.result _ (readable.given_bytes old) (readable.given_bytes c.read_chunk.new.store) c.reply_to_read.ensures (c.read_chunk.ensures.given honest);
  honest = c.read_chunk.ensures.honest;
  refused = read_counts c.read_chunk.result _ _ _ c.reply_to_read.ensures c.read_chunk.ensures.refused;
}

pub read_chunk-requires-sync-C : goal.read_chunk-requires-sync-C
read_chunk-requires-sync-C g c κs within = param_sync _ _ (arg_sync _ no _ (chain_sync _ c.type_bounds.sync-B))
