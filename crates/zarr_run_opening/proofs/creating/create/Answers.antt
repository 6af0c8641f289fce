use Rattle.std.proofs.Common.{refl}
use Rattle.serde_json.specs.View.{view}
use Rattle.zarr_run_opening.proofs.CreationLemmas.{none_at, not_prepared, create_steps, preparation_counts}
use Rattle.zarr_run_opening.proofs.TextLemmas.{calls_created, counts_none, writes_at_most}
use Rattle.zarr_run_opening.proofs.creating.create.Goals as goal

pub put-requires-clause-free : goal.put-requires-clause-free
put-requires-clause-free g c = none_at c.args.arrays.now c.args.path.now c.in-Ok.ensures.node c.in-Ok.ensures.free

pub returns-in-Ok-clause-steps : goal.returns-in-Ok-clause-steps
returns-in-Ok-clause-steps g c = λ honest before k.
    let held = g.S.ReadableStorageTraits.held in
    let calls = g.S.ReadableStorageTraits.refused_calls in
    create_steps g.B.BytesToBytesCodecTraits.meaning g.B.BytesToBytesCodecTraits.reads c.args.path.now (view c.args.document.now) c.args.order c.in-Ok.prepared
    c.args.arrays.now c.put.new.arrays (held c.args.store.now) (held c.put.new.store) (calls c.args.store.now) (calls c.put.new.store) c.put.result
    (record {
      node = c.in-Ok.ensures.node;
      free = c.in-Ok.ensures.free;
      is = c.in-Ok.ensures.ok;
      ok = c.put.ensures.ok honest;
      refused = c.put.ensures.refused honest;
      leaves = c.put.ensures.leaves honest;
      keeps = c.put.ensures.arrays;
      calls = c.put.ensures.calls;
    })
    before k

pub returns-in-Err-clause-steps : goal.returns-in-Err-clause-steps
returns-in-Err-clause-steps g c = λ honest before k.
    not_prepared g.row.B.Denot g.B.BytesToBytesCodecTraits.meaning g.B.BytesToBytesCodecTraits.reads c.args.path.now (view c.args.document.now) c.args.order
    c.args.arrays.now (g.S.ReadableStorageTraits.held c.args.store.now) (g.S.ReadableStorageTraits.refused_calls c.args.store.now) before k c.in-Err.cause c.in-Err.ensures.refused

pub returns-in-Err-clause-calls : goal.returns-in-Err-clause-calls
returns-in-Err-clause-calls g c =
    preparation_counts g.B.BytesToBytesCodecTraits.reads c.args.arrays.now c.args.path.now (view c.args.document.now) c.in-Err.cause (g.S.ReadableStorageTraits.refused_calls c.args.store.now) c.in-Err.ensures.refused

pub returns-in-Ok-clause-accepted : goal.returns-in-Ok-clause-accepted
returns-in-Ok-clause-accepted g c =
    let count = g.S.ReadableStorageTraits.accepted_writes in
    calls_created c.args.path.now (view c.args.document.now) c.in-Ok.prepared.texts c.put.result (count c.args.store.now) (count c.put.new.store) c.in-Ok.ensures.ok.texts c.put.ensures.accepted

pub returns-in-Ok-clause-writes : goal.returns-in-Ok-clause-writes
returns-in-Ok-clause-writes g c = λ honest world.
    let count = g.S.ReadableStorageTraits.accepted_writes in
    writes_at_most world c.args.path.now (view c.args.document.now) c.args.order (g.S.ReadableStorageTraits.held c.args.store.now) c.put.result (count c.args.store.now) (count c.put.new.store) (c.put.ensures.refused honest)
    (calls_created c.args.path.now (view c.args.document.now) c.in-Ok.prepared.texts c.put.result (count c.args.store.now) (count c.put.new.store) c.in-Ok.ensures.ok.texts c.put.ensures.accepted)

pub returns-in-Err-clause-accepted : goal.returns-in-Err-clause-accepted
returns-in-Err-clause-accepted g c = counts_none _ _ _ refl

pub returns-in-Err-clause-writes : goal.returns-in-Err-clause-writes
returns-in-Err-clause-writes g c = λ honest world. counts_none _ _ _ refl
