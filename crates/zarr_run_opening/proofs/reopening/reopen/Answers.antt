use Rattle.std.proofs.Common.{rules, sym, ◌∙◌}
use Rattle.zarr_run_opening.proofs.ReopeningLemmas.{no_node, reopen_steps}
use Rattle.zarr_run_opening.proofs.reopening.reopen.Goals as goal

pub returns-then-not-is_node_path-clause-steps : goal.returns-then-not-is_node_path-clause-steps
returns-then-not-is_node_path-clause-steps g c = λ honest before k.
    no_node g.B.BytesToBytesCodecTraits.meaning g.B.BytesToBytesCodecTraits.reads c.args.path.now c.args.order c.args.arrays.now
    (g.S.ReadableStorageTraits.held c.args.store.now) (g.S.ReadableStorageTraits.refused_calls c.args.store.now) before k (sym c.is_node_path.ensures ∙ search rules)

pub returns-clause-steps : goal.returns-clause-steps
returns-clause-steps g c = λ honest before k.
    let held = g.S.ReadableStorageTraits.held in
    let calls = g.S.ReadableStorageTraits.refused_calls in
    reopen_steps g.B.BytesToBytesCodecTraits.meaning g.B.BytesToBytesCodecTraits.reads c.args.path.now c.args.order
    c.args.arrays.now c.reopened.new.arrays (held c.args.store.now) (held c.reopened.new.store) (calls c.args.store.now) (calls c.reopened.new.store) c.reopened.result
    (record {
      node = sym c.is_node_path.ensures ∙ c.if-not-is_node_path.false;
      others = c.reopened.ensures.others;
      keeps = c.reopened.ensures.arrays;
      same = c.reopened.ensures.held;
      calls = c.reopened.ensures.calls;
    })
    (c.reopened.ensures.found honest) before k
