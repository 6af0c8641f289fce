use Rattle.std.proofs.Common.{◌≡◌, ◌∙◌, ◌<◌, None, ap, sym, rules, arith}
use Rattle.zarr_grids_boxes.specs.Boxes.{Region, product}
use Rattle.zarr_grids_boxes.specs.Subsets.{region_of}
use Rattle.zarr_array_core.specs.Arrays.{array_of}
use Rattle.zarr_array_core.specs.Outcomes.{refused_with}
use Rattle.zarr_array_core.specs.Views.{document_of, path_of}
use Rattle.zarr_array_core.proofs.Erased.{erased_none, erased_next, erased_all, erased_stops}
use Rattle.zarr_array_core.proofs.Turns.{no_turn, once_at, turn_next, turns_all, turns_stop}
use Rattle.zarr_array_core.proofs.array_core.ArrayCore.erase_region.Goals as goal

pub returns-then-count-eq0-clause-ok : goal.returns-then-count-eq0-clause-ok
returns-then-count-eq0-clause-ok g c = λ honest.
    let chunks : Region = region_of c.args.chunks.now in
    let total : c.unwrap-count.result ≡ product chunks.shape = search rules in
    let store = g.S.ReadableStorageTraits.held c.args.store.now in
    let document = document_of g.C.ArrayToBytesCodecTraits.meaning c.args.self.now in
    erased_all (path_of c.args.self.now) document chunks 0 c.unwrap-count.result store store (sym c.args.chunks.now.same) total (sym c.if-count-eq0.true) (erased_none (path_of c.args.self.now) document store)

pub returns-then-count-eq0-clause-turns : goal.returns-then-count-eq0-clause-turns
returns-then-count-eq0-clause-turns g c = λ honest.
    let chunks : Region = region_of c.args.chunks.now in
    let total : c.unwrap-count.result ≡ product chunks.shape = search rules in
    let s = g.S.ReadableStorageTraits in
    turns_all s (array_of g.C.ArrayToBytesCodecTraits c.args.self.now) chunks 0 c.args.store.now c.args.store.now (sym c.args.chunks.now.same) (sym c.if-count-eq0.true ∙ total) (no_turn s c.args.store.now)

pub returns-in-Err-clause-err : goal.returns-in-Err-clause-err
returns-in-Err-clause-err g c = λ honest.
    let chunks : Region = region_of c.args.chunks.now in
    let total : c.unwrap-count.result ≡ product chunks.shape = search rules in
    let below : c.loop-n.n < product chunks.shape = omega (arith, c.loop-n-test.true) in
    let kept = c.in-Err.ensures.store.1 (rw c.loop-n.invariant.honest honest) in
    erased_stops (array_of g.C.ArrayToBytesCodecTraits c.args.self.now) chunks c.loop-n.n c.in-Err.error (g.S.ReadableStorageTraits.held c.args.store.now) (g.S.ReadableStorageTraits.held c.loop-n.store)
    (g.S.ReadableStorageTraits.held c.erase_chunk.new.store) (sym c.args.chunks.now.same) below (c.in-Err.ensures.stops (rw c.loop-n.invariant.honest honest)) kept (c.loop-n.invariant.erased honest)

pub loop-n-preserved : goal.loop-n-preserved
loop-n-preserved g c =
    let chunks : Region = region_of c.args.chunks.now in
    let at_place = rw (c.start.ensures, c.shape-in-loop-n.ensures) at c.place_into.ensures in
    let step = c.in-Ok-erase_chunk.ensures in
    let kept = c.loop-n.invariant in
    record {
      erased = λ honest. erased_next (path_of c.args.self.now) (document_of g.C.ArrayToBytesCodecTraits.meaning c.args.self.now) chunks c.loop-n.n c.place_into.new.place (g.S.ReadableStorageTraits.held c.args.store.now)
          (g.S.ReadableStorageTraits.held c.loop-n.store) (g.S.ReadableStorageTraits.held c.erase_chunk.new.store) at_place (step.ok (rw kept.honest honest)) (kept.erased honest);
      turns = λ honest.
          let array = array_of g.C.ArrayToBytesCodecTraits c.args.self.now in
          let once = once_at g.S.ReadableStorageTraits array c.place_into.new.place None c.loop-n.store c.erase_chunk.new.store step.store.0.honest step.store.0.counts (step.ok (rw kept.honest honest)) in
          turn_next g.S.ReadableStorageTraits array chunks c.loop-n.n c.place_into.new.place c.args.store.now c.loop-n.store c.erase_chunk.new.store at_place once (kept.turns honest);
      honest = step.store.0.honest ∙ kept.honest;
      refused = step.store.0.refused ∙ kept.refused;
      counts = (omega (arith, step.store.0.counts.0, kept.counts.0), omega (arith, step.store.0.counts.1, kept.counts.1));
    }

pub returns-in-Err-clause-store : goal.returns-in-Err-clause-store
returns-in-Err-clause-store g c =
    let kept = c.loop-n.invariant in
    let step = c.in-Err.ensures.store.0 in
    record {
      honest = step.honest ∙ kept.honest;
      refused = step.refused ∙ ap (refused_with c.in-Err.error) kept.refused;
      counts = (omega (arith, step.counts.0, kept.counts.0), omega (arith, step.counts.1, kept.counts.1));
    }

pub returns-in-Err-clause-turns : goal.returns-in-Err-clause-turns
returns-in-Err-clause-turns g c = λ honest.
    let chunks : Region = region_of c.args.chunks.now in
    let total : c.unwrap-count.result ≡ product chunks.shape = search rules in
    let below : c.loop-n.n < product chunks.shape = omega (arith, c.loop-n-test.true) in
    let kept = c.loop-n.invariant in
    let step = c.in-Err.ensures.store in
    turns_stop g.S.ReadableStorageTraits (array_of g.C.ArrayToBytesCodecTraits c.args.self.now) chunks c.loop-n.n c.args.store.now c.loop-n.store c.erase_chunk.new.store (sym c.args.chunks.now.same) (omega arith)
    (record { honest = step.0.honest; counts = step.0.counts; held = step.1 (rw kept.honest honest) }) (kept.turns honest)

pub returns-clause-store : goal.returns-clause-store
returns-clause-store g c =
    let total : c.unwrap-count.result ≡ product c.args.chunks.now.shape.items = search rules in
    let kept = c.loop-n.invariant in
    record {
      honest = kept.honest;
      refused = kept.refused;
      counts = (kept.counts.0, omega (arith, kept.counts.1));
    }

pub returns-clause-ok : goal.returns-clause-ok
returns-clause-ok g c = λ honest.
    let chunks : Region = region_of c.args.chunks.now in
    let total : c.unwrap-count.result ≡ product chunks.shape = search rules in
    erased_all (path_of c.args.self.now) (document_of g.C.ArrayToBytesCodecTraits.meaning c.args.self.now) chunks c.loop-n.n c.unwrap-count.result (g.S.ReadableStorageTraits.held c.args.store.now) (g.S.ReadableStorageTraits.held c.loop-n.store)
    (sym c.args.chunks.now.same) total (omega arith) (c.loop-n.invariant.erased honest)

pub returns-clause-turns : goal.returns-clause-turns
returns-clause-turns g c = λ honest.
    let chunks : Region = region_of c.args.chunks.now in
    let total : c.unwrap-count.result ≡ product chunks.shape = search rules in
    turns_all g.S.ReadableStorageTraits (array_of g.C.ArrayToBytesCodecTraits c.args.self.now) chunks c.loop-n.n c.args.store.now c.loop-n.store (sym c.args.chunks.now.same) (omega arith) (c.loop-n.invariant.turns honest)
