use Rattle.std.proofs.Common.{◌≡◌, ◌∙◌, ◌+◌, ◌<◌, ◌≤◌, ℕ, Bool, true, false, Ok, IsTrue, sym, ap, subst, rules, arith}
use Rattle.zarr_grids_boxes.specs.Boxes.{Region, product}
use Rattle.zarr_grids_boxes.specs.Subsets.{region_of}
use Rattle.zarr_array_core.specs.Arrays.{array_of}
use Rattle.zarr_array_meaning.specs.StoreMaps.{CountsUpTo}
use Rattle.zarr_array_core.specs.Calls.{calls_of}
use Rattle.zarr_array_core.specs.Outcomes.{refused_with}
use Rattle.zarr_array_core.specs.Rewriting.{counted_chunk}
use Rattle.zarr_array_core.specs.declared.error.ChunkError.{ChunkError}
use Rattle.zarr_array_core.proofs.KeyedTurns.{keyed_turn_next, keyed_turns_all, keyed_turns_stop}
use Rattle.zarr_array_core.proofs.KnownArrays.{rewrite_known}
use Rattle.zarr_array_core.proofs.NthChunks.{nth_here}
use Rattle.zarr_array_core.proofs.Rewritten.{so_far_next, so_far_all, so_far_stops, stops_before}
use Rattle.zarr_array_core.proofs.array_core.ArrayCore.rewrite.Goals as goal

pub returns-then-is_err-clause-err : goal.returns-then-is_err-clause-err
returns-then-is_err-clause-err g c = λ honest. stops_before (array_of g.C.ArrayToBytesCodecTraits c.args.self.now) c.args.options.now.store_empty_chunks (g.S.ReadableStorageTraits.held c.args.store.now)

pub rewrite_chunk-requires-clause-below : goal.rewrite_chunk-requires-clause-below
rewrite_chunk-requires-clause-below g c κs within =
    let chunks : Region = region_of c.args.chunks.now in
    let at_place = rw (c.start.ensures, c.shape-in-loop-n.ensures) at c.place_into.ensures in
    let total : c.unwrap-count.result ≡ product chunks.shape = search rules in
    let below : c.loop-n.n < product chunks.shape = omega (arith, c.loop-n-test.true) in
    nth_here (array_of g.C.ArrayToBytesCodecTraits c.args.self.now).document.grid chunks c.loop-n.n c.place_into.new.place (sym c.args.chunks.now.same) c.requires.all.below below at_place

pub counted_chunk-applied-requires : goal.counted_chunk-applied-requires
counted_chunk-applied-requires g c =
    let total : c.unwrap-count.result ≡ product c.args.chunks.now.shape.items = search rules in
    let below : c.loop-n.n < product c.args.chunks.now.shape.items = omega (arith, c.loop-n-test.true) in
    omega (arith, c.loop-n.invariant.few, c.requires.few)

pub returns-in-Err-clause-err : goal.returns-in-Err-clause-err
returns-in-Err-clause-err g c = λ honest.
    let array = array_of g.C.ArrayToBytesCodecTraits c.args.self.now in
    let chunks : Region = region_of c.args.chunks.now in
    let walk = rewrite_known g.C.ArrayToBytesCodecTraits (g.met.C.ArrayToBytesCodecTraits g.world.𝓛 g.world.𝓜 g.world.𝓡 ((λ s x. x), (λ x. x), (λ x. x), λ x. x)).lawful c.args.self.now chunks (sym c.args.chunks.now.same) c.requires.all in
    let at_place = rw (c.start.ensures, c.shape-in-loop-n.ensures) at c.place_into.ensures in
    let total : c.unwrap-count.result ≡ product chunks.shape = search rules in
    let below : c.loop-n.n < product chunks.shape = omega (arith, c.loop-n-test.true) in
    let still : IsTrue (g.S.ReadableStorageTraits.is_honest c.loop-n.store) = rw c.loop-n.invariant.honest honest in
    so_far_stops array c.args.options.now.store_empty_chunks chunks c.loop-n.n c.loop-n.applied c.place_into.new.place c.in-Err.error (g.S.ReadableStorageTraits.held c.args.store.now) (g.S.ReadableStorageTraits.held c.loop-n.store) (g.S.ReadableStorageTraits.held c.rewrite_chunk.new.store) walk below at_place
    (c.in-Err.ensures.err still) (c.in-Err.ensures.store.1 still) (c.loop-n.invariant.so_far honest)

pub returns-in-Err-clause-store : goal.returns-in-Err-clause-store
returns-in-Err-clause-store g c =
    let kept = c.loop-n.invariant in
    let step = c.in-Err.ensures.store.0 in
    record {
      honest = step.honest ∙ kept.honest;
      refused = step.refused ∙ ap (refused_with c.in-Err.error) kept.refused;
      counts = (omega (arith, step.counts.0, kept.counts.0), omega (arith, step.counts.1, kept.counts.1));
    }

pub returns-in-Err-clause-counts : goal.returns-in-Err-clause-counts
returns-in-Err-clause-counts g c = λ honest.
    let kept = c.loop-n.invariant in
    let step = c.in-Err.ensures.store.0 in
    (omega (arith, step.counts.0, kept.counts.0), omega (arith, step.counts.1, kept.counts.1))

pub returns-in-Err-clause-turns : goal.returns-in-Err-clause-turns
returns-in-Err-clause-turns g c = λ honest.
    let chunks : Region = region_of c.args.chunks.now in
    let walk = rewrite_known g.C.ArrayToBytesCodecTraits (g.met.C.ArrayToBytesCodecTraits g.world.𝓛 g.world.𝓜 g.world.𝓡 ((λ s x. x), (λ x. x), (λ x. x), λ x. x)).lawful c.args.self.now chunks (sym c.args.chunks.now.same) c.requires.all in
    let total : c.unwrap-count.result ≡ product chunks.shape = search rules in
    let below : c.loop-n.n < product chunks.shape = omega (arith, c.loop-n-test.true) in
    let kept = c.loop-n.invariant in
    let step = c.in-Err.ensures.store in
    keyed_turns_stop g.S.ReadableStorageTraits (array_of g.C.ArrayToBytesCodecTraits c.args.self.now) c.args.options.now.store_empty_chunks chunks c.loop-n.n c.loop-n.applied c.args.store.now c.loop-n.store c.rewrite_chunk.new.store walk (omega arith)
    (kept.so_far honest) (record { honest = step.0.honest; counts = step.0.counts; held = step.1 (rw kept.honest honest) }) (kept.turns honest)

-- one chunk more
after : (had : Bool) (applied old mid new : ℕ) → CountsUpTo applied old mid → CountsUpTo (calls_of {E = ChunkError} (Ok had)) mid new → CountsUpTo (counted_chunk applied had) old new
after true applied old mid new first next = (omega (arith, first.0, next.0), omega (arith, first.1, next.1))
after false applied old mid new first next = (omega (arith, first.0, next.0), omega (arith, first.1, next.1))

at_most : (had : Bool) (applied n : ℕ) → applied ≤ n → counted_chunk applied had ≤ n + 1
at_most true applied n h = omega arith
at_most false applied n h = omega arith

pub loop-n-preserved : goal.loop-n-preserved
loop-n-preserved g c =
    let array = array_of g.C.ArrayToBytesCodecTraits c.args.self.now in
    let chunks : Region = region_of c.args.chunks.now in
    let walk = rewrite_known g.C.ArrayToBytesCodecTraits (g.met.C.ArrayToBytesCodecTraits g.world.𝓛 g.world.𝓜 g.world.𝓡 ((λ s x. x), (λ x. x), (λ x. x), λ x. x)).lawful c.args.self.now chunks (sym c.args.chunks.now.same) c.requires.all in
    let at_place = rw (c.start.ensures, c.shape-in-loop-n.ensures) at c.place_into.ensures in
    let total : c.unwrap-count.result ≡ product chunks.shape = search rules in
    let below : c.loop-n.n < product chunks.shape = omega (arith, c.loop-n-test.true) in
    let here = nth_here array.document.grid chunks c.loop-n.n c.place_into.new.place (sym c.args.chunks.now.same) c.requires.all.below below at_place in
    let kept = c.loop-n.invariant in
    let step = c.in-Ok.ensures in
    let is : c.counted_chunk-applied.result ≡ counted_chunk c.loop-n.applied c.in-Ok.had = c.counted_chunk-applied.ensures in
    let more = after c.in-Ok.had c.loop-n.applied (g.S.ReadableStorageTraits.accepted_writes c.args.store.now) (g.S.ReadableStorageTraits.accepted_writes c.loop-n.store) (g.S.ReadableStorageTraits.accepted_writes c.rewrite_chunk.new.store) kept.counts step.store.0.counts in
    let few = at_most c.in-Ok.had c.loop-n.applied c.loop-n.n kept.few in
    record {
      so_far = λ honest.
          so_far_next array c.args.options.now.store_empty_chunks chunks c.loop-n.n c.loop-n.applied c.counted_chunk-applied.result c.place_into.new.place here.0 c.in-Ok.had (g.S.ReadableStorageTraits.held c.args.store.now) (g.S.ReadableStorageTraits.held c.loop-n.store)
          (g.S.ReadableStorageTraits.held c.rewrite_chunk.new.store) walk below at_place here.1 is (step.ok (rw kept.honest honest)) (kept.so_far honest);
      turns = λ honest.
          keyed_turn_next g.S.ReadableStorageTraits array c.args.options.now.store_empty_chunks chunks c.loop-n.n c.loop-n.applied c.place_into.new.place here.0 c.in-Ok.had c.args.store.now c.loop-n.store c.rewrite_chunk.new.store
          walk below at_place here.1 step.store.0.honest step.store.0.counts (step.ok (rw kept.honest honest)) (kept.so_far honest) (kept.turns honest);
      few = subst (λ (k : ℕ). k ≤ c.loop-n.n + 1) (sym is) few;
      honest = step.store.0.honest ∙ kept.honest;
      refused = step.store.0.refused ∙ kept.refused;
      counts = subst (λ (k : ℕ). CountsUpTo k (g.S.ReadableStorageTraits.accepted_writes c.args.store.now) (g.S.ReadableStorageTraits.accepted_writes c.rewrite_chunk.new.store)) (sym is) more;
    }

pub returns-clause-ok : goal.returns-clause-ok
returns-clause-ok g c = λ honest.
    let chunks : Region = region_of c.args.chunks.now in
    let walk = rewrite_known g.C.ArrayToBytesCodecTraits (g.met.C.ArrayToBytesCodecTraits g.world.𝓛 g.world.𝓜 g.world.𝓡 ((λ s x. x), (λ x. x), (λ x. x), λ x. x)).lawful c.args.self.now chunks (sym c.args.chunks.now.same) c.requires.all in
    let total : c.unwrap-count.result ≡ product chunks.shape = search rules in
    (so_far_all (array_of g.C.ArrayToBytesCodecTraits c.args.self.now) c.args.options.now.store_empty_chunks chunks c.loop-n.n c.loop-n.applied (g.S.ReadableStorageTraits.held c.args.store.now) (g.S.ReadableStorageTraits.held c.loop-n.store) walk (omega arith) (c.loop-n.invariant.so_far honest)).0

pub returns-clause-store : goal.returns-clause-store
returns-clause-store g c =
    let total : c.unwrap-count.result ≡ product c.args.chunks.now.shape.items = search rules in
    let kept = c.loop-n.invariant in
    record {
      honest = kept.honest;
      refused = kept.refused;
      counts = (kept.counts.0, omega (arith, kept.counts.1, kept.few));
    }

pub returns-clause-counts : goal.returns-clause-counts
returns-clause-counts g c = λ honest.
    let array = array_of g.C.ArrayToBytesCodecTraits c.args.self.now in
    let chunks : Region = region_of c.args.chunks.now in
    let walk = rewrite_known g.C.ArrayToBytesCodecTraits (g.met.C.ArrayToBytesCodecTraits g.world.𝓛 g.world.𝓜 g.world.𝓡 ((λ s x. x), (λ x. x), (λ x. x), λ x. x)).lawful c.args.self.now chunks (sym c.args.chunks.now.same) c.requires.all in
    let total : c.unwrap-count.result ≡ product chunks.shape = search rules in
    let many = (so_far_all array c.args.options.now.store_empty_chunks chunks c.loop-n.n c.loop-n.applied (g.S.ReadableStorageTraits.held c.args.store.now) (g.S.ReadableStorageTraits.held c.loop-n.store) walk (omega arith) (c.loop-n.invariant.so_far honest)).1 in
    subst (λ (k : ℕ). CountsUpTo k (g.S.ReadableStorageTraits.accepted_writes c.args.store.now) (g.S.ReadableStorageTraits.accepted_writes c.loop-n.store)) many c.loop-n.invariant.counts

pub returns-clause-turns : goal.returns-clause-turns
returns-clause-turns g c = λ honest.
    let chunks : Region = region_of c.args.chunks.now in
    let walk = rewrite_known g.C.ArrayToBytesCodecTraits (g.met.C.ArrayToBytesCodecTraits g.world.𝓛 g.world.𝓜 g.world.𝓡 ((λ s x. x), (λ x. x), (λ x. x), λ x. x)).lawful c.args.self.now chunks (sym c.args.chunks.now.same) c.requires.all in
    let total : c.unwrap-count.result ≡ product chunks.shape = search rules in
    keyed_turns_all g.S.ReadableStorageTraits (array_of g.C.ArrayToBytesCodecTraits c.args.self.now) chunks c.loop-n.n c.args.store.now c.loop-n.store walk (omega arith) (c.loop-n.invariant.turns honest)
