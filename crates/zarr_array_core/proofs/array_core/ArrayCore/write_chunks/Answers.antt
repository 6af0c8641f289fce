use Rattle.std.proofs.Common.{◌≡◌, ◌∙◌, ◌<◌, IsTrue, ap, refl, sym, rules, arith}
use Rattle.zarr_codecs_arrays.specs.Views.{payload_of}
use Rattle.zarr_grids_boxes.specs.Boxes.{Region, product, place_at}
use Rattle.zarr_grids_boxes.specs.Subsets.{region_of}
use Rattle.zarr_grids_overlay.specs.Overlays.{extent_of}
use Rattle.zarr_array_core.specs.Arrays.{array_of}
use Rattle.zarr_array_core.specs.Outcomes.{refused_with}
use Rattle.zarr_array_core.specs.BoxWrites.{write_of}
use Rattle.zarr_array_core.specs.Views.{document_of}
use Rattle.zarr_array_core.specs.declared.error.ChunkError.TheVariants as error
use Rattle.zarr_array_core.proofs.BoxWalks.{walk_of}
use Rattle.zarr_array_core.proofs.ChunksWritten.{wrote_none, wrote_next, wrote_all, write_stops}
use Rattle.zarr_array_core.proofs.NthChunks.{nth_here, shares_here}
use Rattle.zarr_array_core.proofs.Turns.{counts_none, once_at, turn_next, turns_all, turns_none, turns_stop}
use Rattle.zarr_array_core.proofs.array_core.ArrayCore.write_chunks.Goals as goal

pub returns-then-is_err-clause-err : goal.returns-then-is_err-clause-err
returns-then-is_err-clause-err g c = λ honest.
    let array = c.args.self.now in
    let write = write_of g.C.ArrayToBytesCodecTraits array c.args.write.now in
    let chunks : Region = region_of c.args.chunks.now in
    let old = g.S.ReadableStorageTraits.held c.args.store.now in
    let walk = walk_of g.C.ArrayToBytesCodecTraits (g.met.C.ArrayToBytesCodecTraits g.world.𝓛 g.world.𝓜 g.world.𝓡 ((λ s x. x), (λ x. x), (λ x. x), λ x. x)).lawful array c.args.write.now chunks (sym c.args.write.now.region.same) (sym c.args.chunks.now.same) c.requires.rank c.requires.intersecting c.requires.values in
    let lists = c.requires.many.lists in
    let chunk = place_at chunks.start chunks.shape 0 in
    let here = nth_here write.array.document.grid chunks 0 chunk walk.chunks_rank walk.intersecting.below c.requires.some refl in
    write_stops write chunks (payload_of c.args.write.now.bytes.now) 0 chunk here.0 error.Memory old old old walk lists c.requires.some refl here.1 tt refl (wrote_none write old)

pub loop-n-init : goal.loop-n-init
loop-n-init g c =
    let array = c.args.self.now in
    let store = c.args.store.now in
    record {
      wrote = λ honest. wrote_none (write_of g.C.ArrayToBytesCodecTraits array c.args.write.now) (g.S.ReadableStorageTraits.held store);
      turns = λ honest. turns_none g.S.ReadableStorageTraits (array_of g.C.ArrayToBytesCodecTraits array) store;
      honest = refl;
      refused = refl;
      counts = counts_none (g.S.ReadableStorageTraits.accepted_writes store);
    }

pub write_at-requires-clause-below : goal.write_at-requires-clause-below
write_at-requires-clause-below g c κs within =
    let chunks : Region = region_of c.args.chunks.now in
    let at_place = rw (c.start.ensures, c.shape-in-loop-n.ensures) at c.place_into.ensures in
    let total : c.unwrap-count.result ≡ product chunks.shape = search rules in
    let below : c.loop-n.n < product chunks.shape = omega (arith, c.loop-n-test.true) in
    nth_here (document_of g.C.ArrayToBytesCodecTraits.meaning c.args.self.now).grid chunks c.loop-n.n c.place_into.new.place (sym c.args.chunks.now.same) c.requires.intersecting.below below at_place

pub write_at-requires-clause-shares : goal.write_at-requires-clause-shares
write_at-requires-clause-shares g c κs within =
    let chunks : Region = region_of c.args.chunks.now in
    let at_place = rw (c.start.ensures, c.shape-in-loop-n.ensures) at c.place_into.ensures in
    let total : c.unwrap-count.result ≡ product chunks.shape = search rules in
    let below : c.loop-n.n < product chunks.shape = omega (arith, c.loop-n-test.true) in
    shares_here (document_of g.C.ArrayToBytesCodecTraits.meaning c.args.self.now).grid (extent_of c.args.write.now.region) chunks c.loop-n.n c.place_into.new.place (sym c.args.chunks.now.same) c.requires.intersecting below at_place

pub returns-in-Err-clause-err : goal.returns-in-Err-clause-err
returns-in-Err-clause-err g c = λ honest.
    let array = c.args.self.now in
    let write = write_of g.C.ArrayToBytesCodecTraits array c.args.write.now in
    let chunks : Region = region_of c.args.chunks.now in
    let old = g.S.ReadableStorageTraits.held c.args.store.now in
    let walk = walk_of g.C.ArrayToBytesCodecTraits (g.met.C.ArrayToBytesCodecTraits g.world.𝓛 g.world.𝓜 g.world.𝓡 ((λ s x. x), (λ x. x), (λ x. x), λ x. x)).lawful array c.args.write.now chunks (sym c.args.write.now.region.same) (sym c.args.chunks.now.same) c.requires.rank c.requires.intersecting c.requires.values in
    let lists = c.requires.many.lists in
    let mid = g.S.ReadableStorageTraits.held c.loop-n.store in
    let new = g.S.ReadableStorageTraits.held c.write_at.new.store in
    let at_place = rw (c.start.ensures, c.shape-in-loop-n.ensures) at c.place_into.ensures in
    let total : c.unwrap-count.result ≡ product chunks.shape = search rules in
    let below : c.loop-n.n < product chunks.shape = omega (arith, c.loop-n-test.true) in
    let still : IsTrue (g.S.ReadableStorageTraits.is_honest c.loop-n.store) = rw c.loop-n.invariant.honest honest in
    let stops = c.in-Err.ensures.err still in
    write_stops write chunks (payload_of c.args.write.now.bytes.now) c.loop-n.n c.place_into.new.place stops.0 c.in-Err.error old mid new walk lists below at_place stops.1 stops.2 (c.in-Err.ensures.store.1 still) (c.loop-n.invariant.wrote honest)

pub loop-n-preserved : goal.loop-n-preserved
loop-n-preserved g c =
    let array = c.args.self.now in
    let write = write_of g.C.ArrayToBytesCodecTraits array c.args.write.now in
    let chunks : Region = region_of c.args.chunks.now in
    let old = g.S.ReadableStorageTraits.held c.args.store.now in
    let walk = walk_of g.C.ArrayToBytesCodecTraits (g.met.C.ArrayToBytesCodecTraits g.world.𝓛 g.world.𝓜 g.world.𝓡 ((λ s x. x), (λ x. x), (λ x. x), λ x. x)).lawful array c.args.write.now chunks (sym c.args.write.now.region.same) (sym c.args.chunks.now.same) c.requires.rank c.requires.intersecting c.requires.values in
    let mid = g.S.ReadableStorageTraits.held c.loop-n.store in
    let new = g.S.ReadableStorageTraits.held c.write_at.new.store in
    let at_place = rw (c.start.ensures, c.shape-in-loop-n.ensures) at c.place_into.ensures in
    let total : c.unwrap-count.result ≡ product chunks.shape = search rules in
    let below : c.loop-n.n < product chunks.shape = omega (arith, c.loop-n-test.true) in
    let step = c.in-Ok.ensures in
    let kept = c.loop-n.invariant in
    record {
      wrote = λ honest.
          let made = step.ok (rw kept.honest honest) in
          wrote_next write chunks c.loop-n.n c.place_into.new.place made.0 made.1 old mid new walk below at_place made.2 made.3 made.4 (kept.wrote honest);
      turns = λ honest.
          let made = step.ok (rw kept.honest honest) in
          let once = once_at g.S.ReadableStorageTraits write.array c.place_into.new.place made.1 c.loop-n.store c.write_at.new.store step.store.0.honest step.store.0.counts made.4 in
          turn_next g.S.ReadableStorageTraits write.array chunks c.loop-n.n c.place_into.new.place c.args.store.now c.loop-n.store c.write_at.new.store at_place once (kept.turns honest);
      honest = step.store.0.honest ∙ kept.honest;
      refused = step.store.0.refused ∙ kept.refused;
      counts = (omega (arith, step.store.0.counts.0, kept.counts.0), omega (arith, step.store.0.counts.1, kept.counts.1));
    }

pub returns-in-Err-clause-store : goal.returns-in-Err-clause-store
returns-in-Err-clause-store g c =
    let kept = c.loop-n.invariant in
    let step = c.in-Err.ensures.store.0 in
    record {
      honest = step.honest ∙ kept.honest;
      refused = step.refused ∙ ap (refused_with c.in-Err.error) kept.refused;
      counts = (omega (arith, step.counts.0, kept.counts.0), omega (arith, step.counts.1, kept.counts.1));
    }

pub returns-in-Err-clause-turns : goal.returns-in-Err-clause-turns
returns-in-Err-clause-turns g c = λ honest.
    let chunks : Region = region_of c.args.chunks.now in
    let total : c.unwrap-count.result ≡ product chunks.shape = search rules in
    let below : c.loop-n.n < product chunks.shape = omega (arith, c.loop-n-test.true) in
    let kept = c.loop-n.invariant in
    let step = c.in-Err.ensures.store in
    turns_stop g.S.ReadableStorageTraits (array_of g.C.ArrayToBytesCodecTraits c.args.self.now) chunks c.loop-n.n c.args.store.now c.loop-n.store c.write_at.new.store (sym c.args.chunks.now.same) (omega arith)
    (record { honest = step.0.honest; counts = step.0.counts; held = step.1 (rw kept.honest honest) }) (kept.turns honest)

pub returns-clause-store : goal.returns-clause-store
returns-clause-store g c =
    let total : c.unwrap-count.result ≡ product c.args.chunks.now.shape.items = search rules in
    let kept = c.loop-n.invariant in
    record {
      honest = kept.honest;
      refused = kept.refused;
      counts = (kept.counts.0, omega (arith, kept.counts.1));
    }

pub returns-clause-ok : goal.returns-clause-ok
returns-clause-ok g c = λ honest.
    let array = c.args.self.now in
    let write = write_of g.C.ArrayToBytesCodecTraits array c.args.write.now in
    let chunks : Region = region_of c.args.chunks.now in
    let old = g.S.ReadableStorageTraits.held c.args.store.now in
    let walk = walk_of g.C.ArrayToBytesCodecTraits (g.met.C.ArrayToBytesCodecTraits g.world.𝓛 g.world.𝓜 g.world.𝓡 ((λ s x. x), (λ x. x), (λ x. x), λ x. x)).lawful array c.args.write.now chunks (sym c.args.write.now.region.same) (sym c.args.chunks.now.same) c.requires.rank c.requires.intersecting c.requires.values in
    let total : c.unwrap-count.result ≡ product chunks.shape = search rules in
    wrote_all write chunks c.loop-n.n old (g.S.ReadableStorageTraits.held c.loop-n.store) walk (omega arith) (c.loop-n.invariant.wrote honest)

pub returns-clause-turns : goal.returns-clause-turns
returns-clause-turns g c = λ honest.
    let chunks : Region = region_of c.args.chunks.now in
    let total : c.unwrap-count.result ≡ product chunks.shape = search rules in
    turns_all g.S.ReadableStorageTraits (array_of g.C.ArrayToBytesCodecTraits c.args.self.now) chunks c.loop-n.n c.args.store.now c.loop-n.store (sym c.args.chunks.now.same) (omega arith) (c.loop-n.invariant.turns honest)
