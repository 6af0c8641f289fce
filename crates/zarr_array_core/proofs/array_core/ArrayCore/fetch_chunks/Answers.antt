use Rattle.std.proofs.Common.{◌≡◌, ◌∙◌, ◌<◌, ℕ, length, sym, ap, subst, refl, rules, arith}
use Rattle.zarr_grids_boxes.specs.Boxes.{Region, product}
use Rattle.zarr_grids_boxes.specs.Subsets.{region_of}
use Rattle.zarr_array_meaning.specs.ReadBytes.{box_read}
use Rattle.zarr_array_core.specs.Arrays.{array_of}
use Rattle.zarr_array_core.specs.Fetching.{EachChunk, IsFetched, read_of}
use Rattle.zarr_array_core.specs.Outcomes.{CountsStop}
use Rattle.zarr_array_core.specs.Views.{document_of, path_of}
use Rattle.zarr_array_core.proofs.GivenBytes.{first_given, more_given, stop_given}
use Rattle.zarr_array_core.proofs.Fetched.{fetched_all, fetched_more, fetched_until, no_chunk, same_read}
use Rattle.zarr_array_core.proofs.NthChunks.{nth_here, shares_here}
use Rattle.zarr_array_core.proofs.array_core.ArrayCore.fetch_chunks.Goals as goal

pub loop-n-init : goal.loop-n-init
loop-n-init g c =
    let chunks : Region = region_of c.args.read.now.chunks.now in
    let first = read_of g.C.ArrayToBytesCodecTraits g.S.ReadableStorageTraits c.args.self.now c.args.store.now (region_of c.args.read.now.region.now) in
    let none = c.new-chunks.ensures.items in
    record {
      each = subst (EachChunk chunks (IsFetched first)) (sym none) (no_chunk chunks (IsFetched first));
      long = ap length none;
      held = refl;
      honest = refl;
      refused = refl;
      accepted = refl;
      given = λ honest. omega arith;
    }

pub fetch_chunk-requires-clause-below : goal.fetch_chunk-requires-clause-below
fetch_chunk-requires-clause-below g c =
    let chunks : Region = region_of c.args.read.now.chunks.now in
    let at_place = rw (c.start-first.ensures, c.shape-shape.ensures) at c.place_into.ensures in
    let total : c.unwrap-count.result ≡ product chunks.shape = search rules in
    let below : c.loop-n.n < product chunks.shape = omega (arith, c.loop-n-test.true) in
    λ κs lives. nth_here (document_of g.C.ArrayToBytesCodecTraits.meaning c.args.self.now).grid chunks c.loop-n.n c.place_into.new.place (sym c.args.read.now.chunks.now.same) c.requires.intersecting.below below at_place

pub fetch_chunk-requires-clause-shares : goal.fetch_chunk-requires-clause-shares
fetch_chunk-requires-clause-shares g c =
    let chunks : Region = region_of c.args.read.now.chunks.now in
    let at_place = rw (c.start-first.ensures, c.shape-shape.ensures) at c.place_into.ensures in
    let total : c.unwrap-count.result ≡ product chunks.shape = search rules in
    let below : c.loop-n.n < product chunks.shape = omega (arith, c.loop-n-test.true) in
    λ κs lives. shares_here (document_of g.C.ArrayToBytesCodecTraits.meaning c.args.self.now).grid (region_of c.args.read.now.region.now) chunks c.loop-n.n c.place_into.new.place (sym c.args.read.now.chunks.now.same) c.requires.intersecting below at_place

pub loop-n-preserved : goal.loop-n-preserved
loop-n-preserved g c =
    let array = array_of g.C.ArrayToBytesCodecTraits c.args.self.now in
    let store = c.args.store.now in
    let region : Region = region_of c.args.read.now.region.now in
    let chunks : Region = region_of c.args.read.now.chunks.now in
    let s = g.S.ReadableStorageTraits in
    let first = read_of g.C.ArrayToBytesCodecTraits s c.args.self.now store region in
    let at_place = rw (c.start-first.ensures, c.shape-shape.ensures) at c.place_into.ensures in
    let step = c.in-Ok.ensures in
    let kept = c.loop-n.invariant in
    let fetched = same_read array (s.held store) (s.held c.loop-n.store) region (s.is_honest store) (s.is_honest c.loop-n.store) c.place_into.new.place c.in-Ok.fetched kept.held kept.honest step.fetched in
    let more = fetched_more first chunks c.loop-n.chunks.items c.push.new.self.items c.in-Ok.fetched c.loop-n.n c.place_into.new.place kept.each kept.long at_place fetched c.in_ok-push-in-Ok.ensures.items in
    record {
      each = more.0;
      long = more.1;
      held = step.store.held ∙ kept.held;
      honest = step.store.honest ∙ kept.honest;
      refused = step.store.refused ∙ kept.refused;
      accepted = step.store.accepted ∙ kept.accepted;
      given = λ honest. more_given array.path array.document (s.held store) (s.held c.loop-n.store) region c.args.read.now.options.now.workers chunks c.loop-n.n c.place_into.new.place (s.given_bytes store) (s.given_bytes c.loop-n.store) (s.given_bytes c.fetch_chunk.new.store)
          kept.held at_place (kept.given honest) (step.given (rw kept.honest honest));
    }

pub returns-in-Err-clause-fetched : goal.returns-in-Err-clause-fetched
returns-in-Err-clause-fetched g c =
    let store = c.args.store.now in
    let chunks : Region = region_of c.args.read.now.chunks.now in
    let first = read_of g.C.ArrayToBytesCodecTraits g.S.ReadableStorageTraits c.args.self.now store (region_of c.args.read.now.region.now) in
    let at_place = rw (c.start-first.ensures, c.shape-shape.ensures) at c.place_into.ensures in
    let total : c.unwrap-count.result ≡ product chunks.shape = search rules in
    let below : c.loop-n.n < product chunks.shape = omega (arith, c.loop-n-test.true) in
    let kept = c.loop-n.invariant in
    fetched_until first chunks c.loop-n.chunks.items c.loop-n.n c.place_into.new.place c.in-Err.error kept.each kept.long below at_place (λ honest. rw kept.held at (c.in-Err.ensures.err (rw kept.honest honest)))

pub returns-in-Err-clause-store : goal.returns-in-Err-clause-store
returns-in-Err-clause-store g c =
    let s = g.S.ReadableStorageTraits in
    let kept = c.loop-n.invariant in
    let last = c.in-Err.ensures.store in
    record {
      held = last.held ∙ kept.held;
      honest = last.honest ∙ kept.honest;
      refused = subst (λ (n : ℕ). CountsStop c.in-Err.error n (s.refused_calls c.fetch_chunk.new.store)) kept.refused last.refused;
      accepted = last.accepted ∙ kept.accepted;
    }

pub returns-clause-fetched : goal.returns-clause-fetched
returns-clause-fetched g c =
    let chunks : Region = region_of c.args.read.now.chunks.now in
    let first = read_of g.C.ArrayToBytesCodecTraits g.S.ReadableStorageTraits c.args.self.now c.args.store.now (region_of c.args.read.now.region.now) in
    let total : c.unwrap-count.result ≡ product chunks.shape = search rules in
    let kept = c.loop-n.invariant in
    fetched_all first chunks c.loop-n.chunks.items c.loop-n.n kept.each kept.long (omega (arith, total))

pub returns-in_err-push-in-Ok-clause-given : goal.returns-in_err-push-in-Ok-clause-given
returns-in_err-push-in-Ok-clause-given g c = λ honest.
    let s = g.S.ReadableStorageTraits in
    let chunks : Region = region_of c.args.read.now.chunks.now in
    let at_place = rw (c.start-first.ensures, c.shape-shape.ensures) at c.place_into.ensures in
    let total : c.unwrap-count.result ≡ product chunks.shape = search rules in
    let below : c.loop-n.n < product chunks.shape = omega (arith, c.loop-n-test.true) in
    let kept = c.loop-n.invariant in
    stop_given (path_of c.args.self.now) (document_of g.C.ArrayToBytesCodecTraits.meaning c.args.self.now) (s.held c.args.store.now) (s.held c.loop-n.store) (region_of c.args.read.now.region.now) c.args.read.now.options.now.workers chunks c.loop-n.n c.place_into.new.place
    (s.given_bytes c.args.store.now) (s.given_bytes c.loop-n.store) (s.given_bytes c.fetch_chunk.new.store) (sym c.args.read.now.chunks.now.same) c.requires.intersecting below kept.held at_place (kept.given honest) (c.fetch_chunk.ensures.given (rw kept.honest honest))

pub returns-in-Err-Memory-clause-given : goal.returns-in-Err-Memory-clause-given
returns-in-Err-Memory-clause-given g c = λ honest.
    let s = g.S.ReadableStorageTraits in
    let chunks : Region = region_of c.args.read.now.chunks.now in
    let at_place = rw (c.start-first.ensures, c.shape-shape.ensures) at c.place_into.ensures in
    let total : c.unwrap-count.result ≡ product chunks.shape = search rules in
    let below : c.loop-n.n < product chunks.shape = omega (arith, c.loop-n-test.true) in
    let kept = c.loop-n.invariant in
    stop_given (path_of c.args.self.now) (document_of g.C.ArrayToBytesCodecTraits.meaning c.args.self.now) (s.held c.args.store.now) (s.held c.loop-n.store) (region_of c.args.read.now.region.now) c.args.read.now.options.now.workers chunks c.loop-n.n c.place_into.new.place
    (s.given_bytes c.args.store.now) (s.given_bytes c.loop-n.store) (s.given_bytes c.fetch_chunk.new.store) (sym c.args.read.now.chunks.now.same) c.requires.intersecting below kept.held at_place (kept.given honest) (c.fetch_chunk.ensures.given (rw kept.honest honest))

pub returns-in-Err-clause-given : goal.returns-in-Err-clause-given
returns-in-Err-clause-given g c = λ honest.
    let s = g.S.ReadableStorageTraits in
    let chunks : Region = region_of c.args.read.now.chunks.now in
    let at_place = rw (c.start-first.ensures, c.shape-shape.ensures) at c.place_into.ensures in
    let total : c.unwrap-count.result ≡ product chunks.shape = search rules in
    let below : c.loop-n.n < product chunks.shape = omega (arith, c.loop-n-test.true) in
    let kept = c.loop-n.invariant in
    stop_given (path_of c.args.self.now) (document_of g.C.ArrayToBytesCodecTraits.meaning c.args.self.now) (s.held c.args.store.now) (s.held c.loop-n.store) (region_of c.args.read.now.region.now) c.args.read.now.options.now.workers chunks c.loop-n.n c.place_into.new.place
    (s.given_bytes c.args.store.now) (s.given_bytes c.loop-n.store) (s.given_bytes c.fetch_chunk.new.store) (sym c.args.read.now.chunks.now.same) c.requires.intersecting below kept.held at_place (kept.given honest) (c.fetch_chunk.ensures.given (rw kept.honest honest))

pub returns-clause-given : goal.returns-clause-given
returns-clause-given g c = λ honest.
    let s = g.S.ReadableStorageTraits in
    let chunks : Region = region_of c.args.read.now.chunks.now in
    let total : c.unwrap-count.result ≡ product chunks.shape = search rules in
    first_given (box_read (path_of c.args.self.now) (document_of g.C.ArrayToBytesCodecTraits.meaning c.args.self.now) (s.held c.args.store.now) (region_of c.args.read.now.region.now) c.args.read.now.options.now.workers) chunks c.loop-n.n
    (s.given_bytes c.args.store.now) (s.given_bytes c.loop-n.store) (sym c.args.read.now.chunks.now.same) c.requires.intersecting (omega (arith, total)) (c.loop-n.invariant.given honest)
