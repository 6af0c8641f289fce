use Rattle.std.proofs.Common.{◌≡◌, ◌∙◌, ◌<◌, ℕ, List, refl, sym, rules, arith}
use Rattle.zarr_grids_boxes.specs.Boxes.{Region, product}
use Rattle.zarr_grids_boxes.specs.Subsets.{region_of}
use Rattle.zarr_array_elements.specs.Views.{cells_shown}
use Rattle.zarr_array_elements.proofs.Shown.{length-shown}
use Rattle.zarr_array_meaning.specs.ReadBytes.{box_read}
use Rattle.zarr_array_meaning.specs.StoreMaps.{StoreMap}
use Rattle.zarr_array_core.specs.Arrays.{array_of}
use Rattle.zarr_array_core.specs.Outcomes.{ReadStops}
use Rattle.zarr_array_core.specs.Parts.{FindsAt}
use Rattle.zarr_array_core.specs.Views.{document_of, path_of}
use Rattle.zarr_array_core.proofs.GivenBytes.{first_given, more_given, stop_given}
use Rattle.zarr_array_core.proofs.NthChunks.{nth_here, shares_here}
use Rattle.zarr_array_core.proofs.ReadCounts.{if_err_is, memory_passed, passed_counts}
use Rattle.zarr_array_core.proofs.ReadSoFar.{read_end, read_next, read_none, read_stops}
use Rattle.zarr_array_core.proofs.array_core.ArrayCore.read_chunks.Goals as goal

pub loop-n-init : goal.loop-n-init
loop-n-init g c =
    let array = array_of g.C.ArrayToBytesCodecTraits c.args.self.now in
    record {
      shown = c.requires.shown;
      read = λ honest. read_none array (g.S.ReadableStorageTraits.held c.args.store.now) (region_of c.args.read.now.region.now) (cells_shown array.document.elements c.args.shown) c.requires.fill;
      held = refl;
      honest = refl;
      refused = refl;
      accepted = refl;
      given = λ honest. omega arith;
    }

pub chunk_part-requires-clause-below : goal.chunk_part-requires-clause-below
chunk_part-requires-clause-below g c =
    let chunks : Region = region_of c.args.read.now.chunks.now in
    let at_place = rw (c.start-first.ensures, c.shape-shape.ensures) at c.place_into.ensures in
    let total : c.unwrap-count.result ≡ product chunks.shape = search rules in
    let below : c.loop-n.n < product chunks.shape = omega (arith, c.loop-n-test.true) in
    λ κs lives. nth_here (document_of g.C.ArrayToBytesCodecTraits.meaning c.args.self.now).grid chunks c.loop-n.n c.place_into.new.place (sym c.args.read.now.chunks.now.same) c.requires.intersecting.below below at_place

pub chunk_part-requires-clause-shares : goal.chunk_part-requires-clause-shares
chunk_part-requires-clause-shares g c =
    let chunks : Region = region_of c.args.read.now.chunks.now in
    let at_place = rw (c.start-first.ensures, c.shape-shape.ensures) at c.place_into.ensures in
    let total : c.unwrap-count.result ≡ product chunks.shape = search rules in
    let below : c.loop-n.n < product chunks.shape = omega (arith, c.loop-n-test.true) in
    λ κs lives. shares_here (document_of g.C.ArrayToBytesCodecTraits.meaning c.args.self.now).grid (region_of c.args.read.now.region.now) chunks c.loop-n.n c.place_into.new.place (sym c.args.read.now.chunks.now.same) c.requires.intersecting below at_place

pub put_chunk_part-requires-clause-met : goal.put_chunk_part-requires-clause-met
put_chunk_part-requires-clause-met g c =
    let chunks : Region = region_of c.args.read.now.chunks.now in
    let at_place = rw (c.start-first.ensures, c.shape-shape.ensures) at c.place_into.ensures in
    let total : c.unwrap-count.result ≡ product chunks.shape = search rules in
    let below : c.loop-n.n < product chunks.shape = omega (arith, c.loop-n-test.true) in
    let shares = shares_here (document_of g.C.ArrayToBytesCodecTraits.meaning c.args.self.now).grid (region_of c.args.read.now.region.now) chunks c.loop-n.n c.place_into.new.place (sym c.args.read.now.chunks.now.same) c.requires.intersecting below at_place in
    (c.place_into.new.place, shares, c.in_ok-found.ensures.shared)

pub loop-n-preserved : goal.loop-n-preserved
loop-n-preserved g c =
    let s = g.S.ReadableStorageTraits in
    let array = array_of g.C.ArrayToBytesCodecTraits c.args.self.now in
    let grid = array.document.grid in
    let held : StoreMap = s.held c.args.store.now in
    let region : Region = region_of c.args.read.now.region.now in
    let chunks : Region = region_of c.args.read.now.chunks.now in
    let chunk : List ℕ = c.place_into.new.place in
    let at_place = rw (c.start-first.ensures, c.shape-shape.ensures) at c.place_into.ensures in
    let total : c.unwrap-count.result ≡ product chunks.shape = search rules in
    let below : c.loop-n.n < product chunks.shape = omega (arith, c.loop-n-test.true) in
    let box = nth_here grid chunks c.loop-n.n chunk (sym c.args.read.now.chunks.now.same) c.requires.intersecting.below below at_place in
    let shares = shares_here grid region chunks c.loop-n.n chunk (sym c.args.read.now.chunks.now.same) c.requires.intersecting below at_place in
    let found = c.in_ok-found.ensures in
    let put = c.in_ok-target.ensures in
    let kept = c.loop-n.invariant in
    let elements = array.document.elements in
    record {
      shown = put.shown;
      read = λ honest.
          let finds : FindsAt array held chunk c.in_ok-found.found = rw kept.held at (found.found (rw kept.honest honest)) in
          read_next array held region chunks c.loop-n.n chunk (cells_shown elements c.loop-n.target) (cells_shown elements c.in_ok-target.target) box at_place (λ other over. put.ok held chunk other over shares found.shared finds) (kept.read honest);
      held = found.store.held ∙ kept.held;
      honest = found.store.honest ∙ kept.honest;
      refused = found.store.refused ∙ kept.refused;
      accepted = found.store.accepted ∙ kept.accepted;
      given = λ honest. more_given array.path array.document held (s.held c.loop-n.store) region c.args.read.now.options.now.workers chunks c.loop-n.n chunk (s.given_bytes c.args.store.now) (s.given_bytes c.loop-n.store) (s.given_bytes c.chunk_part.new.store)
          kept.held at_place (kept.given honest) (found.given (rw kept.honest honest));
    }

pub returns-in_err-found-clause-err : goal.returns-in_err-found-clause-err
returns-in_err-found-clause-err g c = λ honest.
    let array = array_of g.C.ArrayToBytesCodecTraits c.args.self.now in
    let held : StoreMap = g.S.ReadableStorageTraits.held c.args.store.now in
    let region : Region = region_of c.args.read.now.region.now in
    let chunks : Region = region_of c.args.read.now.chunks.now in
    let at_place = rw (c.start-first.ensures, c.shape-shape.ensures) at c.place_into.ensures in
    let total : c.unwrap-count.result ≡ product chunks.shape = search rules in
    let below : c.loop-n.n < product chunks.shape = omega (arith, c.loop-n-test.true) in
    let kept = c.loop-n.invariant in
    let e = c.in_err-found.field-0.0 in
    let residual = c.from_residual-in_err-found in
    if_err_is residual.result e (ReadStops array.path array.document held region) residual.ensures.1
    (read_stops array held region chunks c.loop-n.n c.place_into.new.place (cells_shown array.document.elements c.loop-n.target) e
    (sym c.args.read.now.chunks.now.same) c.requires.intersecting below at_place (rw kept.held at (c.in_err-found.ensures.err (rw kept.honest honest))) (kept.read honest))

pub returns-in_err-found-clause-store : goal.returns-in_err-found-clause-store
returns-in_err-found-clause-store g c =
    let s = g.S.ReadableStorageTraits in
    let kept = c.loop-n.invariant in
    let last = c.in_err-found.ensures.store in
    let residual = c.from_residual-in_err-found in
    record {
      held = last.held ∙ kept.held;
      honest = last.honest ∙ kept.honest;
      refused = passed_counts residual.result c.in_err-found.field-0.0 (s.refused_calls c.args.store.now) (s.refused_calls c.loop-n.store) (s.refused_calls c.chunk_part.new.store) residual.ensures.1 kept.refused last.refused;
      accepted = last.accepted ∙ kept.accepted;
    }

pub returns-in_err-target-clause-store : goal.returns-in_err-target-clause-store
returns-in_err-target-clause-store g c =
    let s = g.S.ReadableStorageTraits in
    let kept = c.loop-n.invariant in
    let found = c.in_ok-found.ensures.store in
    let residual = c.from_residual-in_err-target in
    record {
      held = found.held ∙ kept.held;
      honest = found.honest ∙ kept.honest;
      refused = memory_passed residual.result c.in_err-target.field-0.0 (s.refused_calls c.args.store.now) (s.refused_calls c.chunk_part.new.store) residual.ensures.1 c.in_err-target.ensures.err (found.refused ∙ kept.refused);
      accepted = found.accepted ∙ kept.accepted;
    }

pub returns-in_err-found-clause-given : goal.returns-in_err-found-clause-given
returns-in_err-found-clause-given g c = λ honest.
    let s = g.S.ReadableStorageTraits in
    let chunks : Region = region_of c.args.read.now.chunks.now in
    let at_place = rw (c.start-first.ensures, c.shape-shape.ensures) at c.place_into.ensures in
    let total : c.unwrap-count.result ≡ product chunks.shape = search rules in
    let below : c.loop-n.n < product chunks.shape = omega (arith, c.loop-n-test.true) in
    let kept = c.loop-n.invariant in
    stop_given (path_of c.args.self.now) (document_of g.C.ArrayToBytesCodecTraits.meaning c.args.self.now) (s.held c.args.store.now) (s.held c.loop-n.store) (region_of c.args.read.now.region.now) c.args.read.now.options.now.workers chunks c.loop-n.n c.place_into.new.place
    (s.given_bytes c.args.store.now) (s.given_bytes c.loop-n.store) (s.given_bytes c.chunk_part.new.store) (sym c.args.read.now.chunks.now.same) c.requires.intersecting below kept.held at_place (kept.given honest) (c.chunk_part.ensures.given (rw kept.honest honest))

pub returns-in_err-target-clause-given : goal.returns-in_err-target-clause-given
returns-in_err-target-clause-given g c = λ honest.
    let s = g.S.ReadableStorageTraits in
    let chunks : Region = region_of c.args.read.now.chunks.now in
    let at_place = rw (c.start-first.ensures, c.shape-shape.ensures) at c.place_into.ensures in
    let total : c.unwrap-count.result ≡ product chunks.shape = search rules in
    let below : c.loop-n.n < product chunks.shape = omega (arith, c.loop-n-test.true) in
    let kept = c.loop-n.invariant in
    stop_given (path_of c.args.self.now) (document_of g.C.ArrayToBytesCodecTraits.meaning c.args.self.now) (s.held c.args.store.now) (s.held c.loop-n.store) (region_of c.args.read.now.region.now) c.args.read.now.options.now.workers chunks c.loop-n.n c.place_into.new.place
    (s.given_bytes c.args.store.now) (s.given_bytes c.loop-n.store) (s.given_bytes c.chunk_part.new.store) (sym c.args.read.now.chunks.now.same) c.requires.intersecting below kept.held at_place (kept.given honest) (c.chunk_part.ensures.given (rw kept.honest honest))

pub returns-clause-ok : goal.returns-clause-ok
returns-clause-ok g c = λ honest.
    let array = array_of g.C.ArrayToBytesCodecTraits c.args.self.now in
    let document = document_of g.C.ArrayToBytesCodecTraits.meaning c.args.self.now in
    let region : Region = region_of c.args.read.now.region.now in
    let chunks : Region = region_of c.args.read.now.chunks.now in
    let total : c.unwrap-count.result ≡ product chunks.shape = search rules in
    read_end array (g.S.ReadableStorageTraits.held c.args.store.now) region chunks c.loop-n.n c.unwrap-count.result (cells_shown document.elements c.loop-n.target)
    (sym c.args.read.now.chunks.now.same) c.requires.intersecting total (omega arith) (length-shown document.elements region c.loop-n.target c.loop-n.invariant.shown) (c.loop-n.invariant.read honest)

pub returns-clause-given : goal.returns-clause-given
returns-clause-given g c = λ honest.
    let s = g.S.ReadableStorageTraits in
    let chunks : Region = region_of c.args.read.now.chunks.now in
    let total : c.unwrap-count.result ≡ product chunks.shape = search rules in
    first_given (box_read (path_of c.args.self.now) (document_of g.C.ArrayToBytesCodecTraits.meaning c.args.self.now) (s.held c.args.store.now) (region_of c.args.read.now.region.now) c.args.read.now.options.now.workers) chunks c.loop-n.n
    (s.given_bytes c.args.store.now) (s.given_bytes c.loop-n.store) (sym c.args.read.now.chunks.now.same) c.requires.intersecting (omega (arith, total)) (c.loop-n.invariant.given honest)
