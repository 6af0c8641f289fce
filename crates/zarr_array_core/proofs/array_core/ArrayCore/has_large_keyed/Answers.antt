use Rattle.std.proofs.Common.{◌≡◌, ◌∙◌, ◌<◌, sym, subst, rules, arith}
use Rattle.std.proofs.lemmas.Bool.{false≢true}
use Rattle.zarr_grids_boxes.specs.Boxes.{Region, product}
use Rattle.zarr_grids_boxes.specs.Subsets.{region_of}
use Rattle.zarr_grids_cover.specs.Sizes.{HasChunkOf}
use Rattle.zarr_array_meaning.specs.StoreMaps.{StoreMap}
use Rattle.zarr_array_core.specs.Arrays.{array_of}
use Rattle.zarr_array_core.specs.Rewriting.{IsLargeKeyedAt}
use Rattle.zarr_array_core.proofs.LargeKeyed.{none_so_large, none_next, none_large_keyed}
use Rattle.zarr_array_core.proofs.NthChunks.{nth_here}
use Rattle.zarr_array_core.proofs.array_core.ArrayCore.has_large_keyed.Goals as goal

pub returns-then-not-has_chunk_of-clause-ok : goal.returns-then-not-has_chunk_of-clause-ok
returns-then-not-has_chunk_of-clause-ok g c = λ honest.
    let array = array_of g.C.ArrayToBytesCodecTraits c.args.self.now in
    let chunks : Region = region_of c.args.chunks.now in
    let same = c.dimensions-grid.ensures ∙ c.grid.ensures.grid in (
      λ found. absurd (false≢true found),
      λ large. absurd (none_so_large array chunks c.cell_limit.result (g.S.ReadableStorageTraits.held c.args.store.now) (sym c.args.chunks.now.same) c.requires.all c.cell_limit.ensures
          (λ found. false≢true (sym c.if-not-has_chunk_of.true ∙ c.has_chunk_of.ensures.1 (subst (λ grid. HasChunkOf grid chunks c.cell_limit.result) (sym same) found))) large),
    )

pub is_large_keyed-requires : goal.is_large_keyed-requires
is_large_keyed-requires g c =
    let chunks : Region = region_of c.args.chunks.now in
    let at_place = rw (c.start.ensures, c.shape-in-loop-n.ensures) at c.place_into.ensures in
    let total : c.unwrap-count.result ≡ product chunks.shape = search rules in
    let below : c.loop-n.n < product chunks.shape = omega (arith, c.loop-n-test.true) in
    record { below = nth_here (array_of g.C.ArrayToBytesCodecTraits c.args.self.now).document.grid chunks c.loop-n.n c.place_into.new.place (sym c.args.chunks.now.same) c.requires.all.below below at_place }

pub loop-n-preserved : goal.loop-n-preserved
loop-n-preserved g c =
    let array = array_of g.C.ArrayToBytesCodecTraits c.args.self.now in
    let chunks : Region = region_of c.args.chunks.now in
    let at_place = rw (c.start.ensures, c.shape-in-loop-n.ensures) at c.place_into.ensures in
    let kept = c.loop-n.invariant in
    let step = c.in_ok-is_large_keyed.ensures in
    record {
      none = λ honest.
          none_next array chunks c.loop-n.n c.place_into.new.place (g.S.ReadableStorageTraits.held c.args.store.now) at_place (kept.none honest)
          (λ here. false≢true (sym c.if-branch.false ∙ (step.ok (rw kept.honest honest)).1 (subst (λ (store : StoreMap). IsLargeKeyedAt array c.place_into.new.place store) (sym kept.held) here)));
      held = step.held ∙ kept.held;
      honest = step.honest ∙ kept.honest;
      refused = step.refused ∙ kept.refused;
      accepted = step.accepted ∙ kept.accepted;
    }

pub returns-clause-ok : goal.returns-clause-ok
returns-clause-ok g c = λ honest.
    let array = array_of g.C.ArrayToBytesCodecTraits c.args.self.now in
    let chunks : Region = region_of c.args.chunks.now in
    let total : c.unwrap-count.result ≡ product chunks.shape = search rules in (
      λ found. absurd (false≢true found),
      λ large. absurd (none_large_keyed array chunks c.loop-n.n (g.S.ReadableStorageTraits.held c.args.store.now) (sym c.args.chunks.now.same) c.requires.all (omega (arith, total, c.loop-n-test.false)) (c.loop-n.invariant.none honest) large),
    )
