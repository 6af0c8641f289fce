use Rattle.std.proofs.Common.{◌∙◌, ◌<◌, ◌^◌, ℕ, List, sym, subst, inl, rules}
use Rattle.std.proofs.lemmas.Bool.{false≢true}
use Rattle.zarr_grids_boxes.specs.Boxes.{product}
use Rattle.zarr_grids_boxes.specs.Subsets.{region_of}
use Rattle.zarr_grids_cover.specs.Boxed.{AreBoxed}
use Rattle.zarr_array_core.specs.Arrays.{array_of}
use Rattle.zarr_run_boxes.proofs.Rewrites.{none_holds, many_large, none_large}
use Rattle.zarr_run_boxes.proofs.rewriting.chunks_to_rewrite.Goals as goal

pub returns-then-is_none-clause-err : goal.returns-then-is_none-clause-err
returns-then-is_none-clause-err g c = λ honest.
    let chunks = region_of c.in-Ok.chunks in
    let boxed = subst (λ grid. AreBoxed grid chunks) (c.dimensions.ensures ∙ c.grid.ensures.grid) c.in-Ok.ensures in
    inl (many_large (array_of g.C.ArrayToBytesCodecTraits c.args.array.now) (g.S.ReadableStorageTraits.held c.args.store.now) chunks (sym c.in-Ok.chunks.same) boxed
    (subst (λ (shape : List ℕ). product shape < 2 ^ 63 → ⊥) c.deref.ensures.value
    (none_holds c.count_places.result _ _ c.count_places.ensures c.if-is_none.ensures)))

pub returns-in-Ok-false-clause-small : goal.returns-in-Ok-false-clause-small
returns-in-Ok-false-clause-small g c = λ honest.
    let chunks = region_of c.in-Ok.chunks in
    let boxed = subst (λ grid. AreBoxed grid chunks) (c.dimensions.ensures ∙ c.grid.ensures.grid) c.in-Ok.ensures in
    let few : product c.in-Ok.chunks.shape.items < 2 ^ 63 = search rules in
    none_large (array_of g.C.ArrayToBytesCodecTraits c.args.array.now) (g.S.ReadableStorageTraits.held c.args.store.now) chunks (sym c.in-Ok.chunks.same) boxed few
    (λ large. false≢true (sym c.in-Ok-false.field-0-test ∙ (c.in-Ok-false.ensures.ok honest).1 large))
