use Rattle.std.proofs.Common.{ℕ, ◌+◌, ◌++◌, ◌∷◌, [], List, ap, sym, ◌∙◌, arith, length}
use Rattle.std.proofs.lemmas.List.{take_all}
use Rattle.zarr_codecs_meaning.specs.Encoding.{Pair, pair_at, pairs_from, slice_bytes}
use Rattle.zarr_sharding_changes.specs.Compaction.{slices_of}
use Rattle.zarr_sharding_index.specs.Views.{pairs_of, slice_lent}
use Rattle.zarr_sharding_compaction.proofs.Copying.{joined_more, lent_more, pairs_more, slices_none}
use Rattle.zarr_sharding_compaction.proofs.slices.copy_slices.Goals as goal

pub returns-in_default : goal.returns-in_default
returns-in_default c =
    let sliced = c.args.sliced in
    let pairs = pairs_of sliced.index.now in
    let so_far = c.loop-n.invariant in
    let count = c.len-n-end.ensures in
    slices_none sliced.base sliced.data.now pairs c.loop-n.n so_far.0 (omega (arith, c.loop-n-test.true, count)) so_far.1 (sym c.in_default.ensures)

pub loop-n-preserved : goal.loop-n-preserved
loop-n-preserved c =
    let sliced = c.args.sliced in
    let pairs = pairs_of sliced.index.now in
    let so_far = c.loop-n.invariant in
    let count = c.len-n-end.ensures in
    let slice = slice_lent c.in-Some.stored in (
      so_far.0 ++ slice ∷ [],
      lent_more sliced.base sliced.data.now pairs c.loop-n.n so_far.0 c.in-Some.stored (omega (arith, c.loop-n-test.true, count)) so_far.1 c.in-Some.ensures,
      c.in_ok-push_slice.ensures.slice ∙ (ap (λ (l : List ℕ). l ++ slice_bytes slice) so_far.2 ∙ sym (joined_more so_far.0 slice)),
      c.in_ok-push_slice.ensures.pair ∙ (ap (λ (l : List Pair). l ++ pair_at (sliced.base + length c.loop-n.copied.items) slice ∷ []) so_far.3
          ∙ (ap (λ (l : List ℕ). pairs_from sliced.base so_far.0 ++ pair_at (sliced.base + length l) slice ∷ []) so_far.2 ∙ sym (pairs_more sliced.base so_far.0 slice))),
    )

pub returns : goal.returns
returns c =
    let sliced = c.args.sliced in
    let pairs = pairs_of sliced.index.now in
    let so_far = c.loop-n.invariant in
    let count = c.len-n-end.ensures in
    (so_far.0, ap (slices_of sliced.base sliced.data.now) (sym (take_all c.loop-n.n pairs (omega (arith, c.loop-n-test.false, count)))) ∙ so_far.1, so_far.2, so_far.3)
