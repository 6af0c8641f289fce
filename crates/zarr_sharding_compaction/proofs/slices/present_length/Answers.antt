use Rattle.std.proofs.Common.{◌++◌, ◌∷◌, [], ap, sym, ◌∙◌, arith}
use Rattle.std.proofs.lemmas.List.{take_all}
use Rattle.zarr_sharding_changes.specs.Compaction.{slices_of}
use Rattle.zarr_sharding_index.specs.Views.{pairs_of, slice_lent}
use Rattle.zarr_sharding_compaction.proofs.Copying.{joined_length, lent_more, slices_none}
use Rattle.zarr_sharding_compaction.proofs.slices.present_length.Goals as goal

pub returns-in_default-clause-length : goal.returns-in_default-clause-length
returns-in_default-clause-length c =
    let sliced = c.args.sliced in
    let pairs = pairs_of sliced.index.now in
    let so_far = c.loop-n.invariant.slices in
    let count = c.len-n-end.ensures in
    slices_none sliced.base sliced.data.now pairs c.loop-n.n so_far.0 (omega (arith, c.loop-n-test.true, count)) so_far.1 (sym c.in_default.ensures)

pub loop-n-preserved : goal.loop-n-preserved
loop-n-preserved c =
    let sliced = c.args.sliced in
    let pairs = pairs_of sliced.index.now in
    let so_far = c.loop-n.invariant.slices in
    let count = c.len-n-end.ensures in
    let slice = slice_lent c.in-Some.stored in
    let long = joined_length so_far.0 slice in
    let more = c.slice_length.ensures.length in
    let small = c.slice_length.ensures.bound in
    let bound = c.loop-n.invariant.bound in
    record {
      slices = (so_far.0 ++ slice ∷ [], lent_more sliced.base sliced.data.now pairs c.loop-n.n so_far.0 c.in-Some.stored (omega (arith, c.loop-n-test.true, count)) so_far.1 c.in-Some.ensures, omega (arith, so_far.2, long, more));
      bound = omega (arith, bound, small);
    }

pub returns-clause-length : goal.returns-clause-length
returns-clause-length c =
    let sliced = c.args.sliced in
    let pairs = pairs_of sliced.index.now in
    let so_far = c.loop-n.invariant.slices in
    let count = c.len-n-end.ensures in
    (so_far.0, ap (slices_of sliced.base sliced.data.now) (sym (take_all c.loop-n.n pairs (omega (arith, c.loop-n-test.false, count)))) ∙ so_far.1, so_far.2)
