use Rattle.std.proofs.Common.{◌*◌, ◌∙◌, ap, sym, subst}
use Rattle.zarr_grids_boxes.specs.Boxes.{product}
use Rattle.zarr_sharding_index.specs.Views.{pairs_of}
use Rattle.zarr_sharding_compaction.specs.Copying.{Copies}
use Rattle.zarr_sharding_compaction.proofs.Copying.{copied_many}
use Rattle.zarr_sharding_compaction.proofs.compact.write_slices.Goals as goal

pub write_index-requires-clause-many : goal.write_index-requires-clause-many
write_index-requires-clause-many g c =
    let sliced = c.args.sliced in
    let pairs = pairs_of sliced.index.now in
    let copied = subst (Copies sliced.base sliced.data.now pairs) c.in-Some.is c.in_ok-data.ensures in
    let many = copied_many sliced.base sliced.data.now pairs (c.in-Some.data, c.in-Some.index) copied in
    let shape = c.as_slice.ensures.value ∙ c.in_ok-pairs_shape.ensures in
    ap product shape ∙ (c.requires.many ∙ ap (λ n. 2 * n) (sym many))
