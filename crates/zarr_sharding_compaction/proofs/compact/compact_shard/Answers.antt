use Rattle.std.proofs.Common.{◌∙◌, ap, length}
use Rattle.zarr_grids_boxes.specs.Boxes.{product}
use Rattle.zarr_codecs_meaning.specs.Places.{parts_of}
use Rattle.zarr_codecs_meaning.proofs.Parts.{index_product}
use Rattle.zarr_sharding_compaction.proofs.Parity.{even_when}
use Rattle.zarr_sharding_compaction.proofs.compact.compact_shard.Goals as goal

pub read_index-requires-clause-even : goal.read_index-requires-clause-even
read_index-requires-clause-even g c =
    let shape = c.args.layout.shape.now in
    let subchunk = c.args.layout.subchunk_shape.now in
    even_when (product c.as_slice-pairs_shape.result.now) (length (parts_of shape subchunk)) (ap product (c.as_slice-pairs_shape.ensures.value ∙ c.in_ok-pairs_shape.ensures) ∙ index_product shape subchunk)
