use Rattle.std.proofs.Common.{◌∙◌, ap, ◌%◌}
use Rattle.zarr_grids_boxes.specs.Boxes.{product}
use Rattle.zarr_sharding_codec.proofs.DecodedShard.{even_index}
use Rattle.zarr_sharding_codec.proofs.codec.ShardingCodec.open_index.Goals as goal

pub fetch_index-requires-clause-even : goal.fetch_index-requires-clause-even
fetch_index-requires-clause-even g c =
    let same = c.as_slice-2.ensures.value ∙ c.in_ok-pairs_shape.ensures in
    ap (λ s. product s % 2) same ∙ even_index c.args.shape.now c.args.self.now.subchunk_shape
