use Rattle.std.proofs.Common.{◌∙◌, ap, ◌%◌}
use Rattle.zarr_grids_boxes.specs.Boxes.{product}
use Rattle.zarr_sharding_codec.proofs.DecodedShard.{even_index}
use Rattle.zarr_sharding_codec.proofs.codec.ShardingCodec.index_in.Goals as goal

pub decode_index-requires-clause-even : goal.decode_index-requires-clause-even
decode_index-requires-clause-even g c =
    let same = c.as_slice-shape.ensures.value ∙ c.in_ok-pairs_shape.ensures in
    ap (λ s. product s % 2) same ∙ even_index c.args.shape.now c.args.self.now.subchunk_shape
