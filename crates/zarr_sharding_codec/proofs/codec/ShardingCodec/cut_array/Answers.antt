use Rattle.std.proofs.Common.{◌∙◌, ap, refl, sym, rules}
use Rattle.zarr_grids_boxes.specs.Boxes.{product}
use Rattle.zarr_codecs_arrays.specs.Views.{elements_of}
use Rattle.zarr_codecs_meaning.proofs.Parts.{length-parts}
use Rattle.zarr_sharding_index.specs.Views.{location_of}
use Rattle.zarr_sharding_codec.proofs.StoredLoop.{rank_fits}
use Rattle.zarr_sharding_codec.proofs.codec.ShardingCodec.cut_array.Goals as goal

pub grid_of-requires : goal.grid_of-requires
grid_of-requires g c =
    let self = c.args.self.now in
    let subchunk = self.subchunk_shape in
    let inner = g.I.ArrayToBytesCodecTraits.meaning self.inner_codecs in
    let index = g.X.ArrayToBytesCodecTraits.meaning self.index_codecs in
    let location = location_of self.index_location in
    let elements = elements_of c.args.array.elements.now in
    let shape = c.args.array.shape.now in
    rank_fits subchunk inner index location elements shape c.requires.fit

pub returns : goal.returns
returns g c =
    let shape = c.args.array.shape.now in
    let subchunk = c.args.self.now.subchunk_shape in
    record {
      fit = c.requires.fit;
      cells = c.requires.valid.0;
      valid = c.requires.valid.1;
      bytes_are = refl;
      shape_is = search rules;
      count_is = c.in-Some.ensures.1 ∙ (ap product (c.as_slice.ensures.value ∙ c.in_ok-counts.ensures) ∙ sym (length-parts shape subchunk));
    }
