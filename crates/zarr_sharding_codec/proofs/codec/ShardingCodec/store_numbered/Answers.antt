use Rattle.std.proofs.Common.{◌≡◌, ◌∙◌, ap}
use Rattle.zarr_grids_boxes.specs.Boxes.{Region}
use Rattle.zarr_grids_boxes.specs.Subsets.{region_of}
use Rattle.zarr_codecs_arrays.specs.Views.{elements_of, payload_of}
use Rattle.zarr_codecs_meaning.specs.Chains.{sharded}
use Rattle.zarr_codecs_meaning.specs.Places.{gather}
use Rattle.zarr_codecs_traits.specs.Arrays.{coded}
use Rattle.zarr_codecs_traits.specs.Indexers.{numbers_of}
use Rattle.zarr_sharding_index.specs.Views.{location_of}
use Rattle.zarr_sharding_places.specs.Locating.{part_shape, subchunk_box}
use Rattle.zarr_sharding_codec.specs.Pieces.{StoresNumbered}
use Rattle.zarr_sharding_codec.proofs.CutArrays.{stored_numbered}
use Rattle.zarr_sharding_codec.proofs.MadePieces.{answered}
use Rattle.zarr_sharding_codec.proofs.NumberedParts.{part_at, region_numbers}
use Rattle.zarr_sharding_codec.proofs.StoredLoop.{is_subchunk, piece_valid}
use Rattle.zarr_sharding_codec.proofs.codec.ShardingCodec.store_numbered.Goals as goal

pub returns : goal.returns
returns g c =
    let self = c.args.self.now in
    let subchunk = self.subchunk_shape in
    let inner = g.I.ArrayToBytesCodecTraits.meaning self.inner_codecs in
    let index = g.X.ArrayToBytesCodecTraits.meaning self.index_codecs in
    let location = location_of self.index_location in
    let elements = elements_of c.args.array.elements.now in
    let shape = c.args.array.shape.now in
    let exact = g.I.ArrayToBytesCodecTraits.is_function self.inner_codecs in
    let n = c.args.n in
    let r = c.store_piece.result in
    let payload = payload_of c.args.bytes.now in
    let region = region_of c.in_ok-region.region in
    let edges = c.shape-edges.result.now in
    let box : region ≡ subchunk_box shape subchunk n = c.in_ok-region.ensures.region in
    let same : edges ≡ part_shape shape subchunk n = c.shape-edges.ensures ∙ ap (λ (x : Region). x.shape) box in
    answered (StoresNumbered exact (coded (sharded subchunk inner index location) elements shape) payload n) r (c.store_piece.ensures.no_source 0) (λ cells fit valid.
    let is = is_subchunk subchunk inner index location elements shape n fit c.in_ok-region.ensures.below in
    let taken = c.in_ok-piece.ensures cells valid.is in
    let whole = piece_valid elements shape subchunk edges (numbers_of shape region) n cells payload (payload_of c.in_ok-piece.piece) c.args.array.elements.now.fills is valid same (region_numbers shape subchunk region n box) taken in
    stored_numbered inner exact elements shape subchunk edges n cells r is same (c.store_piece.ensures.stored (gather elements.fill cells (part_at shape subchunk n).places) whole))
