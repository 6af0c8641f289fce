use Rattle.std.proofs.Common.{◌≡◌, List, ℕ, length, true}
use Rattle.zarr_codecs_arrays.specs.Views.{elements_of}
use Rattle.zarr_codecs_meaning.specs.Chains.{sharded}
use Rattle.zarr_codecs_meaning.specs.Encoding.{Pair}
use Rattle.zarr_codecs_meaning.specs.Fits.{fits}
use Rattle.zarr_codecs_meaning.specs.Places.{parts_of}
use Rattle.zarr_codecs_traits.specs.Arrays.{coded}
use Rattle.zarr_sharding_index.specs.Views.{location_of}
use Rattle.zarr_sharding_codec.specs.Pieces.{AreDecoded, AreSliced}
use Rattle.zarr_sharding_codec.proofs.PutSlices.{PutSoFar}
use Rattle.zarr_sharding_codec.proofs.codec.ShardingCodec.put_slices.Given as goal

-- the elements of the first slices were put over the fill
abbrev pub invariant-loop-j : goal.invariant-loop-j
invariant-loop-j g l =
    let subchunk = l.self.subchunk_shape in
    let inner = g.I.ArrayToBytesCodecTraits.meaning l.self.inner_codecs in
    let chain = sharded subchunk inner (g.X.ArrayToBytesCodecTraits.meaning l.self.index_codecs) (location_of l.self.index_location) in
    let elements = elements_of l.array.elements.now in
    let shape = l.array.shape.now in
    record {
      shown : (value : List ℕ) (pairs : List Pair) → fits chain elements.type shape ≡ true → length pairs ≡ length (parts_of shape subchunk) → (sliced : AreSliced pairs l.slices) → AreDecoded (coded chain elements shape) value l.slices l.found
          → PutSoFar inner elements shape subchunk value sliced.present l.all l.j;
    }
