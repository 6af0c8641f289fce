use Rattle.zarr_codecs_arrays.specs.Views.{elements_of, payload_of}
use Rattle.zarr_sharding_index.specs.Views.{pairs_of}
use Rattle.zarr_sharding_index.proofs.StoredIndex.{index_read}
use Rattle.zarr_sharding_index.proofs.stored.read_index.Goals as goal

pub returns-in-Ok : goal.returns-in-Ok
returns-in-Ok g c =
    index_read (g.X.ArrayToBytesCodecTraits.meaning c.args.codec.now) (elements_of c.in_ok-elements.elements) c.args.shape.now c.args.bytes.items (payload_of c.in-Ok.pairs) (pairs_of c.in_ok-from_numbers-in-Ok.field-0) c.requires.even
    c.in_ok-elements.ensures c.in-Ok.ensures c.in_ok-from_numbers-in-Ok.ensures
