use Rattle.std.proofs.Common.{◌∙◌, ap, sym, subst, length, Option, ℕ}
use Rattle.zarr_codecs_arrays.specs.Views.{elements_of}
use Rattle.zarr_codecs_meaning.specs.Chains.{sharded}
use Rattle.zarr_codecs_meaning.specs.Fits.{fits}
use Rattle.zarr_codecs_types.specs.Views.{type_of}
use Rattle.zarr_sharding_codec.specs.Fitting.{Suits}
use Rattle.zarr_sharding_index.specs.Views.{location_of}
use Rattle.zarr_sharding_codec.proofs.StoredLoop.{rank_fits}
use Rattle.zarr_sharding_partial.proofs.opened_decoder.open_shard.Goals as goal

pub grid_of-requires : goal.grid_of-requires
grid_of-requires g c =
    let codec = c.args.codec.now in
    let inner = g.I.ArrayToBytesCodecTraits.meaning codec.inner_codecs in
    let index = g.X.ArrayToBytesCodecTraits.meaning codec.index_codecs in
    let location = location_of codec.index_location in
    let elements = elements_of c.args.array.elements.now in
    let suits = subst (λ (found : Option ℕ). Suits (sharded codec.subchunk_shape inner index location) (type_of c.data_type.result.now) c.args.array.shape.now found) c.in-Some.is c.in_ok-length.ensures in
    rank_fits codec.subchunk_shape inner index location elements c.args.array.shape.now (ap (λ t. fits (sharded codec.subchunk_shape inner index location) t c.args.array.shape.now) (sym c.data_type.ensures) ∙ suits.0) ∙ ap length (sym c.subchunk_shape.ensures)

pub open_index-requires-clause-rank : goal.open_index-requires-clause-rank
open_index-requires-clause-rank g c =
    let codec = c.args.codec.now in
    let inner = g.I.ArrayToBytesCodecTraits.meaning codec.inner_codecs in
    let index = g.X.ArrayToBytesCodecTraits.meaning codec.index_codecs in
    let location = location_of codec.index_location in
    let elements = elements_of c.args.array.elements.now in
    let suits = subst (λ (found : Option ℕ). Suits (sharded codec.subchunk_shape inner index location) (type_of c.data_type.result.now) c.args.array.shape.now found) c.in-Some.is c.in_ok-length.ensures in
    rank_fits codec.subchunk_shape inner index location elements c.args.array.shape.now (ap (λ t. fits (sharded codec.subchunk_shape inner index location) t c.args.array.shape.now) (sym c.data_type.ensures) ∙ suits.0)
