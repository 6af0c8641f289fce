use Rattle.std.proofs.Common.{◌≡◌, ◌∙◌, ap, sym, subst, arith, Option, ℕ, refl}
use Rattle.zarr_codecs_arrays.specs.Views.{elements_of}
use Rattle.zarr_codecs_meaning.specs.Chains.{sharded}
use Rattle.zarr_codecs_meaning.specs.Encoding.{index_size}
use Rattle.zarr_codecs_meaning.specs.Fits.{fits}
use Rattle.zarr_codecs_meaning.specs.Places.{index_shape}
use Rattle.zarr_codecs_types.specs.Views.{type_of}
use Rattle.zarr_sharding_codec.specs.Fitting.{Suits}
use Rattle.zarr_sharding_codec.proofs.StoredLoop.{rank_fits}
use Rattle.zarr_sharding_partial.specs.Shards.{ShardOf}
use Rattle.zarr_sharding_index.specs.Views.{location_of}
use Rattle.zarr_sharding_index.specs.Held.{held_as}
use Rattle.zarr_sharding_index.specs.Known.{end_of, pairs_in}
use Rattle.zarr_sharding_partial.proofs.Known.{opened_told}
use Rattle.std.specs.Prelude.{IfOk}
use Rattle.std.proofs.lemmas.Result.{IfOk-weaker}
use Rattle.zarr_sharding_codec.proofs.EncodedShard.{index_part}
use Rattle.zarr_sharding_index.specs.Opened.{IsLaid, IsOpenedAs}
use Rattle.zarr_sharding_index.specs.declared.known_shard.KnownShard.{KnownShard}
use Rattle.zarr_sharding_partial.specs.Tables.{IsTold}
use Rattle.zarr_sharding_partial.proofs.opened_state.open_known.Goals as goal

pub open_known-requires-clause-rank : goal.open_known-requires-clause-rank
open_known-requires-clause-rank g c =
    let codec = c.args.codec.now in
    let inner = g.I.ArrayToBytesCodecTraits.meaning codec.inner_codecs in
    let index = g.X.ArrayToBytesCodecTraits.meaning codec.index_codecs in
    let location = location_of codec.index_location in
    let shape = c.args.array.shape.now in
    let suits = subst (λ (found : Option ℕ). Suits (sharded codec.subchunk_shape inner index location) (type_of c.data_type.result.now) shape found) c.in-Some.is c.in_ok-size.ensures in
    rank_fits codec.subchunk_shape inner index location (elements_of c.args.array.elements.now) shape (ap (λ t. fits (sharded codec.subchunk_shape inner index location) t shape) (sym c.data_type.ensures) ∙ suits.0)

pub open_known-requires-clause-fit : goal.open_known-requires-clause-fit
open_known-requires-clause-fit g c =
    let codec = c.args.codec.now in
    let inner = g.I.ArrayToBytesCodecTraits.meaning codec.inner_codecs in
    let index = g.X.ArrayToBytesCodecTraits.meaning codec.index_codecs in
    let location = location_of codec.index_location in
    let shape = c.args.array.shape.now in
    let suits = subst (λ (found : Option ℕ). Suits (sharded codec.subchunk_shape inner index location) (type_of c.data_type.result.now) shape found) c.in-Some.is c.in_ok-size.ensures in
    index_part codec.subchunk_shape inner index location (elements_of c.args.array.elements.now) shape (ap (λ t. fits (sharded codec.subchunk_shape inner index location) t shape) (sym c.data_type.ensures) ∙ suits.0)

pub open_known-requires-clause-size : goal.open_known-requires-clause-size
open_known-requires-clause-size g c =
    let codec = c.args.codec.now in
    let inner = g.I.ArrayToBytesCodecTraits.meaning codec.inner_codecs in
    let index = g.X.ArrayToBytesCodecTraits.meaning codec.index_codecs in
    let location = location_of codec.index_location in
    let shape = c.args.array.shape.now in
    let suits = subst (λ (found : Option ℕ). Suits (sharded codec.subchunk_shape inner index location) (type_of c.data_type.result.now) shape found) c.in-Some.is c.in_ok-size.ensures in
    suits.1

pub returns-clause-laid : goal.returns-clause-laid
returns-clause-laid g c =
    let codec = c.args.codec.now in
    let inner = g.I.ArrayToBytesCodecTraits.meaning codec.inner_codecs in
    let index = g.X.ArrayToBytesCodecTraits.meaning codec.index_codecs in
    let location = location_of codec.index_location in
    let shape = c.args.array.shape.now in
    let suits = subst (λ (found : Option ℕ). Suits (sharded codec.subchunk_shape inner index location) (type_of c.data_type.result.now) shape found) c.in-Some.is c.in_ok-size.ensures in
    subst (λ n. IfOk c.open_known.result (IsLaid location (index_shape shape codec.subchunk_shape) n)) suits.1 c.open_known.ensures.laid

pub returns-clause-told : goal.returns-clause-told
returns-clause-told g c = λ honest.
    let codec = c.args.codec.now in
    let index = g.X.ArrayToBytesCodecTraits.meaning codec.index_codecs in
    let shape = c.args.array.shape.now in
    let pairs_shape = index_shape shape codec.subchunk_shape in
    let contents = g.D.BytesPartialDecoderTraits.contents c.args.source.now in
    let s : ShardOf = record {
      subchunk = codec.subchunk_shape;
      inner = g.I.ArrayToBytesCodecTraits.meaning codec.inner_codecs;
      index = index;
      location = location_of codec.index_location;
      elements = elements_of c.args.array.elements.now;
      shape = shape;
    } in
    IfOk-weaker c.open_known.result
    (IsOpenedAs index s.location pairs_shape contents)
    (λ (known : KnownShard). IsTold s (held_as contents (pairs_in known) (end_of known)))
    (λ known opened. opened_told s pairs_shape contents (pairs_in known) (end_of known) refl opened)
    (c.open_known.ensures.opened honest)

pub returns-clause-given : goal.returns-clause-given
returns-clause-given g c = λ honest.
    let codec = c.args.codec.now in
    let inner = g.I.ArrayToBytesCodecTraits.meaning codec.inner_codecs in
    let index = g.X.ArrayToBytesCodecTraits.meaning codec.index_codecs in
    let location = location_of codec.index_location in
    let shape = c.args.array.shape.now in
    let suits = subst (λ (found : Option ℕ). Suits (sharded codec.subchunk_shape inner index location) (type_of c.data_type.result.now) shape found) c.in-Some.is c.in_ok-size.ensures in
    let size : c.in-Some.size ≡ index_size index (index_shape shape codec.subchunk_shape) = suits.1 in
    let given = c.open_known.ensures.given honest in
    omega (arith, size, given)
