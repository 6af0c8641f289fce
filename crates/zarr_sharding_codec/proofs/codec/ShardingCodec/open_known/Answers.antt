use Rattle.std.proofs.Common.{◌∙◌, ◌%◌, List, ℕ, ap, arith, subst, sym}
use Rattle.std.specs.Prelude.{IfErr, IfOk}
use Rattle.zarr_grids_boxes.specs.Boxes.{product}
use Rattle.zarr_codecs_meaning.specs.Encoding.{index_size}
use Rattle.zarr_codecs_meaning.specs.Places.{index_shape}
use Rattle.zarr_sharding_index.specs.Opened.{IsLaid, IsOpenedAs, OpenRefused}
use Rattle.zarr_sharding_index.specs.Stored.{index_fits}
use Rattle.zarr_sharding_index.specs.Views.{location_of}
use Rattle.zarr_sharding_index.proofs.StoredIndex.{index_below}
use Rattle.zarr_sharding_codec.proofs.DecodedShard.{even_index}
use Rattle.zarr_sharding_codec.proofs.codec.ShardingCodec.open_known.Goals as goal

pub open-requires-clause-fit : goal.open-requires-clause-fit
open-requires-clause-fit g c = ap (index_fits (g.X.ArrayToBytesCodecTraits.meaning c.args.self.now.index_codecs)) (c.as_slice.ensures.value ∙ c.in_ok-pairs_shape.ensures) ∙ c.requires.fit

pub open-requires-clause-even : goal.open-requires-clause-even
open-requires-clause-even g c = ap (λ s. product s % 2) (c.as_slice.ensures.value ∙ c.in_ok-pairs_shape.ensures) ∙ even_index c.args.shape.now c.args.self.now.subchunk_shape

pub open-requires-clause-size : goal.open-requires-clause-size
open-requires-clause-size g c =
    let index = g.X.ArrayToBytesCodecTraits.meaning c.args.self.now.index_codecs in
    c.requires.size ∙ ap (index_size index) (sym (c.as_slice.ensures.value ∙ c.in_ok-pairs_shape.ensures))

pub open-requires-clause-low : goal.open-requires-clause-low
open-requires-clause-low g c =
    let self = c.args.self.now in
    let small = (index_below (g.X.ArrayToBytesCodecTraits.meaning self.index_codecs) (index_shape c.args.shape.now self.subchunk_shape) c.requires.fit).1 in
    let is = c.requires.size in
    omega (arith, small, is)

pub returns-clause-opened : goal.returns-clause-opened
returns-clause-opened g c = λ honest.
    let self = c.args.self.now in
    let index = g.X.ArrayToBytesCodecTraits.meaning self.index_codecs in
    let old = g.D.BytesPartialDecoderTraits.contents c.args.source.now in
    subst (λ (s : List ℕ). IfOk c.open.result (IsOpenedAs index (location_of self.index_location) s old))
    (c.as_slice.ensures.value ∙ c.in_ok-pairs_shape.ensures) (c.open.ensures.opened honest)

pub returns-clause-laid : goal.returns-clause-laid
returns-clause-laid g c =
    subst (λ (s : List ℕ). IfOk c.open.result (IsLaid (location_of c.args.self.now.index_location) s c.args.size)) (c.as_slice.ensures.value ∙ c.in_ok-pairs_shape.ensures) c.open.ensures.laid

pub returns-clause-cause : goal.returns-clause-cause
returns-clause-cause g c = λ honest.
    let self = c.args.self.now in
    let index = g.X.ArrayToBytesCodecTraits.meaning self.index_codecs in
    let old = g.D.BytesPartialDecoderTraits.contents c.args.source.now in
    subst (λ (s : List ℕ). IfErr c.open.result (OpenRefused index (location_of self.index_location) s old)) (c.as_slice.ensures.value ∙ c.in_ok-pairs_shape.ensures) (c.open.ensures.cause honest)
