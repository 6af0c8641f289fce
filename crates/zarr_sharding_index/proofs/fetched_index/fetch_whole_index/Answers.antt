use Rattle.std.proofs.Common.{◌∙◌, arith, sym}
use Rattle.zarr_sharding_index.specs.Views.{location_of, pair_of}
use Rattle.zarr_sharding_index.proofs.HeldIndex.{index_fetched, index_unfetched}
use Rattle.zarr_sharding_index.proofs.fetched_index.fetch_whole_index.Goals as goal

pub returns-in-Ok-read_index-clause-index : goal.returns-in-Ok-read_index-clause-index
returns-in-Ok-read_index-clause-index g c = λ honest.
    let total = c.in-Ok-Some.total in
    let less = c.if-layout-total.false in
    let first = c.in-Ok-Some.ensures in
    let same = g.met.D.BytesPartialDecoderTraits.same c.args.source.now c.size.new.self first.follows in
    let still = g.met.D.BytesPartialDecoderTraits.honest c.args.source.now c.size.new.self first.follows in
    index_fetched (g.X.ArrayToBytesCodecTraits.meaning c.args.codec.now) (location_of c.args.layout.location) c.args.layout.shape.now c.in-Ok.bytes.items c.args.layout.size (pair_of c.index_range-range.result)
    (g.D.BytesPartialDecoderTraits.contents c.args.source.now) (record { index = c.in-Ok-read_index.index; total = total }) (sym c.in-Ok-Some.field-0-is ∙ first.size honest) c.requires.size (omega (arith, less)) c.index_range-range.ensures.within
    c.index_range-range.ensures.bytes (λ value held long. c.in-Ok.ensures.slice (sym still ∙ honest) value (sym same ∙ held) long) c.in-Ok-read_index.ensures

pub returns-in-Err-fetch_slice-clause-index : goal.returns-in-Err-fetch_slice-clause-index
returns-in-Err-fetch_slice-clause-index g c = λ honest.
    let first = c.in-Ok-Some.ensures in
    let same = g.met.D.BytesPartialDecoderTraits.same c.args.source.now c.size.new.self first.follows in
    let still = g.met.D.BytesPartialDecoderTraits.honest c.args.source.now c.size.new.self first.follows in
    index_unfetched (g.X.ArrayToBytesCodecTraits.meaning c.args.codec.now) (location_of c.args.layout.location) c.args.layout.shape.now c.in-Ok-Some.total (pair_of c.index_range-range.result)
    (g.D.BytesPartialDecoderTraits.contents c.args.source.now) c.in-Err-fetch_slice.error (sym c.in-Ok-Some.field-0-is ∙ first.size honest) c.index_range-range.ensures.within
    (λ value held long. c.in-Err-fetch_slice.ensures.slice (sym still ∙ honest) value (sym same ∙ held) long)
