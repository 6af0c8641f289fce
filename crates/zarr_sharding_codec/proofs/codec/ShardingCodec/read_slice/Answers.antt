use Rattle.std.proofs.Common.{ap, subst, refl, arith, length, Option, Some, List, ℕ}
use Rattle.std.proofs.lemmas.List.FromFn.{length-range_with_len}
use Rattle.zarr_codecs_arrays.specs.Views.{elements_of}
use Rattle.zarr_codecs_traits.specs.Indexers.{asked_of, numbers_asked}
use Rattle.zarr_codecs_traits.specs.Arrays.{coded}
use Rattle.zarr_codecs_traits.specs.Outcomes.{DecodesPart}
use Rattle.zarr_grids_boxes.specs.Boxes.{product}
use Rattle.zarr_sharding_codec.specs.Reading.{slice_cells}
use Rattle.zarr_sharding_codec.proofs.PartsRead.{lists_unrefused, slice_read}
use Rattle.zarr_sharding_codec.proofs.codec.ShardingCodec.read_slice.Goals as goal

pub decode_slice-requires-clause-some : goal.decode_slice-requires-clause-some
decode_slice-requires-clause-some g c =
    let some = c.requires.some in
    let are = ap length (c.asks_all.ensures c.if-asks_all.true) in
    let long = length-range_with_len 0 (product c.args.shape.now) in
    omega (arith, some, are, long)

pub returns : goal.returns
returns g c =
    let inner = g.I.ArrayToBytesCodecTraits.meaning c.args.self.now.inner_codecs in
    let elements = elements_of c.args.elements.now in
    let shape = c.args.shape.now in
    let asked = asked_of c.args.indexer in
    let r = c.partial_decode_in_order.result in
    let part = subst (λ (stored : Option (List ℕ)). DecodesPart (coded inner elements shape) stored asked r) c.new-source.ensures.contents (c.partial_decode_in_order.ensures.part refl) in
    let lists = slice_read inner elements shape c.args.slice.items asked r c.requires.fit c.requires.some c.requires.inside c.partial_decode_in_order.ensures.refused part in
    record { part = lists; no_source = λ count. lists_unrefused elements shape (slice_cells inner elements shape c.args.slice.items (numbers_asked shape asked)) r count lists }
