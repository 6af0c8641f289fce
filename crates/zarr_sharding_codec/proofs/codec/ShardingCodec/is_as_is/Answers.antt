use Rattle.std.proofs.Common.{◌≡◌, ◌∙◌, ◌^◌, ◌<◌, ap, arith, sym, true}
use Rattle.std.proofs.lemmas.Grind.{common_steps}
use Rattle.zarr_codecs_arrays.specs.Values.{takes_all_bytes}
use Rattle.zarr_codecs_arrays.specs.Views.{elements_of}
use Rattle.zarr_sharding_codec.proofs.AsIs.{read_as_is}
use Rattle.zarr_sharding_codec.proofs.codec.ShardingCodec.is_as_is.Goals as goal

pub returns : goal.returns
returns g c = λ _.
    let self = c.args.self.now in
    let elements = elements_of c.args.subchunk.elements.now in
    let found = c.in-Some.ensures in
    let width = c.in-Some.field-0 in
    let takes : takes_all_bytes elements.type ≡ true = ap takes_all_bytes (sym c.data_type.ensures) ∙ (sym c.takes_all_bytes.ensures ∙ c.if-not-takes_all_bytes.false) in
    let low : width < 2 ^ 64 = grind (arith, common_steps) in
    read_as_is (g.I.ArrayToBytesCodecTraits.meaning self.inner_codecs) elements c.args.subchunk.shape.now c.args.slice.now width c.requires (sym c.encodes_as_is.ensures ∙ c.if-not-encodes_as_is.false) takes found.0 low found.2 found.1 c.type_inv.slice
