use Rattle.std.proofs.Common.{map, subst}
use Rattle.zarr_codecs_traits.specs.Outcomes.{MakesBytes}
use Rattle.zarr_codecs_arrays.specs.Views.{elements_of, payload_of}
use Rattle.zarr_codecs_around.specs.Codecs.{all_encoded}
use Rattle.zarr_codecs_chains.specs.Views.{bytes_lawful, codec_chain}
use Rattle.zarr_codecs_around.proofs.Chains.{encodes_with, refused_with}
use Rattle.zarr_codecs_chains.proofs.bytes_chain.BytesChainArrayToBytesCodecTraits.encode_in_order.Goals as goal

pub returns-in-Ok : goal.returns-in-Ok
returns-in-Ok g c =
    let codecs = map g.B.BytesToBytesCodecTraits.meaning c.args.self.now.bytes_to_bytes.items in
    let made = subst (λ xs. MakesBytes (all_encoded (map g.B.BytesToBytesCodecTraits.meaning xs)) c.in-Ok.made.items c.encode_all.result) c.as_slice.ensures.value c.encode_all.ensures in
    encodes_with (codec_chain g.B.BytesToBytesCodecTraits.meaning c.args.self.now.array_to_bytes) codecs (elements_of c.args.elements.now) c.args.shape.now c.in-Ok.made.items (payload_of c.args.bytes) c.encode_all.result c.in-Ok.ensures.0
    (bytes_lawful g.B.BytesToBytesCodecTraits.meaning g.met.B.BytesToBytesCodecTraits.lawful c.args.self.now) c.args.elements.now.fills c.in-Ok.ensures.1 made

pub returns-in-Err : goal.returns-in-Err
returns-in-Err g c =
    refused_with (codec_chain g.B.BytesToBytesCodecTraits.meaning c.args.self.now.array_to_bytes) (map g.B.BytesToBytesCodecTraits.meaning c.args.self.now.bytes_to_bytes.items) (elements_of c.args.elements.now) c.args.shape.now (payload_of c.args.bytes) c.in-Err.error c.in-Err.ensures
