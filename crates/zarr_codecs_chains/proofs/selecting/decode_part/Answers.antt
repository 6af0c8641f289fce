use Rattle.zarr_codecs_arrays.specs.Views.{elements_of, payload_of}
use Rattle.zarr_codecs_types.specs.Views.{type_of}
use Rattle.zarr_codecs_traits.specs.Indexers.{asked_of}
use Rattle.zarr_codecs_packbits.proofs.AskedParts.{takes_part}
use Rattle.zarr_codecs_chains.specs.Views.{codec_chain}
use Rattle.zarr_codecs_chains.proofs.PartsOfWhole.{part_undecoded, undecoded_source}
use Rattle.zarr_codecs_chains.proofs.selecting.decode_part.Goals as goal

pub returns-in_ok-take_asked-in-Ok-clause-part :
    goal.returns-in_ok-take_asked-in-Ok-clause-part
returns-in_ok-take_asked-in-Ok-clause-part g c =
    let part = c.args.part in
    let chain = codec_chain g.B.BytesToBytesCodecTraits.meaning c.args.codec.now in
    let elements = elements_of part.elements.now in
    takes_part chain elements part.shape.now c.args.value.items (asked_of part.indexer) (type_of c.data_type-data_type.result.now) (payload_of c.in-Ok.bytes) (payload_of c.in_ok-take_asked-in-Ok.field-0)
    c.requires.inside c.data_type-data_type.ensures c.in-Ok.ensures (λ cells counted. c.in_ok-take_asked-in-Ok.ensures cells elements.fill counted)

pub returns-in-Err-clause-part : goal.returns-in-Err-clause-part
returns-in-Err-clause-part g c =
    let part = c.args.part in
    let chain = codec_chain g.B.BytesToBytesCodecTraits.meaning c.args.codec.now in
    part_undecoded chain (elements_of part.elements.now) part.shape.now c.args.value.items (asked_of part.indexer) c.in-Err.error c.requires.whole c.requires.inside c.in-Err.ensures

pub returns-in-Err-clause-no_source : goal.returns-in-Err-clause-no_source
returns-in-Err-clause-no_source g c = λ count.
    let part = c.args.part in
    let chain = codec_chain g.B.BytesToBytesCodecTraits.meaning c.args.codec.now in
    undecoded_source chain (elements_of part.elements.now) part.shape.now c.args.value.items c.in-Err.error count c.in-Err.ensures
