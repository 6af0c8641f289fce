use Rattle.zarr_codecs_arrays.specs.Views.{elements_of, payload_of}
use Rattle.zarr_codecs_types.specs.Views.{type_of}
use Rattle.zarr_codecs_traits.specs.Indexers.{asked_of}
use Rattle.zarr_codecs_packbits.specs.Views.{packbits_chain}
use Rattle.zarr_codecs_packbits.proofs.AskedParts.{takes_part}
use Rattle.zarr_codecs_packbits.proofs.partial.decode_packed.Goals as goal

pub returns-in_ok-take_asked-in-Ok-clause-part :
    goal.returns-in_ok-take_asked-in-Ok-clause-part
returns-in_ok-take_asked-in-Ok-clause-part c =
    let part = c.args.packed.part in
    let elements = elements_of part.elements.now in
    takes_part (packbits_chain c.args.packed.codec) elements part.shape.now c.args.value.items (asked_of part.indexer) (type_of c.data_type-data_type.result.now) (payload_of c.in-Ok.bytes) (payload_of c.in_ok-take_asked-in-Ok.field-0)
    c.args.packed.inside c.data_type-data_type.ensures c.in-Ok.ensures (λ cells counted. c.in_ok-take_asked-in-Ok.ensures cells elements.fill counted)
