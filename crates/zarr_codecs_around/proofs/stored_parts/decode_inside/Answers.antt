use Rattle.std.proofs.Common.{refl, subst}
use Rattle.zarr_codecs_arrays.specs.Views.{elements_of}
use Rattle.zarr_codecs_traits.specs.Indexers.{asked_of}
use Rattle.zarr_codecs_traits.specs.Arrays.{coded}
use Rattle.zarr_codecs_traits.specs.Outcomes.{DecodesPart}
use Rattle.zarr_codecs_around.proofs.PartChains.{never_refused}
use Rattle.zarr_codecs_around.proofs.stored_parts.decode_inside.Goals as goal

pub returns-clause-part : goal.returns-clause-part
returns-clause-part g c =
    subst (λ stored. DecodesPart (coded (g.A.ArrayToBytesCodecTraits.meaning c.args.codec.now) (elements_of c.args.part.elements.now) c.args.part.shape.now) stored (asked_of c.args.part.indexer) c.partial_decode_in_order.result) c.new-source.ensures.contents (c.partial_decode_in_order.ensures.part refl)

pub returns-clause-no_source : goal.returns-clause-no_source
returns-clause-no_source g c = λ count. never_refused c.partial_decode_in_order.result c.partial_decode_in_order.ensures.refused count
