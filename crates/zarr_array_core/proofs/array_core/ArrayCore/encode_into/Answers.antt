use Rattle.std.proofs.Common.{List, OnOk, refl, subst}
use Rattle.zarr_codecs_arrays.specs.Views.{payload_of}
use Rattle.zarr_codecs_meaning.specs.Types.{Cell, Elements}
use Rattle.zarr_codecs_traits.specs.Indexers.{in_box}
use Rattle.zarr_codecs_traits.specs.Arrays.{coded, update_of}
use Rattle.zarr_codecs_traits.specs.PartWriting.{IsEncodedInto, NotEncodedInto}
use Rattle.zarr_codecs_traits.specs.Sources.{source_contents}
use Rattle.zarr_grids_boxes.specs.Subsets.{region_of}
use Rattle.zarr_array_core.specs.Views.{document_of}
use Rattle.zarr_array_core.proofs.array_core.ArrayCore.encode_into.Goals as goal

pub returns-clause-ok : goal.returns-clause-ok
returns-clause-ok g c =
    let chain = (document_of g.C.ArrayToBytesCodecTraits.meaning c.args.self.now).chain in
    let exact = g.C.ArrayToBytesCodecTraits.is_function c.args.self.now.codecs in
    subst (λ (e : Elements). OnOk c.partial_encode_in_order.result ((cells : List Cell) × IsEncodedInto (coded chain e c.args.shape.now) exact (update_of (in_box (region_of c.args.part.now)) (payload_of c.args.given) (source_contents c.args.source.now)) cells (source_contents c.partial_encode_in_order.new.source)))
    c.in_ok-plain.ensures (c.partial_encode_in_order.ensures.ok refl)

pub returns-clause-cause : goal.returns-clause-cause
returns-clause-cause g c =
    let chain = (document_of g.C.ArrayToBytesCodecTraits.meaning c.args.self.now).chain in
    subst (λ (e : Elements). NotEncodedInto (coded chain e c.args.shape.now) (update_of (in_box (region_of c.args.part.now)) (payload_of c.args.given) (source_contents c.args.source.now)) c.partial_encode_in_order.result)
    c.in_ok-plain.ensures (c.partial_encode_in_order.ensures.cause refl)
