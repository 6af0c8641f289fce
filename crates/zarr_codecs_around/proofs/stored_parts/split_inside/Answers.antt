use Rattle.std.proofs.Common.{refl, subst}
use Rattle.zarr_codecs_arrays.specs.Views.{elements_of}
use Rattle.zarr_codecs_traits.specs.Indexers.{asked_of}
use Rattle.zarr_codecs_traits.specs.Arrays.{coded}
use Rattle.zarr_codecs_traits.specs.Pieces.{SplitsPart}
use Rattle.zarr_codecs_around.proofs.CutInside.{never_split}
use Rattle.zarr_codecs_around.proofs.stored_parts.split_inside.Goals as goal

pub returns-clause-part : goal.returns-clause-part
returns-clause-part g c =
    let A = g.A.ArrayToBytesCodecTraits in
    let array = coded (A.meaning c.args.codec.now) (elements_of c.args.part.elements.now) c.args.part.shape.now in
    let asked = asked_of c.args.part.indexer in
    subst (λ stored. SplitsPart (A.cuts_part c.args.codec.now array stored asked) array stored asked c.split_part.result) c.new-source.ensures.contents (c.split_part.ensures.part refl)

pub returns-clause-no_source : goal.returns-clause-no_source
returns-clause-no_source g c = λ count. never_split c.split_part.result c.split_part.ensures.refused count
