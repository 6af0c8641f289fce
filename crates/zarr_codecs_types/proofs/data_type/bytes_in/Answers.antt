use Rattle.std.proofs.Common.{ap}
use Rattle.std.proofs.lemmas.List.{drop_all}
use Rattle.zarr_codecs_meaning.specs.Types.{bytes_in}
use Rattle.zarr_codecs_types.specs.Views.{components_of}
use Rattle.zarr_codecs_types.proofs.ValueLemmas.{counted}
use Rattle.zarr_codecs_types.proofs.data_type.bytes_in.Goals as goal

pub returns : goal.returns
returns c =
    let none = ap components_of (drop_all c.loop-part.part-index c.args.parts.now c.loop-part-test.false) in
    counted c.loop-part.count (bytes_in (components_of c.args.parts.now)) _ c.loop-part.invariant.whole none c.loop-part.invariant.fits
