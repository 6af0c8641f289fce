use Rattle.std.proofs.Common.{map, subst, true}
use Rattle.zarr_codecs_traits.specs.Arrays.{coded}
use Rattle.zarr_codecs_traits.specs.Outcomes.{Encodes}
use Rattle.zarr_codecs_around.specs.Views.{lawful_with}
use Rattle.zarr_codecs_around.proofs.Chains.{encodes_with, refused_with}
use Rattle.zarr_codecs_around.proofs.byte_codecs.encode_made.Goals as goal

pub returns-in-Ok : goal.returns-in-Ok
returns-in-Ok g c = λ chain elements shape payload lawful fill done.
    let meaning = g.B.BytesToBytesCodecTraits.meaning in
    let before = subst (λ made. Encodes (coded chain elements shape) true payload made) c.in-Ok.is done in
    encodes_with chain (map meaning c.args.codecs.now) elements shape c.in-Ok.value.items payload c.encode_all.result before.0
    (lawful_with meaning g.met.B.BytesToBytesCodecTraits.lawful chain c.args.codecs.now lawful) fill before.1 c.encode_all.ensures

pub returns-in-Err : goal.returns-in-Err
returns-in-Err g c = λ chain elements shape payload lawful fill done.
    refused_with chain (map g.B.BytesToBytesCodecTraits.meaning c.args.codecs.now) elements shape payload c.in-Err.error (subst (λ made. Encodes (coded chain elements shape) true payload made) c.in-Err.is done)
