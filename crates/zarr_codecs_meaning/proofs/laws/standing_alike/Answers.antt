use Rattle.std.proofs.Common.{◌∙◌, sym}
use Rattle.zarr_codecs_meaning.proofs.Meaning.{stands_decoded}
use Rattle.zarr_codecs_meaning.proofs.laws.standing_alike.Goals as goal

pub returns : goal.returns
returns c = λ chain elements shape value other cells lawful fit lossless are h k.
    stands_decoded chain elements shape value cells lawful fit lossless are h ∙ sym (stands_decoded chain elements shape other cells lawful fit lossless are k)
