use Rattle.std.proofs.Common.{◌∷◌, drop}
use Rattle.zarr_codecs_array_to_array.specs.Views.{codec_of}
use Rattle.zarr_codecs_around.specs.Views.{codecs_of}
use Rattle.zarr_codecs_around.proofs.MovedNumbers.{IsLeft}
use Rattle.zarr_codecs_around.proofs.moved_numbers.move_numbers.Given as goal

-- the codecs that are left make of the shape and the numbers so far what all of them make of the shape and the numbers
abbrev pub invariant-loop-codec : goal.invariant-loop-codec
invariant-loop-codec l = IsLeft (codecs_of (drop l.codec-index l.others)) (codec_of l.first ∷ codecs_of l.others) l.fn.part.shape.now l.fn.part.numbers.now l.shape.items l.numbers.items
