use Rattle.std.proofs.Common.{◌≡◌, take}
use Rattle.zarr_codecs_around.specs.Views.{array_points, codecs_of}
use Rattle.zarr_codecs_around.proofs.array_metadata.array_copies.Given as goal

-- the copies so far are those of the codecs so far
abbrev pub invariant-loop-codec : goal.invariant-loop-codec
invariant-loop-codec l =
    (codecs_of l.copies.items ≡ codecs_of (take l.codec-index l.codecs))
    × (array_points l.copies.items ≡ array_points (take l.codec-index l.codecs))
