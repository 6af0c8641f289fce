use Rattle.std.proofs.Common.{◌≡◌, drop}
use Rattle.zarr_codecs_around.specs.ArrayCodecs as after
use Rattle.zarr_codecs_around.specs.ArrayCodecs.{all_fit}
use Rattle.zarr_codecs_around.specs.Views.{codecs_of}
use Rattle.zarr_codecs_around.proofs.array_codecs.shape_after.Given as goal

-- the codecs that are left suit the shape so far, and make of it, what all of them do of the shape
abbrev pub invariant-loop-codec : goal.invariant-loop-codec
invariant-loop-codec l =
    let left = codecs_of (drop l.codec-index l.codecs) in
    record {
      fit : all_fit left l.after.items ≡ all_fit (codecs_of l.codecs) l.shape;
      last : after.shape_after left l.after.items ≡ after.shape_after (codecs_of l.codecs) l.shape;
    }
