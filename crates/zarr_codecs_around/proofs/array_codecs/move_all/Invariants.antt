use Rattle.std.proofs.Common.{◌≡◌, drop, true, Result}
use Rattle.zarr_codecs_arrays.specs.Views.{elements_of, payload_of}
use Rattle.zarr_codecs_arrays.specs.declared.array_bytes.ArrayBytes.{ArrayBytes}
use Rattle.zarr_codecs_arrays.specs.declared.error.CodecError.{CodecError}
use Rattle.zarr_codecs_around.specs.ArrayCodecs.{MovesAll, all_fit}
use Rattle.zarr_codecs_around.specs.Views.{codecs_of}
use Rattle.zarr_codecs_around.proofs.array_codecs.move_all.Given as goal

-- the codecs that are left suit the shape so far, and what they make of the elements so far, all of them make of the elements
abbrev pub invariant-loop-codec : goal.invariant-loop-codec
invariant-loop-codec l =
    let left = codecs_of (drop l.codec-index l.codecs) in
    record {
      fit : all_fit left l.after.items ≡ true;
      moves : (r : Result ArrayBytes CodecError) → MovesAll left (elements_of l.elements) l.after.items (payload_of l.moved) r → MovesAll (codecs_of l.codecs) (elements_of l.elements) l.shape (payload_of l.initial.moved) r;
    }
