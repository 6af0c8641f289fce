-- What is answered to commands by their outcomes.
use Rattle.std.specs.Prelude.{Bool, Result, Ok, Err}
use Rattle.zarr_codecs_arrays.specs.Views.{payload_of}
use Rattle.zarr_codecs_arrays.specs.declared.array_bytes.ArrayBytes.{ArrayBytes}
use Rattle.zarr_run_boxes.specs.declared.refusal.Refusal.{Refusal}
use Rattle.zarr_run_meaning.specs.Requests.{Answer, done, cells, compacted, refused}
use Rattle.zarr_run_meaning.specs.declared.cause.Cause.{Cause}

-- what is answered to a command that changes chunks
abbrev pub answer_after : Result (Unit {0}) Refusal → Answer
answer_after (Ok x) = done
answer_after (Err refusal) = refused refusal.cause refusal.applied

-- what is answered to a command that reads
abbrev pub answer_with : Result ArrayBytes Cause → Answer
answer_with (Ok bytes) = cells (payload_of bytes)
answer_with (Err cause) = refused cause 0

-- what is answered to a compaction
abbrev pub answer_changed : Result Bool Cause → Answer
answer_changed (Ok changed) = compacted changed
answer_changed (Err cause) = refused cause 0
