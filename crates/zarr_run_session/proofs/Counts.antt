-- How many calls of the store were refused, by what is answered.
use Rattle.std.proofs.Common.{◌≡◌, inl, ℕ, List, Bool, refl, sym, subst, Result, Ok, Err}
use Rattle.zarr_codecs_arrays.specs.declared.array_bytes.ArrayBytes.{ArrayBytes}
use Rattle.zarr_run_boxes.specs.Outcomes as boxes
use Rattle.zarr_run_boxes.specs.declared.refusal.Refusal.{Refusal}
use Rattle.zarr_run_meaning.specs.Requests.{Answer}
use Rattle.zarr_run_meaning.specs.Steps.{CountsRefusal}
use Rattle.zarr_run_meaning.specs.declared.cause.Cause.{Cause}
use Rattle.zarr_run_meaning.specs.declared.cause.Cause.TheVariants as cause
use Rattle.zarr_run_meaning.proofs.RefusedCounts.{counts_exact}
use Rattle.zarr_run_opening.specs.Calls as opening
use Rattle.zarr_run_opening.specs.Sessions.{Arrays, answer_of}
use Rattle.zarr_run_session.specs.Finding.{NotFound}
use Rattle.zarr_run_session.specs.Replies.{answer_after, answer_changed, answer_with}
use Rattle.zarr_run_session.specs.Sessions.{CountsAnswer}

-- the same of what is answered
answer_counts : (answer said : Answer) (count after : ℕ) → answer ≡ said → CountsAnswer said count after → CountsAnswer answer count after
answer_counts answer said count after is counts = let P : Answer → Type 0 = λ a. CountsAnswer a count after in subst P (sym is) counts

-- a command that is done, or refused before it changed anything
pub outcome_counts : (outcome : Result (Unit {0}) Cause) (answer : Answer) (count after : ℕ) → answer ≡ answer_of outcome → after ≡ opening.refused_by count outcome → CountsAnswer answer count after
outcome_counts (Ok x) answer count after is counts = answer_counts answer (answer_of (Ok x)) count after is counts
outcome_counts (Err c) answer count after is counts = answer_counts answer (answer_of (Err c)) count after is (counts_exact c count after counts)

-- a command that changes chunks
pub change_counts : (outcome : Result (Unit {0}) Refusal) (answer : Answer) (count after : ℕ) → answer ≡ answer_after outcome → after ≡ boxes.refused_by count outcome → CountsAnswer answer count after
change_counts (Ok x) answer count after is counts = answer_counts answer (answer_after (Ok x)) count after is counts
change_counts (Err refusal) answer count after is counts = answer_counts answer (answer_after (Err refusal)) count after is (counts_exact refusal.cause count after counts)

-- a command that reads
pub read_counts : (outcome : Result ArrayBytes Cause) (answer : Answer) (count after : ℕ) → answer ≡ answer_with outcome → boxes.CountsRead outcome count after → CountsAnswer answer count after
read_counts (Ok bytes) answer count after is counts = answer_counts answer (answer_with (Ok bytes)) count after is counts
read_counts (Err c) answer count after is counts = answer_counts answer (answer_with (Err c)) count after is counts

-- a compaction
pub compaction_counts : (outcome : Result Bool Cause) (answer : Answer) (count after : ℕ) → answer ≡ answer_changed outcome → after ≡ boxes.refused_with count outcome → CountsAnswer answer count after
compaction_counts (Ok changed) answer count after is counts = answer_counts answer (answer_changed (Ok changed)) count after is counts
compaction_counts (Err c) answer count after is counts = answer_counts answer (answer_changed (Err c)) count after is (counts_exact c count after counts)

-- where no array is found, no call was made
pub not_found_counts : {B : Type 0} (arrays : Arrays B) (path : List ℕ) (c : Cause) (count : ℕ) → NotFound arrays path c → CountsRefusal c count count
not_found_counts arrays path cause.Path count is = inl refl
not_found_counts arrays path cause.NoArray count is = inl refl
not_found_counts arrays path c count is = absurd is
