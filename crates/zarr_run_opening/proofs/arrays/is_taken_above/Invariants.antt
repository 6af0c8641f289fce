use Rattle.std.proofs.Common.{length}
use denote.Text.{Utf8}
use denote.Shadow.{shadow}
use Rattle.zarr_run_opening.proofs.TakenLemmas.{IsReachedFrom, IsHeldAt}
use Rattle.zarr_run_opening.proofs.arrays.is_taken_above.Given as goal

-- the paths above the lower one are those above the path where an array may still be held
abbrev pub invariant-loop-parent : goal.invariant-loop-parent
invariant-loop-parent g l = shadow (Utf8 l.lower) × IsReachedFrom (IsHeldAt l.arrays) l.path l.lower

abbrev pub decreases-loop-parent : goal.decreases-loop-parent
decreases-loop-parent g l = length l.lower
