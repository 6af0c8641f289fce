use Rattle.std.proofs.Common.{◌≡◌, ◌-◌, drop, length}
use Rattle.zarr_codecs_array_to_array.proofs.Inverses.{positions_from}
use Rattle.zarr_codecs_array_to_array.proofs.walks.inverse.Given as goal

-- the places so far are those of numbers that stand in what has been passed, from the end on
abbrev pub invariant-loop-step : goal.invariant-loop-step
invariant-loop-step l = l.positions.items ≡ positions_from (length l.order - l.step) (drop (length l.order - l.step) l.order) (length l.order)
