use Rattle.std.proofs.Common.{◌≡◌, ◌-◌, ◌≤◌, length, take}
use Rattle.std.specs.Str.Parse.{AllDigits, digits_value}
use Rattle.zarr_run_commands.proofs.cursor.digits_at_front.Given as goal

abbrev pub invariant-loop-count : goal.invariant-loop-count
invariant-loop-count l =
    AllDigits 10 (take l.count l.bytes) × (l.number ≡ digits_value 10 (take l.count l.bytes)) × (l.count ≤ l.stop) × (l.stop ≤ length l.bytes) × (l.stop ≤ 19)

abbrev pub decreases-loop-count : goal.decreases-loop-count
decreases-loop-count l = l.stop - l.count
