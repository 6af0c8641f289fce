use Rattle.std.proofs.Common.{◌≡◌, ◌-◌, length, take}
use Rattle.json.specs.Print.{escape}
use Rattle.zarr_run_commands.proofs.cursor.plain_len.Given as goal

-- the bytes so far stand for themselves
abbrev pub invariant-loop-count : goal.invariant-loop-count
invariant-loop-count l = escape (take l.count l.bytes) ≡ take l.count l.bytes

abbrev pub decreases-loop-count : goal.decreases-loop-count
decreases-loop-count l = length l.bytes - l.count
