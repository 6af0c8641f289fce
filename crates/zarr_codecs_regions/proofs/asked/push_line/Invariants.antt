use Rattle.std.proofs.Common.{◌≡◌, ◌++◌, ◌-◌, ◌≤◌}
use Rattle.std.specs.List.{range_with_len}
use Rattle.zarr_codecs_regions.proofs.asked.push_line.Given as goal

-- the numbers so far
abbrev pub invariant-loop-number : goal.invariant-loop-number
invariant-loop-number l = (l.numbers.items ≡ l.initial.numbers.items ++ range_with_len l.first (l.number - l.first)) × (l.first ≤ l.number)
