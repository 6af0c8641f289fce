use Rattle.std.proofs.Common.{◌≡◌, ◌+◌, ◌-◌, ◌≤◌, ◌++◌, get_or, length, map, take, true}
use Rattle.zarr_codecs_arrays.specs.Offsets.{are_rising}
use Rattle.zarr_codecs_arrays.proofs.offsets.push_ends.Given as goal

abbrev pub invariant-loop-end : goal.invariant-loop-end
invariant-loop-end l =
    (l.offsets.items ≡ l.initial.offsets.items ++ map (λ end. l.base + (end - l.start)) (take l.end-index l.ends))
    × (are_rising l.offsets.items ≡ true) × (get_or l.offsets.items (length l.offsets.items - 1) 0 ≡ l.base + (l.before - l.start)) × (l.start ≤ l.before)
