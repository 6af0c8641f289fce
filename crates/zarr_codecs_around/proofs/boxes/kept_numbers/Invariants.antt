use Rattle.std.proofs.Common.{◌≡◌, ◌++◌, drop}
use Rattle.zarr_codecs_boxes.specs.Regions.{kept_numbers}
use Rattle.zarr_codecs_around.proofs.boxes.kept_numbers.Given as goal

-- the numbers so far, and those that are left
abbrev pub invariant-loop-dimension : goal.invariant-loop-dimension
invariant-loop-dimension l = kept_numbers l.shape l.numbers ≡ l.kept.items ++ kept_numbers (drop l.dimension l.shape) (drop l.dimension l.numbers)
