use Rattle.std.proofs.Common.{◌≡◌, ◌++◌, take}
use Rattle.std.specs.String.{string_bytes}
use Rattle.zarr_grids_keys.specs.Keys.{numbers_after}
use Rattle.zarr_grids_keys.specs.Separators.{separator_byte}
use Rattle.zarr_grids_keys.proofs.numbers.push_numbers.Given as goal

abbrev pub invariant-loop-index : goal.invariant-loop-index
invariant-loop-index l = string_bytes l.key ≡ string_bytes l.fn.key ++ numbers_after (separator_byte l.fn.separator) (take l.index-index l.chunk)
