use Rattle.std.proofs.Common.{◌≡◌, ◌++◌, ℕ, List, false, take}
use Rattle.std.specs.List.{list_any}
use Rattle.zarr_codecs_traits.specs.Sources.{bytes_at, bytes_in_ranges}
use Rattle.zarr_codecs_bytes.specs.Lines.{bytes_of_lines, ends_after}
use Rattle.zarr_codecs_bytes.proofs.numbers.number_ranges.Given as goal

abbrev pub invariant-loop-number : goal.invariant-loop-number
invariant-loop-number l = record {
  are : (value : List ℕ) → bytes_in_ranges value l.ranges.items ++ bytes_at value l.open ≡ bytes_of_lines l.sizes.width l.sizes.line value (take l.number-index l.numbers);
  within : list_any (ends_after l.sizes.value) l.ranges.items ≡ false;
  last : ends_after l.sizes.value l.open ≡ false;
}
