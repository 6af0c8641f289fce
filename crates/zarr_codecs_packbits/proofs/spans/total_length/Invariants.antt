use Rattle.std.proofs.Common.{◌≡◌, ◌-◌, ◌^◌, min, take}
use Rattle.zarr_codecs_packbits.specs.Spans.{total_length}
use Rattle.zarr_codecs_packbits.proofs.spans.total_length.Given as goal

abbrev pub invariant-loop-range : goal.invariant-loop-range
invariant-loop-range l = l.total ≡ min (total_length (take l.range-index l.ranges)) (2 ^ 128 - 1)
