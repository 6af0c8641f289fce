use Rattle.std.proofs.Common.{◌≡◌, take}
use Rattle.zarr_codecs_packbits.specs.Spans.{span_ranges}
use Rattle.zarr_codecs_packbits.proofs.spans.span_ranges.Given as goal

abbrev pub invariant-loop-span : goal.invariant-loop-span
invariant-loop-span l = l.ranges.items ≡ span_ranges l.bits (take l.span-index l.spans)
