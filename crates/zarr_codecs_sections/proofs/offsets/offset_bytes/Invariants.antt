use Rattle.std.proofs.Common.{◌≡◌, ◌-◌, flat_map, take}
use Rattle.zarr_codecs_meaning.specs.Numbers.{digits}
use Rattle.zarr_codecs_sections.proofs.offsets.offset_bytes.Given as goal

-- the offsets so far
abbrev pub invariant-loop-offset : goal.invariant-loop-offset
invariant-loop-offset l = l.bytes.items ≡ flat_map (λ n. digits 256 l.byte_count (n - l.first)) (take l.offset-index l.offsets)
