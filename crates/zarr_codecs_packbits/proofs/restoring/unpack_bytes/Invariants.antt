use Rattle.std.proofs.Common.{◌≡◌, ◌++◌, ◌*◌, ◌≤◌, length}
use Rattle.zarr_codecs_packbits.specs.Packing.{bytes_restored}
use Rattle.zarr_codecs_packbits.specs.Turning.{bits_of}
use Rattle.zarr_codecs_packbits.proofs.restoring.unpack_bytes.Given as goal

-- what is restored so far, and what the bytes that are left make, are all
abbrev pub invariant-loop-left : goal.invariant-loop-left
invariant-loop-left l = record {
  enough : l.left * l.kept.count ≤ 8 * length l.rest;
  written : l.bytes.items ++ bytes_restored l.kept l.left (bits_of l.rest) ≡ l.initial.bytes.items ++ bytes_restored l.kept l.count (bits_of l.value);
}

abbrev pub decreases-loop-left : goal.decreases-loop-left
decreases-loop-left l = l.left
