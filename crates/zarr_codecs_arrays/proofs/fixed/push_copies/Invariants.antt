use Rattle.std.proofs.Common.{◌≡◌, ◌++◌}
use Rattle.std.specs.List.{repeat}
use Rattle.zarr_codecs_arrays.proofs.fixed.push_copies.Given as goal

abbrev pub invariant-loop-copy : goal.invariant-loop-copy
invariant-loop-copy l = l.bytes.items ≡ l.initial.bytes.items ++ repeat l._copy l.piece
