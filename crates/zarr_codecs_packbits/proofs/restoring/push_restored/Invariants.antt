use Rattle.std.proofs.Common.{◌≡◌, ◌++◌, ◌-◌, ◌*◌}
use Rattle.zarr_codecs_meaning.specs.Numbers.{digits}
use Rattle.zarr_codecs_packbits.specs.Packing.{bytes_restored}
use Rattle.zarr_codecs_packbits.proofs.restoring.push_restored.Given as goal

-- what is restored so far, and what the rest of the word makes, are all
abbrev pub invariant-loop-n : goal.invariant-loop-n
invariant-loop-n l = l.bytes.items ++ bytes_restored l.kept (l.count - l.n) (digits 2 ((l.count - l.n) * l.kept.count) l.rest) ≡ l.initial.bytes.items ++ bytes_restored l.kept l.count (digits 2 (l.count * l.kept.count) l.word)
