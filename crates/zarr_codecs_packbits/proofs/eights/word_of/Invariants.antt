use Rattle.std.proofs.Common.{◌≡◌, ◌-◌, length, drop}
use Rattle.zarr_codecs_meaning.specs.Numbers.{number}
use Rattle.zarr_codecs_packbits.specs.Packing.{bits_from}
use Rattle.zarr_codecs_packbits.proofs.eights.word_of.Given as goal

-- the number of the last bytes
abbrev pub invariant-loop-i : goal.invariant-loop-i
invariant-loop-i l = l.word ≡ number 2 (bits_from l.kept.first l.kept.count (drop (length l.bytes - l.i) l.bytes))
