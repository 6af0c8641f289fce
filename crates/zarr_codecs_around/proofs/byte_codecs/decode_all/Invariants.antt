use Rattle.std.proofs.Common.{◌≡◌, drop, map, Some}
use Rattle.zarr_codecs_around.specs.Codecs.{all_decoded}
use Rattle.zarr_codecs_around.proofs.byte_codecs.decode_all.Given as goal

-- the codecs from this one on are undone
abbrev pub invariant-loop-k : goal.invariant-loop-k
invariant-loop-k g l = all_decoded (map g.B.BytesToBytesCodecTraits.meaning (drop l.k l.codecs)) l.initial.inside.items ≡ Some l.inside.items
