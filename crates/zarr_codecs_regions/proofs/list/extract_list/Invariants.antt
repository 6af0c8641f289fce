use Rattle.std.proofs.Common.{◌≡◌, ◌*◌, flat_map, take, drop}
use Rattle.zarr_codecs_regions.proofs.list.extract_list.Given as goal

abbrev pub invariant-loop-number : goal.invariant-loop-number
invariant-loop-number l = l.extracted.items ≡ flat_map (λ n. take l.width (drop (n * l.width) l.bytes)) (take l.number-index l.numbers)
