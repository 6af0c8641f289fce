use Rattle.std.proofs.Common.{◌≡◌, ◌∷◌, ◌++◌, map, drop}
use Rattle.zarr_codecs_regions.specs.Pieces.{ends_of, piece_of}
use Rattle.zarr_codecs_regions.proofs.variable.gather_offsets.Given as goal

-- the offsets so far, and those of what is left
abbrev pub invariant-loop-number : goal.invariant-loop-number
invariant-loop-number l =
    l.ends.items ++ ends_of l.end (map (piece_of l.offsets l.bytes) (drop l.number-index l.numbers)) ≡ 0 ∷ ends_of 0 (map (piece_of l.offsets l.bytes) l.numbers)
