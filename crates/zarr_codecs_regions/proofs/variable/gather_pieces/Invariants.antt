use Rattle.std.proofs.Common.{flat_map, take}
use Rattle.zarr_codecs_regions.specs.Pieces.{piece_of}
use Rattle.zarr_codecs_regions.proofs.GatheredStretches.{IsGathered}
use Rattle.zarr_codecs_regions.proofs.variable.gather_pieces.Given as goal

-- the bytes so far, of which a last stretch is still to be copied
abbrev pub invariant-loop-number : goal.invariant-loop-number
invariant-loop-number l = IsGathered l.bytes (flat_map (piece_of l.offsets l.bytes) (take l.number-index l.numbers)) l.gathered.items l.start l.end
