use Rattle.std.proofs.Common.{◌≡◌, Ok, map}
use Rattle.zarr_sharding_codec.proofs.made_pieces.all_made.Given as goal

-- the values of the results so far
abbrev pub invariant-loop-piece : goal.invariant-loop-piece
invariant-loop-piece g l = map Ok l.found.items ≡ l.yielded
