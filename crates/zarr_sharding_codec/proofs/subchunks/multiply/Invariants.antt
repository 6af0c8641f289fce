use Rattle.std.proofs.Common.{◌≡◌, ◌*◌, ◌++◌, take, drop}
use Rattle.zarr_grids_boxes.specs.Boxes.{each2}
use Rattle.zarr_sharding_codec.proofs.subchunks.multiply.Given as goal

-- the products so far, and those of the dimensions that are left
abbrev pub invariant-loop-k : goal.invariant-loop-k
invariant-loop-k l = each2 (λ i edge. i * edge) l.initial.place l.edges ≡ take l.k l.place ++ each2 (λ i edge. i * edge) (drop l.k l.place) (drop l.k l.edges)
