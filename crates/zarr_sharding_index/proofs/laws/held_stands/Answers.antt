use Rattle.zarr_sharding_index.proofs.laws.held_stands.Goals as goal

pub returns : goal.returns
returns c = λ slices inner index elements location shape end pieces value pairs h. (pairs, h.«data», h.held, h.stand)
