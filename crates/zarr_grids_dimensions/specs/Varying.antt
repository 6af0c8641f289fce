-- What varying edges in code are.
use Rattle.std.specs.Prelude.{◌≡◌, ℕ, List}
use Rattle.zarr_grids_chunks.specs.Grids.{Dimension, varying}
use Rattle.zarr_grids_dimensions.specs.Lookups.{size_of}
use Rattle.zarr_grids_dimensions.specs.RepeatedEdges.{expanded}
use Rattle.zarr_grids_dimensions.specs.declared.repeat.RepeatedEdge.{RepeatedEdge}
use Rattle.zarr_grids_dimensions.specs.declared.varying.VaryingEdges.{VaryingEdges}

-- the repeats of equal edges that they are held by
abbrev pub varying_repeats : VaryingEdges → List RepeatedEdge
varying_repeats edges = edges.repeats.items

-- the dimension: its size, and the edges of its chunks one after another
abbrev pub varying_dimension : VaryingEdges → Dimension
varying_dimension edges = varying edges.size (expanded (varying_repeats edges))

-- they are of this size and held by these repeats
abbrev pub IsMadeOf : ℕ → List RepeatedEdge → VaryingEdges → Type 0
IsMadeOf size repeats edges = (size_of (varying_dimension edges) ≡ size) × (varying_repeats edges ≡ repeats)
