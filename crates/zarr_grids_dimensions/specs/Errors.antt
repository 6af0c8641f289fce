-- What an error of a lookup tells.
use Rattle.std.specs.Prelude.{◌≡◌, ℕ}
use Rattle.zarr_grids_dimensions.specs.declared.error.LookupError.{LookupError}
use Rattle.zarr_grids_dimensions.specs.declared.error.LookupError.TheVariants.{Dimensionality, Memory}

-- both numbers of dimensions, which differ; or that memory ran out, where they do not
abbrev pub Tells : ℕ → ℕ → LookupError → Type 0
Tells got expected (Dimensionality e) = (e.got ≡ got) × (e.expected ≡ expected) × (¬ (got ≡ expected))
Tells got expected (Memory e) = got ≡ expected
