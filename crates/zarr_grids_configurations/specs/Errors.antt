-- What a refusal of a grid tells.
use Rattle.std.specs.Prelude.{◌≡◌, ℕ, List, length, false, Option, Some, None}
use Rattle.zarr_grids_configurations.specs.Grids.{Edges, is_positive, suits, is_countable, in_every}
use Rattle.zarr_grids_configurations.specs.declared.error.GridError.{GridError}
use Rattle.zarr_grids_configurations.specs.declared.error.GridError.TheVariants.{Dimensionality, ZeroEdge, Sum, TooManyChunks, Memory}

-- the first test that the edges of one dimension fail
abbrev pub Refuses : ℕ → Edges → GridError → Type 0
Refuses size given (Dimensionality e) = ⊥
Refuses size given ZeroEdge = is_positive given ≡ false
Refuses size given Sum = suits size given ≡ false
Refuses size given TooManyChunks = is_countable given ≡ false
Refuses size given Memory = Unit {0}

-- a refusal for one dimension, where edges are given for it
abbrev pub RefusesAt : ℕ → Option Edges → GridError → Type 0
RefusesAt size None e = Unit {0}
RefusesAt size (Some given) e = Refuses size given e

-- both numbers of dimensions, which differ; or the test that some dimension fails; or that memory ran out
abbrev pub RefusesGrid : List ℕ → List Edges → GridError → Type 0
RefusesGrid shape configuration (Dimensionality e) = (e.got ≡ length configuration) × (e.expected ≡ length shape) × (¬ (length configuration ≡ length shape))
RefusesGrid shape configuration ZeroEdge = in_every (λ _ given. is_positive given) shape configuration ≡ false
RefusesGrid shape configuration Sum = in_every suits shape configuration ≡ false
RefusesGrid shape configuration TooManyChunks = in_every (λ _ given. is_countable given) shape configuration ≡ false
RefusesGrid shape configuration Memory = length configuration ≡ length shape
