-- Lists of commands.
use Rattle.std.specs.Prelude.{◌≡◌, ℕ, List, [], ◌∷◌}
use Rattle.zarr_codecs_metadata.specs.Chains.{ReadsCodecs}
use Rattle.zarr_array_meaning.specs.StoreMaps.{StoreMap}
use Rattle.zarr_run_meaning.specs.Requests.{Request, Answer}
use Rattle.zarr_run_meaning.specs.Steps.{Step}
use Rattle.zarr_run_meaning.specs.Worlds.{World}

-- no array is held over a store that has refused so many calls
abbrev pub world_over : StoreMap → ℕ → World
world_over store refused = record { arrays = []; store = store; refused = refused }

-- a session may give these answers to these commands, one step after another
abbrev pub Run : ReadsCodecs → World → List Request → List Answer → World → Type 0
Run reads old [] [] new = new ≡ old
Run reads old (request ∷ requests) (answer ∷ answers) new = (mid : World) × Step reads old request answer mid × Run reads mid requests answers new
Run reads old [] (answer ∷ answers) new = ⊥
Run reads old (request ∷ requests) [] new = ⊥
