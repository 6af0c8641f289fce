-- Arrays that commands find.
use Rattle.std.specs.Prelude.{◌≡◌, ℕ, List, IsTrue, Some, None, false}
use Rattle.zarr_grids_keys.specs.Paths.{is_node_path}
use Rattle.zarr_run_meaning.specs.declared.cause.Cause.{Cause}
use Rattle.zarr_run_meaning.specs.declared.cause.Cause.TheVariants as cause
use Rattle.zarr_run_opening.specs.Sessions.{Arrays, array_at}
use Rattle.zarr_run_opening.specs.declared.held.HeldArray.{HeldArray}

-- the array that is held at a node path
pub record IsFound {B : Type 0} (arrays : Arrays B) (path : List ℕ) (array : HeldArray B) : Type 0 where
  pub node : IsTrue (is_node_path path)
  pub found : array_at arrays path ≡ Some array

-- why no array is found
abbrev pub NotFound : {B : Type 0} → Arrays B → List ℕ → Cause → Type 0
NotFound arrays path cause.Path = is_node_path path ≡ false
NotFound arrays path cause.NoArray = IsTrue (is_node_path path) × (array_at arrays path ≡ None)
NotFound arrays path c = ⊥
