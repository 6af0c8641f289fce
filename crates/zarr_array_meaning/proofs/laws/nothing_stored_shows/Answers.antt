use Rattle.zarr_array_meaning.proofs.Showing.{nothing_stored_shows}
use Rattle.zarr_array_meaning.proofs.laws.nothing_stored_shows.Goals as goal

pub returns : goal.returns
returns c = nothing_stored_shows
