use Rattle.zarr_array_meaning.proofs.Showing.{standing_shows}
use Rattle.zarr_array_meaning.proofs.laws.standing_shows.Goals as goal

pub returns : goal.returns
returns c = standing_shows
