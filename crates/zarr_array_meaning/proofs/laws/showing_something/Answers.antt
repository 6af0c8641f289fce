use Rattle.zarr_array_meaning.proofs.Showing.{showing_something}
use Rattle.zarr_array_meaning.proofs.laws.showing_something.Goals as goal

pub returns : goal.returns
returns c = showing_something
