use Rattle.std.proofs.Common.{◌≡◌, ◌+◌, length, rules}
use Rattle.zarr_codecs_arrays.specs.Views.{elements_of}
use Rattle.zarr_sharding_places.proofs.Placing.{shows_put}
use Rattle.zarr_sharding_places.proofs.placed.PlacedElements.put.Goals as goal

pub returns : goal.returns
returns c = λ before others shown lists long.
    let count : c.in-Some.count ≡ c.args.self.count + length c.args.at.now = search rules in
    shows_put (elements_of c.args.elements.now) c.args.self (record { came = c.in_ok-came.came; count = c.in-Some.count; numbers = c.in_ok-numbers.numbers }) c.args.at.now before others shown long (c.in_ok-came.ensures shown.came others shown.lists lists) count
    c.in_ok-numbers.ensures
