use Rattle.std.proofs.Common.{◌≡◌, replicate, refl, rules}
use Rattle.zarr_codecs_arrays.specs.Views.{elements_of}
use Rattle.zarr_sharding_places.proofs.Placing.{shows_fill}
use Rattle.zarr_sharding_places.proofs.placed.PlacedElements.new_fill_value.Goals as goal

pub returns : goal.returns
returns c =
    let zeros : c.in_ok-numbers.numbers.items ≡ replicate c.args.count 0 = search rules in
    shows_fill (elements_of c.args.elements.now) (record { came = c.in_ok-came.came; count = 1; numbers = c.in_ok-numbers.numbers }) c.args.count c.in_ok-came.ensures refl zeros
