use Rattle.std.proofs.Common.{◌∙◌, ap, map}
use Rattle.zarr_codecs_meaning.specs.Places.{place_numbers}
use Rattle.zarr_codecs_array_to_array.specs.Moving.{are_below, picked_number}
use Rattle.zarr_codecs_array_to_array.proofs.walks.gathered.Goals as goal

pub returns : goal.returns
returns c all =
    let from = c.args.route.from.now in
    let found = c.in_default.ensures in
    let numbers = map (picked_number from c.args.route.picks.now c.args.route.to.now) (place_numbers from) in
    record {
      cells = found.0;
      valid = found.1;
      lists = c.in_ok-gather_route.ensures found.0 found.1.is.lists (ap (λ n. are_below n numbers) found.1.is.many ∙ all);
    }
