use Rattle.std.proofs.Common.{◌≡◌, length, map, take}
use Rattle.zarr_codecs_array_to_array.specs.Moving.{picked_number}
use Rattle.zarr_codecs_array_to_array.proofs.walks.picked_numbers.Given as goal

abbrev pub invariant-loop-number : goal.invariant-loop-number
invariant-loop-number l = record {
  room : length l.place.items ≡ length l.route.from.now;
  done : l.picked.items ≡ map (picked_number l.route.from.now l.route.picks.now l.route.to.now) (take l.number-index l.numbers);
}
