use Rattle.std.proofs.Common.{◌≡◌, ◌∙◌, ◌+◌, ◌<◌, ap, sym, length, set, get_or, arith, rules}
use Rattle.zarr_grids_boxes.specs.Boxes.{product}
use Rattle.zarr_codecs_array_to_array.specs.Strided.{distance}
use Rattle.zarr_codecs_array_to_array.proofs.Distances.{distance_added, any_some}
use Rattle.zarr_codecs_array_to_array.proofs.strided.+add_strides.Goals as goal

pub returns-in_ok-stride-in-Some-Some-clause-sums : goal.returns-in_ok-stride-in-Some-Some-clause-sums
returns-in_ok-stride-in-Some-Some-clause-sums t c place long =
    let old = c.args.strides.now in
    let mid = c.add_strides.new.strides in
    let d = c.in-Some-Some.dimension.now in
    let to = c.in-Some-Some.to.now in
    let rank : length mid ≡ length old = c.in_ok-count-in-Some-Some.ensures.rank in
    let is : c.in_ok-stride-in-Some-Some.stride ≡ get_or mid d 0 + product to = omega (arith, c.in_ok-stride-in-Some-Some.ensures, c.in_ok-count-in-Some-Some.ensures.count) in
    let below : d < length mid = search rules in
    any_some c.checked_mul.result
    (ap (λ s. distance place (set mid d s)) is
    ∙ distance_added place old mid d c.in-Some-Some.size.now c.in-Some-Some.picks.now to c.args.picks.now c.args.to.now c.in-Some-Some.ensures.cases.0 c.in-Some-Some.ensures'.cases.0 below (long ∙ sym rank) (c.in_ok-count-in-Some-Some.ensures.sums place long))
