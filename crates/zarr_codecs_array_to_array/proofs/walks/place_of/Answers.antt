use Rattle.std.proofs.Common.{◌≡◌, get_or, length, ap, ◌∙◌, arith}
use Rattle.std.proofs.lemmas.List.{get_or-map, length-map}
use Rattle.zarr_codecs_array_to_array.proofs.walks.place_of.Goals as goal

pub place_into-requires-clause-fit : goal.place_into-requires-clause-fit
place_into-requires-clause-fit c k h =
    let shape = c.args.shape.now in
    let long = ap length c.requires.start ∙ length-map shape (λ size. 0) in
    let zero : get_or c.args.start.now k 0 ≡ 0 = ap (λ s. get_or s k 0) c.requires.start ∙ get_or-map (λ size. 0) shape k 0 0 (omega (arith, h, long)) in
    let small = c.type_inv.shape k in
    omega (arith, zero, small)
