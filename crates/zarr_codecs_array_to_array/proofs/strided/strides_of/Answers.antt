use Rattle.std.proofs.Common.{◌≡◌, ◌∙◌, ◌+◌, ap, sym, length, map, slice_index, rules}
use Rattle.std.proofs.lemmas.List.{length-replicate}
use Rattle.zarr_grids_boxes.specs.Boxes.{ravel}
use Rattle.zarr_codecs_regions.proofs.Extracts.{written_over}
use Rattle.zarr_codecs_array_to_array.specs.Strided.{distance}
use Rattle.zarr_codecs_array_to_array.proofs.Distances.{distance_from_zeros, picked_strided}
use Rattle.zarr_codecs_array_to_array.proofs.strided.strides_of.Goals as goal

pub returns : goal.returns
returns c =
    let from = c.args.route.from.now in
    let picks = c.args.route.picks.now in
    let to = c.args.route.to.now in
    let made = c.add_strides.new.strides in
    let size : length made ≡ c.in_ok-strides.strides.len = search rules in
    let zeros = c.deref_mut.ensures.value ∙ c.in_ok-strides.ensures in
    let rank : length c.deref_mut.result.now ≡ length from = ap length zeros ∙ length-replicate (length from) 0 in
    rw (written_over c.in_ok-strides.strides.len made c.in_ok-strides.strides.items size)
    (picked_strided from picks to made (c.in-Some.ensures.rank ∙ rank)
    (λ place long. c.in-Some.ensures.sums place (long ∙ sym rank) ∙ (ap (λ ns. distance place ns + ravel (map (slice_index place) picks) to) zeros ∙ distance_from_zeros place (length from) (ravel (map (slice_index place) picks) to))))
