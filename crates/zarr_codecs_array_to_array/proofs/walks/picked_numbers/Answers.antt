use Rattle.std.proofs.Common.{◌≡◌, ◌+◌, ◌++◌, ◌∷◌, [], suc, length, map, take, get_or, slice_index, ap, ◌∙◌, sym, arith, rules}
use Rattle.zarr_grids_boxes.specs.Boxes.{ravel}
use Rattle.zarr_grids_boxes.proofs.Places.{length-place_at}
use Rattle.zarr_codecs_meaning.proofs.Covers.{zeros, length-zeros}
use Rattle.zarr_codecs_regions.proofs.Extracts.{written_over, zeros_are}
use Rattle.zarr_codecs_array_to_array.specs.Moving.{picked_number}
use Rattle.zarr_codecs_array_to_array.proofs.Routes.{map_more}
use Rattle.zarr_codecs_array_to_array.proofs.walks.picked_numbers.Goals as goal

pub place_of-requires-clause-start : goal.place_of-requires-clause-start
place_of-requires-clause-start c = c.deref.ensures.value ∙ (c.in_ok-start.ensures ∙ zeros_are c.args.route.from.now)

pub loop-number-preserved : goal.loop-number-preserved
loop-number-preserved c =
    let from = c.args.route.from.now in
    let picks = c.args.route.picks.now in
    let to = c.args.route.to.now in
    let ns = c.args.numbers.now in
    let i = c.loop-number.number-index in
    let new = c.place_of.new.place in
    let long : length new ≡ length from = ap length c.place_of.ensures ∙ (length-place_at (zeros from) from (get_or ns i 0) (length-zeros from) ∙ length-zeros from) in
    let size : length new ≡ c.loop-number.place.len = search rules in
    let over = written_over c.loop-number.place.len new c.loop-number.place.items size in
    let found : c.in-Some-ravel_indices.found ≡ picked_number from picks to (get_or ns i 0) =
    c.in-Some-ravel_indices.ensures.1 ∙ ap (λ ks. ravel ks to) (c.deref-in-loop-number-2.ensures.value ∙ (c.in_ok-pick.ensures ∙ ap (λ p. map (slice_index p) picks) (c.deref-in-loop-number.ensures.value ∙ (over ∙ c.place_of.ensures)))) in
    let one : i + 1 ≡ suc i = omega arith in
    record {
      room = ap length over ∙ long;
      done = c.in_ok-push.ensures.items ∙ (ap (λ ks. ks ++ c.in-Some-ravel_indices.found ∷ []) c.loop-number.invariant.done
          ∙ (ap (λ k. map (picked_number from picks to) (take i ns) ++ k ∷ []) found
          ∙ (sym (map_more (picked_number from picks to) ns i (omega (arith, c.loop-number-test.true))) ∙ ap (λ k. map (picked_number from picks to) (take k ns)) (sym one))));
    }
