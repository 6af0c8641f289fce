use Rattle.std.proofs.Common.{rules, ◌≡◌, ◌∙◌, List, length, map, Bool, true, ◌&&◌, nat_lt, ◌==◌, ap, sym}
use Rattle.std.specs.List.{list_all, list_any, range_with_len}
use Rattle.zarr_codecs_meaning.specs.Fits.{is_permutation}
use Rattle.zarr_codecs_meaning.specs.Places.{position_of}
use Rattle.zarr_codecs_array_to_array.proofs.Inverses.{all_stand}
use Rattle.zarr_codecs_array_to_array.proofs.order.is_permutation.Goals as goal

pub returns : goal.returns
returns c =
    let order = c.args.order.now in
    let below : list_all (λ d. nat_lt d (length order)) order ≡ true = search rules in
    let found : c.are_below-2.result ≡ list_all (λ n. nat_lt n (length order)) (map (λ d. position_of d order) (range_with_len 0 (length order))) = search rules in
    found ∙ (all_stand order 0 (length order) ∙ ap (λ (b : Bool). b && list_all (λ d. list_any (λ m. m == d) order) (range_with_len 0 (length order))) (sym below))
