use Rattle.std.proofs.Common.{◌≡◌, ◌∙◌, ap, subst, true}
use Rattle.std.specs.Prelude.{nat_lt}
use Rattle.std.specs.List.{list_all}
use Rattle.std.proofs.lemmas.Result.{IfOk-weaker}
use Rattle.zarr_grids_boxes.specs.Boxes.{product}
use Rattle.zarr_grids_boxes.specs.Subsets.{region_of}
use Rattle.zarr_codecs_traits.specs.Indexers.{in_box, are_inside, asked_of, numbers_of}
use Rattle.zarr_codecs_regions.proofs.AskedPlaces.{asked_places}
use Rattle.zarr_codecs_regions.proofs.asked.numbers_asked.Goals as goal

pub returns-in-Subset-clause-within : goal.returns-in-Subset-clause-within
returns-in-Subset-clause-within c =
    let shape = c.args.shape.now in
    let region = region_of c.in-Subset.region.now in
    IfOk-weaker c.box_numbers.result (λ numbers. numbers.items ≡ numbers_of shape region) (λ numbers. list_all (λ n. nat_lt n (product shape)) numbers.items ≡ true)
    (λ numbers e. ap (list_all (λ n. nat_lt n (product shape))) e ∙ asked_places shape (in_box region) (subst (λ i. are_inside shape (asked_of i) ≡ true) c.in-Subset.is c.requires.inside)) c.box_numbers.ensures
