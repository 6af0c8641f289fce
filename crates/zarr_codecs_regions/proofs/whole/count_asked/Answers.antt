use Rattle.std.proofs.Common.{◌≡◌, ◌<◌, ◌^◌, subst, sym, length, true}
use Rattle.std.specs.Option.{IfSome, SomeIff}
use Rattle.zarr_grids_boxes.specs.Boxes.{product}
use Rattle.zarr_grids_boxes.specs.Subsets.{region_of}
use Rattle.zarr_codecs_traits.specs.Indexers.{are_inside, asked_of, numbers_asked}
use Rattle.zarr_codecs_regions.proofs.CountAsked.{box_counted, box_too_large}
use Rattle.zarr_codecs_regions.proofs.whole.count_asked.Goals as goal

pub returns-in-Subset-clause-some : goal.returns-in-Subset-clause-some
returns-in-Subset-clause-some c =
    let region = region_of c.in-Subset.region.now in
    let found = c.count_places.result in
    let counted = subst (λ es. SomeIff found (product es < 2 ^ 63) (product es)) c.shape.ensures c.count_places.ensures in
    subst (λ i. IfSome found (λ count. count ≡ length (numbers_asked c.args.shape.now (asked_of i)))) (sym c.in-Subset.is) (box_counted c.args.shape.now region found c.in-Subset.region.now.same counted)

pub returns-in-Subset-clause-none : goal.returns-in-Subset-clause-none
returns-in-Subset-clause-none c =
    let region = region_of c.in-Subset.region.now in
    let found = c.count_places.result in
    let counted = subst (λ es. SomeIff found (product es < 2 ^ 63) (product es)) c.shape.ensures c.count_places.ensures in
    let inside = subst (λ i. are_inside c.args.shape.now (asked_of i) ≡ true) c.in-Subset.is c.requires.inside in
    box_too_large c.args.shape.now region found c.in-Subset.region.now.same inside counted
