use Rattle.std.proofs.Common.{refl, subst, sym}
use Rattle.std.proofs.lemmas.Bool.{false≢true}
use Rattle.zarr_grids_boxes.specs.Boxes.{product}
use Rattle.zarr_codecs_meaning.specs.Types.{IsTooLarge}
use Rattle.zarr_codecs_arrays.specs.Views.{elements_of}
use Rattle.zarr_codecs_traits.specs.Indexers.{asked_of}
use Rattle.zarr_codecs_regions.specs.Filling.{IsBoxTooLarge}
use Rattle.zarr_codecs_regions.proofs.unstored.is_box_too_large.Goals as goal

pub returns-in-Some : goal.returns-in-Some
returns-in-Some c =
    let type = (elements_of c.args.part.elements.now).type in (
      λ is. absurd (false≢true is),
      λ large. absurd (c.in-Some.ensures.few (subst (IsTooLarge type) (sym c.in-Some.ensures.some)
          (subst (λ es. IsTooLarge type (product es)) (sym c.shape.ensures) (subst (λ i. IsBoxTooLarge type (asked_of i)) c.in-Subset.is large)))),
    )

pub returns-in-None : goal.returns-in-None
returns-in-None c =
    let type = (elements_of c.args.part.elements.now).type in
    (λ is. subst (λ i. IsBoxTooLarge type (asked_of i)) (sym c.in-Subset.is) (subst (λ es. IsTooLarge type (product es)) c.shape.ensures c.in-None.ensures.none), λ large. refl)

pub returns-in-List : goal.returns-in-List
returns-in-List c = (λ is. absurd (false≢true is), λ large. absurd (subst (λ i. IsBoxTooLarge (elements_of c.args.part.elements.now).type (asked_of i)) c.in-List.is large))
