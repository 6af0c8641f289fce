use Rattle.std.proofs.Common.{map, refl, ap, ◌∙◌}
use Rattle.std.proofs.lemmas.List.{map-append}
use Rattle.zarr_grids_configurations.specs.Configurations.{repeat_in, repeats_of}
use Rattle.zarr_grids_configurations.specs.Views.{repeat_of}
use Rattle.zarr_grids_configurations.proofs.ItemWalk.{one_said, none_said, all_said}
use Rattle.zarr_grids_configurations.proofs.reading.elements_of.Goals as goal

pub loop-item-preserved : goal.loop-item-preserved
loop-item-preserved c =
    let grew = ap (map repeat_of) c.in_ok-push.ensures.items ∙ map-append repeat_of _ _ in
    one_said repeat_in repeats_of (λ d ds. refl) _ _ _ _ _ _ c.loop-item-test.true c.item-item.is c.in-Some.ensures grew c.loop-item.invariant

pub returns-in_default : goal.returns-in_default
returns-in_default c = none_said repeat_in repeats_of (λ d ds. refl) _ _ _ _ c.loop-item-test.true c.item-item.is c.in_default.ensures c.loop-item.invariant

pub returns : goal.returns
returns c = all_said repeats_of refl _ _ _ c.loop-item-test.false c.loop-item.invariant
