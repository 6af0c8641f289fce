use Rattle.std.proofs.Common.{map, refl, ap, sym, ◌∙◌, option_map}
use Rattle.std.proofs.lemmas.List.{map-append}
use Rattle.zarr_grids_configurations.specs.Configurations.{in_each_item, rectangular_edges}
use Rattle.zarr_grids_configurations.specs.Views.{rectangular_view}
use Rattle.zarr_grids_configurations.proofs.ItemWalk.{one_said, none_said, all_said}
use Rattle.zarr_grids_configurations.proofs.reading.rectangular_items.Goals as goal

pub loop-item-preserved : goal.loop-item-preserved
loop-item-preserved c =
    let grew = ap (map rectangular_view) c.in_ok-push.ensures.items ∙ map-append rectangular_view _ _ in
    let says = ap (option_map rectangular_view) (sym c.in-Some.is) ∙ c.in_ok-edges.ensures in
    one_said rectangular_edges (in_each_item rectangular_edges) (λ d ds. refl) _ _ _ _ _ _ c.loop-item-test.true c.item-item.is says grew c.loop-item.invariant

pub returns-in_default : goal.returns-in_default
returns-in_default c =
    let says = ap (option_map rectangular_view) (sym c.in_default.is) ∙ c.in_ok-edges.ensures in
    none_said rectangular_edges (in_each_item rectangular_edges) (λ d ds. refl) _ _ _ _ c.loop-item-test.true c.item-item.is says c.loop-item.invariant

pub returns : goal.returns
returns c = all_said (in_each_item rectangular_edges) refl _ _ _ c.loop-item-test.false c.loop-item.invariant
