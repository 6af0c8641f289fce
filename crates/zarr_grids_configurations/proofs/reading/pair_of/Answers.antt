use Rattle.std.proofs.Common.{None, Some, refl, ◌∙◌}
use Rattle.zarr_grids_configurations.proofs.Items.{pair}
use Rattle.zarr_grids_configurations.proofs.reading.pair_of.Goals as goal

pub returns-in_err-edge-in-len2 : goal.returns-in_err-edge-in-len2
returns-in_err-edge-in-len2 c = c.from_residual.ensures ∙ pair _ _ _ None _ c.in-len2.len_at_least c.in-len2.len_below c.edge-item.is c.count-item.is c.in_err-edge-in-len2.ensures refl

pub returns-in_err-count-in-len2 : goal.returns-in_err-count-in-len2
returns-in_err-count-in-len2 c = c.from_residual-in_err-count-in-len2.ensures ∙ pair _ _ _ (Some c.in_ok-edge-in-len2.edge) None c.in-len2.len_at_least c.in-len2.len_below c.edge-item.is c.count-item.is c.in_ok-edge-in-len2.ensures c.in_err-count-in-len2.ensures

pub returns-in_ok-count-in-len2 : goal.returns-in_ok-count-in-len2
returns-in_ok-count-in-len2 c = pair _ _ _ (Some c.in_ok-edge-in-len2.edge) (Some c.in_ok-count-in-len2.count) c.in-len2.len_at_least c.in-len2.len_below c.edge-item.is c.count-item.is c.in_ok-edge-in-len2.ensures c.in_ok-count-in-len2.ensures
