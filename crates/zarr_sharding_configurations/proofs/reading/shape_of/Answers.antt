use Rattle.std.proofs.Common.{◌∙◌, ap, sym, Some}
use Rattle.zarr_sharding_configurations.proofs.Sizes.{positive_sizes, zero_sizes}
use Rattle.zarr_sharding_configurations.proofs.reading.shape_of.Goals as goal

pub returns-in-Ok : goal.returns-in-Ok
returns-in-Ok c = ap Some c.in-Ok.ensures.edges ∙ sym (positive_sizes c.args.sizes.items c.in-Ok.ensures.zero)

pub returns-in-Err : goal.returns-in-Err
returns-in-Err c = sym (zero_sizes c.args.sizes.items c.in-Err.ensures.zero.1)
