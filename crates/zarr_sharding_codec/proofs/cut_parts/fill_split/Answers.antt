use Rattle.zarr_sharding_codec.proofs.cut_parts.fill_split.Goals as goal

pub returns-in-Ok-clause-part : goal.returns-in-Ok-clause-part
returns-in-Ok-clause-part c = λ chain fit. c.in-Ok.ensures.part chain fit

pub returns-in-Err-clause-part : goal.returns-in-Err-clause-part
returns-in-Err-clause-part c = λ chain fit. c.in-Err.ensures.part chain fit
