use Rattle.std.proofs.Common.{refl}
use Rattle.zarr_run_lines.proofs.input.limited.Goals as goal

pub returns-in-Ok-clause-ok : goal.returns-in-Ok-clause-ok
returns-in-Ok-clause-ok g c text e = rw (c.in-Ok.ensures.capacity, c.in-Ok.ensures.empty, c.in-Ok.ensures.inner, c.take.ensures.limit, c.take.ensures.inner, e) refl
