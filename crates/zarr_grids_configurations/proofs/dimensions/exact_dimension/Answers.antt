use Rattle.std.proofs.Common.{◌≡◌, ◌<◌, ◌∙◌, length, map, sym, arith}
use Rattle.zarr_grids_configurations.specs.Grids.{single_repeat}
use Rattle.zarr_grids_configurations.proofs.Singles.{exact-refused, exact-made, exact-unsuited}
use Rattle.zarr_grids_configurations.proofs.dimensions.exact_dimension.Goals as goal

pub returns-in-Err-clause-refused : goal.returns-in-Err-clause-refused
returns-in-Err-clause-refused c = exact-refused _ _ _ _ c.in_ok-repeats.ensures c.in-Err.ensures.refused

pub returns-then-sum-size-clause-refused : goal.returns-then-sum-size-clause-refused
returns-then-sum-size-clause-refused c =
    let q : c.in-Ok.varying.repeats.items ≡ map single_repeat c.args.edges.now = c.in-Ok.ensures.made.1 ∙ c.in_ok-repeats.ensures in
    exact-unsuited _ _ _ q (λ e. c.if-sum-size.true (c.sum.ensures ∙ e))

pub returns-clause-made : goal.returns-clause-made
returns-clause-made c =
    let q : c.in-Ok.varying.repeats.items ≡ map single_repeat c.args.edges.now = c.in-Ok.ensures.made.1 ∙ c.in_ok-repeats.ensures in
    let l : 0 < length c.args.edges.now = grind arith in
    exact-made _ _ _ _ q c.in-Ok.ensures.made.0 l (sym c.sum.ensures ∙ c.if-sum-size.false) c.in-Ok.varying.positive c.in-Ok.varying.few
