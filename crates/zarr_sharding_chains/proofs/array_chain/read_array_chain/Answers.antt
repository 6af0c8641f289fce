use Rattle.std.proofs.Common.{◌∙◌, sym}
use Rattle.zarr_sharding_chains.proofs.array_chain.read_array_chain.Goals as goal

pub returns-then-not-stands-clause-err : goal.returns-then-not-stands-clause-err
returns-then-not-stands-clause-err g c = c.read_plain.ensures.err (sym c.in_ok-stands.ensures ∙ c.if-not-stands.true)

pub returns-then-not-stands-clause-refused : goal.returns-then-not-stands-clause-refused
returns-then-not-stands-clause-refused g c = c.read_plain.ensures.refused (sym c.in_ok-stands.ensures ∙ c.if-not-stands.true)

pub returns-then-nest-clause-err : goal.returns-then-nest-clause-err
returns-then-nest-clause-err g c = c.read_nested.ensures.err (sym c.in_ok-stands.ensures ∙ c.if-not-stands.false) (sym c.in_ok-nest.ensures ∙ c.if-nest.true)

pub returns-then-nest-clause-refused : goal.returns-then-nest-clause-refused
returns-then-nest-clause-refused g c = c.read_nested.ensures.refused (sym c.in_ok-stands.ensures ∙ c.if-not-stands.false) (sym c.in_ok-nest.ensures ∙ c.if-nest.true)

pub returns-clause-err : goal.returns-clause-err
returns-clause-err g c = c.read_sharded.ensures.err (sym c.in_ok-stands.ensures ∙ c.if-not-stands.false) (sym c.in_ok-nest.ensures ∙ c.if-nest.false)

pub returns-clause-refused : goal.returns-clause-refused
returns-clause-refused g c = c.read_sharded.ensures.refused (sym c.in_ok-stands.ensures ∙ c.if-not-stands.false) (sym c.in_ok-nest.ensures ∙ c.if-nest.false)
