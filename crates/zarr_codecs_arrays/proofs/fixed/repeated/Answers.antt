use Rattle.std.proofs.Common.{◌∙◌, sym, length, get_or}
use Rattle.std.proofs.lemmas.Bool.{eqb-true}
use Rattle.zarr_codecs_arrays.proofs.Repeats.{repeat_nothing, filled}
use Rattle.zarr_codecs_arrays.proofs.fixed.repeated.Goals as goal

pub returns-then-is_empty : goal.returns-then-is_empty
returns-then-is_empty c = c.new.ensures.items ∙ repeat_nothing c.args.count c.args.element.now (eqb-true (length c.args.element.now) 0 (sym c.is_empty.ensures ∙ c.if-is_empty.true))

pub returns-then-is_all : goal.returns-then-is_all
returns-then-is_all c =
    let element = c.args.element.now in
    filled c.vec.result (get_or element 0 0) c.in-Some.total c.args.count element (sym c.is_all.ensures ∙ c.if-is_all.true) c.in-Some.ensures.1 c.vec.ensures.items_if_clones_equal
