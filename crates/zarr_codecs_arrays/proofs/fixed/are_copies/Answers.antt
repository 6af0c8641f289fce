use Rattle.std.proofs.Common.{◌∙◌, sym}
use Rattle.zarr_codecs_arrays.proofs.Copies.{copies_then, copies_else}
use Rattle.zarr_codecs_arrays.proofs.fixed.are_copies.Goals as goal

pub returns-then-eq : goal.returns-then-eq
returns-then-eq c =
    copies_then c.args.element.now c.args.bytes.now c.split_at.result.0.now c.split_at.result.1.now c.eq.result c.eq-then-eq.result
    (record { some_width = c.if-width-eq0.false; whole = c.if-bytes-width-ne0.false; some = sym c.is_empty.ensures ∙ c.if-is_empty.false; first = c.split_at.ensures.front; others = c.split_at.ensures.back })
    c.eq.ensures c.if-eq.true c.eq-then-eq.ensures

pub returns-else-eq : goal.returns-else-eq
returns-else-eq c =
    copies_else c.args.element.now c.args.bytes.now c.split_at.result.0.now c.split_at.result.1.now c.eq.result
    (record { some_width = c.if-width-eq0.false; whole = c.if-bytes-width-ne0.false; some = sym c.is_empty.ensures ∙ c.if-is_empty.false; first = c.split_at.ensures.front; others = c.split_at.ensures.back })
    c.eq.ensures c.if-eq.false
