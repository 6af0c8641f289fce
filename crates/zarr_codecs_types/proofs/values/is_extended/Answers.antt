use Rattle.std.proofs.Common.{sym, ◌∙◌}
use Rattle.zarr_codecs_types.specs.Views.{sign_of}
use Rattle.zarr_codecs_types.proofs.Bytes.{each_byte}
use Rattle.zarr_codecs_types.proofs.Extended as lemma
use Rattle.zarr_codecs_types.proofs.values.is_extended.Goals as goal

pub returns-then-last-end : goal.returns-then-last-end
returns-then-last-end c = lemma.high_then (sign_of c.args.sign) c.args.width c.args.last c.args.above.now _ _ c.requires c.ranges.last.fits (each_byte _ c.type_inv.above) c.pow-end.ensures (sym c.is_negative.ensures ∙ c.if-is_negative.true) c.if-last-end.true c.are_all.ensures

pub returns-else-last-end : goal.returns-else-last-end
returns-else-last-end c = lemma.high_else (sign_of c.args.sign) c.args.width c.args.last c.args.above.now _ c.requires c.ranges.last.fits (each_byte _ c.type_inv.above) c.pow-end.ensures (sym c.is_negative.ensures ∙ c.if-is_negative.true) c.if-last-end.false

pub returns-then-last-own : goal.returns-then-last-own
returns-then-last-own c = lemma.low_then (sign_of c.args.sign) c.args.width c.args.last c.args.above.now _ _ c.requires c.pow-end.ensures (sym c.is_negative.ensures ∙ c.if-is_negative.false) c.if-last-own.true c.are_all-then-last-own.ensures

pub returns-else-last-own : goal.returns-else-last-own
returns-else-last-own c = lemma.low_else (sign_of c.args.sign) c.args.width c.args.last c.args.above.now _ c.requires c.pow-end.ensures (sym c.is_negative.ensures ∙ c.if-is_negative.false) c.if-last-own.false
