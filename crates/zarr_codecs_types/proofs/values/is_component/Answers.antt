use Rattle.std.proofs.Common.{◌∙◌}
use Rattle.zarr_codecs_types.specs.Views.{sign_of}
use Rattle.zarr_codecs_types.proofs.Bytes.{each_byte}
use Rattle.zarr_codecs_types.proofs.Skipped.{wide_component, skipped_component}
use Rattle.zarr_codecs_types.proofs.values.is_component.Goals as goal

pub returns-then-last-bytes : goal.returns-then-last-bytes
returns-then-last-bytes c = wide_component (sign_of c.args.component.sign) c.args.component.width c.args.component.byte_count c.args.bytes.now _ c.requires c.saturating_sub-last.ensures c.if-last-bytes.true (each_byte _ c.type_inv.bytes)

pub returns : goal.returns
returns c = c.is_extended.ensures ∙ skipped_component (sign_of c.args.component.sign) c.args.component.width c.args.component.byte_count c.args.bytes.now _ c.requires c.saturating_sub-last.ensures c.if-last-bytes.false (each_byte _ c.type_inv.bytes)
