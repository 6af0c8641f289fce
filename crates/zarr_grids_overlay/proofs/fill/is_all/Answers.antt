use Rattle.std.proofs.Common.{length, ◌∙◌}
use Rattle.zarr_grids_overlay.proofs.Fills.{all-shifted}
use Rattle.zarr_grids_overlay.proofs.Lengths.{not_empty}
use Rattle.zarr_grids_overlay.proofs.fill.is_all.Goals as goal

pub returns-then-bytes-byte : goal.returns-then-bytes-byte
returns-then-bytes-byte c = c.eq.ensures ∙ all-shifted c.args.byte c.args.bytes.now (not_empty (length c.args.bytes.now) c.is_empty.result c.is_empty.ensures c.if-is_empty.false) c.if-bytes-byte.true
