use Rattle.std.proofs.Common.{arith, rules, refl, take}
use Rattle.std.specs.Int.{to_le_bytes, w64}
use Rattle.zarr_codecs_sections.proofs.WordBytes.{offset_step}
use Rattle.zarr_codecs_sections.proofs.offsets.offset_bytes.Goals as goal

pub loop-offset-preserved : goal.loop-offset-preserved
loop-offset-preserved c =
    offset_step c.args.byte_count c.args.first c.loop-offset.offset-index c.saturating_sub.result c.args.offsets.now c.loop-offset.bytes.items (take c.args.byte_count (to_le_bytes w64 c.saturating_sub.result))
    c.extend_from_slice.new.self.items c.requires (omega arith) (search rules) refl c.loop-offset.invariant (search rules)
