use Rattle.zarr_codecs_meaning.specs.Payloads.{fixed_cells}
use Rattle.zarr_codecs_sections.specs.Outcomes.{offsets_read}
use Rattle.zarr_codecs_sections.proofs.WordBytes.{wide_step}
use Rattle.zarr_codecs_sections.proofs.offsets.read_wide.Goals as goal

pub loop-element-preserved : goal.loop-element-preserved
loop-element-preserved c =
    wide_step c.from_le_bytes.result (offsets_read (fixed_cells _ c.args.bytes.now)) c.loop-element.numbers.items c.push.new.self.items c.loop-element.rest.now c.in-Some.element.now c.in-Some.others.now c.in-Some.ensures.cases.0 c.in-Some.ensures.cases.1 c.in-Some.ensures.cases.2 c.from_le_bytes.ensures
    c.in_ok-push.ensures.items c.loop-element.invariant
