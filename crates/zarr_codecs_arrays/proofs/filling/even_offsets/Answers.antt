use Rattle.zarr_codecs_arrays.proofs.Fillings.{even_more}
use Rattle.zarr_codecs_arrays.proofs.filling.even_offsets.Goals as goal

pub loop-element-preserved : goal.loop-element-preserved
loop-element-preserved c =
    even_more c.args.size c.loop-element._element c.loop-element.end c.in-Some.next c.loop-element.offsets.items c.push-in-loop-element.new.self.items c.loop-element.invariant.0 c.loop-element.invariant.1 c.in-Some.ensures.1 c.in_ok-push-2.ensures.items
