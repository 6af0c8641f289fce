use Rattle.std.proofs.Common.{◌∙◌, ◌==◌, ◌&&◌, Bool, ap}
use Rattle.zarr_codecs_types.proofs.SameParts.{pointwise_same, signs_same}
use Rattle.zarr_codecs_types.proofs.equality.same_components.Goals as goal

pub returns : goal.returns
returns c =
    c.eq.ensures ∙ pointwise_same _ (λ a b. ap (λ (t : Bool). (a.width == b.width) && ((a.byte_count == b.byte_count) && t)) (signs_same a.sign b.sign)) c.args.parts.now c.args.others.now
