use Rattle.std.proofs.Common.{rules, ◌≡◌, ◌∙◌, ap, length, map, replicate, sym}
use Rattle.std.proofs.lemmas.Result.{IfOk-weaker}
use Rattle.std.proofs.lemmas.Simd.{splat_is_map}
use Rattle.zarr_codecs_meaning.specs.Places.{squeezed}
use Rattle.zarr_codecs_around.proofs.boxes.no_sizes.Goals as goal

pub returns-in-Ok : goal.returns-in-Ok
returns-in-Ok c =
    let shape = c.args.shape.now in
    let long : c.len.result ≡ length c.in-Ok.encoded.items = search rules in
    IfOk-weaker c.zeros.result (λ sizes. sizes.items ≡ replicate c.len.result 0) (λ sizes. sizes.items ≡ map (λ size. 0) (squeezed shape))
    (λ sizes e. e ∙ splat_is_map (squeezed shape) c.len.result 0 (ap length (sym c.in-Ok.ensures.1) ∙ sym long)) c.zeros.ensures
