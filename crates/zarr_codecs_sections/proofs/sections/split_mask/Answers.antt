use Rattle.std.proofs.Common.{◌∙◌, ap, arith, take, drop}
use Rattle.zarr_codecs_meaning.specs.Numbers.{number}
use Rattle.zarr_codecs_sections.proofs.Layouts.{mask_split}
use Rattle.zarr_codecs_sections.proofs.sections.split_mask.Goals as goal

pub returns : goal.returns
returns c =
    let told = c.in_ok-long.ensures in
    let other = c.in_ok-other.ensures in
    let after = c.in_ok-other.sections.now in
    mask_split c.args.value.now c.split_at.result.0.now c.split_at.result.1.now after c.in_ok-long.long c.in_ok-other.other told.0 (other.0 ∙ ap (λ ns. number 256 (take 8 ns)) told.1)
    (other.1 ∙ ap (drop 8) told.1) (omega (arith, told.2, other.2)) (omega (arith, c.in_ok-checked_add.ensures, c.if-branch-sections.false)) c.split_at.ensures.front c.split_at.ensures.back
