use Rattle.std.proofs.Common.{◌≡◌, ◌+◌, ◌*◌, ◌/◌, ◌<◌, ◌∙◌, ap, sym, refl, arith, length}
use Rattle.std.specs.Simd.{first_chunks}
use Rattle.zarr_codecs_strides.proofs.EightLines.{eight_inside, eight_more}
use Rattle.zarr_codecs_strides.proofs.lines.push_cells.Goals as goal

pub push_eight-requires : goal.push_eight-requires
push_eight-requires g c =
    let w = c.args.lines.width in
    let is : length c.as_chunks.result.0.now ≡ length c.args.lines.bytes.now / w = c.as_chunks.ensures.front_len ∙ ap (λ n. length c.args.lines.bytes.now / n) (sym c.requires.width) in
    let less : 8 * c.loop-eight.eight + 7 < c.args.lines.count = omega arith in
    let some : 0 < w = omega (arith, c.requires.some, c.requires.width) in
    (omega (arith, c.requires.small), (c.requires.small, eight_inside w c.args.lines.edge c.args.lines.count c.args.column c.loop-eight.eight (length c.as_chunks.result.0.now) (length c.args.lines.bytes.now) some c.requires.whole is c.requires.within less))

pub loop-eight-preserved : goal.loop-eight-preserved
loop-eight-preserved g c =
    let w = c.args.lines.width in
    let bytes = c.args.lines.bytes.now in
    let cells = c.as_chunks.result.0.now in
    let is : length cells ≡ length bytes / w = c.as_chunks.ensures.front_len ∙ ap (λ n. length bytes / n) (sym c.requires.width) in
    let less : 8 * c.loop-eight.eight + 7 < c.args.lines.count = omega arith in
    let some : 0 < w = omega (arith, c.requires.some, c.requires.width) in
    eight_more w c.args.lines.edge c.args.lines.count c.args.column c.loop-eight.eight (length bytes / w) bytes cells c.args.out.now.items c.loop-eight.out.items c.push_eight.new.out.items some c.requires.whole refl c.requires.within less
    (c.as_chunks.ensures.front ∙ ap (λ n. first_chunks n (length bytes / n) bytes) (sym c.requires.width)) c.loop-eight.invariant c.in_ok-push_eight.ensures
