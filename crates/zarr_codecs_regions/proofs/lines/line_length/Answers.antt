use Rattle.std.proofs.Common.{◌≡◌, ◌∙◌, ◌+◌, ◌-◌, ◌<◌, ℕ, List, length, get_or, sym, arith, rules}
use Rattle.zarr_codecs_regions.proofs.BoxLines.{length_of_lines}
use Rattle.zarr_codecs_regions.proofs.lines.line_length.Goals as goal

pub returns-in-Some : goal.returns-in-Some
returns-in-Some c =
    let shape : List ℕ = c.args.shape.now in
    let n = length shape - 1 in
    let some : 0 < length shape = search rules in
    let many : length shape ≡ n + 1 = omega (arith, some) in
    let last : c.in-Some.length.now ≡ get_or shape (length shape - 1) 0 = search rules in
    last ∙ sym (length_of_lines shape n many)
