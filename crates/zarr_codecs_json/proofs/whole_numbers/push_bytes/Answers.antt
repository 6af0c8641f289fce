use Rattle.std.proofs.Common.{◌≡◌, ◌++◌, pos, take, ap, ◌∙◌, rules}
use Rattle.std.specs.Int.{to_le_bytes}
use Rattle.std.proofs.lemmas.Int.{to_z-of_z}
use mir.Val.{of_z, SFits}
use mir.Syntax.{w128}
use Rattle.zarr_codecs_types.specs.Integers.{integer_bytes}
use Rattle.zarr_codecs_types.proofs.Integers.{integer_taken}
use Rattle.zarr_codecs_json.proofs.whole_numbers.push_bytes.Goals as goal

pub returns : goal.returns
returns c =
    let z = pos c.args.number in
    let count = c.args.count in
    let fits : SFits w128 z = search rules in
    let passed = ap (λ z. take count (to_le_bytes w128 (of_z w128 z))) (to_z-of_z w128 z fits) in
    let read : take count c.to_le_bytes-word.result ≡ integer_bytes count z = ap (take count) c.to_le_bytes-word.ensures ∙ (passed ∙ integer_taken count z c.requires.few tt) in
    c.in_ok-extend_from_slice.ensures.items ∙ ap (λ ns. c.args.bytes.now.items ++ ns) read
