use Rattle.std.proofs.Common.{◌≡◌, take, ap, ◌∙◌, rules}
use Rattle.std.specs.Int.{to_le_bytes}
use Rattle.std.proofs.lemmas.Int.{to_z-of_z}
use mir.Val.{of_z}
use mir.Syntax.{w128}
use Rattle.zarr_codecs_types.specs.Integers.{integer_bytes}
use Rattle.zarr_codecs_types.proofs.Integers.{integer_taken}
use Rattle.zarr_codecs_types.proofs.fill_reading.integer_bytes.Goals as goal

pub returns : goal.returns
returns c =
    let passed = ap (λ z. take c.args.count (to_le_bytes w128 (of_z w128 z))) (to_z-of_z w128 c.args.integer c.ranges.integer) in
    let read : take c.args.count c.to_le_bytes-bytes.result ≡ integer_bytes c.args.count c.args.integer =
    ap (take c.args.count) c.to_le_bytes-bytes.ensures ∙ (passed ∙ integer_taken c.args.count c.args.integer c.requires.few c.requires.reaches) in
    search (rules, read)
