use Rattle.std.proofs.Common.{map, ap, ◌∙◌}
use Rattle.std.proofs.lemmas.List.{take_all}
use Rattle.serde_json.specs.Data.{unsigned, number}
use Rattle.serde_json.specs.View.{items_of}
use Rattle.zarr_codecs_types.proofs.FillLemmas.{byte_items_map}
use Rattle.zarr_codecs_types.proofs.fill_writing.byte_items.Goals as goal

pub returns : goal.returns
returns c =
    let all = take_all c.loop-byte.byte-index c.args.bytes.now c.loop-byte-test.false in
    ap items_of (c.loop-byte.invariant ∙ ap (map (λ b. number (unsigned b))) all) ∙ byte_items_map c.args.bytes.now
