use Rattle.std.proofs.Common.{arith, false, ◌+◌, ◌/◌}
use Rattle.serde_json.specs.Written.{items_text}
use Rattle.zarr_codecs_json.specs.Texts.{kind_type, fixed_data}
use Rattle.zarr_codecs_json.proofs.PrintedTexts.{list_step, list_end}
use Rattle.zarr_codecs_json.proofs.numbers.push_numbers.Goals as goal

pub loop-rest-preserved : goal.loop-rest-preserved
loop-rest-preserved c =
    let type = kind_type c.args.kind c.args.width in
    let count = (c.args.width + 7) / 8 in
    let some = c.requires.some in
    list_step type count c.loop-rest.rest.now c.split_at.result.0.now c.split_at.result.1.now c.args.text.now.items c.loop-rest.text.items c.push_element.new.text.items (items_text false (fixed_data type count c.args.bytes.now)) c.loop-rest.later
    (omega arith) c.loop-rest-test.true c.split_at.ensures.front c.split_at.ensures.back c.in_ok-push_element.ensures.ok c.loop-rest.invariant.0 c.loop-rest.invariant.1

pub returns-clause-ok : goal.returns-clause-ok
returns-clause-ok c =
    let type = kind_type c.args.kind c.args.width in
    let count = (c.args.width + 7) / 8 in
    list_end type count c.loop-rest.rest.now c.args.text.now.items c.loop-rest.text.items c.push.new.self.items (items_text false (fixed_data type count c.args.bytes.now)) c.loop-rest.later (omega arith) c.in_ok-push.ensures.items c.loop-rest.invariant.0
