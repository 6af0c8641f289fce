use Rattle.std.proofs.Common.{arith, false, take, ◌+◌, ◌/◌, ◌++◌, ◌∙◌}
use Rattle.serde_json.specs.Written.{items_text}
use Rattle.zarr_codecs_json.specs.Texts.{kind_type, fixed_data}
use Rattle.zarr_codecs_json.specs.declared.numbers.Kind.TheVariants as kind
use Rattle.zarr_codecs_json.proofs.PrintedTexts.{begins_trans}
use Rattle.zarr_codecs_json.proofs.ShortNumbers.{room_step}
use Rattle.zarr_codecs_json.proofs.short_numbers.push_short_numbers.Goals as goal

pub loop-rest-preserved : goal.loop-rest-preserved
loop-rest-preserved c =
    let l = c.loop-rest in
    let type = kind_type kind.Unsigned c.args.width in
    let count = (c.args.width + 7) / 8 in
    let some = c.requires.some in
    let put = c.put_element-at.ensures in (
      room_step type count l.rest.now c.split_at.result.0.now c.split_at.result.1.now l.text.items (take l.at l.room) c.make_room.new.text.items (take c.in_ok-next.next l.room) (take c.put_element-at.result c.put_element-at.new.room)
          (c.args.text.now.items ++ items_text false (fixed_data type count c.args.bytes.now)) l.later
          (omega arith) c.loop-rest-test.true c.split_at.ensures.front c.split_at.ensures.back c.in_ok-next.ensures.ok (put.text c.args.width) l.invariant.0,
      begins_trans c.args.text.now.items l.text.items c.make_room.new.text.items l.invariant.1 c.in_ok-next.ensures.begins,
      omega (arith, put.end, c.in_ok-next.ensures.next),
      put.size ∙ l.invariant.3,
    )
