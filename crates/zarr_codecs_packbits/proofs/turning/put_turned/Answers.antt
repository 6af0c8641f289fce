use Rattle.std.proofs.Common.{◌≡◌, ◌++◌, ◌+◌, ◌-◌, ◌*◌, ◌∙◌, suc, ap, sym, arith, take, drop, length, append_assoc, length-drop}
use Rattle.zarr_codecs_types.specs.Views.{components_of}
use Rattle.zarr_codecs_packbits.specs.Turning.{are_bits, element_bits_read, element_turned, turned}
use Rattle.zarr_codecs_packbits.proofs.BitLists.{bits_drop}
use Rattle.zarr_codecs_packbits.proofs.turning.put_turned.Goals as goal

pub loop-element-preserved : goal.loop-element-preserved
loop-element-preserved c =
    let turn = c.args.turn in
    let parts = components_of c.args.parts.now in
    let read = element_bits_read turn.way turn.first turn.last parts in
    let n = c.loop-element._element in
    let k = c.args.count - (n + 1) in
    let below = c.loop-element-test.true in
    let more : c.args.count - n ≡ suc k = omega (arith, below) in
    let rest = c.loop-element.rest.now in
    let left = c.in_ok-rest.ensures.rest in
    let one = element_turned turn.way turn.first turn.last parts (take read rest) in
    let others = turned turn parts k (drop read rest) in
    let all : (c.args.count - n) * read ≡ read + k * read = ap (λ m. m * read) more ∙ grind arith in
    let enough = c.loop-element.invariant.enough in
    let long = ap length left ∙ length-drop read rest in
    record {
      bits = ap are_bits left ∙ bits_drop read rest c.loop-element.invariant.bits;
      enough = omega (arith, all, enough, long);
      written = ap (λ ns. c.push_element.new.out.items ++ turned turn parts k ns) left
          ∙ (ap (λ ns. ns ++ others) c.in_ok-rest.ensures.written
          ∙ (append_assoc c.loop-element.out.items one others
          ∙ (ap (λ ns. c.loop-element.out.items ++ ns) (sym (ap (λ m. turned turn parts m rest) more)) ∙ c.loop-element.invariant.written)));
    }
