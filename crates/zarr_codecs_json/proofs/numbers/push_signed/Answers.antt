use Rattle.std.proofs.Common.{◌≡◌, ◌-◌, ◌^◌, ◌≤◌, ◌<◌, length, decimal, ap, ◌∙◌, arith}
use Rattle.std.proofs.lemmas.Nat.{pow_pos}
use Rattle.zarr_codecs_meaning.specs.Numbers.{number}
use Rattle.zarr_codecs_types.proofs.Bytes.{each_byte}
use Rattle.zarr_codecs_types.proofs.Extended.{number_below}
use Rattle.zarr_codecs_types.proofs.IntegerValues.{power_less}
use Rattle.zarr_codecs_json.proofs.PrintedTexts.{negative_text, after_sign}
use Rattle.zarr_codecs_json.proofs.numbers.push_signed.Goals as goal

pub pow-all-requires : goal.pow-all-requires
pow-all-requires c = let few = power_less (length c.args.element.now) 8 c.requires.few in omega arith

pub overflow_sub-all : goal.overflow_sub-all
overflow_sub-all c = let below = number_below c.args.element.now (each_byte c.args.element.now c.type_inv.element) in omega (arith, c.number-word.ensures, c.pow-all.ensures)

pub overflow_cast-all : goal.overflow_cast-all
overflow_cast-all c =
    let few = power_less (length c.args.element.now) 8 c.requires.few in
    let some = pow_pos c.saturating_sub.result in
    omega (arith, few, some, c.pow.ensures, c.pow-all.ensures)

pub returns-clause-ok : goal.returns-clause-ok
returns-clause-ok c =
    let element = c.args.element.now in
    let n = number 256 element in
    let half = 2 ^ (c.args.width - 1) in
    let all = 256 ^ length element in
    let m = c.pow-all.result - c.number-word.result in
    let half-is : c.pow.result ≡ half = c.pow.ensures ∙ ap (λ k. 2 ^ k) c.saturating_sub.ensures in
    let word-is = c.number-word.ensures in
    let high : half ≤ n = omega (arith, half-is, word-is) in
    let below : n < all = number_below element (each_byte element c.type_inv.element) in
    let m-is : m ≡ all - n = ap (λ k. k - c.number-word.result) c.pow-all.ensures ∙ ap (λ k. all - k) word-is in
    after_sign c.push_natural-2.result c.args.text.now.items c.push.new.self.items c.push_natural-2.new.text.items (decimal m) _ c.in_ok-push.ensures.items (negative_text n half all m high below m-is) c.push_natural-2.ensures.ok
