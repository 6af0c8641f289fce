use Rattle.std.proofs.Common.{◌≡◌, ◌∷◌, ◌++◌, ◌+◌, ◌≤◌, ◌∙◌, ap, sym, subst, arith, List, ℕ, Option, take, drop, length, append_assoc, length-drop, rules}
use Rattle.std.specs.List.{list_all}
use Rattle.std.proofs.lemmas.Bool.{and_parts}
use Rattle.std.proofs.lemmas.Result.{on_ok_weaker}
use Rattle.zarr_codecs_meaning.specs.Fits.{bits_fit}
use Rattle.zarr_codecs_types.specs.declared.data_type.Component.{Component}
use Rattle.zarr_codecs_types.specs.Views.{component_of, components_of}
use Rattle.zarr_codecs_packbits.specs.Turning.{are_bits, bits_read, component_turned, element_bits_read, element_turned}
use Rattle.zarr_codecs_packbits.specs.declared.turning.Way.{Way}
use Rattle.zarr_codecs_packbits.proofs.BitLists.{bits_drop}
use Rattle.zarr_codecs_packbits.proofs.Turns.{element_taken}
use Rattle.zarr_codecs_packbits.proofs.turning.+push_element.Goals as goal

both : (way : Way) (first : ℕ) (last : Option ℕ) (part : Component) (others parts : List Component) (bits rest before middle after : List ℕ) → parts ≡ part ∷ others → bits_read way first last (component_of part) ≤ length bits
    → rest ≡ drop (bits_read way first last (component_of part)) bits → middle ≡ before ++ component_turned way first last (component_of part) (take (bits_read way first last (component_of part)) bits)
    → after ≡ middle ++ element_turned way first last (components_of others) (take (element_bits_read way first last (components_of others)) rest)
    → after ≡ before ++ element_turned way first last (components_of parts) (take (element_bits_read way first last (components_of parts)) bits)
both way first last part others parts bits rest before middle after p enough r m a =
    let cs = components_of others in
    let read = element_bits_read way first last cs in
    let one = component_turned way first last (component_of part) (take (bits_read way first last (component_of part)) bits) in
    let back = element_turned way first last cs (take read rest) in
    a ∙ (ap (λ ns. ns ++ back) m ∙ (append_assoc before one back
    ∙ ap (λ ns. before ++ ns) (ap (λ ns. one ++ element_turned way first last cs (take read ns)) r
    ∙ sym (ap (λ ps. element_turned way first last (components_of ps) (take (element_bits_read way first last (components_of ps)) bits)) p ∙ element_taken way first last (component_of part) cs bits enough))))

-- what all components read, by the first one and the others
split : (way : Way) (first : ℕ) (last : Option ℕ) (part : Component) (others parts : List Component) (n : ℕ) → parts ≡ part ∷ others → element_bits_read way first last (components_of parts) ≤ n
    → bits_read way first last (component_of part) + element_bits_read way first last (components_of others) ≤ n
split way first last part others parts n p h = subst (λ ps. element_bits_read way first last (components_of ps) ≤ n) p h

left_enough : (n more : ℕ) (bits rest : List ℕ) → n + more ≤ length bits → rest ≡ drop n bits → more ≤ length rest
left_enough n more bits rest h r = let long = ap length r ∙ length-drop n bits in omega (arith, h, long)

pub push_element-requires : goal.push_element-requires
push_element-requires t c =
    let turn = c.args.turn in
    let p = c.in-Some.ensures.cases.0 in
    let test = bits_fit turn.first turn.last in
    let n = bits_read turn.way turn.first turn.last (component_of c.in-Some.part.now) in
    let all = split turn.way turn.first turn.last c.in-Some.part.now c.in-Some.others.now c.args.parts.now (length c.args.bits.now) p c.requires.enough in
    let fit = (and_parts (test (component_of c.in-Some.part.now)) (list_all test (components_of c.in-Some.others.now)) (ap (λ ps. list_all test (components_of ps)) (sym p) ∙ c.requires.fit)).1 in
    let bits = ap are_bits c.in_ok-rest.ensures.rest ∙ bits_drop n c.args.bits.now c.requires.bits in
    let enough = left_enough n (element_bits_read turn.way turn.first turn.last (components_of c.in-Some.others.now)) c.args.bits.now c.in_ok-rest.rest.now all c.in_ok-rest.ensures.rest in
    (search rules, (fit, (bits, enough)))

pub returns-clause-written : goal.returns-clause-written
returns-clause-written t c =
    let turn = c.args.turn in
    let p = c.in-Some.ensures.cases.0 in
    let all = split turn.way turn.first turn.last c.in-Some.part.now c.in-Some.others.now c.args.parts.now (length c.args.bits.now) p c.requires.enough in
    on_ok_weaker c.push_element.result
    (both turn.way turn.first turn.last c.in-Some.part.now c.in-Some.others.now c.args.parts.now c.args.bits.now c.in_ok-rest.rest.now c.args.out.now.items c.push_component.new.out.items c.push_element.new.out.items
    p (omega (arith, all)) c.in_ok-rest.ensures.rest c.in_ok-rest.ensures.written)
    c.push_element.ensures.written
