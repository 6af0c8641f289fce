use Rattle.std.proofs.Common.{◌≡◌, ◌∷◌, ◌++◌, ap, ◌∙◌, sym, Some, take, drop, reverse, length, append_assoc, ℕ, List, ◌≤◌, rules}
use Rattle.std.proofs.lemmas.Result.{on_ok_weaker}
use Rattle.zarr_codecs_meaning.specs.Chains.Endianness.{big}
use Rattle.zarr_codecs_meaning.specs.Types.{bytes_in}
use Rattle.zarr_codecs_meaning.specs.Encoding.{ordered}
use Rattle.zarr_codecs_types.specs.declared.data_type.Component.{Component}
use Rattle.zarr_codecs_types.specs.Views.{component_of, components_of}
use Rattle.zarr_codecs_bytes.proofs.Orders.{ordered_taken}
use Rattle.zarr_codecs_bytes.proofs.swapping.+push_swapped.Goals as goal

both : (part : Component) (others parts : List Component) (bytes rest component before middle after : List ℕ) → parts ≡ part ∷ others → part.byte_count ≤ length bytes → component ≡ take part.byte_count bytes → rest ≡ drop part.byte_count bytes
    → middle ≡ before ++ reverse component → after ≡ middle ++ ordered (Some big) (components_of others) (take (bytes_in (components_of others)) rest)
    → after ≡ before ++ ordered (Some big) (components_of parts) (take (bytes_in (components_of parts)) bytes)
both part others parts bytes rest component before middle after p enough c r m a =
    let cs = components_of others in
    let back = ordered (Some big) cs (take (bytes_in cs) rest) in
    a ∙ (ap (λ ns. ns ++ back) m ∙ (append_assoc before (reverse component) back
    ∙ ap (λ ns. before ++ ns) (ap (λ ns. reverse ns ++ back) c ∙ (ap (λ ns. reverse (take part.byte_count bytes) ++ ordered (Some big) cs (take (bytes_in cs) ns)) r
    ∙ sym (ap (λ ps. ordered (Some big) (components_of ps) (take (bytes_in (components_of ps)) bytes)) p ∙ ordered_taken (Some big) (component_of part) cs bytes enough)))))

pub returns-clause-written : goal.returns-clause-written
returns-clause-written t c =
    let p = c.in-Some.ensures.cases.0 in
    let enough : c.in-Some.part.now.byte_count ≤ length c.args.bytes.now = search rules in
    on_ok_weaker c.push_swapped.result
    (both c.in-Some.part.now c.in-Some.others.now c.args.parts.now c.args.bytes.now c.split_at.result.1.now c.split_at.result.0.now c.args.out.now.items c.push_reversed.new.out.items c.push_swapped.new.out.items
    p enough c.split_at.ensures.front c.split_at.ensures.back c.in_ok-push_reversed.ensures)
    c.push_swapped.ensures.written
