use Rattle.std.proofs.Common.{◌∙◌, ◌<◌, ap, arith, get_or, length, sym, subst, zero-add}
use Rattle.std.proofs.lemmas.List.{get_or_default}
use Rattle.std.proofs.lemmas.List.FromFn.{get_or-range_with_len, length-range_with_len}
use Rattle.zarr_sharding_index.specs.Views.{numbers_or_all}
use Rattle.zarr_sharding_index.proofs.present.PresentPairs.number_at.Goals as goal

pub index-requires : goal.index-requires
index-requires c =
    let self = c.args.self.now in
    let ok = c.in-Some.listed.ok in
    let low = subst (λ ns. c.args.k < length ns) (ap (numbers_or_all self.count) c.in-Some.is) c.requires in
    omega (arith, ok, low)

pub returns-in-Some : goal.returns-in-Some
returns-in-Some c = λ other.
    let self = c.args.self.now in
    let k = c.args.k in
    let same = ap (numbers_or_all self.count) c.in-Some.is in
    let low = subst (λ ns. k < length ns) same c.requires in
    c.index.ensures ∙ (get_or_default c.in-Some.listed.items k c.index.result.now other low ∙ sym (ap (λ ns. get_or ns k other) same))

pub returns-in-None : goal.returns-in-None
returns-in-None c = λ other.
    let self = c.args.self.now in
    let k = c.args.k in
    let same = ap (numbers_or_all self.count) c.in-None.is in
    let low = subst (λ ns. k < length ns) same c.requires in
    let long = length-range_with_len 0 self.count in
    sym (ap (λ ns. get_or ns k other) same ∙ (get_or-range_with_len 0 self.count k other (omega (arith, low, long)) ∙ zero-add k))
