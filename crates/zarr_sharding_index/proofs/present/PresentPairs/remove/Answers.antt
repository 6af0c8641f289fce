use Rattle.std.proofs.Common.{◌<◌, ◌∙◌, ap, arith, length, subst, sym}
use Rattle.std.specs.List.{remove}
use Rattle.zarr_sharding_index.specs.Present.{kept_pairs}
use Rattle.zarr_sharding_index.specs.Views.{numbers_or_all, pairs_of}
use Rattle.zarr_sharding_index.proofs.Listed.{full_kept}
use Rattle.zarr_sharding_index.proofs.Kept.{kept_removed, removed_full}
use Rattle.zarr_sharding_index.proofs.Numbered.{length-numbered}
use Rattle.zarr_sharding_index.proofs.present.PresentPairs.remove.Goals as goal

pub remove-requires : goal.remove-requires
remove-requires c =
    let self = c.args.self.now in
    let ok = c.in-Some.listed.ok in
    let long = length-numbered (numbers_or_all self.count self.numbers) (pairs_of self.ranges) self.alike in
    let same = ap (λ o. length (numbers_or_all self.count o)) c.in-Some.is in
    let within = c.in-Ok.ensures.found.within in
    omega (arith, ok, long, same, within)

pub remove-requires-in-Some : goal.remove-requires-in-Some
remove-requires-in-Some c =
    let self = c.args.self.now in
    subst (λ n. c.in-Ok.at < n) (length-numbered (numbers_or_all self.count self.numbers) (pairs_of self.ranges) self.alike ∙ self.alike) c.in-Ok.ensures.found.within

pub invariant_of-self : goal.invariant_of-self
invariant_of-self c =
    let self = c.args.self.now in
    let numbers = c.remove.ensures.items ∙ ap (λ o. remove (numbers_or_all self.count o) c.in-Ok.at) (sym c.in-Some.is) in
    let new = kept_removed self.count c.args.n c.in-Ok.at (numbers_or_all self.count self.numbers) _ (pairs_of self.ranges) _ self.alike self.listed c.in-Ok.ensures.found numbers c.remove-in-Some.ensures in
    record { listed = new.listed; alike = new.alike }

pub returns-in-Some-clause-pairs : goal.returns-in-Some-clause-pairs
returns-in-Some-clause-pairs c =
    let self = c.args.self.now in
    let numbers = c.remove.ensures.items ∙ ap (λ o. remove (numbers_or_all self.count o) c.in-Ok.at) (sym c.in-Some.is) in
    removed_full self.count c.args.n c.in-Ok.at (numbers_or_all self.count self.numbers) _ (pairs_of self.ranges) _ self.alike self.listed c.in-Ok.ensures.found numbers c.remove-in-Some.ensures

pub returns-in-Err-clause-pairs : goal.returns-in-Err-clause-pairs
returns-in-Err-clause-pairs c =
    let self = c.args.self.now in
    full_kept self.count c.args.n c.in-Err.field-0 (kept_pairs self) c.in-Err.ensures.absent
