use Rattle.std.proofs.Common.{◌<◌, ◌≤◌, ◌∙◌, List, ap, arith, length, subst, sym}
use Rattle.std.proofs.lemmas.List.Edits.{length-insert}
use Rattle.zarr_codecs_meaning.specs.Encoding.{Pair}
use Rattle.std.specs.List.{insert, remove}
use Rattle.zarr_sharding_index.specs.Present.{kept_pairs}
use Rattle.zarr_sharding_index.specs.Views.{numbers_or_all, pair_of, pairs_of}
use Rattle.zarr_sharding_index.proofs.Kept.{full_again, inserted_full, kept_again, kept_inserted}
use Rattle.zarr_sharding_index.proofs.Listed.{full_length}
use Rattle.zarr_sharding_index.proofs.Numbered.{inserted_again, length-numbered}
use Rattle.zarr_sharding_index.proofs.present.PresentPairs.insert.Goals as goal

pub insert-requires : goal.insert-requires
insert-requires c =
    let self = c.args.self.now in
    subst (λ n. c.args.at ≤ n) (length-numbered (numbers_or_all self.count self.numbers) (pairs_of self.ranges) self.alike ∙ self.alike) c.requires.gap.within

pub insert-requires-2 : goal.insert-requires-2
insert-requires-2 c =
    let self = c.args.self.now in
    let ok = c.in-Some.listed.ok in
    let long = length-numbered (numbers_or_all self.count self.numbers) (pairs_of self.ranges) self.alike in
    let same = ap (λ o. length (numbers_or_all self.count o)) c.in-Some.is in
    let within = c.requires.gap.within in
    omega (arith, ok, long, same, within)

pub invariant_of-self-in-Ok : goal.invariant_of-self-in-Ok
invariant_of-self-in-Ok c =
    let self = c.args.self.now in
    let low = subst (λ n. c.args.new.number < n) (full_length self.count (kept_pairs self)) c.requires.below in
    let numbers = c.in-Ok.ensures.items ∙ ap (λ o. insert (numbers_or_all self.count o) c.args.at c.args.new.number) (sym c.in-Some.is) in
    let new = kept_inserted self.count c.args.at (numbers_or_all self.count self.numbers) _ (pairs_of self.ranges) _ c.args.new.number (pair_of c.args.new.range) self.alike self.listed c.requires.gap low c.requires.present numbers c.in_ok-insert.ensures.ok in
    record { listed = new.listed; alike = new.alike }

pub returns-in-Ok-clause-ok : goal.returns-in-Ok-clause-ok
returns-in-Ok-clause-ok c =
    let self = c.args.self.now in
    let numbers = c.in-Ok.ensures.items ∙ ap (λ o. insert (numbers_or_all self.count o) c.args.at c.args.new.number) (sym c.in-Some.is) in
    inserted_full self.count c.args.at (numbers_or_all self.count self.numbers) _ (pairs_of self.ranges) _ c.args.new.number (pair_of c.args.new.range) self.alike c.requires.gap numbers c.in_ok-insert.ensures.ok

-- the numbers can't be kept: the new pair is taken away again
pub remove-requires : goal.remove-requires
remove-requires c =
    let self = c.args.self.now in
    let pairs = pairs_of self.ranges in
    let within = subst (λ n. c.args.at ≤ n) (length-numbered (numbers_or_all self.count self.numbers) pairs self.alike ∙ self.alike) c.requires.gap.within in
    let more = length-insert pairs c.args.at (pair_of c.args.new.range) within in
    let made = ap (λ (ps : List Pair). length ps) c.in_ok-insert.ensures.ok in
    omega (arith, within, more, made)

pub invariant_of-self-in-Err : goal.invariant_of-self-in-Err
invariant_of-self-in-Err c =
    let self = c.args.self.now in
    let pairs = pairs_of self.ranges in
    let within = subst (λ n. c.args.at ≤ n) (length-numbered (numbers_or_all self.count self.numbers) pairs self.alike ∙ self.alike) c.requires.gap.within in
    let numbers = c.in-Err.ensures.items ∙ ap (numbers_or_all self.count) (sym c.in-Some.is) in
    let again = c.remove.ensures ∙ (ap (λ (ps : List Pair). remove ps c.args.at) c.in_ok-insert.ensures.ok ∙ inserted_again pairs c.args.at (pair_of c.args.new.range) within) in
    let kept = kept_again self.count (numbers_or_all self.count self.numbers) _ pairs _ self.alike self.listed numbers again in
    record { listed = kept.listed; alike = kept.alike }

pub returns-in-Err-clause-err : goal.returns-in-Err-clause-err
returns-in-Err-clause-err c =
    let self = c.args.self.now in
    let pairs = pairs_of self.ranges in
    let within = subst (λ n. c.args.at ≤ n) (length-numbered (numbers_or_all self.count self.numbers) pairs self.alike ∙ self.alike) c.requires.gap.within in
    let numbers = c.in-Err.ensures.items ∙ ap (numbers_or_all self.count) (sym c.in-Some.is) in
    let again = c.remove.ensures ∙ (ap (λ (ps : List Pair). remove ps c.args.at) c.in_ok-insert.ensures.ok ∙ inserted_again pairs c.args.at (pair_of c.args.new.range) within) in
    full_again self.count (numbers_or_all self.count self.numbers) _ pairs _ numbers again
