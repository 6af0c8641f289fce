use Rattle.std.proofs.Common.{◌<◌, ◌∙◌, List, ap, set, subst, sym}
use Rattle.std.proofs.lemmas.Bool.{true≢false}
use Rattle.zarr_codecs_meaning.specs.Decoding.{is_absent}
use Rattle.zarr_codecs_meaning.specs.Encoding.{Pair, absent_pair}
use Rattle.zarr_sharding_index.specs.Present.{all_pairs, kept_pairs}
use Rattle.zarr_sharding_index.specs.Views.{numbers_or_all, pair_of, pairs_of}
use Rattle.zarr_sharding_index.proofs.Listed.{absent_is, are_listed, full_length}
use Rattle.zarr_sharding_index.proofs.Kept.{kept_put, put_full}
use Rattle.zarr_sharding_index.proofs.Numbered.{length-numbered, pair_numbered}
use Rattle.zarr_sharding_index.proofs.Searched.{gap_listed, pair_there}
use Rattle.zarr_sharding_index.proofs.present.PresentPairs.put.Goals as goal

pub returns-then-is_absent-clause-ok : goal.returns-then-is_absent-clause-ok
returns-then-is_absent-clause-ok c =
    let gone = absent_is (pair_of c.args.pair) (sym c.is_absent.ensures ∙ c.if-is_absent.true) in
    c.remove.ensures.pairs ∙ (ap (λ (ps : List Pair). set ps c.args.n absent_pair) c.list_numbers.ensures.pairs ∙ ap (λ (p : Pair). set (all_pairs c.args.self.now) c.args.n p) (sym gone))

pub put-requires : goal.put-requires
put-requires c =
    let self = c.args.self.now in
    subst (λ n. c.in-Ok.at < n) (length-numbered (numbers_or_all self.count self.numbers) (pairs_of self.ranges) self.alike ∙ self.alike) c.in-Ok.ensures.found.within

-- the pair was there, and is written over
pub invariant_of-self : goal.invariant_of-self
invariant_of-self c =
    let self = c.args.self.now in
    let there = sym c.is_absent.ensures ∙ c.if-is_absent.false in
    let new = kept_put self.count c.args.n c.in-Ok.at (numbers_or_all self.count self.numbers) (pairs_of self.ranges) _ (pair_of c.args.pair) self.alike self.listed c.in-Ok.ensures.found there c.put.ensures in
    record { listed = new.listed; alike = new.alike }

pub returns-in-Ok-clause-ok : goal.returns-in-Ok-clause-ok
returns-in-Ok-clause-ok c =
    let self = c.args.self.now in
    put_full self.count c.args.n c.in-Ok.at (numbers_or_all self.count self.numbers) (pairs_of self.ranges) _ (pair_of c.args.pair) self.alike self.listed c.in-Ok.ensures.found c.put.ensures

pub insert-requires-clause-present : goal.insert-requires-clause-present
insert-requires-clause-present c = sym c.is_absent.ensures ∙ c.if-is_absent.false

pub insert-requires-clause-listed : goal.insert-requires-clause-listed
insert-requires-clause-listed c =
    let self = c.args.self.now in
    let low = subst (λ n. c.args.n < n) (full_length self.count (kept_pairs self)) c.requires in
    gap_listed self.count c.args.n c.in-Err.at self.numbers (pairs_of self.ranges) self.alike low c.in-Err.ensures.absent

-- a pair that is kept is that of a present subchunk
pub returns-in-Ok-clause-listed : goal.returns-in-Ok-clause-listed
returns-in-Ok-clause-listed c = λ gone.
    let self = c.args.self.now in
    let ns = numbers_or_all self.count self.numbers in
    let ps = pairs_of self.ranges in
    let listed = are_listed 0 self.count (kept_pairs self) self.listed in
    let low = subst (λ n. c.args.n < n) (full_length self.count (kept_pairs self)) c.requires in
    let at = c.in-Ok.ensures.found in
    absurd (true≢false (sym gone ∙ (ap is_absent (sym (pair_numbered self.count c.args.n c.in-Ok.at ns ps self.alike listed low at)) ∙ pair_there self.count c.args.n c.in-Ok.at ns ps self.alike listed at)))
