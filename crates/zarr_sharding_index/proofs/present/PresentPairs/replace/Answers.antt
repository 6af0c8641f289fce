use Rattle.std.proofs.Common.{◌<◌, ◌∙◌, ap, set, subst, sym}
use Rattle.zarr_codecs_meaning.specs.Encoding.{Pair}
use Rattle.zarr_sharding_index.specs.Present.{all_pairs, kept_pairs}
use Rattle.zarr_sharding_index.specs.Views.{numbers_or_all, pair_of, pairs_of}
use Rattle.zarr_sharding_index.proofs.Listed.{absent_is, gap_not_present}
use Rattle.zarr_sharding_index.proofs.Kept.{kept_put, put_full}
use Rattle.zarr_sharding_index.proofs.Numbered.{length-numbered}
use Rattle.zarr_sharding_index.proofs.present.PresentPairs.replace.Goals as goal

pub returns-then-is_absent : goal.returns-then-is_absent
returns-then-is_absent c =
    let gone = absent_is (pair_of c.args.pair) (sym c.is_absent.ensures ∙ c.if-is_absent.true) in
    c.remove.ensures.pairs ∙ ap (λ (p : Pair). set (all_pairs c.args.self.now) c.args.n p) (sym gone)

pub put-requires : goal.put-requires
put-requires c =
    let self = c.args.self.now in
    subst (λ n. c.in-Ok.at < n) (length-numbered (numbers_or_all self.count self.numbers) (pairs_of self.ranges) self.alike ∙ self.alike) c.in-Ok.ensures.found.within

pub invariant_of-self : goal.invariant_of-self
invariant_of-self c =
    let self = c.args.self.now in
    let there = sym c.is_absent.ensures ∙ c.if-is_absent.false in
    let new = kept_put self.count c.args.n c.in-Ok.at (numbers_or_all self.count self.numbers) (pairs_of self.ranges) _ (pair_of c.args.pair) self.alike self.listed c.in-Ok.ensures.found there c.put.ensures in
    record { listed = new.listed; alike = new.alike }

pub returns-in-Ok : goal.returns-in-Ok
returns-in-Ok c =
    let self = c.args.self.now in
    put_full self.count c.args.n c.in-Ok.at (numbers_or_all self.count self.numbers) (pairs_of self.ranges) _ (pair_of c.args.pair) self.alike self.listed c.in-Ok.ensures.found c.put.ensures

-- a present subchunk has no gap
pub returns-in-Err : goal.returns-in-Err
returns-in-Err c =
    let self = c.args.self.now in
    absurd (gap_not_present self.count c.args.n c.in-Err.field-0 (kept_pairs self) c.in-Err.ensures.absent c.requires.present)

pub remove-requires : goal.remove-requires
remove-requires c = c.requires.listed (sym c.is_absent.ensures ∙ c.if-is_absent.true)
