use Rattle.std.proofs.Common.{◌∙◌, ◌≡◌, ap, arith, length, map, sym}
use Rattle.std.specs.List.{range_with_len}
use Rattle.zarr_sharding_index.specs.Listed.{pair_listed}
use Rattle.zarr_sharding_index.specs.Present.{kept_pairs}
use Rattle.zarr_sharding_index.specs.Views.{numbers_or_all, pairs_of}
use Rattle.zarr_sharding_index.proofs.Listed.{are_listed, full_length}
use Rattle.zarr_sharding_index.proofs.Numbered.{full_numbered, length-numbered}
use Rattle.zarr_sharding_index.proofs.present.PresentPairs.full.Goals as goal

pub returns-then-count_present-self-clause-lent : goal.returns-then-count_present-self-clause-lent
returns-then-count_present-self-clause-lent c =
    let self = c.args.self.now in
    let kept = c.count_present.ensures.kept in
    let test = c.if-count_present-self.true in
    let long = length-numbered (numbers_or_all self.count self.numbers) (pairs_of self.ranges) self.alike in
    let count : length (numbers_or_all self.count self.numbers) ≡ self.count = omega (arith, kept, test, long) in
    sym (ap (λ n. map (pair_listed (kept_pairs self)) (range_with_len 0 n)) (sym count)
    ∙ full_numbered 0 self.count (numbers_or_all self.count self.numbers) (pairs_of self.ranges) self.alike (are_listed 0 self.count (kept_pairs self) self.listed) (omega (arith, count)))

pub returns-else-count_present-self-clause-absent : goal.returns-else-count_present-self-clause-absent
returns-else-count_present-self-clause-absent c = λ all.
    let self = c.args.self.now in
    let test = c.if-count_present-self.false in
    let count = c.count_present.ensures.count in
    let long = full_length self.count (kept_pairs self) in
    test (omega (arith, count, all, long))
