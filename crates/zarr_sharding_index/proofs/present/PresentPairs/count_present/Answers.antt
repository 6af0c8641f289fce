use Rattle.std.proofs.Common.{◌∙◌, ap, arith}
use Rattle.zarr_sharding_index.specs.Listed.{are_present, full_list}
use Rattle.zarr_sharding_index.specs.Present.{kept_pairs}
use Rattle.zarr_sharding_index.specs.Views.{numbers_or_all, pairs_of}
use Rattle.zarr_sharding_index.proofs.Listed.{are_listed, full_count, full_length}
use Rattle.zarr_sharding_index.proofs.Numbered.{length-numbered}
use Rattle.zarr_sharding_index.proofs.present.PresentPairs.count_present.Goals as goal

pub returns-clause-count : goal.returns-clause-count
returns-clause-count c =
    let self = c.args.self.now in
    let all = c.len.ensures in
    let alike = self.alike in
    let long = length-numbered (numbers_or_all self.count self.numbers) (pairs_of self.ranges) alike in
    let count = full_count self.count (kept_pairs self) (are_listed 0 self.count (kept_pairs self) self.listed) in
    omega (arith, all, alike, long, count)

pub returns-clause-kept : goal.returns-clause-kept
returns-clause-kept c =
    let self = c.args.self.now in
    let all = c.len.ensures in
    let alike = self.alike in
    let long = length-numbered (numbers_or_all self.count self.numbers) (pairs_of self.ranges) alike in
    omega (arith, all, alike, long)

pub returns-clause-present : goal.returns-clause-present
returns-clause-present c =
    let self = c.args.self.now in
    ap (λ n. are_present 0 n (kept_pairs self)) (full_length self.count (kept_pairs self)) ∙ self.listed

pub returns-clause-all : goal.returns-clause-all
returns-clause-all c =
    let self = c.args.self.now in
    ap (λ n. full_list n (kept_pairs self)) (full_length self.count (kept_pairs self))
