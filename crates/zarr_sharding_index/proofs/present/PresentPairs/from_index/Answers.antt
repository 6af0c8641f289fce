use Rattle.std.proofs.Common.{◌≡◌, ◌∙◌, ap, arith, length, map, sym}
use Rattle.std.specs.Prelude.{nat_lt}
use Rattle.std.specs.List.{list_all}
use Rattle.zarr_sharding_index.specs.Listed.{present_numbers}
use Rattle.zarr_sharding_index.specs.Views.{pairs_of}
use Rattle.zarr_sharding_index.proofs.Kept.{made_of}
use Rattle.zarr_sharding_index.proofs.Numbered.{all_present, are_below, at, there}
use Rattle.zarr_sharding_index.proofs.present.PresentPairs.from_index.Goals as goal

-- each subchunk is present
pub invariant_of-result : goal.invariant_of-result
invariant_of-result c =
    let pairs = pairs_of c.args.index in
    let is = c.in_ok-numbers.ensures in
    let ok = c.in_ok-numbers.numbers.ok in
    let len = c.len.ensures in
    let test = c.if-len-count.true in
    let count = c.len-count.ensures in
    let long = ap length is in
    let whole : length (present_numbers pairs) ≡ length pairs = omega (arith, ok, len, test, count, long) in
    let made = made_of pairs c.len-count.result c.in_ok-numbers.numbers.items pairs count is (sym (all_present pairs whole)) in
    record { listed = made.0.listed; alike = made.0.alike }

pub returns-then-len-count : goal.returns-then-len-count
returns-then-len-count c =
    let pairs = pairs_of c.args.index in
    let is = c.in_ok-numbers.ensures in
    let ok = c.in_ok-numbers.numbers.ok in
    let len = c.len.ensures in
    let test = c.if-len-count.true in
    let count = c.len-count.ensures in
    let long = ap length is in
    let whole : length (present_numbers pairs) ≡ length pairs = omega (arith, ok, len, test, count, long) in
    (made_of pairs c.len-count.result c.in_ok-numbers.numbers.items pairs count is (sym (all_present pairs whole))).1

pub pairs_at-requires : goal.pairs_at-requires
pairs_at-requires c =
    let pairs = pairs_of c.args.index in
    ap (list_all (λ n. nat_lt n (length pairs))) (c.as_slice.ensures.value ∙ c.in_ok-numbers.ensures) ∙ are_below (there pairs) 0 (length pairs) (length pairs) (omega arith)

pub invariant_of-result-2 : goal.invariant_of-result-2
invariant_of-result-2 c =
    let pairs = pairs_of c.args.index in
    let is = c.in_ok-numbers.ensures in
    let made = made_of pairs c.len-count.result c.in_ok-numbers.numbers.items (pairs_of c.in_ok-ranges.ranges) c.len-count.ensures is (c.in_ok-ranges.ensures ∙ ap (map (at pairs)) (c.as_slice.ensures.value ∙ is)) in
    record { listed = made.0.listed; alike = made.0.alike }

pub returns : goal.returns
returns c =
    let pairs = pairs_of c.args.index in
    let is = c.in_ok-numbers.ensures in
    (made_of pairs c.len-count.result c.in_ok-numbers.numbers.items (pairs_of c.in_ok-ranges.ranges) c.len-count.ensures is (c.in_ok-ranges.ensures ∙ ap (map (at pairs)) (c.as_slice.ensures.value ∙ is))).1
