use Rattle.std.proofs.Common.{◌≡◌, ◌+◌, ◌-◌, ◌≤◌, ◌++◌, subst, arith, rules}
use Rattle.std.specs.List.{range_with_len}
use Rattle.zarr_codecs_regions.specs.Taken.{IsTaken, pieces_at}
use Rattle.zarr_codecs_regions.proofs.Merges.{line_merged}
use Rattle.zarr_codecs_regions.proofs.merging.Merged.push_line.Goals as goal

pub returns : goal.returns
returns c = λ numbers h.
    let both = c.args.both in
    let old = c.args.self.now in
    let first = c.args.first in
    let gap : c.in-Some.before ≡ first - old.next = search rules in
    let low : old.next ≤ first = search rules in
    let next : c.in-Some-checked_add.next ≡ first + c.args.length = search rules in
    let given : c.in-Some-checked_add-2.given ≡ old.given + c.args.length = search rules in
    let most : c.in-Some-checked_add.next ≤ both.count = search rules in
    line_merged both numbers old _ c.push_stretch.new.self first c.args.length h low (omega (arith, next, most)) next given
    (λ pieces taken. subst (λ n. IsTaken (pieces ++ pieces_at both.old (range_with_len old.next n)) c.push_stretch.new.self) gap (c.in_ok-push_stretch.ensures pieces taken))
    (λ pieces taken. c.in_ok-push_stretch-2.ensures pieces taken)
