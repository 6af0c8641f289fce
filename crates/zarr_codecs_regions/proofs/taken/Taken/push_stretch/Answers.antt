use Rattle.std.proofs.Common.{◌≡◌, ◌∙◌, ◌-◌, ◌++◌, ap, length, flat_map, arith, rules}
use Rattle.std.specs.List.{range_with_len}
use Rattle.zarr_codecs_regions.specs.Pieces.{ends_of}
use Rattle.zarr_codecs_regions.specs.Taken.{pieces_at}
use Rattle.zarr_codecs_regions.proofs.PieceStretches.{more_taken}
use Rattle.zarr_codecs_regions.proofs.taken.Taken.push_stretch.Goals as goal

pub returns : goal.returns
returns c = λ pieces h.
    let from = c.args.from in
    let first = c.args.first in
    let old = c.args.self.now in
    let more = pieces_at from (range_with_len first c.args.count) in
    let sum = c.in-Some.ensures in
    let long : c.in-Some.last - first ≡ c.args.count = omega (arith, sum) in
    let base : c.len.result ≡ length old.bytes.items = search rules in
    let stretch = c.in-Some-stretch_of.ensures ∙ ap (λ n. flat_map (λ piece. piece) (pieces_at from (range_with_len first n))) long in
    let ends : c.push_ends.new.ends.items ≡ old.ends.items ++ ends_of (length old.bytes.items) more =
    c.in_ok-push_ends.ensures ∙ (ap (λ n. old.ends.items ++ ends_of c.len.result (pieces_at from (range_with_len first n))) long ∙ ap (λ n. old.ends.items ++ ends_of n more) base) in
    more_taken pieces more old _ h (c.in_ok-extend_from_slice.ensures.items ∙ ap (λ bs. old.bytes.items ++ bs) stretch) ends
