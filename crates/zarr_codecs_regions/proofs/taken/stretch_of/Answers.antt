use Rattle.std.proofs.Common.{◌≡◌, ◌∙◌, ◌+◌, ◌-◌, ◌<◌, ℕ, List, ap, length, slice_index, take, drop, arith, rules}
use Rattle.zarr_codecs_arrays.specs.Views.{numbers_of}
use Rattle.zarr_codecs_regions.proofs.PieceStretches.{stretch_pieces}
use Rattle.zarr_codecs_regions.proofs.taken.stretch_of.Goals as goal

pub returns : goal.returns
returns c =
    let first = c.args.first in
    let last = c.args.last in
    let bytes : List ℕ = c.args.from.bytes.now in
    let offsets : List ℕ = numbers_of c.args.from.offsets.now in
    let order = c.requires in
    let end : first + (last - first) ≡ last = omega (arith, order) in
    let below : last < length offsets = search rules in
    let is : c.in_ok-stretch.stretch.now ≡ take (slice_index offsets last - slice_index offsets first) (drop (slice_index offsets first) bytes) = search rules in
    is ∙ (ap (λ n. take (slice_index offsets n - slice_index offsets first) (drop (slice_index offsets first) bytes)) (let e : last ≡ first + (last - first) = omega (arith, order) in e)
    ∙ stretch_pieces offsets bytes first (last - first) c.args.from.offsets.now.rising (omega (arith, below, end)))
