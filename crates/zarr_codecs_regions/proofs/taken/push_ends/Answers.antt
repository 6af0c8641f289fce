use Rattle.std.proofs.Common.{◌≡◌, ◌+◌, ◌<◌, ◌∷◌, ◌++◌, [], length, rules}
use Rattle.zarr_codecs_arrays.specs.Views.{numbers_of}
use Rattle.zarr_codecs_regions.specs.Pieces.{piece_of}
use Rattle.zarr_codecs_regions.proofs.PieceStretches.{ends_more}
use Rattle.zarr_codecs_regions.proofs.taken.push_ends.Goals as goal

pub loop-number-preserved : goal.loop-number-preserved
loop-number-preserved c =
    let f = piece_of (numbers_of c.args.from.offsets.now) c.args.from.bytes.now in
    let number = c.loop-number.number in
    let less : number < c.args.last = search rules in
    let next : c.in-Some-checked_add.next ≡ c.loop-number.end + length (f number) = search rules in
    let pushed : c.push.new.self.items ≡ c.loop-number.ends.items ++ c.in-Some-checked_add.next ∷ [] = search rules in
    ends_more f c.loop-number.ends.items c.push.new.self.items _ c.loop-number.end c.in-Some-checked_add.next number c.args.last less next pushed c.loop-number.invariant
