use Rattle.std.proofs.Common.{arith, ap, ◌∙◌, sym, ◌≡◌, ◌*◌, ◌%◌, length}
use Rattle.zarr_codecs_packbits.specs.Packing.{bits_from}
use Rattle.zarr_codecs_packbits.proofs.PackedWords.{length-bits_from, padding_counted}
use Rattle.zarr_codecs_packbits.proofs.eights.padding_of_bytes.Goals as goal

pub returns : goal.returns
returns c =
    let e : length c.args.bytes.now % 8 * c.args.kept.count % 8 ≡ length (bits_from c.args.kept.first c.args.kept.count c.args.bytes.now) % 8 = sym (ap (λ n. n % 8) (length-bits_from c.args.kept.first c.args.kept.count c.args.bytes.now) ∙ padding_counted (length c.args.bytes.now) c.args.kept.count) in
    omega (arith, e)
