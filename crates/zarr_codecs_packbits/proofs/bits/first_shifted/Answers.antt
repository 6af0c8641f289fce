use Rattle.std.proofs.Common.{arith, ◌<◌}
use Rattle.zarr_codecs_packbits.proofs.Shifted.{first_moved}
use Rattle.zarr_codecs_packbits.proofs.bits.first_shifted.Goals as goal

pub returns : goal.returns
returns c =
    let small : c.byte_at.result < 256 = omega arith in
    first_moved c.args.skip c.byte_at.result c.byte_at-2.result c.args.bytes.now (omega (arith, c.requires.skip)) c.requires.some small c.byte_at.ensures c.byte_at-2.ensures
