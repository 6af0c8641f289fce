use Rattle.std.proofs.Common.{arith}
use Rattle.zarr_codecs_json.proofs.PrintedTexts.{eight_bytes}
use Rattle.zarr_codecs_json.proofs.numbers.number.Goals as goal

pub returns-in-len8 : goal.returns-in-len8
returns-in-len8 c = eight_bytes c.args.bytes.now (omega arith)
