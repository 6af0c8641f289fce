use Rattle.std.proofs.Common.{inr}
use Rattle.zarr_codecs_meaning.proofs.Meaning.{laws_of, written_read}
use Rattle.zarr_codecs_meaning.proofs.laws.kept_decoded.Goals as goal

pub returns : goal.returns
returns c = λ chain elements shape value cells lawful fit keeps are h. written_read chain (laws_of chain lawful) elements shape value cells fit (inr keeps) are h
