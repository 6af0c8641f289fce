use Rattle.std.proofs.Common.{inl}
use Rattle.zarr_codecs_meaning.proofs.Meaning.{laws_of}
use Rattle.zarr_codecs_meaning.proofs.laws.encoded_stands.Goals as goal

pub returns : goal.returns
returns c = λ chain elements shape value cells lawful fit lossless are h. (laws_of chain lawful).stands elements shape value cells fit (inl lossless) are h
