use Rattle.zarr_codecs_meaning.proofs.Representations.{shard_size}
use Rattle.zarr_codecs_meaning.proofs.laws.shard_size.Goals as goal

pub returns : goal.returns
returns c = λ subchunk inner index location elements shape value cells stored lawful fit are are_stored h. shard_size subchunk inner index location elements shape value cells stored lawful.1 fit are_stored h
