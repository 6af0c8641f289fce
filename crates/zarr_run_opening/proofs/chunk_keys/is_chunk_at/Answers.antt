use Rattle.std.proofs.lemmas.Bool.{false≢true}
use Rattle.zarr_run_opening.proofs.ChunkKeyLemmas.{none_at, array_answers}
use Rattle.zarr_run_opening.proofs.chunk_keys.is_chunk_at.Goals as goal

pub returns-in-Some : goal.returns-in-Some
returns-in-Some g c = array_answers g.B.BytesToBytesCodecTraits.meaning c.args.arrays.now c.args.key.now c.args.path.now c.in-Some.array.now c.is_chunk_of.result c.in-Some.ensures.value c.is_chunk_of.ensures

pub returns-in-None : goal.returns-in-None
returns-in-None g c = (λ t. absurd (false≢true t), λ k. absurd (none_at g.B.BytesToBytesCodecTraits.meaning c.args.arrays.now c.args.key.now c.args.path.now c.in-None.ensures.value k))
