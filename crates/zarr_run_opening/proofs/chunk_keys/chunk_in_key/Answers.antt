use Rattle.std.proofs.Common.{rules}
use Rattle.zarr_run_opening.proofs.ChunkKeyLemmas.{numbers_answer}
use Rattle.zarr_run_opening.proofs.chunk_keys.chunk_in_key.Goals as goal

pub returns : goal.returns
returns c = numbers_answer (λ v. v.items) c.args.path.now c.args.key.now c.args.encoding.now c.separator.result c.suffix.result.now _ c.length_above-above.result c.saturating_sub-end.result c.read_numbers.result c.requires c.separator.ensures c.suffix.ensures c.length_above-above.ensures (search rules) (search rules) (search rules) c.read_numbers.ensures
