use Rattle.std.proofs.Common.{◌∙◌}
use Rattle.zarr_sharding_index.proofs.PairBytes.{le_word, words_listed}
use Rattle.zarr_sharding_index.proofs.numbers.pair_bytes.Goals as goal

pub returns-clause-bytes : goal.returns-clause-bytes
returns-clause-bytes c =
    let a = c.args.offset in
    let b = c.args.size in
    words_listed c.to_le_bytes.result c.to_le_bytes-2.result a b (c.to_le_bytes.ensures ∙ le_word a) (c.to_le_bytes-2.ensures ∙ le_word b)
