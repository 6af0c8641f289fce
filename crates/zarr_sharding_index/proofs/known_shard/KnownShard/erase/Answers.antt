use Rattle.std.proofs.Common.{◌∙◌, List, ap, length}
use Rattle.std.proofs.lemmas.List.{length-replicate}
use Rattle.zarr_codecs_meaning.specs.Encoding.{Pair, absent_pair}
use Rattle.zarr_sharding_index.proofs.known_shard.KnownShard.erase.Goals as goal

pub keep-requires-clause-many : goal.keep-requires-clause-many
keep-requires-clause-many g c = ap (λ (ps : List Pair). length ps) c.all_absent-pairs.ensures ∙ (length-replicate c.len.result absent_pair ∙ c.len.ensures)
