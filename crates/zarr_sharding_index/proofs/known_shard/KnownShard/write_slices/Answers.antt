use Rattle.std.proofs.Common.{◌∙◌, List, ap, length}
use Rattle.zarr_codecs_meaning.specs.Encoding.{Pair}
use Rattle.zarr_sharding_index.specs.Known.{end_of, pairs_in}
use Rattle.zarr_sharding_index.specs.SliceChanges.{changes_of}
use Rattle.zarr_sharding_index.proofs.Counts.{changed_count}
use Rattle.zarr_sharding_index.proofs.known_shard.KnownShard.write_slices.Goals as goal

pub keep-requires-clause-many : goal.keep-requires-clause-many
keep-requires-clause-many g c =
    let self = c.args.self.now in
    ap (λ (l : List Pair). length l) c.in_ok-pairs.ensures ∙ changed_count (end_of self) (changes_of c.args.changes.now) (pairs_in self)

pub written_index-requires-clause-many : goal.written_index-requires-clause-many
written_index-requires-clause-many g c =
    let self = c.args.self.now in
    ap (λ (l : List Pair). length l) c.in_ok-pairs.ensures ∙ changed_count (end_of self) (changes_of c.args.changes.now) (pairs_in self)

pub append-requires-clause-many : goal.append-requires-clause-many
append-requires-clause-many g c =
    let self = c.args.self.now in
    ap (λ (l : List Pair). length l) c.in_ok-pairs.ensures ∙ changed_count (end_of self) (changes_of c.args.changes.now) (pairs_in self)
