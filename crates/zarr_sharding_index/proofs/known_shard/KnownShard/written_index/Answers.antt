use Rattle.std.proofs.Common.{◌*◌, ◌∙◌, List, ℕ, ap, length, subst, sym}
use Rattle.zarr_grids_boxes.specs.Boxes.{product}
use Rattle.zarr_codecs_meaning.specs.Encoding.{Pair}
use Rattle.zarr_sharding_index.specs.Present.{all_pairs}
use Rattle.zarr_sharding_index.specs.Stored.{WritesIndex, index_fits}
use Rattle.zarr_sharding_index.proofs.known_shard.KnownShard.written_index.Goals as goal

pub write_index-requires-clause-fit : goal.write_index-requires-clause-fit
write_index-requires-clause-fit g c = ap (index_fits (g.X.ArrayToBytesCodecTraits.meaning c.args.codecs.now)) c.as_slice.ensures.value ∙ c.requires.fit

pub write_index-requires-clause-many : goal.write_index-requires-clause-many
write_index-requires-clause-many g c =
    let many = ap (λ (l : List Pair). length l) c.in_ok-index.ensures ∙ c.requires.many in
    ap product c.as_slice.ensures.value ∙ (c.args.self.now.many ∙ ap (λ n. 2 * n) (sym many))

pub returns : goal.returns
returns g c =
    let index = g.X.ArrayToBytesCodecTraits.meaning c.args.codecs.now in
    let exact = g.X.ArrayToBytesCodecTraits.is_function c.args.codecs.now in
    let result = c.write_index.result in
    subst (λ (s : List ℕ). WritesIndex index exact s (all_pairs c.args.pairs.now) result) c.as_slice.ensures.value
    (subst (λ (ps : List Pair). WritesIndex index exact c.as_slice.result.now ps result) c.in_ok-index.ensures c.write_index.ensures)
