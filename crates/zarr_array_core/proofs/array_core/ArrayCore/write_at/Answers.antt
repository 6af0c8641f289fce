use Rattle.std.proofs.Common.{◌∙◌, ℕ, List, IsTrue, ap, refl, subst, sym, inl}
use Rattle.std.specs.FinMap.{get}
use Rattle.zarr_grids_boxes.specs.Boxes.{Region}
use Rattle.zarr_grids_boxes.specs.Subsets.{region_of}
use Rattle.zarr_grids_cover.proofs.ChunkBoxes.{chunk_box-rank}
use Rattle.zarr_grids_keys.specs.Keys.{chunk_key}
use Rattle.zarr_grids_overlay.specs.Overlays.{extent_of}
use Rattle.zarr_array_elements.proofs.Meeting.{shares_own}
use Rattle.zarr_array_core.specs.ChunkValues.{with_value}
use Rattle.zarr_array_core.specs.IntoShards.{PutsIntoShard}
use Rattle.zarr_array_core.specs.BoxWrites.{write_of}
use Rattle.zarr_array_core.specs.Views.{document_of, path_of}
use Rattle.zarr_array_core.proofs.ShardWritten.{changed_alike, writes_into, writes_whole}
use Rattle.zarr_array_core.proofs.array_core.ArrayCore.write_at.Goals as goal
use Rattle.zarr_array_core.proofs.array_core.ArrayCore.write_at.Goals.{then-branch+in_ok-put_into_shard, else-branch+in_ok-patch_chunk+then-not-branch+in_ok-write_chunk, else-branch+in_ok-patch_chunk+else-not-branch}

pub write_chunk-requires-clause-writes : goal.write_chunk-requires-clause-writes
write_chunk-requires-clause-writes g c κs within =
    let document = document_of g.C.ArrayToBytesCodecTraits.meaning c.args.self.now in
    record {
      small = c.requires.small.chunks c.args.chunk.now (region_of c.in_ok-own.own) c.in_ok-own.ensures c.requires.shares;
      shares = shares_own document.grid c.args.chunk.now (extent_of c.args.write.now.region) (region_of c.in_ok-own.own) c.in_ok-own.ensures.has_box c.requires.shares;
      rank = c.requires.rank ∙ sym (chunk_box-rank document.grid c.args.chunk.now (region_of c.in_ok-own.own) c.in_ok-own.ensures.has_box).0;
      many = c.requires.many;
      values = c.requires.values;
    }

pub patch_chunk-requires-clause-writes : goal.patch_chunk-requires-clause-writes
patch_chunk-requires-clause-writes g c κs within =
    let document = document_of g.C.ArrayToBytesCodecTraits.meaning c.args.self.now in
    record {
      small = c.requires.small.chunks c.args.chunk.now (region_of c.in_ok-own.own) c.in_ok-own.ensures c.requires.shares;
      shares = shares_own document.grid c.args.chunk.now (extent_of c.args.write.now.region) (region_of c.in_ok-own.own) c.in_ok-own.ensures.has_box c.requires.shares;
      rank = c.requires.rank ∙ sym (chunk_box-rank document.grid c.args.chunk.now (region_of c.in_ok-own.own) c.in_ok-own.ensures.has_box).0;
      many = c.requires.many;
      values = c.requires.values;
    }

pub is_into_shard-requires-clause-rank : goal.is_into_shard-requires-clause-rank
is_into_shard-requires-clause-rank g c κs within =
    let document = document_of g.C.ArrayToBytesCodecTraits.meaning c.args.self.now in
    c.requires.rank ∙ sym (chunk_box-rank document.grid c.args.chunk.now (region_of c.in_ok-own.own) c.in_ok-own.ensures.has_box).0

pub is_into_shard-requires-clause-small : goal.is_into_shard-requires-clause-small
is_into_shard-requires-clause-small g c κs within = c.requires.small.chunks c.args.chunk.now (region_of c.in_ok-own.own) c.in_ok-own.ensures c.requires.shares

pub put_into_shard-requires-clause-writes : goal.put_into_shard-requires-clause-writes
put_into_shard-requires-clause-writes g c κs within =
    let document = document_of g.C.ArrayToBytesCodecTraits.meaning c.args.self.now in
    record {
      small = c.requires.small.chunks c.args.chunk.now (region_of c.in_ok-own.own) c.in_ok-own.ensures c.requires.shares;
      shares = shares_own document.grid c.args.chunk.now (extent_of c.args.write.now.region) (region_of c.in_ok-own.own) c.in_ok-own.ensures.has_box c.requires.shares;
      rank = c.requires.rank ∙ sym (chunk_box-rank document.grid c.args.chunk.now (region_of c.in_ok-own.own) c.in_ok-own.ensures.has_box).0;
      many = c.requires.many;
      values = c.requires.values;
    }

pub returns-clause-ok : goal.returns-clause-ok
returns-clause-ok g c = λ honest.
    let write = write_of g.C.ArrayToBytesCodecTraits c.args.self.now c.args.write.now in
    let box : Region = region_of c.in_ok-own.own in
    let held = g.S.ReadableStorageTraits.held in
    let old = held c.args.store.now in
    let key = chunk_key (path_of c.args.self.now) write.array.document.keys c.args.chunk.now in
    let at = c.in_ok-key.ensures in
    let told = c.in_ok-is_into_shard.ensures.ok in
    elim c.if-branch.branch [
      | then-branch+in_ok-put_into_shard w ↦
          let put = w.in_ok-put_into_shard.ensures.ok honest in (
            box,
            put.0,
            c.in_ok-own.ensures,
            writes_into write box (get old key) put.0 (sym told ∙ w.if-branch.true) (subst (λ (k : List ℕ). PutsIntoShard write box (get old k) put.0) at put.1),
            ap held w.store-is ∙ (put.2 ∙ ap (λ (k : List ℕ). with_value old k put.0) at),
          )
      | else-branch+in_ok-patch_chunk+then-not-branch+in_ok-write_chunk w ↦
          let same = w.in_ok-patch_chunk.ensures.undone honest w.if-not-branch.true in
          let still : IsTrue (g.S.ReadableStorageTraits.is_honest w.patch_chunk.new.store) = subst IsTrue (sym w.in_ok-patch_chunk.ensures.store.0.honest) honest in
          let done = w.in_ok-write_chunk.ensures.ok still in
          let moved = changed_alike write box (held w.patch_chunk.new.store) old (held w.write_chunk.new.store) c.in_ok-key.key key done.0 same at done.1 done.2 in
          (box, done.0, c.in_ok-own.ensures, writes_whole write box (get old key) done.0 (sym told ∙ w.if-branch.false) moved.0, ap held w.store-is ∙ moved.1)
      | else-branch+in_ok-patch_chunk+else-not-branch w ↦
          let done = w.in_ok-patch_chunk.ensures.ok honest w.if-not-branch.false in
          let moved = changed_alike write box old old (held w.patch_chunk.new.store) c.in_ok-key.key key done.0 refl at (inl done.1) done.2 in
          (box, done.0, c.in_ok-own.ensures, writes_whole write box (get old key) done.0 (sym told ∙ w.if-branch.false) moved.0, ap held w.store-is ∙ moved.1)
    ]
