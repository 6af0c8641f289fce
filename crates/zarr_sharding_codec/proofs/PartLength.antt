-- A part for which a shard has no room: the new slices, put behind what is stored, would make 2^63 bytes or more.
use Rattle.std.proofs.Common.{◌≡◌, ℕ, ◌+◌, ◌/◌, ◌<◌, ◌≤◌, ◌^◌, List, length, sym, subst, inl, inr, arith, Bool, true, false, Option, None, Some, IsTrue, IfOk, Result, Ok, Err}
use Rattle.std.specs.Option.{option_map_or}
use Rattle.zarr_grids_boxes.specs.Boxes.{product}
use Rattle.zarr_codecs_arrays.specs.declared.error.CodecError.{CodecError}
use Rattle.zarr_codecs_meaning.specs.Chains.{Chain, Location, sharded}
use Rattle.zarr_codecs_meaning.specs.Chains.Location.{at_start, at_end}
use Rattle.zarr_codecs_meaning.specs.Encoding.{Pair, index_size}
use Rattle.zarr_codecs_meaning.specs.Payloads.{Payload}
use Rattle.zarr_codecs_meaning.specs.Places.{index_shape, parts_of}
use Rattle.zarr_codecs_meaning.specs.Types.{Elements}
use Rattle.zarr_codecs_meaning.specs.Standing.{index_layout}
use Rattle.zarr_codecs_traits.specs.Indexers.{Asked, numbers_asked}
use Rattle.zarr_codecs_traits.specs.Arrays.{Coded, Update, coded, update_of}
use Rattle.zarr_codecs_traits.specs.PartWriting.{AreNewSlices, IsPlaced, LacksRoom, PassesLength, cells_after, write_of}
use Rattle.zarr_codecs_traits.specs.ShardWrites.{Appends, LeavesParts}
use Rattle.zarr_sharding_changes.specs.Changes.{Change, appended, pairs_after}
use Rattle.zarr_sharding_index.specs.Held.{IsOpened, shard_length, index_coding, held_as}
use Rattle.zarr_sharding_index.specs.Written.{IsChanged}
use Rattle.zarr_sharding_index.proofs.Reopened.{opened_length}
use Rattle.zarr_sharding_codec.specs.Appending.{AppendsChanges, AppendsPart, shard_write}
use Rattle.zarr_sharding_codec.proofs.PartShown.{IsShardOpened}
use Rattle.zarr_sharding_codec.proofs.AppendedShard.{appended_to, are_new_slices}
use Rattle.zarr_sharding_codec.proofs.PartPlaced.{opened_placed}
use Rattle.zarr_sharding_codec.proofs.PartWritten.{IsReady, half_index, part_encoded, ready_appended, ready_opened, refused_tested}

-- ---- the shard's length

total_more : (location : Location) (size end more : ℕ) → shard_length location size (end + more) ≡ shard_length location size end + more
total_more at_start size end more = omega arith
total_more at_end size end more = omega arith

opened_total : (index : Chain) (location : Location) (shape : List ℕ) (count end : ℕ) (old : Option (List ℕ)) (pairs : List Pair) → IsOpened (index_layout index location shape) count old pairs end → option_map_or length old (index_size index shape) ≡ shard_length location (index_size index shape) end
opened_total index at_start shape count end None pairs opened = sym opened.1
opened_total index at_end shape count end None pairs opened = let is = opened.1 in omega (arith, is)
opened_total index location shape count end (Some value) pairs opened = opened_length index location shape count end value pairs opened

-- ---- what is written, or not

module _ (subchunk : List ℕ) (inner index : Chain) (location : Location) (exact : Bool) (elements : Elements) (shape : List ℕ) (asked : Asked) (payload : Payload) (size : ℕ) (numbers : List ℕ) (old : Option (List ℕ)) (pairs : List Pair) (end : ℕ) (changes : List Change)
    (h : IsReady subchunk inner index location exact elements shape asked payload size numbers old pairs end changes) where
  abbrev array : Coded
  array = coded (sharded subchunk inner index location) elements shape

  abbrev update : Update
  update = update_of asked payload old

  shard_opened : IsShardOpened subchunk inner index location elements shape old pairs
  shard_opened = ready_opened subchunk inner index location elements shape asked payload size numbers old pairs end h.tested h.count h.opened

  -- the new slices of the subchunks that the write meets
  slices_new : AreNewSlices inner elements (parts_of shape subchunk) (write_of array update (cells_after array old (numbers_asked shape asked) h.tested.cells)) changes
  slices_new = are_new_slices subchunk inner index location exact elements shape asked payload size numbers old pairs changes h.tested shard_opened h.changed

  -- where a shard is as long as that with the new slices, there is no room for them
  lacks_room : 2 ^ 63 ≤ shard_length location (index_size index (index_shape shape subchunk)) (end + length (appended changes)) → LacksRoom array update
  lacks_room long =
      let total = opened_total index location (index_shape shape subchunk) (product (index_shape shape subchunk) / 2) end old pairs h.opened in
      let more = total_more location (index_size index (index_shape shape subchunk)) end (length (appended changes)) in
      refused_tested array.chain elements shape asked payload size numbers old (λ after. PassesLength array.chain elements shape (write_of array update after)) h.tested (inr (changes, slices_new, omega (arith, total, more, long)))

  -- each present slice lay in the data part
  was_placed : IsPlaced array.chain array.shape old
  was_placed = opened_placed subchunk inner index location shape (product (index_shape shape subchunk) / 2) end old pairs h.opened

  -- the subchunks that the write meets changed, and no others
  leaves_parts : (one : Bool) (new : Option (List ℕ)) (ended : ℕ) → end + length (appended changes) < 2 ^ 63 → IsChanged (index_coding index one location (index_shape shape subchunk)) changes old end (held_as new (pairs_after end changes pairs) ended) → LeavesParts array update new
  leaves_parts one new ended room written =
      let opened = subst (λ n. IsOpened (index_layout index location (index_shape shape subchunk)) n old pairs end) (half_index shape subchunk) h.opened in
      record {
        placed = was_placed;
        parts = inl (refused_tested array.chain elements shape asked payload size numbers old (λ after. Appends array.chain elements shape (write_of array update after) new) h.tested
            (λ keeps. (changes, slices_new, appended_to subchunk index one location shape changes end old pairs opened new ended keeps h.count room written)));
      }

  pub part_appended : (one whole : Bool) (new : Option (List ℕ)) (result : Result Bool CodecError) → (IsTrue whole → IsTrue exact) → IfOk result (AppendsChanges (index_coding index one location (index_shape shape subchunk)) (shard_write changes end pairs old) new) → IfOk result (AppendsPart array whole update new)
  part_appended one whole new (Err e) to_exact made = tt
  part_appended one whole new (Ok false) to_exact made = (made.0, was_placed, lacks_room made.1)
  part_appended one whole new (Ok true) to_exact made = (
    (
      h.tested.cells,
      part_encoded subchunk inner index location exact one whole elements shape asked payload size numbers old new h.tested (ready_appended subchunk inner index location exact one elements shape asked payload size numbers old new pairs end made.1.0 changes h made.0 made.1.1) to_exact,
    ),
    leaves_parts one new made.1.0 made.0 made.1.1,
  )
