-- What is known of the shard of an array.
use Rattle.std.proofs.Common.{◌≡◌, ◌∙◌, ℕ, ◌*◌, ◌/◌, List, length, replicate, ap, sym, subst, arith, Option, None, Some, OnErr, OnOk, Result, Ok, Err}
use Rattle.zarr_grids_boxes.specs.Boxes.{product}
use Rattle.zarr_codecs_arrays.specs.declared.error.CodecError.{CodecError}
use Rattle.zarr_codecs_meaning.specs.Encoding.{Pair, absent_pair, base_of}
use Rattle.zarr_codecs_meaning.specs.Places.{index_shape, parts_of}
use Rattle.zarr_codecs_meaning.specs.Standing.{index_layout}
use Rattle.zarr_codecs_meaning.proofs.Parts.{index_product}
use Rattle.zarr_codecs_traits.specs.PartWriting.{cells_shown}
use Rattle.zarr_sharding_codec.specs.PartWriting.{IsOf}
use Rattle.zarr_sharding_codec.proofs.PartWritten.{opened_of}
use Rattle.zarr_sharding_partial.specs.Pairs.{index_length}
use Rattle.zarr_sharding_partial.specs.Shards.{ShardOf, chain_of}
use Rattle.zarr_sharding_partial.specs.Tables.{IsErased, IsTold, TellsAgain}
use Rattle.zarr_sharding_index.specs.Held.{IsOpened, Held, held_as}

-- a pair for each subchunk
pub pairs_count : (s : ShardOf) (pairs_shape : List ℕ) (pairs : List Pair) → pairs_shape ≡ index_shape s.shape s.subchunk → product pairs_shape ≡ 2 * length pairs → length pairs ≡ length (parts_of s.shape s.subchunk)
pairs_count s pairs_shape pairs is many =
    let two = index_product s.shape s.subchunk in
    let same = ap product is in
    omega (arith, two, same, many)

-- an index that was opened, by the shape that it was read with
pub opened_told : (s : ShardOf) (pairs_shape : List ℕ) (contents : Option (List ℕ)) (pairs : List Pair) (end : ℕ) → pairs_shape ≡ index_shape s.shape s.subchunk → IsOpened (index_layout s.index s.location pairs_shape) (product pairs_shape / 2) contents pairs end
    → IsTold s (held_as contents pairs end)
opened_told s pairs_shape contents pairs end is opened =
    let two = index_product s.shape s.subchunk in
    let half : product (index_shape s.shape s.subchunk) / 2 ≡ length (parts_of s.shape s.subchunk) = omega (arith, two) in
    subst (λ n. IsOpened (index_layout s.index s.location (index_shape s.shape s.subchunk)) n contents pairs end) half (subst (λ (shape : List ℕ). IsOpened (index_layout s.index s.location shape) (product shape / 2) contents pairs end) is opened)

-- what is known is of the value that the source holds
pub told_of : (s : ShardOf) (held : Held) → IsTold s held → IsOf s.location (index_length s) held.contents held.pairs held.end
told_of s held told = opened_of s.index s.location (index_shape s.shape s.subchunk) (length (parts_of s.shape s.subchunk)) held.end held.contents held.pairs told

-- the same, by cases of what the source holds
pub told_again : (s : ShardOf) (contents : Option (List ℕ)) (pairs : List Pair) (end : ℕ) → IsTold s (held_as contents pairs end) → TellsAgain s contents pairs end
told_again s None pairs end told = told
told_again s (Some value) pairs end told = told

pub again_told : (s : ShardOf) (contents : Option (List ℕ)) (pairs : List Pair) (end : ℕ) → TellsAgain s contents pairs end → IsTold s (held_as contents pairs end)
again_told s None pairs end told = told
again_told s (Some value) pairs end told = told

-- ---- after a shard was taken away, or was to be

-- what a call leaves of a shard
pub record IsLeft {A : Type 0} (result : Result A CodecError) (s : ShardOf) (old new : Held) : Type 0 where
  pub count : length old.pairs ≡ length (parts_of s.shape s.subchunk)
  pub known : OnOk result ((new.pairs ≡ replicate (length old.pairs) absent_pair) × (new.end ≡ base_of s.location (index_length s)))
  pub erased : OnOk result (new.contents ≡ None)
  pub same : OnErr result ((new.pairs ≡ old.pairs) × (new.end ≡ old.end))
  pub err : OnErr result (new.contents ≡ old.contents)

nothing_told : (s : ShardOf) (new : Held) (count : ℕ) → count ≡ length (parts_of s.shape s.subchunk) → new.pairs ≡ replicate count absent_pair → new.end ≡ base_of s.location (index_length s) → new.contents ≡ None → IsTold s new
nothing_told s new count many pairs end none =
    subst (λ (o : Option (List ℕ)). IsOpened (index_layout s.index s.location (index_shape s.shape s.subchunk)) (length (parts_of s.shape s.subchunk)) o new.pairs new.end) (sym none) (pairs ∙ ap (λ n. replicate n absent_pair) many, end)

pub same_told : (s : ShardOf) (old new : Held) → new.pairs ≡ old.pairs → new.end ≡ old.end → new.contents ≡ old.contents → IsTold s old → IsTold s new
same_told s old new pairs end contents told =
    let index_is = index_shape s.shape s.subchunk in
    let count = length (parts_of s.shape s.subchunk) in
    subst (λ (o : Option (List ℕ)). IsOpened (index_layout s.index s.location index_is) count o new.pairs new.end) (sym contents)
    (subst (λ (ps : List Pair). IsOpened (index_layout s.index s.location index_is) count old.contents ps new.end) (sym pairs) (subst (λ n. IsOpened (index_layout s.index s.location index_is) count old.contents old.pairs n) (sym end) told))

pub left_told : {A : Type 0} (result : Result A CodecError) (s : ShardOf) (old new : Held) → IsLeft result s old new → IsTold s old → IsTold s new
left_told (Ok value) s old new h told = nothing_told s new (length old.pairs) h.count h.known.0 h.known.1 h.erased
left_told (Err e) s old new h told = same_told s old new h.same.0 h.same.1 h.err told

pub left_erased : {A : Type 0} (result : Result A CodecError) (s : ShardOf) (old new : Held) → IsLeft result s old new → OnOk result (IsErased s new)
left_erased (Ok value) s old new h = record {
  none = h.erased;
  told = nothing_told s new (length old.pairs) h.count h.known.0 h.known.1 h.erased;
  table = ap (λ (o : Option (List ℕ)). cells_shown (chain_of s) s.elements s.shape o) h.erased;
}
left_erased (Err e) s old new h = tt
