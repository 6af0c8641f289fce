-- Elements were put at places of an array, or why they weren't.
use Rattle.std.proofs.Common.{◌≡◌, inr, ◌<◌, ◌^◌, List, length, true, OnOk, IfErr, Result, Ok, Err}
use Rattle.std.specs.Prelude.{nat_lt}
use Rattle.std.specs.List.{list_all}
use Rattle.zarr_grids_boxes.specs.Boxes.{product}
use Rattle.zarr_codecs_arrays.specs.declared.error.CodecError.{CodecError}
use Rattle.zarr_codecs_meaning.specs.Fits.{fits}
use Rattle.zarr_codecs_meaning.specs.Laws.{IsLawfulChain}
use Rattle.zarr_codecs_meaning.specs.Places.{parts_of}
use Rattle.zarr_codecs_meaning.specs.Types.{Cell, is_value}
use Rattle.zarr_codecs_traits.specs.Indexers.{numbers_asked}
use Rattle.zarr_sharding_partial.specs.Shards.{ShardOf, chain_of}
use Rattle.zarr_sharding_partial.specs.Puts.{IsGiven, IsPutInto, IsWritten, NotPutInto, NotWritten, Putting, new_cells}
use Rattle.zarr_sharding_partial.specs.Tables.{IsTold}
use Rattle.zarr_sharding_index.specs.Held.{Held}
use Rattle.zarr_sharding_partial.proofs.Written.{put_into}

-- the shard of an array is known
pub record IsKnown (s : ShardOf) (held : Held) : Type 0 where
  pub lawful : IsLawfulChain (chain_of s)
  pub fill : is_value s.elements.type s.elements.fill ≡ true
  pub fit : fits (chain_of s) s.elements.type s.shape ≡ true
  pub small : product s.shape < 2 ^ 63
  pub count : length held.pairs ≡ length (parts_of s.shape s.subchunk)
  pub told : IsTold s held

pub put_ok : {A : Type 0} (result : Result A CodecError) (put : Putting) (cells : List Cell) (old new : Held) → IsGiven put.shard.elements put.shard.shape put.asked put.payload cells → list_all (λ n. nat_lt n (product put.shard.shape)) (numbers_asked put.shard.shape put.asked) ≡ true
    → IsKnown put.shard old → OnOk result (IsWritten put cells old new) → OnOk result ((made : List Cell) × IsPutInto put made old new)
put_ok (Ok value) put cells old new given below known w = (
  cells,
  put_into put cells old new (record {
    lawful = known.lawful;
    fill = known.fill;
    fit = known.fit;
    small = known.small;
    count = known.count;
    told = known.told;
    below = below;
    given = given;
  }) w,
)
put_ok (Err e) put cells old new given below known w = tt

pub put_refused : {A : Type 0} (result : Result A CodecError) (put : Putting) (cells : List Cell) (held : Held) → IsGiven put.shard.elements put.shard.shape put.asked put.payload cells → IfErr result (NotWritten put.shard put.exact (new_cells put cells) held) → IfErr result (NotPutInto put held)
put_refused (Ok value) put cells held given why = tt
put_refused (Err e) put cells held given why = inr (cells, given, why)
