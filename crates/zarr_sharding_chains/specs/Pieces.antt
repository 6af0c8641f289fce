-- Pieces of what chains around a shard decode and encode.
use Rattle.std.specs.Prelude.{◌≡◌, ℕ, List, [], map, Option, None, Some, Bool, true, Result, Vec, MatchOption}
use Rattle.std.specs.declared.alloc.Global.{Global}
use Rattle.zarr_codecs_meaning.specs.Chains.{ArrayCodec, ByteCodec, Chain}
use Rattle.zarr_codecs_meaning.specs.Payloads.{Payload}
use Rattle.zarr_codecs_meaning.specs.Types.{Elements}
use Rattle.zarr_codecs_arrays.specs.declared.array_bytes.ArrayBytes.{ArrayBytes}
use Rattle.zarr_codecs_arrays.specs.declared.error.CodecError.{CodecError}
use Rattle.zarr_codecs_traits.specs.Arrays.{Coded, coded}
use Rattle.zarr_codecs_traits.specs.Indexers.{Asked}
use Rattle.zarr_codecs_traits.specs.declared.pieces.ArrayPieces.{ArrayPieces}
use Rattle.zarr_codecs_traits.specs.declared.pieces.ValuePieces.{ValuePieces}
use Rattle.zarr_codecs_around.specs.Pieces.{EncodesAs, IsCutBefore, IsCutInside, IsCutMoved, IsPartCutInside, coded_after, coded_by}
use Rattle.zarr_codecs_around.specs.Views.{codecs_of, with_codecs}
use Rattle.zarr_codecs_chains.specs.Views.{meaning_of}
use Rattle.zarr_sharding_codec.specs.Pieces.{DecodesPieceOf, IsCut, IsCutArray, IsCutPart, StoresPieceOf}
use Rattle.zarr_sharding_codec.specs.Views.{inner_of, shard_chain}
use Rattle.zarr_sharding_chains.specs.Views.{arrays_of, bytes_of, shard_of, sharded_function, sharded_meaning}
use Rattle.zarr_sharding_chains.specs.declared.array_chain.ArrayChain.{ArrayChain}
use Rattle.zarr_sharding_chains.specs.declared.array_chain.ArrayChain.TheVariants.{Plain, Sharded, Nested}
use Rattle.zarr_sharding_chains.specs.declared.sharded_chain.ShardedChain.{ShardedChain}

-- a shard and what stands around it: array codecs before it, the chain of the shard alone, and bytes codecs behind it; and whether what the codecs of its subchunks make of elements, and what it makes itself, depends on these alone
pub record Around : Type 0 where
  pub before : List ArrayCodec
  pub shard : Chain
  pub behind : List ByteCodec
  pub inner_exact : Bool
  pub exact : Bool

-- the shard of a chain and what stands around it
abbrev pub around_shard : {B I : Type 0} → (I → Chain) → (I → Bool) → (B → ByteCodec) → ShardedChain B I → Around
around_shard inner exact bytes chain = record {
  before = codecs_of (arrays_of chain);
  shard = shard_chain inner (meaning_of bytes) (shard_of chain);
  behind = map bytes (bytes_of chain);
  inner_exact = exact (inner_of (shard_of chain));
  exact = sharded_function exact chain;
}

-- ---- a chain around a shard

-- the pieces of a value: those of the shard inside of the bytes codecs
abbrev pub SplitsSharded : Around → Coded → List ℕ → ValuePieces → Type 0
SplitsSharded around array value pieces = IsCutInside (IsCut (coded_after around.before around.shard array)) around.behind value pieces

-- the pieces of a part, where no array codec stands before the shard: those that hold it inside of the bytes codecs
pub record SplitsShardedPart (around : Around) (array : Coded) (stored : Option (List ℕ)) (asked : Asked) (pieces : ValuePieces) : Type 0 where
  pub alone : around.before ≡ []
  pub cut : IsPartCutInside (λ inside. IsCutPart (coded_by around.shard array) inside asked) around.behind stored pieces

-- what decoding a piece answers: what the shard does
abbrev pub DecodesSharded : Around → Elements → ValuePieces → ℕ → Result ArrayBytes CodecError → Type 0
DecodesSharded around elements pieces n result = DecodesPieceOf (coded around.shard elements pieces.shape.items) pieces n result

-- the pieces of an array: those of the array that the shard encodes, whose elements the array codecs moved
abbrev pub SplitsShardedArray : Around → Coded → Payload → ArrayPieces → Type 0
SplitsShardedArray around array payload pieces =
    IsCutMoved (λ moved pieces. IsCutBefore (IsCutArray (coded_after around.before around.shard array) moved) around.behind around.exact pieces)
    (EncodesAs around.exact array (coded_after around.before (with_codecs around.shard around.behind) array) payload) pieces

-- what encoding a piece answers: what the shard does
abbrev pub EncodesSharded : Around → Elements → ArrayPieces → ℕ → Result (Option (Vec ℕ Global)) CodecError → Type 0
EncodesSharded around elements pieces n result = StoresPieceOf around.inner_exact (coded around.shard elements pieces.shape.items) pieces n result

-- ---- any chain of an array

-- the outermost shard of an array's chain and what stands around it, if there is a shard
abbrev pub around_outermost : {B : Type 0} → (B → ByteCodec) → ArrayChain B → Option Around
around_outermost bytes (Plain chain) = None
around_outermost bytes (Sharded chain) = Some (around_shard (meaning_of bytes) (λ inner. true) bytes chain)
around_outermost bytes (Nested chain) = Some (around_shard (sharded_meaning (meaning_of bytes) bytes) (sharded_function (λ inner. true)) bytes chain)

-- the pieces of a value: those of the outermost shard; without one a value isn't cut
abbrev pub SplitsOutermost : Option Around → Coded → List ℕ → ValuePieces → Type 0
SplitsOutermost around array value pieces = MatchOption around ⊥ (λ outermost. SplitsSharded outermost array value pieces)

-- the pieces of a part, by that shard
abbrev pub SplitsOutermostPart : Option Around → Coded → Option (List ℕ) → Asked → ValuePieces → Type 0
SplitsOutermostPart around array stored asked pieces = MatchOption around ⊥ (λ outermost. SplitsShardedPart outermost array stored asked pieces)

-- what decoding a piece answers, by that shard
abbrev pub DecodesOutermost : Option Around → Elements → ValuePieces → ℕ → Result ArrayBytes CodecError → Type 0
DecodesOutermost around elements pieces n result = MatchOption around (Unit {0}) (λ outermost. DecodesSharded outermost elements pieces n result)

-- the pieces of an array, by that shard
abbrev pub SplitsOutermostArray : Option Around → Coded → Payload → ArrayPieces → Type 0
SplitsOutermostArray around array payload pieces = MatchOption around ⊥ (λ outermost. SplitsShardedArray outermost array payload pieces)

-- what encoding a piece answers, by that shard
abbrev pub EncodesOutermost : Option Around → Elements → ArrayPieces → ℕ → Result (Option (Vec ℕ Global)) CodecError → Type 0
EncodesOutermost around elements pieces n result = MatchOption around (Unit {0}) (λ outermost. EncodesSharded outermost elements pieces n result)
