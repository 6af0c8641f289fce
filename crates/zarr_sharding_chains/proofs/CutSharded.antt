-- Pieces of parts, where no array codec stands before a shard.
use Rattle.std.proofs.Common.{◌≡◌, ℕ, List, [], sym, subst, Option, Result, Ok, Err}
use Rattle.zarr_codecs_meaning.specs.Chains.{ArrayCodec, Chain}
use Rattle.zarr_codecs_meaning.specs.Types.{Elements}
use Rattle.zarr_codecs_arrays.specs.declared.array_bytes.ArrayBytes.{ArrayBytes}
use Rattle.zarr_codecs_arrays.specs.declared.error.CodecError.{CodecError}
use Rattle.zarr_codecs_traits.specs.Arrays.{coded}
use Rattle.zarr_codecs_traits.specs.Indexers.{Asked}
use Rattle.zarr_codecs_traits.specs.Outcomes.{DecodesPart}
use Rattle.zarr_codecs_traits.specs.Pieces.{SplitsPart}
use Rattle.zarr_codecs_traits.specs.declared.pieces.SplitValue.{SplitValue}
use Rattle.zarr_codecs_traits.specs.declared.pieces.SplitValue.TheVariants as split
use Rattle.zarr_codecs_around.specs.Pieces.{IsPartCutInside}
use Rattle.zarr_codecs_around.specs.Views.{with_array_codecs}
use Rattle.zarr_sharding_codec.specs.Pieces.{IsCutPart}
use Rattle.zarr_sharding_chains.specs.Pieces.{Around, SplitsShardedPart}

-- what is decoded without array codecs
pub part_alone : (before : List ArrayCodec) (rest : Chain) (elements : Elements) (shape : List ℕ) (stored : Option (List ℕ)) (asked : Asked) (r : Result ArrayBytes CodecError) → before ≡ []
    → DecodesPart (coded rest elements shape) stored asked r → DecodesPart (coded (with_array_codecs before rest) elements shape) stored asked r
part_alone before rest elements shape stored asked r alone h = subst (λ (codecs : List ArrayCodec). DecodesPart (coded (with_array_codecs codecs rest) elements shape) stored asked r) (sym alone) h

-- and what is cut
pub part_cut_alone : (around : Around) (rest : Chain) (elements : Elements) (shape : List ℕ) (stored : Option (List ℕ)) (asked : Asked) (r : Result SplitValue CodecError) → around.before ≡ []
    → SplitsPart (IsPartCutInside (λ inside. IsCutPart (coded around.shard elements shape) inside asked) around.behind stored) (coded rest elements shape) stored asked r
    → SplitsPart (SplitsShardedPart around (coded (with_array_codecs around.before rest) elements shape) stored asked) (coded (with_array_codecs around.before rest) elements shape) stored asked r
part_cut_alone around rest elements shape stored asked (Ok (split.Decoded bytes)) alone h = part_alone around.before rest elements shape stored asked (Ok bytes) alone h
part_cut_alone around rest elements shape stored asked (Ok (split.Cut pieces)) alone h = record { alone = alone; cut = h }
part_cut_alone around rest elements shape stored asked (Err e) alone h = part_alone around.before rest elements shape stored asked (Err e) alone h
