-- What chains around shards tell of themselves.
use Rattle.std.proofs.Common.{◌≡◌, ◌∙◌, List, [], ◌∷◌, ap, refl, sym, Bool, true, false, not, ◌&&◌}
use Rattle.zarr_codecs_meaning.specs.Chains.{ArrayCodec, ByteCodec, Chain}
use Rattle.zarr_codecs_meaning.specs.Chains.ArrayCodec.{transpose, reshape, squeeze}
use Rattle.zarr_codecs_meaning.specs.Chains.Chain.{then_bytes}
use Rattle.zarr_codecs_meaning.specs.Fits.{is_plain}
use Rattle.zarr_codecs_meaning.specs.Partial.{encodes_in_part}
use Rattle.zarr_codecs_meaning.specs.Types.{DataType}
use Rattle.zarr_codecs_traits.specs.Capabilities.{encodes_as_is}
use Rattle.zarr_codecs_traits.specs.PartEncoding.{encodes_ranges, takes_patches}
use Rattle.zarr_codecs_around.specs.Views.{plain_before, plain_with, with_array_codecs, with_codecs}
use Rattle.zarr_sharding_chains.specs.Reshapes.{any_reshape}

-- a chain that makes shards encodes parts by parts where no array codec before it is `reshape`
pub parts_before : (codecs : List ArrayCodec) (chain : Chain) → is_plain chain ≡ false → (not (any_reshape codecs) && encodes_in_part chain) ≡ encodes_in_part (with_array_codecs codecs chain)
parts_before [] chain shards = refl
parts_before (transpose order ∷ codecs) chain shards = parts_before codecs chain shards
parts_before (reshape entries ∷ codecs) chain shards = sym (ap (λ (b : Bool). b && encodes_in_part (with_array_codecs codecs chain)) (plain_before codecs chain ∙ shards))
parts_before (squeeze ∷ codecs) chain shards = parts_before codecs chain shards

-- codecs around a chain that makes shards leave it one
pub shards_between : (before : List ArrayCodec) (chain : Chain) (after : List ByteCodec) → is_plain chain ≡ false → is_plain (with_array_codecs before (with_codecs chain after)) ≡ false
shards_between before chain after shards = plain_before before (with_codecs chain after) ∙ (plain_with chain after ∙ shards)

-- ---- bytes that are replaced in values that nobody reads

ranges_after : (chain : Chain) (codecs : List ByteCodec) → encodes_ranges chain ≡ false → encodes_ranges (with_codecs chain codecs) ≡ false
ranges_after chain [] h = h
ranges_after chain (codec ∷ codecs) h = ranges_after (then_bytes chain codec) codecs refl

-- codecs around a chain that encodes no ranges encode none
pub no_ranges_between : (before : List ArrayCodec) (chain : Chain) (after : List ByteCodec) → encodes_ranges chain ≡ false → encodes_ranges (with_array_codecs before (with_codecs chain after)) ≡ false
no_ranges_between [] chain after h = ranges_after chain after h
no_ranges_between (codec ∷ codecs) chain after h = refl

patches_after : (chain : Chain) (codecs : List ByteCodec) (type : DataType) → takes_patches chain type ≡ false → takes_patches (with_codecs chain codecs) type ≡ false
patches_after chain [] type h = h
patches_after chain (codec ∷ codecs) type h = patches_after (then_bytes chain codec) codecs type refl

-- nor do codecs around a chain take patches that takes none
pub no_patches_between : (before : List ArrayCodec) (chain : Chain) (after : List ByteCodec) (type : DataType) → takes_patches chain type ≡ false → false ≡ takes_patches (with_array_codecs before (with_codecs chain after)) type
no_patches_between [] chain after type h = sym (patches_after chain after type h)
no_patches_between (codec ∷ codecs) chain after type h = refl

-- ---- values that are bytes as they stand in memory

as_is_after : (chain : Chain) (codecs : List ByteCodec) → encodes_as_is chain ≡ false → encodes_as_is (with_codecs chain codecs) ≡ false
as_is_after chain [] h = h
as_is_after chain (codec ∷ codecs) h = as_is_after (then_bytes chain codec) codecs refl

-- codecs around a chain that encodes elements otherwise than as they are encode none so
pub never_as_is_between : (before : List ArrayCodec) (chain : Chain) (after : List ByteCodec) → encodes_as_is chain ≡ false → false ≡ encodes_as_is (with_array_codecs before (with_codecs chain after))
never_as_is_between [] chain after h = sym (as_is_after chain after h)
never_as_is_between (codec ∷ codecs) chain after h = refl

-- ---- options

-- a fact that is so adds nothing
pub and_true : (a b : Bool) → b ≡ true → (a && b) ≡ a
and_true true b h = h
and_true false b h = refl
