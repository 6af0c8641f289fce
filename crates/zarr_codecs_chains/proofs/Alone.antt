-- A chain that has no array codec before it.
use Rattle.std.proofs.Common.{◌≡◌, ◌∙◌, ℕ, List, [], ◌∷◌, length, map, refl, true, false}
use Rattle.zarr_codecs_meaning.specs.Chains.{ByteCodec, Chain}
use Rattle.zarr_codecs_meaning.specs.Fits.{fits, takes_each_shape}
use Rattle.zarr_codecs_meaning.specs.Types.{DataType}
use Rattle.zarr_codecs_array_to_array.specs.declared.codec.ArrayToArrayCodec.{ArrayToArrayCodec}
use Rattle.zarr_codecs_around.specs.Views.{chain_between, with_codecs}
use Rattle.zarr_codecs_around.proofs.AllArrayCodecs.{fits_between, never_takes, takes_between}

-- it suits what the codec does, with bytes codecs behind it or without
pub fits_alone : {B : Type 0} (meaning : B → ByteCodec) (before : List ArrayToArrayCodec) (chain : Chain) (after : List B) (type : DataType) (shape : List ℕ) → length before ≡ 0 → fits chain type shape ≡ fits (chain_between meaning before chain after) type shape
fits_alone meaning [] chain after type shape none = fits_between meaning [] chain after type shape shape refl refl
fits_alone meaning (codec ∷ codecs) chain after type shape none = absurd (cc)

-- a chain that does the same for each shape has none
pub none_before : {B : Type 0} (meaning : B → ByteCodec) (before : List ArrayToArrayCodec) (chain : Chain) (after : List B) → takes_each_shape (chain_between meaning before chain after) ≡ true → length before ≡ 0
none_before meaning [] chain after takes = refl
none_before meaning (codec ∷ codecs) chain after takes = absurd (differ (never_takes meaning (codec ∷ codecs) chain after (λ e. some e) ∙ takes)) where
  some : length (codec ∷ codecs) ≡ 0 → ⊥
  some e = cc

  differ : false ≡ true → ⊥
  differ e = cc

-- and its codec does the same for each shape
pub takes_alone : {B : Type 0} (meaning : B → ByteCodec) (before : List ArrayToArrayCodec) (chain : Chain) (after : List B) → takes_each_shape (chain_between meaning before chain after) ≡ true → takes_each_shape chain ≡ true
takes_alone meaning before chain after takes = takes_between meaning before chain after (none_before meaning before chain after takes) ∙ takes

-- what it does is what the codec does with the bytes codecs behind it
pub chain_alone : {B : Type 0} (meaning : B → ByteCodec) (before : List ArrayToArrayCodec) (chain : Chain) (after : List B) → length before ≡ 0 → with_codecs chain (map meaning after) ≡ chain_between meaning before chain after
chain_alone meaning [] chain after none = refl
chain_alone meaning (codec ∷ codecs) chain after none = absurd (cc)
