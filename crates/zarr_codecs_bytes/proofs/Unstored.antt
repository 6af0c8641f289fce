-- Why elements are not written where no value is.
use Rattle.std.proofs.Common.{◌≡◌, ◌∙◌, List, length, ℕ, ap, sym, refl, None, Some, Option, option_map, Result}
use Rattle.zarr_codecs_meaning.specs.Chains.{Endianness}
use Rattle.zarr_codecs_meaning.specs.Chains.Chain.{bytes}
use Rattle.zarr_codecs_meaning.specs.Chunks.{chunk_decoded}
use Rattle.zarr_codecs_meaning.specs.Types.{Elements}
use Rattle.zarr_codecs_arrays.specs.declared.error.CodecError.{CodecError}
use Rattle.zarr_codecs_traits.specs.Arrays.{Update, coded}
use Rattle.zarr_codecs_traits.specs.PartWriting.{NotEncodedInto, NotEncodedWhole, StopsWrite, WholeRefused, WriteRefuses}
use Rattle.zarr_codecs_traits.proofs.Damage.{not_put}

-- no value is not damaged, and no codec refuses what `bytes` makes
pub unstored_not_put : {A : Type 0} (order : Option Endianness) (elements : Elements) (shape : List ℕ) (update : Update) (r : Result A CodecError) → update.stored ≡ None
    → NotEncodedWhole (coded (bytes order) elements shape) update r → NotEncodedInto (coded (bytes order) elements shape) update r
unstored_not_put order elements shape update r none h =
    not_put (chunk_decoded (bytes order) elements shape update.stored ≡ None) (StopsWrite (coded (bytes order) elements shape) update) (WholeRefused (bytes order) elements shape) (WriteRefuses (coded (bytes order) elements shape) update) (coded (bytes order) elements shape) update r
    (λ lost. absurd (no_value (ap (chunk_decoded (bytes order) elements shape) (sym none) ∙ lost))) (λ after refused. absurd refused.1) h where
      no_value : chunk_decoded (bytes order) elements shape None ≡ None → ⊥
      no_value is = cc

-- a source that tells no size holds no value
pub nothing_held : (stored : Option (List ℕ)) → None ≡ option_map length stored → stored ≡ None
nothing_held None is = refl
nothing_held (Some value) is = cc
