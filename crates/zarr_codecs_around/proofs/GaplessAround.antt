-- Values without gaps, with bytes codecs after the codec that made them.
use Rattle.std.proofs.Common.{◌≡◌, ℕ, List, [], ◌∷◌, subst, Some, Bool, true, false, MatchBool}
use Rattle.zarr_codecs_meaning.specs.Chains.{ByteCodec, Chain}
use Rattle.zarr_codecs_meaning.specs.Chains.Chain.{then_bytes}
use Rattle.zarr_codecs_meaning.specs.Fits.{is_plain}
use Rattle.zarr_codecs_meaning.specs.Laws.{IsLawful, IsLawfulChain}
use Rattle.zarr_codecs_meaning.proofs.Lists.{bind_some, some_same}
use Rattle.zarr_sharding_changes.specs.Gapless.{IsGapless}
use Rattle.zarr_codecs_around.specs.Codecs.{all_encoded}
use Rattle.zarr_codecs_around.specs.Views.{with_codecs}

-- a bytes codec is undone
gapless_by : (plain : Bool) (chain : Chain) (codec : ByteCodec) (shape inside made : List ℕ) → IsLawful codec → codec.encode inside ≡ Some made → IsGapless chain shape inside
    → MatchBool plain (Unit {0}) ((given : List ℕ) × (codec.decode made ≡ Some given) × IsGapless chain shape given)
gapless_by true chain codec shape inside made lawful is h = tt
gapless_by false chain codec shape inside made lawful is h = (inside, lawful.undoes inside made is, h)

lawful_before : (chain : Chain) (codecs : List ByteCodec) → IsLawfulChain (with_codecs chain codecs) → IsLawfulChain chain
lawful_before chain [] lawful = lawful
lawful_before chain (codec ∷ codecs) lawful = (lawful_before (then_bytes chain codec) codecs lawful).0

pub gapless_with : (chain : Chain) (codecs : List ByteCodec) (shape inside made : List ℕ) → IsLawfulChain (with_codecs chain codecs) → all_encoded codecs inside ≡ Some made → IsGapless chain shape inside → IsGapless (with_codecs chain codecs) shape made
gapless_with chain [] shape inside made lawful is h = subst (IsGapless chain shape) (some_same is) h
gapless_with chain (codec ∷ codecs) shape inside made lawful is h =
    let first = bind_some (all_encoded codecs) (codec.encode inside) made is in
    let law = (lawful_before (then_bytes chain codec) codecs lawful).1 in
    gapless_with (then_bytes chain codec) codecs shape first.0 made lawful first.2 (gapless_by (is_plain chain) chain codec shape inside first.0 law first.1 h)
