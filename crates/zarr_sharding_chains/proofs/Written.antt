-- The metadata that is written for chains around a shard is read back.
use Rattle.std.proofs.Common.{◌≡◌, ◌∙◌, ℕ, List, [], ◌∷◌, ◌++◌, map, codes, bytes_eq, Bool, true, false, if◌then◌else◌, ap, refl, Option, Some, None, option_map, option_and_then, Result, Ok, Err}
use Rattle.std.specs.Prelude.{IfOk}
use Rattle.std.proofs.lemmas.Slice.Eq.{bytes_eq-Decides}
use Rattle.zarr_grids_metadata.specs.ExtensionPoints.{ExtensionPoint, configuration_members}
use Rattle.zarr_codecs_meaning.specs.Chains.{ArrayCodec, ByteCodec, Chain}
use Rattle.zarr_codecs_meaning.specs.Chains.Chain.{after_array_codec}
use Rattle.zarr_codecs_metadata.specs.ArrayCodecs.{array_codec_in, names_squeeze, reshape_of, squeeze_of, transpose_of}
use Rattle.zarr_codecs_metadata.specs.Chains.{ReadsCodec, ReadsCodecs, allowed_chain, bytes_chain_by, chain_by, with_byte_codecs}
use Rattle.zarr_codecs_array_to_array.specs.declared.codec.ArrayToArrayCodec.{ArrayToArrayCodec}
use Rattle.zarr_codecs_around.specs.Views.{codecs_of, with_array_codecs, with_codecs}
use Rattle.zarr_codecs_chains.proofs.ReadsBack.{all_read_back, with_in}
use Rattle.zarr_sharding_metadata.specs.Metadata.{ShardPoints, names_shard, shard_of, shard_points_in}
use Rattle.zarr_sharding_metadata.specs.Nesting.{shard_in, sharded_chain_of}
use Rattle.zarr_sharding_configurations.specs.Written.{shard_point}
use Rattle.zarr_sharding_chains.specs.Refusals.{ReadsInner}
use Rattle.zarr_sharding_chains.proofs.Reading.{said_given}

-- the array codec that an extension point would be by this name
abbrev array_codec_named : ExtensionPoint → List ℕ → Option ArrayCodec
array_codec_named point name =
    let ms = configuration_members point.configuration in
    if bytes_eq name (codes "transpose") then transpose_of ms
    else (if bytes_eq name (codes "reshape") then reshape_of ms
    else (if names_squeeze name then squeeze_of ms else None))

-- a shard is no array codec
no_array_codec : (point : ExtensionPoint) → names_shard point.name ≡ true → array_codec_in point ≡ None
no_array_codec point named = ap (array_codec_named point) ((bytes_eq-Decides point.name (codes "sharding_indexed")).0 named)

-- what is said of a shard names one
names_said : (reads : ReadsCodecs) (inner : ReadsInner) (point : ExtensionPoint) (chain : Chain) → shard_in reads inner point ≡ Some chain → names_shard point.name ≡ true
names_said reads inner point chain said = at (names_shard point.name) (option_and_then (shard_of inner (allowed_chain reads)) (shard_points_in (configuration_members point.configuration))) said where
  at : (b : Bool) (o : Option Chain) → (if b then o else None) ≡ Some chain → b ≡ true
  at true o h = refl
  at false o h = absurd (cc)

-- what extension points say where the first is no array codec
without_first : (reads : ReadsCodecs) (codec : ReadsCodec) (first : ExtensionPoint) (others : List ExtensionPoint) → array_codec_in first ≡ None → chain_by reads codec (first ∷ others) ≡ bytes_chain_by reads codec (first ∷ others)
without_first reads codec first others none = ap (λ (o : Option ArrayCodec). elim o [ Some c ↦ option_map (after_array_codec c) (chain_by reads codec others) | None ↦ bytes_chain_by reads codec (first ∷ others) ]) none

-- what they say where it is one
with_first : (reads : ReadsCodecs) (codec : ReadsCodec) (first : ExtensionPoint) (others : List ExtensionPoint) (c : ArrayCodec) → array_codec_in first ≡ Some c → chain_by reads codec (first ∷ others) ≡ option_map (after_array_codec c) (chain_by reads codec others)
with_first reads codec first others c is = ap (λ (o : Option ArrayCodec). elim o [ Some c ↦ option_map (after_array_codec c) (chain_by reads codec others) | None ↦ bytes_chain_by reads codec (first ∷ others) ]) is

-- array codecs that are read back, before a chain that is
array_codecs_read : (reads : ReadsCodecs) (codec : ReadsCodec) (points others : List ExtensionPoint) (codecs : List ArrayCodec) (chain : Chain) → map array_codec_in points ≡ map Some codecs
    → chain_by reads codec others ≡ Some chain → chain_by reads codec (points ++ others) ≡ Some (with_array_codecs codecs chain)
array_codecs_read reads codec [] others [] chain same is = is
array_codecs_read reads codec [] others (c ∷ codecs) chain same is = absurd (cc)
array_codecs_read reads codec (point ∷ points) others [] chain same is = absurd (cc)
array_codecs_read reads codec (point ∷ points) others (c ∷ codecs) chain same is =
    let one : array_codec_in point ≡ Some c = cc in
    let rest : map array_codec_in points ≡ map Some codecs = cc in
    with_first reads codec point (points ++ others) c one ∙ ap (option_map (after_array_codec c)) (array_codecs_read reads codec points others codecs chain rest is)

-- array codecs, a shard, and the caller's codecs, each of which is read back
pub between_read : {B : Type 0} (reads : ReadsCodecs) (inner : ReadsInner) (described : B → ExtensionPoint) (meaning : B → ByteCodec) → ((codec : B) → reads (described codec) ≡ Some (meaning codec))
    → (points : List ExtensionPoint) (before : List ArrayToArrayCodec) (point : ExtensionPoint) (chain : Chain) (after : List B) → map array_codec_in points ≡ map Some (codecs_of before) → shard_in reads inner point ≡ Some chain
    → sharded_chain_of reads inner (points ++ (point ∷ map described after)) ≡ Some (with_array_codecs (codecs_of before) (with_codecs chain (map meaning after)))
between_read reads inner described meaning law points before point chain after same said =
    let others : chain_by reads (shard_in reads inner) (point ∷ map described after) ≡ Some (with_codecs chain (map meaning after)) =
    without_first reads (shard_in reads inner) point (map described after) (no_array_codec point (names_said reads inner point chain said))
    ∙ (ap (option_and_then (λ c. with_byte_codecs reads c (map described after))) said
    ∙ (with_in reads chain (map described after)
    ∙ ap (option_map (with_codecs chain)) (all_read_back reads described meaning after law))) in
    array_codecs_read reads (shard_in reads inner) points (point ∷ map described after) (codecs_of before) (with_codecs chain (map meaning after)) same others

-- of a result two facts give a third
pub both_made : {T E : Type 0} (r : Result T E) (P Q R : T → Type 0) → ((t : T) → P t → Q t → R t) → IfOk r P → IfOk r Q → IfOk r R
both_made (Ok t) P Q R both p q = both t p q
both_made (Err e) P Q R both p q = tt

-- the metadata that is written for a configuration of a shard says the shard of it
pub said_written : (reads : ReadsCodecs) (inner : ReadsInner) (point : ExtensionPoint) (given : ShardPoints) (chain : Chain) → point ≡ shard_point given → shard_points_in (configuration_members point.configuration) ≡ Some given
    → shard_of inner (allowed_chain reads) given ≡ Some chain → shard_in reads inner point ≡ Some chain
said_written reads inner point given chain is back made =
    let named : names_shard point.name ≡ true = ap (λ (p : ExtensionPoint). names_shard p.name) is in
    said_given reads inner point given named back ∙ made

-- lists put together of equal parts
pub all_points : {A : Type 0} {one two : List A} {a b : A} {rest others : List A} → one ≡ two → a ≡ b → rest ≡ others → one ++ (a ∷ rest) ≡ two ++ (b ∷ others)
all_points same first last = λ i. same i ++ (first i ∷ last i)
