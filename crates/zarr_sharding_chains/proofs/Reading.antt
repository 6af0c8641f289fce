-- Chains around a shard read from the metadata of their codecs.
use Rattle.std.proofs.Common.{◌≡◌, ◌∙◌, ◌⊎◌, ℕ, List, [], ◌∷◌, length, drop, map, codes, Bool, true, false, if◌then◌else◌, ap, sym, subst, refl, inl, inr, Option, Some, None, option_map, option_and_then, Result, Ok, Err}
use Rattle.std.proofs.lemmas.Bool.{true≢false}
use Rattle.std.proofs.lemmas.List.{drop-map, length-map}
use Rattle.std.proofs.lemmas.Slice.Eq.{bytes_eq-Decides}
use Rattle.std.specs.Prelude.{IfOk, MatchOption}
use Rattle.zarr_grids_metadata.specs.ExtensionPoints.{ExtensionPoint, configuration_members}
use Rattle.zarr_grids_metadata.specs.Views.{point_view}
use Rattle.zarr_grids_metadata.specs.declared.error.PluginCreateError.{PluginCreateError}
use Rattle.zarr_grids_metadata.specs.declared.error.PluginCreateError.TheVariants as plugin
use Rattle.zarr_grids_metadata.specs.declared.extension_point.ExtensionPoint as lent
use Rattle.zarr_codecs_meaning.specs.Chains.{ArrayCodec, ByteCodec, Chain}
use Rattle.zarr_codecs_meaning.specs.Chains.Chain.{after_array_codec}
use Rattle.zarr_codecs_metadata.specs.ArrayCodecs.{array_codec_in}
use Rattle.zarr_codecs_metadata.specs.Chains.{ReadsCodec, ReadsCodecs, allowed_chain, bytes_chain_by, chain_by, with_byte_codecs}
use Rattle.zarr_codecs_array_to_array.specs.Refusals.{cause_of, names_array_codec}
use Rattle.zarr_codecs_array_to_array.specs.Views.{codec_of}
use Rattle.zarr_codecs_array_to_array.specs.declared.codec.ArrayToArrayCodec.{ArrayToArrayCodec}
use Rattle.zarr_codecs_around.specs.ArrayMetadata.{array_codecs_of, begins_with_array_codec, is_array_codec_misconfigured}
use Rattle.zarr_codecs_around.specs.Codecs.{codecs_in}
use Rattle.zarr_codecs_around.specs.Views.{codecs_of, with_array_codecs, with_codecs}
use Rattle.zarr_codecs_chains.specs.Names.{NamesChain}
use Rattle.zarr_codecs_chains.specs.Refusals.{RefusesChain}
use Rattle.zarr_codecs_chains.specs.declared.chain.CodecChain.{CodecChain}
use Rattle.zarr_codecs_chains.proofs.ReadsBack.{with_in}
use Rattle.zarr_sharding_metadata.specs.Metadata.{ShardPoints, names_shard, shard_of, shard_points_in}
use Rattle.zarr_sharding_metadata.specs.Nesting.{shard_in, sharded_chain_of}
use Rattle.zarr_sharding_codec.specs.Configured.{RefusesShard}
use Rattle.zarr_sharding_codec.specs.Views.{index_of, inner_of}
use Rattle.zarr_sharding_codec.specs.declared.codec.ShardingCodec.{ShardingCodec}
use Rattle.zarr_sharding_chains.specs.Metadata.{NamesShard}
use Rattle.zarr_sharding_chains.specs.Refusals.{EitherCause, ReadsInner, RefusesFirst, RefusesInner, RefusesNamed, RefusesSharded, inner_chains}

-- ---- the array codecs that metadata begins with

-- nothing before a chain leaves it as it is
without_any : (o : Option Chain) → o ≡ option_map (with_array_codecs []) o
without_any None = refl
without_any (Some chain) = refl

one_more : (codec : ArrayCodec) (codecs : List ArrayCodec) (o : Option Chain) → option_map (after_array_codec codec) (option_map (with_array_codecs codecs) o) ≡ option_map (with_array_codecs (codec ∷ codecs)) o
one_more codec codecs None = refl
one_more codec codecs (Some chain) = refl

-- they come before what the others say
chain_begins : (reads : ReadsCodecs) (codec : ReadsCodec) (points : List ExtensionPoint) → chain_by reads codec points ≡ option_map (with_array_codecs (array_codecs_of points)) (bytes_chain_by reads codec (drop (length (array_codecs_of points)) points))
chain_begins reads codec [] = refl
chain_begins reads codec (point ∷ points) = at (array_codec_in point) (chain_begins reads codec points) where
  begun : Option ArrayCodec → List ArrayCodec
  begun o = elim o [ Some first ↦ first ∷ array_codecs_of points | None ↦ [] ]

  at : (o : Option ArrayCodec) → chain_by reads codec points ≡ option_map (with_array_codecs (array_codecs_of points)) (bytes_chain_by reads codec (drop (length (array_codecs_of points)) points))
      → (elim o [ Some first ↦ option_map (after_array_codec first) (chain_by reads codec points) | None ↦ bytes_chain_by reads codec (point ∷ points) ])
      ≡ option_map (with_array_codecs (begun o)) (bytes_chain_by reads codec (drop (length (begun o)) (point ∷ points)))
  at None rest = without_any (bytes_chain_by reads codec (point ∷ points))
  at (Some first) rest = ap (option_map (after_array_codec first)) rest ∙ one_more first (array_codecs_of points) (bytes_chain_by reads codec (drop (length (array_codecs_of points)) points))

-- the rest of metadata after them
rest_points : (metadatas rest : List lent.ExtensionPoint) (arrays : List ArrayToArrayCodec) → codecs_of arrays ≡ array_codecs_of (map point_view metadatas) → rest ≡ drop (length arrays) metadatas
    → map point_view rest ≡ drop (length (array_codecs_of (map point_view metadatas))) (map point_view metadatas)
rest_points metadatas rest arrays first after =
    ap (map point_view) after
    ∙ (sym (drop-map point_view (length arrays) metadatas)
    ∙ ap (λ (n : ℕ). drop n (map point_view metadatas)) (sym (length-map arrays codec_of) ∙ ap length first))

-- the array codecs that metadata begins with, and the chain that the rest says
pub chain_split : (reads : ReadsCodecs) (codec : ReadsCodec) (metadatas rest : List lent.ExtensionPoint) (arrays : List ArrayToArrayCodec) (o : Option Chain) → codecs_of arrays ≡ array_codecs_of (map point_view metadatas) → rest ≡ drop (length arrays) metadatas
    → bytes_chain_by reads codec (map point_view rest) ≡ o → chain_by reads codec (map point_view metadatas) ≡ option_map (with_array_codecs (codecs_of arrays)) o
chain_split reads codec metadatas rest arrays o first after is =
    let points = map point_view metadatas in
    chain_begins reads codec points
    ∙ (ap (λ (ps : List ExtensionPoint). option_map (with_array_codecs (array_codecs_of points)) (bytes_chain_by reads codec ps)) (sym (rest_points metadatas rest arrays first after))
    ∙ (ap (λ (codecs : List ArrayCodec). option_map (with_array_codecs codecs) (bytes_chain_by reads codec (map point_view rest))) (sym first)
    ∙ ap (option_map (with_array_codecs (codecs_of arrays))) is))

-- what follows them begins with none, where none is misconfigured
begins_without : (points : List ExtensionPoint) → is_array_codec_misconfigured points ≡ false → begins_with_array_codec (drop (length (array_codecs_of points)) points) ≡ false
begins_without [] h = refl
begins_without (point ∷ points) h = at (array_codec_in point) (λ rest. begins_without points rest) h where
  begun : Option ArrayCodec → List ArrayCodec
  begun o = elim o [ Some codec ↦ codec ∷ array_codecs_of points | None ↦ [] ]

  at : (o : Option ArrayCodec) → (is_array_codec_misconfigured points ≡ false → begins_with_array_codec (drop (length (array_codecs_of points)) points) ≡ false) → elim o [ Some codec ↦ is_array_codec_misconfigured points | None ↦ names_array_codec point.name ] ≡ false
      → begins_with_array_codec (drop (length (begun o)) (point ∷ points)) ≡ false
  at (Some codec) others h = others h
  at None others h = h

pub rest_begins : (metadatas rest : List lent.ExtensionPoint) (arrays : List ArrayToArrayCodec) → codecs_of arrays ≡ array_codecs_of (map point_view metadatas) → rest ≡ drop (length arrays) metadatas
    → is_array_codec_misconfigured (map point_view metadatas) ≡ false → begins_with_array_codec (map point_view rest) ≡ false
rest_begins metadatas rest arrays first after h = ap begins_with_array_codec (rest_points metadatas rest arrays first after) ∙ begins_without (map point_view metadatas) h

-- what follows them is refused
pub rest_refused : (reads : ReadsCodecs) (inner : ReadsInner) (refuses : RefusesInner) (metadatas rest : List lent.ExtensionPoint) (arrays : List ArrayToArrayCodec) (cause : PluginCreateError) → codecs_of arrays ≡ array_codecs_of (map point_view metadatas)
    → rest ≡ drop (length arrays) metadatas → RefusesFirst reads inner refuses (map point_view rest) cause → RefusesSharded reads inner refuses (map point_view metadatas) cause
rest_refused reads inner refuses metadatas rest arrays cause first after h = subst (λ ps. RefusesFirst reads inner refuses ps cause) (rest_points metadatas rest arrays first after) h

-- ---- an array codec whose configuration is not one of its name's

-- a shard has not the name of an array codec
no_array : (name : List ℕ) → names_shard name ≡ true → names_array_codec name ≡ false
no_array name named = ap names_array_codec ((bytes_eq-Decides name (codes "sharding_indexed")).0 named)

named_no_shard : (name : List ℕ) → names_array_codec name ≡ true → names_shard name ≡ false
named_no_shard name h = at (names_shard name) refl where
  at : (b : Bool) → names_shard name ≡ b → names_shard name ≡ false
  at true named = absurd (true≢false (sym h ∙ no_array name named))
  at false other = other

-- what names no shard is refused by its name
pub other_refused : (reads : ReadsCodecs) (inner : ReadsInner) (refuses : RefusesInner) (point : ExtensionPoint) (points : List ExtensionPoint) (cause : PluginCreateError) → names_shard point.name ≡ false → cause ≡ cause_of (names_array_codec point.name)
    → RefusesFirst reads inner refuses (point ∷ points) cause
other_refused reads inner refuses point points cause other is = subst (λ (b : Bool). EitherCause b (RefusesNamed reads (inner_chains inner refuses) point points cause) (cause ≡ cause_of (names_array_codec point.name))) (sym other) is

pub misconfigured : (reads : ReadsCodecs) (inner : ReadsInner) (refuses : RefusesInner) (points : List ExtensionPoint) → is_array_codec_misconfigured points ≡ true → RefusesSharded reads inner refuses points plugin.MetadataInvalid
misconfigured reads inner refuses [] h = absurd (cc)
misconfigured reads inner refuses (point ∷ points) h = at (array_codec_in point) (λ rest. misconfigured reads inner refuses points rest) h where
  begun : Option ArrayCodec → List ArrayCodec
  begun o = elim o [ Some codec ↦ codec ∷ array_codecs_of points | None ↦ [] ]

  at : (o : Option ArrayCodec) → (is_array_codec_misconfigured points ≡ true → RefusesSharded reads inner refuses points plugin.MetadataInvalid) → elim o [ Some codec ↦ is_array_codec_misconfigured points | None ↦ names_array_codec point.name ] ≡ true
      → RefusesFirst reads inner refuses (drop (length (begun o)) (point ∷ points)) plugin.MetadataInvalid
  at (Some codec) others h = others h
  at None others h = other_refused reads inner refuses point points plugin.MetadataInvalid (named_no_shard point.name h) (ap cause_of (sym h))

-- what extension points say around a shard, by what the first one is as an array codec
abbrev said_at : ReadsCodecs → ReadsInner → ExtensionPoint → List ExtensionPoint → Option ArrayCodec → Option Chain
said_at reads inner point points o = elim o [ Some first ↦ option_map (after_array_codec first) (sharded_chain_of reads inner points) | None ↦ bytes_chain_by reads (shard_in reads inner) (point ∷ points) ]

-- and nothing is said
pub misconfigured_none : (reads : ReadsCodecs) (inner : ReadsInner) (points : List ExtensionPoint) → is_array_codec_misconfigured points ≡ true → sharded_chain_of reads inner points ≡ None
misconfigured_none reads inner [] h = absurd (cc)
misconfigured_none reads inner (point ∷ points) h = at (array_codec_in point) (λ rest. misconfigured_none reads inner points rest) h where
  unnamed : (b : Bool) (o : Option Chain) → b ≡ false → option_and_then (λ chain. with_byte_codecs reads chain points) (if b then o else None) ≡ None
  unnamed true o h = absurd (true≢false h)
  unnamed false o h = refl

  at : (o : Option ArrayCodec) → (is_array_codec_misconfigured points ≡ true → sharded_chain_of reads inner points ≡ None) → elim o [ Some codec ↦ is_array_codec_misconfigured points | None ↦ names_array_codec point.name ] ≡ true
      → said_at reads inner point points o ≡ None
  at (Some codec) others h = ap (option_map (after_array_codec codec)) (others h)
  at None others h = unnamed (names_shard point.name) (option_and_then (shard_of inner (allowed_chain reads)) (shard_points_in (configuration_members point.configuration))) (named_no_shard point.name h)

-- ---- a shard and the caller's codecs after it

-- the first codec is a shard, and the others are the caller's
pub others_split : (reads : ReadsCodecs) (codec : ReadsCodec) (metadatas others : List lent.ExtensionPoint) (first : lent.ExtensionPoint) (chain : Chain) (o : Option (List ByteCodec)) → metadatas ≡ first ∷ others
    → codec (point_view first) ≡ Some chain → codecs_in reads (map point_view others) ≡ o → bytes_chain_by reads codec (map point_view metadatas) ≡ option_map (with_codecs chain) o
others_split reads codec metadatas others first chain o is said rest =
    ap (λ (ps : List lent.ExtensionPoint). bytes_chain_by reads codec (map point_view ps)) is
    ∙ (ap (option_and_then (λ c. with_byte_codecs reads c (map point_view others))) said
    ∙ (with_in reads chain (map point_view others) ∙ ap (option_map (with_codecs chain)) rest))

-- the first codec says nothing
pub first_none : (reads : ReadsCodecs) (codec : ReadsCodec) (metadatas others : List lent.ExtensionPoint) (first : lent.ExtensionPoint) → metadatas ≡ first ∷ others → codec (point_view first) ≡ None → bytes_chain_by reads codec (map point_view metadatas) ≡ None
first_none reads codec metadatas others first is said =
    ap (λ (ps : List lent.ExtensionPoint). bytes_chain_by reads codec (map point_view ps)) is ∙ ap (option_and_then (λ c. with_byte_codecs reads c (map point_view others))) said

-- there is none
pub nothing_said : (reads : ReadsCodecs) (codec : ReadsCodec) (metadatas : List lent.ExtensionPoint) → length metadatas ≡ 0 → bytes_chain_by reads codec (map point_view metadatas) ≡ None
nothing_said reads codec [] none = refl
nothing_said reads codec (metadata ∷ metadatas) none = absurd (cc)

pub nothing_refused : (reads : ReadsCodecs) (inner : ReadsInner) (refuses : RefusesInner) (metadatas : List lent.ExtensionPoint) → length metadatas ≡ 0 → RefusesFirst reads inner refuses (map point_view metadatas) plugin.MetadataInvalid
nothing_refused reads inner refuses [] none = refl
nothing_refused reads inner refuses (metadata ∷ metadatas) none = absurd (cc)

-- the first codec does not name an array codec
pub first_begins : (metadatas others : List lent.ExtensionPoint) (first : lent.ExtensionPoint) → metadatas ≡ first ∷ others → begins_with_array_codec (map point_view metadatas) ≡ false → names_array_codec (point_view first).name ≡ false
first_begins metadatas others first is begins = subst (λ (ps : List lent.ExtensionPoint). begins_with_array_codec (map point_view ps) ≡ false) is begins

pub first_refused : (reads : ReadsCodecs) (inner : ReadsInner) (refuses : RefusesInner) (metadatas others : List lent.ExtensionPoint) (first : lent.ExtensionPoint) (cause : PluginCreateError) → metadatas ≡ first ∷ others
    → RefusesFirst reads inner refuses (point_view first ∷ map point_view others) cause → RefusesFirst reads inner refuses (map point_view metadatas) cause
first_refused reads inner refuses metadatas others first cause is refused = subst (λ (ps : List lent.ExtensionPoint). RefusesFirst reads inner refuses (map point_view ps) cause) (sym is) refused

-- ---- one shard

-- what an extension point says that names a shard
pub said_named : (reads : ReadsCodecs) (inner : ReadsInner) (point : ExtensionPoint) → names_shard point.name ≡ true → shard_in reads inner point ≡ option_and_then (shard_of inner (allowed_chain reads)) (shard_points_in (configuration_members point.configuration))
said_named reads inner point named = ap (λ (b : Bool). if b then option_and_then (shard_of inner (allowed_chain reads)) (shard_points_in (configuration_members point.configuration)) else None) named

pub said_other : (reads : ReadsCodecs) (inner : ReadsInner) (point : ExtensionPoint) → names_shard point.name ≡ false → shard_in reads inner point ≡ None
said_other reads inner point other = ap (λ (b : Bool). if b then option_and_then (shard_of inner (allowed_chain reads)) (shard_points_in (configuration_members point.configuration)) else None) other

-- the shard that a configuration gives
pub said_given : (reads : ReadsCodecs) (inner : ReadsInner) (point : ExtensionPoint) (given : ShardPoints) → names_shard point.name ≡ true → shard_points_in (configuration_members point.configuration) ≡ Some given → shard_in reads inner point ≡ shard_of inner (allowed_chain reads) given
said_given reads inner point given named is = said_named reads inner point named ∙ ap (option_and_then (shard_of inner (allowed_chain reads))) is

pub said_unconfigured : (reads : ReadsCodecs) (inner : ReadsInner) (point : ExtensionPoint) → names_shard point.name ≡ true → shard_points_in (configuration_members point.configuration) ≡ None → shard_in reads inner point ≡ None
said_unconfigured reads inner point named is = said_named reads inner point named ∙ ap (option_and_then (shard_of inner (allowed_chain reads))) is

-- why it is refused
named_refused : (reads : ReadsCodecs) (inner : ReadsInner) (refuses : RefusesInner) (point : ExtensionPoint) (points : List ExtensionPoint) (cause : PluginCreateError) → names_shard point.name ≡ true → RefusesNamed reads (inner_chains inner refuses) point points cause
    → RefusesFirst reads inner refuses (point ∷ points) cause
named_refused reads inner refuses point points cause named refused = subst (λ (b : Bool). EitherCause b (RefusesNamed reads (inner_chains inner refuses) point points cause) (cause ≡ cause_of (names_array_codec point.name))) (sym named) refused

pub unconfigured_refused : (reads : ReadsCodecs) (inner : ReadsInner) (refuses : RefusesInner) (point : ExtensionPoint) (points : List ExtensionPoint) (cause : PluginCreateError) → names_shard point.name ≡ true
    → shard_points_in (configuration_members point.configuration) ≡ None → cause ≡ plugin.MetadataInvalid → RefusesFirst reads inner refuses (point ∷ points) cause
unconfigured_refused reads inner refuses point points cause named none is =
    named_refused reads inner refuses point points cause named
    (subst (λ (o : Option ShardPoints). MatchOption o (cause ≡ plugin.MetadataInvalid) (λ given. RefusesShard inner refuses (RefusesChain reads) given cause ⊎ ((chain : Chain) × (shard_of inner (allowed_chain reads) given ≡ Some chain) × (codecs_in reads points ≡ None)))) (sym none) is)

given_refused : (reads : ReadsCodecs) (inner : ReadsInner) (refuses : RefusesInner) (point : ExtensionPoint) (points : List ExtensionPoint) (given : ShardPoints) (cause : PluginCreateError) → names_shard point.name ≡ true
    → shard_points_in (configuration_members point.configuration) ≡ Some given → RefusesShard inner refuses (RefusesChain reads) given cause ⊎ ((chain : Chain) × (shard_of inner (allowed_chain reads) given ≡ Some chain) × (codecs_in reads points ≡ None))
    → RefusesFirst reads inner refuses (point ∷ points) cause
given_refused reads inner refuses point points given cause named is refused =
    named_refused reads inner refuses point points cause named
    (subst (λ (o : Option ShardPoints). MatchOption o (cause ≡ plugin.MetadataInvalid) (λ given. RefusesShard inner refuses (RefusesChain reads) given cause ⊎ ((chain : Chain) × (shard_of inner (allowed_chain reads) given ≡ Some chain) × (codecs_in reads points ≡ None)))) (sym is) refused)

-- the codecs in it are refused
pub inside_refused : (reads : ReadsCodecs) (inner : ReadsInner) (refuses : RefusesInner) (point : ExtensionPoint) (points : List ExtensionPoint) (given : ShardPoints) (cause : PluginCreateError) → names_shard point.name ≡ true
    → shard_points_in (configuration_members point.configuration) ≡ Some given → RefusesShard inner refuses (RefusesChain reads) given cause → RefusesFirst reads inner refuses (point ∷ points) cause
inside_refused reads inner refuses point points given cause named is refused = given_refused reads inner refuses point points given cause named is (inl refused)

-- one of the caller's codecs after it is refused
pub others_refused : (reads : ReadsCodecs) (inner : ReadsInner) (refuses : RefusesInner) (point : ExtensionPoint) (points : List ExtensionPoint) (chain : Chain) (cause : PluginCreateError) → shard_in reads inner point ≡ Some chain → codecs_in reads points ≡ None
    → RefusesFirst reads inner refuses (point ∷ points) cause
others_refused reads inner refuses point points chain cause said none = at (names_shard point.name) refl (shard_points_in (configuration_members point.configuration)) refl where
  at : (b : Bool) → names_shard point.name ≡ b → (o : Option ShardPoints) → shard_points_in (configuration_members point.configuration) ≡ o → RefusesFirst reads inner refuses (point ∷ points) cause
  at true named (Some given) is = given_refused reads inner refuses point points given cause named is (inr (chain, sym (said_given reads inner point given named is) ∙ said, none))
  at true named None is = let nothing = said_unconfigured reads inner point named is in absurd (cc)
  at false other o is = let nothing = said_other reads inner point other in absurd (cc)

-- its lists have the names of the codecs in it
pub names_given : {B I : Type 0} (names : I → List ExtensionPoint → Type 0) (point : ExtensionPoint) (given : ShardPoints) (r : Result (ShardingCodec I (CodecChain B)) PluginCreateError) → shard_points_in (configuration_members point.configuration) ≡ Some given
    → IfOk r (λ codec. names (inner_of codec) given.inner) → IfOk r (λ codec. NamesChain (index_of codec) given.index) → IfOk r (λ codec. NamesShard names codec point)
names_given names point given (Ok codec) is inner index =
    subst (λ (o : Option ShardPoints). MatchOption o ⊥ (λ given. names (inner_of codec) given.inner × NamesChain (index_of codec) given.index)) (sym is) (inner, index)
names_given names point given (Err e) is inner index = tt
