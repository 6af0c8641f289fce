-- Chains of arrays, by how many shards stand in one another.
use Rattle.std.proofs.Common.{◌≡◌, ◌∙◌, ◌⊎◌, ℕ, zero, suc, List, [], ◌∷◌, length, drop, Bool, true, false, if◌then◌else◌, ap, sym, subst, refl, inl, inr, Option, Some, None, option_map, option_and_then}
use Rattle.std.specs.Prelude.{MatchOption}
use Rattle.std.proofs.lemmas.Bool.{true≢false}
use Rattle.zarr_grids_metadata.specs.ExtensionPoints.{ExtensionPoint, configuration_members}
use Rattle.zarr_grids_metadata.specs.declared.error.PluginCreateError.{PluginCreateError}
use Rattle.zarr_grids_metadata.specs.declared.error.PluginCreateError.TheVariants as plugin
use Rattle.zarr_codecs_meaning.specs.Chains.{ArrayCodec, Chain}
use Rattle.zarr_codecs_meaning.specs.Chains.Chain.{after_array_codec, sharded}
use Rattle.zarr_codecs_metadata.specs.ArrayCodecs.{array_codec_in}
use Rattle.zarr_codecs_metadata.specs.Chains.{ReadsCodecs, allowed_chain, bytes_chain_by, with_byte_codecs}
use Rattle.zarr_codecs_array_to_array.specs.Refusals.{cause_of, names_array_codec}
use Rattle.zarr_codecs_around.specs.ArrayMetadata.{array_codecs_of}
use Rattle.zarr_codecs_around.specs.Codecs.{codecs_in}
use Rattle.zarr_codecs_chains.specs.Plain.{RefusesPlain, RefusesUnless}
use Rattle.zarr_codecs_chains.specs.Refusals.{RefusesChain}
use Rattle.zarr_sharding_metadata.specs.Metadata.{ShardPoints, array_chain_of, chain_within, names_shard, shard_of, shard_points_in}
use Rattle.zarr_sharding_metadata.specs.Nesting.{inner_points, points_inside, shard_in, shard_stands, sharded_chain_of, shards_nest}
use Rattle.zarr_sharding_metadata.proofs.Nested.{inner_said, none_said, plain_said, shard_said, zero_said}
use Rattle.zarr_sharding_codec.specs.Configured.{RefusesShard}
use Rattle.zarr_sharding_chains.specs.Refusals.{EitherCause, ReadsInner, RefusesArray, RefusesFirst, RefusesInner, RefusesNamed, RefusesSharded, RefusesWithin}

-- ---- a chain that is said where fewer shards may stand is said where more may

none_some : {A : Type 0} (o : Option A) (a : A) → o ≡ None → o ≡ Some a → ⊥
none_some o a none some = absurd (cc)

some_same : {A : Type 0} (o : Option A) (a b : A) → o ≡ Some a → o ≡ Some b → a ≡ b
some_same o a b one two = cc

-- what extension points say around a shard, by what the first one is as an array codec
abbrev said_at : ReadsCodecs → ReadsInner → ExtensionPoint → List ExtensionPoint → Option ArrayCodec → Option Chain
said_at reads inner point points o = elim o [ Some first ↦ option_map (after_array_codec first) (sharded_chain_of reads inner points) | None ↦ bytes_chain_by reads (shard_in reads inner) (point ∷ points) ]

-- a shard stands in a chain that is said around one
stands_if_said : (reads : ReadsCodecs) (inner : ReadsInner) (points : List ExtensionPoint) (chain : Chain) → sharded_chain_of reads inner points ≡ Some chain → shard_stands points ≡ true
stands_if_said reads inner [] chain said = absurd (cc)
stands_if_said reads inner (point ∷ points) chain said = at (array_codec_in point) (λ c h. stands_if_said reads inner points c h) said where
  after : (first : ArrayCodec) (o : Option Chain) → ((c : Chain) → o ≡ Some c → shard_stands points ≡ true) → option_map (after_array_codec first) o ≡ Some chain → shard_stands points ≡ true
  after first None rest h = absurd (cc)
  after first (Some c) rest h = rest c refl

  named : (b : Bool) (o : Option Chain) → option_and_then (λ c. with_byte_codecs reads c points) (if b then o else None) ≡ Some chain → b ≡ true
  named true o h = refl
  named false o h = absurd (cc)

  at : (o : Option ArrayCodec) → ((c : Chain) → sharded_chain_of reads inner points ≡ Some c → shard_stands points ≡ true)
      → said_at reads inner point points o ≡ Some chain
      → elim o [ Some codec ↦ shard_stands points | None ↦ names_shard point.name ] ≡ true
  at (Some first) rest h = after first (sharded_chain_of reads inner points) rest h
  at None rest h = named (names_shard point.name) (option_and_then (shard_of inner (allowed_chain reads)) (shard_points_in (configuration_members point.configuration))) h

-- where nothing is said of subchunks, nothing is said of a shard
nothing_inside : (reads : ReadsCodecs) (points : List ExtensionPoint) → sharded_chain_of reads (λ _. None) points ≡ None
nothing_inside reads [] = refl
nothing_inside reads (point ∷ points) = at (array_codec_in point) (nothing_inside reads points) where
  given : (o : Option ShardPoints) → option_and_then (shard_of (λ _. None) (allowed_chain reads)) o ≡ None
  given None = refl
  given (Some points) = refl

  named : (b : Bool) (o : Option Chain) → o ≡ None → option_and_then (λ c. with_byte_codecs reads c points) (if b then o else None) ≡ None
  named true o none = ap (option_and_then (λ c. with_byte_codecs reads c points)) none
  named false o none = refl

  at : (o : Option ArrayCodec) → sharded_chain_of reads (λ _. None) points ≡ None
      → said_at reads (λ _. None) point points o ≡ None
  at (Some first) rest = ap (option_map (after_array_codec first)) rest
  at None rest =
      named (names_shard point.name) (option_and_then (shard_of (λ _. None) (allowed_chain reads)) (shard_points_in (configuration_members point.configuration))) (given (shard_points_in (configuration_members point.configuration)))

-- so something is said of the subchunks of a shard of which something is said
inside_said : (reads : ReadsCodecs) (inner : ReadsInner) (points inside : List ExtensionPoint) (chain : Chain) → sharded_chain_of reads inner points ≡ Some chain → inner_points points ≡ Some inside → inner inside ≡ None → ⊥
inside_said reads inner points inside chain said is none =
    let same = inner_said reads inner (λ _. None) points (λ (other : List ExtensionPoint) (at : inner_points points ≡ Some other). ap inner (some_same (inner_points points) other inside at is) ∙ none) in
    none_some (sharded_chain_of reads inner points) chain (same ∙ nothing_inside reads points) said

-- what is said where less is said of the subchunks
grown : (reads : ReadsCodecs) (one two : ReadsInner) (points : List ExtensionPoint) (chain : Chain) → ((inside : List ExtensionPoint) (c : Chain) → one inside ≡ Some c → two inside ≡ Some c)
    → sharded_chain_of reads one points ≡ Some chain → sharded_chain_of reads two points ≡ Some chain
grown reads one two points chain more said = inner_said reads two one points (λ inside is. by inside is (one inside) refl) ∙ said where
  by : (inside : List ExtensionPoint) → inner_points points ≡ Some inside → (o : Option Chain) → one inside ≡ o → two inside ≡ one inside
  by inside is None e = absurd (inside_said reads one points inside chain said is e)
  by inside is (Some c) e = more inside c e ∙ sym e

plain_grown : (reads : ReadsCodecs) (shards : ℕ) (points : List ExtensionPoint) (chain : Chain) → allowed_chain reads points ≡ Some chain → chain_within reads shards points ≡ Some chain
plain_grown reads shards points chain said = at (shard_stands points) refl where
  at : (b : Bool) → shard_stands points ≡ b → chain_within reads shards points ≡ Some chain
  at true stands = absurd (none_some (allowed_chain reads points) chain (none_said reads points stands) said)
  at false none = plain_said reads shards points none ∙ said

shard_grown : (reads : ReadsCodecs) (shards : ℕ) (points : List ExtensionPoint) (chain : Chain) → sharded_chain_of reads (chain_within reads shards) points ≡ Some chain → chain_within reads (suc shards) points ≡ Some chain
shard_grown reads shards points chain said = shard_said reads shards points (stands_if_said reads (chain_within reads shards) points chain said) ∙ said

-- a chain without shards is one of an array
pub plain_array : (reads : ReadsCodecs) (points : List ExtensionPoint) (chain : Chain) → allowed_chain reads points ≡ Some chain → array_chain_of reads points ≡ Some chain
plain_array reads points chain said = plain_grown reads 2 points chain said

-- so is one with a shard
pub sharded_array : (reads : ReadsCodecs) (points : List ExtensionPoint) (chain : Chain) → sharded_chain_of reads (allowed_chain reads) points ≡ Some chain → array_chain_of reads points ≡ Some chain
sharded_array reads points chain said = shard_grown reads 1 points chain (grown reads (allowed_chain reads) (chain_within reads 1) points chain (λ inside c is. plain_grown reads 1 inside c is) said)

-- and one with a shard of shards
pub nested_array : (reads : ReadsCodecs) (points : List ExtensionPoint) (chain : Chain) → sharded_chain_of reads (sharded_chain_of reads (allowed_chain reads)) points ≡ Some chain → array_chain_of reads points ≡ Some chain
nested_array reads points chain said =
    shard_grown reads 1 points chain
    (grown reads (sharded_chain_of reads (allowed_chain reads)) (chain_within reads 1) points chain
    (λ inside c is. shard_grown reads 0 inside c (grown reads (allowed_chain reads) (chain_within reads 0) inside c (λ most d at. plain_grown reads 0 most d at) is)) said)

-- ---- nothing is said

inside_stands : (points inside : List ExtensionPoint) → inner_points points ≡ Some inside → shard_stands inside ≡ shards_nest points
inside_stands points inside is = sym (ap (λ (o : Option (List ExtensionPoint)). elim o [ Some found ↦ shard_stands found | None ↦ false ]) is)

pub no_plain : (reads : ReadsCodecs) (points : List ExtensionPoint) → shard_stands points ≡ false → allowed_chain reads points ≡ None → array_chain_of reads points ≡ None
no_plain reads points stands none = plain_said reads 2 points stands ∙ none

pub no_sharded : (reads : ReadsCodecs) (points : List ExtensionPoint) → shard_stands points ≡ true → shards_nest points ≡ false → sharded_chain_of reads (allowed_chain reads) points ≡ None → array_chain_of reads points ≡ None
no_sharded reads points stands nest none =
    shard_said reads 1 points stands
    ∙ (inner_said reads (chain_within reads 1) (allowed_chain reads) points (λ inside is. plain_said reads 1 inside (inside_stands points inside is ∙ nest))
    ∙ none)

-- a shard inside of one says what it says of subchunks without shards
within_one : (reads : ReadsCodecs) (points : List ExtensionPoint) → shard_stands points ≡ true → chain_within reads 1 points ≡ sharded_chain_of reads (allowed_chain reads) points
within_one reads points stands = shard_said reads 0 points stands ∙ inner_said reads (chain_within reads 0) (allowed_chain reads) points (λ inside is. zero_said reads inside)

pub no_nested : (reads : ReadsCodecs) (points : List ExtensionPoint) → shard_stands points ≡ true → shards_nest points ≡ true → sharded_chain_of reads (sharded_chain_of reads (allowed_chain reads)) points ≡ None → array_chain_of reads points ≡ None
no_nested reads points stands nest none =
    shard_said reads 1 points stands
    ∙ (inner_said reads (chain_within reads 1) (sharded_chain_of reads (allowed_chain reads)) points (λ inside is. within_one reads inside (inside_stands points inside is ∙ nest))
    ∙ none)

-- ---- why a chain is refused

-- of the refusals of subchunks only those of their own extension points count
inner_refused : (reads : ReadsCodecs) (one two : ReadsInner) (p q : RefusesInner) (points : List ExtensionPoint) (cause : PluginCreateError) → ((inside : List ExtensionPoint) → inner_points points ≡ Some inside → one inside ≡ two inside)
    → ((inside : List ExtensionPoint) → inner_points points ≡ Some inside → p inside cause → q inside cause) → RefusesSharded reads one p points cause → RefusesSharded reads two q points cause
inner_refused reads one two p q [] cause same more refused = refused
inner_refused reads one two p q (point ∷ points) cause same more refused = at (array_codec_in point) (λ same more refused. inner_refused reads one two p q points cause same more refused) same more refused where
  shard : (given : ShardPoints) → one given.inner ≡ two given.inner → (p given.inner cause → q given.inner cause) → RefusesShard one p (RefusesChain reads) given cause → RefusesShard two q (RefusesChain reads) given cause
  shard given same more (inl refused) = inl (more refused)
  shard given same more (inr (chain, said, index)) = inr (chain, sym same ∙ said, index)

  alternatives : (given : ShardPoints) → one given.inner ≡ two given.inner → (p given.inner cause → q given.inner cause)
      → RefusesShard one p (RefusesChain reads) given cause ⊎ ((chain : Chain) × (shard_of one (allowed_chain reads) given ≡ Some chain) × (codecs_in reads points ≡ None))
      → RefusesShard two q (RefusesChain reads) given cause ⊎ ((chain : Chain) × (shard_of two (allowed_chain reads) given ≡ Some chain) × (codecs_in reads points ≡ None))
  alternatives given same more (inl refused) = inl (shard given same more refused)
  alternatives given same more (inr (chain, said, none)) =
      inr (chain, ap (option_and_then (λ i. option_map (λ x. sharded given.subchunk i x given.location) (allowed_chain reads given.index))) (sym same) ∙ said, none)

  named : (b : Bool) (o : Option ShardPoints) (other : Type 0) → ((inside : List ExtensionPoint) → (if b then option_map (λ (given : ShardPoints). given.inner) o else None) ≡ Some inside → one inside ≡ two inside)
      → ((inside : List ExtensionPoint) → (if b then option_map (λ (given : ShardPoints). given.inner) o else None) ≡ Some inside → p inside cause → q inside cause)
      → EitherCause b (MatchOption o (cause ≡ plugin.MetadataInvalid) (λ given. RefusesShard one p (RefusesChain reads) given cause ⊎ ((chain : Chain) × (shard_of one (allowed_chain reads) given ≡ Some chain) × (codecs_in reads points ≡ None)))) other
      → EitherCause b (MatchOption o (cause ≡ plugin.MetadataInvalid) (λ given. RefusesShard two q (RefusesChain reads) given cause ⊎ ((chain : Chain) × (shard_of two (allowed_chain reads) given ≡ Some chain) × (codecs_in reads points ≡ None)))) other
  named true None other same more refused = refused
  named true (Some given) other same more refused = alternatives given (same given.inner refl) (more given.inner refl) refused
  named false o other same more refused = refused

  begun : Option ArrayCodec → List ArrayCodec
  begun o = elim o [ Some codec ↦ codec ∷ array_codecs_of points | None ↦ [] ]

  inside_of : Option ArrayCodec → Option (List ExtensionPoint)
  inside_of o = elim o [ Some codec ↦ inner_points points | None ↦ points_inside point ]

  at : (o : Option ArrayCodec)
      → (((inside : List ExtensionPoint) → inner_points points ≡ Some inside → one inside ≡ two inside) → ((inside : List ExtensionPoint) → inner_points points ≡ Some inside → p inside cause → q inside cause)
      → RefusesSharded reads one p points cause → RefusesSharded reads two q points cause)
      → ((inside : List ExtensionPoint) → inside_of o ≡ Some inside → one inside ≡ two inside) → ((inside : List ExtensionPoint) → inside_of o ≡ Some inside → p inside cause → q inside cause)
      → RefusesFirst reads one p (drop (length (begun o)) (point ∷ points)) cause → RefusesFirst reads two q (drop (length (begun o)) (point ∷ points)) cause
  at (Some codec) rest same more refused = rest same more refused
  at None rest same more refused = named (names_shard point.name) (shard_points_in (configuration_members point.configuration)) (cause ≡ cause_of (names_array_codec point.name)) same more refused

-- where no shard stands, a chain is refused as one without shards
pub plain_refused : (reads : ReadsCodecs) (points : List ExtensionPoint) (cause : PluginCreateError) → shard_stands points ≡ false → RefusesChain reads points cause → RefusesArray reads points cause
plain_refused reads points cause none refused =
    subst (λ (b : Bool). EitherCause b (RefusesSharded reads (chain_within reads 1) (RefusesWithin reads 1) points cause) (RefusesChain reads points cause)) (sym none) refused

-- so are subchunks
plain_inside : (reads : ReadsCodecs) (points : List ExtensionPoint) (cause : PluginCreateError) → shard_stands points ≡ false → RefusesPlain reads points cause → RefusesWithin reads 1 points cause
plain_inside reads points cause none refused =
    subst (λ (b : Bool). EitherCause b (RefusesSharded reads (chain_within reads 0) (RefusesWithin reads 0) points cause) (RefusesChain reads points cause)) (sym none)
    (subst (λ (b : Bool). RefusesUnless b (RefusesChain reads points cause) cause) none refused)

pub sharded_refused : (reads : ReadsCodecs) (points : List ExtensionPoint) (cause : PluginCreateError) → shard_stands points ≡ true → shards_nest points ≡ false → RefusesSharded reads (allowed_chain reads) (RefusesPlain reads) points cause
    → RefusesArray reads points cause
sharded_refused reads points cause stands nest refused =
    let inside = inner_refused reads (allowed_chain reads) (chain_within reads 1) (RefusesPlain reads) (RefusesWithin reads 1) points cause
    (λ inside is. sym (plain_said reads 1 inside (inside_stands points inside is ∙ nest))) (λ inside is h. plain_inside reads inside cause (inside_stands points inside is ∙ nest) h) refused in
    subst (λ (b : Bool). EitherCause b (RefusesSharded reads (chain_within reads 1) (RefusesWithin reads 1) points cause) (RefusesChain reads points cause)) (sym stands) inside

-- subchunks in which a shard stands
shard_inside : (reads : ReadsCodecs) (points : List ExtensionPoint) (cause : PluginCreateError) → shard_stands points ≡ true → RefusesSharded reads (allowed_chain reads) (RefusesPlain reads) points cause → RefusesWithin reads 1 points cause
shard_inside reads points cause stands refused =
    let inside = inner_refused reads (allowed_chain reads) (chain_within reads 0) (RefusesPlain reads) (RefusesWithin reads 0) points cause (λ inside is. sym (zero_said reads inside)) (λ inside is h. h) refused in
    subst (λ (b : Bool). EitherCause b (RefusesSharded reads (chain_within reads 0) (RefusesWithin reads 0) points cause) (RefusesChain reads points cause)) (sym stands) inside

pub nested_refused : (reads : ReadsCodecs) (points : List ExtensionPoint) (cause : PluginCreateError) → shard_stands points ≡ true → shards_nest points ≡ true
    → RefusesSharded reads (sharded_chain_of reads (allowed_chain reads)) (RefusesSharded reads (allowed_chain reads) (RefusesPlain reads)) points cause → RefusesArray reads points cause
nested_refused reads points cause stands nest refused =
    let inside = inner_refused reads (sharded_chain_of reads (allowed_chain reads)) (chain_within reads 1) (RefusesSharded reads (allowed_chain reads) (RefusesPlain reads)) (RefusesWithin reads 1) points cause
    (λ inside is. sym (within_one reads inside (inside_stands points inside is ∙ nest))) (λ inside is h. shard_inside reads inside cause (inside_stands points inside is ∙ nest) h) refused in
    subst (λ (b : Bool). EitherCause b (RefusesSharded reads (chain_within reads 1) (RefusesWithin reads 1) points cause) (RefusesChain reads points cause)) (sym stands) inside
