-- Why extension points are refused as codecs.
use Rattle.std.proofs.Common.{◌≡◌, ◌∙◌, ℕ, List, [], ◌∷◌, length, drop, map, codes, bytes_eq, Bool, true, false, ◌||◌, if◌then◌else◌, ap, sym, subst, refl, inr, Option, Some, None, option_map, option_and_then, Result, Ok, Err}
use Rattle.std.specs.Prelude.{is_some, IfErr}
use Rattle.std.proofs.lemmas.List.{drop-map, length-map}
use Rattle.std.proofs.lemmas.Slice.Eq.{bytes_eq-Decides}
use Rattle.serde_json.specs.Data.{Members}
use Rattle.zarr_grids_metadata.specs.ExtensionPoints.{ExtensionPoint, configuration_members}
use Rattle.zarr_grids_metadata.specs.Views.{point_view}
use Rattle.zarr_grids_metadata.specs.declared.error.PluginCreateError.{PluginCreateError}
use Rattle.zarr_grids_metadata.specs.declared.error.PluginCreateError.TheVariants as plugin
use Rattle.zarr_grids_metadata.specs.declared.extension_point.ExtensionPoint as lent
use Rattle.zarr_codecs_meaning.specs.Chains.{ArrayCodec, Chain}
use Rattle.zarr_codecs_meaning.specs.Chains.Chain.{after_array_codec}
use Rattle.zarr_codecs_metadata.specs.ArrayCodecs.{array_codec_in}
use Rattle.zarr_codecs_meaning.specs.Fits.{takes_each_shape}
use Rattle.zarr_codecs_metadata.specs.Allowed.{allowed, has_no_array_codec, is_allowed}
use Rattle.zarr_codecs_metadata.specs.Chains.{ReadsCodecs, allowed_chain, array_to_bytes_in, bytes_of, bytes_chain_of, chain_of, listed_chain, with_byte_codecs}
use Rattle.zarr_codecs_metadata.specs.PackBits.{packbits_of}
use Rattle.zarr_codecs_metadata.specs.Sections.{names_vlen, names_optional, vlen_of, optional_of}
use Rattle.zarr_codecs_metadata.proofs.Levels.{nested}
use Rattle.zarr_codecs_array_to_array.specs.Refusals.{cause_of, names_array_codec}
use Rattle.zarr_codecs_array_to_array.specs.Views.{codec_of}
use Rattle.zarr_codecs_array_to_array.specs.declared.codec.ArrayToArrayCodec.{ArrayToArrayCodec}
use Rattle.zarr_codecs_configurations.specs.Reading.{VlenPoints, OptionalPoints, vlen_points_in, optional_points_in}
use Rattle.zarr_codecs_around.specs.Codecs.{codecs_in}
use Rattle.zarr_codecs_around.specs.ArrayMetadata.{array_codecs_of, begins_with_array_codec, is_array_codec_misconfigured}
use Rattle.zarr_codecs_chains.specs.Reading.{leaf_in}
use Rattle.zarr_codecs_chains.specs.Refusals.{RefusedChain, RefusedCodec, RefusesChain, RefusesCodec, RefusesOptional, RefusesVlen, is_configured, lists_in, lists_of_vlen, lists_of_optional, names_array_to_bytes, names_leaf}
use Rattle.zarr_codecs_chains.specs.Refusals as refusals
use Rattle.zarr_codecs_around.specs.Views.{codecs_of}

-- ---- names

-- what holds of both names of `vlen` holds of each name that is one
vlen_case : (P : List ℕ → Type 0) (name : List ℕ) → names_vlen name ≡ true → P (codes "vlen") → P (codes "zarrs.vlen") → P name
vlen_case P name h one two = at (bytes_eq name (codes "vlen")) (bytes_eq name (codes "zarrs.vlen")) refl refl h where
  at : (a b : Bool) → bytes_eq name (codes "vlen") ≡ a → bytes_eq name (codes "zarrs.vlen") ≡ b → (a || b) ≡ true → P name
  at true b e f h = subst P (sym ((bytes_eq-Decides name (codes "vlen")).0 e)) one
  at false true e f h = subst P (sym ((bytes_eq-Decides name (codes "zarrs.vlen")).0 f)) two
  at false false e f h = absurd (cc)

-- the same of `optional`
optional_case : (P : List ℕ → Type 0) (name : List ℕ) → names_optional name ≡ true → P (codes "optional") → P (codes "zarrs.optional") → P name
optional_case P name h one two = at (bytes_eq name (codes "optional")) (bytes_eq name (codes "zarrs.optional")) refl refl h where
  at : (a b : Bool) → bytes_eq name (codes "optional") ≡ a → bytes_eq name (codes "zarrs.optional") ≡ b → (a || b) ≡ true → P name
  at true b e f h = subst P (sym ((bytes_eq-Decides name (codes "optional")).0 e)) one
  at false true e f h = subst P (sym ((bytes_eq-Decides name (codes "zarrs.optional")).0 f)) two
  at false false e f h = absurd (cc)

-- the same of the codecs between arrays
array_case : (P : List ℕ → Type 0) (name : List ℕ) → names_array_codec name ≡ true → P (codes "transpose") → P (codes "reshape") → P (codes "squeeze") → P (codes "zarrs.squeeze") → P name
array_case P name h one two three four = at (bytes_eq name (codes "transpose")) (bytes_eq name (codes "reshape")) (bytes_eq name (codes "squeeze")) (bytes_eq name (codes "zarrs.squeeze")) refl refl refl refl h where
  at : (a b c d : Bool) → bytes_eq name (codes "transpose") ≡ a → bytes_eq name (codes "reshape") ≡ b → bytes_eq name (codes "squeeze") ≡ c → bytes_eq name (codes "zarrs.squeeze") ≡ d → (a || (b || (c || d))) ≡ true → P name
  at true b c d e _ _ _ h = subst P (sym ((bytes_eq-Decides name (codes "transpose")).0 e)) one
  at false true c d _ e _ _ h = subst P (sym ((bytes_eq-Decides name (codes "reshape")).0 e)) two
  at false false true d _ _ e _ h = subst P (sym ((bytes_eq-Decides name (codes "squeeze")).0 e)) three
  at false false false true _ _ _ e h = subst P (sym ((bytes_eq-Decides name (codes "zarrs.squeeze")).0 e)) four
  at false false false false _ _ _ _ h = absurd (cc)

-- ---- one codec between arrays and bytes

-- the codec without chains of a name and a configuration
abbrev leaf_named : List ℕ → Members → Option Chain
leaf_named name ms = if bytes_eq name (codes "bytes") then bytes_of ms else (if bytes_eq name (codes "packbits") then packbits_of ms else None)

unconfigured : (point : ExtensionPoint) → lists_in point ≡ None → leaf_in point ≡ None → is_configured point ≡ false
unconfigured point lists leaf = ap (λ (o : Option (List ExtensionPoint × List ExtensionPoint) × Option Chain). is_some o.0 || is_some o.1) (λ i. (lists i, leaf i))

-- the lists of `vlen`
vlen_lists_in : (point : ExtensionPoint) → names_vlen point.name ≡ true → lists_in point ≡ option_map lists_of_vlen (vlen_points_in (configuration_members point.configuration))
vlen_lists_in point named =
    let ms = configuration_members point.configuration in
    ap (λ (b : Bool). if b then option_map lists_of_vlen (vlen_points_in ms) else (if names_optional point.name then option_map lists_of_optional (optional_points_in ms) else None)) named

-- `vlen` with a configuration that is none
pub vlen_unconfigured : (reads : ReadsCodecs) (point : ExtensionPoint) → names_vlen point.name ≡ true → vlen_points_in (configuration_members point.configuration) ≡ None → RefusedCodec reads point plugin.MetadataInvalid
vlen_unconfigured reads point named none =
    let ms = configuration_members point.configuration in
    let leaf = vlen_case (λ n. leaf_named n ms ≡ None) point.name named refl refl in
    refusals.RefusedCodec.configuration point (vlen_case (λ n. names_array_to_bytes n ≡ true) point.name named refl refl) (unconfigured point (vlen_lists_in point named ∙ ap (option_map lists_of_vlen) none) leaf)

-- `vlen` of which a chain is refused
pub vlen_no_index : (reads : ReadsCodecs) (point : ExtensionPoint) (given : VlenPoints) (cause : PluginCreateError) → names_vlen point.name ≡ true → vlen_points_in (configuration_members point.configuration) ≡ Some given
    → RefusedChain reads given.index cause → RefusedCodec reads point cause
vlen_no_index reads point given cause named is refused = refusals.RefusedCodec.inner point given.index given.content cause (vlen_lists_in point named ∙ ap (option_map lists_of_vlen) is) refused

pub vlen_no_content : (reads : ReadsCodecs) (point : ExtensionPoint) (given : VlenPoints) (chain : Chain) (cause : PluginCreateError) → names_vlen point.name ≡ true → vlen_points_in (configuration_members point.configuration) ≡ Some given
    → chain_of reads given.index ≡ Some chain → RefusedChain reads given.content cause → RefusedCodec reads point cause
vlen_no_content reads point given chain cause named is index refused =
    refusals.RefusedCodec.content point given.index given.content chain cause (vlen_lists_in point named ∙ ap (option_map lists_of_vlen) is) index refused

-- the lists of `optional`
optional_lists_in : (point : ExtensionPoint) → names_optional point.name ≡ true → lists_in point ≡ option_map lists_of_optional (optional_points_in (configuration_members point.configuration))
optional_lists_in point named =
    let ms = configuration_members point.configuration in
    let found = option_map lists_of_optional (optional_points_in ms) in
    let other = option_map lists_of_vlen (vlen_points_in ms) in
    optional_case (λ n. (if names_vlen n then other else (if names_optional n then found else None)) ≡ found) point.name named refl refl

-- `optional` with a configuration that is none
pub optional_unconfigured : (reads : ReadsCodecs) (point : ExtensionPoint) → names_optional point.name ≡ true → optional_points_in (configuration_members point.configuration) ≡ None → RefusedCodec reads point plugin.MetadataInvalid
optional_unconfigured reads point named none =
    let ms = configuration_members point.configuration in
    let leaf = optional_case (λ n. leaf_named n ms ≡ None) point.name named refl refl in
    refusals.RefusedCodec.configuration point (optional_case (λ n. names_array_to_bytes n ≡ true) point.name named refl refl) (unconfigured point (optional_lists_in point named ∙ ap (option_map lists_of_optional) none) leaf)

-- `optional` of which a chain is refused
pub optional_no_mask : (reads : ReadsCodecs) (point : ExtensionPoint) (given : OptionalPoints) (cause : PluginCreateError) → names_optional point.name ≡ true → optional_points_in (configuration_members point.configuration) ≡ Some given
    → RefusedChain reads given.mask cause → RefusedCodec reads point cause
optional_no_mask reads point given cause named is refused = refusals.RefusedCodec.inner point given.mask given.content cause (optional_lists_in point named ∙ ap (option_map lists_of_optional) is) refused

pub optional_no_content : (reads : ReadsCodecs) (point : ExtensionPoint) (given : OptionalPoints) (chain : Chain) (cause : PluginCreateError) → names_optional point.name ≡ true
    → optional_points_in (configuration_members point.configuration) ≡ Some given → chain_of reads given.mask ≡ Some chain → RefusedChain reads given.content cause → RefusedCodec reads point cause
optional_no_content reads point given chain cause named is mask refused =
    refusals.RefusedCodec.content point given.mask given.content chain cause (optional_lists_in point named ∙ ap (option_map lists_of_optional) is) mask refused

-- a codec that holds no chains, or none
pub leaf_refused : (reads : ReadsCodecs) (point : ExtensionPoint) (cause : PluginCreateError) → names_vlen point.name ≡ false → names_optional point.name ≡ false → leaf_in point ≡ None → cause ≡ cause_of (names_leaf point.name)
    → RefusedCodec reads point cause
leaf_refused reads point cause no_vlen no_optional none is = subst (RefusedCodec reads point) (sym is) (at (names_leaf point.name) refl) where
  ms : Members
  ms = configuration_members point.configuration

  lists : lists_in point ≡ None
  lists = ap (λ (b : Bool × Bool). if b.0 then option_map lists_of_vlen (vlen_points_in ms) else (if b.1 then option_map lists_of_optional (optional_points_in ms) else None)) (λ i. (no_vlen i, no_optional i))

  at : (b : Bool) → names_leaf point.name ≡ b → RefusedCodec reads point (cause_of b)
  at true e = refusals.RefusedCodec.configuration point (ap (λ (b : Bool). b || (names_vlen point.name || names_optional point.name)) e) (unconfigured point lists none)
  at false e = refusals.RefusedCodec.unknown point (ap (λ (b : Bool × (Bool × Bool)). b.0 || (b.1.0 || b.1.1)) (λ i. (e i, (no_vlen i, no_optional i))))

-- the name of a codec that holds no chains, or of another
pub names_leaf_first : (name : List ℕ) → bytes_eq name (codes "bytes") ≡ true → names_leaf name ≡ true
names_leaf_first name h = ap (λ (b : Bool). b || bytes_eq name (codes "packbits")) h

pub names_leaf_second : (name : List ℕ) → bytes_eq name (codes "packbits") ≡ true → names_leaf name ≡ true
names_leaf_second name h = or_second (bytes_eq name (codes "bytes")) (bytes_eq name (codes "packbits")) h where
  or_second : (a b : Bool) → b ≡ true → (a || b) ≡ true
  or_second true b h = refl
  or_second false b h = h

pub names_no_leaf : (name : List ℕ) → bytes_eq name (codes "bytes") ≡ false → bytes_eq name (codes "packbits") ≡ false → names_leaf name ≡ false
names_no_leaf name h k = ap (λ (b : Bool × Bool). b.0 || b.1) (λ i. (h i, k i))

pub no_leaf : (point : ExtensionPoint) → bytes_eq point.name (codes "bytes") ≡ false → bytes_eq point.name (codes "packbits") ≡ false → leaf_in point ≡ None
no_leaf point h k =
    let ms = configuration_members point.configuration in
    ap (λ (b : Bool × Bool). if b.0 then bytes_of ms else (if b.1 then packbits_of ms else None)) (λ i. (h i, k i))

-- ---- chains

-- a codec between arrays is none between arrays and bytes
pub no_codec : (reads : ReadsCodecs) (point : ExtensionPoint) → names_array_codec point.name ≡ true → array_to_bytes_in reads point ≡ None
no_codec reads point named =
    let ms = configuration_members point.configuration in
    let chain = listed_chain reads in
    nested reads point
    ∙ array_case (λ n. (if bytes_eq n (codes "bytes") then bytes_of ms
    else (if bytes_eq n (codes "packbits") then packbits_of ms
    else (if names_vlen n then vlen_of chain ms
    else (if names_optional n then optional_of chain ms else None)))) ≡ None) point.name named refl refl refl refl

-- a codec between arrays whose configuration is none makes a chain be refused
pub misconfigured : (reads : ReadsCodecs) (points : List ExtensionPoint) → is_array_codec_misconfigured points ≡ true → RefusedChain reads points plugin.MetadataInvalid
misconfigured reads [] h = absurd (cc)
misconfigured reads (point ∷ points) h = at (array_codec_in point) refl (λ rest. misconfigured reads points rest) h where
  at : (o : Option ArrayCodec) → array_codec_in point ≡ o → (is_array_codec_misconfigured points ≡ true → RefusedChain reads points plugin.MetadataInvalid)
      → elim o [ Some codec ↦ is_array_codec_misconfigured points | None ↦ names_array_codec point.name ] ≡ true → RefusedChain reads (point ∷ points) plugin.MetadataInvalid
  at (Some codec) is others h = refusals.RefusedChain.later point points codec plugin.MetadataInvalid is (others h)
  at None is others h = refusals.RefusedChain.array_codec point points h is

-- what extension points say, by what the first is as a codec between arrays
abbrev said_at : ReadsCodecs → ExtensionPoint → List ExtensionPoint → Option ArrayCodec → Option Chain
said_at reads point points o = elim o [ Some codec ↦ option_map (after_array_codec codec) (chain_of reads points) | None ↦ bytes_chain_of reads (point ∷ points) ]

-- the codecs between arrays that they begin with, by the same
abbrev begun : List ExtensionPoint → Option ArrayCodec → List ArrayCodec
begun points o = elim o [ Some codec ↦ codec ∷ array_codecs_of points | None ↦ [] ]

-- and such a chain says nothing
pub misconfigured_none : (reads : ReadsCodecs) (points : List ExtensionPoint) → is_array_codec_misconfigured points ≡ true → chain_of reads points ≡ None
misconfigured_none reads [] h = absurd (cc)
misconfigured_none reads (point ∷ points) h = at (array_codec_in point) (λ rest. misconfigured_none reads points rest) h where
  at : (o : Option ArrayCodec) → (is_array_codec_misconfigured points ≡ true → chain_of reads points ≡ None) → elim o [ Some codec ↦ is_array_codec_misconfigured points | None ↦ names_array_codec point.name ] ≡ true
      → said_at reads point points o ≡ None
  at (Some codec) others h = ap (option_map (after_array_codec codec)) (others h)
  at None others h = ap (option_and_then (λ chain. with_byte_codecs reads chain points)) (no_codec reads point h)

-- what follows the codecs between arrays begins with none, where none is misconfigured
pub begins_without : (points : List ExtensionPoint) → is_array_codec_misconfigured points ≡ false → begins_with_array_codec (drop (length (array_codecs_of points)) points) ≡ false
begins_without [] h = refl
begins_without (point ∷ points) h = at (array_codec_in point) (λ rest. begins_without points rest) h where
  at : (o : Option ArrayCodec) → (is_array_codec_misconfigured points ≡ false → begins_with_array_codec (drop (length (array_codecs_of points)) points) ≡ false) → elim o [ Some codec ↦ is_array_codec_misconfigured points | None ↦ names_array_codec point.name ] ≡ false
      → begins_with_array_codec (drop (length (begun points o)) (point ∷ points)) ≡ false
  at (Some codec) others h = others h
  at None others h = h

-- what follows them is refused
pub after_refused : (reads : ReadsCodecs) (points : List ExtensionPoint) (cause : PluginCreateError) → RefusedChain reads (drop (length (array_codecs_of points)) points) cause → RefusedChain reads points cause
after_refused reads [] cause h = h
after_refused reads (point ∷ points) cause h = at (array_codec_in point) refl (λ rest. after_refused reads points cause rest) h where
  at : (o : Option ArrayCodec) → array_codec_in point ≡ o → (RefusedChain reads (drop (length (array_codecs_of points)) points) cause → RefusedChain reads points cause) → RefusedChain reads (drop (length (begun points o)) (point ∷ points)) cause → RefusedChain reads (point ∷ points) cause
  at (Some codec) is others h = refusals.RefusedChain.later point points codec cause is (others h)
  at None is others h = h

-- the rest of metadata after its codecs between arrays
rest_points : (metadatas rest : List lent.ExtensionPoint) (arrays : List ArrayToArrayCodec) → codecs_of arrays ≡ array_codecs_of (map point_view metadatas) → rest ≡ drop (length arrays) metadatas
    → map point_view rest ≡ drop (length (array_codecs_of (map point_view metadatas))) (map point_view metadatas)
rest_points metadatas rest arrays first after =
    ap (map point_view) after
    ∙ (sym (drop-map point_view (length arrays) metadatas)
    ∙ ap (λ (n : ℕ). drop n (map point_view metadatas)) (sym (length-map arrays codec_of) ∙ ap length first))

pub rest_begins : (metadatas rest : List lent.ExtensionPoint) (arrays : List ArrayToArrayCodec) → codecs_of arrays ≡ array_codecs_of (map point_view metadatas) → rest ≡ drop (length arrays) metadatas
    → is_array_codec_misconfigured (map point_view metadatas) ≡ false → begins_with_array_codec (map point_view rest) ≡ false
rest_begins metadatas rest arrays first after h = ap begins_with_array_codec (rest_points metadatas rest arrays first after) ∙ begins_without (map point_view metadatas) h

pub rest_refused : (reads : ReadsCodecs) (metadatas rest : List lent.ExtensionPoint) (arrays : List ArrayToArrayCodec) (cause : PluginCreateError) → codecs_of arrays ≡ array_codecs_of (map point_view metadatas) → rest ≡ drop (length arrays) metadatas
    → RefusedChain reads (map point_view rest) cause → RefusedChain reads (map point_view metadatas) cause
rest_refused reads metadatas rest arrays cause first after h = after_refused reads (map point_view metadatas) cause (subst (λ ps. RefusedChain reads ps cause) (rest_points metadatas rest arrays first after) h)

-- the first codec of metadata, or one of the caller's codecs after it, is refused
pub first_refused : (reads : ReadsCodecs) (metadatas others : List lent.ExtensionPoint) (first : lent.ExtensionPoint) (cause : PluginCreateError) → metadatas ≡ first ∷ others → begins_with_array_codec (map point_view metadatas) ≡ false
    → RefusedCodec reads (point_view first) cause → RefusedChain reads (map point_view metadatas) cause
first_refused reads metadatas others first cause is begins refused =
    let begun : names_array_codec (point_view first).name ≡ false = subst (λ (ps : List lent.ExtensionPoint). begins_with_array_codec (map point_view ps) ≡ false) is begins in
    subst (λ (ps : List lent.ExtensionPoint). RefusedChain reads (map point_view ps) cause) (sym is) (refusals.RefusedChain.first (point_view first) (map point_view others) cause begun refused)

pub others_refused : (reads : ReadsCodecs) (metadatas others : List lent.ExtensionPoint) (first : lent.ExtensionPoint) (chain : Chain) (cause : PluginCreateError) → metadatas ≡ first ∷ others → begins_with_array_codec (map point_view metadatas) ≡ false
    → array_to_bytes_in reads (point_view first) ≡ Some chain → codecs_in reads (map point_view others) ≡ None → RefusedChain reads (map point_view metadatas) cause
others_refused reads metadatas others first chain cause is begins said none =
    let begun : names_array_codec (point_view first).name ≡ false = subst (λ (ps : List lent.ExtensionPoint). begins_with_array_codec (map point_view ps) ≡ false) is begins in
    subst (λ (ps : List lent.ExtensionPoint). RefusedChain reads (map point_view ps) cause) (sym is) (refusals.RefusedChain.others (point_view first) (map point_view others) chain cause begun said none)

-- nothing is refused as what has no codec between arrays and bytes
pub nothing_refused : (reads : ReadsCodecs) (metadatas : List lent.ExtensionPoint) → length metadatas ≡ 0 → RefusedChain reads (map point_view metadatas) plugin.MetadataInvalid
nothing_refused reads [] none = refusals.RefusedChain.ends
nothing_refused reads (metadata ∷ metadatas) none = absurd (cc)

-- of a refusal two facts give a third
pub both_causes : {T E : Type 0} (r : Result T E) (P Q R : E → Type 0) → ((e : E) → P e → Q e → R e) → IfErr r P → IfErr r Q → IfErr r R
both_causes (Ok value) P Q R both p q = p
both_causes (Err e) P Q R both p q = both e p q

-- ---- chains whose codecs between arrays stand where none may

-- an allowed chain is said
pub allowed_said : (said : Option Chain) (chain : Chain) → option_and_then allowed said ≡ Some chain → said ≡ Some chain
allowed_said None chain is = cc
allowed_said (Some found) chain is = at (is_allowed found) is where
  at : (b : Bool) → (if b then Some found else None) ≡ Some chain → Some found ≡ Some chain
  at true is = is
  at false is = cc

-- a chain that is said, but isn't allowed, is refused
pub misplaced : (reads : ReadsCodecs) (points : List ExtensionPoint) (chain : Chain) → chain_of reads points ≡ Some chain → is_allowed chain ≡ false → RefusesChain reads points plugin.MetadataInvalid
misplaced reads points chain said stands = inr (refl, (chain, said, stands))

-- so is a codec
pub misplaced_codec : (reads : ReadsCodecs) (point : ExtensionPoint) (chain : Chain) → array_to_bytes_in reads point ≡ Some chain → is_allowed chain ≡ false → RefusesCodec reads point plugin.MetadataInvalid
misplaced_codec reads point chain said stands = inr (refl, (chain, said, stands))

-- `vlen` whose data has a codec between arrays
pub vlen_misplaced : (reads : ReadsCodecs) (given : VlenPoints) (chain : Chain) → allowed_chain reads given.content ≡ Some chain → has_no_array_codec chain ≡ false → RefusesVlen reads given plugin.MetadataInvalid
vlen_misplaced reads given chain said stands = inr (inr (refl, (chain, allowed_said (chain_of reads given.content) chain said, stands)))

-- `optional` whose elements go through one
pub optional_misplaced : (reads : ReadsCodecs) (given : OptionalPoints) (chain : Chain) → allowed_chain reads given.content ≡ Some chain → takes_each_shape chain ≡ false → RefusesOptional reads given plugin.MetadataInvalid
optional_misplaced reads given chain said stands = inr (inr (refl, (chain, allowed_said (chain_of reads given.content) chain said, stands)))
