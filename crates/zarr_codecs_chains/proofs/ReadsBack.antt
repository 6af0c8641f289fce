-- Chains read from the metadata of their codecs.
use Rattle.std.proofs.Common.{◌≡◌, ℕ, List, [], ◌∷◌, ◌++◌, length, drop, map, ap, ◌∙◌, sym, refl, subst, Bool, true, false, ◌||◌, if◌then◌else◌, bytes_eq, codes, Option, Some, None, option_map, option_and_then}
use Rattle.std.proofs.lemmas.List.{drop-map, length-map}
use Rattle.std.proofs.lemmas.Slice.Eq.{bytes_eq-Decides}
use Rattle.serde_json.specs.Data.{Data, Members}
use Rattle.zarr_grids_metadata.specs.ExtensionPoints.{ExtensionPoint, configuration_members}
use Rattle.zarr_grids_metadata.specs.Views.{point_view}
use Rattle.zarr_grids_metadata.specs.declared.extension_point.ExtensionPoint as lent
use Rattle.zarr_codecs_meaning.specs.Chains.{ArrayCodec, ByteCodec, Chain}
use Rattle.zarr_codecs_array_to_array.specs.Views.{codec_of}
use Rattle.zarr_codecs_array_to_array.specs.declared.codec.ArrayToArrayCodec.{ArrayToArrayCodec}
use Rattle.zarr_codecs_meaning.specs.Chains.Chain.{bytes, after_array_codec, then_bytes}
use Rattle.zarr_codecs_metadata.specs.ArrayCodecs.{array_codec_in, names_squeeze, reshape_of, squeeze_of, transpose_of}
use Rattle.zarr_codecs_metadata.specs.Chains.{ReadsCodecs, array_to_bytes_in, bytes_chain_of, bytes_in, bytes_of, with_byte_codecs, chain_of, listed_chain}
use Rattle.zarr_codecs_metadata.specs.PackBits.{packbits_of}
use Rattle.zarr_codecs_metadata.specs.Sections.{names_vlen, names_optional, vlen_of, optional_of}
use Rattle.zarr_codecs_metadata.proofs.Levels.{nested}
use Rattle.zarr_codecs_packbits.specs.Metadata.{packbits_in}
use Rattle.zarr_codecs_around.specs.Codecs.{codecs_in}
use Rattle.zarr_codecs_around.specs.ArrayMetadata.{array_codecs_of}
use Rattle.zarr_codecs_chains.specs.Reading.{leaf_in}
use Rattle.zarr_codecs_bytes.specs.Views.{order_of, bytes_point}
use Rattle.zarr_codecs_around.specs.Views.{codecs_of, with_codecs, with_array_codecs}
use Rattle.zarr_codecs_bytes.specs.declared.bytes.Endianness.{Endianness}
use Rattle.zarr_codecs_bytes.specs.declared.bytes.Endianness.TheVariants.{Little, Big}

-- ---- the caller's codecs

mapped : (chain : Chain) (codec : ByteCodec) (o : Option (List ByteCodec)) → option_map (with_codecs (then_bytes chain codec)) o ≡ option_map (with_codecs chain) (option_map (λ codecs. codec ∷ codecs) o)
mapped chain codec None = refl
mapped chain codec (Some codecs) = refl

with_first : (reads : ExtensionPoint → Option ByteCodec) (chain : Chain) (points : List ExtensionPoint) (o : Option ByteCodec)
    → ((codec : ByteCodec) → with_byte_codecs reads (then_bytes chain codec) points ≡ option_map (with_codecs (then_bytes chain codec)) (codecs_in reads points))
    → option_and_then (λ codec. with_byte_codecs reads (then_bytes chain codec) points) o ≡ option_map (with_codecs chain) (option_and_then (λ codec. option_map (λ codecs. codec ∷ codecs) (codecs_in reads points)) o)
with_first reads chain points None law = refl
with_first reads chain points (Some codec) law = law codec ∙ mapped chain codec (codecs_in reads points)

pub with_in : (reads : ExtensionPoint → Option ByteCodec) (chain : Chain) (points : List ExtensionPoint) → with_byte_codecs reads chain points ≡ option_map (with_codecs chain) (codecs_in reads points)
with_in reads chain [] = refl
with_in reads chain (point ∷ points) = with_first reads chain points (reads point) (λ codec. with_in reads (then_bytes chain codec) points)

pub all_read_back : {B : Type 0} (reads : ExtensionPoint → Option ByteCodec) (described : B → ExtensionPoint) (meaning : B → ByteCodec) (codecs : List B) → ((codec : B) → reads (described codec) ≡ Some (meaning codec))
    → codecs_in reads (map described codecs) ≡ Some (map meaning codecs)
all_read_back reads described meaning [] law = refl
all_read_back reads described meaning (codec ∷ codecs) law =
    ap (option_and_then (λ c. option_map (λ cs. c ∷ cs) (codecs_in reads (map described codecs)))) (law codec) ∙ ap (option_map (λ cs. meaning codec ∷ cs)) (all_read_back reads described meaning codecs law)

-- ---- array to bytes codecs

-- the array to bytes codec of this name and configuration
abbrev codec_named : (Data → Option Chain) → List ℕ → Members → Option Chain
codec_named chain name ms =
    if bytes_eq name (codes "bytes") then bytes_of ms
    else (if bytes_eq name (codes "packbits") then packbits_of ms
    else (if names_vlen name then vlen_of chain ms
    else (if names_optional name then optional_of chain ms else None)))

vlen_named : (chain : Data → Option Chain) (name : List ℕ) (ms : Members) → names_vlen name ≡ true → codec_named chain name ms ≡ vlen_of chain ms
vlen_named chain name ms h = at (bytes_eq name (codes "vlen")) (bytes_eq name (codes "zarrs.vlen")) refl refl h where
  at : (a b : Bool) → bytes_eq name (codes "vlen") ≡ a → bytes_eq name (codes "zarrs.vlen") ≡ b → (a || b) ≡ true → codec_named chain name ms ≡ vlen_of chain ms
  at true b e f h = ap (λ n. codec_named chain n ms) ((bytes_eq-Decides name (codes "vlen")).0 e)
  at false true e f h = ap (λ n. codec_named chain n ms) ((bytes_eq-Decides name (codes "zarrs.vlen")).0 f)
  at false false e f h = absurd (cc)

optional_named : (chain : Data → Option Chain) (name : List ℕ) (ms : Members) → names_optional name ≡ true → codec_named chain name ms ≡ optional_of chain ms
optional_named chain name ms h = at (bytes_eq name (codes "optional")) (bytes_eq name (codes "zarrs.optional")) refl refl h where
  at : (a b : Bool) → bytes_eq name (codes "optional") ≡ a → bytes_eq name (codes "zarrs.optional") ≡ b → (a || b) ≡ true → codec_named chain name ms ≡ optional_of chain ms
  at true b e f h = ap (λ n. codec_named chain n ms) ((bytes_eq-Decides name (codes "optional")).0 e)
  at false true e f h = ap (λ n. codec_named chain n ms) ((bytes_eq-Decides name (codes "zarrs.optional")).0 f)
  at false false e f h = absurd (cc)

-- what an extension point says that names `vlen`
pub said_vlen : (reads : ReadsCodecs) (point : ExtensionPoint) → names_vlen point.name ≡ true → array_to_bytes_in reads point ≡ vlen_of (listed_chain reads) (configuration_members point.configuration)
said_vlen reads point h = nested reads point ∙ vlen_named (listed_chain reads) point.name (configuration_members point.configuration) h

-- what an extension point says that names `optional`
pub said_optional : (reads : ReadsCodecs) (point : ExtensionPoint) → names_optional point.name ≡ true → array_to_bytes_in reads point ≡ optional_of (listed_chain reads) (configuration_members point.configuration)
said_optional reads point h = nested reads point ∙ optional_named (listed_chain reads) point.name (configuration_members point.configuration) h

-- what an extension point says that names neither
pub said_leaf : (reads : ReadsCodecs) (point : ExtensionPoint) → names_vlen point.name ≡ false → names_optional point.name ≡ false → array_to_bytes_in reads point ≡ leaf_in point
said_leaf reads point no_vlen no_optional =
    let ms = configuration_members point.configuration in
    nested reads point
    ∙ ap (λ (b : Bool × Bool). if bytes_eq point.name (codes "bytes") then bytes_of ms
    else (if bytes_eq point.name (codes "packbits") then packbits_of ms
    else (if b.0 then vlen_of (listed_chain reads) ms
    else (if b.1 then optional_of (listed_chain reads) ms else None)))) (λ i. (no_vlen i, no_optional i))

-- what an extension point says that does not name `packbits`
pub not_packbits : (point : ExtensionPoint) → bytes_eq point.name (codes "packbits") ≡ false → leaf_in point ≡ bytes_in point
not_packbits point other =
    ap (λ (b : Bool). if bytes_eq point.name (codes "bytes") then bytes_of (configuration_members point.configuration) else (if b then packbits_of (configuration_members point.configuration) else None)) other

-- what an extension point says that names `packbits`
pub named_packbits : (point : ExtensionPoint) → bytes_eq point.name (codes "packbits") ≡ true → leaf_in point ≡ packbits_in point
named_packbits point named =
    let ms = configuration_members point.configuration in
    subst
    (λ (name : List ℕ). (if bytes_eq name (codes "bytes") then bytes_of ms else (if bytes_eq name (codes "packbits") then packbits_of ms else None)) ≡ (if bytes_eq name (codes "packbits") then packbits_of ms else None))
    (sym ((bytes_eq-Decides point.name (codes "packbits")).0 named)) refl

-- ---- chains

-- what the first extension point and the others say
pub chain_read : (reads : ExtensionPoint → Option ByteCodec) (first : ExtensionPoint) (others : List ExtensionPoint) (chain : Chain) → array_to_bytes_in reads first ≡ Some chain
    → bytes_chain_of reads (first ∷ others) ≡ option_map (with_codecs chain) (codecs_in reads others)
chain_read reads first others chain is = ap (option_and_then (λ c. with_byte_codecs reads c others)) is ∙ with_in reads chain others

-- what the first extension point that is no array codec and the others say, where it says nothing
pub chain_unread : (reads : ExtensionPoint → Option ByteCodec) (first : ExtensionPoint) (others : List ExtensionPoint) → array_to_bytes_in reads first ≡ None → bytes_chain_of reads (first ∷ others) ≡ None
chain_unread reads first others none = ap (option_and_then (λ c. with_byte_codecs reads c others)) none

pub bytes_read_back : (reads : ReadsCodecs) (endian : Option Endianness) → array_to_bytes_in reads (bytes_point endian) ≡ Some (bytes (option_map order_of endian))
bytes_read_back reads None = refl
bytes_read_back reads (Some Little) = refl
bytes_read_back reads (Some Big) = refl

-- ---- array codecs

-- the array codec of this name and configuration
abbrev array_codec_named : List ℕ → Members → Option ArrayCodec
array_codec_named name ms =
    if bytes_eq name (codes "transpose") then transpose_of ms
    else (if bytes_eq name (codes "reshape") then reshape_of ms
    else (if names_squeeze name then squeeze_of ms else None))

no_array_codec : (chain : Data → Option Chain) (name : List ℕ) (ms : Members) (found : Chain) → codec_named chain name ms ≡ Some found → array_codec_named name ms ≡ None
no_array_codec chain name ms found h =
    at (bytes_eq name (codes "bytes")) (bytes_eq name (codes "packbits")) (bytes_eq name (codes "vlen")) (bytes_eq name (codes "zarrs.vlen")) (bytes_eq name (codes "optional")) (bytes_eq name (codes "zarrs.optional"))
    refl refl refl refl refl refl h where
      at : (a b c d e f : Bool) → bytes_eq name (codes "bytes") ≡ a → bytes_eq name (codes "packbits") ≡ b → bytes_eq name (codes "vlen") ≡ c → bytes_eq name (codes "zarrs.vlen") ≡ d
          → bytes_eq name (codes "optional") ≡ e → bytes_eq name (codes "zarrs.optional") ≡ f
          → (if a then bytes_of ms else (if b then packbits_of ms else (if c || d then vlen_of chain ms else (if e || f then optional_of chain ms else None)))) ≡ Some found → array_codec_named name ms ≡ None
      at true b c d e f is _ _ _ _ _ h = ap (λ n. array_codec_named n ms) ((bytes_eq-Decides name (codes "bytes")).0 is)
      at false true c d e f _ is _ _ _ _ h = ap (λ n. array_codec_named n ms) ((bytes_eq-Decides name (codes "packbits")).0 is)
      at false false true d e f _ _ is _ _ _ h = ap (λ n. array_codec_named n ms) ((bytes_eq-Decides name (codes "vlen")).0 is)
      at false false false true e f _ _ _ is _ _ h = ap (λ n. array_codec_named n ms) ((bytes_eq-Decides name (codes "zarrs.vlen")).0 is)
      at false false false false true f _ _ _ _ is _ h = ap (λ n. array_codec_named n ms) ((bytes_eq-Decides name (codes "optional")).0 is)
      at false false false false false true _ _ _ _ _ is h = ap (λ n. array_codec_named n ms) ((bytes_eq-Decides name (codes "zarrs.optional")).0 is)
      at false false false false false false _ _ _ _ _ _ h = absurd (cc)

-- an array to bytes codec is no array codec
pub array_codec_none : (reads : ReadsCodecs) (point : ExtensionPoint) (chain : Chain) → array_to_bytes_in reads point ≡ Some chain → array_codec_in point ≡ None
array_codec_none reads point chain h = no_array_codec (listed_chain reads) point.name (configuration_members point.configuration) chain (sym (nested reads point) ∙ h)

-- what extension points say where the first is no array codec
pub chain_without : (reads : ExtensionPoint → Option ByteCodec) (first : ExtensionPoint) (others : List ExtensionPoint) → array_codec_in first ≡ None → chain_of reads (first ∷ others) ≡ bytes_chain_of reads (first ∷ others)
chain_without reads first others none = ap (λ (o : Option ArrayCodec). elim o [ Some codec ↦ option_map (after_array_codec codec) (chain_of reads others) | None ↦ bytes_chain_of reads (first ∷ others) ]) none

-- what extension points say where the first is an array codec
pub chain_with : (reads : ExtensionPoint → Option ByteCodec) (first : ExtensionPoint) (others : List ExtensionPoint) (codec : ArrayCodec) → array_codec_in first ≡ Some codec
    → chain_of reads (first ∷ others) ≡ option_map (after_array_codec codec) (chain_of reads others)
chain_with reads first others codec is = ap (λ (o : Option ArrayCodec). elim o [ Some codec ↦ option_map (after_array_codec codec) (chain_of reads others) | None ↦ bytes_chain_of reads (first ∷ others) ]) is

-- nothing before a chain leaves it as it is
without_any : (o : Option Chain) → o ≡ option_map (with_array_codecs []) o
without_any None = refl
without_any (Some chain) = refl

one_more : (codec : ArrayCodec) (codecs : List ArrayCodec) (o : Option Chain) → option_map (after_array_codec codec) (option_map (with_array_codecs codecs) o) ≡ option_map (with_array_codecs (codec ∷ codecs)) o
one_more codec codecs None = refl
one_more codec codecs (Some chain) = refl

-- the array codecs that extension points begin with come before what the others say
pub chain_begins : (reads : ReadsCodecs) (points : List ExtensionPoint) → chain_of reads points ≡ option_map (with_array_codecs (array_codecs_of points)) (bytes_chain_of reads (drop (length (array_codecs_of points)) points))
chain_begins reads [] = refl
chain_begins reads (point ∷ points) = at (array_codec_in point) refl (chain_begins reads points) where
  begun : Option ArrayCodec → List ArrayCodec
  begun o = elim o [ Some codec ↦ codec ∷ array_codecs_of points | None ↦ [] ]

  at : (o : Option ArrayCodec) → array_codec_in point ≡ o → chain_of reads points ≡ option_map (with_array_codecs (array_codecs_of points)) (bytes_chain_of reads (drop (length (array_codecs_of points)) points))
      → (elim o [ Some codec ↦ option_map (after_array_codec codec) (chain_of reads points) | None ↦ bytes_chain_of reads (point ∷ points) ])
      ≡ option_map (with_array_codecs (begun o)) (bytes_chain_of reads (drop (length (begun o)) (point ∷ points)))
  at None is rest = without_any (bytes_chain_of reads (point ∷ points))
  at (Some codec) is rest = ap (option_map (after_array_codec codec)) rest ∙ one_more codec (array_codecs_of points) (bytes_chain_of reads (drop (length (array_codecs_of points)) points))

-- array codecs that are read back, before a chain that is
pub array_codecs_read : (reads : ExtensionPoint → Option ByteCodec) (points others : List ExtensionPoint) (codecs : List ArrayCodec) (chain : Chain) → map array_codec_in points ≡ map Some codecs
    → chain_of reads others ≡ Some chain → chain_of reads (points ++ others) ≡ Some (with_array_codecs codecs chain)
array_codecs_read reads [] others [] chain same is = is
array_codecs_read reads [] others (codec ∷ codecs) chain same is = absurd (cc)
array_codecs_read reads (point ∷ points) others [] chain same is = absurd (cc)
array_codecs_read reads (point ∷ points) others (codec ∷ codecs) chain same is =
    let one : array_codec_in point ≡ Some codec = cc in
    let rest : map array_codec_in points ≡ map Some codecs = cc in
    chain_with reads point (points ++ others) codec one ∙ ap (option_map (after_array_codec codec)) (array_codecs_read reads points others codecs chain rest is)

-- ---- what is read part by part

-- the array codecs that metadata begins with, and the chain that the rest says
pub chain_split : (reads : ReadsCodecs) (metadatas rest : List lent.ExtensionPoint) (arrays : List ArrayToArrayCodec) (o : Option Chain) → codecs_of arrays ≡ array_codecs_of (map point_view metadatas) → rest ≡ drop (length arrays) metadatas
    → bytes_chain_of reads (map point_view rest) ≡ o → chain_of reads (map point_view metadatas) ≡ option_map (with_array_codecs (codecs_of arrays)) o
chain_split reads metadatas rest arrays o first after is =
    let points = map point_view metadatas in
    chain_begins reads points
    ∙ (ap (λ (codecs : List ArrayCodec). option_map (with_array_codecs codecs) (bytes_chain_of reads (drop (length codecs) points))) (sym first)
    ∙ (ap (λ (n : ℕ). option_map (with_array_codecs (codecs_of arrays)) (bytes_chain_of reads (drop n points))) (length-map arrays codec_of)
    ∙ (ap (λ (ps : List ExtensionPoint). option_map (with_array_codecs (codecs_of arrays)) (bytes_chain_of reads ps)) (drop-map point_view (length arrays) metadatas ∙ ap (map point_view) (sym after))
    ∙ ap (option_map (with_array_codecs (codecs_of arrays))) is)))

-- the first codec is an array to bytes codec, and the others are the caller's
pub bytes_split : {B : Type 0} (reads : ReadsCodecs) (meaning : B → ByteCodec) (metadatas others : List lent.ExtensionPoint) (first : lent.ExtensionPoint) (chain : Chain) (o : Option (List ByteCodec)) → metadatas ≡ first ∷ others
    → array_to_bytes_in reads (point_view first) ≡ Some chain → codecs_in reads (map point_view others) ≡ o → bytes_chain_of reads (map point_view metadatas) ≡ option_map (with_codecs chain) o
bytes_split reads meaning metadatas others first chain o is said rest =
    ap (λ (ps : List lent.ExtensionPoint). bytes_chain_of reads (map point_view ps)) is ∙ (chain_read reads (point_view first) (map point_view others) chain said ∙ ap (option_map (with_codecs chain)) rest)

-- the first codec says nothing
pub bytes_none : (reads : ReadsCodecs) (metadatas others : List lent.ExtensionPoint) (first : lent.ExtensionPoint) → metadatas ≡ first ∷ others → array_to_bytes_in reads (point_view first) ≡ None → bytes_chain_of reads (map point_view metadatas) ≡ None
bytes_none reads metadatas others first is said =
    ap (λ (ps : List lent.ExtensionPoint). bytes_chain_of reads (map point_view ps)) is ∙ chain_unread reads (point_view first) (map point_view others) said
