-- Documents that open are good where the caller's codecs are lawful.
use Rattle.std.proofs.Common.{◌≡◌, ◌∙◌, ℕ, zero, suc, List, [], ◌∷◌, length, sym, ap, subst, Bool, true, false, Option, Some, None, if◌then◌else◌, option_map, option_and_then, unwrap_or, bytes_eq, codes, Ok}
use Rattle.std.specs.Option.{ok_or}
use Rattle.serde_json.specs.Data.{Data, Members}
use Rattle.serde_json.specs.Find.{get_member, as_array, as_object}
use Rattle.zarr_grids_metadata.specs.ExtensionPoints.{ExtensionPoint, configuration_members}
use Rattle.zarr_grids_metadata.specs.Members.{has_only}
use Rattle.zarr_grids_configurations.specs.Configurations.{configuration_in}
use Rattle.zarr_grids_configurations.specs.Grids.{grid_in}
use Rattle.zarr_grids_keys.specs.EncodingMetadata.{keys_in}
use Rattle.zarr_codecs_meaning.specs.Chains.{ArrayCodec, Chain, Location}
use Rattle.zarr_codecs_meaning.specs.Chains.Chain.{bytes, packbits, vlen, optional, after_array_codec, then_bytes, sharded}
use Rattle.zarr_codecs_meaning.specs.Laws.{IsLawfulChain}
use Rattle.zarr_codecs_meaning.specs.Types.{DataType, Cell, is_value}
use Rattle.zarr_codecs_meaning.proofs.Lists.{bind_some, map_some, if_some, some_same}
use Rattle.zarr_codecs_types.specs.FillMetadata.{cell_in}
use Rattle.zarr_codecs_types.specs.Metadata.{data_type_in}
use Rattle.zarr_codecs_metadata.specs.ArrayCodecs.{array_codec_in}
use Rattle.zarr_codecs_metadata.specs.Allowed.{is_allowed, allowed}
use Rattle.zarr_codecs_metadata.specs.Chains.{ReadsCodecs, ReadsCodec, endian_in, bytes_of, with_byte_codecs, bytes_chain_by, chain_by, points_in, listed_chain_by, array_to_bytes_by, array_to_bytes_within, point_depth, array_to_bytes_in, chain_of}
use Rattle.zarr_codecs_metadata.specs.Sections.{names_vlen, names_optional, width_in, location_in, vlen_with, vlen_of, optional_with, optional_of}
use Rattle.zarr_codecs_metadata.specs.PackBits.{padding_in, bit_in, packbits_with, packbits_of}
use Rattle.zarr_sharding_metadata.specs.Metadata.{shard_points_in, shard_of, sharding_of, names_shard, array_to_bytes_of, array_chain_of}
use Rattle.zarr_array_meaning.specs.Documents.{Metadata, fields_in, read_members, version_3_of, read_metadata}
use Rattle.zarr_array_meaning.specs.declared.error.DocumentError.TheVariants.{Codecs, FillValue}
use Rattle.zarr_array_meaning.specs.Parts.{codecs_in, fill_in, dimension_names_in}
use Rattle.zarr_array_meaning.specs.Standing.{IsGood}
use Rattle.zarr_run_meaning.specs.Sound.{ReadsLawful}
use Rattle.zarr_run_meaning.specs.Laws.{LawfulGood}
use Rattle.zarr_run_meaning.proofs.Documents.{bind_ok, then_ok, ok_some, ok_same}

-- ---- fill values

-- the fill value of a document is a value of its type
fill_good : (type : DataType) (d : Data) (cell : Cell) → fill_in type d ≡ Some cell → is_value type cell ≡ true
fill_good type d cell said =
    let found = bind_some (λ c. if is_value type c then Some c else None) (cell_in type d) cell said in
    let kept = if_some (is_value type found.0) (Some found.0) cell found.2 in
    ap (is_value type) (sym (some_same kept.1)) ∙ kept.0

-- ---- chains

bytes_lawful : (ms : Members) (chain : Chain) → bytes_of ms ≡ Some chain → IsLawfulChain chain
bytes_lawful ms chain h =
    let configured = if_some (has_only (codes "endian" ∷ []) ms) (option_map bytes (endian_in (get_member (codes "endian") ms))) chain h in
    let found = map_some bytes (endian_in (get_member (codes "endian") ms)) chain configured.1 in
    subst IsLawfulChain found.2 tt

packbits_lawful : (ms : Members) (chain : Chain) → packbits_of ms ≡ Some chain → IsLawfulChain chain
packbits_lawful ms chain h =
    let padding = get_member (codes "padding_encoding") ms in
    let first = get_member (codes "first_bit") ms in
    let last = get_member (codes "last_bit") ms in
    let configured = if_some (has_only (codes "padding_encoding" ∷ codes "first_bit" ∷ codes "last_bit" ∷ []) ms) (packbits_with padding first last) chain h in
    let told = bind_some (λ told. option_and_then (λ low. option_map (λ high. packbits told (unwrap_or low 0) high) (bit_in last)) (bit_in first)) (padding_in padding) chain configured.1 in
    let low = bind_some (λ low. option_map (λ high. packbits told.0 (unwrap_or low 0) high) (bit_in last)) (bit_in first) chain told.2 in
    let high = map_some (λ high. packbits told.0 (unwrap_or low.0 0) high) (bit_in last) chain low.2 in
    subst IsLawfulChain high.2 tt

-- whatever an array to bytes codec is, by its metadata, it is lawful
abbrev SaysLawful : {X : Type 0} → (X → Option Chain) → Type 0
SaysLawful {X} says = (x : X) (chain : Chain) → says x ≡ Some chain → IsLawfulChain chain

vlen_lawful : (index content : Option Chain) (width : Option ℕ) (location : Option Location) (chain : Chain) → ((c : Chain) → index ≡ Some c → IsLawfulChain c) → ((c : Chain) → content ≡ Some c → IsLawfulChain c)
    → vlen_with index content width location ≡ Some chain → IsLawfulChain chain
vlen_lawful index content width location chain first second h =
    let i = bind_some (λ i. option_and_then (λ c. option_and_then (λ w. option_map (λ l. vlen i c w l) location) width) content) index chain h in
    let c = bind_some (λ c. option_and_then (λ w. option_map (λ l. vlen i.0 c w l) location) width) content chain i.2 in
    let w = bind_some (λ w. option_map (λ l. vlen i.0 c.0 w l) location) width chain c.2 in
    let l = map_some (λ l. vlen i.0 c.0 w.0 l) location chain w.2 in
    subst IsLawfulChain l.2 (first i.0 i.1, second c.0 c.1)

optional_lawful : (mask values : Option Chain) (chain : Chain) → ((c : Chain) → mask ≡ Some c → IsLawfulChain c) → ((c : Chain) → values ≡ Some c → IsLawfulChain c)
    → optional_with mask values ≡ Some chain → IsLawfulChain chain
optional_lawful mask values chain first second h =
    let m = bind_some (λ m. option_map (λ v. optional m v) values) mask chain h in
    let v = map_some (λ v. optional m.0 v) values chain m.2 in
    subst IsLawfulChain v.2 (first m.0 m.1, second v.0 v.1)

-- the chain that a member says is lawful
member_lawful : (chain : Data → Option Chain) → SaysLawful chain → (o : Option Data) (c : Chain) → option_and_then chain o ≡ Some c → IsLawfulChain c
member_lawful chain law o c h = let found = bind_some chain o c h in law found.0 c found.2

-- a codec by its name
named_lawful : (chain : Data → Option Chain) → SaysLawful chain → (is_bytes is_packbits is_vlen is_optional : Bool) (ms : Members) (made : Chain)
    → (if is_bytes then bytes_of ms else (if is_packbits then packbits_of ms else (if is_vlen then vlen_of chain ms else (if is_optional then optional_of chain ms else None)))) ≡ Some made → IsLawfulChain made
named_lawful chain law true is_packbits is_vlen is_optional ms made h = bytes_lawful ms made h
named_lawful chain law false true is_vlen is_optional ms made h = packbits_lawful ms made h
named_lawful chain law false false true is_optional ms made h =
    let index = option_and_then chain (get_member (codes "index_codecs") ms) in
    let content = option_and_then chain (get_member (codes "data_codecs") ms) in
    let width = width_in (get_member (codes "index_data_type") ms) in
    let location = location_in (get_member (codes "index_location") ms) in
    let configured = if_some (has_only (codes "index_codecs" ∷ codes "data_codecs" ∷ codes "index_data_type" ∷ codes "index_location" ∷ []) ms) (vlen_with index content width location) made h in
    vlen_lawful index content width location made (member_lawful chain law (get_member (codes "index_codecs") ms)) (member_lawful chain law (get_member (codes "data_codecs") ms)) configured.1
named_lawful chain law false false false true ms made h =
    let mask = option_and_then chain (get_member (codes "mask_codecs") ms) in
    let values = option_and_then chain (get_member (codes "data_codecs") ms) in
    let configured = if_some (has_only (codes "mask_codecs" ∷ codes "data_codecs" ∷ []) ms) (optional_with mask values) made h in
    optional_lawful mask values made (member_lawful chain law (get_member (codes "mask_codecs") ms)) (member_lawful chain law (get_member (codes "data_codecs") ms)) configured.1
named_lawful chain law false false false false ms made h = absurd (cc)

by_lawful : (chain : Data → Option Chain) → SaysLawful chain → SaysLawful (array_to_bytes_by chain)
by_lawful chain law point made h =
    named_lawful chain law (bytes_eq point.name (codes "bytes")) (bytes_eq point.name (codes "packbits")) (names_vlen point.name) (names_optional point.name) (configuration_members point.configuration) made h

all_lawful : (reads : ReadsCodecs) → ReadsLawful reads → (first : Chain) (points : List ExtensionPoint) (chain : Chain) → IsLawfulChain first → with_byte_codecs reads first points ≡ Some chain → IsLawfulChain chain
all_lawful reads law first [] chain lawful h = subst IsLawfulChain (some_same h) lawful
all_lawful reads law first (point ∷ points) chain lawful h =
    let found = bind_some (λ codec. with_byte_codecs reads (then_bytes first codec) points) (reads point) chain h in
    all_lawful reads law (then_bytes first found.0) points chain (lawful, law point found.0 found.1) found.2

module _ (reads : ReadsCodecs) (law : ReadsLawful reads) (codec : ReadsCodec) (codec_law : SaysLawful codec) where
  bytes_chain_lawful : SaysLawful (bytes_chain_by reads codec)
  bytes_chain_lawful [] chain h = absurd (cc)
  bytes_chain_lawful (point ∷ points) chain h =
      let found = bind_some (λ first. with_byte_codecs reads first points) (codec point) chain h in
      all_lawful reads law found.0 points chain (codec_law point found.0 found.1) found.2

  -- what stands before a lawful chain leaves it lawful
  after_lawful : (before : Option ArrayCodec) (point : ExtensionPoint) (points : List ExtensionPoint) (chain : Chain) → ((rest : Chain) → chain_by reads codec points ≡ Some rest → IsLawfulChain rest)
      → elim before [ Some first ↦ option_map (after_array_codec first) (chain_by reads codec points) | None ↦ bytes_chain_by reads codec (point ∷ points) ] ≡ Some chain → IsLawfulChain chain
  after_lawful None point points chain rest h = bytes_chain_lawful (point ∷ points) chain h
  after_lawful (Some first) point points chain rest h =
      let found = map_some (after_array_codec first) (chain_by reads codec points) chain h in
      subst IsLawfulChain found.2 (rest found.0 found.1)

  points_lawful : SaysLawful (chain_by reads codec)
  points_lawful [] chain h = absurd (cc)
  points_lawful (point ∷ points) chain h = after_lawful (array_codec_in point) point points chain (points_lawful points) h

  listed_lawful : SaysLawful (listed_chain_by reads codec)
  listed_lawful d chain h = let found = bind_some (chain_by reads codec) (option_and_then points_in (as_array d)) chain h in points_lawful found.0 chain found.2

-- however deep chains nest in it, an array to bytes codec is lawful
within_lawful : (reads : ReadsCodecs) → ReadsLawful reads → (levels : ℕ) → SaysLawful (array_to_bytes_within reads levels)
within_lawful reads law zero point chain h = absurd (cc)
within_lawful reads law (suc levels) point chain h =
    by_lawful (listed_chain_by reads (array_to_bytes_within reads levels)) (listed_lawful reads law (array_to_bytes_within reads levels) (within_lawful reads law levels)) point chain h

in_lawful : (reads : ReadsCodecs) → ReadsLawful reads → SaysLawful (array_to_bytes_in reads)
in_lawful reads law point chain h = within_lawful reads law (suc (point_depth point)) point chain h

-- ---- shards

-- a shard is lawful where the chains of its subchunks and of its index are
shard_lawful : (inner index : List ExtensionPoint → Option Chain) → SaysLawful inner → SaysLawful index → SaysLawful (shard_of inner index)
shard_lawful inner index first second given chain h =
    let i = bind_some (λ i. option_map (λ x. sharded given.subchunk i x given.location) (index given.index)) (inner given.inner) chain h in
    let x = map_some (λ x. sharded given.subchunk i.0 x given.location) (index given.index) chain i.2 in
    subst IsLawfulChain x.2 (first given.inner i.0 i.1, second given.index x.0 x.1)

-- a codec that is a shard, or none
sharding_lawful : (reads : ReadsCodecs) → ReadsLawful reads → (codec : ReadsCodec) → SaysLawful codec → (is_shard : Bool) (point : ExtensionPoint) (chain : Chain)
    → (if is_shard then sharding_of (chain_by reads codec) (chain_of reads) (configuration_members point.configuration) else array_to_bytes_in reads point) ≡ Some chain → IsLawfulChain chain
sharding_lawful reads law codec codec_law true point chain h =
    let inner = chain_by reads codec in
    let found = bind_some (shard_of inner (chain_of reads)) (shard_points_in (configuration_members point.configuration)) chain h in
    shard_lawful inner (chain_of reads) (points_lawful reads law codec codec_law) (points_lawful reads law (array_to_bytes_in reads) (in_lawful reads law)) found.0 chain found.2
sharding_lawful reads law codec codec_law false point chain h = in_lawful reads law point chain h

-- however many shards stand in one another, an array to bytes codec is lawful
of_lawful : (reads : ReadsCodecs) → ReadsLawful reads → (shards : ℕ) → SaysLawful (array_to_bytes_of reads shards)
of_lawful reads law zero point chain h = in_lawful reads law point chain h
of_lawful reads law (suc shards) point chain h = sharding_lawful reads law (array_to_bytes_of reads shards) (of_lawful reads law shards) (names_shard point.name) point chain h

-- the chain of a document is lawful
chain_lawful : (reads : ReadsCodecs) → ReadsLawful reads → (d : Data) (chain : Chain) → codecs_in reads d ≡ Some chain → IsLawfulChain chain
chain_lawful reads law d chain h =
    let found = bind_some (array_chain_of reads) (option_and_then points_in (as_array d)) chain h in
    let made = bind_some allowed (chain_by reads (array_to_bytes_of reads 2) found.0) chain found.2 in
    let kept = if_some (is_allowed made.0) (Some made.0) chain made.2 in
    subst IsLawfulChain (some_same kept.1) (points_lawful reads law (array_to_bytes_of reads 2) (of_lawful reads law 2) found.0 made.0 made.1)

-- ---- documents

members_good : (reads : ReadsCodecs) → ReadsLawful reads → (ms : Members) (m : Metadata) → read_members reads ms ≡ Ok m → IsGood m.document
members_good reads law ms m h =
    let found = bind_ok (fields_in ms) _ m h in
    let f = found.0 in
    let chain = bind_ok (ok_or (codecs_in reads f.codecs) _) _ m (then_ok _ _ m found.2) in
    let type = bind_ok (ok_or (data_type_in f.data_type) _) _ m chain.2 in
    let configuration = bind_ok (ok_or (configuration_in f.chunk_grid) _) _ m type.2 in
    let grid = bind_ok (ok_or (grid_in f.shape configuration.0) _) _ m (then_ok _ _ m configuration.2) in
    let fill = bind_ok (ok_or (fill_in type.0 f.fill_value) _) _ m grid.2 in
    let keys = bind_ok (ok_or (keys_in f.chunk_key_encoding) _) _ m (then_ok _ _ m fill.2) in
    let names = bind_ok (ok_or (dimension_names_in (length f.shape) (get_member (codes "dimension_names") ms)) _) _ m keys.2 in
    let is = ok_same _ m names.2 in
    record {
      lawful = subst (λ (x : Metadata). IsLawfulChain x.document.chain) is (chain_lawful reads law f.codecs chain.0 (ok_some (codecs_in reads f.codecs) Codecs chain.0 chain.1));
      fill = ap (λ (x : Metadata). is_value x.document.elements.type x.document.elements.fill) (sym is)
          ∙ fill_good type.0 f.fill_value fill.0 (ok_some (fill_in type.0 f.fill_value) FillValue fill.0 fill.1);
    }

pub lawful_good : LawfulGood
lawful_good reads law d document h =
    let whole = bind_ok (read_metadata reads d) _ document h in
    let members = bind_ok (ok_or (as_object d) _) _ whole.0 (then_ok _ _ whole.0 (then_ok _ _ whole.0 whole.1)) in
    let version_3 = bind_ok (version_3_of members.0) _ whole.0 members.2 in
    subst IsGood (ok_same whole.0.document document whole.2) (members_good reads law version_3.0 whole.0 version_3.2)
