-- Codecs that hold chains, as their configurations give them, by what their chains are.
use Rattle.std.proofs.Common.{◌≡◌, ◌∙◌, ap, refl, Bool, true, false, ◌&&◌, Option, Some, None, option_and_then, if◌then◌else◌}
use Rattle.std.proofs.lemmas.Bool.{and_parts}
use Rattle.zarr_grids_metadata.specs.ExtensionPoints.{ExtensionPoint}
use Rattle.zarr_codecs_meaning.specs.Chains.{ByteCodec, Chain}
use Rattle.zarr_codecs_meaning.specs.Chains.Chain.{bytes, packbits, vlen, optional, after_array_codec, then_bytes, sharded}
use Rattle.zarr_codecs_meaning.specs.Fits.{takes_each_shape}
use Rattle.zarr_codecs_metadata.specs.Allowed.{allowed, has_no_array_codec, is_allowed}
use Rattle.zarr_codecs_metadata.specs.Chains.{ReadsCodecs, allowed_chain}
use Rattle.zarr_codecs_configurations.specs.Reading.{VlenPoints, OptionalPoints}
use Rattle.zarr_codecs_chains.specs.Configured.{configured_optional, configured_vlen}
use Rattle.zarr_codecs_chains.specs.Views.{given_to_optional, given_to_vlen, meaning_of, optional_chain, points_of, vlen_chain}
use Rattle.zarr_codecs_chains.specs.declared.chain.CodecChain.{CodecChain}
use Rattle.zarr_codecs_chains.specs.declared.optional.OptionalCodec.{OptionalCodec}
use Rattle.zarr_codecs_chains.specs.declared.vlen.VlenCodec.{VlenCodec}
use Rattle.zarr_codecs_chains.proofs.WrittenBack.{ReadBack, chain_back}

abbrev vlen_by : VlenPoints → Option Chain → Option Chain → Option Chain
vlen_by given i c = option_and_then (λ index. option_and_then (λ content. if has_no_array_codec content then Some (vlen index content given.width given.location) else None) c) i

-- `vlen` of both chains, by whether the chain of the data has an array codec
pub vlen_made : (reads : ReadsCodecs) (given : VlenPoints) (i c : Chain) (b : Bool) → allowed_chain reads given.index ≡ Some i → allowed_chain reads given.content ≡ Some c → has_no_array_codec c ≡ b
    → configured_vlen reads given ≡ (if b then Some (vlen i c given.width given.location) else None)
vlen_made reads given i c b one two none =
    ap (λ (o : Option Chain × Option Chain). vlen_by given o.0 o.1) (λ k. (one k, two k)) ∙ ap (λ (x : Bool). if x then Some (vlen i c given.width given.location) else None) none

-- where there is no chain of the index
pub vlen_no_index : (reads : ReadsCodecs) (given : VlenPoints) → allowed_chain reads given.index ≡ None → configured_vlen reads given ≡ None
vlen_no_index reads given one = ap (λ o. vlen_by given o (allowed_chain reads given.content)) one

-- where there is no chain of the data
pub vlen_no_content : (reads : ReadsCodecs) (given : VlenPoints) (i : Chain) → allowed_chain reads given.index ≡ Some i → allowed_chain reads given.content ≡ None → configured_vlen reads given ≡ None
vlen_no_content reads given i one two = ap (λ (o : Option Chain × Option Chain). vlen_by given o.0 o.1) (λ k. (one k, two k))

abbrev optional_by : Option Chain → Option Chain → Option Chain
optional_by m c = option_and_then (λ mask. option_and_then (λ content. if takes_each_shape content then Some (optional mask content) else None) c) m

-- `optional` of both chains, by whether the chain of the elements takes each shape
pub optional_made : (reads : ReadsCodecs) (given : OptionalPoints) (m c : Chain) (b : Bool) → allowed_chain reads given.mask ≡ Some m → allowed_chain reads given.content ≡ Some c → takes_each_shape c ≡ b
    → configured_optional reads given ≡ (if b then Some (optional m c) else None)
optional_made reads given m c b one two none =
    ap (λ (o : Option Chain × Option Chain). optional_by o.0 o.1) (λ k. (one k, two k)) ∙ ap (λ (x : Bool). if x then Some (optional m c) else None) none

-- where there is no chain of the mask
pub optional_no_mask : (reads : ReadsCodecs) (given : OptionalPoints) → allowed_chain reads given.mask ≡ None → configured_optional reads given ≡ None
optional_no_mask reads given one = ap (λ o. optional_by o (allowed_chain reads given.content)) one

-- where there is no chain of the elements
pub optional_no_content : (reads : ReadsCodecs) (given : OptionalPoints) (m : Chain) → allowed_chain reads given.mask ≡ Some m → allowed_chain reads given.content ≡ None → configured_optional reads given ≡ None
optional_no_content reads given m one two = ap (λ (o : Option Chain × Option Chain). optional_by o.0 o.1) (λ k. (one k, two k))

-- ---- what a codec is configured by makes it again

-- the metadata of an allowed chain makes it again
pub allowed_back : {B : Type 0} (reads : ReadsCodecs) (described : B → ExtensionPoint) (meaning : B → ByteCodec) → ReadBack reads described meaning
    → (chain : CodecChain B) → is_allowed (meaning_of meaning chain) ≡ true → allowed_chain reads (points_of described chain) ≡ Some (meaning_of meaning chain)
allowed_back reads described meaning law chain stand =
    ap (option_and_then allowed) (chain_back reads described meaning law chain) ∙ ap (λ (x : Bool). if x then Some (meaning_of meaning chain) else None) stand

-- a chain that takes each shape has no array codec of its own
takes_none : (chain : Chain) → takes_each_shape chain ≡ true → has_no_array_codec chain ≡ true
takes_none (bytes order) takes = refl
takes_none (packbits padding first last) takes = refl
takes_none (vlen index content width location) takes = refl
takes_none (optional mask values) takes = refl
takes_none (after_array_codec codec chain) takes = takes
takes_none (then_bytes chain codec) takes = takes_none chain takes
takes_none (sharded subchunk inner index location) takes = refl

-- a chain that takes each shape is allowed
takes_allowed : (chain : Chain) → takes_each_shape chain ≡ true → is_allowed chain ≡ true
takes_allowed (bytes order) takes = refl
takes_allowed (packbits padding first last) takes = refl
takes_allowed (vlen index content width location) takes =
    let both = and_parts (takes_each_shape index) (takes_each_shape content) takes in
    let all : Bool × (Bool × Bool) → Bool = λ b. b.0 && (b.1.0 && b.1.1) in
    ap all (λ k. (takes_allowed index both.0 k, (takes_none content both.1 k, takes_allowed content both.1 k)))
takes_allowed (optional mask values) takes =
    let both = and_parts (takes_each_shape mask) (takes_each_shape values) takes in
    let all : Bool × Bool → Bool = λ b. b.0 && b.1 in
    ap all (λ k. (takes_allowed mask both.0 k, both.1 k))
takes_allowed (after_array_codec codec chain) takes = cc
takes_allowed (then_bytes chain codec) takes = takes_allowed chain takes
takes_allowed (sharded subchunk inner index location) takes = cc

-- what an allowed `vlen` is configured by makes it again
pub vlen_again : {B : Type 0} (reads : ReadsCodecs) (described : B → ExtensionPoint) (meaning : B → ByteCodec) → ReadBack reads described meaning
    → (codec : VlenCodec B) → is_allowed (vlen_chain meaning codec) ≡ true → configured_vlen reads (given_to_vlen described codec) ≡ Some (vlen_chain meaning codec)
vlen_again reads described meaning law codec stand =
    let i = meaning_of meaning codec.index_codecs in
    let c = meaning_of meaning codec.data_codecs in
    let parts = and_parts (is_allowed i) (has_no_array_codec c && is_allowed c) stand in
    let inner = and_parts (has_no_array_codec c) (is_allowed c) parts.1 in
    vlen_made reads (given_to_vlen described codec) i c true (allowed_back reads described meaning law codec.index_codecs parts.0) (allowed_back reads described meaning law codec.data_codecs inner.1) inner.0

-- what an allowed `optional` is configured by makes it again
pub optional_again : {B : Type 0} (reads : ReadsCodecs) (described : B → ExtensionPoint) (meaning : B → ByteCodec) → ReadBack reads described meaning
    → (codec : OptionalCodec B) → is_allowed (optional_chain meaning codec) ≡ true → configured_optional reads (given_to_optional described codec) ≡ Some (optional_chain meaning codec)
optional_again reads described meaning law codec stand =
    let m = meaning_of meaning codec.mask_codecs in
    let c = meaning_of meaning codec.data_codecs in
    let parts = and_parts (is_allowed m) (takes_each_shape c) stand in
    optional_made reads (given_to_optional described codec) m c true (allowed_back reads described meaning law codec.mask_codecs parts.0) (allowed_back reads described meaning law codec.data_codecs (takes_allowed c parts.1)) parts.1
