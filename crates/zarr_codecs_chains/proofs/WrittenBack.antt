-- The metadata that is written for chains reads back.
use Rattle.std.proofs.Common.{◌≡◌, ◌∙◌, ℕ, List, [], ◌∷◌, ◌++◌, map, ap, refl, Bool, true, Option, Some, None, option_map, option_and_then, if◌then◌else◌}
use Rattle.serde_json.specs.View.{items_of}
use Rattle.zarr_grids_metadata.specs.ExtensionPoints.{ExtensionPoint, named}
use Rattle.zarr_codecs_meaning.specs.Chains.{ByteCodec, Chain, ShapeEntry}
use Rattle.zarr_codecs_meaning.specs.Chains.ArrayCodec.{reshape, squeeze}
use Rattle.zarr_codecs_meaning.specs.Chains.ShapeEntry.{size_entry, product_entry, left_over}
use Rattle.zarr_codecs_metadata.specs.ArrayCodecs.{array_codec_in, entries_of, is_new_shape, naturals_of, new_shape}
use Rattle.zarr_codecs_metadata.specs.Chains.{array_to_bytes_in, chain_of}
use Rattle.zarr_codecs_metadata.specs.Sections.{names_optional, names_vlen, vlen_with, optional_with}
use Rattle.zarr_codecs_array_to_array.specs.Views as arrays
use Rattle.zarr_codecs_array_to_array.specs.Views.{codec_of, order_of}
use Rattle.zarr_codecs_array_to_array.specs.Names.{name_of_squeeze, written_codec}
use Rattle.zarr_codecs_array_to_array.specs.Written.{array_codec_point, entry_data, number_data}
use Rattle.zarr_codecs_array_to_array.specs.declared.name.CodecName.{CodecName}
use Rattle.zarr_codecs_array_to_array.specs.declared.name.CodecName.TheVariants as names
use Rattle.zarr_codecs_array_to_array.specs.declared.codec.ArrayToArrayCodec.{ArrayToArrayCodec}
use Rattle.zarr_codecs_array_to_array.specs.declared.codec.ArrayToArrayCodec.TheVariants.{Transpose, Reshape, Squeeze}
use Rattle.zarr_codecs_array_to_array.proofs.ReadsBack.{transpose_back}
use Rattle.zarr_codecs_packbits.proofs.ReadsBack.{read_back}
use Rattle.zarr_codecs_sections.specs.Views.{width_of, location_of}
use Rattle.zarr_codecs_sections.specs.declared.index.VlenIndexDataType.{VlenIndexDataType}
use Rattle.zarr_codecs_sections.specs.declared.index.VlenIndexDataType.TheVariants.{UInt32, UInt64}
use Rattle.zarr_codecs_configurations.specs.Reading.{VlenPoints, OptionalPoints}
use Rattle.zarr_codecs_configurations.specs.Written.{vlen_members, vlen_point, optional_members, optional_point}
use Rattle.zarr_codecs_configurations.proofs.ReadsBack.{IsWidth, vlen_back, optional_back}
use Rattle.zarr_codecs_chains.specs.Names.{name_of_optional, name_of_vlen}
use Rattle.zarr_codecs_around.specs.Views.{array_points, chain_between, codecs_of, points_between, with_codecs}
use Rattle.zarr_codecs_chains.specs.Views.{codec_chain, codec_point, meaning_of, points_of}
use Rattle.zarr_codecs_chains.specs.declared.array_to_bytes.ArrayToBytesCodec.{ArrayToBytesCodec}
use Rattle.zarr_codecs_chains.specs.declared.array_to_bytes.ArrayToBytesCodec.TheVariants.{Bytes, PackBits, Vlen', Optional'}
use Rattle.zarr_codecs_chains.specs.declared.chain.CodecChain.{CodecChain}
use Rattle.zarr_codecs_chains.proofs.Nested.{vlen_as, vlen_by, optional_as, optional_by}
use Rattle.zarr_codecs_chains.proofs.ReadsBack.{all_read_back, array_codec_none, array_codecs_read, bytes_read_back, chain_read, chain_without, said_optional, said_vlen}

-- ---- array codecs

naturals_back : (ns : List ℕ) → naturals_of (items_of (map number_data ns)) ≡ Some ns
naturals_back [] = refl
naturals_back (n ∷ ns) = ap (option_map (λ ms. n ∷ ms)) (naturals_back ns)

entries_back : (entries : List ShapeEntry) → entries_of (items_of (map entry_data entries)) ≡ Some entries
entries_back [] = refl
entries_back (size_entry size ∷ entries) = ap (option_map (λ es. size_entry size ∷ es)) (entries_back entries)
entries_back (product_entry dimensions ∷ entries) =
    ap (λ o. option_and_then (λ entry. option_map (λ es. entry ∷ es) (entries_of (items_of (map entry_data entries)))) (option_map product_entry o)) (naturals_back dimensions)
    ∙ ap (option_map (λ es. product_entry dimensions ∷ es)) (entries_back entries)
entries_back (left_over ∷ entries) = ap (option_map (λ es. left_over ∷ es)) (entries_back entries)

reshape_back : (entries : List ShapeEntry) → is_new_shape entries ≡ true → array_codec_in (array_codec_point (reshape entries)) ≡ Some (reshape entries)
reshape_back entries is = ap (λ o. option_map reshape (option_and_then new_shape o)) (entries_back entries) ∙ ap (λ (b : Bool). option_map reshape (if b then Some entries else None)) is

squeeze_back : (name : CodecName) → array_codec_in (named (name_of_squeeze name)) ≡ Some squeeze
squeeze_back names.Default = refl
squeeze_back names.Alias = refl

array_back : (codec : ArrayToArrayCodec) → array_codec_in (written_codec codec) ≡ Some (codec_of codec)
array_back (Transpose codec) = transpose_back (order_of codec.order) codec.order.permutes
array_back (Reshape codec) = reshape_back (arrays.entries_of codec.shape) codec.shape.is_one
array_back (Squeeze codec) = squeeze_back codec.name

arrays_back : (codecs : List ArrayToArrayCodec) → map array_codec_in (array_points codecs) ≡ map Some (codecs_of codecs)
arrays_back [] = refl
arrays_back (codec ∷ codecs) = λ i. array_back codec i ∷ arrays_back codecs i

-- ---- chains

-- that each of the caller's codecs is read back
abbrev pub ReadBack : {B : Type 0} → (ExtensionPoint → Option ByteCodec) → (B → ExtensionPoint) → (B → ByteCodec) → Type 0
ReadBack {B} reads described meaning = (codec : B) → reads (described codec) ≡ Some (meaning codec)

between_back : {B : Type 0} (reads : ExtensionPoint → Option ByteCodec) (described : B → ExtensionPoint) (meaning : B → ByteCodec) → ReadBack reads described meaning
    → (before : List ArrayToArrayCodec) (point : ExtensionPoint) (chain : Chain) (after : List B) → array_to_bytes_in reads point ≡ Some chain
    → chain_of reads (points_between described before point after) ≡ Some (chain_between meaning before chain after)
between_back reads described meaning law before point chain after is =
    let others =
    chain_without reads point (map described after) (array_codec_none reads point chain is)
    ∙ (chain_read reads point (map described after) chain is ∙ ap (option_map (with_codecs chain)) (all_read_back reads described meaning after law)) in
    array_codecs_read reads (array_points before) (point ∷ map described after) (codecs_of before) (with_codecs chain (map meaning after)) (arrays_back before) others

width_back : (d : VlenIndexDataType) → IsWidth (width_of d)
width_back UInt32 = refl
width_back UInt64 = refl

vlen_names : (name : CodecName) → names_vlen (name_of_vlen name) ≡ true
vlen_names names.Default = refl
vlen_names names.Alias = refl

optional_names : (name : CodecName) → names_optional (name_of_optional name) ≡ true
optional_names names.Default = refl
optional_names names.Alias = refl

-- what is written for an array to bytes codec is read back, with all chains inside of it
pub codec_back : {B : Type 0} (reads : ExtensionPoint → Option ByteCodec) (described : B → ExtensionPoint) (meaning : B → ByteCodec) → ReadBack reads described meaning
    → (codec : ArrayToBytesCodec B) → array_to_bytes_in reads (codec_point described codec) ≡ Some (codec_chain meaning codec)
codec_back reads described meaning law (Bytes codec) = bytes_read_back reads codec.endian
codec_back reads described meaning law (PackBits codec) = read_back codec
codec_back reads described meaning law (Vlen' p before index after first content last width location name) =
    let one = between_back reads described meaning law before.items (codec_point described index) (codec_chain meaning index) after.items (codec_back reads described meaning law index) in
    let two = between_back reads described meaning law first.items (codec_point described content) (codec_chain meaning content) last.items (codec_back reads described meaning law content) in
    let given : VlenPoints = record { index = points_between described before.items (codec_point described index) after.items; content = points_between described first.items (codec_point described content) last.items; width = width_of width; location = location_of location } in
    said_vlen reads (vlen_point (name_of_vlen name) given) (vlen_names name)
    ∙ (vlen_as reads (vlen_members given)
    ∙ (ap (option_and_then (vlen_by reads)) (vlen_back given (width_back width))
    ∙ ap (λ (o : Option Chain × Option Chain). vlen_with o.0 o.1 (Some (width_of width)) (Some (location_of location))) (λ i. (one i, two i))))
codec_back reads described meaning law (Optional' p before mask after first content last name) =
    let one = between_back reads described meaning law before.items (codec_point described mask) (codec_chain meaning mask) after.items (codec_back reads described meaning law mask) in
    let two = between_back reads described meaning law first.items (codec_point described content) (codec_chain meaning content) last.items (codec_back reads described meaning law content) in
    let given : OptionalPoints = record { mask = points_between described before.items (codec_point described mask) after.items; content = points_between described first.items (codec_point described content) last.items } in
    said_optional reads (optional_point (name_of_optional name) given) (optional_names name)
    ∙ (optional_as reads (optional_members given)
    ∙ (ap (option_and_then (optional_by reads)) (optional_back given)
    ∙ ap (λ (o : Option Chain × Option Chain). optional_with o.0 o.1) (λ i. (one i, two i))))

-- what is written for a chain is read back
pub chain_back : {B : Type 0} (reads : ExtensionPoint → Option ByteCodec) (described : B → ExtensionPoint) (meaning : B → ByteCodec) → ReadBack reads described meaning
    → (chain : CodecChain B) → chain_of reads (points_of described chain) ≡ Some (meaning_of meaning chain)
chain_back reads described meaning law chain =
    let codec = chain.others.array_to_bytes in
    between_back reads described meaning law chain.array_to_array.items (codec_point described codec) (codec_chain meaning codec) chain.others.bytes_to_bytes.items (codec_back reads described meaning law codec)
