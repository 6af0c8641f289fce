-- How the sections of `vlen` and `optional` come together to what these codecs mean.
use Rattle.std.specs.Prelude.{◌≡◌, ℕ, ◌+◌, ◌^◌, ◌≤◌, ◌<◌, List, [], ◌∷◌, map, length, flat_map, Option, Some, None, unwrap_or, true, nat_lt}
use Rattle.std.specs.List.{filter_map}
use Rattle.zarr_grids_boxes.specs.Boxes.{product}
use Rattle.zarr_codecs_meaning.specs.Types.{bool, integer, unsigned, uint8, inner_type, Cell, of_bytes, cell_bytes, Elements, zero_filled}
use Rattle.zarr_codecs_meaning.specs.Chains.{Chain, Location}
use Rattle.zarr_codecs_meaning.specs.Chains.Chain.{vlen, optional}
use Rattle.zarr_codecs_meaning.specs.Encoding.{last_number, number_cells, byte_cells, unless_none, with_index, with_mask, variable_encoded, mask_cell, present_cell, options_encoded}
use Rattle.zarr_codecs_meaning.specs.Decoding.{sections_of, elements_of, read_unless_none, variable_decoded, masked_of, count_present, options_decoded}
use Rattle.zarr_codecs_meaning.specs.Keeping.{spread}
use Rattle.zarr_codecs_meaning.specs.Refusals.{offsets_of, CodecRefuses, PassesIndex}
use Rattle.zarr_codecs_sections.specs.Outcomes.{offsets_read}

-- a value, and the bytes of its two sections: the index or the mask, and the data
pub record ValueSections : Type 0 where
  pub value : List ℕ
  pub first : List ℕ
  pub second : List ℕ

-- this value, with these bytes as its two sections
abbrev pub value_sections : List ℕ → List ℕ → List ℕ → ValueSections
value_sections value first second = record { value = value; first = first; second = second }

-- ---- `vlen`

-- the joined bytes of elements of variable length, as elements
abbrev pub content_of : List Cell → List Cell
content_of cells = byte_cells (flat_map cell_bytes cells)

-- offsets that the index's numbers can tell, and the joined bytes, each encoded, are joined to what elements of variable length are encoded to
abbrev pub VariableIsEncoded : Type 0
VariableIsEncoded =
    (index «data» : List Cell → Option (List ℕ)) (width : ℕ) (location : Location) (cells : List Cell) (front back value : List ℕ) → nat_lt (last_number 0 (offsets_of cells)) (2 ^ width) ≡ true
    → index (number_cells width (offsets_of cells)) ≡ Some front → unless_none (content_of cells) («data» (content_of cells)) ≡ Some back → with_index location front back ≡ Some value
    → variable_encoded index «data» width location cells ≡ Some value

-- the content of elements of variable length, which is read at the length that the last offset says
abbrev pub content_read : (ℕ → List ℕ → Option (List Cell)) → List Cell → List ℕ → Option (List Cell)
content_read «data» offsets back = let long = last_number 0 (offsets_read offsets) in read_unless_none long back («data» long)

-- what elements of variable length are decoded to, by what their two sections are decoded to
pub record VariableDecodings (index : List ℕ → Option (List Cell)) («data» : ℕ → List ℕ → Option (List Cell)) (location : Location) (bytes : ValueSections) (offsets : List Cell) : Type 0 where
  pub short : sections_of location bytes.value ≡ None → variable_decoded index «data» location bytes.value ≡ None
  pub index_damaged : sections_of location bytes.value ≡ Some (bytes.first, bytes.second) → index bytes.first ≡ None → variable_decoded index «data» location bytes.value ≡ None
  pub content_damaged : sections_of location bytes.value ≡ Some (bytes.first, bytes.second) → index bytes.first ≡ Some offsets → content_read «data» offsets bytes.second ≡ None → variable_decoded index «data» location bytes.value ≡ None
  pub uncut : (content : List Cell) → sections_of location bytes.value ≡ Some (bytes.first, bytes.second) → index bytes.first ≡ Some offsets → content_read «data» offsets bytes.second ≡ Some content → elements_of (λ long. Some (flat_map cell_bytes content)) (offsets_read offsets) ≡ None
      → variable_decoded index «data» location bytes.value ≡ None
  pub decoded : (content : List Cell) (elements : List (List ℕ)) → sections_of location bytes.value ≡ Some (bytes.first, bytes.second) → index bytes.first ≡ Some offsets → content_read «data» offsets bytes.second ≡ Some content
      → elements_of (λ long. Some (flat_map cell_bytes content)) (offsets_read offsets) ≡ Some elements → variable_decoded index «data» location bytes.value ≡ Some (map of_bytes elements)

-- elements of variable length are decoded section by section, and each damage is one of a section or of the offsets
abbrev pub VariableIsDecoded : Type 0
VariableIsDecoded =
    (index : List ℕ → Option (List Cell)) («data» : ℕ → List ℕ → Option (List Cell)) (location : Location) (value front back : List ℕ) (offsets : List Cell) → VariableDecodings index «data» location (value_sections value front back) offsets

-- the `vlen` codec: the chains of its index and of its data, how wide the index's numbers are, and where the index stands
pub record VlenParts : Type 0 where
  pub index : Chain
  pub «data» : Chain
  pub width : ℕ
  pub location : Location

-- `vlen` of these two chains, with offsets of this width and the index there
abbrev pub vlen_parts : Chain → Chain → ℕ → Location → VlenParts
vlen_parts index «data» width location = record { index = index; «data» = «data»; width = width; location = location }

-- the chain of such a codec
abbrev pub chain_of_vlen : VlenParts → Chain
chain_of_vlen codec = vlen codec.index codec.«data» codec.width codec.location

-- why `vlen` refuses cells, by why the chains inside of it refuse
pub record VlenRefusals (codec : VlenParts) (elements : Elements) (shape : List ℕ) (cells : List Cell) : Type 0 where
  pub offset_passes : 2 ^ codec.width ≤ last_number 0 (offsets_of cells) → PassesIndex (chain_of_vlen codec) elements shape cells
  pub index_refuses : CodecRefuses codec.index (zero_filled (integer unsigned codec.width)) ((product shape + 1) ∷ []) (number_cells codec.width (offsets_of cells)) → CodecRefuses (chain_of_vlen codec) elements shape cells
  pub index_passes : PassesIndex codec.index (zero_filled (integer unsigned codec.width)) ((product shape + 1) ∷ []) (number_cells codec.width (offsets_of cells)) → PassesIndex (chain_of_vlen codec) elements shape cells
  pub content_refuses : 0 < length (content_of cells) → CodecRefuses codec.«data» (zero_filled uint8) (length (content_of cells) ∷ []) (content_of cells) → CodecRefuses (chain_of_vlen codec) elements shape cells
  pub content_passes : 0 < length (content_of cells) → PassesIndex codec.«data» (zero_filled uint8) (length (content_of cells) ∷ []) (content_of cells) → PassesIndex (chain_of_vlen codec) elements shape cells

-- `vlen` refuses where a chain inside of it does, or the last offset is too large
abbrev pub VlenIsRefused : Type 0
VlenIsRefused = (index «data» : Chain) (width : ℕ) (location : Location) (elements : Elements) (shape : List ℕ) (cells : List Cell) → VlenRefusals (vlen_parts index «data» width location) elements shape cells

-- ---- `optional`

-- the cells that are present, alone
abbrev pub found_in : List Cell → List Cell
found_in cells = filter_map present_cell cells

-- a mask and the elements that are present, each encoded, are joined to what optional elements are encoded to
abbrev pub OptionsAreEncoded : Type 0
OptionsAreEncoded =
    (mask values : List Cell → Option (List ℕ)) (cells : List Cell) (front back value : List ℕ) → mask (map mask_cell cells) ≡ Some front → unless_none (found_in cells) (values (found_in cells)) ≡ Some back → with_mask front back ≡ Some value
    → options_encoded mask values cells ≡ Some value

-- the elements that are present, which are read as many as the mask says
abbrev pub found_read : (ℕ → List ℕ → Option (List Cell)) → List Cell → List ℕ → Option (List Cell)
found_read values masks back = read_unless_none (count_present masks) back (values (count_present masks))

-- what optional elements are decoded to, by what their two sections are decoded to
pub record OptionsDecodings (mask : List ℕ → Option (List Cell)) (values : ℕ → List ℕ → Option (List Cell)) (bytes : ValueSections) (masks : List Cell) : Type 0 where
  pub short : masked_of bytes.value ≡ None → options_decoded mask values bytes.value ≡ None
  pub mask_damaged : masked_of bytes.value ≡ Some (bytes.first, bytes.second) → mask bytes.first ≡ None → options_decoded mask values bytes.value ≡ None
  pub found_damaged : masked_of bytes.value ≡ Some (bytes.first, bytes.second) → mask bytes.first ≡ Some masks → found_read values masks bytes.second ≡ None → options_decoded mask values bytes.value ≡ None
  pub decoded : (found : List Cell) → masked_of bytes.value ≡ Some (bytes.first, bytes.second) → mask bytes.first ≡ Some masks → found_read values masks bytes.second ≡ Some found → options_decoded mask values bytes.value ≡ Some (spread masks found)

-- optional elements are decoded section by section, and each damage is one of a section
abbrev pub OptionsAreDecoded : Type 0
OptionsAreDecoded = (mask : List ℕ → Option (List Cell)) (values : ℕ → List ℕ → Option (List Cell)) (value front back : List ℕ) (masks : List Cell) → OptionsDecodings mask values (value_sections value front back) masks

-- why `optional` refuses cells, by why the chains inside of it refuse
pub record OptionalRefusals (mask values : Chain) (elements : Elements) (shape : List ℕ) (cells : List Cell) : Type 0 where
  pub mask_refuses : CodecRefuses mask (zero_filled bool) shape (map mask_cell cells) → CodecRefuses (optional mask values) elements shape cells
  pub mask_passes : PassesIndex mask (zero_filled bool) shape (map mask_cell cells) → PassesIndex (optional mask values) elements shape cells
  pub found_refuses : 0 < length (found_in cells) → CodecRefuses values (zero_filled (unwrap_or (inner_type elements.type) elements.type)) (length (found_in cells) ∷ []) (found_in cells) → CodecRefuses (optional mask values) elements shape cells
  pub found_passes : 0 < length (found_in cells) → PassesIndex values (zero_filled (unwrap_or (inner_type elements.type) elements.type)) (length (found_in cells) ∷ []) (found_in cells) → PassesIndex (optional mask values) elements shape cells

-- `optional` refuses where a chain inside of it does
abbrev pub OptionalIsRefused : Type 0
OptionalIsRefused = (mask values : Chain) (elements : Elements) (shape : List ℕ) (cells : List Cell) → OptionalRefusals mask values elements shape cells

-- ---- sections of nothing

-- what encodes no elements is nothing, and what encodes some is what the chain makes
pub record IsUnlessNone (cells : List Cell) (made : Option (List ℕ)) : Type 0 where
  pub none : length cells ≡ 0 → unless_none cells made ≡ Some []
  pub some : 0 < length cells → unless_none cells made ≡ made

-- no elements are decoded from nothing alone, and some by the chain
pub record IsReadUnlessNone (count : ℕ) (back : List ℕ) (read : List ℕ → Option (List Cell)) : Type 0 where
  pub none : count ≡ 0 → length back ≡ 0 → read_unless_none count back read ≡ Some []
  pub damaged : count ≡ 0 → 0 < length back → read_unless_none count back read ≡ None
  pub some : 0 < count → read_unless_none count back read ≡ read back

-- the chain of a section is asked only where there are elements
abbrev pub SectionsOfNothing : Type 0
SectionsOfNothing = ((cells : List Cell) (made : Option (List ℕ)) → IsUnlessNone cells made) × ((count : ℕ) (back : List ℕ) (read : List ℕ → Option (List Cell)) → IsReadUnlessNone count back read)
