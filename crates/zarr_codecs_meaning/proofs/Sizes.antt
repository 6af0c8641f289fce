-- How long what is encoded is.
use Rattle.std.proofs.Common.{◌≡◌, ℕ, ◌+◌, ◌*◌, ◌/◌, List, [], ◌∷◌, length, take, drop, ap, ◌∙◌, arith, Option, true, length-append}
use Rattle.std.specs.List.{flat_map, list_all}
use Rattle.std.proofs.lemmas.List.FromFn.{length-map-range_with_len}
use Rattle.zarr_codecs_meaning.specs.Numbers.{number}
use Rattle.zarr_codecs_meaning.specs.Types.{Cell, cell_bytes, components, bytes_in, is_fixed, is_value, Elements}
use Rattle.zarr_codecs_meaning.specs.Chains.{Padding, ArrayCodec}
use Rattle.zarr_codecs_meaning.specs.Chains.Padding.{no_padding_byte, first_byte, last_byte}
use Rattle.zarr_codecs_meaning.specs.Places.{gather, encoded_shape, source_places}
use Rattle.zarr_codecs_meaning.specs.Fits.{array_codec_fits, bits_in, padding_size}
use Rattle.zarr_codecs_meaning.specs.Encoding.{ordered, element_bits, packed, with_padding, padding_bits}
use Rattle.zarr_codecs_meaning.specs.Laws.{AreCells}
use Rattle.zarr_codecs_meaning.proofs.Lists.{every, each_passes, each_weaker, length-flat_map}
use Rattle.zarr_codecs_meaning.proofs.Values.{fixed_value, length-ordered, length-element_bits}
use Rattle.zarr_codecs_meaning.proofs.ArrayCodecs.{length-gather, values_gathered, array_codec_count}

pub length-packed : (bits : List ℕ) → length (packed bits) ≡ (length bits + 7) / 8
length-packed bits = length-map-range_with_len (λ n. number 2 (take 8 (drop (8 * n) bits))) 0 ((length bits + 7) / 8)

pub length-with_padding : (padding : Padding) (bits : List ℕ) → length (with_padding padding bits) ≡ padding_size padding + (length bits + 7) / 8
length-with_padding no_padding_byte bits = length-packed bits ∙ omega arith
length-with_padding first_byte bits = let h = length-packed bits in omega (arith, h)
length-with_padding last_byte bits = let h = length-packed bits in length-append (packed bits) (padding_bits bits ∷ []) ∙ omega (arith, h)

-- the cells that an array codec gives
pub cells_moved : (codec : ArrayCodec) (elements : Elements) (shape : List ℕ) (cells : List Cell) → array_codec_fits codec shape ≡ true → AreCells elements shape cells → AreCells elements (encoded_shape codec shape) (gather elements.fill cells (source_places codec shape))
cells_moved codec elements shape cells fit are = record {
  fill = are.fill;
  values = values_gathered (is_value elements.type) elements.fill cells (source_places codec shape) are.fill are.values;
  whole = length-gather elements.fill cells (source_places codec shape) ∙ array_codec_count codec shape fit;
}

pub bytes_length : (order : Option _) (elements : Elements) (cells : List Cell) → is_fixed elements.type ≡ true → list_all (is_value elements.type) cells ≡ true
    → length (flat_map (λ cell. ordered order (components elements.type) (cell_bytes cell)) cells) ≡ length cells * bytes_in (components elements.type)
bytes_length order elements cells fixed values =
    let parts = components elements.type in
    length-flat_map (λ cell. ordered order parts (cell_bytes cell)) (bytes_in parts) cells
    (each_weaker (λ cell. is_value elements.type cell ≡ true) (λ cell. length (ordered order parts (cell_bytes cell)) ≡ bytes_in parts) cells
    (λ cell h. let v = fixed_value elements.type cell fixed h in length-ordered order parts (cell_bytes cell) (ap (λ (c : Cell). length (cell_bytes c)) v.is ∙ v.long))
    (each_passes (is_value elements.type) cells values))

pub bits_length : (first : ℕ) (last : Option ℕ) (elements : Elements) (cells : List Cell) → length (flat_map (λ cell. element_bits first last (components elements.type) (cell_bytes cell)) cells) ≡ length cells * bits_in first last (components elements.type)
bits_length first last elements cells =
    let parts = components elements.type in
    length-flat_map (λ cell. element_bits first last parts (cell_bytes cell)) (bits_in first last parts) cells (every (λ cell. length (element_bits first last parts (cell_bytes cell)) ≡ bits_in first last parts) cells (λ cell. length-element_bits first last parts (cell_bytes cell)))
