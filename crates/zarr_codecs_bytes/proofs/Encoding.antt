-- What `bytes` makes of elements: their bytes, in its order.
use Rattle.std.proofs.Common.{◌≡◌, ◌∙◌, ℕ, List, ap, sym, true, Option, Some}
use Rattle.std.specs.List.{flat_map}
use Rattle.std.proofs.lemmas.Bool.{and_parts}
use Rattle.zarr_grids_boxes.specs.Boxes.{product}
use Rattle.zarr_codecs_meaning.specs.Chains.{Endianness}
use Rattle.zarr_codecs_meaning.specs.Chains.Chain.{bytes}
use Rattle.zarr_codecs_meaning.specs.Encoding.{encoded, ordered}
use Rattle.zarr_codecs_meaning.specs.Fits.{fits, order_fits}
use Rattle.zarr_codecs_meaning.specs.Laws.{AreCells}
use Rattle.zarr_codecs_meaning.specs.Payloads.{fixed}
use Rattle.zarr_codecs_meaning.specs.Types.{Cell, Elements, cell_bytes, components, is_fixed, is_value}
use Rattle.zarr_codecs_meaning.proofs.Representations.{encoded_size}
use Rattle.zarr_codecs_arrays.specs.Outcomes.{IsValid}
use Rattle.zarr_codecs_traits.specs.Arrays.{coded}
use Rattle.zarr_codecs_traits.specs.Outcomes.{IsEncoded}
use Rattle.zarr_codecs_bytes.specs.Orders.{all_ordered}
use Rattle.zarr_codecs_bytes.proofs.PartWriting.{given_cells}

pub bytes_encodes : (order : Option Endianness) (elements : Elements) (shape given made : List ℕ) (cells : List Cell) → is_value elements.type elements.fill ≡ true → fits (bytes order) elements.type shape ≡ true
    → IsValid elements.type (fixed given) (product shape) cells → made ≡ all_ordered order (components elements.type) given → IsEncoded (coded (bytes order) elements shape) true (fixed given) cells made
bytes_encodes order elements shape given made cells fill fit valid is =
    let parts = components elements.type in
    let g = given_cells elements.type given (product shape) cells (and_parts (is_fixed elements.type) (order_fits order parts) fit).0 valid in
    let whole : encoded (bytes order) elements shape cells ≡ Some made = ap (λ cs. Some (flat_map (λ cell. ordered order parts (cell_bytes cell)) cs)) g.are ∙ ap Some (sym is) in
    let are : AreCells elements shape cells = record { fill = fill; values = valid.values; whole = valid.is.many } in
    record {
      valid = valid;
      fit = fit;
      made = whole;
      encodes = λ _. whole;
      stands = λ _. whole;
      sized = encoded_size (bytes order) elements shape made cells tt fit are whole;
      gapless = tt;
    }
