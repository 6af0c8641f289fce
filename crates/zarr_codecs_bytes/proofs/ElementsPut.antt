-- What stands after elements were written over those of a value.
use Rattle.std.proofs.Common.{◌≡◌, ◌∙◌, ℕ, ◌*◌, ◌/◌, ◌%◌, ◌<◌, Bool, true, if◌then◌else◌, List, [], ◌∷◌, length, map, take, drop, refl, sym, ap, arith, Option, Some, None}
use Rattle.std.specs.List.{range_with_len, flat_map, list_all}
use Rattle.std.proofs.Math.Nat.{mul-mod_left, mul-div_left}
use Rattle.std.proofs.lemmas.Bool.{and_parts, eq-eqb}
use Rattle.std.proofs.lemmas.List.Folds.{flat_map-map}
use Rattle.std.proofs.lemmas.Simd.{map-map}
use Rattle.zarr_grids_boxes.specs.Boxes.{product}
use Rattle.zarr_codecs_meaning.specs.Chains.{Endianness}
use Rattle.zarr_codecs_meaning.specs.Chains.Chain.{bytes}
use Rattle.zarr_codecs_meaning.specs.Decoding.{all_there, decoded, element_at, is_whole, tested}
use Rattle.zarr_codecs_meaning.specs.Encoding.{encoded, ordered}
use Rattle.zarr_codecs_meaning.specs.Fits.{fits, order_fits}
use Rattle.zarr_codecs_meaning.specs.Laws.{AreCells}
use Rattle.zarr_codecs_meaning.specs.Payloads.{fixed, fixed_cells}
use Rattle.zarr_codecs_meaning.specs.Places.{place_numbers}
use Rattle.zarr_codecs_meaning.specs.Types.{Cell, DataType, Elements, of_bytes, cell_bytes, components, bytes_in, is_fixed, is_value}
use Rattle.zarr_codecs_arrays.specs.Outcomes.{IsValid}
use Rattle.zarr_codecs_arrays.proofs.FixedCells.{flat_map-fixed_cells}
use Rattle.zarr_codecs_regions.proofs.Shown.{map_put, shown_cells, standing_decoded}
use Rattle.zarr_codecs_traits.specs.Indexers.{Asked, are_inside, numbers_asked, put}
use Rattle.zarr_codecs_traits.specs.Patches.{Patch, patched}
use Rattle.zarr_codecs_traits.specs.Arrays.{coded, update_of}
use Rattle.zarr_codecs_traits.specs.PartWriting.{IsEncodedInto, cells_shown}
use Rattle.zarr_codecs_bytes.specs.Orders.{all_ordered}
use Rattle.zarr_codecs_bytes.specs.Writing.{PutsElements}
use Rattle.zarr_codecs_bytes.proofs.Decoding.{IsRead, decoded_made}
use Rattle.zarr_codecs_bytes.proofs.Orders.{all_ordered_twice, cells_ordered, length-all_ordered}
use Rattle.zarr_codecs_bytes.proofs.PartWriting.{before_are, given_cells, value_length}

-- an element as it is read by itself
abbrev shown : Option Endianness → DataType → Cell → Option (List Cell)
shown order type cell = all_there (tested type (of_bytes (ordered order (components type) (cell_bytes cell))) ∷ [])

-- an element in the stored order
abbrev turned : Option Endianness → DataType → Cell → Cell
turned order type cell = of_bytes (ordered order (components type) (cell_bytes cell))

is_whole_value : (type : DataType) (shape value : List ℕ) → length value ≡ product shape * bytes_in (components type) → is_whole type shape value ≡ true
is_whole_value type shape value long =
    let swapped : product shape * bytes_in (components type) ≡ bytes_in (components type) * product shape = grind arith in
    eq-eqb (length value) (bytes_in (components type) * product shape) (long ∙ swapped)

-- each place of a value is shown as its element is read
shown_elements : (order : Option Endianness) (elements : Elements) (shape value : List ℕ) → 0 < bytes_in (components elements.type) → length value ≡ product shape * bytes_in (components elements.type)
    → cells_shown (bytes order) elements shape (Some value) ≡ map (shown order elements.type) (fixed_cells (bytes_in (components elements.type)) value)
shown_elements order elements shape value some long =
    let type = elements.type in
    let width = bytes_in (components type) in
    let element : ℕ → Cell = λ n. of_bytes (take width (drop (n * width) value)) in
    let count : length value / width ≡ product shape = ap (λ n. n / width) long ∙ mul-div_left (product shape) some in
    ap (λ (b : Bool). map (λ n. if b then all_there ((if b then element_at order type value n else None) ∷ []) else None) (place_numbers shape)) (is_whole_value type shape value long)
    ∙ (ap (λ k. map (λ n. shown order type (element n)) (range_with_len 0 k)) (sym count)
    ∙ sym (map-map (shown order type) element (range_with_len 0 (length value / width))))

-- what is known of elements that are written over those of a value
pub record IsPutOver (order : Option Endianness) (elements : Elements) (shape : List ℕ) (asked : Asked) (given content : List ℕ) (cells : List Cell) (value : List ℕ) (patches : List Patch) : Type 0 where
  pub fit : fits (bytes order) elements.type [] ≡ true
  pub some : 0 < bytes_in (components elements.type)
  pub inside : are_inside shape asked ≡ true
  pub valid : IsValid elements.type (fixed given) (length (numbers_asked shape asked)) cells
  pub is : content ≡ all_ordered order (components elements.type) given
  pub long : length value ≡ product shape * bytes_in (components elements.type)
  pub puts : PutsElements (bytes_in (components elements.type)) (product shape * bytes_in (components elements.type)) (numbers_asked shape asked) content patches

-- the new elements in the stored order
content_cells : (order : Option Endianness) (elements : Elements) (count : ℕ) (given content : List ℕ) (cells : List Cell) → fits (bytes order) elements.type [] ≡ true → 0 < bytes_in (components elements.type) → IsValid elements.type (fixed given) count cells
    → content ≡ all_ordered order (components elements.type) given → map (turned order elements.type) cells ≡ fixed_cells (bytes_in (components elements.type)) content
content_cells order elements count given content cells fit some valid is =
    let type = elements.type in
    let width = bytes_in (components type) in
    let g = given_cells type given count cells (and_parts (is_fixed type) (order_fits order (components type)) fit).0 valid in
    ap (map (turned order type)) g.are ∙ (sym (cells_ordered order (components type) count given some g.long) ∙ ap (fixed_cells width) (sym is))

-- each of the new elements is shown as itself
content_shown : (order : Option Endianness) (elements : Elements) (count : ℕ) (given content : List ℕ) (cells : List Cell) → fits (bytes order) elements.type [] ≡ true → 0 < bytes_in (components elements.type) → IsValid elements.type (fixed given) count cells
    → content ≡ all_ordered order (components elements.type) given → map (shown order elements.type) (fixed_cells (bytes_in (components elements.type)) content) ≡ map (λ cell. Some (cell ∷ [])) cells
content_shown order elements count given content cells fit some valid is =
    let type = elements.type in
    let parts = components type in
    let width = bytes_in parts in
    let g = given_cells type given count cells (and_parts (is_fixed type) (order_fits order parts) fit).0 valid in
    let one : product (count ∷ []) ≡ count = grind arith in
    let long : length content ≡ count * width = ap length is ∙ length-all_ordered order parts count given some g.long in
    let whole : length content ≡ product (count ∷ []) * width = long ∙ ap (λ n. n * width) (sym one) in
    let back : given ≡ all_ordered order parts content = sym (ap (all_ordered order parts) is ∙ all_ordered_twice order parts count given some g.long) in
    let read : IsRead order type (product (count ∷ [])) content given = record { fit = fit; positive = some; long = whole; is = back } in
    let values : list_all (is_value type) (fixed_cells width given) ≡ true = ap (list_all (is_value type)) (sym g.are) ∙ valid.values in
    let found : decoded (bytes order) elements (count ∷ []) content ≡ Some cells =
    decoded_made order elements (count ∷ []) content given read ∙ (ap (λ (b : Bool). if b then Some (fixed_cells width given) else None) values ∙ ap Some (sym g.are)) in
    sym (shown_elements order elements (count ∷ []) content some whole) ∙ shown_cells (bytes order) elements (count ∷ []) (Some content) cells fit found

-- the elements that a value is decoded to, in the stored order, are those of its bytes
stored_elements : (order : Option Endianness) (elements : Elements) (shape value : List ℕ) (before : List Cell) → fits (bytes order) elements.type [] ≡ true → 0 < bytes_in (components elements.type) → decoded (bytes order) elements shape value ≡ Some before
    → map (turned order elements.type) before ≡ fixed_cells (bytes_in (components elements.type)) value
stored_elements order elements shape value before fit some is =
    let type = elements.type in
    let parts = components type in
    let width = bytes_in parts in
    let long = value_length order elements shape value before is in
    let made = all_ordered order parts value in
    ap (map (turned order type)) (before_are order elements shape value before fit some is)
    ∙ (sym (cells_ordered order parts (product shape) made some (length-all_ordered order parts (product shape) value some long))
    ∙ ap (fixed_cells width) (all_ordered_twice order parts (product shape) value some long))

-- the updated elements are encoded to the value that was written
encoded_over : (order : Option Endianness) (elements : Elements) (shape : List ℕ) (asked : Asked) (given content : List ℕ) (cells : List Cell) (value : List ℕ) (patches : List Patch) (before : List Cell)
    → IsPutOver order elements shape asked given content cells value patches → decoded (bytes order) elements shape value ≡ Some before → encoded (bytes order) elements shape (put (numbers_asked shape asked) cells before) ≡ Some (patched value patches)
encoded_over order elements shape asked given content cells value patches before h is =
    let type = elements.type in
    let parts = components type in
    let width = bytes_in parts in
    let ns = numbers_asked shape asked in
    let step = turned order type in
    let new = patched value patches in
    let even : length new % width ≡ 0 = ap (λ n. n % width) (h.puts.long value h.long) ∙ mul-mod_left (product shape) width in
    let made : map step (put ns cells before) ≡ fixed_cells width new =
    map_put step ns cells before
    ∙ (ap (λ xs. put ns xs (map step before)) (content_cells order elements (length ns) given content cells h.fit h.some h.valid h.is)
    ∙ (ap (put ns (fixed_cells width content)) (stored_elements order elements shape value before h.fit h.some is) ∙ sym (h.puts.put value h.long))) in
    ap Some (sym (flat_map-map cell_bytes step (put ns cells before)) ∙ (ap (flat_map cell_bytes) made ∙ flat_map-fixed_cells width new h.some even))

pub put_over : (order : Option Endianness) (elements : Elements) (shape : List ℕ) (asked : Asked) (given content : List ℕ) (cells : List Cell) (value : List ℕ) (patches : List Patch)
    → IsPutOver order elements shape asked given content cells value patches → IsEncodedInto (coded (bytes order) elements shape) true (update_of asked (fixed given) (Some value)) cells (Some (patched value patches))
put_over order elements shape asked given content cells value patches h =
    let type = elements.type in
    let width = bytes_in (components type) in
    let ns = numbers_asked shape asked in
    let new = patched value patches in
    let one = λ (c : Cell). Some (c ∷ []) in
    let stands = λ (before : List Cell) (are : AreCells elements shape before) (is : encoded (bytes order) elements shape before ≡ Some value).
    encoded_over order elements shape asked given content cells value patches before h (standing_decoded (bytes order) elements shape (Some value) before tt h.fit refl are is) in
    record {
      valid = h.valid;
      fit = h.fit;
      inside = h.inside;
      opened = is_whole_value type shape value h.long;
      none_lost = λ lost. lost;
      stands = λ lossless before are is. stands before are is;
      tight = λ exact lossless before are is. stands before are is;
      absent = λ no. cc;
      encodes = λ plain before are is. (new, refl, encoded_over order elements shape asked given content cells value patches before h is);
      shows = λ lossless.
          shown_elements order elements shape new h.some (h.puts.long value h.long)
          ∙ (ap (map (shown order type)) (h.puts.put value h.long)
          ∙ (map_put (shown order type) ns (fixed_cells width content) (fixed_cells width value)
          ∙ (ap (λ xs. put ns xs (map (shown order type) (fixed_cells width value))) (content_shown order elements (length ns) given content cells h.fit h.some h.valid h.is)
          ∙ ap (put ns (map one cells)) (sym (shown_elements order elements shape value h.some h.long)))));
    }
