-- Optional elements of which the present ones were kept in part.
use Rattle.std.proofs.Common.{◌≡◌, ℕ, suc, List, [], ◌∷◌, length, map, ap, ◌∙◌, refl, arith, Option, Some, None, option_and_then, unwrap_or, Bool, true, false, ◌&&◌, ◌==◌, if◌then◌else◌}
use Rattle.std.specs.List.{filter_map, list_all}
use Rattle.std.proofs.lemmas.List.{length-map}
use Rattle.std.proofs.lemmas.Bool.{and_parts}
use Rattle.zarr_grids_boxes.specs.Boxes.{product}
use Rattle.zarr_codecs_meaning.specs.Numbers.{number}
use Rattle.zarr_codecs_meaning.specs.Types.{DataType, bool, inner_type, is_value, Cell, of_bytes, cell_bytes, absent, present, Elements, zero_filled}
use Rattle.zarr_codecs_meaning.specs.Chains.{Chain}
use Rattle.zarr_codecs_meaning.specs.Chains.Chain.{optional}
use Rattle.zarr_codecs_meaning.specs.Fits.{fits, takes_each_shape}
use Rattle.zarr_codecs_meaning.specs.Encoding.{mask_cell, present_cell, with_mask, unless_none, options_encoded}
use Rattle.zarr_codecs_meaning.specs.Keeping.{spread}
use Rattle.zarr_codecs_meaning.specs.Laws.{AreCells}
use Rattle.zarr_codecs_meaning.proofs.Lists.{Each, each_passes, all_pass, each_weaker}
use Rattle.zarr_codecs_meaning.proofs.Zeros.{zero_is_value, fits_each}
use Rattle.zarr_codecs_meaning.proofs.Options.{IsOption, absent_first, option_value, masks_are_values, found_are_values}
use Rattle.zarr_codecs_meaning.proofs.KeptVariable.{of_length, unless_kept}

abbrev pub found_in : List Cell → List Cell
found_in cells = filter_map present_cell cells

abbrev pub spread_by : List Cell → List Cell → List Cell
spread_by cells found = spread (map mask_cell cells) found

-- ---- cells spread

length_step : (t : Bool) (c : Cell) (ones others : List Cell) (n : ℕ) → length ones ≡ n → length others ≡ n → length (if t then present c ∷ ones else absent ∷ others) ≡ suc n
length_step true c ones others n h k = ap suc h
length_step false c ones others n h k = ap suc k

pub length-spread : (masks found : List Cell) → length (spread masks found) ≡ length masks
length-spread [] found = refl
length-spread (m ∷ ms) [] = ap suc (length-spread ms [])
length-spread (m ∷ ms) (c ∷ cs) = length_step (number 256 (cell_bytes m) == 1) c (spread ms cs) (spread ms (c ∷ cs)) (length ms) (length-spread ms cs) (length-spread ms (c ∷ cs))

masks_alike : (cells found : List Cell) → length found ≡ length (found_in cells) → map mask_cell (spread_by cells found) ≡ map mask_cell cells
masks_alike [] found h = refl
masks_alike (of_bytes element ∷ cells) found h = ap (map mask_cell) (absent_first (map mask_cell cells) found) ∙ ap (λ (xs : List Cell). of_bytes (0 ∷ []) ∷ xs) (masks_alike cells found h)
masks_alike (absent ∷ cells) found h = ap (map mask_cell) (absent_first (map mask_cell cells) found) ∙ ap (λ (xs : List Cell). of_bytes (0 ∷ []) ∷ xs) (masks_alike cells found h)
masks_alike (present cell ∷ cells) [] h = absurd (omega arith)
masks_alike (present cell ∷ cells) (c ∷ cs) h = ap (λ (xs : List Cell). of_bytes (1 ∷ []) ∷ xs) (masks_alike cells cs (omega arith))

found_alike : (cells found : List Cell) → length found ≡ length (found_in cells) → found_in (spread_by cells found) ≡ found
found_alike [] [] h = refl
found_alike [] (c ∷ cs) h = absurd (omega arith)
found_alike (of_bytes element ∷ cells) found h = ap found_in (absent_first (map mask_cell cells) found) ∙ found_alike cells found h
found_alike (absent ∷ cells) found h = ap found_in (absent_first (map mask_cell cells) found) ∙ found_alike cells found h
found_alike (present cell ∷ cells) [] h = absurd (omega arith)
found_alike (present cell ∷ cells) (c ∷ cs) h = ap (λ (xs : List Cell). c ∷ xs) (found_alike cells cs (omega arith))

absent_value : (type inner : DataType) → inner_type type ≡ Some inner → is_value type absent ≡ true
absent_value type inner e = ap (λ (o : Option DataType). elim o [ None ↦ false | Some t ↦ true ]) e

present_value : (type inner : DataType) (cell : Cell) → inner_type type ≡ Some inner → is_value inner cell ≡ true → is_value type (present cell) ≡ true
present_value type inner cell e h = ap (λ (o : Option DataType). elim o [ None ↦ false | Some t ↦ is_value t cell ]) e ∙ h

values_step : (t : Bool) (P : Cell → Type 0) (c : Cell) (ones others : List Cell) → P absent → P (present c) → Each P ones → Each P others → Each P (if t then present c ∷ ones else absent ∷ others)
values_step true P c ones others a p h k = (p, h)
values_step false P c ones others a p h k = (a, k)

pub spread_values : (type inner : DataType) (masks found : List Cell) → inner_type type ≡ Some inner → Each (λ c. is_value inner c ≡ true) found → Each (λ c. is_value type c ≡ true) (spread masks found)
spread_values type inner [] found e h = tt
spread_values type inner (m ∷ ms) [] e h = (absent_value type inner e, spread_values type inner ms [] e h)
spread_values type inner (m ∷ ms) (c ∷ cs) e h =
    values_step (number 256 (cell_bytes m) == 1) (λ x. is_value type x ≡ true) c (spread ms cs) (spread ms (c ∷ cs))
    (absent_value type inner e) (present_value type inner c e h.0) (spread_values type inner ms cs e h.1) (spread_values type inner ms (c ∷ cs) e h)

-- ---- `optional`

-- what the fitting of a chain of optional elements says
pub record OptionsFit (mask values : Chain) (type : DataType) (shape : List ℕ) : Type 0 where
  pub is : inner_type type ≡ Some (unwrap_or (inner_type type) type)
  pub mask_fits : fits mask bool shape ≡ true
  pub takes : takes_each_shape values ≡ true
  pub values_fit : (some : List ℕ) → fits values (unwrap_or (inner_type type) type) some ≡ true

pub options_fit : (mask values : Chain) (type : DataType) (shape : List ℕ) → fits (optional mask values) type shape ≡ true → OptionsFit mask values type shape
options_fit mask values type shape fit =
    let k = by_inner (inner_type type) fit in
    record { is = k.0; mask_fits = k.1; takes = k.2; values_fit = λ some. fits_each values (unwrap_or (inner_type type) type) (0 ∷ []) some k.2 k.3 } where
      by_inner : (o : Option DataType) → (elim o [ None ↦ false | Some inner ↦ fits mask bool shape && (takes_each_shape values && fits values inner (0 ∷ [])) ]) ≡ true
          → (o ≡ Some (unwrap_or o type)) × (fits mask bool shape ≡ true) × (takes_each_shape values ≡ true) × (fits values (unwrap_or o type) (0 ∷ []) ≡ true)
      by_inner None h = cc
      by_inner (Some inner) h =
          let a = and_parts (fits mask bool shape) (takes_each_shape values && fits values inner (0 ∷ [])) h in
          let b = and_parts (takes_each_shape values) (fits values inner (0 ∷ [])) a.1 in
          (refl, a.0, b.0, b.1)

pub are_options : (type inner : DataType) (cells : List Cell) → inner_type type ≡ Some inner → list_all (is_value type) cells ≡ true → Each (IsOption inner) cells
are_options type inner cells e h = each_weaker (λ cell. is_value type cell ≡ true) (IsOption inner) cells (λ cell v. option_value type inner cell e v) (each_passes (is_value type) cells h)

-- the present elements as the cells of an array
pub found_cells : (inner : DataType) (cells : List Cell) → Each (IsOption inner) cells → AreCells (zero_filled inner) (length (found_in cells) ∷ []) (found_in cells)
found_cells inner cells h = record { fill = zero_is_value inner; values = found_are_values inner cells h; whole = omega arith }

pub mask_cells : (shape : List ℕ) (cells : List Cell) → length cells ≡ product shape → AreCells (zero_filled bool) shape (map mask_cell cells)
mask_cells shape cells whole = record { fill = refl; values = masks_are_values cells; whole = length-map cells mask_cell ∙ whole }

pub optional_cells : (elements : Elements) (shape : List ℕ) (inner : DataType) (cells found : List Cell) → inner_type elements.type ≡ Some inner → AreCells elements shape cells → list_all (is_value inner) found ≡ true → AreCells elements shape (spread_by cells found)
optional_cells elements shape inner cells found e are values = record {
  fill = are.fill;
  values = all_pass (is_value elements.type) (spread_by cells found) (spread_values elements.type inner (map mask_cell cells) found e (each_passes (is_value inner) found values));
  whole = length-spread (map mask_cell cells) found ∙ (length-map cells mask_cell ∙ are.whole);
}

pub optional_twice : (keep : List ℕ → List Cell → List Cell) (cells : List Cell) → let found = of_length keep (found_in cells) in length found ≡ length (found_in cells) → keep (length (found_in cells) ∷ []) found ≡ found
    → let again = spread_by cells found in spread_by again (of_length keep (found_in again)) ≡ again
optional_twice keep cells many twice =
    let found = of_length keep (found_in cells) in
    let again = spread_by cells found in
    ap (λ (ms : List Cell). spread ms (of_length keep (found_in again))) (masks_alike cells found many)
    ∙ (ap (λ (xs : List Cell). spread_by cells (of_length keep xs)) (found_alike cells found many)
    ∙ (ap (λ n. spread_by cells (keep (n ∷ []) found)) many ∙ ap (spread_by cells) twice))

pub optional_encoded : (mask : List Cell → Option (List ℕ)) (encode : List ℕ → List Cell → Option (List ℕ)) (cells found : List Cell) → length found ≡ length (found_in cells)
    → encode (length (found_in cells) ∷ []) found ≡ encode (length (found_in cells) ∷ []) (found_in cells)
    → options_encoded mask (λ some. encode (length some ∷ []) some) (spread_by cells found) ≡ options_encoded mask (λ some. encode (length some ∷ []) some) cells
optional_encoded mask encode cells found many same =
    let whole : List Cell → Option (List ℕ) → Option (List ℕ) = λ ms made. option_and_then (λ front. option_and_then (with_mask front) made) (mask ms) in
    let data_of = λ (xs : List Cell). unless_none xs (encode (length xs ∷ []) xs) in
    ap (λ (ms : List Cell). whole ms (data_of (found_in (spread_by cells found)))) (masks_alike cells found many)
    ∙ (ap (λ (xs : List Cell). whole (map mask_cell cells) (data_of xs)) (found_alike cells found many)
    ∙ ap (whole (map mask_cell cells)) (unless_kept encode found (found_in cells) many same))
