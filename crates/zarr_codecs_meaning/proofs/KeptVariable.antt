-- Elements of variable length whose joined bytes were kept in part: as many, and each as long as it was.
use Rattle.std.proofs.Common.{◌≡◌, ℕ, suc, ◌+◌, ◌^◌, ◌<◌, List, [], ◌∷◌, ◌++◌, length, map, take, drop, ap, ◌∙◌, sym, refl, arith, Option, None, option_and_then, Bool, true, ◌&&◌, if◌then◌else◌, length-append, length-take, length-drop, take-append-drop, subst}
use Rattle.std.specs.Prelude.{nat_lt}
use Rattle.std.specs.List.{flat_map, list_all}
use Rattle.std.proofs.lemmas.List.{length-map}
use Rattle.std.proofs.Math.Seq.{take-append_seam, drop-append_seam}
use Rattle.std.proofs.lemmas.Bool.{and_parts}
use Rattle.zarr_grids_boxes.specs.Boxes.{product}
use Rattle.zarr_codecs_meaning.specs.Types.{DataType, bool, integer, custom, string, variable_bytes, optional_of, unsigned, uint8, is_variable, is_value, Cell, of_bytes, cell_bytes, Elements, zero_filled}
use Rattle.zarr_codecs_meaning.specs.Chains.{Chain, Location}
use Rattle.zarr_codecs_meaning.specs.Chains.Chain.{vlen}
use Rattle.zarr_codecs_meaning.specs.Fits.{fits, takes_each_shape}
use Rattle.zarr_codecs_meaning.specs.Encoding.{ends_from, last_number, number_cells, byte_cells, with_index, unless_none, variable_encoded}
use Rattle.zarr_codecs_meaning.specs.Keeping.{cut_again}
use Rattle.zarr_codecs_meaning.specs.Laws.{AreCells}
use Rattle.zarr_codecs_meaning.proofs.Lists.{Each, each_passes, each_weaker, each_append}
use Rattle.zarr_codecs_meaning.proofs.Values.{fixed_value}
use Rattle.zarr_codecs_meaning.proofs.Digits.{bytes_below, each-take, each-drop}
use Rattle.zarr_codecs_meaning.proofs.Zeros.{zero_is_value, fits_each}
use Rattle.zarr_codecs_meaning.proofs.Variable.{IsVariable, variable_value, bytes_are_values}
use Rattle.zarr_codecs_meaning.proofs.KeptElements.{are_bytes_of}

-- ---- joined bytes cut again

length-cut : (cells : List Cell) («data» : List ℕ) → length (cut_again cells «data») ≡ length cells
length-cut [] «data» = refl
length-cut (c ∷ cs) «data» = ap suc (length-cut cs (drop (length (cell_bytes c)) «data»))

-- the first element, and what is left for the others
shorter : (c : Cell) (cs : List Cell) («data» : List ℕ) → length «data» ≡ length (flat_map cell_bytes (c ∷ cs)) → (length (take (length (cell_bytes c)) «data») ≡ length (cell_bytes c)) × (length (drop (length (cell_bytes c)) «data») ≡ length (flat_map cell_bytes cs))
shorter c cs «data» h =
    let n = length (cell_bytes c) in
    (length-take n «data» ∙ omega (arith, h, length-append (cell_bytes c) (flat_map cell_bytes cs)), length-drop n «data» ∙ omega (arith, h, length-append (cell_bytes c) (flat_map cell_bytes cs)))

pub cut_joined : (cells : List Cell) («data» : List ℕ) → length «data» ≡ length (flat_map cell_bytes cells) → flat_map cell_bytes (cut_again cells «data») ≡ «data»
cut_joined [] [] h = refl
cut_joined [] (b ∷ «data») h = absurd (omega arith)
cut_joined (c ∷ cs) «data» h =
    let n = length (cell_bytes c) in
    ap (λ (ns : List ℕ). take n «data» ++ ns) (cut_joined cs (drop n «data») (shorter c cs «data» h).1) ∙ take-append-drop n «data»

-- cut by elements of the same lengths
cut_alike : (cells : List Cell) («data» other : List ℕ) → length «data» ≡ length (flat_map cell_bytes cells) → cut_again (cut_again cells «data») other ≡ cut_again cells other
cut_alike [] «data» other h = refl
cut_alike (c ∷ cs) «data» other h =
    let n = length (cell_bytes c) in
    let less = shorter c cs «data» h in
    ap (λ m. of_bytes (take m other) ∷ cut_again (cut_again cs (drop n «data»)) (drop m other)) less.0
    ∙ ap (λ (xs : List Cell). of_bytes (take n other) ∷ xs) (cut_alike cs (drop n «data») (drop n other) less.1)

pub ends_alike : (cells : List Cell) («data» : List ℕ) (offset : ℕ) → length «data» ≡ length (flat_map cell_bytes cells) → ends_from offset (map cell_bytes (cut_again cells «data»)) ≡ ends_from offset (map cell_bytes cells)
ends_alike [] «data» offset h = refl
ends_alike (c ∷ cs) «data» offset h =
    let n = length (cell_bytes c) in
    let less = shorter c cs «data» h in
    ap (λ m. (offset + m) ∷ ends_from (offset + m) (map cell_bytes (cut_again cs (drop n «data»)))) less.0
    ∙ ap (λ (ns : List ℕ). (offset + n) ∷ ns) (ends_alike cs (drop n «data») (offset + n) less.1)

pub cut_back : (cells : List Cell) → Each IsVariable cells → cut_again cells (flat_map cell_bytes cells) ≡ cells
cut_back [] h = refl
cut_back (c ∷ cs) h =
    let element = cell_bytes c in
    let others = flat_map cell_bytes cs in
    ap (λ (ns : List ℕ). of_bytes ns ∷ cut_again cs (drop (length element) (element ++ others))) (take-append_seam element others)
    ∙ (ap (λ (ns : List ℕ). of_bytes element ∷ cut_again cs ns) (drop-append_seam element others)
    ∙ (ap (λ (x : Cell). x ∷ cut_again cs others) h.0.is ∙ ap (λ (xs : List Cell). c ∷ xs) (cut_back cs h.1)))

pub variable_is_value : (type : DataType) (element : List ℕ) → is_variable type ≡ true → Each (λ b. b < 256) element → is_value type (of_bytes element) ≡ true
variable_is_value string element v h = ap (λ (b : Bool). b && true) (are_bytes_of element h)
variable_is_value variable_bytes element v h = ap (λ (b : Bool). b && true) (are_bytes_of element h)
variable_is_value bool element v h = cc
variable_is_value (integer sign width) element v h = cc
variable_is_value (custom parts) element v h = cc
variable_is_value (optional_of inner) element v h = cc

cut_values : (type : DataType) (cells : List Cell) («data» : List ℕ) → is_variable type ≡ true → Each (λ b. b < 256) «data» → list_all (is_value type) (cut_again cells «data») ≡ true
cut_values type [] «data» v h = refl
cut_values type (c ∷ cs) «data» v h =
    let n = length (cell_bytes c) in
    ap (λ (b : Bool). b && list_all (is_value type) (cut_again cs (drop n «data»))) (variable_is_value type (take n «data») v (each-take (λ b. b < 256) n «data» h)) ∙ cut_values type cs (drop n «data») v (each-drop (λ b. b < 256) n «data» h)

-- ---- bytes as cells

-- a cell of one byte
record IsByte (cell : Cell) : Type 0 where
  pub byte : ℕ
  pub is : cell ≡ of_bytes (byte ∷ [])
  pub below : byte < 256

byte_value : (cell : Cell) → is_value uint8 cell ≡ true → IsByte cell
byte_value cell h = let v = fixed_value uint8 cell refl h in of_element v.element v.is v.long (bytes_below v.element v.bytes) where
  of_element : (element : List ℕ) → cell ≡ of_bytes element → length element ≡ 1 → Each (λ b. b < 256) element → IsByte cell
  of_element [] is long below = absurd (omega arith)
  of_element (b ∷ []) is long below = record { byte = b; is = is; below = below.0 }
  of_element (b ∷ c ∷ rest) is long below = absurd (omega arith)

-- cells of one byte each, joined
pub record AreJoined (cells : List Cell) : Type 0 where
  pub again : byte_cells (flat_map cell_bytes cells) ≡ cells
  pub long : length (flat_map cell_bytes cells) ≡ length cells
  pub below : Each (λ b. b < 256) (flat_map cell_bytes cells)

pub joined_bytes : (cells : List Cell) → Each (λ c. is_value uint8 c ≡ true) cells → AreJoined cells
joined_bytes [] h = record { again = refl; long = refl; below = tt }
joined_bytes (c ∷ cs) h =
    let rest = joined_bytes cs h.1 in
    let v = byte_value c h.0 in
    let element : cell_bytes c ≡ v.byte ∷ [] = ap cell_bytes v.is in
    let joined_ = flat_map cell_bytes cs in record {
      again = ap (λ (ns : List ℕ). byte_cells (ns ++ joined_)) element ∙ (ap (λ (x : Cell). x ∷ byte_cells joined_) (sym v.is) ∙ ap (λ (xs : List Cell). c ∷ xs) rest.again);
      long = ap (λ (ns : List ℕ). length (ns ++ joined_)) element ∙ ap suc rest.long;
      below = each_append (λ b. b < 256) (cell_bytes c) joined_ (subst (λ (ns : List ℕ). Each (λ b. b < 256) ns) (sym element) (v.below, tt)) rest.below;
    }

-- ---- `vlen`

abbrev pub content_of : List Cell → List Cell
content_of cells = byte_cells (flat_map cell_bytes cells)

abbrev pub of_length : (List ℕ → List Cell → List Cell) → List Cell → List Cell
of_length keep cells = keep (length cells ∷ []) cells

-- what the fitting of a `vlen` chain says
pub record VlenFits (index «data» : Chain) (width : ℕ) (type : DataType) (shape : List ℕ) : Type 0 where
  pub variable : is_variable type ≡ true
  pub index_fits : fits index (integer unsigned width) ((product shape + 1) ∷ []) ≡ true
  pub takes : takes_each_shape «data» ≡ true
  pub data_fits : (some : List ℕ) → fits «data» uint8 some ≡ true

pub vlen_fits : (index «data» : Chain) (width : ℕ) (location : Location) (type : DataType) (shape : List ℕ) → fits (vlen index «data» width location) type shape ≡ true → VlenFits index «data» width type shape
vlen_fits index «data» width location type shape fit =
    let front = fits index (integer unsigned width) ((product shape + 1) ∷ []) in
    let back = takes_each_shape «data» && fits «data» uint8 (0 ∷ []) in
    let a = and_parts (is_variable type) (front && back) fit in
    let b = and_parts front back a.1 in
    let c = and_parts (takes_each_shape «data») (fits «data» uint8 (0 ∷ [])) b.1 in
    record { variable = a.0; index_fits = b.0; takes = c.0; data_fits = λ some. fits_each «data» uint8 (0 ∷ []) some c.0 c.1 }

pub are_variable : (type : DataType) (cells : List Cell) → is_variable type ≡ true → list_all (is_value type) cells ≡ true → Each IsVariable cells
are_variable type cells v h = each_weaker (λ cell. is_value type cell ≡ true) IsVariable cells (λ cell is. variable_value type cell v is) (each_passes (is_value type) cells h)

joined_below : (cells : List Cell) → Each IsVariable cells → Each (λ b. b < 256) (flat_map cell_bytes cells)
joined_below [] h = tt
joined_below (c ∷ cs) h = each_append (λ b. b < 256) (cell_bytes c) (flat_map cell_bytes cs) (bytes_below (cell_bytes c) h.0.bytes) (joined_below cs h.1)

-- the joined bytes of elements as the cells of an array
pub content_cells : (cells : List Cell) → Each IsVariable cells → AreCells (zero_filled uint8) (length (content_of cells) ∷ []) (content_of cells)
content_cells cells h = record { fill = zero_is_value uint8; values = bytes_are_values (flat_map cell_bytes cells) (joined_below cells h); whole = omega arith }

-- cells that are kept of the joined bytes of elements
pub record KeepsBytes (cells found : List Cell) : Type 0 where
  pub joined : AreJoined found
  pub long : length (flat_map cell_bytes found) ≡ length (flat_map cell_bytes cells)
  pub many : length found ≡ length (content_of cells)

pub keeps_bytes : (cells found : List Cell) → AreCells (zero_filled uint8) (length (content_of cells) ∷ []) found → KeepsBytes cells found
keeps_bytes cells found are =
    let joined_ = joined_bytes found (each_passes (is_value uint8) found are.values) in
    let count = joined_.long in
    let whole = are.whole in
    let many : length found ≡ length (content_of cells) = omega (arith, whole) in
    record { joined = joined_; long = omega (arith, count, many, length-map (flat_map cell_bytes cells) (λ b. of_bytes (b ∷ []))); many = many }

pub vlen_cells : (elements : Elements) (shape : List ℕ) (cells found : List Cell) → is_variable elements.type ≡ true → AreCells elements shape cells → KeepsBytes cells found → AreCells elements shape (cut_again cells (flat_map cell_bytes found))
vlen_cells elements shape cells found v are k = record {
  fill = are.fill;
  values = cut_values elements.type cells (flat_map cell_bytes found) v k.joined.below;
  whole = length-cut cells (flat_map cell_bytes found) ∙ are.whole;
}

-- the joined bytes of elements that were cut again
content_again : (cells found : List Cell) → KeepsBytes cells found → content_of (cut_again cells (flat_map cell_bytes found)) ≡ found
content_again cells found k = ap byte_cells (cut_joined cells (flat_map cell_bytes found) k.long) ∙ k.joined.again

pub vlen_twice : (keep : List ℕ → List Cell → List Cell) (cells : List Cell) → let found = of_length keep (content_of cells) in KeepsBytes cells found → keep (length (content_of cells) ∷ []) found ≡ found
    → let cut = cut_again cells (flat_map cell_bytes found) in cut_again cut (flat_map cell_bytes (of_length keep (content_of cut))) ≡ cut
vlen_twice keep cells k twice =
    let found = of_length keep (content_of cells) in
    let cut = cut_again cells (flat_map cell_bytes found) in
    ap (λ (xs : List Cell). cut_again cut (flat_map cell_bytes (of_length keep xs))) (content_again cells found k)
    ∙ (ap (λ n. cut_again cut (flat_map cell_bytes (keep (n ∷ []) found))) k.many
    ∙ (ap (λ (xs : List Cell). cut_again cut (flat_map cell_bytes xs)) twice ∙ cut_alike cells (flat_map cell_bytes found) (flat_map cell_bytes found) k.long))

unless_alike : (xs ys : List Cell) (o p : Option (List ℕ)) → length xs ≡ length ys → o ≡ p → unless_none xs o ≡ unless_none ys p
unless_alike [] [] o p l e = refl
unless_alike [] (y ∷ ys) o p l e = absurd (omega arith)
unless_alike (x ∷ xs) [] o p l e = absurd (omega arith)
unless_alike (x ∷ xs) (y ∷ ys) o p l e = e

-- what is encoded of as many cells
pub unless_kept : (encode : List ℕ → List Cell → Option (List ℕ)) (found cells : List Cell) → length found ≡ length cells → encode (length cells ∷ []) found ≡ encode (length cells ∷ []) cells
    → unless_none found (encode (length found ∷ []) found) ≡ unless_none cells (encode (length cells ∷ []) cells)
unless_kept encode found cells many same = unless_alike found cells (encode (length found ∷ []) found) (encode (length cells ∷ []) cells) many (ap (λ n. encode (n ∷ []) found) many ∙ same)

pub vlen_encoded : (index : List Cell → Option (List ℕ)) (encode : List ℕ → List Cell → Option (List ℕ)) (width : ℕ) (location : Location) (cells found : List Cell) → KeepsBytes cells found
    → encode (length (content_of cells) ∷ []) found ≡ encode (length (content_of cells) ∷ []) (content_of cells)
    → variable_encoded index (λ content. encode (length content ∷ []) content) width location (cut_again cells (flat_map cell_bytes found)) ≡ variable_encoded index (λ content. encode (length content ∷ []) content) width location cells
vlen_encoded index encode width location cells found k same =
    let cut = cut_again cells (flat_map cell_bytes found) in
    let whole : List ℕ → Option (List ℕ) → Option (List ℕ) = λ ends made. if nat_lt (last_number 0 ends) (2 ^ width) then option_and_then (λ front. option_and_then (with_index location front) made) (index (number_cells width (0 ∷ ends))) else None in
    let data_of = λ (content : List Cell). unless_none content (encode (length content ∷ []) content) in
    ap (λ ends. whole ends (data_of (content_of cut))) (ends_alike cells (flat_map cell_bytes found) 0 k.long)
    ∙ (ap (λ (xs : List Cell). whole (ends_from 0 (map cell_bytes cells)) (data_of xs)) (content_again cells found k)
    ∙ ap (whole (ends_from 0 (map cell_bytes cells))) (unless_kept encode found (content_of cells) k.many same))
