-- Texts of single elements, and of lists of them.
use Rattle.std.proofs.Common.{◌≡◌, ℕ, zero, suc, ◌+◌, ◌-◌, ◌*◌, ◌/◌, ◌<◌, ◌≤◌, List, [], ◌∷◌, ◌++◌, length, map, take, drop, get_or, ap, ◌∙◌, sym, refl, subst, arith, Option, Some, None, Bool, true, false, if◌then◌else◌, ◌&&◌, ◌==◌, option_map, option_and_then, unwrap_or, append_assoc}
use Rattle.std.specs.Prelude.{nat_lt, nat_le}
use Rattle.std.specs.Str.{IsUtf8}
use Rattle.std.proofs.lemmas.Bool.{leb-true, eqb-true, eq-eqb, ne_eqb, and_parts, lt-ltb}
use Rattle.std.proofs.lemmas.List.{drop_more, drop_all, length-map, get_or_default}
use Rattle.std.proofs.Math.Nat.{mul-le-mul_right}
use Rattle.json.specs.Print.{quoted}
use Rattle.serde_json.specs.Data.{Data, array, number, string as text, unsigned as natural, Items, no_items, item}
use Rattle.serde_json.specs.View.{items_of}
use Rattle.serde_json.specs.Written.{comma_if, compact_text, items_text}
use Rattle.zarr_codecs_meaning.specs.Types.{DataType, bool, integer, custom, string, variable_bytes, optional_of, unsigned, is_variable, is_fixed, bytes_in, components, Cell, of_bytes, absent, present, cell_bytes, is_value_in_bytes, are_bytes, are_components}
use Rattle.zarr_codecs_meaning.specs.Payloads.{Payload, fixed, variable, optional, fixed_in, fixed_cells, bytes_between, variable_in, masked_in, cells_in}
use Rattle.zarr_codecs_meaning.proofs.Lists.{bind_some, map_some, if_some, some_same}
use Rattle.zarr_codecs_types.specs.FillMetadata.{byte_items, bytes_data, cell_data}
use Rattle.zarr_codecs_types.specs.Views.{type_of}
use Rattle.zarr_codecs_types.specs.declared.data_type.DataType as types
use Rattle.zarr_codecs_types.proofs.FillLemmas.{text_written}
use Rattle.zarr_codecs_arrays.proofs.FixedCells.{length-fixed_cells, get_or-fixed_cells, fixed_cells-cons, fixed_cells-nil, fixed_in-whole, whole_length}
use Rattle.zarr_codecs_arrays.proofs.Masks.{masked_at, masked_lengths}
use Rattle.zarr_codecs_json.specs.Texts.{Appends, Begins, all_cells, single_width, element_data, fixed_data}
use Rattle.zarr_codecs_json.specs.Outcomes.{AppendsItems, elements_data, payload_data}
use Rattle.zarr_codecs_json.proofs.PrintedTexts.{begins_more, begins_trans, begins_same}
use Rattle.zarr_codecs_json.proofs.Valid.{known_width, known_fixed, some_data}

-- ---- elements by their index

-- the elements are some where one of them has an index
pub some_cells : (type : DataType) (payload : Payload) (index : ℕ) → index < length (all_cells type payload) → (cells : List Cell) × (cells_in type payload ≡ Some cells) × (all_cells type payload ≡ cells)
some_cells type payload index less = at_cells (cells_in type payload) refl less where
  at_cells : (o : Option (List Cell)) → cells_in type payload ≡ o → index < length (unwrap_or o []) → (cells : List Cell) × (cells_in type payload ≡ Some cells) × (all_cells type payload ≡ cells)
  at_cells None is less = absurd (omega arith)
  at_cells (Some cells) is less = (cells, is, ap (λ o. unwrap_or o []) is)

pub counted_cells : (type : DataType) (payload : Payload) (count : ℕ) → Some count ≡ option_map length (cells_in type payload) → (cells_in type payload ≡ Some (all_cells type payload)) × (length (all_cells type payload) ≡ count)
counted_cells type payload count h = at_cells (cells_in type payload) h where
  at_cells : (o : Option (List Cell)) → Some count ≡ option_map length o → (o ≡ Some (unwrap_or o [])) × (length (unwrap_or o []) ≡ count)
  at_cells None h = cc
  at_cells (Some cells) h = (refl, sym (some_same h))

-- an element of one size
pub record IsFixedAt (type : DataType) (width : ℕ) (bytes : List ℕ) (index : ℕ) : Type 0 where
  pub within : index * width + width ≤ length bytes
  pub is : get_or (all_cells type (fixed bytes)) index absent ≡ of_bytes (take width (drop (index * width) bytes))

pub fixed_at : (type : DataType) (width : ℕ) (bytes : List ℕ) (index : ℕ) → 0 < width → single_width type ≡ Some width → index < length (all_cells type (fixed bytes)) → IsFixedAt type width bytes index
fixed_at type width bytes index some wide less =
    let found = some_cells type (fixed bytes) index less in
    let inside : fixed_in width bytes ≡ Some found.0 = sym (ap (λ (o : Option ℕ). option_and_then (λ n. fixed_in n bytes) o) (known_width type width wide)) ∙ found.1 in
    let w = fixed_in-whole width bytes found.0 inside in
    let are : all_cells type (fixed bytes) ≡ fixed_cells width bytes = found.2 ∙ w.is in
    let below : index < length bytes / width = omega (arith, less, ap length are, length-fixed_cells width bytes) in
    let long = whole_length width bytes w.whole in
    let more : (index + 1) * width ≤ (length bytes / width) * width = mul-le-mul_right width (omega arith) in
    let next : (index + 1) * width ≡ index * width + width = grind arith in
    record {
      within = omega (arith, long, more, next);
      is = ap (λ cells. get_or cells index absent) are ∙ get_or-fixed_cells width bytes index absent below;
    }

no_variable : (type : DataType) (bytes : List ℕ) (index : ℕ) → cells_in type (fixed bytes) ≡ None → index < length (all_cells type (fixed bytes)) → ⊥
no_variable type bytes index none less = omega (arith, ap (λ (o : Option (List Cell)). length (unwrap_or o [])) none)

-- an element of one size of a type of other than one number has no text
pub not_single : (type : DataType) (bytes : List ℕ) (index : ℕ) → None ≡ single_width type → index < length (all_cells type (fixed bytes)) → cell_data type (get_or (all_cells type (fixed bytes)) index absent) ≡ None
not_single bool bytes index none less = cc
not_single (integer sign width) bytes index none less = cc
not_single (custom parts) bytes index none less =
    let type = custom parts in
    let found = some_cells type (fixed bytes) index less in
    let w = fixed_in-whole (bytes_in parts) bytes found.0 found.1 in
    let are : all_cells type (fixed bytes) ≡ fixed_cells (bytes_in parts) bytes = found.2 ∙ w.is in
    let below : index < length bytes / bytes_in parts = omega (arith, less, ap length are, length-fixed_cells (bytes_in parts) bytes) in
    let element = take (bytes_in parts) (drop (index * bytes_in parts) bytes) in
    ap (cell_data type) (ap (λ cells. get_or cells index absent) are ∙ get_or-fixed_cells (bytes_in parts) bytes index absent below) ∙ either (is_value_in_bytes type element) (bytes_data type element) refl where
      either : (b : Bool) (o : Option Data) → o ≡ None → (if b then o else None) ≡ None
      either true o is = is
      either false o is = refl
not_single string bytes index none less = absurd (no_variable string bytes index refl less)
not_single variable_bytes bytes index none less = absurd (no_variable variable_bytes bytes index refl less)
not_single (optional_of inner) bytes index none less = absurd (no_variable (optional_of inner) bytes index refl less)

-- ---- an element of variable length

pub record IsVariableAt (offsets bytes : List ℕ) (cells : List Cell) (index next : ℕ) : Type 0 where
  pub follows : next ≡ index + 1
  pub enough : next < length offsets
  pub rises : get_or offsets index 0 ≤ get_or offsets next 0
  pub within : get_or offsets next 0 ≤ length bytes
  pub is : get_or cells index absent ≡ of_bytes (take (get_or offsets next 0 - get_or offsets index 0) (drop (get_or offsets index 0) bytes))

first_within : (start : ℕ) (ends bytes : List ℕ) (pieces : List (List ℕ)) → bytes_between start ends bytes ≡ Some pieces → start ≤ length bytes
first_within start [] bytes pieces h = let t = if_some (start == length bytes) (Some []) pieces h in let e = eqb-true start (length bytes) t.0 in omega arith
first_within start (end ∷ ends) bytes pieces h =
    let t = if_some (nat_le start end) (option_map (λ rest. take (end - start) (drop start bytes) ∷ rest) (bytes_between end ends bytes)) pieces h in
    let rest = map_some (λ rest. take (end - start) (drop start bytes) ∷ rest) (bytes_between end ends bytes) pieces t.1 in
    let low = leb-true start end t.0 in
    let high = first_within end ends bytes rest.0 rest.1 in
    omega arith

between_at : (start : ℕ) (ends bytes : List ℕ) (pieces : List (List ℕ)) (index : ℕ) → bytes_between start ends bytes ≡ Some pieces → index < length pieces → IsVariableAt (start ∷ ends) bytes (map of_bytes pieces) index (suc index)
between_at start [] bytes pieces index h less = let t = if_some (start == length bytes) (Some []) pieces h in absurd (omega (arith, ap length (some_same t.1)))
between_at start (end ∷ ends) bytes pieces index h less =
    let t = if_some (nat_le start end) (option_map (λ rest. take (end - start) (drop start bytes) ∷ rest) (bytes_between end ends bytes)) pieces h in
    let rest = map_some (λ rest. take (end - start) (drop start bytes) ∷ rest) (bytes_between end ends bytes) pieces t.1 in
    subst (λ ps. IsVariableAt (start ∷ (end ∷ ends)) bytes (map of_bytes ps) index (suc index)) rest.2
    (at_index rest.0 index (omega (arith, less, ap length rest.2)) (leb-true start end t.0) (first_within end ends bytes rest.0 rest.1) (λ k below. between_at end ends bytes rest.0 k rest.1 below)) where
      at_index : (pieces : List (List ℕ)) (k : ℕ) → k < suc (length pieces) → start ≤ end → end ≤ length bytes → ((k : ℕ) → k < length pieces → IsVariableAt (end ∷ ends) bytes (map of_bytes pieces) k (suc k))
          → IsVariableAt (start ∷ (end ∷ ends)) bytes (map of_bytes (take (end - start) (drop start bytes) ∷ pieces)) k (suc k)
      at_index pieces zero below low high law = record { follows = omega arith; enough = omega arith; rises = low; within = high; is = refl }
      at_index pieces (suc k) below low high law = let r = law k (omega arith) in record { follows = omega arith; enough = omega (arith, r.enough); rises = r.rises; within = r.within; is = r.is }

pub variable_at : (type : DataType) (offsets bytes : List ℕ) (index : ℕ) → index < length (all_cells type (variable bytes offsets)) → IsVariableAt offsets bytes (all_cells type (variable bytes offsets)) index (suc index)
variable_at type offsets bytes index less =
    let found = some_cells type (variable bytes offsets) index less in
    let t = if_some (is_variable type) (variable_in offsets bytes) found.0 found.1 in
    subst (λ cells. IsVariableAt offsets bytes cells index (suc index)) (sym found.2) (at_offsets offsets found.0 t.1 (omega (arith, less, ap length found.2))) where
      at_offsets : (offsets : List ℕ) (cells : List Cell) → variable_in offsets bytes ≡ Some cells → index < length cells → IsVariableAt offsets bytes cells index (suc index)
      at_offsets [] cells h below = cc
      at_offsets (start ∷ ends) cells h below =
          let pieces = map_some (map of_bytes) (bytes_between start ends bytes) cells h in
          subst (λ cs. IsVariableAt (start ∷ ends) bytes cs index (suc index)) pieces.2 (between_at start ends bytes pieces.0 index pieces.1 (omega (arith, below, ap length (sym pieces.2), length-map pieces.0 of_bytes)))

pub variable_at_slice : (type : DataType) (offsets numbers bytes : List ℕ) (index : ℕ) → offsets ≡ numbers → index < length (all_cells type (variable bytes numbers)) → IsVariableAt offsets bytes (all_cells type (variable bytes numbers)) index (index + 1)
variable_at_slice type offsets numbers bytes index same less =
    let e : suc index ≡ index + 1 = omega arith in
    subst (λ ns. IsVariableAt ns bytes (all_cells type (variable bytes numbers)) index (index + 1)) (sym same) (subst (λ k. IsVariableAt numbers bytes (all_cells type (variable bytes numbers)) index k) e (variable_at type numbers bytes index less))

-- ---- an element of an optional type

pub record IsOptionalAt (inner : DataType) (below : Payload) (mask : List ℕ) (index : ℕ) : Type 0 where
  pub marked : index < length mask
  pub stands : index < length (all_cells inner below)
  pub is : get_or (all_cells (optional_of inner) (optional below mask)) index absent ≡ (if get_or mask index 1 == 0 then absent else present (get_or (all_cells inner below) index absent))

pub optional_at : (inner : DataType) (below : Payload) (mask : List ℕ) (index : ℕ) → index < length (all_cells (optional_of inner) (optional below mask)) → IsOptionalAt inner below mask index
optional_at inner below mask index less =
    let found = some_cells (optional_of inner) (optional below mask) index less in
    let parts = bind_some (λ cs. masked_in cs mask) (cells_in inner below) found.0 found.1 in
    let are : all_cells inner below ≡ parts.0 = ap (λ (o : Option (List Cell)). unwrap_or o []) parts.1 in
    let long = masked_lengths parts.0 mask found.0 parts.2 in
    let here : index < length found.0 = omega (arith, less, ap length found.2) in
    record {
      marked = omega (arith, here, long.0);
      stands = omega (arith, here, long.0, long.1, ap length are);
      is =
          ap (λ cells. get_or cells index absent) found.2
          ∙ (masked_at parts.0 mask found.0 index parts.2 here ∙ ap (λ cells. if get_or mask index 1 == 0 then absent else present (get_or cells index absent)) (sym are));
    }

pub absent_data : (inner : DataType) (below : Payload) (mask : List ℕ) (index : ℕ) → IsOptionalAt inner below mask index → get_or mask index 0 ≡ 0
    → cell_data (optional_of inner) absent ≡ cell_data (optional_of inner) (get_or (all_cells (optional_of inner) (optional below mask)) index absent)
absent_data inner below mask index at is_zero =
    let zero_ = get_or_default mask index 1 0 at.marked ∙ is_zero in
    ap (cell_data (optional_of inner)) (sym (at.is ∙ ap (λ (b : Bool). if b then absent else present (get_or (all_cells inner below) index absent)) (eq-eqb (get_or mask index 1) 0 zero_)))

pub present_data : (inner : DataType) (below : Payload) (mask : List ℕ) (index : ℕ) → IsOptionalAt inner below mask index → (get_or mask index 0 ≡ 0 → ⊥)
    → option_map (λ d. array (item d no_items)) (cell_data inner (get_or (all_cells inner below) index absent)) ≡ cell_data (optional_of inner) (get_or (all_cells (optional_of inner) (optional below mask)) index absent)
present_data inner below mask index at some =
    let other : get_or mask index 1 ≡ get_or mask index 0 = get_or_default mask index 1 0 at.marked in
    ap (cell_data (optional_of inner)) (sym (at.is ∙ ap (λ (b : Bool). if b then absent else present (get_or (all_cells inner below) index absent)) (ne_eqb (get_or mask index 1) 0 (λ e. some (sym other ∙ e)))))

-- ---- what is appended

pub same_appends : (o p : Option Data) (before text_ : List ℕ) (b : Bool) → o ≡ p → Appends o before text_ b → Appends p before text_ b
same_appends o p before text_ b is h = subst (λ o. Appends o before text_ b) is h

-- a list of one value, where its text is appended between brackets
pub one_appended : (o : Option Data) (before opened inner closed : List ℕ) → opened ≡ before ++ 91 ∷ [] → Appends o opened inner true → closed ≡ inner ++ 93 ∷ [] → Appends (option_map (λ d. array (item d no_items)) o) before closed true
one_appended o before opened inner closed first h last = (
  array (item h.0 no_items),
  ap (option_map (λ d. array (item d no_items))) h.1,
  last
      ∙ (ap (λ ns. ns ++ 93 ∷ []) h.2
      ∙ (ap (λ ns. (ns ++ compact_text h.0) ++ 93 ∷ []) first
      ∙ (append_assoc (before ++ 91 ∷ []) (compact_text h.0) (93 ∷ []) ∙ append_assoc before (91 ∷ []) (compact_text h.0 ++ 93 ∷ [])))),
)

pub one_refused : (o : Option Data) (before opened inner : List ℕ) → opened ≡ before ++ 91 ∷ [] → Appends o opened inner false → Appends (option_map (λ d. array (item d no_items)) o) before inner false
one_refused o before opened inner first h = (ap (option_map (λ d. array (item d no_items))) h.0, begins_trans before opened inner (begins_more before before (91 ∷ []) opened (begins_same before before refl) first) h.1)

pub value_data : (type : DataType) (bytes : List ℕ) → is_value_in_bytes type bytes ≡ true → bytes_data type bytes ≡ cell_data type (of_bytes bytes)
value_data type bytes h = sym (ap (λ (b : Bool). if b then bytes_data type bytes else None) h)

pub no_value_data : (type : DataType) (bytes : List ℕ) → is_value_in_bytes type bytes ≡ false → cell_data type (of_bytes bytes) ≡ None
no_value_data type bytes h = ap (λ (b : Bool). if b then bytes_data type bytes else None) h

pub value_is_short : (type : DataType) (width : ℕ) (bytes : List ℕ) → single_width type ≡ Some width → is_value_in_bytes type bytes ≡ true → length bytes ≡ width
value_is_short type width bytes wide h =
    let both = and_parts (are_bytes bytes) (if is_fixed type then (length bytes == bytes_in (components type)) && are_components (components type) bytes else is_variable type) h in
    let inside = sym (ap (λ (b : Bool). if b then (length bytes == bytes_in (components type)) && are_components (components type) bytes else is_variable type) (known_fixed type width wide)) ∙ both.1 in
    let long = eqb-true (length bytes) (bytes_in (components type)) (and_parts (length bytes == bytes_in (components type)) (are_components (components type) bytes) inside).0 in
    let known : Some (bytes_in (components type)) ≡ Some width = sym (ap (λ (b : Bool). if b then Some (bytes_in (components type)) else None) (known_fixed type width wide)) ∙ known_width type width wide in
    long ∙ some_same known

-- the text of a number was appended
pub number_appended : (type : DataType) (width : ℕ) (bytes before text_ : List ℕ) → Some width ≡ single_width type → is_value_in_bytes type bytes ≡ true → text_ ≡ before ++ compact_text (element_data type bytes) → Appends (cell_data type (of_bytes bytes)) before text_ true
number_appended type width bytes before text_ wide h is = (element_data type bytes, sym (value_data type bytes h) ∙ some_data type width bytes (sym wide), is)

pub number_is_short : (type : DataType) (width : ℕ) (bytes : List ℕ) → width ≤ 8 → Some width ≡ single_width type → is_value_in_bytes type bytes ≡ true → length bytes ≤ 8
number_is_short type width bytes few wide h = let long = value_is_short type width bytes (sym wide) h in omega (arith, long, few)

-- the text of a string was appended
pub string_appended : (bytes string_ before text_ : List ℕ) → IsUtf8 bytes → string_ ≡ bytes → text_ ≡ before ++ quoted string_ → Appends (bytes_data string bytes) before text_ true
string_appended bytes string_ before text_ u same is = (text bytes, sym (text_written bytes u), is ∙ ap (λ s. before ++ quoted s) same)

-- the text of a list was appended after its beginning
pub list_appended : (before opened new : List ℕ) (ds es : Items) → opened ≡ before ++ 91 ∷ [] → new ≡ opened ++ items_text false ds → ds ≡ es → new ≡ before ++ compact_text (array es)
list_appended before opened new ds es h k e = k ∙ (ap (λ ns. ns ++ items_text false ds) h ∙ (append_assoc before (91 ∷ []) (items_text false ds) ∙ ap (λ ds. before ++ 91 ∷ items_text false ds) e))

-- an element of a type that is no string and no bytes has no text by its bytes, where it is no number
pub other_data : (t : types.DataType) (bytes : List ℕ) → single_width (type_of t) ≡ None → (t ≡ types.String → ⊥) → (t ≡ types.Bytes → ⊥) → bytes_data (type_of t) bytes ≡ None
other_data types.Bool bytes h s b = cc
other_data types.Int2 bytes h s b = cc
other_data types.Int4 bytes h s b = cc
other_data types.Int8 bytes h s b = cc
other_data types.Int16 bytes h s b = cc
other_data types.Int32 bytes h s b = cc
other_data types.Int64 bytes h s b = cc
other_data types.UInt2 bytes h s b = cc
other_data types.UInt4 bytes h s b = cc
other_data types.UInt8 bytes h s b = cc
other_data types.UInt16 bytes h s b = cc
other_data types.UInt32 bytes h s b = cc
other_data types.UInt64 bytes h s b = cc
other_data types.String bytes h s b = absurd (s refl)
other_data types.Bytes bytes h s b = absurd (b refl)
other_data (types.Optional' p inner) bytes h s b = refl
other_data (types.Custom parts) bytes h s b = refl

-- bytes as numbers
pub bytes_as_items : (bytes : List ℕ) → fixed_data (integer unsigned 8) 1 bytes ≡ byte_items bytes
bytes_as_items [] = ap (λ cells. items_of (map (λ cell. element_data (integer unsigned 8) (cell_bytes cell)) cells)) (fixed_cells-nil 1)
bytes_as_items (b ∷ bytes) =
    let e : b + 256 * 0 ≡ b = omega arith in
    ap (λ cells. items_of (map (λ cell. element_data (integer unsigned 8) (cell_bytes cell)) cells)) (fixed_cells-cons 1 (b ∷ []) bytes (omega arith) refl)
    ∙ (ap (λ n. item (number (natural n)) (fixed_data (integer unsigned 8) 1 bytes)) e ∙ ap (item (number (natural b))) (bytes_as_items bytes))

-- ---- lists

-- the text of a list from here on, where each element has one
abbrev pub listed : DataType → Bool → List Cell → Option (List ℕ)
listed type later cells = option_map (items_text later) (elements_data type cells)

-- the whole text is what stands there and the text of the elements left
pub record AreListed (type : DataType) (old now : List ℕ) (index : ℕ) (cells : List Cell) : Type 0 where
  pub same : option_map (λ more. now ++ more) (listed type (nat_lt 0 index) (drop index cells)) ≡ option_map (λ more. old ++ more) (listed type false cells)
  pub begins : Begins old now

pub none_listed : (type : DataType) (old now : List ℕ) (cells : List Cell) → now ≡ old → AreListed type old now 0 cells
none_listed type old now cells is = record { same = ap (λ ns. option_map (λ more. ns ++ more) (listed type false cells)) is; begins = begins_same old now is }

first_listed : (type : DataType) (later : Bool) (cell : Cell) (cells : List Cell) (d : Data) → cell_data type cell ≡ Some d → listed type later (cell ∷ cells) ≡ option_map (λ more. comma_if later ++ (compact_text d ++ more)) (listed type true cells)
first_listed type later cell cells d has = ap (λ (o : Option Data). option_map (items_text later) (option_and_then (λ d. option_map (λ ds. item d ds) (elements_data type cells)) o)) has ∙ at_rest (elements_data type cells) where
  at_rest : (o : Option Items) → option_map (items_text later) (option_map (λ ds. item d ds) o) ≡ option_map (λ more. comma_if later ++ (compact_text d ++ more)) (option_map (items_text true) o)
  at_rest None = refl
  at_rest (Some ds) = refl

joined_listed : (now comma mid piece new : List ℕ) (o : Option (List ℕ)) → mid ≡ now ++ comma → new ≡ mid ++ piece → option_map (λ more. new ++ more) o ≡ option_map (λ more. now ++ more) (option_map (λ more. comma ++ (piece ++ more)) o)
joined_listed now comma mid piece new None h k = refl
joined_listed now comma mid piece new (Some more) h k = ap Some (ap (λ ns. ns ++ more) (k ∙ ap (λ ns. ns ++ piece) h) ∙ (append_assoc (now ++ comma) piece more ∙ append_assoc now comma (piece ++ more)))

later_next : (index : ℕ) → nat_lt 0 (index + 1) ≡ true
later_next index = lt-ltb 0 (index + 1) (omega arith)

pub one_listed : (type : DataType) (old now mid new : List ℕ) (index : ℕ) (cells : List Cell) → index < length cells → mid ≡ now ++ comma_if (nat_lt 0 index) → Appends (cell_data type (get_or cells index absent)) mid new true → AreListed type old now index cells
    → AreListed type old new (index + 1) cells
one_listed type old now mid new index cells less comma h r =
    let c = get_or cells index absent in
    let rest = drop (index + 1) cells in
    record {
      same =
          ap (λ (b : Bool). option_map (λ more. new ++ more) (listed type b rest)) (later_next index)
          ∙ (joined_listed now (comma_if (nat_lt 0 index)) mid (compact_text h.0) new (listed type true rest) comma h.2
          ∙ (ap (option_map (λ more. now ++ more)) (sym (first_listed type (nat_lt 0 index) c rest h.0 h.1))
          ∙ (ap (λ cs. option_map (λ more. now ++ more) (listed type (nat_lt 0 index) cs)) (sym (drop_more cells index absent less)) ∙ r.same)));
      begins = begins_more old mid (compact_text h.0) new (begins_more old now (comma_if (nat_lt 0 index)) mid r.begins comma) h.2;
    }

no_list : (type : DataType) (old : List ℕ) (cells : List Cell) → option_map (λ more. old ++ more) (listed type false cells) ≡ None → elements_data type cells ≡ None
no_list type old cells h = at_list (elements_data type cells) h where
  at_list : (o : Option Items) → option_map (λ more. old ++ more) (option_map (items_text false) o) ≡ None → o ≡ None
  at_list None h = refl
  at_list (Some ds) h = cc

pub not_listed : (type : DataType) (old now mid new : List ℕ) (index : ℕ) (cells : List Cell) → index < length cells → mid ≡ now ++ comma_if (nat_lt 0 index) → Appends (cell_data type (get_or cells index absent)) mid new false → AreListed type old now index cells
    → (elements_data type cells ≡ None) × Begins old new
not_listed type old now mid new index cells less comma h r = (
  no_list type old cells
      (sym r.same
      ∙ (ap (λ cs. option_map (λ more. now ++ more) (listed type (nat_lt 0 index) cs)) (drop_more cells index absent less)
      ∙ ap (λ (o : Option Data). option_map (λ more. now ++ more) (option_map (items_text (nat_lt 0 index)) (option_and_then (λ d. option_map (λ ds. item d ds) (elements_data type (drop (index + 1) cells))) o))) h.0)),
  begins_trans old mid new (begins_more old now (comma_if (nat_lt 0 index)) mid r.begins comma) h.1,
)

pub all_listed : (type : DataType) (old now new : List ℕ) (index : ℕ) (cells : List Cell) → length cells ≤ index → new ≡ now ++ 93 ∷ [] → AreListed type old now index cells → AppendsItems (elements_data type cells) old new true
all_listed type old now new index cells ended last r = at_list (elements_data type cells) (sym r.same ∙ ap (λ cs. option_map (λ more. now ++ more) (listed type (nat_lt 0 index) cs)) (drop_all index cells ended)) where
  at_list : (o : Option Items) → option_map (λ more. old ++ more) (option_map (items_text false) o) ≡ Some (now ++ 93 ∷ []) → AppendsItems o old new true
  at_list None h = cc
  at_list (Some ds) h = (ds, refl, last ∙ sym (some_same h))

pub payload_of_cells : (type : DataType) (payload : Payload) → cells_in type payload ≡ Some (all_cells type payload) → elements_data type (all_cells type payload) ≡ payload_data type payload
payload_of_cells type payload h = sym (ap (option_and_then (elements_data type)) h)
