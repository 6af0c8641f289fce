-- What `packbits` keeps of an element is a value of the type, and of it all is kept.
use Rattle.std.proofs.Common.{◌≡◌, ℕ, ◌+◌, ◌*◌, ◌/◌, ◌%◌, ◌^◌, ◌<◌, ◌≤◌, List, [], ◌∷◌, ◌++◌, length, map, take, drop, ap, ◌∙◌, sym, refl, arith, Option, Bool, true, ◌&&◌, ◌==◌, if◌then◌else◌, length-append, length-take, length-drop, pow-add, pow_mono, pow_pos, subst}
use Rattle.std.specs.Prelude.{nat_lt, nat_le}
use Rattle.std.specs.List.{list_all, flat_map}
use Rattle.std.proofs.lemmas.Bool.{eq-eqb, ltb-true, lt-ltb, leb-true, and_parts}
use Rattle.std.proofs.lemmas.List.{length-map}
use Rattle.std.proofs.Math.Seq.{take-append_seam, drop-append_seam}
use Rattle.std.proofs.Math.Nat.{mul-lt-mul_of_pos_right}
use Rattle.zarr_codecs_meaning.specs.Numbers.{digits, number}
use Rattle.zarr_codecs_meaning.specs.Types.{DataType, Component, components, bytes_in, is_fixed, is_variable, is_value, are_bytes, is_component, are_components, extended, Cell, of_bytes, cell_bytes, Elements}
use Rattle.zarr_codecs_meaning.specs.Chains.{Padding}
use Rattle.zarr_codecs_meaning.specs.Chains.Chain.{packbits}
use Rattle.zarr_codecs_meaning.specs.Fits.{last_kept, kept_bits, bits_fit}
use Rattle.zarr_codecs_meaning.specs.Encoding.{element_bits, element_of_bits}
use Rattle.zarr_codecs_meaning.specs.Keeping.{kept}
use Rattle.zarr_codecs_meaning.specs.Laws.{AreCells}
use Rattle.zarr_codecs_meaning.proofs.Lists.{Each, each_passes, all_pass, each_weaker, each_map, each_append}
use Rattle.zarr_codecs_meaning.proofs.Values.{fixed_value, length-digits}
use Rattle.zarr_codecs_meaning.proofs.Digits.{digits_below, bytes_below, each-take, each-drop}
use Rattle.zarr_codecs_meaning.proofs.Elements.{are_bits, kept_cell}
use Rattle.zarr_codecs_meaning.proofs.KeptBits.{field_again, component_kept, number_below}

-- the kept bits of a component lie within it
pub record KeepsBits (first : ℕ) (last : Option ℕ) (c : Component) : Type 0 where
  pub are : last_kept last c + 1 ≡ first + kept_bits first last c
  pub within : last_kept last c + 1 ≤ c.width

keeps_bits : (first : ℕ) (last : Option ℕ) (c : Component) → bits_fit first last c ≡ true → KeepsBits first last c
keeps_bits first last c h =
    let both = and_parts (nat_le first (last_kept last c)) (nat_lt (last_kept last c) c.width) h in
    let from = leb-true first (last_kept last c) both.0 in
    let to = ltb-true (last_kept last c) c.width both.1 in
    record { are = omega (arith, from); within = omega (arith, to) }

keep_bits : (first : ℕ) (last : Option ℕ) (parts : List Component) → list_all (bits_fit first last) parts ≡ true → Each (KeepsBits first last) parts
keep_bits first last parts h = each_weaker (λ (c : Component). bits_fit first last c ≡ true) (KeepsBits first last) parts (keeps_bits first last) (each_passes (bits_fit first last) parts h)

below_power : (count : ℕ) (element : List ℕ) → Each (λ b. b < 256) element → count ≤ length element → number 256 (take count element) < 256 ^ count
below_power count element below long =
    let front = take count element in
    subst (λ n. number 256 front < 256 ^ n) {x = length front} {y = count} (length-take count element ∙ omega (arith, long)) (number_below 256 front (each-take (λ b. b < 256) count element below))

-- what stands before a seam, of bytes of which the length is told
front_of : (n : ℕ) (front back : List ℕ) → length front ≡ n → (take n (front ++ back) ≡ front) × (drop n (front ++ back) ≡ back)
front_of n front back long = (ap (λ k. take k (front ++ back)) (sym long) ∙ take-append_seam front back, ap (λ k. drop k (front ++ back)) (sym long) ∙ drop-append_seam front back)

-- the kept bits of an element of kept bits are those
element_again : (first : ℕ) (last : Option ℕ) (parts : List Component) (element : List ℕ) → Each (KeepsBits first last) parts → length element ≡ bytes_in parts → Each (λ b. b < 256) element
    → element_bits first last parts (element_of_bits first last parts (element_bits first last parts element)) ≡ element_bits first last parts element
element_again first last [] element keeps long below = refl
element_again first last (c ∷ cs) element keeps long below =
    let n = c.byte_count in
    let count = kept_bits first last c in
    let whole = number 256 (take n element) in
    let bits = digits 2 count (whole / 2 ^ first) in
    let others = element_bits first last cs (drop n element) in
    let cut = front_of count bits others (length-digits 2 count (whole / 2 ^ first)) in
    let field = λ (ns : List ℕ). digits 256 n (extended c.sign (last_kept last c + 1) n (number 2 ns * 2 ^ first)) in
    let rest = element_of_bits first last cs others in
    let made : element_of_bits first last (c ∷ cs) (bits ++ others) ≡ field bits ++ rest = ap (λ ns. field ns ++ element_of_bits first last cs (drop count (bits ++ others))) cut.0 ∙ ap (λ ns. field bits ++ element_of_bits first last cs ns) cut.1 in
    let again = front_of n (field bits) rest (length-digits 256 n (extended c.sign (last_kept last c + 1) n (number 2 bits * 2 ^ first))) in
    let here : digits 2 count (number 256 (field bits) / 2 ^ first) ≡ bits = field_again c.sign first count (last_kept last c + 1) n whole keeps.0.are (below_power n element below (omega (arith, long))) in
    ap (element_bits first last (c ∷ cs)) made
    ∙ (ap (λ ns. digits 2 count (number 256 ns / 2 ^ first) ++ element_bits first last cs (drop n (field bits ++ rest))) again.0
    ∙ (ap (λ ns. digits 2 count (number 256 (field bits) / 2 ^ first) ++ element_bits first last cs ns) again.1
    ∙ (ap (λ ns. ns ++ element_bits first last cs rest) here ∙ ap (λ ns. bits ++ ns) (element_again first last cs (drop n element) keeps.1 (length-drop n element ∙ omega (arith, long)) (each-drop (λ b. b < 256) n element below)))))

length-made : (first : ℕ) (last : Option ℕ) (parts : List Component) (bits : List ℕ) → length (element_of_bits first last parts bits) ≡ bytes_in parts
length-made first last [] bits = refl
length-made first last (c ∷ cs) bits =
    let made = extended c.sign (last_kept last c + 1) c.byte_count (number 2 (take (kept_bits first last c) bits) * 2 ^ first) in
    let rest = length-made first last cs (drop (kept_bits first last c) bits) in
    length-append (digits 256 c.byte_count made) (element_of_bits first last cs (drop (kept_bits first last c) bits)) ∙ omega (arith, rest, length-digits 256 c.byte_count made)

bytes_made : (first : ℕ) (last : Option ℕ) (parts : List Component) (bits : List ℕ) → Each (λ b. b < 256) (element_of_bits first last parts bits)
bytes_made first last [] bits = tt
bytes_made first last (c ∷ cs) bits =
    let made = extended c.sign (last_kept last c + 1) c.byte_count (number 2 (take (kept_bits first last c) bits) * 2 ^ first) in
    each_append (λ b. b < 256) (digits 256 c.byte_count made) (element_of_bits first last cs (drop (kept_bits first last c) bits)) (digits_below 256 c.byte_count made (omega arith)) (bytes_made first last cs (drop (kept_bits first last c) bits))

-- the number of kept bits, at their place, is less than their end
placed_small : (first count end : ℕ) (bits : List ℕ) → end ≡ first + count → Each (λ b. b < 2) bits → number 2 (take count bits) * 2 ^ first < 2 ^ end
placed_small first count end bits is below =
    let front = take count bits in
    let long : length front ≤ count = omega (arith, length-take count bits) in
    let low = number_below 2 front (each-take (λ b. b < 2) count bits below) in
    let more : 2 ^ length front ≤ 2 ^ count = pow_mono long in
    let small : number 2 front < 2 ^ count = omega (arith, low, more) in
    let scaled : number 2 front * 2 ^ first < 2 ^ count * 2 ^ first = mul-lt-mul_of_pos_right small (pow_pos first) in
    let power : 2 ^ end ≡ 2 ^ count * 2 ^ first = ap (λ k. 2 ^ k) is ∙ (pow-add 2 first count ∙ grind arith) in
    omega (arith, scaled, power)

components_made : (first : ℕ) (last : Option ℕ) (parts : List Component) (bits : List ℕ) → Each (KeepsBits first last) parts → Each (λ b. b < 2) bits → are_components parts (element_of_bits first last parts bits) ≡ true
components_made first last [] bits keeps below = refl
components_made first last (c ∷ cs) bits keeps below =
    let n = c.byte_count in
    let count = kept_bits first last c in
    let end = last_kept last c + 1 in
    let placed = number 2 (take count bits) * 2 ^ first in
    let field = digits 256 n (extended c.sign end n placed) in
    let rest = element_of_bits first last cs (drop count bits) in
    let cut = front_of n field rest (length-digits 256 n (extended c.sign end n placed)) in
    let here = component_kept c.sign c.width end n placed (placed_small first count end bits keeps.0.are below) (omega arith) keeps.0.within in
    let is : is_component c field ≡ true = eq-eqb (number 256 field) (extended c.sign c.width n (number 256 field % 2 ^ c.width)) here in
    ap (λ ns. is_component c ns && are_components cs (drop n (field ++ rest))) cut.0
    ∙ (ap (λ ns. is_component c field && are_components cs ns) cut.1
    ∙ (ap (λ (b : Bool). b && are_components cs rest) is ∙ components_made first last cs (drop count bits) keeps.1 (each-drop (λ b. b < 2) count bits below)))

pub are_bytes_of : (element : List ℕ) → Each (λ b. b < 256) element → are_bytes element ≡ true
are_bytes_of element h = all_pass (λ b. nat_lt b 256) element (each_weaker (λ b. b < 256) (λ b. nat_lt b 256 ≡ true) element (λ b l. lt-ltb b 256 l) h)

-- an element of bits is a value
pub made_is_value : (first : ℕ) (last : Option ℕ) (type : DataType) (bits : List ℕ) → is_fixed type ≡ true → Each (KeepsBits first last) (components type) → Each (λ b. b < 2) bits → is_value type (of_bytes (element_of_bits first last (components type) bits)) ≡ true
made_is_value first last type bits fixed keeps below =
    let parts = components type in
    let element = element_of_bits first last parts bits in
    let one = are_bytes_of element (bytes_made first last parts bits) in
    let two = eq-eqb (length element) (bytes_in parts) (length-made first last parts bits) in
    let three = components_made first last parts bits keeps below in
    ap (λ (b : Bool). are_bytes element && (if b then (length element == bytes_in parts) && are_components parts element else is_variable type)) fixed
    ∙ (ap (λ (b : Bool). b && ((length element == bytes_in parts) && are_components parts element)) one ∙ (ap (λ (b : Bool). b && are_components parts element) two ∙ three))

kept_cell_value : (first : ℕ) (last : Option ℕ) (type : DataType) (cell : Cell) → is_fixed type ≡ true → Each (KeepsBits first last) (components type) → is_value type (kept_cell first last type cell) ≡ true
kept_cell_value first last type cell fixed keeps = made_is_value first last type (element_bits first last (components type) (cell_bytes cell)) fixed keeps (are_bits first last (components type) (cell_bytes cell))

kept_cell_bits : (first : ℕ) (last : Option ℕ) (type : DataType) (cell : Cell) → is_fixed type ≡ true → Each (KeepsBits first last) (components type) → is_value type cell ≡ true
    → element_bits first last (components type) (cell_bytes (kept_cell first last type cell)) ≡ element_bits first last (components type) (cell_bytes cell)
kept_cell_bits first last type cell fixed keeps is =
    let v = fixed_value type cell fixed is in
    let element : v.element ≡ cell_bytes cell = sym (ap cell_bytes v.is) in
    element_again first last (components type) (cell_bytes cell) keeps (sym (ap length element) ∙ v.long) (subst (λ ns. Each (λ b. b < 256) ns) element (bytes_below v.element v.bytes))

-- ---- the cells of an array

-- what the fitting of `packbits` says
pub record Packs (first : ℕ) (last : Option ℕ) (type : DataType) : Type 0 where
  pub fixed : is_fixed type ≡ true
  pub keeps : Each (KeepsBits first last) (components type)

pub packs : (first : ℕ) (last : Option ℕ) (type : DataType) → (is_fixed type && list_all (bits_fit first last) (components type)) ≡ true → Packs first last type
packs first last type fit =
    let both = and_parts (is_fixed type) (list_all (bits_fit first last) (components type)) fit in
    record { fixed = both.0; keeps = keep_bits first last (components type) both.1 }

pub packbits_cells : (padding : Padding) (first : ℕ) (last : Option ℕ) (elements : Elements) (shape : List ℕ) (cells : List Cell) → Packs first last elements.type → AreCells elements shape cells → AreCells elements shape (kept (packbits padding first last) elements shape cells)
packbits_cells padding first last elements shape cells packs are =
    let kept_one = kept_cell first last elements.type in
    record {
      fill = are.fill;
      values = all_pass (is_value elements.type) (map kept_one cells) (each_map (λ c. is_value elements.type c ≡ true) kept_one cells (λ c. kept_cell_value first last elements.type c packs.fixed packs.keeps));
      whole = length-map cells kept_one ∙ are.whole;
    }

pub packbits_twice : (first : ℕ) (last : Option ℕ) (type : DataType) (cells : List Cell) → Packs first last type → Each (λ c. is_value type c ≡ true) cells → map (kept_cell first last type) (map (kept_cell first last type) cells) ≡ map (kept_cell first last type) cells
packbits_twice first last type [] packs values = refl
packbits_twice first last type (c ∷ cs) packs values =
    let kept_one = kept_cell first last type in
    let here : kept_one (kept_one c) ≡ kept_one c = ap (λ bits. of_bytes (element_of_bits first last (components type) bits)) (kept_cell_bits first last type c packs.fixed packs.keeps values.0) in
    ap (λ (x : Cell). x ∷ map kept_one (map kept_one cs)) here ∙ ap (λ (xs : List Cell). kept_one c ∷ xs) (packbits_twice first last type cs packs values.1)

pub packbits_bits : (first : ℕ) (last : Option ℕ) (type : DataType) (cells : List Cell) → Packs first last type → Each (λ c. is_value type c ≡ true) cells
    → flat_map (λ c. element_bits first last (components type) (cell_bytes c)) (map (kept_cell first last type) cells) ≡ flat_map (λ c. element_bits first last (components type) (cell_bytes c)) cells
packbits_bits first last type [] packs values = refl
packbits_bits first last type (c ∷ cs) packs values =
    let bits = λ (x : Cell). element_bits first last (components type) (cell_bytes x) in
    ap (λ (ns : List ℕ). ns ++ flat_map bits (map (kept_cell first last type) cs)) (kept_cell_bits first last type c packs.fixed packs.keeps values.0)
    ∙ ap (λ (ns : List ℕ). bits c ++ ns) (packbits_bits first last type cs packs values.1)
