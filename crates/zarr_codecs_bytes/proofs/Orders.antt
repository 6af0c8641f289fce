-- Elements with the bytes of each component in a stored order.
use Rattle.std.proofs.Common.{◌≡◌, ℕ, zero, suc, ◌+◌, ◌*◌, ◌%◌, ◌<◌, ◌≤◌, List, [], ◌∷◌, ◌++◌, length, map, take, drop, reverse, ap, ◌∙◌, sym, refl, arith, Option, Some, None, inl, inr, length-append, length-take, length-drop, take-append-drop}
use Rattle.std.specs.List.{flat_map}
use Rattle.std.specs.Simd.{first_chunks}
use Rattle.std.proofs.lemmas.Bool.{cases_lt}
use Rattle.std.proofs.lemmas.List.{append-nil, nil_from_length, take_all, take_at, drop_at}
use Rattle.std.proofs.Math.Seq.{take-add}
use Rattle.std.proofs.Math.Nat.{mod-eq_of_lt, mod-eq-sub-mod}
use Rattle.zarr_codecs_meaning.specs.Types.{Component, bytes_in, Cell, of_bytes, cell_bytes}
use Rattle.zarr_codecs_meaning.specs.Chains.{Endianness}
use Rattle.zarr_codecs_meaning.specs.Chains.Endianness.{little, big}
use Rattle.zarr_codecs_meaning.specs.Encoding.{in_order, ordered}
use Rattle.zarr_codecs_meaning.specs.Payloads.{fixed_cells}
use Rattle.zarr_codecs_meaning.proofs.Elements.{ordered_twice}
use Rattle.zarr_codecs_meaning.proofs.Lists.{Each, every}
use Rattle.zarr_codecs_meaning.proofs.Values.{length-ordered}
use Rattle.zarr_codecs_arrays.proofs.FixedCells.{fixed_cells-cons, fixed_cells-nil}
use Rattle.zarr_codecs_bytes.specs.Orders.{all_ordered}

-- ---- one element after another

pub all_ordered-nil : (order : Option Endianness) (parts : List Component) → all_ordered order parts [] ≡ []
all_ordered-nil order parts = ap (flat_map (λ cell. ordered order parts (cell_bytes cell))) (fixed_cells-nil (bytes_in parts))

pub all_ordered-cons : (order : Option Endianness) (parts : List Component) (element others : List ℕ) → 0 < bytes_in parts → length element ≡ bytes_in parts
    → all_ordered order parts (element ++ others) ≡ ordered order parts element ++ all_ordered order parts others
all_ordered-cons order parts element others h long = ap (flat_map (λ cell. ordered order parts (cell_bytes cell))) (fixed_cells-cons (bytes_in parts) element others h long)

-- the first of several elements, and the others
record IsMore (width count : ℕ) (value : List ℕ) : Type 0 where
  one : length (take width value) ≡ width
  rest : length (drop width value) ≡ count * width
  is : take width value ++ drop width value ≡ value

more : (width count : ℕ) (value : List ℕ) → length value ≡ suc count * width → IsMore width count value
more width count value long =
    let sum : suc count * width ≡ width + count * width = grind arith in
    record {
      one = length-take width value ∙ omega (arith, long, sum);
      rest = length-drop width value ∙ omega (arith, long, sum);
      is = take-append-drop width value;
    }

none : (width : ℕ) (value : List ℕ) → length value ≡ 0 * width → value ≡ []
none width value long = nil_from_length value (long ∙ omega arith)

-- the elements that are written are those that are read
pub cells_ordered : (order : Option Endianness) (parts : List Component) (count : ℕ) (value : List ℕ) → 0 < bytes_in parts → length value ≡ count * bytes_in parts
    → fixed_cells (bytes_in parts) (all_ordered order parts value) ≡ map (λ cell. of_bytes (ordered order parts (cell_bytes cell))) (fixed_cells (bytes_in parts) value)
cells_ordered order parts zero value h long =
    let width = bytes_in parts in
    let step = λ (cell : Cell). of_bytes (ordered order parts (cell_bytes cell)) in
    let empty = none width value long in
    ap (λ ns. fixed_cells width (all_ordered order parts ns)) empty
    ∙ (ap (fixed_cells width) (all_ordered-nil order parts)
    ∙ (fixed_cells-nil width ∙ sym (ap (λ ns. map step (fixed_cells width ns)) empty ∙ ap (map step) (fixed_cells-nil width))))
cells_ordered order parts (suc count) value h long =
    let width = bytes_in parts in
    let step = λ (cell : Cell). of_bytes (ordered order parts (cell_bytes cell)) in
    let m = more width count value long in
    let front = take width value in
    let back = drop width value in
    ap (λ ns. fixed_cells width (all_ordered order parts ns)) (sym m.is)
    ∙ (ap (fixed_cells width) (all_ordered-cons order parts front back h m.one)
    ∙ (fixed_cells-cons width (ordered order parts front) (all_ordered order parts back) h (length-ordered order parts front m.one)
    ∙ (ap (λ cells. of_bytes (ordered order parts front) ∷ cells) (cells_ordered order parts count back h m.rest)
    ∙ sym (ap (λ ns. map step (fixed_cells width ns)) (sym m.is) ∙ ap (map step) (fixed_cells-cons width front back h m.one)))))

-- the same function undoes it
pub all_ordered_twice : (order : Option Endianness) (parts : List Component) (count : ℕ) (value : List ℕ) → 0 < bytes_in parts → length value ≡ count * bytes_in parts → all_ordered order parts (all_ordered order parts value) ≡ value
all_ordered_twice order parts zero value h long =
    let empty = none (bytes_in parts) value long in
    ap (λ ns. all_ordered order parts (all_ordered order parts ns)) empty ∙ (ap (all_ordered order parts) (all_ordered-nil order parts) ∙ (all_ordered-nil order parts ∙ sym empty))
all_ordered_twice order parts (suc count) value h long =
    let width = bytes_in parts in
    let m = more width count value long in
    let front = take width value in
    let back = drop width value in
    ap (λ ns. all_ordered order parts (all_ordered order parts ns)) (sym m.is)
    ∙ (ap (all_ordered order parts) (all_ordered-cons order parts front back h m.one)
    ∙ (all_ordered-cons order parts (ordered order parts front) (all_ordered order parts back) h (length-ordered order parts front m.one)
    ∙ (ap (λ ns. ns ++ all_ordered order parts (all_ordered order parts back)) (ordered_twice order parts front m.one)
    ∙ (ap (λ ns. front ++ ns) (all_ordered_twice order parts count back h m.rest) ∙ m.is))))

pub length-all_ordered : (order : Option Endianness) (parts : List Component) (count : ℕ) (value : List ℕ) → 0 < bytes_in parts → length value ≡ count * bytes_in parts
    → length (all_ordered order parts value) ≡ count * bytes_in parts
length-all_ordered order parts zero value h long = ap (λ ns. length (all_ordered order parts ns)) (none (bytes_in parts) value long) ∙ (ap length (all_ordered-nil order parts) ∙ omega arith)
length-all_ordered order parts (suc count) value h long =
    let width = bytes_in parts in
    let m = more width count value long in
    let front = take width value in
    let back = drop width value in
    let sum : suc count * width ≡ width + count * width = grind arith in
    let first = length-ordered order parts front m.one in
    let others = length-all_ordered order parts count back h m.rest in
    ap (λ ns. length (all_ordered order parts ns)) (sym m.is)
    ∙ (ap length (all_ordered-cons order parts front back h m.one) ∙ (length-append (ordered order parts front) (all_ordered order parts back) ∙ omega (arith, first, others, sum)))

-- the first components of an element, and the others
pub ordered_taken : (order : Option Endianness) (c : Component) (cs : List Component) (value : List ℕ) → c.byte_count ≤ length value
    → ordered order (c ∷ cs) (take (bytes_in (c ∷ cs)) value) ≡ in_order order (take c.byte_count value) ++ ordered order cs (take (bytes_in cs) (drop c.byte_count value))
ordered_taken order c cs value enough =
    let n = c.byte_count in
    let front = take n value in
    let back = take (bytes_in cs) (drop n value) in
    let long : length front ≡ n = length-take n value ∙ omega (arith, enough) in
    ap (ordered order (c ∷ cs)) (take-add n (bytes_in cs) value)
    ∙ (ap (λ ns. in_order order ns ++ ordered order cs (drop n (front ++ back))) (take_at front back n long)
    ∙ ap (λ ns. in_order order front ++ ordered order cs ns) (drop_at front back n long))

-- the first element, and the others
pub record IsFirst (order : Option Endianness) (parts : List Component) (value : List ℕ) : Type 0 where
  pub enough : bytes_in parts ≤ length value
  pub whole : length (drop (bytes_in parts) value) % bytes_in parts ≡ 0
  pub is : all_ordered order parts value ≡ ordered order parts (take (bytes_in parts) value) ++ all_ordered order parts (drop (bytes_in parts) value)

pub first_ordered : (order : Option Endianness) (parts : List Component) (value : List ℕ) → 0 < bytes_in parts → length value % bytes_in parts ≡ 0 → 0 < length value → IsFirst order parts value
first_ordered order parts value h whole some =
    let width = bytes_in parts in
    let enough : width ≤ length value = elim (cases_lt (length value) width) [ inl less ↦ (let same = mod-eq_of_lt less in absurd (omega (arith, same, whole, some))) | inr le ↦ le ] in
    record {
      enough = enough;
      whole = ap (λ n. n % width) (length-drop width value) ∙ (sym (mod-eq-sub-mod enough) ∙ whole);
      is = ap (all_ordered order parts) (sym (take-append-drop width value)) ∙ all_ordered-cons order parts (take width value) (drop width value) h (length-take width value ∙ omega (arith, enough));
    }

-- ---- orders that leave bytes where they are

-- the order leaves so many bytes where they are
abbrev pub Leaves : Option Endianness → Component → Type 0
Leaves order c = (component : List ℕ) → length component ≡ c.byte_count → in_order order component ≡ component

ordered_same : (order : Option Endianness) (parts : List Component) (element : List ℕ) → Each (Leaves order) parts → length element ≡ bytes_in parts → ordered order parts element ≡ element
ordered_same order [] element same long = sym (nil_from_length element long)
ordered_same order (c ∷ cs) element same long =
    let n = c.byte_count in
    ap (λ ns. ns ++ ordered order cs (drop n element)) (same.0 (take n element) (length-take n element ∙ omega (arith, long)))
    ∙ (ap (λ ns. take n element ++ ns) (ordered_same order cs (drop n element) same.1 (length-drop n element ∙ omega (arith, long))) ∙ take-append-drop n element)

pub all_ordered_same : (order : Option Endianness) (parts : List Component) (count : ℕ) (value : List ℕ) → Each (Leaves order) parts → 0 < bytes_in parts → length value ≡ count * bytes_in parts → all_ordered order parts value ≡ value
all_ordered_same order parts zero value same h long =
    let empty = none (bytes_in parts) value long in
    ap (all_ordered order parts) empty ∙ (all_ordered-nil order parts ∙ sym empty)
all_ordered_same order parts (suc count) value same h long =
    let width = bytes_in parts in
    let m = more width count value long in
    let front = take width value in
    let back = drop width value in
    ap (all_ordered order parts) (sym m.is)
    ∙ (all_ordered-cons order parts front back h m.one
    ∙ (ap (λ ns. ns ++ all_ordered order parts back) (ordered_same order parts front same m.one)
    ∙ (ap (λ ns. front ++ ns) (all_ordered_same order parts count back same h m.rest) ∙ m.is)))

pub short_reversed : (component : List ℕ) → length component ≤ 1 → reverse component ≡ component
short_reversed [] h = refl
short_reversed (b ∷ []) h = refl
short_reversed (b ∷ c ∷ component) h = absurd (omega arith)

pub none_leaves : (parts : List Component) → Each (Leaves None) parts
none_leaves parts = every (Leaves None) parts (λ c component long. refl)

pub little_leaves : (parts : List Component) → Each (Leaves (Some little)) parts
little_leaves parts = every (Leaves (Some little)) parts (λ c component long. refl)

-- ---- the bytes of each component the other way round

pub all_reversed : (width : ℕ) (c : Component) (count : ℕ) (value : List ℕ) → c.byte_count ≡ width → 0 < width → length value ≡ count * width
    → flat_map (λ ns. ns) (map reverse (first_chunks width count value)) ≡ all_ordered (Some big) (c ∷ []) value
all_reversed width c zero value same h long = sym (ap (all_ordered (Some big) (c ∷ [])) (none width value long) ∙ all_ordered-nil (Some big) (c ∷ []))
all_reversed width c (suc count) value same h long =
    let parts = c ∷ [] in
    let m = more width count value long in
    let front = take width value in
    let back = drop width value in
    let all : bytes_in parts ≡ width = omega (arith, same) in
    let one : ordered (Some big) parts front ≡ reverse front = append-nil (reverse (take c.byte_count front)) ∙ ap reverse (take_all c.byte_count front (omega (arith, m.one))) in
    ap (λ ns. reverse front ++ ns) (all_reversed width c count back same h m.rest)
    ∙ sym (ap (all_ordered (Some big) parts) (sym m.is) ∙ (all_ordered-cons (Some big) parts front back (omega arith) (m.one ∙ sym all) ∙ ap (λ ns. ns ++ all_ordered (Some big) parts back) one))
