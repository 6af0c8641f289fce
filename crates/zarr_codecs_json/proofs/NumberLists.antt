-- Elements read of whole numbers, one by one.
use Rattle.std.proofs.Common.{◌≡◌, ℕ, ◌+◌, ◌*◌, ◌%◌, ◌<◌, ◌≤◌, List, [], ◌∷◌, ◌++◌, length, drop, get_or, ap, ◌∙◌, sym, subst, arith, Option, Some, None, option_map, option_and_then, append-nil, append_assoc, length-append}
use Rattle.std.proofs.lemmas.List.{drop_more, drop_all}
use Rattle.std.proofs.Math.Nat.{add-mul-mod_self_right}
use Rattle.serde_json.specs.Data.{Data, number, unsigned, no_items, item}
use Rattle.serde_json.specs.View.{view, items_view}
use Rattle.serde_json.specs.declared.value.Value.{Value}
use Rattle.zarr_codecs_meaning.specs.Types.{DataType, byte_width, Cell, of_bytes}
use Rattle.zarr_codecs_meaning.specs.Payloads.{fixed, fixed_in, fixed_cells}
use Rattle.zarr_codecs_types.specs.Given.{elements_in}
use Rattle.zarr_codecs_arrays.proofs.FixedCells.{fixed_cells-nil, fixed_cells-cons, fixed_cells-append, fixed_in-some}
use Rattle.zarr_codecs_json.specs.Inside.{cell_inside, said}
use Rattle.zarr_codecs_json.specs.Numbers.{number_items}
use Rattle.zarr_codecs_json.specs.Outcomes.{AreGiven}
use Rattle.zarr_codecs_json.proofs.ReadLists.{FixedRead, one_read, not_read, all_read, given_alone, none_alone}

-- ---- the numbers of a slice

next_number : (numbers : List ℕ) (index n d : ℕ) → index < length numbers → n ≡ get_or numbers index d → number_items (drop index numbers) ≡ item (number (unsigned n)) (number_items (drop (index + 1) numbers))
next_number numbers index n d h is = ap number_items (drop_more numbers index d h) ∙ ap (λ m. item (number (unsigned m)) (number_items (drop (index + 1) numbers))) (sym is)

last_number : (numbers : List ℕ) (index : ℕ) → length numbers ≤ index → number_items (drop index numbers) ≡ no_items
last_number numbers index h = ap number_items (drop_all index numbers h)

-- one more number is an element
pub number_read : (says : Data → Option Cell) (count : ℕ) (bytes new element numbers : List ℕ) (index n d : ℕ) → 0 < count → length element ≡ count → says (number (unsigned n)) ≡ Some (of_bytes element)
    → index < length numbers → n ≡ get_or numbers index d → new ≡ bytes ++ element → FixedRead says count bytes (number_items (drop index numbers)) (number_items numbers)
    → FixedRead says count new (number_items (drop (index + 1) numbers)) (number_items numbers)
number_read says count bytes new element numbers index n d h long says_n less is grew r =
    let alone : fixed_cells count element ≡ of_bytes element ∷ [] =
    ap (fixed_cells count) (sym (append-nil element)) ∙ (fixed_cells-cons count element [] h long ∙ ap (λ (cs : List Cell). of_bytes element ∷ cs) (fixed_cells-nil count)) in
    let more : fixed_cells count new ≡ fixed_cells count bytes ++ of_bytes element ∷ [] =
    ap (fixed_cells count) grew ∙ (fixed_cells-append count bytes element h r.whole ∙ ap (λ cs. fixed_cells count bytes ++ cs) alone) in
    let sum : length new ≡ length bytes + 1 * count = ap length grew ∙ (length-append bytes element ∙ omega (arith, long)) in
    let rest = number_items (drop (index + 1) numbers) in
    let all = number_items numbers in
    let before = subst (λ ds. said says all ≡ option_map (λ more. fixed_cells count bytes ++ more) (said says ds)) (next_number numbers index n d less is) r.same in
    record {
      whole = ap (λ n. n % count) sum ∙ (add-mul-mod_self_right (length bytes) 1 count ∙ r.whole);
      same = subst (λ xs. said says all ≡ option_map (λ more. xs ++ more) (said says rest)) (sym more) (one_read says (fixed_cells count bytes) (of_bytes element) (number (unsigned n)) rest all says_n before);
    }

-- a number that is none
pub number_not_read : (type : DataType) (count : ℕ) (bytes numbers : List ℕ) (index n d : ℕ) → cell_inside type 0 (number (unsigned n)) ≡ None
    → index < length numbers → n ≡ get_or numbers index d → FixedRead (cell_inside type 0) count bytes (number_items (drop index numbers)) (number_items numbers)
    → elements_in type (number_items numbers) ≡ None
number_not_read type count bytes numbers index n d none less is r =
    let says = cell_inside type 0 in
    let all = number_items numbers in
    let before = subst (λ ds. said says all ≡ option_map (λ more. fixed_cells count bytes ++ more) (said says ds)) (next_number numbers index n d less is) r.same in
    none_alone type all (not_read says (fixed_cells count bytes) (number (unsigned n)) (number_items (drop (index + 1) numbers)) all none before)

-- all numbers are elements
pub numbers_end : (type : DataType) (count : ℕ) (bytes numbers : List ℕ) (index : ℕ) → 0 < count → byte_width type ≡ Some count → length numbers ≤ index
    → FixedRead (cell_inside type 0) count bytes (number_items (drop index numbers)) (number_items numbers) → AreGiven type (number_items numbers) (fixed bytes)
numbers_end type count bytes numbers index h wide ended r = given_alone type (number_items numbers) (fixed bytes) (record {
  cells = fixed_cells count bytes;
  are = all_read (cell_inside type 0) (fixed_cells count bytes) (number_items (drop index numbers)) (number_items numbers) (last_number numbers index ended) r.same;
  lists = ap (λ (o : Option ℕ). option_and_then (λ n. fixed_in n bytes) o) wide ∙ fixed_in-some count bytes h r.whole;
})

-- ---- numbers as values

-- the values so far are the numbers before, and what is left of the numbers goes on
abbrev pub AreValuesOf : List Value → List ℕ → List ℕ → Type 0
AreValuesOf values rest numbers = (after : List Value) → items_view after ≡ number_items rest → items_view (values ++ after) ≡ number_items numbers

pub values_begin : (values : List Value) (numbers : List ℕ) → values ≡ [] → AreValuesOf values numbers numbers
values_begin values numbers empty = λ after is. ap (λ vs. items_view (vs ++ after)) empty ∙ is

pub value_more : (values new : List Value) (v : Value) (numbers : List ℕ) (index n : ℕ) → view v ≡ number (unsigned n) → new ≡ values ++ v ∷ [] → index < length numbers → n ≡ get_or numbers index n
    → AreValuesOf values (drop index numbers) numbers → AreValuesOf new (drop (index + 1) numbers) numbers
value_more values new v numbers index n is grew less here r = λ after same.
    ap (λ vs. items_view (vs ++ after)) grew ∙ (ap items_view (append_assoc values (v ∷ []) after)
    ∙ r (v ∷ after) (ap (λ d. item d (items_view after)) is ∙ (ap (item (number (unsigned n))) same ∙ sym (next_number numbers index n n less here))))

pub values_end : (values : List Value) (numbers : List ℕ) (index : ℕ) → length numbers ≤ index → AreValuesOf values (drop index numbers) numbers → items_view values ≡ number_items numbers
values_end values numbers index ended r = ap items_view (sym (append-nil values)) ∙ r [] (sym (last_number numbers index ended))
