-- Elements that may be absent, and their mask.
use Rattle.std.proofs.Common.{◌≡◌, ℕ, zero, suc, ◌+◌, ◌<◌, ◌≤◌, List, [], ◌∷◌, length, get_or, take, ap, ◌∙◌, sym, refl, arith, Some, None, Bool, true, false, ◌&&◌, ◌||◌, ◌==◌, if◌then◌else◌, option_map}
use Rattle.std.specs.Prelude.{nat_lt}
use Rattle.std.specs.List.{list_all}
use Rattle.std.proofs.lemmas.Bool.{eqb-true, and_parts}
use Rattle.std.proofs.lemmas.List.{take_all, get_or_default}
use Rattle.std.proofs.lemmas.List.Folds.{list_all_more, list_all_at}
use Rattle.zarr_codecs_meaning.specs.Types.{DataType, optional_of, Cell, absent, present, is_value}
use Rattle.zarr_codecs_meaning.specs.Payloads.{Payload, optional, masked, masked_in, cells_in}
use Rattle.zarr_codecs_meaning.proofs.Lists.{bind_some, map_some, if_some, some_same}
use Rattle.zarr_codecs_arrays.proofs.Counts.{masked_length}

-- the elements that a mask stands above
pub record IsMasked (type : DataType) (inner : Payload) (mask : List ℕ) (cells : List Cell) : Type 0 where
  pub below : List Cell
  pub inside : cells_in type inner ≡ Some below
  pub marked : masked_in below mask ≡ Some cells

pub masked_parts : (whole type : DataType) (payload inner : Payload) (mask : List ℕ) (cells : List Cell) → whole ≡ optional_of type → payload ≡ optional inner mask → cells_in whole payload ≡ Some cells → IsMasked type inner mask cells
masked_parts whole type payload inner mask cells t p is =
    let both = sym (ap (λ x. cells_in x payload) t ∙ ap (cells_in (optional_of type)) p) ∙ is in
    let found = bind_some (λ cs. masked_in cs mask) (cells_in type inner) cells both in
    record { below = found.0; inside = found.1; marked = found.2 }

-- ---- one by one

first_marked : (c first : Cell) (m : ℕ) → masked c m ≡ Some first → first ≡ (if m == 0 then absent else present c)
first_marked c first m h = at_test (m == 0) h where
  at_test : (b : Bool) → (if b then Some absent else (if m == 1 then Some (present c) else None)) ≡ Some first → first ≡ (if b then absent else present c)
  at_test true k = sym (some_same k)
  at_test false k = sym (some_same ((if_some (m == 1) (Some (present c)) first k).1))

first_same : (a b : Cell) (us vs : List Cell) → a ∷ us ≡ b ∷ vs → a ≡ b
first_same a b us vs h = cc

rest_same : (a b : Cell) (us vs : List Cell) → a ∷ us ≡ b ∷ vs → us ≡ vs
rest_same a b us vs h = cc

pub masked_at : (below : List Cell) (mask : List ℕ) (all : List Cell) (index : ℕ) → masked_in below mask ≡ Some all → index < length all → get_or all index absent ≡ (if get_or mask index 1 == 0 then absent else present (get_or below index absent))
masked_at [] [] all index h less = let none : all ≡ [] = sym (some_same h) in absurd (omega (arith, ap length none))
masked_at [] (m ∷ mask) all index h less = cc
masked_at (c ∷ below) [] all index h less = cc
masked_at (c ∷ below) (m ∷ mask) [] index h less = absurd (omega arith)
masked_at (c ∷ below) (m ∷ mask) (first ∷ rest) zero h less =
    let one = bind_some (λ first. option_map (λ others. first ∷ others) (masked_in below mask)) (masked c m) (first ∷ rest) h in
    let two = map_some (λ others. one.0 ∷ others) (masked_in below mask) (first ∷ rest) one.2 in
    let same : one.0 ≡ first = first_same one.0 first two.0 rest two.2 in
    sym same ∙ first_marked c one.0 m one.1
masked_at (c ∷ below) (m ∷ mask) (first ∷ rest) (suc index) h less =
    let one = bind_some (λ first. option_map (λ others. first ∷ others) (masked_in below mask)) (masked c m) (first ∷ rest) h in
    let two = map_some (λ others. one.0 ∷ others) (masked_in below mask) (first ∷ rest) one.2 in
    let same : two.0 ≡ rest = rest_same one.0 first two.0 rest two.2 in
    masked_at below mask rest index (two.1 ∙ ap Some same) (omega arith)

pub masked_lengths : (below : List Cell) (mask : List ℕ) (all : List Cell) → masked_in below mask ≡ Some all → (length all ≡ length mask) × (length below ≡ length mask)
masked_lengths below mask all h =
    let found = if_some ((length below == length mask) && list_all (λ b. nat_lt b 2) mask) (Some (length below)) (length all) (sym (masked_length below mask) ∙ ap (option_map length) h) in
    let tests = and_parts (length below == length mask) (list_all (λ b. nat_lt b 2) mask) found.0 in
    let long = eqb-true (length below) (length mask) tests.0 in
    (sym (some_same found.1) ∙ long, long)

by_mark : (type : DataType) (b : Bool) (cell : Cell) → is_value (optional_of type) (if b then absent else present cell) ≡ (b || is_value type cell)
by_mark type true cell = refl
by_mark type false cell = refl

pub masked_value_at : (type : DataType) (below : List Cell) (mask : List ℕ) (all : List Cell) (index : ℕ) → masked_in below mask ≡ Some all → index < length all
    → is_value (optional_of type) (get_or all index absent) ≡ ((get_or mask index 1 == 0) || is_value type (get_or below index absent))
masked_value_at type below mask all index h less = ap (is_value (optional_of type)) (masked_at below mask all index h less) ∙ by_mark type (get_or mask index 1 == 0) (get_or below index absent)

-- ---- all of them

or_true : (a b : Bool) → b ≡ true → (a || b) ≡ true
or_true true b h = refl
or_true false b h = h

value_at : (type : DataType) (cells : List Cell) (index : ℕ) → list_all (is_value type) cells ≡ true → index < length cells → is_value type (get_or cells index absent) ≡ true
value_at type [] index h below = absurd (omega arith)
value_at type (c ∷ cells) zero h below = (and_parts (is_value type c) (list_all (is_value type) cells) h).0
value_at type (c ∷ cells) (suc index) h below = value_at type cells index (and_parts (is_value type c) (list_all (is_value type) cells) h).1 (omega arith)

all_by_index : (test : Cell → Bool) (cells : List Cell) → ((i : ℕ) → i < length cells → test (get_or cells i absent) ≡ true) → list_all test cells ≡ true
all_by_index test [] h = refl
all_by_index test (c ∷ cells) h = ap (λ (b : Bool). b && list_all test cells) (h 0 (omega arith)) ∙ all_by_index test cells (λ i below. h (suc i) (omega arith))

pub values_above : (type : DataType) (below : List Cell) (mask : List ℕ) (all : List Cell) → masked_in below mask ≡ Some all → list_all (is_value type) below ≡ true → list_all (is_value (optional_of type)) all ≡ true
values_above type below mask all h values =
    let long = masked_lengths below mask all h in
    all_by_index (is_value (optional_of type)) all
    (λ i less. masked_value_at type below mask all i h less ∙ or_true (get_or mask i 1 == 0) (is_value type (get_or below i absent)) (value_at type below i values (omega (arith, long.0, long.1, less))))

-- ---- one more of them

pub present_value : (type : DataType) (cells : List Cell) (mask : List ℕ) (all : List Cell) (index : ℕ) (r : Bool) → masked_in cells mask ≡ Some all → index < length mask → r ≡ ((get_or mask index 0 == 0) || is_value type (get_or cells index absent))
    → is_value (optional_of type) (get_or all index absent) ≡ r
present_value type cells mask all index r h less is =
    let long = masked_lengths cells mask all h in
    masked_value_at type cells mask all index h (omega (arith, long.0, less))
    ∙ (ap (λ n. (n == 0) || is_value type (get_or cells index absent)) (get_or_default mask index 1 0 less) ∙ sym is)

pub value_missing : (type : DataType) (cells : List Cell) (mask : List ℕ) (all : List Cell) (index : ℕ) → masked_in cells mask ≡ Some all → index < length mask → is_value (optional_of type) (get_or all index absent) ≡ false
    → false ≡ list_all (is_value (optional_of type)) all
value_missing type cells mask all index h less is = let long = masked_lengths cells mask all h in sym (list_all_at (is_value (optional_of type)) all index absent (omega (arith, long.0, less)) is)

pub values_more : (type : DataType) (cells : List Cell) (mask : List ℕ) (all : List Cell) (index : ℕ) → masked_in cells mask ≡ Some all → index < length mask → is_value (optional_of type) (get_or all index absent) ≡ true
    → list_all (is_value (optional_of type)) (take index all) ≡ true → list_all (is_value (optional_of type)) (take (index + 1) all) ≡ true
values_more type cells mask all index h less is before =
    let long = masked_lengths cells mask all h in
    list_all_more (is_value (optional_of type)) all index absent (omega (arith, long.0, less))
    ∙ (ap (λ (b : Bool). b && is_value (optional_of type) (get_or all index absent)) before ∙ is)

pub values_whole : (type : DataType) (cells : List Cell) (mask : List ℕ) (all : List Cell) (index : ℕ) → masked_in cells mask ≡ Some all → length mask ≤ index → list_all (is_value (optional_of type)) (take index all) ≡ true → true ≡ list_all (is_value (optional_of type)) all
values_whole type cells mask all index h enough before = let long = masked_lengths cells mask all h in sym (ap (list_all (is_value (optional_of type))) (sym (take_all index all (omega (arith, long.0, enough)))) ∙ before)
