-- Elements that stand at some places of others, in another order.
use Rattle.std.proofs.Common.{◌≡◌, ◌∙◌, ◌⊎◌, ℕ, zero, suc, ◌<◌, List, [], ◌∷◌, map, length, get_or, refl, sym, ap, arith, Option, Some, None, option_map, option_and_then, Bool, true, false, ◌||◌, if◌then◌else◌, inl, inr}
use Rattle.std.specs.List.{list_all, list_any}
use Rattle.std.proofs.lemmas.Bool.{cases_lt}
use Rattle.std.proofs.lemmas.List.{get_or-map, length-map}
use Rattle.zarr_codecs_meaning.specs.Chains.{Chain}
use Rattle.zarr_codecs_meaning.specs.Chunks.{chunk_part}
use Rattle.zarr_codecs_meaning.specs.Decoding.{all_there, cell_at, opens}
use Rattle.zarr_codecs_meaning.specs.Fits.{fits}
use Rattle.zarr_codecs_meaning.specs.Places.{gather, position_of}
use Rattle.zarr_codecs_meaning.specs.Types.{Cell, Elements, is_value}
use Rattle.zarr_codecs_meaning.proofs.DecodedValues.{part_values}
use Rattle.zarr_codecs_meaning.proofs.Lists.{bind_some, map_some, some_same}
use Rattle.zarr_codecs_meaning.proofs.Once.{IsOnce}
use Rattle.zarr_codecs_meaning.proofs.Positions.{IsAmong, among_at, position_found, position_read}
use Rattle.zarr_codecs_traits.specs.Indexers.{put}
use Rattle.zarr_codecs_around.proofs.WritingAfter.{same_lists}
use Rattle.zarr_codecs_boxes.proofs.Puts.{AreApart, length-put, put_apart, put_one}

-- the elements at these places, in this order
abbrev pub picked : {X : Type 0} → X → List X → List ℕ → List X
picked other xs places = map (λ k. get_or xs k other) places

-- each place is below a count
abbrev pub AreBelow : ℕ → List ℕ → Type 0
AreBelow count places = (i : ℕ) → i < length places → get_or places i 0 < count

tail_below : (count k : ℕ) (ks : List ℕ) → AreBelow count (k ∷ ks) → AreBelow count ks
tail_below count k ks below = λ i low. below (suc i) (omega arith)

-- ---- elements that are read

at_place : {X : Type 0} (f : ℕ → Option X) (n : ℕ) (ns : List ℕ) (x : X) (xs : List X) (i : ℕ) (other : X) → f n ≡ Some x → ((j : ℕ) → j < length ns → f (get_or ns j 0) ≡ Some (get_or xs j other)) → i < length (n ∷ ns)
    → f (get_or (n ∷ ns) i 0) ≡ Some (get_or (x ∷ xs) i other)
at_place f n ns x xs zero other e law low = e
at_place f n ns x xs (suc j) other e law low = law j (omega arith)

there_at : {X : Type 0} (f : ℕ → Option X) (ns : List ℕ) (xs : List X) (i : ℕ) (other : X) → all_there (map f ns) ≡ Some xs → i < length ns → f (get_or ns i 0) ≡ Some (get_or xs i other)
there_at f [] xs i other h low = absurd (omega arith)
there_at f (n ∷ ns) xs i other h low =
    let first = bind_some (λ x. option_map (λ ys. x ∷ ys) (all_there (map f ns))) (f n) xs h in
    let rest = map_some (λ ys. first.0 ∷ ys) (all_there (map f ns)) xs first.2 in
    at_place f n ns first.0 rest.0 i other first.1 (λ j l. there_at f ns rest.0 j other rest.1 l) low ∙ ap (λ ys. Some (get_or ys i other)) rest.2

there_count : {X : Type 0} (f : ℕ → Option X) (ns : List ℕ) (xs : List X) → all_there (map f ns) ≡ Some xs → length xs ≡ length ns
there_count f [] xs h = ap length (sym (some_same h))
there_count f (n ∷ ns) xs h =
    let first = bind_some (λ x. option_map (λ ys. x ∷ ys) (all_there (map f ns))) (f n) xs h in
    let rest = map_some (λ ys. first.0 ∷ ys) (all_there (map f ns)) xs first.2 in
    ap length (sym rest.2) ∙ ap suc (there_count f ns rest.0 rest.1)

there_picked : {X : Type 0} (f : ℕ → Option X) (ns : List ℕ) (xs : List X) (ks : List ℕ) (other : X) → all_there (map f ns) ≡ Some xs → AreBelow (length ns) ks → all_there (map f (picked 0 ns ks)) ≡ Some (picked other xs ks)
there_picked f ns xs [] other h below = refl
there_picked f ns xs (k ∷ ks) other h below =
    ap (option_and_then (λ x. option_map (λ ys. x ∷ ys) (all_there (map f (picked 0 ns ks))))) (there_at f ns xs k other h (below 0 (omega arith)))
    ∙ ap (option_map (λ ys. get_or xs k other ∷ ys)) (there_picked f ns xs ks other h (tail_below (length ns) k ks below))

if_there : {X : Type 0} (b : Bool) (o : Option X) (x : X) → (if b then o else None) ≡ Some x → (b ≡ true) × (o ≡ Some x)
if_there true o x h = (refl, h)
if_there false o x h = absurd (cc)

same_fill : {X : Type 0} (ns : List ℕ) (fill : X) (k : ℕ) → get_or (map (λ place. fill) ns) k fill ≡ fill
same_fill [] fill k = refl
same_fill (n ∷ ns) fill zero = refl
same_fill (n ∷ ns) fill (suc k) = same_fill ns fill k

fill_picked : {X : Type 0} (ns ks : List ℕ) (fill : X) → map (λ place. fill) (picked 0 ns ks) ≡ picked fill (map (λ place. fill) ns) ks
fill_picked ns [] fill = refl
fill_picked ns (k ∷ ks) fill = ap (λ x. x ∷ map (λ place. fill) (picked 0 ns ks)) (sym (same_fill ns fill k)) ∙ ap (λ xs. get_or (map (λ place. fill) ns) k fill ∷ xs) (fill_picked ns ks fill)

-- a part is read in another order
pub part_picked : (chain : Chain) (elements : Elements) (shape : List ℕ) (stored : Option (List ℕ)) (ns ks : List ℕ) (cells : List Cell) → chunk_part chain elements shape stored ns ≡ Some cells → AreBelow (length ns) ks
    → chunk_part chain elements shape stored (picked 0 ns ks) ≡ Some (gather elements.fill cells ks)
part_picked chain elements shape None ns ks cells h below =
    ap Some (fill_picked ns ks elements.fill ∙ ap (λ (xs : List Cell). picked elements.fill xs ks) (some_same h))
part_picked chain elements shape (Some value) ns ks cells h below =
    let read = cell_at chain elements shape value in
    let told = if_there (opens chain elements shape value) (all_there (map read ns)) cells h in
    ap (λ (b : Bool). if b then all_there (map read (picked 0 ns ks)) else None) told.0 ∙ there_picked read ns cells ks elements.fill told.1 below

-- or isn't
pub part_unpicked : (chain : Chain) (elements : Elements) (shape : List ℕ) (stored : Option (List ℕ)) (ns ks : List ℕ) → chunk_part chain elements shape stored (picked 0 ns ks) ≡ None → AreBelow (length ns) ks → chunk_part chain elements shape stored ns ≡ None
part_unpicked chain elements shape stored ns ks none below = by (chunk_part chain elements shape stored ns) refl where
  by : (found : Option (List Cell)) → chunk_part chain elements shape stored ns ≡ found → chunk_part chain elements shape stored ns ≡ None
  by None h = h
  by (Some cells) h = absurd (let e = sym none ∙ part_picked chain elements shape stored ns ks cells h below in cc)

-- it has as many elements as places, and these are values
pub part_count : (chain : Chain) (elements : Elements) (shape : List ℕ) (stored : Option (List ℕ)) (ns : List ℕ) (cells : List Cell) → chunk_part chain elements shape stored ns ≡ Some cells → length cells ≡ length ns
part_count chain elements shape None ns cells h = ap length (sym (some_same h)) ∙ length-map ns (λ place. elements.fill)
part_count chain elements shape (Some value) ns cells h =
    let read = cell_at chain elements shape value in there_count read ns cells (if_there (opens chain elements shape value) (all_there (map read ns)) cells h).1

fill_values : (test : Cell → Bool) (fill : Cell) (ns : List ℕ) → test fill ≡ true → list_all test (map (λ place. fill) ns) ≡ true
fill_values test fill [] h = refl
fill_values test fill (n ∷ ns) h = rw (h) (fill_values test fill ns h)

pub part_cells : (chain : Chain) (elements : Elements) (shape : List ℕ) (stored : Option (List ℕ)) (ns : List ℕ) (cells : List Cell) → fits chain elements.type shape ≡ true → is_value elements.type elements.fill ≡ true
    → chunk_part chain elements shape stored ns ≡ Some cells → list_all (is_value elements.type) cells ≡ true
part_cells chain elements shape None ns cells fit fill h = ap (list_all (is_value elements.type)) (sym (some_same h)) ∙ fill_values (is_value elements.type) elements.fill ns fill
part_cells chain elements shape (Some value) ns cells fit fill h = part_values chain elements shape value ns cells fit fill h

-- ---- elements that are put

-- elements are put in another order, where all of them are, each once
pub put_picked : {X : Type 0} (other : X) (ns ks : List ℕ) (given before : List X) → AreApart ns → AreBelow (length before) ns → length given ≡ length ns → IsOnce (length ns) ks → ((i : ℕ) → i < length ns → IsAmong i ks)
    → put (picked 0 ns ks) (picked other given ks) before ≡ put ns given before
put_picked {X} other ns ks given before apart below same once covers = same_lists other (put moved turned before) (put ns given before) (length before) (length-put moved turned before) (length-put ns given before) at where
  moved : List ℕ
  moved = picked 0 ns ks

  turned : List X
  turned = picked other given ks

  long : length moved ≡ length ks
  long = length-map ks (λ k. get_or ns k 0)

  read : (i : ℕ) → i < length ks → get_or moved i 0 ≡ get_or ns (get_or ks i 0) 0
  read i low = get_or-map (λ k. get_or ns k 0) ks i 0 0 low

  moved_apart : AreApart moved
  moved_apart i j first second e =
      let low : i < length ks = omega (arith, first, long) in
      let high : j < length ks = omega (arith, second, long) in
      let equal = apart (get_or ks i 0) (get_or ks j 0) (once.below i low) (once.below j high) (sym (read i low) ∙ (e ∙ read j high)) in
      sym (once.position i low) ∙ (ap (λ k. position_of k ks) equal ∙ once.position j high)

  at : (m : ℕ) → m < length before → get_or (put moved turned before) m other ≡ get_or (put ns given before) m other
  at m low = elim (cases_lt (position_of m ns) (length ns)) as (λ _. get_or (put moved turned before) m other ≡ get_or (put ns given before) m other) [
    | inl found ↦
        let a = position_of m ns in
        let here : get_or ns a 0 ≡ m = position_read m 0 ns found in
        let b = position_of a ks in
        let there = position_found a ks (covers a found) in
        let back : get_or ks b 0 ≡ a = position_read a 0 ks there in
        let number : get_or moved b 0 ≡ m = read b there ∙ (ap (λ k. get_or ns k 0) back ∙ here) in
        let first : get_or (put moved turned before) (get_or moved b 0) other ≡ get_or turned b other =
        put_one moved turned before b other moved_apart (omega (arith, there, long)) (length-map ks (λ k. get_or given k other) ∙ sym long) (omega (arith, number, low)) in
        let second : get_or (put ns given before) (get_or ns a 0) other ≡ get_or given a other = put_one ns given before a other apart found same (omega (arith, here, low)) in
        ap (λ k. get_or (put moved turned before) k other) (sym number)
        ∙ (first ∙ (get_or-map (λ k. get_or given k other) ks b 0 other there ∙ (ap (λ k. get_or given k other) back ∙ (sym second ∙ ap (λ k. get_or (put ns given before) k other) here))))
    | inr none ↦
        put_apart moved turned before m other (λ i inside e.
        let l : i < length ks = omega (arith, inside, long) in
        let found = position_found m ns (among_at ns (get_or ks i 0) m (once.below i l) (sym (read i l) ∙ e)) in
        absurd (omega (arith, found, none)))
        ∙ sym (put_apart ns given before m other (λ i inside e. (let found = position_found m ns (among_at ns i m inside e) in absurd (omega (arith, found, none)))))
  ]

-- ---- tests of some element

-- a test that one of some numbers passes, one of others does
abbrev pub IsAnyOf : List ℕ → List ℕ → Type 0
IsAnyOf ns ms = (test : ℕ → Bool) → list_any test ns ≡ true → list_any test ms ≡ true

either : (a b : Bool) → (a || b) ≡ true → (a ≡ true) ⊎ (b ≡ true)
either true b h = inl refl
either false b h = inr h

any_at : (test : ℕ → Bool) (ns : List ℕ) (i : ℕ) → i < length ns → test (get_or ns i 0) ≡ true → list_any test ns ≡ true
any_at test [] i low h = absurd (omega arith)
any_at test (n ∷ ns) zero low h = ap (λ (b : Bool). b || list_any test ns) h
any_at test (n ∷ ns) (suc i) low h = or_true (test n) (list_any test ns) (any_at test ns i (omega arith) h) where
  or_true : (a b : Bool) → b ≡ true → (a || b) ≡ true
  or_true true b h = refl
  or_true false b h = h

pub any_picked : (ns ks : List ℕ) → AreBelow (length ns) ks → IsAnyOf (picked 0 ns ks) ns
any_picked ns [] below test h = absurd (cc)
any_picked ns (k ∷ ks) below test h = elim (either (test (get_or ns k 0)) (list_any test (picked 0 ns ks)) h) [
  | inl here ↦ any_at test ns k (below 0 (omega arith)) here
  | inr later ↦ any_picked ns ks (tail_below (length ns) k ks below) test later
]

any_mapped : (f : ℕ → ℕ) (test : ℕ → Bool) (ns : List ℕ) → list_any test (map f ns) ≡ list_any (λ n. test (f n)) ns
any_mapped f test [] = refl
any_mapped f test (n ∷ ns) = ap (λ (b : Bool). test (f n) || b) (any_mapped f test ns)

pub any_moved : (f : ℕ → ℕ) (ns ms : List ℕ) → IsAnyOf ns ms → IsAnyOf (map f ns) (map f ms)
any_moved f ns ms any test h = any_mapped f test ms ∙ any (λ n. test (f n)) (sym (any_mapped f test ns) ∙ h)
