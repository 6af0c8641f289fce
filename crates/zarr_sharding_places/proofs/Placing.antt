-- Elements that come after others, and are put at places.
use Rattle.std.proofs.Common.{◌≡◌, ◌∙◌, ℕ, zero, suc, ◌+◌, ◌<◌, ◌≤◌, Bool, true, ◌&&◌, List, [], ◌∷◌, ◌++◌, length, map, get_or, set, replicate, refl, sym, ap, arith, length-append, Some}
use Rattle.std.specs.Prelude.{nat_lt}
use Rattle.std.specs.List.{list_all, range_with_len}
use Rattle.std.proofs.Math.ListN.{get_or-append}
use Rattle.std.proofs.lemmas.Bool.{and_parts, ltb-true, lt-ltb}
use Rattle.std.proofs.lemmas.List.{map-set, get_or-append-add}
use Rattle.zarr_codecs_meaning.specs.Payloads.{cells_in}
use Rattle.zarr_codecs_meaning.specs.Types.{Cell, Elements}
use Rattle.zarr_codecs_meaning.specs.Places.{gather}
use Rattle.zarr_codecs_arrays.specs.Views.{payload_of}
use Rattle.zarr_codecs_regions.specs.Updates.{put}
use Rattle.zarr_sharding_places.specs.Placed.{Shows}
use Rattle.zarr_sharding_places.specs.declared.placed.PlacedElements.{PlacedElements}

-- each number is below a count
abbrev pub are_below : ℕ → List ℕ → Bool
are_below count numbers = list_all (λ n. nat_lt n count) numbers

-- ---- numbers that are below a count

zeros_below : (n : ℕ) → are_below 1 (replicate n 0) ≡ true
zeros_below zero = refl
zeros_below (suc n) = zeros_below n

more_below : (a b : ℕ) (ns : List ℕ) → a ≤ b → are_below a ns ≡ true → are_below b ns ≡ true
more_below a b [] le h = refl
more_below a b (n ∷ ns) le h =
    let both = and_parts (nat_lt n a) (are_below a ns) h in
    let low = ltb-true n a both.0 in
    ap (λ (t : Bool). t && are_below b ns) (lt-ltb n b (omega (arith, low, le))) ∙ more_below a b ns le both.1

range_below : (count a n : ℕ) → a + n ≤ count → are_below count (range_with_len a n) ≡ true
range_below count a zero most = refl
range_below count a (suc n) most =
    ap (λ (b : Bool). b && are_below count (range_with_len (a + 1) n)) (lt-ltb a count (omega (arith, most))) ∙ range_below count (a + 1) n (omega (arith, most))

set_below : (count : ℕ) (xs : List ℕ) (i x : ℕ) → are_below count xs ≡ true → nat_lt x count ≡ true → are_below count (set xs i x) ≡ true
set_below count [] i x all is = refl
set_below count (y ∷ xs) zero x all is =
    ap (λ (b : Bool). b && are_below count xs) is ∙ (and_parts (nat_lt y count) (are_below count xs) all).1
set_below count (y ∷ xs) (suc i) x all is =
    let both = and_parts (nat_lt y count) (are_below count xs) all in
    ap (λ (b : Bool). b && are_below count (set xs i x)) both.0 ∙ set_below count xs i x both.1 is

put_below : (count : ℕ) (ns xs ys : List ℕ) → are_below count xs ≡ true → are_below count ys ≡ true → are_below count (put ns xs ys) ≡ true
put_below count [] xs ys new old = old
put_below count (n ∷ ns) [] ys new old = old
put_below count (n ∷ ns) (x ∷ xs) ys new old =
    let both = and_parts (nat_lt x count) (are_below count xs) new in
    put_below count ns xs (set ys n x) both.1 (set_below count ys n x old both.0)

-- ---- the elements with these numbers

map_put : {X Y : Type 0} (f : X → Y) (ns : List ℕ) (xs ys : List X) → map f (put ns xs ys) ≡ put ns (map f xs) (map f ys)
map_put f [] xs ys = refl
map_put f (n ∷ ns) [] ys = refl
map_put f (n ∷ ns) (x ∷ xs) ys = map_put f ns xs (set ys n x) ∙ ap (put ns (map f xs)) (map-set f ys n x)

read_part : (whole part : List Cell) (other : Cell) (a : ℕ) → ((i : ℕ) → i < length part → get_or whole (a + i) other ≡ get_or part i other) → gather other whole (range_with_len a (length part)) ≡ part
read_part whole [] other a law = refl
read_part whole (c ∷ part) other a law =
    let first : a ≡ a + 0 = omega arith in
    ap (λ d. d ∷ gather other whole (range_with_len (a + 1) (length part))) (ap (λ n. get_or whole n other) first ∙ law 0 (omega arith))
    ∙ ap (λ cs. c ∷ cs) (read_part whole part other (a + 1) (λ i less. let e : a + 1 + i ≡ a + suc i = omega arith in ap (λ n. get_or whole n other) e ∙ law (suc i) (omega (arith, less))))

front_gathered : (before given : List Cell) (other : Cell) (ns : List ℕ) → are_below (length before) ns ≡ true → gather other (before ++ given) ns ≡ gather other before ns
front_gathered before given other [] low = refl
front_gathered before given other (n ∷ ns) low =
    let both = and_parts (nat_lt n (length before)) (are_below (length before) ns) low in
    ap (λ c. c ∷ gather other (before ++ given) ns) (get_or-append before given other n (ltb-true n (length before) both.0)) ∙ ap (λ cs. get_or before n other ∷ cs) (front_gathered before given other ns both.1)

one_gathered : (fill : Cell) (n : ℕ) → gather fill (fill ∷ []) (replicate n 0) ≡ replicate n fill
one_gathered fill zero = refl
one_gathered fill (suc n) = ap (λ cs. fill ∷ cs) (one_gathered fill n)

-- ---- what is shown

pub shows_fill : (elements : Elements) (all : PlacedElements) (n : ℕ) → cells_in elements.type (payload_of all.came) ≡ Some (replicate 1 elements.fill) → all.count ≡ 1 → all.numbers.items ≡ replicate n 0 → Shows elements all (replicate n elements.fill)
shows_fill elements all n lists many are = record {
  came = replicate 1 elements.fill;
  lists = lists;
  many = sym many;
  low = ap (are_below 1) are ∙ zeros_below n;
  is = ap (gather elements.fill (elements.fill ∷ [])) are ∙ one_gathered elements.fill n;
}

pub shows_put : (elements : Elements) (all made : PlacedElements) (at_ : List ℕ) (before others : List Cell) → (shown : Shows elements all before) → length others ≡ length at_ → cells_in elements.type (payload_of made.came) ≡ Some (shown.came ++ others)
    → made.count ≡ all.count + length at_ → made.numbers.items ≡ put at_ (range_with_len all.count (length at_)) all.numbers.items → Shows elements made (put at_ others before)
shows_put elements all made at_ before others shown long lists count are =
    let came = shown.came in
    let whole = came ++ others in
    let total = length-append came others in
    let many = shown.many in
    let n = all.count in
    let f : ℕ → Cell = λ k. get_or whole k elements.fill in
    let new : gather elements.fill whole (range_with_len n (length at_)) ≡ others =
    ap (λ k. gather elements.fill whole (range_with_len k (length at_))) (sym many)
    ∙ (ap (λ k. gather elements.fill whole (range_with_len (length came) k)) (sym long) ∙ read_part whole others elements.fill (length came) (λ i less. get_or-append-add came others i elements.fill)) in
    let old : gather elements.fill whole all.numbers.items ≡ before = front_gathered came others elements.fill all.numbers.items shown.low ∙ shown.is in
    record {
      came = whole;
      lists = lists;
      many = omega (arith, total, many, long, count);
      low = ap (are_below (length whole)) are
          ∙ put_below (length whole) at_ (range_with_len n (length at_)) all.numbers.items (range_below (length whole) n (length at_) (omega (arith, total, many, long))) (more_below (length came) (length whole) all.numbers.items (omega (arith, total)) shown.low);
      is = ap (gather elements.fill whole) are
          ∙ (map_put f at_ (range_with_len n (length at_)) all.numbers.items ∙ (ap (λ cs. put at_ cs (gather elements.fill whole all.numbers.items)) new ∙ ap (put at_ others) old));
    }
