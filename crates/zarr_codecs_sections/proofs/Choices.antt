-- Those of several whose marks are 1.
use Rattle.std.proofs.Common.{◌≡◌, ℕ, suc, List, [], ◌∷◌, length, map, ap, ◌∙◌, sym, refl, arith, Bool, true, false, ◌==◌, if◌then◌else◌}
use Rattle.std.specs.List.{list_all, filter}
use Rattle.std.proofs.lemmas.Bool.{and_parts}
use Rattle.zarr_codecs_sections.specs.Marks.{count_ones, mark_of, chosen, both_marks, spread_marks}

-- ---- marks

pub mark_test : (m : ℕ) → (mark_of m == 1) ≡ (m == 1)
mark_test m = by_test (m == 1) where
  by_test : (b : Bool) → (if◌then◌else◌ {A = ℕ} b 1 0 == 1) ≡ b
  by_test true = refl
  by_test false = refl

pub count_cons : (m : ℕ) (ms : List ℕ) → count_ones (m ∷ ms) ≡ (if m == 1 then suc (count_ones ms) else count_ones ms)
count_cons m ms = by_test (m == 1) where
  ones : List ℕ
  ones = filter (λ k. k == 1) ms

  by_test : (b : Bool) → length (if b then m ∷ ones else ones) ≡ (if b then suc (length ones) else length ones)
  by_test true = refl
  by_test false = refl

pub count_one : (m : ℕ) (ms : List ℕ) → (m == 1) ≡ true → count_ones (m ∷ ms) ≡ suc (count_ones ms)
count_one m ms h = count_cons m ms ∙ ap (λ (b : Bool). if b then suc (count_ones ms) else count_ones ms) h

pub count_none : (m : ℕ) (ms : List ℕ) → (m == 1) ≡ false → count_ones (m ∷ ms) ≡ count_ones ms
count_none m ms h = count_cons m ms ∙ ap (λ (b : Bool). if b then suc (count_ones ms) else count_ones ms) h

pub count_clean : (ms : List ℕ) → count_ones (map mark_of ms) ≡ count_ones ms
count_clean [] = refl
count_clean (m ∷ ms) =
    count_cons (mark_of m) (map mark_of ms)
    ∙ (ap (λ (b : Bool). if b then suc (count_ones (map mark_of ms)) else count_ones (map mark_of ms)) (mark_test m) ∙ (ap (λ n. if m == 1 then suc n else n) (count_clean ms) ∙ sym (count_cons m ms)))

-- ---- marks that are spread

pub spread_skip : (m : ℕ) (ms ns : List ℕ) → (m == 1) ≡ false → spread_marks (m ∷ ms) ns ≡ 0 ∷ spread_marks ms ns
spread_skip m ms [] h = refl
spread_skip m ms (n ∷ ns) h = ap (λ (b : Bool). if b then mark_of n ∷ spread_marks ms ns else 0 ∷ spread_marks ms (n ∷ ns)) h

pub spread_take : (m : ℕ) (ms : List ℕ) (n : ℕ) (ns : List ℕ) → (m == 1) ≡ true → spread_marks (m ∷ ms) (n ∷ ns) ≡ mark_of n ∷ spread_marks ms ns
spread_take m ms n ns h = ap (λ (b : Bool). if b then mark_of n ∷ spread_marks ms ns else 0 ∷ spread_marks ms (n ∷ ns)) h

pub length-spread_marks : (outer numbers : List ℕ) → length (spread_marks outer numbers) ≡ length outer
length-spread_marks [] ns = refl
length-spread_marks (m ∷ ms) [] = ap suc (length-spread_marks ms [])
length-spread_marks (m ∷ ms) (n ∷ ns) = by_test (m == 1) (length-spread_marks ms ns) (length-spread_marks ms (n ∷ ns)) where
  by_test : (b : Bool) → length (spread_marks ms ns) ≡ length ms → length (spread_marks ms (n ∷ ns)) ≡ length ms → length (if b then mark_of n ∷ spread_marks ms ns else 0 ∷ spread_marks ms (n ∷ ns)) ≡ suc (length ms)
  by_test true h k = ap suc h
  by_test false h k = ap suc k

none_spread : (outer : List ℕ) → count_ones (spread_marks outer []) ≡ 0
none_spread [] = refl
none_spread (m ∷ ms) = none_spread ms

pub count_spread : (outer numbers : List ℕ) → length numbers ≡ count_ones outer → count_ones (spread_marks outer numbers) ≡ count_ones numbers
count_spread [] [] h = refl
count_spread [] (n ∷ ns) h = absurd (omega (arith, h))
count_spread (m ∷ ms) [] h = none_spread ms
count_spread (m ∷ ms) (n ∷ ns) h = by_mark (m == 1) refl (λ rest long. count_spread ms rest long) where
  by_mark : (b : Bool) → (m == 1) ≡ b → ((rest : List ℕ) → length rest ≡ count_ones ms → count_ones (spread_marks ms rest) ≡ count_ones rest) → count_ones (spread_marks (m ∷ ms) (n ∷ ns)) ≡ count_ones (n ∷ ns)
  by_mark true mark law =
      let rest = law ns (omega (arith, h, count_one m ms mark)) in
      ap count_ones (spread_take m ms n ns mark)
      ∙ (count_cons (mark_of n) (spread_marks ms ns)
      ∙ (ap (λ (b : Bool). if b then suc (count_ones (spread_marks ms ns)) else count_ones (spread_marks ms ns)) (mark_test n)
      ∙ (ap (λ k. if n == 1 then suc k else k) rest ∙ sym (count_cons n ns))))
  by_mark false mark law = ap count_ones (spread_skip m ms (n ∷ ns) mark) ∙ law (n ∷ ns) (h ∙ count_none m ms mark)

-- ---- those that are chosen

pub chosen_one : {A : Type 0} (m : ℕ) (ms : List ℕ) (x : A) (xs : List A) → (m == 1) ≡ true → chosen (m ∷ ms) (x ∷ xs) ≡ x ∷ chosen ms xs
chosen_one m ms x xs h = ap (λ (b : Bool). if b then x ∷ chosen ms xs else chosen ms xs) h

pub chosen_none : {A : Type 0} (m : ℕ) (ms : List ℕ) (x : A) (xs : List A) → (m == 1) ≡ false → chosen (m ∷ ms) (x ∷ xs) ≡ chosen ms xs
chosen_none m ms x xs h = ap (λ (b : Bool). if b then x ∷ chosen ms xs else chosen ms xs) h

pub chosen_same : {A : Type 0} (m : ℕ) (ms : List ℕ) (n : ℕ) (ns : List ℕ) (x : A) (xs : List A) → (m == 1) ≡ (n == 1) → chosen ms xs ≡ chosen ns xs → chosen (m ∷ ms) (x ∷ xs) ≡ chosen (n ∷ ns) (x ∷ xs)
chosen_same m ms n ns x xs h rest = ap (λ (b : Bool). if b then x ∷ chosen ms xs else chosen ms xs) h ∙ ap (λ others. if n == 1 then x ∷ others else others) rest

pub chosen_map : {A B : Type 0} (f : A → B) (marks : List ℕ) (xs : List A) → chosen marks (map f xs) ≡ map f (chosen marks xs)
chosen_map f [] xs = refl
chosen_map f (m ∷ ms) [] = refl
chosen_map f (m ∷ ms) (x ∷ xs) = by_test (m == 1) (chosen_map f ms xs) where
  by_test : (b : Bool) → chosen ms (map f xs) ≡ map f (chosen ms xs) → (if b then f x ∷ chosen ms (map f xs) else chosen ms (map f xs)) ≡ map f (if b then x ∷ chosen ms xs else chosen ms xs)
  by_test true h = ap (λ ys. f x ∷ ys) h
  by_test false h = h

pub count_chosen : {A : Type 0} (marks : List ℕ) (xs : List A) → length xs ≡ length marks → length (chosen marks xs) ≡ count_ones marks
count_chosen [] xs h = refl
count_chosen (m ∷ ms) [] h = absurd (omega (arith, h))
count_chosen (m ∷ ms) (x ∷ xs) h = by_test (m == 1) (count_chosen ms xs (omega (arith, h))) ∙ sym (count_cons m ms) where
  by_test : (b : Bool) → length (chosen ms xs) ≡ count_ones ms → length (if b then x ∷ chosen ms xs else chosen ms xs) ≡ (if b then suc (count_ones ms) else count_ones ms)
  by_test true k = ap suc k
  by_test false k = k

pub count_all : (marks : List ℕ) → list_all (λ m. m == 1) marks ≡ true → count_ones marks ≡ length marks
count_all [] all = refl
count_all (m ∷ ms) all = let both = and_parts (m == 1) (list_all (λ m. m == 1) ms) all in count_one m ms both.0 ∙ ap suc (count_all ms both.1)

pub chosen_all : {A : Type 0} (marks : List ℕ) (xs : List A) → list_all (λ m. m == 1) marks ≡ true → length xs ≡ length marks → chosen marks xs ≡ xs
chosen_all [] [] all h = refl
chosen_all [] (x ∷ xs) all h = absurd (omega (arith, h))
chosen_all (m ∷ ms) [] all h = refl
chosen_all (m ∷ ms) (x ∷ xs) all h = let both = and_parts (m == 1) (list_all (λ m. m == 1) ms) all in chosen_one m ms x xs both.0 ∙ ap (λ ys. x ∷ ys) (chosen_all ms xs both.1 (omega (arith, h)))

-- ---- those whose marks are 1 twice

pub length-both_marks : (ms ns : List ℕ) → length ms ≡ length ns → length (both_marks ms ns) ≡ length ms
length-both_marks [] ns h = refl
length-both_marks (m ∷ ms) [] h = absurd (omega (arith, h))
length-both_marks (m ∷ ms) (n ∷ ns) h = ap suc (length-both_marks ms ns (omega (arith, h)))

pub chosen_both : {A : Type 0} (ms ns : List ℕ) (xs : List A) → length ns ≡ length xs → chosen (both_marks ms ns) xs ≡ chosen (chosen ms ns) (chosen ms xs)
chosen_both [] ns xs h = refl
chosen_both (m ∷ ms) [] xs h = refl
chosen_both (m ∷ ms) (n ∷ ns) [] h = absurd (omega (arith, h))
chosen_both (m ∷ ms) (n ∷ ns) (x ∷ xs) h = by_test (m == 1) (chosen_both ms ns xs (omega (arith, h))) where
  by_test : (b : Bool) → chosen (both_marks ms ns) xs ≡ chosen (chosen ms ns) (chosen ms xs)
      → chosen ((if b then mark_of n else 0) ∷ both_marks ms ns) (x ∷ xs) ≡ chosen (if b then n ∷ chosen ms ns else chosen ms ns) (if b then x ∷ chosen ms xs else chosen ms xs)
  by_test true k =
      ap (λ (b : Bool). if b then x ∷ chosen (both_marks ms ns) xs else chosen (both_marks ms ns) xs) (mark_test n)
      ∙ ap (λ others. if n == 1 then x ∷ others else others) k
  by_test false k = k
