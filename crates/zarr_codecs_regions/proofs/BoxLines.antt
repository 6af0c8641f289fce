-- The numbers of the places of a box, line by line.
use Rattle.std.proofs.Common.{◌≡◌, ◌∙◌, ℕ, zero, suc, ◌+◌, ◌-◌, ◌*◌, ◌<◌, ◌≤◌, List, [], ◌∷◌, ◌++◌, length, map, get_or, set, flat_map, refl, sym, ap, arith, append_assoc}
use Rattle.std.specs.List.{range_with_len}
use Rattle.std.proofs.lemmas.List.{map-append}
use Rattle.std.proofs.lemmas.Grind.{flat_map-append}
use Rattle.zarr_grids_boxes.specs.Boxes.{Region, EndsFit, each2, places, product, ravel}
use Rattle.zarr_grids_boxes.specs.Cuts.{IsAtMost}
use Rattle.zarr_grids_boxes.proofs.InBox.{length-places}
use Rattle.zarr_grids_boxes.proofs.Places.{range_with_len-append}
use Rattle.zarr_codecs_traits.specs.Indexers.{numbers_of}
use Rattle.zarr_codecs_regions.specs.BoxLines.{first_places, line_length, line_numbers, with_first_alone}

-- ---- the shape of the first places

-- of no dimensions
pub alone_none : (es : List ℕ) → length es ≡ 0 → es ≡ with_first_alone es
alone_none [] h = refl
alone_none (e ∷ es) h = absurd (omega (arith, h))

-- with a 1 in the place of the last length
pub alone_set : (es : List ℕ) (n : ℕ) → length es ≡ n + 1 → set es n 1 ≡ with_first_alone es
alone_set [] n h = absurd (omega (arith, h))
alone_set (e ∷ []) zero h = refl
alone_set (e ∷ []) (suc n) h = absurd (omega (arith, h))
alone_set (e ∷ f ∷ es) zero h = absurd (omega (arith, h))
alone_set (e ∷ f ∷ es) (suc n) h = ap (λ xs. e ∷ xs) (alone_set (f ∷ es) n (omega (arith, h)))

pub alone_length : (es : List ℕ) → length (with_first_alone es) ≡ length es
alone_length [] = refl
alone_length (e ∷ []) = refl
alone_length (e ∷ f ∷ es) = ap (λ n. suc n) (alone_length (f ∷ es))

some_first : (e n : ℕ) → 0 < e * n → 0 < e
some_first zero n h = let none : 0 * n ≡ 0 = grind arith in omega (arith, h, none)
some_first (suc e) n h = omega arith

some_rest : (e n : ℕ) → 0 < e * n → 0 < n
some_rest e zero h = let none : e * 0 ≡ 0 = grind arith in omega (arith, h, none)
some_rest e (suc n) h = omega arith

-- it is no longer in any dimension
pub alone_least : (es : List ℕ) (k : ℕ) → 0 < product es → get_or (with_first_alone es) k 0 ≤ get_or es k 0
alone_least [] k some = omega arith
alone_least (e ∷ []) zero some = some_first e 1 some
alone_least (e ∷ []) (suc k) some = omega arith
alone_least (e ∷ f ∷ es) zero some = omega arith
alone_least (e ∷ f ∷ es) (suc k) some = alone_least (f ∷ es) k (some_rest e (product (f ∷ es)) some)

pub alone_fits : (ss es : List ℕ) → 0 < product es → EndsFit ss es → EndsFit ss (with_first_alone es)
alone_fits ss es some fit k below = let most = fit k below in let least = alone_least es k some in omega (arith, most, least)

each_sum : (ss es : List ℕ) (k : ℕ) → length es ≡ length ss → k < length ss → get_or (each2 (λ s e. s + e) ss es) k 0 ≡ get_or ss k 0 + get_or es k 0
each_sum [] es k l below = absurd (omega (arith, below))
each_sum (s ∷ ss) [] k l below = absurd (omega (arith, l))
each_sum (s ∷ ss) (e ∷ es) zero l below = refl
each_sum (s ∷ ss) (e ∷ es) (suc k) l below = each_sum ss es k (omega (arith, l)) (omega (arith, below))

sum_length : (ss es : List ℕ) → length es ≡ length ss → length (each2 (λ s e. s + e) ss es) ≡ length ss
sum_length [] es l = refl
sum_length (s ∷ ss) [] l = absurd (omega (arith, l))
sum_length (s ∷ ss) (e ∷ es) l = ap (λ n. suc n) (sum_length ss es (omega (arith, l)))

-- ---- the numbers

-- those from a number on, so many
abbrev line : ℕ → ℕ → List ℕ
line length n = range_with_len n length

and_none : (ns : List ℕ) → ns ≡ ns ++ []
and_none [] = refl
and_none (n ∷ ns) = ap (λ ms. n ∷ ms) (and_none ns)

more_range : (c s n : ℕ) → map (λ k. c + (k * 1 + 0)) (range_with_len s n) ≡ range_with_len (c + (s * 1 + 0)) n
more_range c s zero = refl
more_range c s (suc n) =
    let next : c + ((s + 1) * 1 + 0) ≡ c + (s * 1 + 0) + 1 = grind arith in
    ap (λ ks. (c + (s * 1 + 0)) ∷ ks) (more_range c (s + 1) n ∙ ap (λ k. range_with_len k n) next)

one_each : (g : List ℕ → ℕ) (ks : List ℕ) → map g (flat_map (λ k. (k ∷ []) ∷ []) ks) ≡ map (λ k. g (k ∷ [])) ks
one_each g [] = refl
one_each g (k ∷ ks) = ap (λ ns. g (k ∷ []) ∷ ns) (one_each g ks)

after_first : (g : List ℕ → ℕ) (k : ℕ) (rs : List (List ℕ)) → map g (map (λ r. k ∷ r) rs) ≡ map (λ r. g (k ∷ r)) rs
after_first g k [] = refl
after_first g k (r ∷ rs) = ap (λ ns. g (k ∷ r) ∷ ns) (after_first g k rs)

same_map : (f g : List ℕ → ℕ) (rs : List (List ℕ)) → ((r : List ℕ) → f r ≡ g r) → map f rs ≡ map g rs
same_map f g [] law = refl
same_map f g (r ∷ rs) law = ap (λ n. n ∷ map f rs) (law r) ∙ ap (λ ns. g r ∷ ns) (same_map f g rs law)

block : (h : ℕ → List ℕ) (g : List ℕ → ℕ) (rs firsts : List (List ℕ)) (ks : List ℕ) → ((k : ℕ) → map (λ r. g (k ∷ r)) rs ≡ flat_map h (map (λ r. g (k ∷ r)) firsts))
    → map g (flat_map (λ k. map (λ r. k ∷ r) rs) ks) ≡ flat_map h (map g (flat_map (λ k. map (λ r. k ∷ r) firsts) ks))
block h g rs firsts [] law = refl
block h g rs firsts (k ∷ ks) law =
    let all = flat_map (λ j. map (λ r. j ∷ r) rs) ks in
    let some = flat_map (λ j. map (λ r. j ∷ r) firsts) ks in
    map-append g (map (λ r. k ∷ r) rs) all
    ∙ (ap (λ ns. ns ++ map g all) (after_first g k rs ∙ (law k ∙ ap (flat_map h) (sym (after_first g k firsts))))
    ∙ (ap (λ ns. flat_map h (map g (map (λ r. k ∷ r) firsts)) ++ ns) (block h g rs firsts ks law)
    ∙ (sym (flat_map-append h (map g (map (λ r. k ∷ r) firsts)) (map g some)) ∙ ap (flat_map h) (sym (map-append g (map (λ r. k ∷ r) firsts) some)))))

by_lines : (c : ℕ) (ss es ns : List ℕ) → length es ≡ length ss → length ns ≡ length ss → map (λ p. c + ravel p ns) (places ss es) ≡ flat_map (line (line_length es)) (map (λ p. c + ravel p ns) (places ss (with_first_alone es)))
by_lines c [] [] [] l m = refl
by_lines c [] [] (n ∷ ns) l m = absurd (omega (arith, m))
by_lines c [] (e ∷ es) ns l m = absurd (omega (arith, l))
by_lines c (s ∷ ss) [] ns l m = absurd (omega (arith, l))
by_lines c (s ∷ ss) (e ∷ es) [] l m = absurd (omega (arith, m))
by_lines c (s ∷ []) (e ∷ []) (n ∷ []) l m =
    one_each (λ p. c + ravel p (n ∷ [])) (range_with_len s e) ∙ (more_range c s e ∙ and_none (range_with_len (c + (s * 1 + 0)) e))
by_lines c (s ∷ []) (e ∷ []) (n ∷ o ∷ ns) l m = absurd (omega (arith, m))
by_lines c (s ∷ []) (e ∷ f ∷ es) ns l m = absurd (omega (arith, l))
by_lines c (s ∷ t ∷ ss) (e ∷ []) ns l m = absurd (omega (arith, l))
by_lines c (s ∷ t ∷ ss) (e ∷ f ∷ es) (n ∷ ns) l m =
    block (line (line_length (f ∷ es))) (λ p. c + ravel p (n ∷ ns)) (places (t ∷ ss) (f ∷ es)) (places (t ∷ ss) (with_first_alone (f ∷ es))) (range_with_len s e)
    (λ k.
    let moved : (r : List ℕ) → c + (k * product ns + ravel r ns) ≡ c + k * product ns + ravel r ns = λ r. omega arith in
    same_map (λ r. c + (k * product ns + ravel r ns)) (λ r. c + k * product ns + ravel r ns) (places (t ∷ ss) (f ∷ es)) moved
    ∙ (by_lines (c + k * product ns) (t ∷ ss) (f ∷ es) ns (omega (arith, l)) (omega (arith, m))
    ∙ ap (flat_map (line (line_length (f ∷ es)))) (sym (same_map (λ r. c + (k * product ns + ravel r ns)) (λ r. c + k * product ns + ravel r ns) (places (t ∷ ss) (with_first_alone (f ∷ es))) moved))))

pub numbers_by_lines : (shape : List ℕ) (region : Region) → length region.shape ≡ length region.start → length shape ≡ length region.start → numbers_of shape region ≡ flat_map (λ n. range_with_len n (line_length region.shape)) (numbers_of shape (first_places region))
numbers_by_lines shape region l m =
    let more : (p : List ℕ) → ravel p shape ≡ 0 + ravel p shape = λ p. omega arith in
    same_map (λ p. ravel p shape) (λ p. 0 + ravel p shape) (places region.start region.shape) more
    ∙ (by_lines 0 region.start region.shape shape l m
    ∙ ap (flat_map (line (line_length region.shape))) (sym (same_map (λ p. ravel p shape) (λ p. 0 + ravel p shape) (places region.start (with_first_alone region.shape)) more)))

-- one number more
pub line_more : (first number : ℕ) (done pushed old : List ℕ) → first ≤ number → done ≡ old ++ range_with_len first (number - first) → pushed ≡ done ++ number ∷ [] → pushed ≡ old ++ range_with_len first (number + 1 - first)
line_more first number done pushed old low e f =
    let n = number - first in
    let here : first + n ≡ number = omega (arith, low) in
    let long : n + 1 ≡ number + 1 - first = omega (arith, low) in
    f ∙ (ap (λ xs. xs ++ number ∷ []) e ∙ (append_assoc old (range_with_len first n) (number ∷ [])
    ∙ ap (λ xs. old ++ xs) (ap (λ k. range_with_len first n ++ k ∷ []) (sym here) ∙ (sym (range_with_len-append first n 1) ∙ ap (range_with_len first) long))))

-- the last one of several lengths is the lines'
pub length_of_lines : (es : List ℕ) (n : ℕ) → length es ≡ n + 1 → line_length es ≡ get_or es n 0
length_of_lines [] n h = absurd (omega (arith, h))
length_of_lines (e ∷ []) zero h = refl
length_of_lines (e ∷ []) (suc n) h = absurd (omega (arith, h))
length_of_lines (e ∷ f ∷ es) zero h = absurd (omega (arith, h))
length_of_lines (e ∷ f ∷ es) (suc n) h = length_of_lines (f ∷ es) n (omega (arith, h))

-- the first places of a box in an array lie in it
pub firsts_at_most : (ss es ns : List ℕ) → length es ≡ length ss → 0 < product es → IsAtMost (each2 (λ s e. s + e) ss es) ns → IsAtMost (each2 (λ s e. s + e) ss (with_first_alone es)) ns
firsts_at_most ss es ns l some most =
    let alone = with_first_alone es in
    let m : length alone ≡ length ss = alone_length es ∙ l in
    let long = sum_length ss alone m in
    record {
      same = long ∙ (sym (sum_length ss es l) ∙ most.same);
      each = λ k below.
          let wide = sum_length ss es l in
          let rank = most.same in
          let low : k < length ss = omega (arith, below, wide, rank) in
          let here = most.each k below in
          let one = each_sum ss alone k m low in
          let two = each_sum ss es k l low in
          let least = alone_least es k some in
          omega (arith, here, one, two, least);
    }

-- a box without a place has no number
pub no_numbers : (shape : List ℕ) (region : Region) → length region.shape ≡ length region.start → product region.shape ≡ 0 → [] ≡ numbers_of shape region
no_numbers shape region l none = ap (map (λ place. ravel place shape)) (no_elements (places region.start region.shape) (length-places region.start region.shape (sym l) ∙ none)) where
  no_elements : (ps : List (List ℕ)) → length ps ≡ 0 → [] ≡ ps
  no_elements [] h = refl
  no_elements (p ∷ ps) h = absurd (omega arith)

-- the places of a box's lines are the box's
pub lines_are : (shape : List ℕ) (region firsts : Region) (long : ℕ) → length region.shape ≡ length region.start → length shape ≡ length region.start → firsts ≡ first_places region → long ≡ line_length region.shape → line_numbers long (numbers_of shape firsts) ≡ numbers_of shape region
lines_are shape region firsts long l m f n =
    ap (λ r. line_numbers long (numbers_of shape r)) f ∙ (ap (λ k. line_numbers k (numbers_of shape (first_places region))) n ∙ sym (numbers_by_lines shape region l m))
