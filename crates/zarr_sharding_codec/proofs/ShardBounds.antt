-- The sum of what is told of the sizes of subchunks.
use Rattle.std.proofs.Common.{◌≡◌, ◌∙◌, ℕ, zero, suc, ◌+◌, ◌-◌, ◌*◌, ◌/◌, ◌%◌, ◌^◌, ◌<◌, ◌≤◌, min, List, [], ◌∷◌, ◌++◌, length, map, get_or, replicate, ap, sym, refl, subst, arith, inl, inr, Bool, false, ◌||◌, Option, Some, None, Result, Ok, Err, option_and_then, option_map, append-nil, length-append}
use Rattle.std.specs.List.{flat_map, list_any}
use Rattle.std.proofs.Math.ListN.{get_or-append}
use Rattle.std.proofs.lemmas.Bool.{cases_lt, or_from}
use Rattle.std.proofs.lemmas.Grind.{flat_map-append}
use Rattle.std.proofs.lemmas.List.{get_or-append-add, map-append}
use Rattle.std.proofs.lemmas.List.Folds.{list_any-append}
use Rattle.zarr_codecs_meaning.specs.Types.{DataType}
use Rattle.zarr_codecs_meaning.specs.Chains.{Chain}
use Rattle.zarr_codecs_meaning.specs.Fits.{bound_of, representation_of, sum_of_bounds, tells_too_long}
use Rattle.zarr_codecs_meaning.specs.Places.{Part}
use Rattle.zarr_codecs_meaning.proofs.Bounds.{plus}
use Rattle.zarr_codecs_meaning.proofs.Lists.{some_same}
use Rattle.zarr_codecs_arrays.specs.declared.error.CodecError.{CodecError}
use Rattle.zarr_codecs_arrays.specs.declared.error.CodecError.TheVariants as error
use Rattle.zarr_codecs_traits.specs.Representations.{RepresentsArray}
use Rattle.zarr_sharding_codec.specs.Fitting.{AreBounded, BoundsAlone, BoundsShapes, IsOneTooLong, any_told_long, behind, bound_of_shapes, capped, shapes_behind}
use Rattle.zarr_sharding_codec.proofs.PartShapes.{behind_short, behind_step, even_lengths, left_over, lengths_along, more_lengths, shapes_with, some_whole}

-- ---- sums

plus_zero : (b : Option ℕ) → plus (Some 0) b ≡ b
plus_zero None = refl
plus_zero (Some n) = ap Some (omega arith)

plus_none : (b : Option ℕ) → plus b None ≡ None
plus_none None = refl
plus_none (Some n) = refl

plus_assoc : (a b c : Option ℕ) → plus a (plus b c) ≡ plus (plus a b) c
plus_assoc None b c = refl
plus_assoc (Some l) None c = refl
plus_assoc (Some l) (Some m) None = refl
plus_assoc (Some l) (Some m) (Some n) = ap Some (omega arith)

sum_append : (xs ys : List (Option ℕ)) → sum_of_bounds (xs ++ ys) ≡ plus (sum_of_bounds xs) (sum_of_bounds ys)
sum_append [] ys = sym (plus_zero (sum_of_bounds ys))
sum_append (x ∷ xs) ys = ap (plus x) (sum_append xs ys) ∙ plus_assoc x (sum_of_bounds xs) (sum_of_bounds ys)

module _ (bound : List ℕ → Option ℕ) (shapes : ℕ → List (List ℕ)) where
  -- the sum of the bounds of some shapes
  abbrev pub sum_of : List (List ℕ) → Option ℕ
  sum_of ss = sum_of_bounds (map bound ss)

  sum_both : (xs ys : List (List ℕ)) → sum_of (xs ++ ys) ≡ plus (sum_of xs) (sum_of ys)
  sum_both xs ys = ap sum_of_bounds (map-append bound xs ys) ∙ sum_append (map bound xs) (map bound ys)

  -- of shapes with the same length, so many times
  pub sum_alike : (k m each : ℕ) → sum_of (shapes m) ≡ Some each → sum_of (flat_map shapes (replicate k m)) ≡ Some (k * each)
  sum_alike zero m each is = ap Some (omega arith)
  sum_alike (suc k) m each is =
      sum_both (shapes m) (flat_map shapes (replicate k m)) ∙ (ap (λ (b : Option ℕ). plus b (sum_of (flat_map shapes (replicate k m)))) is ∙ (ap (plus (Some each)) (sum_alike k m each is) ∙ ap Some (grind arith)))

  pub sum_none : (k m : ℕ) (ms : List ℕ) → 0 < k → sum_of (shapes m) ≡ None → sum_of (flat_map shapes (replicate k m ++ ms)) ≡ None
  sum_none zero m ms some is = absurd (omega (arith, some))
  sum_none (suc k) m ms some is = sum_both (shapes m) (flat_map shapes (replicate k m ++ ms)) ∙ ap (λ (b : Option ℕ). plus b (sum_of (flat_map shapes (replicate k m ++ ms)))) is

  -- and one with another length
  pub sum_more : (k m rest each : ℕ) → sum_of (shapes m) ≡ Some each → sum_of (flat_map shapes (replicate k m ++ rest ∷ [])) ≡ plus (Some (k * each)) (sum_of (shapes rest))
  sum_more k m rest each is =
      ap sum_of (flat_map-append shapes (replicate k m) (rest ∷ []))
      ∙ (sum_both (flat_map shapes (replicate k m)) (shapes rest ++ [])
      ∙ (ap (λ (b : Option ℕ). plus b (sum_of (shapes rest ++ []))) (sum_alike k m each is) ∙ ap (λ (ss : List (List ℕ)). plus (Some (k * each)) (sum_of ss)) (append-nil (shapes rest))))

-- ---- what 64 bits tell of them

-- a number that is told is there
pub record IsTold (b : Option ℕ) (told : ℕ) : Type 0 where
  pub number : ℕ
  pub is : b ≡ Some number
  pub as_told : told ≡ capped number

pub is_told : (b : Option ℕ) (told : ℕ) → Some told ≡ option_map capped b → IsTold b told
is_told None told h = cc
is_told (Some n) told h = record { number = n; is = refl; as_told = some_same h }

pub none_told : (b : Option ℕ) → None ≡ option_map capped b → b ≡ None
none_told None h = refl
none_told (Some n) h = cc

capped_times : (k n : ℕ) → 0 < k → min (capped n * k) (2 ^ 64 - 1) ≡ capped (k * n)
capped_times zero n some = absurd (omega (arith, some))
capped_times (suc k) n some = elim (cases_lt n (2 ^ 64 - 1)) [
  | inl low ↦
      let same : capped n ≡ n = omega (arith, low) in
      let turn : n * suc k ≡ suc k * n = grind arith in
      ap (λ m. min (m * suc k) (2 ^ 64 - 1)) same ∙ ap capped turn
  | inr high ↦
      let same : capped n ≡ 2 ^ 64 - 1 = omega (arith, high) in
      let one : (2 ^ 64 - 1) * suc k ≡ (2 ^ 64 - 1) + (2 ^ 64 - 1) * k = grind arith in
      let two : suc k * n ≡ n + k * n = grind arith in
      ap (λ m. min (m * suc k) (2 ^ 64 - 1)) same ∙ omega (arith, one, two, high)
]

capped_plus : (m n : ℕ) → min (capped m + capped n) (2 ^ 64 - 1) ≡ capped (m + n)
capped_plus m n = omega arith

-- ---- the shapes of subchunks

plus_end : (b : Option ℕ) → plus b (Some 0) ≡ b
plus_end None = refl
plus_end (Some n) = ap Some (omega arith)

-- how large what a chain makes of an array can be
abbrev bound_at : Chain → DataType → List ℕ → Option ℕ
bound_at inner type shape = bound_of (representation_of inner type shape)

-- in no dimension more
bounds_none : (inner : Chain) (type : DataType) (front : List ℕ) → option_map capped (bound_of (representation_of inner type front)) ≡ option_map capped (bound_of_shapes inner type (behind front [] []))
bounds_none inner type front =
    sym (ap (λ (s : List ℕ). option_map capped (plus (bound_at inner type s) (Some 0))) (append-nil front) ∙ ap (option_map capped) (plus_end (bound_at inner type front)))

module _ (inner : Chain) (type : DataType) (front : List ℕ) (n p : ℕ) (ns ps : List ℕ) where
  -- in one that is shorter than the edge
  bounds_short : 0 < n → n < p → bound_of_shapes inner type (behind (front ++ n ∷ []) ns ps) ≡ bound_of_shapes inner type (behind front (n ∷ ns) (p ∷ ps))
  bounds_short some less = sym (ap (λ (ss : List (List ℕ)). sum_of_bounds (map (bound_at inner type) ss)) (behind_short front n p ns ps some less))

  step : (ms : List ℕ) → 0 < p → lengths_along n p ≡ ms → bound_of_shapes inner type (behind front (n ∷ ns) (p ∷ ps)) ≡ sum_of_bounds (map (bound_at inner type) (flat_map (shapes_with front ns ps) ms))
  step ms some are = ap (λ (ss : List (List ℕ)). sum_of_bounds (map (bound_at inner type) ss)) (behind_step front n p ns ps some ∙ ap (flat_map (shapes_with front ns ps)) are)

  -- in one that the edge divides
  bounds_even : (told all : ℕ) → 0 < p → p ≤ n → n % p ≡ 0 → Some told ≡ option_map capped (bound_of_shapes inner type (behind (front ++ p ∷ []) ns ps)) → all ≡ min (told * (n / p)) (2 ^ 64 - 1)
      → Some all ≡ option_map capped (bound_of_shapes inner type (behind front (n ∷ ns) (p ∷ ps)))
  bounds_even told all some fit even whole is =
      let known = is_told (bound_of_shapes inner type (behind (front ++ p ∷ []) ns ps)) told whole in
      let sum = step (replicate (n / p) p) some (even_lengths n p even) ∙ sum_alike (bound_at inner type) (shapes_with front ns ps) (n / p) p known.number known.is in
      let told_all : all ≡ capped (n / p * known.number) = is ∙ (ap (λ m. min (m * (n / p)) (2 ^ 64 - 1)) known.as_told ∙ capped_times (n / p) known.number (some_whole n p some fit)) in
      ap Some told_all ∙ sym (ap (option_map capped) sum)

  -- in one with a rest
  bounds_more : (told all rest : ℕ) → 0 < p → p ≤ n → 0 < n % p → Some told ≡ option_map capped (bound_of_shapes inner type (behind (front ++ p ∷ []) ns ps)) → all ≡ min (told * (n / p)) (2 ^ 64 - 1)
      → Some rest ≡ option_map capped (bound_of_shapes inner type (behind (front ++ n % p ∷ []) ns ps)) → Some (min (all + rest) (2 ^ 64 - 1)) ≡ option_map capped (bound_of_shapes inner type (behind front (n ∷ ns) (p ∷ ps)))
  bounds_more told all rest some fit left whole is last =
      let known = is_told (bound_of_shapes inner type (behind (front ++ p ∷ []) ns ps)) told whole in
      let known_last = is_told (bound_of_shapes inner type (behind (front ++ n % p ∷ []) ns ps)) rest last in
      let sum = step (replicate (n / p) p ++ n % p ∷ []) some (more_lengths n p left)
      ∙ (sum_more (bound_at inner type) (shapes_with front ns ps) (n / p) p (n % p) known.number known.is ∙ ap (plus (Some (n / p * known.number))) known_last.is) in
      let told_all : all ≡ capped (n / p * known.number) = is ∙ (ap (λ m. min (m * (n / p)) (2 ^ 64 - 1)) known.as_told ∙ capped_times (n / p) known.number (some_whole n p some fit)) in
      let both : min (all + rest) (2 ^ 64 - 1) ≡ capped (n / p * known.number + known_last.number) =
      ap (λ m. min (m + rest) (2 ^ 64 - 1)) told_all ∙ (ap (λ m. min (capped (n / p * known.number) + m) (2 ^ 64 - 1)) known_last.as_told ∙ capped_plus (n / p * known.number) known_last.number) in
      ap Some both ∙ sym (ap (option_map capped) sum)

  -- where one of them has no bound
  bounds_unknown : 0 < p → p ≤ n → None ≡ option_map capped (bound_of_shapes inner type (behind (front ++ p ∷ []) ns ps)) → None ≡ option_map capped (bound_of_shapes inner type (behind front (n ∷ ns) (p ∷ ps)))
  bounds_unknown some fit whole =
      let none = none_told (bound_of_shapes inner type (behind (front ++ p ∷ []) ns ps)) whole in
      sym (ap (option_map capped) (step (lengths_along n p) some refl ∙ sum_none (bound_at inner type) (shapes_with front ns ps) (n / p) p (left_over (n % p)) (some_whole n p some fit) none))

  bounds_unknown_last : (told : ℕ) → 0 < p → 0 < n % p → Some told ≡ option_map capped (bound_of_shapes inner type (behind (front ++ p ∷ []) ns ps)) → None ≡ option_map capped (bound_of_shapes inner type (behind (front ++ n % p ∷ []) ns ps))
      → None ≡ option_map capped (bound_of_shapes inner type (behind front (n ∷ ns) (p ∷ ps)))
  bounds_unknown_last told some left whole last =
      let known = is_told (bound_of_shapes inner type (behind (front ++ p ∷ []) ns ps)) told whole in
      let none = none_told (bound_of_shapes inner type (behind (front ++ n % p ∷ []) ns ps)) last in
      let sum = step (replicate (n / p) p ++ n % p ∷ []) some (more_lengths n p left)
      ∙ (sum_more (bound_at inner type) (shapes_with front ns ps) (n / p) p (n % p) known.number known.is ∙ (ap (plus (Some (n / p * known.number))) none ∙ plus_none (Some (n / p * known.number)))) in
      sym (ap (option_map capped) sum)

  -- whether or not there is a bound
  even_told : (found : Option ℕ) → 0 < p → p ≤ n → n % p ≡ 0 → found ≡ option_map capped (bound_of_shapes inner type (behind (front ++ p ∷ []) ns ps))
      → option_map (λ told. min (told * (n / p)) (2 ^ 64 - 1)) found ≡ option_map capped (bound_of_shapes inner type (behind front (n ∷ ns) (p ∷ ps)))
  even_told None some fit even whole = bounds_unknown some fit whole
  even_told (Some told) some fit even whole = bounds_even told (min (told * (n / p)) (2 ^ 64 - 1)) some fit even whole refl

  more_told : (found rest : Option ℕ) → 0 < p → p ≤ n → 0 < n % p → found ≡ option_map capped (bound_of_shapes inner type (behind (front ++ p ∷ []) ns ps)) → rest ≡ option_map capped (bound_of_shapes inner type (behind (front ++ n % p ∷ []) ns ps))
      → option_and_then (λ m. option_map (λ k. min (m + k) (2 ^ 64 - 1)) rest) (option_map (λ told. min (told * (n / p)) (2 ^ 64 - 1)) found) ≡ option_map capped (bound_of_shapes inner type (behind front (n ∷ ns) (p ∷ ps)))
  more_told None rest some fit left whole last = bounds_unknown some fit whole
  more_told (Some told) None some fit left whole last = bounds_unknown_last told some left whole last
  more_told (Some told) (Some rest) some fit left whole last = bounds_more told (min (told * (n / p)) (2 ^ 64 - 1)) rest some fit left whole refl last

-- ---- none that is told too long

module _ (long : List ℕ → Bool) where
  short_alike : (shapes : ℕ → List (List ℕ)) (k m : ℕ) → list_any long (shapes m) ≡ false → list_any long (flat_map shapes (replicate k m)) ≡ false
  short_alike shapes zero m short = refl
  short_alike shapes (suc k) m short =
      let others = flat_map shapes (replicate k m) in
      list_any-append long (shapes m) others ∙ or_from (list_any long (shapes m)) (list_any long others) short (short_alike shapes k m short)

module _ (inner : Chain) (type : DataType) where
  -- in no dimension more
  short_none : (front : List ℕ) → tells_too_long inner type front ≡ false → any_told_long inner type (behind front [] []) ≡ false
  short_none front short = or_from (tells_too_long inner type (front ++ [])) false (ap (tells_too_long inner type) (append-nil front) ∙ short) refl

  module _ (front : List ℕ) (n p : ℕ) (ns ps : List ℕ) where
    short_short : 0 < n → n < p → any_told_long inner type (behind (front ++ n ∷ []) ns ps) ≡ false → any_told_long inner type (behind front (n ∷ ns) (p ∷ ps)) ≡ false
    short_short some less short = ap (list_any (λ s. tells_too_long inner type s)) (behind_short front n p ns ps some less) ∙ short

    short_even : 0 < p → n % p ≡ 0 → any_told_long inner type (behind (front ++ p ∷ []) ns ps) ≡ false → any_told_long inner type (behind front (n ∷ ns) (p ∷ ps)) ≡ false
    short_even some even short =
        ap (list_any (λ s. tells_too_long inner type s)) (behind_step front n p ns ps some ∙ ap (flat_map (shapes_with front ns ps)) (even_lengths n p even))
        ∙ short_alike (λ s. tells_too_long inner type s) (shapes_with front ns ps) (n / p) p short

    short_more : 0 < p → 0 < n % p → any_told_long inner type (behind (front ++ p ∷ []) ns ps) ≡ false → any_told_long inner type (behind (front ++ n % p ∷ []) ns ps) ≡ false → any_told_long inner type (behind front (n ∷ ns) (p ∷ ps)) ≡ false
    short_more some left short last =
        let long = λ (s : List ℕ). tells_too_long inner type s in
        let shapes = shapes_with front ns ps in
        let wholes = flat_map shapes (replicate (n / p) p) in
        let rest = shapes (n % p) in
        ap (list_any long) (behind_step front n p ns ps some ∙ (ap (flat_map shapes) (more_lengths n p left) ∙ flat_map-append shapes (replicate (n / p) p) (n % p ∷ [])))
        ∙ (list_any-append long wholes (rest ++ []) ∙ or_from (list_any long wholes) (list_any long (rest ++ [])) (short_alike long shapes (n / p) p short) (ap (list_any long) (append-nil rest) ∙ last))

-- ---- one that is too long

module _ (inner : Chain) (type : DataType) where
  long_left : (xs ys : List (List ℕ)) → IsOneTooLong inner type xs → IsOneTooLong inner type (xs ++ ys)
  long_left xs ys long =
      let low = long.below in
      let count = length-append xs ys in
      record {
        number = long.number;
        below = omega (arith, low, count);
        is = λ d. subst (λ (s : List ℕ). RepresentsArray inner type s (Err error.Size)) (sym (get_or-append xs ys d long.number long.below)) (long.is d);
      }

  long_right : (xs ys : List (List ℕ)) → IsOneTooLong inner type ys → IsOneTooLong inner type (xs ++ ys)
  long_right xs ys long =
      let low = long.below in
      let count = length-append xs ys in
      record {
        number = length xs + long.number;
        below = omega (arith, low, count);
        is = λ d. subst (λ (s : List ℕ). RepresentsArray inner type s (Err error.Size)) (sym (get_or-append-add xs ys long.number d)) (long.is d);
      }

  long_first : (shapes : ℕ → List (List ℕ)) (k m : ℕ) (ms : List ℕ) → 0 < k → IsOneTooLong inner type (shapes m) → IsOneTooLong inner type (flat_map shapes (replicate k m ++ ms))
  long_first shapes zero m ms some long = absurd (omega (arith, some))
  long_first shapes (suc k) m ms some long = long_left (shapes m) (flat_map shapes (replicate k m ++ ms)) long

  long_none : (front : List ℕ) → RepresentsArray inner type front (Err error.Size) → IsOneTooLong inner type (shapes_behind (behind front [] []))
  long_none front long = record { number = 0; below = omega arith; is = λ d. subst (λ (s : List ℕ). RepresentsArray inner type s (Err error.Size)) (sym (append-nil front)) long }

  module _ (front : List ℕ) (n p : ℕ) (ns ps : List ℕ) where
    long_short : 0 < n → n < p → IsOneTooLong inner type (shapes_behind (behind (front ++ n ∷ []) ns ps)) → IsOneTooLong inner type (shapes_behind (behind front (n ∷ ns) (p ∷ ps)))
    long_short some less long = subst (IsOneTooLong inner type) (sym (behind_short front n p ns ps some less)) long

    long_whole : 0 < p → p ≤ n → IsOneTooLong inner type (shapes_behind (behind (front ++ p ∷ []) ns ps)) → IsOneTooLong inner type (shapes_behind (behind front (n ∷ ns) (p ∷ ps)))
    long_whole some fit long = subst (IsOneTooLong inner type) (sym (behind_step front n p ns ps some)) (long_first (shapes_with front ns ps) (n / p) p (left_over (n % p)) (some_whole n p some fit) long)

    long_last : 0 < p → 0 < n % p → IsOneTooLong inner type (shapes_behind (behind (front ++ n % p ∷ []) ns ps)) → IsOneTooLong inner type (shapes_behind (behind front (n ∷ ns) (p ∷ ps)))
    long_last some left long =
        let are = behind_step front n p ns ps some ∙ (ap (flat_map (shapes_with front ns ps)) (more_lengths n p left) ∙ flat_map-append (shapes_with front ns ps) (replicate (n / p) p) (n % p ∷ [])) in
        subst (IsOneTooLong inner type) (sym are)
        (long_right (flat_map (shapes_with front ns ps) (replicate (n / p) p)) (shapes_with front ns ps (n % p) ++ []) (long_left (shapes_with front ns ps (n % p)) [] long))

-- ---- what is found of the shapes, by the first dimension

-- in no dimension more
pub shapes_alone : (inner : Chain) (type : DataType) (front sizes edges : List ℕ) (found : Result (Option ℕ) CodecError) → length sizes ≡ 0 → length sizes ≡ length edges → BoundsAlone inner type front found → BoundsShapes inner type (behind front sizes edges) found
shapes_alone inner type front [] [] (Ok bound) none rank told = record { sum = told.0 ∙ bounds_none inner type front; short = short_none inner type front told.1 }
shapes_alone inner type front [] [] (Err error.Size) none rank long = long_none inner type front long
shapes_alone inner type front [] [] (Err error.Memory) none rank is = tt
shapes_alone inner type front [] [] (Err e) none rank is = absurd is
shapes_alone inner type front [] (edge ∷ edges) found none rank is = absurd (omega (arith, rank))
shapes_alone inner type front (size ∷ sizes) edges found none rank is = absurd (omega (arith, none))

module _ (inner : Chain) (type : DataType) (front : List ℕ) (n p : ℕ) (ns ps : List ℕ) where
  pub shapes_bounded_short : (found : Result (Option ℕ) CodecError) → 0 < n → n < p → BoundsShapes inner type (behind (front ++ n ∷ []) ns ps) found → BoundsShapes inner type (behind front (n ∷ ns) (p ∷ ps)) found
  shapes_bounded_short (Ok bound) some less is = record {
    sum = is.sum ∙ ap (option_map capped) (bounds_short inner type front n p ns ps some less);
    short = short_short inner type front n p ns ps some less is.short;
  }
  shapes_bounded_short (Err error.Size) some less long = long_short inner type front n p ns ps some less long
  shapes_bounded_short (Err error.Memory) some less is = tt
  shapes_bounded_short (Err e) some less is = absurd is

  pub shapes_bounded_even : (found : Option ℕ) → 0 < p → p ≤ n → n % p ≡ 0 → AreBounded inner type (behind (front ++ p ∷ []) ns ps) found
      → AreBounded inner type (behind front (n ∷ ns) (p ∷ ps)) (option_map (λ told. min (told * (n / p)) (2 ^ 64 - 1)) found)
  shapes_bounded_even found some fit even whole = record {
    sum = even_told inner type front n p ns ps found some fit even whole.sum;
    short = short_even inner type front n p ns ps some even whole.short;
  }

  pub shapes_bounded_more : (found rest : Option ℕ) → 0 < p → p ≤ n → 0 < n % p → AreBounded inner type (behind (front ++ p ∷ []) ns ps) found → AreBounded inner type (behind (front ++ n % p ∷ []) ns ps) rest
      → AreBounded inner type (behind front (n ∷ ns) (p ∷ ps)) (option_and_then (λ m. option_map (λ k. min (m + k) (2 ^ 64 - 1)) rest) (option_map (λ told. min (told * (n / p)) (2 ^ 64 - 1)) found))
  shapes_bounded_more found rest some fit left whole last = record {
    sum = more_told inner type front n p ns ps found rest some fit left whole.sum last.sum;
    short = short_more inner type front n p ns ps some left whole.short last.short;
  }

  pub shapes_unbounded_whole : (e : CodecError) → 0 < p → p ≤ n → BoundsShapes inner type (behind (front ++ p ∷ []) ns ps) (Err e) → BoundsShapes inner type (behind front (n ∷ ns) (p ∷ ps)) (Err e)
  shapes_unbounded_whole error.Size some fit long = long_whole inner type front n p ns ps some fit long
  shapes_unbounded_whole error.Memory some fit is = tt
  shapes_unbounded_whole e some fit is = absurd is

  pub shapes_unbounded_last : (e : CodecError) → 0 < p → 0 < n % p → BoundsShapes inner type (behind (front ++ n % p ∷ []) ns ps) (Err e) → BoundsShapes inner type (behind front (n ∷ ns) (p ∷ ps)) (Err e)
  shapes_unbounded_last error.Size some left long = long_last inner type front n p ns ps some left long
  shapes_unbounded_last error.Memory some left is = tt
  shapes_unbounded_last e some left is = absurd is

-- ---- all subchunks

pub told_all : (inner : Chain) (type : DataType) (parts : List Part) → list_any (λ (part : Part). tells_too_long inner type part.shape) parts ≡ list_any (λ (s : List ℕ). tells_too_long inner type s) (map (λ (part : Part). [] ++ part.shape) parts)
told_all inner type [] = refl
told_all inner type (part ∷ parts) = ap (λ (b : Bool). tells_too_long inner type part.shape || b) (told_all inner type parts)

pub bounds_all : (inner : Chain) (type : DataType) (parts : List Part) → map (λ (part : Part). bound_of (representation_of inner type part.shape)) parts ≡ map (λ (s : List ℕ). bound_of (representation_of inner type s)) (map (λ (part : Part). [] ++ part.shape) parts)
bounds_all inner type [] = refl
bounds_all inner type (part ∷ parts) = ap (λ (bs : List (Option ℕ)). bound_at inner type part.shape ∷ bs) (bounds_all inner type parts)
