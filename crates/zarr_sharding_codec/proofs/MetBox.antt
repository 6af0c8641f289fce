-- The subchunks that a box meets.
use Rattle.std.proofs.Common.{◌≡◌, ◌∙◌, ℕ, suc, ◌+◌, ◌-◌, ◌*◌, ◌/◌, ◌%◌, ◌<◌, ◌≤◌, List, [], ◌∷◌, length, ap, refl, arith, Bool, true, ◌&&◌, inl, inr}
use Rattle.std.specs.Prelude.{nat_le, nat_lt}
use Rattle.std.proofs.Math.Nat.{le-div_iff_mul-le, mul-le-mul_right}
use Rattle.std.proofs.lemmas.Bool.{and_parts, cases_lt, le-leb, leb-true, lt-ltb, ltb-true}
use Rattle.std.proofs.lemmas.Nat.{div_below, mod_below}
use Rattle.zarr_grids_boxes.specs.Boxes.{product, place_at, ravel, each2, is_in_box, IsIndex}
use Rattle.zarr_grids_boxes.specs.Cuts.{IsAtMost}
use Rattle.zarr_grids_boxes.proofs.Dimensions.{positive-drop, ravel_below}
use Rattle.zarr_grids_boxes.proofs.Walking.{place_index}
use Rattle.zarr_codecs_meaning.specs.Fits.{can_cut}
use Rattle.zarr_codecs_meaning.specs.Places.{grid_of}
use Rattle.zarr_codecs_meaning.proofs.Covers.{place_ravel}
use Rattle.zarr_codecs_meaning.proofs.Parts.{block}
use Rattle.zarr_sharding_places.specs.Locating.{subchunk_of}

-- ---- in which subchunk a place lies

-- a quotient is told by the multiples that it lies between
pub quotient_is : (x p g : ℕ) → 0 < p → g * p ≤ x → x < g * p + p → x / p ≡ g
quotient_is x p g some low high =
    let turn : (g + 1) * p ≡ g * p + p = grind arith in
    let below : x / p < g + 1 = div_below x p (g + 1) some (omega (arith, high, turn)) in
    let least : g ≤ x / p = (le-div_iff_mul-le {k = p} {x = g} {y = x} some).1 low in
    omega (arith, below, least)

-- ---- places of a box by their numbers in a larger one

-- numbers rise with those of the places
pub numbers_rise : (ss es ns : List ℕ) (i j : ℕ) → length es ≡ length ss → IsAtMost (each2 (λ s e. s + e) ss es) ns → i < j → j < product es → ravel (place_at ss es i) ns < ravel (place_at ss es j) ns
numbers_rise [] [] ns i j l most less low = absurd (omega (arith, less, low))
numbers_rise [] (e ∷ es) ns i j l most less low = absurd (omega (arith, l))
numbers_rise (s ∷ ss) [] ns i j l most less low = absurd (omega (arith, l))
numbers_rise (s ∷ ss) (e ∷ es) [] i j l most less low = let same = most.same in absurd (omega arith)
numbers_rise (s ∷ ss) (e ∷ es) (n ∷ ns) i j l most less low =
    let count = product es in
    let many = product ns in
    let some = positive-drop (e ∷ es) 0 (omega arith) (omega (arith, low)) in
    let rest : IsAtMost (each2 (λ s e. s + e) ss es) ns = record { same = let same = most.same in omega (arith, same); each = λ k below. most.each (suc k) (omega (arith, below)) } in
    let i_split : count * (i / count) + i % count ≡ i = omega (arith, some.1) in
    let j_split : count * (j / count) + j % count ≡ j = omega (arith, some.1) in
    let i_less = mod_below i count some.1 in
    let j_less = mod_below j count some.1 in
    elim (cases_lt (i / count) (j / count)) [
      | inl before ↦
          let under = ravel_below (place_at ss es (i % count)) ns (place_index ss es ns (i % count) (omega (arith, l)) rest i_less) in
          let step = mul-le-mul_right many (let h : s + i / count + 1 ≤ s + j / count = omega (arith, before) in h) in
          let more : (s + i / count + 1) * many ≡ (s + i / count) * many + many = grind arith in
          omega (arith, under, step, more)
      | inr after ↦
          let grows = mul-le-mul_right count after in
          let turn : j / count * count ≡ count * (j / count) = grind arith in
          let turned : i / count * count ≡ count * (i / count) = grind arith in
          let equal : i / count ≡ j / count = quotients_alike i j count some.1 less after in
          let inner = numbers_rise ss es ns (i % count) (j % count) (omega (arith, l)) rest (let same = ap (λ q. count * q) equal in omega (arith, less, i_split, j_split, same)) j_less in
          let first = ap (λ q. (s + q) * many) equal in
          omega (arith, inner, first)
    ] where
      quotients_alike : (i j count : ℕ) → 0 < count → i < j → j / count ≤ i / count → i / count ≡ j / count
      quotients_alike i j count some less after =
          let i_split : count * (i / count) + i % count ≡ i = omega (arith, some) in
          let up : i / count * count ≤ j = let turn : i / count * count ≡ count * (i / count) = grind arith in omega (arith, less, i_split, turn) in
          let least : i / count ≤ j / count = (le-div_iff_mul-le {k = count} {x = i / count} {y = j} some).1 up in
          omega (arith, least, after)

-- ---- the box of the subchunks that a box meets

quotient_between : (s r x p : ℕ) → 0 < p → s ≤ x → x < s + r → (s / p ≤ x / p) × (x / p < s / p + ((s + r + (p - 1)) / p - s / p))
quotient_between s r x p some low high =
    let first : p * (s / p) + s % p ≡ s = omega (arith, some) in
    let least : s / p ≤ x / p = (le-div_iff_mul-le {k = p} {x = s / p} {y = x} some).1 (let turn : s / p * p ≡ p * (s / p) = grind arith in omega (arith, first, turn, low)) in
    let split : p * (x / p) + x % p ≡ x = omega (arith, some) in
    let most : suc (x / p) ≤ (s + r + (p - 1)) / p = (le-div_iff_mul-le {k = p} {x = suc (x / p)} {y = s + r + (p - 1)} some).1 (let turn : suc (x / p) * p ≡ p * (x / p) + p = grind arith in omega (arith, turn, split, high, some)) in
    (least, omega (arith, least, most))

pub met_has : (es ss rs xs : List ℕ) → can_cut ss es ≡ true → is_in_box ss rs xs ≡ true
    → is_in_box (block ss es) (each2 (λ s e. e - s) (block ss es) (grid_of (each2 (λ s e. s + e) ss rs) es)) (block xs es) ≡ true
met_has [] [] [] [] cuts h = refl
met_has [] [] [] (x ∷ xs) cuts h = cc
met_has [] [] (r ∷ rs) xs cuts h = cc
met_has (e ∷ es) [] rs xs cuts h = cc
met_has [] (s ∷ ss) rs xs cuts h = cc
met_has (e ∷ es) (s ∷ ss) [] xs cuts h = cc
met_has (e ∷ es) (s ∷ ss) (r ∷ rs) [] cuts h = cc
met_has (e ∷ es) (s ∷ ss) (r ∷ rs) (x ∷ xs) cuts h =
    let positive = and_parts (nat_lt 0 e) (can_cut ss es) cuts in
    let both = and_parts (nat_le s x && nat_lt x (s + r)) (is_in_box ss rs xs) h in
    let here = and_parts (nat_le s x) (nat_lt x (s + r)) both.0 in
    let between = quotient_between s r x e (ltb-true 0 e positive.0) (leb-true s x here.0) (ltb-true x (s + r) here.1) in
    let a = le-leb (s / e) (x / e) between.0 in
    let b = lt-ltb (x / e) (s / e + ((s + r + (e - 1)) / e - s / e)) between.1 in
    rw (a, b, met_has es ss rs xs positive.1 both.1) refl

pub cut_as : (es xs ys : List ℕ) → can_cut xs es ≡ true → length ys ≡ length xs → can_cut ys es ≡ true
cut_as [] [] [] cuts l = refl
cut_as [] [] (y ∷ ys) cuts l = absurd (omega (arith, l))
cut_as [] (x ∷ xs) ys cuts l = cc
cut_as (e ∷ es) [] ys cuts l = cc
cut_as (e ∷ es) (x ∷ xs) [] cuts l = absurd (omega (arith, l))
cut_as (e ∷ es) (x ∷ xs) (y ∷ ys) cuts l =
    let positive = and_parts (nat_lt 0 e) (can_cut xs es) cuts in
    ap (λ (b : Bool). b && can_cut ys es) positive.0 ∙ cut_as es xs ys positive.1 (omega (arith, l))

-- ---- the subchunk that a place lies in

pub place_in : (shape subchunk x : List ℕ) → can_cut shape subchunk ≡ true → IsIndex x shape → subchunk_of shape subchunk (ravel x shape) ≡ ravel (block x subchunk) (grid_of shape subchunk)
place_in shape subchunk x cuts is = ap (λ p. ravel (block p subchunk) (grid_of shape subchunk)) (place_ravel shape x is)
