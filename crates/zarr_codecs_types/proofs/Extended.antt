-- The bytes of a number whose bits above its own are as its sign rule says.
use Rattle.std.proofs.Common.{◌≡◌, ℕ, suc, ◌+◌, ◌-◌, ◌*◌, ◌%◌, ◌^◌, ◌<◌, ◌≤◌, List, [], ◌∷◌, length, ap, ◌∙◌, sym, refl, arith, Bool, true, false, not, ◌&&◌, ◌==◌, if◌then◌else◌, pow-add, pow-suc, pow_mono}
use Rattle.std.specs.Prelude.{nat_lt}
use Rattle.std.specs.Bool.{Decides}
use Rattle.std.specs.List.{list_all}
use Rattle.std.proofs.lemmas.Bool.{eq-eqb, ne_eqb}
use Rattle.std.proofs.lemmas.Bool.Decides.{same_from_decides, Decides-eqb, Decides-like, Decides-and}
use Rattle.std.proofs.lemmas.Nat.{pow_pos}
use Rattle.std.proofs.Math.Nat.{add-mul-mod_self_right}
use native.Mathlib.Nat.{pow-zero, div-add-mod}
use Rattle.zarr_codecs_meaning.specs.Numbers.{number}
use Rattle.zarr_codecs_meaning.specs.Types.{Sign, unsigned, signed, extended}
use Rattle.zarr_codecs_meaning.proofs.Lists.{Each}
use Rattle.zarr_codecs_types.specs.Parts.{is_extended, is_negative}

-- ---- bytes that are all zero, or all 255

pub number_below : (bs : List ℕ) → Each (λ b. b < 256) bs → number 256 bs < 256 ^ length bs
number_below [] h = omega (arith, pow-zero 256)
number_below (b ∷ bs) h = let here = h.0 in let rest = number_below bs h.1 in omega (arith, pow-suc 256 (length bs), rest, here)

pub Decides-zeros : (bs : List ℕ) → Decides (list_all (λ b. b == 0) bs) (number 256 bs ≡ 0)
Decides-zeros [] = (λ _. refl, λ _. refl)
Decides-zeros (b ∷ bs) =
    Decides-like ((b == 0) && list_all (λ b. b == 0) bs) (λ (h : (b ≡ 0) × (number 256 bs ≡ 0)). let one = h.0 in let two = h.1 in omega arith) (λ h. (omega arith, omega arith))
    (Decides-and (b == 0) (list_all (λ b. b == 0) bs) (Decides-eqb b 0) (Decides-zeros bs))

pub Decides-ones : (bs : List ℕ) → Each (λ b. b < 256) bs → Decides (list_all (λ b. b == 255) bs) (number 256 bs + 1 ≡ 256 ^ length bs)
Decides-ones [] h = let one = pow-zero 256 in (λ _. omega arith, λ _. refl)
Decides-ones (b ∷ bs) h =
    let here = h.0 in
    let below = number_below bs h.1 in
    let power = pow-suc 256 (length bs) in
    Decides-like ((b == 255) && list_all (λ b. b == 255) bs) (λ (k : (b ≡ 255) × (number 256 bs + 1 ≡ 256 ^ length bs)). let one = k.0 in let two = k.1 in omega arith) (λ k. (omega arith, omega arith))
    (Decides-and (b == 255) (list_all (λ b. b == 255) bs) (Decides-eqb b 255) (Decides-ones bs h.1))

-- ---- the byte with the highest of the own bits

by_test : (b : Bool) (m n : ℕ) → (if b then m else n) ≡ (if not b then n else m)
by_test true m n = refl
by_test false m n = refl

-- what the sign rule asks for, by whether the number is below zero
pub extended_is : (sign : Sign) (width count n : ℕ) → extended sign width count n ≡ (if is_negative sign width n then n + (256 ^ count - 2 ^ width) else n)
extended_is unsigned width count n = refl
extended_is signed width count n = by_test (nat_lt n (2 ^ (width - 1))) n (n + (256 ^ count - 2 ^ width))

-- a byte's own bits
record OwnBits (last end : ℕ) : Type 0 where
  rest : (above : ℕ) → (last + 256 * above) % end ≡ last % end
  positive : 0 < end
  within : end ≤ 256
  below : last % end ≤ last

mul_turned : (others end above : ℕ) → 256 ≡ others * end → 256 * above ≡ above * others * end
mul_turned others end above h = ap (λ n. n * above) h ∙ grind arith

mod_within : (n m : ℕ) → n % m ≤ n
mod_within n m = omega (arith, div-add-mod n m)

own_bits : (last width : ℕ) → width ≤ 8 → OwnBits last (2 ^ width)
own_bits last width h =
    let others = 2 ^ (8 - width) in
    let sum : (8 - width) + width ≡ 8 = omega arith in
    let whole : 256 ≡ others * 2 ^ width = ap (λ n. 2 ^ n) (sym sum) ∙ pow-add 2 (8 - width) width in
    let turned = λ (above : ℕ). mul_turned others (2 ^ width) above whole in
    record {
      rest = λ above. ap (λ n. (last + n) % 2 ^ width) (turned above) ∙ add-mul-mod_self_right last (above * others) (2 ^ width);
      positive = pow_pos width;
      within = pow_mono h;
      below = mod_within last (2 ^ width);
    }

pub low_test : (last own above : ℕ) (rest : Bool) → own ≤ last → Decides rest (above ≡ 0) → ((last == own) && rest) ≡ (last + 256 * above == own)
low_test last own above rest h d =
    same_from_decides ((last == own) && rest) (last + 256 * above == own)
    (Decides-and (last == own) rest (Decides-eqb last own) d)
    (Decides-like (last + 256 * above == own) (λ (e : last + 256 * above ≡ own). (omega arith, omega arith)) (λ (e : (last ≡ own) × (above ≡ 0)). let one = e.0 in let two = e.1 in omega arith) (Decides-eqb (last + 256 * above) own))

pub high_test : (last own above end all : ℕ) (rest : Bool) → own ≤ last → last < 256 → 0 < end → end ≤ 256 → above < all → Decides rest (above + 1 ≡ all)
    → ((last + end == own + 256) && rest) ≡ (last + 256 * above == own + (256 * all - end))
high_test last own above end all rest h small positive within below d =
    same_from_decides ((last + end == own + 256) && rest) (last + 256 * above == own + (256 * all - end))
    (Decides-and (last + end == own + 256) rest (Decides-eqb (last + end) (own + 256)) d)
    (Decides-like (last + 256 * above == own + (256 * all - end)) (λ (e : last + 256 * above ≡ own + (256 * all - end)). (omega arith, omega arith)) (λ (e : (last + end ≡ own + 256) × (above + 1 ≡ all)). let one = e.0 in let two = e.1 in omega arith) (Decides-eqb (last + 256 * above) (own + (256 * all - end))))

-- one byte, and those above it
pub is_extended_low : (sign : Sign) (width last : ℕ) (above : List ℕ) → width ≤ 8 → is_negative sign width (last % 2 ^ width) ≡ false
    → ((last == last % 2 ^ width) && list_all (λ b. b == 0) above) ≡ is_extended sign width (last ∷ above)
is_extended_low sign width last above h is =
    let own = own_bits last width h in
    let n = last + 256 * number 256 above in
    low_test last (last % 2 ^ width) (number 256 above) (list_all (λ b. b == 0) above) own.below (Decides-zeros above)
    ∙ ap (λ m. n == m) (sym (ap (λ m. extended sign width (suc (length above)) m) (own.rest (number 256 above)) ∙ (extended_is sign width (suc (length above)) (last % 2 ^ width)
    ∙ ap (λ (b : Bool). if b then (last % 2 ^ width + (256 ^ suc (length above) - 2 ^ width)) else (last % 2 ^ width)) is)))

pub is_extended_high : (sign : Sign) (width last : ℕ) (above : List ℕ) → width ≤ 8 → last < 256 → Each (λ b. b < 256) above → is_negative sign width (last % 2 ^ width) ≡ true
    → ((last + 2 ^ width == last % 2 ^ width + 256) && list_all (λ b. b == 255) above) ≡ is_extended sign width (last ∷ above)
is_extended_high sign width last above h small bytes is =
    let own = own_bits last width h in
    let n = last + 256 * number 256 above in
    let all = 256 ^ length above in
    let power : 256 * all ≡ 256 ^ suc (length above) = omega (arith, pow-suc 256 (length above)) in
    high_test last (last % 2 ^ width) (number 256 above) (2 ^ width) all (list_all (λ b. b == 255) above) own.below small own.positive own.within (number_below above bytes) (Decides-ones above bytes)
    ∙ ap (λ m. n == m) (ap (λ m. last % 2 ^ width + (m - 2 ^ width)) power ∙ sym (ap (λ m. extended sign width (suc (length above)) m) (own.rest (number 256 above)) ∙ (extended_is sign width (suc (length above)) (last % 2 ^ width)
    ∙ ap (λ (b : Bool). if b then (last % 2 ^ width + (256 ^ suc (length above) - 2 ^ width)) else (last % 2 ^ width)) is)))

-- ---- the same, by the branches of the code

false_and : (a b : Bool) → a ≡ false → a ≡ (a && b)
false_and true b h = cc
false_and false b h = refl

pub low_then : (sign : Sign) (width last : ℕ) (above : List ℕ) (end : ℕ) (all : Bool) → width ≤ 8 → end ≡ 2 ^ width → is_negative sign width (last % end) ≡ false → last ≡ last % end
    → all ≡ list_all (λ b. b == 0) above → all ≡ is_extended sign width (last ∷ above)
low_then sign width last above end all h is low same e =
    let is_low = ap (λ n. is_negative sign width (last % n)) (sym is) ∙ low in
    let one : (last == last % 2 ^ width) ≡ true = eq-eqb last (last % 2 ^ width) (same ∙ ap (λ n. last % n) is) in
    e ∙ (ap (λ (b : Bool). b && list_all (λ b. b == 0) above) (sym one) ∙ is_extended_low sign width last above h is_low)

pub low_else : (sign : Sign) (width last : ℕ) (above : List ℕ) (end : ℕ) → width ≤ 8 → end ≡ 2 ^ width → is_negative sign width (last % end) ≡ false → (last ≡ last % end → ⊥)
    → (last == last % end) ≡ is_extended sign width (last ∷ above)
low_else sign width last above end h is low other =
    let is_low = ap (λ n. is_negative sign width (last % n)) (sym is) ∙ low in
    let there = ap (λ n. last == last % n) is in
    there ∙ (false_and (last == last % 2 ^ width) (list_all (λ b. b == 0) above) (sym there ∙ ne_eqb last (last % end) other) ∙ is_extended_low sign width last above h is_low)

pub high_then : (sign : Sign) (width last : ℕ) (above : List ℕ) (end : ℕ) (all : Bool) → width ≤ 8 → last < 256 → Each (λ b. b < 256) above → end ≡ 2 ^ width → is_negative sign width (last % end) ≡ true
    → last + end ≡ last % end + 256 → all ≡ list_all (λ b. b == 255) above → all ≡ is_extended sign width (last ∷ above)
high_then sign width last above end all h small bytes is high same e =
    let is_high = ap (λ n. is_negative sign width (last % n)) (sym is) ∙ high in
    let one : (last + 2 ^ width == last % 2 ^ width + 256) ≡ true = ap (λ n. last + n == last % n + 256) (sym is) ∙ eq-eqb (last + end) (last % end + 256) same in
    e ∙ (ap (λ (b : Bool). b && list_all (λ b. b == 255) above) (sym one) ∙ is_extended_high sign width last above h small bytes is_high)

pub high_else : (sign : Sign) (width last : ℕ) (above : List ℕ) (end : ℕ) → width ≤ 8 → last < 256 → Each (λ b. b < 256) above → end ≡ 2 ^ width → is_negative sign width (last % end) ≡ true
    → (last + end ≡ last % end + 256 → ⊥) → (last + end == last % end + 256) ≡ is_extended sign width (last ∷ above)
high_else sign width last above end h small bytes is high other =
    let is_high = ap (λ n. is_negative sign width (last % n)) (sym is) ∙ high in
    let there = ap (λ n. last + n == last % n + 256) is in
    there ∙ (false_and (last + 2 ^ width == last % 2 ^ width + 256) (list_all (λ b. b == 255) above) (sym there ∙ ne_eqb (last + end) (last % end + 256) other) ∙ is_extended_high sign width last above h small bytes is_high)
