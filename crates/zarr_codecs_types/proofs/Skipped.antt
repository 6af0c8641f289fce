-- The bytes below the one with the highest of a number's own bits say nothing of the bits above those.
use Rattle.std.proofs.Common.{◌≡◌, ℕ, zero, suc, ◌+◌, ◌-◌, ◌*◌, ◌/◌, ◌%◌, ◌^◌, ◌<◌, ◌≤◌, List, [], ◌∷◌, length, take, drop, get_or, ap, ◌∙◌, sym, refl, arith, Bool, true, false, not, ◌==◌, if◌then◌else◌, mod-eq_of_lt, pow-add, pow-suc, pow_mono, lt_of_lt_of_le, subst, length-drop}
use Rattle.std.specs.Prelude.{nat_lt}
use Rattle.std.proofs.lemmas.Bool.{eq-eqb, lt-ltb}
use Rattle.std.proofs.lemmas.Bool.Decides.{same_from_decides, Decides-eqb, Decides-like, Decides-ltb}
use Rattle.std.proofs.lemmas.Nat.{pow_pos}
use Rattle.std.proofs.Math.Seq.{drop-cons}
use Rattle.std.proofs.lemmas.List.{take_all}
use lib.Arith.{mod-mul}
use native.Mathlib.Nat.{pow-zero}
use Rattle.zarr_codecs_meaning.specs.Numbers.{number}
use Rattle.zarr_codecs_meaning.specs.Types.{Sign, unsigned, signed, extended, is_component}
use Rattle.zarr_codecs_meaning.proofs.Lists.{Each}
use Rattle.zarr_codecs_types.specs.Parts.{is_extended, is_negative}
use Rattle.zarr_codecs_types.proofs.Extended.{number_below, extended_is}

-- ---- one byte fewer

pow_eight : (w : ℕ) → 2 ^ (w + 8) ≡ 256 * 2 ^ w
pow_eight w = pow-add 2 w 8 ∙ grind arith

pow_eight_less : (w : ℕ) → 0 < w → 2 ^ (w + 8 - 1) ≡ 256 * 2 ^ (w - 1)
pow_eight_less w h = let e : w + 8 - 1 ≡ (w - 1) + 8 = omega arith in ap (λ n. 2 ^ n) e ∙ pow_eight (w - 1)

low_mod : (b m p : ℕ) → b < 256 → 0 < p → (b + 256 * m) % (256 * p) ≡ b + 256 * (m % p)
low_mod b m p h positive =
    let n = b + 256 * m in
    let turned : 256 * p ≡ p * 256 = omega arith in
    let four : 0 < 256 = omega arith in
    let two = mod-mul n {m = p} {c = 256} positive four in
    let high : n / 256 ≡ m = omega arith in
    let low : n % 256 ≡ b = omega arith in
    ap (λ k. n % k) turned ∙ (two ∙ (ap (λ k. k % p * 256 + n % 256) high ∙ omega (arith, low)))

negative_less : (sign : Sign) (w b m : ℕ) → 0 < w → b < 256 → is_negative sign (w + 8) (b + 256 * m) ≡ is_negative sign w m
negative_less unsigned w b m h small = refl
negative_less signed w b m h small =
    let power = pow_eight_less w h in
    ap not (same_from_decides (nat_lt (b + 256 * m) (2 ^ (w + 8 - 1))) (nat_lt m (2 ^ (w - 1)))
    (Decides-like (nat_lt (b + 256 * m) (2 ^ (w + 8 - 1))) (λ (l : b + 256 * m < 2 ^ (w + 8 - 1)). let P : m < 2 ^ (w - 1) = omega arith in P) (λ (l : m < 2 ^ (w - 1)). omega arith) (Decides-ltb (b + 256 * m) (2 ^ (w + 8 - 1))))
    (Decides-ltb m (2 ^ (w - 1))))

same_when : (negative : Bool) (b n m all p : ℕ) → b < 256 → ((b + 256 * n) == (if negative then b + 256 * m + (256 * all - 256 * p) else b + 256 * m)) ≡ (n == (if negative then m + (all - p) else m))
same_when true b n m all p h =
    same_from_decides (b + 256 * n == b + 256 * m + (256 * all - 256 * p)) (n == m + (all - p))
    (Decides-like (b + 256 * n == b + 256 * m + (256 * all - 256 * p)) (λ (e : b + 256 * n ≡ b + 256 * m + (256 * all - 256 * p)). let P : n ≡ m + (all - p) = omega arith in P) (λ (e : n ≡ m + (all - p)). omega arith) (Decides-eqb (b + 256 * n) (b + 256 * m + (256 * all - 256 * p))))
    (Decides-eqb n (m + (all - p)))
same_when false b n m all p h =
    same_from_decides (b + 256 * n == b + 256 * m) (n == m)
    (Decides-like (b + 256 * n == b + 256 * m) (λ (e : b + 256 * n ≡ b + 256 * m). let P : n ≡ m = omega arith in P) (λ (e : n ≡ m). omega arith) (Decides-eqb (b + 256 * n) (b + 256 * m)))
    (Decides-eqb n m)

less : (sign : Sign) (w b : ℕ) (bs : List ℕ) → 0 < w → b < 256 → is_extended sign (w + 8) (b ∷ bs) ≡ is_extended sign w bs
less sign w b bs h small =
    let n = number 256 bs in
    let m = n % 2 ^ w in
    let all = 256 ^ length bs in
    let more = suc (length bs) in
    let rest : (b + 256 * n) % 2 ^ (w + 8) ≡ b + 256 * m = ap (λ k. (b + 256 * n) % k) (pow_eight w) ∙ low_mod b n (2 ^ w) small (pow_pos w) in
    let power : 256 ^ more ≡ 256 * all = pow-suc 256 (length bs) ∙ omega arith in
    let gap : 256 ^ more - 2 ^ (w + 8) ≡ 256 * all - 256 * 2 ^ w = ap (λ k. k - 2 ^ (w + 8)) power ∙ ap (λ k. 256 * all - k) (pow_eight w) in
    ap (λ k. b + 256 * n == extended sign (w + 8) more k) rest
    ∙ (ap (λ k. b + 256 * n == k) (extended_is sign (w + 8) more (b + 256 * m))
    ∙ (ap (λ (t : Bool). b + 256 * n == (if t then b + 256 * m + (256 ^ more - 2 ^ (w + 8)) else b + 256 * m)) (negative_less sign w b m h small)
    ∙ (ap (λ k. b + 256 * n == (if is_negative sign w m then b + 256 * m + k else b + 256 * m)) gap
    ∙ (same_when (is_negative sign w m) b n m all (2 ^ w) small
    ∙ ap (λ k. n == k) (sym (extended_is sign w (length bs) m))))))

-- ---- any number of bytes fewer

pub skip : (k : ℕ) (sign : Sign) (w : ℕ) (bs : List ℕ) → (0 < k → 0 < w) → k ≤ length bs → Each (λ b. b < 256) bs → is_extended sign (w + 8 * k) bs ≡ is_extended sign w (drop k bs)
skip zero sign w bs h few bytes = let e : w + 8 * 0 ≡ w = omega arith in ap (λ n. is_extended sign n bs) e
skip (suc k) sign w [] h few bytes = absurd (omega arith)
skip (suc k) sign w (b ∷ bs) h few bytes =
    let positive : 0 < w = h (omega arith) in
    let e : w + 8 * suc k ≡ (w + 8 * k) + 8 = omega arith in
    let more : 0 < w + 8 * k = omega arith in
    let fewer : k ≤ length bs = omega arith in
    ap (λ n. is_extended sign n (b ∷ bs)) e ∙ (less sign (w + 8 * k) b bs more bytes.0 ∙ skip k sign w bs (λ _. positive) fewer bytes.1)

-- the byte with the highest of the own bits, and those above it
pub skipped : (sign : Sign) (width last : ℕ) (bs : List ℕ) → last ≡ (width - 1) / 8 → last < length bs → Each (λ b. b < 256) bs
    → is_extended sign (width - 8 * last) (get_or bs last 0 ∷ drop (last + 1) bs) ≡ is_extended sign width bs
skipped sign width last bs is few bytes =
    let w = width - 8 * last in
    let e : w + 8 * last ≡ width = omega arith in
    let n : last + 1 ≡ suc last = omega arith in
    sym (ap (λ m. is_extended sign m bs) (sym e) ∙ (skip last sign w bs (λ (more : 0 < last). let P : 0 < w = omega arith in P) (omega arith) bytes
    ∙ (ap (is_extended sign w) (drop-cons bs last 0 few) ∙ ap (λ m. is_extended sign w (get_or bs last 0 ∷ drop m bs)) (sym n))))

-- ---- numbers of as many bits as the bytes have

pub bytes_power : (k : ℕ) → 256 ^ k ≡ 2 ^ (8 * k)
bytes_power zero = pow-zero 256 ∙ sym (ap (λ n. 2 ^ n) {x = 8 * 0} {y = 0} (omega arith))
bytes_power (suc k) =
    let rest = bytes_power k in
    let more : 8 * suc k ≡ 8 * k + 8 = omega arith in
    pow-suc 256 k ∙ (ap (λ n. n * 256) rest ∙ (sym (pow-add 2 (8 * k) 8) ∙ ap (λ n. 2 ^ n) (sym more)))

not_negative : (sign : Sign) (width n : ℕ) → n < 2 ^ (width - 1) → is_negative sign width n ≡ false
not_negative unsigned width n h = refl
not_negative signed width n h = ap not (lt-ltb n (2 ^ (width - 1)) h)

pub wide : (sign : Sign) (width : ℕ) (bs : List ℕ) → length bs ≤ (width - 1) / 8 → Each (λ b. b < 256) bs → true ≡ is_extended sign width bs
wide sign width bs few bytes =
    let n = number 256 bs in
    let long : 8 * length bs ≤ width - 1 = omega arith in
    let small : n < 2 ^ (width - 1) = lt_of_lt_of_le (subst (λ m. n < m) (bytes_power (length bs)) (number_below bs bytes)) (pow_mono long) in
    let shorter : width - 1 ≤ width = omega arith in
    let whole : n % 2 ^ width ≡ n = mod-eq_of_lt (lt_of_lt_of_le small (pow_mono shorter)) in
    sym (ap (λ m. n == extended sign width (length bs) m) whole ∙ (ap (λ m. n == m) (extended_is sign width (length bs) n)
    ∙ (ap (λ (t : Bool). n == (if t then n + (256 ^ length bs - 2 ^ width) else n)) (not_negative sign width n small) ∙ eq-eqb n n refl)))

-- ---- components

pub wide_component : (sign : Sign) (width count : ℕ) (bs : List ℕ) (less_one : ℕ) → length bs ≡ count → less_one ≡ width - 1 → length bs ≤ less_one / 8 → Each (λ b. b < 256) bs
    → true ≡ is_component (record { width = width; byte_count = count; sign = sign }) bs
wide_component sign width count bs less_one is e few bytes =
    wide sign width bs (subst (λ n. length bs ≤ n / 8) e few) bytes ∙ ap (λ n. number 256 bs == extended sign width n (number 256 bs % 2 ^ width)) is

pub skipped_component : (sign : Sign) (width count : ℕ) (bs : List ℕ) (less_one : ℕ) → length bs ≡ count → less_one ≡ width - 1 → less_one / 8 < length bs → Each (λ b. b < 256) bs
    → is_extended sign (width - 8 * (less_one / 8)) (get_or bs (less_one / 8) 0 ∷ take (length bs - (less_one / 8 + 1)) (drop (less_one / 8 + 1) bs)) ≡ is_component (record { width = width; byte_count = count; sign = sign }) bs
skipped_component sign width count bs less_one is e few bytes =
    let k = less_one / 8 in
    let all : take (length bs - (k + 1)) (drop (k + 1) bs) ≡ drop (k + 1) bs = take_all (length bs - (k + 1)) (drop (k + 1) bs) (omega (arith, length-drop (k + 1) bs)) in
    ap (λ ns. is_extended sign (width - 8 * k) (get_or bs k 0 ∷ ns)) all ∙ (skipped sign width (less_one / 8) bs (ap (λ n. n / 8) e) few bytes ∙ ap (λ n. number 256 bs == extended sign width n (number 256 bs % 2 ^ width)) is)
