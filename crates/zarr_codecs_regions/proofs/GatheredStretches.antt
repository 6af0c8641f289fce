-- Stretches of bytes, gathered one after another.
use Rattle.std.proofs.Common.{◌≡◌, ◌∙◌, ℕ, zero, suc, ◌+◌, ◌-◌, ◌<◌, ◌≤◌, List, [], ◌∷◌, ◌++◌, length, get_or, take, drop, flat_map, refl, sym, ap, arith, append_assoc}
use Rattle.std.proofs.Math.Seq.{take-suc}
use Rattle.std.proofs.lemmas.Grind.{flat_map-append}

none_taken : (k : ℕ) → take {A = ℕ} k [] ≡ []
none_taken zero = refl
none_taken (suc k) = refl

cut : (m n : ℕ) (bytes : List ℕ) → take m bytes ++ take n (drop m bytes) ≡ take (m + n) bytes
cut zero n bytes = let e : n ≡ 0 + n = omega arith in ap (λ k. take k bytes) e
cut (suc m) n [] = none_taken n ∙ sym (none_taken (suc m + n))
cut (suc m) n (b ∷ bytes) = let e : suc (m + n) ≡ suc m + n = omega arith in ap (λ bs. b ∷ bs) (cut m n bytes) ∙ ap (λ k. take k (b ∷ bytes)) e

none_dropped : (k : ℕ) → drop {A = ℕ} k [] ≡ []
none_dropped zero = refl
none_dropped (suc k) = refl

drop_twice : (m n : ℕ) (bytes : List ℕ) → drop n (drop m bytes) ≡ drop (m + n) bytes
drop_twice zero n bytes = let e : n ≡ 0 + n = omega arith in ap (λ k. drop k bytes) e
drop_twice (suc m) n [] = none_dropped n ∙ sym (none_dropped (suc m + n))
drop_twice (suc m) n (b ∷ bytes) = let e : suc (m + n) ≡ suc m + n = omega arith in drop_twice m n bytes ∙ ap (λ k. drop k (b ∷ bytes)) e

and_none : (bytes : List ℕ) → bytes ++ [] ≡ bytes
and_none [] = refl
and_none (b ∷ bytes) = ap (λ bs. b ∷ bs) (and_none bytes)

-- a stretch, and the one after it
pub joined : (bytes : List ℕ) (a b c : ℕ) → a ≤ b → b ≤ c → take (b - a) (drop a bytes) ++ take (c - b) (drop b bytes) ≡ take (c - a) (drop a bytes)
joined bytes a b c h k =
    let from : a + (b - a) ≡ b = omega (arith, h) in
    let long : b - a + (c - b) ≡ c - a = omega (arith, h, k) in
    ap (λ bs. take (b - a) (drop a bytes) ++ take (c - b) bs) (sym (drop_twice a (b - a) bytes ∙ ap (λ n. drop n bytes) from))
    ∙ (cut (b - a) (c - b) (drop a bytes) ∙ ap (λ n. take n (drop a bytes)) long)

-- one piece more
pub piece_more : (f : ℕ → List ℕ) (numbers : List ℕ) (i : ℕ) → i < length numbers → flat_map f (take (i + 1) numbers) ≡ flat_map f (take i numbers) ++ f (get_or numbers i 0)
piece_more f numbers i below =
    let e : i + 1 ≡ suc i = omega arith in
    let one : flat_map f (get_or numbers i 0 ∷ []) ≡ f (get_or numbers i 0) = and_none (f (get_or numbers i 0)) in
    ap (λ n. flat_map f (take n numbers)) e ∙ (ap (flat_map f) (take-suc numbers i 0 below) ∙ (flat_map-append f (take i numbers) (get_or numbers i 0 ∷ []) ∙ ap (λ ns. flat_map f (take i numbers) ++ ns) one))

-- ---- pieces that are gathered

-- the bytes so far, of which a last stretch is still to be copied
abbrev pub IsGathered : List ℕ → List ℕ → List ℕ → ℕ → ℕ → Type 0
IsGathered bytes pieces gathered start end = (gathered ++ take (end - start) (drop start bytes) ≡ pieces) × (start ≤ end) × (end ≤ length bytes)

pub apart : (bytes pieces gathered new piece : List ℕ) (start end first last : ℕ) → IsGathered bytes pieces gathered start end → new ≡ gathered ++ take (end - start) (drop start bytes) → take (last - first) (drop first bytes) ≡ piece → first ≤ last → last ≤ length bytes
    → IsGathered bytes (pieces ++ piece) new first last
apart bytes pieces gathered new piece start end first last h e is order within = (
  ap (λ xs. xs ++ take (last - first) (drop first bytes)) (e ∙ h.0) ∙ ap (λ p. pieces ++ p) is,
  order,
  within,
)

pub next_to : (bytes pieces gathered piece : List ℕ) (start end first last : ℕ) → IsGathered bytes pieces gathered start end → first ≡ end → take (last - first) (drop first bytes) ≡ piece → first ≤ last → last ≤ length bytes
    → IsGathered bytes (pieces ++ piece) gathered start last
next_to bytes pieces gathered piece start end first last h e is order within =
    let more : end ≤ last = omega (arith, order, e) in
    let here : take (last - end) (drop end bytes) ≡ piece = ap (λ n. take (last - n) (drop n bytes)) (sym e) ∙ is in
    let low = h.1 in (
      ap (λ xs. gathered ++ xs) (sym (joined bytes start end last h.1 more)) ∙ (sym (append_assoc gathered (take (end - start) (drop start bytes)) (take (last - end) (drop end bytes))) ∙ (ap (λ xs. xs ++ take (last - end) (drop end bytes)) h.0 ∙ ap (λ p. pieces ++ p) here)),
      omega (arith, low, more),
      within,
    )
