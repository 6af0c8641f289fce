-- Where a number stands in a list, and cells gathered and put back.
use Rattle.std.proofs.Common.{◌≡◌, ℕ, zero, suc, ◌+◌, ◌<◌, List, [], ◌∷◌, length, map, get_or, ap, ◌∙◌, sym, refl, arith, Bool, true, false, not, cond, ◌||◌, ◌==◌, ◌⊎◌, inl, inr}
use Rattle.std.specs.List.{list_any, range_with_len}
use Rattle.std.proofs.lemmas.Bool.{eq-eqb}
use Rattle.std.proofs.lemmas.List.{get_or-map}
use Rattle.std.proofs.lemmas.List.FromFn.{length-range_with_len, get_or-range_with_len, fill_by_all}
use Rattle.std.proofs.lemmas.Simd.{map-map}
use Rattle.std.proofs.lemmas.Map.Views.{exact_unsigned_eq}
use Rattle.zarr_codecs_meaning.specs.Types.{Cell}
use Rattle.zarr_codecs_meaning.specs.Places.{gather, position_of}
use Rattle.zarr_codecs_meaning.proofs.Lists.{Each}

-- n is one of the numbers
abbrev pub IsAmong : ℕ → List ℕ → Type 0
IsAmong n [] = ⊥
IsAmong n (m ∷ ms) = (n ≡ m) ⊎ IsAmong n ms

pub among_at : (ns : List ℕ) (i n : ℕ) → i < length ns → get_or ns i 0 ≡ n → IsAmong n ns
among_at [] i n h e = absurd (omega arith)
among_at (m ∷ ms) zero n h e = inl (sym e)
among_at (m ∷ ms) (suc i) n h e = inr (among_at ms i n (omega arith) e)

found_step : (b : Bool) (n m : ℕ) (ms : List ℕ) → (m == n) ≡ b → (IsAmong n ms → position_of n ms < length ms) → IsAmong n (m ∷ ms) → cond (not b) (1 + position_of n ms) 0 < suc (length ms)
found_step true n m ms e rest h = omega arith
found_step false n m ms e rest (inl is) = let yes : true ≡ false = sym (eq-eqb m n (sym is)) ∙ e in cc
found_step false n m ms e rest (inr is) = let h = rest is in omega (arith, h)

pub position_found : (n : ℕ) (ns : List ℕ) → IsAmong n ns → position_of n ns < length ns
position_found n [] h = elim h [ ]
position_found n (m ∷ ms) h = found_step (m == n) n m ms refl (position_found n ms) h

read_step : (b : Bool) (n m d : ℕ) (ms : List ℕ) → (m == n) ≡ b → (position_of n ms < length ms → get_or ms (position_of n ms) d ≡ n) → cond (not b) (1 + position_of n ms) 0 < suc (length ms) → get_or (m ∷ ms) (cond (not b) (1 + position_of n ms) 0) d ≡ n
read_step true n m d ms e rest h = exact_unsigned_eq m n e
read_step false n m d ms e rest h = let one : 1 + position_of n ms ≡ suc (position_of n ms) = omega arith in ap (λ k. get_or (m ∷ ms) k d) one ∙ rest (omega (arith, h))

-- what stands at a position that was found
pub position_read : (n d : ℕ) (ns : List ℕ) → position_of n ns < length ns → get_or ns (position_of n ns) d ≡ n
position_read n d [] h = absurd (omega arith)
position_read n d (m ∷ ms) h = read_step (m == n) n m d ms refl (position_read n d ms) h

pub gathered_read : (fill : Cell) (cells : List Cell) (ns : List ℕ) (n : ℕ) → position_of n ns < length ns → get_or (gather fill cells ns) (position_of n ns) fill ≡ get_or cells n fill
gathered_read fill cells ns n h = get_or-map (λ k. get_or cells k fill) ns (position_of n ns) 0 fill h ∙ ap (λ k. get_or cells k fill) (position_read n 0 ns h)

-- cells that were gathered from places that cover all are put back
pub gathered_back : (fill : Cell) (cells : List Cell) (ns : List ℕ) (count : ℕ) → length cells ≡ count → ((n : ℕ) → n < count → IsAmong n ns) → gather fill (gather fill cells ns) (map (λ n. position_of n ns) (range_with_len 0 count)) ≡ cells
gathered_back fill cells ns count whole covers =
    map-map (λ k. get_or (gather fill cells ns) k fill) (λ n. position_of n ns) (range_with_len 0 count)
    ∙ sym (fill_by_all (λ n. get_or (gather fill cells ns) (position_of n ns) fill) cells count fill whole (λ n below. sym (gathered_read fill cells ns n (position_found n ns (covers n below)))))

pub among_range : (count n : ℕ) → n < count → IsAmong n (range_with_len 0 count)
among_range count n h = among_at (range_with_len 0 count) n n (omega (arith, length-range_with_len 0 count)) (get_or-range_with_len 0 count n 0 h ∙ omega arith)

either_true : (a b : Bool) → (a || b) ≡ true → (a ≡ true) ⊎ (b ≡ true)
either_true true b h = inl refl
either_true false b h = inr h

pub any_among : (n : ℕ) (ns : List ℕ) → list_any (λ m. m == n) ns ≡ true → IsAmong n ns
any_among n [] h = cc
any_among n (m ∷ ms) h = elim (either_true (m == n) (list_any (λ m. m == n) ms) h) [ inl e ↦ inl (sym (exact_unsigned_eq m n e)) | inr k ↦ inr (any_among n ms k) ]

pub each_at : {X : Type 0} (P : X → Type 0) (xs : List X) (i : ℕ) (d : X) → Each P xs → i < length xs → P (get_or xs i d)
each_at P [] i d h below = absurd (omega arith)
each_at P (x ∷ xs) zero d h below = h.0
each_at P (x ∷ xs) (suc i) d h below = each_at P xs i d h.1 (omega arith)
