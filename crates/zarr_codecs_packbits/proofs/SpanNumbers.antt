-- Numbers in spans, and the bytes that the bits of their elements touch.
use Rattle.std.proofs.Common.{◌≡◌, ◌∙◌, ℕ, zero, suc, ◌+◌, ◌-◌, ◌*◌, ◌/◌, ◌<◌, ◌≤◌, List, [], ◌∷◌, ◌++◌, ap, sym, refl, arith, Bool, true, false, ◌==◌, ◌&&◌, if◌then◌else◌, append-nil, append_assoc}
use Rattle.std.specs.Prelude.{nat_lt}
use Rattle.std.specs.List.{list_all, range_with_len}
use Rattle.std.proofs.lemmas.Bool.{eq-eqb, ne_eqb, lt-ltb}
use Rattle.std.proofs.lemmas.Grind.{flat_map-append}
use Rattle.std.proofs.lemmas.List.{map-append}
use Rattle.std.proofs.lemmas.List.Folds.{list_all-append}
use Rattle.std.proofs.lemmas.List.Sums.{sum_by-append}
use Rattle.zarr_grids_boxes.proofs.Places.{range_with_len-append}
use Rattle.zarr_codecs_traits.specs.ReadBytes.{bytes_touched}
use Rattle.zarr_codecs_traits.specs.declared.byte_range.ByteRange.{ByteRange}
use Rattle.zarr_codecs_packbits.specs.Spans.{AreSpans, AreSoFar, span_numbers, span_range, span_ranges, spans_numbers, total_length}
use Rattle.zarr_codecs_packbits.specs.declared.spans.Span.{Span}

-- ---- the bytes of one more line

-- the byte from which on an element is counted
abbrev from_byte : ℕ → ℕ → Bool → ℕ
from_byte bits n after = if after then (n * bits + 7) / 8 else n * bits / 8

before_end : (bits n count : ℕ) (after : Bool) → 0 < count → from_byte bits n after ≤ ((n + count) * bits + 7) / 8
before_end bits n count true some = let more : (n + count) * bits ≡ n * bits + count * bits = grind arith in omega (arith, more)
before_end bits n count false some = let more : (n + count) * bits ≡ n * bits + count * bits = grind arith in omega (arith, more)

touched_next : (bits next n k : ℕ) (rest : List ℕ)
    → bytes_touched bits next (range_with_len n (suc k) ++ rest) ≡ ((n + suc k) * bits + 7) / 8 - from_byte bits n (n == next) + bytes_touched bits (n + suc k) rest
touched_next bits next n zero rest = refl
touched_next bits next n (suc k) rest =
    let a = ((n + 1) * bits + 7) / 8 in
    let f = from_byte bits n (n == next) in
    let b = ((n + suc (suc k)) * bits + 7) / 8 in
    let t = bytes_touched bits (n + suc (suc k)) rest in
    let same : n + 1 + suc k ≡ n + suc (suc k) = omega arith in
    let later : bytes_touched bits (n + 1) (range_with_len (n + 1) (suc k) ++ rest) ≡ b - a + t =
    touched_next bits (n + 1) (n + 1) k rest
    ∙ (ap (λ (c : Bool). ((n + 1 + suc k) * bits + 7) / 8 - from_byte bits (n + 1) c + bytes_touched bits (n + 1 + suc k) rest) (eq-eqb (n + 1) (n + 1) refl)
    ∙ ap (λ m. (m * bits + 7) / 8 - a + bytes_touched bits m rest) same) in
    let low : f ≤ a = before_end bits n 1 (n == next) (omega arith) in
    let more : (n + suc (suc k)) * bits ≡ (n + 1) * bits + suc k * bits = grind arith in
    let high : a ≤ b = omega (arith, more) in
    omega (arith, later, low, high)

pub touched_more : (bits next n count : ℕ) (rest : List ℕ) → 0 < count
    → bytes_touched bits next (range_with_len n count ++ rest) ≡ ((n + count) * bits + 7) / 8 - from_byte bits n (n == next) + bytes_touched bits (n + count) rest
touched_more bits next n zero rest some = absurd (omega arith)
touched_more bits next n (suc k) rest some = touched_next bits next n k rest

-- ---- spans so far

from_first : (bits n : ℕ) → from_byte bits n (n == 0) ≡ n * bits / 8
from_first bits zero = omega arith
from_first bits (suc n) = ap (from_byte bits (suc n)) (ne_eqb (suc n) 0 (λ e. omega (arith, e)))

pub first_so_far : (next : Span) → 0 < next.count → AreSoFar (span_numbers next) [] next
first_so_far next some = record {
  are = refl;
  some = refl;
  last_some = some;
  touched = λ bits rest.
      let all = touched_more bits 0 next.start next.count rest some ∙ ap (λ k. ((next.start + next.count) * bits + 7) / 8 - k + bytes_touched bits (next.start + next.count) rest) (from_first bits next.start) in
      omega (arith, all);
}

pub joined_so_far : (numbers : List ℕ) (spans : List Span) (last next : Span) → AreSoFar numbers spans last → 0 < next.count → next.start ≡ last.start + last.count
    → AreSoFar (numbers ++ span_numbers next) spans (record { start = last.start; count = last.count + next.count })
joined_so_far numbers spans last next h some follows = record {
  are = ap (λ ns. spans_numbers spans ++ ns) (range_with_len-append last.start last.count next.count)
      ∙ (sym (append_assoc (spans_numbers spans) (span_numbers last) (range_with_len (last.start + last.count) next.count))
      ∙ (ap (λ ns. ns ++ range_with_len (last.start + last.count) next.count) h.are ∙ ap (λ k. numbers ++ range_with_len k next.count) (sym follows)));
  some = h.some;
  last_some = omega (arith, some);
  touched = λ bits rest.
      let s = last.start in
      let e = last.start + last.count in
      let n = next.start in
      let count = next.count in
      let old = h.touched bits (range_with_len n count ++ rest) in
      let more = touched_more bits e n count rest some ∙ ap (λ (c : Bool). ((n + count) * bits + 7) / 8 - from_byte bits n c + bytes_touched bits (n + count) rest) (eq-eqb n e follows) in
      let end : ((n + count) * bits + 7) / 8 ≡ ((s + (last.count + count)) * bits + 7) / 8 = ap (λ k. (k * bits + 7) / 8) (omega (arith, follows)) in
      let here : (n * bits + 7) / 8 ≡ (e * bits + 7) / 8 = ap (λ k. (k * bits + 7) / 8) follows in
      let rest_same : bytes_touched bits (n + count) rest ≡ bytes_touched bits (s + (last.count + count)) rest = ap (λ k. bytes_touched bits k rest) (omega (arith, follows)) in
      let wide : e * bits ≡ s * bits + last.count * bits = grind arith in
      let wider : (s + (last.count + count)) * bits ≡ e * bits + count * bits = grind arith in
      let all = ap (bytes_touched bits 0) (append_assoc numbers (range_with_len n count) rest) in
      omega (arith, old, more, end, here, rest_same, wide, wider, all);
}

-- a span more
total_more : (bits : ℕ) (spans : List Span) (last : Span) → total_length (span_ranges bits (spans ++ last ∷ [])) ≡ total_length (span_ranges bits spans) + (span_range bits last).length
total_more bits spans last =
    ap total_length (map-append (span_range bits) spans (last ∷ []))
    ∙ (sum_by-append (λ (range : ByteRange). range.length) (span_ranges bits spans) (span_range bits last ∷ []) ∙ omega arith)

pub numbers_more : (spans : List Span) (last : Span) → spans_numbers (spans ++ last ∷ []) ≡ spans_numbers spans ++ span_numbers last
numbers_more spans last = flat_map-append span_numbers spans (last ∷ []) ∙ ap (λ ns. spans_numbers spans ++ ns) (append-nil (span_numbers last))

some_more : (spans : List Span) (last : Span) → list_all (λ (span : Span). nat_lt 0 span.count) spans ≡ true → 0 < last.count → list_all (λ (span : Span). nat_lt 0 span.count) (spans ++ last ∷ []) ≡ true
some_more spans last h some =
    list_all-append (λ (span : Span). nat_lt 0 span.count) spans (last ∷ [])
    ∙ (ap (λ (b : Bool). b && (nat_lt 0 last.count && true)) h ∙ ap (λ (b : Bool). b && true) (lt-ltb 0 last.count some))

pub pushed_so_far : (numbers : List ℕ) (spans : List Span) (last next : Span) → AreSoFar numbers spans last → 0 < next.count → (next.start ≡ last.start + last.count → ⊥) → AreSoFar (numbers ++ span_numbers next) (spans ++ last ∷ []) next
pushed_so_far numbers spans last next h some apart = record {
  are = ap (λ ns. ns ++ span_numbers next) (numbers_more spans last ∙ h.are);
  some = some_more spans last h.some h.last_some;
  last_some = some;
  touched = λ bits rest.
      let e = last.start + last.count in
      let n = next.start in
      let count = next.count in
      let old = h.touched bits (range_with_len n count ++ rest) in
      let more = touched_more bits e n count rest some ∙ ap (λ (c : Bool). ((n + count) * bits + 7) / 8 - from_byte bits n c + bytes_touched bits (n + count) rest) (ne_eqb n e apart) in
      let total = total_more bits spans last in
      let all = ap (bytes_touched bits 0) (append_assoc numbers (range_with_len n count) rest) in
      omega (arith, old, more, total, all);
}

pub ended_spans : (numbers : List ℕ) (spans : List Span) (last : Span) → AreSoFar numbers spans last → AreSpans numbers (spans ++ last ∷ [])
ended_spans numbers spans last h = record {
  are = numbers_more spans last ∙ h.are;
  some = some_more spans last h.some h.last_some;
  touched = λ bits.
      let all = h.touched bits [] ∙ ap (bytes_touched bits 0) (append-nil numbers) in
      omega (arith, all, total_more bits spans last);
}

pub no_spans : AreSpans [] []
no_spans = record { are = refl; some = refl; touched = λ bits. refl }
