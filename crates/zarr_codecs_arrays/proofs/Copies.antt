-- Elements that are all one element.
use Rattle.std.proofs.Common.{◌≡◌, ℕ, zero, suc, ◌-◌, ◌*◌, ◌/◌, ◌%◌, ◌<◌, List, [], ◌∷◌, length, take, drop, replicate, ap, ◌∙◌, sym, refl, arith, Option, Bool, true, false, ◌&&◌, ◌==◌, option_map, unwrap_or}
use Rattle.std.specs.Bool.{Decides}
use Rattle.std.specs.List.{repeat}
use Rattle.std.specs.Prelude.{bytes_eq}
use Rattle.std.proofs.lemmas.Bool.{eqb-false}
use Rattle.std.proofs.lemmas.Bool.Decides.{same_from_decides, Decides-like, Decides-and}
use Rattle.std.proofs.lemmas.Slice.Eq.{bytes_eq-Decides}
use Rattle.zarr_codecs_meaning.specs.Types.{Cell, of_bytes, same_cell, is_fill}
use Rattle.zarr_codecs_meaning.specs.Payloads.{fixed_cells, fixed_in}
use Rattle.zarr_codecs_types.specs.SameEquivalence.{same_cell_decides}
use Rattle.zarr_codecs_arrays.proofs.FixedCells.{length-fixed_cells, fixed_in-some, fixed_cells-repeat, length-repeat, same_bytes, whole_length}
use Rattle.zarr_codecs_arrays.proofs.Repeats.{repeat_from_shift, shift_of_repeat}
use Rattle.std.proofs.Math.Nat.{mul-mod_left}

-- all are the fill value where there are so many of it
pub fill_decides : (fill : Cell) (cells : List Cell) → Decides (is_fill fill cells) (cells ≡ replicate (length cells) fill)
fill_decides fill [] = (λ _. refl, λ _. refl)
fill_decides fill (cell ∷ cells) =
    Decides-like (same_cell cell fill && is_fill fill cells) (λ (h : (cell ≡ fill) × (cells ≡ replicate (length cells) fill)). cc) (λ (h : cell ∷ cells ≡ fill ∷ replicate (length cells) fill). (cc, cc))
    (Decides-and (same_cell cell fill) (is_fill fill cells) (same_cell_decides cell fill) (fill_decides fill cells))

fixed_fill : (width : ℕ) (element bytes : List ℕ) → 0 < width → length element ≡ width → length bytes % width ≡ 0
    → Decides (is_fill (of_bytes element) (fixed_cells width bytes)) (bytes ≡ repeat (length bytes / width) element)
fixed_fill width element bytes h long whole =
    let n = length bytes / width in
    let many = length-fixed_cells width bytes in
    let made = fixed_cells-repeat n width element h long in
    let other : length (repeat n element) % width ≡ 0 = ap (λ k. k % width) (length-repeat n element ∙ ap (λ k. n * k) long) ∙ mul-mod_left n width in
    Decides-like (is_fill (of_bytes element) (fixed_cells width bytes))
    (λ (e : fixed_cells width bytes ≡ replicate (length (fixed_cells width bytes)) (of_bytes element)). same_bytes width bytes (repeat n element) h whole other (e ∙ (ap (λ k. replicate k (of_bytes element)) many ∙ sym made)))
    (λ (e : bytes ≡ repeat n element). ap (fixed_cells width) e ∙ (made ∙ ap (λ k. replicate k (of_bytes element)) (sym many)))
    (fill_decides (of_bytes element) (fixed_cells width bytes))

-- whether bytes that are whole elements are all one element, by the first one and the shifted bytes
pub copies_by_shift : (width : ℕ) (element bytes : List ℕ) → 0 < width → length element ≡ width → length bytes % width ≡ 0 → 0 < length bytes
    → (bytes_eq (take width bytes) element && bytes_eq (drop width bytes) (take (length bytes - width) bytes)) ≡ unwrap_or (option_map (is_fill (of_bytes element)) (fixed_in width bytes)) false
copies_by_shift width element bytes h long whole some = by_count (length bytes / width) (whole_length width bytes whole) refl where
  by_count : (count : ℕ) → length bytes ≡ count * width → length bytes / width ≡ count → (bytes_eq (take width bytes) element && bytes_eq (drop width bytes) (take (length bytes - width) bytes)) ≡ unwrap_or (option_map (is_fill (of_bytes element)) (fixed_in width bytes)) false
  by_count zero all e = let none : zero * width ≡ 0 = omega arith in absurd (omega (arith, all, none, some))
  by_count (suc count) all e =
      same_from_decides (bytes_eq (take width bytes) element && bytes_eq (drop width bytes) (take (length bytes - width) bytes)) (is_fill (of_bytes element) (fixed_cells width bytes))
      (Decides-like (bytes_eq (take width bytes) element && bytes_eq (drop width bytes) (take (length bytes - width) bytes))
      (λ (p : (take width bytes ≡ element) × (drop width bytes ≡ take (length bytes - width) bytes)). repeat_from_shift count width element bytes long all p.0 p.1 ∙ ap (λ n. repeat n element) (sym e))
      (λ (p : bytes ≡ repeat (length bytes / width) element). shift_of_repeat count width element bytes long (p ∙ ap (λ n. repeat n element) e))
      (Decides-and (bytes_eq (take width bytes) element) (bytes_eq (drop width bytes) (take (length bytes - width) bytes)) (bytes_eq-Decides (take width bytes) element) (bytes_eq-Decides (drop width bytes) (take (length bytes - width) bytes))))
      (fixed_fill width element bytes h long whole)
      ∙ sym (ap (λ (o : Option (List Cell)). unwrap_or (option_map (is_fill (of_bytes element)) o) false) (fixed_in-some width bytes h whole))

-- by what was compared
pub record IsShifted (element bytes front back : List ℕ) : Type 0 where
  pub some_width : length element ≡ 0 → ⊥
  pub whole : length bytes % length element ≡ 0
  pub some : (length bytes == 0) ≡ false
  pub first : front ≡ take (length element) bytes
  pub others : back ≡ drop (length element) bytes

shifted_copies : (element bytes front back : List ℕ) → IsShifted element bytes front back
    → (bytes_eq front element && bytes_eq back (take (length bytes - length element) bytes)) ≡ unwrap_or (option_map (is_fill (of_bytes element)) (fixed_in (length element) bytes)) false
shifted_copies element bytes front back h =
    let w = length element in
    let some_width = h.some_width in
    let some = eqb-false (length bytes) 0 h.some in
    ap (λ ns. bytes_eq ns element && bytes_eq back (take (length bytes - w) bytes)) h.first
    ∙ (ap (λ ns. bytes_eq (take w bytes) element && bytes_eq ns (take (length bytes - w) bytes)) h.others
    ∙ copies_by_shift w element bytes (omega arith) refl h.whole (omega arith))

pub copies_then : (element bytes front back : List ℕ) (one two : Bool) → IsShifted element bytes front back → one ≡ bytes_eq front element → one ≡ true → two ≡ bytes_eq back (take (length bytes - length element) bytes)
    → two ≡ unwrap_or (option_map (is_fill (of_bytes element)) (fixed_in (length element) bytes)) false
copies_then element bytes front back one two h is right others =
    others ∙ (ap (λ (b : Bool). b && bytes_eq back (take (length bytes - length element) bytes)) (sym right ∙ is) ∙ shifted_copies element bytes front back h)

pub copies_else : (element bytes front back : List ℕ) (one : Bool) → IsShifted element bytes front back → one ≡ bytes_eq front element → one ≡ false
    → one ≡ unwrap_or (option_map (is_fill (of_bytes element)) (fixed_in (length element) bytes)) false
copies_else element bytes front back one h is wrong =
    wrong ∙ (ap (λ (b : Bool). b && bytes_eq back (take (length bytes - length element) bytes)) (sym wrong ∙ is) ∙ shifted_copies element bytes front back h)
