-- Elements by their numbers, one after another.
use Rattle.std.proofs.Common.{◌≡◌, ◌∙◌, ℕ, zero, suc, ◌+◌, ◌*◌, ◌/◌, ◌<◌, ◌≤◌, true, nat_lt, List, [], ◌∷◌, length, get_or, take, drop, flat_map, sym, ap, arith, length-append, length-drop}
use Rattle.std.specs.List.{list_all}
use Rattle.std.proofs.Math.Nat.{mul-le-mul_right, div-mul-le_self, zero-mul}
use Rattle.std.proofs.lemmas.Bool.{and_parts, ltb-true}
use Rattle.std.proofs.lemmas.List.{length-take-le}
use Rattle.zarr_codecs_meaning.specs.Types.{Cell, of_bytes}
use Rattle.zarr_codecs_meaning.specs.Payloads.{fixed_cells}
use Rattle.zarr_codecs_meaning.specs.Places.{gather}
use Rattle.zarr_codecs_arrays.proofs.FixedCells.{fixed_cells-nil, fixed_cells-cons, get_or-fixed_cells}

-- the bytes of the elements with these numbers
abbrev pub elements_bytes : ℕ → List ℕ → List ℕ → List ℕ
elements_bytes width bytes numbers = flat_map (λ n. take width (drop (n * width) bytes)) numbers

-- the number of an element says where its bytes end
pub element_ends : (width n : ℕ) (bytes : List ℕ) → nat_lt n (length bytes / width) ≡ true → n * width + width ≤ length bytes
element_ends width n bytes below =
    let more : (n + 1) * width ≤ (length bytes / width) * width = mul-le-mul_right width (let l = ltb-true n (length bytes / width) below in omega (arith, l)) in
    let all : (length bytes / width) * width ≤ length bytes = div-mul-le_self (length bytes) width in
    let turned : (n + 1) * width ≡ n * width + width = grind arith in
    omega (arith, more, all, turned)

element_long : (width n : ℕ) (bytes : List ℕ) → nat_lt n (length bytes / width) ≡ true → length (take width (drop (n * width) bytes)) ≡ width
element_long width n bytes below = let ends = element_ends width n bytes below in length-take-le width (drop (n * width) bytes) (omega (arith, ends, length-drop (n * width) bytes))

pub listed_length : (width : ℕ) (bytes numbers : List ℕ) → list_all (λ n. nat_lt n (length bytes / width)) numbers ≡ true → length (elements_bytes width bytes numbers) ≡ length numbers * width
listed_length width bytes [] inside = sym (zero-mul width)
listed_length width bytes (n ∷ ns) inside =
    let both = and_parts (nat_lt n (length bytes / width)) (list_all (λ n. nat_lt n (length bytes / width)) ns) inside in
    let element = take width (drop (n * width) bytes) in
    let turned : length (n ∷ ns) * width ≡ width + length ns * width = grind arith in
    omega (arith, length-append element (elements_bytes width bytes ns), element_long width n bytes both.0, listed_length width bytes ns both.1, turned)

pub listed_cells : (width : ℕ) (bytes numbers : List ℕ) (other : Cell) → 0 < width → list_all (λ n. nat_lt n (length bytes / width)) numbers ≡ true → fixed_cells width (elements_bytes width bytes numbers) ≡ gather other (fixed_cells width bytes) numbers
listed_cells width bytes [] other some inside = fixed_cells-nil width
listed_cells width bytes (n ∷ ns) other some inside =
    let both = and_parts (nat_lt n (length bytes / width)) (list_all (λ n. nat_lt n (length bytes / width)) ns) inside in
    let element = take width (drop (n * width) bytes) in
    fixed_cells-cons width element (elements_bytes width bytes ns) some (element_long width n bytes both.0)
    ∙ (ap (λ cells. of_bytes element ∷ cells) (listed_cells width bytes ns other some both.1) ∙ ap (λ cell. cell ∷ gather other (fixed_cells width bytes) ns) (sym (get_or-fixed_cells width bytes n other (ltb-true n (length bytes / width) both.0))))

-- a number in the list is one of an element
pub listed_ends : (width i : ℕ) (bytes numbers : List ℕ) → i < length numbers → list_all (λ n. nat_lt n (length bytes / width)) numbers ≡ true → get_or numbers i 0 * width + width ≤ length bytes
listed_ends width i bytes numbers here inside = element_ends width (get_or numbers i 0) bytes (at numbers i here inside) where
  at : (ns : List ℕ) (i : ℕ) → i < length ns → list_all (λ n. nat_lt n (length bytes / width)) ns ≡ true → nat_lt (get_or ns i 0) (length bytes / width) ≡ true
  at [] i h all = absurd (omega (arith, h))
  at (n ∷ ns) zero h all = (and_parts (nat_lt n (length bytes / width)) (list_all (λ n. nat_lt n (length bytes / width)) ns) all).0
  at (n ∷ ns) (suc i) h all = at ns i (omega (arith, h)) (and_parts (nat_lt n (length bytes / width)) (list_all (λ n. nat_lt n (length bytes / width)) ns) all).1
