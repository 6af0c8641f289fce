-- The offsets of elements of variable length.
use Rattle.std.proofs.Common.{◌≡◌, ℕ, suc, ◌+◌, ◌-◌, ◌*◌, ◌/◌, ◌%◌, ◌^◌, ◌<◌, ◌≤◌, List, [], ◌∷◌, ◌++◌, length, map, take, drop, flat_map, ap, ◌∙◌, sym, refl, arith, Some, None, option_map, Bool, true, if◌then◌else◌, ◌==◌, length-append, length-take, length-drop, take-append-drop, subst}
use Rattle.std.specs.Prelude.{nat_le, slice_get, IfOk, Result, Ok, Err}
use Rattle.std.proofs.lemmas.Bool.{eqb-true, leb-true, lt-ltb}
use Rattle.std.proofs.lemmas.List.{length-map}
use Rattle.std.proofs.Math.Nat.{mul-mod_left}
use Rattle.std.proofs.Math.Seq.{drop-length, drop-drop}
use Rattle.zarr_codecs_meaning.specs.Numbers.{digits}
use Rattle.zarr_codecs_meaning.specs.Types.{DataType, bool, integer, custom, string, variable_bytes, optional_of, is_variable, Cell, of_bytes, cell_bytes}
use Rattle.zarr_codecs_meaning.specs.Payloads.{Payload, fixed, variable, fixed_cells, fixed_in, bytes_between, variable_in, cells_in}
use Rattle.zarr_codecs_meaning.specs.Encoding.{ends_from, last_number, byte_cells}
use Rattle.zarr_codecs_meaning.specs.Refusals.{offsets_of}
use Rattle.zarr_codecs_meaning.proofs.Lists.{Each, some_same, map_some, if_some}
use Rattle.zarr_codecs_meaning.proofs.Values.{length-digits}
use Rattle.zarr_codecs_meaning.proofs.Variable.{ends_below, length-ends, numbers_are_values, bytes_are_values}
use Rattle.zarr_codecs_arrays.proofs.FixedCells.{fixed_cells-nil, fixed_cells-cons, fixed_in-some}
use Rattle.zarr_codecs_sections.specs.Outcomes.{IsIndexed, IsContent}

-- ---- the last one

pub last_found : (ns : List ℕ) (x d : ℕ) → Some x ≡ slice_get ns (length ns - 1) → x ≡ last_number d ns
last_found [] x d h = cc
last_found (n ∷ []) x d h = some_same h
last_found (n ∷ m ∷ ns) x d h =
    let e : length (n ∷ m ∷ ns) - 1 ≡ suc (length (m ∷ ns) - 1) = omega arith in
    last_found (m ∷ ns) x n (h ∙ ap (slice_get (n ∷ m ∷ ns)) e)

pub last_less : (ns : List ℕ) (d base : ℕ) → last_number (d - base) (map (λ n. n - base) ns) ≡ last_number d ns - base
last_less [] d base = refl
last_less (n ∷ ns) d base = last_less ns n base

-- ---- the bytes between offsets

-- what offsets that do not fall, and end with the bytes, say of the elements between them
pub record AreBetween (start : ℕ) (ends bytes : List ℕ) (elements : List (List ℕ)) : Type 0 where
  pub inside : start ≤ length bytes
  pub joined : flat_map cell_bytes (map of_bytes elements) ≡ drop start bytes
  pub ends_are : (base : ℕ) → base ≤ start → map (λ n. n - base) ends ≡ ends_from (start - base) (map cell_bytes (map of_bytes elements))

-- one element more in front
one_more : (start end : ℕ) (ends bytes : List ℕ) (rest : List (List ℕ)) → start ≤ end → AreBetween end ends bytes rest → AreBetween start (end ∷ ends) bytes (take (end - start) (drop start bytes) ∷ rest)
one_more start end ends bytes rest less others =
    let first = take (end - start) (drop start bytes) in
    let inside = others.inside in
    let long : length first ≡ end - start = length-take (end - start) (drop start bytes) ∙ omega (arith, inside, less, length-drop start bytes) in
    let past : drop (end - start) (drop start bytes) ≡ drop end bytes = drop-drop (end - start) start bytes ∙ ap (λ n. drop n bytes) (omega (arith, less)) in
    record {
      inside = omega (arith, inside, less);
      joined = ap (λ ns. first ++ ns) (others.joined ∙ sym past) ∙ take-append-drop (end - start) (drop start bytes);
      ends_are = λ base low.
          let sum : start - base + length first ≡ end - base = omega (arith, long, low, less) in
          ap (λ ns. (end - base) ∷ ns) (others.ends_are base (omega (arith, low, less)))
          ∙ ap (λ n. n ∷ ends_from n (map cell_bytes (map of_bytes rest))) (sym sum);
    }

pub between : (ends bytes : List ℕ) (start : ℕ) (elements : List (List ℕ)) → bytes_between start ends bytes ≡ Some elements → AreBetween start ends bytes elements
between [] bytes start elements h =
    let found = if_some (start == length bytes) (Some []) elements h in
    let whole = eqb-true start (length bytes) found.0 in
    subst (λ ts. AreBetween start [] bytes ts) (some_same found.1) (record {
      inside = omega (arith, whole);
      joined = sym (ap (λ n. drop n bytes) whole ∙ drop-length bytes);
      ends_are = λ base low. refl;
    })
between (end ∷ ends) bytes start elements h =
    let found = if_some (nat_le start end) (option_map (λ rest. take (end - start) (drop start bytes) ∷ rest) (bytes_between end ends bytes)) elements h in
    let less = leb-true start end found.0 in
    let rest = map_some (λ rest. take (end - start) (drop start bytes) ∷ rest) (bytes_between end ends bytes) elements found.1 in
    subst (λ ts. AreBetween start (end ∷ ends) bytes ts) rest.2 (one_more start end ends bytes rest.0 less (between ends bytes end rest.0 rest.1))

-- ---- the offsets of elements of variable length

-- what the offsets of a payload say of its elements, seen from the first one
pub record AreOffsets (offsets bytes : List ℕ) (first : ℕ) (cells : List Cell) : Type 0 where
  pub are : map (λ n. n - first) offsets ≡ offsets_of cells
  pub joined : flat_map cell_bytes cells ≡ drop first bytes
  pub last : last_number 0 offsets - first ≡ last_number 0 (offsets_of cells)

pub variable_offsets : (offsets bytes : List ℕ) (first : ℕ) (cells : List Cell) → Some first ≡ slice_get offsets 0 → variable_in offsets bytes ≡ Some cells → AreOffsets offsets bytes first cells
variable_offsets [] bytes first cells one h = cc
variable_offsets (start ∷ ends) bytes first cells one h =
    let same : first ≡ start = some_same one in
    let found = map_some (map of_bytes) (bytes_between start ends bytes) cells h in
    let b = between ends bytes start found.0 found.1 in
    let zero_first : start - start ≡ 0 = omega arith in
    let from : map (λ n. n - start) (start ∷ ends) ≡ offsets_of cells =
    ap (λ ns. (start - start) ∷ ns) (b.ends_are start (omega arith))
    ∙ (ap (λ n. n ∷ ends_from n (map cell_bytes (map of_bytes found.0))) zero_first ∙ ap (λ cs. 0 ∷ ends_from 0 (map cell_bytes cs)) found.2) in
    record {
      are = ap (λ f. map (λ n. n - f) (start ∷ ends)) same ∙ from;
      joined = ap (flat_map cell_bytes) (sym found.2) ∙ (b.joined ∙ ap (λ n. drop n bytes) (sym same));
      last = ap (λ f. last_number 0 (start ∷ ends) - f) same ∙ (sym (last_less ends start start) ∙ ap (last_number 0) from);
    }

pub variable_parts : (type : DataType) (payload : Payload) (offsets bytes : List ℕ) (cells : List Cell) → is_variable type ≡ true → payload ≡ variable bytes offsets → cells_in type payload ≡ Some cells → variable_in offsets bytes ≡ Some cells
variable_parts type payload offsets bytes cells v p h =
    sym (ap (λ (b : Bool). if b then variable_in offsets bytes else None) v) ∙ (sym (ap (cells_in type) p) ∙ h)

-- no other payload is elements of variable length
pub fixed_is_none : (type : DataType) (payload : Payload) (bytes : List ℕ) (cells : List Cell) → is_variable type ≡ true → payload ≡ fixed bytes → cells_in type payload ≡ Some cells → ⊥
fixed_is_none string payload bytes cells v p h = let no = sym (ap (cells_in string) p) ∙ h in cc
fixed_is_none variable_bytes payload bytes cells v p h = let no = sym (ap (cells_in variable_bytes) p) ∙ h in cc
fixed_is_none bool payload bytes cells v p h = cc
fixed_is_none (integer sign width) payload bytes cells v p h = cc
fixed_is_none (custom parts) payload bytes cells v p h = cc
fixed_is_none (optional_of inner) payload bytes cells v p h = cc

-- ---- as elements of an index

pub numbers_fixed : (w : ℕ) (ns : List ℕ) → 0 < w → (fixed_cells w (flat_map (digits 256 w) ns) ≡ map (λ n. of_bytes (digits 256 w n)) ns) × (length (flat_map (digits 256 w) ns) ≡ length ns * w)
numbers_fixed w [] some = (fixed_cells-nil w, omega arith)
numbers_fixed w (n ∷ ns) some =
    let rest = numbers_fixed w ns some in
    let others = flat_map (digits 256 w) ns in
    let long = length-digits 256 w n in
    let sum : suc (length ns) * w ≡ w + length ns * w = grind arith in (
      fixed_cells-cons w (digits 256 w n) others some long ∙ ap (λ cs. of_bytes (digits 256 w n) ∷ cs) rest.0,
      length-append (digits 256 w n) others ∙ omega (arith, long, rest.1, sum),
    )

pub numbers_in : (w : ℕ) (ns : List ℕ) → 0 < w → fixed_in w (flat_map (digits 256 w) ns) ≡ Some (map (λ n. of_bytes (digits 256 w n)) ns)
numbers_in w ns some =
    let both = numbers_fixed w ns some in
    let even : length (flat_map (digits 256 w) ns) % w ≡ 0 = ap (λ n. n % w) both.1 ∙ mul-mod_left (length ns) w in
    fixed_in-some w (flat_map (digits 256 w) ns) some even ∙ ap Some both.0

pub flat_after : (f : ℕ → List ℕ) (g : ℕ → ℕ) (ns : List ℕ) → flat_map (λ n. f (g n)) ns ≡ flat_map f (map g ns)
flat_after f g [] = refl
flat_after f g (n ∷ ns) = ap (λ ms. f (g n) ++ ms) (flat_after f g ns)

-- the offsets of elements, as an index has them
pub indexed : (width w first : ℕ) (offsets bytes made : List ℕ) (cells : List Cell) → w ≡ (width + 7) / 8 → 0 < w → AreOffsets offsets bytes first cells → made ≡ flat_map (λ n. digits 256 w (n - first)) offsets → last_number 0 offsets - first < 2 ^ width
    → IsIndexed width cells (fixed made)
indexed width w first offsets bytes made cells is some h made_is low =
    let near : last_number 0 (offsets_of cells) < 2 ^ width = omega (arith, low, h.last) in
    let below = ends_below cells 0 (2 ^ width) near in
    let ends = ends_from 0 (map cell_bytes cells) in
    let flat : made ≡ flat_map (digits 256 w) (offsets_of cells) = made_is ∙ (flat_after (digits 256 w) (λ n. n - first) offsets ∙ ap (flat_map (digits 256 w)) h.are) in
    let long : w ≡ (width + 7) / 8 + 0 = omega (arith, is) in
    record {
      near = lt-ltb (last_number 0 (offsets_of cells)) (2 ^ width) near;
      valid = record {
        is = record {
          lists = ap (λ n. fixed_in n made) (sym long) ∙ (ap (fixed_in w) flat ∙ (numbers_in w (offsets_of cells) some ∙ ap (λ k. Some (map (λ n. of_bytes (digits 256 k n)) (offsets_of cells))) is));
          many = length-map (offsets_of cells) (λ n. of_bytes (digits 256 ((width + 7) / 8) n)) ∙ omega (arith, length-ends cells 0);
        };
        values = numbers_are_values width (offsets_of cells) (below.0, below.1);
      };
    }

-- ---- bytes as elements of their own

bytes_fixed : (ns : List ℕ) → (fixed_cells 1 ns ≡ byte_cells ns)
bytes_fixed [] = fixed_cells-nil 1
bytes_fixed (n ∷ ns) = fixed_cells-cons 1 (n ∷ []) ns (omega arith) refl ∙ ap (λ cs. of_bytes (n ∷ []) ∷ cs) (bytes_fixed ns)

pub content_is : (bytes : List ℕ) (cells : List Cell) → bytes ≡ flat_map cell_bytes cells → Each (λ b. b < 256) bytes → IsContent cells bytes
content_is bytes cells is below =
    let even : length bytes % 1 ≡ 0 = omega arith in
    record {
      is = is;
      valid = record {
        is = record {
          lists = fixed_in-some 1 bytes (omega arith) even ∙ ap Some (bytes_fixed bytes);
          many = length-map bytes (λ b. of_bytes (b ∷ []));
        };
        values = bytes_are_values bytes below;
      };
    }

-- ---- two facts of one answer

pub both_weaker : {A E : Type 0} (r : Result A E) (P Q R : A → Type 0) → ((a : A) → P a → Q a → R a) → IfOk r P → IfOk r Q → IfOk r R
both_weaker (Ok a) P Q R law p q = law a p q
both_weaker (Err e) P Q R law p q = tt
