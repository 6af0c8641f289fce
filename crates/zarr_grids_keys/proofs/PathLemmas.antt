-- Tests on the bytes of paths.
use Rattle.std.proofs.Common.{◌≡◌, ℕ, zero, suc, ◌-◌, ◌<◌, Bool, true, false, not, IsTrue, ◌&&◌, ◌||◌, ◌==◌, List, [], ◌∷◌, length, get_or, Some, refl, sym, ap, arith, codes}
use Rattle.std.specs.Cmp.{first_so}
use Rattle.std.specs.List.{slice_get}
use Rattle.std.specs.Str.{bytes_eq, IsUtf8, IsCharBoundary}
use Rattle.std.proofs.lemmas.Bool.{eqb-true}
use Rattle.std.proofs.lemmas.Option.{slice_get_within}
use Rattle.std.proofs.lemmas.Slice.Eq.{bytes_eq-Decides}
use Rattle.std.proofs.lemmas.Str.{IsCharBoundary-after_ascii}
use Rattle.zarr_grids_keys.specs.Paths.{is_node_path, ends_with_slash, has_double_slash}

ends_with_slash-place : (xs : List ℕ) (n z : ℕ) → suc n ≡ length xs → Some z ≡ slice_get xs n → (z == 47) ≡ ends_with_slash xs
ends_with_slash-place [] n z e h = absurd (omega arith)
ends_with_slash-place (x ∷ []) zero z e h = let f : z ≡ x = cc in ap (λ b. b == 47) f
ends_with_slash-place (x ∷ []) (suc n) z e h = absurd (omega arith)
ends_with_slash-place (x ∷ y ∷ rest) zero z e h = absurd (omega arith)
ends_with_slash-place (x ∷ y ∷ rest) (suc n) z e h = ends_with_slash-place (y ∷ rest) n z (omega arith) h

-- the last byte
pub ends_with_slash-last : (xs : List ℕ) (z : ℕ) → Some z ≡ slice_get xs (length xs - 1) → (z == 47) ≡ ends_with_slash xs
ends_with_slash-last xs z h = let w = slice_get_within xs (length xs - 1) z (sym h) in ends_with_slash-place xs (length xs - 1) z (omega arith) h

-- whether a slash and a text after it have two slashes side by side, or without that slash
abbrev pub has_double_slash_after : Bool → List ℕ → Bool
has_double_slash_after is_slash [] = false
has_double_slash_after is_slash (x ∷ xs) = (is_slash && x == 47) || has_double_slash_after (x == 47) xs

has_double_slash_after-byte : (x : ℕ) (xs : List ℕ) → has_double_slash_after (x == 47) xs ≡ has_double_slash (x ∷ xs)
has_double_slash_after-byte x [] = refl
has_double_slash_after-byte x (y ∷ ys) = ap (λ b. (x == 47 && y == 47) || b) (has_double_slash_after-byte y ys)

-- a text with nothing before it
pub has_double_slash_after-none : (xs : List ℕ) → has_double_slash_after false xs ≡ has_double_slash xs
has_double_slash_after-none [] = refl
has_double_slash_after-none (x ∷ xs) = has_double_slash_after-byte x xs

-- a node path begins with a slash
pub is_node_path-first : (path : List ℕ) → IsTrue (is_node_path path) → (0 < length path) × (get_or path 0 0 ≡ 47)
is_node_path-first [] h = absurd (cc)
is_node_path-first (x ∷ xs) h = (
  omega arith,
  elim (bytes_eq (x ∷ xs) (codes "/")) as (λ b. bytes_eq (x ∷ xs) (codes "/") ≡ b → IsTrue (b || (x == 47 && not (ends_with_slash (x ∷ xs)) && not (has_double_slash (x ∷ xs)))) → x ≡ 47) [
    | true ↦ λ e _. let same : x ∷ xs ≡ 47 ∷ [] = (bytes_eq-Decides (x ∷ xs) (codes "/")).0 e in cc
    | false ↦ λ _ g. eqb-true x 47 (first_so (x == 47) _ (first_so _ _ g))
  ] refl h,
)

-- the text after its first slash is text
pub is_node_path-boundary : (path : List ℕ) → IsUtf8 path → IsTrue (is_node_path path) → IsCharBoundary path 1
is_node_path-boundary path utf8 h = let f = is_node_path-first path h in IsCharBoundary-after_ascii path 0 utf8 f.0 (omega (arith, f.1))
