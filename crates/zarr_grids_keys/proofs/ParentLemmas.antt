-- The parents of node paths.
use Rattle.std.proofs.Common.{◌≡◌, ◌↔◌, ◌∙◌, ℕ, zero, suc, ◌+◌, ◌-◌, ◌<◌, ◌≤◌, true, false, not, IsTrue, ◌&&◌, ◌||◌, ◌==◌, List, [], ◌∷◌, ◌++◌, length, drop, take, get_or, Some, MatchOption, refl, sym, ap, subst, arith, codes, ◌⊎◌, inl, inr, append_assoc}
use Rattle.std.specs.Cmp.{first_so, second_so}
use Rattle.std.specs.List.{before_last, suffix_len}
use Rattle.std.specs.Str.{bytes_eq}
use Rattle.std.proofs.lemmas.Bool.{and_cases, both_ways, cases_Bool, cases_eq, cond-false, false_from_ne_true, ne_eqb, not-true, not_from_false, not_from_true, or_cases, or_from, or_left, or_parts, or_right, eq-eqb}
use Rattle.std.proofs.lemmas.Bool.Decides.{same_from_decides}
use Rattle.std.proofs.lemmas.List.{append_cancel_left, drop_more, get_or-drop, get_or_at, length-append, length-drop, length-take-le, take-append-drop}
use Rattle.std.proofs.lemmas.List.Sums.{suffix_len_is}
use Rattle.std.proofs.lemmas.Option.{none-some, same_Some}
use Rattle.std.proofs.lemmas.Slice.Eq.{bytes_eq-Decides}
use Rattle.zarr_grids_keys.specs.Paths.{is_node_path, begins_with_slash, ends_with_slash, has_double_slash}
use Rattle.zarr_grids_keys.specs.Related.{is_under, or_root, parent_path, IsReached, here, further}
use Rattle.zarr_grids_keys.proofs.PathLemmas.{is_node_path-first}
use Rattle.zarr_grids_keys.proofs.RelatedLemmas.{IsUnder, IsUnder-not_nil, IsUnder-trans, comparable, stem, is_under-from, is_under-parts, stem-injective}

-- no byte after a place is a slash
abbrev pub NoSlashAfter : List ℕ → ℕ → Type 0
NoSlashAfter xs k = (i : ℕ) → k < i → i < length xs → get_or xs i 0 ≡ 47 → ⊥

-- the place of the last slash
abbrev pub IsLastSlash : List ℕ → ℕ → Type 0
IsLastSlash xs k = (k < length xs) × (get_or xs k 0 ≡ 47) × NoSlashAfter xs k

suffix_len-slash : (xs : List ℕ) (k : ℕ) → IsLastSlash xs k → suffix_len (λ byte. not (byte == 47)) xs ≡ length xs - (k + 1)
suffix_len-slash xs k h = suffix_len_is (λ byte. not (byte == 47)) xs (k + 1) 0 (omega (arith, h.0)) (λ i l m. not_from_false (get_or xs i 0 == 47) (ne_eqb (get_or xs i 0) 47 (h.2 i (omega arith) m))) (λ _. not_from_true (get_or xs (k + 1 - 1) 0 == 47) (eq-eqb (get_or xs (k + 1 - 1) 0) 47 (ap (λ n. get_or xs n 0) (omega arith) ∙ h.1)))

before_last-slash : (xs : List ℕ) (k : ℕ) → IsLastSlash xs k → before_last (λ byte. byte == 47) xs ≡ take k xs
before_last-slash xs k h = let l : k < length xs = h.0 in ap (λ n. take n xs) (omega (arith, suffix_len-slash xs k h))

or_root-some : (xs : List ℕ) → 0 < length xs → or_root xs ≡ xs
or_root-some [] h = absurd (omega arith)
or_root-some (x ∷ xs) h = refl

-- the parent at the place of the last slash
pub parent_path-first : (p : List ℕ) → bytes_eq p (codes "/") ≡ false → IsLastSlash p 0 → parent_path p ≡ Some (codes "/")
parent_path-first p r h = cond-false (bytes_eq p (codes "/")) _ _ r ∙ ap (λ z. Some (or_root z)) (before_last-slash p 0 h)

pub parent_path-later : (p : List ℕ) (k : ℕ) → bytes_eq p (codes "/") ≡ false → 0 < k → IsLastSlash p k → parent_path p ≡ Some (take k p)
parent_path-later p k r l h =
    let m : length (take k p) ≡ k = length-take-le k p (omega (arith, h.0)) in
    cond-false (bytes_eq p (codes "/")) _ _ r ∙ ap (λ z. Some (or_root z)) (before_last-slash p k h) ∙ ap (λ z. Some z) (or_root-some (take k p) (omega arith))

-- around a slash
split_at : (xs : List ℕ) (k : ℕ) → k < length xs → get_or xs k 0 ≡ 47 → xs ≡ take k xs ++ 47 ∷ drop (k + 1) xs
split_at xs k l e = sym (take-append-drop k xs) ∙ ap (λ z. take k xs ++ z) (drop_more xs k 0 l ∙ ap (λ z. z ∷ drop (k + 1) xs) e)

-- what a path other than `/` passes
abbrev pub PassesTests : List ℕ → Type 0
PassesTests p = (begins_with_slash p ≡ true) × (ends_with_slash p ≡ false) × (has_double_slash p ≡ false)

PassesTests-parts : (p : List ℕ) → bytes_eq p (codes "/") ≡ false → IsTrue (is_node_path p) → PassesTests p
PassesTests-parts p r h =
    let g : (begins_with_slash p && not (ends_with_slash p) && not (has_double_slash p)) ≡ true = elim (or_cases (bytes_eq p (codes "/")) _ h) [ inl e ↦ absurd (both_ways (bytes_eq p (codes "/")) r e) | inr e ↦ e ] in
    let f = first_so (begins_with_slash p && not (ends_with_slash p)) _ g in
    (first_so (begins_with_slash p) _ f, not-true (ends_with_slash p) (second_so (begins_with_slash p) _ f), not-true (has_double_slash p) (second_so (begins_with_slash p && not (ends_with_slash p)) _ g))

pub PassesTests-is : (p : List ℕ) → PassesTests p → IsTrue (is_node_path p)
PassesTests-is p h = or_right (bytes_eq p (codes "/")) _ (grind (arith, h.0, h.1, h.2))

double-front : (f name : List ℕ) → has_double_slash (f ++ 47 ∷ name) ≡ false → (ends_with_slash f ≡ false) × (has_double_slash f ≡ false)
double-front [] name h = (refl, refl)
double-front (x ∷ []) name h =
    let g = (or_parts (x == 47 && true) (has_double_slash (47 ∷ name)) h).0 in
    (elim (and_cases (x == 47) true g) [ inl e ↦ e | inr e ↦ absurd (cc) ], refl)
double-front (x ∷ y ∷ rest) name h =
    let g = or_parts (x == 47 && y == 47) (has_double_slash (y ∷ rest ++ 47 ∷ name)) h in
    let i = double-front (y ∷ rest) name g.1 in
    (i.0, or_from (x == 47 && y == 47) (has_double_slash (y ∷ rest)) g.0 i.1)

-- what stands before a slash of a path, if anything does
PassesTests-front : (f name : List ℕ) → 0 < length f → PassesTests (f ++ 47 ∷ name) → PassesTests f
PassesTests-front [] name l h = absurd (omega arith)
PassesTests-front (x ∷ xs) name l h = let d = double-front (x ∷ xs) name h.2 in (h.0, d.0, d.1)

pub is_node_path-take : (p : List ℕ) (k : ℕ) → bytes_eq p (codes "/") ≡ false → IsTrue (is_node_path p) → 0 < k → k < length p → get_or p k 0 ≡ 47 → PassesTests (take k p)
is_node_path-take p k r h l m e =
    let n : length (take k p) ≡ k = length-take-le k p (omega arith) in
    PassesTests-front (take k p) (drop (k + 1) p) (omega arith) (subst PassesTests (split_at p k m e) (PassesTests-parts p r h))

-- whether a list has a slash, and where the last one stands
last_slash : (xs : List ℕ) → ((i : ℕ) → i < length xs → get_or xs i 0 ≡ 47 → ⊥) ⊎ ((k : ℕ) × IsLastSlash xs k)
last_slash [] = inl (λ i l e. absurd (omega arith))
last_slash (x ∷ xs) =
    elim (last_slash xs) [
      | inr h ↦ inr (suc h.0, (omega (arith, h.1.0), h.1.1, later x xs h.0 h.1.2))
      | inl none ↦ elim (cases_eq x 47) [
        | inl e ↦ inr (0, (omega arith, e, first x xs none))
        | inr n ↦ inl (no_slash x xs n none)
      ]
    ]
  where
    later : (x : ℕ) (xs : List ℕ) (k : ℕ) → NoSlashAfter xs k → NoSlashAfter (x ∷ xs) (suc k)
    later x xs k h zero l m e = absurd (omega arith)
    later x xs k h (suc i) l m e = h i (omega arith) (omega arith) e

    first : (x : ℕ) (xs : List ℕ) → ((i : ℕ) → i < length xs → get_or xs i 0 ≡ 47 → ⊥) → NoSlashAfter (x ∷ xs) 0
    first x xs h zero l m e = absurd (omega arith)
    first x xs h (suc i) l m e = h i (omega arith) e

    no_slash : (x : ℕ) (xs : List ℕ) → (x ≡ 47 → ⊥) → ((i : ℕ) → i < length xs → get_or xs i 0 ≡ 47 → ⊥) → (i : ℕ) → i < length (x ∷ xs) → get_or (x ∷ xs) i 0 ≡ 47 → ⊥
    no_slash x xs n h zero l e = n e
    no_slash x xs n h (suc i) l e = h i (omega arith) e

-- a path splits at its last slash into the stem of its parent and a name without slashes
pub record IsSplit (p parent name : List ℕ) : Type 0 where
  pub is_parent : parent_path p ≡ Some parent
  pub is_path : IsTrue (is_node_path parent)
  pub is_shorter : length parent < length p
  pub joined : p ≡ stem parent ++ 47 ∷ name
  pub has_no_slash : (i : ℕ) → i < length name → get_or name i 0 ≡ 47 → ⊥

stem-same : (p : List ℕ) → ends_with_slash p ≡ false → stem p ≡ p
stem-same p e = cond-false (bytes_eq p (codes "/")) _ _ (false_from_ne_true (bytes_eq p (codes "/")) (λ r. both_ways (ends_with_slash p) e (ap ends_with_slash ((bytes_eq-Decides p (codes "/")).0 r))))

name_after : (p : List ℕ) (k : ℕ) → NoSlashAfter p k → (i : ℕ) → i < length (drop (k + 1) p) → get_or (drop (k + 1) p) i 0 ≡ 47 → ⊥
name_after p k h i l e =
    let m : length (drop (k + 1) p) ≡ length p - (k + 1) = length-drop (k + 1) p in
    h (k + 1 + i) (omega arith) (omega arith) (sym (get_or-drop (k + 1) p i 0) ∙ e)

not_root-length : (p : List ℕ) → IsTrue (is_node_path p) → bytes_eq p (codes "/") ≡ false → 1 < length p
not_root-length [] h r = absurd (cc)
not_root-length (x ∷ []) h r = let e : x ≡ 47 = (is_node_path-first (x ∷ []) h).1 in absurd (both_ways (bytes_eq (x ∷ []) (codes "/")) r ((bytes_eq-Decides (x ∷ []) (codes "/")).1 (ap (λ z. z ∷ []) e)))
not_root-length (x ∷ y ∷ rest) h r = omega arith

splits_at : (p : List ℕ) (k : ℕ) → bytes_eq p (codes "/") ≡ false → IsTrue (is_node_path p) → IsLastSlash p k → (parent : List ℕ) × (name : List ℕ) × IsSplit p parent name
splits_at p zero r h l = (
  codes "/",
  drop 1 p,
  record {
    is_parent = parent_path-first p r l;
    is_path = refl;
    is_shorter = not_root-length p h r;
    joined = split_at p 0 l.0 l.1;
    has_no_slash = name_after p 0 l.2;
  },
)
splits_at p (suc n) r h l =
    let t = is_node_path-take p (suc n) r h (omega arith) l.0 l.1 in (
      take (suc n) p,
      drop (suc n + 1) p,
      record {
        is_parent = parent_path-later p (suc n) r (omega arith) l;
        is_path = PassesTests-is (take (suc n) p) t;
        is_shorter = let m : suc n < length p = l.0 in omega (arith, length-take-le (suc n) p (omega arith));
        joined = subst (λ z. p ≡ z ++ 47 ∷ drop (suc n + 1) p) (sym (stem-same (take (suc n) p) t.1)) (split_at p (suc n) l.0 l.1);
        has_no_slash = name_after p (suc n) l.2;
      },
    )

splits : (p : List ℕ) → bytes_eq p (codes "/") ≡ false → IsTrue (is_node_path p) → (parent : List ℕ) × (name : List ℕ) × IsSplit p parent name
splits p r h =
    let f = is_node_path-first p h in
    elim (last_slash p) [
      | inl none ↦ absurd (none 0 f.0 f.1)
      | inr l ↦ splits_at p l.0 r h l.1
    ]

stem-other : (p : List ℕ) → bytes_eq p (codes "/") ≡ false → stem p ≡ p
stem-other p r = cond-false (bytes_eq p (codes "/")) _ _ r

-- what is above a path is above its parent or is it
above-parent : (a p parent name : List ℕ) → bytes_eq p (codes "/") ≡ false → IsTrue (is_node_path a) → IsTrue (is_node_path p) → IsSplit p parent name → is_under a p ≡ true → (bytes_eq a parent || is_under a parent) ≡ true
above-parent a p parent name r ha hp s u =
    let g = subst (IsUnder (stem a)) (stem-other p r) (is_under-parts a p ha hp u) in
    elim (comparable (stem a) (stem parent) g.0 name (sym g.1 ∙ s.joined)) [
      | inl e ↦ or_left (bytes_eq a parent) (is_under a parent) ((bytes_eq-Decides a parent).1 (stem-injective a parent ha s.is_path e))
      | inr b ↦ elim b [
        | inl v ↦ or_right (bytes_eq a parent) (is_under a parent) (is_under-from a parent ha s.is_path v)
        | inr v ↦
            let e : stem parent ++ 47 ∷ name ≡ stem parent ++ 47 ∷ (v.0 ++ 47 ∷ g.0) = sym s.joined ∙ g.1 ∙ ap (λ z. z ++ 47 ∷ g.0) v.1 ∙ append_assoc (stem parent) (47 ∷ v.0) (47 ∷ g.0) in
            let f : name ≡ v.0 ++ 47 ∷ g.0 = let d = append_cancel_left (stem parent) (47 ∷ name) (47 ∷ (v.0 ++ 47 ∷ g.0)) e in cc in
            let n : length name ≡ length v.0 + length (47 ∷ g.0) = ap length f ∙ length-append v.0 (47 ∷ g.0) in
            absurd (s.has_no_slash (length v.0) (omega arith) (ap (λ z. get_or z (length v.0) 0) f ∙ get_or_at v.0 47 g.0 0 (length v.0) refl))
      ]
    ]

parent-above : (a p parent name : List ℕ) → bytes_eq p (codes "/") ≡ false → IsTrue (is_node_path a) → IsTrue (is_node_path p) → IsSplit p parent name → (bytes_eq a parent || is_under a parent) ≡ true → is_under a p ≡ true
parent-above a p parent name r ha hp s h =
    let below : IsUnder (stem parent) (stem p) = (name, stem-other p r ∙ s.joined) in
    elim (or_cases (bytes_eq a parent) (is_under a parent) h) [
      | inl e ↦ is_under-from a p ha hp (subst (λ z. IsUnder (stem z) (stem p)) (sym ((bytes_eq-Decides a parent).0 e)) below)
      | inr u ↦ is_under-from a p ha hp (IsUnder-trans (stem a) (stem parent) (stem p) (is_under-parts a parent ha s.is_path u) below)
    ]

-- nothing is above `/`
pub is_under-root : (a : List ℕ) → IsTrue (is_node_path a) → is_under a (codes "/") ≡ false
is_under-root a h = false_from_ne_true (is_under a (codes "/")) (λ e. IsUnder-not_nil (stem a) (is_under-parts a (codes "/") h refl e))

-- what is above a path: nothing above `/`, else its parent and what is above that
pub is_under-parent : (p a : List ℕ) → IsTrue (is_node_path p) → IsTrue (is_node_path a) → MatchOption (parent_path p) (is_under a p ≡ false) (λ parent. is_under a p ≡ (bytes_eq a parent || is_under a parent))
is_under-parent p a hp ha =
    elim (cases_Bool (bytes_eq p (codes "/"))) [
      | inl r ↦ subst (λ z. MatchOption (parent_path z) (is_under a z ≡ false) (λ parent. is_under a z ≡ (bytes_eq a parent || is_under a parent))) (sym ((bytes_eq-Decides p (codes "/")).0 r)) (is_under-root a ha)
      | inr r ↦
          let s = splits p r hp in
          let same : is_under a p ≡ (bytes_eq a s.0 || is_under a s.0) = same_from_decides (is_under a p) (bytes_eq a s.0 || is_under a s.0) (above-parent a p s.0 s.1 r ha hp s.2, parent-above a p s.0 s.1 r ha hp s.2) (λ e. e, λ e. e) in
          subst (λ o. MatchOption o (is_under a p ≡ false) (λ parent. is_under a p ≡ (bytes_eq a parent || is_under a parent))) (sym s.2.is_parent) same
    ]

-- the same at a parent that is known
pub is_under-by_parent : (p a parent : List ℕ) → IsTrue (is_node_path p) → IsTrue (is_node_path a) → parent_path p ≡ Some parent → is_under a p ≡ (bytes_eq a parent || is_under a parent)
is_under-by_parent p a parent hp ha e = subst (λ o. MatchOption o (is_under a p ≡ false) (λ z. is_under a p ≡ (bytes_eq a z || is_under a z))) e (is_under-parent p a hp ha)

parent-is_node_path : (p parent : List ℕ) → IsTrue (is_node_path p) → parent_path p ≡ Some parent → IsTrue (is_node_path parent)
parent-is_node_path p parent h e =
    elim (cases_Bool (bytes_eq p (codes "/"))) [
      | inl r ↦ let f = ap parent_path (sym ((bytes_eq-Decides p (codes "/")).0 r)) ∙ e in absurd (none-some parent f)
      | inr r ↦ let s = splits p r h in subst (λ z. IsTrue (is_node_path z)) (same_Some s.0 parent (sym s.2.is_parent ∙ e)) s.2.is_path
    ]

from_reached : (a p : List ℕ) → IsTrue (is_node_path p) → IsTrue (is_node_path a) → IsReached a p → is_under a p ≡ true
from_reached a p hp ha (here _ e) = is_under-by_parent p a a hp ha e ∙ or_left (bytes_eq a a) (is_under a a) ((bytes_eq-Decides a a).1 refl)
from_reached a p hp ha (further _ parent e more) = is_under-by_parent p a parent hp ha e ∙ or_right (bytes_eq a parent) (is_under a parent) (from_reached a parent (parent-is_node_path p parent hp e) ha more)

-- n bounds the length of the path
to_reached : (n : ℕ) (a p : List ℕ) → length p ≤ n → IsTrue (is_node_path p) → IsTrue (is_node_path a) → is_under a p ≡ true → IsReached a p
to_reached zero a p l hp ha u = absurd (omega (arith, (is_node_path-first p hp).0))
to_reached (suc n) a p l hp ha u =
    elim (cases_Bool (bytes_eq p (codes "/"))) [
      | inl r ↦ absurd (both_ways (is_under a p) (ap (is_under a) ((bytes_eq-Decides p (codes "/")).0 r) ∙ is_under-root a ha) u)
      | inr r ↦
          let s = splits p r hp in
          elim (or_cases (bytes_eq a s.0) (is_under a s.0) (above-parent a p s.0 s.1 r ha hp s.2 u)) [
            | inl e ↦ here p (s.2.is_parent ∙ ap (λ z. Some z) (sym ((bytes_eq-Decides a s.0).0 e)))
            | inr v ↦ further p s.0 s.2.is_parent (to_reached n a s.0 (omega (arith, s.2.is_shorter)) s.2.is_path ha v)
          ]
    ]

-- the paths above another are those that its parents reach
pub is_under-reached : (p a : List ℕ) → IsTrue (is_node_path p) → IsTrue (is_node_path a) → IsTrue (is_under a p) ↔ IsReached a p
is_under-reached p a hp ha = (λ u. to_reached (length p) a p (omega arith) hp ha u, λ h. from_reached a p hp ha h)
