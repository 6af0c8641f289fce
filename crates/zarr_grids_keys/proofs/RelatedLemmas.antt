-- Node paths above and under one another.
use Rattle.std.proofs.Common.{◌≡◌, ◌≢◌, ◌∙◌, ℕ, Bool, true, false, not, cond, IsTrue, ◌&&◌, ◌||◌, nat_eq, List, [], ◌∷◌, ◌++◌, length, drop, take, refl, sym, ap, subst, arith, codes, ◌⊎◌, inl, inr, append_assoc}
use Rattle.std.specs.Bool.{Decides}
use Rattle.std.specs.List.{starts_with}
use Rattle.std.specs.Str.{bytes_eq}
use Rattle.std.proofs.lemmas.Bool.{both_ways, cond-false, eq-eqb, false_from_ne_true, or_cases, or_left, or_right}
use Rattle.std.proofs.lemmas.Bool.Decides.{Decides-at, Decides-eqb, Decides-like, nat_tests, same_from_decides}
use Rattle.std.proofs.lemmas.List.{append-nil, append_cancel_left, take-append-drop, take_at}
use Rattle.std.proofs.lemmas.Slice.Eq.{bytes_eq-Decides, starts_is}
use Rattle.zarr_grids_keys.specs.Keys.{key_under}
use Rattle.zarr_grids_keys.specs.Paths.{is_node_path, begins_with_slash}
use Rattle.zarr_grids_keys.specs.Related.{is_under, is_related}
use Rattle.zarr_grids_keys.proofs.PathLemmas.{is_node_path-first}

-- a text begins with another and a slash
abbrev pub IsUnder : List ℕ → List ℕ → Type 0
IsUnder s t = (rest : List ℕ) × (t ≡ s ++ 47 ∷ rest)

pub IsUnder-cons : (a b : ℕ) (s t : List ℕ) → a ≡ b → IsUnder s t → IsUnder (a ∷ s) (b ∷ t)
IsUnder-cons a b s t e u = (u.0, ap (λ x. x ∷ t) (sym e) ∙ ap (λ xs. a ∷ xs) u.1)

-- of two texts that one text begins with, each with a slash after it, one is under the other if they differ
pub comparable : (s t x y : List ℕ) → s ++ 47 ∷ x ≡ t ++ 47 ∷ y → (s ≡ t) ⊎ (IsUnder s t ⊎ IsUnder t s)
comparable [] [] x y e = inl refl
comparable [] (b ∷ t) x y e = let f : 47 ≡ b = cc in inr (inl (t, ap (λ z. z ∷ t) (sym f)))
comparable (a ∷ s) [] x y e = let f : a ≡ 47 = cc in inr (inr (s, ap (λ z. z ∷ s) f))
comparable (a ∷ s) (b ∷ t) x y e =
    let f : a ≡ b = cc in
    let g : s ++ 47 ∷ x ≡ t ++ 47 ∷ y = cc in
    elim (comparable s t x y g) [
      | inl h ↦ inl (ap (λ z. z ∷ s) f ∙ ap (λ zs. b ∷ zs) h)
      | inr h ↦ inr (elim h [ inl u ↦ inl (IsUnder-cons a b s t f u) | inr u ↦ inr (IsUnder-cons b a t s (sym f) u) ])
    ]

pub IsUnder-trans : (s t u : List ℕ) → IsUnder s t → IsUnder t u → IsUnder s u
IsUnder-trans s t u g h = (g.0 ++ 47 ∷ h.0, h.1 ∙ ap (λ z. z ++ 47 ∷ h.0) g.1 ∙ append_assoc s (47 ∷ g.0) (47 ∷ h.0))

-- `starts_with` at a text and a slash
starts_with-Decides : (s t : List ℕ) → Decides (starts_with nat_eq t (s ++ 47 ∷ [])) (IsUnder s t)
starts_with-Decides s t =
    let h = starts_is Decides-eqb t (s ++ 47 ∷ []) (starts_with nat_eq t (s ++ 47 ∷ [])) refl in (
      λ e. (drop (length (s ++ 47 ∷ [])) t, h.0 e ∙ append_assoc s (47 ∷ []) (drop (length (s ++ 47 ∷ [])) t)),
      λ g. h.1 g.0 (g.1 ∙ sym (append_assoc s (47 ∷ []) g.0)),
    )

-- what is under a path other than `/` begins with it and a slash
pub is_under-Decides : (p q : List ℕ) → p ≢ codes "/" → Decides (is_under p q) (IsUnder p q)
is_under-Decides p q n =
    let r : bytes_eq p (codes "/") ≡ false = false_from_ne_true (bytes_eq p (codes "/")) (λ e. n ((bytes_eq-Decides p (codes "/")).0 e)) in
    Decides-at (is_under p q) (starts_with nat_eq q (p ++ 47 ∷ [])) (cond-false (bytes_eq p (codes "/")) _ _ r) (starts_with-Decides p q)

-- a text followed by a slash and more is longer than that text
IsUnder-irrefl : (s : List ℕ) → IsUnder s s → ⊥
IsUnder-irrefl s g = let e = append_cancel_left s [] (47 ∷ g.0) (append-nil s ∙ g.1) in absurd (cc)

pub IsUnder-not_nil : (s : List ℕ) → IsUnder s [] → ⊥
IsUnder-not_nil [] g = let e = g.1 in absurd (cc)
IsUnder-not_nil (x ∷ xs) g = let e = g.1 in absurd (cc)

-- a text is under another, above it, or is that text
abbrev pub AreAlong : List ℕ → List ℕ → Type 0
AreAlong s t = (s ≡ t) ⊎ (IsUnder s t ⊎ IsUnder t s)

-- what stands before the slash in what is under a path
abbrev pub stem : List ℕ → List ℕ
stem path = cond (bytes_eq path (codes "/")) [] path

is_node_path-cons : (p : List ℕ) → IsTrue (is_node_path p) → (rest : List ℕ) × (p ≡ 47 ∷ rest)
is_node_path-cons [] h = absurd (cc)
is_node_path-cons (x ∷ xs) h = let e : x ≡ 47 = (is_node_path-first (x ∷ xs) h).1 in (xs, ap (λ z. z ∷ xs) e)

not_root-under : (p : List ℕ) → IsTrue (is_node_path p) → IsUnder p (codes "/") → ⊥
not_root-under p h g =
    let f = is_node_path-cons p h in
    let e : 47 ∷ [] ≡ 47 ∷ (f.0 ++ 47 ∷ g.0) = g.1 ∙ ap (λ z. z ++ 47 ∷ g.0) f.1 in
    IsUnder-not_nil f.0 (g.0, cc)

-- on node paths, under is under by stems
pub is_under-parts : (p q : List ℕ) → IsTrue (is_node_path p) → IsTrue (is_node_path q) → is_under p q ≡ true → IsUnder (stem p) (stem q)
is_under-parts p q hp hq =
    elim (bytes_eq p (codes "/")) as (λ b. cond b (not (bytes_eq q (codes "/"))) (starts_with nat_eq q (p ++ 47 ∷ [])) ≡ true → IsUnder (cond b [] p) (stem q)) [
      | true ↦ elim (bytes_eq q (codes "/")) as (λ b. not b ≡ true → IsUnder [] (cond b [] q)) [
        | true ↦ λ e. absurd (cc)
        | false ↦ λ _. is_node_path-cons q hq
      ]
      | false ↦ elim (bytes_eq q (codes "/")) as (λ b. bytes_eq q (codes "/") ≡ b → starts_with nat_eq q (p ++ 47 ∷ []) ≡ true → IsUnder p (cond b [] q)) [
        | true ↦ λ r e. absurd (not_root-under p hp (subst (IsUnder p) ((bytes_eq-Decides q (codes "/")).0 r) ((starts_with-Decides p q).0 e)))
        | false ↦ λ _ e. (starts_with-Decides p q).0 e
      ] refl
    ]

-- and back
pub is_under-from : (p q : List ℕ) → IsTrue (is_node_path p) → IsTrue (is_node_path q) → IsUnder (stem p) (stem q) → is_under p q ≡ true
is_under-from p q hp hq =
    elim (bytes_eq p (codes "/")) as (λ b. IsUnder (cond b [] p) (stem q) → cond b (not (bytes_eq q (codes "/"))) (starts_with nat_eq q (p ++ 47 ∷ [])) ≡ true) [
      | true ↦ elim (bytes_eq q (codes "/")) as (λ b. IsUnder [] (cond b [] q) → not b ≡ true) [
        | true ↦ λ g. absurd (IsUnder-not_nil [] g)
        | false ↦ λ _. refl
      ]
      | false ↦ elim (bytes_eq q (codes "/")) as (λ b. IsUnder p (cond b [] q) → starts_with nat_eq q (p ++ 47 ∷ []) ≡ true) [
        | true ↦ λ g. absurd (IsUnder-not_nil p g)
        | false ↦ λ g. (starts_with-Decides p q).1 g
      ]
    ]

not_nil : (p : List ℕ) → IsTrue (is_node_path p) → p ≡ [] → ⊥
not_nil p h e = let f = is_node_path-cons p h in let g = f.1 in absurd (cc)

-- paths with one stem are one
pub stem-injective : (p q : List ℕ) → IsTrue (is_node_path p) → IsTrue (is_node_path q) → stem p ≡ stem q → p ≡ q
stem-injective p q hp hq =
    elim (bytes_eq p (codes "/")) as (λ b. bytes_eq p (codes "/") ≡ b → cond b [] p ≡ stem q → p ≡ q) [
      | true ↦ λ r. elim (bytes_eq q (codes "/")) as (λ b. bytes_eq q (codes "/") ≡ b → [] ≡ cond b [] q → p ≡ q) [
        | true ↦ λ t _. (bytes_eq-Decides p (codes "/")).0 r ∙ sym ((bytes_eq-Decides q (codes "/")).0 t)
        | false ↦ λ _ e. absurd (not_nil q hq (sym e))
      ] refl
      | false ↦ λ r. elim (bytes_eq q (codes "/")) as (λ b. p ≡ cond b [] q → p ≡ q) [
        | true ↦ λ e. absurd (not_nil p hp e)
        | false ↦ λ e. e
      ]
    ] refl

bytes_eq-same : (p q : List ℕ) → p ≡ q → bytes_eq p q ≡ true
bytes_eq-same p q e = (bytes_eq-Decides p q).1 e

-- on node paths, related is along by stems
is_related-parts : (p q : List ℕ) → IsTrue (is_node_path p) → IsTrue (is_node_path q) → is_related p q ≡ true → AreAlong (stem p) (stem q)
is_related-parts p q hp hq h =
    elim (or_cases (bytes_eq p q || is_under p q) (is_under q p) h) [
      | inl g ↦ elim (or_cases (bytes_eq p q) (is_under p q) g) [
        | inl e ↦ inl (ap stem ((bytes_eq-Decides p q).0 e))
        | inr u ↦ inr (inl (is_under-parts p q hp hq u))
      ]
      | inr u ↦ inr (inr (is_under-parts q p hq hp u))
    ]

is_related-from : (p q : List ℕ) → IsTrue (is_node_path p) → IsTrue (is_node_path q) → AreAlong (stem p) (stem q) → is_related p q ≡ true
is_related-from p q hp hq a =
    elim a [
      | inl e ↦ or_left (bytes_eq p q || is_under p q) (is_under q p) (or_left (bytes_eq p q) (is_under p q) (bytes_eq-same p q (stem-injective p q hp hq e)))
      | inr g ↦ elim g [
        | inl u ↦ or_left (bytes_eq p q || is_under p q) (is_under q p) (or_right (bytes_eq p q) (is_under p q) (is_under-from p q hp hq u))
        | inr u ↦ or_right (bytes_eq p q || is_under p q) (is_under q p) (is_under-from q p hq hp u)
      ]
    ]

-- a store key under a path, with its slash
pub key_under-stem : (p x : List ℕ) → IsTrue (is_node_path p) → 47 ∷ key_under p x ≡ stem p ++ 47 ∷ x
key_under-stem p x h =
    elim (bytes_eq p (codes "/")) as (λ b. 47 ∷ cond b x (drop 1 p ++ 47 ∷ x) ≡ cond b [] p ++ 47 ∷ x) [
      | true ↦ refl
      | false ↦ let f = is_node_path-cons p h in subst (λ t. 47 ∷ (drop 1 t ++ 47 ∷ x) ≡ t ++ 47 ∷ x) (sym f.1) refl
    ]

-- store keys under unrelated paths differ
pub key_under-unrelated : (p q x y : List ℕ) → IsTrue (is_node_path p) → IsTrue (is_node_path q) → is_related p q ≡ false → key_under p x ≡ key_under q y → ⊥
key_under-unrelated p q x y hp hq u e =
    let f = sym (key_under-stem p x hp) ∙ ap (λ z. 47 ∷ z) e ∙ key_under-stem q y hq in
    both_ways (is_related p q) u (is_related-from p q hp hq (comparable (stem p) (stem q) x y f))

pub is_related-refl : (p : List ℕ) → IsTrue (is_related p p)
is_related-refl p = or_left (bytes_eq p p || is_under p p) (is_under p p) (or_left (bytes_eq p p) (is_under p p) (bytes_eq-same p p refl))

bytes_eq-sym : (p q : List ℕ) → bytes_eq p q ≡ bytes_eq q p
bytes_eq-sym p q = same_from_decides (bytes_eq p q) (bytes_eq q p) (bytes_eq-Decides p q) (Decides-like (bytes_eq q p) (λ e. sym e) (λ e. sym e) (bytes_eq-Decides q p))

or_swap : (a b c : Bool) → (a || b || c) ≡ (a || c || b)
or_swap true b c = refl
or_swap false true true = refl
or_swap false true false = refl
or_swap false false true = refl
or_swap false false false = refl

pub is_related-comm : (p q : List ℕ) → is_related p q ≡ is_related q p
is_related-comm p q = ap (λ b. b || is_under p q || is_under q p) (bytes_eq-sym p q) ∙ or_swap (bytes_eq q p) (is_under p q) (is_under q p)

pub is_under-trans : (p q r : List ℕ) → IsTrue (is_node_path p) → IsTrue (is_node_path q) → IsTrue (is_node_path r) → IsTrue (is_under p q) → IsTrue (is_under q r) → IsTrue (is_under p r)
is_under-trans p q r hp hq hr u v = is_under-from p r hp hr (IsUnder-trans (stem p) (stem q) (stem r) (is_under-parts p q hp hq u) (is_under-parts q r hq hr v))

pub is_under-irrefl : (p : List ℕ) → IsTrue (is_node_path p) → is_under p p ≡ false
is_under-irrefl p h = false_from_ne_true (is_under p p) (λ e. IsUnder-irrefl (stem p) (is_under-parts p p h h e))

-- what is above a path is along with all that is along with that path
AreAlong-above : (s t u : List ℕ) → IsUnder s t → AreAlong t u → AreAlong s u
AreAlong-above s t u g a =
    elim a [
      | inl e ↦ inr (inl (subst (IsUnder s) e g))
      | inr b ↦ elim b [
        | inl v ↦ inr (inl (IsUnder-trans s t u g v))
        | inr v ↦ comparable s u g.0 v.0 (sym g.1 ∙ v.1)
      ]
    ]

pub is_related-above : (p q r : List ℕ) → IsTrue (is_node_path p) → IsTrue (is_node_path q) → IsTrue (is_node_path r) → IsTrue (is_under p q) → IsTrue (is_related q r) → IsTrue (is_related p r)
is_related-above p q r hp hq hr u v = is_related-from p r hp hr (AreAlong-above (stem p) (stem q) (stem r) (is_under-parts p q hp hq u) (is_related-parts q r hq hr v))

-- whether a text begins with a path and a slash
begins-after : (p rest : List ℕ) → begins_with_slash rest ≡ starts_with nat_eq (p ++ rest) (p ++ 47 ∷ [])
begins-after [] [] = refl
begins-after [] (x ∷ xs) = grind (arith, nat_tests)
begins-after (y ∷ p) rest = begins-after p rest ∙ sym (ap (λ b. b && starts_with nat_eq (p ++ rest) (p ++ 47 ∷ [])) (eq-eqb y y refl))

-- what stands after a path begins with a slash
pub is_under-after : (p s rest : List ℕ) → bytes_eq p (codes "/") ≡ false → bytes_eq (take (length p) s) p ≡ true → rest ≡ drop (length p) s → begins_with_slash rest ≡ is_under p s
is_under-after p s rest r e f =
    let t : s ≡ p ++ rest = sym (take-append-drop (length p) s) ∙ ap (λ z. z ++ drop (length p) s) ((bytes_eq-Decides (take (length p) s) p).0 e) ∙ ap (λ z. p ++ z) (sym f) in
    begins-after p rest ∙ ap (λ z. starts_with nat_eq z (p ++ 47 ∷ [])) (sym t) ∙ sym (cond-false (bytes_eq p (codes "/")) _ _ r)

other-front : (p s : List ℕ) → bytes_eq (take (length p) s) p ≡ false → starts_with nat_eq s (p ++ 47 ∷ []) ≡ true → ⊥
other-front p s e h =
    let g = (starts_with-Decides p s).0 h in
    both_ways (bytes_eq (take (length p) s) p) e (bytes_eq-same (take (length p) s) p (ap (take (length p)) g.1 ∙ take_at p (47 ∷ g.0) (length p) refl))

-- a text that doesn't begin with a path is not under it
pub is_under-other : (p s : List ℕ) → bytes_eq p (codes "/") ≡ false → bytes_eq (take (length p) s) p ≡ false → false ≡ is_under p s
is_under-other p s r e = sym (cond-false (bytes_eq p (codes "/")) _ _ r ∙ false_from_ne_true (starts_with nat_eq s (p ++ 47 ∷ [])) (other-front p s e))
