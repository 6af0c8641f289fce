-- Arrays at paths related to a path.
use Rattle.std.proofs.Common.{◌≡◌, ◌≢◌, ◌∙◌, ℕ, List, [], ◌∷◌, ◌++◌, refl, sym, ap, subst, Bool, true, false, not, ◌||◌, IsTrue, ◌↔◌, length, Option, Some, None, is_some, cond, ⊎_elim, bytes_eq, codes, string_bytes, arith, MatchOption, Result, Ok, Err}
use Rattle.std.specs.Prelude.{String}
use Rattle.std.specs.declared.alloc.Global.{Global}
use Rattle.std.specs.BTreeMap as tree
use Rattle.std.specs.BTreeMap.Range.{IsInRange, IsEntryInRange, IsRangeOf}
use Rattle.std.specs.List.{slice_get}
use Rattle.std.specs.Option.{IfSome}
use Rattle.std.specs.Result.{IfOk}
use Rattle.std.specs.declared.alloc.AllocError.{AllocError}
use Rattle.std.specs.Cmp.Lexicographic.{slice_cmp}
use Rattle.std.specs.Map.{lookup}
use Rattle.std.specs.Ordering.{nat_cmp, is_eq, is_gt}
use Rattle.std.specs.String.{string_cmp}
use Rattle.std.specs.declared.cmp.Ordering.TheVariants.{Less}
use Rattle.std.specs.declared.ops.Bound.TheVariants.{Included, Excluded}
use Rattle.std.proofs.lemmas.Bool.{false≢true, or_left, or_right, or_cases, or_from, cases_Bool, both_ways, false_from_ne_true}
use Rattle.std.proofs.lemmas.Bool.Decides.{nat_tests}
use Rattle.std.proofs.lemmas.Map.Text.{is_eq-slice_cmp}
use Rattle.std.proofs.lemmas.Slice.Eq.{bytes_eq-Decides}
use Rattle.zarr_grids_keys.specs.Paths.{is_node_path}
use Rattle.zarr_grids_keys.specs.Related.{is_under, is_related, parent_path}
use Rattle.zarr_grids_keys.proofs.ParentLemmas.{is_under-parent, is_under-by_parent}
use Rattle.zarr_grids_keys.proofs.RangeLemmas.{is_under-range}
use Rattle.zarr_run_opening.specs.Arrays.{IsTakenIn, IsFreeIn, IsFreeAbove, IsFreeUnder}
use Rattle.zarr_run_opening.specs.Sessions.{Arrays, array_at}
use Rattle.zarr_run_opening.specs.declared.held.HeldArray.{HeldArray}

same_bytes : (p : List ℕ) → bytes_eq p p ≡ true
same_bytes p = (bytes_eq-Decides p p).1 refl

pub related_same : (p q : List ℕ) → p ≡ q → IsTrue (is_related p q)
related_same p q e = or_left (bytes_eq p q || is_under p q) (is_under q p) (or_left (bytes_eq p q) (is_under p q) ((bytes_eq-Decides p q).1 e))

pub related_under : (p q : List ℕ) → IsTrue (is_under p q) → IsTrue (is_related p q)
related_under p q u = or_left (bytes_eq p q || is_under p q) (is_under q p) (or_right (bytes_eq p q) (is_under p q) u)

pub related_above : (p q : List ℕ) → IsTrue (is_under q p) → IsTrue (is_related p q)
related_above p q u = or_right (bytes_eq p q || is_under p q) (is_under q p) u

some_of : {A : Type 0} (o : Option A) → is_some o ≡ true → (a : A) × (o ≡ Some a)
some_of None e = absurd (false≢true e)
some_of (Some a) e = (a, refl)

none_of : {A : Type 0} (o : Option A) → is_some o ≡ false → (a : A) → o ≡ Some a → ⊥
none_of o e a s = false≢true (sym e ∙ ap is_some s)

none_some : {A : Type 0} (o : Option A) (a : A) → o ≡ None → o ≡ Some a → ⊥
none_some o a e s = cc

-- an array at a path
pub taken_at : {B : Type 0} (arrays : Arrays B) (path other : List ℕ) → is_some (array_at arrays other) ≡ true → IsTrue (is_related path other) → IsTakenIn arrays path
taken_at arrays path other e r = let s = some_of (array_at arrays other) e in record { other = other; array = s.0; found = s.1; related = r }

-- no array at the path, above it or under it
pub free_of : {B : Type 0} (arrays : Arrays B) (path : List ℕ) → is_some (array_at arrays path) ≡ false → IsFreeAbove arrays path → IsFreeUnder arrays path → IsFreeIn arrays path
free_of arrays path none above under = λ other array node found.
    or_from (bytes_eq path other || is_under path other) (is_under other path)
    (or_from (bytes_eq path other) (is_under path other)
    (false_from_ne_true (bytes_eq path other) (λ t. none_of (array_at arrays path) none array (ap (array_at arrays) ((bytes_eq-Decides path other).0 t) ∙ found)))
    (under other array found))
    (above other array node found)

-- ---- above
-- the paths above the lower one lie above the path, and of those above the path where what is looked for stands none is missed
pub record IsReachedFrom (Stands : List ℕ → Type 0) (path lower : List ℕ) : Type 0 where
  pub node : IsTrue (is_node_path lower)
  pub reach : (q : List ℕ) → IsTrue (is_node_path q) → IsTrue (is_under q lower) → IsTrue (is_under q path)
  pub rest : (q : List ℕ) → IsTrue (is_node_path q) → Stands q → IsTrue (is_under q path) → IsTrue (is_under q lower)

pub reached_first : (Stands : List ℕ → Type 0) (path : List ℕ) → IsTrue (is_node_path path) → IsReachedFrom Stands path path
reached_first Stands path node = record { node = node; reach = λ q n u. u; rest = λ q n s u. u }

pub reached_parent : (Stands : List ℕ → Type 0) (path lower parent : List ℕ) → IsReachedFrom Stands path lower → parent_path lower ≡ Some parent → IsTrue (is_node_path parent) → (Stands parent → ⊥) → IsReachedFrom Stands path parent
reached_parent Stands path lower parent r e node none = record {
  node = node;
  reach = λ q n u. r.reach q n (is_under-by_parent lower q parent r.node n e ∙ or_right (bytes_eq q parent) (is_under q parent) u);
  rest = λ q n s u. ⊎_elim
      (λ t. absurd (none (subst Stands ((bytes_eq-Decides q parent).0 t) s)))
      (λ t. t)
      (or_cases (bytes_eq q parent) (is_under q parent) (sym (is_under-by_parent lower q parent r.node n e) ∙ r.rest q n s u));
}

-- the parent lies above the path
pub parent_above : (Stands : List ℕ → Type 0) (path lower parent : List ℕ) → IsReachedFrom Stands path lower → parent_path lower ≡ Some parent → IsTrue (is_node_path parent) → IsTrue (is_under parent path)
parent_above Stands path lower parent r e node = r.reach parent node (is_under-by_parent lower parent parent r.node node e ∙ or_left (bytes_eq parent parent) (is_under parent parent) (same_bytes parent))

-- where no parent is left, nothing that is looked for stands above the path
pub none_above : (Stands : List ℕ → Type 0) (path lower : List ℕ) → IsReachedFrom Stands path lower → parent_path lower ≡ None → (q : List ℕ) → IsTrue (is_node_path q) → Stands q → is_under q path ≡ false
none_above Stands path lower r e q node s = false_from_ne_true (is_under q path) (λ u. both_ways (is_under q lower) no_parent (r.rest q node s u)) where
  no_parent : is_under q lower ≡ false
  no_parent =
      let P : Option (List ℕ) → Type 0 = λ o. MatchOption o (is_under q lower ≡ false) (λ parent. is_under q lower ≡ (bytes_eq q parent || is_under q parent)) in
      subst P e (is_under-parent lower q r.node node)

-- ---- an array above
abbrev pub IsHeldAt : {B : Type 0} → Arrays B → List ℕ → Type 0
IsHeldAt {B} arrays path = (array : HeldArray B) × (array_at arrays path ≡ Some array)

pub not_held : {B : Type 0} (arrays : Arrays B) (path : List ℕ) → is_some (array_at arrays path) ≡ false → IsHeldAt arrays path → ⊥
not_held arrays path none h = none_of (array_at arrays path) none h.0 h.1

pub taken_parent : {B : Type 0} (arrays : Arrays B) (path lower parent : List ℕ) → IsReachedFrom (IsHeldAt arrays) path lower → parent_path lower ≡ Some parent → IsTrue (is_node_path parent) → is_some (array_at arrays parent) ≡ true → IsTakenIn arrays path
taken_parent arrays path lower parent r e node some = taken_at arrays path parent some (related_above path parent (parent_above (IsHeldAt arrays) path lower parent r e node))

pub free_above : {B : Type 0} (arrays : Arrays B) (path lower : List ℕ) → IsReachedFrom (IsHeldAt arrays) path lower → parent_path lower ≡ None → IsFreeAbove arrays path
free_above arrays path lower r e = λ other array node found. none_above (IsHeldAt arrays) path lower r e other node (array, found)

-- ---- under
-- a path where an array is held is the text of a key
pub key_at : {B : Type 0} (es : List (String Global × HeldArray B)) (q : List ℕ) (array : HeldArray B) → lookup (tree.is_at (λ k. slice_cmp nat_cmp q (string_bytes k))) es ≡ Some array → (k : String Global) × (q ≡ string_bytes k)
key_at [] q array e = absurd (cc)
key_at (x ∷ es) q array e = go (is_eq (slice_cmp nat_cmp q (string_bytes x.0))) refl (key_at es q array) e where
  go : (b : Bool) → is_eq (slice_cmp nat_cmp q (string_bytes x.0)) ≡ b → (lookup (tree.is_at (λ k. slice_cmp nat_cmp q (string_bytes k))) es ≡ Some array → (k : String Global) × (q ≡ string_bytes k))
      → cond b (Some x.1) (lookup (tree.is_at (λ k. slice_cmp nat_cmp q (string_bytes k))) es) ≡ Some array → (k : String Global) × (q ≡ string_bytes k)
  go true t more h = (x.0, (bytes_eq-Decides q (string_bytes x.0)).0 (sym (is_eq-slice_cmp q (string_bytes x.0)) ∙ t))
  go false t more h = more h

forward-path : (p : List ℕ) → slice_cmp nat_cmp (p ++ codes "/") (p ++ codes "0") ≡ Less
forward-path [] = refl
forward-path (x ∷ p) = let h = forward-path p in grind (arith, nat_tests)

pub forward : (path : List ℕ) (low high : String Global) → string_bytes low ≡ path ++ codes "/" → string_bytes high ≡ path ++ codes "0" → is_gt (string_cmp low high) ≡ false
forward path low high e f = ap is_gt (ap (λ xs. slice_cmp nat_cmp xs (string_bytes high)) e ∙ ap (slice_cmp nat_cmp (path ++ codes "/")) f ∙ forward-path path)

-- what stands between two texts
abbrev IsBetween : List ℕ → List ℕ → List ℕ → Type 0
IsBetween low high q = IsInRange (slice_cmp nat_cmp) (Included low) (Excluded high) q

-- an array in the range is under the path
pub taken_under : {B : Type 0} (arrays : Arrays B) (path : List ℕ) (low high : String Global) (k : String Global) (array : HeldArray B) → string_bytes low ≡ path ++ codes "/" → string_bytes high ≡ path ++ codes "0" → path ≢ codes "/"
    → IsInRange string_cmp (Included low) (Excluded high) k → tree.get string_cmp arrays k ≡ Some array → IsTakenIn arrays path
taken_under arrays path low high k array e f ne h found =
    let P : List ℕ → Type 0 = λ xs. IsBetween xs (string_bytes high) (string_bytes k) in
    let Q : List ℕ → Type 0 = λ xs. IsBetween (path ++ codes "/") xs (string_bytes k) in
    record { other = string_bytes k; array = array; found = found; related = related_under path (string_bytes k) ((is_under-range path (string_bytes k) ne).1 (subst Q f (subst P e h))) }

-- where no key is in the range, no array is under the path
pub free_under : {B : Type 0} (arrays : Arrays B) (path : List ℕ) (low high : String Global) → string_bytes low ≡ path ++ codes "/" → string_bytes high ≡ path ++ codes "0" → path ≢ codes "/"
    → ((k : String Global) → IsInRange string_cmp (Included low) (Excluded high) k → tree.get string_cmp arrays k ≡ None) → IsFreeUnder arrays path
free_under arrays path low high e f ne none = λ other array found. false_from_ne_true (is_under path other) (λ u.
    let k = key_at arrays.entries other array found in
    let P : List ℕ → Type 0 = λ xs. IsBetween xs (string_bytes high) (string_bytes k.0) in
    let Q : List ℕ → Type 0 = λ xs. IsBetween (path ++ codes "/") xs (string_bytes k.0) in
    let R : List ℕ → Type 0 = λ q. IsBetween (path ++ codes "/") (path ++ codes "0") q in
    let within : IsBetween (string_bytes low) (string_bytes high) (string_bytes k.0) = subst P (sym e) (subst Q (sym f) (subst R k.1 ((is_under-range path other ne).0 u))) in
    none_some (tree.get string_cmp arrays k.0) array (none k.0 within) (sym (ap (array_at arrays) k.1) ∙ found))

next_some : {A B : Type 0} (f : B → A) (s t : List A) (o : Option B) → MatchOption o ((s ≡ []) × (t ≡ [])) (λ x. s ≡ f x ∷ t) → is_some o ≡ true → (x : A) × (slice_get s 0 ≡ Some x)
next_some f s t None m e = absurd (false≢true e)
next_some f s t (Some x) m e = (f x, ap (λ l. slice_get l 0) m)

next_none : {A B : Type 0} (f : B → A) (s t : List A) (o : Option B) → MatchOption o ((s ≡ []) × (t ≡ [])) (λ x. s ≡ f x ∷ t) → is_some o ≡ false → s ≡ []
next_none f s t None m e = m.0
next_none f s t (Some x) m e = absurd (false≢true (sym e))

-- the first entry of the range, if there is one
pub taken_first : {B C : Type 0} (arrays : Arrays B) (path : List ℕ) (low high : String Global) (f : C → String Global × HeldArray B) (s t : List (String Global × HeldArray B)) (o : Option C) → string_bytes low ≡ path ++ codes "/" → string_bytes high ≡ path ++ codes "0" → path ≢ codes "/"
    → IsRangeOf string_cmp (Included low) (Excluded high) arrays s → MatchOption o ((s ≡ []) × (t ≡ [])) (λ x. s ≡ f x ∷ t) → is_some o ≡ true → IsTakenIn arrays path
taken_first {B = B} arrays path low high f s t o e g ne r m some =
    let x = next_some f s t o m some in
    let P : Option (String Global × HeldArray B) → Type 0 = λ y. IfSome y (IsEntryInRange string_cmp (Included low) (Excluded high) arrays) in
    let h : IsEntryInRange string_cmp (Included low) (Excluded high) arrays x.0 = subst P x.1 r.1 in
    taken_under arrays path low high x.0.0 x.0.1 e g ne h.0 h.1

pub free_first : {B C : Type 0} (arrays : Arrays B) (path : List ℕ) (low high : String Global) (f : C → String Global × HeldArray B) (s t : List (String Global × HeldArray B)) (o : Option C) → string_bytes low ≡ path ++ codes "/" → string_bytes high ≡ path ++ codes "0" → path ≢ codes "/"
    → IsRangeOf string_cmp (Included low) (Excluded high) arrays s → MatchOption o ((s ≡ []) × (t ≡ [])) (λ x. s ≡ f x ∷ t) → is_some o ≡ false → IsFreeUnder arrays path
free_first arrays path low high f s t o e g ne r m none = free_under arrays path low high e g ne (r.5 (next_none f s t o m none))

-- under `/`
pub all_related : (path q : List ℕ) → path ≡ codes "/" → IsTrue (is_related path q)
all_related path q e = subst (λ p. IsTrue (is_related p q)) (sym e)
    (⊎_elim
    (λ t. related_same (codes "/") q (sym ((bytes_eq-Decides q (codes "/")).0 t)))
    (λ t. related_under (codes "/") q (ap not t))
    (cases_Bool (bytes_eq q (codes "/"))))

pub taken_root : {B : Type 0} (arrays : Arrays B) (path : List ℕ) → path ≡ codes "/" → (arrays.entries ≡ [] → ⊥) → IsTakenIn arrays path
taken_root {B} arrays path e some = go arrays.entries refl where
  go : (es : List (String Global × HeldArray B)) → arrays.entries ≡ es → IsTakenIn arrays path
  go [] t = absurd (some t)
  go (x ∷ es) t = record {
    other = string_bytes x.0;
    array = x.1;
    found = ap (lookup (tree.is_at (λ k. slice_cmp nat_cmp (string_bytes x.0) (string_bytes k)))) t
        ∙ ap (λ b. cond b (Some x.1) (lookup (tree.is_at (λ k. slice_cmp nat_cmp (string_bytes x.0) (string_bytes k))) es)) (is_eq-slice_cmp (string_bytes x.0) (string_bytes x.0) ∙ same_bytes (string_bytes x.0));
    related = all_related path (string_bytes x.0) e;
  }

pub free_root : {B : Type 0} (arrays : Arrays B) (path : List ℕ) → arrays.entries ≡ [] → IsFreeUnder arrays path
free_root arrays path e = λ other array found. absurd (none_some (array_at arrays other) array (ap (lookup (tree.is_at (λ k. slice_cmp nat_cmp other (string_bytes k)))) e) found)

pub not_empty : {B : Type 0} (arrays : Arrays B) (b : Bool) → IsTrue b ↔ (length arrays.entries ≡ 0) → IsTrue (not b) → arrays.entries ≡ [] → ⊥
not_empty arrays true h t e = false≢true t
not_empty arrays false h t e = false≢true (h.1 (ap length e))

pub free_result : {B : Type 0} (arrays : Arrays B) (path : List ℕ) (r : Result Bool AllocError) → is_some (array_at arrays path) ≡ false → IsFreeAbove arrays path → IfOk r (λ taken. taken ≡ false → IsFreeUnder arrays path) → IfOk r (λ taken. taken ≡ false → IsFreeIn arrays path)
free_result arrays path (Ok taken) none above under = λ t. free_of arrays path none above (under t)
free_result arrays path (Err e) none above under = tt
