-- Keys in the order of their bytes, as a finite map lists them.
use Rattle.std.proofs.Common.{◌≡◌, ℕ, ◌+◌, List, [], ◌∷◌, Some, None, Bool, true, false, cond, T, ◌&&◌, ◌||◌, map, length, refl, sym, ap, subst, ◌∙◌, arith}
use Rattle.std.specs.Prelude.{String, slice_index_or}
use Rattle.std.specs.String.{string_bytes, string_cmp, string_eq, string_cmp_total}
use Rattle.std.specs.declared.alloc.Global.{Global}
use Rattle.std.specs.declared.cmp.Ordering.{Ordering}
use Rattle.std.specs.declared.cmp.Ordering.TheVariants.{Less, Equal, Greater}
use Rattle.std.specs.Ordering.{nat_cmp, is_eq, is_lt, eq_by_cmp, ordering_reverse}
use Rattle.std.specs.Cmp.Lexicographic.{slice_cmp, nat_list_eq_equiv}
use Rattle.std.specs.List.{AllByRecursion, IsDistinct, list_any}
use Rattle.std.specs.List.Sorted.{IsStrictlySortedBy, IsPermutation, IsSorted}
use Rattle.std.specs.Str.{bytes_eq}
use Rattle.std.specs.FinMap as fin
use Rattle.std.specs.FinMap.{find, is_sorted, same_map}
use Rattle.std.specs.FinMap.Entries.{below_all}
use Rattle.std.proofs.lemmas.Cmp.{nat_list_cmp_total}
use Rattle.std.proofs.lemmas.List.{get_or-map, length-map}
use Rattle.std.proofs.lemmas.List.Sorted.{IsPermutation-map, list_any-IsPermutation}
use Rattle.std.proofs.lemmas.Map.Keys.{IsDistinct-IsPermutation, apart_from_distinct, sorted_from_all_adjacent}
use Rattle.std.proofs.lemmas.Map.Lookups.{exact_bytes}
use Rattle.std.proofs.lemmas.Map.Text.{is_eq-slice_cmp}
use Rattle.zarr_array_meaning.specs.StoreMaps.{StoreMap}
use Rattle.zarr_array_storage.specs.ValueMaps.{key_bytes}

-- keys, each with nothing at it
abbrev marks : List (List ℕ) → List (List ℕ × Unit {0})
marks ks = map {B = List ℕ × Unit {0}} (λ k. (k, tt)) ks

keys-marks : (ks : List (List ℕ)) → map (λ (e : List ℕ × Unit {0}). e.0) (marks ks) ≡ ks
keys-marks [] = refl
keys-marks (k ∷ ks) = ap (λ l. k ∷ l) (keys-marks ks)

find-marks : (q : List ℕ) (ks : List (List ℕ)) → find (slice_cmp nat_cmp) q (marks ks) ≡ cond (list_any (eq_by_cmp (slice_cmp nat_cmp) q) ks) (Some tt) None
find-marks q [] = refl
find-marks q (k ∷ ks) = elim (eq_by_cmp (slice_cmp nat_cmp) q k) as (λ b. cond b (Some tt) (find (slice_cmp nat_cmp) q (marks ks)) ≡ cond (b || list_any (eq_by_cmp (slice_cmp nat_cmp) q) ks) (Some tt) None) [ true ↦ refl | false ↦ find-marks q ks ]

below-marks : {X : Type 0} (k : List ℕ) (es : List (List ℕ × X)) → below_all (slice_cmp nat_cmp) k (marks (map (λ e. e.0) es)) ≡ below_all (slice_cmp nat_cmp) k es
below-marks k [] = refl
below-marks k (e ∷ es) = ap (λ b. is_lt (slice_cmp nat_cmp k e.0) && b) (below-marks k es)

sorted-marks : {X : Type 0} (es : List (List ℕ × X)) → is_sorted (slice_cmp nat_cmp) (marks (map (λ e. e.0) es)) ≡ is_sorted (slice_cmp nat_cmp) es
sorted-marks [] = refl
sorted-marks (e ∷ es) = ap (λ b. b && is_sorted (slice_cmp nat_cmp) (marks (map (λ e. e.0) es))) (below-marks e.0 es) ∙ ap (λ b. below_all (slice_cmp nat_cmp) e.0 es && b) (sorted-marks es)

-- keys that rise are those of a map that has the same ones
same_keys : (ks : List (List ℕ)) (held : StoreMap) → T (is_sorted (slice_cmp nat_cmp) (marks ks)) → ((q : List ℕ) → list_any (eq_by_cmp (slice_cmp nat_cmp) q) ks ≡ fin.contains_key held q) → ks ≡ fin.keys held
same_keys ks held rise alike =
    let one = fin.from_sorted {R = slice_cmp nat_cmp} (marks ks) in
    let other = fin.from_sorted {R = slice_cmp nat_cmp} (marks (fin.keys held)) in
    let held_rise : T (is_sorted (slice_cmp nat_cmp) (marks (fin.keys held))) = subst T (sym (sorted-marks (fin.entries held))) (fin.entries_sorted held) in
    let same : one ≡ other = same_map nat_list_cmp_total exact_bytes one other (λ q.
    fin.get-from_sorted _ (marks ks) q rise ∙ find-marks q ks
    ∙ ap (λ b. cond b (Some tt) None) (alike q ∙ fin.contains_key-keys held q)
    ∙ sym (fin.get-from_sorted _ (marks (fin.keys held)) q held_rise ∙ find-marks q (fin.keys held))) in
    sym (keys-marks ks)
    ∙ ap (map (λ (e : List ℕ × Unit {0}). e.0)) (sym (fin.entries-from_sorted _ (marks ks) rise) ∙ ap fin.entries same ∙ fin.entries-from_sorted _ (marks (fin.keys held)) held_rise)
    ∙ keys-marks (fin.keys held)

all_below : (k : String Global) (ks : List (String Global)) → AllByRecursion (λ y. string_cmp k y ≡ Less) ks → T (below_all (slice_cmp nat_cmp) (string_bytes k) (marks (key_bytes ks)))
all_below k [] h = tt
all_below k (y ∷ ys) h = subst (λ r. T (is_lt r && below_all (slice_cmp nat_cmp) (string_bytes k) (marks (key_bytes ys)))) (sym h.0) (all_below k ys h.1)

both : (a b : Bool) → T a → T b → T (a && b)
both true b p q = q
both false b p q = p

rising : (ks : List (String Global)) → IsStrictlySortedBy string_cmp ks → T (is_sorted (slice_cmp nat_cmp) (marks (key_bytes ks)))
unfolding IsStrictlySortedBy
rising [] h = tt
rising (k ∷ ks) h = both _ _ (all_below k ks h.0) (rising ks h.1)

less : (r : Ordering) → is_eq r ≡ false → is_lt (ordering_reverse r) ≡ false → r ≡ Less
less Less apart order = refl
less Equal apart order = absurd (subst T apart tt)
less Greater apart order = absurd (subst T order tt)

-- keys in order that all differ rise
rising_from_sorted : (ks : List (String Global)) → IsSorted string_cmp ks → IsDistinct bytes_eq (key_bytes ks) → IsStrictlySortedBy string_cmp ks
unfolding IsStrictlySortedBy
rising_from_sorted [] order apart = tt
rising_from_sorted (x ∷ xs) order apart = sorted_from_all_adjacent string_cmp_total (x ∷ xs) x (λ k below.
    let ks = x ∷ xs in
    let this = slice_index_or ks k x in
    let next = slice_index_or ks (k + 1) x in
    let bytes = string_bytes x in
    let same_this : slice_index_or (key_bytes ks) k bytes ≡ string_bytes this = get_or-map string_bytes ks k x bytes (omega arith) in
    let same_next : slice_index_or (key_bytes ks) (k + 1) bytes ≡ string_bytes next = get_or-map string_bytes ks (k + 1) x bytes (omega arith) in
    let long : length (key_bytes ks) ≡ length ks = length-map ks string_bytes in
    let differ : bytes_eq (string_bytes this) (string_bytes next) ≡ false =
    sym (ap (λ a. bytes_eq a (string_bytes next)) same_this) ∙ sym (ap (bytes_eq (slice_index_or (key_bytes ks) k bytes)) same_next)
    ∙ apart_from_distinct bytes_eq (key_bytes ks) k (k + 1) bytes apart (omega arith) (omega (arith, long)) in
    less (string_cmp this next) (is_eq-slice_cmp (string_bytes this) (string_bytes next) ∙ differ)
    (sym (ap is_lt (string_cmp_total.antisymm next this)) ∙ order k x (omega arith) below))

apart_bytes : (k : String Global) (ks : List (String Global)) → AllByRecursion (λ y. string_eq k y ≡ false) ks → AllByRecursion (λ y. bytes_eq (string_bytes k) y ≡ false) (key_bytes ks)
apart_bytes k [] h = tt
apart_bytes k (y ∷ ys) h = (h.0, apart_bytes k ys h.1)

distinct_bytes : (ks : List (String Global)) → IsDistinct string_eq ks → IsDistinct bytes_eq (key_bytes ks)
unfolding IsDistinct
distinct_bytes [] h = tt
distinct_bytes (k ∷ ks) h = (apart_bytes k ks h.0, distinct_bytes ks h.1)

any_tied : (q : List ℕ) (ks : List (List ℕ)) → list_any (eq_by_cmp (slice_cmp nat_cmp) q) ks ≡ list_any (bytes_eq q) ks
any_tied q [] = refl
any_tied q (k ∷ ks) = ap (λ b. b || list_any (eq_by_cmp (slice_cmp nat_cmp) q) ks) (is_eq-slice_cmp q k) ∙ ap (λ b. bytes_eq q k || b) (any_tied q ks)

-- copies of keys that all differ, in order, are the keys of a map that has the same ones
pub keys_in_order : (ks copies js : List (String Global)) (held : StoreMap) → IsDistinct string_eq ks → key_bytes copies ≡ key_bytes ks → IsPermutation copies js → IsSorted string_cmp js → ((q : List ℕ) → list_any (bytes_eq q) (key_bytes ks) ≡ fin.contains_key held q) → key_bytes js ≡ fin.keys held
keys_in_order ks copies js held apart same moved order alike =
    let moved_bytes : IsPermutation (key_bytes copies) (key_bytes js) = IsPermutation-map string_bytes copies js moved in
    let apart_copies : IsDistinct bytes_eq (key_bytes copies) = subst (IsDistinct bytes_eq) (sym same) (distinct_bytes ks apart) in
    let apart_moved : IsDistinct bytes_eq (key_bytes js) = IsDistinct-IsPermutation bytes_eq nat_list_eq_equiv.symm (key_bytes copies) (key_bytes js) moved_bytes apart_copies in
    same_keys (key_bytes js) held (rising js (rising_from_sorted js order apart_moved)) (λ q.
    any_tied q (key_bytes js) ∙ sym (list_any-IsPermutation (bytes_eq q) (key_bytes copies) (key_bytes js) moved_bytes) ∙ ap (list_any (bytes_eq q)) same ∙ alike q)
