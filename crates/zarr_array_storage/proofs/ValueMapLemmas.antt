-- A hash map with text keys, as a finite map.
use Rattle.std.proofs.Common.{◌≡◌, ℕ, List, [], ◌∷◌, ◌++◌, Option, Some, None, Bool, true, false, cond, ◌||◌, is_some, refl, sym, ap, ◌∙◌, append-nil, Vec, option_map}
use Rattle.std.specs.Prelude.{String}
use Rattle.std.specs.String.{string_bytes, string_cmp, string_eq}
use Rattle.std.specs.declared.alloc.Global.{Global}
use Rattle.std.specs.Ordering.{nat_cmp, eq_by_cmp}
use Rattle.std.specs.Cmp.Lexicographic.{slice_cmp}
use Rattle.std.specs.Cmp.{eq_by_cmp_equiv}
use Rattle.std.specs.Map.{update, lookup, keys_of}
use Rattle.std.specs.List.{list_any}
use Rattle.std.specs.List.Sorted.{IsPermutation, IsSorted}
use Rattle.std.specs.Str.{bytes_eq}
use Rattle.std.proofs.lemmas.Slice.Eq.{bytes_eq-Decides}
use Rattle.std.specs.HashMap as hash
use Rattle.std.specs.FinMap as fin
use Rattle.std.specs.FinMap.{find, get-from_entries, get-insert, get-remove, same_map}
use Rattle.std.proofs.lemmas.Cmp.{nat_list_cmp_total}
use Rattle.std.proofs.lemmas.Map.Lookups.{exact_bytes}
use Rattle.std.proofs.lemmas.Map.Text.{is_eq-slice_cmp}
use Rattle.zarr_array_meaning.specs.StoreMaps.{StoreMap}
use Rattle.zarr_array_storage.specs.ValueMaps.{key_bytes, plain_entries}
use Rattle.zarr_array_storage.proofs.SortedKeyLemmas.{keys_in_order}

-- the bytes of a value that is there
abbrev pub value_bytes : Option (Vec ℕ Global) → Option (List ℕ)
value_bytes found = option_map (λ (value : Vec ℕ Global). value.items) found

-- the finite map of a hash map
abbrev pub map_of : {S : Type 0} → hash.HashMap (String Global) (Vec ℕ Global) S → StoreMap
map_of m = fin.from_entries (plain_entries m.entries)

find-plain_entries : (es : List (String Global × Vec ℕ Global)) (q : List ℕ) → find (slice_cmp nat_cmp) q (plain_entries es) ≡ value_bytes (lookup (λ k. bytes_eq q (string_bytes k)) es)
find-plain_entries [] q = refl
find-plain_entries (e ∷ es) q =
    ap (λ b. cond b (Some e.1.items) (find (slice_cmp nat_cmp) q (plain_entries es))) (is_eq-slice_cmp q (string_bytes e.0))
    ∙ elim (bytes_eq q (string_bytes e.0)) as (λ b. cond b (Some e.1.items) (find (slice_cmp nat_cmp) q (plain_entries es)) ≡ value_bytes (cond b (Some e.1) (lookup (λ k. bytes_eq q (string_bytes k)) es))) [ true ↦ refl | false ↦ find-plain_entries es q ]

-- what the hash map has at a key
pub get-map_of : {S : Type 0} (m : hash.HashMap (String Global) (Vec ℕ Global) S) (q : List ℕ) → fin.get (map_of m) q ≡ value_bytes (hash.get_by_text m q)
get-map_of m q = get-from_entries nat_list_cmp_total _ q ∙ find-plain_entries m.entries q

value_bytes-cond : (b : Bool) (v : Vec ℕ Global) (o : Option (Vec ℕ Global)) → value_bytes (cond b (Some v) o) ≡ cond b (Some v.items) (value_bytes o)
value_bytes-cond true v o = refl
value_bytes-cond false v o = refl

value_bytes-cond_none : (b : Bool) (o : Option (Vec ℕ Global)) → value_bytes (cond b None o) ≡ cond b None (value_bytes o)
value_bytes-cond_none true o = refl
value_bytes-cond_none false o = refl

bytes_eq-slice_cmp : (s q : List ℕ) → bytes_eq s q ≡ eq_by_cmp (slice_cmp nat_cmp) q s
bytes_eq-slice_cmp s q = sym (is_eq-slice_cmp s q) ∙ (eq_by_cmp_equiv nat_list_cmp_total).symm s q

-- the hash map has a new value at one key
pub map_of-set : {S : Type 0} (m n : hash.HashMap (String Global) (Vec ℕ Global) S) (s : List ℕ) (v : Vec ℕ Global) → ((q : List ℕ) → hash.get_by_text n q ≡ update bytes_eq (hash.get_by_text m) s (Some v) q) → map_of n ≡ fin.insert (map_of m) s v.items
map_of-set m n s v h = same_map nat_list_cmp_total exact_bytes _ _ (λ q.
    get-map_of n q ∙ ap value_bytes (h q) ∙ value_bytes-cond (bytes_eq s q) v _ ∙ ap (λ b. cond b (Some v.items) (value_bytes (hash.get_by_text m q))) (bytes_eq-slice_cmp s q)
    ∙ sym (get-insert nat_list_cmp_total _ s v.items q ∙ ap (cond (eq_by_cmp (slice_cmp nat_cmp) q s) (Some v.items)) (get-map_of m q)))

-- the hash map has no value at one key any more
pub map_of-erased : {S : Type 0} (m n : hash.HashMap (String Global) (Vec ℕ Global) S) (s : List ℕ) → ((q : List ℕ) → hash.get_by_text n q ≡ update bytes_eq (hash.get_by_text m) s None q) → map_of n ≡ fin.remove (map_of m) s
map_of-erased m n s h = same_map nat_list_cmp_total exact_bytes _ _ (λ q.
    get-map_of n q ∙ ap value_bytes (h q) ∙ value_bytes-cond_none (bytes_eq s q) _ ∙ ap (λ b. cond b None (value_bytes (hash.get_by_text m q))) (bytes_eq-slice_cmp s q)
    ∙ sym (get-remove nat_list_cmp_total _ s q ∙ ap (cond (eq_by_cmp (slice_cmp nat_cmp) q s) None) (get-map_of m q)))

has-plain_entries : (es : List (String Global × Vec ℕ Global)) (q : List ℕ) → list_any (bytes_eq q) (key_bytes (keys_of es)) ≡ is_some (lookup (λ k. bytes_eq q (string_bytes k)) es)
has-plain_entries [] q = refl
has-plain_entries (e ∷ es) q = elim (bytes_eq q (string_bytes e.0)) as (λ b. (b || list_any (bytes_eq q) (key_bytes (keys_of es))) ≡ is_some (cond b (Some e.1) (lookup (λ k. bytes_eq q (string_bytes k)) es))) [ true ↦ refl | false ↦ has-plain_entries es q ]

some-value_bytes : (o : Option (Vec ℕ Global)) → is_some o ≡ is_some (value_bytes o)
some-value_bytes None = refl
some-value_bytes (Some v) = refl

-- copies of the hash map's keys, in order, are the keys of the map
pub keys-map_of : {S : Type 0} (m : hash.HashMap (String Global) (Vec ℕ Global) S) (copies js : List (String Global)) → hash.IsUnique string_eq m → key_bytes copies ≡ key_bytes (hash.keys m) → IsPermutation copies js → IsSorted string_cmp js → key_bytes js ≡ fin.keys (map_of m)
keys-map_of m copies js apart same moved order = keys_in_order (hash.keys m) copies js (map_of m) apart same moved order (λ q.
    has-plain_entries m.entries q ∙ some-value_bytes _ ∙ sym (ap is_some (get-map_of m q)))

key_bytes-push : (keys : List (String Global)) (c x : String Global) (rest : List (String Global)) → string_bytes c ≡ string_bytes x → key_bytes (keys ++ c ∷ []) ++ key_bytes rest ≡ key_bytes keys ++ key_bytes (x ∷ rest)
key_bytes-push [] c x rest e = ap (λ k. k ∷ key_bytes rest) e
key_bytes-push (k ∷ keys) c x rest e = ap (λ ks. string_bytes k ∷ ks) (key_bytes-push keys c x rest e)

-- the next key goes to the end of the keys so far
pub key_bytes-more : (keys : List (String Global)) (c x : String Global) (left rest : List (String Global)) (all : List (List ℕ)) → left ≡ x ∷ rest → string_bytes c ≡ string_bytes x → key_bytes keys ++ key_bytes left ≡ all → key_bytes (keys ++ c ∷ []) ++ key_bytes rest ≡ all
key_bytes-more keys c x left rest all e same so_far = key_bytes-push keys c x rest same ∙ sym (ap (λ ks. key_bytes keys ++ key_bytes ks) e) ∙ so_far

-- no key is left
pub key_bytes-all : (keys left : List (String Global)) (all : List (List ℕ)) → left ≡ [] → key_bytes keys ++ key_bytes left ≡ all → key_bytes keys ≡ all
key_bytes-all keys left all e so_far = sym (append-nil (key_bytes keys)) ∙ sym (ap (λ ks. key_bytes keys ++ key_bytes ks) e) ∙ so_far

same_value : (m : StoreMap) (s v q : List ℕ) (b : Bool) → bytes_eq s q ≡ b → fin.get m s ≡ Some v → cond b (Some v) (fin.get m q) ≡ fin.get m q
same_value m s v q true e found = sym found ∙ ap (fin.get m) ((bytes_eq-Decides s q).0 e)
same_value m s v q false e found = refl

-- a value that is there is put again
pub insert-same : (m : StoreMap) (s v : List ℕ) → fin.get m s ≡ Some v → fin.insert m s v ≡ m
insert-same m s v found = same_map nat_list_cmp_total exact_bytes _ _ (λ q.
    get-insert nat_list_cmp_total m s v q ∙ sym (ap (λ b. cond b (Some v) (fin.get m q)) (bytes_eq-slice_cmp s q)) ∙ same_value m s v q (bytes_eq s q) refl found)

-- what the map has at a key where the hash map has a value
pub found-map_of : {S : Type 0} (m : hash.HashMap (String Global) (Vec ℕ Global) S) (q : List ℕ) (v : Vec ℕ Global) → Some v ≡ hash.get_by_text m q → fin.get (map_of m) q ≡ Some v.items
found-map_of m q v found = get-map_of m q ∙ sym (ap value_bytes found)

-- and at a key where it has none
pub missing-map_of : {S : Type 0} (m : hash.HashMap (String Global) (Vec ℕ Global) S) (q : List ℕ) → None ≡ hash.get_by_text m q → fin.get (map_of m) q ≡ None
missing-map_of m q missing = get-map_of m q ∙ sym (ap value_bytes missing)
