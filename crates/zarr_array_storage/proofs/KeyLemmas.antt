-- No key that a store in memory holds ends with a slash.
use Rattle.std.proofs.Common.{◌≡◌, ◌∙◌, ap, sym, refl, ℕ, List, [], ◌∷◌, Option, Some, None, is_some, Bool, true, false, ◌||◌, cond, arith}
use Rattle.std.proofs.lemmas.Grind.{common_steps}
use Rattle.std.specs.Ordering.{nat_cmp, eq_by_cmp}
use Rattle.std.specs.Cmp.{eq_by_cmp_equiv}
use Rattle.std.specs.Cmp.Lexicographic.{slice_cmp}
use Rattle.std.specs.List.{list_any}
use Rattle.std.specs.Str.{bytes_eq}
use Rattle.std.specs.FinMap as fin
use Rattle.std.specs.FinMap.{get-empty, get-insert, get-remove, contains_key-keys}
use Rattle.std.proofs.lemmas.Cmp.{nat_list_cmp_total}
use Rattle.std.proofs.lemmas.Slice.Eq.{bytes_eq-Decides}
use Rattle.std.proofs.lemmas.Map.Text.{is_eq-slice_cmp}
use Rattle.zarr_array_meaning.specs.StoreMaps.{StoreMap}
use Rattle.zarr_grids_keys.specs.Paths.{ends_with_slash}
use Rattle.zarr_array_storage.specs.MemoryStores.{HasStoreKeys}

bytes_eq-slice_cmp : (s q : List ℕ) → bytes_eq s q ≡ eq_by_cmp (slice_cmp nat_cmp) q s
bytes_eq-slice_cmp s q = sym (is_eq-slice_cmp s q) ∙ (eq_by_cmp_equiv nat_list_cmp_total).symm s q

-- no key is held
pub empty_keys : HasStoreKeys fin.empty
empty_keys key found = let e : false ≡ true = sym (ap is_some (get-empty (slice_cmp nat_cmp) key)) ∙ found in grind (arith, common_steps)

insert_at : (k q v : List ℕ) (o : Option (List ℕ)) (b : Bool) → bytes_eq k q ≡ b → ends_with_slash k ≡ false → (is_some o ≡ true → ends_with_slash q ≡ false) → is_some (cond b (Some v) o) ≡ true → ends_with_slash q ≡ false
insert_at k q v o true e valid others found = sym (ap ends_with_slash ((bytes_eq-Decides k q).0 e)) ∙ valid
insert_at k q v o false e valid others found = others found

-- a store key is put
pub inserted_keys : (m : StoreMap) (k v : List ℕ) → ends_with_slash k ≡ false → HasStoreKeys m → HasStoreKeys (fin.insert m k v)
inserted_keys m k v valid others key found =
    insert_at k key v (fin.get m key) (bytes_eq k key) refl valid (others key)
    (ap (λ b. is_some (cond b (Some v) (fin.get m key))) (bytes_eq-slice_cmp k key) ∙ sym (ap is_some (get-insert nat_list_cmp_total m k v key)) ∙ found)

remove_at : (o : Option (List ℕ)) (b : Bool) → is_some (cond b None o) ≡ true → is_some o ≡ true
remove_at o true found = grind (arith, common_steps)
remove_at o false found = found

-- a key is taken away
pub removed_keys : (m : StoreMap) (k : List ℕ) → HasStoreKeys m → HasStoreKeys (fin.remove m k)
removed_keys m k others key found =
    others key (remove_at (fin.get m key) (eq_by_cmp (slice_cmp nat_cmp) key k) (sym (ap is_some (get-remove nat_list_cmp_total m k key)) ∙ found))

any_of : (ks : List (List ℕ)) → ((q : List ℕ) → list_any (eq_by_cmp (slice_cmp nat_cmp) q) ks ≡ true → ends_with_slash q ≡ false) → list_any ends_with_slash ks ≡ false
any_of [] each = refl
any_of (k ∷ ks) each =
    let head = each k (ap (λ b. b || list_any (eq_by_cmp (slice_cmp nat_cmp) k) ks) ((eq_by_cmp_equiv nat_list_cmp_total).refl k)) in
    let tail = any_of ks (λ q e. each q (grind (arith, common_steps))) in
    grind (arith, common_steps)

-- none of the keys that are held ends with a slash
pub held_keys : (m : StoreMap) → HasStoreKeys m → list_any ends_with_slash (fin.keys m) ≡ false
held_keys m each = any_of (fin.keys m) (λ q e. each q (contains_key-keys m q ∙ e))
