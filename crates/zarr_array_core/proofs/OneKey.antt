-- A store that changed at one key alone.
use Rattle.std.proofs.Common.{◌≡◌, ◌∙◌, ℕ, List, Option, Some, None, Bool, true, false, cond, refl, sym, ap, bytes_eq}
use Rattle.std.specs.FinMap.{get, remove, get-insert, get-remove, same_map}
use Rattle.std.proofs.lemmas.Cmp.{nat_list_cmp_total}
use Rattle.std.proofs.lemmas.Map.Lookups.{exact_bytes}
use Rattle.std.proofs.lemmas.Map.Text.{is_eq-slice_cmp}
use Rattle.std.proofs.lemmas.Slice.Eq.{bytes_eq-Decides}
use Rattle.zarr_array_meaning.specs.StoreMaps.{StoreMap}
use Rattle.zarr_array_storage.specs.PartialEncoders.{SameElsewhere}
use Rattle.zarr_array_core.specs.ChunkValues.{with_value}

removed_at : (m : StoreMap) (key q : List ℕ) → get (remove m key) q ≡ cond (bytes_eq q key) None (get m q)
removed_at m key q = get-remove nat_list_cmp_total m key q ∙ ap (λ (b : Bool). cond b None (get m q)) (is_eq-slice_cmp q key)

valued_at : (m : StoreMap) (key q : List ℕ) (made : Option (List ℕ)) → get (with_value m key made) q ≡ cond (bytes_eq q key) made (get m q)
valued_at m key q None = removed_at m key q
valued_at m key q (Some value) = get-insert nat_list_cmp_total m key value q ∙ ap (λ (b : Bool). cond b (Some value) (get m q)) (is_eq-slice_cmp q key)

-- at another key it is what it was
elsewhere : (before after : StoreMap) (key q : List ℕ) → SameElsewhere key before after → bytes_eq q key ≡ false → get after q ≡ get before q
elsewhere before after key q same e =
    let both : cond (bytes_eq q key) None (get before q) ≡ cond (bytes_eq q key) None (get after q) = sym (removed_at before key q) ∙ (ap (λ (m : StoreMap). get m q) same ∙ removed_at after key q) in
    sym (sym (ap (λ (b : Bool). cond b None (get before q)) e) ∙ (both ∙ ap (λ (b : Bool). cond b None (get after q)) e))

-- with its new value at the key it is what it was
pub changed_there : (before after : StoreMap) (key : List ℕ) (made : Option (List ℕ)) → SameElsewhere key before after → get after key ≡ made → after ≡ with_value before key made
changed_there before after key made same is = same_map nat_list_cmp_total exact_bytes after (with_value before key made) (λ q. go q (bytes_eq q key) refl) where
  go : (q : List ℕ) (b : Bool) → bytes_eq q key ≡ b → get after q ≡ get (with_value before key made) q
  go q true e = ap (get after) ((bytes_eq-Decides q key).0 e) ∙ (is ∙ sym (valued_at before key q made ∙ ap (λ (b : Bool). cond b made (get before q)) e))
  go q false e = elsewhere before after key q same e ∙ sym (valued_at before key q made ∙ ap (λ (b : Bool). cond b made (get before q)) e)

-- where the value at the key is as it was, all is
pub unchanged_there : (before after : StoreMap) (key : List ℕ) → SameElsewhere key before after → get after key ≡ get before key → after ≡ before
unchanged_there before after key same is = same_map nat_list_cmp_total exact_bytes after before (λ q. go q (bytes_eq q key) refl) where
  go : (q : List ℕ) (b : Bool) → bytes_eq q key ≡ b → get after q ≡ get before q
  go q true e = let one = (bytes_eq-Decides q key).0 e in ap (get after) one ∙ (is ∙ sym (ap (get before) one))
  go q false e = elsewhere before after key q same e
