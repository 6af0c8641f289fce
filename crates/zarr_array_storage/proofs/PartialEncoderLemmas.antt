-- What a store's writing calls are to a codec.
use Rattle.std.proofs.Common.{◌≡◌, ◌∙◌, ℕ, List, length, inr, Option, Some, None, Err, Bool, true, false, cond, IsTrue, refl, sym, ap}
use Rattle.std.specs.Option.{option_map_or}
use Rattle.std.specs.Ordering.{nat_cmp, eq_by_cmp}
use Rattle.std.specs.Cmp.{eq_by_cmp_equiv}
use Rattle.std.specs.Cmp.Lexicographic.{slice_cmp}
use Rattle.std.specs.FinMap.{get, insert, remove, get-insert, get-remove, same_map}
use Rattle.std.proofs.lemmas.Cmp.{nat_list_cmp_total}
use Rattle.std.proofs.lemmas.Map.Lookups.{exact_bytes}
use Rattle.zarr_array_meaning.specs.StoreMaps.{StoreMap, counted}
use Rattle.zarr_codecs_traits.specs.Sources as source
use Rattle.zarr_codecs_traits.specs.Writes.{IsGivenByPatching, PatchesRefused, WriteRefused}
use Rattle.zarr_codecs_traits.specs.Patches.{Patch, any_too_far}
use Rattle.zarr_array_storage.specs.PartialEncoders.{SameElsewhere, target_error}
use Rattle.zarr_array_storage.specs.Refusals.{IfByteRange, refused_after}
use Rattle.zarr_array_storage.specs.declared.error.StorageError.{StorageError}
use Rattle.zarr_array_storage.specs.declared.error.StorageError.TheVariants.{Io, InvalidMetadata, InvalidKey, InvalidByteRange, Other, Memory}

-- ---- refusals

-- the refusals that count are those of the source
pub target_counts : (A B : Type 0) (e : StorageError) (count : ℕ) → refused_after {A = A} count (Err e) ≡ source.refused_after {A = B} count (Err (target_error e))
target_counts A B Io count = refl
target_counts A B (InvalidMetadata key text) count = refl
target_counts A B InvalidKey count = refl
target_counts A B InvalidByteRange count = refl
target_counts A B (Other text) count = refl
target_counts A B Memory count = refl

-- a value isn't written where no byte range is refused
pub target_refused : (A : Type 0) (e : StorageError) → IfByteRange e ⊥ → WriteRefused {A = A} (Err (target_error e))
target_refused A Io none = tt
target_refused A (InvalidMetadata key text) none = tt
target_refused A InvalidKey none = tt
target_refused A InvalidByteRange none = absurd none
target_refused A (Other text) none = tt
target_refused A Memory none = tt

-- ranges aren't written where one ends too far, or the value is not written
pub patches_refused : (A : Type 0) (patches : List Patch) (e : StorageError) → IfByteRange e (IsTrue (any_too_far patches)) → PatchesRefused {A = A} patches (Err (target_error e))
patches_refused A patches Io far = tt
patches_refused A patches (InvalidMetadata key text) far = tt
patches_refused A patches InvalidKey far = tt
patches_refused A patches InvalidByteRange far = far
patches_refused A patches (Other text) far = tt
patches_refused A patches Memory far = tt

-- ---- bytes given

-- a value that was fetched to be set anew was given once
pub given_by_get : (contents found : Option (List ℕ)) (count after last : ℕ) → found ≡ contents → after ≡ counted count (option_map_or length found 0) → last ≡ after → IsGivenByPatching contents count last
given_by_get contents found count after last same given still = inr (still ∙ (given ∙ ap (λ o. counted count (option_map_or length o 0)) same))

-- ---- one key

same_key : (key : List ℕ) → eq_by_cmp (slice_cmp nat_cmp) key key ≡ true
same_key key = (eq_by_cmp_equiv nat_list_cmp_total).refl key

-- the value that was put at a key is there
pub get_inserted : (held : StoreMap) (key value : List ℕ) → get (insert held key value) key ≡ Some value
get_inserted held key value = get-insert nat_list_cmp_total held key value key ∙ ap (λ b. cond b (Some value) (get held key)) (same_key key)

-- the key whose value was taken away has none
pub get_removed : (held : StoreMap) (key : List ℕ) → get (remove held key) key ≡ None
get_removed held key = get-remove nat_list_cmp_total held key key ∙ ap (λ b. cond b None (get held key)) (same_key key)

either : (b : Bool) (o p : Option (List ℕ)) → cond b None o ≡ cond b None (cond b p o)
either true o p = refl
either false o p = refl

-- a value that was put at a key changed no other
pub inserted_elsewhere : (held : StoreMap) (key value : List ℕ) → SameElsewhere key held (insert held key value)
inserted_elsewhere held key value = same_map nat_list_cmp_total exact_bytes _ _ (λ q.
    get-remove nat_list_cmp_total held key q ∙ either (eq_by_cmp (slice_cmp nat_cmp) q key) (get held q) (Some value)
    ∙ sym (get-remove nat_list_cmp_total (insert held key value) key q ∙ ap (cond (eq_by_cmp (slice_cmp nat_cmp) q key) None) (get-insert nat_list_cmp_total held key value q)))

-- a value that was taken away changed no other
pub removed_elsewhere : (held : StoreMap) (key : List ℕ) → SameElsewhere key held (remove held key)
removed_elsewhere held key = same_map nat_list_cmp_total exact_bytes _ _ (λ q.
    get-remove nat_list_cmp_total held key q ∙ either (eq_by_cmp (slice_cmp nat_cmp) q key) (get held q) None
    ∙ sym (get-remove nat_list_cmp_total (remove held key) key q ∙ ap (cond (eq_by_cmp (slice_cmp nat_cmp) q key) None) (get-remove nat_list_cmp_total held key q)))
