-- An erasure of chunks, one by one.
use Rattle.std.proofs.Common.{◌≡◌, ◌∙◌, ℕ, ◌+◌, ◌<◌, arith, true, false, cond, List, [], ◌∷◌, ◌++◌, length, refl, ap, ⊎_elim, Option, None, Bool, bytes_eq}
use Rattle.std.specs.FinMap.{get, remove, get-remove}
use Rattle.std.proofs.lemmas.Bool.{false≢true}
use Rattle.std.proofs.lemmas.Cmp.{nat_list_cmp_total}
use Rattle.std.proofs.lemmas.Map.Text.{is_eq-slice_cmp}
use Rattle.std.proofs.lemmas.Slice.Eq.{bytes_eq-Decides}
use Rattle.zarr_grids_boxes.specs.Boxes.{Region, product, places, place_at}
use Rattle.zarr_grids_chunks.proofs.Filters.{told}
use Rattle.zarr_grids_keys.specs.Keys.{chunk_key}
use Rattle.zarr_array_meaning.specs.Arrays.{Array}
use Rattle.zarr_array_meaning.specs.Documents.{Document}
use Rattle.zarr_array_meaning.specs.StoreMaps.{StoreMap}
use Rattle.zarr_array_meaning.specs.Writing.{ErasedChunks}
use Rattle.zarr_array_core.specs.Outcomes.{EraseStops, IsErasureStop}
use Rattle.zarr_array_core.specs.declared.error.ChunkError.{ChunkError}
use Rattle.zarr_array_core.proofs.Listed.{listed_more, before_listed, last_listed}
use Rattle.zarr_array_core.proofs.NthChunks.{first_chunks, first_chunks-more, first_chunks-places, first_chunks-taken}

-- ---- one key taken out
get-removed : (m : StoreMap) (k q : List ℕ) → get (remove m k) q ≡ cond (bytes_eq q k) None (get m q)
get-removed m k q = get-remove nat_list_cmp_total m k q ∙ ap (λ b. cond b None (get m q)) (is_eq-slice_cmp q k)

pub removed_other : (m : StoreMap) (k q : List ℕ) → (q ≡ k → ⊥) → get (remove m k) q ≡ get m q
removed_other m k q ne = ⊎_elim
    (λ t. absurd (ne ((bytes_eq-Decides q k).0 t)))
    (λ t. get-removed m k q ∙ ap (λ b. cond b None (get m q)) t)
    (told (bytes_eq q k))

pub removed_same : (m : StoreMap) (k q : List ℕ) → q ≡ k → get (remove m k) q ≡ None
removed_same m k q e = get-removed m k q ∙ ap (λ b. cond b None (get m q)) ((bytes_eq-Decides q k).1 e)

-- what has no value has none afterwards
removed_none : (m : StoreMap) (k q : List ℕ) → get m q ≡ None → get (remove m k) q ≡ None
removed_none m k q none = get-removed m k q ∙ ap (λ o. cond (bytes_eq q k) None o) none ∙ either (bytes_eq q k) where
  either : (b : Bool) → (let none : Option (List ℕ) = None in cond b none none) ≡ (let none : Option (List ℕ) = None in none)
  either true = refl
  either false = refl

-- ---- chunks
pub erased_none : (path : List ℕ) (document : Document) (store : StoreMap) → ErasedChunks path document [] store store
erased_none path document store = record {
  gone = λ d l. absurd (false≢true l);
  others = λ key ne. refl;
}

erased_more : (path : List ℕ) (document : Document) (cs : List (List ℕ)) (c : List ℕ) (old mid : StoreMap)
    → ErasedChunks path document cs old mid → ErasedChunks path document (cs ++ c ∷ []) old (remove mid (chunk_key path document.keys c))
erased_more path document cs c old mid first = record {
  gone = λ d l. ⊎_elim
      (λ e. removed_same mid _ _ (ap (chunk_key path document.keys) e))
      (λ (ne, k). removed_none mid _ _ (first.gone d k))
      (listed_more cs c d l);
  others = λ key ne. removed_other mid _ key (ne c (last_listed cs c c refl)) ∙ first.others key (λ d l. ne d (before_listed cs c d l));
}

-- the next chunk of a box of chunk indices
pub erased_next : (path : List ℕ) (document : Document) (chunks : Region) (n : ℕ) (chunk : List ℕ) (old mid new : StoreMap) → chunk ≡ place_at chunks.start chunks.shape n
    → new ≡ remove mid (chunk_key path document.keys chunk)
    → ErasedChunks path document (first_chunks chunks n) old mid → ErasedChunks path document (first_chunks chunks (n + 1)) old new
erased_next path document chunks n chunk old mid new e is first =
    let k = is ∙ ap (λ d. remove mid (chunk_key path document.keys d)) e in
    rw (first_chunks-more chunks n, k) (erased_more path document (first_chunks chunks n) (place_at chunks.start chunks.shape n) old mid first)

-- all chunks of the box
pub erased_all : (path : List ℕ) (document : Document) (chunks : Region) (n count : ℕ) (old new : StoreMap) → length chunks.start ≡ length chunks.shape → count ≡ product chunks.shape → n ≡ count
    → ErasedChunks path document (first_chunks chunks n) old new → ErasedChunks path document (places chunks.start chunks.shape) old new
erased_all path document chunks n count old new l is end erased = rw (← first_chunks-places chunks n l (end ∙ is)) erased

-- the first chunks of the box, where the next one stops
pub erased_stops : (array : Array) (chunks : Region) (n : ℕ) (error : ChunkError) (old mid new : StoreMap) → length chunks.start ≡ length chunks.shape → n < product chunks.shape → IsErasureStop error → new ≡ mid
    → ErasedChunks array.path array.document (first_chunks chunks n) old mid → EraseStops array chunks old new (record { applied = n; error = error })
erased_stops array chunks n error old mid new l below stops same erased = record {
  fewer = below;
  stops = stops;
  erased = rw (same, ← first_chunks-taken chunks n l (omega arith)) erased;
}
