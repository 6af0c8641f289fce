-- Which keys a command on one array changes, and which it leaves.
use Rattle.std.proofs.Common.{◌≡◌, ◌≢◌, ◌∙◌, ◌⊎◌, inl, inr, ⊎_elim, ℕ, zero, suc, ◌<◌, ◌^◌, cond, true, false, Bool, List, [], ◌∷◌, length, take, replicate, slice_get, refl, sym, ap, arith, Option, Some, None, IsTrue, is_some, bytes_eq, ◌||◌}
use Rattle.std.specs.List.{filter}
use Rattle.std.specs.Option.{option_map_or}
use Rattle.std.specs.FinMap.{get}
use Rattle.std.proofs.lemmas.Bool.{false≢true, both_ways, or_cases, or_left, or_right}
use Rattle.std.proofs.lemmas.List.{length-map, length-replicate}
use Rattle.std.proofs.lemmas.Slice.Eq.{bytes_eq-Decides}
use Rattle.zarr_grids_boxes.specs.Boxes.{Region, places, is_in_box, share_place, IsSmall}
use Rattle.zarr_grids_boxes.proofs.Lawful.{place_by_number}
use Rattle.zarr_grids_boxes.proofs.Places.{both}
use Rattle.zarr_grids_chunks.specs.Grids.{Grid, chunk_box, chunk_count, grid_shape, chunk_indices, intersects, intersecting, IsInGrid}
use Rattle.zarr_grids_chunks.proofs.Filters.{told, filter-any}
use Rattle.zarr_grids_dimensions.specs.Lookups.{are_dimensions}
use Rattle.zarr_grids_dimensions.proofs.Monotone.{number_least}
use Rattle.zarr_grids_dimensions.proofs.Union.{in-of, interval-positive}
use Rattle.zarr_grids_dimensions.proofs.UnionBox.{box-more}
use Rattle.zarr_grids_cover.specs.Boxed.{boxed_chunks}
use Rattle.zarr_grids_cover.proofs.ChunkBoxes.{chunk_box-chunk_rank}
use Rattle.zarr_grids_keys.specs.Documents.{document_key}
use Rattle.zarr_grids_keys.specs.Keys.{encoded_key, key_under, chunk_key}
use Rattle.zarr_grids_keys.specs.Paths.{is_node_path}
use Rattle.zarr_grids_keys.specs.Related.{is_related}
use Rattle.zarr_grids_keys.specs.declared.document_name.DocumentName.{DocumentName}
use Rattle.zarr_grids_keys.proofs.HeadLemmas.{chunk_key-no_own_document}
use Rattle.zarr_grids_keys.proofs.KeyLemmas.{chunk_key-injective}
use Rattle.zarr_grids_keys.proofs.RelatedLemmas.{key_under-unrelated}
use Rattle.zarr_array_meaning.specs.Chunks.{stored_at, is_listed, KeepsOtherKeys}
use Rattle.zarr_array_meaning.specs.Documents.{Document}
use Rattle.zarr_array_meaning.specs.StoreMaps.{StoreMap}
use Rattle.zarr_run_meaning.specs.Causes.{IsChunkKey}
use Rattle.zarr_run_meaning.proofs.Documents.{IsFormed}

-- ---- chunks that are listed

-- what is listed stands somewhere in the list
pub listed_number : (xs : List (List ℕ)) (c : List ℕ) → is_listed xs c ≡ true → (n : ℕ) × (slice_get xs n ≡ Some c)
listed_number [] c l = absurd (false≢true l)
listed_number (x ∷ xs) c l = go (bytes_eq c x) refl (listed_number xs c) l where
  go : (b : Bool) → bytes_eq c x ≡ b → (is_listed xs c ≡ true → (n : ℕ) × (slice_get xs n ≡ Some c)) → (b || is_listed xs c) ≡ true → (n : ℕ) × (slice_get (x ∷ xs) n ≡ Some c)
  go true e more m = (zero, ap Some (sym ((bytes_eq-Decides c x).0 e)))
  go false e more m = let found = more m in (suc found.0, found.1)

pub number_listed : (xs : List (List ℕ)) (n : ℕ) (c : List ℕ) → slice_get xs n ≡ Some c → is_listed xs c ≡ true
number_listed [] n c e = absurd (cc)
number_listed (x ∷ xs) zero c e = let same : x ≡ c = cc in or_left (bytes_eq c x) (is_listed xs c) ((bytes_eq-Decides c x).1 (sym same))
number_listed (x ∷ xs) (suc n) c e = or_right (bytes_eq c x) (is_listed xs c) (number_listed xs n c e)

pub listed_take : (n : ℕ) (xs : List (List ℕ)) (c : List ℕ) → is_listed (take n xs) c ≡ true → is_listed xs c ≡ true
listed_take zero xs c l = absurd (false≢true l)
listed_take (suc n) [] c l = absurd (false≢true l)
listed_take (suc n) (x ∷ xs) c l = ⊎_elim (λ e. or_left (bytes_eq c x) (is_listed xs c) e) (λ e. or_right (bytes_eq c x) (is_listed xs c) (listed_take n xs c e)) (or_cases (bytes_eq c x) (is_listed (take n xs) c) l)

pub listed_filter : (p : List ℕ → Bool) (xs : List (List ℕ)) (c : List ℕ) → is_listed (filter p xs) c ≡ true → is_listed xs c ≡ true
listed_filter p [] c l = absurd (false≢true l)
listed_filter p (x ∷ xs) c l = go (p x) (listed_filter p xs c) l where
  go : (b : Bool) → (is_listed (filter p xs) c ≡ true → is_listed xs c ≡ true) → is_listed (cond b (x ∷ filter p xs) (filter p xs)) c ≡ true → is_listed (x ∷ xs) c ≡ true
  go true more m = ⊎_elim (λ e. or_left (bytes_eq c x) (is_listed xs c) e) (λ e. or_right (bytes_eq c x) (is_listed xs c) (more e)) (or_cases (bytes_eq c x) (is_listed (filter p xs) c) m)
  go false more m = or_right (bytes_eq c x) (is_listed xs c) (more m)

pub listed_inside : (ss es c : List ℕ) → length ss ≡ length es → is_listed (places ss es) c ≡ true → is_in_box ss es c ≡ true
listed_inside ss es c l listed = let found = listed_number (places ss es) c listed in ((place_by_number ss es c found.0 (sym l)).0 found.1).0

-- the indices of a grid are below its shape
index_below : (grid : Grid) (c : List ℕ) → is_listed (chunk_indices grid) c ≡ true → is_in_box (replicate (length grid) 0) (grid_shape grid) c ≡ true
index_below grid c listed = listed_inside (replicate (length grid) 0) (grid_shape grid) c (length-replicate (length grid) 0 ∙ sym (length-map grid chunk_count)) listed

-- a chunk that a box intersects lies in the grid
pub listed_below : (grid : Grid) (region : Region) (c : List ℕ) → is_listed (intersecting grid region) c ≡ true → (box : Region) × IsInGrid grid c box
listed_below grid region c listed = go (chunk_box grid c) refl (filter-any (intersects grid region) c (chunk_indices grid) listed) where
  below : is_in_box (replicate (length grid) 0) (grid_shape grid) c ≡ true
  below = index_below grid c (listed_filter (intersects grid region) (chunk_indices grid) c listed)

  go : (o : Option Region) → chunk_box grid c ≡ o → option_map_or (λ (box : Region). share_place box.start box.shape region.start region.shape) o false ≡ true → (box : Region) × IsInGrid grid c box
  go None e h = absurd (false≢true h)
  go (Some box) e h = (box, record { below = below; has_box = e })

-- and so does one that has a box
pub boxed_below : (grid : Grid) (c : List ℕ) → is_listed (boxed_chunks grid) c ≡ true → (box : Region) × IsInGrid grid c box
boxed_below grid c listed = go (chunk_box grid c) refl (filter-any (λ chunk. is_some (chunk_box grid chunk)) c (chunk_indices grid) listed) where
  below : is_in_box (replicate (length grid) 0) (grid_shape grid) c ≡ true
  below = index_below grid c (listed_filter (λ chunk. is_some (chunk_box grid chunk)) (chunk_indices grid) c listed)

  go : (o : Option Region) → chunk_box grid c ≡ o → is_some o ≡ true → (box : Region) × IsInGrid grid c box
  go None e h = absurd (false≢true h)
  go (Some box) e h = (box, record { below = below; has_box = e })

-- ---- chunks have keys of their own

numbers_small : (grid : Grid) (chunk : List ℕ) (box : Region) → are_dimensions grid ≡ true → chunk_box grid chunk ≡ Some box → IsSmall chunk
numbers_small [] [] box t h = λ j g. absurd (omega arith)
numbers_small [] (k ∷ ks) box t h = absurd (cc)
numbers_small (d ∷ ds) [] box t h = absurd (cc)
numbers_small (d ∷ ds) (k ∷ ks) box t h =
    let u = both _ _ t in
    let m = box-more d ds k ks box h in
    let some = interval-positive d k m.along u.0 m.along_is in
    let fit = m.fit in
    let least = number_least d k m.along.first u.0 (in-of d k m.along.first m.along m.along_is (omega arith) (omega arith)) in
    small (omega arith) (numbers_small ds ks m.rest u.1 m.rest_is) where
      small : k < 2 ^ 64 → IsSmall ks → IsSmall (k ∷ ks)
      small a b zero g = a
      small a b (suc j) g = b j (omega arith)

-- two chunks in the grid with one key are one
key_once : (path : List ℕ) (document : Document) (c d : List ℕ) (box other : Region) → IsFormed document → IsInGrid document.grid c box → IsInGrid document.grid d other → chunk_key path document.keys c ≡ chunk_key path document.keys d → c ≡ d
key_once path document c d box other formed below over e =
    chunk_key-injective path document.keys c d formed.keys (chunk_box-chunk_rank document.grid c box below.has_box ∙ sym (chunk_box-chunk_rank document.grid d other over.has_box))
    (numbers_small document.grid c box formed.grid below.has_box) (numbers_small document.grid d other formed.grid over.has_box) e

-- each of some chunks lies in the grid
pub record AreBelow (grid : Grid) (chunks : List (List ℕ)) : Type 0 where
  pub below : (chunk : List ℕ) → is_listed chunks chunk ≡ true → (box : Region) × IsInGrid grid chunk box

-- ---- what a change of some chunks leaves

-- the key of another chunk of the array
pub chunk_kept : (path : List ℕ) (document : Document) (chunks : List (List ℕ)) (old new : StoreMap) (chunk : List ℕ) (box : Region) → IsFormed document → AreBelow document.grid chunks → KeepsOtherKeys path document chunks old new
    → IsInGrid document.grid chunk box → is_listed chunks chunk ≡ false → stored_at path document new chunk ≡ stored_at path document old chunk
chunk_kept path document chunks old new chunk box formed are others below not =
    others (chunk_key path document.keys chunk) (λ c l e.
    let b = are.below c l in
    false≢true (sym not ∙ ap (is_listed chunks) (key_once path document chunk c box b.0 formed below b.1 e) ∙ l))

-- the array's own documents
pub documents_kept : (path : List ℕ) (document : Document) (chunks : List (List ℕ)) (old new : StoreMap) → KeepsOtherKeys path document chunks old new → (name : DocumentName) → get new (document_key path name) ≡ get old (document_key path name)
documents_kept path document chunks old new others name = others (document_key path name) (λ c l e. chunk_key-no_own_document path document.keys c name (sym e))

-- what is stored under a path stays
pub record KeepsUnder (path : List ℕ) (old new : StoreMap) : Type 0 where
  pub under : (name : List ℕ) → get new (key_under path name) ≡ get old (key_under path name)

-- what is stored under an unrelated path
pub others_kept : (path : List ℕ) (document : Document) (chunks : List (List ℕ)) (old new : StoreMap) (other : List ℕ) → KeepsOtherKeys path document chunks old new → IsTrue (is_node_path path) → IsTrue (is_node_path other) → is_related path other ≡ false
    → KeepsUnder other old new
others_kept path document chunks old new other others node there apart = record {
  under = λ name. others (key_under other name) (λ c l e. key_under-unrelated path other (encoded_key document.keys c) name node there apart (sym e));
}

-- whether a key is that of one of some chunks
pub key_listed : (path : List ℕ) (document : Document) (cs : List (List ℕ)) (key : List ℕ) → ((chunk : List ℕ) × (is_listed cs chunk ≡ true) × (key ≡ chunk_key path document.keys chunk)) ⊎ ((chunk : List ℕ) → is_listed cs chunk ≡ true → key ≢ chunk_key path document.keys chunk)
key_listed path document [] key = inr (λ chunk l. absurd (false≢true l))
key_listed path document (c ∷ cs) key = ⊎_elim
    (λ t. inl (c, or_left (bytes_eq c c) (is_listed cs c) ((bytes_eq-Decides c c).1 refl), (bytes_eq-Decides key (chunk_key path document.keys c)).0 t))
    (λ f. ⊎_elim
    (λ s. inl (s.0, or_right (bytes_eq s.0 c) (is_listed cs s.0) s.1, s.2))
    (λ h. inr (λ chunk l e. ⊎_elim
    (λ t. both_ways (bytes_eq key (chunk_key path document.keys c)) f ((bytes_eq-Decides key (chunk_key path document.keys c)).1 (e ∙ ap (chunk_key path document.keys) ((bytes_eq-Decides chunk c).0 t))))
    (λ t. h chunk t e)
    (or_cases (bytes_eq chunk c) (is_listed cs chunk) l)))
    (key_listed path document cs key))
    (told (bytes_eq key (chunk_key path document.keys c)))

-- a key that isn't that of one of some chunks in the grid keeps its value
pub kept_or_listed : (path : List ℕ) (document : Document) (chunks : List (List ℕ)) (old new : StoreMap) (key : List ℕ) → AreBelow document.grid chunks → KeepsOtherKeys path document chunks old new
    → IsChunkKey path document key ⊎ (get new key ≡ get old key)
kept_or_listed path document chunks old new key are others = ⊎_elim
    (λ c. let b = are.below c.0 c.1 in inl (record { chunk = c.0; box = b.0; within = b.1; is = c.2 }))
    (λ ne. inr (others key ne))
    (key_listed path document chunks key)
