-- Which chunks that have a key are too large.
use Rattle.std.proofs.Common.{◌≡◌, ◌∙◌, ℕ, ◌+◌, ◌<◌, ◌≤◌, true, List, length, replicate, refl, sym, ap, subst, arith, Option, Some, None, is_some, option_map, ⊎_elim}
use Rattle.std.proofs.lemmas.Bool.{cases_eq}
use Rattle.std.proofs.lemmas.List.{length-map, length-replicate}
use Rattle.zarr_grids_boxes.specs.Boxes.{Region, product, place_at, is_in_box}
use Rattle.zarr_grids_boxes.proofs.InBox.{in_box-place_at}
use Rattle.zarr_grids_boxes.proofs.Places.{places_by_number}
use Rattle.zarr_grids_chunks.specs.Grids.{Grid, IsInGrid, chunk_box, chunk_count, chunk_indices, grid_shape}
use Rattle.zarr_grids_chunks.proofs.Filters.{any-filter}
use Rattle.zarr_grids_chunks.proofs.Partition.{any_places}
use Rattle.zarr_grids_cover.specs.Boxed.{AreBoxed}
use Rattle.zarr_grids_cover.specs.Sizes.{HasChunkOf}
use Rattle.zarr_codecs_meaning.specs.Types.{DataType, IsTooLarge}
use Rattle.zarr_codecs_meaning.proofs.Lists.{some_same}
use Rattle.zarr_array_meaning.specs.Arrays.{Array, value_at}
use Rattle.zarr_array_meaning.specs.Chunks.{is_listed}
use Rattle.zarr_array_meaning.specs.Rewriting.{IsLargeKeyed}
use Rattle.zarr_array_meaning.specs.StoreMaps.{StoreMap}
use Rattle.zarr_array_core.specs.Rewriting.{IsLargeKeyedAt}
use Rattle.zarr_array_core.proofs.Listed.{listed_number}

-- so many cells of a type are too many exactly where they reach the limit
abbrev pub Tells : DataType → ℕ → Type 0
Tells type limit = (count : ℕ) → (limit ≤ count → IsTooLarge type count) × (IsTooLarge type count → limit ≤ count)

-- a chunk in the grid is one of those that have a box
boxed_number : (grid : Grid) (chunks : Region) (chunk : List ℕ) (box : Region) → length chunks.start ≡ length chunks.shape → AreBoxed grid chunks → IsInGrid grid chunk box → (n : ℕ) × (n < product chunks.shape) × (chunk ≡ place_at chunks.start chunks.shape n)
boxed_number grid chunks chunk box l boxed below =
    let among = any_places (replicate (length grid) 0) (grid_shape grid) chunk (length-replicate (length grid) 0 ∙ sym (length-map grid chunk_count)) below.below in
    let kept = any-filter (λ c. is_some (chunk_box grid c)) chunk (chunk_indices grid) among (ap is_some below.has_box) in
    let listed = ap (λ (cs : List (List ℕ)). is_listed cs chunk) (sym (places_by_number chunks.start chunks.shape l) ∙ boxed.listed) ∙ kept in
    let n = listed_number (place_at chunks.start chunks.shape) 0 (product chunks.shape) chunk listed in
    let b = n.1 in
    (n.0, omega arith, n.2)

-- where no chunk is too large, none that has a key is
pub none_so_large : (array : Array) (chunks : Region) (limit : ℕ) (store : StoreMap) → length chunks.start ≡ length chunks.shape → AreBoxed array.document.grid chunks → Tells array.document.elements.type limit → (HasChunkOf array.document.grid chunks limit → ⊥) → IsLargeKeyed array store → ⊥
none_so_large array chunks limit store l boxed tells none (chunk, box, below, key, large) =
    let n = boxed_number array.document.grid chunks chunk box l boxed below in
    none (chunk, box, below, ap (is_in_box chunks.start chunks.shape) n.2 ∙ in_box-place_at chunks.start chunks.shape n.0 l n.1, (tells (product box.shape)).1 large)

-- one chunk more
pub none_next : (array : Array) (chunks : Region) (n : ℕ) (chunk : List ℕ) (store : StoreMap) → chunk ≡ place_at chunks.start chunks.shape n → ((m : ℕ) → m < n → IsLargeKeyedAt array (place_at chunks.start chunks.shape m) store → ⊥) → (IsLargeKeyedAt array chunk store → ⊥)
    → (m : ℕ) → m < n + 1 → IsLargeKeyedAt array (place_at chunks.start chunks.shape m) store → ⊥
none_next array chunks n chunk store at before here m below large = ⊎_elim
    (λ e. here (subst (λ (c : List ℕ). IsLargeKeyedAt array c store) (ap (place_at chunks.start chunks.shape) e ∙ sym at) large))
    (λ apart. before m (omega (arith, apart)) large)
    (cases_eq m n)

-- where none of all chunks is a large one that has a key
pub none_large_keyed : (array : Array) (chunks : Region) (n : ℕ) (store : StoreMap) → length chunks.start ≡ length chunks.shape → AreBoxed array.document.grid chunks → product chunks.shape ≤ n
    → ((m : ℕ) → m < n → IsLargeKeyedAt array (place_at chunks.start chunks.shape m) store → ⊥) → IsLargeKeyed array store → ⊥
none_large_keyed array chunks n store l boxed end none (chunk, box, below, key, large) =
    let k = boxed_number array.document.grid chunks chunk box l boxed below in
    let b = k.1 in
    none k.0 (omega arith) (subst (λ (c : List ℕ). IsLargeKeyedAt array c store) k.2 (box, below, key, large))

-- ---- one chunk

pub small_at : (array : Array) (chunk : List ℕ) (box : Region) (store : StoreMap) → IsInGrid array.document.grid chunk box → (IsTooLarge array.document.elements.type (product box.shape) → ⊥) → IsLargeKeyedAt array chunk store → ⊥
small_at array chunk box store below small (other, over, key, large) =
    let same : other ≡ box = some_same (sym over.has_box ∙ below.has_box) in
    small (subst (λ (r : Region). IsTooLarge array.document.elements.type (product r.shape)) same large)

pub large_at : (array : Array) (chunk : List ℕ) (box : Region) (store : StoreMap) (size : Option ℕ) → IsInGrid array.document.grid chunk box → IsTooLarge array.document.elements.type (product box.shape) → size ≡ option_map length (value_at array store chunk)
    → (is_some size ≡ true → IsLargeKeyedAt array chunk store) × (IsLargeKeyedAt array chunk store → is_some size ≡ true)
large_at array chunk box store size below large is = (
  λ some. (box, below, sym alike ∙ some, large),
  λ (other, over, key, more). alike ∙ key,
) where
  told : (stored : Option (List ℕ)) → is_some (option_map length stored) ≡ is_some stored
  told None = refl
  told (Some value) = refl

  alike : is_some size ≡ is_some (value_at array store chunk)
  alike = ap is_some is ∙ told (value_at array store chunk)
