-- Which cells a store shows.
use Rattle.std.proofs.Common.{◌≡◌, ◌∙◌, ℕ, zero, suc, List, [], ◌∷◌, length, map, get_or, slice_get, replicate, Option, Some, None, option_and_then, Bool, true, false, if◌then◌else◌, bytes_eq, ⊎_elim, refl, sym, ap}
use Rattle.std.specs.List.{list_all, list_any}
use Rattle.std.specs.Prelude.{nat_lt, ◌&&◌, ◌||◌}
use Rattle.std.proofs.lemmas.Bool.{lt-ltb, false≢true}
use Rattle.std.proofs.lemmas.List.{get_or-map, length-map, length-replicate}
use Rattle.std.proofs.lemmas.Slice.Eq.{bytes_eq-Decides}
use Rattle.zarr_grids_boxes.specs.Boxes.{Region, product, places, is_in_box}
use Rattle.zarr_grids_boxes.proofs.InBox.{length-places, place_at-number}
use Rattle.zarr_grids_boxes.proofs.Lawful.{place_by_number}
use Rattle.zarr_grids_boxes.proofs.Steps.{in_box_same, number_in_grid}
use Rattle.zarr_grids_boxes.proofs.Walking.{get_or-places}
use Rattle.zarr_grids_chunks.specs.Grids.{Grid, chunk_box, chunk_count, lies_in_chunk, grid_shape, chunk_indices, IsInGrid}
use Rattle.zarr_grids_chunks.proofs.Filters.{told}
use Rattle.zarr_grids_chunks.proofs.Partition.{lies_here, any_places}
use Rattle.zarr_grids_cover.proofs.ChunkLaws.{chunks_apart}
use Rattle.zarr_codecs_meaning.specs.Types.{Cell, is_value}
use Rattle.zarr_codecs_meaning.specs.Chunks.{chunk_part}
use Rattle.zarr_codecs_meaning.specs.Laws.{AreCells}
use Rattle.zarr_codecs_meaning.proofs.Chunks.{stored_part}
use Rattle.zarr_codecs_meaning.proofs.Lists.{Each}
use Rattle.zarr_array_meaning.specs.Chunks.{number_in, stored_at, part_at}
use Rattle.zarr_array_meaning.specs.Documents.{Document}
use Rattle.zarr_array_meaning.specs.Standing.{ShowsOnly, IsGood, AreValues, StandingShows, NothingStoredShows, ShowingSomething}
use Rattle.zarr_array_meaning.specs.StoreMaps.{StoreMap}

-- ---- the cells of a box, by their function of places

pub length_listed : (cells : List ℕ → Cell) (ss es : List ℕ) → length ss ≡ length es → length (map cells (places ss es)) ≡ product es
length_listed cells ss es l = length-map (places ss es) cells ∙ length-places ss es l

-- the cell at the number of a place is the place's
pub listed_at : (cells : List ℕ → Cell) (box : Region) (place : List ℕ) (fill : Cell) → is_in_box box.start box.shape place ≡ true → get_or (map cells (places box.start box.shape)) (number_in box place) fill ≡ cells place
listed_at cells box place fill inside =
    let l : length box.start ≡ length box.shape = sym (in_box_same box.start box.shape place inside).0 in
    let below = number_in_grid box.start box.shape place inside in
    get_or-map cells (places box.start box.shape) (number_in box place) [] fill (rw (length-places box.start box.shape l) below)
    ∙ ap cells (get_or-places box.start box.shape (number_in box place) [] l below ∙ place_at-number box.start box.shape place inside)

-- what holds of each place in a box holds of the places that are listed
pub each_inside : (P : List ℕ → Type 0) (ss es : List ℕ) → length ss ≡ length es → ((place : List ℕ) → is_in_box ss es place ≡ true → P place) → Each P (places ss es)
each_inside P ss es l law = each_got P (places ss es) (λ n place e. law place ((place_by_number ss es place n (sym l)).0 e).0) where
  each_got : (P : List ℕ → Type 0) (xs : List (List ℕ)) → ((n : ℕ) (x : List ℕ) → slice_get xs n ≡ Some x → P x) → Each P xs
  each_got P [] law = tt
  each_got P (x ∷ xs) law = (law zero x refl, each_got P xs (λ n y e. law (suc n) y e))

-- the first of the cells that are read, if there are any
abbrev pub first_cell : Cell → Option (List Cell) → Cell
first_cell fill None = fill
first_cell fill (Some []) = fill
first_cell fill (Some (cell ∷ cells)) = cell

pub each_place : (test : Cell → Bool) (cells : List ℕ → Cell) (ps : List (List ℕ)) → Each (λ place. test (cells place) ≡ true) ps → list_all test (map cells ps) ≡ true
each_place test cells [] h = refl
each_place test cells (p ∷ ps) h = ap (λ (b : Bool). b && list_all test (map cells ps)) h.0 ∙ each_place test cells ps h.1

pub are_cells : (document : Document) (chunk : List ℕ) (box : Region) (cells : List ℕ → Cell) → length box.start ≡ length box.shape → IsGood document → AreValues document cells → IsInGrid document.grid chunk box
    → AreCells document.elements box.shape (map cells (places box.start box.shape))
are_cells document chunk box cells l good values below = record {
  fill = good.fill;
  values = each_place (is_value document.elements.type) cells (places box.start box.shape)
      (each_inside (λ place. is_value document.elements.type (cells place) ≡ true) box.start box.shape l (λ place inside. values chunk box place below inside));
  whole = length_listed cells box.start box.shape l;
}

-- what stands for cells shows no others
pub standing_shows : StandingShows
standing_shows path document store cells good lossless values stands chunk box place cell below inside reads =
    let l : length box.start ≡ length box.shape = sym (in_box_same box.start box.shape place inside).0 in
    let n = number_in box place in
    let low : (nat_lt n (product box.shape) && true) ≡ true = rw (lt-ltb n (product box.shape) (number_in_grid box.start box.shape place inside)) refl in
    let part = stored_part document.chain document.elements box.shape (stored_at path document store chunk) (map cells (places box.start box.shape)) (n ∷ [])
    good.lawful lossless (are_cells document chunk box cells l good values below) (stands chunk box below) low in
    ap (first_cell document.elements.fill) (sym reads ∙ part) ∙ listed_at cells box place document.elements.fill inside

-- where nothing is stored, the fill value is shown
pub nothing_stored_shows : NothingStoredShows
nothing_stored_shows path document store none chunk box place cell below inside reads =
    let fill = document.elements.fill in
    let part = ap (λ stored. chunk_part document.chain document.elements box.shape stored (number_in box place ∷ [])) (none chunk box below) in
    ap (first_cell fill) (sym reads ∙ part)

-- ---- the cells that are shown

-- what is read at a place of a chunk
abbrev pub part_here : List ℕ → Document → StoreMap → List ℕ → List ℕ → Option (List Cell)
part_here path document store place chunk = option_and_then (λ box. part_at document box (stored_at path document store chunk) place) (chunk_box document.grid chunk)

-- the cell at a place: what is read of the first of these chunks that it lies in, or else the fill value
abbrev pub shown_by : (List ℕ → Option (List Cell)) → (List ℕ → Bool) → Cell → List (List ℕ) → Cell
shown_by read lies fill [] = fill
shown_by read lies fill (chunk ∷ chunks) = if lies chunk then first_cell fill (read chunk) else shown_by read lies fill chunks

-- the cell that a store shows at a place
abbrev pub shown : List ℕ → Document → StoreMap → List ℕ → Cell
shown path document store place = shown_by (part_here path document store place) (lies_in_chunk document.grid place) document.elements.fill (chunk_indices document.grid)

shown_of : (read : List ℕ → Option (List Cell)) (lies : List ℕ → Bool) (fill : Cell) (chunk : List ℕ) (chunks : List (List ℕ)) → ((other : List ℕ) → lies other ≡ true → other ≡ chunk) → lies chunk ≡ true
    → list_any (bytes_eq chunk) chunks ≡ true → shown_by read lies fill chunks ≡ first_cell fill (read chunk)
shown_of read lies fill chunk [] one here listed = absurd (false≢true listed)
shown_of read lies fill chunk (other ∷ chunks) one here listed = ⊎_elim
    (λ t. ap (λ b. if b then first_cell fill (read other) else shown_by read lies fill chunks) t ∙ ap (λ c. first_cell fill (read c)) (one other t))
    (λ t.
    let apart : bytes_eq chunk other ≡ false = differs (bytes_eq chunk other) refl t in
    ap (λ b. if b then first_cell fill (read other) else shown_by read lies fill chunks) t
    ∙ shown_of read lies fill chunk chunks one here (sym (ap (λ b. b || list_any (bytes_eq chunk) chunks) apart) ∙ listed))
    (told (lies other)) where
      differs : (b : Bool) → bytes_eq chunk other ≡ b → lies other ≡ false → bytes_eq chunk other ≡ false
      differs true e f = absurd (false≢true (sym f ∙ (ap lies (sym ((bytes_eq-Decides chunk other).0 e)) ∙ here)))
      differs false e f = e

pub listed_chunk : (grid : Grid) (chunk : List ℕ) (box : Region) → IsInGrid grid chunk box → list_any (bytes_eq chunk) (chunk_indices grid) ≡ true
listed_chunk grid chunk box below =
    any_places (replicate (length grid) 0) (grid_shape grid) chunk (length-replicate (length grid) 0 ∙ sym (length-map grid chunk_count)) below.below

pub shown_shows : (path : List ℕ) (document : Document) (store : StoreMap) (chunk : List ℕ) (box : Region) (place : List ℕ) → IsInGrid document.grid chunk box → is_in_box box.start box.shape place ≡ true
    → shown path document store place ≡ first_cell document.elements.fill (part_at document box (stored_at path document store chunk) place)
shown_shows path document store chunk box place below inside =
    let fill = document.elements.fill in
    let here : lies_in_chunk document.grid place chunk ≡ true = lies_here document.grid chunk place box below.has_box ∙ inside in
    shown_of (part_here path document store place) (lies_in_chunk document.grid place) fill chunk (chunk_indices document.grid)
    (λ other lies. chunks_apart document.grid other chunk place lies here) here (listed_chunk document.grid chunk box below)
    ∙ ap (λ found. first_cell fill (option_and_then (λ (b : Region). part_at document b (stored_at path document store chunk) place) found)) below.has_box

-- it shows no other
pub shown_only : (path : List ℕ) (document : Document) (store : StoreMap) → ShowsOnly path document store (shown path document store)
shown_only path document store chunk box place cell below inside reads = sym (shown_shows path document store chunk box place below inside ∙ ap (first_cell document.elements.fill) reads)

pub showing_something : ShowingSomething
showing_something path document store = (shown path document store, shown_only path document store)
