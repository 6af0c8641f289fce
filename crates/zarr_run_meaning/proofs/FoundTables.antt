-- The table of the cells that a store shows.
use Rattle.std.proofs.Common.{◌≡◌, ◌∙◌, ℕ, List, [], ◌∷◌, unwrap_or, Bool, true, if◌then◌else◌, bytes_eq, ⊎_elim, sym, ap}
use Rattle.std.specs.List.{list_any, flat_map}
use Rattle.std.specs.Option.{option_map_or}
use Rattle.std.specs.Ordering.{nat_cmp}
use Rattle.std.specs.Cmp.Lexicographic.{slice_cmp}
use Rattle.std.specs.FinMap.{empty, get-empty}
use Rattle.std.specs.Prelude.{◌||◌}
use Rattle.std.proofs.Math.Bool.{or-true}
use Rattle.std.proofs.lemmas.Bool.{false≢true}
use Rattle.std.proofs.lemmas.List.Folds.{list_any-append}
use Rattle.std.proofs.lemmas.Slice.Eq.{bytes_eq-Decides}
use Rattle.zarr_grids_boxes.specs.Boxes.{Region, places, is_in_box}
use Rattle.zarr_grids_boxes.proofs.Steps.{in_box_same}
use Rattle.zarr_grids_chunks.specs.Grids.{Grid, chunk_box, chunk_indices, IsInGrid}
use Rattle.zarr_grids_chunks.proofs.Filters.{told}
use Rattle.zarr_grids_chunks.proofs.Partition.{any_places}
use Rattle.zarr_codecs_meaning.specs.Types.{Cell, is_value}
use Rattle.zarr_array_meaning.proofs.Showing.{shown, shown_only, listed_chunk}
use Rattle.zarr_array_meaning.proofs.ShownValues.{shown_values}
use Rattle.zarr_run_meaning.specs.Laws.{TableFound}
use Rattle.zarr_run_meaning.specs.Tables.{Table, cell, updated}
use Rattle.zarr_run_meaning.proofs.TableLemmas.{entries, last_at-entries, cell-updated}

-- the table of a function at some places
abbrev pub table_of : Cell → (List ℕ → Cell) → List (List ℕ) → Table
table_of fill cells ps = updated fill empty (entries cells ps)

pub cell-table_of : (fill : Cell) (cells : List ℕ → Cell) (ps : List (List ℕ)) (q : List ℕ) → cell fill (table_of fill cells ps) q ≡ (if list_any (bytes_eq q) ps then cells q else fill)
cell-table_of fill cells ps q =
    cell-updated fill empty (entries cells ps) q ∙ last_at-entries cells ps q (cell fill empty q)
    ∙ ap (λ found. if list_any (bytes_eq q) ps then cells q else unwrap_or found fill) (get-empty (slice_cmp nat_cmp) q)

-- ---- the places of all chunks in a grid

abbrev pub places_in : Grid → List ℕ → List (List ℕ)
places_in grid chunk = option_map_or (λ (box : Region). places box.start box.shape) (chunk_box grid chunk) []

abbrev pub all_places : Grid → List (List ℕ)
all_places grid = flat_map (places_in grid) (chunk_indices grid)

any_flat_map : (f : List ℕ → List (List ℕ)) (test : List ℕ → Bool) (x : List ℕ) (xs : List (List ℕ)) → list_any (bytes_eq x) xs ≡ true → list_any test (f x) ≡ true → list_any test (flat_map f xs) ≡ true
any_flat_map f test x [] listed passes = absurd (false≢true listed)
any_flat_map f test x (y ∷ ys) listed passes = list_any-append test (f y) (flat_map f ys) ∙ ⊎_elim
    (λ e. ap (λ b. b || list_any test (flat_map f ys)) (ap (λ z. list_any test (f z)) (sym ((bytes_eq-Decides x y).0 e)) ∙ passes))
    (λ e. ap (λ b. list_any test (f y) || b) (any_flat_map f test x ys (sym (ap (λ b. b || list_any (bytes_eq x) ys) e) ∙ listed) passes) ∙ or-true (list_any test (f y)))
    (told (bytes_eq x y))

-- each place of a chunk in the grid is one of them
listed_place : (grid : Grid) (chunk : List ℕ) (box : Region) (place : List ℕ) → IsInGrid grid chunk box → is_in_box box.start box.shape place ≡ true → list_any (bytes_eq place) (all_places grid) ≡ true
listed_place grid chunk box place below inside =
    let here : list_any (bytes_eq place) (places_in grid chunk) ≡ true =
    ap (λ found. list_any (bytes_eq place) (option_map_or (λ (b : Region). places b.start b.shape) found [])) below.has_box
    ∙ any_places box.start box.shape place (sym (in_box_same box.start box.shape place inside).0) inside in
    any_flat_map (places_in grid) (bytes_eq place) chunk (chunk_indices grid) (listed_chunk grid chunk box below) here

-- ---- the cells that a store shows

-- at each place of a chunk in the grid the table has the function's cell
table_at : (fill : Cell) (cells : List ℕ → Cell) (grid : Grid) (chunk : List ℕ) (box : Region) (place : List ℕ) → IsInGrid grid chunk box → is_in_box box.start box.shape place ≡ true
    → cell fill (table_of fill cells (all_places grid)) place ≡ cells place
table_at fill cells grid chunk box place below inside =
    cell-table_of fill cells (all_places grid) place ∙ ap (λ b. if b then cells place else fill) (listed_place grid chunk box place below inside)

pub table_found : TableFound
table_found path document store =
    let fill = document.elements.fill in
    let cells = shown path document store in (
      table_of fill cells (all_places document.grid),
      λ lossless chunk box place c below inside reads. shown_only path document store chunk box place c below inside reads ∙ sym (table_at fill cells document.grid chunk box place below inside),
      λ good fit chunk box place below inside.
          ap (is_value document.elements.type) (table_at fill cells document.grid chunk box place below inside) ∙ shown_values path document store good fit chunk box place below inside,
    )
