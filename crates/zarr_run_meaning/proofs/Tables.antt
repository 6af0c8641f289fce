-- What a table has after a write of chunks that a box intersects.
use Rattle.std.proofs.Common.{◌≡◌, ◌≢◌, ◌∙◌, ℕ, Bool, true, false, if◌then◌else◌, ◌&&◌, List, [], ◌∷◌, length, refl, sym, ap, ⊎_elim, Option, Some, None, bytes_eq, ◌==◌}
use Rattle.std.specs.List.{filter, list_any}
use Rattle.std.specs.Option.{option_map_or}
use Rattle.std.proofs.lemmas.Bool.{false≢true, eqb-true, eqb-false, or_left, or_parts, or_from, false_from_ne_true}
use Rattle.std.proofs.lemmas.Slice.Eq.{bytes_eq-Decides}
use Rattle.zarr_grids_boxes.specs.Boxes.{Region, product, is_in_box, share_place}
use Rattle.zarr_grids_boxes.proofs.Sharing.{share_place-has}
use Rattle.zarr_grids_boxes.proofs.Steps.{in_box_same}
use Rattle.zarr_grids_chunks.specs.Grids.{Grid, chunk_box, lies_in_chunk, intersects, intersecting, chunk_indices}
use Rattle.zarr_grids_chunks.proofs.Filters.{told, filter-any}
use Rattle.zarr_grids_cover.proofs.ChunkLaws.{chunks_apart}
use Rattle.zarr_codecs_meaning.specs.Types.{Cell}
use Rattle.zarr_array_meaning.specs.Boxes.{cell_of_box, lies_in_any, replaced_in}
use Rattle.zarr_array_meaning.specs.Chunks.{is_listed}
use Rattle.zarr_run_meaning.specs.Tables.{Table, cell, updated, changes, changes_in}
use Rattle.zarr_run_meaning.proofs.TableLemmas.{cell-chunks}

-- ---- chunks that are listed

pub listed_first : (c : List ℕ) (cs : List (List ℕ)) → is_listed (c ∷ cs) c ≡ true
listed_first c cs = or_left (bytes_eq c c) (is_listed cs c) ((bytes_eq-Decides c c).1 refl)

-- the places of a chunk that is not listed lie in none
pub unlisted_lies : (grid : Grid) (chunks : List (List ℕ)) (chunk place : List ℕ) → is_listed chunks chunk ≡ false → lies_in_chunk grid place chunk ≡ true → list_any (lies_in_chunk grid place) chunks ≡ false
unlisted_lies grid [] chunk place not here = refl
unlisted_lies grid (c ∷ cs) chunk place not here =
    let parts = or_parts (bytes_eq chunk c) (is_listed cs chunk) not in
    or_from (lies_in_chunk grid place c) (list_any (lies_in_chunk grid place) cs)
    (false_from_ne_true (lies_in_chunk grid place c) (λ lies. false≢true (sym parts.0 ∙ (bytes_eq-Decides chunk c).1 (chunks_apart grid chunk c place here lies))))
    (unlisted_lies grid cs chunk place parts.1 here)

-- ---- a write

-- a box that shares a place with a chunk has as many lengths as starts
shares-same : (grid : Grid) (region : Region) (chunk : List ℕ) → intersects grid region chunk ≡ true → length region.start ≡ length region.shape
shares-same grid region chunk h = go (chunk_box grid chunk) h where
  go : (o : Option Region) → option_map_or (λ (box : Region). share_place box.start box.shape region.start region.shape) o false ≡ true → length region.start ≡ length region.shape
  go None e = absurd (false≢true e)
  go (Some box) e = let shared = share_place-has box.start box.shape region.start region.shape e in sym (in_box_same region.start region.shape shared.0 shared.2).0

-- none of the chunks that a box of other lengths would intersect is listed
pub no_chunks : (grid : Grid) (region : Region) (chunks : List (List ℕ)) → ((chunk : List ℕ) → is_listed chunks chunk ≡ true → is_listed (intersecting grid region) chunk ≡ true) → length region.start ≢ length region.shape → chunks ≡ []
no_chunks grid region [] few ne = refl
no_chunks grid region (c ∷ cs) few ne =
    absurd (ne (shares-same grid region c (filter-any (intersects grid region) c (chunk_indices grid) (few c (listed_first c cs)))))

pub none_kept : (es : List (List ℕ × Cell)) → filter (λ e. false) es ≡ []
none_kept [] = refl
none_kept (e ∷ es) = none_kept es

-- the cells of a box are given to chunks that it intersects
pub cell-written : (fill : Cell) (t : Table) (grid : Grid) (region : Region) (cells : List Cell) (chunks : List (List ℕ)) (other : Cell) (q : List ℕ) → ((chunk : List ℕ) → is_listed chunks chunk ≡ true → is_listed (intersecting grid region) chunk ≡ true)
    → length cells ≡ product region.shape → cell fill (updated fill t (changes_in grid chunks (changes region cells))) q ≡ replaced_in region (lies_in_any grid chunks) (cell_of_box region cells other) (cell fill t) q
cell-written fill t grid region cells chunks other q few n = ⊎_elim
    (λ same. cell-chunks fill t grid region cells chunks other q (eqb-true (length region.start) (length region.shape) same) n)
    (λ differs. let none = no_chunks grid region chunks few (eqb-false (length region.start) (length region.shape) differs) in
    ap (λ cs. cell fill (updated fill t (changes_in grid cs (changes region cells))) q) none
    ∙ ap (λ es. cell fill (updated fill t es) q) (none_kept (changes region cells))
    ∙ unwritten (is_in_box region.start region.shape q)
    ∙ ap (λ cs. replaced_in region (lies_in_any grid cs) (cell_of_box region cells other) (cell fill t) q) (sym none))
    (told (length region.start == length region.shape)) where
      unwritten : (b : Bool) → cell fill t q ≡ (if b && false then cell_of_box region cells other q else cell fill t q)
      unwritten true = refl
      unwritten false = refl
