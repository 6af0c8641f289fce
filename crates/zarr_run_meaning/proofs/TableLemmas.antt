-- What a table has at a place after cells were replaced.
use Rattle.std.proofs.Common.{◌≡◌, ℕ, zero, suc, ◌+◌, ◌-◌, ◌<◌, Bool, true, false, cond, if◌then◌else◌, ◌&&◌, List, [], ◌∷◌, length, map, get_or, refl, sym, ap, ◌∙◌, ⊎_elim, arith, Option, Some, None, unwrap_or, bytes_eq}
use Rattle.std.specs.List.{range_with_len, filter, list_any, list_all, zip}
use Rattle.std.specs.Prelude.{◌||◌}
use Rattle.std.specs.FinMap.{get, insert, remove, get-insert, get-remove}
use Rattle.std.proofs.lemmas.Cmp.{nat_list_cmp_total}
use Rattle.std.proofs.lemmas.Map.Text.{is_eq-slice_cmp}
use Rattle.std.proofs.lemmas.Slice.Eq.{bytes_eq-Decides}
use Rattle.std.proofs.lemmas.Bool.{false≢true}
use Rattle.std.proofs.lemmas.Simd.{map-map}
use Rattle.zarr_grids_boxes.specs.Boxes.{Region, product, places, place_at, ravel, each2, is_in_box}
use Rattle.zarr_grids_boxes.proofs.Places.{both, places_by_number, in_box_below, map-range_shift}
use Rattle.zarr_grids_boxes.proofs.Dimensions.{ravel_below}
use Rattle.zarr_grids_boxes.proofs.InBox.{ravel-place_at, in_box-place_at, place_at-number}
use Rattle.zarr_grids_chunks.specs.Grids.{Grid, lies_in_chunk}
use Rattle.zarr_grids_chunks.proofs.Filters.{told}
use Rattle.zarr_codecs_meaning.specs.Types.{Cell, DataType, is_value, same_cell}
use Rattle.zarr_codecs_types.specs.SameEquivalence.{same_cell_decides}
use Rattle.zarr_array_meaning.specs.Boxes.{cell_of_box, lies_in_any, replaced_in}
use Rattle.zarr_run_meaning.specs.Tables.{Table, cell, with_cell, updated, changes, changes_in}

-- the cell after one was replaced
pub cell-with_cell : (fill : Cell) (t : Table) (p : List ℕ) (v : Cell) (q : List ℕ) → cell fill (with_cell fill t p v) q ≡ (if bytes_eq q p then v else cell fill t q)
cell-with_cell fill t p v q = ⊎_elim
    (λ e. ap (λ b. cell fill (if b then remove t p else insert t p v) q) e
    ∙ ap (λ o. unwrap_or o fill) (get-remove nat_list_cmp_total t p q ∙ ap (λ b. cond b None (get t q)) (is_eq-slice_cmp q p))
    ∙ gone (bytes_eq q p) (get t q) ((same_cell_decides v fill).0 e))
    (λ e. ap (λ b. cell fill (if b then remove t p else insert t p v) q) e
    ∙ ap (λ o. unwrap_or o fill) (get-insert nat_list_cmp_total t p v q ∙ ap (λ b. cond b (Some v) (get t q)) (is_eq-slice_cmp q p))
    ∙ here (bytes_eq q p) (get t q))
    (told (same_cell v fill)) where
      gone : (b : Bool) (o : Option Cell) → v ≡ fill → unwrap_or (cond b None o) fill ≡ (if b then v else unwrap_or o fill)
      gone true o e = sym e
      gone false o e = refl

      here : (b : Bool) (o : Option Cell) → unwrap_or (cond b (Some v) o) fill ≡ (if b then v else unwrap_or o fill)
      here true o = refl
      here false o = refl

-- the last of the entries at a place
abbrev pub last_at : List ℕ → List (List ℕ × Cell) → Cell → Cell
last_at q [] d = d
last_at q (e ∷ es) d = last_at q es (if bytes_eq q e.0 then e.1 else d)

pub cell-updated : (fill : Cell) (t : Table) (es : List (List ℕ × Cell)) (q : List ℕ) → cell fill (updated fill t es) q ≡ last_at q es (cell fill t q)
cell-updated fill t [] q = refl
cell-updated fill t (e ∷ es) q = cell-updated fill (with_cell fill t e.0 e.1) es q ∙ ap (last_at q es) (cell-with_cell fill t e.0 e.1 q)

-- the places, each with its cell
abbrev pub entries : (List ℕ → Cell) → List (List ℕ) → List (List ℕ × Cell)
entries cells ps = map (λ place. (place, cells place)) ps

pub last_at-entries : (cells : List ℕ → Cell) (ps : List (List ℕ)) (q : List ℕ) (d : Cell) → last_at q (entries cells ps) d ≡ (if list_any (bytes_eq q) ps then cells q else d)
last_at-entries cells [] q d = refl
last_at-entries cells (p ∷ ps) q d =
    last_at-entries cells ps q (if bytes_eq q p then cells p else d)
    ∙ ⊎_elim
    (λ e. ap (λ b. if list_any (bytes_eq q) ps then cells q else (if b then cells p else d)) e
    ∙ ap (λ r. if list_any (bytes_eq q) ps then cells q else cells r) (sym ((bytes_eq-Decides q p).0 e))
    ∙ either (list_any (bytes_eq q) ps) (cells q)
    ∙ ap (λ b. if b || list_any (bytes_eq q) ps then cells q else d) (sym e))
    (λ e. ap (λ b. if list_any (bytes_eq q) ps then cells q else (if b then cells p else d)) e
    ∙ ap (λ b. if b || list_any (bytes_eq q) ps then cells q else d) (sym e))
    (told (bytes_eq q p)) where
      either : (b : Bool) (c : Cell) → (if b then c else c) ≡ c
      either true c = refl
      either false c = refl

-- entries that a test on the place leaves out
pub last_at-filter : (p : List ℕ → Bool) (q : List ℕ) (es : List (List ℕ × Cell)) (d : Cell) → last_at q (filter (λ e. p e.0) es) d ≡ (if p q then last_at q es d else d)
last_at-filter p q [] d = elim (p q) as (λ b. d ≡ (if b then d else d)) [ true ↦ refl | false ↦ refl ]
last_at-filter p q (e ∷ es) d = ⊎_elim
    (λ same. let s : q ≡ e.0 = (bytes_eq-Decides q e.0).0 same in ⊎_elim
    (λ t. ap (λ b. last_at q (cond b (e ∷ filter (λ e. p e.0) es) (filter (λ e. p e.0) es)) d) (sym (ap p s) ∙ t)
    ∙ last_at-filter p q es (if bytes_eq q e.0 then e.1 else d) ∙ ap (λ b. if b then last_at q es (if bytes_eq q e.0 then e.1 else d) else (if bytes_eq q e.0 then e.1 else d)) t
    ∙ ap (λ b. if b then last_at q es (if bytes_eq q e.0 then e.1 else d) else d) (sym t))
    (λ t. ap (λ b. last_at q (cond b (e ∷ filter (λ e. p e.0) es) (filter (λ e. p e.0) es)) d) (sym (ap p s) ∙ t)
    ∙ last_at-filter p q es d ∙ ap (λ b. if b then last_at q es d else d) t
    ∙ ap (λ b. if b then last_at q es (if bytes_eq q e.0 then e.1 else d) else d) (sym t))
    (told (p q)))
    (λ other. left (p e.0) (filter (λ e. p e.0) es) other
    ∙ last_at-filter p q es d
    ∙ ap (λ b. if p q then last_at q es (if b then e.1 else d) else d) (sym other))
    (told (bytes_eq q e.0)) where
      left : (b : Bool) (rest : List (List ℕ × Cell)) → bytes_eq q e.0 ≡ false → last_at q (cond b (e ∷ rest) rest) d ≡ last_at q rest d
      left true rest o = ap (λ b. last_at q rest (if b then e.1 else d)) o
      left false rest o = refl

-- entries by number, none of them at the place
pub last_at-miss : (g : ℕ → List ℕ) (q : List ℕ) (a n : ℕ) (cs : List Cell) (d : Cell) → ((i : ℕ) → i < n → g (a + i) ≡ q → ⊥) → last_at q (zip (map g (range_with_len a n)) cs) d ≡ d
last_at-miss g q a zero cs d h = refl
last_at-miss g q a (suc n) [] d h = refl
last_at-miss g q a (suc n) (c ∷ cs) d h =
    ap (λ b. last_at q (zip (map g (range_with_len (a + 1) n)) cs) (if b then c else d)) (no_equal (bytes_eq q (g a)) refl)
    ∙ last_at-miss g q (a + 1) n cs d (λ i l e. h (suc i) (omega arith) (let s : a + suc i ≡ a + 1 + i = omega arith in ap g s ∙ e)) where
      no_equal : (b : Bool) → bytes_eq q (g a) ≡ b → bytes_eq q (g a) ≡ false
      no_equal true e = absurd (h 0 (omega arith) (let s : a + 0 ≡ a = omega arith in ap g s ∙ sym ((bytes_eq-Decides q (g a)).0 e)))
      no_equal false e = e

-- one of them at the place
pub last_at-hit : (g : ℕ → List ℕ) (q : List ℕ) (a n i : ℕ) (cs : List Cell) (d other : Cell) → length cs ≡ n → i < n → g (a + i) ≡ q → ((j : ℕ) → j < n → g (a + j) ≡ q → j ≡ i) → last_at q (zip (map g (range_with_len a n)) cs) d ≡ get_or cs i other
last_at-hit g q a zero i cs d other l h e one = absurd (omega arith)
last_at-hit g q a (suc n) i [] d other l h e one = absurd (omega arith)
last_at-hit g q a (suc n) zero (c ∷ cs) d other l h e one =
    let s : a + 0 ≡ a = omega arith in
    ap (λ b. last_at q (zip (map g (range_with_len (a + 1) n)) cs) (if b then c else d)) ((bytes_eq-Decides q (g a)).1 (sym e ∙ ap g s))
    ∙ last_at-miss g q (a + 1) n cs c (λ j k f. let z : suc j ≡ 0 = one (suc j) (omega arith) (let s : a + suc j ≡ a + 1 + j = omega arith in ap g s ∙ f) in absurd (omega arith))
last_at-hit g q a (suc n) (suc i) (c ∷ cs) d other l h e one =
    last_at-hit g q (a + 1) n i cs (if bytes_eq q (g a) then c else d) other (omega arith) (omega arith)
    (let s : a + 1 + i ≡ a + suc i = omega arith in ap g s ∙ e)
    (λ j k f. let z : suc j ≡ suc i = one (suc j) (omega arith) (let s : a + suc j ≡ a + 1 + j = omega arith in ap g s ∙ f) in omega arith)

-- what the changes of a box have at a place
pub last_at-changes : (region : Region) (cells : List Cell) (q : List ℕ) (d other : Cell) → length region.start ≡ length region.shape → length cells ≡ product region.shape
    → last_at q (changes region cells) d ≡ (if is_in_box region.start region.shape q then cell_of_box region cells other q else d)
last_at-changes region cells q d other l n =
    let ss = region.start in
    let es = region.shape in
    ap (λ ps. last_at q (zip ps cells) d) (places_by_number ss es l)
    ∙ ⊎_elim
    (λ t.
    let i = ravel (each2 (λ p s. p - s) q ss) es in
    let b : i < product es = ravel_below _ _ (in_box_below ss es q t) in
    last_at-hit (place_at ss es) q 0 (product es) i cells d other n b (let z : 0 + i ≡ i = omega arith in ap (place_at ss es) z ∙ place_at-number ss es q t)
    (λ j k e. let z : 0 + j ≡ j = omega arith in sym (ravel-place_at ss es j l k) ∙ ap (λ p. ravel (each2 (λ p s. p - s) p ss) es) (sym (ap (place_at ss es) z) ∙ e))
    ∙ ap (λ b. if b then cell_of_box region cells other q else d) (sym t))
    (λ t.
    last_at-miss (place_at ss es) q 0 (product es) cells d (λ j k e. let z : 0 + j ≡ j = omega arith in false≢true (sym t ∙ ap (λ p. is_in_box ss es p) (sym (sym (ap (place_at ss es) z) ∙ e)) ∙ in_box-place_at ss es j l k))
    ∙ ap (λ b. if b then cell_of_box region cells other q else d) (sym t))
    (told (is_in_box ss es q))

-- ---- a write of a box, as a table and as a function of places
pub cell-chunks : (fill : Cell) (t : Table) (grid : Grid) (region : Region) (cells : List Cell) (chunks : List (List ℕ)) (other : Cell) (q : List ℕ) → length region.start ≡ length region.shape → length cells ≡ product region.shape
    → cell fill (updated fill t (changes_in grid chunks (changes region cells))) q ≡ replaced_in region (lies_in_any grid chunks) (cell_of_box region cells other) (cell fill t) q
cell-chunks fill t grid region cells chunks other q l n =
    cell-updated fill t (changes_in grid chunks (changes region cells)) q
    ∙ last_at-filter (λ p. list_any (lies_in_chunk grid p) chunks) q (changes region cells) (cell fill t q)
    ∙ ap (λ x. if list_any (lies_in_chunk grid q) chunks then x else cell fill t q) (last_at-changes region cells q (cell fill t q) other l n)
    ∙ cases (list_any (lies_in_chunk grid q) chunks) (is_in_box region.start region.shape q) where
      cases : (a b : Bool) → (if a then (if b then cell_of_box region cells other q else cell fill t q) else cell fill t q) ≡ (if b && a then cell_of_box region cells other q else cell fill t q)
      cases true true = refl
      cases true false = refl
      cases false true = refl
      cases false false = refl

pub cell-box : (fill : Cell) (t : Table) (region : Region) (cells : List Cell) (other : Cell) (q : List ℕ) → length region.start ≡ length region.shape → length cells ≡ product region.shape
    → cell fill (updated fill t (changes region cells)) q ≡ (if is_in_box region.start region.shape q then cell_of_box region cells other q else cell fill t q)
cell-box fill t region cells other q l n = cell-updated fill t (changes region cells) q ∙ last_at-changes region cells q (cell fill t q) other l n

-- ---- the cells of a box, listed
by_number : {X : Type 0} (xs : List X) (d : X) → map (λ n. get_or xs n d) (range_with_len 0 (length xs)) ≡ xs
by_number [] d = refl
by_number {X} (x ∷ xs) d =
    ap (λ (ys : List X). x ∷ ys) (map-range_shift (λ n. get_or (x ∷ xs) n d) (λ n. get_or xs n d) 1 0 (length xs) (λ i h. at_next i) ∙ by_number xs d) where
      at_next : (i : ℕ) → get_or (x ∷ xs) (1 + i) d ≡ get_or xs (0 + i) d
      at_next i = let a : 1 + i ≡ suc i = omega arith in let b : 0 + i ≡ i = omega arith in rw (a, b) refl

pub cells_of_box : (region : Region) (cells : List Cell) (other : Cell) → length region.start ≡ length region.shape → length cells ≡ product region.shape
    → map (cell_of_box region cells other) (places region.start region.shape) ≡ cells
cells_of_box region cells other l n =
    let ss = region.start in
    let es = region.shape in
    ap (map (cell_of_box region cells other)) (places_by_number ss es l)
    ∙ map-map (cell_of_box region cells other) (place_at ss es) (range_with_len 0 (product es))
    ∙ map-range_shift (λ k. cell_of_box region cells other (place_at ss es k)) (λ k. get_or cells k other) 0 0 (product es)
    (λ i h. let z : 0 + i ≡ i = omega arith in ap (λ k. cell_of_box region cells other (place_at ss es k)) z ∙ ap (λ k. get_or cells k other) (ravel-place_at ss es i l h) ∙ ap (λ k. get_or cells k other) (sym z))
    ∙ ap (λ k. map (λ n. get_or cells n other) (range_with_len 0 k)) (sym n)
    ∙ by_number cells other

-- ---- values
pub value_at : (type : DataType) (cells : List Cell) (other : Cell) (n : ℕ) → list_all (is_value type) cells ≡ true → is_value type other ≡ true → is_value type (get_or cells n other) ≡ true
value_at type [] other n h o = o
value_at type (c ∷ cells) other zero h o = (both (is_value type c) (list_all (is_value type) cells) h).0
value_at type (c ∷ cells) other (suc n) h o = value_at type cells other n (both (is_value type c) (list_all (is_value type) cells) h).1 o
