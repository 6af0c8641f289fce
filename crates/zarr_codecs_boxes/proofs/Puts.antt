-- Cells that are put at the places of a box are a box put over the array.
use Rattle.std.proofs.Common.{◌≡◌, ℕ, zero, suc, ◌-◌, ◌<◌, List, [], ◌∷◌, length, map, get_or, set, ap, ◌∙◌, sym, refl, arith, Bool, true, false, if◌then◌else◌, ◌⊎◌, inl, inr}
use Rattle.std.specs.List.{range_with_len}
use Rattle.std.proofs.lemmas.Bool.{cases_Bool}
use Rattle.std.proofs.lemmas.List.{length-map, length-set, get_or-set_same, get_or-set_other}
use Rattle.std.proofs.lemmas.List.FromFn.{fill_by_all, length-range_with_len, get_or-map-range_with_len}
use Rattle.std.proofs.lemmas.Simd.{map-map}
use Rattle.zarr_grids_boxes.specs.Boxes.{Region, product, is_in_box, place_at, ravel, each2}
use Rattle.zarr_grids_boxes.proofs.Dimensions.{ravel_below}
use Rattle.zarr_grids_boxes.proofs.Places.{places_by_number, in_box_below}
use Rattle.zarr_grids_boxes.proofs.InBox.{in_box-place_at, ravel-place_at, place_at-number}
use Rattle.zarr_codecs_meaning.specs.Types.{Cell}
use Rattle.zarr_codecs_meaning.specs.Places.{gather, part_of}
use Rattle.zarr_codecs_meaning.proofs.Covers.{zeros, ravel_place, place_ravel}
use Rattle.zarr_codecs_traits.specs.Indexers.{put}
use Rattle.zarr_sharding_changes.specs.Regions.{IsInside, whole, cell_after, overlaid}
use Rattle.zarr_sharding_changes.proofs.Overlays.{number_in, gathered_box}
use Rattle.zarr_sharding_changes.proofs.Subchunks.{place_within}

pub if_true : {X : Type 0} (b : Bool) (one two : X) → b ≡ true → (if b then one else two) ≡ one
if_true {X} b one two h = ap (λ (t : Bool). if t then one else two) h

pub if_false : {X : Type 0} (b : Bool) (one two : X) → b ≡ false → (if b then one else two) ≡ two
if_false {X} b one two h = ap (λ (t : Bool). if t then one else two) h

-- ---- elements put at places

pub length-put : {X : Type 0} (ns : List ℕ) (xs ys : List X) → length (put ns xs ys) ≡ length ys
length-put [] xs ys = refl
length-put (n ∷ ns) [] ys = refl
length-put (n ∷ ns) (x ∷ xs) ys = length-put ns xs (set ys n x) ∙ length-set ys n x

-- at a place where none is put
pub put_apart : {X : Type 0} (ns : List ℕ) (xs ys : List X) (m : ℕ) (d : X) → ((a : ℕ) → a < length ns → get_or ns a 0 ≡ m → ⊥) → get_or (put ns xs ys) m d ≡ get_or ys m d
put_apart [] xs ys m d none = refl
put_apart (n ∷ ns) [] ys m d none = refl
put_apart (n ∷ ns) (x ∷ xs) ys m d none = put_apart ns xs (set ys n x) m d (λ a low. none (suc a) (omega arith)) ∙ get_or-set_other ys n m x d (λ same. none 0 (omega arith) (sym same))

-- no place stands twice
abbrev pub AreApart : List ℕ → Type 0
AreApart ns = (i j : ℕ) → i < length ns → j < length ns → get_or ns i 0 ≡ get_or ns j 0 → i ≡ j

-- at a place where one is put
pub put_one : {X : Type 0} (ns : List ℕ) (xs ys : List X) (a : ℕ) (d : X) → AreApart ns → a < length ns → length xs ≡ length ns → get_or ns a 0 < length ys → get_or (put ns xs ys) (get_or ns a 0) d ≡ get_or xs a d
put_one [] xs ys a d apart low same below = absurd (omega arith)
put_one (n ∷ ns) [] ys a d apart low same below = absurd (omega arith)
put_one (n ∷ ns) (x ∷ xs) ys zero d apart low same below =
    put_apart ns xs (set ys n x) n d (λ a l e. let no = apart (suc a) 0 (omega arith) (omega arith) e in absurd (omega arith)) ∙ get_or-set_same ys n x d below
put_one (n ∷ ns) (x ∷ xs) ys (suc a) d apart low same below =
    let long = length-set ys n x in
    put_one ns xs (set ys n x) a d (λ i j l k e. let s = apart (suc i) (suc j) (omega arith) (omega arith) e in omega arith) (omega arith) (omega arith) (omega arith)

-- ---- the places of a box

numbers_by : (shape : List ℕ) (box : Region) → length box.start ≡ length box.shape → (part_of shape box).places ≡ map (number_in shape box) (range_with_len 0 (product box.shape))
numbers_by shape box same =
    ap (λ (found : List (List ℕ)). map (λ place. ravel place shape) found) (places_by_number box.start box.shape same)
    ∙ map-map (λ place. ravel place shape) (place_at box.start box.shape) (range_with_len 0 (product box.shape))

pub box_dimensions : (box : Region) (shape : List ℕ) → IsInside box.start box.shape shape → length box.start ≡ length box.shape
box_dimensions box shape within = let one = within.starts in let two = within.ends in omega arith

pub length-numbers : (shape : List ℕ) (box : Region) → length box.start ≡ length box.shape → length (part_of shape box).places ≡ product box.shape
length-numbers shape box same =
    ap (λ (ns : List ℕ). length ns) (numbers_by shape box same) ∙ (length-map (range_with_len 0 (product box.shape)) (number_in shape box) ∙ length-range_with_len 0 (product box.shape))

number_read : (shape : List ℕ) (box : Region) (a : ℕ) → length box.start ≡ length box.shape → a < product box.shape → get_or (part_of shape box).places a 0 ≡ number_in shape box a
number_read shape box a same low = ap (λ (ns : List ℕ). get_or ns a 0) (numbers_by shape box same) ∙ get_or-map-range_with_len (number_in shape box) 0 (product box.shape) a a 0 low (omega arith)

-- the place with a number, of those of a box
place_again : (shape : List ℕ) (box : Region) (a : ℕ) → IsInside box.start box.shape shape → a < product box.shape → place_at (zeros shape) shape (number_in shape box a) ≡ place_at box.start box.shape a
place_again shape box a within low = place_ravel shape (place_at box.start box.shape a) (place_within box.start box.shape shape a within low)

pub numbers_apart : (shape : List ℕ) (box : Region) → IsInside box.start box.shape shape → AreApart (part_of shape box).places
numbers_apart shape box within i j first second same =
    let dims = box_dimensions box shape within in
    let count = length-numbers shape box dims in
    let low : i < product box.shape = omega arith in
    let high : j < product box.shape = omega arith in
    let numbers : number_in shape box i ≡ number_in shape box j = sym (number_read shape box i dims low) ∙ (same ∙ number_read shape box j dims high) in
    let here : place_at box.start box.shape i ≡ place_at box.start box.shape j = sym (place_again shape box i within low) ∙ (ap (place_at (zeros shape) shape) numbers ∙ place_again shape box j within high) in
    sym (ravel-place_at box.start box.shape i dims low) ∙ (ap (λ place. ravel (each2 (λ p s. p - s) place box.start) box.shape) here ∙ ravel-place_at box.start box.shape j dims high)

-- ---- a box put over an array

pub put_overlaid : (fill : Cell) (shape : List ℕ) (region : Region) (new cells : List Cell) → IsInside region.start region.shape shape → length new ≡ product region.shape → length cells ≡ product shape
    → put (part_of shape region).places new cells ≡ overlaid fill (whole shape) region new cells
put_overlaid fill shape region new cells within count all =
    fill_by_all (λ n. cell_after fill region new (place_at (zeros shape) shape n) (get_or cells n fill)) (put ns new cells) (product shape) fill (length-put ns new cells ∙ all) (λ n below. at_ n below (cases_Bool (is_in_box region.start region.shape (place_at (zeros shape) shape n)))) where
      ns : List ℕ
      ns = (part_of shape region).places

      dims : length region.start ≡ length region.shape
      dims = box_dimensions region shape within

      long : length ns ≡ product region.shape
      long = length-numbers shape region dims

      at_ : (n : ℕ) → n < product shape → (is_in_box region.start region.shape (place_at (zeros shape) shape n) ≡ true) ⊎ (is_in_box region.start region.shape (place_at (zeros shape) shape n) ≡ false) → get_or (put ns new cells) n fill ≡ cell_after fill region new (place_at (zeros shape) shape n) (get_or cells n fill)
      at_ n below (inl h) =
          let p = place_at (zeros shape) shape n in
          let i = each2 (λ p s. p - s) p region.start in
          let a = ravel i region.shape in
          let low : a < product region.shape = ravel_below i region.shape (in_box_below region.start region.shape p h) in
          let here : get_or ns a 0 ≡ n = number_read shape region a dims low ∙ (ap (λ place. ravel place shape) (place_at-number region.start region.shape p h) ∙ ravel_place shape n below) in
          let is : get_or (put ns new cells) (get_or ns a 0) fill ≡ get_or new a fill = put_one ns new cells a fill (numbers_apart shape region within) (omega (arith, low, long)) (omega (arith, count, long)) (omega (arith, here, below, all)) in
          sym (ap (λ k. get_or (put ns new cells) k fill) here) ∙ (is ∙ sym (if_true _ _ _ h))
      at_ n below (inr h) =
          let p = place_at (zeros shape) shape n in
          put_apart ns new cells n fill (λ a l e.
          let low : a < product region.shape = omega (arith, l, long) in
          let same : place_at region.start region.shape a ≡ p = sym (place_again shape region a within low) ∙ ap (place_at (zeros shape) shape) (sym (number_read shape region a dims low) ∙ e) in
          let yes : true ≡ false = sym (in_box-place_at region.start region.shape a dims low) ∙ (ap (is_in_box region.start region.shape) same ∙ h) in
          cc) ∙ sym (if_false _ _ _ h)

-- a box that is put over itself
pub same_overlaid : (fill : Cell) (shape : List ℕ) (region : Region) (cells : List Cell) → IsInside region.start region.shape shape → length cells ≡ product shape
    → overlaid fill (whole shape) region (gather fill cells (part_of shape region).places) cells ≡ cells
same_overlaid fill shape region cells within all = sym (fill_by_all (λ n. cell_after fill region own (place_at (zeros shape) shape n) (get_or cells n fill)) cells (product shape) fill all (λ n below. at_ n below (cases_Bool (is_in_box region.start region.shape (place_at (zeros shape) shape n))))) where
  own : List Cell
  own = gather fill cells (part_of shape region).places

  at_ : (n : ℕ) → n < product shape → (is_in_box region.start region.shape (place_at (zeros shape) shape n) ≡ true) ⊎ (is_in_box region.start region.shape (place_at (zeros shape) shape n) ≡ false) → get_or cells n fill ≡ cell_after fill region own (place_at (zeros shape) shape n) (get_or cells n fill)
  at_ n below (inl h) =
      let p = place_at (zeros shape) shape n in
      let i = each2 (λ p s. p - s) p region.start in
      let a = ravel i region.shape in
      let low : a < product region.shape = ravel_below i region.shape (in_box_below region.start region.shape p h) in
      let here : number_in shape region a ≡ n = ap (λ place. ravel place shape) (place_at-number region.start region.shape p h) ∙ ravel_place shape n below in
      let read : get_or own a fill ≡ get_or cells (number_in shape region a) fill =
      ap (λ (found : List Cell). get_or found a fill) (gathered_box fill shape region cells within) ∙ get_or-map-range_with_len (λ n. get_or cells (number_in shape region n) fill) 0 (product region.shape) a a fill low (omega arith) in
      sym (if_true _ _ _ h ∙ (read ∙ ap (λ k. get_or cells k fill) here))
  at_ n below (inr h) = sym (if_false _ _ _ h)
