-- Elements of one size, one after another, and the cells of a box that they are.
use Rattle.std.proofs.Common.{◌≡◌, ◌∙◌, ℕ, zero, suc, ◌+◌, ◌-◌, ◌*◌, ◌/◌, ◌%◌, ◌<◌, ◌≤◌, ◌==◌, ◌&&◌, Bool, true, false, if◌then◌else◌, List, [], ◌++◌, length, map, take, drop, get_or, replicate, refl, sym, ap, arith, Some, None, eq-eqb, length-take, length-drop}
use Rattle.std.specs.List.{range_with_len, flat_map}
use Rattle.std.proofs.Math.Seq.{take-add}
use Rattle.std.proofs.Math.Nat.{mul-div_cancel}
use Rattle.std.proofs.lemmas.Bool.{lt-ltb}
use Rattle.std.proofs.lemmas.Nat.{mod-mul-add}
use Rattle.std.proofs.lemmas.List.{drop-drop, length-replicate, take_all}
use Rattle.std.proofs.lemmas.List.FromFn.{get_or-map-range_with_len, length-map-range_with_len}
use Rattle.std.proofs.lemmas.List.Folds.{flat_map-map}
use Rattle.std.proofs.lemmas.Simd.{map-map}
use Rattle.zarr_grids_boxes.specs.Boxes.{Region, product, places, place_at, is_in_box, each2}
use Rattle.zarr_grids_boxes.specs.Laid.{laid, HasWidth}
use Rattle.zarr_grids_boxes.proofs.Dimensions.{ravel_below}
use Rattle.zarr_grids_boxes.proofs.Places.{places_by_number, in_box_below, map-range_shift}
use Rattle.zarr_grids_boxes.proofs.InBox.{in_box-place_at, place_at-number, ravel-place_at, length-places}
use Rattle.zarr_grids_overlay.proofs.Blocks.{blocks_congr}
use Rattle.zarr_codecs_meaning.specs.Payloads.{fixed_cells, fixed_in}
use Rattle.zarr_codecs_meaning.specs.Types.{Cell, of_bytes}
use Rattle.zarr_codecs_meaning.proofs.Lists.{Each, every, length-flat_map}
use Rattle.zarr_codecs_meaning.proofs.Elements.{slice_flat}
use Rattle.zarr_array_meaning.specs.Boxes.{cell_of_box}
use Rattle.zarr_array_meaning.specs.Chunks.{number_in}

-- ---- bytes

-- the bytes of the element with a number
abbrev pub text_of : ℕ → List ℕ → ℕ → List ℕ
text_of width bytes n = take width (drop (n * width) bytes)

-- the bytes of the element at a place of a box, and zeros elsewhere
abbrev pub text_at : ℕ → Region → List ℕ → List ℕ → List ℕ
text_at width box bytes place = if is_in_box box.start box.shape place then text_of width bytes (number_in box place) else replicate width 0

length-text : (width : ℕ) (bytes : List ℕ) (count n : ℕ) → length bytes ≡ count * width → n < count → length (text_of width bytes n) ≡ width
length-text width bytes count n long below =
    let within : suc n * width ≤ count * width = grind arith in
    let more : suc n * width ≡ width + n * width = grind arith in
    let rest = length-drop (n * width) bytes in
    length-take width (drop (n * width) bytes) ∙ omega (arith, within, more, rest, long)

-- the elements joined are the bytes
joined_texts : (width : ℕ) (bytes : List ℕ) (a n : ℕ) → flat_map (text_of width bytes) (range_with_len a n) ≡ take (n * width) (drop (a * width) bytes)
joined_texts width bytes a zero = let none : zero * width ≡ 0 = omega arith in sym (ap (λ k. take k (drop (a * width) bytes)) none)
joined_texts width bytes a (suc n) =
    let more : suc n * width ≡ width + n * width = grind arith in
    let next : a * width + width ≡ (a + 1) * width = grind arith in
    ap (λ xs. text_of width bytes a ++ xs) (joined_texts width bytes (a + 1) n ∙ ap (λ k. take (n * width) (drop k bytes)) (sym next) ∙ ap (take (n * width)) (sym (drop-drop width (a * width) bytes)))
    ∙ sym (ap (λ k. take k (drop (a * width) bytes)) more ∙ take-add width (n * width) (drop (a * width) bytes))

pub number_below : (box : Region) (place : List ℕ) → is_in_box box.start box.shape place ≡ true → number_in box place < product box.shape
number_below box place t = ravel_below (each2 (λ p s. p - s) place box.start) box.shape (in_box_below box.start box.shape place t)

text_width : (width : ℕ) (box : Region) (bytes place : List ℕ) (t : Bool) → is_in_box box.start box.shape place ≡ t → length bytes ≡ product box.shape * width → length (if t then text_of width bytes (number_in box place) else replicate width 0) ≡ width
text_width width box bytes place true e long = length-text width bytes (product box.shape) (number_in box place) long (number_below box place e)
text_width width box bytes place false e long = length-replicate width 0

pub texts_width : (width : ℕ) (box : Region) (bytes : List ℕ) → length bytes ≡ product box.shape * width → HasWidth width (text_at width box bytes)
texts_width width box bytes long place = text_width width box bytes place (is_in_box box.start box.shape place) refl long

pub texts_laid : (width : ℕ) (box : Region) (bytes : List ℕ) → length box.start ≡ length box.shape → length bytes ≡ product box.shape * width → bytes ≡ laid (text_at width box bytes) box.start box.shape
texts_laid width box bytes rank long =
    let count = product box.shape in
    let at = place_at box.start box.shape in
    let here : (k : ℕ) → 0 ≤ k → k < 0 + count → text_of width bytes k ≡ text_at width box bytes (at k) = λ k low below.
    let inside = in_box-place_at box.start box.shape k rank (omega (arith, below)) in
    sym (ap (λ (b : Bool). if b then text_of width bytes (number_in box (at k)) else replicate width 0) inside ∙ ap (text_of width bytes) (ravel-place_at box.start box.shape k rank (omega (arith, below)))) in
    let none : 0 * width ≡ 0 = omega arith in
    sym (ap (flat_map (text_at width box bytes)) (places_by_number box.start box.shape rank) ∙ (flat_map-map (text_at width box bytes) at (range_with_len 0 count)
    ∙ (sym (blocks_congr (text_of width bytes) (λ k. text_at width box bytes (at k)) 0 count here)
    ∙ (joined_texts width bytes 0 count ∙ (ap (λ k. take (count * width) (drop k bytes)) none ∙ take_all (count * width) bytes (omega (arith, long)))))))

-- ---- cells

pub cells_laid : (width : ℕ) (box : Region) (texts : List ℕ → List ℕ) → 0 < width → length box.start ≡ length box.shape → HasWidth width texts
    → fixed_cells width (laid texts box.start box.shape) ≡ map (λ place. of_bytes (texts place)) (places box.start box.shape)
cells_laid width box texts some rank wide =
    let count = product box.shape in
    let ps = places box.start box.shape in
    let at = place_at box.start box.shape in
    let bytes = laid texts box.start box.shape in
    let each : Each (λ p. length (texts p) ≡ width) ps = every (λ p. length (texts p) ≡ width) ps wide in
    let many : length ps ≡ count = length-places box.start box.shape rank in
    let long : length bytes ≡ count * width = length-flat_map texts width ps each ∙ ap (λ n. n * width) many in
    let half : length bytes / width ≡ count = ap (λ n. n / width) long ∙ mul-div_cancel count some in
    ap (λ n. map (λ k. of_bytes (text_of width bytes k)) (range_with_len 0 n)) half
    ∙ (map-range_shift (λ k. of_bytes (text_of width bytes k)) (λ k. of_bytes (texts (at k))) 0 0 count (λ i below.
    let at_place : get_or ps i [] ≡ at i = ap (λ (qs : List (List ℕ)). get_or qs i []) (places_by_number box.start box.shape rank) ∙ get_or-map-range_with_len at 0 count i i [] below (omega arith) in
    let start : 0 + i ≡ i = omega arith in
    ap (λ k. of_bytes (text_of width bytes k)) start ∙ (ap of_bytes (slice_flat texts width ps i [] each (omega (arith, many, below)) ∙ ap texts at_place) ∙ sym (ap (λ k. of_bytes (texts (at k))) start)))
    ∙ sym (ap (map (λ place. of_bytes (texts place))) (places_by_number box.start box.shape rank) ∙ map-map (λ place. of_bytes (texts place)) at (range_with_len 0 count)))

-- the cell of a list of the cells at a box's places
pub cell_of_places : (box : Region) (cells : List ℕ → Cell) (fill : Cell) (place : List ℕ) → length box.start ≡ length box.shape → is_in_box box.start box.shape place ≡ true → cell_of_box box (map cells (places box.start box.shape)) fill place ≡ cells place
cell_of_places box cells fill place rank t =
    let count = product box.shape in
    let at = place_at box.start box.shape in
    let n = number_in box place in
    let listed : map cells (places box.start box.shape) ≡ map (λ k. cells (at k)) (range_with_len 0 count) = ap (map cells) (places_by_number box.start box.shape rank) ∙ map-map cells at (range_with_len 0 count) in
    ap (λ (cs : List Cell). get_or cs n fill) listed ∙ (get_or-map-range_with_len (λ k. cells (at k)) 0 count n n fill (number_below box place t) (omega arith) ∙ ap cells (place_at-number box.start box.shape place t))

pub cell_laid : (width : ℕ) (box : Region) (texts : List ℕ → List ℕ) (bytes : List ℕ) (fill : Cell) (place : List ℕ) → 0 < width → length box.start ≡ length box.shape → HasWidth width texts → bytes ≡ laid texts box.start box.shape
    → is_in_box box.start box.shape place ≡ true → cell_of_box box (fixed_cells width bytes) fill place ≡ of_bytes (texts place)
cell_laid width box texts bytes fill place some rank wide is t =
    ap (λ (cs : List Cell). cell_of_box box cs fill place) (ap (fixed_cells width) is ∙ cells_laid width box texts some rank wide) ∙ cell_of_places box (λ p. of_bytes (texts p)) fill place rank t

pub length-fixed_cells : (width count : ℕ) (bytes : List ℕ) → 0 < width → length bytes ≡ count * width → length (fixed_cells width bytes) ≡ count
length-fixed_cells width count bytes some long = length-map-range_with_len (λ k. of_bytes (text_of width bytes k)) 0 (length bytes / width) ∙ (ap (λ n. n / width) long ∙ mul-div_cancel count some)

-- as many bytes as the elements take are those elements
pub fixed_read : (width count : ℕ) (bytes : List ℕ) → 0 < width → length bytes ≡ count * width → fixed_in width bytes ≡ Some (fixed_cells width bytes)
fixed_read width count bytes some long =
    let whole : length bytes % width ≡ 0 = ap (λ n. n % width) {y = count * width + 0} (omega (arith, long)) ∙ mod-mul-add count width 0 some in
    ap (λ (b : Bool). if b && (length bytes % width == 0) then Some (fixed_cells width bytes) else None) (lt-ltb 0 width some)
    ∙ ap (λ (b : Bool). if b then Some (fixed_cells width bytes) else None) (eq-eqb (length bytes % width) 0 whole)
