-- A box of new cells put over an array, seen from a subchunk.
use Rattle.std.proofs.Common.{◌≡◌, ℕ, ◌+◌, ◌<◌, List, length, map, get_or, ap, ◌∙◌, sym, arith, Bool, true, false, if◌then◌else◌, inl, inr}
use Rattle.std.specs.List.{range_with_len}
use Rattle.std.proofs.lemmas.Bool.{cases_Bool}
use Rattle.std.proofs.lemmas.List.FromFn.{get_or-map-range_with_len, fill_by_all}
use Rattle.std.proofs.lemmas.Simd.{map-map}
use Rattle.zarr_grids_boxes.specs.Boxes.{Region, product, is_in_box, share_place, place_at, ravel, IsIndex}
use Rattle.zarr_grids_boxes.proofs.Dimensions.{ravel_below}
use Rattle.zarr_grids_boxes.proofs.Places.{places_by_number, map-range_shift}
use Rattle.zarr_grids_boxes.proofs.InBox.{in_box-place_at, ravel-place_at}
use Rattle.zarr_grids_boxes.proofs.Sharing.{share_place-of}
use Rattle.zarr_codecs_meaning.specs.Types.{Cell}
use Rattle.zarr_codecs_meaning.specs.Places.{gather, place_numbers, part_of}
use Rattle.zarr_codecs_meaning.proofs.Covers.{zeros, place_ravel}
use Rattle.zarr_sharding_changes.specs.Regions.{IsInside, whole, cell_after, overlaid}
use Rattle.zarr_sharding_changes.proofs.Subchunks.{place_within}

-- two functions that agree on the numbers below a count
pub same_numbers : {X : Type 0} (f g : ℕ → X) (count : ℕ) → ((n : ℕ) → n < count → f n ≡ g n) → map f (range_with_len 0 count) ≡ map g (range_with_len 0 count)
same_numbers f g count h = map-range_shift f g 0 0 count (λ n below. let e : 0 + n ≡ n = omega arith in ap f e ∙ (h n below ∙ sym (ap g e)))

-- the number that a place of a box has in the array
abbrev pub number_in : List ℕ → Region → ℕ → ℕ
number_in shape box n = ravel (place_at box.start box.shape n) shape

-- the cells of a box, by the numbers of its own places
pub gathered_box : (fill : Cell) (shape : List ℕ) (box : Region) (cells : List Cell) → IsInside box.start box.shape shape → gather fill cells (part_of shape box).places ≡ map (λ n. get_or cells (number_in shape box n) fill) (place_numbers box.shape)
gathered_box fill shape box cells within =
    let same : length box.start ≡ length box.shape = let one = within.starts in let two = within.ends in omega arith in
    ap (λ (found : List (List ℕ)). gather fill cells (map (λ place. ravel place shape) found)) (places_by_number box.start box.shape same)
    ∙ (ap (gather fill cells) (map-map (λ place. ravel place shape) (place_at box.start box.shape) (place_numbers box.shape)) ∙ map-map (λ n. get_or cells n fill) (number_in shape box) (place_numbers box.shape))

-- what the array has at a place afterwards
pub overlaid_at : (fill : Cell) (shape place : List ℕ) (region : Region) (new cells : List Cell) → IsIndex place shape → get_or (overlaid fill (whole shape) region new cells) (ravel place shape) fill ≡ cell_after fill region new place (get_or cells (ravel place shape) fill)
overlaid_at fill shape place region new cells is =
    let n = ravel place shape in
    get_or-map-range_with_len (λ m. cell_after fill region new (place_at (zeros shape) shape m) (get_or cells m fill)) 0 (product shape) n n fill (ravel_below place shape is) (omega arith)
    ∙ ap (λ (found : List ℕ). cell_after fill region new found (get_or cells n fill)) (place_ravel shape place is)

-- what a subchunk has at each of its places afterwards
pub gathered_overlaid : (fill : Cell) (shape : List ℕ) (box region : Region) (new cells : List Cell) → IsInside box.start box.shape shape
    → gather fill (overlaid fill (whole shape) region new cells) (part_of shape box).places ≡ map (λ n. cell_after fill region new (place_at box.start box.shape n) (get_or cells (number_in shape box n) fill)) (place_numbers box.shape)
gathered_overlaid fill shape box region new cells within =
    gathered_box fill shape box (overlaid fill (whole shape) region new cells) within
    ∙ same_numbers (λ n. get_or (overlaid fill (whole shape) region new cells) (number_in shape box n) fill) (λ n. cell_after fill region new (place_at box.start box.shape n) (get_or cells (number_in shape box n) fill)) (product box.shape)
    (λ n below. overlaid_at fill shape (place_at box.start box.shape n) region new cells (place_within box.start box.shape shape n within below))

pub part_overlaid : (fill : Cell) (shape : List ℕ) (box region : Region) (new cells : List Cell) → IsInside box.start box.shape shape
    → gather fill (overlaid fill (whole shape) region new cells) (part_of shape box).places ≡ overlaid fill box region new (gather fill cells (part_of shape box).places)
part_overlaid fill shape box region new cells within =
    let part = gather fill cells (part_of shape box).places in
    let old : ℕ → Cell = λ n. get_or cells (number_in shape box n) fill in
    gathered_overlaid fill shape box region new cells within
    ∙ same_numbers (λ n. cell_after fill region new (place_at box.start box.shape n) (old n)) (λ n. cell_after fill region new (place_at box.start box.shape n) (get_or part n fill)) (product box.shape)
    (λ n below. ap (cell_after fill region new (place_at box.start box.shape n)) (sym (
    ap (λ (found : List Cell). get_or found n fill) (gathered_box fill shape box cells within) ∙ get_or-map-range_with_len old 0 (product box.shape) n n fill below (omega arith))))

-- ---- a subchunk that the region doesn't meet

-- no place of a box lies in one that it shares no place with
pub apart : (ss es ts us : List ℕ) (n : ℕ) → length ss ≡ length es → share_place ss es ts us ≡ false → n < product es → is_in_box ts us (place_at ss es n) ≡ false
apart ss es ts us n same h below = elim (cases_Bool (is_in_box ts us (place_at ss es n))) [
  | inl met ↦ let shared : true ≡ false = sym (share_place-of ss es ts us (place_at ss es n) (in_box-place_at ss es n same below) met) ∙ h in cc
  | inr missed ↦ missed
]

test_false : (b : Bool) (one two : Cell) → b ≡ false → (if b then one else two) ≡ two
test_false b one two h = ap (λ (t : Bool). if t then one else two) h

pub part_kept : (fill : Cell) (shape : List ℕ) (box region : Region) (new cells : List Cell) → IsInside box.start box.shape shape → share_place box.start box.shape region.start region.shape ≡ false
    → gather fill (overlaid fill (whole shape) region new cells) (part_of shape box).places ≡ gather fill cells (part_of shape box).places
part_kept fill shape box region new cells within h =
    let same : length box.start ≡ length box.shape = let one = within.starts in let two = within.ends in omega arith in
    let place = place_at box.start box.shape in
    let old : ℕ → Cell = λ n. get_or cells (number_in shape box n) fill in
    gathered_overlaid fill shape box region new cells within
    ∙ (same_numbers (λ n. cell_after fill region new (place n) (old n)) old (product box.shape)
    (λ n below. test_false _ _ _ (apart box.start box.shape region.start region.shape n same h below))
    ∙ sym (gathered_box fill shape box cells within))

test_true : (b : Bool) (one two : Cell) → b ≡ true → (if b then one else two) ≡ one
test_true b one two h = ap (λ (t : Bool). if t then one else two) h

-- at the places of the region the array has the new cells
pub region_read : (fill : Cell) (shape : List ℕ) (region : Region) (new cells : List Cell) → IsInside region.start region.shape shape → length new ≡ product region.shape
    → gather fill (overlaid fill (whole shape) region new cells) (part_of shape region).places ≡ new
region_read fill shape region new cells within count =
    let same : length region.start ≡ length region.shape = let one = within.starts in let two = within.ends in omega arith in
    gathered_overlaid fill shape region region new cells within
    ∙ sym (fill_by_all (λ n. cell_after fill region new (place_at region.start region.shape n) (get_or cells (number_in shape region n) fill)) new (product region.shape) fill count
    (λ n below. sym (test_true _ _ _ (in_box-place_at region.start region.shape n same below) ∙ ap (λ m. get_or new m fill) (ravel-place_at region.start region.shape n same below))))
