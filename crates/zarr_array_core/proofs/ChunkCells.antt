-- The cells of a chunk after those of a box were put over them.
use Rattle.std.proofs.Common.{◌≡◌, ◌∙◌, ℕ, zero, suc, ◌+◌, ◌<◌, ◌≤◌, Bool, true, false, ◌&&◌, List, [], ◌∷◌, length, map, get_or, refl, sym, ap, arith, Option, Some}
use Rattle.std.specs.List.{range_with_len, list_all}
use Rattle.std.proofs.lemmas.Bool.{false≢true}
use Rattle.zarr_grids_boxes.specs.Boxes.{Region, product, place_at, is_in_box, share_place}
use Rattle.zarr_grids_boxes.proofs.Sharing.{share_place-has}
use Rattle.zarr_grids_boxes.proofs.InBox.{in_box-place_at, ravel-place_at}
use Rattle.zarr_codecs_meaning.specs.Types.{is_value, Cell}
use Rattle.zarr_codecs_meaning.proofs.Lists.{each_passes, each_get}
use Rattle.zarr_array_meaning.specs.Boxes.{cell_of_box}
use Rattle.zarr_array_meaning.specs.Chunks.{decoded_in, number_in, holds_box}
use Rattle.zarr_array_meaning.specs.Writes.{Write}
use Rattle.zarr_array_elements.specs.Boxes.{AreTakenOut, ArePutOver, cells_at}
use Rattle.zarr_array_elements.proofs.FixedCells.{number_below}
use Rattle.zarr_array_core.specs.ChunkValues.{CellsBecome}

-- ---- values

pub all_in_range : (test : Cell → Bool) (f : ℕ → Cell) (a n : ℕ) → ((k : ℕ) → a ≤ k → k < a + n → test (f k) ≡ true) → list_all test (map f (range_with_len a n)) ≡ true
all_in_range test f a zero h = refl
all_in_range test f a (suc n) h =
    ap (λ (b : Bool). b && list_all test (map f (range_with_len (a + 1) n))) (h a (omega arith) (omega arith)) ∙ all_in_range test f (a + 1) n (λ k low below. h k (omega arith) (omega arith))

pub cell_value : (test : Cell → Bool) (box : Region) (cells : List Cell) (fill : Cell) (place : List ℕ) → test fill ≡ true → list_all test cells ≡ true → test (cell_of_box box cells fill place) ≡ true
cell_value test box cells fill place fine all = each_get (λ c. test c ≡ true) cells (number_in box place) fill (each_passes test cells all) fine

either_value : (test : Cell → Bool) (t : Bool) (region : Bool) (made one other : Cell) → region ≡ t → (region ≡ true → made ≡ one) → (region ≡ false → made ≡ other) → test one ≡ true → test other ≡ true → test made ≡ true
either_value test true region made one other e f g a b = ap test (f e) ∙ a
either_value test false region made one other e f g a b = ap test (g e) ∙ b

-- cells that each pass a test
all_at : (test : Cell → Bool) (cells : List Cell) (d : Cell) → ((k : ℕ) → k < length cells → test (get_or cells k d) ≡ true) → list_all test cells ≡ true
all_at test [] d h = refl
all_at test (c ∷ cs) d h = ap (λ (b : Bool). b && list_all test cs) (h 0 (omega arith)) ∙ all_at test cs d (λ k below. h (suc k) (omega (arith, below)))

at_places : (test : Cell → Bool) (box : Region) (cells : List Cell) (fill : Cell) → length box.start ≡ length box.shape → length cells ≡ product box.shape → ((place : List ℕ) → is_in_box box.start box.shape place ≡ true → test (cell_of_box box cells fill place) ≡ true) → list_all test cells ≡ true
at_places test box cells fill rank many h = all_at test cells fill (λ k below.
    let low : k < product box.shape = omega (arith, below, many) in
    ap (λ n. test (get_or cells n fill)) (sym (ravel-place_at box.start box.shape k rank low)) ∙ h (place_at box.start box.shape k) (in_box-place_at box.start box.shape k rank low))

-- ---- a chunk's cells after a write

-- a chunk that lies in the box
pub whole_become : (write : Write) (box : Region) (made : List Cell) (stored : Option (List ℕ)) → AreTakenOut write.array.document.elements.fill box write.region write.cells made → length write.region.start ≡ length write.region.shape → length box.start ≡ length box.shape → length write.region.start ≡ length box.start
    → is_value write.array.document.elements.type write.array.document.elements.fill ≡ true → list_all (is_value write.array.document.elements.type) write.cells ≡ true → holds_box write.region box ≡ true → CellsBecome write box stored made
whole_become write box made stored taken region_rank box_rank rank fine values holds =
    let fill = write.array.document.elements.fill in
    let test = is_value write.array.document.elements.type in
    record {
      many = taken.many;
      values = at_places test box made fill box_rank taken.many (λ place t. ap test (taken.same place t) ∙ cell_value test write.region write.cells fill place fine values);
      written = λ place r t. taken.same place t;
      kept = λ no. absurd (false≢true (sym no ∙ holds));
    }

-- a chunk of which a part may stay
pub part_become : (write : Write) (box : Region) (before made : List Cell) (stored : Option (List ℕ)) → ArePutOver write.array.document.elements.fill (cells_at write.region write.cells) (cells_at box before) made → length box.start ≡ length box.shape
    → is_value write.array.document.elements.type write.array.document.elements.fill ≡ true → list_all (is_value write.array.document.elements.type) write.cells ≡ true → list_all (is_value write.array.document.elements.type) before ≡ true
    → decoded_in write.array.document box stored ≡ Some before → CellsBecome write box stored made
part_become write box before made stored put box_rank fine values stored_values decoded =
    let fill = write.array.document.elements.fill in
    let test = is_value write.array.document.elements.type in
    record {
      many = put.many;
      values = at_places test box made fill box_rank put.many (λ place t.
          either_value test (is_in_box write.region.start write.region.shape place) (is_in_box write.region.start write.region.shape place) (cell_of_box box made fill place)
          (cell_of_box write.region write.cells fill place) (cell_of_box box before fill place) refl
          (λ r. put.put place r t) (λ r. put.kept place r t)
          (cell_value test write.region write.cells fill place fine values) (cell_value test box before fill place fine stored_values));
      written = λ place r t. put.put place r t;
      kept = λ no. (before, decoded, λ place r t. put.kept place r t);
    }

-- a chunk that shares a place with a box has one
pub shares_some : (region box : Region) → share_place box.start box.shape region.start region.shape ≡ true → 0 < product box.shape
shares_some region box h =
    let common = share_place-has box.start box.shape region.start region.shape h in
    let below = number_below box common.0 common.1 in
    omega (arith, below)
