-- Elements of one size put over those of another box.
use Rattle.std.proofs.Common.{◌≡◌, ◌∙◌, ℕ, ◌*◌, ◌<◌, Bool, true, false, if◌then◌else◌, List, [], length, unwrap_or, refl, sym, ap, Some}
use Rattle.zarr_grids_boxes.specs.Boxes.{Region, product, places, is_in_box}
use Rattle.zarr_grids_boxes.specs.Laid.{laid, overlaid, HasWidth}
use Rattle.zarr_grids_boxes.proofs.InBox.{length-places}
use Rattle.zarr_grids_overlay.specs.Overlays.{IsOverlaid}
use Rattle.zarr_codecs_meaning.specs.Payloads.{Payload, fixed, fixed_cells, cells_in}
use Rattle.zarr_codecs_meaning.specs.Types.{DataType, Cell, of_bytes, byte_width}
use Rattle.zarr_codecs_meaning.proofs.Lists.{every, length-flat_map}
use Rattle.zarr_codecs_arrays.specs.Outcomes.{IsCounted}
use Rattle.zarr_array_meaning.specs.Boxes.{cell_of_box}
use Rattle.zarr_array_elements.specs.Boxes.{cells_of, AreOfBox, IsWithin, AreTakenOut, ArePutOver, cells_at}
use Rattle.zarr_array_elements.proofs.FixedCells.{text_at, texts_width, texts_laid, cell_laid, length-fixed_cells}
use Rattle.zarr_array_elements.proofs.Payloads.{fixed_elements, fixed_listed}

-- ---- cells put over others

-- the elements of a box were put over those of a chunk
pub record IsPut (width : ℕ) (region box : Region) (given before after : List ℕ) : Type 0 where
  pub some : 0 < width
  pub region_rank : length region.start ≡ length region.shape
  pub box_rank : length box.start ≡ length box.shape
  pub given_long : length given ≡ product region.shape * width
  pub before_long : length before ≡ product box.shape * width
  pub over : IsOverlaid width box region before given after

abbrev texts_over : ℕ → Region → Region → List ℕ → List ℕ → List ℕ → List ℕ
texts_over width region box given before = overlaid region.start region.shape (text_at width region given) (text_at width box before)

over_width : (width : ℕ) (region box : Region) (given before : List ℕ) → length given ≡ product region.shape * width → length before ≡ product box.shape * width → HasWidth width (texts_over width region box given before)
over_width width region box given before g b p = elim (is_in_box region.start region.shape p) as (λ t. length (if t then text_at width region given p else text_at width box before p) ≡ width) [ true ↦ texts_width width region given g p | false ↦ texts_width width box before b p ]

over_laid : (width : ℕ) (region box : Region) (given before after : List ℕ) → IsPut width region box given before after → after ≡ laid (texts_over width region box given before) box.start box.shape
over_laid width region box given before after put =
    put.over (text_at width box before) (text_at width region given) (texts_width width box before put.before_long) (texts_width width region given put.given_long) (texts_laid width box before put.box_rank put.before_long) (texts_laid width region given put.region_rank put.given_long)

pub length-put : (width : ℕ) (region box : Region) (given before after : List ℕ) → IsPut width region box given before after → length after ≡ product box.shape * width
length-put width region box given before after put =
    let texts = texts_over width region box given before in
    let ps = places box.start box.shape in
    ap length (over_laid width region box given before after put)
    ∙ (length-flat_map texts width ps (every (λ p. length (texts p) ≡ width) ps (over_width width region box given before put.given_long put.before_long)) ∙ ap (λ n. n * width) (length-places box.start box.shape put.box_rank))

cell_over : (width : ℕ) (region box : Region) (given before after : List ℕ) (fill : Cell) (place : List ℕ) → IsPut width region box given before after → is_in_box box.start box.shape place ≡ true
    → cell_of_box box (fixed_cells width after) fill place ≡ of_bytes (texts_over width region box given before place)
cell_over width region box given before after fill place put t =
    cell_laid width box (texts_over width region box given before) after fill place put.some put.box_rank (over_width width region box given before put.given_long put.before_long) (over_laid width region box given before after put) t

pub cell_written : (width : ℕ) (region box : Region) (given before after : List ℕ) (fill : Cell) (place : List ℕ) → IsPut width region box given before after → is_in_box region.start region.shape place ≡ true → is_in_box box.start box.shape place ≡ true
    → cell_of_box box (fixed_cells width after) fill place ≡ cell_of_box region (fixed_cells width given) fill place
cell_written width region box given before after fill place put r t =
    cell_over width region box given before after fill place put t
    ∙ (ap (λ (b : Bool). of_bytes (if b then text_at width region given place else text_at width box before place)) r
    ∙ sym (cell_laid width region (text_at width region given) given fill place put.some put.region_rank (texts_width width region given put.given_long) (texts_laid width region given put.region_rank put.given_long) r))

pub cell_kept : (width : ℕ) (region box : Region) (given before after : List ℕ) (fill : Cell) (place : List ℕ) → IsPut width region box given before after → is_in_box region.start region.shape place ≡ false → is_in_box box.start box.shape place ≡ true
    → cell_of_box box (fixed_cells width after) fill place ≡ cell_of_box box (fixed_cells width before) fill place
cell_kept width region box given before after fill place put r t =
    cell_over width region box given before after fill place put t
    ∙ (ap (λ (b : Bool). of_bytes (if b then text_at width region given place else text_at width box before place)) r
    ∙ sym (cell_laid width box (text_at width box before) before fill place put.some put.box_rank (texts_width width box before put.before_long) (texts_laid width box before put.box_rank put.before_long) t))

-- ---- as the elements of payloads

pub fixed_put : (width : ℕ) (region box : Region) (given before after : List ℕ) (fill : Cell) → IsPut width region box given before after → ArePutOver fill (cells_at region (fixed_cells width given)) (cells_at box (fixed_cells width before)) (fixed_cells width after)
fixed_put width region box given before after fill put = record {
  many = length-fixed_cells width (product box.shape) after put.some (length-put width region box given before after put);
  put = λ place r t. cell_written width region box given before after fill place put r t;
  kept = λ place r t. cell_kept width region box given before after fill place put r t;
}

pub fixed_taken : (width : ℕ) (region box : Region) (given before after : List ℕ) (fill : Cell) → IsPut width region box given before after → IsWithin box region → AreTakenOut fill box region (fixed_cells width given) (fixed_cells width after)
fixed_taken width region box given before after fill put inside = record {
  many = length-fixed_cells width (product box.shape) after put.some (length-put width region box given before after put);
  same = λ place t. cell_written width region box given before after fill place put (inside place t) t;
}

-- elements that a payload is known to be
pub known : (type : DataType) (payload : Payload) (cells : List Cell) → cells_in type payload ≡ Some cells → cells_of type payload ≡ cells
known type payload cells h = ap (λ o. unwrap_or o []) h

pub counted : (type : DataType) (payload : Payload) (cells : List Cell) (count : ℕ) → cells_in type payload ≡ Some cells → length cells ≡ count → IsCounted type payload count (cells_of type payload)
counted type payload cells count h many = record { lists = h ∙ ap (λ cs. Some cs) (sym (known type payload cells h)); many = ap length (known type payload cells h) ∙ many }

-- bytes that are the elements of a box
pub record AreSizedOf (type : DataType) (width : ℕ) (box : Region) (bytes : List ℕ) : Type 0 where
  pub long : length bytes ≡ product box.shape * width
  pub are : cells_of type (fixed bytes) ≡ fixed_cells width bytes

pub sized_of : (type : DataType) (width : ℕ) (box : Region) (bytes : List ℕ) → byte_width type ≡ Some width → AreOfBox type (fixed bytes) box → AreSizedOf type width box bytes
sized_of type width box bytes sized h =
    let elements = fixed_elements type width bytes (cells_of type (fixed bytes)) sized h.lists in
    record { long = elements.long ∙ ap (λ n. n * width) h.many; are = elements.is }

pub fixed_known : (type : DataType) (width count : ℕ) (bytes : List ℕ) → byte_width type ≡ Some width → 0 < width → length bytes ≡ count * width → cells_of type (fixed bytes) ≡ fixed_cells width bytes
fixed_known type width count bytes sized some long = known type (fixed bytes) (fixed_cells width bytes) (fixed_listed type width count bytes sized some long)

pub fixed_counted : (type : DataType) (width count : ℕ) (bytes : List ℕ) → byte_width type ≡ Some width → 0 < width → length bytes ≡ count * width → IsCounted type (fixed bytes) count (cells_of type (fixed bytes))
fixed_counted type width count bytes sized some long = counted type (fixed bytes) (fixed_cells width bytes) count (fixed_listed type width count bytes sized some long) (length-fixed_cells width count bytes some long)
