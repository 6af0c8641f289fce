-- What is stored for a chunk, where all of it is decoded: each place is read as its cell, and cells may be put into it.
use Rattle.std.proofs.Common.{◌≡◌, ◌∙◌, ℕ, ◌<◌, Bool, true, false, ◌&&◌, if◌then◌else◌, List, [], ◌∷◌, map, get_or, refl, sym, ap, Option, Some, None, is_some}
use Rattle.std.specs.Prelude.{unwrap_or}
use Rattle.std.proofs.lemmas.Bool.{lt-ltb}
use Rattle.std.proofs.lemmas.List.{get_or-replicate}
use Rattle.zarr_grids_boxes.specs.Boxes.{Region, product}
use Rattle.zarr_codecs_meaning.specs.Chains.{Chain}
use Rattle.zarr_codecs_meaning.specs.Chunks.{chunk_decoded, chunk_part}
use Rattle.zarr_codecs_meaning.specs.Decoding.{all_there, cell_at, opens}
use Rattle.zarr_codecs_meaning.specs.Fits.{fits}
use Rattle.zarr_codecs_meaning.specs.Types.{Cell, Elements}
use Rattle.zarr_codecs_meaning.proofs.Lists.{if_some, some_same}
use Rattle.zarr_codecs_meaning.proofs.PartReading.{part_read}
use Rattle.zarr_codecs_options.specs.declared.codec_options.CodecOptions.{CodecOptions}
use Rattle.zarr_array_meaning.specs.Chunks.{number_in, fits_box, decoded_in}
use Rattle.zarr_array_meaning.specs.Documents.{Document}
use Rattle.zarr_array_meaning.specs.Writing.{cell_read, is_in_part, opens_in, takes_cells}

-- of a value that is decoded whole, each place is read as its cell
pub part_of_decoded : (chain : Chain) (elements : Elements) (shape : List ℕ) (stored : Option (List ℕ)) (cells : List Cell) (n : ℕ) → fits chain elements.type shape ≡ true → n < product shape → chunk_decoded chain elements shape stored ≡ Some cells
    → chunk_part chain elements shape stored (n ∷ []) ≡ Some (get_or cells n elements.fill ∷ [])
part_of_decoded chain elements shape None cells n fit below h = ap (λ c. Some (c ∷ [])) (sym (get_or-replicate (product shape) n elements.fill elements.fill below) ∙ ap (λ (cs : List Cell). get_or cs n elements.fill) (some_same h))
part_of_decoded chain elements shape (Some value) cells n fit below h = part_read chain elements shape value cells (n ∷ []) fit h (ap (λ (b : Bool). b && true) (lt-ltb n (product shape) below))

-- so that is the cell that is read there
pub read_of_decoded : (document : Document) (box : Region) (stored : Option (List ℕ)) (place : List ℕ) (cells : List Cell) → fits_box document box ≡ true → number_in box place < product box.shape
    → decoded_in document box stored ≡ Some cells → cell_read document box stored place ≡ get_or cells (number_in box place) document.elements.fill
read_of_decoded document box stored place cells fit below h =
    ap (λ (read : Option (List Cell)). get_or (unwrap_or read []) 0 document.elements.fill) (part_of_decoded document.chain document.elements box.shape stored cells (number_in box place) fit below h)

pub opens_decoded : (document : Document) (box : Region) (stored : Option (List ℕ)) (cells : List Cell) → fits_box document box ≡ true → chunk_decoded document.chain document.elements box.shape stored ≡ Some cells → opens_in document box stored ≡ true
opens_decoded document box None cells fit h = refl
opens_decoded document box (Some value) cells fit h =
    (if_some (opens document.chain document.elements box.shape value) (all_there (map (cell_at document.chain document.elements box.shape value) [])) [] (part_read document.chain document.elements box.shape value cells [] fit h refl)).0

either : (b x y : Bool) → x ≡ true → y ≡ true → (if b then x else y) ≡ true
either true x y h k = h
either false x y h k = k

-- cells may be put into what is decoded
pub takes_decoded : (document : Document) (options : CodecOptions) (region box : Region) (stored : Option (List ℕ)) (cells : List Cell) → fits_box document box ≡ true → chunk_decoded document.chain document.elements box.shape stored ≡ Some cells
    → takes_cells document options region box stored ≡ true
takes_decoded document options region box stored cells fit h =
    either (is_in_part document options region box) (opens_in document box stored) (is_some (chunk_decoded document.chain document.elements box.shape stored)) (opens_decoded document box stored cells fit h) (ap is_some h)
