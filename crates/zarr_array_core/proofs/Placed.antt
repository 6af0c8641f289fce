-- The cells of a chunk's stored put over those of a box.
use Rattle.std.proofs.Common.{◌≡◌, ◌∙◌, ℕ, ◌<◌, ◌&&◌, true, List, [], ◌∷◌, length, get_or, refl, sym, ap, subst, arith, Option, Some, None, Err, option_map}
use Rattle.zarr_grids_boxes.specs.Boxes.{Region, product, place_at, is_in_box, share_place}
use Rattle.zarr_grids_boxes.specs.Cuts.{overlapped, relative}
use Rattle.zarr_grids_boxes.proofs.Dimensions.{ravel_below}
use Rattle.zarr_grids_boxes.proofs.InBox.{in_box-place_at, place_at-number}
use Rattle.zarr_grids_boxes.proofs.Places.{both, in_box_below}
use Rattle.zarr_grids_boxes.proofs.Steps.{in_box_same}
use Rattle.zarr_grids_chunks.specs.Grids.{Grid, IsInGrid}
use Rattle.zarr_codecs_meaning.specs.Chunks.{chunk_part}
use Rattle.zarr_codecs_meaning.specs.Payloads.{Payload, cells_in}
use Rattle.zarr_codecs_meaning.specs.Types.{Cell, DataType}
use Rattle.zarr_codecs_meaning.proofs.Lists.{some_same}
use Rattle.zarr_codecs_arrays.specs.Outcomes.{IsCounted}
use Rattle.zarr_codecs_traits.specs.Indexers.{in_box, numbers_of}
use Rattle.zarr_codecs_traits.specs.Arrays.{coded}
use Rattle.zarr_codecs_traits.specs.Outcomes.{IsPart}
use Rattle.zarr_array_meaning.specs.Boxes.{cell_of_box}
use Rattle.zarr_array_meaning.specs.Chunks.{number_in, fits_box}
use Rattle.zarr_array_meaning.specs.Documents.{Document}
use Rattle.zarr_array_core.specs.Parts.{DecodesElements, IsPlaced, IsLost, MetChunk, ValueStops}
use Rattle.zarr_array_core.specs.declared.error.ChunkError.{ChunkError}
use Rattle.zarr_array_core.specs.declared.error.ChunkError.TheVariants as error
use Rattle.zarr_array_elements.specs.Boxes.{cells_of, ArePutOver, cells_at}
use Rattle.zarr_array_elements.proofs.FixedPuts.{known, counted}
use Rattle.zarr_array_elements.proofs.Meeting.{IsMeeting, meeting}
use Rattle.zarr_array_core.proofs.Selected.{chunk_length, chunk_single, chunk_lost}

-- a chunk has one box
pub same_box : (grid : Grid) (chunk : List ℕ) (box other : Region) → IsInGrid grid chunk box → IsInGrid grid chunk other → box ≡ other
same_box grid chunk box other below over = some_same (sym below.has_box ∙ over.has_box)

-- what the part shows at a place
part_shows : (document : Document) (region box shared part : Region) (stored : Option (List ℕ)) (payload : Payload) (place : List ℕ) → IsMeeting region box shared part
    → (is : IsPart (coded document.chain document.elements box.shape) stored (in_box part) payload) → is_in_box shared.start shared.shape place ≡ true
    → chunk_part document.chain document.elements box.shape stored (number_in box place ∷ []) ≡ Some (cell_of_box shared is.cells document.elements.fill place ∷ [])
part_shows document region box shared part stored payload place meet is t =
    let n = number_in shared place in
    let below : n < product shared.shape = ravel_below _ shared.shape (in_box_below shared.start shared.shape place t) in
    let ns = numbers_of box.shape part in
    let here : get_or ns n 0 ≡ number_in box place = meet.number n below ∙ ap (number_in box) (place_at-number shared.start shared.shape place t) in
    let low : n < length ns = omega (arith, below, meet.many) in
    ap (λ m. chunk_part document.chain document.elements box.shape stored (m ∷ [])) (sym here)
    ∙ chunk_single document.chain document.elements box.shape stored ns is.cells n document.elements.fill is.is low

-- ---- the part over the box
pub placed : (met : MetChunk) (shared part : Region) (payload : Payload) (old new : List Cell) → IsMeeting met.region met.box shared part
    → IsPart (coded met.document.chain met.document.elements met.box.shape) met.stored (in_box part) payload → ArePutOver met.document.elements.fill (cells_at shared (cells_of met.document.elements.type payload)) (cells_at met.region old) new → IsPlaced met old new
placed met shared part payload old new meet is over =
    let cells = known met.document.elements.type payload is.cells is.lists in
    record {
      fit = is.fit;
      shown = λ place in_region in_chunk.
          let inside : is_in_box shared.start shared.shape place ≡ true = meet.both place ∙ (ap (λ b. b && is_in_box met.box.start met.box.shape place) in_region ∙ in_chunk) in
          part_shows met.document met.region met.box shared part met.stored payload place meet is inside
          ∙ ap (λ (cell : Cell). Some (cell ∷ [])) (sym (over.put place inside in_region ∙ ap (λ (cs : List Cell). cell_of_box shared cs met.document.elements.fill place) cells));
      kept = λ place in_region out. over.kept place (meet.both place ∙ (ap (λ b. b && is_in_box met.box.start met.box.shape place) in_region ∙ out)) in_region;
    }

-- ---- why there is no part
lost : (met : MetChunk) (shared part : Region) → IsMeeting met.region met.box shared part → fits_box met.document met.box ≡ true
    → chunk_part met.document.chain met.document.elements met.box.shape met.stored (numbers_of met.box.shape part) ≡ None → IsLost met
lost met shared part meet fit h =
    let ns = numbers_of met.box.shape part in
    let found = chunk_lost met.document.chain met.document.elements met.box.shape met.stored ns h (omega (arith, meet.many, meet.some)) in
    let n = found.0 in
    let low = found.1 in
    let below : n < product shared.shape = omega (arith, low, meet.many) in
    let place = place_at shared.start shared.shape n in
    let inside = both (is_in_box met.region.start met.region.shape place) (is_in_box met.box.start met.box.shape place) (sym (meet.both place) ∙ in_box-place_at shared.start shared.shape n meet.rank below) in
    record {
      fit = fit;
      place = place;
      of_region = inside.0;
      of_chunk = inside.1;
      lost = ap (λ m. chunk_part met.document.chain met.document.elements met.box.shape met.stored (m ∷ [])) (sym (meet.number n below)) ∙ found.2;
    }

pub decode_stops : (met : MetChunk) (shared part : Region) (e : ChunkError) → IsMeeting met.region met.box shared part → DecodesElements met.document met.box.shape met.stored part (Err e) → ValueStops met e
decode_stops met shared part error.Fit meet h = h
decode_stops met shared part (error.Storage s) meet h = h
decode_stops met shared part error.Damage meet h = lost met shared part meet h.0 h.1
decode_stops met shared part error.Codec meet h = h
decode_stops met shared part error.Size meet h = h
decode_stops met shared part error.Memory meet h = h

-- ---- a box that shares a place with a chunk

pub meets : (region own shared part : Region) → share_place own.start own.shape region.start region.shape ≡ true → shared ≡ overlapped region own → part ≡ relative shared own.start → IsMeeting region own shared part
meets region own shared part share e f =
    subst (λ (p : Region). IsMeeting region own shared p) (sym f) (subst (λ (s : Region). IsMeeting region own s (relative s own.start)) (sym e) (meeting region own share))

-- ---- how many elements there are

so_many : (type : DataType) (payload : Payload) (n : ℕ) (o : Option (List Cell)) → cells_in type payload ≡ o → Some n ≡ option_map (λ (cells : List Cell). length cells) o → IsCounted type payload n (cells_of type payload)
so_many type payload n None e h = cc
so_many type payload n (Some cells) e h = counted type payload cells n e (sym (some_same h))

pub are_many : (type : DataType) (payload : Payload) (n : ℕ) → Some n ≡ option_map (λ (cells : List Cell). length cells) (cells_in type payload) → IsCounted type payload n (cells_of type payload)
are_many type payload n h = so_many type payload n (cells_in type payload) refl h

pub not_many : (type : DataType) (payload : Payload) (found : Option ℕ) (count : ℕ) (cells : List Cell) → found ≡ option_map (λ (cells : List Cell). length cells) (cells_in type payload) → IsCounted type payload count cells → found ≡ Some count
not_many type payload found count cells h are = h ∙ (ap (option_map (λ (cells : List Cell). length cells)) are.lists ∙ ap (λ n. Some n) are.many)

-- the elements of a part are as many as the places that it shares
pub part_counted : (document : Document) (region box shared part : Region) (stored : Option (List ℕ)) (payload : Payload) → IsMeeting region box shared part → (is : IsPart (coded document.chain document.elements box.shape) stored (in_box part) payload)
    → IsCounted document.elements.type payload (product shared.shape) is.cells
part_counted document region box shared part stored payload meet is = record {
  lists = is.lists;
  many = chunk_length document.chain document.elements box.shape stored (numbers_of box.shape part) is.cells is.is ∙ meet.many;
}

-- the shared places begin with as many numbers
pub ranks_alike : (region own shared part : Region) → IsMeeting region own shared part → length shared.start ≡ length region.start
ranks_alike region own shared part meet =
    let place = place_at shared.start shared.shape 0 in
    let here = in_box-place_at shared.start shared.shape 0 meet.rank meet.some in
    let there = (both (is_in_box region.start region.shape place) (is_in_box own.start own.shape place) (sym (meet.both place) ∙ here)).0 in
    sym (in_box_same shared.start shared.shape place here).1 ∙ (in_box_same region.start region.shape place there).1
