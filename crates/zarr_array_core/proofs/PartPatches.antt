-- The value of a chunk into which the elements of a box were written.
use Rattle.std.proofs.Common.{◌≡◌, ◌∙◌, ℕ, ◌-◌, ◌*◌, ◌<◌, ◌&&◌, if◌then◌else◌, Bool, true, false, List, [], ◌∷◌, length, map, get_or, refl, sym, ap, subst, arith, Option, Some, None, Ok, option_map, zero, suc, unwrap_or, IfSome, IsTrue}
use Rattle.std.specs.List.{list_all}
use Rattle.std.specs.FinMap.{get, insert}
use Rattle.std.proofs.lemmas.Bool.{false≢true}
use Rattle.std.proofs.lemmas.List.{length-map}
use Rattle.zarr_grids_boxes.specs.Boxes.{Region, product, place_at, ravel, each2, is_in_box, share_place}
use Rattle.zarr_grids_boxes.specs.Cuts.{overlapped, relative}
use Rattle.zarr_grids_boxes.proofs.InBox.{in_box-place_at, ravel-place_at, length-places}
use Rattle.zarr_grids_boxes.proofs.Places.{both, length-each2}
use Rattle.zarr_grids_boxes.proofs.Steps.{in_box_same}
use Rattle.zarr_codecs_meaning.specs.Decoding.{decoded}
use Rattle.zarr_codecs_meaning.specs.Encoding.{encoded}
use Rattle.zarr_codecs_meaning.specs.Fits.{is_lossless}
use Rattle.zarr_codecs_meaning.specs.Payloads.{Payload}
use Rattle.zarr_codecs_meaning.specs.Places.{places_of}
use Rattle.zarr_codecs_meaning.specs.Standing.{Stands}
use Rattle.zarr_codecs_meaning.specs.Types.{Cell, is_value, is_fill, same_cell, bytes_in, components, byte_width}
use Rattle.zarr_codecs_meaning.proofs.Lists.{all_pass, each_map, map_some, some_same, if_some}
use Rattle.zarr_codecs_traits.specs.Arrays.{coded}
use Rattle.zarr_codecs_traits.specs.PartEncoding.{EncodesPart, IsEncodedPart, DecodesBySize, cells_with_box, takes_patches}
use Rattle.zarr_codecs_traits.specs.Patches.{Patch, patched, patches_in}
use Rattle.zarr_codecs_traits.specs.declared.value_patch.ValuePatches.{ValuePatches}
use Rattle.zarr_codecs_traits.proofs.PartValues.{patched_decode}
use Rattle.zarr_array_storage.specs.Ranges.{patched_at}
use Rattle.zarr_array_storage.specs.Stores.{HasBytesAt}
use Rattle.zarr_array_meaning.specs.Boxes.{cell_of_box}
use Rattle.zarr_array_meaning.specs.Chunks.{number_in, holds_box, fits_box}
use Rattle.zarr_array_meaning.specs.Documents.{Document}
use Rattle.zarr_array_meaning.specs.StoreMaps.{StoreMap}
use Rattle.zarr_array_meaning.specs.Writes.{Write}
use Rattle.zarr_array_meaning.specs.Writing.{keeps_fill}
use Rattle.zarr_array_core.specs.ChunkValues.{CellsBecome, MakesValue, NewValueStops, with_value}
use Rattle.zarr_array_core.specs.PartWrites.{PatchesChunk}
use Rattle.zarr_array_core.specs.declared.error.ChunkError.TheVariants as error
use Rattle.zarr_array_core.proofs.ChunkPayloads.{AreArrayElements, decoded_chunk_values}
use Rattle.zarr_array_elements.proofs.FixedCells.{cell_of_places, number_below}
use Rattle.zarr_array_elements.proofs.Meeting.{IsMeeting, in_zeros, meeting}
use Rattle.zarr_array_core.proofs.PartBoxes.{in_part, minus_zeros, number_in_part}

-- ---- tests of all cells

abbrev Fails : {X : Type 0} → (X → Bool) → List X → Type 0
Fails {X} test xs = (n : ℕ) × (n < length xs) × ((d : X) → test (get_or xs n d) ≡ false)

failing_next : {X : Type 0} (test : X → Bool) (x : X) (xs : List X) (t : Bool) → test x ≡ t → (t && list_all test xs) ≡ false → (list_all test xs ≡ false → Fails test xs) → Fails test (x ∷ xs)
failing_next test x xs true e h rest = let found = rest h in (suc found.0, (let low = found.1 in omega (arith, low)), λ d. found.2 d)
failing_next test x xs false e h rest = (zero, omega arith, λ d. e)

-- a cell that fails
failing : {X : Type 0} (test : X → Bool) (xs : List X) → list_all test xs ≡ false → Fails test xs
failing test [] h = absurd (false≢true (sym h))
failing test (x ∷ xs) h = failing_next test x xs (test x) refl h (failing test xs)

passing : {X : Type 0} (test : X → Bool) (xs : List X) (n : ℕ) (d : X) → list_all test xs ≡ true → n < length xs → test (get_or xs n d) ≡ true
passing test [] n d h low = absurd (omega (arith, low))
passing test (x ∷ xs) zero d h low = (both (test x) (list_all test xs) h).0
passing test (x ∷ xs) (suc n) d h low = passing test xs n d (both (test x) (list_all test xs) h).1 (omega (arith, low))

-- ---- the cells of a chunk after those of a part were replaced

-- a box, a chunk, and the places that they share
abbrev shared_of : Region → Region → Region
shared_of region box = overlapped region box

abbrev part_of : Region → Region → Region
part_of region box = relative (overlapped region box) box.start

abbrev new_cells : Cell → Region → Region → List Cell → List Cell → List Cell
new_cells fill region box given before = cells_with_box box.shape fill (part_of region box) given before

-- the cell at a place of the chunk
abbrev cell_there : Cell → Region → Region → List Cell → List Cell → List ℕ → Cell
cell_there fill region box given before place = if is_in_box (shared_of region box).start (shared_of region box).shape place then cell_of_box (shared_of region box) given fill place else cell_of_box box before fill place

abbrev cell_from : Cell → Region → List ℕ → List Cell → List Cell → List ℕ → Cell
cell_from fill part shape given before place = if is_in_box part.start part.shape place then get_or given (number_in part place) fill else get_or before (ravel place shape) fill

choice : (b c : Bool) (x y z : Cell) → b ≡ c → x ≡ y → (if b then x else z) ≡ (if c then y else z)
choice b c x y z e f = ap (λ (d : Bool). if d then x else z) e ∙ ap (λ (w : Cell). if c then w else z) f

new_cell : (fill : Cell) (region box : Region) (given before : List Cell) (place : List ℕ) → length region.start ≡ length box.start → is_in_box box.start box.shape place ≡ true
    → cell_of_box box (new_cells fill region box given before) fill place ≡ cell_there fill region box given before place
new_cell fill region box given before place rank t =
    let zeros : List ℕ = map (λ _. 0) box.shape in
    let whole : Region = record { start = zeros; shape = box.shape } in
    let moved = each2 (λ p s. p - s) place box.start in
    let same = in_box_same box.start box.shape place t in
    let long : length moved ≡ length box.shape = length-each2 (λ p s. p - s) place box.start same.1 ∙ (same.1 ∙ sym same.0) in
    let none : each2 (λ p s. p - s) moved zeros ≡ moved = minus_zeros box.shape moved long in
    let inside : is_in_box zeros box.shape moved ≡ true = in_zeros box.start box.shape place t in
    ap (λ ps. get_or (new_cells fill region box given before) (ravel ps box.shape) fill) (sym none)
    ∙ (cell_of_places whole (cell_from fill (part_of region box) box.shape given before) fill moved (length-map box.shape (λ _. 0)) inside
    ∙ choice (is_in_box (part_of region box).start (part_of region box).shape moved) (is_in_box (shared_of region box).start (shared_of region box).shape place)
    (get_or given (number_in (part_of region box) moved) fill) (cell_of_box (shared_of region box) given fill place) (cell_of_box box before fill place)
    (in_part region box place rank t) (ap (λ n. get_or given n fill) (number_in_part region box place rank t)))

cell_in : (fill : Cell) (region box : Region) (given before : List Cell) (place : List ℕ) → length region.start ≡ length box.start → is_in_box box.start box.shape place ≡ true → is_in_box (shared_of region box).start (shared_of region box).shape place ≡ true
    → cell_of_box box (new_cells fill region box given before) fill place ≡ cell_of_box (shared_of region box) given fill place
cell_in fill region box given before place rank t s =
    new_cell fill region box given before place rank t
    ∙ ap (λ (b : Bool). if b then cell_of_box (shared_of region box) given fill place else cell_of_box box before fill place) s

cell_out : (fill : Cell) (region box : Region) (given before : List Cell) (place : List ℕ) → length region.start ≡ length box.start → is_in_box box.start box.shape place ≡ true → is_in_box (shared_of region box).start (shared_of region box).shape place ≡ false
    → cell_of_box box (new_cells fill region box given before) fill place ≡ cell_of_box box before fill place
cell_out fill region box given before place rank t s =
    new_cell fill region box given before place rank t
    ∙ ap (λ (b : Bool). if b then cell_of_box (shared_of region box) given fill place else cell_of_box box before fill place) s

either : (test : Cell → Bool) (b : Bool) (x y : Cell) → test x ≡ true → test y ≡ true → test (if b then x else y) ≡ true
either test true x y h k = h
either test false x y h k = k

one_value : (test : Cell → Bool) (xs : List Cell) (n : ℕ) (d : Cell) → list_all test xs ≡ true → test d ≡ true → test (get_or xs n d) ≡ true
one_value test [] n d all fine = fine
one_value test (x ∷ xs) zero d all fine = (both (test x) (list_all test xs) all).0
one_value test (x ∷ xs) (suc n) d all fine = one_value test xs n d (both (test x) (list_all test xs) all).1 fine

new_values : (test : Cell → Bool) (fill : Cell) (region box : Region) (given before : List Cell) → test fill ≡ true → list_all test given ≡ true → list_all test before ≡ true → list_all test (new_cells fill region box given before) ≡ true
new_values test fill region box given before fine some others =
    let part = part_of region box in
    let cell = cell_from fill part box.shape given before in
    all_pass test (map cell (places_of box.shape)) (each_map (λ c. test c ≡ true) cell (places_of box.shape) (λ place.
    either test (is_in_box part.start part.shape place) (get_or given (number_in part place) fill) (get_or before (ravel place box.shape) fill)
    (one_value test given (number_in part place) fill some fine) (one_value test before (ravel place box.shape) fill others fine)))

new_length : (fill : Cell) (region box : Region) (given before : List Cell) → length (new_cells fill region box given before) ≡ product box.shape
new_length fill region box given before =
    length-map (places_of box.shape) (cell_from fill (part_of region box) box.shape given before) ∙ length-places (map (λ _. 0) box.shape) box.shape (length-map box.shape (λ _. 0))

-- cells with one that isn't fill
not_filled : (fill : Cell) (region box : Region) (given before : List Cell) → length region.start ≡ length box.start → IsMeeting region box (shared_of region box) (part_of region box) → length given ≡ product (shared_of region box).shape
    → is_fill fill given ≡ false → is_fill fill (new_cells fill region box given before) ≡ true → ⊥
not_filled fill region box given before rank meet many some all =
    let test : Cell → Bool = λ cell. same_cell cell fill in
    let shared = shared_of region box in
    let found = failing test given some in
    let n = found.0 in
    let low = found.1 in
    let below : n < product shared.shape = omega (arith, low, many) in
    let place = place_at shared.start shared.shape n in
    let inside = in_box-place_at shared.start shared.shape n meet.rank below in
    let of_box = (both (is_in_box region.start region.shape place) (is_in_box box.start box.shape place) (sym (meet.both place) ∙ inside)).1 in
    let here : get_or (new_cells fill region box given before) (number_in box place) fill ≡ get_or given n fill =
    cell_in fill region box given before place rank of_box inside ∙ ap (λ m. get_or given m fill) (ravel-place_at shared.start shared.shape n meet.rank below) in
    let numbered = number_below box place of_box in
    let fills = passing test (new_cells fill region box given before) (number_in box place) fill all (let long = new_length fill region box given before in omega (arith, numbered, long)) in
    false≢true (sym (found.2 fill) ∙ (ap test (sym here) ∙ fills))

unless_all : (b : Bool) → (b ≡ true → ⊥) → b ≡ false
unless_all true h = absurd (h refl)
unless_all false h = refl

-- ---- the value

-- elements of a box that lie in a chunk, to be written into its value
pub record AreShared (write : Write) (box : Region) (payload : Payload) (sub : List Cell) (store_empty : Bool) : Type 0 where
  pub share : share_place box.start box.shape write.region.start write.region.shape ≡ true
  pub rank : length write.region.start ≡ length box.start
  pub fit : fits_box write.array.document box ≡ true
  pub fine : is_value write.array.document.elements.type write.array.document.elements.fill ≡ true
  pub are : AreArrayElements write.array.document.elements (overlapped write.region box).shape payload sub
  pub becomes : CellsBecome write (overlapped write.region box) None sub
  pub some : store_empty ≡ false → is_fill write.array.document.elements.fill sub ≡ false

-- the cells that the codec put into the value are those of the box
put_cells : (write : Write) (exact : Bool) (box : Region) (payload : Payload) (sub : List Cell) (store_empty : Bool) (patches : List Patch) → AreShared write box payload sub store_empty
    → (h : IsEncodedPart (coded write.array.document.chain write.array.document.elements box.shape) exact (part_of write.region box) payload patches) → h.cells ≡ sub
put_cells write exact box payload sub store_empty patches are h =
    some_same (sym h.valid.is.lists ∙ are.are.valid.is.lists)

part_stands : (write : Write) (exact : Bool) (box : Region) (payload : Payload) (sub : List Cell) (store_empty : Bool) (patches : List Patch) → AreShared write box payload sub store_empty
    → IsEncodedPart (coded write.array.document.chain write.array.document.elements box.shape) exact (part_of write.region box) payload patches → (value : List ℕ) (before : List Cell) → decoded write.array.document.chain write.array.document.elements box.shape value ≡ Some before
    → is_lossless write.array.document.chain write.array.document.elements.type ≡ true → Stands write.array.document.chain write.array.document.elements box.shape (patched value patches) (new_cells write.array.document.elements.fill write.region box sub before)
part_stands write exact box payload sub store_empty patches are h value before is lossless =
    subst (λ (cs : List Cell). Stands write.array.document.chain write.array.document.elements box.shape (patched value patches) (new_cells write.array.document.elements.fill write.region box cs before)) (put_cells write exact box payload sub store_empty patches are h)
    (h.stands lossless value before is)

part_encoded : (write : Write) (exact : Bool) (box : Region) (payload : Payload) (sub : List Cell) (store_empty : Bool) (patches : List Patch) → AreShared write box payload sub store_empty
    → IsEncodedPart (coded write.array.document.chain write.array.document.elements box.shape) exact (part_of write.region box) payload patches → (value : List ℕ) (before : List Cell) → decoded write.array.document.chain write.array.document.elements box.shape value ≡ Some before
    → IsTrue exact → encoded write.array.document.chain write.array.document.elements box.shape (new_cells write.array.document.elements.fill write.region box sub before) ≡ Some (patched value patches)
part_encoded write exact box payload sub store_empty patches are h value before is one =
    subst (λ (cs : List Cell). encoded write.array.document.chain write.array.document.elements box.shape (new_cells write.array.document.elements.fill write.region box cs before) ≡ Some (patched value patches)) (put_cells write exact box payload sub store_empty patches are h)
    (h.encodes one value before is)

part_become : (write : Write) (box : Region) (payload : Payload) (sub : List Cell) (store_empty : Bool) (value : List ℕ) (before : List Cell) → AreShared write box payload sub store_empty → decoded write.array.document.chain write.array.document.elements box.shape value ≡ Some before
    → CellsBecome write box (Some value) (new_cells write.array.document.elements.fill write.region box sub before)
part_become write box payload sub store_empty value before are is =
    let fill = write.array.document.elements.fill in
    let test = is_value write.array.document.elements.type in
    let meet = meeting write.region box are.share in
    let others = decoded_chunk_values write.array.document.chain write.array.document.elements box.shape (Some value) before are.fine are.fit is in
    record {
      many = new_length fill write.region box sub before;
      values = new_values test fill write.region box sub before are.fine are.are.valid.values others;
      written = λ place r t.
          let s : is_in_box (overlapped write.region box).start (overlapped write.region box).shape place ≡ true = meet.both place ∙ (ap (λ (b : Bool). b && is_in_box box.start box.shape place) r ∙ t) in
          cell_in fill write.region box sub before place are.rank t s ∙ are.becomes.written place r s;
      kept = λ no. (
        before,
        is,
        λ place r t.
            let s : is_in_box (overlapped write.region box).start (overlapped write.region box).shape place ≡ false = meet.both place ∙ ap (λ (b : Bool). b && is_in_box box.start box.shape place) r in
            cell_out fill write.region box sub before place are.rank t s,
      );
    }

-- the ranges of a codec, written into a chunk's value
pub part_patches : (write : Write) (box : Region) (payload : Payload) (sub : List Cell) (patches : ValuePatches) → AreShared write box payload sub (keeps_fill write box)
    → EncodesPart (coded write.array.document.chain write.array.document.elements box.shape) write.array.exact (part_of write.region box) payload (Ok (Some patches)) → PatchesChunk write box (patches_in patches)
part_patches write box payload sub patches are h =
    let exact = write.array.exact in
    let region = write.region in
    let store_empty = keeps_fill write box in
    let fill = write.array.document.elements.fill in
    let meet = meeting region box are.share in
    record {
      near = h.near;
      makes = λ value before is.
          let cells = new_cells fill region box sub before in
          record {
            fit = are.fit;
            cells = cells;
            becomes = part_become write box payload sub store_empty value before are is;
            is = record {
              absent = λ none. let no : Some (patched value (patches_in patches)) ≡ None = none in cc;
              present = λ made same empty. unless_all (is_fill fill cells) (not_filled fill region box sub before are.rank meet are.becomes.many (are.some empty));
              stands = part_stands write exact box payload sub store_empty (patches_in patches) are h value before is;
              encodes = λ one made same. part_encoded write exact box payload sub store_empty (patches_in patches) are h value before is one ∙ same;
            };
          };
    }

-- whatever ranges it gave
pub found_patches : (write : Write) (box : Region) (payload : Payload) (sub : List Cell) (found : Option ValuePatches) → AreShared write box payload sub (keeps_fill write box)
    → EncodesPart (coded write.array.document.chain write.array.document.elements box.shape) write.array.exact (part_of write.region box) payload (Ok found) → IfSome found (λ patches. PatchesChunk write box (patches_in patches))
found_patches write box payload sub None are h = tt
found_patches write box payload sub (Some patches) are h = part_patches write box payload sub patches are h

-- ---- values of the right size

-- what is stored where a value has so many bytes
pub record IsSized (document : Document) (width : ℕ) (held : StoreMap) (key : List ℕ) (size : ℕ) : Type 0 where
  pub sized : byte_width document.elements.type ≡ Some width
  pub takes : takes_patches document.chain document.elements.type ≡ true
  pub bytes : HasBytesAt held key
  pub told : Some size ≡ option_map length (get held key)

element_bytes : (document : Document) (width : ℕ) (held : StoreMap) (key : List ℕ) (size : ℕ) → IsSized document width held key size → bytes_in (components document.elements.type) ≡ width
element_bytes document width held key size is = some_same (if_some _ (Some (bytes_in (components document.elements.type))) width is.sized).1

no_value : (o : Option (List ℕ)) → None ≡ option_map length o → o ≡ None
no_value None h = refl
no_value (Some value) h = absurd (cc)

found_value : (held : StoreMap) (key : List ℕ) (size : ℕ) → Some size ≡ option_map length (get held key) → (value : List ℕ) × (get held key ≡ Some value) × (length value ≡ size)
found_value held key size h = map_some length (get held key) size (sym h)

-- no size is told of no value
pub absent_value : (held : StoreMap) (key : List ℕ) → None ≡ option_map length (get held key) → get held key ≡ None
absent_value held key h = no_value (get held key) h

by_size : (document : Document) (width : ℕ) (held : StoreMap) (key shape value : List ℕ) (size : ℕ) → IsSized document width held key size → get held key ≡ Some value → DecodesBySize document.chain document.elements shape value
by_size document width held key shape value size is found = patched_decode document.chain document.elements shape value is.takes (is.bytes value found)

pub sized_part : (write : Write) (width : ℕ) (box : Region) (patches : List Patch) (held new : StoreMap) (key : List ℕ) (size : ℕ) → IsSized write.array.document width held key size → size ≡ product box.shape * width
    → PatchesChunk write box patches → new ≡ insert held key (patched_at held key patches)
    → (made : Option (List ℕ)) × MakesValue write box (get held key) made × (new ≡ with_value held key made)
sized_part write width box patches held new key size is right h e =
    let document = write.array.document in
    let found = found_value held key size is.told in
    let value = found.0 in
    let long : length value ≡ product box.shape * bytes_in (components document.elements.type) = found.2 ∙ (right ∙ ap (λ w. product box.shape * w) (sym (element_bytes document width held key size is))) in
    let cells = (by_size document width held key box.shape value size is found.1).sized long in
    let made = Some (patched value patches) in (
      made,
      subst (λ (stored : Option (List ℕ)). MakesValue write box stored made) (sym found.1) (h.makes value cells.0 cells.1),
      e ∙ ap (λ (stored : Option (List ℕ)). insert held key (patched (unwrap_or stored []) patches)) found.1,
    )

undecoded : (o : Option (List Cell)) → ((cells : List Cell) → o ≡ Some cells → ⊥) → o ≡ None
undecoded None h = refl
undecoded (Some cells) h = absurd (h cells refl)

pub unsized_part : (write : Write) (width : ℕ) (box : Region) (held : StoreMap) (key : List ℕ) (size : ℕ) → IsSized write.array.document width held key size → (size ≡ product box.shape * width → ⊥)
    → fits_box write.array.document box ≡ true → holds_box write.region box ≡ false → NewValueStops write box (get held key) error.Damage
unsized_part write width box held key size is wrong fit part =
    let document = write.array.document in
    let found = found_value held key size is.told in
    let value = found.0 in
    let none : decoded document.chain document.elements box.shape value ≡ None = undecoded (decoded document.chain document.elements box.shape value) (λ cells e.
    wrong (sym found.2 ∙ ((by_size document width held key box.shape value size is found.1).only cells e ∙ ap (λ w. product box.shape * w) (element_bytes document width held key size is)))) in
    subst (λ (stored : Option (List ℕ)). NewValueStops write box stored error.Damage) (sym found.1) (fit, (part, none))
