-- What the new value of one chunk makes of a store.
use Rattle.std.proofs.Common.{◌≡◌, ◌≢◌, ◌∙◌, ℕ, zero, suc, ◌<◌, Bool, IsTrue, true, false, if◌then◌else◌, ◌&&◌, ◌||◌, cond, List, [], ◌∷◌, length, map, get_or, replicate, refl, sym, ap, subst, arith, Option, Some, None, is_some, ⊎_elim, inl, inr, bytes_eq}
use Rattle.std.specs.Prelude.{MatchBool, not}
use Rattle.std.specs.List.{range_with_len, list_all}
use Rattle.std.specs.FinMap.{get, get-insert, get-remove}
use Rattle.std.proofs.Math.Bool.{and-true, and-false}
use Rattle.std.proofs.lemmas.Bool.{false≢true, lt-ltb}
use Rattle.std.proofs.lemmas.Cmp.{nat_list_cmp_total}
use Rattle.std.proofs.lemmas.List.{ext_get_or, length-replicate}
use Rattle.std.proofs.lemmas.List.FromFn.{get_or-map-range_with_len, length-map-range_with_len}
use Rattle.std.proofs.lemmas.Map.Text.{is_eq-slice_cmp}
use Rattle.std.proofs.lemmas.Option.{none-some}
use Rattle.std.proofs.lemmas.Simd.{map-map}
use Rattle.std.proofs.lemmas.Slice.Eq.{bytes_eq-Decides}
use Rattle.zarr_grids_boxes.specs.Boxes.{Region, product, places, place_at, is_in_box}
use Rattle.zarr_grids_boxes.proofs.Places.{places_by_number}
use Rattle.zarr_grids_boxes.proofs.InBox.{in_box-place_at, ravel-place_at}
use Rattle.zarr_grids_chunks.specs.Grids.{Grid, IsInGrid, chunk_box, lies_in_chunk}
use Rattle.zarr_grids_chunks.proofs.Filters.{told}
use Rattle.zarr_grids_chunks.proofs.Partition.{lies_here}
use Rattle.zarr_grids_cover.proofs.ChunkBoxes.{chunk_box-rank}
use Rattle.zarr_grids_cover.proofs.ChunkLaws.{chunks_apart}
use Rattle.zarr_grids_keys.specs.Keys.{chunk_key}
use Rattle.zarr_codecs_meaning.specs.Chains.{Chain}
use Rattle.zarr_codecs_meaning.specs.Chunks.{chunk_decoded, chunk_part, IsStored}
use Rattle.zarr_codecs_meaning.specs.Encoding.{ordered}
use Rattle.zarr_codecs_meaning.specs.Fits.{fits, is_lossless, is_plain}
use Rattle.zarr_codecs_meaning.specs.Laws.{AreCells, IsLawfulChain}
use Rattle.zarr_codecs_meaning.specs.Standing.{Stands, ChunkStands}
use Rattle.zarr_codecs_meaning.specs.Types.{Cell, Elements, of_bytes, absent, present, cell_bytes, components, is_value, is_fill, same_cell}
use Rattle.zarr_codecs_meaning.proofs.Chunks.{stored_decoded, stored_part, stored_once}
use Rattle.zarr_codecs_meaning.proofs.DecodedElements.{all_filled}
use Rattle.zarr_codecs_meaning.proofs.Lists.{some_same}
use Rattle.zarr_codecs_meaning.proofs.Tight.{encoded_tight, tight_stands}
use Rattle.zarr_codecs_traits.specs.PartWriting.{ChunkTight}
use Rattle.zarr_array_meaning.specs.Arrays.{Array, value_at}
use Rattle.zarr_array_meaning.specs.Boxes.{cell_of_box}
use Rattle.zarr_array_meaning.specs.Chunks.{number_in, fits_box, part_at, ReadsCell, holds_box, is_listed}
use Rattle.zarr_array_meaning.specs.Documents.{Document}
use Rattle.zarr_array_meaning.specs.ElementBytes.{KeepsBytes}
use Rattle.zarr_array_meaning.specs.Standing.{ChunkStandsAt, ChunkTightAt, IsLossless, IsGood, AreValues}
use Rattle.zarr_array_meaning.specs.StoreMaps.{StoreMap}
use Rattle.zarr_array_meaning.specs.Writes.{Write}
use Rattle.zarr_array_meaning.specs.Writing.{ChunkBecomes, IsKeyed, HasKeys, StopsInto, Takes, WroteChunks, cell_read, given_cell, goes_into_shard, is_in_part, keeps_fill, may_be_in_part, opens_in, takes_cells, written_over}
use Rattle.zarr_array_core.specs.ChunkValues.{CellsBecome, ChangesValue, IsNewValue, MakesValue, PutsPart, with_value}
use Rattle.zarr_array_meaning.proofs.HeldBoxes.{held_place, not_held}
use Rattle.zarr_array_meaning.proofs.TakenParts.{part_of_decoded, read_of_decoded, takes_decoded}
use Rattle.zarr_array_core.proofs.InParts.{keeps_bits, parts_of_write}
use Rattle.zarr_array_core.proofs.ChunkCells.{all_in_range}
use Rattle.zarr_array_core.proofs.PlainBytes.{order_of, told_bytes}
use Rattle.zarr_array_elements.proofs.FixedCells.{cell_of_places, number_below}
use Rattle.zarr_array_core.proofs.Listed.{listed_one, one_listed}

-- ---- lists of the cells of a box

-- cells that are those at the places of a box
pub cells_at_places : (box : Region) (cells : List Cell) (at_place : List ℕ → Cell) (fill : Cell) → length box.start ≡ length box.shape → length cells ≡ product box.shape
    → ((place : List ℕ) → is_in_box box.start box.shape place ≡ true → cell_of_box box cells fill place ≡ at_place place) → cells ≡ map at_place (places box.start box.shape)
cells_at_places box cells at_place fill rank many h =
    let count = product box.shape in
    let at = place_at box.start box.shape in
    let listed : map at_place (places box.start box.shape) ≡ map (λ k. at_place (at k)) (range_with_len 0 count) = ap (map at_place) (places_by_number box.start box.shape rank) ∙ map-map at_place at (range_with_len 0 count) in
    ext_get_or fill cells (map (λ k. at_place (at k)) (range_with_len 0 count)) (many ∙ sym (length-map-range_with_len (λ k. at_place (at k)) 0 count))
    (λ i below.
    let low : i < count = omega (arith, many, below) in
    ap (λ k. get_or cells k fill) (sym (ravel-place_at box.start box.shape i rank low)) ∙ (h (at i) (in_box-place_at box.start box.shape i rank low) ∙ sym (get_or-map-range_with_len (λ k. at_place (at k)) 0 count i i fill low (omega arith))))
    ∙ sym listed

pub length-at_places : (box : Region) (at_place : List ℕ → Cell) → length box.start ≡ length box.shape → length (map at_place (places box.start box.shape)) ≡ product box.shape
length-at_places box at_place rank = ap length (ap (map at_place) (places_by_number box.start box.shape rank) ∙ map-map at_place (place_at box.start box.shape) (range_with_len 0 (product box.shape))) ∙ length-map-range_with_len (λ k. at_place (place_at box.start box.shape k)) 0 (product box.shape)

-- functions that agree on the places of a box
pub same_at_places : (box : Region) (f g : List ℕ → Cell) (fill : Cell) → length box.start ≡ length box.shape → ((place : List ℕ) → is_in_box box.start box.shape place ≡ true → f place ≡ g place) → map f (places box.start box.shape) ≡ map g (places box.start box.shape)
same_at_places box f g fill rank h =
    cells_at_places box (map f (places box.start box.shape)) g fill rank (length-at_places box f rank) (λ place t. cell_of_places box f fill place rank t ∙ h place t)

pub values_at_places : (test : Cell → Bool) (box : Region) (cells : List ℕ → Cell) → length box.start ≡ length box.shape → ((place : List ℕ) → is_in_box box.start box.shape place ≡ true → test (cells place) ≡ true) → list_all test (map cells (places box.start box.shape)) ≡ true
values_at_places test box cells rank h =
    let at = place_at box.start box.shape in
    ap (list_all test) (ap (map cells) (places_by_number box.start box.shape rank) ∙ map-map cells at (range_with_len 0 (product box.shape)))
    ∙ all_in_range test (λ k. cells (at k)) 0 (product box.shape) (λ k low below. h (at k) (in_box-place_at box.start box.shape k rank (omega arith)))

-- ---- a chunk's value

pub box_rank : (grid : Grid) (chunk : List ℕ) (box : Region) → IsInGrid grid chunk box → length box.start ≡ length box.shape
box_rank grid chunk box below = let r = chunk_box-rank grid chunk box below.has_box in r.0 ∙ sym r.1

cells_are : (write : Write) (box : Region) (stored : Option (List ℕ)) (cells : List Cell) → IsGood write.array.document → CellsBecome write box stored cells → AreCells write.array.document.elements box.shape cells
cells_are write box stored cells good becomes = record { fill = good.fill; values = becomes.values; whole = becomes.many }

pub stored_where : (document : Document) (box : Region) (stored : Option (List ℕ)) (cells : List Cell) → fits_box document box ≡ true → ChunkStands document.chain document.elements box.shape stored cells → IsStored document.chain document.elements box.shape stored cells
stored_where document box stored cells fit stands = subst (λ (b : Bool). MatchBool b (ChunkStands document.chain document.elements box.shape stored cells) ((stored ≡ None) × (is_fill document.elements.fill cells ≡ true))) (sym fit) stands

-- ---- a key that got a value

get-with_value : (store : StoreMap) (key other : List ℕ) (made : Option (List ℕ)) → get (with_value store key made) other ≡ (if bytes_eq other key then made else get store other)
get-with_value store key other None = get-remove nat_list_cmp_total store key other ∙ ap (λ b. cond b None (get store other)) (is_eq-slice_cmp other key)
get-with_value store key other (Some value) = get-insert nat_list_cmp_total store key value other ∙ ap (λ b. cond b (Some value) (get store other)) (is_eq-slice_cmp other key)

pub value_same : (store : StoreMap) (key : List ℕ) (made : Option (List ℕ)) → get (with_value store key made) key ≡ made
value_same store key made = get-with_value store key key made ∙ ap (λ (b : Bool). if b then made else get store key) ((bytes_eq-Decides key key).1 refl)

pub value_other : (store : StoreMap) (key other : List ℕ) (made : Option (List ℕ)) → other ≢ key → get (with_value store key made) other ≡ get store other
value_other store key other made ne = ⊎_elim
    (λ t. absurd (ne ((bytes_eq-Decides other key).0 t)))
    (λ t. get-with_value store key other made ∙ ap (λ (b : Bool). if b then made else get store other) t)
    (told (bytes_eq other key))

-- ---- what is so of one chunk

-- keys of two chunks are two
pub record AreApart (path : List ℕ) (document : Document) : Type 0 where
  pub keys : (c d : List ℕ) (box other : Region) → IsInGrid document.grid c box → IsInGrid document.grid d other → d ≢ c → chunk_key path document.keys d ≢ chunk_key path document.keys c

-- a chunk in the grid that a write gives a value, and what is known of the write
pub record IsWrite (write : Write) (chunk : List ℕ) (box : Region) (old : StoreMap) (made : Option (List ℕ)) : Type 0 where
  pub good : IsGood write.array.document
  pub apart : AreApart write.array.path write.array.document
  pub region_rank : length write.region.start ≡ length write.region.shape
  pub rank : length write.region.start ≡ length box.start
  pub below : IsInGrid write.array.document.grid chunk box
  pub whole : goes_into_shard write box ≡ false
  pub makes : MakesValue write box (value_at write.array old chunk) made

-- a fact of the one chunk that is listed
pub at_one : (grid : Grid) (P : List ℕ → Region → Type 0) (chunk d : List ℕ) (box other : Region) → IsInGrid grid chunk box → IsInGrid grid d other → is_listed (chunk ∷ []) d ≡ true → P chunk box → P d other
at_one grid P chunk d box other below over l p =
    let e : d ≡ chunk = listed_one chunk d l in
    let q : box ≡ other = some_same (sym below.has_box ∙ (ap (chunk_box grid) (sym e) ∙ over.has_box)) in
    subst (λ (k : List ℕ). P k other) (sym e) (subst (λ (r : Region). P chunk r) q p)

abbrev pub new_store : Array → StoreMap → List ℕ → Option (List ℕ) → StoreMap
new_store array old chunk made = with_value old (chunk_key array.path array.document.keys chunk) made

chunk_stored_now : (write : Write) (chunk : List ℕ) (box : Region) (old : StoreMap) (made : Option (List ℕ)) (w : IsWrite write chunk box old made) → IsLossless write.array.document
    → IsStored write.array.document.chain write.array.document.elements box.shape (value_at write.array (new_store write.array old chunk made) chunk) w.makes.cells
chunk_stored_now write chunk box old made w lossless =
    subst (λ (o : Option (List ℕ)). IsStored write.array.document.chain write.array.document.elements box.shape o w.makes.cells) (sym (value_same old (chunk_key write.array.path write.array.document.keys chunk) made)) (stored_where write.array.document box made w.makes.cells w.makes.fit (w.makes.is.stands lossless))

-- each place shows its new cell
chunk_part_now : (write : Write) (chunk : List ℕ) (box : Region) (old : StoreMap) (made : Option (List ℕ)) (place : List ℕ) (w : IsWrite write chunk box old made) → IsLossless write.array.document
    → is_in_box box.start box.shape place ≡ true → ReadsCell write.array.document box (value_at write.array (new_store write.array old chunk made) chunk) place (cell_of_box box w.makes.cells write.array.document.elements.fill place)
chunk_part_now write chunk box old made place w lossless t =
    stored_part write.array.document.chain write.array.document.elements box.shape (value_at write.array (new_store write.array old chunk made) chunk) w.makes.cells (number_in box place ∷ []) w.good.lawful lossless
    (cells_are write box (value_at write.array old chunk) w.makes.cells w.good w.makes.becomes)
    (chunk_stored_now write chunk box old made w lossless) (ap (λ (b : Bool). b && true) (lt-ltb (number_in box place) (product box.shape) (number_below box place t)))

shows_at : (write : Write) (chunk : List ℕ) (box : Region) (old : StoreMap) (made : Option (List ℕ)) (place : List ℕ) (t : Bool) (w : IsWrite write chunk box old made) → IsLossless write.array.document
    → is_in_box box.start box.shape place ≡ true → is_in_box write.region.start write.region.shape place ≡ t
    → MatchBool t (ReadsCell write.array.document box (value_at write.array (new_store write.array old chunk made) chunk) place (given_cell write place))
    (part_at write.array.document box (value_at write.array (new_store write.array old chunk made) chunk) place ≡ part_at write.array.document box (value_at write.array old chunk) place)
shows_at write chunk box old made place true w lossless inside e =
    chunk_part_now write chunk box old made place w lossless inside ∙ ap (λ c. Some (c ∷ [])) (w.makes.becomes.written place e inside)
shows_at write chunk box old made place false w lossless inside e =
    let rank = box_rank write.array.document.grid chunk box w.below in
    let kept = w.makes.becomes.kept (not_held write.region box place (holds_box write.region box) refl w.region_rank rank w.rank inside e) in
    chunk_part_now write chunk box old made place w lossless inside
    ∙ (ap (λ c. Some (c ∷ [])) (kept.2 place e inside) ∙ sym (part_of_decoded write.array.document.chain write.array.document.elements box.shape (value_at write.array old chunk) kept.0 (number_in box place) w.makes.fit (number_below box place inside) kept.1))

-- the cells of a chunk are an array's
pub listed_cells : (document : Document) (chunk : List ℕ) (box : Region) (cells : List ℕ → Cell) → IsGood document → IsInGrid document.grid chunk box → AreValues document cells → AreCells document.elements box.shape (map cells (places box.start box.shape))
listed_cells document chunk box cells good below values =
    let rank = box_rank document.grid chunk box below in
    record { fill = good.fill; values = values_at_places (is_value document.elements.type) box cells rank (λ p i. values chunk box p below i); whole = length-at_places box cells rank }

-- a cell of the chunk after the write
pub cell_with : (write : Write) (chunk : List ℕ) (box : Region) (cells : List ℕ → Cell) (place : List ℕ) → IsInGrid write.array.document.grid chunk box → is_in_box box.start box.shape place ≡ true
    → written_over write (chunk ∷ []) cells place ≡ (if is_in_box write.region.start write.region.shape place then given_cell write place else cells place)
cell_with write chunk box cells place below inside =
    let in_region = is_in_box write.region.start write.region.shape place in
    let lies : lies_in_chunk write.array.document.grid place chunk ≡ true = lies_here write.array.document.grid chunk place box below.has_box ∙ inside in
    ap (λ (b : Bool). if in_region && (b || false) then given_cell write place else cells place) lies ∙ ap (λ (b : Bool). if b then given_cell write place else cells place) (and-true in_region)

-- what is stored with such slices stands
pub chunk_stands : (chain : Chain) (elements : Elements) (shape : List ℕ) (stored : Option (List ℕ)) (cells : List Cell) → IsLawfulChain chain → fits chain elements.type shape ≡ true → is_lossless chain elements.type ≡ true → AreCells elements shape cells
    → ChunkTight chain elements shape stored cells → ChunkStands chain elements shape stored cells
chunk_stands chain elements shape None cells lawful fit lossless are h = h
chunk_stands chain elements shape (Some value) cells lawful fit lossless are h = tight_stands chain elements shape value cells lawful fit lossless are h

-- what is encoded has such slices
new_tight : (array : Array) (store_empty : Bool) (shape : List ℕ) (cells : List Cell) (made : Option (List ℕ)) → IsLawfulChain array.document.chain → fits array.document.chain array.document.elements.type shape ≡ true → is_lossless array.document.chain array.document.elements.type ≡ true → AreCells array.document.elements shape cells
    → IsTrue array.exact → IsNewValue array store_empty shape cells made → ChunkTight array.document.chain array.document.elements shape made cells
new_tight array store_empty shape cells None lawful fit lossless are one is = (is.absent refl).1
new_tight array store_empty shape cells (Some value) lawful fit lossless are one is = encoded_tight array.document.chain array.document.elements shape value cells lawful fit lossless are (is.encodes one value refl)

-- the new cells, where the chunk stood for others
cell_after : (write : Write) (chunk : List ℕ) (box : Region) (old : StoreMap) (made : Option (List ℕ)) (cells : List ℕ → Cell) (place : List ℕ) (t : Bool) (w : IsWrite write chunk box old made) → IsLossless write.array.document
    → AreValues write.array.document cells → ChunkStandsAt write.array.document box (value_at write.array old chunk) cells → is_in_box box.start box.shape place ≡ true → is_in_box write.region.start write.region.shape place ≡ t
    → cell_of_box box w.makes.cells write.array.document.elements.fill place ≡ (if t then given_cell write place else cells place)
cell_after write chunk box old made cells place true w lossless values st inside e = w.makes.becomes.written place e inside
cell_after write chunk box old made cells place false w lossless values st inside e =
    let rank = box_rank write.array.document.grid chunk box w.below in
    let kept = w.makes.becomes.kept (not_held write.region box place (holds_box write.region box) refl w.region_rank rank w.rank inside e) in
    let listed = map cells (places box.start box.shape) in
    let are : AreCells write.array.document.elements box.shape listed = listed_cells write.array.document chunk box cells w.good w.below values in
    let before : kept.0 ≡ listed = some_same (sym kept.1 ∙ stored_decoded write.array.document.chain write.array.document.elements box.shape (value_at write.array old chunk) listed w.good.lawful lossless are st) in
    kept.2 place e inside ∙ (ap (λ (cs : List Cell). cell_of_box box cs write.array.document.elements.fill place) before ∙ cell_of_places box cells write.array.document.elements.fill place rank inside)

-- the new cells are those of the chunk after the write
new_cells : (write : Write) (chunk : List ℕ) (box : Region) (old : StoreMap) (made : Option (List ℕ)) (cells : List ℕ → Cell) (w : IsWrite write chunk box old made) → IsLossless write.array.document
    → AreValues write.array.document cells → ChunkStandsAt write.array.document box (value_at write.array old chunk) cells
    → w.makes.cells ≡ map (written_over write (chunk ∷ []) cells) (places box.start box.shape)
new_cells write chunk box old made cells w lossless values st =
    let rank = box_rank write.array.document.grid chunk box w.below in
    let fill = write.array.document.elements.fill in
    let after = written_over write (chunk ∷ []) cells in
    cells_at_places box w.makes.cells after fill rank w.makes.becomes.many (λ place inside.
    cell_after write chunk box old made cells place (is_in_box write.region.start write.region.shape place) w lossless values st inside refl ∙ sym (cell_with write chunk box cells place w.below inside))

keeps_here : (write : Write) (chunk : List ℕ) (box : Region) (old : StoreMap) (made : Option (List ℕ)) (cells : List ℕ → Cell) (w : IsWrite write chunk box old made) → IsLossless write.array.document
    → AreValues write.array.document cells → ChunkStandsAt write.array.document box (value_at write.array old chunk) cells
    → ChunkStandsAt write.array.document box (value_at write.array (new_store write.array old chunk made) chunk) (written_over write (chunk ∷ []) cells)
keeps_here write chunk box old made cells w lossless values st =
    subst (λ (cs : List Cell). IsStored write.array.document.chain write.array.document.elements box.shape (value_at write.array (new_store write.array old chunk made) chunk) cs)
    (new_cells write chunk box old made cells w lossless values st) (chunk_stored_now write chunk box old made w lossless)

-- slices that were what encoding writes are such ones afterwards
tight_here : (write : Write) (chunk : List ℕ) (box : Region) (old : StoreMap) (made : Option (List ℕ)) (cells : List ℕ → Cell) (w : IsWrite write chunk box old made) → IsTrue write.array.exact → IsLossless write.array.document
    → AreValues write.array.document cells → ChunkTightAt write.array.document box (value_at write.array old chunk) cells
    → ChunkTightAt write.array.document box (value_at write.array (new_store write.array old chunk made) chunk) (written_over write (chunk ∷ []) cells)
tight_here write chunk box old made cells w one lossless values st =
    let are = listed_cells write.array.document chunk box cells w.good w.below values in
    let stands = stored_where write.array.document box (value_at write.array old chunk) (map cells (places box.start box.shape)) w.makes.fit
    (chunk_stands write.array.document.chain write.array.document.elements box.shape (value_at write.array old chunk) (map cells (places box.start box.shape)) w.good.lawful w.makes.fit lossless are st) in
    let now = new_tight write.array (keeps_fill write box) box.shape w.makes.cells made w.good.lawful w.makes.fit lossless
    (cells_are write box (value_at write.array old chunk) w.makes.cells w.good w.makes.becomes) one w.makes.is in
    subst (λ (cs : List Cell). ChunkTight write.array.document.chain write.array.document.elements box.shape (value_at write.array (new_store write.array old chunk made) chunk) cs)
    (new_cells write chunk box old made cells w lossless values stands)
    (subst (λ (o : Option (List ℕ)). ChunkTight write.array.document.chain write.array.document.elements box.shape o w.makes.cells) (sym (value_same old (chunk_key write.array.path write.array.document.keys chunk) made)) now)

-- cells of a chunk whose value stays
cells_apart : (write : Write) (chunk d : List ℕ) (other : Region) (cells : List ℕ → Cell) → IsInGrid write.array.document.grid d other → d ≢ chunk
    → map cells (places other.start other.shape) ≡ map (written_over write (chunk ∷ []) cells) (places other.start other.shape)
cells_apart write chunk d other cells over ne =
    let fill = write.array.document.elements.fill in
    let after = written_over write (chunk ∷ []) cells in
    let rank = box_rank write.array.document.grid d other over in
    same_at_places other cells after fill rank (λ place inside.
    let in_region = is_in_box write.region.start write.region.shape place in
    ⊎_elim
    (λ lies. absurd (ne (chunks_apart write.array.document.grid d chunk place (lies_here write.array.document.grid d place other over.has_box ∙ inside) lies)))
    (λ lies. sym (ap (λ (b : Bool). if in_region && (b || false) then given_cell write place else cells place) lies ∙ ap (λ (b : Bool). if b then given_cell write place else cells place) (and-false in_region)))
    (told (lies_in_chunk write.array.document.grid place chunk)))

pub kept_apart : (write : Write) (chunk d : List ℕ) (other : Region) (old new : StoreMap) (cells : List ℕ → Cell) → IsInGrid write.array.document.grid d other → d ≢ chunk → value_at write.array new d ≡ value_at write.array old d
    → ChunkStandsAt write.array.document other (value_at write.array old d) cells → ChunkStandsAt write.array.document other (value_at write.array new d) (written_over write (chunk ∷ []) cells)
kept_apart write chunk d other old new cells over ne stays st =
    subst (λ (cs : List Cell). IsStored write.array.document.chain write.array.document.elements other.shape (value_at write.array new d) cs) (cells_apart write chunk d other cells over ne)
    (subst (λ (o : Option (List ℕ)). IsStored write.array.document.chain write.array.document.elements other.shape o (map cells (places other.start other.shape))) (sym stays) st)

pub tight_apart : (write : Write) (chunk d : List ℕ) (other : Region) (old new : StoreMap) (cells : List ℕ → Cell) → IsInGrid write.array.document.grid d other → d ≢ chunk → value_at write.array new d ≡ value_at write.array old d
    → ChunkTightAt write.array.document other (value_at write.array old d) cells → ChunkTightAt write.array.document other (value_at write.array new d) (written_over write (chunk ∷ []) cells)
tight_apart write chunk d other old new cells over ne stays st =
    subst (λ (cs : List Cell). ChunkTight write.array.document.chain write.array.document.elements other.shape (value_at write.array new d) cs) (cells_apart write chunk d other cells over ne)
    (subst (λ (o : Option (List ℕ)). ChunkTight write.array.document.chain write.array.document.elements other.shape o (map cells (places other.start other.shape))) (sym stays) st)

-- what is so of the chunk that is written, and of each other one
pub at_each : (array : Array) (P : List ℕ → Region → Type 0) (chunk d : List ℕ) (box other : Region) (old : StoreMap) (made : Option (List ℕ)) → AreApart array.path array.document → IsInGrid array.document.grid chunk box → IsInGrid array.document.grid d other
    → P chunk box → (d ≢ chunk → value_at array (new_store array old chunk made) d ≡ value_at array old d → P d other) → P d other
at_each array P chunk d box other old made apart below over here there = ⊎_elim
    (λ t. at_one array.document.grid P chunk d box other below over (one_listed chunk d ((bytes_eq-Decides d chunk).0 t)) here)
    (λ t.
    let ne : d ≢ chunk = λ e. false≢true (sym t ∙ (bytes_eq-Decides d chunk).1 e) in
    there ne (value_other old (chunk_key array.path array.document.keys chunk) (chunk_key array.path array.document.keys d) made (apart.keys chunk d box other below over ne)))
    (told (bytes_eq d chunk))

keeps_one : (write : Write) (chunk d : List ℕ) (box other : Region) (old : StoreMap) (made : Option (List ℕ)) (cells : List ℕ → Cell) (w : IsWrite write chunk box old made) → IsLossless write.array.document
    → AreValues write.array.document cells → IsInGrid write.array.document.grid d other → ChunkStandsAt write.array.document other (value_at write.array old d) cells
    → ChunkStandsAt write.array.document other (value_at write.array (new_store write.array old chunk made) d) (written_over write (chunk ∷ []) cells)
keeps_one write chunk d box other old made cells w lossless values over st =
    let new = new_store write.array old chunk made in
    let after = written_over write (chunk ∷ []) cells in
    at_each write.array (λ k r. ChunkStandsAt write.array.document r (value_at write.array old k) cells → ChunkStandsAt write.array.document r (value_at write.array new k) after) chunk d box other old made w.apart w.below over
    (λ s. keeps_here write chunk box old made cells w lossless values s) (λ ne stays s. kept_apart write chunk d other old new cells over ne stays s) st

tight_one : (write : Write) (chunk d : List ℕ) (box other : Region) (old : StoreMap) (made : Option (List ℕ)) (cells : List ℕ → Cell) (w : IsWrite write chunk box old made) → IsTrue write.array.exact → IsLossless write.array.document
    → AreValues write.array.document cells → IsInGrid write.array.document.grid d other → ChunkTightAt write.array.document other (value_at write.array old d) cells
    → ChunkTightAt write.array.document other (value_at write.array (new_store write.array old chunk made) d) (written_over write (chunk ∷ []) cells)
tight_one write chunk d box other old made cells w one lossless values over st =
    let new = new_store write.array old chunk made in
    let after = written_over write (chunk ∷ []) cells in
    at_each write.array (λ k r. ChunkTightAt write.array.document r (value_at write.array old k) cells → ChunkTightAt write.array.document r (value_at write.array new k) after) chunk d box other old made w.apart w.below over
    (λ s. tight_here write chunk box old made cells w one lossless values s) (λ ne stays s. tight_apart write chunk d other old new cells over ne stays s) st

makes_here : (write : Write) (chunk : List ℕ) (box : Region) (old : StoreMap) (made : Option (List ℕ)) (w : IsWrite write chunk box old made) → IsLossless write.array.document → holds_box write.region box ≡ true
    → ChunkStandsAt write.array.document box (value_at write.array (new_store write.array old chunk made) chunk) (given_cell write)
makes_here write chunk box old made w lossless holds =
    let rank = box_rank write.array.document.grid chunk box w.below in
    let fill = write.array.document.elements.fill in
    let same : w.makes.cells ≡ map (given_cell write) (places box.start box.shape) = cells_at_places box w.makes.cells (given_cell write) fill rank w.makes.becomes.many
    (λ place inside. w.makes.becomes.written place (held_place write.region box place w.region_rank rank w.rank holds inside) inside) in
    subst (λ (cs : List Cell). IsStored write.array.document.chain write.array.document.elements box.shape (value_at write.array (new_store write.array old chunk made) chunk) cs) same (chunk_stored_now write chunk box old made w lossless)

-- ---- keys

some_or : (made : Option (List ℕ)) → (made ≡ None → ⊥) → is_some made ≡ true
some_or None h = absurd (h refl)
some_or (Some value) h = refl

same_self : (cell : Cell) → same_cell cell cell ≡ true
same_self (of_bytes bytes) = (bytes_eq-Decides bytes bytes).1 refl
same_self absent = refl
same_self (present cell) = same_self cell

fill_filled : (fill : Cell) (n : ℕ) → same_cell fill fill ≡ true → is_fill fill (replicate n fill) ≡ true
fill_filled fill zero h = refl
fill_filled fill (suc n) h = ap (λ (b : Bool). b && is_fill fill (replicate n fill)) h ∙ fill_filled fill n h

no_fill_value : (write : Write) (chunk : List ℕ) (box : Region) (old : StoreMap) (made : Option (List ℕ)) (value : List ℕ) (w : IsWrite write chunk box old made) → IsLossless write.array.document
    → keeps_fill write box ≡ false → value_at write.array (new_store write.array old chunk made) chunk ≡ Some value → Stands write.array.document.chain write.array.document.elements box.shape value (replicate (product box.shape) write.array.document.elements.fill) → ⊥
no_fill_value write chunk box old made value w lossless empty found stands =
    let fill = write.array.document.elements.fill in
    let filled = replicate (product box.shape) fill in
    let is : made ≡ Some value = sym (value_same old (chunk_key write.array.path write.array.document.keys chunk) made) ∙ found in
    let not_fill = w.makes.is.present value is empty in
    let are : AreCells write.array.document.elements box.shape filled = record { fill = w.good.fill; values = all_filled (is_value write.array.document.elements.type) fill (product box.shape) w.good.fill; whole = length-replicate (product box.shape) fill } in
    let stood : IsStored write.array.document.chain write.array.document.elements box.shape made filled = subst (λ (o : Option (List ℕ)). IsStored write.array.document.chain write.array.document.elements box.shape o filled) (sym is) (stored_where write.array.document box (Some value) filled w.makes.fit stands) in
    let same : w.makes.cells ≡ filled = stored_once write.array.document.chain write.array.document.elements box.shape made w.makes.cells filled w.good.lawful lossless (cells_are write box (value_at write.array old chunk) w.makes.cells w.good w.makes.becomes) are
    (stored_where write.array.document box made w.makes.cells w.makes.fit (w.makes.is.stands lossless)) stood in
    false≢true (sym not_fill ∙ (ap (is_fill fill) same ∙ fill_filled fill (product box.shape) (same_self fill)))

keys_one : (write : Write) (chunk : List ℕ) (box : Region) (old : StoreMap) (made : Option (List ℕ)) (w : IsWrite write chunk box old made)
    → HasKeys write (chunk ∷ []) (new_store write.array old chunk made)
keys_one write chunk box old made w = record {
  stored = λ d other over empty l.
      at_one write.array.document.grid (λ k r. keeps_fill write r ≡ true → is_some (value_at write.array (new_store write.array old chunk made) k) ≡ true) chunk d box other w.below over l
      (λ e. ap is_some (value_same old (chunk_key write.array.path write.array.document.keys chunk) made) ∙ some_or made (λ none. false≢true (sym (w.makes.is.absent none).0 ∙ e))) empty;
  erased = λ lossless d other over whole empty l value found.
      at_one write.array.document.grid (λ k r. keeps_fill write r ≡ false → value_at write.array (new_store write.array old chunk made) k ≡ Some value → Stands write.array.document.chain write.array.document.elements r.shape value (replicate (product r.shape) write.array.document.elements.fill) → ⊥) chunk d box other w.below over l
      (λ e f s. no_fill_value write chunk box old made value w lossless e f s) empty found;
}

-- a value is made exactly where one is called for
called_for : (made : Option (List ℕ)) (store_empty fill : Bool) → (made ≡ None → (store_empty ≡ false) × (fill ≡ true)) → ((value : List ℕ) → made ≡ Some value → store_empty ≡ false → fill ≡ false) → is_some made ≡ (store_empty || not fill)
called_for None store_empty fill none some = let h = none refl in sym (ap (λ (b : Bool). b || not fill) h.0 ∙ ap not h.1)
called_for (Some value) true fill none some = refl
called_for (Some value) false fill none some = sym (ap not (some value refl refl))

-- what takes the cells of a write that isn't into a shard
taken_whole : (write : Write) (box : Region) (stored : Option (List ℕ)) → goes_into_shard write box ≡ false → takes_cells write.array.document write.options write.region box stored ≡ true → Takes write.array.document write.options write.region box stored
taken_whole write box stored whole h =
    subst (λ (b : Bool). MatchBool b (¬ StopsInto write.array.document write.region box stored) (takes_cells write.array.document write.options write.region box stored ≡ true)) (sym whole) h

pub becomes_at : (write : Write) (box : Region) (stored : Option (List ℕ)) (cells : List Cell) → fits_box write.array.document box ≡ true → CellsBecome write box stored cells → ChunkBecomes write box stored cells
becomes_at write box stored cells fit becomes = record {
  many = becomes.many;
  written = becomes.written;
  takes = λ whole part. let kept = becomes.kept part in takes_decoded write.array.document write.options write.region box stored kept.0 fit kept.1;
  kept = λ part place out inside.
      let kept = becomes.kept part in
      kept.2 place out inside ∙ sym (read_of_decoded write.array.document box stored place kept.0 fit (number_below box place inside) kept.1);
}

-- a chunk that is written in part has a key
fill_kept : (write : Write) (box : Region) → is_in_part write.array.document write.options write.region box ≡ true → keeps_fill write box ≡ true
fill_kept write box t = ap (λ (b : Bool). (write.options.store_empty_chunks && not (goes_into_shard write box)) || b) t ∙ or-true (write.options.store_empty_chunks && not (goes_into_shard write box)) where
  or-true : (b : Bool) → (b || true) ≡ true
  or-true true = refl
  or-true false = refl

-- and where it was decoded, the cells that stay have the bytes that they had
made_keeps : (write : Write) (box : Region) (stored made : Option (List ℕ)) → IsGood write.array.document → is_in_part write.array.document write.options write.region box ≡ true → MakesValue write box stored made → KeepsBytes write box stored made
made_keeps write box None made good t makes = tt
made_keeps write box (Some value) None good t makes = absurd (false≢true (sym (makes.is.absent refl).0 ∙ fill_kept write box t))
made_keeps write box (Some value) (Some new) good t makes = λ place out inside.
    let document = write.array.document in
    let elements = document.elements in
    let parts = parts_of_write document write.options write.region box t in
    let lossless = keeps_bits document.chain elements.type parts.0 in
    let kept = makes.becomes.kept parts.1 in
    let n = number_in box place in
    let below = number_below box place inside in
    let before : chunk_part document.chain elements box.shape (Some value) (n ∷ []) ≡ Some (get_or kept.0 n elements.fill ∷ []) = part_of_decoded document.chain elements box.shape (Some value) kept.0 n makes.fit below kept.1 in
    let after : chunk_part document.chain elements box.shape (Some new) (n ∷ []) ≡ Some (get_or makes.cells n elements.fill ∷ []) =
    stored_part document.chain elements box.shape (Some new) makes.cells (n ∷ []) good.lawful lossless (cells_are write box (Some value) makes.cells good makes.becomes)
    (stored_where document box (Some new) makes.cells makes.fit (makes.is.stands lossless)) (ap (λ (b : Bool). b && true) (lt-ltb n (product box.shape) below)) in
    told_bytes document.chain elements box.shape new n (get_or makes.cells n elements.fill) parts.0 makes.fit below after
    ∙ (ap (λ (cell : Cell). ordered (order_of document.chain) (components elements.type) (cell_bytes cell)) (kept.2 place out inside)
    ∙ sym (told_bytes document.chain elements box.shape value n (get_or kept.0 n elements.fill) parts.0 makes.fit below before))

keyed_here : (write : Write) (chunk : List ℕ) (box : Region) (old : StoreMap) (made : Option (List ℕ)) (w : IsWrite write chunk box old made)
    → IsKeyed write box (value_at write.array old chunk) (value_at write.array (new_store write.array old chunk made) chunk)
keyed_here write chunk box old made w = record {
  cells = w.makes.cells;
  becomes = becomes_at write box (value_at write.array old chunk) w.makes.cells w.makes.fit w.makes.becomes;
  key = λ whole. ap is_some (value_same old (chunk_key write.array.path write.array.document.keys chunk) made) ∙ called_for made (keeps_fill write box) (is_fill write.array.document.elements.fill w.makes.cells) w.makes.is.absent w.makes.is.present;
  taken = λ into. absurd (false≢true (sym w.whole ∙ into));
  encodes = λ one whole held value is. w.makes.is.encodes one value (sym (value_same old (chunk_key write.array.path write.array.document.keys chunk) made) ∙ is);
  bytes = λ t.
      subst (λ (o : Option (List ℕ)). KeepsBytes write box (value_at write.array old chunk) o) (sym (value_same old (chunk_key write.array.path write.array.document.keys chunk) made))
      (made_keeps write box (value_at write.array old chunk) made w.good t w.makes);
}

-- ---- one chunk written

pub wrote_one : (write : Write) (chunk : List ℕ) (box : Region) (old : StoreMap) (made : Option (List ℕ)) → IsWrite write chunk box old made
    → WroteChunks write (chunk ∷ []) old (new_store write.array old chunk made)
wrote_one write chunk box old made w = record {
  fit = λ d other over l. at_one write.array.document.grid (λ k r. fits_box write.array.document r ≡ true) chunk d box other w.below over l w.makes.fit;
  undamaged = λ d other over l part.
      at_one write.array.document.grid (λ k r. holds_box write.region r ≡ false → Takes write.array.document write.options write.region r (value_at write.array old k)) chunk d box other w.below over l
      (λ h. let kept = w.makes.becomes.kept h in taken_whole write box (value_at write.array old chunk) w.whole (takes_decoded write.array.document write.options write.region box (value_at write.array old chunk) kept.0 w.makes.fit kept.1)) part;
  shows = λ lossless d other place over l inside.
      at_one write.array.document.grid (λ k r. is_in_box r.start r.shape place ≡ true → MatchBool (is_in_box write.region.start write.region.shape place) (ReadsCell write.array.document r (value_at write.array (new_store write.array old chunk made) k) place (given_cell write place))
      (part_at write.array.document r (value_at write.array (new_store write.array old chunk made) k) place ≡ part_at write.array.document r (value_at write.array old k) place)) chunk d box other w.below over l
      (λ i. shows_at write chunk box old made place (is_in_box write.region.start write.region.shape place) w lossless i refl) inside;
  keeps = λ lossless cells values d other over st. keeps_one write chunk d box other old made cells w lossless values over st;
  tight = λ one lossless cells values d other over st. tight_one write chunk d box other old made cells w one lossless values over st;
  makes = λ lossless d other over l holds.
      at_one write.array.document.grid (λ k r. holds_box write.region r ≡ true → ChunkStandsAt write.array.document r (value_at write.array (new_store write.array old chunk made) k) (given_cell write)) chunk d box other w.below over l
      (λ h. makes_here write chunk box old made w lossless h) holds;
  others = λ key ne. value_other old (chunk_key write.array.path write.array.document.keys chunk) key made (ne chunk (one_listed chunk chunk refl));
  keys = keys_one write chunk box old made w;
  keyed = λ d other over l. at_one write.array.document.grid (λ k r. IsKeyed write r (value_at write.array old k) (value_at write.array (new_store write.array old chunk made) k)) chunk d box other w.below over l (keyed_here write chunk box old made w);
}

-- ---- one chunk written in part

-- a chunk in the grid into whose value a write puts cells, and what is known of the write
pub record IsPutting (write : Write) (chunk : List ℕ) (box : Region) (old : StoreMap) (made : Option (List ℕ)) : Type 0 where
  pub good : IsGood write.array.document
  pub apart : AreApart write.array.path write.array.document
  pub below : IsInGrid write.array.document.grid chunk box
  pub puts : PutsPart write box (value_at write.array old chunk) made

module _ (write : Write) (chunk : List ℕ) (box : Region) (old : StoreMap) (made : Option (List ℕ)) (w : IsPutting write chunk box old made) where
  abbrev after : StoreMap
  after = new_store write.array old chunk made

  stored_now : value_at write.array after chunk ≡ made
  stored_now = value_same old (chunk_key write.array.path write.array.document.keys chunk) made

  -- what is stored stands for no cells
  stands_for_none : IsLossless write.array.document → (cells : List ℕ → Cell) → AreValues write.array.document cells → ChunkStandsAt write.array.document box (value_at write.array old chunk) cells → ⊥
  stands_for_none lossless cells values st =
      let listed = map cells (places box.start box.shape) in
      let are : AreCells write.array.document.elements box.shape listed = listed_cells write.array.document chunk box cells w.good w.below values in
      none-some listed (sym w.puts.lost ∙ stored_decoded write.array.document.chain write.array.document.elements box.shape (value_at write.array old chunk) listed w.good.lawful lossless are st)

  stays_stored : keeps_fill write box ≡ true
  stays_stored = fill_kept write box w.puts.in_part

  -- the write isn't into a shard
  whole : goes_into_shard write box ≡ false
  whole = plain_not (may_be_in_part write.array.document write.options write.region box) (is_plain write.array.document.chain) w.puts.in_part where
    plain_not : (may plain : Bool) → (may && plain) ≡ true → (may && not plain) ≡ false
    plain_not true true h = refl
    plain_not true false h = absurd (false≢true h)
    plain_not false plain h = refl

  tight_for_none : IsLossless write.array.document → (cells : List ℕ → Cell) → AreValues write.array.document cells → ChunkTightAt write.array.document box (value_at write.array old chunk) cells → ⊥
  tight_for_none lossless cells values st =
      let listed = map cells (places box.start box.shape) in
      let stored = value_at write.array old chunk in
      stands_for_none lossless cells values
      (stored_where write.array.document box stored listed w.puts.fit (chunk_stands write.array.document.chain write.array.document.elements box.shape stored listed w.good.lawful w.puts.fit lossless (listed_cells write.array.document chunk box cells w.good w.below values) st))

  part : holds_box write.region box ≡ false
  part = (parts_of_write write.array.document write.options write.region box w.puts.in_part).1

  takes : takes_cells write.array.document write.options write.region box (value_at write.array old chunk) ≡ true
  takes = ap (λ (b : Bool). if b then opens_in write.array.document box (value_at write.array old chunk) else is_some (chunk_decoded write.array.document.chain write.array.document.elements box.shape (value_at write.array old chunk))) w.puts.in_part ∙ w.puts.puts.opened

  abbrev cell_then : List ℕ → Cell
  cell_then place = if is_in_box write.region.start write.region.shape place then given_cell write place else cell_read write.array.document box (value_at write.array old chunk) place

  abbrev cells_then : List Cell
  cells_then = map cell_then (places box.start box.shape)

  cell_there : (place : List ℕ) (t : Bool) → is_in_box write.region.start write.region.shape place ≡ t → is_in_box box.start box.shape place ≡ true
      → cell_of_box box cells_then write.array.document.elements.fill place ≡ (if t then given_cell write place else cell_read write.array.document box (value_at write.array old chunk) place)
  cell_there place t r inside =
      cell_of_places box cell_then write.array.document.elements.fill place (box_rank write.array.document.grid chunk box w.below) inside
      ∙ ap (λ (b : Bool). if b then given_cell write place else cell_read write.array.document box (value_at write.array old chunk) place) r

  keyed_there : IsKeyed write box (value_at write.array old chunk) (value_at write.array after chunk)
  keyed_there = record {
    cells = cells_then;
    becomes = record {
      many = length-at_places box cell_then (box_rank write.array.document.grid chunk box w.below);
      written = λ place r inside. cell_there place true r inside;
      takes = λ _ p. takes;
      kept = λ p place r inside. cell_there place false r inside;
    };
    key = λ _. ap is_some stored_now ∙ (w.puts.some ∙ sym (ap (λ (b : Bool). b || not (is_fill write.array.document.elements.fill cells_then)) stays_stored));
    taken = λ into. absurd (false≢true (sym whole ∙ into));
    encodes = λ one _ decodes value is. absurd (false≢true (sym (ap is_some w.puts.lost) ∙ decodes part));
    bytes = λ _. subst (λ (o : Option (List ℕ)). KeepsBytes write box (value_at write.array old chunk) o) (sym stored_now) w.puts.bytes;
  }

  shows_there : IsLossless write.array.document → (place : List ℕ) → is_in_box box.start box.shape place ≡ true
      → MatchBool (is_in_box write.region.start write.region.shape place) (ReadsCell write.array.document box (value_at write.array after chunk) place (given_cell write place))
      (part_at write.array.document box (value_at write.array after chunk) place ≡ part_at write.array.document box (value_at write.array old chunk) place)
  shows_there lossless place inside =
      let shows = λ (stored : Option (List ℕ)). chunk_part write.array.document.chain write.array.document.elements box.shape stored (number_in box place ∷ []) in
      subst (λ (o : Option (List ℕ)). MatchBool (is_in_box write.region.start write.region.shape place) (shows o ≡ Some (given_cell write place ∷ [])) (shows o ≡ shows (value_at write.array old chunk)))
      (sym stored_now) (w.puts.puts.shows lossless place inside)

  keeps_there : IsLossless write.array.document → (cells : List ℕ → Cell) → AreValues write.array.document cells → (d : List ℕ) (other : Region) → IsInGrid write.array.document.grid d other → ChunkStandsAt write.array.document other (value_at write.array old d) cells
      → ChunkStandsAt write.array.document other (value_at write.array after d) (written_over write (chunk ∷ []) cells)
  keeps_there lossless cells values d other over st =
      let after_cells = written_over write (chunk ∷ []) cells in
      at_each write.array (λ k r. ChunkStandsAt write.array.document r (value_at write.array old k) cells → ChunkStandsAt write.array.document r (value_at write.array after k) after_cells) chunk d box other old made w.apart w.below over
      (λ s. absurd (stands_for_none lossless cells values s)) (λ ne stays s. kept_apart write chunk d other old after cells over ne stays s) st

  tight_there : IsLossless write.array.document → (cells : List ℕ → Cell) → AreValues write.array.document cells → (d : List ℕ) (other : Region) → IsInGrid write.array.document.grid d other → ChunkTightAt write.array.document other (value_at write.array old d) cells
      → ChunkTightAt write.array.document other (value_at write.array after d) (written_over write (chunk ∷ []) cells)
  tight_there lossless cells values d other over st =
      let after_cells = written_over write (chunk ∷ []) cells in
      at_each write.array (λ k r. ChunkTightAt write.array.document r (value_at write.array old k) cells → ChunkTightAt write.array.document r (value_at write.array after k) after_cells) chunk d box other old made w.apart w.below over
      (λ s. absurd (tight_for_none lossless cells values s)) (λ ne stays s. tight_apart write chunk d other old after cells over ne stays s) st

  pub wrote_put : WroteChunks write (chunk ∷ []) old after
  wrote_put = record {
    fit = λ d other over l. at_one write.array.document.grid (λ k r. fits_box write.array.document r ≡ true) chunk d box other w.below over l w.puts.fit;
    undamaged = λ d other over l held.
        at_one write.array.document.grid (λ k r. holds_box write.region r ≡ false → Takes write.array.document write.options write.region r (value_at write.array old k)) chunk d box other w.below over l
        (λ h. taken_whole write box (value_at write.array old chunk) whole takes) held;
    shows = λ lossless d other place over l inside.
        at_one write.array.document.grid (λ k r. is_in_box r.start r.shape place ≡ true → MatchBool (is_in_box write.region.start write.region.shape place) (ReadsCell write.array.document r (value_at write.array after k) place (given_cell write place))
        (part_at write.array.document r (value_at write.array after k) place ≡ part_at write.array.document r (value_at write.array old k) place)) chunk d box other w.below over l
        (λ i. shows_there lossless place i) inside;
    keeps = λ lossless cells values d other over st. keeps_there lossless cells values d other over st;
    tight = λ one lossless cells values d other over st. tight_there lossless cells values d other over st;
    makes = λ lossless d other over l holds.
        absurd (at_one write.array.document.grid (λ k r. holds_box write.region r ≡ true → ⊥) chunk d box other w.below over l (λ h. false≢true (sym part ∙ h)) holds);
    others = λ key ne. value_other old (chunk_key write.array.path write.array.document.keys chunk) key made (ne chunk (one_listed chunk chunk refl));
    keys = record {
      stored = λ d other over empty l. at_one write.array.document.grid (λ k r. is_some (value_at write.array after k) ≡ true) chunk d box other w.below over l (ap is_some stored_now ∙ w.puts.some);
      erased = λ lossless d other over _ empty l value found.
          absurd (at_one write.array.document.grid (λ k r. keeps_fill write r ≡ false → ⊥) chunk d box other w.below over l (λ e. false≢true (sym e ∙ stays_stored)) empty);
    };
    keyed = λ d other over l. at_one write.array.document.grid (λ k r. IsKeyed write r (value_at write.array old k) (value_at write.array after k)) chunk d box other w.below over l keyed_there;
  }

-- ---- one chunk written, but for a part put into its shard

-- a chunk in the grid that a write changes
pub record IsChange (write : Write) (chunk : List ℕ) (box : Region) : Type 0 where
  pub good : IsGood write.array.document
  pub apart : AreApart write.array.path write.array.document
  pub region_rank : length write.region.start ≡ length write.region.shape
  pub rank : length write.region.start ≡ length box.start
  pub below : IsInGrid write.array.document.grid chunk box

pub wrote_changed : (write : Write) (chunk : List ℕ) (box : Region) (old : StoreMap) (made : Option (List ℕ)) → IsChange write chunk box → goes_into_shard write box ≡ false
    → ChangesValue write box (value_at write.array old chunk) made → WroteChunks write (chunk ∷ []) old (new_store write.array old chunk made)
wrote_changed write chunk box old made is t (inl makes) =
    wrote_one write chunk box old made (record { good = is.good; apart = is.apart; region_rank = is.region_rank; rank = is.rank; below = is.below; whole = t; makes = makes })
wrote_changed write chunk box old made is t (inr puts) =
    wrote_put write chunk box old made (record { good = is.good; apart = is.apart; below = is.below; puts = puts })
