-- A read of a box, chunk by chunk.
use Rattle.std.proofs.Common.{◌≡◌, ◌∙◌, ℕ, ◌+◌, ◌<◌, Bool, true, false, ◌||◌, List, [], ◌∷◌, ◌++◌, length, replicate, refl, sym, ap, subst, ⊎_elim, arith, Option, Some, None, is_some, bytes_eq}
use Rattle.std.specs.List.{list_any}
use Rattle.std.specs.Option.{option_map_or}
use Rattle.std.proofs.lemmas.Bool.{false≢true}
use Rattle.std.proofs.lemmas.List.{get_or-replicate}
use Rattle.std.proofs.lemmas.Slice.Eq.{bytes_eq-Decides}
use Rattle.zarr_grids_boxes.specs.Boxes.{Region, product, place_at, is_in_box, share_place}
use Rattle.zarr_grids_boxes.proofs.Dimensions.{ravel_below}
use Rattle.zarr_grids_boxes.proofs.Places.{in_box_below}
use Rattle.zarr_grids_boxes.proofs.Sharing.{share_place-of}
use Rattle.zarr_grids_chunks.specs.Grids.{Grid, IsInGrid, chunk_box, lies_in_chunk, intersects, intersecting}
use Rattle.zarr_grids_chunks.proofs.Filters.{told}
use Rattle.zarr_grids_chunks.proofs.Partition.{lies_here}
use Rattle.zarr_grids_cover.proofs.ChunkLaws.{chunks_apart}
use Rattle.zarr_grids_cover.specs.Intersecting.{AreIntersecting}
use Rattle.zarr_codecs_meaning.specs.Chunks.{chunk_part}
use Rattle.zarr_codecs_meaning.specs.Types.{Cell}
use Rattle.zarr_array_meaning.specs.Arrays.{Array, value_at}
use Rattle.zarr_array_meaning.specs.Boxes.{cell_of_box, IsPlaceOf, IsRead, AreReadBefore}
use Rattle.zarr_array_meaning.specs.Chunks.{number_in, fits_box, ReadsCell, IsNthIntersecting, is_listed}
use Rattle.zarr_array_meaning.specs.StoreMaps.{StoreMap}
use Rattle.zarr_array_core.specs.Outcomes.{ReadStops}
use Rattle.zarr_array_core.specs.Parts.{GivesChunk, PartNotRead, PartStops, met_in}
use Rattle.zarr_array_core.specs.declared.error.ChunkError.{ChunkError}
use Rattle.zarr_array_core.specs.declared.error.ChunkError.TheVariants as error
use Rattle.zarr_array_core.proofs.Listed.{list_any-append, listed_more, intersecting_listed}
use Rattle.zarr_array_core.proofs.NthChunks.{first_chunks, first_chunks-more, first_chunks-all, shares_here, nth_number, nth_before}
use Rattle.zarr_array_core.proofs.Placed.{same_box}

-- ---- the chunks that were read so far: their places show what is read of them, and the other places are fill values
pub record ReadSoFar (array : Array) (store : StoreMap) (region : Region) (chunks : List (List ℕ)) (cells : List Cell) : Type 0 where
  pub each : (chunk : List ℕ) (box : Region) (place : List ℕ) → IsPlaceOf array.document region chunk box place → is_listed chunks chunk ≡ true → ReadsCell array.document box (value_at array store chunk) place (cell_of_box region cells array.document.elements.fill place)
  pub rest : (place : List ℕ) → is_in_box region.start region.shape place ≡ true → list_any (lies_in_chunk array.document.grid place) chunks ≡ false → cell_of_box region cells array.document.elements.fill place ≡ array.document.elements.fill
  pub fit : (chunk : List ℕ) (box : Region) → IsInGrid array.document.grid chunk box → is_listed chunks chunk ≡ true → is_some (value_at array store chunk) ≡ true → fits_box array.document box ≡ true

-- no chunk
pub read_none : (array : Array) (store : StoreMap) (region : Region) (cells : List Cell) → cells ≡ replicate (product region.shape) array.document.elements.fill → ReadSoFar array store region [] cells
read_none array store region cells fill = record {
  each = λ chunk box place is listed. absurd (false≢true listed);
  rest = λ place t none.
      let below = ravel_below _ region.shape (in_box_below region.start region.shape place t) in
      ap (λ (cells : List Cell). cell_of_box region cells array.document.elements.fill place) fill ∙ get_or-replicate (product region.shape) (number_in region place) array.document.elements.fill array.document.elements.fill below;
  fit = λ chunk box below listed. absurd (false≢true listed);
}

-- a chunk among those in which a place lies
any_lies : (grid : Grid) (place : List ℕ) (cs : List (List ℕ)) → list_any (lies_in_chunk grid place) cs ≡ true → (c : List ℕ) × (is_listed cs c ≡ true) × (lies_in_chunk grid place c ≡ true)
any_lies grid place [] h = absurd (false≢true h)
any_lies grid place (c ∷ cs) h = at_first c cs (lies_in_chunk grid place c) refl h (any_lies grid place cs) where
  at_first : (c : List ℕ) (cs : List (List ℕ)) (b : Bool) → lies_in_chunk grid place c ≡ b → (b || list_any (lies_in_chunk grid place) cs) ≡ true
      → (list_any (lies_in_chunk grid place) cs ≡ true → (d : List ℕ) × (is_listed cs d ≡ true) × (lies_in_chunk grid place d ≡ true))
      → (d : List ℕ) × (is_listed (c ∷ cs) d ≡ true) × (lies_in_chunk grid place d ≡ true)
  at_first c cs true e h later = (c, ap (λ b. b || is_listed cs c) ((bytes_eq-Decides c c).1 refl), e)
  at_first c cs false e h later = let found = later h in (found.0, or_later (bytes_eq found.0 c) (is_listed cs found.0) found.1, found.2) where
    or_later : (a b : Bool) → b ≡ true → (a || b) ≡ true
    or_later true b h = refl
    or_later false b h = h

-- what a place of a chunk with no value shows
empty_shows : (array : Array) (store : StoreMap) (chunk : List ℕ) (box : Region) (place : List ℕ) (cell : Cell) → value_at array store chunk ≡ None → cell ≡ array.document.elements.fill → ReadsCell array.document box (value_at array store chunk) place cell
empty_shows array store chunk box place cell none e =
    ap (λ (o : Option (List ℕ)). chunk_part array.document.chain array.document.elements box.shape o (number_in box place ∷ [])) none ∙ ap (λ (c : Cell). Some (c ∷ [])) (sym e)

-- ---- one more chunk

-- what stays where a place lies outside of the chunk
stays : (array : Array) (store : StoreMap) (region : Region) (chunk : List ℕ) (box : Region) (old new : List Cell) (place : List ℕ)
    → GivesChunk (met_in array store region chunk box) old new → is_in_box region.start region.shape place ≡ true → is_in_box box.start box.shape place ≡ false
    → cell_of_box region new array.document.elements.fill place ≡ cell_of_box region old array.document.elements.fill place
stays array store region chunk box old new place h t out = ⊎_elim (λ k. ap (λ cells. cell_of_box region cells array.document.elements.fill place) k.1) (λ k. k.kept place t out) h

-- what a chunk that has no value shows where the box stays as it was
still_shows : (array : Array) (store : StoreMap) (region : Region) (cs : List (List ℕ)) (chunk : List ℕ) (box : Region) (old : List Cell) (place : List ℕ) → value_at array store chunk ≡ None
    → IsPlaceOf array.document region chunk box place → ReadSoFar array store region cs old
    → ReadsCell array.document box (value_at array store chunk) place (cell_of_box region old array.document.elements.fill place)
still_shows array store region cs chunk box old place none is first =
    ⊎_elim
    (λ t.
    let among = any_lies array.document.grid place cs t in
    let same : among.0 ≡ chunk = chunks_apart array.document.grid among.0 chunk place among.2 (lies_here array.document.grid chunk place box is.below.has_box ∙ is.of_chunk) in
    first.each chunk box place is (ap (is_listed cs) (sym same) ∙ among.1))
    (λ t. empty_shows array store chunk box place (cell_of_box region old array.document.elements.fill place) none (first.rest place is.of_region t))
    (told (list_any (lies_in_chunk array.document.grid place) cs))

-- what the chunk itself shows
shows : (array : Array) (store : StoreMap) (region : Region) (cs : List (List ℕ)) (chunk : List ℕ) (box : Region) (old new : List Cell) (place : List ℕ)
    → GivesChunk (met_in array store region chunk box) old new → IsPlaceOf array.document region chunk box place → ReadSoFar array store region cs old
    → ReadsCell array.document box (value_at array store chunk) place (cell_of_box region new array.document.elements.fill place)
shows array store region cs chunk box old new place h is first = ⊎_elim
    (λ k. subst (λ cells. ReadsCell array.document box (value_at array store chunk) place (cell_of_box region cells array.document.elements.fill place)) (sym k.1) (still_shows array store region cs chunk box old place k.0 is first))
    (λ k. k.shown place is.of_region is.of_chunk)
    h

fits_stored : (array : Array) (store : StoreMap) (region : Region) (chunk : List ℕ) (box : Region) (old new : List Cell) → GivesChunk (met_in array store region chunk box) old new → is_some (value_at array store chunk) ≡ true
    → fits_box array.document box ≡ true
fits_stored array store region chunk box old new h some = ⊎_elim (λ k. absurd (false≢true (sym (ap (λ (o : Option (List ℕ)). is_some o) k.0) ∙ some))) (λ k. k.fit) h

-- of two tests, where one or the other holds
neither : (a b : Bool) → (a || b) ≡ false → (a ≡ false) × (b ≡ false)
neither true b h = absurd (false≢true (sym h))
neither false b h = (refl, h)

outside : (grid : Grid) (place c d : List ℕ) (box other : Region) → chunk_box grid c ≡ Some box → chunk_box grid d ≡ Some other → (d ≡ c → ⊥) → is_in_box other.start other.shape place ≡ true → is_in_box box.start box.shape place ≡ false
outside grid place c d box other h g ne t = ⊎_elim
    (λ i. absurd (ne (chunks_apart grid d c place (lies_here grid d place other g ∙ t) (lies_here grid c place box h ∙ i))))
    (λ i. i)
    (told (is_in_box box.start box.shape place))

read_more : (array : Array) (store : StoreMap) (region : Region) (cs : List (List ℕ)) (c : List ℕ) (box : Region) (old new : List Cell) → IsInGrid array.document.grid c box
    → GivesChunk (met_in array store region c box) old new → ReadSoFar array store region cs old → ReadSoFar array store region (cs ++ c ∷ []) new
read_more array store region cs c box old new below gives first = record {
  each = λ d other place is l. ⊎_elim
      (λ e.
      let here : IsInGrid array.document.grid c other = subst (λ (k : List ℕ). IsInGrid array.document.grid k other) e is.below in
      let same : box ≡ other = same_box array.document.grid c box other below here in
      subst (λ (k : List ℕ). ReadsCell array.document other (value_at array store k) place (cell_of_box region new array.document.elements.fill place)) (sym e)
      (subst (λ (b : Region). ReadsCell array.document b (value_at array store c) place (cell_of_box region new array.document.elements.fill place)) same
      (shows array store region cs c box old new place gives (record { below = below; of_region = is.of_region; of_chunk = ap (λ (b : Region). is_in_box b.start b.shape place) same ∙ is.of_chunk }) first)))
      (λ (ne, k).
      let out = outside array.document.grid place c d box other below.has_box is.below.has_box ne is.of_chunk in
      let same = stays array store region c box old new place gives is.of_region out in
      subst (λ (cell : Cell). ReadsCell array.document other (value_at array store d) place cell) (sym same) (first.each d other place is k))
      (listed_more cs c d l);
  rest = λ place t none.
      let apart = neither (list_any (lies_in_chunk array.document.grid place) cs) (lies_in_chunk array.document.grid place c) (sym (list_any-append (lies_in_chunk array.document.grid place) cs c) ∙ none) in
      stays array store region c box old new place gives t (sym (lies_here array.document.grid c place box below.has_box) ∙ apart.1) ∙ first.rest place t apart.0;
  fit = λ d other over l some. ⊎_elim
      (λ e.
      let here : IsInGrid array.document.grid c other = subst (λ (k : List ℕ). IsInGrid array.document.grid k other) e over in
      let same : box ≡ other = same_box array.document.grid c box other below here in
      subst (λ (b : Region). fits_box array.document b ≡ true) same (fits_stored array store region c box old new gives (ap (λ (k : List ℕ). is_some (value_at array store k)) (sym e) ∙ some)))
      (λ (ne, k). first.fit d other over k some)
      (listed_more cs c d l);
}

-- ---- all chunks
pub read_all : (array : Array) (store : StoreMap) (region : Region) (cells : List Cell) → length cells ≡ product region.shape
    → ReadSoFar array store region (intersecting array.document.grid region) cells → IsRead array.path array.document store region cells
read_all array store region cells many read = record {
  many = many;
  each = λ chunk box place is. read.each chunk box place is (intersecting_listed array.document.grid region chunk box is.below (meets chunk box place is));
  fit = λ chunk box below shares stored. read.fit chunk box below (intersecting_listed array.document.grid region chunk box below shares) stored;
} where
  meets : (chunk : List ℕ) (box : Region) (place : List ℕ) → IsPlaceOf array.document region chunk box place → intersects array.document.grid region chunk ≡ true
  meets chunk box place is = ap (λ (o : Option Region). option_map_or (λ (b : Region). share_place b.start b.shape region.start region.shape) o false) is.below.has_box
      ∙ share_place-of box.start box.shape region.start region.shape place is.of_chunk is.of_region

-- ---- the chunks of a box of chunk indices
pub read_next : (array : Array) (store : StoreMap) (region chunks : Region) (n : ℕ) (chunk : List ℕ) (old new : List Cell) → (found : (box : Region) × IsInGrid array.document.grid chunk box) → chunk ≡ place_at chunks.start chunks.shape n
    → ((box : Region) → IsInGrid array.document.grid chunk box → GivesChunk (met_in array store region chunk box) old new)
    → ReadSoFar array store region (first_chunks chunks n) old → ReadSoFar array store region (first_chunks chunks (n + 1)) new
read_next array store region chunks n chunk old new found e gives first =
    rw (first_chunks-more chunks n, ← e) (read_more array store region (first_chunks chunks n) chunk found.0 old new found.1 (gives found.0 found.1) first)

pub read_end : (array : Array) (store : StoreMap) (region chunks : Region) (n count : ℕ) (cells : List Cell) → length chunks.start ≡ length chunks.shape → AreIntersecting array.document.grid region chunks → count ≡ product chunks.shape → n ≡ count
    → length cells ≡ product region.shape → ReadSoFar array store region (first_chunks chunks n) cells → IsRead array.path array.document store region cells
read_end array store region chunks n count cells l are is end many read =
    read_all array store region cells many (subst (λ (cs : List (List ℕ)). ReadSoFar array store region cs cells) (first_chunks-all array.document.grid region chunks n l are (end ∙ is)) read)

-- ---- the first chunk that is not read

read_before : (array : Array) (store : StoreMap) (region chunks : Region) (n : ℕ) (cells : List Cell) → length chunks.start ≡ length chunks.shape → AreIntersecting array.document.grid region chunks → n < product chunks.shape
    → ReadSoFar array store region (first_chunks chunks n) cells → AreReadBefore array.path array.document store region n
read_before array store region chunks n cells l are below read = λ m earlier other less met.
    let there = nth_before array.document.grid region chunks n m earlier other l are (omega arith) less met in
    record {
      fit = read.fit earlier other there.1 there.0;
      whole = λ place of_region of_chunk. ap is_some (read.each earlier other place (record { below = there.1; of_region = of_region; of_chunk = of_chunk }) there.0);
    }

stops_at : (array : Array) (store : StoreMap) (region : Region) (n : ℕ) (chunk : List ℕ) (box : Region) (e : ChunkError) → IsInGrid array.document.grid chunk box → intersects array.document.grid region chunk ≡ true → IsNthIntersecting array.document.grid region n chunk box
    → AreReadBefore array.path array.document store region n → PartStops (met_in array store region chunk box) e → ReadStops array.path array.document store region e
stops_at array store region n chunk box error.Fit below shares nth first h = record { chunk = chunk; box = box; below = below; shares = shares; stored = h.0; fit = h.1; number = n; nth = nth; first = first }
stops_at array store region n chunk box (error.Storage s) below shares nth first h = h
stops_at array store region n chunk box error.Damage below shares nth first h = record {
  chunk = chunk;
  box = box;
  place = h.place;
  is = record { below = below; of_region = h.of_region; of_chunk = h.of_chunk };
  fit = h.fit;
  lost = h.lost;
  number = n;
  nth = nth;
  first = first;
}
stops_at array store region n chunk box error.Codec below shares nth first h = h
stops_at array store region n chunk box error.Size below shares nth first h = h
stops_at array store region n chunk box error.Memory below shares nth first h = tt

pub read_stops : (array : Array) (store : StoreMap) (region chunks : Region) (n : ℕ) (chunk : List ℕ) (cells : List Cell) (e : ChunkError) → length chunks.start ≡ length chunks.shape → AreIntersecting array.document.grid region chunks → n < product chunks.shape
    → chunk ≡ place_at chunks.start chunks.shape n → PartNotRead array store region chunk e → ReadSoFar array store region (first_chunks chunks n) cells → ReadStops array.path array.document store region e
read_stops array store region chunks n chunk cells e l are below at stops read =
    stops_at array store region n chunk stops.0 e stops.1 (shares_here array.document.grid region chunks n chunk l are below at)
    (nth_number array.document.grid region chunks n chunk stops.0 l are below at stops.1) (read_before array store region chunks n cells l are below read) stops.2
