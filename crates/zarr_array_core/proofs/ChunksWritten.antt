-- What a write of a box, chunk by chunk, leaves.
use Rattle.std.proofs.Common.{◌≡◌, ◌≢◌, ◌∙◌, ℕ, ◌+◌, ◌<◌, Bool, true, false, if◌then◌else◌, ◌&&◌, ◌||◌, List, [], ◌∷◌, ◌++◌, length, map, refl, sym, ap, subst, arith, Option, Some, is_some, ⊎_elim}
use Rattle.std.specs.Prelude.{MatchBool}
use Rattle.std.specs.List.{list_all, list_any}
use Rattle.std.proofs.Math.Bool.{and-false}
use Rattle.std.proofs.lemmas.Bool.{false≢true}
use Rattle.zarr_grids_boxes.specs.Boxes.{Region, product, places, place_at, is_in_box}
use Rattle.zarr_grids_boxes.proofs.InBox.{ravel-place_at}
use Rattle.zarr_grids_boxes.proofs.Walking.{start_in_box}
use Rattle.zarr_grids_chunks.specs.Grids.{Grid, IsInGrid, IsCovered, lies_in_chunk, intersecting}
use Rattle.zarr_grids_chunks.proofs.Partition.{intersecting-any}
use Rattle.zarr_grids_cover.specs.Intersecting.{AreIntersecting}
use Rattle.zarr_grids_cover.proofs.ChunkBoxes.{chunk_box-rank}
use Rattle.zarr_grids_keys.specs.Keys.{chunk_key}
use Rattle.zarr_codecs_meaning.specs.Chunks.{IsStored}
use Rattle.zarr_codecs_meaning.specs.Standing.{ChunkStands}
use Rattle.zarr_codecs_meaning.specs.Payloads.{Payload, cells_in}
use Rattle.zarr_codecs_meaning.specs.Types.{Cell, is_value}
use Rattle.zarr_array_meaning.specs.Arrays.{value_at}
use Rattle.zarr_array_meaning.specs.Chunks.{number_in, decoded_in, part_at, ReadsCell, is_listed}
use Rattle.zarr_array_meaning.specs.Documents.{Document}
use Rattle.zarr_array_meaning.specs.ElementBytes.{KeepsBytes}
use Rattle.zarr_array_meaning.specs.Standing.{ChunkStandsAt, ChunkTightAt, IsGood, AreValues}
use Rattle.zarr_array_meaning.specs.StoreMaps.{StoreMap}
use Rattle.zarr_array_meaning.specs.Writes.{Write}
use Rattle.zarr_array_meaning.specs.Writing.{IsKeyed, HasKeys, Takes, WroteChunks, cell_read, given_cell, takes_cells, written_over}
use Rattle.zarr_array_core.specs.ChunkValues.{with_value}
use Rattle.zarr_array_core.specs.IntoShards.{WritesChunk, WritingStops}
use Rattle.zarr_array_core.specs.Outcomes.{WriteStops}
use Rattle.zarr_array_core.specs.declared.error.ChunkError.{ChunkError}
use Rattle.zarr_array_core.proofs.ChunkCells.{cell_value}
use Rattle.zarr_array_core.proofs.ChunkWritten.{AreApart, box_rank}
use Rattle.zarr_array_core.proofs.ShardWritten.{chunk_stops, wrote_chunk}
use Rattle.zarr_array_core.proofs.Listed.{list_any-append, listed_one, one_listed, listed_more, before_listed, last_listed, listed_number}
use Rattle.zarr_array_core.proofs.NthChunks.{first_chunks, first_chunks-more, first_chunks-all, first_chunks-take, first_chunks-below, nth_number, length-intersecting}

-- ---- cells of several chunks

written-more : (write : Write) (cs : List (List ℕ)) (c : List ℕ) (cells : List ℕ → Cell) (p : List ℕ) → written_over write (c ∷ []) (written_over write cs cells) p ≡ written_over write (cs ++ c ∷ []) cells p
written-more write cs c cells p =
    cases (is_in_box write.region.start write.region.shape p) (lies_in_chunk write.array.document.grid p c) (list_any (lies_in_chunk write.array.document.grid p) cs)
    ∙ ap (λ b. if is_in_box write.region.start write.region.shape p && b then given_cell write p else cells p) (sym (list_any-append (lies_in_chunk write.array.document.grid p) cs c)) where
      cases : (i a b : Bool) → (if i && (a || false) then given_cell write p else (if i && b then given_cell write p else cells p)) ≡ (if i && (b || a) then given_cell write p else cells p)
      cases true true true = refl
      cases true true false = refl
      cases true false true = refl
      cases true false false = refl
      cases false a b = refl

written-none : (write : Write) (cells : List ℕ → Cell) (p : List ℕ) → written_over write [] cells p ≡ cells p
written-none write cells p = ap (λ b. if b then given_cell write p else cells p) (and-false (is_in_box write.region.start write.region.shape p))

written-value : (test : Cell → Bool) (t : Bool) (one other : Cell) → test one ≡ true → test other ≡ true → test (if t then one else other) ≡ true
written-value test true one other a b = a
written-value test false one other a b = b

stands_same : (document : Document) (box : Region) (stored : Option (List ℕ)) (f g : List ℕ → Cell) → ((p : List ℕ) → f p ≡ g p) → ChunkStandsAt document box stored f → ChunkStandsAt document box stored g
stands_same document box stored f g h st = let P : (List ℕ → Cell) → Type 0 = λ k. ChunkStandsAt document box stored k in subst P (λ i p. h p i) st

tight_same : (document : Document) (box : Region) (stored : Option (List ℕ)) (f g : List ℕ → Cell) → ((p : List ℕ) → f p ≡ g p) → ChunkTightAt document box stored f → ChunkTightAt document box stored g
tight_same document box stored f g h st = let P : (List ℕ → Cell) → Type 0 = λ k. ChunkTightAt document box stored k in subst P (λ i p. h p i) st

-- ---- no chunk

pub wrote_none : (write : Write) (store : StoreMap) → WroteChunks write [] store store
wrote_none write store = record {
  fit = λ d other over l. absurd (false≢true l);
  undamaged = λ d other over l part. absurd (false≢true l);
  shows = λ lossless d other place over l inside. absurd (false≢true l);
  keeps = λ lossless cells values d other over st.
      stands_same write.array.document other (value_at write.array store d) cells (written_over write [] cells) (λ p. sym (written-none write cells p)) st;
  tight = λ one lossless cells values d other over st.
      tight_same write.array.document other (value_at write.array store d) cells (written_over write [] cells) (λ p. sym (written-none write cells p)) st;
  makes = λ lossless d other over l holds. absurd (false≢true l);
  others = λ key ne. refl;
  keys = record { stored = λ d other over e l. absurd (false≢true l); erased = λ lossless d other over whole e l value found. absurd (false≢true l) };
  keyed = λ d other over l. absurd (false≢true l);
}

-- ---- one more chunk

-- a chunk in the grid that comes after others in the grid
pub record IsNext (write : Write) (cs : List (List ℕ)) (c : List ℕ) (box : Region) : Type 0 where
  pub good : IsGood write.array.document
  pub apart : AreApart write.array.path write.array.document
  pub values : list_all (is_value write.array.document.elements.type) write.cells ≡ true
  pub below : IsInGrid write.array.document.grid c box
  pub fresh : is_listed cs c ≡ false
  pub in_grid : (d : List ℕ) → is_listed cs d ≡ true → (other : Region) × IsInGrid write.array.document.grid d other

-- what is stored for the others stays
stays : (write : Write) (cs : List (List ℕ)) (c d : List ℕ) (box other : Region) (mid new : StoreMap) → IsNext write cs c box → WroteChunks write (c ∷ []) mid new
    → IsInGrid write.array.document.grid d other → d ≢ c → value_at write.array new d ≡ value_at write.array mid d
stays write cs c d box other mid new is next over ne =
    next.others (chunk_key write.array.path write.array.document.keys d) (λ k l e. is.apart.keys c d box other is.below over ne (e ∙ ap (chunk_key write.array.path write.array.document.keys) (listed_one c k l)))

-- what is stored for the chunk is what was stored before the others
untouched : (write : Write) (cs : List (List ℕ)) (c : List ℕ) (box : Region) (old mid : StoreMap) → IsNext write cs c box → WroteChunks write cs old mid
    → value_at write.array mid c ≡ value_at write.array old c
untouched write cs c box old mid is first =
    first.others (chunk_key write.array.path write.array.document.keys c) (λ d l e.
    let there = is.in_grid d l in
    is.apart.keys d c there.0 box there.1 is.below (λ q. false≢true (sym is.fresh ∙ (ap (is_listed cs) q ∙ l))) e)

more_keys : (write : Write) (cs : List (List ℕ)) (c : List ℕ) (box : Region) (old mid new : StoreMap) → IsNext write cs c box
    → WroteChunks write cs old mid → WroteChunks write (c ∷ []) mid new → HasKeys write (cs ++ c ∷ []) new
more_keys write cs c box old mid new is first next = record {
  stored = λ d other over e l. ⊎_elim
      (λ here. next.keys.stored d other over e (one_listed c d here))
      (λ (ne, k). ap is_some (stays write cs c d box other mid new is next over ne) ∙ first.keys.stored d other over e k)
      (listed_more cs c d l);
  erased = λ lossless d other over whole e l value found. ⊎_elim
      (λ here. next.keys.erased lossless d other over whole e (one_listed c d here) value found)
      (λ (ne, k). first.keys.erased lossless d other over whole e k value (sym (stays write cs c d box other mid new is next over ne) ∙ found))
      (listed_more cs c d l);
}

-- what a chunk's place shows, by what was stored for it before, and by what is stored now
abbrev Shows : Write → Region → List ℕ → Option (List ℕ) → Option (List ℕ) → Type 0
Shows write box place before after =
    MatchBool (is_in_box write.region.start write.region.shape place) (ReadsCell write.array.document box after place (given_cell write place))
    (part_at write.array.document box after place ≡ part_at write.array.document box before place)

pub wrote_more : (write : Write) (cs : List (List ℕ)) (c : List ℕ) (box : Region) (old mid new : StoreMap) → IsNext write cs c box
    → WroteChunks write cs old mid → WroteChunks write (c ∷ []) mid new → WroteChunks write (cs ++ c ∷ []) old new
wrote_more write cs c box old mid new is first next = record {
  fit = λ d other over l. ⊎_elim (λ here. next.fit d other over (one_listed c d here)) (λ (ne, k). first.fit d other over k) (listed_more cs c d l);
  undamaged = λ d other over l part. ⊎_elim
      (λ here. subst (λ (o : Option (List ℕ)). Takes write.array.document write.options write.region other o) (before d here) (next.undamaged d other over (one_listed c d here) part))
      (λ (ne, k). first.undamaged d other over k part)
      (listed_more cs c d l);
  shows = λ lossless d other place over l inside. ⊎_elim
      (λ here. subst (λ (o : Option (List ℕ)). Shows write other place o (value_at write.array new d)) (before d here) (next.shows lossless d other place over (one_listed c d here) inside))
      (λ (ne, k). subst (λ (o : Option (List ℕ)). Shows write other place (value_at write.array old d) o) (sym (stays write cs c d box other mid new is next over ne)) (first.shows lossless d other place over k inside))
      (listed_more cs c d l);
  keeps = λ lossless cells values d other over st.
      let middle = written_over write cs cells in
      let middle_values = values_between cells values in
      stands_same write.array.document other (value_at write.array new d) (written_over write (c ∷ []) middle) (written_over write (cs ++ c ∷ []) cells)
      (written-more write cs c cells) (next.keeps lossless middle middle_values d other over (first.keeps lossless cells values d other over st));
  tight = λ one lossless cells values d other over st.
      let middle = written_over write cs cells in
      let middle_values = values_between cells values in
      tight_same write.array.document other (value_at write.array new d) (written_over write (c ∷ []) middle) (written_over write (cs ++ c ∷ []) cells)
      (written-more write cs c cells) (next.tight one lossless middle middle_values d other over (first.tight one lossless cells values d other over st));
  makes = λ lossless d other over l holds. ⊎_elim
      (λ here. next.makes lossless d other over (one_listed c d here) holds)
      (λ (ne, k). stands_moved d other (stays write cs c d box other mid new is next over ne) (first.makes lossless d other over k holds))
      (listed_more cs c d l);
  others = λ key ne. next.others key (λ d l. ne d (last_listed cs c d (listed_one c d l))) ∙ first.others key (λ d l. ne d (before_listed cs c d l));
  keys = more_keys write cs c box old mid new is first next;
  keyed = λ d other over l. ⊎_elim
      (λ here. keyed_last d other (before d here) (next.keyed d other over (one_listed c d here)))
      (λ (ne, k). keyed_before d other (stays write cs c d box other mid new is next over ne) (first.keyed d other over k))
      (listed_more cs c d l);
} where
  fill : Cell
  fill = write.array.document.elements.fill

  -- the cells after the first writes are values
  values_between : (cells : List ℕ → Cell) → AreValues write.array.document cells → AreValues write.array.document (written_over write cs cells)
  values_between cells values = λ k r p b i. written-value (is_value write.array.document.elements.type) (is_in_box write.region.start write.region.shape p && list_any (lies_in_chunk write.array.document.grid p) cs) (given_cell write p) (cells p)
      (cell_value (is_value write.array.document.elements.type) write.region write.cells fill p is.good.fill is.values) (values k r p b i)

  before : (d : List ℕ) → d ≡ c → value_at write.array mid d ≡ value_at write.array old d
  before d e = subst (λ (k : List ℕ). value_at write.array mid k ≡ value_at write.array old k) (sym e) (untouched write cs c box old mid is first)

  -- what is so of a chunk's cells and key, from the store before the others, and to the one after the last
  keyed_last : (d : List ℕ) (other : Region) → value_at write.array mid d ≡ value_at write.array old d → IsKeyed write other (value_at write.array mid d) (value_at write.array new d) → IsKeyed write other (value_at write.array old d) (value_at write.array new d)
  keyed_last d other same k = record {
    cells = k.cells;
    becomes = record {
      many = k.becomes.many;
      written = k.becomes.written;
      takes = λ whole part. ap (takes_cells write.array.document write.options write.region other) (sym same) ∙ k.becomes.takes whole part;
      kept = λ part place out inside. k.becomes.kept part place out inside ∙ ap (λ (o : Option (List ℕ)). cell_read write.array.document other o place) same;
    };
    key = k.key;
    taken = λ into lossless cells are st. k.taken into lossless cells are (subst (λ (o : Option (List ℕ)). ChunkStands write.array.document.chain write.array.document.elements other.shape o cells) (sym same) st);
    encodes = λ one whole decodes value is. k.encodes one whole (λ part. ap (λ (o : Option (List ℕ)). is_some (decoded_in write.array.document other o)) same ∙ decodes part) value is;
    bytes = λ t. subst (λ (o : Option (List ℕ)). KeepsBytes write other o (value_at write.array new d)) same (k.bytes t);
  }

  keyed_before : (d : List ℕ) (other : Region) → value_at write.array new d ≡ value_at write.array mid d → IsKeyed write other (value_at write.array old d) (value_at write.array mid d) → IsKeyed write other (value_at write.array old d) (value_at write.array new d)
  keyed_before d other same k = record {
    cells = k.cells;
    becomes = k.becomes;
    key = λ whole. ap is_some same ∙ k.key whole;
    taken = λ into lossless cells are st. ap is_some same ∙ k.taken into lossless cells are st;
    encodes = λ one whole decodes value is. k.encodes one whole decodes value (sym same ∙ is);
    bytes = λ t. subst (λ (o : Option (List ℕ)). KeepsBytes write other (value_at write.array old d) o) (sym same) (k.bytes t);
  }

  stands_moved : (d : List ℕ) (other : Region) → value_at write.array new d ≡ value_at write.array mid d → ChunkStandsAt write.array.document other (value_at write.array mid d) (given_cell write) → ChunkStandsAt write.array.document other (value_at write.array new d) (given_cell write)
  stands_moved d other e st = subst (λ (o : Option (List ℕ)). IsStored write.array.document.chain write.array.document.elements other.shape o (map (given_cell write) (places other.start other.shape))) (sym e) st

-- ---- the walk

-- what is known of a write of a box
pub record IsWalk (write : Write) (chunks : Region) : Type 0 where
  pub good : IsGood write.array.document
  pub apart : AreApart write.array.path write.array.document
  pub values : list_all (is_value write.array.document.elements.type) write.cells ≡ true
  pub region_rank : length write.region.start ≡ length write.region.shape
  pub grid_rank : length write.region.start ≡ length write.array.document.grid
  pub chunks_rank : length chunks.start ≡ length chunks.shape
  pub intersecting : AreIntersecting write.array.document.grid write.region chunks

-- a chunk is none of those before it
pub first_chunks-fresh : (chunks : Region) (n : ℕ) (t : Bool) → length chunks.start ≡ length chunks.shape → n < product chunks.shape → is_listed (first_chunks chunks n) (place_at chunks.start chunks.shape n) ≡ t → t ≡ false
first_chunks-fresh chunks n false l below h = refl
first_chunks-fresh chunks n true l below h =
    let k = listed_number (place_at chunks.start chunks.shape) 0 n (place_at chunks.start chunks.shape n) h in
    let b = k.1 in
    let same : n ≡ k.0 = sym (ravel-place_at chunks.start chunks.shape n l below) ∙ (ap (λ p. number_in chunks p) k.2 ∙ ravel-place_at chunks.start chunks.shape k.0 l (omega arith)) in
    absurd (omega arith)

next_is : (write : Write) (chunks : Region) (n : ℕ) (chunk : List ℕ) (box : Region) → IsWalk write chunks → n < product chunks.shape → chunk ≡ place_at chunks.start chunks.shape n → IsInGrid write.array.document.grid chunk box
    → IsNext write (first_chunks chunks n) chunk box
next_is write chunks n chunk box walk below e here = record {
  good = walk.good;
  apart = walk.apart;
  values = walk.values;
  below = here;
  fresh = ap (is_listed (first_chunks chunks n)) e ∙ first_chunks-fresh chunks n (is_listed (first_chunks chunks n) (place_at chunks.start chunks.shape n)) walk.chunks_rank below refl;
  in_grid = λ d l. first_chunks-below write.array.document.grid chunks n d walk.chunks_rank walk.intersecting.below (omega arith) l;
}

pub wrote_next : (write : Write) (chunks : Region) (n : ℕ) (chunk : List ℕ) (box : Region) (made : Option (List ℕ)) (old mid new : StoreMap) → IsWalk write chunks → n < product chunks.shape
    → chunk ≡ place_at chunks.start chunks.shape n → IsInGrid write.array.document.grid chunk box → WritesChunk write box (value_at write.array mid chunk) made → new ≡ with_value mid (chunk_key write.array.path write.array.document.keys chunk) made
    → WroteChunks write (first_chunks chunks n) old mid → WroteChunks write (first_chunks chunks (n + 1)) old new
wrote_next write chunks n chunk box made old mid new walk below e here makes is wrote =
    let rank = walk.grid_rank ∙ sym (chunk_box-rank write.array.document.grid chunk box here.has_box).0 in
    let one = wrote_chunk write chunk box mid made (record { good = walk.good; apart = walk.apart; region_rank = walk.region_rank; rank = rank; below = here }) makes in
    let all = wrote_more write (first_chunks chunks n) chunk box old mid (with_value mid (chunk_key write.array.path write.array.document.keys chunk) made) (next_is write chunks n chunk box walk below e here) wrote one in
    let listed : first_chunks chunks n ++ chunk ∷ [] ≡ first_chunks chunks (n + 1) = ap (λ k. first_chunks chunks n ++ k ∷ []) e ∙ sym (first_chunks-more chunks n) in
    subst (λ (cs : List (List ℕ)). WroteChunks write cs old new) listed (subst (λ (m : StoreMap). WroteChunks write (first_chunks chunks n ++ chunk ∷ []) old m) (sym is) all)

-- all chunks were written
pub wrote_all : (write : Write) (chunks : Region) (n : ℕ) (old new : StoreMap) → IsWalk write chunks → n ≡ product chunks.shape
    → WroteChunks write (first_chunks chunks n) old new → WroteChunks write (intersecting write.array.document.grid write.region) old new
wrote_all write chunks n old new walk end wrote =
    subst (λ (cs : List (List ℕ)). WroteChunks write cs old new) (first_chunks-all write.array.document.grid write.region chunks n walk.chunks_rank walk.intersecting end) wrote

-- ---- a chunk that is not written

pub write_stops : (write : Write) (chunks : Region) (payload : Payload) (n : ℕ) (chunk : List ℕ) (box : Region) (e : ChunkError) (old mid new : StoreMap) → IsWalk write chunks
    → cells_in write.array.document.elements.type payload ≡ Some write.cells → n < product chunks.shape → chunk ≡ place_at chunks.start chunks.shape n → IsInGrid write.array.document.grid chunk box
    → WritingStops write box (value_at write.array mid chunk) e → new ≡ mid
    → WroteChunks write (first_chunks chunks n) old mid → WriteStops write payload old new (record { applied = n; error = e })
write_stops write chunks payload n chunk box e old mid new walk lists below at here stops same wrote =
    let is = next_is write chunks n chunk box walk below at here in
    let before = untouched write (first_chunks chunks n) chunk box old mid is wrote in
    record {
      lists = lists;
      chunk = chunk;
      box = box;
      nth = nth_number write.array.document.grid write.region chunks n chunk box walk.chunks_rank walk.intersecting below at here;
      stops = chunk_stops write box (value_at write.array old chunk) e (box_rank write.array.document.grid chunk box here) (subst (λ (o : Option (List ℕ)). WritingStops write box o e) before stops);
      wrote = subst (λ (cs : List (List ℕ)). WroteChunks write cs old new) (first_chunks-take write.array.document.grid write.region chunks n walk.chunks_rank walk.intersecting (omega arith))
          (subst (λ (m : StoreMap). WroteChunks write (first_chunks chunks n) old m) (sym same) wrote);
    }

-- some chunk is intersecting
pub some_chunk : (grid : Grid) (region chunks : Region) → length region.shape ≡ length region.start → length chunks.start ≡ length chunks.shape → 0 < product region.shape → IsCovered grid region → AreIntersecting grid region chunks → 0 < product chunks.shape
some_chunk grid region chunks l r some covered m =
    let any = not_none (λ c. lies_in_chunk grid region.start c) (intersecting grid region) (intersecting-any grid region region.start covered (start_in_box region.start region.shape l some)) in
    omega (arith, any, length-intersecting grid region chunks r m) where
      not_none : (p : List ℕ → Bool) (cs : List (List ℕ)) → list_any p cs ≡ true → 0 < length cs
      not_none p [] h = absurd (false≢true h)
      not_none p (c ∷ cs) h = omega arith
