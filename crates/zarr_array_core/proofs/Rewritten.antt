-- What a rewrite of chunks, one by one, leaves of a store.
use Rattle.std.proofs.Common.{◌≡◌, ◌∙◌, ℕ, zero, suc, ◌+◌, ◌-◌, ◌<◌, ◌≤◌, Bool, true, false, cond, ◌&&◌, ◌||◌, bytes_eq, List, [], ◌∷◌, ◌++◌, length, take, slice_get, refl, sym, ap, subst, arith, Option, Some, None, is_some, ⊎_elim, inr, append_assoc, append-nil, length-append}
use Rattle.std.specs.Prelude.{not, nat_lt, MatchBool}
use Rattle.std.specs.List.{filter, list_all}
use Rattle.std.proofs.Math.Bool.{or-true}
use Rattle.std.proofs.Math.Seq.{take-append_seam}
use Rattle.std.proofs.lemmas.Bool.{false≢true, lt-ltb}
use Rattle.std.proofs.lemmas.List.FromFn.{filter_of_map_range_with_len_more}
use Rattle.zarr_grids_boxes.specs.Boxes.{Region, product, place_at, is_in_box}
use Rattle.zarr_grids_chunks.specs.Grids.{IsInGrid}
use Rattle.zarr_grids_cover.specs.Boxed.{AreBoxed}
use Rattle.zarr_grids_keys.specs.Keys.{chunk_key}
use Rattle.zarr_codecs_meaning.specs.Chunks.{chunk_part}
use Rattle.zarr_codecs_meaning.specs.Decoding.{decoded}
use Rattle.zarr_codecs_meaning.specs.Fits.{fits}
use Rattle.zarr_codecs_meaning.specs.Laws.{AreCells}
use Rattle.zarr_codecs_meaning.specs.Types.{Cell, is_fill}
use Rattle.zarr_codecs_meaning.proofs.Counts.{decoded_count}
use Rattle.zarr_codecs_meaning.proofs.DecodedValues.{decoded_values}
use Rattle.zarr_sharding_values.proofs.StoredAfresh.{stored_anew_shows}
use Rattle.zarr_array_elements.proofs.FixedCells.{number_below}
use Rattle.zarr_array_meaning.specs.Arrays.{Array, value_at}
use Rattle.zarr_array_meaning.specs.Chunks.{number_in, is_listed, part_at}
use Rattle.zarr_array_meaning.specs.Documents.{Document}
use Rattle.zarr_array_meaning.specs.Rewriting.{IsRewritten, RewroteChunks, keyed_chunks}
use Rattle.zarr_array_meaning.specs.Standing.{IsGood, IsLossless}
use Rattle.zarr_array_meaning.specs.StoreMaps.{StoreMap}
use Rattle.zarr_array_core.specs.ChunkValues.{DecodeStops, EncodeStops, IsNewValue, with_value}
use Rattle.zarr_array_core.specs.Outcomes.{IsErasureStop}
use Rattle.zarr_array_core.specs.Rewriting.{ChunkNotRewritten, ChunkRewriteStops, counted_chunk, IsAbsentAt, NotRewritten, RemakingStops, RewriteStops, WalkStops}
use Rattle.zarr_array_core.specs.declared.error.ChunkError.{ChunkError}
use Rattle.zarr_array_core.specs.declared.error.ChunkError.TheVariants as error
use Rattle.zarr_array_core.proofs.ChunkWritten.{AreApart, at_one, value_same, value_other}
use Rattle.zarr_array_core.proofs.ChunksWritten.{first_chunks-fresh}
use Rattle.zarr_array_core.proofs.Listed.{listed_one, one_listed, listed_more, before_listed, last_listed, or_true}
use Rattle.zarr_array_core.proofs.NthChunks.{first_chunks, first_chunks-below, first_chunks-places}

-- ---- the value of one chunk

key_of : (empty fill : Bool) (made : Option (List ℕ)) → (made ≡ None → (empty ≡ false) × (fill ≡ true)) → ((value : List ℕ) → made ≡ Some value → empty ≡ false → fill ≡ false) → is_some made ≡ (empty || not fill)
key_of empty fill None absent present = let none = absent refl in sym (ap (λ b. b || not fill) none.0 ∙ ap (λ b. not b) none.1)
key_of true fill (Some value) absent present = refl
key_of false fill (Some value) absent present = sym (ap (λ b. not b) (present value refl refl))

-- the new value of cells that the old one is decoded to
pub remade : (array : Array) (store_empty : Bool) (shape old : List ℕ) (cells : List Cell) (made : Option (List ℕ)) → fits array.document.chain array.document.elements.type shape ≡ true → decoded array.document.chain array.document.elements shape old ≡ Some cells
    → IsNewValue array store_empty shape cells made → IsRewritten array store_empty shape old made
remade array store_empty shape old cells made fit is new = record {
  fit = fit;
  cells = cells;
  decodes = is;
  key = key_of store_empty (is_fill array.document.elements.fill cells) made new.absent new.present;
  encodes = new.encodes;
  stands = new.stands;
}

-- why it is not made
pub decode_stops : (document : Document) (store_empty : Bool) (shape value : List ℕ) (e : ChunkError) → fits document.chain document.elements.type shape ≡ true → DecodeStops document shape (Some value) e → RemakingStops document store_empty shape value e
decode_stops document store_empty shape value error.Fit fit is = absurd is
decode_stops document store_empty shape value (error.Storage s) fit is = absurd is
decode_stops document store_empty shape value error.Damage fit is = (fit, is)
decode_stops document store_empty shape value error.Codec fit is = absurd is
decode_stops document store_empty shape value error.Size fit is = absurd is
decode_stops document store_empty shape value error.Memory fit is = tt

pub encode_stops : (document : Document) (store_empty : Bool) (shape value : List ℕ) (cells : List Cell) (e : ChunkError) → fits document.chain document.elements.type shape ≡ true → decoded document.chain document.elements shape value ≡ Some cells
    → EncodeStops document store_empty shape cells e → RemakingStops document store_empty shape value e
encode_stops document store_empty shape value cells error.Fit fit is stops = absurd stops.1
encode_stops document store_empty shape value cells (error.Storage s) fit is stops = absurd stops.1
encode_stops document store_empty shape value cells error.Damage fit is stops = absurd stops.1
encode_stops document store_empty shape value cells error.Codec fit is stops = record { fit = fit; cells = cells; decodes = is; stops = stops }
encode_stops document store_empty shape value cells error.Size fit is stops = inr (record { fit = fit; cells = cells; decodes = is; stops = stops })
encode_stops document store_empty shape value cells error.Memory fit is stops = tt

-- what stops a chunk
pub chunk_stops : (array : Array) (store_empty : Bool) (chunk : List ℕ) (box : Region) (value : List ℕ) (e : ChunkError) (store : StoreMap) → IsInGrid array.document.grid chunk box → value_at array store chunk ≡ Some value → RemakingStops array.document store_empty box.shape value e
    → ChunkRewriteStops array store_empty chunk e store
chunk_stops array store_empty chunk box value error.Fit store below stored is = record { box = box; below = below; value = value; stored = stored; stops = is }
chunk_stops array store_empty chunk box value (error.Storage s) store below stored is = absurd is
chunk_stops array store_empty chunk box value error.Damage store below stored is = record { box = box; below = below; value = value; stored = stored; stops = is }
chunk_stops array store_empty chunk box value error.Codec store below stored is = record { box = box; below = below; value = value; stored = stored; stops = is }
chunk_stops array store_empty chunk box value error.Size store below stored is = record { box = box; below = below; value = value; stored = stored; stops = is }
chunk_stops array store_empty chunk box value error.Memory store below stored is = tt

pub store_stops : (array : Array) (store_empty : Bool) (chunk : List ℕ) (e : ChunkError) (store : StoreMap) → IsErasureStop e → ChunkRewriteStops array store_empty chunk e store
store_stops array store_empty chunk error.Fit store is = absurd is
store_stops array store_empty chunk (error.Storage s) store is = is
store_stops array store_empty chunk error.Damage store is = absurd is
store_stops array store_empty chunk error.Codec store is = absurd is
store_stops array store_empty chunk error.Size store is = absurd is
store_stops array store_empty chunk error.Memory store is = tt

-- each place is read as before, whatever was stored
rewritten_shows : (array : Array) (store_empty : Bool) (shape old numbers : List ℕ) (new : Option (List ℕ)) → IsGood array.document → IsLossless array.document → list_all (λ number. nat_lt number (product shape)) numbers ≡ true → IsRewritten array store_empty shape old new
    → chunk_part array.document.chain array.document.elements shape new numbers ≡ chunk_part array.document.chain array.document.elements shape (Some old) numbers
rewritten_shows array store_empty shape old numbers new good lossless below is =
    let chain = array.document.chain in
    let elements = array.document.elements in
    let are : AreCells elements shape is.cells = record { fill = good.fill; values = decoded_values chain elements shape old is.cells is.fit good.fill is.decodes; whole = decoded_count chain elements shape old is.cells is.decodes } in
    stored_anew_shows chain elements shape old numbers new is.cells good.lawful is.fit lossless are below is.decodes (is.stands lossless)

-- ---- one chunk of an array

-- what is known of an array: its chunks have keys of their own
pub record IsArray (array : Array) : Type 0 where
  pub good : IsGood array.document
  pub apart : AreApart array.path array.document

pub rewrote_one : (array : Array) (store_empty : Bool) (chunk : List ℕ) (box : Region) (value : List ℕ) (made : Option (List ℕ)) (old : StoreMap) → IsArray array → IsInGrid array.document.grid chunk box → value_at array old chunk ≡ Some value → IsRewritten array store_empty box.shape value made
    → RewroteChunks array store_empty (chunk ∷ []) old (with_value old (chunk_key array.path array.document.keys chunk) made)
rewrote_one array store_empty chunk box value made old known below stored is = record {
  each = λ d other over listed.
      at_one array.document.grid (λ k r. (value : List ℕ) × (value_at array old k ≡ Some value) × IsRewritten array store_empty r.shape value (value_at array new k)) chunk d box other below over listed
      (value, stored, subst (λ (o : Option (List ℕ)). IsRewritten array store_empty box.shape value o) (sym now) is);
  shows = λ lossless d other place over listed.
      at_one array.document.grid (λ k r. is_in_box r.start r.shape place ≡ true → part_at array.document r (value_at array new k) place ≡ part_at array.document r (value_at array old k) place) chunk d box other below over listed (shown lossless place);
  others = λ key ne. value_other old (chunk_key array.path array.document.keys chunk) key made (ne chunk (one_listed chunk chunk refl));
} where
  new : StoreMap
  new = with_value old (chunk_key array.path array.document.keys chunk) made

  now : value_at array new chunk ≡ made
  now = value_same old (chunk_key array.path array.document.keys chunk) made

  read : List ℕ → Option (List ℕ) → Option (List Cell)
  read place o = chunk_part array.document.chain array.document.elements box.shape o (number_in box place ∷ [])

  shown : IsLossless array.document → (place : List ℕ) → is_in_box box.start box.shape place ≡ true → read place (value_at array new chunk) ≡ read place (value_at array old chunk)
  shown lossless place inside =
      ap (read place) now
      ∙ rewritten_shows array store_empty box.shape value (number_in box place ∷ []) made known.good lossless (ap (λ (b : Bool). b && true) (lt-ltb (number_in box place) (product box.shape) (number_below box place inside))) is
      ∙ ap (read place) (sym stored)

pub rewrote_none : (array : Array) (store_empty : Bool) (store : StoreMap) → RewroteChunks array store_empty [] store store
rewrote_none array store_empty store = record {
  each = λ d other over listed. absurd (false≢true listed);
  shows = λ lossless d other place over listed inside. absurd (false≢true listed);
  others = λ key ne. refl;
}

-- ---- one more chunk

-- a chunk in the grid that comes after others in the grid
record IsNext (array : Array) (cs : List (List ℕ)) (c : List ℕ) (box : Region) : Type 0 where
  known : IsArray array
  below : IsInGrid array.document.grid c box
  fresh : is_listed cs c ≡ false
  in_grid : (d : List ℕ) → is_listed cs d ≡ true → (other : Region) × IsInGrid array.document.grid d other

-- what is stored for the others stays
stays : (array : Array) (store_empty : Bool) (cs : List (List ℕ)) (c d : List ℕ) (box other : Region) (mid new : StoreMap) → IsNext array cs c box → RewroteChunks array store_empty (c ∷ []) mid new → IsInGrid array.document.grid d other → (d ≡ c → ⊥) → value_at array new d ≡ value_at array mid d
stays array store_empty cs c d box other mid new is next over ne =
    next.others (chunk_key array.path array.document.keys d) (λ k l e. is.known.apart.keys c d box other is.below over ne (e ∙ ap (chunk_key array.path array.document.keys) (listed_one c k l)))

-- what is stored for the chunk is what was stored before the others
untouched : (array : Array) (store_empty : Bool) (cs : List (List ℕ)) (c : List ℕ) (box : Region) (old mid : StoreMap) → IsNext array cs c box → RewroteChunks array store_empty cs old mid → value_at array mid c ≡ value_at array old c
untouched array store_empty cs c box old mid is first =
    first.others (chunk_key array.path array.document.keys c) (λ d l e.
    let there = is.in_grid d l in
    is.known.apart.keys d c there.0 box there.1 is.below (λ q. false≢true (sym is.fresh ∙ (ap (is_listed cs) q ∙ l))) e)

rewrote_more : (array : Array) (store_empty : Bool) (cs : List (List ℕ)) (c : List ℕ) (box : Region) (old mid new : StoreMap) → IsNext array cs c box → RewroteChunks array store_empty cs old mid → RewroteChunks array store_empty (c ∷ []) mid new → RewroteChunks array store_empty (cs ++ c ∷ []) old new
rewrote_more array store_empty cs c box old mid new is first next = record {
  each = λ d other over l. ⊎_elim
      (λ here. let one = next.each d other over (one_listed c d here) in (one.0, sym (before d here) ∙ one.1, one.2))
      (λ (ne, k). let one = first.each d other over k in
      (one.0, one.1, subst (λ (o : Option (List ℕ)). IsRewritten array store_empty other.shape one.0 o) (sym (stays array store_empty cs c d box other mid new is next over ne)) one.2))
      (listed_more cs c d l);
  shows = λ lossless d other place over l inside. ⊎_elim
      (λ here. next.shows lossless d other place over (one_listed c d here) inside ∙ ap (read other place) (before d here))
      (λ (ne, k). ap (read other place) (stays array store_empty cs c d box other mid new is next over ne) ∙ first.shows lossless d other place over k inside)
      (listed_more cs c d l);
  others = λ key ne. next.others key (λ d l. ne d (last_listed cs c d (listed_one c d l))) ∙ first.others key (λ d l. ne d (before_listed cs c d l));
} where
  read : Region → List ℕ → Option (List ℕ) → Option (List Cell)
  read other place o = chunk_part array.document.chain array.document.elements other.shape o (number_in other place ∷ [])

  before : (d : List ℕ) → d ≡ c → value_at array mid d ≡ value_at array old d
  before d e = subst (λ (k : List ℕ). value_at array mid k ≡ value_at array old k) (sym e) (untouched array store_empty cs c box old mid is first)

-- ---- the chunks that have a key, of the first ones

-- whether a chunk has a key
abbrev has_key : Array → StoreMap → List ℕ → Bool
has_key array store chunk = is_some (value_at array store chunk)

abbrev pub first_keyed : Array → StoreMap → Region → ℕ → List (List ℕ)
first_keyed array store chunks n = filter (has_key array store) (first_chunks chunks n)

first_keyed-more : (array : Array) (store : StoreMap) (chunks : Region) (n : ℕ) (chunk : List ℕ) (stored : Option (List ℕ)) → chunk ≡ place_at chunks.start chunks.shape n → value_at array store chunk ≡ stored
    → first_keyed array store chunks (n + 1) ≡ first_keyed array store chunks n ++ cond (is_some stored) (chunk ∷ []) []
first_keyed-more array store chunks n chunk stored at is =
    let here = place_at chunks.start chunks.shape n in
    filter_of_map_range_with_len_more (has_key array store) (place_at chunks.start chunks.shape) 0 n n (omega arith)
    ∙ ap (λ (c : List ℕ). first_keyed array store chunks n ++ cond (has_key array store c) (c ∷ []) []) (sym at)
    ∙ ap (λ (o : Option (List ℕ)). first_keyed array store chunks n ++ cond (is_some o) (chunk ∷ []) []) is

begins : (array : Array) (store : StoreMap) (chunks : Region) (n k : ℕ) → (rest : List (List ℕ)) × (first_keyed array store chunks (n + k) ≡ first_keyed array store chunks n ++ rest)
begins array store chunks n zero = ([], ap (first_keyed array store chunks) (omega arith) ∙ sym (append-nil (first_keyed array store chunks n)))
begins array store chunks n (suc k) =
    let first = begins array store chunks n k in
    let here = place_at chunks.start chunks.shape (n + k) in
    let next : List (List ℕ) = cond (has_key array store here) (here ∷ []) [] in
    (first.0 ++ next, ap (first_keyed array store chunks) (omega arith) ∙ (first_keyed-more array store chunks (n + k) here (value_at array store here) refl refl ∙ (ap (λ cs. cs ++ next) first.1 ∙ append_assoc (first_keyed array store chunks n) first.0 next)))

kept_listed : (p : List ℕ → Bool) (xs : List (List ℕ)) (d : List ℕ) → is_listed (filter p xs) d ≡ true → is_listed xs d ≡ true
kept_listed p [] d h = h
kept_listed p (x ∷ xs) d h = go (kept_listed p xs d) (p x) h where
  go : (is_listed (filter p xs) d ≡ true → is_listed xs d ≡ true) → (b : Bool) → is_listed (cond b (x ∷ filter p xs) (filter p xs)) d ≡ true → is_listed (x ∷ xs) d ≡ true
  go later true l = ⊎_elim
      (λ here. ap (λ b. b || is_listed xs d) here)
      (λ there. ap (λ b. bytes_eq d x || b) (later there) ∙ or-true (bytes_eq d x))
      (or_true (bytes_eq d x) (is_listed (filter p xs) d) l)
  go later false l = ap (λ b. bytes_eq d x || b) (later l) ∙ or-true (bytes_eq d x)

-- ---- the walk

-- what is known of a walk over all chunks in the grid that have a box
pub record IsRewrite (array : Array) (chunks : Region) : Type 0 where
  pub known : IsArray array
  pub rank : length chunks.start ≡ length chunks.shape
  pub boxed : AreBoxed array.document.grid chunks

next_is : (array : Array) (store : StoreMap) (chunks : Region) (n : ℕ) (chunk : List ℕ) (box : Region) → IsRewrite array chunks → n < product chunks.shape → chunk ≡ place_at chunks.start chunks.shape n → IsInGrid array.document.grid chunk box → IsNext array (first_keyed array store chunks n) chunk box
next_is array store chunks n chunk box walk below at here = record {
  known = walk.known;
  below = here;
  fresh = not_kept (is_listed (first_keyed array store chunks n) chunk) refl;
  in_grid = λ d l. first_chunks-below array.document.grid chunks n d walk.rank walk.boxed.below (omega arith) (kept_listed (has_key array store) (first_chunks chunks n) d l);
} where
  not_first : is_listed (first_chunks chunks n) chunk ≡ false
  not_first = ap (is_listed (first_chunks chunks n)) at ∙ first_chunks-fresh chunks n (is_listed (first_chunks chunks n) (place_at chunks.start chunks.shape n)) walk.rank below refl

  not_kept : (b : Bool) → is_listed (first_keyed array store chunks n) chunk ≡ b → b ≡ false
  not_kept false e = refl
  not_kept true e = absurd (false≢true (sym not_first ∙ kept_listed (has_key array store) (first_chunks chunks n) chunk e))

-- of the first chunks those that have a key were stored anew, so many of them
pub record SoFar (array : Array) (store_empty : Bool) (chunks : Region) (n applied : ℕ) (old now : StoreMap) : Type 0 where
  pub rewrote : RewroteChunks array store_empty (first_keyed array old chunks n) old now
  pub many : applied ≡ length (first_keyed array old chunks n)

pub so_far_none : (array : Array) (store_empty : Bool) (chunks : Region) (store : StoreMap) → SoFar array store_empty chunks 0 0 store store
so_far_none array store_empty chunks store = record { rewrote = rewrote_none array store_empty store; many = refl }

-- the next of them is the chunk, where it has a key
pub next_keyed : (array : Array) (store_empty : Bool) (chunks : Region) (n : ℕ) (chunk : List ℕ) (box : Region) (stored : Option (List ℕ)) (old mid : StoreMap) → IsRewrite array chunks → n < product chunks.shape → chunk ≡ place_at chunks.start chunks.shape n
    → IsInGrid array.document.grid chunk box → value_at array mid chunk ≡ stored → RewroteChunks array store_empty (first_keyed array old chunks n) old mid → first_keyed array old chunks (n + 1) ≡ first_keyed array old chunks n ++ cond (is_some stored) (chunk ∷ []) []
next_keyed array store_empty chunks n chunk box stored old mid walk below at here is rewrote =
    first_keyed-more array old chunks n chunk stored at (sym (untouched array store_empty (first_keyed array old chunks n) chunk box old mid (next_is array old chunks n chunk box walk below at here) rewrote) ∙ is)

pub so_far_next : (array : Array) (store_empty : Bool) (chunks : Region) (n applied more : ℕ) (chunk : List ℕ) (box : Region) (had : Bool) (old mid new : StoreMap) → IsRewrite array chunks → n < product chunks.shape → chunk ≡ place_at chunks.start chunks.shape n
    → IsInGrid array.document.grid chunk box → more ≡ counted_chunk applied had → MatchBool had (RewroteChunks array store_empty (chunk ∷ []) mid new) (IsAbsentAt array chunk mid new) → SoFar array store_empty chunks n applied old mid → SoFar array store_empty chunks (n + 1) more old new
so_far_next array store_empty chunks n applied more chunk box true old mid new walk below at here is one first =
    let next = next_is array old chunks n chunk box walk below at here in
    let had = one.each chunk box here (one_listed chunk chunk refl) in
    let keyed = next_keyed array store_empty chunks n chunk box (Some had.0) old mid walk below at here had.1 first.rewrote in
    record {
      rewrote = subst (λ (cs : List (List ℕ)). RewroteChunks array store_empty cs old new) (sym keyed) (rewrote_more array store_empty (first_keyed array old chunks n) chunk box old mid new next first.rewrote one);
      many = is ∙ (ap (λ k. k + 1) first.many ∙ sym (ap (λ (cs : List (List ℕ)). length cs) keyed ∙ length-append (first_keyed array old chunks n) (chunk ∷ [])));
    }
so_far_next array store_empty chunks n applied more chunk box false old mid new walk below at here is one first =
    let keyed = next_keyed array store_empty chunks n chunk box None old mid walk below at here one.0 first.rewrote ∙ append-nil (first_keyed array old chunks n) in
    record {
      rewrote = subst (λ (cs : List (List ℕ)). RewroteChunks array store_empty cs old new) (sym keyed) (subst (λ (m : StoreMap). RewroteChunks array store_empty (first_keyed array old chunks n) old m) (sym one.1) first.rewrote);
      many = is ∙ (first.many ∙ sym (ap (λ (cs : List (List ℕ)). length cs) keyed));
    }

-- all of them
pub all_keyed : (array : Array) (store : StoreMap) (chunks : Region) (n : ℕ) → IsRewrite array chunks → n ≡ product chunks.shape → first_keyed array store chunks n ≡ keyed_chunks array store
all_keyed array store chunks n walk end = ap (filter (has_key array store)) (first_chunks-places chunks n walk.rank end ∙ walk.boxed.listed)

pub so_far_all : (array : Array) (store_empty : Bool) (chunks : Region) (n applied : ℕ) (old now : StoreMap) → IsRewrite array chunks → n ≡ product chunks.shape → SoFar array store_empty chunks n applied old now
    → RewroteChunks array store_empty (keyed_chunks array old) old now × (applied ≡ length (keyed_chunks array old))
so_far_all array store_empty chunks n applied old now walk end first =
    let keyed = all_keyed array old chunks n walk end in
    (subst (λ (cs : List (List ℕ)). RewroteChunks array store_empty cs old now) keyed first.rewrote, first.many ∙ ap (λ (cs : List (List ℕ)). length cs) keyed)

-- the first of them, where the walk stops
first_of_all : (array : Array) (store : StoreMap) (chunks : Region) (n : ℕ) → IsRewrite array chunks → n ≤ product chunks.shape → (rest : List (List ℕ)) × (keyed_chunks array store ≡ first_keyed array store chunks n ++ rest)
first_of_all array store chunks n walk h =
    let rest = begins array store chunks n (product chunks.shape - n) in
    (rest.0, sym (all_keyed array store chunks (n + (product chunks.shape - n)) walk (omega arith)) ∙ rest.1)

pub taken_keyed : (array : Array) (store_empty : Bool) (chunks : Region) (n applied : ℕ) (old now : StoreMap) → IsRewrite array chunks → n ≤ product chunks.shape → SoFar array store_empty chunks n applied old now → take applied (keyed_chunks array old) ≡ first_keyed array old chunks n
taken_keyed array store_empty chunks n applied old now walk h first =
    let rest = first_of_all array old chunks n walk h in
    let keyed = first_keyed array old chunks n in
    ap (λ k. take k (keyed_chunks array old)) first.many ∙ (ap (take (length keyed)) rest.1 ∙ take-append_seam keyed rest.0)

nth_of : (xs : List (List ℕ)) (x : List ℕ) (ys : List (List ℕ)) → slice_get (xs ++ x ∷ ys) (length xs) ≡ Some x
nth_of [] x ys = refl
nth_of (z ∷ xs) x ys = nth_of xs x ys

-- a chunk that has a key is the next of them
nth_keyed : (array : Array) (store : StoreMap) (chunks : Region) (n : ℕ) (chunk value : List ℕ) → IsRewrite array chunks → n < product chunks.shape → chunk ≡ place_at chunks.start chunks.shape n → value_at array store chunk ≡ Some value
    → slice_get (keyed_chunks array store) (length (first_keyed array store chunks n)) ≡ Some chunk
nth_keyed array store chunks n chunk value walk below at stored =
    let rest = first_of_all array store chunks (n + 1) walk (omega arith) in
    let first = first_keyed array store chunks n in
    ap (λ (cs : List (List ℕ)). slice_get cs (length first)) (rest.1 ∙ (ap (λ cs. cs ++ rest.0) (first_keyed-more array store chunks n chunk (Some value) at stored) ∙ append_assoc first (chunk ∷ []) rest.0))
    ∙ nth_of first chunk rest.0

walk_stops : (array : Array) (store_empty : Bool) (chunks : Region) (n applied : ℕ) (chunk : List ℕ) (e : ChunkError) (old mid : StoreMap) → IsRewrite array chunks → n < product chunks.shape → chunk ≡ place_at chunks.start chunks.shape n
    → ((c : List ℕ) (box : Region) → IsInGrid array.document.grid c box → chunk ≡ c → value_at array mid c ≡ value_at array old c) → applied ≡ length (first_keyed array old chunks n) → applied ≤ length (keyed_chunks array old)
    → ChunkRewriteStops array store_empty chunk e mid → WalkStops array store_empty (record { applied = applied; error = e }) old e
walk_stops array store_empty chunks n applied chunk e old mid walk below at same many few stops = by_error e stops where
  not_rewritten : (e : ChunkError) → ChunkNotRewritten array store_empty chunk e mid → NotRewritten array store_empty (record { applied = applied; error = e }) old
  not_rewritten e is =
      let stored = sym (same chunk is.box is.below refl) ∙ is.stored in
      record {
        chunk = chunk;
        nth = ap (slice_get (keyed_chunks array old)) many ∙ nth_keyed array old chunks n chunk is.value walk below at stored;
        box = is.box;
        below = is.below;
        value = is.value;
        stored = stored;
        stops = is.stops;
      }

  by_error : (e : ChunkError) → ChunkRewriteStops array store_empty chunk e mid → WalkStops array store_empty (record { applied = applied; error = e }) old e
  by_error error.Fit is = not_rewritten error.Fit is
  by_error (error.Storage s) is = (few, is)
  by_error error.Damage is = not_rewritten error.Damage is
  by_error error.Codec is = not_rewritten error.Codec is
  by_error error.Size is = not_rewritten error.Size is
  by_error error.Memory is = few

pub so_far_stops : (array : Array) (store_empty : Bool) (chunks : Region) (n applied : ℕ) (chunk : List ℕ) (e : ChunkError) (old mid new : StoreMap) → IsRewrite array chunks → n < product chunks.shape → chunk ≡ place_at chunks.start chunks.shape n → ChunkRewriteStops array store_empty chunk e mid → new ≡ mid
    → SoFar array store_empty chunks n applied old mid → RewriteStops array store_empty (record { applied = applied; error = e }) old new
so_far_stops array store_empty chunks n applied chunk e old mid new walk below at stops same first =
    let rest = first_of_all array old chunks n walk (omega arith) in
    let keyed = first_keyed array old chunks n in
    let taken : take applied (keyed_chunks array old) ≡ keyed = taken_keyed array store_empty chunks n applied old mid walk (omega arith) first in
    let long = ap (λ (cs : List (List ℕ)). length cs) rest.1 ∙ length-append keyed rest.0 in
    let many = first.many in
    record {
      stops = walk_stops array store_empty chunks n applied chunk e old mid walk below at
          (λ c box here is. untouched array store_empty keyed c box old mid (next_is array old chunks n c box walk below (sym is ∙ at) here) first.rewrote) many (omega (arith, long)) stops;
      rewrote = subst (λ (cs : List (List ℕ)). RewroteChunks array store_empty cs old new) (sym taken) (subst (λ (m : StoreMap). RewroteChunks array store_empty keyed old m) (sym same) first.rewrote);
    }

-- before the first chunk memory may run out
pub stops_before : (array : Array) (store_empty : Bool) (store : StoreMap) → RewriteStops array store_empty (record { applied = 0; error = error.Memory }) store store
stops_before array store_empty store = record { stops = omega arith; rewrote = rewrote_none array store_empty store }
