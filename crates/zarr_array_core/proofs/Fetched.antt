-- The chunks that a box meets, fetched one after another, and what is read of each.
use Rattle.std.proofs.Common.{◌≡◌, ◌∙◌, ℕ, zero, suc, ◌+◌, ◌<◌, ◌≤◌, true, List, [], ◌∷◌, ◌++◌, length, slice_get, get_or, refl, sym, ap, subst, arith, Bool, Option, Some, None, Result, Ok, Err, IsTrue}
use Rattle.std.specs.List.{AllZip}
use Rattle.std.proofs.lemmas.List.{length_push}
use Rattle.std.proofs.lemmas.Option.{slice_get_read}
use Rattle.std.proofs.lemmas.Slice.Zip.{AllZip-long}
use Rattle.zarr_grids_boxes.specs.Boxes.{Region, product, place_at}
use Rattle.zarr_grids_chunks.specs.Grids.{intersects}
use Rattle.zarr_grids_cover.specs.Intersecting.{AreIntersecting}
use Rattle.zarr_codecs_meaning.specs.Types.{Cell}
use Rattle.zarr_codecs_meaning.proofs.Lists.{some_same}
use Rattle.zarr_array_meaning.specs.Arrays.{Array}
use Rattle.zarr_array_meaning.specs.Boxes.{IsRead}
use Rattle.zarr_array_meaning.specs.StoreMaps.{StoreMap}
use Rattle.zarr_array_core.specs.Fetching.{AreFirst, AreOfChunk, DecodesFetched, EachChunk, EndsAfter, FindsChunk, IsFetched, PutsFound, RegionRead}
use Rattle.zarr_array_core.specs.Outcomes.{ReadStops}
use Rattle.zarr_array_core.specs.Parts.{PartNotRead}
use Rattle.zarr_array_core.specs.declared.chunk_reading.ChunkPart.{ChunkPart}
use Rattle.zarr_array_core.specs.declared.error.ChunkError.{ChunkError}
use Rattle.zarr_array_core.specs.declared.fetching.FetchedChunk.{FetchedChunk}
use Rattle.zarr_array_core.proofs.NthChunks.{first_chunks, nth_here, shares_here}
use Rattle.zarr_array_core.proofs.ReadSoFar.{ReadSoFar, read_end, read_next, read_stops}

-- what is read of a chunk, or why it is not read
abbrev pub ChunkRead : Type 0
ChunkRead = Result (Option ChunkPart) ChunkError

-- ---- lists

-- what holds of each item and its number holds with one more
push_numbered : {A : Type 0} (P : ℕ → A → Type 0) (xs : List A) (y : A) → ((n : ℕ) (x : A) → slice_get xs n ≡ Some x → P n x) → P (length xs) y → (n : ℕ) (x : A) → slice_get (xs ++ y ∷ []) n ≡ Some x → P n x
push_numbered P [] y each is zero x at = subst (P 0) (some_same at) is
push_numbered P [] y each is (suc n) x at = absurd (cc)
push_numbered P (z ∷ xs) y each is zero x at = each 0 x at
push_numbered P (z ∷ xs) y each is (suc n) x at = push_numbered (λ k. P (suc k)) xs y (λ k w. each (suc k) w) is n x at

-- and goes over to what the items are related to
zip_numbered : {A B : Type 0} (Q : A → B → Type 0) (P : ℕ → A → Type 0) (R : ℕ → B → Type 0) (xs : List A) (ys : List B) → ((n : ℕ) (x : A) (y : B) → Q x y → P n x → R n y) → AllZip Q xs ys → ((n : ℕ) (x : A) → slice_get xs n ≡ Some x → P n x)
    → (n : ℕ) (y : B) → slice_get ys n ≡ Some y → R n y
zip_numbered Q P R [] [] law zip each n z at = absurd (cc)
zip_numbered Q P R [] (y ∷ ys) law zip each n z at = absurd zip
zip_numbered Q P R (x ∷ xs) [] law zip each n z at = absurd zip
zip_numbered Q P R (x ∷ xs) (y ∷ ys) law zip each zero z at = subst (λ w. R 0 w) (some_same at) (law 0 x y zip.0 (each 0 x refl))
zip_numbered Q P R (x ∷ xs) (y ∷ ys) law zip each (suc n) z at = zip_numbered Q (λ k. P (suc k)) (λ k. R (suc k)) xs ys (λ k. law (suc k)) zip.1 (λ k w. each (suc k) w) n z at

-- ---- one chunk after another is fetched

pub no_chunk : {A : Type 0} (chunks : Region) (holds : List ℕ → A → Type 0) → EachChunk {A = A} chunks holds []
no_chunk chunks holds = λ n item at. absurd (cc)

-- a read of a store that only reads changed since
pub same_read : (array : Array) (old new : StoreMap) (region : Region) (was is : Bool) (chunk : List ℕ) (item : FetchedChunk) → new ≡ old → is ≡ was
    → IsFetched (record { array = array; store = new; region = region; honest = is }) chunk item → IsFetched (record { array = array; store = old; region = region; honest = was }) chunk item
same_read array old new region was is chunk item e f fetches =
    subst (λ (b : Bool). IsFetched (record { array = array; store = old; region = region; honest = b }) chunk item) f
    (subst (λ (held : StoreMap). IsFetched (record { array = array; store = held; region = region; honest = is }) chunk item) e fetches)

-- one more
pub fetched_more : (read : RegionRead) (chunks : Region) (items all : List FetchedChunk) (item : FetchedChunk) (n : ℕ) (chunk : List ℕ) → EachChunk chunks (IsFetched read) items → length items ≡ n → chunk ≡ place_at chunks.start chunks.shape n
    → IsFetched read chunk item → all ≡ items ++ item ∷ [] → EachChunk chunks (IsFetched read) all × (length all ≡ n + 1)
fetched_more read chunks items all item n chunk each long at is same =
    let place = place_at chunks.start chunks.shape in
    let here = subst (λ (c : List ℕ). IsFetched read c item) (at ∙ ap place (sym long)) is in
    let more : EachChunk chunks (IsFetched read) (items ++ item ∷ []) = push_numbered (λ (k : ℕ) (x : FetchedChunk). IsFetched read (place k) x) items item each here in
    let longer : length (items ++ item ∷ []) ≡ n + 1 = length_push items item ∙ ap (λ (k : ℕ). k + 1) long in
    (subst (EachChunk chunks (IsFetched read)) (sym same) more, ap length same ∙ longer)

-- fetching ended before a chunk
pub fetched_until : (read : RegionRead) (chunks : Region) (items : List FetchedChunk) (n : ℕ) (chunk : List ℕ) (e : ChunkError) → EachChunk chunks (IsFetched read) items → length items ≡ n → n < product chunks.shape → chunk ≡ place_at chunks.start chunks.shape n
    → (IsTrue read.honest → PartNotRead read.array read.store read.region chunk e) → AreFirst read chunks (IsFetched read) items (Some e)
fetched_until read chunks items n chunk e each long below at why =
    let fewer : length items < product chunks.shape = omega (arith, long, below) in
    let same : chunk ≡ place_at chunks.start chunks.shape (length items) = at ∙ ap (place_at chunks.start chunks.shape) (sym long) in
    record { each = each; ends = (fewer, λ honest. subst (λ (c : List ℕ). PartNotRead read.array read.store read.region c e) same (why honest)) }

-- all were fetched
pub fetched_all : (read : RegionRead) (chunks : Region) (items : List FetchedChunk) (n : ℕ) → EachChunk chunks (IsFetched read) items → length items ≡ n → n ≡ product chunks.shape → AreFirst read chunks (IsFetched read) items None
fetched_all read chunks items n each long all = record { each = each; ends = long ∙ all }

-- what was fetched of the first chunks is decoded to what is read of them
pub decoded_first : (read : RegionRead) (chunks : Region) (items : List FetchedChunk) (made : List ChunkRead) (stopped : Option ChunkError) → AreFirst read chunks (IsFetched read) items stopped → AllZip (DecodesFetched read.array) items made
    → AreFirst read chunks (FindsChunk read) made stopped
decoded_first read chunks items made stopped are zip =
    let place = place_at chunks.start chunks.shape in
    let long : length items ≡ length made = sym (AllZip-long (DecodesFetched read.array) items made zip) in
    record {
      each = zip_numbered (DecodesFetched read.array) (λ (n : ℕ) (item : FetchedChunk). IsFetched read (place n) item) (λ (n : ℕ) (result : ChunkRead). FindsChunk read (place n) result) items made (λ n item result decodes is. decodes read (place n) refl is) zip are.each;
      ends = subst (λ (n : ℕ). EndsAfter read chunks n stopped) long are.ends;
    }

-- ---- one result after another is put

-- what is known of the next result
pub record IsNext (read : RegionRead) (chunks : Region) (n : ℕ) (result : ChunkRead) : Type 0 where
  pub below : n < product chunks.shape
  pub shares : intersects read.array.document.grid read.region (place_at chunks.start chunks.shape n) ≡ true
  pub is : FindsChunk read (place_at chunks.start chunks.shape n) result

at_most_all : (read : RegionRead) (chunks : Region) (n : ℕ) (stopped : Option ChunkError) → EndsAfter read chunks n stopped → n ≤ product chunks.shape
at_most_all read chunks n None ends = let all : n ≡ product chunks.shape = ends in omega (arith, all)
at_most_all read chunks n (Some e) ends = let below : n < product chunks.shape = ends.0 in omega (arith, below)

pub next_result : (read : RegionRead) (chunks : Region) (made : List ChunkRead) (n : ℕ) (result : ChunkRead) (stopped : Option ChunkError) → length chunks.start ≡ length chunks.shape → AreIntersecting read.array.document.grid read.region chunks
    → AreFirst read chunks (FindsChunk read) made stopped → (n < length made) × (result ≡ get_or made n result) → IsNext read chunks n result
next_result read chunks made n result stopped l meets are turn =
    let most = at_most_all read chunks (length made) stopped are.ends in
    let low = turn.0 in
    let below : n < product chunks.shape = omega (arith, low, most) in
    record {
      below = below;
      shares = shares_here read.array.document.grid read.region chunks n (place_at chunks.start chunks.shape n) l meets below refl;
      is = are.each n result (slice_get_read made (length made) n result refl turn.0 turn.1);
    }

-- the chunk that it is of
pub next_met : (read : RegionRead) (chunks : Region) (n : ℕ) (found : Option ChunkPart) → IsNext read chunks n (Ok found)
    → (chunk : List ℕ) × (intersects read.array.document.grid read.region chunk ≡ true) × AreOfChunk read.array.document read.region chunk found
next_met read chunks n found next = (place_at chunks.start chunks.shape n, next.shares, next.is.shared)

pub put_next : (read : RegionRead) (chunks : Region) (done : List ChunkRead) (result : ChunkRead) (found : Option ChunkPart) (old new : List Cell) → length chunks.start ≡ length chunks.shape → AreIntersecting read.array.document.grid read.region chunks
    → IsNext read chunks (length done) (Ok found) → IsTrue read.honest → PutsFound read.array read.region found old new → ReadSoFar read.array read.store read.region (first_chunks chunks (length done)) old
    → ReadSoFar read.array read.store read.region (first_chunks chunks (length (done ++ result ∷ []))) new
put_next read chunks done result found old new l meets next honest puts so_far =
    let n = length done in
    let chunk = place_at chunks.start chunks.shape n in
    let box = nth_here read.array.document.grid chunks n chunk l meets.below next.below refl in
    subst (λ (k : ℕ). ReadSoFar read.array read.store read.region (first_chunks chunks k) new) (sym (length_push done result))
    (read_next read.array read.store read.region chunks n chunk old new box refl (λ other below. puts read.store chunk other below next.shares next.is.shared (next.is.is honest)) so_far)

pub next_stops : (read : RegionRead) (chunks : Region) (n : ℕ) (e : ChunkError) (cells : List Cell) → length chunks.start ≡ length chunks.shape → AreIntersecting read.array.document.grid read.region chunks
    → IsNext read chunks n (Err e) → IsTrue read.honest → ReadSoFar read.array read.store read.region (first_chunks chunks n) cells → ReadStops read.array.path read.array.document read.store read.region e
next_stops read chunks n e cells l meets next honest so_far = read_stops read.array read.store read.region chunks n (place_at chunks.start chunks.shape n) cells e l meets next.below refl (next.is.1 honest) so_far

-- ---- after all results

pub last_stops : (read : RegionRead) (chunks : Region) (made : List ChunkRead) (n : ℕ) (stopped : Option ChunkError) (e : ChunkError) (cells : List Cell) → length chunks.start ≡ length chunks.shape → AreIntersecting read.array.document.grid read.region chunks
    → AreFirst read chunks (FindsChunk read) made stopped → stopped ≡ Some e → n ≡ length made → IsTrue read.honest → ReadSoFar read.array read.store read.region (first_chunks chunks n) cells → ReadStops read.array.path read.array.document read.store read.region e
last_stops read chunks made n stopped e cells l meets are is same honest so_far =
    let ends : EndsAfter read chunks n (Some e) = subst (λ (k : ℕ). EndsAfter read chunks k (Some e)) (sym same) (subst (λ (o : Option ChunkError). EndsAfter read chunks (length made) o) is are.ends) in
    read_stops read.array read.store read.region chunks n (place_at chunks.start chunks.shape n) cells e l meets ends.0 refl (ends.1 honest) so_far

pub all_put : (read : RegionRead) (chunks : Region) (made : List ChunkRead) (n : ℕ) (stopped : Option ChunkError) (cells : List Cell) → length chunks.start ≡ length chunks.shape → AreIntersecting read.array.document.grid read.region chunks
    → AreFirst read chunks (FindsChunk read) made stopped → stopped ≡ None → n ≡ length made → length cells ≡ product read.region.shape → ReadSoFar read.array read.store read.region (first_chunks chunks n) cells
    → IsRead read.array.path read.array.document read.store read.region cells
all_put read chunks made n stopped cells l meets are is same many so_far =
    let all : length made ≡ product chunks.shape = subst (λ (o : Option ChunkError). EndsAfter read chunks (length made) o) is are.ends in
    read_end read.array read.store read.region chunks n (product chunks.shape) cells l meets refl (same ∙ all) many so_far
