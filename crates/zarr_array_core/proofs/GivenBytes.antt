-- How many bytes a store gives for the chunks that a box meets.
use Rattle.std.proofs.Common.{◌≡◌, ◌∙◌, ℕ, ◌+◌, ◌<◌, ◌≤◌, Bool, true, false, ◌&&◌, max, if◌then◌else◌, List, length, take, sum_by, refl, ap, arith, Option}
use Rattle.std.specs.Option.{option_map_or}
use Rattle.std.specs.FinMap.{get}
use Rattle.std.proofs.lemmas.Bool.{false≢true}
use Rattle.std.proofs.lemmas.List.FromFn.{sum_by-map-range_with_len_more}
use Rattle.std.proofs.lemmas.List.Sums.{sum_by-take-le}
use Rattle.zarr_grids_boxes.specs.Boxes.{Region, product, place_at}
use Rattle.zarr_grids_boxes.specs.Cuts.{overlapped, relative}
use Rattle.zarr_grids_chunks.specs.Grids.{IsInGrid, intersecting}
use Rattle.zarr_grids_cover.specs.Intersecting.{AreIntersecting}
use Rattle.zarr_grids_keys.specs.Keys.{chunk_key}
use Rattle.zarr_codecs_traits.specs.Sources.{value_length}
use Rattle.zarr_array_meaning.specs.Chunks.{holds_box, stored_at}
use Rattle.zarr_array_meaning.specs.Documents.{Document}
use Rattle.zarr_array_meaning.specs.ReadBytes.{BoxRead, box_read, most_at, most_of_box, most_of_chunk, most_of_part, most_of_shared}
use Rattle.zarr_array_meaning.specs.StoreMaps.{StoreMap}
use Rattle.zarr_array_core.proofs.NthChunks.{first_chunks, first_chunks-take}

-- ---- one chunk

-- the part is among what may be taken
part_held : (holds : Bool) (part whole : ℕ) → part ≤ (if holds then max part whole else part)
part_held true part whole = omega arith
part_held false part whole = omega arith

-- and so is all, where the box holds the chunk
whole_held : (holds : Bool) (part whole : ℕ) → holds ≡ true → whole ≤ (if holds then max part whole else part)
whole_held true part whole is = omega arith
whole_held false part whole is = absurd (false≢true is)

-- what may be taken of a chunk, by its box
most_here : (read : BoxRead) (chunk : List ℕ) (box : Region) → IsInGrid read.document.grid chunk box → most_at read chunk ≡ most_of_chunk read box (stored_at read.path read.document read.store chunk)
most_here read chunk box below = ap (λ (o : Option Region). option_map_or (λ (b : Region). most_of_chunk read b (stored_at read.path read.document read.store chunk)) o 0) below.has_box

within : (part also most all before after : ℕ) → part ≡ also → all ≡ most → also ≤ most → after ≤ before + part → after ≤ before + all
within part also most all before after same here least few = omega (arith, same, here, least, few)

-- the codecs took what they take for the places that it shares with the box
pub part_given : (read : BoxRead) (chunk key : List ℕ) (box : Region) (before after : ℕ) → IsInGrid read.document.grid chunk box → key ≡ chunk_key read.path read.document.keys chunk
    → after ≤ before + most_of_shared read.document read.region box (get read.store key) → after ≤ before + most_at read chunk
part_given read chunk key box before after below is few =
    let stored = stored_at read.path read.document read.store chunk in
    let part = most_of_shared read.document read.region box stored in
    within (most_of_shared read.document read.region box (get read.store key)) part (most_of_chunk read box stored) (most_at read chunk) before after
    (ap (λ (k : List ℕ). most_of_shared read.document read.region box (get read.store k)) is) (most_here read chunk box below) (part_held (read.workers && holds_box read.region box) part (value_length stored)) few

-- its value was taken as a whole, which workers decode
pub value_given : (read : BoxRead) (chunk key : List ℕ) (box : Region) (before after : ℕ) → IsInGrid read.document.grid chunk box → key ≡ chunk_key read.path read.document.keys chunk
    → (read.workers && holds_box read.region box) ≡ true → after ≤ before + value_length (get read.store key) → after ≤ before + most_at read chunk
value_given read chunk key box before after below is holds few =
    let stored = stored_at read.path read.document read.store chunk in
    within (value_length (get read.store key)) (value_length stored) (most_of_chunk read box stored) (most_at read chunk) before after
    (ap (λ (k : List ℕ). value_length (get read.store k)) is) (most_here read chunk box below)
    (whole_held (read.workers && holds_box read.region box) (most_of_shared read.document read.region box stored) (value_length stored) holds) few

-- the places that a chunk shares with a box, as the chunk numbers them
pub shared_given : (document : Document) (region own shared part : Region) (shape start : List ℕ) (stored : Option (List ℕ)) (before after : ℕ) → shape ≡ own.shape → start ≡ own.start → shared ≡ overlapped region own → part ≡ relative shared start
    → after ≤ before + most_of_part document shape stored part → after ≤ before + most_of_shared document region own stored
shared_given document region own shared part shape start stored before after long at places moved few =
    let here : part ≡ relative (overlapped region own) own.start = moved ∙ (ap (λ (r : Region). relative r start) places ∙ ap (relative (overlapped region own)) at) in
    let same : most_of_part document shape stored part ≡ most_of_shared document region own stored =
    ap (λ (s : List ℕ). most_of_part document s stored part) long ∙ ap (most_of_part document own.shape stored) here in
    let most = most_of_shared document region own stored in
    within (most_of_part document shape stored part) most most most before after same refl (omega arith) few

-- ---- one chunk after another

added : (taken one sum all start before after : ℕ) → taken ≡ one → all ≡ sum + one → before ≤ start + sum → after ≤ before + taken → after ≤ start + all
added taken one sum all start before after same next few more = omega (arith, same, next, few, more)

-- one more
pub more_given : (path : List ℕ) (document : Document) (old new : StoreMap) (region : Region) (workers : Bool) (chunks : Region) (n : ℕ) (chunk : List ℕ) (start before after : ℕ) → new ≡ old → chunk ≡ place_at chunks.start chunks.shape n
    → before ≤ start + sum_by (most_at (box_read path document old region workers)) (first_chunks chunks n) → after ≤ before + most_at (box_read path document new region workers) chunk
    → after ≤ start + sum_by (most_at (box_read path document old region workers)) (first_chunks chunks (n + 1))
more_given path document old new region workers chunks n chunk start before after held at few more =
    let most : List ℕ → ℕ = most_at (box_read path document old region workers) in
    let place = place_at chunks.start chunks.shape n in
    let same : most_at (box_read path document new region workers) chunk ≡ most place = ap (λ (store : StoreMap). most_at (box_read path document store region workers) chunk) held ∙ ap most at in
    let next : sum_by most (first_chunks chunks (n + 1)) ≡ sum_by most (first_chunks chunks n) + most place = sum_by-map-range_with_len_more most (place_at chunks.start chunks.shape) 0 n n (omega arith) in
    added (most_at (box_read path document new region workers) chunk) (most place) (sum_by most (first_chunks chunks n)) (sum_by most (first_chunks chunks (n + 1))) start before after same next few more

-- the first of them are among all
pub first_given : (read : BoxRead) (chunks : Region) (n start after : ℕ) → length chunks.start ≡ length chunks.shape → AreIntersecting read.document.grid read.region chunks → n ≤ product chunks.shape
    → after ≤ start + sum_by (most_at read) (first_chunks chunks n) → after ≤ start + most_of_box read
first_given read chunks n start after l meets low few =
    let most : List ℕ → ℕ = most_at read in
    let all : List (List ℕ) = intersecting read.document.grid read.region in
    let taken : sum_by most (first_chunks chunks n) ≡ sum_by most (take n all) = ap (sum_by most) (first_chunks-take read.document.grid read.region chunks n l meets low) in
    let least : sum_by most (take n all) ≤ sum_by most all = sum_by-take-le most all n in
    within (sum_by most (first_chunks chunks n)) (sum_by most (take n all)) (sum_by most all) (most_of_box read) start after taken refl least few

-- a read ended at one of them
pub stop_given : (path : List ℕ) (document : Document) (old new : StoreMap) (region : Region) (workers : Bool) (chunks : Region) (n : ℕ) (chunk : List ℕ) (start before after : ℕ) → length chunks.start ≡ length chunks.shape → AreIntersecting document.grid region chunks → n < product chunks.shape
    → new ≡ old → chunk ≡ place_at chunks.start chunks.shape n → before ≤ start + sum_by (most_at (box_read path document old region workers)) (first_chunks chunks n) → after ≤ before + most_at (box_read path document new region workers) chunk
    → after ≤ start + most_of_box (box_read path document old region workers)
stop_given path document old new region workers chunks n chunk start before after l meets below held at few more =
    first_given (box_read path document old region workers) chunks (n + 1) start after l meets (omega (arith, below)) (more_given path document old new region workers chunks n chunk start before after held at few more)
