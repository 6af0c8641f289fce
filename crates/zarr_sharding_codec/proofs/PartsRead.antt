-- What is read of one slice, and of a part of a shard.
use Rattle.std.proofs.Common.{◌≡◌, ◌∙◌, ℕ, zero, suc, ◌<◌, List, [], ◌∷◌, length, map, get_or, replicate, unwrap_or, ap, sym, refl, arith, subst, Bool, true, false, Option, Some, None, option_and_then, option_map, is_some, if◌then◌else◌, Result, Ok, Err}
use Rattle.std.proofs.lemmas.Bool.{and_parts}
use Rattle.std.specs.List.{list_all}
use Rattle.zarr_grids_boxes.specs.Boxes.{product}
use Rattle.zarr_codecs_meaning.specs.Chains.{Chain, Location, sharded}
use Rattle.zarr_codecs_meaning.specs.Decoding.{all_there, cell_at, cell_of_part, is_absent, opens, part_decoded, slice_at, cell_of_pair}
use Rattle.zarr_codecs_meaning.specs.Chunks.{chunk_part}
use Rattle.zarr_codecs_meaning.specs.Encoding.{Pair, absent_pair}
use Rattle.zarr_codecs_meaning.specs.Payloads.{cells_in}
use Rattle.zarr_codecs_meaning.specs.Fits.{fits}
use Rattle.zarr_codecs_meaning.specs.Places.{index_shape, parts_of}
use Rattle.zarr_codecs_meaning.specs.Types.{Cell, Elements, IsTooLarge}
use Rattle.zarr_codecs_meaning.proofs.Lists.{if_some, some_same}
use Rattle.zarr_codecs_arrays.specs.Views.{payload_of}
use Rattle.zarr_codecs_arrays.specs.declared.array_bytes.ArrayBytes.{ArrayBytes}
use Rattle.zarr_codecs_arrays.specs.declared.error.CodecError.{CodecError}
use Rattle.zarr_codecs_arrays.specs.declared.error.CodecError.TheVariants as error
use Rattle.zarr_codecs_traits.specs.Indexers.{Asked, are_inside, numbers_asked}
use Rattle.zarr_codecs_traits.specs.Arrays.{coded}
use Rattle.zarr_codecs_traits.specs.Outcomes.{DecodesPart}
use Rattle.zarr_codecs_traits.specs.Sources.{refused_after}
use Rattle.zarr_sharding_index.specs.HeldIndex.{FetchesIndex, FetchesSlice, IsFetched, IsIndexHeld}
use Rattle.zarr_sharding_index.specs.Present.{all_pairs}
use Rattle.zarr_sharding_index.specs.declared.fetched_index.FetchedIndex.{FetchedIndex}
use Rattle.zarr_sharding_index.specs.Held.{are_absent}
use Rattle.zarr_sharding_codec.specs.Reading.{IsTotalOf, Lists, ListsRead, places_decoded, shard_cells, slice_cells, subchunks_of}
use Rattle.zarr_sharding_codec.proofs.AllThere.{one_lost}
use Rattle.zarr_sharding_codec.proofs.ClosedValues.{closed_cell}

-- ---- one slice

not_opened : (chain : Chain) (elements : Elements) (shape value places : List ℕ) (b : Bool) → opens chain elements shape value ≡ b → 0 < length places → (if b then slice_cells chain elements shape value places else None) ≡ None → slice_cells chain elements shape value places ≡ None
not_opened chain elements shape value places true opened some h = h
not_opened chain elements shape value places false closed some h = one_lost (cell_at chain elements shape value) places 0 some (closed_cell chain elements shape value _ closed)

-- what is read of places of a slice, of which there are some
pub slice_read : (inner : Chain) (elements : Elements) (shape slice : List ℕ) (asked : Asked) (result : Result ArrayBytes CodecError) → fits inner elements.type shape ≡ true → 0 < length (numbers_asked shape asked) → are_inside shape asked ≡ true → 0 ≡ refused_after 0 result
    → DecodesPart (coded inner elements shape) (Some slice) asked result → Lists elements shape (slice_cells inner elements shape slice (numbers_asked shape asked)) result
slice_read inner elements shape slice asked (Ok bytes) fit some inside unrefused part = record {
  cells = part.cells;
  is = (if_some (opens inner elements shape slice) (slice_cells inner elements shape slice (numbers_asked shape asked)) part.cells part.is).1;
  lists = part.lists;
}
slice_read inner elements shape slice asked (Err error.Damage) fit some inside unrefused part =
    not_opened inner elements shape slice (numbers_asked shape asked) (opens inner elements shape slice) refl some part.2
slice_read inner elements shape slice asked (Err error.Size) fit some inside unrefused part = part
slice_read inner elements shape slice asked (Err error.Memory) fit some inside unrefused part = tt
slice_read inner elements shape slice asked (Err error.Fit) fit some inside unrefused part = cc
slice_read inner elements shape slice asked (Err error.IncompatibleIndexer) fit some inside unrefused part = cc
slice_read inner elements shape slice asked (Err error.Source) fit some inside unrefused part = absurd (omega (arith, unrefused))
slice_read inner elements shape slice asked (Err e) fit some inside unrefused part = absurd part

-- elements in memory aren't refused by a source
pub lists_unrefused : (elements : Elements) (shape : List ℕ) (found : Option (List Cell)) (result : Result ArrayBytes CodecError) (count : ℕ) → Lists elements shape found result → refused_after count result ≡ count
lists_unrefused elements shape found (Ok bytes) count h = refl
lists_unrefused elements shape found (Err error.Source) count h = absurd h
lists_unrefused elements shape found (Err e) count h = refl

-- ---- places of one subchunk

pub absent_places : (inner : Chain) (elements : Elements) (value shape : List ℕ) (pair : Pair) (places : List ℕ) → is_absent pair ≡ true → places_decoded (coded inner elements shape) value pair places ≡ Some (replicate (length places) elements.fill)
absent_places inner elements value shape pair [] absent = refl
absent_places inner elements value shape pair (n ∷ ns) absent =
    ap (λ (b : Bool). option_and_then (λ x. option_map (λ xs. x ∷ xs) (places_decoded (coded inner elements shape) value pair ns)) (if b then Some elements.fill else option_and_then (λ slice. cell_at inner elements shape slice n) (slice_at value pair))) absent
    ∙ ap (option_map (λ xs. elements.fill ∷ xs)) (absent_places inner elements value shape pair ns absent)

pub present_places : (inner : Chain) (elements : Elements) (value shape : List ℕ) (pair : Pair) (slice : Option (List ℕ)) (places : List ℕ) → is_absent pair ≡ false → slice_at value pair ≡ slice
    → places_decoded (coded inner elements shape) value pair places ≡ all_there (map (λ i. option_and_then (λ s. cell_at inner elements shape s i) slice) places)
present_places inner elements value shape pair slice places present is =
    ap (λ (b : Bool). all_there (map (λ i. if b then Some elements.fill else option_and_then (λ s. cell_at inner elements shape s i) (slice_at value pair)) places)) present
    ∙ ap (λ (o : Option (List ℕ)). all_there (map (λ i. option_and_then (λ s. cell_at inner elements shape s i) o) places)) is

pub lists_read : (elements : Elements) (shape : List ℕ) (found : Option (List Cell)) (result : Result ArrayBytes CodecError) → Lists elements shape found result → ListsRead elements shape found result
lists_read elements shape found (Ok bytes) h = h
lists_read elements shape found (Err error.Source) h = tt
lists_read elements shape found (Err e) h = h

-- as many fill values as a shape has places, read of that many places of an absent subchunk
pub fill_places : (inner : Chain) (elements : Elements) (value shape filled : List ℕ) (pair : Pair) (places : List ℕ) (result : Result ArrayBytes CodecError) → is_absent pair ≡ true → length places ≡ product filled
    → (IsTooLarge elements.type (product filled) → IsTooLarge elements.type (product shape)) → Lists elements filled (Some (replicate (product filled) elements.fill)) result → ListsRead elements shape (places_decoded (coded inner elements shape) value pair places) result
fill_places inner elements value shape filled pair places (Ok bytes) absent many larger made = record {
  cells = made.cells;
  is = absent_places inner elements value shape pair places absent ∙ (ap (λ k. Some (replicate k elements.fill)) many ∙ made.is);
  lists = made.lists;
}
fill_places inner elements value shape filled pair places (Err error.Source) absent many larger made = tt
fill_places inner elements value shape filled pair places (Err error.Size) absent many larger made = larger made
fill_places inner elements value shape filled pair places (Err error.Memory) absent many larger made = tt
fill_places inner elements value shape filled pair places (Err error.Damage) absent many larger made = cc
fill_places inner elements value shape filled pair places (Err e) absent many larger made = absurd made

pub slice_unread : (inner : Chain) (elements : Elements) (value shape : List ℕ) (pair : Pair) (places : List ℕ) (e : CodecError) → is_absent pair ≡ false → 0 < length places → FetchesSlice value pair (Err e)
    → ListsRead elements shape (places_decoded (coded inner elements shape) value pair places) (Err e)
slice_unread inner elements value shape pair places error.Damage present some lost =
    present_places inner elements value shape pair None places present lost ∙ one_lost (λ i. None) places 0 some refl
slice_unread inner elements value shape pair places error.Source present some lost = tt
slice_unread inner elements value shape pair places error.Memory present some lost = tt
slice_unread inner elements value shape pair places e present some lost = absurd lost

-- ---- what a source holds

-- the same result, by the value that the source holds
pub value_total : (contents : Option (List ℕ)) (pairs : List Pair) (total : ℕ) (value : List ℕ) → contents ≡ Some value → total ≡ length value → IsTotalOf contents pairs total
value_total contents pairs total value is long = subst (λ (o : Option (List ℕ)). IsTotalOf o pairs total) (sym is) long

pub value_read : (inner : Chain) (elements : Elements) (shape subchunk : List ℕ) (contents : Option (List ℕ)) (value : List ℕ) (pairs : List Pair) (numbers : List ℕ) (result : Result ArrayBytes CodecError) → contents ≡ Some value
    → ListsRead elements shape (shard_cells (subchunks_of inner elements shape subchunk) (unwrap_or contents []) pairs numbers) result → ListsRead elements shape (shard_cells (subchunks_of inner elements shape subchunk) value pairs numbers) result
value_read inner elements shape subchunk contents value pairs numbers result is read =
    subst (λ (o : Option (List ℕ)). ListsRead elements shape (shard_cells (subchunks_of inner elements shape subchunk) (unwrap_or o []) pairs numbers) result) is read

-- where a subchunk is present, there is a value
pub absent_there : (pairs : List Pair) (k : ℕ) → are_absent pairs ≡ true → k < length pairs → is_absent (get_or pairs k absent_pair) ≡ true
absent_there [] k all low = refl
absent_there (p ∷ ps) zero all low = (and_parts (is_absent p) (list_all is_absent ps) all).0
absent_there (p ∷ ps) (suc k) all low = absent_there ps k (and_parts (is_absent p) (list_all is_absent ps) all).1 (omega (arith, low))

pub present_value : (contents : Option (List ℕ)) (pairs : List Pair) (total k : ℕ) → IsTotalOf contents pairs total → k < length pairs → is_absent (get_or pairs k absent_pair) ≡ false → (contents ≡ Some (unwrap_or contents [])) × (length (unwrap_or contents []) ≡ total)
present_value None pairs total k told low there = let gone = absent_there pairs k told low in absurd (cc)
present_value (Some value) pairs total k told low there = (refl, sym told)

-- ---- a part of a shard

pub part_is : (subchunk : List ℕ) (inner index : Chain) (location : Location) (elements : Elements) (shape value : List ℕ) (pairs : List Pair) (numbers : List ℕ) → IsIndexHeld index location (index_shape shape subchunk) value pairs
    → part_decoded (sharded subchunk inner index location) elements shape value numbers ≡ shard_cells (subchunks_of inner elements shape subchunk) value pairs numbers
part_is subchunk inner index location elements shape value pairs numbers held =
    let meet = λ (n : ℕ). cell_of_part (cell_of_pair (cell_at inner elements) elements.fill value) n (parts_of shape subchunk) in
    ap (λ (o : Option (List Pair)). if is_some o then all_there (map (λ n. option_and_then (meet n) o) numbers) else None) held.is

pub part_found : (subchunk : List ℕ) (inner index : Chain) (location : Location) (elements : Elements) (shape value : List ℕ) (pairs : List Pair) (numbers : List ℕ) (asked : Asked) (result : Result ArrayBytes CodecError)
    → fits (sharded subchunk inner index location) elements.type shape ≡ true → are_inside shape asked ≡ true → numbers ≡ numbers_asked shape asked → IsIndexHeld index location (index_shape shape subchunk) value pairs
    → ListsRead elements shape (shard_cells (subchunks_of inner elements shape subchunk) value pairs numbers) result → DecodesPart (coded (sharded subchunk inner index location) elements shape) (Some value) asked result
part_found subchunk inner index location elements shape value pairs numbers asked (Ok bytes) fit inside are held found = record {
  cells = found.cells;
  fit = fit;
  inside = inside;
  lists = found.lists;
  is = ap (part_decoded (sharded subchunk inner index location) elements shape value) (sym are) ∙ (part_is subchunk inner index location elements shape value pairs numbers held ∙ found.is);
}
part_found subchunk inner index location elements shape value pairs numbers asked (Err error.Damage) fit inside are held found =
    (fit, inside, ap (part_decoded (sharded subchunk inner index location) elements shape value) (sym are) ∙ (part_is subchunk inner index location elements shape value pairs numbers held ∙ found))
part_found subchunk inner index location elements shape value pairs numbers asked (Err error.Size) fit inside are held found = found
part_found subchunk inner index location elements shape value pairs numbers asked (Err error.Source) fit inside are held found = tt
part_found subchunk inner index location elements shape value pairs numbers asked (Err error.Memory) fit inside are held found = tt
part_found subchunk inner index location elements shape value pairs numbers asked (Err e) fit inside are held found = absurd found

-- where the index isn't fetched, no part is
pub part_unfetched : (subchunk : List ℕ) (inner index : Chain) (location : Location) (elements : Elements) (shape : List ℕ) (stored : Option (List ℕ)) (asked : Asked) (e : CodecError) → fits (sharded subchunk inner index location) elements.type shape ≡ true
    → are_inside shape asked ≡ true → FetchesIndex index location (index_shape shape subchunk) stored (Err e) → DecodesPart (coded (sharded subchunk inner index location) elements shape) stored asked (Err e)
part_unfetched subchunk inner index location elements shape None asked error.Damage fit inside lost = elim lost [ ]
part_unfetched subchunk inner index location elements shape (Some value) asked error.Damage fit inside lost =
    let meet = λ (n : ℕ). cell_of_part (cell_of_pair (cell_at inner elements) elements.fill value) n (parts_of shape subchunk) in
    (fit, inside, ap (λ (o : Option (List Pair)). if is_some o then all_there (map (λ n. option_and_then (meet n) o) (numbers_asked shape asked)) else None) lost)
part_unfetched subchunk inner index location elements shape stored asked error.Source fit inside lost = tt
part_unfetched subchunk inner index location elements shape stored asked error.Memory fit inside lost = tt
part_unfetched subchunk inner index location elements shape stored asked e fit inside lost = absurd lost

-- ---- what was fetched

-- a source holds a shard whose index was fetched
pub record IsOpened (index : Chain) (location : Location) (shape : List ℕ) (contents : Option (List ℕ)) (found : FetchedIndex) : Type 0 where
  pub value : List ℕ
  pub is : contents ≡ Some value
  pub held : IsIndexHeld index location shape value (all_pairs found.pairs)
  pub total : found.total ≡ length value

pub fetched_value : (index : Chain) (location : Location) (shape : List ℕ) (contents : Option (List ℕ)) (o : Option FetchedIndex) (found : FetchedIndex) → o ≡ Some found → IsFetched index location shape contents o → IsOpened index location shape contents found
fetched_value index location shape None None found is h = cc
fetched_value index location shape None (Some other) found is h = elim h [ ]
fetched_value index location shape (Some value) None found is h = elim h [ ]
fetched_value index location shape (Some value) (Some other) found is h =
    let same : other ≡ found = some_same is in
    record {
      value = value;
      is = refl;
      held = subst (λ (f : FetchedIndex). IsIndexHeld index location shape value (all_pairs f.pairs)) same h.0;
      total = subst (λ (f : FetchedIndex). f.total ≡ length value) same h.1;
    }

pub fetched_nothing : (index : Chain) (location : Location) (shape : List ℕ) (contents : Option (List ℕ)) (o : Option FetchedIndex) → o ≡ None → IsFetched index location shape contents o → contents ≡ None
fetched_nothing index location shape None o is h = refl
fetched_nothing index location shape (Some value) None is h = elim h [ ]
fetched_nothing index location shape (Some value) (Some found) is h = cc

-- where nothing is stored, each place has the fill value
fills : (fill : Cell) (numbers : List ℕ) → map (λ n. fill) numbers ≡ replicate (length numbers) fill
fills fill [] = refl
fills fill (n ∷ ns) = ap (λ cells. fill ∷ cells) (fills fill ns)

pub part_filled : (chain : Chain) (elements : Elements) (shape : List ℕ) (stored : Option (List ℕ)) (numbers : List ℕ) (asked : Asked) (bytes : ArrayBytes) → fits chain elements.type shape ≡ true → are_inside shape asked ≡ true → numbers ≡ numbers_asked shape asked
    → stored ≡ None → cells_in elements.type (payload_of bytes) ≡ Some (replicate (length numbers) elements.fill) → DecodesPart (coded chain elements shape) stored asked (Ok bytes)
part_filled chain elements shape stored numbers asked bytes fit inside are none lists = record {
  cells = replicate (length numbers) elements.fill;
  fit = fit;
  inside = inside;
  lists = lists;
  is = ap (λ (o : Option (List ℕ)). chunk_part chain elements shape o (numbers_asked shape asked)) none ∙ ap Some (ap (map (λ n. elements.fill)) (sym are) ∙ fills elements.fill numbers);
}
