-- An array put together from the present slices of its shard.
use Rattle.std.proofs.Common.{◌≡◌, ◌≢◌, ◌∙◌, ℕ, zero, suc, ◌+◌, ◌<◌, ◌≤◌, inl, inr, List, [], ◌∷◌, length, get_or, take, set, replicate, refl, sym, ap, subst, arith, Bool, true, false, ◌==◌, Option, Some, option_and_then, if◌then◌else◌, Result, Ok, Err, take_all}
use Rattle.std.proofs.lemmas.Bool.{eqb-true, eq-eqb}
use Rattle.std.proofs.lemmas.List.{get_or_default, get_or-map, get_or-replicate, get_or-set_other, get_or-set_same, length-map, length-replicate}
use Rattle.zarr_grids_boxes.specs.Boxes.{Region, product}
use Rattle.zarr_codecs_meaning.specs.Chains.{Chain, Location, sharded}
use Rattle.zarr_codecs_meaning.specs.Decoding.{decoded, is_absent, slice_at}
use Rattle.zarr_codecs_meaning.specs.Encoding.{Pair, absent_pair}
use Rattle.zarr_codecs_meaning.specs.Fits.{can_cut, fits}
use Rattle.zarr_codecs_meaning.specs.Payloads.{cells_in}
use Rattle.zarr_codecs_meaning.specs.Places.{Part, parts_of}
use Rattle.zarr_codecs_meaning.specs.Types.{Cell, Elements}
use Rattle.zarr_codecs_meaning.proofs.Fitting.{fitted}
use Rattle.zarr_codecs_meaning.proofs.Parts.{length-parts, no_part}
use Rattle.zarr_codecs_meaning.proofs.PartsOnce.{number_in}
use Rattle.zarr_codecs_regions.specs.Updates.{put}
use Rattle.zarr_codecs_arrays.specs.Views.{payload_of}
use Rattle.zarr_codecs_arrays.specs.declared.array_bytes.ArrayBytes.{ArrayBytes}
use Rattle.zarr_codecs_arrays.specs.declared.error.CodecError.{CodecError}
use Rattle.zarr_codecs_traits.specs.Arrays.{coded}
use Rattle.zarr_codecs_traits.specs.Indexers.{numbers_of}
use Rattle.zarr_codecs_traits.specs.declared.pieces.PieceSlice.{PieceSlice}
use Rattle.zarr_sharding_index.specs.Listed.{are_present, full_list}
use Rattle.zarr_sharding_index.specs.Views.{pair_of}
use Rattle.zarr_sharding_index.specs.declared.pair.PresentPair.{PresentPair}
use Rattle.zarr_sharding_index.proofs.Listed.{AreListed, are_listed, found_at, full_absent, full_length, full_more, number_below}
use Rattle.zarr_sharding_places.specs.Boxed.{ShowsBoxes}
use Rattle.zarr_sharding_places.specs.Locating.{part_shape, subchunk_box}
use Rattle.zarr_sharding_places.specs.Pieces.{piece_decoded, shard_decoded}
use Rattle.zarr_sharding_places.specs.declared.boxed.BoxedElements.{BoxedElements}
use Rattle.zarr_sharding_places.proofs.PartPlaces.{IsPlace, place_below, places_apart}
use Rattle.zarr_sharding_places.proofs.PutPlaces.{length-put, put_cases}
use Rattle.zarr_sharding_places.proofs.ReadPieces.{ShowsPiece, ShowsPieces, piece_at, piece_count, shown_all}
use Rattle.zarr_sharding_codec.specs.Pieces.{AreDecoded, AreSliced, DecodesSlice, no_slice, whole_slice}
use Rattle.zarr_sharding_codec.specs.Reading.{DecodesPieces, Lists, subchunks_of}
use Rattle.zarr_sharding_codec.proofs.DecodedShard.{decode_lost}
use Rattle.zarr_sharding_codec.proofs.NumberedParts.{part_count, part_fits, part_is, part_number, region_numbers}
use Rattle.zarr_sharding_codec.proofs.StoredLoop.{is_subchunk}

-- ---- one subchunk whose pair is set

pub show_put : (inner : Chain) (elements : Elements) (shape subchunk value : List ℕ) (pairs : List Pair) (cells piece : List Cell) (n : ℕ) (pair : Pair) → can_cut shape subchunk ≡ true → n < length (parts_of shape subchunk) → length pairs ≡ length (parts_of shape subchunk) → length cells ≡ product shape
    → piece_decoded inner elements value (get_or (parts_of shape subchunk) n no_part).shape pair ≡ Some piece → ShowsPieces inner elements value (parts_of shape subchunk) pairs cells (length (parts_of shape subchunk))
    → ShowsPieces inner elements value (parts_of shape subchunk) (set pairs n pair) (put (get_or (parts_of shape subchunk) n no_part).places piece cells) (length (parts_of shape subchunk))
show_put inner elements shape subchunk value pairs cells piece n pair cuts below many whole is before = λ k low. by_number k low (k == n) refl where
  parts : List Part
  parts = parts_of shape subchunk

  made : List Cell
  made = put (get_or parts n no_part).places piece cells

  here : piece_at inner elements value parts (set pairs n pair) n ≡ Some piece
  here = ap (λ (p : Pair). piece_decoded inner elements value (get_or parts n no_part).shape p) (get_or-set_same pairs n pair absent_pair (omega (arith, below, many))) ∙ is

  long : length piece ≡ length (get_or parts n no_part).places
  long = piece_count inner elements shape subchunk value (set pairs n pair) piece n cuts below here

  old : (k : ℕ) → k < length parts → k ≢ n → ShowsPiece inner elements value parts (set pairs n pair) made k
  old k low other =
      let shows = before k low in
      record {
        piece = shows.piece;
        is = ap (λ (p : Pair). piece_decoded inner elements value (get_or parts k no_part).shape p) (get_or-set_other pairs n k pair absent_pair other) ∙ shows.is;
        shown = λ i inside.
            let place : IsPlace parts k i = record { part = low; place = inside } in
            let m = number_in parts k i in
            let within = place_below shape subchunk k i cuts place in
            elim (put_cases (get_or parts n no_part).places piece cells m elements.fill long (omega (arith, within, whole))) [
              | inl was ↦
                  let same = places_apart shape subchunk n was.at_ k i cuts (record { part = below; place = was.below }) place was.there in
                  absurd (other (sym same.0))
              | inr kept ↦ kept.is ∙ shows.shown i inside
            ];
      }

  new : ShowsPiece inner elements value parts (set pairs n pair) made n
  new = record {
    piece = piece;
    is = here;
    shown = λ i inside.
        let place : IsPlace parts n i = record { part = below; place = inside } in
        let m = number_in parts n i in
        let within = place_below shape subchunk n i cuts place in
        elim (put_cases (get_or parts n no_part).places piece cells m elements.fill long (omega (arith, within, whole))) [
          | inl was ↦
              let same = places_apart shape subchunk n was.at_ n i cuts (record { part = below; place = was.below }) place was.there in
              was.is ∙ ap (λ j. get_or piece j elements.fill) same.1
          | inr kept ↦ absurd (kept.none i inside refl)
        ];
  }

  by_number : (k : ℕ) → k < length parts → (b : Bool) → (k == n) ≡ b → ShowsPiece inner elements value parts (set pairs n pair) made k
  by_number k low true e = subst (λ j. ShowsPiece inner elements value parts (set pairs n pair) made j) (sym (eqb-true k n e)) new
  by_number k low false e = old k low (λ same. let yes = eq-eqb k n same in cc)

-- where no subchunk is present, all is fill
replicate_at : {X : Type 0} (n i : ℕ) (x : X) → get_or (replicate n x) i x ≡ x
replicate_at zero i x = refl
replicate_at (suc n) zero x = refl
replicate_at (suc n) (suc i) x = replicate_at n i x

pub show_none : (inner : Chain) (elements : Elements) (value : List ℕ) (parts : List Part) (count : ℕ) → ShowsPieces inner elements value parts (replicate (length parts) absent_pair) (replicate count elements.fill) (length parts)
show_none inner elements value parts count = λ k low.
    let shape = (get_or parts k no_part).shape in
    record {
      piece = replicate (product shape) elements.fill;
      is = ap (λ (p : Pair). piece_decoded inner elements value shape p) (get_or-replicate (length parts) k absent_pair absent_pair low);
      shown = λ i inside. replicate_at count (number_in parts k i) elements.fill ∙ sym (replicate_at (product shape) i elements.fill);
    }

-- ---- present pairs

-- no pair
abbrev pub no_pair : PresentPair
no_pair = record { number = 0; range = record { offset = 0; length = 0 } }

present_there : (from count : ℕ) (ps : List PresentPair) (i : ℕ) (d : PresentPair) → AreListed from count ps → i < length ps → is_absent (pair_of (get_or ps i d).range) ≡ false
present_there from count [] i d h low = absurd (omega (arith, low))
present_there from count (p ∷ ps) zero d h low = h.2
present_there from count (p ∷ ps) (suc i) d h low = present_there (p.number + 1) count ps i d h.3 (omega (arith, low))

-- a slice is that of a present pair
pub record IsPresent (pair : PresentPair) (pairs : List Pair) (slice : PieceSlice) : Type 0 where
  pub is : slice ≡ whole_slice pair
  pub below : pair.number < length pairs
  pub there : is_absent (pair_of pair.range) ≡ false

pub sliced_at : (pairs : List Pair) (slices : List PieceSlice) (j : ℕ) (sliced : AreSliced pairs slices) → j < length slices → IsPresent (get_or sliced.present j no_pair) pairs (get_or slices j no_slice)
sliced_at pairs slices j sliced low =
    let present = sliced.present in
    let long : length slices ≡ length present = ap (λ (xs : List PieceSlice). length xs) sliced.are ∙ length-map present whole_slice in
    let listed = are_listed 0 (length pairs) present sliced.listed in
    let inside : j < length present = omega (arith, low, long) in
    record {
      is = ap (λ (xs : List PieceSlice). get_or xs j no_slice) sliced.are ∙ get_or-map whole_slice present j no_pair no_slice inside;
      below = number_below 0 (length pairs) present j no_pair listed inside;
      there = present_there 0 (length pairs) present j no_pair listed inside;
    }

-- ---- the slices so far

-- the elements of the first present subchunks were put over the fill
pub record PutSoFar (inner : Chain) (elements : Elements) (shape subchunk value : List ℕ) (present : List PresentPair) (all : BoxedElements) (j : ℕ) : Type 0 where
  pub cells : List Cell
  pub shows : ShowsBoxes elements all cells
  pub whole : length cells ≡ product shape
  pub pieces : ShowsPieces inner elements value (parts_of shape subchunk) (full_list (length (parts_of shape subchunk)) (take j present)) cells (length (parts_of shape subchunk))

pub put_start : (inner : Chain) (elements : Elements) (shape subchunk value : List ℕ) (present : List PresentPair) (all : BoxedElements) (count : ℕ) → count ≡ product shape → ShowsBoxes elements all (replicate count elements.fill) → PutSoFar inner elements shape subchunk value present all 0
put_start inner elements shape subchunk value present all count is shows =
    let parts = parts_of shape subchunk in
    record {
      cells = replicate count elements.fill;
      shows = shows;
      whole = length-replicate count elements.fill ∙ is;
      pieces = subst (λ (ps : List Pair). ShowsPieces inner elements value parts ps (replicate count elements.fill) (length parts)) (sym (full_absent (length parts))) (show_none inner elements value parts count);
    }

-- how many cells a slice holds
read_count : (inner : Chain) (elements : Elements) (shape subchunk value : List ℕ) (pair : Pair) (piece : List Cell) (n : ℕ) → can_cut shape subchunk ≡ true → n < length (parts_of shape subchunk) → piece_decoded inner elements value (get_or (parts_of shape subchunk) n no_part).shape pair ≡ Some piece
    → length piece ≡ length (get_or (parts_of shape subchunk) n no_part).places
read_count inner elements shape subchunk value pair piece n cuts below is =
    let parts = parts_of shape subchunk in
    let none = replicate (length parts) absent_pair in
    let long = length-replicate (length parts) absent_pair in
    piece_count inner elements shape subchunk value (set none n pair) piece n cuts below
    (ap (λ (p : Pair). piece_decoded inner elements value (get_or parts n no_part).shape p) (get_or-set_same none n pair absent_pair (omega (arith, below, long))) ∙ is)

module _ (subchunk : List ℕ) (inner index : Chain) (location : Location) (elements : Elements) (shape value : List ℕ) (pairs : List Pair) (slices : List PieceSlice)
    (fit : fits (sharded subchunk inner index location) elements.type shape ≡ true) (many : length pairs ≡ length (parts_of shape subchunk)) (sliced : AreSliced pairs slices) where
  -- the slice of a present subchunk, and what it is decoded to
  pub slice_decoded : (j : ℕ) (result : Result ArrayBytes CodecError) (low : j < length slices) → DecodesSlice (coded (sharded subchunk inner index location) elements shape) value (get_or slices j no_slice) result
      → let p = get_or sliced.present j no_pair in Lists elements (part_shape shape subchunk p.number) (option_and_then (decoded inner elements (part_shape shape subchunk p.number)) (slice_at value (pair_of p.range))) result
  slice_decoded j result low decodes =
      let at = sliced_at pairs slices j sliced low in
      let below = at.below in
      subst (λ (s : PieceSlice). DecodesSlice (coded (sharded subchunk inner index location) elements shape) value s result) at.is decodes
      (part_fits subchunk inner index location elements shape (get_or sliced.present j no_pair).number fit (omega (arith, below, many)))

  pub put_step : (found : List ArrayBytes) (j : ℕ) (region : Region) (before after : BoxedElements) (given : ArrayBytes) → AreDecoded (coded (sharded subchunk inner index location) elements shape) value slices found → j < length slices
      → given ≡ get_or found j given → region ≡ subchunk_box shape subchunk (get_or slices j no_slice).number
      → ((cells others : List Cell) → ShowsBoxes elements before cells → cells_in elements.type (payload_of given) ≡ Some others → length others ≡ product region.shape → ShowsBoxes elements after (put (numbers_of shape region) others cells))
      → PutSoFar inner elements shape subchunk value sliced.present before j → PutSoFar inner elements shape subchunk value sliced.present after (j + 1)
  put_step found j region before after given are low given_is region_is law so_far =
      let at = sliced_at pairs slices j sliced low in
      let p = get_or sliced.present j no_pair in
      let n = p.number in
      let parts = parts_of shape subchunk in
      let count = length parts in
      let below : n < count = let b = at.below in omega (arith, b, many) in
      let grid = length-parts shape subchunk in
      let cuts = (fitted subchunk inner index location elements shape fit).cuts in
      let one = slice_decoded j (Ok (get_or found j given)) low (are.each j given low) in
      let edges = part_is shape subchunk n no_part below in
      let read : piece_decoded inner elements value (get_or parts n no_part).shape (pair_of p.range) ≡ Some one.cells =
      ap (λ (s : List ℕ). piece_decoded inner elements value s (pair_of p.range)) edges
      ∙ (ap (λ (b : Bool). if b then Some (replicate (product (part_shape shape subchunk n)) elements.fill) else option_and_then (decoded inner elements (part_shape shape subchunk n)) (slice_at value (pair_of p.range))) at.there ∙ one.is) in
      let box : region ≡ subchunk_box shape subchunk n = region_is ∙ ap (λ (s : PieceSlice). subchunk_box shape subchunk s.number) at.is in
      let places : numbers_of shape region ≡ (get_or parts n no_part).places =
      region_numbers shape subchunk region n box ∙ ap (λ (part : Part). part.places) (sym (part_number shape subchunk n no_part (omega (arith, below, grid)))) in
      let counted = read_count inner elements shape subchunk value (pair_of p.range) one.cells n cuts below read in
      let sized : length one.cells ≡ product region.shape = counted ∙ (part_count shape subchunk n no_part cuts below ∙ ap (λ (r : Region). product r.shape) (sym box)) in
      let lists = ap (λ (b : ArrayBytes). cells_in elements.type (payload_of b)) given_is ∙ one.lists in
      let front = full_list count (take j sliced.present) in
      let long : length slices ≡ length sliced.present = ap (λ (xs : List PieceSlice). length xs) sliced.are ∙ length-map sliced.present whole_slice in
      let listed = are_listed 0 count sliced.present (subst (λ m. are_present 0 m sliced.present ≡ true) many sliced.listed) in
      let more : full_list count (take (j + 1) sliced.present) ≡ set front n (pair_of p.range) = full_more count j sliced.present no_pair listed (omega (arith, low, long)) in
      let shown = show_put inner elements shape subchunk value front so_far.cells one.cells n (pair_of p.range) cuts below (full_length count (take j sliced.present)) so_far.whole read so_far.pieces in
      record {
        cells = put (numbers_of shape region) one.cells so_far.cells;
        shows = law so_far.cells one.cells so_far.shows lists sized;
        whole = length-put (numbers_of shape region) one.cells so_far.cells ∙ so_far.whole;
        pieces = subst (λ (ps : List Pair). ShowsPieces inner elements value parts ps (put (numbers_of shape region) one.cells so_far.cells) count) (sym more)
            (subst (λ (ns : List ℕ). ShowsPieces inner elements value parts (set front n (pair_of p.range)) (put ns one.cells so_far.cells) count) (sym places) shown);
      }

  pub put_end : (all : BoxedElements) (j : ℕ) → length slices ≤ j → (so_far : PutSoFar inner elements shape subchunk value sliced.present all j) → shard_decoded (subchunks_of inner elements shape subchunk) value pairs ≡ Some so_far.cells
  put_end all j past so_far =
      let parts = parts_of shape subchunk in
      let long : length slices ≡ length sliced.present = ap (λ (xs : List PieceSlice). length xs) sliced.are ∙ length-map sliced.present whole_slice in
      let same : full_list (length parts) (take j sliced.present) ≡ pairs =
      ap (full_list (length parts)) (take_all j sliced.present (omega (arith, past, long))) ∙ (ap (λ m. full_list m sliced.present) (sym many) ∙ sliced.full) in
      shown_all inner elements shape subchunk value pairs so_far.cells (length parts) (fitted subchunk inner index location elements shape fit).cuts many (omega arith) so_far.whole
      (subst (λ (ps : List Pair). ShowsPieces inner elements value parts ps so_far.cells (length parts)) same so_far.pieces)

  -- a slice that isn't decoded
  pub put_lost : (j : ℕ) (e : CodecError) → j < length slices → DecodesSlice (coded (sharded subchunk inner index location) elements shape) value (get_or slices j no_slice) (Err e) → DecodesPieces (subchunks_of inner elements shape subchunk) value pairs (Err e)
  put_lost j e low decodes =
      let at = sliced_at pairs slices j sliced low in
      let p = get_or sliced.present j no_pair in
      let n = p.number in
      let below : n < length (parts_of shape subchunk) = let b = at.below in omega (arith, b, many) in
      let grid = length-parts shape subchunk in
      let edges = part_shape shape subchunk n in
      let lost = slice_decoded j (Err e) low decodes in
      let long : length slices ≡ length sliced.present = ap (λ (xs : List PieceSlice). length xs) sliced.are ∙ length-map sliced.present whole_slice in
      let inside : j < length sliced.present = omega (arith, low, long) in
      let listed = are_listed 0 (length pairs) sliced.present sliced.listed in
      let pair : pair_of p.range ≡ get_or pairs n absent_pair =
      found_at (length pairs) n j sliced.present no_pair listed at.below (record { within = inside; number = λ d. ap (λ (q : PresentPair). q.number) (get_or_default sliced.present j d no_pair inside) })
      ∙ ap (λ (ps : List Pair). get_or ps n absent_pair) sliced.full in
      let is : piece_decoded inner elements value edges (get_or pairs n absent_pair) ≡ option_and_then (decoded inner elements edges) (slice_at value (pair_of p.range)) =
      ap (λ (q : Pair). piece_decoded inner elements value edges q) (sym pair)
      ∙ ap (λ (b : Bool). if b then Some (replicate (product edges) elements.fill) else option_and_then (decoded inner elements edges) (slice_at value (pair_of p.range))) at.there in
      decode_lost inner elements shape subchunk value pairs n e (is_subchunk subchunk inner index location elements shape n fit (omega (arith, below, grid)))
      (subst (λ (o : Option (List Cell)). Lists elements edges o (Err e)) (sym is) lost)
