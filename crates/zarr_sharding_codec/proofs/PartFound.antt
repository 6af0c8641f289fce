-- Elements of a part, put together from the slices that were read for it.
use Rattle.std.proofs.Common.{◌≡◌, ◌∙◌, inl, inr, ℕ, zero, suc, ◌+◌, ◌<◌, ◌≤◌, List, length, get_or, replicate, ap, sym, refl, arith, subst, Bool, true, false, Option, Some, None, option_and_then, if◌then◌else◌, Result, Ok, Err, Vec, Global}
use Rattle.std.specs.Prelude.{nat_lt}
use Rattle.std.proofs.lemmas.Bool.{cases_lt, ltb-true}
use Rattle.std.proofs.lemmas.List.{length-replicate}
use Rattle.zarr_grids_boxes.specs.Boxes.{Region, product}
use Rattle.zarr_grids_boxes.specs.Subsets.{region_of}
use Rattle.zarr_grids_boxes.specs.declared.subset.ArraySubset.{ArraySubset}
use Rattle.zarr_codecs_meaning.specs.Decoding.{cell_at, is_absent, slice_at}
use Rattle.zarr_codecs_meaning.specs.Encoding.{absent_pair}
use Rattle.zarr_codecs_meaning.specs.Payloads.{cells_in}
use Rattle.zarr_codecs_meaning.specs.Types.{Cell, Elements}
use Rattle.zarr_codecs_meaning.proofs.Lists.{each_passes}
use Rattle.zarr_codecs_meaning.proofs.Positions.{each_at}
use Rattle.zarr_codecs_regions.specs.Updates.{put}
use Rattle.zarr_codecs_arrays.specs.Views.{payload_of}
use Rattle.zarr_codecs_arrays.specs.declared.array_bytes.ArrayBytes.{ArrayBytes}
use Rattle.zarr_codecs_arrays.specs.declared.error.CodecError.{CodecError}
use Rattle.zarr_codecs_arrays.specs.declared.error.CodecError.TheVariants as error
use Rattle.zarr_codecs_traits.specs.Indexers.{Asked, in_box, listed, numbers_asked, numbers_of}
use Rattle.zarr_codecs_traits.specs.declared.pieces.PiecePlaces.{PiecePlaces}
use Rattle.zarr_codecs_traits.specs.declared.pieces.PiecePlaces.TheVariants as places
use Rattle.zarr_codecs_traits.specs.declared.pieces.PieceSlice.{PieceSlice}
use Rattle.zarr_sharding_index.specs.Views.{pair_of}
use Rattle.zarr_sharding_places.specs.Boxed.{ShowsBoxes}
use Rattle.zarr_sharding_places.specs.Locating.{inside_of, part_shape}
use Rattle.zarr_sharding_places.specs.Placed.{Shows}
use Rattle.zarr_sharding_places.specs.declared.boxed.BoxedElements.{BoxedElements}
use Rattle.zarr_sharding_places.specs.declared.placed.PlacedElements.{PlacedElements}
use Rattle.zarr_sharding_places.proofs.PutPlaces.{length-put, put_cases}
use Rattle.zarr_sharding_codec.specs.Pieces.{AreDecoded, AreRead, AskedPart, CanBeAsked, DecodesPlaces, DecodesSlice, IsCovered, IsReadFor, IsSliceRead, asked_in, asked_numbers, cells_asked, cells_found, inner_chain, inside_at, no_slice, part_array, positions_in, subchunk_at, subchunk_in}
use Rattle.zarr_sharding_codec.specs.Reading.{AreCells, Lists, ListsRead, slice_cells}
use Rattle.zarr_sharding_codec.proofs.AllThere.{all_found, length-there, lost_one, one_lost, there_at}
use Rattle.zarr_sharding_codec.proofs.BoxInSubchunk.{numbers_many}
use Rattle.zarr_sharding_codec.proofs.GroupsRead.{AskedShard, cell_of, piece_cell, piece_cells}
use Rattle.zarr_sharding_codec.proofs.NumberedParts.{part_fewer}
use Rattle.zarr_sharding_codec.proofs.PartsRead.{lists_read, present_places}
use Rattle.zarr_sharding_codec.proofs.PlaceCells.{shard_place}
use Rattle.zarr_sharding_codec.proofs.StoredLoop.{too_large}

-- the shard, and the numbers that are asked for
abbrev pub shard_asked : AskedPart → AskedShard
shard_asked part = record {
  inner = inner_chain part.array.chain;
  elements = part.array.elements;
  shape = part.array.shape;
  subchunk = subchunk_in part.array.chain;
  value = part.value;
  pairs = part.pairs;
  numbers = asked_numbers part;
}

-- the number at a position, and the numbers of places that a slice is read for
abbrev pub number_at : AskedPart → ℕ → ℕ
number_at part t = get_or (asked_numbers part) t 0

abbrev pub insides_in : AskedPart → ℕ → PiecePlaces → List ℕ
insides_in part k slots = numbers_asked (part_array part.array k).shape (asked_in slots)

-- ---- one slice

-- the cells at places of a present subchunk are those that its slice holds
piece_found : (s : AskedShard) (k : ℕ) (found : Option (List ℕ)) (ns : List ℕ) → is_absent (get_or s.pairs k absent_pair) ≡ false → slice_at s.value (get_or s.pairs k absent_pair) ≡ found → 0 < length ns
    → piece_cells s k ns ≡ option_and_then (λ slice. slice_cells s.inner s.elements (part_shape s.shape s.subchunk k) slice ns) found
piece_found s k None ns there is some = present_places s.inner s.elements s.value (part_shape s.shape s.subchunk k) (get_or s.pairs k absent_pair) None ns there is ∙ one_lost (λ i. None) ns 0 some refl
piece_found s k (Some slice) ns there is some = present_places s.inner s.elements s.value (part_shape s.shape s.subchunk k) (get_or s.pairs k absent_pair) (Some slice) ns there is

-- what a slice is decoded to, at the places that it was read for
places_decoded : (part : AskedPart) (k : ℕ) (found : Option (List ℕ)) (slots : PiecePlaces) (result : Result ArrayBytes CodecError) → IsReadFor part k slots → DecodesPlaces (part_array part.array k) found slots result
    → Lists part.array.elements (part_array part.array k).shape (cells_found (part_array part.array k) found (asked_in slots)) result
places_decoded part k found places.All result reads h = let none = reads.asked.some in absurd (omega (arith, none))
places_decoded part k found (places.InBox inside target) result reads h = h reads.asked
places_decoded part k found (places.Listed insides positions) result reads h = h reads.asked

pub slice_found : (part : AskedPart) («data» : List ℕ) (slice : PieceSlice) (result : Result ArrayBytes CodecError) → CanBeAsked part → IsSliceRead part «data» slice → DecodesSlice part.array «data» slice result
    → Lists part.array.elements (part_array part.array slice.number).shape (piece_cells (shard_asked part) slice.number (insides_in part slice.number slice.places)) result
slice_found part «data» slice result can read decodes =
    let k = slice.number in
    let s = shard_asked part in
    let edges = (part_array part.array k).shape in
    let ns = insides_in part k slice.places in
    let found = slice_at «data» (pair_of slice.range) in
    let lists = places_decoded part k found slice.places result read.read_for (decodes (can.fit k read.below)) in
    let same = piece_found s k found ns read.there (sym read.bytes_are) read.read_for.asked.some in
    subst (λ (o : Option (List Cell)). Lists part.array.elements edges o result) (sym same) lists

module _ (part : AskedPart) (k : ℕ) (slots : PiecePlaces) (can : CanBeAsked part) (reads : IsReadFor part k slots) where
  -- the cell at a position is that of its subchunk
  cell_there : (i : ℕ) → i < length (positions_in part.asked slots) → cell_of (shard_asked part) (number_at part (get_or (positions_in part.asked slots) i 0)) ≡ piece_cell (shard_asked part) k (get_or (insides_in part k slots) i 0)
  cell_there i low =
      let s = shard_asked part in
      let t = get_or (positions_in part.asked slots) i 0 in
      let n = number_at part t in
      let below = ltb-true n (product s.shape) (each_at (λ m. nat_lt m (product s.shape) ≡ true) s.numbers t 0 (each_passes (λ m. nat_lt m (product s.shape)) s.numbers can.below) (reads.low i low)) in
      shard_place s.inner s.elements s.shape s.subchunk s.value s.pairs n can.cuts can.many below
      ∙ (ap (λ m. piece_cell s m (inside_of s.shape s.subchunk n)) (reads.lies i low) ∙ ap (piece_cell s k) (reads.place i low))

  -- a subchunk that isn't read
  pub part_unread : (e : CodecError) → ListsRead part.array.elements (part_array part.array k).shape (piece_cells (shard_asked part) k (insides_in part k slots)) (Err e) → ListsRead part.array.elements part.array.shape (cells_asked part) (Err e)
  part_unread error.Damage lost =
      let s = shard_asked part in
      let one = lost_one (piece_cell s k) (insides_in part k slots) lost in
      let under = one.below in
      let count = reads.many in
      let low : one.at_ < length (positions_in part.asked slots) = omega (arith, under, count) in
      one_lost (cell_of s) s.numbers (get_or (positions_in part.asked slots) one.at_ 0) (reads.low one.at_ low) (cell_there one.at_ low ∙ one.is)
  part_unread error.Size large = too_large part.array.elements.type (product (part_array part.array k).shape) (product part.array.shape) (part_fewer part.array.shape (subchunk_in part.array.chain) k can.cuts) large
  part_unread error.Source h = tt
  part_unread error.Memory h = tt
  part_unread e h = absurd h

-- a slice that isn't decoded
pub slice_lost : (part : AskedPart) («data» : List ℕ) (slice : PieceSlice) (e : CodecError) → CanBeAsked part → IsSliceRead part «data» slice → DecodesSlice part.array «data» slice (Err e) → ListsRead part.array.elements part.array.shape (cells_asked part) (Err e)
slice_lost part «data» slice e can read decodes =
    let lists = slice_found part «data» slice (Err e) can read decodes in
    part_unread part slice.number slice.places can read.read_for e (lists_read part.array.elements (part_array part.array slice.number).shape (piece_cells (shard_asked part) slice.number (insides_in part slice.number slice.places)) (Err e) lists)

-- ---- the slices so far

-- a place is one of those that one of the first slices was read for
pub record IsAmongFirst (part : AskedPart) (slices : List PieceSlice) (j t : ℕ) : Type 0 where
  pub at_ : ℕ
  pub below : at_ < length slices
  pub before : at_ < j
  pub position : ℕ
  pub within : position < length (positions_in part.asked (get_or slices at_ no_slice).places)
  pub is : get_or (positions_in part.asked (get_or slices at_ no_slice).places) position 0 ≡ t

-- the elements of the first slices were put over the fill; `Shown` says which cells that shows
pub record FoundSoFar (Shown : List Cell → Type 0) (part : AskedPart) (slices : List PieceSlice) (j : ℕ) : Type 0 where
  pub cells : List Cell
  pub shows : Shown cells
  pub whole : length cells ≡ length (asked_numbers part)
  pub read : (t : ℕ) → t < length (asked_numbers part) → IsAmongFirst part slices j t → cell_of (shard_asked part) (number_at part t) ≡ Some (get_or cells t part.array.elements.fill)
  pub rest : (t : ℕ) → t < length (asked_numbers part) → (IsAmongFirst part slices j t → ⊥) → get_or cells t part.array.elements.fill ≡ part.array.elements.fill

replicate_at : {X : Type 0} (n i : ℕ) (x : X) → get_or (replicate n x) i x ≡ x
replicate_at zero i x = refl
replicate_at (suc n) zero x = refl
replicate_at (suc n) (suc i) x = replicate_at n i x

pub found_none : (Shown : List Cell → Type 0) (part : AskedPart) (slices : List PieceSlice) (count : ℕ) → count ≡ length (asked_numbers part) → Shown (replicate count part.array.elements.fill) → FoundSoFar Shown part slices 0
found_none Shown part slices count is shows = record {
  cells = replicate count part.array.elements.fill;
  shows = shows;
  whole = length-replicate count part.array.elements.fill ∙ is;
  read = λ t low among. let none = among.before in absurd (omega (arith, none));
  rest = λ t low none. replicate_at count t part.array.elements.fill;
}

pub found_more : (Before After : List Cell → Type 0) (part : AskedPart) («data» : List ℕ) (slices : List PieceSlice) (j : ℕ) (given : ArrayBytes) (positions : List ℕ) → CanBeAsked part → j < length slices → IsSliceRead part «data» (get_or slices j no_slice)
    → positions ≡ positions_in part.asked (get_or slices j no_slice).places → (one : AreCells part.array.elements (piece_cells (shard_asked part) (get_or slices j no_slice).number (insides_in part (get_or slices j no_slice).number (get_or slices j no_slice).places)) given)
    → ((cells : List Cell) → Before cells → length one.cells ≡ length positions → After (put positions one.cells cells)) → FoundSoFar Before part slices j → FoundSoFar After part slices (j + 1)
found_more Before After part «data» slices j given positions can low read are one law so_far =
    let s = shard_asked part in
    let fill = part.array.elements.fill in
    let slice = get_or slices j no_slice in
    let k = slice.number in
    let slots = slice.places in
    let ins = insides_in part k slots in
    let cells = so_far.cells in
    let whole = so_far.whole in
    let long = length-there (piece_cell s k) ins one.cells one.is in
    let many : length one.cells ≡ length (positions_in part.asked slots) = long ∙ read.read_for.many in
    let sized : length one.cells ≡ length positions = many ∙ ap (λ (ns : List ℕ). length ns) (sym are) in
    let count = read.read_for.many in
    record {
      cells = put positions one.cells cells;
      shows = law cells so_far.shows sized;
      whole = length-put positions one.cells cells ∙ whole;
      read = λ t inside among.
          elim (put_cases positions one.cells cells t fill sized (omega (arith, inside, whole))) [
            | inl was ↦
                let under = was.below in
                let within : was.at_ < length (positions_in part.asked slots) = let e = ap (λ (ns : List ℕ). length ns) are in omega (arith, under, e) in
                let there : get_or (positions_in part.asked slots) was.at_ 0 ≡ t = ap (λ (ns : List ℕ). get_or ns was.at_ 0) (sym are) ∙ was.there in
                ap (λ u. cell_of s (number_at part u)) (sym there)
                ∙ (cell_there part k slots can read.read_for was.at_ within
                ∙ (there_at (piece_cell s k) ins one.cells was.at_ fill one.is (omega (arith, within, count)) ∙ ap Some (sym was.is)))
            | inr kept ↦
                elim (cases_lt among.at_ j) [
                  | inl earlier ↦ so_far.read t inside (record { at_ = among.at_; below = among.below; before = earlier; position = among.position; within = among.within; is = among.is }) ∙ ap Some (sym kept.is)
                  | inr late ↦
                      let less = among.before in
                      let now : among.at_ ≡ j = omega (arith, late, less) in
                      let here : get_or slices among.at_ no_slice ≡ slice = ap (λ i. get_or slices i no_slice) now in
                      let at_ : positions_in part.asked (get_or slices among.at_ no_slice).places ≡ positions = ap (λ (x : PieceSlice). positions_in part.asked x.places) here ∙ sym are in
                      let within = among.within in
                      let size = ap (λ (ns : List ℕ). length ns) at_ in
                      absurd (kept.none among.position (omega (arith, within, size)) (ap (λ (ns : List ℕ). get_or ns among.position 0) (sym at_) ∙ among.is))
                ]
          ];
      rest = λ t inside none.
          elim (put_cases positions one.cells cells t fill sized (omega (arith, inside, whole))) [
            | inl was ↦
                let under = was.below in
                let e = ap (λ (ns : List ℕ). length ns) are in
                absurd (none (record { at_ = j; below = low; before = omega arith; position = was.at_; within = omega (arith, under, e); is = ap (λ (ns : List ℕ). get_or ns was.at_ 0) (sym are) ∙ was.there }))
            | inr kept ↦
                kept.is ∙ so_far.rest t inside (λ among. let less = among.before in none (record { at_ = among.at_; below = among.below; before = omega (arith, less); position = among.position; within = among.within; is = among.is }))
          ];
    }

-- all were read
pub found_all : (Shown : List Cell → Type 0) (part : AskedPart) («data» : List ℕ) (slices : List PieceSlice) (j : ℕ) → CanBeAsked part → AreRead part «data» slices → length slices ≤ j → ((t : ℕ) → t < length (asked_numbers part) → IsCovered part slices t)
    → (so_far : FoundSoFar Shown part slices j) → cells_asked part ≡ Some so_far.cells
found_all Shown part «data» slices j can are past covered so_far =
    let s = shard_asked part in
    let fill = part.array.elements.fill in
    all_found (cell_of s) s.numbers so_far.cells fill so_far.whole (λ t low.
    elim (covered t low) [
      | inr among ↦
          let under = among.below in
          so_far.read t low (record { at_ = among.at_; below = under; before = omega (arith, under, past); position = among.position; within = among.within; is = among.is })
      | inl gone ↦
          let n = number_at part t in
          let k = subchunk_at part t in
          let below = ltb-true n (product s.shape) (each_at (λ m. nat_lt m (product s.shape) ≡ true) s.numbers t 0 (each_passes (λ m. nat_lt m (product s.shape)) s.numbers can.below) low) in
          let pair = get_or s.pairs k absent_pair in
          let edges = part_shape s.shape s.subchunk k in
          let filled : cell_of s n ≡ Some fill =
          shard_place s.inner s.elements s.shape s.subchunk s.value s.pairs n can.cuts can.many below
          ∙ ap (λ (b : Bool). if b then Some fill else option_and_then (λ slice. cell_at s.inner s.elements edges slice (inside_at part t)) (slice_at s.value pair)) gone in
          let none : IsAmongFirst part slices j t → ⊥ = λ among.
          let lie = among_lies part «data» slices j t are among in
          let gone_there = ap (λ m. is_absent (get_or s.pairs m absent_pair)) lie.0 ∙ lie.1 in cc in
          filled ∙ ap Some (sym (so_far.rest t low none))
    ]) where
      -- a place that a slice was read for lies in a present subchunk
      among_lies : (part : AskedPart) («data» : List ℕ) (slices : List PieceSlice) (j t : ℕ) → AreRead part «data» slices → (among : IsAmongFirst part slices j t)
          → (subchunk_at part t ≡ (get_or slices among.at_ no_slice).number) × (is_absent (get_or part.pairs (get_or slices among.at_ no_slice).number absent_pair) ≡ false)
      among_lies part «data» slices j t are among =
          let read = are among.at_ among.below in
          (ap (subchunk_at part) (sym among.is) ∙ read.read_for.lies among.position among.within, read.there)

-- ---- the same, of the boxes of a box and of the positions of a list

-- how many places a box has
pub box_count : (part : AskedPart) (region : Region) (count : ℕ) → part.asked ≡ in_box region → length region.shape ≡ length region.start → count ≡ product region.shape → count ≡ length (asked_numbers part)
box_count part region count box rank is = is ∙ sym (ap (λ (a : Asked). length (numbers_asked part.array.shape a)) box ∙ numbers_many part.array.shape region rank)

-- what one of the slices holds of the places that it was read for
given_cells : (part : AskedPart) («data» : List ℕ) (slices : List PieceSlice) (found : List ArrayBytes) (j : ℕ) (given : ArrayBytes) → CanBeAsked part → AreRead part «data» slices → AreDecoded part.array «data» slices found → j < length slices → given ≡ get_or found j given
    → AreCells part.array.elements (piece_cells (shard_asked part) (get_or slices j no_slice).number (insides_in part (get_or slices j no_slice).number (get_or slices j no_slice).places)) given
given_cells part «data» slices found j given can are decoded low given_is =
    slice_found part «data» (get_or slices j no_slice) (Ok given) can (are j low)
    (subst (λ (b : ArrayBytes). DecodesSlice part.array «data» (get_or slices j no_slice) (Ok b)) (sym given_is) (decoded.each j given low))

pub found_box : (elements : Elements) (region : Region) (part : AskedPart) («data» : List ℕ) (slices : List PieceSlice) (found : List ArrayBytes) (j : ℕ) (inside target : ArraySubset) (given : ArrayBytes) (before after : BoxedElements) → part.array.elements ≡ elements → part.asked ≡ in_box region
    → CanBeAsked part → AreRead part «data» slices → AreDecoded part.array «data» slices found → j < length slices → (get_or slices j no_slice).places ≡ places.InBox inside target → given ≡ get_or found j given
    → ((cells others : List Cell) → ShowsBoxes elements before cells → cells_in elements.type (payload_of given) ≡ Some others → length others ≡ product (region_of target).shape → ShowsBoxes elements after (put (numbers_of region.shape (region_of target)) others cells))
    → FoundSoFar (λ (cells : List Cell). ShowsBoxes part.array.elements before cells) part slices j → FoundSoFar (λ (cells : List Cell). ShowsBoxes part.array.elements after cells) part slices (j + 1)
found_box elements region part «data» slices found j inside target given before after same box can are decoded low places_are given_is law =
    let slots = (get_or slices j no_slice).places in
    let one = given_cells part «data» slices found j given can are decoded low given_is in
    let lists = subst (λ (e : Elements). cells_in e.type (payload_of given) ≡ Some one.cells) same one.lists in
    let positions : numbers_of region.shape (region_of target) ≡ positions_in part.asked slots = sym (ap (λ (a : Asked). positions_in a slots) box ∙ ap (positions_in (in_box region)) places_are) in
    subst (λ (e : Elements). FoundSoFar (λ (cells : List Cell). ShowsBoxes e before cells) part slices j → FoundSoFar (λ (cells : List Cell). ShowsBoxes e after cells) part slices (j + 1)) (sym same)
    (found_more (λ (cells : List Cell). ShowsBoxes elements before cells) (λ (cells : List Cell). ShowsBoxes elements after cells) part «data» slices j given (numbers_of region.shape (region_of target)) can low (are j low) positions one
    (λ cells shows many. law cells one.cells shows lists (many ∙ numbers_many region.shape (region_of target) target.same)))

pub found_list : (elements : Elements) (numbers : List ℕ) (part : AskedPart) («data» : List ℕ) (slices : List PieceSlice) (found : List ArrayBytes) (j : ℕ) (insides positions : Vec ℕ Global) (given : ArrayBytes) (before after : PlacedElements) → part.array.elements ≡ elements → part.asked ≡ listed numbers
    → CanBeAsked part → AreRead part «data» slices → AreDecoded part.array «data» slices found → j < length slices → (get_or slices j no_slice).places ≡ places.Listed insides positions → given ≡ get_or found j given
    → ((cells others : List Cell) → Shows elements before cells → cells_in elements.type (payload_of given) ≡ Some others → length others ≡ length positions.items → Shows elements after (put positions.items others cells))
    → FoundSoFar (λ (cells : List Cell). Shows part.array.elements before cells) part slices j → FoundSoFar (λ (cells : List Cell). Shows part.array.elements after cells) part slices (j + 1)
found_list elements numbers part «data» slices found j insides positions given before after same list can are decoded low places_are given_is law =
    let slots = (get_or slices j no_slice).places in
    let one = given_cells part «data» slices found j given can are decoded low given_is in
    let lists = subst (λ (e : Elements). cells_in e.type (payload_of given) ≡ Some one.cells) same one.lists in
    let at_ : positions.items ≡ positions_in part.asked slots = sym (ap (λ (a : Asked). positions_in a slots) list ∙ ap (positions_in (listed numbers)) places_are) in
    subst (λ (e : Elements). FoundSoFar (λ (cells : List Cell). Shows e before cells) part slices j → FoundSoFar (λ (cells : List Cell). Shows e after cells) part slices (j + 1)) (sym same)
    (found_more (λ (cells : List Cell). Shows elements before cells) (λ (cells : List Cell). Shows elements after cells) part «data» slices j given positions.items can low (are j low) at_ one
    (λ cells shows many. law cells one.cells shows lists many))
