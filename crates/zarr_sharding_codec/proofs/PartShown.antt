-- The cells of what is stored, each read by itself, seen from the subchunks of a shard.
use Rattle.std.proofs.Common.{◌≡◌, ◌∙◌, ℕ, zero, suc, ◌<◌, List, [], ◌∷◌, length, map, get_or, replicate, ap, sym, refl, arith, Bool, true, false, Option, Some, None, option_and_then, unwrap_or, if◌then◌else◌}
use Rattle.std.proofs.lemmas.Bool.{and_from, lt-ltb}
use Rattle.std.proofs.lemmas.List.{ext_get_or, get_or-map, get_or-replicate, length-map}
use Rattle.std.proofs.lemmas.List.FromFn.{get_or-map-range_with_len, length-map-range_with_len}
use Rattle.std.specs.Prelude.{nat_lt}
use Rattle.zarr_grids_boxes.specs.Boxes.{product}
use Rattle.zarr_codecs_meaning.specs.Chains.{Chain, Location, sharded}
use Rattle.zarr_codecs_meaning.specs.Chunks.{chunk_part}
use Rattle.zarr_codecs_meaning.specs.Decoding.{all_there, cell_at, decoded, is_absent, opens, slice_at}
use Rattle.zarr_codecs_meaning.specs.Encoding.{Pair, absent_pair}
use Rattle.zarr_codecs_meaning.specs.Fits.{can_cut, fits}
use Rattle.zarr_codecs_meaning.specs.Places.{gather, index_shape, parts_of}
use Rattle.zarr_codecs_meaning.specs.Types.{Cell, Elements}
use Rattle.zarr_codecs_meaning.specs.Standing.{index_layout}
use Rattle.zarr_codecs_meaning.proofs.Lists.{bind_some, if_some, some_same}
use Rattle.zarr_codecs_meaning.proofs.Parts.{index_product, no_part}
use Rattle.zarr_codecs_meaning.proofs.PartReading.{part_read}
use Rattle.zarr_codecs_traits.specs.PartWriting.{cells_shown, only_cell}
use Rattle.zarr_codecs_traits.specs.Arrays.{coded}
use Rattle.zarr_sharding_places.specs.Locating.{inside_of, part_shape, subchunk_of}
use Rattle.zarr_sharding_places.specs.Pieces.{piece_decoded}
use Rattle.zarr_sharding_places.proofs.PartPlaces.{place_below}
use Rattle.zarr_sharding_places.proofs.ReadPieces.{piece_count}
use Rattle.zarr_sharding_index.specs.Held.{IsOpened}
use Rattle.zarr_sharding_codec.specs.Reading.{place_decoded, shard_cell, subchunks_of}
use Rattle.zarr_sharding_codec.proofs.NumberedParts as numbered
use Rattle.zarr_sharding_codec.proofs.NumberedParts.{part_count}
use Rattle.zarr_sharding_codec.proofs.PartsRead.{part_is}
use Rattle.zarr_sharding_codec.proofs.PlaceCells.{shard_place}
use Rattle.zarr_sharding_codec.proofs.PutPieces.{place_tells, places_at, taken}

-- one cell as a part of its own
abbrev pub alone : Cell → Option (List Cell)
alone cell = Some (cell ∷ [])

one_there : (o : Option Cell) → all_there (o ∷ []) ≡ option_and_then alone o
one_there None = refl
one_there (Some c) = refl

pub absent_at : (count k : ℕ) → get_or (replicate count absent_pair) k absent_pair ≡ absent_pair
absent_at zero k = refl
absent_at (suc count) zero = refl
absent_at (suc count) (suc k) = absent_at count k

-- ---- one place of a subchunk

held_true : (inner : Chain) (elements : Elements) (value shape : List ℕ) (pair : Pair) (before : List Cell) (i : ℕ) → fits inner elements.type shape ≡ true → i < product shape → (b : Bool) → is_absent pair ≡ b
    → (if b then Some (replicate (product shape) elements.fill) else option_and_then (decoded inner elements shape) (slice_at value pair)) ≡ Some before
    → (if b then Some elements.fill else option_and_then (λ slice. cell_at inner elements shape slice i) (slice_at value pair)) ≡ Some (get_or before i elements.fill)
held_true inner elements value shape pair before i fit low true e held =
    ap Some (sym (get_or-replicate {A = Cell} (product shape) i elements.fill elements.fill low) ∙ ap (λ (cs : List Cell). get_or cs i elements.fill) (some_same held))
held_true inner elements value shape pair before i fit low false e held =
    let slice = bind_some (decoded inner elements shape) (slice_at value pair) before held in
    let read = part_read inner elements shape slice.0 before (i ∷ []) fit slice.2 (and_from (nat_lt i (product shape)) true (lt-ltb i (product shape) low) refl) in
    let one = if_some (opens inner elements shape slice.0) (all_there (cell_at inner elements shape slice.0 i ∷ [])) (get_or before i elements.fill ∷ []) read in
    ap (option_and_then (λ s. cell_at inner elements shape s i)) slice.1 ∙ only (cell_at inner elements shape slice.0 i) (get_or before i elements.fill) (sym (one_there (cell_at inner elements shape slice.0 i)) ∙ one.1) where
      only : (o : Option Cell) (c : Cell) → option_and_then alone o ≡ Some (c ∷ []) → o ≡ Some c
      only None c h = cc
      only (Some x) c h = ap (λ (cs : List Cell). Some (get_or cs 0 c)) (some_same h)

-- where a subchunk is decoded, each of its places is
pub held_place : (inner : Chain) (elements : Elements) (value shape : List ℕ) (pair : Pair) (before : List Cell) (i : ℕ) → fits inner elements.type shape ≡ true → i < product shape → piece_decoded inner elements value shape pair ≡ Some before
    → place_decoded (coded inner elements shape) value pair i ≡ Some (get_or before i elements.fill)
held_place inner elements value shape pair before i fit low held = held_true inner elements value shape pair before i fit low (is_absent pair) refl held

-- ---- an array whose shard was opened

-- what is known of the shard of an array
pub record IsShardOpened (subchunk : List ℕ) (inner index : Chain) (location : Location) (elements : Elements) (shape : List ℕ) (stored : Option (List ℕ)) (pairs : List Pair) : Type 0 where
  pub cuts : can_cut shape subchunk ≡ true
  pub fit : (k : ℕ) → k < length (parts_of shape subchunk) → fits inner elements.type (part_shape shape subchunk k) ≡ true
  pub many : length pairs ≡ length (parts_of shape subchunk)
  pub count : ℕ
  pub end : ℕ
  pub opened : IsOpened (index_layout index location (index_shape shape subchunk)) count stored pairs end

-- how many places a subchunk has
pub places_size : (shape subchunk : List ℕ) (k : ℕ) → can_cut shape subchunk ≡ true → k < length (parts_of shape subchunk) → length (places_at shape subchunk k) ≡ product (part_shape shape subchunk k)
places_size shape subchunk k cuts there = part_count shape subchunk k no_part cuts there

module _ (subchunk : List ℕ) (inner index : Chain) (location : Location) (elements : Elements) (shape : List ℕ) where
  -- each place is read by its subchunk's pair
  place_read : (stored : Option (List ℕ)) (pairs : List Pair) (n : ℕ) → IsShardOpened subchunk inner index location elements shape stored pairs → n < product shape
      → chunk_part (sharded subchunk inner index location) elements shape stored (n ∷ [])
      ≡ option_and_then alone (place_decoded (coded inner elements (part_shape shape subchunk (subchunk_of shape subchunk n))) (unwrap_or stored []) (get_or pairs (subchunk_of shape subchunk n) absent_pair) (inside_of shape subchunk n))
  place_read None pairs n is low =
      let k = subchunk_of shape subchunk n in
      let none : get_or pairs k absent_pair ≡ absent_pair = ap (λ (ps : List Pair). get_or ps k absent_pair) is.opened.0 ∙ absent_at is.count k in
      sym (ap (λ (p : Pair). option_and_then alone (place_decoded (coded inner elements (part_shape shape subchunk k)) [] p (inside_of shape subchunk n))) none)
  place_read (Some value) pairs n is low =
      let two = index_product shape subchunk in
      let many = is.many in
      part_is subchunk inner index location elements shape value pairs (n ∷ []) (record { is = is.opened.0; many = omega (arith, two, many) })
      ∙ (one_there (shard_cell (subchunks_of inner elements shape subchunk) value pairs n) ∙ ap (option_and_then alone) (shard_place inner elements shape subchunk value pairs n is.cuts is.many low))

  pub place_shown : (stored : Option (List ℕ)) (pairs : List Pair) (n : ℕ) → IsShardOpened subchunk inner index location elements shape stored pairs → n < product shape
      → get_or (cells_shown (sharded subchunk inner index location) elements shape stored) n None
      ≡ option_and_then alone (place_decoded (coded inner elements (part_shape shape subchunk (subchunk_of shape subchunk n))) (unwrap_or stored []) (get_or pairs (subchunk_of shape subchunk n) absent_pair) (inside_of shape subchunk n))
  place_shown stored pairs n is low =
      get_or-map-range_with_len (λ m. chunk_part (sharded subchunk inner index location) elements shape stored (m ∷ [])) 0 (product shape) n n None low (omega arith) ∙ place_read stored pairs n is low

  -- as many cells as a subchunk has places
  pub held_count : (stored : Option (List ℕ)) (pairs : List Pair) (k : ℕ) (before : List Cell) → IsShardOpened subchunk inner index location elements shape stored pairs → k < length (parts_of shape subchunk)
      → piece_decoded inner elements (unwrap_or stored []) (part_shape shape subchunk k) (get_or pairs k absent_pair) ≡ Some before → length before ≡ length (places_at shape subchunk k)
  held_count stored pairs k before is there held =
      piece_count inner elements shape subchunk (unwrap_or stored []) pairs before k is.cuts there
      (ap (λ (s : List ℕ). piece_decoded inner elements (unwrap_or stored []) s (get_or pairs k absent_pair)) (numbered.part_is shape subchunk k no_part there) ∙ held)

  -- a place of a subchunk
  subchunk_shown : (stored : Option (List ℕ)) (pairs : List Pair) (k i : ℕ) → IsShardOpened subchunk inner index location elements shape stored pairs → k < length (parts_of shape subchunk) → i < length (places_at shape subchunk k)
      → get_or (taken None (cells_shown (sharded subchunk inner index location) elements shape stored) (places_at shape subchunk k)) i None
      ≡ option_and_then alone (place_decoded (coded inner elements (part_shape shape subchunk k)) (unwrap_or stored []) (get_or pairs k absent_pair) i)
  subchunk_shown stored pairs k i is there low =
      let shown = cells_shown (sharded subchunk inner index location) elements shape stored in
      let n = get_or (places_at shape subchunk k) i 0 in
      let tells = place_tells shape subchunk k i is.cuts (record { part = there; place = low }) in
      get_or-map (λ m. get_or shown m None) (places_at shape subchunk k) i 0 None low
      ∙ (place_shown stored pairs n is (place_below shape subchunk k i is.cuts (record { part = there; place = low }))
      ∙ (ap (λ j. option_and_then alone (place_decoded (coded inner elements (part_shape shape subchunk j)) (unwrap_or stored []) (get_or pairs j absent_pair) (inside_of shape subchunk n))) tells.part
      ∙ ap (λ j. option_and_then alone (place_decoded (coded inner elements (part_shape shape subchunk k)) (unwrap_or stored []) (get_or pairs k absent_pair) j)) tells.place))

  -- a subchunk that is decoded
  pub piece_shown : (stored : Option (List ℕ)) (pairs : List Pair) (k : ℕ) (before : List Cell) → IsShardOpened subchunk inner index location elements shape stored pairs → k < length (parts_of shape subchunk)
      → piece_decoded inner elements (unwrap_or stored []) (part_shape shape subchunk k) (get_or pairs k absent_pair) ≡ Some before
      → taken None (cells_shown (sharded subchunk inner index location) elements shape stored) (places_at shape subchunk k) ≡ map alone before
  piece_shown stored pairs k before is there held =
      let shown = cells_shown (sharded subchunk inner index location) elements shape stored in
      let places = places_at shape subchunk k in
      let many = held_count stored pairs k before is there held in
      let seen : length (taken None shown places) ≡ length places = length-map places (λ n. get_or shown n None) in
      let size = places_size shape subchunk k is.cuts there in
      ext_get_or None (taken None shown places) (map alone before) (seen ∙ (sym many ∙ sym (length-map before alone))) (λ i low.
      let within : i < length places = omega (arith, low, seen) in
      subchunk_shown stored pairs k i is there within
      ∙ (ap (option_and_then alone) (held_place inner elements (unwrap_or stored []) (part_shape shape subchunk k) (get_or pairs k absent_pair) before i (is.fit k there) (omega (arith, within, size)) held)
      ∙ sym (get_or-map alone before i elements.fill None (omega (arith, within, many)))))

  -- subchunks whose places are read alike
  pub pieces_alike : (old new : Option (List ℕ)) (pairs made : List Pair) (k : ℕ) → IsShardOpened subchunk inner index location elements shape old pairs → IsShardOpened subchunk inner index location elements shape new made → k < length (parts_of shape subchunk)
      → ((i : ℕ) → place_decoded (coded inner elements (part_shape shape subchunk k)) (unwrap_or new []) (get_or made k absent_pair) i ≡ place_decoded (coded inner elements (part_shape shape subchunk k)) (unwrap_or old []) (get_or pairs k absent_pair) i)
      → taken None (cells_shown (sharded subchunk inner index location) elements shape new) (places_at shape subchunk k) ≡ taken None (cells_shown (sharded subchunk inner index location) elements shape old) (places_at shape subchunk k)
  pieces_alike old new pairs made k one other there same =
      let places = places_at shape subchunk k in
      let first = cells_shown (sharded subchunk inner index location) elements shape new in
      let second = cells_shown (sharded subchunk inner index location) elements shape old in
      let seen : length (taken None first places) ≡ length places = length-map places (λ n. get_or first n None) in
      ext_get_or None (taken None first places) (taken None second places) (seen ∙ sym (length-map places (λ n. get_or second n None))) (λ i low.
      let within : i < length places = omega (arith, low, seen) in
      subchunk_shown new made k i other there within ∙ (ap (option_and_then alone) (same i) ∙ sym (subchunk_shown old pairs k i one there within)))

  -- as many cells as the array has places
  pub shown_count : (stored : Option (List ℕ)) → length (cells_shown (sharded subchunk inner index location) elements shape stored) ≡ product shape
  shown_count stored = length-map-range_with_len (λ n. chunk_part (sharded subchunk inner index location) elements shape stored (n ∷ [])) 0 (product shape)

-- ---- the cells that are shown, or another one where none is

taken_map : {X Y : Type 0} (g : X → Y) (d : X) (xs : List X) (ns : List ℕ) → taken (g d) (map g xs) ns ≡ map g (taken d xs ns)
taken_map g d xs [] = refl
taken_map g d xs (n ∷ ns) = ap (λ y. y ∷ taken (g d) (map g xs) ns) (at_number g d xs n) ∙ ap (λ ys. g (get_or xs n d) ∷ ys) (taken_map g d xs ns) where
  at_number : {X Y : Type 0} (g : X → Y) (d : X) (xs : List X) (n : ℕ) → get_or (map g xs) n (g d) ≡ g (get_or xs n d)
  at_number g d [] n = refl
  at_number g d (x ∷ xs) zero = refl
  at_number g d (x ∷ xs) (suc n) = at_number g d xs n

pub shown_back : (other : Cell) (cells : List Cell) → map (only_cell other) (map alone cells) ≡ cells
shown_back other [] = refl
shown_back other (c ∷ cs) = ap (λ xs. c ∷ xs) (shown_back other cs)

-- the cells of a subchunk that is decoded are those that the array is taken to have there
pub piece_gathered : (subchunk : List ℕ) (inner index : Chain) (location : Location) (elements : Elements) (shape : List ℕ) (stored : Option (List ℕ)) (pairs : List Pair) (k : ℕ) (before : List Cell) → IsShardOpened subchunk inner index location elements shape stored pairs
    → k < length (parts_of shape subchunk) → piece_decoded inner elements (unwrap_or stored []) (part_shape shape subchunk k) (get_or pairs k absent_pair) ≡ Some before
    → gather elements.fill (map (only_cell elements.fill) (cells_shown (sharded subchunk inner index location) elements shape stored)) (places_at shape subchunk k) ≡ before
piece_gathered subchunk inner index location elements shape stored pairs k before is there held =
    taken_map (only_cell elements.fill) None (cells_shown (sharded subchunk inner index location) elements shape stored) (places_at shape subchunk k)
    ∙ (ap (map (only_cell elements.fill)) (piece_shown subchunk inner index location elements shape stored pairs k before is there held) ∙ shown_back elements.fill before)
