-- What is decoded are as many cells as the shape has places.
use Rattle.std.proofs.Common.{◌≡◌, ℕ, suc, ◌+◌, ◌-◌, List, [], ◌∷◌, length, map, drop, take, ap, ◌∙◌, sym, arith, Option, Some, option_and_then, option_map, unwrap_or, ◌&&◌, ◌==◌}
use Rattle.std.specs.Prelude.{nat_le}
use Rattle.std.specs.List.{flat_map}
use Rattle.std.proofs.lemmas.List.{length-map}
use Rattle.std.proofs.lemmas.List.FromFn.{length-range_with_len, length-map-range_with_len}
use Rattle.zarr_grids_boxes.specs.Boxes.{product}
use Rattle.zarr_codecs_meaning.specs.Numbers.{digits, number}
use Rattle.zarr_codecs_meaning.specs.Types.{bool, integer, unsigned, uint8, uint64, components, inner_type, Cell, of_bytes, cell_bytes, Elements, zero_filled}
use Rattle.zarr_codecs_meaning.specs.Chains.{Chain, Location}
use Rattle.zarr_codecs_meaning.specs.Chains.Chain.{bytes, packbits, vlen, optional, after_array_codec, then_bytes, sharded}
use Rattle.zarr_codecs_meaning.specs.Places.{gather, place_numbers, position_of, encoded_shape, source_places, undone_places, parts_of, index_shape}
use Rattle.zarr_codecs_meaning.specs.Fits.{packed_size}
use Rattle.zarr_codecs_meaning.specs.Encoding.{Pair, index_size, last_number}
use Rattle.zarr_codecs_meaning.specs.Keeping.{spread, arranged}
use Rattle.zarr_codecs_meaning.specs.Decoding.{all_there, element_at, is_whole, without_padding, unpacked, sections_of, elements_between, elements_of, read_unless_none, variable_decoded, masked_of, count_present, options_decoded, pairs_in, pieces_decoded, decoded}
use Rattle.zarr_codecs_meaning.proofs.Lists.{some_same, bind_some, map_some, if_some, elim_some}
use Rattle.zarr_codecs_meaning.proofs.ArrayCodecs.{length-gather}
use Rattle.zarr_codecs_meaning.proofs.KeptOptions.{length-spread}

-- where all are there, there are as many
all_count : {X : Type 0} (f : ℕ → Option X) (ns : List ℕ) (xs : List X) → all_there (map f ns) ≡ Some xs → length xs ≡ length ns
all_count f [] xs h = sym (ap length (some_same h))
all_count f (n ∷ ns) xs h =
    let first = bind_some (λ x. option_map (λ ys. x ∷ ys) (all_there (map f ns))) (f n) xs h in
    let rest = map_some (λ ys. first.0 ∷ ys) (all_there (map f ns)) xs first.2 in
    sym (ap length rest.2) ∙ ap suc (all_count f ns rest.0 rest.1)

-- ---- `vlen`

between_count : (offset : ℕ) (ends «data» : List ℕ) (made : List (List ℕ)) → elements_between offset ends «data» ≡ Some made → length made ≡ length ends
between_count offset [] «data» made h = sym (ap length (some_same (if_some (length «data» == 0) (Some []) made h).1))
between_count offset (end ∷ ends) «data» made h =
    let others = elements_between end ends (drop (end - offset) «data») in
    let add = λ (found : List (List ℕ)). take (end - offset) «data» ∷ found in
    let told = if_some (nat_le offset end && nat_le (end - offset) (length «data»)) (option_map add others) made h in
    let rest = map_some add others made told.1 in
    sym (ap length rest.2) ∙ ap suc (between_count end ends (drop (end - offset) «data») rest.0 rest.1)

elements_of_count : (read : ℕ → Option (List ℕ)) (offsets : List ℕ) (made : List (List ℕ)) (count : ℕ) → length offsets ≡ count + 1 → elements_of read offsets ≡ Some made → length made ≡ count
elements_of_count read [] made count long h = absurd (omega arith)
elements_of_count read (first ∷ ends) made count long h =
    let told = if_some (first == 0) (option_and_then (elements_between 0 ends) (read (last_number 0 ends))) made h in
    let data_ = bind_some (elements_between 0 ends) (read (last_number 0 ends)) made told.1 in
    between_count 0 ends data_.0 made data_.2 ∙ omega (arith, long)

variable_count : (index : List ℕ → Option (List Cell)) («data» : ℕ → List ℕ → Option (List Cell)) (location : Location) (value : List ℕ) (cells : List Cell) (count : ℕ)
    → ((front : List ℕ) (found : List Cell) → index front ≡ Some found → length found ≡ count + 1) → variable_decoded index «data» location value ≡ Some cells → length cells ≡ count
variable_count index «data» location value cells count law h =
    let read = λ (sections : List ℕ × List ℕ). λ (long : ℕ). option_map (flat_map cell_bytes) (read_unless_none long sections.1 («data» long)) in
    let numbers = λ (found : List Cell). map (λ (offset : Cell). number 256 (cell_bytes offset)) found in
    let result = λ (sections : List ℕ × List ℕ). λ (found : List Cell). option_map (map of_bytes) (elements_of (read sections) (numbers found)) in
    let sections = bind_some (λ (two : List ℕ × List ℕ). option_and_then (result two) (index two.0)) (sections_of location value) cells h in
    let offsets = bind_some (result sections.0) (index sections.0.0) cells sections.2 in
    let made = map_some (map of_bytes) (elements_of (read sections.0) (numbers offsets.0)) cells offsets.2 in
    let long = length-map offsets.0 (λ (offset : Cell). number 256 (cell_bytes offset)) ∙ law sections.0.0 offsets.0 offsets.1 in
    sym (ap length made.2) ∙ (length-map made.0 of_bytes ∙ elements_of_count (read sections.0) (numbers offsets.0) made.0 count long made.1)

-- ---- `optional`

options_count : (mask : List ℕ → Option (List Cell)) (values : ℕ → List ℕ → Option (List Cell)) (value : List ℕ) (cells : List Cell) (count : ℕ)
    → ((front : List ℕ) (found : List Cell) → mask front ≡ Some found → length found ≡ count) → options_decoded mask values value ≡ Some cells → length cells ≡ count
options_count mask values value cells count law h =
    let read = λ (sections : List ℕ × List ℕ). λ (masks : List Cell). read_unless_none (count_present masks) sections.1 (values (count_present masks)) in
    let result = λ (sections : List ℕ × List ℕ). λ (masks : List Cell). option_map (spread masks) (read sections masks) in
    let sections = bind_some (λ (two : List ℕ × List ℕ). option_and_then (result two) (mask two.0)) (masked_of value) cells h in
    let masks = bind_some (result sections.0) (mask sections.0.0) cells sections.2 in
    let made = map_some (spread masks.0) (read sections.0 masks.0) cells masks.2 in
    sym (ap length made.2) ∙ (length-spread masks.0 made.0 ∙ law sections.0.0 masks.0 masks.1)

-- ---- chains

pub decoded_count : (chain : Chain) (elements : Elements) (shape value : List ℕ) (cells : List Cell) → decoded chain elements shape value ≡ Some cells → length cells ≡ product shape
decoded_count (bytes order) elements shape value cells h =
    let read = element_at order elements.type value in
    let told = elim_some (is_whole elements.type shape value) (all_there (map read (place_numbers shape))) cells h in
    all_count read (place_numbers shape) cells told.1 ∙ length-range_with_len 0 (product shape)
decoded_count (packbits padding first last) elements shape value cells h =
    let read = unpacked first last elements.type (flat_map (digits 2 8) (without_padding padding value)) in
    let told = elim_some (length value == packed_size padding first last (components elements.type) (product shape)) (Some (map read (place_numbers shape))) cells h in
    sym (ap length (some_same told.1)) ∙ length-map-range_with_len read 0 (product shape)
decoded_count (vlen index «data» width location) elements shape value cells h =
    let numbers = zero_filled (integer unsigned width) in
    let offsets_shape = (product shape + 1) ∷ [] in
    let one : product offsets_shape ≡ product shape + 1 = omega arith in
    variable_count (decoded index numbers offsets_shape) (λ long. decoded «data» (zero_filled uint8) (long ∷ [])) location value cells (product shape) (λ front found e. decoded_count index numbers offsets_shape front found e ∙ one) h
decoded_count (optional mask values) elements shape value cells h =
    let inner = zero_filled (unwrap_or (inner_type elements.type) elements.type) in
    options_count (decoded mask (zero_filled bool) shape) (λ count. decoded values inner (count ∷ [])) value cells (product shape) (λ front found e. decoded_count mask (zero_filled bool) shape front found e) h
decoded_count (after_array_codec codec chain) elements shape value cells h =
    let made = map_some (λ (found : List Cell). gather elements.fill found (undone_places codec shape)) (decoded chain elements (encoded_shape codec shape) value) cells h in
    sym (ap length made.2) ∙ (length-gather elements.fill made.0 (undone_places codec shape) ∙ length-map-range_with_len (λ n. position_of n (source_places codec shape)) 0 (product shape))
decoded_count (then_bytes chain codec) elements shape value cells h =
    let inside = bind_some (decoded chain elements shape) (codec.decode value) cells h in
    decoded_count chain elements shape inside.0 cells inside.2
decoded_count (sharded subchunk inner index location) elements shape value cells h =
    let pairs_shape = index_shape shape subchunk in
    let parts = parts_of shape subchunk in
    let arrange = λ (pieces : List (List Cell)). map (arranged elements.fill parts pieces) (place_numbers shape) in
    let next = λ (ps : List Pair). option_map arrange (pieces_decoded (decoded inner elements) elements.fill value parts ps) in
    let pairs = bind_some next (pairs_in (decoded index (zero_filled uint64) pairs_shape) location (index_size index pairs_shape) value) cells h in
    let made = map_some arrange (pieces_decoded (decoded inner elements) elements.fill value parts pairs.0) cells pairs.2 in
    sym (ap length made.2) ∙ length-map-range_with_len (arranged elements.fill parts made.0) 0 (product shape)
