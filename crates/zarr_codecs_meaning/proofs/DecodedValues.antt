-- What a fitting chain decodes are values of the type, whole or at places alone, whoever wrote the bytes.
use Rattle.std.proofs.Common.{◌≡◌, ℕ, zero, suc, ◌+◌, ◌-◌, ◌*◌, ◌<◌, List, [], ◌∷◌, length, map, take, drop, replicate, slice_get, ap, ◌∙◌, sym, refl, arith, Option, Some, option_and_then, option_map, unwrap_or, Bool, true, false, ◌&&◌, ◌==◌, if◌then◌else◌, subst}
use Rattle.std.proofs.lemmas.Bool.{and_parts}
use Rattle.std.specs.Prelude.{nat_le, nat_lt}
use Rattle.std.specs.List.{flat_map, list_all}
use Rattle.zarr_grids_boxes.specs.Boxes.{product}
use Rattle.zarr_codecs_meaning.specs.Numbers.{digits, number}
use Rattle.zarr_codecs_meaning.specs.Types.{DataType, bool, integer, unsigned, uint8, uint64, components, bytes_in, inner_type, is_value, Cell, of_bytes, cell_bytes, Elements, zero_filled}
use Rattle.zarr_codecs_meaning.specs.Chains.{Chain, Endianness, Location}
use Rattle.zarr_codecs_meaning.specs.Chains.Chain.{bytes, packbits, vlen, optional, after_array_codec, then_bytes, sharded}
use Rattle.zarr_codecs_meaning.specs.Places.{gather, place_numbers, position_of, encoded_shape, source_places, undone_places, Part, parts_of, index_shape}
use Rattle.zarr_codecs_meaning.specs.Fits.{fits, array_codec_fits, bits_in, packed_size}
use Rattle.zarr_codecs_meaning.specs.Encoding.{ordered, Pair, index_size, last_number}
use Rattle.zarr_codecs_meaning.specs.Keeping.{spread, arranged}
use Rattle.zarr_codecs_meaning.specs.Decoding.{all_there, element_at, is_whole, without_padding, unpacked, sections_of, elements_between, elements_of, read_unless_none, variable_decoded, masked_of, count_present, options_decoded, is_absent, slice_at, pairs_in, pieces_decoded, cell_of_part, decoded, cell_at, opens, part_decoded, cell_of_pair}
use Rattle.zarr_codecs_meaning.specs.Laws.{AreCells}
use Rattle.zarr_codecs_meaning.proofs.Lists.{some_same, bind_some, map_some, if_some, elim_some, Each, each_passes, all_pass, each_map}
use Rattle.zarr_codecs_meaning.proofs.ArrayCodecs.{values_gathered}
use Rattle.zarr_codecs_meaning.proofs.Counts.{decoded_count}
use Rattle.zarr_codecs_meaning.proofs.Digits.{digits_below, each-take, each-drop}
use Rattle.zarr_codecs_meaning.proofs.Elements.{each-flat_map}
use Rattle.zarr_codecs_meaning.proofs.Fitting.{fitted}
use Rattle.zarr_codecs_meaning.proofs.KeptElements.{Packs, packs, made_is_value}
use Rattle.zarr_codecs_meaning.proofs.KeptOptions.{options_fit, spread_values}
use Rattle.zarr_codecs_meaning.proofs.KeptShards.{arranged_value}
use Rattle.zarr_codecs_meaning.proofs.KeptVariable.{vlen_fits, variable_is_value, joined_bytes}
use Rattle.zarr_codecs_meaning.proofs.Zeros.{zero_is_value}

-- where all are there, each is one that is read
each_read : (P : Cell → Type 0) (read : ℕ → Option Cell) (ns : List ℕ) (cells : List Cell) → ((n : ℕ) (cell : Cell) → read n ≡ Some cell → P cell) → all_there (map read ns) ≡ Some cells → Each P cells
each_read P read [] cells law h = subst (λ (xs : List Cell). Each P xs) (some_same h) tt
each_read P read (n ∷ ns) cells law h =
    let first = bind_some (λ x. option_map (λ ys. x ∷ ys) (all_there (map read ns))) (read n) cells h in
    let rest = map_some (λ ys. first.0 ∷ ys) (all_there (map read ns)) cells first.2 in
    subst (λ (xs : List Cell). Each P xs) rest.2 (law n first.0 first.1, each_read P read ns rest.0 law rest.1)

-- one that is found is one of them
found_is : (P : Cell → Type 0) (cells : List Cell) (n : ℕ) (cell : Cell) → Each P cells → slice_get cells n ≡ Some cell → P cell
found_is P [] n cell h e = cc
found_is P (c ∷ cs) zero cell h e = subst P (some_same e) h.0
found_is P (c ∷ cs) (suc n) cell h e = found_is P cs n cell h.1 e

abbrev AreValues : DataType → List Cell → Type 0
AreValues type cells = Each (λ cell. is_value type cell ≡ true) cells

-- ---- `bytes` and `packbits`

element_value : (order : Option Endianness) (type : DataType) (value : List ℕ) (n : ℕ) (cell : Cell) → element_at order type value n ≡ Some cell → is_value type cell ≡ true
element_value order type value n cell h =
    let read = of_bytes (ordered order (components type) (take (bytes_in (components type)) (drop (n * bytes_in (components type)) value))) in
    let told = if_some (is_value type read) (Some read) cell h in
    ap (is_value type) (sym (some_same told.1)) ∙ told.0

unpacked_value : (first : ℕ) (last : Option ℕ) (type : DataType) (value : List ℕ) (n : ℕ) → Packs first last type → is_value type (unpacked first last type (flat_map (digits 2 8) value) n) ≡ true
unpacked_value first last type value n packs =
    let width = bits_in first last (components type) in
    let bits = flat_map (digits 2 8) value in
    made_is_value first last type (take width (drop (n * width) bits)) packs.fixed packs.keeps
    (each-take (λ b. b < 2) width (drop (n * width) bits) (each-drop (λ b. b < 2) (n * width) bits (each-flat_map (λ b. b < 2) (digits 2 8) value (λ byte. digits_below 2 8 byte (omega arith)))))

-- ---- `vlen`

abbrev AreBytes : List ℕ → Type 0
AreBytes element = Each (λ b. b < 256) element

between_bytes : (offset : ℕ) (ends «data» : List ℕ) (made : List (List ℕ)) → AreBytes «data» → elements_between offset ends «data» ≡ Some made → Each AreBytes made
between_bytes offset [] «data» made below h = subst (λ (xs : List (List ℕ)). Each AreBytes xs) (some_same (if_some (length «data» == 0) (Some []) made h).1) tt
between_bytes offset (end ∷ ends) «data» made below h =
    let others = elements_between end ends (drop (end - offset) «data») in
    let add = λ (found : List (List ℕ)). take (end - offset) «data» ∷ found in
    let told = if_some (nat_le offset end && nat_le (end - offset) (length «data»)) (option_map add others) made h in
    let rest = map_some add others made told.1 in
    subst (λ (xs : List (List ℕ)). Each AreBytes xs) rest.2
    (each-take (λ b. b < 256) (end - offset) «data» below, between_bytes end ends (drop (end - offset) «data») rest.0 (each-drop (λ b. b < 256) (end - offset) «data» below) rest.1)

elements_of_bytes : (read : ℕ → Option (List ℕ)) (offsets : List ℕ) (made : List (List ℕ)) → ((long : ℕ) («data» : List ℕ) → read long ≡ Some «data» → AreBytes «data») → elements_of read offsets ≡ Some made → Each AreBytes made
elements_of_bytes read [] made law h = cc
elements_of_bytes read (first ∷ ends) made law h =
    let told = if_some (first == 0) (option_and_then (elements_between 0 ends) (read (last_number 0 ends))) made h in
    let data_ = bind_some (elements_between 0 ends) (read (last_number 0 ends)) made told.1 in
    between_bytes 0 ends data_.0 made (law (last_number 0 ends) data_.0 data_.1) data_.2

-- what holds of what is read, and of no cells
unless_none : (P : List Cell → Type 0) (read : ℕ → List ℕ → Option (List Cell)) (count : ℕ) (encoded : List ℕ) (cells : List Cell) → P [] → ((found : List Cell) → read count encoded ≡ Some found → P found)
    → read_unless_none count encoded (read count) ≡ Some cells → P cells
unless_none P read zero encoded cells none law h = subst P (some_same (if_some (length encoded == 0) (Some []) cells h).1) none
unless_none P read (suc count) encoded cells none law h = law cells h

joined_of : (read : ℕ → List ℕ → Option (List Cell)) (encoded : List ℕ) → ((long : ℕ) (found : List Cell) → read long encoded ≡ Some found → AreValues uint8 found)
    → (long : ℕ) («data» : List ℕ) → option_map (flat_map cell_bytes) (read_unless_none long encoded (read long)) ≡ Some «data» → AreBytes «data»
joined_of read encoded law long «data» h =
    let made = map_some (flat_map cell_bytes) (read_unless_none long encoded (read long)) «data» h in
    subst AreBytes made.2 (joined_bytes made.0 (unless_none (AreValues uint8) read long encoded made.0 tt (law long) made.1)).below

elements_are_values : (type : DataType) (elements : List (List ℕ)) → ((element : List ℕ) → AreBytes element → is_value type (of_bytes element) ≡ true) → Each AreBytes elements → AreValues type (map of_bytes elements)
elements_are_values type [] law h = tt
elements_are_values type (e ∷ es) law h = (law e h.0, elements_are_values type es law h.1)

variable_values : (type : DataType) (index : List ℕ → Option (List Cell)) (read : ℕ → List ℕ → Option (List Cell)) (location : Location) (value : List ℕ) (cells : List Cell)
    → ((element : List ℕ) → AreBytes element → is_value type (of_bytes element) ≡ true) → ((long : ℕ) (encoded : List ℕ) (found : List Cell) → read long encoded ≡ Some found → AreValues uint8 found)
    → variable_decoded index read location value ≡ Some cells → AreValues type cells
variable_values type index read location value cells element law h =
    let data_of = λ (sections : List ℕ × List ℕ). λ (long : ℕ). option_map (flat_map cell_bytes) (read_unless_none long sections.1 (read long)) in
    let numbers = λ (found : List Cell). map (λ (offset : Cell). number 256 (cell_bytes offset)) found in
    let result = λ (sections : List ℕ × List ℕ). λ (found : List Cell). option_map (map of_bytes) (elements_of (data_of sections) (numbers found)) in
    let sections = bind_some (λ (two : List ℕ × List ℕ). option_and_then (result two) (index two.0)) (sections_of location value) cells h in
    let offsets = bind_some (result sections.0) (index sections.0.0) cells sections.2 in
    let made = map_some (map of_bytes) (elements_of (data_of sections.0) (numbers offsets.0)) cells offsets.2 in
    subst (AreValues type) made.2
    (elements_are_values type made.0 element (elements_of_bytes (data_of sections.0) (numbers offsets.0) made.0 (joined_of read sections.0.1 (λ long found e. law long sections.0.1 found e)) made.1))

-- ---- `optional`

options_values : (type inner : DataType) (mask : List ℕ → Option (List Cell)) (read : ℕ → List ℕ → Option (List Cell)) (value : List ℕ) (cells : List Cell) → inner_type type ≡ Some inner
    → ((count : ℕ) (encoded : List ℕ) (found : List Cell) → read count encoded ≡ Some found → AreValues inner found) → options_decoded mask read value ≡ Some cells → AreValues type cells
options_values type inner mask read value cells is law h =
    let present_of = λ (sections : List ℕ × List ℕ). λ (masks : List Cell). read_unless_none (count_present masks) sections.1 (read (count_present masks)) in
    let result = λ (sections : List ℕ × List ℕ). λ (masks : List Cell). option_map (spread masks) (present_of sections masks) in
    let sections = bind_some (λ (two : List ℕ × List ℕ). option_and_then (result two) (mask two.0)) (masked_of value) cells h in
    let masks = bind_some (result sections.0) (mask sections.0.0) cells sections.2 in
    let made = map_some (spread masks.0) (present_of sections.0 masks.0) cells masks.2 in
    let count = count_present masks.0 in
    subst (AreValues type) made.2
    (spread_values type inner masks.0 made.0 is (unless_none (AreValues inner) read count sections.0.1 made.0 tt (λ found e. law count sections.0.1 found e) made.1))

-- ---- shards

all_fill : (test : Cell → Bool) (n : ℕ) (fill : Cell) → test fill ≡ true → list_all test (replicate n fill) ≡ true
all_fill test zero fill h = refl
all_fill test (suc n) fill h = ap (λ (b : Bool). b && list_all test (replicate n fill)) h ∙ all_fill test n fill h

piece_values : (absent : Bool) (test : Cell → Bool) (decode : List ℕ → Option (List Cell)) (fill : Cell) (count : ℕ) (slice : Option (List ℕ)) (cells : List Cell) → test fill ≡ true → ((value : List ℕ) (found : List Cell) → decode value ≡ Some found → list_all test found ≡ true)
    → (if absent then Some (replicate count fill) else option_and_then decode slice) ≡ Some cells → list_all test cells ≡ true
piece_values true test decode fill count slice cells one law h = ap (list_all test) (sym (some_same h)) ∙ all_fill test count fill one
piece_values false test decode fill count slice cells one law h = let made = bind_some decode slice cells h in law made.0 cells made.2

pieces_values : (test : Cell → Bool) (fits_part : Part → Bool) (decode : List ℕ → List ℕ → Option (List Cell)) (fill : Cell) (value : List ℕ) (parts : List Part) (ps : List Pair) (pieces : List (List Cell)) → test fill ≡ true
    → ((part : Part) → fits_part part ≡ true → (slice : List ℕ) (found : List Cell) → decode part.shape slice ≡ Some found → list_all test found ≡ true) → Each (λ part. fits_part part ≡ true) parts
    → pieces_decoded decode fill value parts ps ≡ Some pieces → Each (λ piece. list_all test piece ≡ true) pieces
pieces_values test fits_part decode fill value [] ps pieces one law fit h = subst (λ (xs : List (List Cell)). Each (λ piece. list_all test piece ≡ true) xs) (some_same h) tt
pieces_values test fits_part decode fill value (part ∷ parts) [] pieces one law fit h = cc
pieces_values test fits_part decode fill value (part ∷ parts) (p ∷ ps) pieces one law fit h =
    let now = if is_absent p then Some (replicate (product part.shape) fill) else option_and_then (decode part.shape) (slice_at value p) in
    let later = pieces_decoded decode fill value parts ps in
    let first = bind_some (λ (cells : List Cell). option_map (λ (others : List (List Cell)). cells ∷ others) later) now pieces h in
    let rest = map_some (λ (others : List (List Cell)). first.0 ∷ others) later pieces first.2 in
    subst (λ (xs : List (List Cell)). Each (λ piece. list_all test piece ≡ true) xs) rest.2
    (piece_values (is_absent p) test (decode part.shape) fill (product part.shape) (slice_at value p) first.0 one (law part fit.0) first.1, pieces_values test fits_part decode fill value parts ps rest.0 one law fit.1 rest.1)

-- ---- chains

pub decoded_values : (chain : Chain) (elements : Elements) (shape value : List ℕ) (cells : List Cell) → fits chain elements.type shape ≡ true → is_value elements.type elements.fill ≡ true → decoded chain elements shape value ≡ Some cells
    → list_all (is_value elements.type) cells ≡ true
decoded_values (bytes order) elements shape value cells fit fill h =
    let read = element_at order elements.type value in
    let told = elim_some (is_whole elements.type shape value) (all_there (map read (place_numbers shape))) cells h in
    all_pass (is_value elements.type) cells (each_read (λ cell. is_value elements.type cell ≡ true) read (place_numbers shape) cells (element_value order elements.type value) told.1)
decoded_values (packbits padding first last) elements shape value cells fit fill h =
    let type = elements.type in
    let read = unpacked first last type (flat_map (digits 2 8) (without_padding padding value)) in
    let told = elim_some (length value == packed_size padding first last (components type) (product shape)) (Some (map read (place_numbers shape))) cells h in
    all_pass (is_value type) cells (subst (AreValues type) (some_same told.1)
    (each_map (λ cell. is_value type cell ≡ true) read (place_numbers shape) (λ n. unpacked_value first last type (without_padding padding value) n (packs first last type fit))))
decoded_values (vlen index «data» width location) elements shape value cells fit fill h =
    let f = vlen_fits index «data» width location elements.type shape fit in
    let offsets_shape = (product shape + 1) ∷ [] in
    all_pass (is_value elements.type) cells
    (variable_values elements.type (decoded index (zero_filled (integer unsigned width)) offsets_shape) (λ long. decoded «data» (zero_filled uint8) (long ∷ [])) location value cells
    (λ element below. variable_is_value elements.type element f.variable below)
    (λ long encoded found e. each_passes (is_value uint8) found (decoded_values «data» (zero_filled uint8) (long ∷ []) encoded found (f.data_fits (long ∷ [])) (zero_is_value uint8) e)) h)
decoded_values (optional mask values) elements shape value cells fit fill h =
    let f = options_fit mask values elements.type shape fit in
    let inner = unwrap_or (inner_type elements.type) elements.type in
    all_pass (is_value elements.type) cells
    (options_values elements.type inner (decoded mask (zero_filled bool) shape) (λ count. decoded values (zero_filled inner) (count ∷ [])) value cells f.is
    (λ count encoded found e. each_passes (is_value inner) found (decoded_values values (zero_filled inner) (count ∷ []) encoded found (f.values_fit (count ∷ [])) (zero_is_value inner) e)) h)
decoded_values (after_array_codec codec chain) elements shape value cells fit fill h =
    let both = and_parts (array_codec_fits codec shape) (fits chain elements.type (encoded_shape codec shape)) fit in
    let made = map_some (λ (found : List Cell). gather elements.fill found (undone_places codec shape)) (decoded chain elements (encoded_shape codec shape) value) cells h in
    ap (list_all (is_value elements.type)) (sym made.2)
    ∙ values_gathered (is_value elements.type) elements.fill made.0 (undone_places codec shape) fill (decoded_values chain elements (encoded_shape codec shape) value made.0 both.1 fill made.1)
decoded_values (then_bytes chain codec) elements shape value cells fit fill h =
    let inside = bind_some (decoded chain elements shape) (codec.decode value) cells h in
    decoded_values chain elements shape inside.0 cells fit fill inside.2
decoded_values (sharded subchunk inner index location) elements shape value cells fit fill h =
    let pairs_shape = index_shape shape subchunk in
    let parts = parts_of shape subchunk in
    let test = is_value elements.type in
    let fits_part = λ (part : Part). fits inner elements.type part.shape in
    let f = fitted subchunk inner index location elements shape fit in
    let arrange = λ (pieces : List (List Cell)). map (arranged elements.fill parts pieces) (place_numbers shape) in
    let next = λ (ps : List Pair). option_map arrange (pieces_decoded (decoded inner elements) elements.fill value parts ps) in
    let pairs = bind_some next (pairs_in (decoded index (zero_filled uint64) pairs_shape) location (index_size index pairs_shape) value) cells h in
    let made = map_some arrange (pieces_decoded (decoded inner elements) elements.fill value parts pairs.0) cells pairs.2 in
    let each = pieces_values test fits_part (decoded inner elements) elements.fill value parts pairs.0 made.0 fill
    (λ part one slice found e. decoded_values inner elements part.shape slice found one fill e) (each_passes fits_part parts f.each) made.1 in
    ap (list_all test) (sym made.2)
    ∙ all_pass test (arrange made.0) (each_map (λ cell. test cell ≡ true) (arranged elements.fill parts made.0) (place_numbers shape) (λ n. arranged_value test elements.fill parts made.0 n fill each))

-- what is decoded are cells of the array
pub decoded_cells : (chain : Chain) (elements : Elements) (shape value : List ℕ) (cells : List Cell) → fits chain elements.type shape ≡ true → is_value elements.type elements.fill ≡ true → decoded chain elements shape value ≡ Some cells → AreCells elements shape cells
decoded_cells chain elements shape value cells fit fill h = record { fill = fill; values = decoded_values chain elements shape value cells fit fill h; whole = decoded_count chain elements shape value cells h }

-- ---- places alone

held_value : (absent : Bool) (test : Cell → Bool) (read : List ℕ → Option Cell) (fill : Cell) (slice : Option (List ℕ)) (cell : Cell) → test fill ≡ true → ((value : List ℕ) (found : Cell) → read value ≡ Some found → test found ≡ true)
    → (if absent then Some fill else option_and_then read slice) ≡ Some cell → test cell ≡ true
held_value true test read fill slice cell one law h = ap test (sym (some_same h)) ∙ one
held_value false test read fill slice cell one law h = let made = bind_some read slice cell h in law made.0 cell made.2

met_value : (here : Bool) (test : Cell → Bool) (now later : Option Cell) (cell : Cell) → (now ≡ Some cell → test cell ≡ true) → (later ≡ Some cell → test cell ≡ true) → elim here [ true ↦ now | false ↦ later ] ≡ Some cell → test cell ≡ true
met_value true test now later cell one other h = one h
met_value false test now later cell one other h = other h

part_cell_value : (test : Cell → Bool) (fits_part : Part → Bool) (read : List ℕ → List ℕ → ℕ → Option Cell) (fill : Cell) (value : List ℕ) (n : ℕ) (parts : List Part) (ps : List Pair) (cell : Cell) → test fill ≡ true
    → ((part : Part) → fits_part part ≡ true → (slice : List ℕ) (place : ℕ) (found : Cell) → read part.shape slice place ≡ Some found → test found ≡ true) → Each (λ part. fits_part part ≡ true) parts
    → cell_of_part (cell_of_pair read fill value) n parts ps ≡ Some cell → test cell ≡ true
part_cell_value test fits_part read fill value n [] ps cell one law fit h = cc
part_cell_value test fits_part read fill value n (part ∷ parts) [] cell one law fit h = cc
part_cell_value test fits_part read fill value n (part ∷ parts) (p ∷ ps) cell one law fit h =
    let k = position_of n part.places in
    met_value (nat_lt k (length part.places)) test (if is_absent p then Some fill else option_and_then (λ slice. read part.shape slice k) (slice_at value p)) (cell_of_part (cell_of_pair read fill value) n parts ps) cell
    (λ e. held_value (is_absent p) test (λ slice. read part.shape slice k) fill (slice_at value p) cell one (λ slice found g. law part fit.0 slice k found g) e)
    (λ e. part_cell_value test fits_part read fill value n parts ps cell one law fit.1 e) h

-- one of the cells that are decoded
one_of : (test : Cell → Bool) (o : Option (List Cell)) (n : ℕ) (cell : Cell) → ((cells : List Cell) → o ≡ Some cells → list_all test cells ≡ true) → option_and_then (λ cells. slice_get cells n) o ≡ Some cell → test cell ≡ true
one_of test o n cell law h =
    let made = bind_some (λ (cells : List Cell). slice_get cells n) o cell h in
    found_is (λ c. test c ≡ true) made.0 n cell (each_passes test made.0 (law made.0 made.1)) made.2

pub cell_value : (chain : Chain) (elements : Elements) (shape value : List ℕ) (n : ℕ) (cell : Cell) → fits chain elements.type shape ≡ true → is_value elements.type elements.fill ≡ true → cell_at chain elements shape value n ≡ Some cell
    → is_value elements.type cell ≡ true
cell_value (bytes order) elements shape value n cell fit fill h =
    element_value order elements.type value n cell (if_some (is_whole elements.type shape value) (element_at order elements.type value n) cell h).1
cell_value (packbits padding first last) elements shape value n cell fit fill h =
    one_of (is_value elements.type) (decoded (packbits padding first last) elements shape value) n cell (λ cells e. decoded_values (packbits padding first last) elements shape value cells fit fill e) h
cell_value (vlen index «data» width location) elements shape value n cell fit fill h =
    one_of (is_value elements.type) (decoded (vlen index «data» width location) elements shape value) n cell (λ cells e. decoded_values (vlen index «data» width location) elements shape value cells fit fill e) h
cell_value (optional mask values) elements shape value n cell fit fill h =
    one_of (is_value elements.type) (decoded (optional mask values) elements shape value) n cell (λ cells e. decoded_values (optional mask values) elements shape value cells fit fill e) h
cell_value (after_array_codec codec chain) elements shape value n cell fit fill h =
    let both = and_parts (array_codec_fits codec shape) (fits chain elements.type (encoded_shape codec shape)) fit in
    cell_value chain elements (encoded_shape codec shape) value (position_of n (source_places codec shape)) cell both.1 fill h
cell_value (then_bytes chain codec) elements shape value n cell fit fill h =
    let inside = bind_some (λ found. cell_at chain elements shape found n) (codec.decode value) cell h in
    cell_value chain elements shape inside.0 n cell fit fill inside.2
cell_value (sharded subchunk inner index location) elements shape value n cell fit fill h =
    let pairs_shape = index_shape shape subchunk in
    let parts = parts_of shape subchunk in
    let fits_part = λ (part : Part). fits inner elements.type part.shape in
    let f = fitted subchunk inner index location elements shape fit in
    let pairs = bind_some (cell_of_part (cell_of_pair (cell_at inner elements) elements.fill value) n parts) (pairs_in (decoded index (zero_filled uint64) pairs_shape) location (index_size index pairs_shape) value) cell h in
    part_cell_value (is_value elements.type) fits_part (cell_at inner elements) elements.fill value n parts pairs.0 cell fill
    (λ part one slice place found e. cell_value inner elements part.shape slice place found one fill e) (each_passes fits_part parts f.each) pairs.2

pub part_values : (chain : Chain) (elements : Elements) (shape value ns : List ℕ) (cells : List Cell) → fits chain elements.type shape ≡ true → is_value elements.type elements.fill ≡ true → part_decoded chain elements shape value ns ≡ Some cells
    → list_all (is_value elements.type) cells ≡ true
part_values chain elements shape value ns cells fit fill h =
    let told = if_some (opens chain elements shape value) (all_there (map (cell_at chain elements shape value) ns)) cells h in
    all_pass (is_value elements.type) cells
    (each_read (λ cell. is_value elements.type cell ≡ true) (cell_at chain elements shape value) ns cells (λ n cell e. cell_value chain elements shape value n cell fit fill e) told.1)
