-- What is decoded of elements of one size are values of their type, whoever wrote the bytes.
use Rattle.std.proofs.Common.{◌≡◌, ℕ, List, [], ◌∷◌, map, replicate, ap, ◌∙◌, sym, refl, subst, arith, Option, Some, option_and_then, option_map, unwrap_or, Bool, true, false, ◌&&◌, ◌==◌, ◌<◌, ◌*◌, if◌then◌else◌, zero, suc, length, take, drop}
use Rattle.std.specs.List.{list_all, flat_map}
use Rattle.std.proofs.lemmas.Bool.{and_parts}
use Rattle.zarr_grids_boxes.specs.Boxes.{product}
use Rattle.zarr_codecs_meaning.specs.Numbers.{digits}
use Rattle.zarr_codecs_meaning.specs.Types.{DataType, bool, integer, custom, string, variable_bytes, optional_of, uint64, components, bytes_in, is_fixed, is_variable, inner_type, is_value, Cell, of_bytes, Elements, zero_filled}
use Rattle.zarr_codecs_meaning.specs.Chains.{Chain}
use Rattle.zarr_codecs_meaning.specs.Chains.Chain.{bytes, packbits, vlen, optional, after_array_codec, then_bytes, sharded}
use Rattle.zarr_codecs_meaning.specs.Places.{gather, place_numbers, encoded_shape, undone_places, Part, parts_of, index_shape}
use Rattle.zarr_codecs_meaning.specs.Fits.{fits, array_codec_fits, packed_size, bits_in}
use Rattle.zarr_codecs_meaning.specs.Encoding.{ordered, Pair, index_size}
use Rattle.zarr_codecs_meaning.specs.Keeping.{arranged}
use Rattle.zarr_codecs_meaning.specs.Decoding.{all_there, tested, element_at, is_whole, without_padding, unpacked, is_absent, slice_at, pairs_in, pieces_decoded, decoded}
use Rattle.zarr_codecs_meaning.proofs.Lists.{some_same, bind_some, map_some, if_some, elim_some, Each, all_pass, each_map}
use Rattle.zarr_codecs_meaning.proofs.ArrayCodecs.{values_gathered}
use Rattle.zarr_codecs_meaning.proofs.Digits.{digits_below, each-take, each-drop}
use Rattle.zarr_codecs_meaning.proofs.Elements.{each-flat_map}
use Rattle.zarr_codecs_meaning.proofs.KeptElements.{packs, made_is_value}
use Rattle.zarr_codecs_meaning.proofs.KeptVariable.{vlen_fits}
use Rattle.zarr_codecs_meaning.proofs.KeptOptions.{options_fit}
use Rattle.zarr_codecs_meaning.proofs.KeptShards.{arranged_value}
use Rattle.zarr_codecs_meaning.proofs.Fitting.{fitted}

-- a type with elements of one size has no others
not_variable : (type : DataType) → is_fixed type ≡ true → is_variable type ≡ true → ⊥
not_variable bool f v = cc
not_variable (integer sign width) f v = cc
not_variable (custom parts) f v = cc
not_variable string f v = cc
not_variable variable_bytes f v = cc
not_variable (optional_of inner) f v = cc

not_optional : (type inner : DataType) → is_fixed type ≡ true → inner_type type ≡ Some inner → ⊥
not_optional bool inner f v = cc
not_optional (integer sign width) inner f v = cc
not_optional (custom parts) inner f v = cc
not_optional string inner f v = cc
not_optional variable_bytes inner f v = cc
not_optional (optional_of other) inner f v = cc

-- where each that is there passes, all do
all_values : {X : Type 0} (test : X → Bool) (f : ℕ → Option X) (ns : List ℕ) (xs : List X) → ((n : ℕ) (x : X) → f n ≡ Some x → test x ≡ true) → all_there (map f ns) ≡ Some xs → list_all test xs ≡ true
all_values test f [] xs law h = ap (list_all test) (sym (some_same h))
all_values test f (n ∷ ns) xs law h =
    let first = bind_some (λ x. option_map (λ ys. x ∷ ys) (all_there (map f ns))) (f n) xs h in
    let rest = map_some (λ ys. first.0 ∷ ys) (all_there (map f ns)) xs first.2 in
    ap (list_all test) (sym rest.2) ∙ (ap (λ (b : Bool). b && list_all test rest.0) (law n first.0 first.1) ∙ all_values test f ns rest.0 law rest.1)

tested_value : (type : DataType) (cell found : Cell) → tested type cell ≡ Some found → is_value type found ≡ true
tested_value type cell found h =
    let t = if_some (is_value type cell) (Some cell) found h in
    ap (is_value type) (sym (some_same t.1)) ∙ t.0

pub all_filled : (test : Cell → Bool) (fill : Cell) (n : ℕ) → test fill ≡ true → list_all test (replicate n fill) ≡ true
all_filled test fill zero h = refl
all_filled test fill (suc n) h = ap (λ (b : Bool). b && list_all test (replicate n fill)) h ∙ all_filled test fill n h

-- the cells of each subchunk
piece_values : (test : Cell → Bool) (absent : Bool) (fill : Cell) (count : ℕ) (made : Option (List Cell)) (cells : List Cell) → test fill ≡ true → ((found : List Cell) → made ≡ Some found → list_all test found ≡ true)
    → (if absent then Some (replicate count fill) else made) ≡ Some cells → list_all test cells ≡ true
piece_values test true fill count made cells one law h = ap (list_all test) (sym (some_same h)) ∙ all_filled test fill count one
piece_values test false fill count made cells one law h = law cells h

pieces_values : (test : Cell → Bool) (inner : List ℕ → List ℕ → Option (List Cell)) (fill : Cell) (value : List ℕ) (parts : List Part) (pairs : List Pair) (pieces : List (List Cell)) → test fill ≡ true
    → Each (λ (part : Part). (slice : List ℕ) (cells : List Cell) → inner part.shape slice ≡ Some cells → list_all test cells ≡ true) parts
    → pieces_decoded inner fill value parts pairs ≡ Some pieces → Each (λ (piece : List Cell). list_all test piece ≡ true) pieces
pieces_values test inner fill value [] pairs pieces one law h = subst (λ (ps : List (List Cell)). Each (λ (piece : List Cell). list_all test piece ≡ true) ps) (some_same h) tt
pieces_values test inner fill value (part ∷ parts) [] pieces one law h = cc
pieces_values test inner fill value (part ∷ parts) (pair ∷ pairs) pieces one law h =
    let now = if is_absent pair then Some (replicate (product part.shape) fill) else option_and_then (inner part.shape) (slice_at value pair) in
    let later = pieces_decoded inner fill value parts pairs in
    let first = bind_some (λ (cells : List Cell). option_map (λ (others : List (List Cell)). cells ∷ others) later) now pieces h in
    let rest = map_some (λ (others : List (List Cell)). first.0 ∷ others) later pieces first.2 in
    let here = piece_values test (is_absent pair) fill (product part.shape) (option_and_then (inner part.shape) (slice_at value pair)) first.0 one
    (λ found e. let slice = bind_some (inner part.shape) (slice_at value pair) found e in law.0 slice.0 found slice.2) first.1 in
    subst (λ (ps : List (List Cell)). Each (λ (piece : List Cell). list_all test piece ≡ true) ps) rest.2 (here, pieces_values test inner fill value parts pairs rest.0 one law.1 rest.1)

-- ---- chains

-- what is shown of a part of a shard
abbrev part_law : Chain → Elements → Part → Type 0
part_law inner elements part = (slice : List ℕ) (cells : List Cell) → decoded inner elements part.shape slice ≡ Some cells → list_all (is_value elements.type) cells ≡ true

each_law : (inner : Chain) (elements : Elements) (parts : List Part) → list_all (λ (part : Part). fits inner elements.type part.shape) parts ≡ true
    → ((shape slice : List ℕ) (cells : List Cell) → fits inner elements.type shape ≡ true → decoded inner elements shape slice ≡ Some cells → list_all (is_value elements.type) cells ≡ true)
    → Each (part_law inner elements) parts
each_law inner elements [] h law = tt
each_law inner elements (part ∷ parts) h law =
    let both = and_parts (fits inner elements.type part.shape) (list_all (λ (other : Part). fits inner elements.type other.shape) parts) h in
    ((λ slice cells e. law part.shape slice cells both.0 e), each_law inner elements parts both.1 law)

pub decoded_values : (chain : Chain) (elements : Elements) (shape value : List ℕ) (cells : List Cell) → is_fixed elements.type ≡ true → is_value elements.type elements.fill ≡ true → fits chain elements.type shape ≡ true
    → decoded chain elements shape value ≡ Some cells → list_all (is_value elements.type) cells ≡ true
decoded_values (bytes order) elements shape value cells fixed fine fit h =
    let read = element_at order elements.type value in
    let told = elim_some (is_whole elements.type shape value) (all_there (map read (place_numbers shape))) cells h in
    all_values (is_value elements.type) read (place_numbers shape) cells (λ n x e. tested_value elements.type (of_bytes (ordered order (components elements.type) (take (bytes_in (components elements.type)) (drop (n * bytes_in (components elements.type)) value)))) x e) told.1
decoded_values (packbits padding first last) elements shape value cells fixed fine fit h =
    let bits = flat_map (digits 2 8) (without_padding padding value) in
    let read = unpacked first last elements.type bits in
    let told = elim_some (length value == packed_size padding first last (components elements.type) (product shape)) (Some (map read (place_numbers shape))) cells h in
    let pack = packs first last elements.type fit in
    let are : Each (λ b. b < 2) bits = each-flat_map (λ b. b < 2) (digits 2 8) (without_padding padding value) (λ b. digits_below 2 8 b (omega arith)) in
    ap (list_all (is_value elements.type)) (sym (some_same told.1)) ∙ all_pass (is_value elements.type) (map read (place_numbers shape)) (each_map (λ c. is_value elements.type c ≡ true) read (place_numbers shape) (λ n.
    let width = bits_in first last (components elements.type) in
    made_is_value first last elements.type (take width (drop (n * width) bits)) fixed pack.keeps (each-take (λ b. b < 2) width (drop (n * width) bits) (each-drop (λ b. b < 2) (n * width) bits are))))
decoded_values (vlen index «data» width location) elements shape value cells fixed fine fit h =
    absurd (not_variable elements.type fixed (vlen_fits index «data» width location elements.type shape fit).variable)
decoded_values (optional mask values) elements shape value cells fixed fine fit h =
    absurd (not_optional elements.type (unwrap_or (inner_type elements.type) elements.type) fixed (options_fit mask values elements.type shape fit).is)
decoded_values (after_array_codec codec chain) elements shape value cells fixed fine fit h =
    let both = and_parts (array_codec_fits codec shape) (fits chain elements.type (encoded_shape codec shape)) fit in
    let made = map_some (λ (found : List Cell). gather elements.fill found (undone_places codec shape)) (decoded chain elements (encoded_shape codec shape) value) cells h in
    ap (list_all (is_value elements.type)) (sym made.2)
    ∙ values_gathered (is_value elements.type) elements.fill made.0 (undone_places codec shape) fine (decoded_values chain elements (encoded_shape codec shape) value made.0 fixed fine both.1 made.1)
decoded_values (then_bytes chain codec) elements shape value cells fixed fine fit h =
    let inside = bind_some (decoded chain elements shape) (codec.decode value) cells h in
    decoded_values chain elements shape inside.0 cells fixed fine fit inside.2
decoded_values (sharded subchunk inner index location) elements shape value cells fixed fine fit h =
    let f = fitted subchunk inner index location elements shape fit in
    let pairs_shape = index_shape shape subchunk in
    let parts = parts_of shape subchunk in
    let arrange = λ (pieces : List (List Cell)). map (arranged elements.fill parts pieces) (place_numbers shape) in
    let next = λ (ps : List Pair). option_map arrange (pieces_decoded (decoded inner elements) elements.fill value parts ps) in
    let pairs = bind_some next (pairs_in (decoded index (zero_filled uint64) pairs_shape) location (index_size index pairs_shape) value) cells h in
    let made = map_some arrange (pieces_decoded (decoded inner elements) elements.fill value parts pairs.0) cells pairs.2 in
    let law = each_law inner elements parts f.each (λ part slice found one e. decoded_values inner elements part slice found fixed fine one e) in
    let values = pieces_values (is_value elements.type) (decoded inner elements) elements.fill value parts pairs.0 made.0 fine law made.1 in
    ap (list_all (is_value elements.type)) (sym made.2)
    ∙ all_pass (is_value elements.type) (arrange made.0) (each_map (λ c. is_value elements.type c ≡ true) (arranged elements.fill parts made.0) (place_numbers shape) (λ n. arranged_value (is_value elements.type) elements.fill parts made.0 n fine values))
