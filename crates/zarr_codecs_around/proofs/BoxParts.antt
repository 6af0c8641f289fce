-- Boxes that are read through array codecs.
use Rattle.std.proofs.Common.{◌≡◌, ◌∙◌, ℕ, ◌+◌, ◌*◌, ◌≤◌, ◌^◌, List, [], ◌∷◌, length, get_or, min, refl, sym, ap, subst, arith, Option, Some, None, Bool, true, false, not, ◌||◌, ◌&&◌, if◌then◌else◌, inl, inr, Result, Ok, Err}
use Rattle.std.specs.Prelude.{MatchOption, nat_lt, unwrap_or}
use Rattle.std.specs.List.{list_any}
use Rattle.std.proofs.Math.Nat.{mul-le-mul_right}
use Rattle.std.proofs.lemmas.List.{length-map}
use Rattle.zarr_grids_boxes.specs.Boxes.{Region, product}
use Rattle.zarr_codecs_meaning.specs.Chains.{ArrayCodec, Chain}
use Rattle.zarr_codecs_meaning.specs.Chains.ArrayCodec.{transpose, reshape, squeeze}
use Rattle.zarr_codecs_meaning.specs.Chains.Chain.{bytes, packbits, vlen, optional, after_array_codec, then_bytes, sharded}
use Rattle.zarr_codecs_meaning.specs.Chains.Padding.{no_padding_byte, first_byte, last_byte}
use Rattle.zarr_codecs_meaning.specs.Chunks.{chunk_part}
use Rattle.zarr_codecs_meaning.specs.Decoding.{decoded, pairs_in}
use Rattle.zarr_codecs_meaning.specs.Encoding.{Pair, index_size}
use Rattle.zarr_codecs_meaning.specs.Fits.{array_codec_fits, is_plain}
use Rattle.zarr_codecs_meaning.specs.Partial.{encodes_in_part}
use Rattle.zarr_codecs_meaning.specs.Places.{Part, encoded_shape, gather, index_shape, parts_of, position_of, source_places, undone_places}
use Rattle.zarr_codecs_meaning.specs.Types.{Cell, DataType, Elements, is_value, IsTooLarge, byte_width, bytes_in, components, uint64, zero_filled}
use Rattle.zarr_codecs_meaning.proofs.ArrayCodecs.{array_codec_count}
use Rattle.zarr_codecs_meaning.proofs.Lists.{some_same}
use Rattle.zarr_codecs_meaning.proofs.Once.{array_codec_once}
use Rattle.zarr_codecs_arrays.specs.Views.{payload_of}
use Rattle.zarr_codecs_arrays.specs.declared.array_bytes.ArrayBytes.{ArrayBytes}
use Rattle.zarr_codecs_arrays.specs.declared.error.CodecError.{CodecError}
use Rattle.zarr_codecs_arrays.specs.declared.error.CodecError.TheVariants as error
use Rattle.zarr_codecs_array_to_array.specs.Moving.{moved_numbers}
use Rattle.zarr_codecs_traits.specs.Capabilities.{decodes_parts}
use Rattle.zarr_codecs_traits.specs.Indexers.{in_box, numbers_asked}
use Rattle.zarr_codecs_traits.specs.Arrays.{coded}
use Rattle.zarr_codecs_traits.specs.Outcomes.{DecodesArray, DecodesPart}
use Rattle.zarr_codecs_traits.specs.PartWriting.{is_met}
use Rattle.zarr_codecs_traits.specs.ReadBytes.{bytes_of_numbers, most_read, slice_length, slices_met}
use Rattle.zarr_codecs_boxes.specs.Regions.{encoded_region}
use Rattle.zarr_codecs_boxes.specs.Updates.{IsBoxIn}
use Rattle.zarr_codecs_boxes.proofs.Moved.{fits_box}
use Rattle.zarr_codecs_boxes.proofs.Numbers.{box_numbers, box_undone, moved_in}
use Rattle.zarr_codecs_boxes.proofs.Puts.{length-numbers}
use Rattle.zarr_codecs_regions.proofs.InsideArray.{inside_product}
use Rattle.zarr_codecs_around.specs.Boxes.{takes_any_order}
use Rattle.zarr_codecs_around.specs.Views.{with_array_codecs}
use Rattle.zarr_codecs_around.proofs.Counts.{array_codec_places}
use Rattle.zarr_codecs_around.proofs.ArrayCodecs.{fit_after, larger_before, not_invalid, same_part, unfit_after}
use Rattle.zarr_codecs_around.proofs.Picked.{AreBelow, IsAnyOf, any_moved, any_picked, part_cells, part_count, part_picked, part_unpicked, picked}
use Rattle.zarr_codecs_around.proofs.WritingAfter.{undone_once}

-- ---- a box, and the box that it becomes

-- a box of an array, the box that an array codec makes of it, and where each of their places goes
pub record IsMovedBox (codec : ArrayCodec) (shape : List ℕ) (region moved : Region) : Type 0 where
  pub fit : array_codec_fits codec shape ≡ true
  pub fits : array_codec_fits codec region.shape ≡ true
  pub box : IsBoxIn shape region
  pub inside : IsBoxIn (encoded_shape codec shape) moved
  pub numbers : numbers_asked (encoded_shape codec shape) (in_box moved) ≡ picked 0 (moved_numbers codec shape (numbers_asked shape (in_box region))) (source_places codec region.shape)
  pub undone : moved_numbers codec shape (numbers_asked shape (in_box region)) ≡ picked 0 (numbers_asked (encoded_shape codec shape) (in_box moved)) (undone_places codec region.shape)
  -- as many places as the box has
  pub count : length (moved_numbers codec shape (numbers_asked shape (in_box region))) ≡ product region.shape
  pub long : length (numbers_asked (encoded_shape codec shape) (in_box moved)) ≡ product (encoded_shape codec region.shape)

pub moved_box : (codec : ArrayCodec) (shape : List ℕ) (region moved : Region) → array_codec_fits codec shape ≡ true → IsBoxIn shape region → encoded_region codec shape region ≡ Some moved → IsMovedBox codec shape region moved
moved_box codec shape region moved fit is h =
    let before = moved_numbers codec shape (numbers_asked shape (in_box region)) in
    let order = source_places codec region.shape in
    let one = fits_box codec shape region moved fit is h in
    let numbers = box_numbers codec shape region moved fit is h in
    record {
      fit = fit;
      fits = one;
      box = is;
      inside = moved_in codec shape region moved fit is h;
      numbers = numbers;
      undone = box_undone codec shape region moved fit is h;
      count = length-map (numbers_asked shape (in_box region)) (λ n. position_of n (source_places codec shape)) ∙ length-numbers shape region (sym is.dimensions);
      long = ap length numbers ∙ (length-map order (λ k. get_or before k 0) ∙ array_codec_count codec region.shape one);
    }

-- the places of the codec, of an array of the box's shape
pub order_below : (codec : ArrayCodec) (shape : List ℕ) (region moved : Region) → IsMovedBox codec shape region moved → AreBelow (length (moved_numbers codec shape (numbers_asked shape (in_box region)))) (source_places codec region.shape)
order_below codec shape region moved b = λ i low. (let h = (array_codec_once codec region.shape b.fits).below i low in omega (arith, h, b.count))

pub undone_below : (codec : ArrayCodec) (shape : List ℕ) (region moved : Region) → IsMovedBox codec shape region moved → AreBelow (length (numbers_asked (encoded_shape codec shape) (in_box moved))) (undone_places codec region.shape)
undone_below codec shape region moved b = λ i low. (let h = (undone_once codec region.shape b.fits).below i low in omega (arith, h, b.long))

-- so many elements are too large, where fewer are
pub more_too_large : (type : DataType) (few many : ℕ) → few ≤ many → IsTooLarge type few → IsTooLarge type many
more_too_large type few many less (inl large) = inl (omega (arith, less, large))
more_too_large type few many less (inr large) = inr (wide (byte_width type) large) where
  wide : (width : Option ℕ) → MatchOption width ⊥ (λ w. 2 ^ 63 ≤ few * w) → MatchOption width ⊥ (λ w. 2 ^ 63 ≤ many * w)
  wide None h = h
  wide (Some w) h = let more : few * w ≤ many * w = mul-le-mul_right w less in omega (arith, h, more)

pub box_too_large : (type : DataType) (shape : List ℕ) (region : Region) → IsBoxIn shape region → IsTooLarge type (product region.shape) → IsTooLarge type (product shape)
box_too_large type shape region is large = more_too_large type (product region.shape) (product shape) (inside_product shape region is.dimensions is.inside) large

-- ---- reading

-- the elements of the box that the box becomes, undone as those of an array of the box's shape
pub box_read : (codec : ArrayCodec) (chain : Chain) (elements : Elements) (shape : List ℕ) (stored : Option (List ℕ)) (region moved : Region) (found : ArrayBytes) (r : Result ArrayBytes CodecError) → is_value elements.type elements.fill ≡ true
    → IsMovedBox codec shape region moved → DecodesPart (coded chain elements (encoded_shape codec shape)) stored (in_box moved) (Ok found) → DecodesArray codec elements region.shape (payload_of found) r
    → DecodesPart (coded (after_array_codec codec chain) elements shape) stored (in_box region) r
box_read codec chain elements shape stored region moved found (Ok made) fill b h m =
    let same : m.cells ≡ h.cells = some_same (sym m.valid.is.lists ∙ h.lists) in
    let inner = part_picked chain elements (encoded_shape codec shape) stored (numbers_asked (encoded_shape codec shape) (in_box moved)) (undone_places codec region.shape) h.cells h.is (undone_below codec shape region moved b) in
    record {
      cells = gather elements.fill m.cells (undone_places codec region.shape);
      fit = fit_after codec chain elements.type shape b.fit h.fit;
      inside = b.box.inside;
      lists = m.lists;
      is = same_part codec chain elements shape stored (numbers_asked shape (in_box region))
          ∙ (ap (chunk_part chain elements (encoded_shape codec shape) stored) b.undone ∙ (inner ∙ ap (λ (cells : List Cell). Some (gather elements.fill cells (undone_places codec region.shape))) (sym same)));
    }
box_read codec chain elements shape stored region moved found (Err error.Fit) fill b h m = absurd (let e = sym b.fits ∙ m in cc)
box_read codec chain elements shape stored region moved found (Err error.Size) fill b h m = box_too_large elements.type shape region b.box m
box_read codec chain elements shape stored region moved found (Err error.Memory) fill b h m = tt
box_read codec chain elements shape stored region moved found (Err error.Source) fill b h m = tt
box_read codec chain elements shape stored region moved found (Err error.Damage) fill b h m = absurd m.1
box_read codec chain elements shape stored region moved found (Err error.IncompatibleIndexer) fill b h m = absurd m.1
box_read codec chain elements shape stored region moved found (Err e) fill b h m =
    let numbers = numbers_asked (encoded_shape codec shape) (in_box moved) in
    let many = part_count chain elements (encoded_shape codec shape) stored numbers h.cells h.is ∙ b.long in
    absurd (not_invalid elements.type (payload_of found) (product (encoded_shape codec region.shape)) h.cells e (record { lists = h.lists; many = many }) (part_cells chain elements (encoded_shape codec shape) stored numbers h.cells h.fit fill h.is) m.1)

-- or none
pub box_unread : (codec : ArrayCodec) (chain : Chain) (elements : Elements) (shape : List ℕ) (stored : Option (List ℕ)) (region moved : Region) (e : CodecError)
    → IsMovedBox codec shape region moved → DecodesPart (coded chain elements (encoded_shape codec shape)) stored (in_box moved) (Err e) → DecodesPart (coded (after_array_codec codec chain) elements shape) stored (in_box region) (Err e)
box_unread codec chain elements shape stored region moved error.Fit b h = unfit_after codec chain elements.type shape h
box_unread codec chain elements shape stored region moved error.IncompatibleIndexer b h = absurd (let e = sym b.inside.inside ∙ h in cc)
box_unread codec chain elements shape stored region moved error.Damage b h =
    let before = moved_numbers codec shape (numbers_asked shape (in_box region)) in
    let none = ap (chunk_part chain elements (encoded_shape codec shape) stored) (sym b.numbers) ∙ h.2 in (
      fit_after codec chain elements.type shape b.fit h.0,
      b.box.inside,
      same_part codec chain elements shape stored (numbers_asked shape (in_box region)) ∙ part_unpicked chain elements (encoded_shape codec shape) stored before (source_places codec region.shape) none (order_below codec shape region moved b),
    )
box_unread codec chain elements shape stored region moved error.Size b h = larger_before codec elements.type shape b.fit h
box_unread codec chain elements shape stored region moved error.Source b h = tt
box_unread codec chain elements shape stored region moved error.Memory b h = tt
box_unread codec chain elements shape stored region moved e b h = absurd h

-- ---- how many bytes are taken

-- numbers are as many as others, and a test that one of them passes, one of the others does
pub record AreAlike (ns ms : List ℕ) : Type 0 where
  pub many : length ns ≡ length ms
  pub ahead : IsAnyOf ns ms
  pub back : IsAnyOf ms ns

pub same_answer : (a b : Bool) → (a ≡ true → b ≡ true) → (b ≡ true → a ≡ true) → a ≡ b
same_answer true b ahead back = sym (ahead refl)
same_answer false true ahead back = back refl
same_answer false false ahead back = refl

pub moved_alike : (codec : ArrayCodec) (shape ns ms : List ℕ) → AreAlike ns ms → AreAlike (moved_numbers codec shape ns) (moved_numbers codec shape ms)
moved_alike codec shape ns ms alike =
    let move = λ (n : ℕ). position_of n (source_places codec shape) in
    record {
      many = length-map ns move ∙ (alike.many ∙ sym (length-map ms move));
      ahead = any_moved move ns ms alike.ahead;
      back = any_moved move ms ns alike.back;
    }

-- the same subchunks are met
slices_alike : (total : ℕ) (ns ms : List ℕ) (parts : List Part) (pairs : List Pair) → AreAlike ns ms → slices_met total ns parts pairs ≡ slices_met total ms parts pairs
slices_alike total ns ms [] pairs alike = refl
slices_alike total ns ms (part ∷ parts) [] alike = refl
slices_alike total ns ms (part ∷ parts) (pair ∷ pairs) alike =
    let test = λ (n : ℕ). nat_lt (position_of n part.places) (length part.places) in
    let met = same_answer (list_any test ns) (list_any test ms) (alike.ahead test) (alike.back test) in
    ap (λ (b : Bool). (if b then slice_length total pair else 0) + slices_met total ns parts pairs) met ∙ ap (λ n. (if is_met ms part then slice_length total pair else 0) + n) (slices_alike total ns ms parts pairs alike)

-- a chain behind a `reshape` takes any order where it does so with it
takes_behind : (plain partly others : Bool) → ((plain && partly) || others) ≡ true → (partly || others) ≡ true
takes_behind true partly others takes = takes
takes_behind false true others takes = refl
takes_behind false false others takes = takes

pub any_order : (chain : Chain) (type : DataType) (shape ns ms value : List ℕ) → takes_any_order chain ≡ true → AreAlike ns ms → bytes_of_numbers chain type shape ns value ≡ bytes_of_numbers chain type shape ms value
any_order (bytes order) type shape ns ms value takes alike = ap (λ n. min (n * bytes_in (components type)) (length value)) alike.many
any_order (packbits no_padding_byte first last) type shape ns ms value takes alike = absurd (cc)
any_order (packbits first_byte first last) type shape ns ms value takes alike = refl
any_order (packbits last_byte first last) type shape ns ms value takes alike = refl
any_order (vlen index «data» width location) type shape ns ms value takes alike = refl
any_order (optional mask values) type shape ns ms value takes alike = refl
any_order (after_array_codec (transpose order) chain) type shape ns ms value takes alike =
    any_order chain type (encoded_shape (transpose order) shape) (moved_numbers (transpose order) shape ns) (moved_numbers (transpose order) shape ms) value takes (moved_alike (transpose order) shape ns ms alike)
any_order (after_array_codec (reshape entries) chain) type shape ns ms value takes alike =
    any_order chain type (encoded_shape (reshape entries) shape) (moved_numbers (reshape entries) shape ns) (moved_numbers (reshape entries) shape ms) value
    (takes_behind (is_plain chain) (encodes_in_part chain) (not (decodes_parts chain)) takes) (moved_alike (reshape entries) shape ns ms alike)
any_order (after_array_codec squeeze chain) type shape ns ms value takes alike =
    any_order chain type (encoded_shape squeeze shape) (moved_numbers squeeze shape ns) (moved_numbers squeeze shape ms) value takes (moved_alike squeeze shape ns ms alike)
any_order (then_bytes chain codec) type shape ns ms value takes alike = refl
any_order (sharded subchunk inner index location) type shape ns ms value takes alike =
    let pairs_shape = index_shape shape subchunk in
    ap (λ n. index_size index pairs_shape + n) (slices_alike (length value) ns ms (parts_of shape subchunk) (unwrap_or (pairs_in (decoded index (zero_filled uint64) pairs_shape) location (index_size index pairs_shape) value) []) alike)

any_order_after : (codecs : List ArrayCodec) (chain : Chain) (type : DataType) (shape ns ms value : List ℕ) → takes_any_order chain ≡ true → AreAlike ns ms
    → bytes_of_numbers (with_array_codecs codecs chain) type shape ns value ≡ bytes_of_numbers (with_array_codecs codecs chain) type shape ms value
any_order_after [] chain type shape ns ms value takes alike = any_order chain type shape ns ms value takes alike
any_order_after (codec ∷ codecs) chain type shape ns ms value takes alike =
    any_order_after codecs chain type (encoded_shape codec shape) (moved_numbers codec shape ns) (moved_numbers codec shape ms) value takes (moved_alike codec shape ns ms alike)

-- the places of the box that a box becomes are those that its own places become
pub box_alike : (codec : ArrayCodec) (shape : List ℕ) (region moved : Region) → IsMovedBox codec shape region moved
    → AreAlike (numbers_asked (encoded_shape codec shape) (in_box moved)) (moved_numbers codec shape (numbers_asked shape (in_box region)))
box_alike codec shape region moved b =
    let after = numbers_asked (encoded_shape codec shape) (in_box moved) in
    let before = moved_numbers codec shape (numbers_asked shape (in_box region)) in
    let places = source_places codec region.shape in
    record {
      many = ap length b.numbers ∙ (length-map places (λ k. get_or before k 0) ∙ (array_codec_count codec region.shape b.fits ∙ (array_codec_places codec region.shape b.fits ∙ sym b.count)));
      ahead = subst (λ xs. IsAnyOf xs before) (sym b.numbers) (any_picked before places (order_below codec shape region moved b));
      back = subst (λ xs. IsAnyOf xs after) (sym b.undone) (any_picked after (undone_places codec region.shape) (undone_below codec shape region moved b));
    }

-- as many bytes are taken for the box as for the box that it becomes
pub box_most : (codec : ArrayCodec) (codecs : List ArrayCodec) (chain : Chain) (type : DataType) (shape : List ℕ) (stored : Option (List ℕ)) (region moved : Region) → takes_any_order chain ≡ true → IsMovedBox codec shape region moved
    → most_read (with_array_codecs codecs chain) type (encoded_shape codec shape) stored (in_box moved) ≡ most_read (with_array_codecs (codec ∷ codecs) chain) type shape stored (in_box region)
box_most codec codecs chain type shape None region moved takes b = refl
box_most codec codecs chain type shape (Some value) region moved takes b =
    any_order_after codecs chain type (encoded_shape codec shape) (numbers_asked (encoded_shape codec shape) (in_box moved)) (moved_numbers codec shape (numbers_asked shape (in_box region))) value takes (box_alike codec shape region moved b)
