-- How many bytes are taken of a value for some of its elements.
use Rattle.std.proofs.Common.{◌≡◌, ◌∙◌, ℕ, ◌+◌, ◌*◌, ◌/◌, ◌≤◌, ◌<◌, List, [], ◌∷◌, length, take, drop, min, get_or, ap, sym, refl, subst, arith, Option, Some, None, Bool, true, ◌&&◌, nat_lt, Result, Ok, Err, Vec, Global, zero-mul, length-drop, length-append}
use Rattle.std.specs.Prelude.{IfOk}
use Rattle.std.specs.List.{flat_map, list_all}
use Rattle.std.proofs.Math.Nat.{mul-div_left, mul-le-mul_right}
use Rattle.std.proofs.lemmas.Bool.{and_parts, le-leb, ltb-true}
use Rattle.std.proofs.lemmas.List.{append-nil, length-map, length-take-le, take_all}
use Rattle.zarr_grids_boxes.specs.Boxes.{Region, places, product, ravel}
use Rattle.zarr_grids_boxes.specs.Subsets.{region_of}
use Rattle.zarr_grids_boxes.proofs.InBox.{length-places}
use Rattle.zarr_codecs_meaning.specs.Payloads.{fixed_cells}
use Rattle.zarr_codecs_meaning.specs.Places.{gather}
use Rattle.zarr_codecs_meaning.specs.Types.{Cell}
use Rattle.zarr_codecs_meaning.proofs.Lists.{some_same}
use Rattle.zarr_codecs_arrays.proofs.FixedCells.{fixed_cells-cons, fixed_cells-nil, get_or-fixed_cells}
use Rattle.zarr_codecs_traits.specs.Indexers.{numbers_of}
use Rattle.zarr_codecs_traits.specs.Sources.{bytes_in_ranges, value_bytes}
use Rattle.zarr_codecs_regions.proofs.InsideArray.{inside_product}
use Rattle.zarr_codecs_bytes.specs.Lines.{bytes_of_lines, line_ends_within}
use Rattle.zarr_codecs_bytes.specs.Parts.{HasFound, HasListed, HasPart, IsListed, most_of_listed, most_of_part, listed_width, part_width}
use Rattle.zarr_codecs_bytes.specs.Views.{bytes_chain}
use Rattle.zarr_codecs_bytes.specs.declared.bytes.BytesCodec.{BytesCodec}
use Rattle.zarr_codecs_bytes.specs.declared.lines.LineSizes.{LineSizes}
use Rattle.zarr_codecs_bytes.specs.declared.part.BoxPart.{BoxPart}
use Rattle.zarr_codecs_bytes.specs.declared.part.ListedPart.{ListedPart}
use Rattle.zarr_codecs_bytes.proofs.PartDecoding.{nothing}

-- what is no more than both is no more than the lesser
pub at_most_both : (n a b : ℕ) → n ≤ a → n ≤ b → n ≤ min a b
at_most_both n a b low high = omega (arith, low, high)

-- the bytes of a part of a box are as many as are taken at most
pub part_most : (codec : BytesCodec) (part : BoxPart) (contents : Option (List ℕ)) (value extracted : List ℕ) → contents ≡ Some value → HasPart part value extracted → length extracted ≤ most_of_part (bytes_chain codec) contents part
part_most codec part contents value extracted is has =
    let region : Region = region_of part.region.now in
    let shape = part.shape.now in
    let width = part_width part in
    let long : length extracted ≡ product region.shape * width = (has.are nothing).long in
    let many : length (numbers_of shape region) ≡ product region.shape = length-map (places region.start region.shape) (λ place. ravel place shape) ∙ length-places region.start region.shape (sym part.region.now.same) in
    let wide : length (numbers_of shape region) * width ≡ product region.shape * width = ap (λ n. n * width) many in
    let within : product region.shape * width ≤ product shape * width = mul-le-mul_right width (inside_product shape region part.region.now.same part.inside) in
    subst (λ stored. length extracted ≤ most_of_part (bytes_chain codec) stored part) (sym is)
    (at_most_both (length extracted) (length (numbers_of shape region) * width) (length value) (omega (arith, long, wide)) (omega (arith, long, within, has.whole)))

-- what is given more is no more than is taken at most of a value, where the elements with the numbers have as many bytes, and the value too
pub listed_most : (codec : BytesCodec) (part : ListedPart) (contents : Option (List ℕ)) (value : List ℕ) (old new : ℕ) → contents ≡ Some value → new ≤ old + length part.numbers.now * listed_width part → new ≤ old + length value → new ≤ old + most_of_listed (bytes_chain codec) contents part
listed_most codec part contents value old new is few within =
    subst (λ stored. new ≤ old + most_of_listed (bytes_chain codec) stored part) (sym is) (most (length part.numbers.now * listed_width part) few) where
      most : (count : ℕ) → new ≤ old + count → new ≤ old + min count (length value)
      most count low = omega (arith, low, within)

-- elements with numbers below an array's count end in the value
pub numbers_end : (sizes : LineSizes) (width count : ℕ) (ns : List ℕ) → sizes.width ≡ width → sizes.line ≡ width → sizes.value ≡ count * width → list_all (λ n. nat_lt n count) ns ≡ true → list_all (line_ends_within sizes) ns ≡ true
numbers_end sizes width count [] wide line value h = refl
numbers_end sizes width count (n ∷ ns) wide line value h =
    let both = and_parts (nat_lt n count) (list_all (λ n. nat_lt n count) ns) h in
    let below = ltb-true n count both.0 in
    let next : n + 1 ≤ count = omega (arith, below) in
    let room : (n + 1) * width ≤ count * width = mul-le-mul_right width next in
    let split : (n + 1) * width ≡ n * width + width = grind arith in
    let at : n * sizes.width ≡ n * width = ap (λ w. n * w) wide in
    let here : line_ends_within sizes n ≡ true = le-leb (n * sizes.width + sizes.line) sizes.value (omega (arith, room, split, at, line, value)) in
    ap (λ (b : Bool). b && list_all (line_ends_within sizes) ns) here ∙ numbers_end sizes width count ns wide line value both.1

-- the bytes of the elements with these numbers, one after another
pub numbers_listed : (width count : ℕ) (value ns : List ℕ) → 0 < width → length value ≡ count * width → list_all (λ n. nat_lt n count) ns ≡ true → IsListed width value ns (flat_map (λ n. take width (drop (n * width) value)) ns)
numbers_listed width count value ns some whole inside = record {
  long = long ns inside;
  elements = λ other. are other ns inside;
} where
  element : ℕ → List ℕ
  element n = take width (drop (n * width) value)

  wide : (n : ℕ) → n < count → length (element n) ≡ width
  wide n below =
      let next : n + 1 ≤ count = omega (arith, below) in
      let room : (n + 1) * width ≤ count * width = mul-le-mul_right width next in
      let split : (n + 1) * width ≡ n * width + width = grind arith in
      let left = length-drop (n * width) value in
      length-take-le width (drop (n * width) value) (omega (arith, room, split, left, whole))

  long : (ms : List ℕ) → list_all (λ n. nat_lt n count) ms ≡ true → length (flat_map element ms) ≡ length ms * width
  long [] h = sym (zero-mul width)
  long (m ∷ ms) h =
      let both = and_parts (nat_lt m count) (list_all (λ n. nat_lt n count) ms) h in
      let one = wide m (ltb-true m count both.0) in
      let joined = length-append (element m) (flat_map element ms) in
      let rest = long ms both.1 in
      let split : (length ms + 1) * width ≡ length ms * width + width = grind arith in
      omega (arith, one, joined, rest, split)

  many : length value / width ≡ count
  many = ap (λ n. n / width) whole ∙ mul-div_left count some

  are : (other : Cell) (ms : List ℕ) → list_all (λ n. nat_lt n count) ms ≡ true → fixed_cells width (flat_map element ms) ≡ gather other (fixed_cells width value) ms
  are other [] h = fixed_cells-nil width
  are other (m ∷ ms) h =
      let both = and_parts (nat_lt m count) (list_all (λ n. nat_lt n count) ms) h in
      let below = ltb-true m count both.0 in
      fixed_cells-cons width (element m) (flat_map element ms) some (wide m below)
      ∙ (ap (λ cell. cell ∷ fixed_cells width (flat_map element ms)) (sym (get_or-fixed_cells width value m other (omega (arith, below, many))))
      ∙ ap (λ cells. get_or (fixed_cells width value) m other ∷ cells) (are other ms both.1))

-- ---- what is fetched

-- bytes that were found are those of the elements
pub found_listed : {E : Type 0} (result : Result (Option (Vec ℕ Global)) E) (part : ListedPart) (value bytes : List ℕ) → HasListed part value bytes → IfOk result (λ found. value_bytes found ≡ Some bytes) → IfOk result (HasFound part value)
found_listed (Ok (Some v)) part value bytes has h = subst (λ bs. HasListed part value bs) (sym (some_same h)) has
found_listed (Ok None) part value bytes has h = cc
found_listed (Err e) part value bytes has h = tt

-- the range of a whole value has its bytes
pub whole_read : (value : List ℕ) (size : ℕ) → length value ≡ size → bytes_in_ranges value (record { offset = 0; length = size } ∷ []) ≡ value
whole_read value size long = append-nil (take size value) ∙ take_all size value (omega (arith, long))

pub found_whole : (found : Option (Vec ℕ Global)) (v : Vec ℕ Global) (value : List ℕ) (size : ℕ) → length value ≡ size → found ≡ Some v → value_bytes found ≡ Some (bytes_in_ranges value (record { offset = 0; length = size } ∷ [])) → v.items ≡ value
found_whole found v value size long is read = some_same (sym (ap value_bytes is) ∙ read) ∙ whole_read value size long

pub none_found : (found : Option (Vec ℕ Global)) (bytes : List ℕ) → found ≡ None → value_bytes found ≡ Some bytes → ⊥
none_found found bytes is read = no_value (sym (ap value_bytes is) ∙ read) where
  no_value : None ≡ Some bytes → ⊥
  no_value h = cc

-- what was found, where there was a value
pub none_listed : (found : Option (Vec ℕ Global)) (part : ListedPart) (value : List ℕ) → found ≡ None → HasFound part value found → ⊥
none_listed found part value is has = subst (λ o. HasFound part value o) is has

pub some_listed : (found : Option (Vec ℕ Global)) (v : Vec ℕ Global) (part : ListedPart) (value : List ℕ) → found ≡ Some v → HasFound part value found → HasListed part value v.items
some_listed found v part value is has = subst (λ o. HasFound part value o) is has

-- ranges of the elements with the numbers have their bytes
pub ranges_listed : (part : ListedPart) (sizes : LineSizes) (value bytes : List ℕ) → 0 < listed_width part → sizes.width ≡ listed_width part → sizes.line ≡ listed_width part → length value ≡ product part.shape.now * listed_width part
    → bytes ≡ bytes_of_lines sizes.width sizes.line value part.numbers.now → HasListed part value bytes
ranges_listed part sizes value bytes some wide line whole are =
    let width = listed_width part in
    let numbers = part.numbers.now in
    let same : bytes ≡ flat_map (λ n. take width (drop (n * width) value)) numbers = are ∙ (ap (λ w. bytes_of_lines w sizes.line value numbers) wide ∙ ap (λ n. bytes_of_lines width n value numbers) line) in
    record {
      positive = some;
      whole = whole;
      are = subst (λ bs. IsListed width value numbers bs) (sym same) (numbers_listed width (product part.shape.now) value numbers some whole part.inside);
    }
