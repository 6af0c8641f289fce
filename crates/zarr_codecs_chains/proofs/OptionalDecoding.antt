-- Optional elements decoded by a mask and those that are present.
use Rattle.std.proofs.Common.{◌≡◌, ◌∙◌, ℕ, zero, suc, ◌<◌, List, [], ◌∷◌, length, map, replicate, ap, sym, refl, subst, arith, Option, Some, None, option_map, option_and_then, Result, Ok, Err, unwrap_or, Bool, true, if◌then◌else◌}
use Rattle.std.specs.Prelude.{IfOk, IfErr}
use Rattle.std.proofs.lemmas.Bool.{eq-eqb, ne_eqb}
use Rattle.std.proofs.lemmas.List.{length-replicate}
use Rattle.zarr_grids_boxes.specs.Boxes.{product}
use Rattle.zarr_codecs_meaning.specs.Chains.{ByteCodec, Chain}
use Rattle.zarr_codecs_meaning.specs.Chains.Chain.{optional}
use Rattle.zarr_codecs_meaning.specs.Decoding.{count_present, decoded, masked_of, read_unless_none}
use Rattle.zarr_codecs_meaning.specs.Fits.{fits, takes_each_shape}
use Rattle.zarr_codecs_meaning.specs.Keeping.{spread}
use Rattle.zarr_codecs_meaning.specs.Payloads.{Payload, cells_in}
use Rattle.zarr_codecs_meaning.specs.Types.{DataType, bool, optional_of, inner_type, Cell, Elements, zero_filled}
use Rattle.zarr_codecs_meaning.proofs.Counts.{decoded_count}
use Rattle.zarr_codecs_arrays.specs.Views.{payload_of}
use Rattle.zarr_codecs_arrays.specs.declared.array_bytes.ArrayBytes.{ArrayBytes}
use Rattle.zarr_codecs_arrays.specs.declared.error.CodecError.{CodecError}
use Rattle.zarr_codecs_arrays.specs.declared.error.CodecError.TheVariants as error
use Rattle.zarr_codecs_array_to_array.specs.declared.codec.ArrayToArrayCodec.{ArrayToArrayCodec}
use Rattle.zarr_codecs_traits.specs.Arrays.{coded}
use Rattle.zarr_codecs_traits.specs.Outcomes.{Decodes, UndoesBytes}
use Rattle.zarr_codecs_sections.specs.Laws.{found_read}
use Rattle.zarr_codecs_sections.specs.Marks.{AreMarked, chosen, count_ones}
use Rattle.zarr_codecs_around.specs.Codecs.{all_decoded}
use Rattle.zarr_codecs_around.specs.Views.{chain_between, with_codecs}
use Rattle.zarr_codecs_around.proofs.Chains.{decoded_with}
use Rattle.zarr_codecs_chains.specs.Inside.{FindsInner, FindsMarked}
use Rattle.zarr_codecs_chains.proofs.OptionalEncoding.{chosen_count, optional_is}

-- what is found in the value of an array that the chain suits
pub found_decodes : (chain : Chain) (elements : Elements) (shape value : List ℕ) (r : Result ArrayBytes CodecError) → fits chain elements.type shape ≡ true → FindsInner (decoded chain elements shape value) elements.type r → Decodes (coded chain elements shape) value r
found_decodes chain elements shape value (Ok bytes) fit h = record { cells = h.0; fit = fit; lists = h.2; is = h.1 }
found_decodes chain elements shape value (Err error.Damage) fit h = (fit, h)
found_decodes chain elements shape value (Err error.Memory) fit h = tt
found_decodes chain elements shape value (Err e) fit h = absurd h

-- ---- put to where marks are 1

-- what is decoded to nothing
pub unfound_marked : (found : Option (List Cell)) (type : DataType) (marks : List ℕ) (e : CodecError) → FindsInner found type (Err e) → FindsMarked found type marks (Err e)
unfound_marked found type marks error.Damage h = h
unfound_marked found type marks error.Memory h = tt
unfound_marked found type marks e h = absurd h

pub product_one : (n : ℕ) → product (n ∷ []) ≡ n
product_one n = grind arith

-- as many elements are decoded as there are marks that are 1
pub decoded_ones : (chain : Chain) (elements : Elements) (value : List ℕ) (count ones : ℕ) (cells : List Cell) → count ≡ ones → decoded chain elements (count ∷ []) value ≡ Some cells → length cells ≡ ones
decoded_ones chain elements value count ones cells same h = decoded_count chain elements (count ∷ []) value cells h ∙ (product_one count ∙ same)

-- what is found below a mask
pub below_found : (chain : Chain) (type inner : DataType) (outer marks : List ℕ) (count : ℕ) (section : List ℕ) (masks : List Cell) (below : Payload) → type ≡ inner → outer ≡ marks → count ≡ count_ones outer → count_ones marks ≡ count_present masks
    → ((cells : List Cell) × (read_unless_none count section (decoded chain (zero_filled type) (count ∷ [])) ≡ Some cells) × AreMarked type outer cells below)
    → (cells : List Cell) × (found_read (λ count. decoded chain (zero_filled inner) (count ∷ [])) masks section ≡ Some cells) × AreMarked inner marks cells below
below_found chain type inner outer marks count section masks below is same counted present h =
    let number : count ≡ count_present masks = counted ∙ (ap count_ones same ∙ present) in (
      h.0,
      ap (λ n. read_unless_none n section (decoded chain (zero_filled inner) (n ∷ []))) (sym number) ∙ (ap (λ t. read_unless_none count section (decoded chain (zero_filled t) (count ∷ []))) (sym is) ∙ h.1),
      subst (λ t. AreMarked t marks h.0 below) is (subst (λ ms. AreMarked type ms h.0 below) same h.2),
    )

-- ---- behind bytes codecs

-- what is found in what codecs undo
found_with : (chain : Chain) (codecs : List ByteCodec) (elements : Elements) (shape value inside : List ℕ) → all_decoded codecs value ≡ Some inside → decoded chain elements shape inside ≡ decoded (with_codecs chain codecs) elements shape value
found_with chain codecs elements shape value inside h = sym (decoded_with chain codecs elements shape value ∙ ap (option_and_then (decoded chain elements shape)) h)

-- nothing, where they undo nothing
unfound_with : (chain : Chain) (codecs : List ByteCodec) (elements : Elements) (shape value : List ℕ) → all_decoded codecs value ≡ None → decoded (with_codecs chain codecs) elements shape value ≡ None
unfound_with chain codecs elements shape value h = decoded_with chain codecs elements shape value ∙ ap (option_and_then (decoded chain elements shape)) h

-- the same of a chain that does the same for each shape, so that it has no array codecs
found_between : {B : Type 0} (meaning : B → ByteCodec) (before : List ArrayToArrayCodec) (chain : Chain) (after : List B) (elements : Elements) (shape value inside : List ℕ) → takes_each_shape (chain_between meaning before chain after) ≡ true
    → all_decoded (map meaning after) value ≡ Some inside → decoded chain elements shape inside ≡ decoded (chain_between meaning before chain after) elements shape value
found_between meaning [] chain after elements shape value inside takes h = found_with chain (map meaning after) elements shape value inside h
found_between meaning (codec ∷ codecs) chain after elements shape value inside takes h = absurd (cc)

unfound_between : {B : Type 0} (meaning : B → ByteCodec) (before : List ArrayToArrayCodec) (chain : Chain) (after : List B) (elements : Elements) (shape value : List ℕ) → takes_each_shape (chain_between meaning before chain after) ≡ true
    → all_decoded (map meaning after) value ≡ None → decoded (chain_between meaning before chain after) elements shape value ≡ None
unfound_between meaning [] chain after elements shape value takes h = unfound_with chain (map meaning after) elements shape value h
unfound_between meaning (codec ∷ codecs) chain after elements shape value takes h = absurd (cc)

-- no codecs undo nothing
pub undone_by_none : {B : Type 0} (meaning : B → ByteCodec) (after : List B) (value : List ℕ) → length after ≡ 0 → all_decoded (map meaning after) value ≡ Some value
undone_by_none meaning [] value none = refl
undone_by_none meaning (codec ∷ codecs) value none = absurd (cc)

-- ---- where there are none

-- some elements are read by the chain
read_some : (count : ℕ) (section : List ℕ) (read : List ℕ → Option (List Cell)) → (count ≡ 0 → ⊥) → read section ≡ read_unless_none count section read
read_some zero section read some = absurd (some refl)
read_some (suc count) section read some = refl

-- what a value is read to that codecs undo, or that they do not
pub found_some : {B : Type 0} (meaning : B → ByteCodec) (before : List ArrayToArrayCodec) (chain : Chain) (after : List B) (type : DataType) (marks : List ℕ) (count : ℕ) (section inside : List ℕ) (r : Result ArrayBytes CodecError)
    → takes_each_shape (chain_between meaning before chain after) ≡ true → (count ≡ 0 → ⊥) → all_decoded (map meaning after) section ≡ Some inside → FindsMarked (decoded chain (zero_filled type) (count ∷ []) inside) type marks r
    → FindsMarked (read_unless_none count section (decoded (chain_between meaning before chain after) (zero_filled type) (count ∷ []))) type marks r
found_some meaning before chain after type marks count section inside r takes some undone h =
    let whole = chain_between meaning before chain after in
    subst (λ (found : Option (List Cell)). FindsMarked found type marks r)
    (found_between meaning before chain after (zero_filled type) (count ∷ []) section inside takes undone ∙ read_some count section (decoded whole (zero_filled type) (count ∷ [])) some) h

pub undone_some : {B : Type 0} (meaning : B → ByteCodec) (before : List ArrayToArrayCodec) (chain : Chain) (after : List B) (type : DataType) (marks : List ℕ) (count : ℕ) (section : List ℕ) (e : CodecError)
    → takes_each_shape (chain_between meaning before chain after) ≡ true → (count ≡ 0 → ⊥) → UndoesBytes (all_decoded (map meaning after)) section (Err e)
    → FindsMarked (read_unless_none count section (decoded (chain_between meaning before chain after) (zero_filled type) (count ∷ []))) type marks (Err e)
undone_some meaning before chain after type marks count section error.Damage takes some h =
    sym (read_some count section (decoded (chain_between meaning before chain after) (zero_filled type) (count ∷ [])) some) ∙ unfound_between meaning before chain after (zero_filled type) (count ∷ []) section takes h
undone_some meaning before chain after type marks count section error.Memory takes some h = tt
undone_some meaning before chain after type marks count section e takes some h = absurd h

-- none are read of nothing alone
read_nothing : (section : List ℕ) (read : List ℕ → Option (List Cell)) → length section ≡ 0 → read_unless_none 0 section read ≡ Some []
read_nothing section read nothing = ap (λ (b : Bool). if b then Some [] else None) (eq-eqb (length section) 0 nothing)

read_damaged : (section : List ℕ) (read : List ℕ → Option (List Cell)) → 0 < length section → read_unless_none 0 section read ≡ None
read_damaged section read some = ap (λ (b : Bool). if b then Some [] else None) (ne_eqb (length section) 0 (λ z. omega (arith, some, z)))

chosen_none : (marks : List ℕ) (all : List Cell) → length all ≡ length marks → count_ones marks ≡ 0 → chosen marks all ≡ []
chosen_none marks all many none = empty (chosen marks all) (chosen_count marks all many ∙ none) where
  empty : (xs : List Cell) → length xs ≡ 0 → xs ≡ []
  empty [] e = refl
  empty (x ∷ xs) e = absurd (omega (arith, e))

-- where no mark is 1, and any elements stand at the marks
pub none_marked : (type : DataType) (marks section : List ℕ) (count : ℕ) (fill : Cell) (read : List ℕ → Option (List Cell)) (r : Result ArrayBytes CodecError) → count ≡ 0 → count ≡ count_ones marks
    → IfOk r (λ made. cells_in type (payload_of made) ≡ Some (replicate (length marks) fill)) → IfOk r (λ _. length section ≡ 0) → IfErr r (λ e. (e ≡ error.Memory → ⊥) → (e ≡ error.Damage) × (0 < length section))
    → FindsMarked (read_unless_none count section read) type marks r
none_marked type marks section count fill read (Ok made) none same lists nothing cause =
    let many = length-replicate (length marks) fill in (
      [],
      ap (λ n. read_unless_none n section read) none ∙ read_nothing section read nothing,
      record { all = replicate (length marks) fill; lists = lists; many = many; are = chosen_none marks (replicate (length marks) fill) many (sym same ∙ none) },
    )
none_marked type marks section count fill read (Err error.Damage) none same lists nothing cause = ap (λ n. read_unless_none n section read) none ∙ read_damaged section read (cause (λ is. cc)).1
none_marked type marks section count fill read (Err error.Memory) none same lists nothing cause = tt
none_marked type marks section count fill read (Err e) none same lists nothing cause = let h = (cause (λ is. cc)).0 in absurd (cc)

-- ---- `optional`, by its two sections

-- the elements that are present are spread by the mask
options_found : (mask values : Chain) (elements : Elements) (shape value front back : List ℕ) → masked_of value ≡ Some (front, back)
    → decoded (optional mask values) elements shape value
    ≡ option_and_then (λ masks. option_map (spread masks) (found_read (λ count. decoded values (zero_filled (unwrap_or (inner_type elements.type) elements.type)) (count ∷ [])) masks back)) (decoded mask (zero_filled bool) shape front)
options_found mask values elements shape value front back h =
    let inner = zero_filled (unwrap_or (inner_type elements.type) elements.type) in
    ap
    (option_and_then
    (λ (sections : List ℕ × List ℕ).
    option_and_then (λ masks. option_map (spread masks) (read_unless_none (count_present masks) sections.1 (decoded values inner (count_present masks ∷ [])))) (decoded mask (zero_filled bool) shape sections.0)))
    h

-- with the mask that is found
mask_found : (mask values : Chain) (elements : Elements) (inner : DataType) (shape value front back : List ℕ) (masks : List Cell) → masked_of value ≡ Some (front, back) → inner_type elements.type ≡ Some inner → decoded mask (zero_filled bool) shape front ≡ Some masks
    → option_map (spread masks) (found_read (λ count. decoded values (zero_filled inner) (count ∷ [])) masks back) ≡ decoded (optional mask values) elements shape value
mask_found mask values elements inner shape value front back masks cut is h =
    let of = λ (t : DataType) (masks : List Cell). option_map (spread masks) (found_read (λ count. decoded values (zero_filled t) (count ∷ [])) masks back) in
    sym (options_found mask values elements shape value front back cut
    ∙ (ap (option_and_then (of (unwrap_or (inner_type elements.type) elements.type))) h ∙ ap (λ o. of (unwrap_or o elements.type) masks) is))

-- what is found of each section is what is decoded
pub options_decode : (mask values : Chain) (elements : Elements) (inner : DataType) (shape value front back : List ℕ) (masks : List Cell) (r : Result ArrayBytes CodecError)
    → fits (optional mask values) elements.type shape ≡ true → masked_of value ≡ Some (front, back) → inner_type elements.type ≡ Some inner → decoded mask (zero_filled bool) shape front ≡ Some masks
    → FindsInner (option_map (spread masks) (found_read (λ count. decoded values (zero_filled inner) (count ∷ [])) masks back)) (optional_of inner) r → Decodes (coded (optional mask values) elements shape) value r
options_decode mask values elements inner shape value front back masks r fit cut is h below =
    let chain = optional mask values in
    found_decodes chain elements shape value r fit
    (subst (λ t. FindsInner (decoded chain elements shape value) t r) (sym (optional_is elements.type inner is))
    (subst (λ (found : Option (List Cell)). FindsInner found (optional_of inner) r) (mask_found mask values elements inner shape value front back masks cut is h) below))

-- also where it is put to where marks are 1
pub options_marked : (mask values : Chain) (type inner : DataType) (count : ℕ) (value front back marks : List ℕ) (masks : List Cell) (r : Result ArrayBytes CodecError)
    → masked_of value ≡ Some (front, back) → inner_type type ≡ Some inner → decoded mask (zero_filled bool) (count ∷ []) front ≡ Some masks
    → FindsMarked (option_map (spread masks) (found_read (λ count. decoded values (zero_filled inner) (count ∷ [])) masks back)) (optional_of inner) marks r
    → FindsMarked (decoded (optional mask values) (zero_filled type) (count ∷ []) value) type marks r
options_marked mask values type inner count value front back marks masks r cut is h below =
    subst (λ t. FindsMarked (decoded (optional mask values) (zero_filled type) (count ∷ []) value) t marks r) (sym (optional_is type inner is))
    (subst (λ (found : Option (List Cell)). FindsMarked found (optional_of inner) marks r) (mask_found mask values (zero_filled type) inner (count ∷ []) value front back masks cut is h) below)
