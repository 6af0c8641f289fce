-- What is stored by a chain with an array codec before it, after elements were put in the place of others.
use Rattle.std.proofs.Common.{◌≡◌, ◌∙◌, ℕ, zero, suc, ◌<◌, List, [], ◌∷◌, map, length, get_or, set, replicate, refl, sym, ap, subst, arith, Option, Some, None, Bool, true, false, ◌&&◌, inl, inr, ◌⊎◌, option_map, Result, Ok, Err}
use Rattle.std.specs.Prelude.{◌==◌, nat_lt, if◌then◌else◌, MatchBool, OnOk}
use Rattle.std.specs.List.{list_all, range_with_len}
use Rattle.std.proofs.lemmas.Bool.{and_from, and_parts, eq-eqb, ltb-true, lt-ltb}
use Rattle.std.proofs.lemmas.List.{get_or-map, get_or-set_other, get_or-set_same, length-map, length-replicate, length-set}
use Rattle.std.proofs.lemmas.List.FromFn.{fill_by_all, get_or-map-range_with_len, length-range_with_len}
use Rattle.std.proofs.lemmas.Map.Views.{exact_unsigned_eq}
use Rattle.std.proofs.lemmas.Slice.Eq.{bytes_eq-Decides}
use Rattle.zarr_grids_boxes.specs.Boxes.{product}
use Rattle.zarr_codecs_meaning.specs.Chains.{ArrayCodec, Chain}
use Rattle.zarr_codecs_meaning.specs.Chains.ArrayCodec.{transpose, reshape, squeeze}
use Rattle.zarr_codecs_meaning.specs.Chains.Chain.{after_array_codec}
use Rattle.zarr_codecs_meaning.specs.Chunks.{chunk_decoded, chunk_part}
use Rattle.zarr_codecs_meaning.specs.Decoding.{decoded}
use Rattle.zarr_codecs_meaning.specs.Encoding.{encoded}
use Rattle.zarr_codecs_meaning.specs.Fits.{array_codec_fits, is_plain}
use Rattle.zarr_codecs_meaning.specs.Partial.{encodes_in_part}
use Rattle.zarr_codecs_meaning.specs.Payloads.{Payload}
use Rattle.zarr_codecs_meaning.specs.Places.{encoded_shape, gather, position_of, source_places, undone_places}
use Rattle.zarr_codecs_meaning.specs.Refusals.{PassesIndex}
use Rattle.zarr_codecs_meaning.specs.Standing.{ChunkStands}
use Rattle.zarr_codecs_meaning.specs.Types.{Cell, of_bytes, absent, present, DataType, Elements, is_fill, same_cell}
use Rattle.zarr_codecs_meaning.proofs.ArrayCodecs.{array_codec_count, values_gathered}
use Rattle.zarr_codecs_meaning.proofs.Counts.{decoded_count}
use Rattle.zarr_codecs_meaning.proofs.Covers.{array_codec_covers}
use Rattle.zarr_codecs_meaning.proofs.Lists.{map_some, some_same}
use Rattle.zarr_codecs_meaning.proofs.Once.{IsOnce, array_codec_once, gathered_again}
use Rattle.zarr_codecs_meaning.proofs.Positions.{among_at, gathered_back, position_found, position_read}
use Rattle.zarr_codecs_meaning.proofs.Shards.{fill_is_replicate}
use Rattle.zarr_codecs_meaning.proofs.Sizes.{cells_moved}
use Rattle.zarr_codecs_arrays.specs.Outcomes.{IsInvalid, IsValid}
use Rattle.zarr_codecs_arrays.specs.declared.error.CodecError.{CodecError}
use Rattle.zarr_codecs_arrays.specs.declared.error.CodecError.TheVariants as error
use Rattle.zarr_codecs_array_to_array.specs.Moving.{are_places, moved_numbers}
use Rattle.zarr_codecs_traits.specs.Indexers.{Asked, are_inside, listed, numbers_asked, put}
use Rattle.zarr_codecs_traits.specs.Arrays.{Coded, Update, coded, update_of}
use Rattle.zarr_codecs_traits.specs.PartWriting.{AfterPut, ChunkTight, IsEncodedInto, LacksRoom, NotEncodedInto, PartsRefused, PassesLength, StopsWrite, WholeRefused, WriteRefuses, after_write, cells_after, cells_shown, only_cell}
use Rattle.zarr_codecs_traits.specs.ShardWrites.{Appends, AppendsParts, IsStoredGapless, LeavesParts, most_for_parts, most_to_write}
use Rattle.zarr_codecs_traits.specs.Sources.{value_length}
use Rattle.zarr_codecs_traits.proofs.Damage.{damaged_before, placed_before}
use Rattle.zarr_codecs_traits.proofs.WrittenWhole.{either_by, gives_by}
use Rattle.zarr_codecs_around.specs.Parts.{SourceWrite, WritesPart}
use Rattle.zarr_codecs_around.specs.Views.{plain_before, with_array_codecs}
use Rattle.zarr_codecs_around.proofs.ArrayCodecs.{fit_after, larger_before, same_part, unfit_after}
use Rattle.zarr_codecs_around.proofs.PartChains.{asked_places}

-- ---- elements that are put, and gathered

-- the elements at these places, in this order
abbrev taken : {X : Type 0} → X → List X → List ℕ → List X
taken other xs places = map (λ k. get_or xs k other) places

equal_or_not : (i j : ℕ) → (i ≡ j) ⊎ (i ≡ j → ⊥)
equal_or_not i j = by_test (i == j) refl where
  by_test : (b : Bool) → (i == j) ≡ b → (i ≡ j) ⊎ (i ≡ j → ⊥)
  by_test true e = inl (exact_unsigned_eq i j e)
  by_test false e = inr (λ same. (let yes : true ≡ false = sym (eq-eqb i j same) ∙ e in cc))

-- lists of as many elements, each the same
pub same_lists : {X : Type 0} (other : X) (xs ys : List X) (count : ℕ) → length xs ≡ count → length ys ≡ count → ((i : ℕ) → i < count → get_or xs i other ≡ get_or ys i other) → xs ≡ ys
same_lists other xs ys count first second law =
    fill_by_all (λ i. get_or ys i other) xs count other first law ∙ sym (fill_by_all (λ i. get_or ys i other) ys count other second (λ i below. refl))

-- one element more is put
set_taken : {X : Type 0} (other x : X) (xs : List X) (places : List ℕ) (n : ℕ) → IsOnce (length xs) places → n < length xs → taken other (set xs n x) places ≡ set (taken other xs places) (position_of n places) x
set_taken other x xs places n once below =
    same_lists other (taken other (set xs n x) places) (set (taken other xs places) (position_of n places) x) (length places) (length-map places (λ k. get_or (set xs n x) k other))
    (length-set (taken other xs places) (position_of n places) x ∙ length-map places (λ k. get_or xs k other)) (λ i low.
    let k = get_or places i 0 in
    let first : get_or (taken other (set xs n x) places) i other ≡ get_or (set xs n x) k other = get_or-map (λ k. get_or (set xs n x) k other) places i 0 other low in
    let read : get_or (taken other xs places) i other ≡ get_or xs k other = get_or-map (λ k. get_or xs k other) places i 0 other low in
    elim (equal_or_not i (position_of n places)) as (λ _. get_or (taken other (set xs n x) places) i other ≡ get_or (set (taken other xs places) (position_of n places) x) i other) [
      | inl here ↦
          let found : position_of n places < length places = omega (arith, low, here) in
          let same : k ≡ n = ap (λ j. get_or places j 0) here ∙ position_read n 0 places found in
          first ∙ (ap (λ j. get_or (set xs n x) j other) same ∙ (get_or-set_same xs n x other below
          ∙ sym (ap (λ j. get_or (set (taken other xs places) (position_of n places) x) j other) here
          ∙ get_or-set_same (taken other xs places) (position_of n places) x other (omega (arith, found, length-map places (λ k. get_or xs k other))))))
      | inr apart ↦
          first
          ∙ (get_or-set_other xs n k x other (λ same. apart (sym (once.position i low) ∙ ap (λ j. position_of j places) same))
          ∙ sym (get_or-set_other (taken other xs places) (position_of n places) i x other apart ∙ read))
    ])

-- elements that are put are gathered where their places are
pub put_taken : {X : Type 0} (other : X) (count : ℕ) (places numbers : List ℕ) (given xs : List X) → length xs ≡ count → IsOnce count places → list_all (λ n. nat_lt n count) numbers ≡ true
    → taken other (put numbers given xs) places ≡ put (map (λ n. position_of n places) numbers) given (taken other xs places)
put_taken other count places [] given xs long once inside = refl
put_taken other count places (n ∷ ns) [] xs long once inside = refl
put_taken other count places (n ∷ ns) (x ∷ given) xs long once inside =
    let both = and_parts (nat_lt n count) (list_all (λ n. nat_lt n count) ns) inside in
    let below : n < length xs = omega (arith, ltb-true n count both.0, long) in
    put_taken other count places ns given (set xs n x) (length-set xs n x ∙ long) once both.1
    ∙ ap (put (map (λ n. position_of n places) ns) given) (set_taken other x xs places n (subst (λ k. IsOnce k places) (sym long) once) below)

length-put : {X : Type 0} (numbers : List ℕ) (given xs : List X) → length (put numbers given xs) ≡ length xs
length-put [] given xs = refl
length-put (n ∷ ns) [] xs = refl
length-put (n ∷ ns) (x ∷ given) xs = length-put ns given (set xs n x) ∙ length-set xs n x

-- ---- the places of an array codec

-- moved numbers are those of places
pub are_moved : (codec : ArrayCodec) (shape numbers : List ℕ) → array_codec_fits codec shape ≡ true → are_places shape numbers ≡ true → are_places (encoded_shape codec shape) (moved_numbers codec shape numbers) ≡ true
are_moved codec shape [] fit inside = refl
are_moved codec shape (n ∷ ns) fit inside =
    let places = source_places codec shape in
    let both = and_parts (nat_lt n (product shape)) (list_all (λ n. nat_lt n (product shape)) ns) inside in
    let found = position_found n places (array_codec_covers codec shape fit n (ltb-true n (product shape) both.0)) in
    and_from (nat_lt (position_of n places) (product (encoded_shape codec shape))) (are_places (encoded_shape codec shape) (moved_numbers codec shape ns))
    (lt-ltb (position_of n places) (product (encoded_shape codec shape)) (omega (arith, found, array_codec_count codec shape fit))) (are_moved codec shape ns fit both.1)

-- the places after the codec of the places before it stand once
pub undone_once : (codec : ArrayCodec) (shape : List ℕ) → array_codec_fits codec shape ≡ true → IsOnce (product (encoded_shape codec shape)) (undone_places codec shape)
undone_once codec shape fit =
    let places = source_places codec shape in
    let count = product shape in
    let undone = undone_places codec shape in
    let long : length undone ≡ count = length-map (range_with_len 0 count) (λ n. position_of n places) ∙ length-range_with_len 0 count in
    let at : (i : ℕ) → i < length undone → get_or undone i 0 ≡ position_of i places = λ i low. get_or-map-range_with_len (λ n. position_of n places) 0 count i i 0 (omega (arith, low, long)) (omega arith) in
    let found : (i : ℕ) → i < length undone → position_of i places < length places = λ i low. position_found i places (array_codec_covers codec shape fit i (omega (arith, low, long))) in
    let told : (i : ℕ) → i < length undone → get_or places (get_or undone i 0) 0 ≡ i = λ i low. ap (λ k. get_or places k 0) (at i low) ∙ position_read i 0 places (found i low) in
    record {
      below = λ i low. omega (arith, at i low, found i low, array_codec_count codec shape fit);
      position = λ i low.
          let n = get_or undone i 0 in
          let among = position_found n undone (among_at undone i n low refl) in
          sym (told (position_of n undone) among) ∙ (ap (λ k. get_or places k 0) (position_read n 0 undone among) ∙ told i low);
    }

-- numbers that were moved are moved back
moved_back : (codec : ArrayCodec) (shape numbers : List ℕ) → array_codec_fits codec shape ≡ true → are_places shape numbers ≡ true → map (λ n. position_of n (undone_places codec shape)) (moved_numbers codec shape numbers) ≡ numbers
moved_back codec shape [] fit inside = refl
moved_back codec shape (n ∷ ns) fit inside =
    let places = source_places codec shape in
    let count = product shape in
    let undone = undone_places codec shape in
    let both = and_parts (nat_lt n count) (list_all (λ n. nat_lt n count) ns) inside in
    let below = ltb-true n count both.0 in
    let long : length undone ≡ count = length-map (range_with_len 0 count) (λ n. position_of n places) ∙ length-range_with_len 0 count in
    let at : get_or undone n 0 ≡ position_of n places = get_or-map-range_with_len (λ n. position_of n places) 0 count n n 0 below (omega arith) in
    let one : position_of (position_of n places) undone ≡ n = ap (λ k. position_of k undone) (sym at) ∙ (undone_once codec shape fit).position n (omega (arith, below, long)) in
    ap (λ k. k ∷ map (λ n. position_of n undone) (moved_numbers codec shape ns)) one ∙ ap (λ ks. n ∷ ks) (moved_back codec shape ns fit both.1)

-- new elements put into an array's are put where their places are after the codec
put_moved : (codec : ArrayCodec) (fill : Cell) (shape numbers : List ℕ) (cells before : List Cell) → array_codec_fits codec shape ≡ true → are_places shape numbers ≡ true → length before ≡ product shape
    → gather fill (put numbers cells before) (source_places codec shape) ≡ put (moved_numbers codec shape numbers) cells (gather fill before (source_places codec shape))
put_moved codec fill shape numbers cells before fit inside whole = put_taken fill (product shape) (source_places codec shape) numbers cells before whole (array_codec_once codec shape fit) inside

-- ---- what is shown

-- each place shows what stands at its place after the codec
shown_after : (codec : ArrayCodec) (chain : Chain) (elements : Elements) (shape : List ℕ) (stored : Option (List ℕ)) → array_codec_fits codec shape ≡ true
    → cells_shown (after_array_codec codec chain) elements shape stored ≡ taken None (cells_shown chain elements (encoded_shape codec shape) stored) (undone_places codec shape)
shown_after codec chain elements shape stored fit =
    let places = source_places codec shape in
    let encoded = encoded_shape codec shape in
    let count = product shape in
    let read = λ (k : ℕ). chunk_part chain elements encoded stored (k ∷ []) in
    let inner = cells_shown chain elements encoded stored in
    let undone = undone_places codec shape in
    let left : length (cells_shown (after_array_codec codec chain) elements shape stored) ≡ count = length-map (range_with_len 0 count) (λ n. chunk_part (after_array_codec codec chain) elements shape stored (n ∷ [])) ∙ length-range_with_len 0 count in
    let long : length undone ≡ count = length-map (range_with_len 0 count) (λ n. position_of n places) ∙ length-range_with_len 0 count in
    same_lists None (cells_shown (after_array_codec codec chain) elements shape stored) (taken None inner undone) count left (length-map undone (λ k. get_or inner k None) ∙ long) (λ i low.
    let found : position_of i places < product encoded = omega (arith, position_found i places (array_codec_covers codec shape fit i low), array_codec_count codec shape fit) in
    get_or-map-range_with_len (λ n. chunk_part (after_array_codec codec chain) elements shape stored (n ∷ [])) 0 count i i None low (omega arith)
    ∙ (same_part codec chain elements shape stored (i ∷ [])
    ∙ sym (get_or-map (λ k. get_or inner k None) undone i 0 None (omega (arith, low, long))
    ∙ (ap (λ k. get_or inner k None) (get_or-map-range_with_len (λ n. position_of n places) 0 count i i 0 low (omega arith))
    ∙ get_or-map-range_with_len read 0 (product encoded) (position_of i places) (position_of i places) None found (omega arith)))))

-- ---- what stands

same_as_itself : (fill : Cell) → same_cell fill fill ≡ true
same_as_itself (of_bytes bytes) = (bytes_eq-Decides bytes bytes).1 refl
same_as_itself absent = refl
same_as_itself (present cell) = same_as_itself cell

fill_moved : (fill : Cell) (cells : List Cell) (places : List ℕ) → is_fill fill cells ≡ true → is_fill fill (gather fill cells places) ≡ true
fill_moved fill cells places h = values_gathered (λ cell. same_cell cell fill) fill cells places (same_as_itself fill) h

-- cells that are not all fill after they were moved were not before
not_fill_before : (fill : Cell) (cells : List Cell) (places : List ℕ) → is_fill fill (gather fill cells places) ≡ false → is_fill fill cells ≡ false
not_fill_before fill cells places some = by_test (is_fill fill cells) refl where
  by_test : (b : Bool) → is_fill fill cells ≡ b → b ≡ false
  by_test true all = sym (fill_moved fill cells places all) ∙ some
  by_test false all = refl

fill_back : (codec : ArrayCodec) (fill : Cell) (shape : List ℕ) (cells : List Cell) → array_codec_fits codec shape ≡ true → length cells ≡ product shape → is_fill fill (gather fill cells (source_places codec shape)) ≡ true → is_fill fill cells ≡ true
fill_back codec fill shape cells fit whole h =
    ap (is_fill fill) (sym (gathered_back fill cells (source_places codec shape) (product shape) whole (array_codec_covers codec shape fit)))
    ∙ fill_moved fill (gather fill cells (source_places codec shape)) (undone_places codec shape) h

stands_inside : (codec : ArrayCodec) (chain : Chain) (elements : Elements) (shape : List ℕ) (stored : Option (List ℕ)) (cells : List Cell)
    → ChunkStands (after_array_codec codec chain) elements shape stored cells → ChunkStands chain elements (encoded_shape codec shape) stored (gather elements.fill cells (source_places codec shape))
stands_inside codec chain elements shape None cells h = fill_moved elements.fill cells (source_places codec shape) h
stands_inside codec chain elements shape (Some value) cells h = h

stands_outside : (codec : ArrayCodec) (chain : Chain) (elements : Elements) (shape : List ℕ) (stored : Option (List ℕ)) (cells : List Cell) → array_codec_fits codec shape ≡ true → length cells ≡ product shape
    → ChunkStands chain elements (encoded_shape codec shape) stored (gather elements.fill cells (source_places codec shape)) → ChunkStands (after_array_codec codec chain) elements shape stored cells
stands_outside codec chain elements shape None cells fit whole h = fill_back codec elements.fill shape cells fit whole h
stands_outside codec chain elements shape (Some value) cells fit whole h = h

tight_inside : (codec : ArrayCodec) (chain : Chain) (elements : Elements) (shape : List ℕ) (stored : Option (List ℕ)) (cells : List Cell)
    → ChunkTight (after_array_codec codec chain) elements shape stored cells → ChunkTight chain elements (encoded_shape codec shape) stored (gather elements.fill cells (source_places codec shape))
tight_inside codec chain elements shape None cells h = fill_moved elements.fill cells (source_places codec shape) h
tight_inside codec chain elements shape (Some value) cells h = h

tight_outside : (codec : ArrayCodec) (chain : Chain) (elements : Elements) (shape : List ℕ) (stored : Option (List ℕ)) (cells : List Cell) → array_codec_fits codec shape ≡ true → length cells ≡ product shape
    → ChunkTight chain elements (encoded_shape codec shape) stored (gather elements.fill cells (source_places codec shape)) → ChunkTight (after_array_codec codec chain) elements shape stored cells
tight_outside codec chain elements shape None cells fit whole h = fill_back codec elements.fill shape cells fit whole h
tight_outside codec chain elements shape (Some value) cells fit whole h = h

-- the elements before, as they are after the codec
replicated : (n : ℕ) (fill : Cell) → is_fill fill (replicate n fill) ≡ true
replicated zero fill = refl
replicated (suc n) fill = ap (λ (b : Bool). b && is_fill fill (replicate n fill)) (same_as_itself fill) ∙ replicated n fill

decoded_inside : (codec : ArrayCodec) (chain : Chain) (elements : Elements) (shape : List ℕ) (stored : Option (List ℕ)) (before : List Cell) → array_codec_fits codec shape ≡ true
    → chunk_decoded (after_array_codec codec chain) elements shape stored ≡ Some before → chunk_decoded chain elements (encoded_shape codec shape) stored ≡ Some (gather elements.fill before (source_places codec shape))
decoded_inside codec chain elements shape None before fit is =
    let places = source_places codec shape in
    let fill = elements.fill in
    let moved = gather fill before places in
    let filled : is_fill fill moved ≡ true = fill_moved fill before places (ap (is_fill fill) (sym (some_same is)) ∙ replicated (product shape) fill) in
    let many : length moved ≡ product (encoded_shape codec shape) = length-map places (λ n. get_or before n fill) ∙ array_codec_count codec shape fit in
    ap Some (sym (fill_is_replicate fill moved filled ∙ ap (λ n. replicate n fill) many))
decoded_inside codec chain elements shape (Some value) before fit is =
    let places = source_places codec shape in
    let fill = elements.fill in
    let found = map_some (λ cells. gather fill cells (undone_places codec shape)) (decoded chain elements (encoded_shape codec shape) value) before is in
    let many : length found.0 ≡ length places = decoded_count chain elements (encoded_shape codec shape) value found.0 found.1 ∙ sym (array_codec_count codec shape fit) in
    found.1 ∙ ap Some (sym (ap (λ cells. gather fill cells places) (sym found.2) ∙ gathered_again fill found.0 places (product shape) many (array_codec_once codec shape fit)))

stored_count : (codec : ArrayCodec) (chain : Chain) (elements : Elements) (shape : List ℕ) (stored : Option (List ℕ)) (before : List Cell) → chunk_decoded (after_array_codec codec chain) elements shape stored ≡ Some before → length before ≡ product shape
stored_count codec chain elements shape None before is = ap length (sym (some_same is)) ∙ length-replicate {A = Cell} (product shape) elements.fill
stored_count codec chain elements shape (Some value) before is = decoded_count (after_array_codec codec chain) elements shape value before is

valid_again : (type : DataType) (payload : Payload) (count other : ℕ) (cells : List Cell) → count ≡ other → IsValid type payload count cells → IsValid type payload other cells
valid_again type payload count other cells same valid = subst (λ n. IsValid type payload n cells) same valid

moved_count : (codec : ArrayCodec) (shape numbers : List ℕ) → length (moved_numbers codec shape numbers) ≡ length numbers
moved_count codec shape numbers = length-map numbers (λ n. position_of n (source_places codec shape))

pub written_after : (codec : ArrayCodec) (chain : Chain) (exact : Bool) (elements : Elements) (shape numbers : List ℕ) (payload : Payload) (cells : List Cell) (old new : Option (List ℕ)) → array_codec_fits codec shape ≡ true → are_places shape numbers ≡ true
    → IsEncodedInto (coded chain elements (encoded_shape codec shape)) exact (update_of (listed (moved_numbers codec shape numbers)) payload old) cells new → IsEncodedInto (coded (after_array_codec codec chain) elements shape) exact (update_of (listed numbers) payload old) cells new
written_after codec chain exact elements shape numbers payload cells old new fit inside h =
    let places = source_places codec shape in
    let undone = undone_places codec shape in
    let moved = moved_numbers codec shape numbers in
    let fill = elements.fill in
    let one = λ (c : Cell). Some (c ∷ []) in
    let long : (before : List Cell) → length before ≡ product shape → length (put numbers cells before) ≡ product shape = λ before whole. length-put numbers cells before ∙ whole in
    record {
      valid = valid_again elements.type payload (length moved) (length numbers) cells (moved_count codec shape numbers) h.valid;
      fit = fit_after codec chain elements.type shape fit h.fit;
      inside = inside;
      opened = h.opened;
      none_lost = h.none_lost;
      stands = λ lossless before are is.
          let inner = h.stands lossless (gather fill before places) (cells_moved codec elements shape before fit are) (stands_inside codec chain elements shape old before is) in
          stands_outside codec chain elements shape new (put numbers cells before) fit (long before are.whole)
          (subst (ChunkStands chain elements (encoded_shape codec shape) new) (sym (put_moved codec fill shape numbers cells before fit inside are.whole)) inner);
      tight = λ e lossless before are is.
          let inner = h.tight e lossless (gather fill before places) (cells_moved codec elements shape before fit are) (tight_inside codec chain elements shape old before is) in
          tight_outside codec chain elements shape new (put numbers cells before) fit (long before are.whole)
          (subst (ChunkTight chain elements (encoded_shape codec shape) new) (sym (put_moved codec fill shape numbers cells before fit inside are.whole)) inner);
      absent = λ shards lossless before are is filled.
          h.absent shards lossless (gather fill before places) (cells_moved codec elements shape before fit are) (stands_inside codec chain elements shape old before is)
          (ap (is_fill fill) (sym (put_moved codec fill shape numbers cells before fit inside are.whole)) ∙ fill_moved fill (put numbers cells before) places filled);
      encodes = λ plain before are is.
          let found = h.encodes plain (gather fill before places) (cells_moved codec elements shape before fit are) (decoded_inside codec chain elements shape old before fit is) in
          (found.0, found.1, ap (encoded chain elements (encoded_shape codec shape)) (put_moved codec fill shape numbers cells before fit inside are.whole) ∙ found.2);
      shows = λ lossless.
          let inner = cells_shown chain elements (encoded_shape codec shape) old in
          let count : length inner ≡ product (encoded_shape codec shape) = length-map (range_with_len 0 (product (encoded_shape codec shape))) (λ n. chunk_part chain elements (encoded_shape codec shape) old (n ∷ [])) ∙ length-range_with_len 0 (product (encoded_shape codec shape)) in
          shown_after codec chain elements shape new fit
          ∙ (ap (λ xs. taken None xs undone) (h.shows lossless)
          ∙ (put_taken None (product (encoded_shape codec shape)) undone moved (map one cells) inner count (undone_once codec shape fit) (are_moved codec shape numbers fit inside)
          ∙ (ap (λ ns. put ns (map one cells) (taken None inner undone)) (moved_back codec shape numbers fit inside)
          ∙ ap (put numbers (map one cells)) (sym (shown_after codec chain elements shape old fit)))));
    }

-- ---- what is refused

pub mapped_at : {X Y : Type 0} (f : X → Y) (xs : List X) (n : ℕ) (other : X) → get_or (map f xs) n (f other) ≡ f (get_or xs n other)
mapped_at f [] n other = refl
mapped_at f (x ∷ xs) zero other = refl
mapped_at f (x ∷ xs) (suc n) other = mapped_at f xs n other

only_taken : (fill : Cell) (shown : List (Option (List Cell))) (places : List ℕ) → map (only_cell fill) (taken None shown places) ≡ gather fill (map (only_cell fill) shown) places
only_taken fill shown [] = refl
only_taken fill shown (k ∷ ks) =
    ap (λ c. c ∷ map (only_cell fill) (taken None shown ks)) (sym (mapped_at (only_cell fill) shown k None)) ∙ ap (λ cs. get_or (map (only_cell fill) shown) k fill ∷ cs) (only_taken fill shown ks)

-- the cells that the array would have, as they are after the codec
after_moved : (codec : ArrayCodec) (chain : Chain) (elements : Elements) (shape numbers : List ℕ) (stored : Option (List ℕ)) (cells : List Cell) → array_codec_fits codec shape ≡ true → are_places shape numbers ≡ true
    → gather elements.fill (cells_after (coded (after_array_codec codec chain) elements shape) stored numbers cells) (source_places codec shape) ≡ cells_after (coded chain elements (encoded_shape codec shape)) stored (moved_numbers codec shape numbers) cells
after_moved codec chain elements shape numbers stored cells fit inside =
    let places = source_places codec shape in
    let undone = undone_places codec shape in
    let fill = elements.fill in
    let only = only_cell fill in
    let outer = cells_shown (after_array_codec codec chain) elements shape stored in
    let inner = cells_shown chain elements (encoded_shape codec shape) stored in
    let count : length (map only outer) ≡ product shape = length-map outer only ∙ (length-map (range_with_len 0 (product shape)) (λ n. chunk_part (after_array_codec codec chain) elements shape stored (n ∷ [])) ∙ length-range_with_len 0 (product shape)) in
    let many : length (map only inner) ≡ length places =
    length-map inner only ∙ (length-map (range_with_len 0 (product (encoded_shape codec shape))) (λ n. chunk_part chain elements (encoded_shape codec shape) stored (n ∷ []))
    ∙ (length-range_with_len 0 (product (encoded_shape codec shape)) ∙ sym (array_codec_count codec shape fit))) in
    let same : map only outer ≡ gather fill (map only inner) undone =
    ap (map only) (shown_after codec chain elements shape stored fit) ∙ only_taken fill inner undone in
    put_moved codec fill shape numbers cells (map only outer) fit inside count
    ∙ ap (put (moved_numbers codec shape numbers) cells) (ap (λ xs. gather fill xs places) same ∙ gathered_again fill (map only inner) places (product shape) many (array_codec_once codec shape fit))

refused_into : (codec : ArrayCodec) (chain : Chain) (elements : Elements) (shape numbers : List ℕ) (payload : Payload) (stored : Option (List ℕ)) (inner outer : List Cell → Type 0) → array_codec_fits codec shape ≡ true → are_places shape numbers ≡ true
    → ((after : List Cell) → inner (gather elements.fill after (source_places codec shape)) → outer after) → AfterPut (coded chain elements (encoded_shape codec shape)) (update_of (listed (moved_numbers codec shape numbers)) payload stored) inner
    → AfterPut (coded (after_array_codec codec chain) elements shape) (update_of (listed numbers) payload stored) outer
refused_into codec chain elements shape numbers payload stored inner outer fit inside law h = record {
  cells = h.cells;
  valid = valid_again elements.type payload (length (moved_numbers codec shape numbers)) (length numbers) h.cells (moved_count codec shape numbers) h.valid;
  fit = fit_after codec chain elements.type shape fit h.fit;
  inside = inside;
  is = law (cells_after (coded (after_array_codec codec chain) elements shape) stored numbers h.cells) (subst inner (sym (after_moved codec chain elements shape numbers stored h.cells fit inside)) h.is);
}

room_after : (codec : ArrayCodec) (chain : Chain) (elements : Elements) (shape numbers : List ℕ) (payload : Payload) (stored : Option (List ℕ)) → array_codec_fits codec shape ≡ true → are_places shape numbers ≡ true
    → LacksRoom (coded chain elements (encoded_shape codec shape)) (update_of (listed (moved_numbers codec shape numbers)) payload stored) → LacksRoom (coded (after_array_codec codec chain) elements shape) (update_of (listed numbers) payload stored)
room_after codec chain elements shape numbers payload stored fit inside room =
    refused_into codec chain elements shape numbers payload stored (λ after. PassesLength chain elements (encoded_shape codec shape) (after_write (moved_numbers codec shape numbers) stored after))
    (λ after. PassesLength (after_array_codec codec chain) elements shape (after_write numbers stored after)) fit inside (λ after why. why) room

whole_after : (codec : ArrayCodec) (chain : Chain) (elements : Elements) (shape : List ℕ) (after : List Cell) → WholeRefused chain elements (encoded_shape codec shape) (gather elements.fill after (source_places codec shape)) → WholeRefused (after_array_codec codec chain) elements shape after
whole_after codec chain elements shape after h = (λ shards. not_fill_before elements.fill after (source_places codec shape) (h.0 shards), h.1)

-- what a write asks to be encoded is asked where the codec moved it
refuses_after : (codec : ArrayCodec) (chain : Chain) (elements : Elements) (shape numbers : List ℕ) (payload : Payload) (stored : Option (List ℕ)) (after : List Cell) → array_codec_fits codec shape ≡ true → are_places shape numbers ≡ true
    → encodes_in_part (after_array_codec codec chain) ≡ encodes_in_part chain
    → WriteRefuses (coded chain elements (encoded_shape codec shape)) (update_of (listed (moved_numbers codec shape numbers)) payload stored) (gather elements.fill after (source_places codec shape))
    → WriteRefuses (coded (after_array_codec codec chain) elements shape) (update_of (listed numbers) payload stored) after
refuses_after codec chain elements shape numbers payload stored after fit inside partly h =
    let parts = PartsRefused (after_array_codec codec chain) elements shape (after_write numbers stored after) in
    let moved = WholeRefused chain elements (encoded_shape codec shape) (gather elements.fill after (source_places codec shape)) in
    let whole = WholeRefused (after_array_codec codec chain) elements shape after in
    let inner = LacksRoom (coded chain elements (encoded_shape codec shape)) (update_of (listed (moved_numbers codec shape numbers)) payload stored) in
    let outer = LacksRoom (coded (after_array_codec codec chain) elements shape) (update_of (listed numbers) payload stored) in
    subst (λ (b : Bool). MatchBool b (parts ⊎ (outer × whole)) whole) (sym partly)
    (either_by (encodes_in_part chain) parts parts inner outer moved whole (λ is. is) (room_after codec chain elements shape numbers payload stored fit inside) (whole_after codec chain elements shape after) h)

-- what is stored is not decoded, where what the codec moved isn't
undecoded_after : (codec : ArrayCodec) (chain : Chain) (elements : Elements) (shape : List ℕ) (stored : Option (List ℕ)) → chunk_decoded chain elements (encoded_shape codec shape) stored ≡ None → chunk_decoded (after_array_codec codec chain) elements shape stored ≡ None
undecoded_after codec chain elements shape None none = absurd (cc)
undecoded_after codec chain elements shape (Some value) none = ap (option_map (λ cells. gather elements.fill cells (undone_places codec shape))) none

stopped_after : (codec : ArrayCodec) (chain : Chain) (elements : Elements) (shape numbers : List ℕ) (payload : Payload) (stored : Option (List ℕ)) → array_codec_fits codec shape ≡ true → are_places shape numbers ≡ true
    → encodes_in_part (after_array_codec codec chain) ≡ encodes_in_part chain → StopsWrite (coded chain elements (encoded_shape codec shape)) (update_of (listed (moved_numbers codec shape numbers)) payload stored) → StopsWrite (coded (after_array_codec codec chain) elements shape) (update_of (listed numbers) payload stored)
stopped_after codec chain elements shape numbers payload stored fit inside partly (inl damage) = inl (damaged_before codec chain elements shape stored numbers partly damage)
stopped_after codec chain elements shape numbers payload stored fit inside partly (inr full) = inr (
  undecoded_after codec chain elements shape stored full.0,
  room_after codec chain elements shape numbers payload stored fit inside full.1,
)

pub unwritten_after : {A : Type 0} (codec : ArrayCodec) (chain : Chain) (elements : Elements) (shape numbers : List ℕ) (payload : Payload) (stored : Option (List ℕ)) (r : Result A CodecError) → array_codec_fits codec shape ≡ true → are_places shape numbers ≡ true
    → encodes_in_part (after_array_codec codec chain) ≡ encodes_in_part chain → NotEncodedInto (coded chain elements (encoded_shape codec shape)) (update_of (listed (moved_numbers codec shape numbers)) payload stored) r → NotEncodedInto (coded (after_array_codec codec chain) elements shape) (update_of (listed numbers) payload stored) r
unwritten_after codec chain elements shape numbers payload stored (Ok value) fit inside partly h = tt
unwritten_after codec chain elements shape numbers payload stored (Err error.Fit) fit inside partly h = unfit_after codec chain elements.type shape h
unwritten_after codec chain elements shape numbers payload stored (Err error.IncompatibleIndexer) fit inside partly h = absurd (let e = sym (are_moved codec shape numbers fit inside) ∙ h in cc)
unwritten_after codec chain elements shape numbers payload stored (Err error.Size) fit inside partly (inl large) = inl (larger_before codec elements.type shape fit large)
unwritten_after codec chain elements shape numbers payload stored (Err error.Size) fit inside partly (inr h) =
    inr (refused_into codec chain elements shape numbers payload stored _ (λ after. PassesIndex (after_array_codec codec chain) elements shape after ⊎ PassesLength (after_array_codec codec chain) elements shape (after_write numbers stored after)) fit inside (λ after why. why) h)
unwritten_after codec chain elements shape numbers payload stored (Err error.Codec) fit inside partly h =
    refused_into codec chain elements shape numbers payload stored (WriteRefuses (coded chain elements (encoded_shape codec shape)) (update_of (listed (moved_numbers codec shape numbers)) payload stored))
    (WriteRefuses (coded (after_array_codec codec chain) elements shape) (update_of (listed numbers) payload stored)) fit inside (λ after why. refuses_after codec chain elements shape numbers payload stored after fit inside partly why) h
unwritten_after codec chain elements shape numbers payload stored (Err error.Damage) fit inside partly h =
    (fit_after codec chain elements.type shape fit h.0, stopped_after codec chain elements shape numbers payload stored fit inside partly h.1)
unwritten_after codec chain elements shape numbers payload stored (Err error.Source) fit inside partly h = tt
unwritten_after codec chain elements shape numbers payload stored (Err error.Memory) fit inside partly h = tt
unwritten_after codec chain elements shape numbers payload stored (Err e) fit inside partly h =
    (fit_after codec chain elements.type shape fit h.0, subst (λ n. IsInvalid elements.type payload n e) (moved_count codec shape numbers) h.1)

-- ---- boxes by the numbers of their places

pub written_by_numbers : (chain : Chain) (exact : Bool) (elements : Elements) (shape : List ℕ) (asked : Asked) (payload : Payload) (cells : List Cell) (old new : Option (List ℕ)) → are_inside shape asked ≡ true
    → IsEncodedInto (coded chain elements shape) exact (update_of (listed (numbers_asked shape asked)) payload old) cells new → IsEncodedInto (coded chain elements shape) exact (update_of asked payload old) cells new
written_by_numbers chain exact elements shape asked payload cells old new inside h =
    record { valid = h.valid; fit = h.fit; inside = inside; opened = h.opened; none_lost = h.none_lost; stands = h.stands; tight = h.tight; absent = h.absent; encodes = h.encodes; shows = h.shows }

listed_refused : (chain : Chain) (elements : Elements) (shape : List ℕ) (asked : Asked) (payload : Payload) (stored : Option (List ℕ)) (refuses : List Cell → Type 0) → are_inside shape asked ≡ true
    → AfterPut (coded chain elements shape) (update_of (listed (numbers_asked shape asked)) payload stored) refuses → AfterPut (coded chain elements shape) (update_of asked payload stored) refuses
listed_refused chain elements shape asked payload stored refuses inside h = record { cells = h.cells; valid = h.valid; fit = h.fit; inside = inside; is = h.is }

stopped_by_numbers : (chain : Chain) (elements : Elements) (shape : List ℕ) (asked : Asked) (payload : Payload) (stored : Option (List ℕ)) → are_inside shape asked ≡ true → StopsWrite (coded chain elements shape) (update_of (listed (numbers_asked shape asked)) payload stored)
    → StopsWrite (coded chain elements shape) (update_of asked payload stored)
stopped_by_numbers chain elements shape asked payload stored inside (inl damage) = inl damage
stopped_by_numbers chain elements shape asked payload stored inside (inr full) = inr (full.0, listed_refused chain elements shape asked payload stored (λ after. PassesLength chain elements shape (after_write (numbers_asked shape asked) stored after)) inside full.1)

-- what a write at places asks to be encoded is what one at their numbers asks
refuses_by_numbers : (chain : Chain) (elements : Elements) (shape : List ℕ) (asked : Asked) (payload : Payload) (stored : Option (List ℕ)) (after : List Cell) → are_inside shape asked ≡ true
    → WriteRefuses (coded chain elements shape) (update_of (listed (numbers_asked shape asked)) payload stored) after → WriteRefuses (coded chain elements shape) (update_of asked payload stored) after
refuses_by_numbers chain elements shape asked payload stored after inside h =
    let parts = PartsRefused chain elements shape (after_write (numbers_asked shape asked) stored after) in
    let whole = WholeRefused chain elements shape after in
    either_by (encodes_in_part chain) parts parts (LacksRoom (coded chain elements shape) (update_of (listed (numbers_asked shape asked)) payload stored)) (LacksRoom (coded chain elements shape) (update_of asked payload stored)) whole whole (λ is. is)
    (listed_refused chain elements shape asked payload stored (λ after. PassesLength chain elements shape (after_write (numbers_asked shape asked) stored after)) inside) (λ is. is) h

-- a fact of the cells that an array has after a put follows from another one
pub put_so : (array : Coded) (update : Update) (first second : List Cell → Type 0) → ((after : List Cell) → first after → second after) → AfterPut array update first → AfterPut array update second
put_so array update first second law h =
    record { cells = h.cells; valid = h.valid; fit = h.fit; inside = h.inside; is = law (cells_after array update.stored (numbers_asked array.shape update.asked) h.cells) h.is }

pub unwritten_by_numbers : {A : Type 0} (chain : Chain) (elements : Elements) (shape : List ℕ) (asked : Asked) (payload : Payload) (stored : Option (List ℕ)) (r : Result A CodecError) → are_inside shape asked ≡ true
    → NotEncodedInto (coded chain elements shape) (update_of (listed (numbers_asked shape asked)) payload stored) r → NotEncodedInto (coded chain elements shape) (update_of asked payload stored) r
unwritten_by_numbers chain elements shape asked payload stored (Ok value) inside h = tt
unwritten_by_numbers chain elements shape asked payload stored (Err error.Fit) inside h = h
unwritten_by_numbers chain elements shape asked payload stored (Err error.IncompatibleIndexer) inside h = absurd (let e = sym (asked_places shape asked inside) ∙ h in cc)
unwritten_by_numbers chain elements shape asked payload stored (Err error.Size) inside (inl large) = inl large
unwritten_by_numbers chain elements shape asked payload stored (Err error.Size) inside (inr h) = inr (listed_refused chain elements shape asked payload stored _ inside h)
unwritten_by_numbers chain elements shape asked payload stored (Err error.Codec) inside h =
    let listed_update = update_of (listed (numbers_asked shape asked)) payload stored in
    listed_refused chain elements shape asked payload stored (WriteRefuses (coded chain elements shape) (update_of asked payload stored)) inside
    (put_so (coded chain elements shape) listed_update (WriteRefuses (coded chain elements shape) listed_update) (WriteRefuses (coded chain elements shape) (update_of asked payload stored))
    (λ after why. refuses_by_numbers chain elements shape asked payload stored after inside why) h)
unwritten_by_numbers chain elements shape asked payload stored (Err error.Damage) inside h = (h.0, stopped_by_numbers chain elements shape asked payload stored inside h.1)
unwritten_by_numbers chain elements shape asked payload stored (Err error.Source) inside h = tt
unwritten_by_numbers chain elements shape asked payload stored (Err error.Memory) inside h = tt
unwritten_by_numbers chain elements shape asked payload stored (Err e) inside h = h

-- ---- what calls answer

-- a fact of an answer follows from another one
pub on_written : {A : Type 0} (r : Result A CodecError) (inner outer : Type 0) → (inner → outer) → OnOk r inner → OnOk r outer
on_written (Ok value) inner outer law h = law h
on_written (Err e) inner outer law h = tt

pub any_answer : {A : Type 0} (r : Result A CodecError) (fact : Type 0) → fact → OnOk r fact
any_answer (Ok value) fact h = h
any_answer (Err e) fact h = tt

-- ---- what writes leave and take

stored_gapless_after : (codec : ArrayCodec) (chain : Chain) (shape : List ℕ) (stored : Option (List ℕ)) → IsStoredGapless chain (encoded_shape codec shape) stored → IsStoredGapless (after_array_codec codec chain) shape stored
stored_gapless_after codec chain shape None h = tt
stored_gapless_after codec chain shape (Some value) h = h

leaves_after : (codec : ArrayCodec) (chain : Chain) (elements : Elements) (shape numbers : List ℕ) (payload : Payload) (stored new : Option (List ℕ)) → array_codec_fits codec shape ≡ true → are_places shape numbers ≡ true
    → encodes_in_part (after_array_codec codec chain) ≡ encodes_in_part chain → LeavesParts (coded chain elements (encoded_shape codec shape)) (update_of (listed (moved_numbers codec shape numbers)) payload stored) new
    → LeavesParts (coded (after_array_codec codec chain) elements shape) (update_of (listed numbers) payload stored) new
leaves_after codec chain elements shape numbers payload stored new fit inside partly h =
    let inner = coded chain elements (encoded_shape codec shape) in
    let outer = coded (after_array_codec codec chain) elements shape in
    let moved = update_of (listed (moved_numbers codec shape numbers)) payload stored in
    let update = update_of (listed numbers) payload stored in
    let anew = IsStoredGapless (after_array_codec codec chain) shape new in
    record {
      placed = placed_before codec chain shape stored h.placed;
      parts = subst (λ (b : Bool). MatchBool b (AppendsParts outer update new ⊎ (LacksRoom outer update × anew)) anew) (sym partly)
          (either_by (encodes_in_part chain) (AppendsParts inner moved new) (AppendsParts outer update new) (LacksRoom inner moved) (LacksRoom outer update) (IsStoredGapless chain (encoded_shape codec shape) new) anew
          (refused_into codec chain elements shape numbers payload stored (λ after. Appends chain elements (encoded_shape codec shape) (after_write (moved_numbers codec shape numbers) stored after) new)
          (λ after. Appends (after_array_codec codec chain) elements shape (after_write numbers stored after) new) fit inside (λ after is. is)) (room_after codec chain elements shape numbers payload stored fit inside)
          (stored_gapless_after codec chain shape new) h.parts);
    }

-- as many bytes are taken where the codec moves the places
takes_after : (codec : ArrayCodec) (chain : Chain) (elements : Elements) (shape numbers : List ℕ) (payload : Payload) (stored : Option (List ℕ)) → encodes_in_part (after_array_codec codec chain) ≡ encodes_in_part chain
    → most_to_write (coded chain elements (encoded_shape codec shape)) (update_of (listed (moved_numbers codec shape numbers)) payload stored) ≡ most_to_write (coded (after_array_codec codec chain) elements shape) (update_of (listed numbers) payload stored)
takes_after codec chain elements shape numbers payload stored partly =
    let parts = most_for_parts (after_array_codec codec chain) elements.type shape stored numbers in
    ap (λ (b : Bool). if b then parts else value_length stored) (sym partly)

pub writes_after : {A : Type 0} (codec : ArrayCodec) (chain : Chain) (elements : Elements) (shape numbers : List ℕ) (payload : Payload) (stored : Option (List ℕ)) (source : SourceWrite) (r : Result A CodecError) → array_codec_fits codec shape ≡ true → are_places shape numbers ≡ true
    → encodes_in_part (after_array_codec codec chain) ≡ encodes_in_part chain → WritesPart (coded chain elements (encoded_shape codec shape)) (update_of (listed (moved_numbers codec shape numbers)) payload stored) source r
    → WritesPart (coded (after_array_codec codec chain) elements shape) (update_of (listed numbers) payload stored) source r
writes_after codec chain elements shape numbers payload stored source r fit inside partly h =
    let inner = coded chain elements (encoded_shape codec shape) in
    let outer = coded (after_array_codec codec chain) elements shape in
    let moved = update_of (listed (moved_numbers codec shape numbers)) payload stored in
    let update = update_of (listed numbers) payload stored in
    record {
      parts = on_written r (LeavesParts inner moved source.new) (LeavesParts outer update source.new) (leaves_after codec chain elements shape numbers payload stored source.new fit inside partly) h.parts;
      cause = unwritten_after codec chain elements shape numbers payload stored r fit inside partly h.cause;
      given = gives_by inner outer moved update source.ranges source.before source.after (takes_after codec chain elements shape numbers payload stored partly) (sym partly) refl (room_after codec chain elements shape numbers payload stored fit inside) h.given;
    }

leaves_by_numbers : (chain : Chain) (elements : Elements) (shape : List ℕ) (asked : Asked) (payload : Payload) (stored new : Option (List ℕ)) → are_inside shape asked ≡ true
    → LeavesParts (coded chain elements shape) (update_of (listed (numbers_asked shape asked)) payload stored) new → LeavesParts (coded chain elements shape) (update_of asked payload stored) new
leaves_by_numbers chain elements shape asked payload stored new inside h =
    let array = coded chain elements shape in
    let numbered = update_of (listed (numbers_asked shape asked)) payload stored in
    let update = update_of asked payload stored in
    let anew = IsStoredGapless chain shape new in
    record {
      placed = h.placed;
      parts = either_by (encodes_in_part chain) (AppendsParts array numbered new) (AppendsParts array update new) (LacksRoom array numbered) (LacksRoom array update) anew anew
          (listed_refused chain elements shape asked payload stored (λ after. Appends chain elements shape (after_write (numbers_asked shape asked) stored after) new) inside)
          (listed_refused chain elements shape asked payload stored (λ after. PassesLength chain elements shape (after_write (numbers_asked shape asked) stored after)) inside) (λ is. is) h.parts;
    }

pub writes_by_numbers : {A : Type 0} (chain : Chain) (elements : Elements) (shape : List ℕ) (asked : Asked) (payload : Payload) (stored : Option (List ℕ)) (source : SourceWrite) (r : Result A CodecError) → are_inside shape asked ≡ true
    → WritesPart (coded chain elements shape) (update_of (listed (numbers_asked shape asked)) payload stored) source r → WritesPart (coded chain elements shape) (update_of asked payload stored) source r
writes_by_numbers chain elements shape asked payload stored source r inside h =
    let array = coded chain elements shape in
    let numbered = update_of (listed (numbers_asked shape asked)) payload stored in
    let update = update_of asked payload stored in
    record {
      parts = on_written r (LeavesParts array numbered source.new) (LeavesParts array update source.new) (leaves_by_numbers chain elements shape asked payload stored source.new inside) h.parts;
      cause = unwritten_by_numbers chain elements shape asked payload stored r inside h.cause;
      given = gives_by array array numbered update source.ranges source.before source.after refl refl refl (listed_refused chain elements shape asked payload stored (λ after. PassesLength chain elements shape (after_write (numbers_asked shape asked) stored after)) inside) h.given;
    }

-- a write that is refused before anything is read
pub unread_writes : {A : Type 0} (array : Coded) (update : Update) (source : SourceWrite) (e : CodecError) → NotEncodedInto {A = A} array update (Err e) → source.after ≡ source.before → WritesPart {A = A} array update source (Err e)
unread_writes array update source e cause same = record { parts = tt; cause = cause; given = inl (omega (arith, same)) }

-- ---- what is encoded in part

partly_inside : (codec : ArrayCodec) (chain : Chain) → encodes_in_part (after_array_codec codec chain) ≡ true → encodes_in_part chain ≡ true
partly_inside (transpose order) chain partly = partly
partly_inside (reshape entries) chain partly = (and_parts (is_plain chain) (encodes_in_part chain) partly).1
partly_inside squeeze chain partly = partly

-- what codecs leave encoded in part, each of them does
pub partly_all : (codecs : List ArrayCodec) (chain : Chain) → encodes_in_part (with_array_codecs codecs chain) ≡ true → encodes_in_part chain ≡ true
partly_all [] chain partly = partly
partly_all (codec ∷ codecs) chain partly = partly_all codecs chain (partly_inside codec (with_array_codecs codecs chain) partly)

tests_alike : (outer middle inner : Bool) → (outer ≡ true → middle ≡ true) → (middle ≡ true → inner ≡ true) → outer ≡ inner → (outer ≡ middle) × (middle ≡ inner)
tests_alike true middle inner first second same = (sym (first refl), first refl ∙ same)
tests_alike false true inner first second same = absurd (let e = same ∙ second refl in cc)
tests_alike false false inner first second same = (refl, same)

pub partly_each : (codec : ArrayCodec) (codecs : List ArrayCodec) (chain : Chain) → encodes_in_part (with_array_codecs (codec ∷ codecs) chain) ≡ encodes_in_part chain
    → (encodes_in_part (with_array_codecs (codec ∷ codecs) chain) ≡ encodes_in_part (with_array_codecs codecs chain)) × (encodes_in_part (with_array_codecs codecs chain) ≡ encodes_in_part chain)
partly_each codec codecs chain =
    tests_alike (encodes_in_part (with_array_codecs (codec ∷ codecs) chain)) (encodes_in_part (with_array_codecs codecs chain)) (encodes_in_part chain) (partly_inside codec (with_array_codecs codecs chain)) (partly_all codecs chain)

-- without shards all codecs do
partly_plain : (codec : ArrayCodec) (chain : Chain) → is_plain chain ≡ true → encodes_in_part (after_array_codec codec chain) ≡ encodes_in_part chain
partly_plain (transpose order) chain plain = refl
partly_plain (reshape entries) chain plain = ap (λ (b : Bool). b && encodes_in_part chain) plain
partly_plain squeeze chain plain = refl

pub plain_partly : (codecs : List ArrayCodec) (chain : Chain) → is_plain chain ≡ true → encodes_in_part (with_array_codecs codecs chain) ≡ encodes_in_part chain
plain_partly [] chain plain = refl
plain_partly (codec ∷ codecs) chain plain = partly_plain codec (with_array_codecs codecs chain) (plain_before codecs chain ∙ plain) ∙ plain_partly codecs chain plain
