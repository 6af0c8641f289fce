-- What is stored after a value was written whole, and why it isn't written.
use Rattle.std.proofs.Common.{◌≡◌, ◌∙◌, ℕ, List, [], ◌∷◌, length, map, refl, sym, ap, subst, inl, inr, Option, Some, None, Bool, true, false, replicate, Result, Ok, Err, Vec, Global}
use Rattle.std.specs.Prelude.{IfOk, MatchOption, OnOk, option_map, unwrap_or}
use Rattle.std.specs.List.{list_all}
use Rattle.zarr_grids_boxes.specs.Boxes.{product}
use Rattle.zarr_codecs_meaning.specs.Chains.{Chain}
use Rattle.zarr_codecs_meaning.specs.Chunks.{chunk_decoded}
use Rattle.zarr_codecs_meaning.specs.Encoding.{encoded}
use Rattle.zarr_codecs_meaning.specs.Fits.{fits, is_plain}
use Rattle.zarr_codecs_meaning.specs.Laws.{IsLawfulChain}
use Rattle.zarr_codecs_meaning.specs.Payloads.{Payload, cells_in}
use Rattle.zarr_codecs_meaning.specs.Refusals.{PassesIndex}
use Rattle.zarr_codecs_meaning.specs.Standing.{Stands, Tight}
use Rattle.zarr_codecs_meaning.specs.Types.{Cell, DataType, Elements, is_fill, is_value}
use Rattle.zarr_codecs_meaning.proofs.Lists.{some_same}
use Rattle.zarr_codecs_meaning.proofs.Making.{plain_made}
use Rattle.zarr_codecs_meaning.proofs.Meaning.{stands_decoded}
use Rattle.zarr_codecs_meaning.proofs.Shards.{fill_is_replicate}
use Rattle.zarr_codecs_meaning.proofs.Tight.{encoded_tight}
use Rattle.zarr_codecs_arrays.specs.Outcomes.{IsCounted, IsInvalid, IsMiscounted, IsValid}
use Rattle.zarr_codecs_arrays.specs.declared.error.CodecError.{CodecError}
use Rattle.zarr_codecs_arrays.specs.declared.error.CodecError.TheVariants as error
use Rattle.zarr_codecs_traits.specs.Indexers.{Asked, are_inside, numbers_asked, put}
use Rattle.zarr_codecs_traits.specs.Arrays.{coded, update_of}
use Rattle.zarr_codecs_traits.specs.Outcomes.{IsEncoded, IsRefused}
use Rattle.zarr_codecs_traits.specs.PartWriting.{AfterPut, IsEncodedInto, MeetsLost, NotEncodedWhole, WholeRefused}
use Rattle.zarr_codecs_traits.specs.ShardWrites.{IsStoredGapless}
use Rattle.zarr_codecs_traits.specs.Sources.{value_bytes}
use Rattle.zarr_codecs_traits.proofs.Damage.{decoded_intact}
use Rattle.zarr_codecs_regions.specs.Updates.{CanUpdate, Updates, array_places}
use Rattle.zarr_codecs_regions.specs.Whole.{CanBePut, EncodesOrDrops, IsStoredAs}
use Rattle.zarr_codecs_regions.proofs.Shown.{after_decoded, map_put, put_cells, shown_cells, standing_decoded, stored_cells, stored_opens, tight_standing}

-- what is decoded has lost nothing
stored_intact : (chain : Chain) (elements : Elements) (shape : List ℕ) (stored : Option (List ℕ)) (numbers : List ℕ) (before : List Cell) → chunk_decoded chain elements shape stored ≡ Some before → MatchOption stored (Unit {0}) (λ value. ¬ MeetsLost chain elements shape value numbers)
stored_intact chain elements shape None numbers before is = tt
stored_intact chain elements shape (Some value) numbers before is = decoded_intact chain elements shape value numbers before is

-- what is known of a value that is to be written whole
pub record IsWritten (chain : Chain) (exact : Bool) (elements : Elements) (shape : List ℕ) (asked : Asked) (payload made : Payload) (cells before : List Cell) (old : Option (List ℕ)) (value : List ℕ) : Type 0 where
  pub lawful : IsLawfulChain chain
  pub kept : is_plain chain ≡ false → is_fill elements.fill (put (numbers_asked shape asked) cells before) ≡ false
  pub fill : is_value elements.type elements.fill ≡ true
  pub valid : IsValid elements.type payload (length (numbers_asked shape asked)) cells
  pub inside : are_inside shape asked ≡ true
  pub stored : chunk_decoded chain elements shape old ≡ Some before
  pub is : IsEncoded (coded chain elements shape) exact made (put (numbers_asked shape asked) cells before) value

pub written_whole : (chain : Chain) (exact : Bool) (elements : Elements) (shape : List ℕ) (asked : Asked) (payload made : Payload) (cells before : List Cell) (old : Option (List ℕ)) (value : List ℕ)
    → IsWritten chain exact elements shape asked payload made cells before old value → IsEncodedInto (coded chain elements shape) exact (update_of asked payload old) cells (Some value)
written_whole chain exact elements shape asked payload made cells before old value h =
    let ns = numbers_asked shape asked in
    let fit = h.is.fit in
    let one = λ (c : Cell). Some (c ∷ []) in
    let are = stored_cells chain elements shape old before fit h.fill h.stored in
    let after = put_cells elements shape ns cells before h.valid.values are in
    let same : (others : List Cell) → chunk_decoded chain elements shape old ≡ Some others → before ≡ others = λ others e. some_same (sym h.stored ∙ e) in
    record {
      valid = h.valid;
      fit = fit;
      inside = h.inside;
      opened = stored_opens chain elements shape old before fit h.stored;
      none_lost = stored_intact chain elements shape old (numbers_asked shape asked) before h.stored;
      stands = λ lossless others theirs st.
          subst (λ bs. Stands chain elements shape value (put ns cells bs)) (same others (standing_decoded chain elements shape old others h.lawful fit lossless theirs st)) (h.is.stands lossless);
      tight = λ e lossless others theirs t.
          let st = tight_standing chain elements shape old others h.lawful fit lossless theirs t in
          subst (λ bs. Tight chain elements shape value (put ns cells bs)) (same others (standing_decoded chain elements shape old others h.lawful fit lossless theirs st))
          (encoded_tight chain elements shape value (put ns cells before) h.lawful fit lossless after (h.is.encodes e));
      absent = λ no lossless others theirs st filled.
          let all : is_fill elements.fill (put ns cells before) ≡ true = ap (λ bs. is_fill elements.fill (put ns cells bs)) (same others (standing_decoded chain elements shape old others h.lawful fit lossless theirs st)) ∙ filled in
          let some = h.kept no in absurd (cc);
      encodes = λ plain others theirs st. (value, refl, ap (λ bs. encoded chain elements shape (put ns cells bs)) (sym (same others st)) ∙ plain_made chain elements shape (put ns cells before) value plain h.is.made);
      shows = λ lossless.
          shown_cells chain elements shape (Some value) (put ns cells before) fit (stands_decoded chain elements shape value (put ns cells before) h.lawful fit lossless after (h.is.stands lossless))
          ∙ (map_put one ns cells before ∙ ap (put ns (map one cells)) (sym (shown_cells chain elements shape old before fit h.stored)));
    }

-- what is known where a chain with shards would have to write fill alone
pub record IsDropped (chain : Chain) (elements : Elements) (shape : List ℕ) (asked : Asked) (payload : Payload) (cells before : List Cell) (old : Option (List ℕ)) : Type 0 where
  pub lawful : IsLawfulChain chain
  pub shards : is_plain chain ≡ false
  pub filled : is_fill elements.fill (put (numbers_asked shape asked) cells before) ≡ true
  pub fit : fits chain elements.type shape ≡ true
  pub fill : is_value elements.type elements.fill ≡ true
  pub valid : IsValid elements.type payload (length (numbers_asked shape asked)) cells
  pub inside : are_inside shape asked ≡ true
  pub stored : chunk_decoded chain elements shape old ≡ Some before

pub dropped_whole : (chain : Chain) (exact : Bool) (elements : Elements) (shape : List ℕ) (asked : Asked) (payload : Payload) (cells before : List Cell) (old : Option (List ℕ))
    → IsDropped chain elements shape asked payload cells before old → IsEncodedInto (coded chain elements shape) exact (update_of asked payload old) cells None
dropped_whole chain exact elements shape asked payload cells before old h =
    let ns = numbers_asked shape asked in
    let fit = h.fit in
    let one = λ (c : Cell). Some (c ∷ []) in
    let are = stored_cells chain elements shape old before fit h.fill h.stored in
    let after = put_cells elements shape ns cells before h.valid.values are in
    let same : (others : List Cell) → chunk_decoded chain elements shape old ≡ Some others → before ≡ others = λ others e. some_same (sym h.stored ∙ e) in
    let none : chunk_decoded chain elements shape None ≡ Some (put ns cells before) =
    ap Some (sym (fill_is_replicate elements.fill (put ns cells before) h.filled ∙ ap (λ n. replicate n elements.fill) after.whole)) in
    record {
      valid = h.valid;
      fit = fit;
      inside = h.inside;
      opened = stored_opens chain elements shape old before fit h.stored;
      none_lost = stored_intact chain elements shape old (numbers_asked shape asked) before h.stored;
      stands = λ lossless others theirs st.
          ap (λ bs. is_fill elements.fill (put ns cells bs)) (sym (same others (standing_decoded chain elements shape old others h.lawful fit lossless theirs st))) ∙ h.filled;
      tight = λ e lossless others theirs t.
          let st = tight_standing chain elements shape old others h.lawful fit lossless theirs t in
          ap (λ bs. is_fill elements.fill (put ns cells bs)) (sym (same others (standing_decoded chain elements shape old others h.lawful fit lossless theirs st))) ∙ h.filled;
      absent = λ no lossless others theirs st filled. refl;
      encodes = λ plain others theirs st. (let shards = h.shards in absurd (cc));
      shows = λ lossless.
          shown_cells chain elements shape None (put ns cells before) fit none
          ∙ (map_put one ns cells before ∙ ap (put ns (map one cells)) (sym (shown_cells chain elements shape old before fit h.stored)));
    }

-- what is known of elements that were put into those of what is stored
pub record HasUpdated (chain : Chain) (elements : Elements) (shape : List ℕ) (asked : Asked) (payload array made : Payload) (old : Option (List ℕ)) : Type 0 where
  pub before : List Cell
  pub lawful : IsLawfulChain chain
  pub fill : is_value elements.type elements.fill ≡ true
  pub can : CanBePut chain elements shape asked payload
  pub stored : chunk_decoded chain elements shape old ≡ Some before
  pub lists : cells_in elements.type made ≡ Some (put (numbers_asked shape asked) can.cells before)

pub has_updated : (chain : Chain) (elements : Elements) (type : DataType) (shape : List ℕ) (asked : Asked) (payload array made : Payload) (old : Option (List ℕ)) (before given : List Cell)
    → IsLawfulChain chain → is_value elements.type elements.fill ≡ true → CanBePut chain elements shape asked payload → IsStoredAs chain elements shape old array → type ≡ elements.type
    → CanUpdate (array_places type shape asked) array payload before given → cells_in type made ≡ Some (put (numbers_asked shape asked) given before) → HasUpdated chain elements shape asked payload array made old
has_updated chain elements type shape asked payload array made old before given lawful fill can stored same updates made_is =
    let u = subst (λ t. CanUpdate (array_places t shape asked) array payload before given) same updates in
    let made_are = subst (λ t. cells_in t made ≡ Some (put (numbers_asked shape asked) given before)) same made_is in
    let old_are : before ≡ stored.cells = some_same (sym u.array_is.lists ∙ stored.lists) in
    let new_are : given ≡ can.cells = some_same (sym u.update_is.lists ∙ can.valid.is.lists) in
    record {
      before = stored.cells;
      lawful = lawful;
      fill = fill;
      can = can;
      stored = stored.is;
      lists = made_are ∙ (ap (λ cs. Some (put (numbers_asked shape asked) cs before)) new_are ∙ ap (λ bs. Some (put (numbers_asked shape asked) can.cells bs)) old_are);
    }

-- whether cells that are listed are all fill
abbrev all_fill_of : Elements → Option (List Cell) → Bool
all_fill_of elements cells = unwrap_or (option_map (is_fill elements.fill) cells) false

pub encoded_whole : (chain : Chain) (exact : Bool) (elements : Elements) (shape : List ℕ) (asked : Asked) (payload array made : Payload) (old : Option (List ℕ)) (result : Result (Option (Vec ℕ Global)) CodecError)
    → HasUpdated chain elements shape asked payload array made old → EncodesOrDrops (coded chain elements shape) exact made result
    → IfOk result (λ value. (cells : List Cell) × IsEncodedInto (coded chain elements shape) exact (update_of asked payload old) cells (value_bytes value))
encoded_whole chain exact elements shape asked payload array made old (Err e) h done = tt
encoded_whole chain exact elements shape asked payload array made old (Ok None) h done = (
  h.can.cells,
  dropped_whole chain exact elements shape asked payload h.can.cells h.before old (record {
    lawful = h.lawful;
    shards = done.0;
    filled = sym (ap (all_fill_of elements) h.lists) ∙ done.1;
    fit = h.can.fit;
    fill = h.fill;
    valid = h.can.valid;
    inside = h.can.inside;
    stored = h.stored;
  }),
)
encoded_whole chain exact elements shape asked payload array made old (Ok (Some value)) h kept =
    let ns = numbers_asked shape asked in
    let done = kept.encodes in
    let same : done.0 ≡ put ns h.can.cells h.before = some_same (sym done.1.valid.is.lists ∙ h.lists) in (
      h.can.cells,
      written_whole chain exact elements shape asked payload made h.can.cells h.before old value.items (record {
        lawful = h.lawful;
        kept = λ no. sym (ap (all_fill_of elements) h.lists) ∙ kept.kept no;
        fill = h.fill;
        valid = h.can.valid;
        inside = h.can.inside;
        stored = h.stored;
        is = subst (λ cs. IsEncoded (coded chain elements shape) exact made cs value.items) same done.1;
      }),
    )

-- ---- values without gaps

pub kept_gapless : (chain : Chain) (exact : Bool) (elements : Elements) (shape : List ℕ) (made : Payload) (result : Result (Option (Vec ℕ Global)) CodecError) → EncodesOrDrops (coded chain elements shape) exact made result
    → IfOk result (λ value. IsStoredGapless chain shape (value_bytes value))
kept_gapless chain exact elements shape made (Err e) done = tt
kept_gapless chain exact elements shape made (Ok None) done = tt
kept_gapless chain exact elements shape made (Ok (Some value)) kept = kept.encodes.1.gapless

-- what is stored then has none
pub stored_gapless : {A : Type 0} (r : Result A CodecError) (chain : Chain) (shape : List ℕ) (value new : Option (List ℕ)) → IsStoredGapless chain shape value → OnOk r (new ≡ value) → OnOk r (IsStoredGapless chain shape new)
stored_gapless (Ok done) chain shape value new gapless is = subst (IsStoredGapless chain shape) (sym is) gapless
stored_gapless (Err e) chain shape value new gapless is = tt

-- ---- why it isn't written

refused_after_update : (chain : Chain) (elements : Elements) (shape : List ℕ) (asked : Asked) (payload array made : Payload) (old : Option (List ℕ)) (refuses : Chain → Elements → List ℕ → List Cell → Type 0) (after : List Cell)
    → HasUpdated chain elements shape asked payload array made old → IsRefused (coded chain elements shape) made after refuses → AfterPut (coded chain elements shape) (update_of asked payload old) (refuses chain elements shape)
refused_after_update chain elements shape asked payload array made old refuses after h why =
    let ns = numbers_asked shape asked in
    let same : after ≡ put ns h.can.cells h.before = some_same (sym why.valid.is.lists ∙ h.lists) in
    record {
      cells = h.can.cells;
      valid = h.can.valid;
      fit = h.can.fit;
      inside = h.can.inside;
      is = subst (refuses chain elements shape) (same ∙ sym (after_decoded chain elements shape old ns h.can.cells h.before h.can.fit h.stored)) why.is;
    }

-- the updated elements are as many values of the type as the array has places
updated_valid : (chain : Chain) (elements : Elements) (shape : List ℕ) (asked : Asked) (payload array made : Payload) (old : Option (List ℕ)) (h : HasUpdated chain elements shape asked payload array made old)
    → IsValid elements.type made (product shape) (put (numbers_asked shape asked) h.can.cells h.before)
updated_valid chain elements shape asked payload array made old h =
    let are = put_cells elements shape (numbers_asked shape asked) h.can.cells h.before h.can.valid.values (stored_cells chain elements shape old h.before h.can.fit h.fill h.stored) in
    record { is = record { lists = h.lists; many = are.whole }; values = are.values }

-- so they are not refused as others
not_miscounted : (type : DataType) (payload : Payload) (count : ℕ) (cells : List Cell) (e : CodecError) → IsCounted type payload count cells → IsMiscounted type payload count e → ⊥
not_miscounted type payload count cells error.ExpectedFixedLengthBytes is why = let lists = is.lists in let none = why.0 in cc
not_miscounted type payload count cells error.ExpectedVariableLengthBytes is why = let lists = is.lists in let none = why.0 in cc
not_miscounted type payload count cells error.ExpectedOptionalBytes is why = let lists = is.lists in let none = why.0 in cc
not_miscounted type payload count cells error.InvalidNumberOfElements is (inl why) = let lists = is.lists in let none = why.0 in cc
not_miscounted type payload count cells error.InvalidNumberOfElements is (inr why) = why.2 (ap length (some_same (sym why.1 ∙ is.lists)) ∙ is.many)
not_miscounted type payload count cells e is why = why

not_invalid : (type : DataType) (payload : Payload) (count : ℕ) (cells : List Cell) (e : CodecError) → IsValid type payload count cells → IsInvalid type payload count e → ⊥
not_invalid type payload count cells error.CellOutOfRange valid why =
    let same : why.0 ≡ cells = some_same (sym why.1.lists ∙ valid.is.lists) in
    let bad : list_all (is_value type) cells ≡ false = ap (list_all (is_value type)) (sym same) ∙ why.2 in
    let good = valid.values in cc
not_invalid type payload count cells e valid why = not_miscounted type payload count cells e valid.is why

pub encode_refused : (chain : Chain) (exact : Bool) (elements : Elements) (shape : List ℕ) (asked : Asked) (payload array made : Payload) (old : Option (List ℕ)) (result : Result (Option (Vec ℕ Global)) CodecError)
    → HasUpdated chain elements shape asked payload array made old → EncodesOrDrops (coded chain elements shape) exact made result → NotEncodedWhole (coded chain elements shape) (update_of asked payload old) result
encode_refused chain exact elements shape asked payload array made old (Ok None) h why = tt
encode_refused chain exact elements shape asked payload array made old (Ok (Some value)) h why = tt
encode_refused chain exact elements shape asked payload array made old (Err error.Fit) h why = why.encodes
encode_refused chain exact elements shape asked payload array made old (Err error.Codec) h why =
    let k = why.encodes in
    refused_after_update chain elements shape asked payload array made old WholeRefused k.0 h
    (record { valid = k.1.valid; fit = k.1.fit; is = (λ shards. sym (ap (all_fill_of elements) k.1.valid.is.lists) ∙ why.kept shards, k.1.is) })
encode_refused chain exact elements shape asked payload array made old (Err error.Size) h why =
    elim why.encodes as (λ _. NotEncodedWhole {A = Option (Vec ℕ Global)} (coded chain elements shape) (update_of asked payload old) (Err error.Size)) [
      | inl large ↦ inl large
      | inr k ↦ (let r = refused_after_update chain elements shape asked payload array made old PassesIndex k.0 h k.1 in inr (record { cells = r.cells; valid = r.valid; fit = r.fit; inside = r.inside; is = inl r.is }))
    ]
encode_refused chain exact elements shape asked payload array made old (Err error.Memory) h why = tt
encode_refused chain exact elements shape asked payload array made old (Err error.Source) h why = tt
encode_refused chain exact elements shape asked payload array made old (Err e) h why =
    absurd (not_invalid elements.type made (product shape) (put (numbers_asked shape asked) h.can.cells h.before) e (updated_valid chain elements shape asked payload array made old h) why.encodes.1)

pub update_refused : (A : Type 0) (chain : Chain) (elements : Elements) (type : DataType) (shape : List ℕ) (asked : Asked) (payload array : Payload) (old : Option (List ℕ)) (before : List Cell) (e : CodecError)
    → fits chain elements.type shape ≡ true → IsCounted elements.type array (product shape) before → type ≡ elements.type → Updates (array_places type shape asked) array payload (Err e) → NotEncodedWhole {A = A} (coded chain elements shape) (update_of asked payload old) (Err e)
update_refused A chain elements type shape asked payload array old before error.IncompatibleIndexer fit counted same why = why
update_refused A chain elements type shape asked payload array old before error.Size fit counted same why = inl (inl why)
update_refused A chain elements type shape asked payload array old before error.Memory fit counted same why = tt
update_refused A chain elements type shape asked payload array old before error.ExpectedFixedLengthBytes fit counted same (inl why) = absurd (not_miscounted elements.type array (product shape) before error.ExpectedFixedLengthBytes counted (subst (λ t. IsMiscounted t array (product shape) error.ExpectedFixedLengthBytes) same why))
update_refused A chain elements type shape asked payload array old before error.ExpectedFixedLengthBytes fit counted same (inr why) = (fit, subst (λ t. IsMiscounted t payload (length (numbers_asked shape asked)) error.ExpectedFixedLengthBytes) same why)
update_refused A chain elements type shape asked payload array old before error.ExpectedVariableLengthBytes fit counted same (inl why) = absurd (not_miscounted elements.type array (product shape) before error.ExpectedVariableLengthBytes counted (subst (λ t. IsMiscounted t array (product shape) error.ExpectedVariableLengthBytes) same why))
update_refused A chain elements type shape asked payload array old before error.ExpectedVariableLengthBytes fit counted same (inr why) = (fit, subst (λ t. IsMiscounted t payload (length (numbers_asked shape asked)) error.ExpectedVariableLengthBytes) same why)
update_refused A chain elements type shape asked payload array old before error.ExpectedOptionalBytes fit counted same (inl why) = absurd (not_miscounted elements.type array (product shape) before error.ExpectedOptionalBytes counted (subst (λ t. IsMiscounted t array (product shape) error.ExpectedOptionalBytes) same why))
update_refused A chain elements type shape asked payload array old before error.ExpectedOptionalBytes fit counted same (inr why) = (fit, subst (λ t. IsMiscounted t payload (length (numbers_asked shape asked)) error.ExpectedOptionalBytes) same why)
update_refused A chain elements type shape asked payload array old before error.InvalidNumberOfElements fit counted same (inl why) = absurd (not_miscounted elements.type array (product shape) before error.InvalidNumberOfElements counted (subst (λ t. IsMiscounted t array (product shape) error.InvalidNumberOfElements) same why))
update_refused A chain elements type shape asked payload array old before error.InvalidNumberOfElements fit counted same (inr why) = (fit, subst (λ t. IsMiscounted t payload (length (numbers_asked shape asked)) error.InvalidNumberOfElements) same why)
update_refused A chain elements type shape asked payload array old before e fit counted same (inl why) = absurd why
update_refused A chain elements type shape asked payload array old before e fit counted same (inr why) = absurd why
