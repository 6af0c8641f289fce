-- The index of a shard as a chain writes and reads it.
use Rattle.std.proofs.Common.{◌≡◌, ℕ, ◌*◌, ◌%◌, ◌^◌, ◌<◌, List, [], ◌∷◌, length, ap, ◌∙◌, sym, arith, refl, subst, inl, inr, Option, Some, None, option_map, unwrap_or, Bool, true, ◌&&◌, Result, Ok, Err, Vec}
use Rattle.std.specs.declared.alloc.Global.{Global}
use Rattle.std.specs.List.{list_all}
use Rattle.std.proofs.lemmas.Bool.{and_parts, ltb-true, eqb-true}
use Rattle.std.proofs.lemmas.Nat.{mod_below}
use Rattle.zarr_grids_boxes.specs.Boxes.{product}
use Rattle.zarr_codecs_meaning.specs.Chains as chains
use Rattle.zarr_codecs_meaning.specs.Chains.{Chain}
use Rattle.zarr_codecs_meaning.specs.Decoding.{pairs_of_cells}
use Rattle.zarr_codecs_meaning.specs.Encoding.{Pair, encoded, index_size, pair_cells}
use Rattle.zarr_codecs_meaning.specs.Fits.{fits, fixed_of, has_index_size, is_some_below, is_size_as, representation_of, size_of}
use Rattle.zarr_codecs_meaning.proofs.Fitting.{size_is_below}
use Rattle.zarr_codecs_meaning.specs.Laws.{AreCells, IsLawfulChain}
use Rattle.zarr_codecs_meaning.specs.Making.{IsMadeOf}
use Rattle.zarr_codecs_meaning.specs.Numbers.{digits, number, word}
use Rattle.zarr_codecs_meaning.specs.Payloads.{Payload, cells_in}
use Rattle.zarr_codecs_meaning.specs.Refusals.{CodecRefuses, PassesIndex}
use Rattle.zarr_codecs_meaning.specs.Standing.{Stands}
use Rattle.zarr_codecs_meaning.specs.Types.{Cell, Elements, of_bytes, is_value, uint64, zero_filled}
use Rattle.zarr_codecs_meaning.proofs.Counts.{decoded_count}
use Rattle.zarr_codecs_meaning.proofs.Digits.{number_digits, digits_number, digits_below}
use Rattle.zarr_codecs_meaning.proofs.Lists.{some_same}
use Rattle.zarr_codecs_meaning.proofs.Meaning.{stands_decoded}
use Rattle.zarr_codecs_meaning.proofs.Shards.{length-pair_cells}
use Rattle.zarr_codecs_meaning.proofs.Values.{length-digits}
use Rattle.zarr_codecs_meaning.proofs.Words.{number_is_value}
use Rattle.zarr_codecs_arrays.specs.declared.error.CodecError.{CodecError}
use Rattle.zarr_codecs_arrays.specs.declared.error.CodecError.TheVariants as error
use Rattle.zarr_codecs_traits.specs.Arrays.{coded}
use Rattle.zarr_codecs_traits.specs.Outcomes.{Encodes, IsDecoded}
use Rattle.zarr_sharding_index.specs.Stored.{IsIndexRead, WritesIndex, index_fits}

-- ---- the numbers of pairs are values

word_is_value : (n : ℕ) → is_value uint64 (of_bytes (word n)) ≡ true
word_is_value n =
    let element = digits 256 8 n in
    let small : number 256 element < 2 ^ 64 = subst (λ m. m < 2 ^ 64) (sym (number_digits 256 8 n (omega arith))) (mod_below n (256 ^ 8) (omega arith)) in
    let again : digits 256 8 (number 256 element) ≡ element = sym (ap (λ k. digits 256 k (number 256 element)) (length-digits 256 8 n)) ∙ digits_number 256 element (digits_below 256 8 n (omega arith)) in
    subst (λ bs. is_value uint64 (of_bytes bs) ≡ true) again (number_is_value 64 (number 256 element) small)

pub pairs_are_values : (pairs : List Pair) → list_all (is_value uint64) (pair_cells pairs) ≡ true
pairs_are_values [] = refl
pairs_are_values (pair ∷ pairs) =
    ap (λ (b : Bool). b && (is_value uint64 (of_bytes (word pair.1)) && list_all (is_value uint64) (pair_cells pairs))) (word_is_value pair.0)
    ∙ (ap (λ (b : Bool). b && list_all (is_value uint64) (pair_cells pairs)) (word_is_value pair.1) ∙ pairs_are_values pairs)

-- ---- sizes

size_known : (o : Option ℕ) → is_some_below (2 ^ 63) o ≡ true → (n : ℕ) × (o ≡ Some n) × (n < 2 ^ 63)
size_known None h = cc
size_known (Some n) h = (n, refl, ltb-true n (2 ^ 63) h)

pub index_below : (index : Chain) (shape : List ℕ) → index_fits index shape ≡ true → (size_of index uint64 shape ≡ Some (index_size index shape)) × (index_size index shape < 2 ^ 63)
index_below index shape fit =
    let known = size_known (size_of index uint64 shape) (size_is_below index shape (and_parts (fits index uint64 shape) (has_index_size index shape) fit).1) in
    let is : index_size index shape ≡ known.0 = ap (λ (o : Option ℕ). unwrap_or o 0) known.1 in
    (known.1 ∙ ap Some (sym is), subst (λ n. n < 2 ^ 63) (sym is) known.2)

pub fixed_long : (known : chains.BytesRepresentation) (size long : ℕ) → is_size_as known long ≡ true → fixed_of known ≡ Some size → long ≡ size
fixed_long (chains.BytesRepresentation.fixed_size n) size long h is = eqb-true long n h ∙ some_same is
fixed_long (chains.BytesRepresentation.bounded_size n) size long h is = cc
fixed_long chains.BytesRepresentation.unbounded_size size long h is = cc

-- ---- written

pub index_written : (index : Chain) (exact : Bool) (shape : List ℕ) (pairs : List Pair) (payload : Payload) (result : Result (Vec ℕ Global) CodecError) → IsLawfulChain index → index_fits index shape ≡ true → product shape ≡ 2 * length pairs
    → 16 * length pairs < 2 ^ 63 → cells_in uint64 payload ≡ Some (pair_cells pairs) → Encodes (coded index (zero_filled uint64) shape) exact payload result → WritesIndex index exact shape pairs result
index_written index exact shape pairs payload (Ok value) lawful fit many room lists given =
    let done = given.1 in
    let same : given.0 ≡ pair_cells pairs = some_same (sym done.valid.is.lists ∙ lists) in
    let are : AreCells (zero_filled uint64) shape (pair_cells pairs) = record { fill = refl; values = pairs_are_values pairs; whole = length-pair_cells pairs ∙ sym many } in
    let known = index_below index shape fit in
    record {
      made = subst (λ cells. IsMadeOf index (zero_filled uint64) shape cells value.items) same done.made;
      encodes = λ is. subst (λ cells. encoded index (zero_filled uint64) shape cells ≡ Some value.items) same (done.encodes is);
      reads_back = λ keeps. stands_decoded index (zero_filled uint64) shape value.items (pair_cells pairs) lawful done.fit keeps are (subst (λ cells. Stands index (zero_filled uint64) shape value.items cells) same (done.stands keeps));
      sized = fixed_long (representation_of index uint64 shape) (index_size index shape) (length value.items) done.sized known.0;
    }
index_written index exact shape pairs payload (Err error.Fit) lawful fit many room lists given =
    let is = (and_parts (fits index uint64 shape) (has_index_size index shape) fit).0 in cc
index_written index exact shape pairs payload (Err error.Codec) lawful fit many room lists given =
    subst (λ cells. CodecRefuses index (zero_filled uint64) shape cells) (some_same (sym given.1.valid.is.lists ∙ lists)) given.1.is
index_written index exact shape pairs payload (Err error.Size) lawful fit many room lists (inl (inl large)) = absurd (omega (arith, large, many, room))
index_written index exact shape pairs payload (Err error.Size) lawful fit many room lists (inl (inr large)) = absurd (omega (arith, large, many, room))
index_written index exact shape pairs payload (Err error.Size) lawful fit many room lists (inr given) =
    subst (λ cells. PassesIndex index (zero_filled uint64) shape cells) (some_same (sym given.1.valid.is.lists ∙ lists)) given.1.is
index_written index exact shape pairs payload (Err error.Memory) lawful fit many room lists given = tt
index_written index exact shape pairs payload (Err error.Damage) lawful fit many room lists given = elim given.1 [ ]
index_written index exact shape pairs payload (Err error.Source) lawful fit many room lists given = elim given.1 [ ]
index_written index exact shape pairs payload (Err error.IncompatibleIndexer) lawful fit many room lists given = elim given.1 [ ]
index_written index exact shape pairs payload (Err error.Unsupported) lawful fit many room lists given = elim given.1 [ ]
index_written index exact shape pairs payload (Err (error.Other text)) lawful fit many room lists given = elim given.1 [ ]
index_written index exact shape pairs payload (Err error.ExpectedFixedLengthBytes) lawful fit many room lists given = let none = given.1.0 in cc
index_written index exact shape pairs payload (Err error.ExpectedVariableLengthBytes) lawful fit many room lists given = let none = given.1.0 in cc
index_written index exact shape pairs payload (Err error.ExpectedOptionalBytes) lawful fit many room lists given = let none = given.1.0 in cc
index_written index exact shape pairs payload (Err error.InvalidNumberOfElements) lawful fit many room lists (fits_it, inl misformed) = let none = misformed.0 in cc
index_written index exact shape pairs payload (Err error.InvalidNumberOfElements) lawful fit many room lists (fits_it, inr other) =
    absurd (other.2 (ap length (some_same (sym other.1 ∙ lists)) ∙ (length-pair_cells pairs ∙ sym many)))
index_written index exact shape pairs payload (Err error.CellOutOfRange) lawful fit many room lists given =
    let same : given.1.0 ≡ pair_cells pairs = some_same (sym given.1.1.lists ∙ lists) in
    let no = given.1.2 in
    let yes = subst (λ cells. list_all (is_value uint64) cells ≡ true) (sym same) (pairs_are_values pairs) in cc

-- ---- read

in_pairs : (cells : List Cell) → length cells % 2 ≡ 0 → length cells ≡ 2 * length (pairs_of_cells cells)
in_pairs [] even = refl
in_pairs (first ∷ []) even = absurd (omega (arith, even))
in_pairs (first ∷ second ∷ cells) even = let rest = in_pairs cells (omega (arith, even)) in omega (arith, rest)

pub index_read : (index : Chain) (elements : Elements) (shape bytes : List ℕ) (payload : Payload) (pairs : List Pair) → product shape % 2 ≡ 0 → elements ≡ zero_filled uint64 → IsDecoded (coded index elements shape) bytes payload
    → ((cells : List Cell) → cells_in uint64 payload ≡ Some cells → pairs ≡ pairs_of_cells cells) → IsIndexRead index shape bytes pairs
index_read index elements shape bytes payload pairs even same given are =
    let found = subst (λ e. IsDecoded (coded index e shape) bytes payload) same given in
    let is = are found.cells found.lists in
    let count : length found.cells ≡ product shape = decoded_count index (zero_filled uint64) shape bytes found.cells found.is in
    record {
      is = ap (option_map pairs_of_cells) found.is ∙ ap Some (sym is);
      many = sym count ∙ (in_pairs found.cells (ap (λ n. n % 2) count ∙ even) ∙ ap (λ (ps : List Pair). 2 * length ps) (sym is));
    }
