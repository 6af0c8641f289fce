-- A shard made of an array's elements is what encoding them means, and stands for them.
use Rattle.std.proofs.Common.{◌≡◌, ℕ, ◌+◌, ◌-◌, ◌^◌, ◌<◌, List, [], ◌∷◌, length, map, ap, ◌∙◌, sym, arith, refl, subst, inl, inr, Option, Some, None, option_map, option_and_then, if◌then◌else◌, Bool, true, ◌&&◌, Result, Ok, Err, Vec, rules}
use Rattle.std.specs.declared.alloc.Global.{Global}
use Rattle.std.proofs.lemmas.Bool.{and_parts, eq-eqb, lt-ltb}
use Rattle.std.proofs.lemmas.List.{length-map}
use Rattle.zarr_grids_boxes.specs.Boxes.{product}
use Rattle.zarr_codecs_meaning.specs.Chains.{BytesRepresentation, Chain, Location, sharded, fixed_size, bounded_size, unbounded_size}
use Rattle.zarr_codecs_meaning.specs.Encoding.{Piece, base_of, encoded, index_size, joined, joined_slices, pair_cells, pairs_from, piece_of, pieces_of, shard_of, stored_pieces}
use Rattle.zarr_codecs_meaning.specs.Fits.{bound_of, fits, fixed_of, is_bound_within, is_lossless, is_size_as, representation_of, sum_of_bounds}
use Rattle.zarr_codecs_meaning.specs.Laws.{IsLawfulChain}
use Rattle.zarr_codecs_meaning.specs.Payloads.{Payload}
use Rattle.zarr_codecs_meaning.specs.Places.{Part, index_shape, parts_of}
use Rattle.zarr_codecs_meaning.specs.Making.{IsMadeOf, SlicesMade}
use Rattle.zarr_codecs_meaning.specs.Standing.{Stands}
use Rattle.zarr_codecs_meaning.specs.Types.{Cell, Elements, uint64, zero_filled}
use Rattle.zarr_codecs_meaning.proofs.Bounds.{plus, plus_within, size_at_most, size_within, slices_within}
use Rattle.zarr_codecs_meaning.proofs.Lists.{some_same}
use Rattle.zarr_codecs_meaning.proofs.Making.{pairs_in_row, row_apart}
use Rattle.zarr_codecs_meaning.proofs.Fitting.{length-joined}
use Rattle.zarr_codecs_meaning.proofs.Shards.{SlicesStand, length-pairs_from, length-slices, put}
use Rattle.zarr_codecs_arrays.specs.Outcomes.{IsValid}
use Rattle.zarr_codecs_arrays.specs.declared.error.CodecError.{CodecError}
use Rattle.zarr_codecs_arrays.specs.declared.error.CodecError.TheVariants as error
use Rattle.zarr_codecs_traits.specs.Arrays.{coded}
use Rattle.zarr_codecs_traits.specs.Outcomes.{Encodes, IsEncoded}
use Rattle.zarr_sharding_index.specs.Stored.{index_fits}
use Rattle.zarr_sharding_index.proofs.StoredIndex.{index_below}
use Rattle.zarr_sharding_codec.proofs.FitParts.{index_fit}
use Rattle.zarr_sharding_codec.proofs.Gapless.{NoneGaps, assembled_gapless, base_small}
use Rattle.zarr_sharding_codec.specs.Assembled.{Assembles, IsAssembled}
use Rattle.zarr_sharding_index.specs.Held.{index_coding}
use Rattle.zarr_sharding_codec.specs.Slices.{ArePiecesStored, IsSlice, StoresPieces, piece_coding}

-- slices that are stored stand as each of them does
slices_stand : (inner : Chain) (exact : Bool) (elements : Elements) (relation : List ℕ → List ℕ → List Cell → Type 0) (pieces : List Piece) (stored : List (Option (List ℕ)))
    → ((piece : Piece) (slice : List ℕ) → IsSlice inner exact elements piece slice → relation piece.0 slice piece.1) → ArePiecesStored inner exact elements pieces stored → SlicesStand relation elements.fill pieces stored
slices_stand inner exact elements relation [] [] each are = tt
slices_stand inner exact elements relation [] (s ∷ ss) each are = elim are [ ]
slices_stand inner exact elements relation (p ∷ ps) [] each are = elim are [ ]
slices_stand inner exact elements relation (p ∷ ps) (None ∷ ss) each are = (are.0, slices_stand inner exact elements relation ps ss each are.1)
slices_stand inner exact elements relation (p ∷ ps) (Some s ∷ ss) each are = ((are.0.some, each p s are.0), slices_stand inner exact elements relation ps ss each are.1)

pub stored_many : (inner : Chain) (exact : Bool) (elements : Elements) (pieces : List Piece) (stored : List (Option (List ℕ))) → ArePiecesStored inner exact elements pieces stored → length stored ≡ length pieces
stored_many inner exact elements pieces stored are =
    let any = λ (shape slice : List ℕ). λ (cells : List Cell). Unit {0} in
    length-slices any elements.fill pieces stored (slices_stand inner exact elements any pieces stored (λ piece slice is. tt) are)

-- and are made of them
pub slices_made : (inner : Chain) (exact : Bool) (elements : Elements) (pieces : List Piece) (stored : List (Option (List ℕ))) → ArePiecesStored inner exact elements pieces stored → SlicesMade (IsMadeOf inner elements) elements.fill pieces stored
slices_made inner exact elements [] [] are = tt
slices_made inner exact elements [] (s ∷ ss) are = elim are [ ]
slices_made inner exact elements (p ∷ ps) [] are = elim are [ ]
slices_made inner exact elements (p ∷ ps) (None ∷ ss) are = (are.0, slices_made inner exact elements ps ss are.1)
slices_made inner exact elements (p ∷ ps) (Some s ∷ ss) are = ((are.0.some, are.0.made), slices_made inner exact elements ps ss are.1)

stored_exactly : (inner : Chain) (exact : Bool) (elements : Elements) (pieces : List Piece) (stored : List (Option (List ℕ))) → exact ≡ true → ArePiecesStored inner exact elements pieces stored → stored_pieces (encoded inner elements) elements.fill pieces ≡ Some stored
stored_exactly inner exact elements [] [] is are = refl
stored_exactly inner exact elements [] (s ∷ ss) is are = elim are [ ]
stored_exactly inner exact elements (p ∷ ps) [] is are = elim are [ ]
stored_exactly inner exact elements (p ∷ ps) (None ∷ ss) is are =
    let fill = elements.fill in
    let others = stored_pieces (encoded inner elements) fill ps in
    ap (λ (b : Bool). option_and_then (λ (first : Option (List ℕ)). option_map (λ (rest : List (Option (List ℕ))). first ∷ rest) others) (if b then Some None else option_map Some (encoded inner elements p.0 p.1))) are.0
    ∙ ap (λ (o : Option (List (Option (List ℕ)))). option_map (λ (rest : List (Option (List ℕ))). None ∷ rest) o) (stored_exactly inner exact elements ps ss is are.1)
stored_exactly inner exact elements (p ∷ ps) (Some s ∷ ss) is are =
    let fill = elements.fill in
    let others = stored_pieces (encoded inner elements) fill ps in
    let next : Option (Option (List ℕ)) → Option (List (Option (List ℕ))) = λ (o : Option (Option (List ℕ))). option_and_then (λ (first : Option (List ℕ)). option_map (λ (rest : List (Option (List ℕ))). first ∷ rest) others) o in
    ap (λ (b : Bool). next (if b then Some None else option_map Some (encoded inner elements p.0 p.1))) are.0.some
    ∙ (ap (λ (o : Option (List ℕ)). next (option_map Some o)) (are.0.encodes is)
    ∙ ap (λ (o : Option (List (Option (List ℕ)))). option_map (λ (rest : List (Option (List ℕ))). Some s ∷ rest) o) (stored_exactly inner exact elements ps ss is are.1))

-- the index of a shard that fits can be written
pub index_part : (subchunk : List ℕ) (inner index : Chain) (location : Location) (elements : Elements) (shape : List ℕ) → fits (sharded subchunk inner index location) elements.type shape ≡ true → index_fits index (index_shape shape subchunk) ≡ true
index_part subchunk inner index location elements shape fit = index_fit subchunk inner index location elements.type shape fit

known_long : (known : BytesRepresentation) (size long : ℕ) → fixed_of known ≡ Some size → long ≡ size → is_size_as known long ≡ true
known_long (fixed_size n) size long is same = eq-eqb long n (same ∙ sym (some_same is))
known_long (bounded_size n) size long is same = cc
known_long unbounded_size size long is same = cc

-- what a shard is made of
pub record IsMade (subchunk : List ℕ) (inner index : Chain) (location : Location) (elements : Elements) (shape : List ℕ) (cells : List Cell) : Type 0 where
  pub inner_lawful : IsLawfulChain inner
  pub index_lawful : IsLawfulChain index
  pub fit : fits (sharded subchunk inner index location) elements.type shape ≡ true
  pub small : index_size index (index_shape shape subchunk) < 2 ^ 63

pub shard_encoded : (subchunk : List ℕ) (inner index : Chain) (location : Location) (row one two : Bool) (elements : Elements) (shape value : List ℕ) (payload : Payload) (cells : List Cell) (stored : List (Option (List ℕ))) → IsMade subchunk inner index location elements shape cells
    → IsValid elements.type payload (product shape) cells → ArePiecesStored inner one elements (pieces_of elements.fill cells (parts_of shape subchunk)) stored → IsAssembled (index_coding index two location (index_shape shape subchunk)) stored value → length value < 2 ^ 63
    → IsEncoded (coded (sharded subchunk inner index location) elements shape) (row && (one && two)) payload cells value
shard_encoded subchunk inner index location row one two elements shape value payload cells stored made valid are assembled short =
    let pairs_shape = index_shape shape subchunk in
    let size = index_size index pairs_shape in
    let base = base_of location size in
    let parts = parts_of shape subchunk in
    let pieces = pieces_of elements.fill cells parts in
    let slices = joined_slices stored in
    let written = assembled.written in
    let long : length value ≡ length assembled.index_bytes + length slices = ap length assembled.is ∙ length-joined location assembled.index_bytes slices in
    let less = base_small location size in
    let small = made.small in
    let low : base + length slices < 2 ^ 64 - 1 = omega (arith, long, less, small, short) in
    let within = bound_of (representation_of index uint64 pairs_shape) in
    let bound : List ℕ → Option ℕ = λ (part : List ℕ). bound_of (representation_of inner elements.type part) in
    let bounds = sum_of_bounds (map (λ (part : Part). bound part.shape) parts) in
    let front = size_within (representation_of index uint64 pairs_shape) (length assembled.index_bytes) (known_long (representation_of index uint64 pairs_shape) size (length assembled.index_bytes)
    ((index_below index pairs_shape (index_part subchunk inner index location elements shape made.fit)).0) written.sized) in
    let back = slices_within bound elements.fill cells parts stored (slices_stand inner one elements (λ part slice found. is_bound_within (Some (length slice)) (bound part) ≡ true) pieces stored
    (λ piece slice is. size_within (representation_of inner elements.type piece.0) (length slice) is.sized) are) in
    record {
      valid = valid;
      fit = made.fit;
      made = (
        stored,
        slices_made inner one elements pieces stored are,
        record {
          pairs = pairs_from base stored;
          «data» = slices;
          index_bytes = assembled.index_bytes;
          are = pairs_in_row base slices stored [] base refl (omega arith) low;
          apart = row_apart base stored;
          whole = refl;
          written = written.made;
          is = assembled.is;
        },
      );
      encodes = λ exact.
          let both = and_parts one two (and_parts row (one && two) exact).1 in
          ap (option_and_then (shard_of (encoded index (zero_filled uint64) pairs_shape) location size)) (stored_exactly inner one elements pieces stored both.0 are)
          ∙ (ap (λ (b : Bool). if b then option_map (λ (bytes : List ℕ). joined location bytes slices) (encoded index (zero_filled uint64) pairs_shape (pair_cells (pairs_from base stored))) else None) (lt-ltb (base + length slices) (2 ^ 64 - 1) low)
          ∙ (ap (option_map (λ (bytes : List ℕ). joined location bytes slices)) (written.encodes both.1) ∙ ap Some (sym assembled.is)));
      stands = λ keeps.
          let both = and_parts (is_lossless inner elements.type) (is_lossless index uint64) keeps in (
            pairs_from base stored,
            slices,
            record { index_bytes = assembled.index_bytes; long = written.sized; read = written.reads_back both.1; is = assembled.is },
            put (Stands inner elements) elements.fill base slices pieces stored [] base (slices_stand inner one elements (Stands inner elements) pieces stored (λ piece slice is. is.stands both.0) are) refl (omega arith) low,
          );
      sized = size_at_most (plus within bounds) (length value)
          (subst (λ n. is_bound_within (Some n) (plus within bounds) ≡ true) (sym long) (plus_within (Some (length assembled.index_bytes)) (Some (length slices)) within bounds front back));
      gapless = assembled_gapless subchunk inner index location two shape elements.fill cells stored value small short assembled (slices_stand inner one elements (NoneGaps inner) pieces stored (λ piece slice is. is.gapless) are);
    }

-- ---- refusals

-- where what is stored of the subchunks is refused, so is the array
pub pieces_refused : (subchunk : List ℕ) (inner index : Chain) (location : Location) (exact all : Bool) (elements : Elements) (shape : List ℕ) (base : ℕ) (payload : Payload) (cells : List Cell) (e : CodecError) → fits (sharded subchunk inner index location) elements.type shape ≡ true
    → IsValid elements.type payload (product shape) cells → StoresPieces (piece_coding inner exact elements) shape (pieces_of elements.fill cells (parts_of shape subchunk)) base (Err e) → Encodes (coded (sharded subchunk inner index location) elements shape) all payload (Err e)
pieces_refused subchunk inner index location exact all elements shape base payload cells error.Codec fit valid h = (cells, record { valid = valid; fit = fit; is = inl h })
pieces_refused subchunk inner index location exact all elements shape base payload cells error.Size fit valid (inl h) = inl h
pieces_refused subchunk inner index location exact all elements shape base payload cells error.Size fit valid (inr h) = inr (cells, record { valid = valid; fit = fit; is = inl h })
pieces_refused subchunk inner index location exact all elements shape base payload cells error.Memory fit valid h = tt
pieces_refused subchunk inner index location exact all elements shape base payload cells error.Fit fit valid h = elim h [ ]
pieces_refused subchunk inner index location exact all elements shape base payload cells error.Damage fit valid h = elim h [ ]
pieces_refused subchunk inner index location exact all elements shape base payload cells error.Source fit valid h = elim h [ ]
pieces_refused subchunk inner index location exact all elements shape base payload cells error.IncompatibleIndexer fit valid h = elim h [ ]
pieces_refused subchunk inner index location exact all elements shape base payload cells error.Unsupported fit valid h = elim h [ ]
pieces_refused subchunk inner index location exact all elements shape base payload cells (error.Other text) fit valid h = elim h [ ]
pieces_refused subchunk inner index location exact all elements shape base payload cells error.ExpectedFixedLengthBytes fit valid h = elim h [ ]
pieces_refused subchunk inner index location exact all elements shape base payload cells error.ExpectedVariableLengthBytes fit valid h = elim h [ ]
pieces_refused subchunk inner index location exact all elements shape base payload cells error.ExpectedOptionalBytes fit valid h = elim h [ ]
pieces_refused subchunk inner index location exact all elements shape base payload cells error.InvalidNumberOfElements fit valid h = elim h [ ]
pieces_refused subchunk inner index location exact all elements shape base payload cells error.CellOutOfRange fit valid h = elim h [ ]

-- as many slices as subchunks
pub slices_many : (inner : Chain) (exact : Bool) (elements : Elements) (shape subchunk : List ℕ) (cells : List Cell) (stored : List (Option (List ℕ))) → ArePiecesStored inner exact elements (pieces_of elements.fill cells (parts_of shape subchunk)) stored
    → length stored ≡ length (parts_of shape subchunk)
slices_many inner exact elements shape subchunk cells stored are = stored_many inner exact elements (pieces_of elements.fill cells (parts_of shape subchunk)) stored are ∙ length-map (parts_of shape subchunk) (piece_of elements.fill cells)

pub assembled_encodes : (subchunk : List ℕ) (inner index : Chain) (location : Location) (row one two : Bool) (elements : Elements) (shape : List ℕ) (payload : Payload) (cells : List Cell) (stored : List (Option (List ℕ))) (result : Result (Vec ℕ Global) CodecError)
    → IsLawfulChain inner → IsLawfulChain index → fits (sharded subchunk inner index location) elements.type shape ≡ true → IsValid elements.type payload (product shape) cells
    → ArePiecesStored inner one elements (pieces_of elements.fill cells (parts_of shape subchunk)) stored → Assembles (index_coding index two location (index_shape shape subchunk)) stored result
    → Encodes (coded (sharded subchunk inner index location) elements shape) (row && (one && two)) payload result
assembled_encodes subchunk inner index location row one two elements shape payload cells stored (Ok value) inner_lawful index_lawful fit valid are h =
    let made : IsMade subchunk inner index location elements shape cells = record { inner_lawful = inner_lawful; index_lawful = index_lawful; fit = fit; small = (index_below index (index_shape shape subchunk) (index_part subchunk inner index location elements shape fit)).1 } in
    (cells, shard_encoded subchunk inner index location row one two elements shape value.items payload cells stored made valid are h (search (rules, value.ok, value.small)))
assembled_encodes subchunk inner index location row one two elements shape payload cells stored (Err error.Codec) inner_lawful index_lawful fit valid are h =
    (cells, record { valid = valid; fit = fit; is = inr (stored, slices_made inner one elements (pieces_of elements.fill cells (parts_of shape subchunk)) stored are, h) })
assembled_encodes subchunk inner index location row one two elements shape payload cells stored (Err error.Size) inner_lawful index_lawful fit valid are h =
    let base = base_of location (index_size index (index_shape shape subchunk)) in
    inr (cells, record { valid = valid; fit = fit; is = inr (inr (pairs_from base stored, length-pairs_from stored base ∙ slices_many inner one elements shape subchunk cells stored are, h)) })
assembled_encodes subchunk inner index location row one two elements shape payload cells stored (Err error.Memory) inner_lawful index_lawful fit valid are h = tt
assembled_encodes subchunk inner index location row one two elements shape payload cells stored (Err error.Fit) inner_lawful index_lawful fit valid are h = elim h [ ]
assembled_encodes subchunk inner index location row one two elements shape payload cells stored (Err error.Damage) inner_lawful index_lawful fit valid are h = elim h [ ]
assembled_encodes subchunk inner index location row one two elements shape payload cells stored (Err error.Source) inner_lawful index_lawful fit valid are h = elim h [ ]
assembled_encodes subchunk inner index location row one two elements shape payload cells stored (Err error.IncompatibleIndexer) inner_lawful index_lawful fit valid are h = elim h [ ]
assembled_encodes subchunk inner index location row one two elements shape payload cells stored (Err error.Unsupported) inner_lawful index_lawful fit valid are h = elim h [ ]
assembled_encodes subchunk inner index location row one two elements shape payload cells stored (Err (error.Other text)) inner_lawful index_lawful fit valid are h = elim h [ ]
assembled_encodes subchunk inner index location row one two elements shape payload cells stored (Err error.ExpectedFixedLengthBytes) inner_lawful index_lawful fit valid are h = elim h [ ]
assembled_encodes subchunk inner index location row one two elements shape payload cells stored (Err error.ExpectedVariableLengthBytes) inner_lawful index_lawful fit valid are h = elim h [ ]
assembled_encodes subchunk inner index location row one two elements shape payload cells stored (Err error.ExpectedOptionalBytes) inner_lawful index_lawful fit valid are h = elim h [ ]
assembled_encodes subchunk inner index location row one two elements shape payload cells stored (Err error.InvalidNumberOfElements) inner_lawful index_lawful fit valid are h = elim h [ ]
assembled_encodes subchunk inner index location row one two elements shape payload cells stored (Err error.CellOutOfRange) inner_lawful index_lawful fit valid are h = elim h [ ]
