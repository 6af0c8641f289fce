-- What is stored of a shard's subchunks.
use Rattle.std.proofs.Common.{◌≡◌, ℕ, zero, suc, ◌+◌, ◌*◌, ◌<◌, List, [], ◌∷◌, ◌++◌, length, get_or, ap, ◌∙◌, sym, refl, arith, subst, inl, inr, Option, Some, option_and_then, ◌%◌, Bool, true, false, Vec, Global, Ok, Err}
use Rattle.std.specs.List.{list_all}
use Rattle.zarr_grids_boxes.specs.Boxes.{product}
use Rattle.zarr_codecs_meaning.specs.Chains.{Chain}
use Rattle.zarr_codecs_meaning.specs.Encoding.{Pair, Piece, joined_slices, pair_at, pairs_from, slice_bytes}
use Rattle.zarr_codecs_meaning.specs.Fits.{fits}
use Rattle.std.proofs.lemmas.Nat.{mod-mul-add}
use Rattle.zarr_codecs_meaning.specs.Payloads.{Payload, cells_in, fixed, fixed_cells, fixed_in}
use Rattle.zarr_codecs_meaning.specs.Places.{gather}
use Rattle.zarr_codecs_arrays.proofs.FixedCells.{fixed_in-some, fixed_in-whole}
use Rattle.zarr_codecs_meaning.specs.Refusals.{CodecRefuses, PassesIndex, PieceRefused}
use Rattle.zarr_codecs_meaning.specs.Types.{Cell, DataType, Elements, byte_width, is_fill, is_value}
use Rattle.zarr_codecs_meaning.proofs.Lists.{some_same}
use Rattle.zarr_codecs_arrays.specs.Outcomes.{IsValid}
use Rattle.zarr_codecs_arrays.specs.declared.error.CodecError.{CodecError}
use Rattle.zarr_codecs_arrays.specs.declared.error.CodecError.TheVariants as error
use Rattle.zarr_codecs_traits.specs.Arrays.{coded}
use Rattle.zarr_codecs_traits.specs.Outcomes.{Encodes, IsEncoded}
use Rattle.zarr_codecs_traits.specs.Sources.{refused_after}
use Rattle.zarr_sharding_compaction.proofs.Copying.{joined_more, pairs_more}
use Rattle.zarr_sharding_codec.specs.Slices.{ArePiecesStored, IsPieceStored, StoresPiece}

-- a subchunk that isn't all fill is stored as its chain encodes it
pub piece_stored : (inner : Chain) (exact : Bool) (elements : Elements) (shape : List ℕ) (payload : Payload) (cells : List Cell) (slice : Vec ℕ Global) → is_fill elements.fill cells ≡ false → IsValid elements.type payload (product shape) cells
    → Encodes (coded inner elements shape) exact payload (Ok slice) → StoresPiece inner exact elements (shape, cells) (Ok (Some slice))
piece_stored inner exact elements shape payload cells slice some valid given =
    let same : given.0 ≡ cells = some_same (sym given.1.valid.is.lists ∙ valid.is.lists) in
    let h = subst (λ found. IsEncoded (coded inner elements shape) exact payload found slice.items) same given.1 in
    record { some = some; made = h.made; encodes = h.encodes; stands = h.stands; sized = h.sized; gapless = h.gapless }

-- and is refused as its chain refuses it
pub piece_refused : (inner : Chain) (exact : Bool) (elements : Elements) (shape : List ℕ) (payload : Payload) (cells : List Cell) (e : CodecError) → fits inner elements.type shape ≡ true → is_fill elements.fill cells ≡ false
    → IsValid elements.type payload (product shape) cells → Encodes (coded inner elements shape) exact payload (Err e) → StoresPiece inner exact elements (shape, cells) (Err e)
piece_refused inner exact elements shape payload cells error.Fit fit some valid given = cc
piece_refused inner exact elements shape payload cells error.Codec fit some valid given =
    (some, subst (λ found. CodecRefuses inner elements shape found) (some_same (sym given.1.valid.is.lists ∙ valid.is.lists)) given.1.is)
piece_refused inner exact elements shape payload cells error.Size fit some valid (inl large) = inl large
piece_refused inner exact elements shape payload cells error.Size fit some valid (inr given) =
    inr (some, subst (λ found. PassesIndex inner elements shape found) (some_same (sym given.1.valid.is.lists ∙ valid.is.lists)) given.1.is)
piece_refused inner exact elements shape payload cells error.Memory fit some valid given = tt
piece_refused inner exact elements shape payload cells error.Damage fit some valid given = elim given.1 [ ]
piece_refused inner exact elements shape payload cells error.Source fit some valid given = elim given.1 [ ]
piece_refused inner exact elements shape payload cells error.IncompatibleIndexer fit some valid given = elim given.1 [ ]
piece_refused inner exact elements shape payload cells error.Unsupported fit some valid given = elim given.1 [ ]
piece_refused inner exact elements shape payload cells (error.Other text) fit some valid given = elim given.1 [ ]
piece_refused inner exact elements shape payload cells error.ExpectedFixedLengthBytes fit some valid given = let none = given.1.0 in let lists = valid.is.lists in cc
piece_refused inner exact elements shape payload cells error.ExpectedVariableLengthBytes fit some valid given = let none = given.1.0 in let lists = valid.is.lists in cc
piece_refused inner exact elements shape payload cells error.ExpectedOptionalBytes fit some valid given = let none = given.1.0 in let lists = valid.is.lists in cc
piece_refused inner exact elements shape payload cells error.InvalidNumberOfElements fit some valid (fits_it, inl misformed) = let none = misformed.0 in let lists = valid.is.lists in cc
piece_refused inner exact elements shape payload cells error.InvalidNumberOfElements fit some valid (fits_it, inr other) = absurd (other.2 (ap length (some_same (sym other.1 ∙ valid.is.lists)) ∙ valid.is.many))
piece_refused inner exact elements shape payload cells error.CellOutOfRange fit some valid given =
    let same : given.1.0 ≡ cells = some_same (sym given.1.1.lists ∙ valid.is.lists) in
    let no = given.1.2 in
    let yes = subst (λ found. list_all (is_value elements.type) found ≡ true) (sym same) valid.values in cc

-- elements are not refused by a source
pub encodes_unrefused : (A : Type 0) (chain : Chain) (exact : Bool) (elements : Elements) (shape : List ℕ) (payload : Payload) (e : CodecError) (count : ℕ) → Encodes (coded chain elements shape) exact payload (Err e) → refused_after {A = A} count (Err e) ≡ count
encodes_unrefused A chain exact elements shape payload error.Source count h = elim h.1 [ ]
encodes_unrefused A chain exact elements shape payload e count h = refl

-- ---- one subchunk more

pub stored_more : (inner : Chain) (exact : Bool) (elements : Elements) (pieces : List Piece) (slices : List (Option (List ℕ))) (piece : Piece) (slice : Option (List ℕ)) → ArePiecesStored inner exact elements pieces slices
    → IsPieceStored inner exact elements piece slice → ArePiecesStored inner exact elements (pieces ++ piece ∷ []) (slices ++ slice ∷ [])
stored_more inner exact elements [] [] piece slice are is = (is, tt)
stored_more inner exact elements [] (s ∷ ss) piece slice are is = elim are [ ]
stored_more inner exact elements (p ∷ ps) [] piece slice are is = elim are [ ]
stored_more inner exact elements (p ∷ ps) (s ∷ ss) piece slice are is = (are.0, stored_more inner exact elements ps ss piece slice are.1 is)

-- a subchunk that is refused is one of those of which it is asked
pub refused_at : (refuses : List ℕ → List Cell → Type 0) (fill : Cell) (pieces : List Piece) (n : ℕ) (d : Piece) → n < length pieces → is_fill fill (get_or pieces n d).1 ≡ false → refuses (get_or pieces n d).0 (get_or pieces n d).1
    → PieceRefused refuses fill pieces
refused_at refuses fill [] n d below some is = absurd (omega arith)
refused_at refuses fill (p ∷ ps) zero d below some is = inl (some, is)
refused_at refuses fill (p ∷ ps) (suc n) d below some is = inr (refused_at refuses fill ps n d (omega arith) some is)

-- its slice behind the others, and its pair
pub slice_pushed : (base : ℕ) (stored : List (Option (List ℕ))) (slice : Option (List ℕ)) («data» more : List ℕ) (pairs index : List Pair) → «data» ≡ joined_slices stored → pairs ≡ pairs_from base stored → more ≡ «data» ++ slice_bytes slice → index ≡ pairs ++ pair_at (base + length «data») slice ∷ []
    → (more ≡ joined_slices (stored ++ slice ∷ [])) × (index ≡ pairs_from base (stored ++ slice ∷ []))
slice_pushed base stored slice «data» more pairs index in_row indexed is_more is_index = (
  is_more ∙ (ap (λ ns. ns ++ slice_bytes slice) in_row ∙ sym (joined_more stored slice)),
  is_index ∙ (ap (λ ps. ps ++ pair_at (base + length «data») slice ∷ []) indexed ∙ (ap (λ (ns : List ℕ). pairs_from base stored ++ pair_at (base + length ns) slice ∷ []) in_row ∙ sym (pairs_more base stored slice))),
)

-- ---- the elements of a box

whole_multiple : (k width n : ℕ) → 0 < width → n ≡ k * width → n % width ≡ 0
whole_multiple k width n some is =
    let e : n ≡ k * width + 0 = omega (arith, is) in
    ap (λ m. m % width) e ∙ mod-mul-add k width 0 some

pub box_taken : (type : DataType) (width count : ℕ) (fill : Cell) (whole : Payload) (bytes lent piece numbers : List ℕ) (cells : List Cell) → byte_width type ≡ Some width → 0 < width → length piece ≡ count * width → whole ≡ fixed bytes → lent ≡ bytes
    → cells_in type whole ≡ Some cells → fixed_cells width piece ≡ gather fill (fixed_cells width lent) numbers → cells_in type (fixed piece) ≡ Some (gather fill cells numbers)
box_taken type width count fill whole bytes lent piece numbers cells wide some long form same lists are =
    let found : fixed_in width bytes ≡ Some cells = sym (ap (λ (o : Option ℕ). option_and_then (λ w. fixed_in w bytes) o) wide) ∙ (sym (ap (cells_in type) form) ∙ lists) in
    let is = (fixed_in-whole width bytes cells found).is in
    ap (λ (o : Option ℕ). option_and_then (λ w. fixed_in w piece) o) wide
    ∙ (fixed_in-some width piece some (whole_multiple count width (length piece) some long)
    ∙ ap Some (are ∙ ap (λ (cs : List Cell). gather fill cs numbers) (ap (fixed_cells width) same ∙ sym is)))
