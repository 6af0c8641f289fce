-- What is stored of one subchunk after another.
use Rattle.std.proofs.Common.{◌≡◌, ℕ, ◌+◌, ◌*◌, ◌^◌, ◌<◌, ◌≤◌, List, [], ◌∷◌, ◌++◌, length, get_or, take, ap, ◌∙◌, sym, arith, subst, inl, inr, Option, Some, None, Bool, true, false, Err, MatchOption, take_all}
use Rattle.std.proofs.lemmas.List.{take_more, get_or-map, length-map}
use Rattle.std.proofs.Math.Nat.{mul-le-mul_right}
use Rattle.zarr_grids_boxes.specs.Boxes.{product}
use Rattle.zarr_codecs_meaning.specs.Chains.{Chain, Location, sharded}
use Rattle.zarr_codecs_meaning.specs.Encoding.{Pair, Piece, pair_at, piece_of, pieces_of, slice_bytes}
use Rattle.zarr_codecs_meaning.specs.Fits.{can_cut, fits}
use Rattle.zarr_codecs_meaning.specs.Payloads.{Payload, cells_in}
use Rattle.zarr_codecs_meaning.specs.Places.{Part, gather, grid_of, parts_of}
use Rattle.zarr_codecs_meaning.specs.Refusals.{CodecRefuses, PassesIndex, PieceRefused}
use Rattle.zarr_codecs_meaning.specs.Types.{Cell, DataType, Elements, byte_width, is_fill, is_value, IsTooLarge}
use Rattle.zarr_codecs_meaning.proofs.ArrayCodecs.{length-gather, values_gathered}
use Rattle.zarr_codecs_meaning.proofs.Parts.{length-parts, no_part, same_length}
use Rattle.zarr_codecs_meaning.proofs.Fitting.{fitted}
use Rattle.zarr_codecs_arrays.specs.Outcomes.{IsValid}
use Rattle.zarr_codecs_arrays.specs.declared.error.CodecError.{CodecError}
use Rattle.zarr_codecs_arrays.specs.declared.error.CodecError.TheVariants as error
use Rattle.zarr_sharding_codec.specs.Slices.{AreLaidOut, ArePiecesStored, IsPieceStored, StoresPiece, StoresPieces, piece_coding}
use Rattle.zarr_sharding_places.specs.Locating.{part_shape}
use Rattle.zarr_sharding_codec.proofs.NumberedParts.{part_at, part_count, part_fewer, part_number}
use Rattle.zarr_sharding_codec.proofs.StoredParts.{refused_at, slice_pushed, stored_more}

-- a subchunk of a shape that can be cut
pub record IsSubchunk (shape subchunk : List ℕ) (n : ℕ) : Type 0 where
  pub cuts : can_cut shape subchunk ≡ true
  pub below : n < product (grid_of shape subchunk)

-- the subchunk's shape and cells
abbrev pub piece_at : Cell → List Cell → List ℕ → List ℕ → ℕ → Piece
piece_at fill cells shape subchunk n = (part_shape shape subchunk n, gather fill cells (part_at shape subchunk n).places)

length-pieces : (fill : Cell) (cells : List Cell) (shape subchunk : List ℕ) → length (pieces_of fill cells (parts_of shape subchunk)) ≡ product (grid_of shape subchunk)
length-pieces fill cells shape subchunk = length-map (parts_of shape subchunk) (piece_of fill cells) ∙ length-parts shape subchunk

-- no subchunk
abbrev pub no_piece : Piece
no_piece = ([], [])

pub piece_number : (fill : Cell) (cells : List Cell) (shape subchunk : List ℕ) (n : ℕ) → IsSubchunk shape subchunk n → get_or (pieces_of fill cells (parts_of shape subchunk)) n no_piece ≡ piece_at fill cells shape subchunk n
piece_number fill cells shape subchunk n is =
    let count = length-parts shape subchunk in
    let below = is.below in
    get_or-map (piece_of fill cells) (parts_of shape subchunk) n no_part no_piece (omega (arith, count, below)) ∙ ap (piece_of fill cells) (part_number shape subchunk n no_part is.below)

-- the cells of a subchunk are as many as it has places, and values
pub piece_valid : (elements : Elements) (shape subchunk edges numbers : List ℕ) (n : ℕ) (cells : List Cell) (whole payload : Payload) → is_value elements.type elements.fill ≡ true → IsSubchunk shape subchunk n → IsValid elements.type whole (product shape) cells
    → edges ≡ part_shape shape subchunk n → numbers ≡ (part_at shape subchunk n).places → cells_in elements.type payload ≡ Some (gather elements.fill cells numbers)
    → IsValid elements.type payload (product edges) (gather elements.fill cells (part_at shape subchunk n).places)
piece_valid elements shape subchunk edges numbers n cells whole payload fill is valid same are lists =
    let places = (part_at shape subchunk n).places in
    let count = length-parts shape subchunk in
    let below = is.below in
    let many : length places ≡ product (part_shape shape subchunk n) =
    sym (ap (λ (part : Part). length part.places) (part_number shape subchunk n no_part is.below)) ∙ part_count shape subchunk n no_part is.cuts (omega (arith, count, below)) in
    record {
      is = record {
        lists = lists ∙ ap (λ ns. Some (gather elements.fill cells ns)) are;
        many = length-gather elements.fill cells places ∙ (many ∙ ap product (sym same));
      };
      values = values_gathered (is_value elements.type) elements.fill cells places fill valid.values;
    }

-- what is stored of one subchunk more is laid out behind the others
pub stored_step : (inner : Chain) (exact : Bool) (elements : Elements) (shape subchunk edges : List ℕ) (n base : ℕ) (cells : List Cell) («data» more : List ℕ) (pairs index : List Pair) (slice : Option (List ℕ)) → IsSubchunk shape subchunk n → edges ≡ part_shape shape subchunk n
    → AreLaidOut (piece_coding inner exact elements) (take n (pieces_of elements.fill cells (parts_of shape subchunk))) base «data» pairs → IsPieceStored inner exact elements (edges, gather elements.fill cells (part_at shape subchunk n).places) slice
    → more ≡ «data» ++ slice_bytes slice → index ≡ pairs ++ pair_at (base + length «data») slice ∷ []
    → AreLaidOut (piece_coding inner exact elements) (take (n + 1) (pieces_of elements.fill cells (parts_of shape subchunk))) base more index
stored_step inner exact elements shape subchunk edges n base cells «data» more pairs index slice is same laid one is_more is_index =
    let pieces = pieces_of elements.fill cells (parts_of shape subchunk) in
    let places = (part_at shape subchunk n).places in
    let count = length-pieces elements.fill cells shape subchunk in
    let below = is.below in
    let here = subst (λ (s : List ℕ). IsPieceStored inner exact elements (s, gather elements.fill cells places) slice) same one in
    let there = subst (λ (piece : Piece). IsPieceStored inner exact elements piece slice) (sym (piece_number elements.fill cells shape subchunk n is)) here in
    let all = stored_more inner exact elements (take n pieces) laid.stored (get_or pieces n no_piece) slice laid.are there in
    let front = take_more pieces n no_piece (omega (arith, count, below)) in
    let now = slice_pushed base laid.stored slice «data» more pairs index laid.in_row laid.indexed is_more is_index in
    record {
      stored = laid.stored ++ slice ∷ [];
      are = subst (λ (ps : List Piece). ArePiecesStored inner exact elements ps (laid.stored ++ slice ∷ [])) (sym front) all;
      in_row = now.0;
      indexed = now.1;
    }

pub stored_end : (inner : Chain) (exact : Bool) (elements : Elements) (shape subchunk : List ℕ) (n base : ℕ) (cells : List Cell) («data» : List ℕ) (pairs : List Pair) → product (grid_of shape subchunk) ≤ n
    → AreLaidOut (piece_coding inner exact elements) (take n (pieces_of elements.fill cells (parts_of shape subchunk))) base «data» pairs → AreLaidOut (piece_coding inner exact elements) (pieces_of elements.fill cells (parts_of shape subchunk)) base «data» pairs
stored_end inner exact elements shape subchunk n base cells «data» pairs past laid =
    let pieces = pieces_of elements.fill cells (parts_of shape subchunk) in
    let count = length-pieces elements.fill cells shape subchunk in
    subst (λ (ps : List Piece). AreLaidOut (piece_coding inner exact elements) ps base «data» pairs) (take_all n pieces (omega (arith, count, past))) laid

-- ---- a subchunk that is refused

larger : (width : Option ℕ) (a b : ℕ) → a ≤ b → MatchOption width ⊥ (λ w. 2 ^ 63 ≤ a * w) → MatchOption width ⊥ (λ w. 2 ^ 63 ≤ b * w)
larger None a b le h = h
larger (Some w) a b le h = let more : a * w ≤ b * w = mul-le-mul_right w le in omega (arith, more, h)

pub too_large : (type : DataType) (a b : ℕ) → a ≤ b → IsTooLarge type a → IsTooLarge type b
too_large type a b le (inl h) = inl (omega (arith, le, h))
too_large type a b le (inr h) = inr (larger (byte_width type) a b le h)

refused_piece : (refuses : List ℕ → List Cell → Type 0) (fill : Cell) (cells : List Cell) (shape subchunk edges : List ℕ) (n : ℕ) → IsSubchunk shape subchunk n → edges ≡ part_shape shape subchunk n → is_fill fill (gather fill cells (part_at shape subchunk n).places) ≡ false
    → refuses edges (gather fill cells (part_at shape subchunk n).places) → PieceRefused refuses fill (pieces_of fill cells (parts_of shape subchunk))
refused_piece refuses fill cells shape subchunk edges n is same some one =
    let pieces = pieces_of fill cells (parts_of shape subchunk) in
    let number = sym (piece_number fill cells shape subchunk n is) in
    let count = length-pieces fill cells shape subchunk in
    let below = is.below in
    refused_at refuses fill pieces n no_piece (omega (arith, count, below)) (subst (λ (piece : Piece). is_fill fill piece.1 ≡ false) number some)
    (subst (λ (piece : Piece). refuses piece.0 piece.1) number (subst (λ (s : List ℕ). refuses s (gather fill cells (part_at shape subchunk n).places)) same one))

pub refused_step : (inner : Chain) (exact : Bool) (elements : Elements) (shape subchunk edges : List ℕ) (n base : ℕ) (cells : List Cell) (e : CodecError) → IsSubchunk shape subchunk n → edges ≡ part_shape shape subchunk n
    → StoresPiece inner exact elements (edges, gather elements.fill cells (part_at shape subchunk n).places) (Err e) → StoresPieces (piece_coding inner exact elements) shape (pieces_of elements.fill cells (parts_of shape subchunk)) base (Err e)
refused_step inner exact elements shape subchunk edges n base cells error.Codec is same h = refused_piece (CodecRefuses inner elements) elements.fill cells shape subchunk edges n is same h.0 h.1
refused_step inner exact elements shape subchunk edges n base cells error.Size is same (inl h) =
    inl (too_large elements.type (product edges) (product shape) (subst (λ m. m ≤ product shape) (ap product (sym same)) (part_fewer shape subchunk n is.cuts)) h)
refused_step inner exact elements shape subchunk edges n base cells error.Size is same (inr h) = inr (refused_piece (PassesIndex inner elements) elements.fill cells shape subchunk edges n is same h.0 h.1)
refused_step inner exact elements shape subchunk edges n base cells error.Memory is same h = tt
refused_step inner exact elements shape subchunk edges n base cells error.Fit is same h = h
refused_step inner exact elements shape subchunk edges n base cells error.Damage is same h = h
refused_step inner exact elements shape subchunk edges n base cells error.Source is same h = h
refused_step inner exact elements shape subchunk edges n base cells error.IncompatibleIndexer is same h = h
refused_step inner exact elements shape subchunk edges n base cells error.Unsupported is same h = h
refused_step inner exact elements shape subchunk edges n base cells (error.Other text) is same h = h
refused_step inner exact elements shape subchunk edges n base cells error.ExpectedFixedLengthBytes is same h = h
refused_step inner exact elements shape subchunk edges n base cells error.ExpectedVariableLengthBytes is same h = h
refused_step inner exact elements shape subchunk edges n base cells error.ExpectedOptionalBytes is same h = h
refused_step inner exact elements shape subchunk edges n base cells error.InvalidNumberOfElements is same h = h
refused_step inner exact elements shape subchunk edges n base cells error.CellOutOfRange is same h = h

-- a shard that fits can be cut
pub is_subchunk : (subchunk : List ℕ) (inner index : Chain) (location : Location) (elements : Elements) (shape : List ℕ) (n : ℕ) → fits (sharded subchunk inner index location) elements.type shape ≡ true → n < product (grid_of shape subchunk) → IsSubchunk shape subchunk n
is_subchunk subchunk inner index location elements shape n fit below = record {
  cuts = (fitted subchunk inner index location elements shape fit).cuts;
  below = below;
}

pub rank_fits : (subchunk : List ℕ) (inner index : Chain) (location : Location) (elements : Elements) (shape : List ℕ) → fits (sharded subchunk inner index location) elements.type shape ≡ true → length shape ≡ length subchunk
rank_fits subchunk inner index location elements shape fit = same_length shape subchunk (fitted subchunk inner index location elements shape fit).cuts
