-- A data part that grows and pairs that are replaced, change by change.
use Rattle.std.proofs.Common.{◌≡◌, ℕ, zero, suc, ◌+◌, ◌-◌, ◌<◌, ◌^◌, List, [], ◌∷◌, ◌++◌, length, get_or, set, ap, ◌∙◌, sym, refl, arith, inl, inr, subst, Option, Some, None, append_assoc, append-nil, length-append}
use Rattle.zarr_codecs_meaning.specs.Types.{Cell}
use Rattle.zarr_codecs_meaning.specs.Encoding.{Pair, Piece, slice_bytes, pair_at}
use Rattle.zarr_codecs_meaning.specs.Standing.{HasSlice, PieceStands, SliceStands, PiecesStand, data_part}
use Rattle.zarr_sharding_changes.specs.Changes.{Change, appended, pairs_after, no_piece, pieces_after, ChangesStand}

-- a slice stays where it is when the data part grows
pub slice_grown : (base : ℕ) («data» more : List ℕ) (pair : Pair) (slice : List ℕ) → HasSlice base «data» pair slice → HasSlice base («data» ++ more) pair slice
slice_grown base «data» more pair slice h = record {
  before = h.before;
  after = h.after ++ more;
  is = ap (λ (bytes : List ℕ). bytes ++ more) h.is ∙ (append_assoc h.before (slice ++ h.after) more ∙ ap (λ (bytes : List ℕ). h.before ++ bytes) (append_assoc slice h.after more));
  begins = h.begins;
  long = h.long;
  low = h.low;
}

pub piece_grown : (inner : List ℕ → List ℕ → List Cell → Type 0) (fill : Cell) (base : ℕ) («data» more : List ℕ) (piece : Piece) (pair : Pair) → PieceStands inner fill (data_part base «data») piece pair → PieceStands inner fill (data_part base («data» ++ more)) piece pair
piece_grown inner fill base «data» more piece pair (inl filled) = inl filled
piece_grown inner fill base «data» more piece pair (inr stored) = inr (stored.0, (stored.1.0, slice_grown base «data» more pair stored.1.0 stored.1.1, stored.1.2))

pub pieces_grown : (inner : List ℕ → List ℕ → List Cell → Type 0) (fill : Cell) (base : ℕ) («data» more : List ℕ) (pieces : List Piece) (pairs : List Pair) → PiecesStand inner fill (data_part base «data») pieces pairs → PiecesStand inner fill (data_part base («data» ++ more)) pieces pairs
pieces_grown inner fill base «data» more [] [] h = tt
pieces_grown inner fill base «data» more [] (pair ∷ pairs) h = elim h [ ]
pieces_grown inner fill base «data» more (piece ∷ pieces) [] h = elim h [ ]
pieces_grown inner fill base «data» more (piece ∷ pieces) (pair ∷ pairs) h = (piece_grown inner fill base «data» more piece pair h.0, pieces_grown inner fill base «data» more pieces pairs h.1)

-- one subchunk and its pair are replaced
pub piece_replaced : (inner : List ℕ → List ℕ → List Cell → Type 0) (fill : Cell) (base : ℕ) («data» : List ℕ) (pieces : List Piece) (pairs : List Pair) (n : ℕ) (piece : Piece) (pair : Pair)
    → PieceStands inner fill (data_part base «data») piece pair → PiecesStand inner fill (data_part base «data») pieces pairs → PiecesStand inner fill (data_part base «data») (set pieces n piece) (set pairs n pair)
piece_replaced inner fill base «data» [] [] n piece pair one h = tt
piece_replaced inner fill base «data» [] (old ∷ pairs) n piece pair one h = elim h [ ]
piece_replaced inner fill base «data» (was ∷ pieces) [] n piece pair one h = elim h [ ]
piece_replaced inner fill base «data» (was ∷ pieces) (old ∷ pairs) zero piece pair one h = (one, h.1)
piece_replaced inner fill base «data» (was ∷ pieces) (old ∷ pairs) (suc n) piece pair one h = (h.0, piece_replaced inner fill base «data» pieces pairs n piece pair one h.1)

-- a slice that was appended lies behind all that was there
pub slice_appended : (inner : List ℕ → List ℕ → List Cell → Type 0) (fill : Cell) (base offset : ℕ) («data» : List ℕ) (piece : Piece) (slice : Option (List ℕ))
    → offset ≡ base + length «data» → offset + length (slice_bytes slice) < 2 ^ 64 - 1 → SliceStands inner fill piece slice → PieceStands inner fill (data_part base («data» ++ slice_bytes slice)) piece (pair_at offset slice)
slice_appended inner fill base offset «data» piece None begins low stands = inl (stands, refl)
slice_appended inner fill base offset «data» piece (Some slice) begins low stands =
    inr (stands.0, (slice, record { before = «data»; after = []; is = ap (λ (bytes : List ℕ). «data» ++ bytes) (sym (append-nil slice)); begins = begins; long = refl; low = low }, stands.1))

-- what is not changed keeps its pair and its slice, what is changed has the slice that was appended for it last
pub written : (inner : List ℕ → List ℕ → List Cell → Type 0) (fill : Cell) (base : ℕ) (wanted : List Piece) (changes : List Change) (offset : ℕ) («data» : List ℕ) (pieces : List Piece) (pairs : List Pair)
    → offset ≡ base + length «data» → offset + length (appended changes) < 2 ^ 64 - 1 → PiecesStand inner fill (data_part base «data») pieces pairs → ChangesStand inner fill wanted changes
    → PiecesStand inner fill (data_part base («data» ++ appended changes)) (pieces_after wanted changes pieces) (pairs_after offset changes pairs)
written inner fill base wanted [] offset «data» pieces pairs begins low h stands = subst (λ (bytes : List ℕ). PiecesStand inner fill (data_part base bytes) pieces pairs) (sym (append-nil «data»)) h
written inner fill base wanted (change ∷ changes) offset «data» pieces pairs begins low h stands =
    let slice = slice_bytes change.1 in
    let others = appended changes in
    let piece = get_or wanted change.0 no_piece in
    let pair = pair_at offset change.1 in
    let joined = length-append slice others in
    let grown = length-append «data» slice in
    let one = slice_appended inner fill base offset «data» piece change.1 begins (omega arith) stands.1 in
    let now = piece_replaced inner fill base («data» ++ slice) pieces pairs change.0 piece pair one (pieces_grown inner fill base «data» slice pieces pairs h) in
    subst (λ (bytes : List ℕ). PiecesStand inner fill (data_part base bytes) (pieces_after wanted changes (set pieces change.0 piece)) (pairs_after (offset + length slice) changes (set pairs change.0 pair))) (append_assoc «data» slice others)
    (written inner fill base wanted changes (offset + length slice) («data» ++ slice) (set pieces change.0 piece) (set pairs change.0 pair) (omega arith) (omega arith) now stands.2)
