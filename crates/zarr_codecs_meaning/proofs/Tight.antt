-- What is encoded is tight, and what is tight stands.
use Rattle.std.proofs.Common.{◌≡◌, ℕ, List, [], ◌∷◌, Some, Bool, true, false, inl, inr}
use Rattle.std.proofs.lemmas.Bool.{and_parts}
use Rattle.std.specs.Prelude.{MatchBool}
use Rattle.zarr_codecs_meaning.specs.Types.{Elements, Cell, uint64}
use Rattle.zarr_codecs_meaning.specs.Chains.{Chain}
use Rattle.zarr_codecs_meaning.specs.Chains.Chain.{bytes, packbits, vlen, optional, after_array_codec, then_bytes, sharded}
use Rattle.zarr_codecs_meaning.specs.Places.{gather, encoded_shape, source_places, Part, parts_of}
use Rattle.zarr_codecs_meaning.specs.Fits.{fits, is_lossless, is_plain, array_codec_fits}
use Rattle.zarr_codecs_meaning.specs.Encoding.{Pair, Piece, pieces_of, encoded}
use Rattle.zarr_codecs_meaning.specs.Standing.{PieceStands, PiecesStand, IsEncoding, Stands, Tight, data_part}
use Rattle.zarr_codecs_meaning.specs.Laws.{IsLawfulChain, AreCells}
use Rattle.zarr_codecs_meaning.proofs.Lists.{bind_some, Each}
use Rattle.zarr_codecs_meaning.proofs.Sizes.{cells_moved}
use Rattle.zarr_codecs_meaning.proofs.Shards.{part_cells}
use Rattle.zarr_codecs_meaning.proofs.Fitting.{fitted, each_part, each_piece}
use Rattle.zarr_codecs_meaning.proofs.Meaning.{laws_of, either, shard_stands}

-- what stands by one relation of slices, stands by a weaker one
relaxed : (one two : List ℕ → List ℕ → List Cell → Type 0) (fill : Cell) (base : ℕ) («data» : List ℕ) (pieces : List Piece) (pairs : List Pair) → Each (λ piece. (v : List ℕ) → one piece.0 v piece.1 → two piece.0 v piece.1) pieces → PiecesStand one fill (data_part base «data») pieces pairs → PiecesStand two fill (data_part base «data») pieces pairs
relaxed one two fill base «data» [] [] law h = tt
relaxed one two fill base «data» [] (p ∷ ps) law h = elim h [ ]
relaxed one two fill base «data» (x ∷ xs) [] law h = elim h [ ]
relaxed one two fill base «data» (x ∷ xs) (p ∷ ps) law h =
    let first : PieceStands two fill (data_part base «data») x p = elim h.0 [ inl k ↦ inl k | inr k ↦ inr (k.0, (k.1.0, k.1.1, law.0 k.1.0 k.1.2)) ] in
    (first, relaxed one two fill base «data» xs ps law.1 h.1)

match_map : (b : Bool) (P Q R : Type 0) → (Q → R) → MatchBool b P Q → MatchBool b P R
match_map true P Q R f h = h
match_map false P Q R f h = f h

pub tight_stands : (chain : Chain) (elements : Elements) (shape value : List ℕ) (cells : List Cell) → IsLawfulChain chain → fits chain elements.type shape ≡ true → is_lossless chain elements.type ≡ true → AreCells elements shape cells
    → Tight chain elements shape value cells → Stands chain elements shape value cells
tight_stands (bytes order) elements shape value cells lawful fit lossless are h = h
tight_stands (packbits padding first last) elements shape value cells lawful fit lossless are h = h
tight_stands (vlen index «data» width location) elements shape value cells lawful fit lossless are h = h
tight_stands (optional mask values) elements shape value cells lawful fit lossless are h = h
tight_stands (after_array_codec codec chain) elements shape value cells lawful fit lossless are h =
    let both = and_parts (array_codec_fits codec shape) (fits chain elements.type (encoded_shape codec shape)) fit in
    tight_stands chain elements (encoded_shape codec shape) value (gather elements.fill cells (source_places codec shape)) lawful both.1 lossless (cells_moved codec elements shape cells both.0 are) h
tight_stands (then_bytes chain codec) elements shape value cells lawful fit lossless are h =
    match_map (is_plain chain) _ _ _ (λ k. (k.0, k.1, tight_stands chain elements shape k.0 cells lawful.0 fit lossless are k.2)) h
tight_stands (sharded subchunk inner index location) elements shape value cells lawful fit lossless are h =
    let l = and_parts (is_lossless inner elements.type) (is_lossless index uint64) lossless in
    let f = fitted subchunk inner index location elements shape fit in
    let each = each_piece (λ piece. (v : List ℕ) → IsEncoding inner elements piece.0 v piece.1 → Stands inner elements piece.0 v piece.1) elements.fill cells (parts_of shape subchunk)
    (each_part subchunk inner index elements shape cells (λ (part : Part). (v : List ℕ) → IsEncoding inner elements part.shape v (part_cells elements.fill cells part) → Stands inner elements part.shape v (part_cells elements.fill cells part)) f are
    (λ part one two v e. (laws_of inner lawful.0).stands elements part.shape v (part_cells elements.fill cells part) one (inl l.0) two e)) in
    (h.0, h.1, h.2, relaxed (IsEncoding inner elements) (Stands inner elements) elements.fill _ h.1 (pieces_of elements.fill cells (parts_of shape subchunk)) h.0 each h.3)

pub encoded_tight : (chain : Chain) (elements : Elements) (shape value : List ℕ) (cells : List Cell) → IsLawfulChain chain → fits chain elements.type shape ≡ true → is_lossless chain elements.type ≡ true → AreCells elements shape cells
    → encoded chain elements shape cells ≡ Some value → Tight chain elements shape value cells
encoded_tight (bytes order) elements shape value cells lawful fit lossless are h = h
encoded_tight (packbits padding first last) elements shape value cells lawful fit lossless are h = h
encoded_tight (vlen index «data» width location) elements shape value cells lawful fit lossless are h = h
encoded_tight (optional mask values) elements shape value cells lawful fit lossless are h = h
encoded_tight (after_array_codec codec chain) elements shape value cells lawful fit lossless are h =
    let both = and_parts (array_codec_fits codec shape) (fits chain elements.type (encoded_shape codec shape)) fit in
    encoded_tight chain elements (encoded_shape codec shape) value (gather elements.fill cells (source_places codec shape)) lawful both.1 lossless (cells_moved codec elements shape cells both.0 are) h
encoded_tight (then_bytes chain codec) elements shape value cells lawful fit lossless are h =
    let found = bind_some codec.encode (encoded chain elements shape cells) value h in
    either (is_plain chain) _ _ h (found.0, lawful.1.undoes found.0 value found.2, encoded_tight chain elements shape found.0 cells lawful.0 fit lossless are found.1)
encoded_tight (sharded subchunk inner index location) elements shape value cells lawful fit lossless are h =
    shard_stands subchunk inner index location elements shape value cells (IsEncoding inner elements) lawful.1 (laws_of index lawful.1) fit (and_parts (is_lossless inner elements.type) (is_lossless index uint64) lossless).1 are (λ part made found one two e. e) h
