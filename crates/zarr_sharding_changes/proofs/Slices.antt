-- The slices of a shard that stands, read by its pairs.
use Rattle.std.proofs.Common.{◌≡◌, ℕ, ◌+◌, ◌-◌, ◌≤◌, List, [], ◌∷◌, ◌++◌, length, take, drop, ap, ◌∙◌, sym, refl, arith, inl, inr, Option, Some, None, Bool, ◌&&◌, option_and_then, option_map, if◌then◌else◌, length-append}
use Rattle.std.proofs.lemmas.Bool.{le-leb}
use Rattle.std.proofs.Math.Seq.{take-append_seam, drop-append_seam}
use Rattle.std.specs.Prelude.{nat_le}
use Rattle.zarr_codecs_meaning.specs.Types.{Cell, uint64, zero_filled}
use Rattle.zarr_codecs_meaning.specs.Chains.{Location}
use Rattle.zarr_codecs_meaning.specs.Chains.Location.{at_start, at_end}
use Rattle.zarr_codecs_meaning.specs.Encoding.{Pair, Piece, base_of, joined}
use Rattle.zarr_codecs_meaning.specs.Decoding.{pairs_in, decoded}
use Rattle.zarr_codecs_meaning.specs.Standing.{HasSlice, PieceStands, SliceStands, PiecesStand, ShardStands, data_part, layout_size, layout_base, IndexLayout, Standing}
use Rattle.zarr_codecs_meaning.proofs.Shards.{SlicesStand, is_present}
use Rattle.zarr_codecs_meaning.proofs.KeptShards.{pairs_found}
use Rattle.zarr_sharding_changes.specs.Compaction.{data_in, slice_in, stored_at, slices_of}

-- the bytes of a pair are the slice that it has
slice_read : (base : ℕ) («data» : List ℕ) (pair : Pair) (slice : List ℕ) → HasSlice base «data» pair slice → slice_in base «data» pair ≡ Some slice
slice_read base «data» pair slice h =
    let begins = h.begins in
    let long = h.long in
    let count = ap length h.is ∙ (length-append h.before (slice ++ h.after) ∙ ap (λ n. length h.before + n) (length-append slice h.after)) in
    let first : base ≤ pair.0 = omega arith in
    let last : pair.0 + pair.1 ≤ base + length «data» = omega (arith, count) in
    let skip : pair.0 - base ≡ length h.before = omega arith in
    let found : Option (List ℕ) = Some (take pair.1 (drop (pair.0 - base) «data»)) in
    let read : take pair.1 (drop (pair.0 - base) «data») ≡ slice =
    ap (λ n. take pair.1 (drop n «data»)) skip
    ∙ (ap (λ (xs : List ℕ). take pair.1 (drop (length h.before) xs)) h.is
    ∙ (ap (take pair.1) (drop-append_seam h.before (slice ++ h.after)) ∙ (ap (λ n. take n (slice ++ h.after)) long ∙ take-append_seam slice h.after))) in
    ap (λ (t : Bool). if t && nat_le (pair.0 + pair.1) (base + length «data») then found else None) (le-leb base pair.0 first)
    ∙ (ap (λ (t : Bool). if t then found else None) (le-leb (pair.0 + pair.1) (base + length «data») last) ∙ ap Some read)

-- what is stored of a piece whose pair stands
piece_read : (inner : List ℕ → List ℕ → List Cell → Type 0) (fill : Cell) (base : ℕ) («data» : List ℕ) (piece : Piece) (pair : Pair) → PieceStands inner fill (data_part base «data») piece pair
    → (stored : Option (List ℕ)) × (stored_at base «data» pair ≡ Some stored) × SliceStands inner fill piece stored
piece_read inner fill base «data» piece pair (inl h) = (None, ap (stored_at base «data») h.1, h.0)
piece_read inner fill base «data» piece pair (inr h) =
    let slice = h.1.0 in
    let read : stored_at base «data» pair ≡ Some (Some slice) =
    ap (λ (t : Bool). if t then Some None else option_map Some (slice_in base «data» pair)) (is_present base «data» pair slice h.1.1) ∙ ap (option_map Some) (slice_read base «data» pair slice h.1.1) in
    (Some slice, read, (h.0, h.1.2))

-- what is stored of pieces whose pairs stand
slices_read : (inner : List ℕ → List ℕ → List Cell → Type 0) (fill : Cell) (base : ℕ) («data» : List ℕ) (pieces : List Piece) (pairs : List Pair) → PiecesStand inner fill (data_part base «data») pieces pairs
    → (stored : List (Option (List ℕ))) × (slices_of base «data» pairs ≡ Some stored) × SlicesStand inner fill pieces stored
slices_read inner fill base «data» [] [] h = ([], refl, tt)
slices_read inner fill base «data» [] (pair ∷ pairs) h = elim h [ ]
slices_read inner fill base «data» (piece ∷ pieces) [] h = elim h [ ]
slices_read inner fill base «data» (piece ∷ pieces) (pair ∷ pairs) h =
    let first = piece_read inner fill base «data» piece pair h.0 in
    let rest = slices_read inner fill base «data» pieces pairs h.1 in
    let read : slices_of base «data» (pair ∷ pairs) ≡ Some (first.0 ∷ rest.0) =
    ap (option_and_then (λ (stored : Option (List ℕ)). option_map (λ (others : List (Option (List ℕ))). stored ∷ others) (slices_of base «data» pairs))) first.1
    ∙ ap (option_map (λ (others : List (Option (List ℕ))). first.0 ∷ others)) rest.1 in
    (first.0 ∷ rest.0, read, (first.2, rest.2))

-- the data part beside an index of this size
data_read : (location : Location) (size : ℕ) (index «data» value : List ℕ) → length index ≡ size → value ≡ joined location index «data» → data_in location size value ≡ «data»
data_read at_start size index «data» value long is = ap (drop size) is ∙ (ap (λ n. drop n (index ++ «data»)) (sym long) ∙ drop-append_seam index «data»)
data_read at_end size index «data» value long is =
    let count = ap length is ∙ length-append «data» index in
    let kept : length value - size ≡ length «data» = omega (arith, count, long) in
    ap (λ n. take n value) kept ∙ (ap (take (length «data»)) is ∙ take-append_seam «data» index)

-- the slices of what stands are there, and stand for the pieces
pub shard_read : (layout : IndexLayout) (inner : Standing) (fill : Cell) (pieces : List Piece) (value : List ℕ) → ShardStands layout inner fill pieces value
    → (stored : List (Option (List ℕ))) × (option_and_then (slices_of (layout_base layout) (data_in layout.location (layout_size layout) value)) (pairs_in (decoded layout.chain (zero_filled uint64) layout.shape) layout.location (layout_size layout) value) ≡ Some stored) × SlicesStand inner fill pieces stored
shard_read layout inner fill pieces value h =
    let index = decoded layout.chain (zero_filled uint64) layout.shape in
    let location = layout.location in
    let size = layout_size layout in
    let laid = h.2 in
    let base = base_of location size in
    let all = slices_read inner fill base h.1 pieces h.0 h.3 in
    let read : option_and_then (slices_of base (data_in location size value)) (pairs_in index location size value) ≡ Some all.0 =
    ap (option_and_then (slices_of base (data_in location size value))) (pairs_found layout inner fill pieces value h)
    ∙ (ap (λ («data» : List ℕ). slices_of base «data» h.0) (data_read location size laid.index_bytes h.1 value laid.long laid.is) ∙ all.1) in
    (all.0, read, all.2)
