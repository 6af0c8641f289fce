-- A shard put together from slices in a row has no gaps.
use Rattle.std.proofs.Common.{◌≡◌, ◌∙◌, ℕ, ◌+◌, ◌^◌, ◌<◌, ◌≤◌, ◌-◌, List, [], ◌∷◌, length, map, ap, sym, refl, subst, arith, inl, inr, Option, Bool, true, false}
use Rattle.std.specs.Prelude.{MatchBool, MatchOption}
use Rattle.zarr_codecs_meaning.specs.Chains.{Chain, Location, sharded}
use Rattle.zarr_codecs_meaning.specs.Chains.Location.{at_start, at_end}
use Rattle.zarr_codecs_meaning.specs.Decoding.{is_absent, slice_at}
use Rattle.zarr_codecs_meaning.specs.Encoding.{Pair, base_of, index_size, joined, joined_slices, pairs_from, piece_of, pieces_of}
use Rattle.zarr_codecs_meaning.specs.Places.{Part, index_shape, parts_of}
use Rattle.zarr_codecs_meaning.specs.Standing.{PieceStands, PiecesStand, ShardStands, data_part, index_layout}
use Rattle.zarr_codecs_meaning.specs.Types.{Cell, absent}
use Rattle.zarr_codecs_meaning.proofs.Fitting.{length-joined}
use Rattle.zarr_codecs_meaning.proofs.KeptShards.{pairs_found}
use Rattle.zarr_codecs_meaning.proofs.Making.{row_apart}
use Rattle.zarr_codecs_meaning.proofs.Shards.{SlicesStand, put, slice_found}
use Rattle.zarr_sharding_changes.specs.Gapless.{AreGapless, IsGapless}
use Rattle.zarr_sharding_compaction.proofs.Once.{IsItself, laid_gains_nothing, piece_for, stand_themselves}
use Rattle.zarr_sharding_codec.specs.Assembled.{IsAssembled}
use Rattle.zarr_sharding_index.specs.Held.{index_coding}

-- ---- slices without gaps

-- slices that have no gaps
abbrev pub NoneGaps : Chain → List ℕ → List ℕ → List Cell → Type 0
NoneGaps inner shape slice cells = IsGapless inner shape slice

unless_absent : (gone : Bool) (fact : Type 0) → fact → MatchBool gone (Unit {0}) fact
unless_absent true fact h = tt
unless_absent false fact h = h

-- the slice of a pair that stands for a subchunk is in the value
gapless_at : (inner : Chain) (fill : Cell) (cells : List Cell) (location : Location) (base : ℕ) (index «data» value : List ℕ) (part : Part) (pair : Pair) → value ≡ joined location index «data» → base ≡ base_of location (length index)
    → PieceStands (NoneGaps inner) fill (data_part base «data») (piece_of fill cells part) pair → MatchBool (is_absent pair) (Unit {0}) (MatchOption (slice_at value pair) ⊥ (IsGapless inner part.shape))
gapless_at inner fill cells location base index «data» value part pair is begins (inl gone) =
    subst (λ (p : Pair). MatchBool (is_absent p) (Unit {0}) (MatchOption (slice_at value p) ⊥ (IsGapless inner part.shape))) (sym gone.1) tt
gapless_at inner fill cells location base index «data» value part pair is begins (inr there) =
    unless_absent (is_absent pair) (MatchOption (slice_at value pair) ⊥ (IsGapless inner part.shape))
    (subst (λ (o : Option (List ℕ)). MatchOption o ⊥ (IsGapless inner part.shape)) (sym (slice_found location base index «data» value pair there.1.0 is begins there.1.1)) there.1.2)

are_gapless : (inner : Chain) (fill : Cell) (cells : List Cell) (location : Location) (base : ℕ) (index «data» value : List ℕ) (parts : List Part) (pairs : List Pair) → value ≡ joined location index «data» → base ≡ base_of location (length index)
    → PiecesStand (NoneGaps inner) fill (data_part base «data») (pieces_of fill cells parts) pairs → AreGapless (IsGapless inner) value parts pairs
are_gapless inner fill cells location base index «data» value [] pairs is begins h = tt
are_gapless inner fill cells location base index «data» value (part ∷ parts) [] is begins h = tt
are_gapless inner fill cells location base index «data» value (part ∷ parts) (pair ∷ pairs) is begins h =
    (gapless_at inner fill cells location base index «data» value part pair is begins h.0, are_gapless inner fill cells location base index «data» value parts pairs is begins h.1)

-- ---- what is assembled

pub base_small : (location : Location) (size : ℕ) → base_of location size ≤ size
base_small at_start size = omega arith
base_small at_end size = omega arith

pub assembled_gapless : (subchunk : List ℕ) (inner index : Chain) (location : Location) (exact : Bool) (shape : List ℕ) (fill : Cell) (cells : List Cell) (stored : List (Option (List ℕ))) (value : List ℕ) → index_size index (index_shape shape subchunk) < 2 ^ 63 → length value < 2 ^ 63
    → IsAssembled (index_coding index exact location (index_shape shape subchunk)) stored value → SlicesStand (NoneGaps inner) fill (pieces_of fill cells (parts_of shape subchunk)) stored → IsGapless (sharded subchunk inner index location) shape value
assembled_gapless subchunk inner index location exact shape fill cells stored value small short assembled none = λ keeps.
    let pairs_shape = index_shape shape subchunk in
    let size = index_size index pairs_shape in
    let base = base_of location size in
    let slices = joined_slices stored in
    let written = assembled.written in
    let long : length value ≡ length assembled.index_bytes + length slices = ap (λ (l : List ℕ). length l) assembled.is ∙ length-joined location assembled.index_bytes slices in
    let less = base_small location size in
    let low : base + length slices < 2 ^ 64 - 1 = omega (arith, long, less, small, short) in
    let layout = index_layout index location pairs_shape in
    let stands : ShardStands layout IsItself absent (map piece_for stored) value = (
      pairs_from base stored,
      slices,
      record { index_bytes = assembled.index_bytes; long = written.sized; read = written.reads_back keeps; is = assembled.is },
      put IsItself absent base slices (map piece_for stored) stored [] base (stand_themselves stored) refl (omega arith) low,
    ) in
    let laid = put (NoneGaps inner) fill base slices (pieces_of fill cells (parts_of shape subchunk)) stored [] base none refl (omega arith) low in (
      laid_gains_nothing subchunk index location shape value stored stands (long ∙ ap (λ n. n + length slices) written.sized),
      (
        pairs_from base stored,
        pairs_found layout IsItself absent (map piece_for stored) value stands,
        row_apart base stored,
        are_gapless inner fill cells location base assembled.index_bytes slices value (parts_of shape subchunk) (pairs_from base stored) assembled.is (ap (base_of location) (sym written.sized)) laid,
      ),
    )
