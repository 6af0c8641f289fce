-- What a shard in a source stands for.
use Rattle.std.proofs.Common.{◌≡◌, ℕ, ◌+◌, ◌-◌, ◌<◌, ◌^◌, List, [], ◌∷◌, ◌++◌, length, take, drop, ap, ◌∙◌, sym, refl, arith, inl, inr, subst, Option, Some, None, Bool, true, false, ◌&&◌, length-append}
use Rattle.std.proofs.lemmas.Bool.{and_parts}
use Rattle.std.proofs.Math.Seq.{take-append_seam, drop-append_seam}
use Rattle.std.specs.List.{list_all}
use Rattle.zarr_codecs_meaning.specs.Chains.{Chain, Location}
use Rattle.zarr_codecs_meaning.specs.Chains.Location.{at_start, at_end}
use Rattle.zarr_codecs_meaning.specs.Decoding.{is_absent}
use Rattle.zarr_codecs_meaning.specs.Encoding.{Pair, Piece, base_of, index_size, joined, pair_cells}
use Rattle.zarr_codecs_meaning.specs.Fits.{is_lossless}
use Rattle.zarr_codecs_meaning.specs.Standing.{PieceStands, PiecesStand, ShardStands, data_part, index_layout}
use Rattle.zarr_codecs_meaning.specs.Types.{Cell, is_fill, uint64}
use Rattle.zarr_codecs_meaning.proofs.KeptShards.{pairs_found}
use Rattle.zarr_codecs_meaning.proofs.Lists.{some_same}
use Rattle.zarr_codecs_meaning.proofs.Shards.{is_present}
use Rattle.zarr_sharding_changes.specs.Changes.{Change, ChangesStand, appended, pairs_after, pieces_after}
use Rattle.zarr_sharding_changes.specs.Compaction.{data_in}
use Rattle.zarr_sharding_changes.proofs.Appending.{written}
use Rattle.zarr_sharding_index.specs.Held.{HoldsPieces, IsOpened, are_absent, held_as, index_coding}
use Rattle.zarr_sharding_index.specs.Written.{IsAppended, IsChanged, with_slices}
use Rattle.zarr_sharding_index.proofs.Ranges.{slices_first, slices_written}

-- the data part beside an index of this size
pub data_read : (location : Location) (size : ℕ) (index «data» value : List ℕ) → length index ≡ size → value ≡ joined location index «data» → data_in location size value ≡ «data»
data_read at_start size index «data» value long is = ap (drop size) is ∙ (ap (λ n. drop n (index ++ «data»)) (sym long) ∙ drop-append_seam index «data»)
data_read at_end size index «data» value long is =
    let count = ap (λ (l : List ℕ). length l) is ∙ length-append «data» index in
    let kept : length value - size ≡ length «data» = omega (arith, count, long) in
    ap (λ n. take n value) kept ∙ (ap (take (length «data»)) is ∙ take-append_seam «data» index)

pub opened_holds : (inner : List ℕ → List ℕ → List Cell → Type 0) (fill : Cell) (index : Chain) (location : Location) (shape : List ℕ) (count end : ℕ) (pieces : List Piece) (value : List ℕ) (pairs : List Pair)
    → ShardStands (index_layout index location shape) inner fill pieces value → IsOpened (index_layout index location shape) count (Some value) pairs end
    → HoldsPieces inner fill (index_layout index location shape) pieces (held_as (Some value) pairs end)
opened_holds inner fill index location shape count end pieces value pairs h opened =
    let size = index_size index shape in
    let base = base_of location size in
    let laid = h.2 in
    let same : h.0 ≡ pairs = some_same (sym (pairs_found (index_layout index location shape) inner fill pieces value h) ∙ opened.0) in
    record {
      «data» = h.1;
      held = record { index_bytes = laid.index_bytes; long = laid.long; read = laid.read ∙ ap (λ (ps : List Pair). Some (pair_cells ps)) same; is = laid.is };
      ends = opened.1 ∙ ap (λ (l : List ℕ). base + length l) (data_read location size laid.index_bytes h.1 value laid.long laid.is);
      stand = subst (λ (ps : List Pair). PiecesStand inner fill (data_part base h.1) pieces ps) same h.3;
    }

-- where every pair is absent, the data part may go
emptied : (inner : List ℕ → List ℕ → List Cell → Type 0) (fill : Cell) (base : ℕ) («data» : List ℕ) (pieces : List Piece) (pairs : List Pair) → PiecesStand inner fill (data_part base «data») pieces pairs → are_absent pairs ≡ true → PiecesStand inner fill (data_part base []) pieces pairs
emptied inner fill base «data» [] [] h e = tt
emptied inner fill base «data» [] (p ∷ ps) h e = elim h [ ]
emptied inner fill base «data» (x ∷ xs) [] h e = elim h [ ]
emptied inner fill base «data» (x ∷ xs) (p ∷ ps) h e =
    let both = and_parts (is_absent p) (list_all is_absent ps) e in
    let first : PieceStands inner fill (data_part base []) x p = elim h.0 [
      | inl k ↦ inl k
      | inr k ↦ let never : true ≡ false = sym both.0 ∙ is_present base «data» p k.1.0 k.1.1 in cc
    ] in
    (first, emptied inner fill base «data» xs ps h.1 both.1)

-- and each subchunk is all fill
pub nothing_left : (inner : List ℕ → List ℕ → List Cell → Type 0) (fill : Cell) (base : ℕ) («data» : List ℕ) (pieces : List Piece) (pairs : List Pair) → PiecesStand inner fill (data_part base «data») pieces pairs → are_absent pairs ≡ true → list_all (λ (piece : Piece). is_fill fill piece.1) pieces ≡ true
nothing_left inner fill base «data» [] [] h e = refl
nothing_left inner fill base «data» [] (p ∷ ps) h e = elim h [ ]
nothing_left inner fill base «data» (x ∷ xs) [] h e = elim h [ ]
nothing_left inner fill base «data» (x ∷ xs) (p ∷ ps) h e =
    let both = and_parts (is_absent p) (list_all is_absent ps) e in
    let first : is_fill fill x.1 ≡ true = elim h.0 [
      | inl k ↦ k.0
      | inr k ↦ let never : true ≡ false = sym both.0 ∙ is_present base «data» p k.1.0 k.1.1 in cc
    ] in
    ap (λ (b : Bool). b && list_all (λ (piece : Piece). is_fill fill piece.1) xs) first ∙ nothing_left inner fill base «data» xs ps h.1 both.1

module _ (inner : List ℕ → List ℕ → List Cell → Type 0) (fill : Cell) (index : Chain) (exact : Bool) (location : Location) (shape : List ℕ) (pieces wanted : List Piece) (changes : List Change) (pairs : List Pair) (end : ℕ) where
  -- the pairs after changes stand over the longer data part
  after_changes : (before : Option (List ℕ)) (h : HoldsPieces inner fill (index_layout index location shape) pieces (held_as before pairs end)) → end + length (appended changes) < 2 ^ 63 → ChangesStand inner fill wanted changes
      → PiecesStand inner fill (data_part (base_of location (index_size index shape)) (h.«data» ++ appended changes)) (pieces_after wanted changes pieces) (pairs_after end changes pairs)
  after_changes before h room stands = written inner fill (base_of location (index_size index shape)) wanted changes end h.«data» pieces pairs h.ends (omega (arith, room)) h.stand stands

  appended_holds : (before : Option (List ℕ)) (after : Option (List ℕ)) (ended : ℕ) → is_lossless index uint64 ≡ true → end + length (appended changes) < 2 ^ 63 → HoldsPieces inner fill (index_layout index location shape) pieces (held_as before pairs end)
      → ChangesStand inner fill wanted changes → IsAppended (index_coding index exact location shape) changes before end (held_as after (pairs_after end changes pairs) ended) → HoldsPieces inner fill (index_layout index location shape) (pieces_after wanted changes pieces) (held_as after (pairs_after end changes pairs) ended)
  appended_holds None after ended lossless room h stands made =
      let size = index_size index shape in
      let base = base_of location size in
      let slices = appended changes in
      let ix = made.index_bytes in
      let long = made.written.sized in
      let nothing : h.«data» ≡ [] = h.held.0 in
      let here : end ≡ base = let is : end ≡ base + length h.«data» = h.ends in let none = ap (λ (l : List ℕ). length l) nothing in omega (arith, is, none) in
      let value : with_slices location end ix slices [] ≡ joined location ix slices = ap (λ n. with_slices location n ix slices []) here ∙ slices_first location base ix slices (ap (base_of location) (sym long)) in
      subst (λ (o : Option (List ℕ)). HoldsPieces inner fill (index_layout index location shape) (pieces_after wanted changes pieces) (held_as o (pairs_after end changes pairs) ended)) (sym made.is)
      (record {
        «data» = slices;
        held = record { index_bytes = ix; long = long; read = made.written.reads_back lossless; is = value };
        ends = made.ends ∙ ap (λ n. n + length slices) here;
        stand = subst (λ (l : List ℕ). PiecesStand inner fill (data_part base (l ++ slices)) (pieces_after wanted changes pieces) (pairs_after end changes pairs)) nothing (after_changes None h room stands);
      })
  appended_holds (Some value) after ended lossless room h stands made =
      let size = index_size index shape in
      let base = base_of location size in
      let slices = appended changes in
      let ix = made.index_bytes in
      let long = made.written.sized in
      let old = h.held.index_bytes in
      let same : length old ≡ length ix = h.held.long ∙ sym long in
      let is : with_slices location end ix slices value ≡ joined location ix (h.«data» ++ slices) =
      ap (λ (l : List ℕ). with_slices location end ix slices l) h.held.is
      ∙ (ap (λ n. with_slices location n ix slices (joined location old h.«data»)) h.ends ∙ slices_written location base old ix h.«data» slices same (ap (base_of location) (sym long))) in
      let ends : end ≡ base + length h.«data» = h.ends in
      let after_is : ended ≡ end + length slices = made.ends in
      let count = length-append h.«data» slices in
      subst (λ (o : Option (List ℕ)). HoldsPieces inner fill (index_layout index location shape) (pieces_after wanted changes pieces) (held_as o (pairs_after end changes pairs) ended)) (sym made.is)
      (record {
        «data» = h.«data» ++ slices;
        held = record { index_bytes = ix; long = long; read = made.written.reads_back lossless; is = is };
        ends = omega (arith, ends, after_is, count);
        stand = after_changes (Some value) h room stands;
      })

  pub changed_holds : (before : Option (List ℕ)) (after : Option (List ℕ)) (ended : ℕ) → is_lossless index uint64 ≡ true → end + length (appended changes) < 2 ^ 63 → HoldsPieces inner fill (index_layout index location shape) pieces (held_as before pairs end)
      → ChangesStand inner fill wanted changes → IsChanged (index_coding index exact location shape) changes before end (held_as after (pairs_after end changes pairs) ended) → HoldsPieces inner fill (index_layout index location shape) (pieces_after wanted changes pieces) (held_as after (pairs_after end changes pairs) ended)
  changed_holds before after ended lossless room h stands (inl erased) =
      let base = base_of location (index_size index shape) in
      let ended_is : ended ≡ base = erased.2 in
      subst (λ (o : Option (List ℕ)). HoldsPieces inner fill (index_layout index location shape) (pieces_after wanted changes pieces) (held_as o (pairs_after end changes pairs) ended)) (sym erased.1)
      (record {
        «data» = [];
        held = (refl, erased.0);
        ends = omega (arith, ended_is);
        stand = emptied inner fill base (h.«data» ++ appended changes) (pieces_after wanted changes pieces) (pairs_after end changes pairs) (after_changes before h room stands) erased.0;
      })
  changed_holds before after ended lossless room h stands (inr made) = appended_holds before after ended lossless room h stands made
