-- Slices that are read for the places of a part, one after another.
use Rattle.std.proofs.Common.{◌≡◌, ◌∙◌, ◌⊎◌, inl, inr, ℕ, zero, suc, ◌+◌, ◌<◌, ◌≤◌, List, [], ◌∷◌, ◌++◌, length, get_or, take, drop, ap, sym, refl, arith, subst, Bool, true, false, Option, Some, None, is_some, if◌then◌else◌, Result, Ok, Err, IfOk, Vec, Global, length-append, length-drop}
use Rattle.std.proofs.Math.Seq.{drop-append_seam}
use Rattle.std.proofs.lemmas.Bool.{cases_lt, le-leb}
use Rattle.std.proofs.lemmas.List.{drop-append-le, take-append-le, take_all}
use Rattle.zarr_codecs_meaning.specs.Decoding.{is_absent, slice_at}
use Rattle.zarr_codecs_meaning.specs.Encoding.{Pair, absent_pair}
use Rattle.std.specs.declared.alloc.AllocError.{AllocError}
use Rattle.zarr_codecs_arrays.specs.declared.error.CodecError.{CodecError}
use Rattle.zarr_codecs_traits.specs.Pieces.{refused_by_pieces}
use Rattle.zarr_codecs_traits.specs.declared.pieces.PiecePlaces.{PiecePlaces}
use Rattle.zarr_codecs_traits.specs.declared.pieces.PieceSlice.{PieceSlice}
use Rattle.zarr_codecs_traits.specs.declared.pieces.ValuePieces.{ValuePieces}
use Rattle.zarr_sharding_index.specs.HeldIndex.{FetchesSlice}
use Rattle.zarr_sharding_index.specs.Views.{pair_of}
use Rattle.zarr_sharding_codec.specs.Pieces.{AreRead, ArePartRead, AskedPart, CanBeAsked, HasNoPiece, IsBehind, IsCovered, IsPushed, IsReadFor, IsSkipped, IsSliceRead, ReadsMore, asked_numbers, asked_piece, cells_asked, no_slice, part_array, positions_in, refused_reading, subchunk_at}
use Rattle.zarr_sharding_codec.specs.Reading.{ListsRead}
use Rattle.zarr_sharding_codec.proofs.PartFound.{insides_in, part_unread, shard_asked}
use Rattle.zarr_sharding_codec.proofs.PartsRead.{slice_unread}

-- ---- a slice of bytes, and more bytes behind them

slice_kept : («data» more : List ℕ) (pair : Pair) → pair.0 + pair.1 ≤ length «data» → slice_at («data» ++ more) pair ≡ slice_at «data» pair
slice_kept «data» more pair within =
    let long = length-append «data» more in
    let first = le-leb (pair.0 + pair.1) (length («data» ++ more)) (omega (arith, within, long)) in
    let second = le-leb (pair.0 + pair.1) (length «data») within in
    let front = drop-append-le pair.0 «data» more (omega (arith, within)) in
    let rest = length-drop pair.0 «data» in
    ap (λ (b : Bool). if b then Some (take pair.1 (drop pair.0 («data» ++ more))) else None) first
    ∙ (ap Some (ap (take pair.1) front ∙ take-append-le pair.1 (drop pair.0 «data») more (omega (arith, within, rest)))
    ∙ sym (ap (λ (b : Bool). if b then Some (take pair.1 (drop pair.0 «data»)) else None) second))

slice_behind : («data» more : List ℕ) → slice_at («data» ++ more) (length «data», length more) ≡ Some more
slice_behind «data» more =
    let long = length-append «data» more in
    let within = le-leb (length «data» + length more) (length («data» ++ more)) (omega (arith, long)) in
    ap (λ (b : Bool). if b then Some (take (length more) (drop (length «data») («data» ++ more))) else None) within
    ∙ ap Some (ap (take (length more)) (drop-append_seam «data» more) ∙ take_all (length more) more (omega arith))

-- ---- slices so far

-- slices were read so far; each place of which `Done` says so is told by them
pub record ReadSlices (part : AskedPart) (Done : ℕ → Type 0) (pieces : ValuePieces) : Type 0 where
  pub shape_is : pieces.shape.items ≡ part.array.shape
  pub each : AreRead part pieces.data.items pieces.slices.items
  pub told : (t : ℕ) → t < length (asked_numbers part) → Done t → IsCovered part pieces.slices.items t

pub none_read : (part : AskedPart) (Done : ℕ → Type 0) (pieces : ValuePieces) → HasNoPiece part.array.shape pieces → ((t : ℕ) → Done t → ⊥) → ReadSlices part Done pieces
none_read part Done pieces has none = record {
  shape_is = has.shape_is;
  each = λ j low. let long = ap (λ (xs : List PieceSlice). length xs) has.none in absurd (omega (arith, low, long));
  told = λ t low done. absurd (none t done);
}

-- a place lies in the subchunk, and is one of those that its slice is read for
pub record IsOneOf (part : AskedPart) (k : ℕ) (slots : PiecePlaces) (t : ℕ) : Type 0 where
  pub lies : subchunk_at part t ≡ k
  pub position : ℕ
  pub within : position < length (positions_in part.asked slots)
  pub is : get_or (positions_in part.asked slots) position 0 ≡ t

get_front : {X : Type 0} (xs : List X) (x d : X) (i : ℕ) → i < length xs → get_or (xs ++ x ∷ []) i d ≡ get_or xs i d
get_front [] x d i low = absurd (omega (arith, low))
get_front (y ∷ ys) x d zero low = refl
get_front (y ∷ ys) x d (suc i) low = get_front ys x d i (omega (arith, low))

get_last : {X : Type 0} (xs : List X) (x d : X) → get_or (xs ++ x ∷ []) (length xs) d ≡ x
get_last [] x d = refl
get_last (y ∷ ys) x d = get_last ys x d

among_more : (part : AskedPart) (slices : List PieceSlice) (slice : PieceSlice) (t : ℕ) → IsCovered part slices t → IsCovered part (slices ++ slice ∷ []) t
among_more part slices slice t (inl gone) = inl gone
among_more part slices slice t (inr among) =
    let low = among.below in
    let same = get_front slices slice no_slice among.at_ low in
    let long = length-append slices (slice ∷ []) in
    inr (record {
      at_ = among.at_;
      below = omega (arith, low, long);
      position = among.position;
      within = subst (λ (x : PieceSlice). among.position < length (positions_in part.asked x.places)) (sym same) among.within;
      is = subst (λ (x : PieceSlice). get_or (positions_in part.asked x.places) among.position 0 ≡ t) (sym same) among.is;
    })

among_new : (part : AskedPart) (slices : List PieceSlice) (slice : PieceSlice) (t : ℕ) → IsOneOf part slice.number slice.places t → IsCovered part (slices ++ slice ∷ []) t
among_new part slices slice t one =
    let same = get_last slices slice no_slice in
    let long = length-append slices (slice ∷ []) in
    inr (record {
      at_ = length slices;
      below = omega (arith, long);
      position = one.position;
      within = subst (λ (x : PieceSlice). one.position < length (positions_in part.asked x.places)) (sym same) one.within;
      is = subst (λ (x : PieceSlice). get_or (positions_in part.asked x.places) one.position 0 ≡ t) (sym same) one.is;
    })

-- the slices behind which another one was read
pushed_each : (part : AskedPart) («data» more : List ℕ) (slices : List PieceSlice) (slice : PieceSlice) → AreRead part «data» slices → IsSliceRead part («data» ++ more) slice → AreRead part («data» ++ more) (slices ++ slice ∷ [])
pushed_each part «data» more slices slice are new = λ j low. elim (cases_lt j (length slices)) [
  | inl inside ↦
      let was = are j inside in
      let same = get_front slices slice no_slice j inside in
      let within = was.within in
      let long = length-append «data» more in
      let old : IsSliceRead part («data» ++ more) (get_or slices j no_slice) = record {
        below = was.below;
        there = was.there;
        within = omega (arith, within, long);
        bytes_are = slice_kept «data» more (pair_of (get_or slices j no_slice).range) within ∙ was.bytes_are;
        read_for = was.read_for;
      } in
      subst (λ (x : PieceSlice). IsSliceRead part («data» ++ more) x) (sym same) old
  | inr past ↦
      let long = length-append slices (slice ∷ []) in
      let last : j ≡ length slices = omega (arith, past, low, long) in
      let same = ap (λ i. get_or (slices ++ slice ∷ []) i no_slice) last ∙ get_last slices slice no_slice in
      subst (λ (x : PieceSlice). IsSliceRead part («data» ++ more) x) (sym same) new
]

module _ (part : AskedPart) (k : ℕ) (slots : PiecePlaces) (pair : Pair) (before after : ValuePieces) (low : k < length part.pairs) (pair_is : pair ≡ get_or part.pairs k absent_pair) (reads : IsReadFor part k slots) where
  pushed_read : (Done New : ℕ → Type 0) → ReadSlices part Done before → IsPushed part.value (asked_piece pair k slots) before after → ((t : ℕ) → t < length (asked_numbers part) → New t → Done t ⊎ IsOneOf part k slots t) → ReadSlices part New after
  pushed_read Done New so_far pushed either =
      let old = before.data.items in
      let slice : PieceSlice = record { number = k; range = record { offset = length old; length = length pushed.bytes }; places = slots } in
      let long = length-append old pushed.bytes in
      let new : IsSliceRead part (old ++ pushed.bytes) slice = record {
        below = low;
        there = ap is_absent (sym pair_is) ∙ pushed.there;
        within = omega (arith, long);
        bytes_are = slice_behind old pushed.bytes ∙ (sym pushed.found ∙ ap (slice_at part.value) pair_is);
        read_for = reads;
      } in
      record {
        shape_is = ap (λ (v : Vec ℕ Global). v.items) pushed.behind.shape_is ∙ so_far.shape_is;
        each = subst (λ (d : List ℕ). AreRead part d after.slices.items) (sym pushed.behind.data_is)
            (subst (λ (xs : List PieceSlice). AreRead part (old ++ pushed.bytes) xs) (sym pushed.behind.slices_are) (pushed_each part old pushed.bytes before.slices.items slice so_far.each new));
        told = λ t inside done.
            subst (λ (xs : List PieceSlice). IsCovered part xs t) (sym pushed.behind.slices_are)
            (elim (either t inside done) [
              | inl was ↦ among_more part before.slices.items slice t (so_far.told t inside was)
              | inr one ↦ among_new part before.slices.items slice t one
            ]);
      }

  skipped_read : (Done New : ℕ → Type 0) → ReadSlices part Done before → IsSkipped pair before after → ((t : ℕ) → t < length (asked_numbers part) → New t → Done t ⊎ IsOneOf part k slots t) → ReadSlices part New after
  skipped_read Done New so_far skipped either =
      subst (λ (p : ValuePieces). ReadSlices part New p) (sym skipped.same) (record {
        shape_is = so_far.shape_is;
        each = so_far.each;
        told = λ t inside done. elim (either t inside done) [
          | inl was ↦ so_far.told t inside was
          | inr one ↦ inl (ap (λ m. is_absent (get_or part.pairs m absent_pair)) one.lies ∙ (ap is_absent (sym pair_is) ∙ skipped.absent))
        ];
      })

  -- one subchunk more, where its slice isn't refused
  pub read_next : (Done New : ℕ → Type 0) → ReadSlices part Done before → ReadsMore part.value (asked_piece pair k slots) before after → after.stopped ≡ None → ((t : ℕ) → t < length (asked_numbers part) → New t → Done t ⊎ IsOneOf part k slots t) → ReadSlices part New after
  read_next Done New so_far (inl skipped) none either = skipped_read Done New so_far skipped either
  read_next Done New so_far (inr (inl pushed)) none either = pushed_read Done New so_far pushed either
  read_next Done New so_far (inr (inr stopped)) none either = let is = ap (λ (p : ValuePieces). p.stopped) stopped.is in cc

  -- why there are no more, where one was refused
  pub read_stopped : (Done : ℕ → Type 0) → CanBeAsked part → before.stopped ≡ None → ReadSlices part Done before → ReadsMore part.value (asked_piece pair k slots) before after → (after.stopped ≡ None → ⊥) → ArePartRead part after
  read_stopped Done can none so_far (inl skipped) some = absurd (some (ap (λ (p : ValuePieces). p.stopped) skipped.same ∙ none))
  read_stopped Done can none so_far (inr (inl pushed)) some = absurd (some (pushed.behind.stopped_is ∙ none))
  read_stopped Done can none so_far (inr (inr stopped)) some =
      let edges = (part_array part.array k).shape in
      let is = ap (λ (p : ValuePieces). p.stopped) stopped.is in
      let lost : FetchesSlice part.value (get_or part.pairs k absent_pair) (Err stopped.error) = subst (λ (q : Pair). FetchesSlice part.value q (Err stopped.error)) pair_is stopped.lost in
      let there = ap is_absent (sym pair_is) ∙ stopped.there in
      let refused : ListsRead part.array.elements part.array.shape (cells_asked part) (Err stopped.error) =
      part_unread part k slots can reads stopped.error (slice_unread (shard_asked part).inner part.array.elements part.value edges (get_or part.pairs k absent_pair) (insides_in part k slots) stopped.error there reads.asked.some lost) in
      subst (λ (p : ValuePieces). ArePartRead part p) (sym stopped.is) (record {
        shape_is = so_far.shape_is;
        each = so_far.each;
        all = λ goes_on. absurd (cc);
        stops = λ e same. let one : stopped.error ≡ e = cc in subst (λ (x : CodecError). ListsRead part.array.elements part.array.shape (cells_asked part) (Err x)) one refused;
      })

-- all were read
pub read_all : (part : AskedPart) (Done : ℕ → Type 0) (pieces : ValuePieces) → ReadSlices part Done pieces → pieces.stopped ≡ None → ((t : ℕ) → t < length (asked_numbers part) → Done t) → ArePartRead part pieces
read_all part Done pieces so_far none all = record {
  shape_is = so_far.shape_is;
  each = so_far.each;
  all = λ goes_on t low. so_far.told t low (all t low);
  stops = λ e is. cc;
}

-- ---- refused calls

-- where a slice was read, no call was refused
pub none_refused : (count number : ℕ) (slots : PiecePlaces) (bytes : List ℕ) (before : ValuePieces) (r : Result ValuePieces AllocError) → before.stopped ≡ None → IfOk r (IsBehind number slots bytes before) → refused_reading count r ≡ count
none_refused count number slots bytes before (Ok after) none behind = ap (refused_by_pieces count) (behind.stopped_is ∙ none)
none_refused count number slots bytes before (Err e) none behind = refl

-- ---- whether one was refused

-- nothing tells of a refusal
pub not_stopped : (stopped : Option CodecError) → is_some stopped ≡ false → stopped ≡ None
not_stopped None told = refl
not_stopped (Some e) told = cc

-- a refusal is told
pub was_stopped : (stopped : Option CodecError) → is_some stopped ≡ true → stopped ≡ None → ⊥
was_stopped None told none = cc
was_stopped (Some e) told none = cc
