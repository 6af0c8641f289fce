-- A shard stands for the cells of its array after new ones were put, where it stood for those before.
use Rattle.std.proofs.Common.{◌≡◌, ◌⊎◌, ◌∙◌, inl, inr, ℕ, ◌<◌, List, [], ◌∷◌, length, get_or, set, ap, sym, refl, subst, arith, Bool, true, false, ◌==◌, Option, Some, None, IsTrue}
use Rattle.std.specs.Prelude.{nat_lt}
use Rattle.std.specs.List.{list_all}
use Rattle.std.proofs.lemmas.Bool.{eqb-true, eq-eqb}
use Rattle.std.proofs.lemmas.List.{ext_get_or, get_or-set_same, get_or-set_other, length-map, length-set}
use Rattle.zarr_grids_boxes.specs.Boxes.{product}
use Rattle.zarr_codecs_meaning.specs.Chains.{Chain}
use Rattle.zarr_codecs_meaning.specs.Encoding.{Piece, piece_of, pieces_of}
use Rattle.zarr_codecs_meaning.specs.Fits.{can_cut, is_lossless}
use Rattle.zarr_codecs_meaning.specs.Places.{Part, gather, grid_of, parts_of}
use Rattle.zarr_codecs_meaning.specs.Standing.{SliceStands, Slices}
use Rattle.zarr_codecs_meaning.specs.Standing.Slices.{standing_slices, encoded_slices}
use Rattle.zarr_codecs_meaning.specs.Types.{Cell, Elements}
use Rattle.zarr_codecs_meaning.proofs.Parts.{length-parts, no_part}
use Rattle.zarr_codecs_traits.specs.Indexers.{put}
use Rattle.zarr_sharding_changes.specs.Changes.{Change, ChangesStand, SliceStandsBy, pieces_after}
use Rattle.zarr_sharding_places.specs.Locating.{part_shape}
use Rattle.zarr_sharding_codec.specs.PartWriting.{AreChanged, AreUpdated, HasChange, IsUpdated, Put, Stored, cells_held, cells_put, given_in, numbers_in, shape_in}
use Rattle.zarr_sharding_codec.specs.Slices.{IsPieceStored}
use Rattle.zarr_sharding_codec.proofs.NumberedParts.{part_number}
use Rattle.zarr_sharding_codec.proofs.PutPieces.{given_is, met_or_none, places_at, put_seen}
use Rattle.zarr_sharding_codec.proofs.StoredLoop.{no_piece, piece_number}

-- ---- what is put, in one subchunk

-- a subchunk's cells after new ones were put at places of the array
pub put_gathered : (fill : Cell) (shape subchunk : List ℕ) (k : ℕ) (ns : List ℕ) (cells whole : List Cell) → can_cut shape subchunk ≡ true → k < length (parts_of shape subchunk)
    → list_all (λ n. nat_lt n (product shape)) ns ≡ true → length whole ≡ product shape
    → gather fill (put ns cells whole) (places_at shape subchunk k) ≡ put (numbers_in shape subchunk k ns) (given_in shape subchunk k ns cells) (gather fill whole (places_at shape subchunk k))
put_gathered fill shape subchunk k ns cells whole cuts there below long =
    put_seen fill shape subchunk k cuts there ns cells whole below long
    ∙ ap (λ (xs : List Cell). put (numbers_in shape subchunk k ns) xs (gather fill whole (places_at shape subchunk k))) (given_is fill shape subchunk k cuts there ns cells)

-- where no place lies in the subchunk, it keeps its cells
pub kept_gathered : (fill : Cell) (shape subchunk : List ℕ) (k : ℕ) (ns : List ℕ) (cells whole : List Cell) → can_cut shape subchunk ≡ true → k < length (parts_of shape subchunk)
    → list_all (λ n. nat_lt n (product shape)) ns ≡ true → length whole ≡ product shape → numbers_in shape subchunk k ns ≡ []
    → gather fill (put ns cells whole) (places_at shape subchunk k) ≡ gather fill whole (places_at shape subchunk k)
kept_gathered fill shape subchunk k ns cells whole cuts there below long none =
    put_gathered fill shape subchunk k ns cells whole cuts there below long
    ∙ ap (λ (ms : List ℕ). put ms (given_in shape subchunk k ns cells) (gather fill whole (places_at shape subchunk k))) none

-- ---- pieces

-- the piece of a subchunk
pub piece_there : (fill : Cell) (cells : List Cell) (shape subchunk : List ℕ) (k : ℕ) → can_cut shape subchunk ≡ true → k < length (parts_of shape subchunk)
    → get_or (pieces_of fill cells (parts_of shape subchunk)) k no_piece ≡ (part_shape shape subchunk k, gather fill cells (places_at shape subchunk k))
piece_there fill cells shape subchunk k cuts there =
    let count = length-parts shape subchunk in
    let low : k < product (grid_of shape subchunk) = omega (arith, there, count) in
    piece_number fill cells shape subchunk k (record { cuts = cuts; below = low })
    ∙ ap (λ (part : Part). (part_shape shape subchunk k, gather fill cells part.places)) (sym (part_number shape subchunk k no_part low))

wanted_or_later : (wanted : List Piece) (changes : List Change) (pieces : List Piece) (n k : ℕ) → k < length pieces → (b : Bool) → (n == k) ≡ b → ((n ≡ k) ⊎ HasChange k changes) ⊎ (get_or pieces k no_piece ≡ get_or wanted k no_piece)
    → HasChange k changes ⊎ (get_or (set pieces n (get_or wanted n no_piece)) k no_piece ≡ get_or wanted k no_piece)
wanted_or_later wanted changes pieces n k low true e law =
    let same : n ≡ k = eqb-true n k e in
    inr (ap (λ j. get_or (set pieces n (get_or wanted n no_piece)) j no_piece) (sym same) ∙ (get_or-set_same pieces n (get_or wanted n no_piece) no_piece (omega (arith, low, same)) ∙ ap (λ j. get_or wanted j no_piece) same))
wanted_or_later wanted changes pieces n k low false e (inl (inl same)) = let both = eq-eqb n k same in cc
wanted_or_later wanted changes pieces n k low false e (inl (inr has)) = inl has
wanted_or_later wanted changes pieces n k low false e (inr is) =
    inr (get_or-set_other pieces n k (get_or wanted n no_piece) no_piece (λ (same : k ≡ n). let both = eq-eqb n k (sym same) in cc) ∙ is)

-- each piece is as it is wanted, or is changed to that
pieces_wanted : (wanted : List Piece) (changes : List Change) (pieces : List Piece) → length pieces ≡ length wanted
    → ((k : ℕ) → k < length pieces → HasChange k changes ⊎ (get_or pieces k no_piece ≡ get_or wanted k no_piece)) → pieces_after wanted changes pieces ≡ wanted
pieces_wanted wanted [] pieces same law = ext_get_or no_piece pieces wanted same (λ k low. elim (law k low) [ inl has ↦ absurd has | inr is ↦ is ])
pieces_wanted wanted (change ∷ changes) pieces same law =
    let piece = get_or wanted change.0 no_piece in
    let long = length-set pieces change.0 piece in
    pieces_wanted wanted changes (set pieces change.0 piece) (long ∙ same)
    (λ k low. wanted_or_later wanted changes pieces change.0 k (omega (arith, low, long)) (change.0 == k) refl (law k (omega (arith, low, long))))

-- ---- a shard that is written

-- a change is of a subchunk that the array has, whose cells are known
pub record IsGathered (stored : Stored) (new : Put) (whole : List Cell) (changes : List Change) : Type 0 where
  pub cuts : can_cut new.shape new.subchunk ≡ true
  pub many : length stored.pairs ≡ length (parts_of new.shape new.subchunk)
  pub below : list_all (λ n. nat_lt n (product new.shape)) new.numbers ≡ true
  pub long : length whole ≡ product new.shape
  pub changed : AreChanged stored new changes
  pub held : (k : ℕ) (before : List Cell) → k < length stored.pairs → cells_held stored (shape_in new k) k ≡ Some before → gather stored.elements.fill whole (places_at new.shape new.subchunk k) ≡ before

-- the pieces of the array, before and after
abbrev pub pieces_before : Stored → Put → List Cell → List Piece
pieces_before stored new whole = pieces_of stored.elements.fill whole (parts_of new.shape new.subchunk)

abbrev pub pieces_put : Stored → Put → List Cell → List Piece
pieces_put stored new whole = pieces_of stored.elements.fill (put new.numbers new.cells whole) (parts_of new.shape new.subchunk)

-- the piece of a changed subchunk
pub changed_piece : (stored : Stored) (new : Put) (whole : List Cell) (changes : List Change) (change : Change) → IsGathered stored new whole changes → (is : IsUpdated stored new change)
    → get_or (pieces_put stored new whole) change.0 no_piece ≡ (shape_in new change.0, cells_put new change.0 is.before)
changed_piece stored new whole changes change h is =
    let k = change.0 in
    let many = h.many in
    let low = is.below in
    let there : k < length (parts_of new.shape new.subchunk) = omega (arith, many, low) in
    let fill = stored.elements.fill in
    piece_there fill (put new.numbers new.cells whole) new.shape new.subchunk k h.cuts there
    ∙ ap (λ (cs : List Cell). (shape_in new k, cs)) (put_gathered fill new.shape new.subchunk k new.numbers new.cells whole h.cuts there h.below h.long
    ∙ ap (put (numbers_in new.shape new.subchunk k new.numbers) (given_in new.shape new.subchunk k new.numbers new.cells)) (h.held k is.before is.below is.held))

-- new slices can be what encoding writes where what the codecs make depends on the elements alone
abbrev pub CanBe : Slices → Bool → Type 0
CanBe standing_slices exact = Unit {0}
CanBe encoded_slices exact = IsTrue exact

-- what is stored of a piece stands for it
piece_stands : (slices : Slices) (inner : Chain) (exact : Bool) (elements : Elements) (piece : Piece) (slice : Option (List ℕ)) → CanBe slices exact → is_lossless inner elements.type ≡ true → IsPieceStored inner exact elements piece slice
    → SliceStands (SliceStandsBy slices inner elements) elements.fill piece slice
piece_stands slices inner exact elements piece None can lossless is = is
piece_stands standing_slices inner exact elements piece (Some slice) can lossless is = (is.some, is.stands lossless)
piece_stands encoded_slices inner exact elements piece (Some slice) can lossless is = (is.some, is.encodes can)

pub changes_stand : (slices : Slices) (stored : Stored) (new : Put) (whole : List Cell) (all changes : List Change) → CanBe slices stored.exact → is_lossless stored.inner stored.elements.type ≡ true → IsGathered stored new whole all → AreUpdated stored new changes
    → ChangesStand (SliceStandsBy slices stored.inner stored.elements) stored.elements.fill (pieces_put stored new whole) changes
changes_stand slices stored new whole all [] can lossless h are = tt
changes_stand slices stored new whole all (change ∷ changes) can lossless h are =
    let is = are.0 in
    let many = h.many in
    let low = is.below in
    let count = length-map (parts_of new.shape new.subchunk) (piece_of stored.elements.fill (put new.numbers new.cells whole)) in
    let one = piece_stands slices stored.inner stored.exact stored.elements (shape_in new change.0, cells_put new change.0 is.before) change.1 can lossless is.slice in (
      omega (arith, many, low, count),
      subst (λ (piece : Piece). SliceStands (SliceStandsBy slices stored.inner stored.elements) stored.elements.fill piece change.1) (sym (changed_piece stored new whole all change h is)) one,
      changes_stand slices stored new whole all changes can lossless h are.1,
    )

-- a subchunk is changed, or keeps its cells
changed_or_kept : (stored : Stored) (new : Put) (whole : List Cell) (changes : List Change) (k : ℕ) → IsGathered stored new whole changes → k < length (parts_of new.shape new.subchunk)
    → HasChange k changes ⊎ (gather stored.elements.fill (put new.numbers new.cells whole) (places_at new.shape new.subchunk k) ≡ gather stored.elements.fill whole (places_at new.shape new.subchunk k))
changed_or_kept stored new whole changes k h there = elim (met_or_none new.shape new.subchunk k new.numbers) [
  | inl met ↦ inl (subst (λ j. HasChange j changes) met.is (h.changed.all met.at_ met.below))
  | inr none ↦ inr (kept_gathered stored.elements.fill new.shape new.subchunk k new.numbers new.cells whole h.cuts there h.below h.long none)
]

-- the pieces after the changes are those of the array
pub pieces_are : (stored : Stored) (new : Put) (whole : List Cell) (changes : List Change) → IsGathered stored new whole changes → pieces_after (pieces_put stored new whole) changes (pieces_before stored new whole) ≡ pieces_put stored new whole
pieces_are stored new whole changes h =
    let fill = stored.elements.fill in
    let parts = parts_of new.shape new.subchunk in
    let one = length-map parts (piece_of fill whole) in
    let two = length-map parts (piece_of fill (put new.numbers new.cells whole)) in
    pieces_wanted (pieces_put stored new whole) changes (pieces_before stored new whole) (one ∙ sym two) (λ k low.
    let there : k < length parts = omega (arith, low, one) in
    elim (changed_or_kept stored new whole changes k h there) [
      | inl has ↦ inl has
      | inr same ↦
          inr (piece_there fill whole new.shape new.subchunk k h.cuts there
          ∙ (ap (λ (cs : List Cell). (shape_in new k, cs)) (sym same) ∙ sym (piece_there fill (put new.numbers new.cells whole) new.shape new.subchunk k h.cuts there)))
    ])
