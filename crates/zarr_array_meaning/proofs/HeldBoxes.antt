-- Boxes that hold others.
use Rattle.std.proofs.Common.{◌≡◌, ◌∙◌, ℕ, ◌+◌, Bool, true, false, List, [], ◌∷◌, length, refl, sym, arith}
use Rattle.std.proofs.lemmas.Bool.{le-leb, lt-ltb, leb-true, ltb-true, false≢true}
use Rattle.zarr_grids_boxes.specs.Boxes.{Region, is_in_box}
use Rattle.zarr_grids_boxes.proofs.Places.{both}
use Rattle.zarr_array_meaning.specs.Chunks.{contains_box, holds_box}

contains_box-place : (ss xs ts us p : List ℕ) → length xs ≡ length ss → length ts ≡ length ss → length us ≡ length ss → contains_box ss xs ts us ≡ true → is_in_box ts us p ≡ true → is_in_box ss xs p ≡ true
contains_box-place [] [] [] [] [] l m n h t = refl
contains_box-place [] [] [] [] (q ∷ p) l m n h t = absurd (cc)
contains_box-place [] [] [] (u ∷ us) p l m n h t = absurd (omega arith)
contains_box-place [] [] (t ∷ ts) us p l m n h k = absurd (omega arith)
contains_box-place [] (x ∷ xs) ts us p l m n h t = absurd (omega arith)
contains_box-place (s ∷ ss) [] ts us p l m n h t = absurd (omega arith)
contains_box-place (s ∷ ss) (x ∷ xs) [] us p l m n h t = absurd (omega arith)
contains_box-place (s ∷ ss) (x ∷ xs) (t ∷ ts) [] p l m n h k = absurd (omega arith)
contains_box-place (s ∷ ss) (x ∷ xs) (t ∷ ts) (u ∷ us) [] l m n h k = absurd (cc)
contains_box-place (s ∷ ss) (x ∷ xs) (t ∷ ts) (u ∷ us) (q ∷ p) l m n h k =
    let a = both _ _ h in
    let b = both _ _ a.1 in
    let c = both _ _ k in
    let d = both _ _ c.0 in
    let low = leb-true s t a.0 in
    let high = leb-true (t + u) (s + x) b.0 in
    let from = leb-true t q d.0 in
    let before = ltb-true q (t + u) d.1 in
    rw (le-leb s q (omega arith), lt-ltb q (s + x) (omega arith), contains_box-place ss xs ts us p (omega arith) (omega arith) (omega arith) b.1 c.1) refl

-- each place of a box that is held lies in the box that holds it
pub held_place : (region box : Region) (place : List ℕ) → length region.start ≡ length region.shape → length box.start ≡ length box.shape → length region.start ≡ length box.start → holds_box region box ≡ true → is_in_box box.start box.shape place ≡ true
    → is_in_box region.start region.shape place ≡ true
held_place region box place r b l h t = contains_box-place region.start region.shape box.start box.shape place (sym r) (sym l) (sym b ∙ sym l) h t

-- where a place isn't the box's, the box doesn't hold the chunk
pub not_held : (region box : Region) (place : List ℕ) (t : Bool) → holds_box region box ≡ t → length region.start ≡ length region.shape → length box.start ≡ length box.shape → length region.start ≡ length box.start
    → is_in_box box.start box.shape place ≡ true → is_in_box region.start region.shape place ≡ false → holds_box region box ≡ false
not_held region box place true h r b l inside outside = absurd (false≢true (sym outside ∙ held_place region box place r b l h inside))
not_held region box place false h r b l inside outside = h
