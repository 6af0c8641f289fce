-- The places that a box and a chunk share, and their numbers in the chunk.
use Rattle.std.proofs.Common.{◌≡◌, ◌∙◌, ℕ, zero, suc, ◌+◌, ◌-◌, ◌/◌, ◌%◌, ◌<◌, ◌≤◌, ◌&&◌, Bool, true, false, max, List, [], ◌∷◌, length, map, get_or, refl, sym, ap, subst, arith, eq-eqb, Option, Some}
use Rattle.std.specs.List.{range_with_len, list_all}
use Rattle.std.specs.Option.{option_map_or}
use Rattle.std.proofs.Math.Dec.{leb, ltb}
use Rattle.std.proofs.lemmas.Bool.{le-leb, lt-ltb, leb-true, ltb-true}
use Rattle.std.proofs.lemmas.List.{length-map, get_or-map}
use Rattle.zarr_grids_boxes.specs.Boxes.{Region, product, places, place_at, ravel, each2, is_in_box, share_place}
use Rattle.zarr_grids_boxes.specs.Cuts.{overlapped, relative}
use Rattle.zarr_grids_boxes.proofs.Dimensions.{ravel_below}
use Rattle.zarr_grids_boxes.proofs.InBox.{in_box-place_at, length-places}
use Rattle.zarr_grids_boxes.proofs.Lawful.{overlap_shared}
use Rattle.zarr_grids_boxes.proofs.Places.{both, in_box_below, length-each2, places_by_number}
use Rattle.zarr_grids_boxes.proofs.Sharing.{share_place-has}
use Rattle.zarr_grids_boxes.proofs.Steps.{in_box_same}
use Rattle.zarr_grids_boxes.proofs.Walking.{get_or-places}
use Rattle.zarr_grids_chunks.specs.Grids.{Grid, chunk_box, intersects}
use Rattle.zarr_codecs_traits.specs.Indexers.{shape_has, numbers_of}
use Rattle.zarr_array_meaning.specs.Chunks.{number_in}
use Rattle.zarr_array_elements.proofs.Moved.{AtMost, place_at-shifted}

-- ---- the shared places

max_at_most : (xs ys : List ℕ) → length xs ≡ length ys → AtMost ys (each2 max xs ys)
max_at_most [] [] l = tt
max_at_most [] (y ∷ ys) l = absurd (omega arith)
max_at_most (x ∷ xs) [] l = absurd (omega arith)
max_at_most (x ∷ xs) (y ∷ ys) l = (omega arith, max_at_most xs ys (omega arith))

pub in_zeros : (ss es ps : List ℕ) → is_in_box ss es ps ≡ true → is_in_box (map (λ _. 0) es) es (each2 (λ p s. p - s) ps ss) ≡ true
in_zeros [] [] [] h = refl
in_zeros [] [] (p ∷ ps) h = absurd (cc)
in_zeros [] (e ∷ es) ps h = absurd (cc)
in_zeros (s ∷ ss) [] ps h = absurd (cc)
in_zeros (s ∷ ss) (e ∷ es) [] h = absurd (cc)
in_zeros (s ∷ ss) (e ∷ es) (p ∷ ps) h =
    let r = both _ _ h in
    let q = both _ _ r.0 in
    let from = leb-true s p q.0 in
    let below = ltb-true p (s + e) q.1 in
    let a : leb 0 (p - s) ≡ true = le-leb 0 (p - s) (omega arith) in
    let b : ltb (p - s) (0 + e) ≡ true = lt-ltb (p - s) (0 + e) (omega arith) in
    rw (a, b, in_zeros ss es ps r.1) refl

all_range : (p : List ℕ → Bool) (f : ℕ → List ℕ) (a n : ℕ) → ((k : ℕ) → a ≤ k → k < a + n → p (f k) ≡ true) → list_all p (map f (range_with_len a n)) ≡ true
all_range p f a zero h = refl
all_range p f a (suc n) h = ap (λ b. b && list_all p (map f (range_with_len (a + 1) n))) (h a (omega arith) (omega arith)) ∙ all_range p f (a + 1) n (λ k l u. h k (omega arith) (omega arith))

-- ---- a box and a chunk that share places: those places, and the same ones in the chunk
pub record IsMeeting (region box shared part : Region) : Type 0 where
  pub rank : length shared.start ≡ length shared.shape
  pub region_rank : length region.start ≡ length region.shape
  pub both : (place : List ℕ) → is_in_box shared.start shared.shape place ≡ (is_in_box region.start region.shape place && is_in_box box.start box.shape place)
  pub some : 0 < product shared.shape
  pub inside : shape_has box.shape part ≡ true
  pub many : length (numbers_of box.shape part) ≡ product shared.shape
  pub number : (n : ℕ) → n < product shared.shape → get_or (numbers_of box.shape part) n 0 ≡ number_in box (place_at shared.start shared.shape n)

-- what two boxes that share a place are to each other
record AreBoxes (region box : Region) : Type 0 where
  one : length region.shape ≡ length region.start
  other : length box.shape ≡ length box.start
  same : length region.start ≡ length box.start
  place : List ℕ
  in_both : is_in_box (overlapped region box).start (overlapped region box).shape place ≡ true

sharing : (region box : Region) → share_place box.start box.shape region.start region.shape ≡ true → AreBoxes region box
sharing region box h =
    let common = share_place-has box.start box.shape region.start region.shape h in
    let place = common.0 in
    let of_box = in_box_same box.start box.shape place common.1 in
    let of_region = in_box_same region.start region.shape place common.2 in
    let same = sym of_region.1 ∙ of_box.1 in
    record {
      one = of_region.0;
      other = of_box.0;
      same = same;
      place = place;
      in_both = overlap_shared region.start region.shape box.start box.shape place of_region.0 of_box.0 same ∙ (ap (λ b. b && is_in_box box.start box.shape place) common.2 ∙ common.1);
    }

pub meeting : (region box : Region) → share_place box.start box.shape region.start region.shape ≡ true → IsMeeting region box (overlapped region box) (relative (overlapped region box) box.start)
meeting region box h =
    let are = sharing region box h in
    let shared = overlapped region box in
    let part = relative shared box.start in
    let zeros : List ℕ = map (λ _. 0) box.shape in
    let rank : length shared.start ≡ length shared.shape = sym (in_box_same shared.start shared.shape are.place are.in_both).0 in
    let low = ravel_below (each2 (λ p s. p - s) are.place shared.start) shared.shape (in_box_below shared.start shared.shape are.place are.in_both) in
    let starts : length shared.start ≡ length region.start = length-each2 max region.start box.start are.same in
    let moved : length part.start ≡ length shared.start = length-each2 (λ s o. s - o) shared.start box.start (starts ∙ are.same) in
    let part_rank : length part.start ≡ length part.shape = moved ∙ rank in
    let split : (place : List ℕ) → is_in_box shared.start shared.shape place ≡ (is_in_box region.start region.shape place && is_in_box box.start box.shape place) = λ place. overlap_shared region.start region.shape box.start box.shape place are.one are.other are.same in
    let shifted : (n : ℕ) → place_at part.start part.shape n ≡ each2 (λ p s. p - s) (place_at shared.start shared.shape n) box.start = λ n. place_at-shifted shared.start box.start shared.shape n (max_at_most region.start box.start are.same) rank in
    let within : (n : ℕ) → n < product shared.shape → is_in_box box.start box.shape (place_at shared.start shared.shape n) ≡ true = λ n below. let p = place_at shared.start shared.shape n in (both (is_in_box region.start region.shape p) (is_in_box box.start box.shape p) (sym (split (place_at shared.start shared.shape n)) ∙ in_box-place_at shared.start shared.shape n rank below)).1 in
    let all : list_all (λ place. is_in_box zeros box.shape place) (places part.start part.shape) ≡ true = ap (list_all (λ place. is_in_box zeros box.shape place)) (places_by_number part.start part.shape part_rank)
    ∙ all_range (λ place. is_in_box zeros box.shape place) (place_at part.start part.shape) 0 (product part.shape) (λ k l below. ap (is_in_box zeros box.shape) (shifted k) ∙ in_zeros box.start box.shape (place_at shared.start shared.shape k) (within k (omega (arith, below)))) in
    record {
      rank = rank;
      region_rank = sym are.one;
      both = split;
      some = omega (arith, low);
      inside = ap (λ b. b && list_all (λ place. is_in_box zeros box.shape place) (places part.start part.shape)) (eq-eqb (length part.start) (length box.shape) (moved ∙ (starts ∙ (are.same ∙ sym are.other)))) ∙ all;
      many = length-map (places part.start part.shape) (λ place. ravel place box.shape) ∙ length-places part.start part.shape part_rank;
      number = λ n below.
          get_or-map (λ place. ravel place box.shape) (places part.start part.shape) n [] 0 (omega (arith, below, length-places part.start part.shape part_rank))
          ∙ ap (λ place. ravel place box.shape) (get_or-places part.start part.shape n [] part_rank below ∙ shifted n);
    }

-- the box of a chunk that a box intersects shares a place with it
pub shares_own : (grid : Grid) (chunk : List ℕ) (region box : Region) → chunk_box grid chunk ≡ Some box → intersects grid region chunk ≡ true → share_place box.start box.shape region.start region.shape ≡ true
shares_own grid chunk region box h shares = sym (ap (λ (o : Option Region). option_map_or (λ (b : Region). share_place b.start b.shape region.start region.shape) o false) h) ∙ shares

-- a chunk that a box intersects
pub met : (grid : Grid) (chunk : List ℕ) (region box shared part : Region) → chunk_box grid chunk ≡ Some box → intersects grid region chunk ≡ true → shared ≡ overlapped region box → part ≡ relative shared box.start → IsMeeting region box shared part
met grid chunk region box shared part h shares e f =
    let share = shares_own grid chunk region box h shares in
    subst (λ (p : Region). IsMeeting region box shared p) (sym f) (subst (λ (s : Region). IsMeeting region box s (relative s box.start)) (sym e) (meeting region box share))

-- the shared places begin with as many numbers
pub starts_alike : (region box : Region) → length region.start ≡ length box.start → length (overlapped region box).start ≡ length region.start
starts_alike region box same = length-each2 max region.start box.start same
