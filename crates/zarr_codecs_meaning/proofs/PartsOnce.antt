-- Each place of a shape lies in one subchunk: what was arranged from subchunks is cut into them again.
use Rattle.std.proofs.Common.{◌≡◌, ℕ, zero, suc, ◌+◌, ◌-◌, ◌*◌, ◌<◌, min, List, [], ◌∷◌, length, map, get_or, ap, ◌∙◌, sym, refl, arith, Bool, true, false, if◌then◌else◌}
use Rattle.std.specs.Prelude.{nat_lt}
use Rattle.std.proofs.lemmas.Bool.{ltb-true, lt-ltb, and_parts}
use Rattle.std.proofs.lemmas.Nat.{div-mul-add, mod-mul-add}
use Rattle.std.proofs.lemmas.List.{length-map, get_or-map}
use Rattle.std.proofs.lemmas.List.FromFn.{fill_by_all, get_or-map-range_with_len}
use Rattle.zarr_grids_boxes.specs.Boxes.{product, places, place_at, ravel, each2, IsIndex}
use Rattle.zarr_grids_boxes.proofs.Places.{IsIndex-cons, IsIndex-nil}
use Rattle.zarr_grids_boxes.proofs.Dimensions.{ravel_below, IsIndex-tail}
use Rattle.zarr_grids_boxes.proofs.InBox.{length-places}
use Rattle.zarr_codecs_meaning.specs.Types.{Cell}
use Rattle.zarr_codecs_meaning.specs.Places.{gather, place_numbers, position_of, Part, grid_of, box_of, part_of, parts_of}
use Rattle.zarr_codecs_meaning.specs.Fits.{can_cut}
use Rattle.zarr_codecs_meaning.specs.Keeping.{arranged}
use Rattle.zarr_codecs_meaning.proofs.Positions.{among_at, position_found, position_read}
use Rattle.zarr_codecs_meaning.proofs.Covers.{zeros, place_is_index, ravel_place, place_ravel, box_places_at, places_at}
use Rattle.zarr_codecs_meaning.proofs.Shards.{part_cells}
use Rattle.zarr_codecs_meaning.proofs.Parts.{same_length, length-parts, block, inside, box_lengths, no_part}

-- the place in the whole of a place in a subchunk
abbrev pub outward : List ℕ → List ℕ → List ℕ → List ℕ → List ℕ
outward shape subchunk index place = each2 (λ s i. s + i) (box_of shape subchunk index).start place

-- a place in the whole tells its subchunk and its place there
record TellsPart (shape subchunk index place : List ℕ) : Type 0 where
  pub lies : IsIndex (outward shape subchunk index place) shape
  pub tells_index : block (outward shape subchunk index place) subchunk ≡ index
  pub tells_place : inside (outward shape subchunk index place) subchunk ≡ place

tells_part : (shape subchunk index place : List ℕ) → can_cut shape subchunk ≡ true → length index ≡ length shape → IsIndex place (box_of shape subchunk index).shape → TellsPart shape subchunk index place
tells_part [] [] [] [] cuts l h = record { lies = IsIndex-nil; tells_index = refl; tells_place = refl }
tells_part [] [] [] (x ∷ xs) cuts l h = let s = h.same in absurd (omega arith)
tells_part [] [] (i ∷ is) place cuts l h = absurd (omega arith)
tells_part [] (p ∷ ps) index place cuts l h = cc
tells_part (n ∷ ns) [] index place cuts l h = cc
tells_part (n ∷ ns) (p ∷ ps) [] place cuts l h = absurd (omega arith)
tells_part (n ∷ ns) (p ∷ ps) (i ∷ is) [] cuts l h = let s = h.same in absurd (omega arith)
tells_part (n ∷ ns) (p ∷ ps) (i ∷ is) (x ∷ xs) cuts l h =
    let both = and_parts (nat_lt 0 p) (can_cut ns ps) cuts in
    let low : x < min p (n - i * p) = h.below 0 (omega arith) in
    let small : x < p = omega (arith, low) in
    let within : i * p + x < n = omega (arith, low) in
    let rest = tells_part ns ps is xs both.1 (omega arith) (IsIndex-tail x (min p (n - i * p)) xs (box_of ns ps is).shape h) in
    record {
      lies = IsIndex-cons (i * p + x) n (outward ns ps is xs) ns within rest.lies;
      tells_index = ap (λ k. k ∷ block (outward ns ps is xs) ps) (div-mul-add i p x small) ∙ ap (λ ks. i ∷ ks) rest.tells_index;
      tells_place = ap (λ k. k ∷ inside (outward ns ps is xs) ps) (mod-mul-add i p x small) ∙ ap (λ ks. x ∷ ks) rest.tells_place;
    }

-- the number of a place of a part
abbrev pub number_in : List Part → ℕ → ℕ → ℕ
number_in parts k i = get_or (get_or parts k no_part).places i 0

-- functions tell of each number the part that it stands in, and where
pub record IsCut (count : ℕ) (parts : List Part) (from : ℕ) (part place : ℕ → ℕ) : Type 0 where
  pub below : (k i : ℕ) → k < length parts → i < length (get_or parts k no_part).places → number_in parts k i < count
  pub in_part : (k i : ℕ) → k < length parts → i < length (get_or parts k no_part).places → part (number_in parts k i) ≡ from + k
  pub at_place : (k i : ℕ) → k < length parts → i < length (get_or parts k no_part).places → place (number_in parts k i) ≡ i

abbrev pub part_number : List ℕ → List ℕ → ℕ → ℕ
part_number shape subchunk n = ravel (block (place_at (zeros shape) shape n) subchunk) (grid_of shape subchunk)

abbrev pub place_number : List ℕ → List ℕ → ℕ → ℕ
place_number shape subchunk n = let p = place_at (zeros shape) shape n in ravel (inside p subchunk) (box_of shape subchunk (block p subchunk)).shape

-- a place of a part, as an index of the part and one within it
record Found (shape subchunk : List ℕ) (k i : ℕ) : Type 0 where
  pub index : List ℕ
  pub place : List ℕ
  pub grid : ravel index (grid_of shape subchunk) ≡ k
  pub within : ravel place (box_of shape subchunk index).shape ≡ i
  pub tells : TellsPart shape subchunk index place
  pub here : number_in (parts_of shape subchunk) k i ≡ ravel (outward shape subchunk index place) shape

found_at : (shape subchunk : List ℕ) (k i : ℕ) → can_cut shape subchunk ≡ true → k < length (parts_of shape subchunk) → i < length (get_or (parts_of shape subchunk) k no_part).places → Found shape subchunk k i
found_at shape subchunk k i cuts h l =
    let grid = grid_of shape subchunk in
    let parts = parts_of shape subchunk in
    let low : k < product grid = omega (arith, h, length-parts shape subchunk) in
    let g = place_at (zeros grid) grid k in
    let is = place_is_index grid k low in
    let number = ravel_place grid k low in
    let same = same_length shape subchunk cuts in
    let box = box_of shape subchunk g in
    let wide = box_lengths shape subchunk g same in
    let part_is : get_or parts k no_part ≡ part_of shape box = ap (λ m. get_or parts m no_part) (sym number) ∙ (places_at (λ index. part_of shape (box_of shape subchunk index)) grid g no_part is).1 in
    let count : length (get_or parts k no_part).places ≡ product box.shape = ap (λ (part : Part). length part.places) part_is ∙ (length-map (places box.start box.shape) (λ place. ravel place shape) ∙ length-places box.start box.shape wide) in
    let small : i < product box.shape = omega (arith, l, count) in
    let q = place_at (zeros box.shape) box.shape i in
    let is_in = place_is_index box.shape i small in
    let at_ = ravel_place box.shape i small in
    let long : length g ≡ length shape = is.same ∙ grid_length shape subchunk same in record {
      index = g;
      place = q;
      grid = number;
      within = at_;
      tells = tells_part shape subchunk g q cuts long is_in;
      here = ap (λ (part : Part). get_or part.places i 0) part_is ∙ (ap (λ m. get_or (part_of shape box).places m 0) (sym at_) ∙ (box_places_at (λ place. ravel place shape) box.start box.shape q 0 wide is_in).1);
    } where
      grid_length : (shape subchunk : List ℕ) → length shape ≡ length subchunk → length (grid_of shape subchunk) ≡ length shape
      grid_length [] subchunk l = refl
      grid_length (n ∷ ns) [] l = absurd (omega arith)
      grid_length (n ∷ ns) (p ∷ ps) l = ap suc (grid_length ns ps (omega arith))

parts_cut : (shape subchunk : List ℕ) → can_cut shape subchunk ≡ true → IsCut (product shape) (parts_of shape subchunk) 0 (part_number shape subchunk) (place_number shape subchunk)
parts_cut shape subchunk cuts = record {
  below = λ k i h l. let f = found_at shape subchunk k i cuts h l in let b = ravel_below (outward shape subchunk f.index f.place) shape f.tells.lies in let e = f.here in omega (arith, b, e);
  in_part = λ k i h l.
      let f = found_at shape subchunk k i cuts h l in
      let back = place_ravel shape (outward shape subchunk f.index f.place) f.tells.lies in
      let is : part_number shape subchunk (number_in (parts_of shape subchunk) k i) ≡ k =
      ap (part_number shape subchunk) f.here ∙ (ap (λ place. ravel (block place subchunk) (grid_of shape subchunk)) back ∙ (ap (λ index. ravel index (grid_of shape subchunk)) f.tells.tells_index ∙ f.grid)) in
      is ∙ omega arith;
  at_place = λ k i h l.
      let f = found_at shape subchunk k i cuts h l in
      let back = place_ravel shape (outward shape subchunk f.index f.place) f.tells.lies in
      ap (place_number shape subchunk) f.here
      ∙ (ap (λ place. ravel (inside place subchunk) (box_of shape subchunk (block place subchunk)).shape) back
      ∙ (ap (λ place. ravel place (box_of shape subchunk (block (outward shape subchunk f.index f.place) subchunk)).shape) f.tells.tells_place
      ∙ (ap (λ index. ravel f.place (box_of shape subchunk index).shape) f.tells.tells_index ∙ f.within)));
}

-- ---- arranging

arranged_step : (b : Bool) (fill : Cell) (cells : List Cell) (rest x : Cell) (n : ℕ) (part : Part) → nat_lt (position_of n part.places) (length part.places) ≡ b
    → (position_of n part.places < length part.places → get_or cells (position_of n part.places) fill ≡ x) → ((position_of n part.places < length part.places → ⊥) → rest ≡ x)
    → (if b then get_or cells (position_of n part.places) fill else rest) ≡ x
arranged_step true fill cells rest x n part e here there = here (ltb-true (position_of n part.places) (length part.places) e)
arranged_step false fill cells rest x n part e here there = there (λ h. let t : true ≡ false = sym (lt-ltb (position_of n part.places) (length part.places) h) ∙ e in cc)

-- the cell at a place of a part is that of the part's cells
arranged_at : (fill : Cell) (count : ℕ) (parts : List Part) (pieces : List (List Cell)) (from : ℕ) (part place : ℕ → ℕ) (k i : ℕ) → IsCut count parts from part place → length pieces ≡ length parts → k < length parts → i < length (get_or parts k no_part).places
    → arranged fill parts pieces (number_in parts k i) ≡ get_or (get_or pieces k []) i fill
arranged_at fill count [] pieces from part place k i cut same h l = absurd (omega arith)
arranged_at fill count (first ∷ parts) [] from part place k i cut same h l = absurd (omega arith)
arranged_at fill count (first ∷ parts) (cells ∷ pieces) from part place zero i cut same h l =
    let n = get_or first.places i 0 in
    let pos = position_of n first.places in
    arranged_step (nat_lt pos (length first.places)) fill cells (arranged fill parts pieces n) (get_or cells i fill) n first refl
    (λ found. ap (λ j. get_or cells j fill) (sym (cut.at_place 0 pos h found) ∙ (ap place (position_read n 0 first.places found) ∙ cut.at_place 0 i h l)))
    (λ none. absurd (none (position_found n first.places (among_at first.places i n l refl))))
arranged_at fill count (first ∷ parts) (cells ∷ pieces) from part place (suc k) i cut same h l =
    let n = number_in parts k i in
    let pos = position_of n first.places in
    let rest = arranged_at fill count parts pieces (from + 1) part place k i (cut_behind first parts cut) (omega arith) (omega arith) l in
    arranged_step (nat_lt pos (length first.places)) fill cells (arranged fill parts pieces n) (get_or (get_or pieces k []) i fill) n first refl
    (λ found.
    let one : part (get_or first.places pos 0) ≡ from + 0 = cut.in_part 0 pos (omega arith) found in
    let two : part n ≡ from + suc k = cut.in_part (suc k) i h l in
    let same_number = ap part (position_read n 0 first.places found) in
    absurd (omega (arith, one, two, same_number)))
    (λ none. rest) where
      cut_behind : (first : Part) (parts : List Part) → IsCut count (first ∷ parts) from part place → IsCut count parts (from + 1) part place
      cut_behind first parts cut = record {
        below = λ k i h l. cut.below (suc k) i (omega arith) l;
        in_part = λ k i h l. cut.in_part (suc k) i (omega arith) l ∙ omega arith;
        at_place = λ k i h l. cut.at_place (suc k) i (omega arith) l;
      }

-- what was arranged from pieces is cut into them again
pub parts_again : (fill : Cell) (shape subchunk : List ℕ) (pieces : List (List Cell)) → can_cut shape subchunk ≡ true → length pieces ≡ length (parts_of shape subchunk)
    → ((k : ℕ) → k < length (parts_of shape subchunk) → length (get_or pieces k []) ≡ length (get_or (parts_of shape subchunk) k no_part).places)
    → map (part_cells fill (map (arranged fill (parts_of shape subchunk) pieces) (place_numbers shape))) (parts_of shape subchunk) ≡ pieces
parts_again fill shape subchunk pieces cuts same long =
    let parts = parts_of shape subchunk in
    let cells = map (arranged fill parts pieces) (place_numbers shape) in
    let cut = parts_cut shape subchunk cuts in
    let piece : (k : ℕ) → k < length parts → part_cells fill cells (get_or parts k no_part) ≡ get_or pieces k [] = λ k h.
    let numbers = (get_or parts k no_part).places in
    let f = λ (i : ℕ). get_or (get_or pieces k []) i fill in
    let read : (i : ℕ) → i < length numbers → get_or (gather fill cells numbers) i fill ≡ f i = λ i l.
    let n = get_or numbers i 0 in
    get_or-map (λ m. get_or cells m fill) numbers i 0 fill l ∙ (get_or-map-range_with_len (arranged fill parts pieces) 0 (product shape) n n fill (cut.below k i h l) (omega arith)
    ∙ arranged_at fill (product shape) parts pieces 0 (part_number shape subchunk) (place_number shape subchunk) k i cut same h l) in
    fill_by_all f (gather fill cells numbers) (length numbers) fill (length-map numbers (λ m. get_or cells m fill)) read ∙ sym (fill_by_all f (get_or pieces k []) (length numbers) fill (long k h) (λ i l. refl)) in
    let g = λ (k : ℕ). get_or pieces k [] in
    fill_by_all g (map (part_cells fill cells) parts) (length parts) [] (length-map parts (part_cells fill cells)) (λ k h. get_or-map (part_cells fill cells) parts k no_part [] h ∙ piece k h)
    ∙ sym (fill_by_all g pieces (length parts) [] same (λ k h. refl))
