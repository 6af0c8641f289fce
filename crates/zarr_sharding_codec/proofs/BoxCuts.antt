-- A box cut by the subchunks that it meets.
use Rattle.std.proofs.Common.{◌≡◌, ◌∙◌, ℕ, suc, ◌+◌, ◌-◌, ◌*◌, ◌<◌, List, [], ◌∷◌, length, get_or, ap, sym, refl, arith, Bool, true, ◌&&◌}
use Rattle.std.proofs.lemmas.Bool.{and_parts}
use Rattle.zarr_grids_boxes.specs.Boxes.{Region, product, place_at, ravel, each2, is_in_box, IsIndex}
use Rattle.zarr_grids_boxes.specs.Cuts.{ends, overlapped, relative}
use Rattle.zarr_grids_boxes.proofs.Dimensions.{ravel_below}
use Rattle.zarr_grids_boxes.proofs.InBox.{in_box-place_at, place_at-number, ravel-place_at}
use Rattle.zarr_grids_boxes.proofs.Lawful.{overlap_shared}
use Rattle.zarr_grids_boxes.proofs.Places.{in_box_below, length-place_at, place_at-ravel}
use Rattle.zarr_grids_boxes.proofs.Walking.{start_in_box}
use Rattle.zarr_codecs_meaning.specs.Fits.{can_cut}
use Rattle.zarr_codecs_meaning.specs.Places.{box_of, grid_of}
use Rattle.zarr_codecs_meaning.proofs.Covers.{length-zeros, place_ravel, zeros}
use Rattle.zarr_codecs_meaning.proofs.Parts.{block, box_lengths, length-parts, same_length}
use Rattle.zarr_codecs_regions.proofs.InsideArray.{each_place, ends_at_most, inside_places, inside_rank}
use Rattle.zarr_codecs_traits.specs.Indexers.{shape_has, numbers_of}
use Rattle.zarr_sharding_places.specs.Locating.{inside_of, part_shape, subchunk_box, subchunk_of}
use Rattle.zarr_sharding_codec.specs.BoxReading.{AreMet, HasNumber, StandIn, cut_places}
use Rattle.zarr_sharding_codec.proofs.BoxInSubchunk.{IsAround, box_lies, inside_index, moved_place, number_at, numbers_many}
use Rattle.zarr_sharding_codec.proofs.NumberedParts.{grid_long}
use Rattle.zarr_sharding_codec.proofs.LocatedParts.{box_has, lies_in}
use Rattle.zarr_sharding_codec.proofs.MetBox.{cut_as, met_has, numbers_rise, place_in}

-- ---- the subchunks that a box meets

-- a box of subchunks: those from that of the box's start to that of its end
pub record IsMetBox (shape subchunk : List ℕ) (region met : Region) : Type 0 where
  pub cuts : can_cut shape subchunk ≡ true
  pub inside : shape_has shape region ≡ true
  pub same : length region.shape ≡ length region.start
  pub start : met.start ≡ block region.start subchunk
  pub shape_is : met.shape ≡ each2 (λ s e. e - s) (block region.start subchunk) (grid_of (ends region) subchunk)
  pub long : length met.shape ≡ length met.start
  pub within : shape_has (grid_of shape subchunk) met ≡ true

-- the subchunk of a place of the box is one of these
met_number : (shape subchunk : List ℕ) (region met : Region) (t : ℕ) → IsMetBox shape subchunk region met → t < product region.shape → HasNumber (numbers_of (grid_of shape subchunk) met) (subchunk_of shape subchunk (get_or (numbers_of shape region) t 0))
met_number shape subchunk region met t is low =
    let grid = grid_of shape subchunk in
    let x = place_at region.start region.shape t in
    let rank = inside_rank shape region is.inside in
    let here = in_box-place_at region.start region.shape t (sym is.same) low in
    let index = inside_index shape region t is.same is.inside low in
    let cuts = cut_as subchunk shape region.start is.cuts rank in
    let has = met_has subchunk region.start region.shape x cuts here in
    let among : is_in_box met.start met.shape (block x subchunk) ≡ true = ap (λ s. is_in_box s met.shape (block x subchunk)) is.start ∙ (ap (λ e. is_in_box (block region.start subchunk) e (block x subchunk)) is.shape_is ∙ has) in
    let at_ = ravel (each2 (λ p s. p - s) (block x subchunk) met.start) met.shape in
    let below = ravel_below (each2 (λ p s. p - s) (block x subchunk) met.start) met.shape (in_box_below met.start met.shape (block x subchunk) among) in
    let many = numbers_many grid met is.long in
    record {
      at_ = at_;
      below = omega (arith, below, many);
      is = number_at grid met at_ is.long below ∙ (ap (λ p. ravel p grid) (place_at-number met.start met.shape (block x subchunk) among)
          ∙ sym (ap (subchunk_of shape subchunk) (number_at shape region t is.same low) ∙ place_in shape subchunk x is.cuts index));
    }

pub box_met : (shape subchunk : List ℕ) (region met : Region) → IsMetBox shape subchunk region met → AreMet shape subchunk (numbers_of shape region) (numbers_of (grid_of shape subchunk) met)
box_met shape subchunk region met is =
    let grid = grid_of shape subchunk in
    let many = numbers_many grid met is.long in
    let count = numbers_many shape region is.same in
    record {
      below = λ i low.
          let number = number_at grid met i is.long (omega (arith, low, many)) in
          let under = ravel_below (place_at met.start met.shape i) grid (inside_index grid met i is.long is.within (omega (arith, low, many))) in
          let parts = length-parts shape subchunk in
          omega (arith, number, under, parts);
      rising = λ i j less low.
          let one = number_at grid met i is.long (omega (arith, less, low, many)) in
          let two = number_at grid met j is.long (omega (arith, low, many)) in
          let most = ends_at_most met.start met.shape grid is.long (sym (inside_rank grid met is.within)) (omega (arith, low, many))
          (λ p h. each_place (is_in_box (zeros grid) grid) met.start met.shape p (sym is.long) (inside_places grid met is.within) h) in
          let rise = numbers_rise met.start met.shape grid i j is.long most less (omega (arith, low, many)) in
          omega (arith, one, two, rise);
      all = λ t low. met_number shape subchunk region met t is (omega (arith, low, count));
    }

-- a box with no place meets none
pub none_met : (shape subchunk numbers met : List ℕ) → met ≡ [] → length numbers ≡ 0 → AreMet shape subchunk numbers met
none_met shape subchunk numbers met none no_place =
    let long = ap (λ (ns : List ℕ). length ns) none in
    record {
      below = λ i low. absurd (omega (arith, low, long));
      rising = λ i j less low. absurd (omega (arith, low, long));
      all = λ t low. absurd (omega (arith, low, no_place));
    }

-- ---- what of a box lies in one of them

-- a box's part in a subchunk: the overlap of both, as it stands in either
pub record IsPiece (shape subchunk : List ℕ) (region cut moved target : Region) (k : ℕ) : Type 0 where
  pub around : IsAround shape subchunk cut moved k
  pub inside : shape_has shape region ≡ true
  pub same : length region.shape ≡ length region.start
  pub some : 0 < product cut.shape
  pub overlap : cut ≡ overlapped region (subchunk_box shape subchunk k)
  pub target_is : target ≡ relative cut region.start
  pub target_long : length target.shape ≡ length target.start
  pub target_in : shape_has region.shape target ≡ true

module _ (shape subchunk : List ℕ) (region cut moved target : Region) (k : ℕ) (is : IsPiece shape subchunk region cut moved target k) where
  abbrev grid : List ℕ
  grid = grid_of shape subchunk

  abbrev box : Region
  box = subchunk_box shape subchunk k

  ranks : length box.start ≡ length subchunk
  ranks =
      let same = same_length shape subchunk is.around.cuts in
      length_each (place_at (zeros grid) grid k) subchunk (length-place_at (zeros grid) grid k (length-zeros grid) ∙ (length-zeros grid ∙ (grid_long shape subchunk same ∙ same))) where
        length_each : (xs ys : List ℕ) → length xs ≡ length ys → length (each2 (λ i edge. i * edge) xs ys) ≡ length ys
        length_each [] [] l = refl
        length_each [] (y ∷ ys) l = absurd (omega (arith, l))
        length_each (x ∷ xs) [] l = absurd (omega (arith, l))
        length_each (x ∷ xs) (y ∷ ys) l = ap suc (length_each xs ys (omega (arith, l)))

  -- the places of the cut are those of both boxes
  shared : (p : List ℕ) → is_in_box cut.start cut.shape p ≡ (is_in_box region.start region.shape p && is_in_box box.start box.shape p)
  shared p =
      let rank = inside_rank shape region is.inside in
      let dims = same_length shape subchunk is.around.cuts in
      let corners = ranks in
      let sides = box_lengths shape subchunk (place_at (zeros grid) grid k) dims in
      ap (λ (r : Region). is_in_box r.start r.shape p) is.overlap ∙ overlap_shared region.start region.shape box.start box.shape p is.same (sym sides) (omega (arith, rank, dims, corners))

  begins : is_in_box region.start region.shape cut.start ≡ true
  begins = (and_parts (is_in_box region.start region.shape cut.start) (is_in_box box.start box.shape cut.start) (sym (shared cut.start) ∙ start_in_box cut.start cut.shape is.around.same is.some)).0

  target_shape : target.shape ≡ cut.shape
  target_shape = ap (λ (r : Region). r.shape) is.target_is

  -- a place of the cut, from the start of the box on
  from_start : (i : ℕ) → place_at cut.start cut.shape i ≡ each2 (λ s i. s + i) region.start (place_at target.start target.shape i)
  from_start i =
      moved_place region.start region.shape cut.start cut.shape i begins is.around.same
      ∙ ap (each2 (λ s i. s + i) region.start) (ap (λ (r : Region). place_at r.start r.shape i) (sym is.target_is))

  target_index : (i : ℕ) → i < product target.shape → IsIndex (place_at target.start target.shape i) region.shape
  target_index i low = inside_index region.shape target i is.target_long is.target_in low

  -- the place of the box with the number of a place of the cut is this one
  same_place : (i : ℕ) → i < product target.shape → place_at region.start region.shape (ravel (place_at target.start target.shape i) region.shape) ≡ place_at cut.start cut.shape i
  same_place i low = place_at-ravel region.start region.shape (place_at target.start target.shape i) (sym is.same) (target_index i low) ∙ sym (from_start i)

  sizes : product target.shape ≡ product cut.shape
  sizes = ap product target_shape

  number_there : (i : ℕ) → i < product target.shape → get_or (numbers_of shape region) (get_or (numbers_of region.shape target) i 0) 0 ≡ get_or (numbers_of shape cut) i 0
  number_there i low =
      let size = sizes in
      let at_ = number_at region.shape target i is.target_long low in
      let under = ravel_below (place_at target.start target.shape i) region.shape (target_index i low) in
      ap (λ n. get_or (numbers_of shape region) n 0) at_
      ∙ (number_at shape region (ravel (place_at target.start target.shape i) region.shape) is.same under
      ∙ (ap (λ p. ravel p shape) (same_place i low) ∙ sym (number_at shape cut i is.around.same (omega (arith, low, size)))))

  -- a place of the box that lies in the subchunk stands in the cut
  found_there : (t : ℕ) → t < product region.shape → subchunk_of shape subchunk (get_or (numbers_of shape region) t 0) ≡ k → HasNumber (numbers_of region.shape target) t
  found_there t low one =
      let x = place_at region.start region.shape t in
      let index = inside_index shape region t is.same is.inside low in
      let lies = lies_in shape subchunk x is.around.cuts index in
      let number : ravel (block x subchunk) grid ≡ k = sym (place_in shape subchunk x is.around.cuts index) ∙ (sym (ap (subchunk_of shape subchunk) (number_at shape region t is.same low)) ∙ one) in
      let g : place_at (zeros grid) grid k ≡ block x subchunk = ap (place_at (zeros grid) grid) (sym number) ∙ place_ravel grid (block x subchunk) lies.grid in
      let within : is_in_box box.start box.shape x ≡ true = ap (λ q. is_in_box (box_of shape subchunk q).start (box_of shape subchunk q).shape x) g ∙ box_has shape subchunk x is.around.cuts index in
      let here = in_box-place_at region.start region.shape t (sym is.same) low in
      let among : is_in_box cut.start cut.shape x ≡ true = shared x ∙ (ap (λ (b : Bool). b && is_in_box box.start box.shape x) here ∙ within) in
      let at_ = ravel (each2 (λ p s. p - s) x cut.start) cut.shape in
      let below = ravel_below (each2 (λ p s. p - s) x cut.start) cut.shape (in_box_below cut.start cut.shape x among) in
      let size = sizes in
      let many = numbers_many region.shape target is.target_long in
      let under : at_ < product target.shape = omega (arith, below, size) in
      let y = place_at target.start target.shape at_ in
      let back : place_at region.start region.shape (ravel y region.shape) ≡ x = same_place at_ under ∙ place_at-number cut.start cut.shape x among in
      record {
        at_ = at_;
        below = omega (arith, under, many);
        is = number_at region.shape target at_ is.target_long under
            ∙ (sym (ravel-place_at region.start region.shape (ravel y region.shape) (sym is.same) (ravel_below y region.shape (target_index at_ under)))
            ∙ (ap (λ p. ravel (each2 (λ p s. p - s) p region.start) region.shape) back ∙ ravel-place_at region.start region.shape t (sym is.same) low));
      }

  pub piece_stands : StandIn (cut_places shape subchunk (numbers_of shape region)) (numbers_of region.shape target) (numbers_of (part_shape shape subchunk k) moved) k
  piece_stands =
      let lie = box_lies shape subchunk cut moved k is.around in
      let size = sizes in
      let positions = numbers_many region.shape target is.target_long in
      let whole = numbers_many shape region is.same in
      let cuts = numbers_many shape cut is.around.same in
      let many = lie.many in
      record {
        many = omega (arith, many, cuts, positions, size);
        rising = λ i j less low.
            let one = number_at region.shape target i is.target_long (omega (arith, less, low, positions)) in
            let two = number_at region.shape target j is.target_long (omega (arith, low, positions)) in
            let most = ends_at_most target.start target.shape region.shape is.target_long (sym (inside_rank region.shape target is.target_in)) (omega (arith, low, positions))
            (λ p h. each_place (is_in_box (zeros region.shape) region.shape) target.start target.shape p (sym is.target_long) (inside_places region.shape target is.target_in) h) in
            let rise = numbers_rise target.start target.shape region.shape i j is.target_long most less (omega (arith, low, positions)) in
            omega (arith, one, two, rise);
        low = λ i low.
            let at_ = number_at region.shape target i is.target_long (omega (arith, low, positions)) in
            let under = ravel_below (place_at target.start target.shape i) region.shape (target_index i (omega (arith, low, positions))) in
            omega (arith, at_, under, whole);
        part = λ i low. ap (subchunk_of shape subchunk) (number_there i (omega (arith, low, positions))) ∙ lie.part i (omega (arith, low, positions, size, cuts));
        place = λ i low. ap (inside_of shape subchunk) (number_there i (omega (arith, low, positions))) ∙ lie.place i (omega (arith, low, positions, size, cuts));
        all = λ t low one. found_there t (omega (arith, low, whole)) one;
      }
