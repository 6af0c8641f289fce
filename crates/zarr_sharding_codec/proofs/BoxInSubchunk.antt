-- A box of an array that lies in one of its subchunks.
use Rattle.std.proofs.Common.{◌≡◌, ◌∙◌, ℕ, zero, ◌+◌, ◌-◌, ◌/◌, ◌%◌, ◌<◌, ◌≤◌, suc, List, [], ◌∷◌, length, map, get_or, ap, sym, refl, arith, subst, Bool, true, ◌&&◌, ◌==◌, if◌then◌else◌, Result, Ok, Err}
use Rattle.std.specs.Prelude.{nat_le, nat_lt}
use Rattle.std.proofs.lemmas.Bool.{and_parts, eq-eqb, leb-true, ltb-true}
use Rattle.std.proofs.lemmas.List.{get_or-map, length-map}
use Rattle.std.proofs.lemmas.List.Folds.{list_any_at}
use Rattle.zarr_grids_boxes.specs.Boxes.{Region, product, place_at, places, ravel, each2, is_in_box, IsIndex}
use Rattle.zarr_grids_boxes.specs.Cuts.{relative}
use Rattle.zarr_grids_boxes.proofs.InBox.{length-places}
use Rattle.zarr_grids_boxes.proofs.Walking.{get_or-places, place_index}
use Rattle.zarr_codecs_meaning.specs.Decoding.{all_there}
use Rattle.zarr_codecs_meaning.specs.Encoding.{absent_pair}
use Rattle.zarr_codecs_meaning.specs.Fits.{can_cut}
use Rattle.zarr_codecs_meaning.specs.Places.{Part, grid_of, parts_of}
use Rattle.zarr_codecs_meaning.proofs.Covers.{box_places_at, zeros}
use Rattle.zarr_codecs_meaning.proofs.Lists.{each_passes}
use Rattle.zarr_codecs_meaning.proofs.Parts.{box_lengths, length-parts, no_part, same_length}
use Rattle.zarr_codecs_meaning.proofs.PartsOnce.{number_in}
use Rattle.zarr_codecs_meaning.proofs.Positions.{each_at}
use Rattle.zarr_codecs_regions.proofs.InsideArray.{each_place, ends_at_most, inside_places, inside_rank}
use Rattle.zarr_codecs_traits.specs.Indexers.{shape_has, numbers_of}
use Rattle.zarr_codecs_traits.specs.Arrays.{coded}
use Rattle.zarr_codecs_arrays.specs.declared.array_bytes.ArrayBytes.{ArrayBytes}
use Rattle.zarr_codecs_arrays.specs.declared.error.CodecError.{CodecError}
use Rattle.zarr_codecs_arrays.specs.declared.error.CodecError.TheVariants as error
use Rattle.zarr_sharding_places.specs.Locating.{inside_of, numbered, part_shape, subchunk_box, subchunk_of}
use Rattle.zarr_sharding_places.proofs.PartPlaces.{IsPlace, place_below, places_apart}
use Rattle.zarr_codecs_traits.specs.ReadBytes.{slice_length}
use Rattle.zarr_sharding_codec.specs.BoxReading.{LieInside}
use Rattle.zarr_sharding_codec.specs.BytesMet.{bytes_met, is_met}
use Rattle.zarr_sharding_codec.specs.Reading.{ListsRead, place_decoded, places_decoded, shard_cells, subchunks_of}
use Rattle.zarr_sharding_codec.proofs.NumberedParts.{part_fewer, part_number}
use Rattle.zarr_sharding_codec.proofs.GivenSoFar.{met_before, met_length, sum_least, sum_next}
use Rattle.zarr_sharding_codec.proofs.GroupsRead.{AskedShard, IsAskable, cell_of}
use Rattle.zarr_sharding_codec.proofs.LocatedParts.{located_place}
use Rattle.zarr_sharding_codec.proofs.PlaceCells.{shard_place}
use Rattle.zarr_sharding_codec.proofs.StoredLoop.{too_large}

-- ---- places of a box, as they stand from a start on

-- a place of a box that begins in another one is as far from the other's start as the box seen from there tells
pub moved_place : (os es ss rs : List ℕ) (t : ℕ) → is_in_box os es ss ≡ true → length rs ≡ length ss → place_at ss rs t ≡ each2 (λ s i. s + i) os (place_at (each2 (λ s o. s - o) ss os) rs t)
moved_place [] [] [] [] t h l = refl
moved_place [] [] [] (r ∷ rs) t h l = absurd (omega (arith, l))
moved_place [] [] (s ∷ ss) rs t h l = absurd (cc)
moved_place [] (e ∷ es) ss rs t h l = absurd (cc)
moved_place (o ∷ os) [] ss rs t h l = absurd (cc)
moved_place (o ∷ os) (e ∷ es) [] rs t h l = absurd (cc)
moved_place (o ∷ os) (e ∷ es) (s ∷ ss) [] t h l = absurd (omega (arith, l))
moved_place (o ∷ os) (e ∷ es) (s ∷ ss) (r ∷ rs) t h l =
    let both = and_parts (nat_le o s && nat_lt s (o + e)) (is_in_box os es ss) h in
    let from = leb-true o s (and_parts (nat_le o s) (nat_lt s (o + e)) both.0).0 in
    let first : s + t / product rs ≡ o + ((s - o) + t / product rs) = omega (arith, from) in
    ap (λ k. k ∷ place_at ss rs (t % product rs)) first
    ∙ ap (λ ks. (o + ((s - o) + t / product rs)) ∷ ks) (moved_place os es ss rs (t % product rs) both.1 (omega (arith, l)))

pub numbers_many : (shape : List ℕ) (region : Region) → length region.shape ≡ length region.start → length (numbers_of shape region) ≡ product region.shape
numbers_many shape region l = length-map (places region.start region.shape) (λ place. ravel place shape) ∙ length-places region.start region.shape (sym l)

pub number_at : (shape : List ℕ) (region : Region) (t : ℕ) → length region.shape ≡ length region.start → t < product region.shape → get_or (numbers_of shape region) t 0 ≡ ravel (place_at region.start region.shape t) shape
number_at shape region t l low =
    let long = length-places region.start region.shape (sym l) in
    get_or-map (λ place. ravel place shape) (places region.start region.shape) t [] 0 (omega (arith, low, long)) ∙ ap (λ place. ravel place shape) (get_or-places region.start region.shape t [] (sym l) low)

-- a place of a box that lies in a shape is an index of it
pub inside_index : (shape : List ℕ) (region : Region) (t : ℕ) → length region.shape ≡ length region.start → shape_has shape region ≡ true → t < product region.shape → IsIndex (place_at region.start region.shape t) shape
inside_index shape region t l inside low =
    place_index region.start region.shape shape t l
    (ends_at_most region.start region.shape shape l (sym (inside_rank shape region inside)) (omega (arith, low))
    (λ p h. each_place (is_in_box (zeros shape) shape) region.start region.shape p (sym l) (inside_places shape region inside) h)) low

-- ---- a subchunk

-- a box of an array begins in the subchunk with a number, and as it is seen from there it lies in it
pub record IsAround (shape subchunk : List ℕ) (region moved : Region) (n : ℕ) : Type 0 where
  pub cuts : can_cut shape subchunk ≡ true
  pub below : n < product (grid_of shape subchunk)
  pub begins : is_in_box (subchunk_box shape subchunk n).start (subchunk_box shape subchunk n).shape region.start ≡ true
  pub same : length region.shape ≡ length region.start
  pub start : moved.start ≡ each2 (λ s o. s - o) region.start (subchunk_box shape subchunk n).start
  pub shape_is : moved.shape ≡ region.shape
  pub long : length moved.shape ≡ length moved.start
  pub inside : shape_has (part_shape shape subchunk n) moved ≡ true

-- a place of the box is that place of the subchunk
record IsThere (shape subchunk : List ℕ) (n i number : ℕ) : Type 0 where
  pub place : IsPlace (parts_of shape subchunk) n i
  pub here : number_in (parts_of shape subchunk) n i ≡ number

place_there : (shape subchunk : List ℕ) (region moved : Region) (n t : ℕ) → IsAround shape subchunk region moved n → t < product region.shape
    → IsThere shape subchunk n (ravel (place_at moved.start moved.shape t) (part_shape shape subchunk n)) (ravel (place_at region.start region.shape t) shape)
place_there shape subchunk region moved n t is low =
    let box = subchunk_box shape subchunk n in
    let y = place_at moved.start moved.shape t in
    let size = ap product is.shape_is in
    let within = inside_index box.shape moved t is.long is.inside (omega (arith, low, size)) in
    let found = box_places_at (λ place. ravel place shape) box.start box.shape y 0 (box_lengths shape subchunk (numbered (grid_of shape subchunk) n) (same_length shape subchunk is.cuts)) within in
    let part = part_number shape subchunk n no_part is.below in
    let same : y ≡ place_at (each2 (λ s o. s - o) region.start box.start) region.shape t = ap (λ s. place_at s moved.shape t) is.start ∙ ap (λ s. place_at (each2 (λ s o. s - o) region.start box.start) s t) is.shape_is in
    let back : each2 (λ s i. s + i) box.start y ≡ place_at region.start region.shape t = ap (each2 (λ s i. s + i) box.start) same ∙ sym (moved_place box.start box.shape region.start region.shape t is.begins is.same) in
    let below = is.below in
    let many = length-parts shape subchunk in
    record {
      place = record { part = omega (arith, below, many); place = subst (λ (p : Part). ravel y box.shape < length p.places) (sym part) found.0 };
      here = ap (λ (p : Part). get_or p.places (ravel y box.shape) 0) part ∙ (found.1 ∙ ap (λ place. ravel place shape) back);
    }

pub box_lies : (shape subchunk : List ℕ) (region moved : Region) (n : ℕ) → IsAround shape subchunk region moved n → LieInside shape subchunk (numbers_of shape region) (numbers_of (part_shape shape subchunk n) moved) n
box_lies shape subchunk region moved n is =
    let edges = part_shape shape subchunk n in
    let below = is.below in
    let many = length-parts shape subchunk in
    let one = numbers_many shape region is.same in
    let two = numbers_many edges moved is.long in
    let size = ap product is.shape_is in
    let apart : (t : ℕ) → t < length (numbers_of shape region) → (subchunk_of shape subchunk (get_or (numbers_of shape region) t 0) ≡ n) × (inside_of shape subchunk (get_or (numbers_of shape region) t 0) ≡ get_or (numbers_of edges moved) t 0) =
    λ t low.
    let number = ravel (place_at region.start region.shape t) shape in
    let i = ravel (place_at moved.start moved.shape t) edges in
    let there = place_there shape subchunk region moved n t is (omega (arith, low, one)) in
    let under = subst (λ k. k < product shape) there.here (place_below shape subchunk n i is.cuts there.place) in
    let found = located_place shape subchunk number is.cuts under in
    let same = places_apart shape subchunk (subchunk_of shape subchunk number) (inside_of shape subchunk number) n i is.cuts (record { part = found.part; place = found.place }) there.place (found.here ∙ sym there.here) in
    let at_ = number_at shape region t is.same (omega (arith, low, one)) in
    (ap (subchunk_of shape subchunk) at_ ∙ same.0, ap (inside_of shape subchunk) at_ ∙ (same.1 ∙ sym (number_at edges moved t is.long (omega (arith, low, one, size))))) in
    record {
      below = omega (arith, below, many);
      many = omega (arith, one, two, size);
      part = λ t low. (apart t low).0;
      place = λ t low. (apart t low).1;
    }

-- what calls tell of a box and of the subchunk around it
pub is_around : (shape subchunk : List ℕ) (around region moved : Region) (n : ℕ) → can_cut shape subchunk ≡ true → n < product (grid_of shape subchunk) → around ≡ subchunk_box shape subchunk n → is_in_box around.start around.shape region.start ≡ true
    → length region.shape ≡ length region.start → moved ≡ relative region around.start → length moved.shape ≡ length moved.start → shape_has around.shape moved ≡ true → IsAround shape subchunk region moved n
is_around shape subchunk around region moved n cuts below is_box begins same is_moved long inside = record {
  cuts = cuts;
  below = below;
  begins = ap (λ (box : Region). is_in_box box.start box.shape region.start) (sym is_box) ∙ begins;
  same = same;
  start = ap (λ (r : Region). r.start) is_moved ∙ ap (λ (box : Region). each2 (λ s o. s - o) region.start box.start) is_box;
  shape_is = ap (λ (r : Region). r.shape) is_moved;
  long = long;
  inside = ap (λ (box : Region). shape_has box.shape moved) (sym is_box) ∙ inside;
}

pub some_place : (n : ℕ) → (n ≡ 0 → ⊥) → 0 < n
some_place zero none = absurd (none refl)
some_place (suc n) none = omega arith

-- ---- what is read

maps_alike : {X : Type 0} (f g : ℕ → X) (ns ms : List ℕ) → length ms ≡ length ns → ((t : ℕ) → t < length ns → f (get_or ns t 0) ≡ g (get_or ms t 0)) → map f ns ≡ map g ms
maps_alike f g [] [] l law = refl
maps_alike f g [] (m ∷ ms) l law = absurd (omega (arith, l))
maps_alike f g (n ∷ ns) [] l law = absurd (omega (arith, l))
maps_alike f g (n ∷ ns) (m ∷ ms) l law =
    ap (λ x. x ∷ map f ns) (law 0 (omega arith)) ∙ ap (λ xs. g m ∷ xs) (maps_alike f g ns ms (omega (arith, l)) (λ t low. law (suc t) (omega (arith, low))))

module _ (s : AskedShard) (insides : List ℕ) (k : ℕ) (can : IsAskable s) (lie : LieInside s.shape s.subchunk s.numbers insides k) where
  number_low : (t : ℕ) → t < length s.numbers → get_or s.numbers t 0 < product s.shape
  number_low t low = ltb-true (get_or s.numbers t 0) (product s.shape) (each_at (λ n. nat_lt n (product s.shape) ≡ true) s.numbers t 0 (each_passes (λ n. nat_lt n (product s.shape)) s.numbers can.below) low)

  -- the cells are those of the subchunk
  inside_cells : shard_cells (subchunks_of s.inner s.elements s.shape s.subchunk) s.value s.pairs s.numbers ≡ places_decoded (coded s.inner s.elements (part_shape s.shape s.subchunk k)) s.value (get_or s.pairs k absent_pair) insides
  inside_cells =
      ap all_there (maps_alike (cell_of s) (place_decoded (coded s.inner s.elements (part_shape s.shape s.subchunk k)) s.value (get_or s.pairs k absent_pair)) s.numbers insides lie.many (λ t low.
      let n = get_or s.numbers t 0 in
      shard_place s.inner s.elements s.shape s.subchunk s.value s.pairs n can.cuts can.many (number_low t low)
      ∙ (ap (λ j. place_decoded (coded s.inner s.elements (part_shape s.shape s.subchunk j)) s.value (get_or s.pairs j absent_pair) (inside_of s.shape s.subchunk n)) (lie.part t low)
      ∙ ap (place_decoded (coded s.inner s.elements (part_shape s.shape s.subchunk k)) s.value (get_or s.pairs k absent_pair)) (lie.place t low))))

  pub inside_read : (edges : List ℕ) (result : Result ArrayBytes CodecError) → edges ≡ part_shape s.shape s.subchunk k → ListsRead s.elements edges (places_decoded (coded s.inner s.elements edges) s.value (get_or s.pairs k absent_pair) insides) result
      → ListsRead s.elements s.shape (shard_cells (subchunks_of s.inner s.elements s.shape s.subchunk) s.value s.pairs s.numbers) result
  inside_read edges result is read =
      listed result (subst (λ (e : List ℕ). ListsRead s.elements e (places_decoded (coded s.inner s.elements e) s.value (get_or s.pairs k absent_pair) insides) result) is read) where
        shape : List ℕ
        shape = part_shape s.shape s.subchunk k

        listed : (result : Result ArrayBytes CodecError) → ListsRead s.elements shape (places_decoded (coded s.inner s.elements shape) s.value (get_or s.pairs k absent_pair) insides) result
            → ListsRead s.elements s.shape (shard_cells (subchunks_of s.inner s.elements s.shape s.subchunk) s.value s.pairs s.numbers) result
        listed (Ok bytes) h = record { cells = h.cells; is = inside_cells ∙ h.is; lists = h.lists }
        listed (Err error.Damage) h = inside_cells ∙ h
        listed (Err error.Size) h = too_large s.elements.type (product shape) (product s.shape) (part_fewer s.shape s.subchunk k can.cuts) h
        listed (Err error.Source) h = tt
        listed (Err error.Memory) h = tt
        listed (Err e) h = absurd h

  -- no other slice is read
  pub inside_given : (total before after : ℕ) → 0 < length s.numbers → after ≤ before + slice_length total (get_or s.pairs k absent_pair) → after ≤ before + bytes_met s.shape s.subchunk s.numbers s.pairs total
  inside_given total before after some given =
      let f : ℕ → ℕ = λ n. met_length s total n in
      let test = λ (number : ℕ). subchunk_of s.shape s.subchunk number == k in
      let met : is_met s.shape s.subchunk s.numbers k ≡ true = list_any_at test s.numbers 0 0 some (eq-eqb (subchunk_of s.shape s.subchunk (get_or s.numbers 0 0)) k (lie.part 0 some)) in
      let here : f k ≡ slice_length total (get_or s.pairs k absent_pair) = ap (λ (b : Bool). if b then slice_length total (get_or s.pairs k absent_pair) else 0) met in
      let low = lie.below in
      let many = can.many in
      let next = sum_next f k in
      let least : met_before s total (suc k) ≤ bytes_met s.shape s.subchunk s.numbers s.pairs total = sum_least f (suc k) (length s.pairs) (omega (arith, low, many)) in
      omega (arith, given, here, next, least)
