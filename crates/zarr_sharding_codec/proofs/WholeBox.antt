-- A box that is all of a subchunk.
use Rattle.std.proofs.Common.{◌≡◌, ◌∙◌, ℕ, suc, ◌+◌, ◌<◌, List, [], ◌∷◌, length, get_or, ap, sym, refl, subst, arith, true}
use Rattle.std.proofs.lemmas.List.FromFn.{fill_by_all, get_or-range_with_len, length-range_with_len}
use Rattle.zarr_grids_boxes.specs.Boxes.{Region, product, place_at, ravel, each2, is_in_box}
use Rattle.zarr_grids_boxes.specs.Cuts.{IsAtMost}
use Rattle.zarr_codecs_meaning.specs.Places.{place_numbers}
use Rattle.zarr_codecs_meaning.proofs.Covers.{ravel_place, zeros}
use Rattle.zarr_codecs_regions.proofs.InsideArray.{each_place, ends_at_most, inside_places, inside_rank}
use Rattle.zarr_codecs_traits.specs.Indexers.{numbers_of, shape_has}
use Rattle.zarr_sharding_codec.specs.BoxReading.{LieInside}
use Rattle.zarr_sharding_codec.specs.PartWriting.{AreSubchunk}
use Rattle.zarr_sharding_codec.proofs.BoxInSubchunk.{number_at, numbers_many}
use Rattle.zarr_sharding_codec.proofs.NumberedParts.{part_some}
use Rattle.zarr_sharding_codec.proofs.GroupsRead.{AskedShard, IsAskable}
use Rattle.zarr_sharding_codec.proofs.WholeSubchunk.{located, whole_count}

-- a box that ends no further than its lengths begins at the origin
at_origin : (ss ns : List ℕ) → length ss ≡ length ns → IsAtMost (each2 (λ s e. s + e) ss ns) ns → ss ≡ zeros ns
at_origin [] [] same most = refl
at_origin [] (n ∷ ns) same most = absurd (omega (arith, same))
at_origin (s ∷ ss) [] same most = absurd (omega (arith, same))
at_origin (s ∷ ss) (n ∷ ns) same most =
    let most_long = most.same in
    let first = most.each 0 (omega arith) in
    let none : s ≡ 0 = omega (arith, first) in
    let rest : IsAtMost (each2 (λ s e. s + e) ss ns) ns = record { same = omega (arith, most_long); each = λ k low. most.each (suc k) (omega (arith, low)) } in
    ap (λ k. k ∷ ss) none ∙ ap (λ ks. 0 ∷ ks) (at_origin ss ns (omega (arith, same)) rest)

-- a box in a shape that is as large as this has all of its places, in their order
pub whole_numbers : (shape : List ℕ) (region : Region) → 0 < product shape → length region.shape ≡ length region.start → shape_has shape region ≡ true → region.shape ≡ shape → numbers_of shape region ≡ place_numbers shape
whole_numbers shape region some same inside is =
    let size = ap product is in
    let most = ends_at_most region.start region.shape shape same (sym (inside_rank shape region inside)) (omega (arith, some, size)) (λ p h. each_place (is_in_box (zeros shape) shape) region.start region.shape p (sym same) (inside_places shape region inside) h) in
    let rank = ap (λ (ns : List ℕ). length ns) is in
    let start : region.start ≡ zeros shape = at_origin region.start shape (omega (arith, rank, same)) (subst (λ (es : List ℕ). IsAtMost (each2 (λ s e. s + e) region.start es) shape) is most) in
    let many = numbers_many shape region same in
    let long = length-range_with_len 0 (product shape) in
    let here : (t : ℕ) → t < product shape → get_or (numbers_of shape region) t 0 ≡ t =
    λ t low.
    number_at shape region t same (omega (arith, low, size))
    ∙ (ap (λ (ss : List ℕ). ravel (place_at ss region.shape t) shape) start ∙ (ap (λ (es : List ℕ). ravel (place_at (zeros shape) es t) shape) is ∙ ravel_place shape t low)) in
    fill_by_all (λ t. t) (numbers_of shape region) (product shape) 0 (omega (arith, many, size)) here
    ∙ sym (fill_by_all (λ t. t) (place_numbers shape) (product shape) 0 long (λ t low. get_or-range_with_len 0 (product shape) t 0 low ∙ omega arith))

-- the places of a box that is a subchunk lie in it, each where it stands
pub whole_lies : (s : AskedShard) (edges : List ℕ) (k : ℕ) → IsAskable s → AreSubchunk s.shape s.subchunk s.numbers k → product edges ≡ length s.numbers → LieInside s.shape s.subchunk s.numbers (place_numbers edges) k
whole_lies s edges k can whole count =
    let long = length-range_with_len 0 (product edges) in
    record {
      below = whole.below;
      many = omega (arith, count, long);
      part = λ t low. (located s k can whole t low).0;
      place = λ t low. (located s k can whole t low).1 ∙ sym (get_or-range_with_len 0 (product edges) t 0 (omega (arith, low, count)) ∙ omega arith);
    }

pub whole_some : (s : AskedShard) (k : ℕ) → IsAskable s → AreSubchunk s.shape s.subchunk s.numbers k → 0 < length s.numbers
whole_some s k can whole =
    let count = whole_count s k can whole in
    let one = part_some s.shape s.subchunk k can.cuts whole.below in
    omega (arith, count, one)
