-- How many bytes are given for the slices of a part that is cut.
use Rattle.std.proofs.Common.{◌≡◌, ℕ, ◌+◌, ◌<◌, ◌≤◌, List, ◌++◌, length, get_or, sym, refl, subst, arith, Option, Some, true}
use Rattle.std.specs.Prelude.{nat_lt}
use Rattle.std.specs.List.{list_all}
use Rattle.std.specs.List.Sorted.{IsNonDecreasingBy, IsPermutation}
use Rattle.zarr_grids_boxes.specs.Boxes.{Region, product}
use Rattle.zarr_grids_boxes.specs.Subsets.{region_of}
use Rattle.zarr_codecs_meaning.specs.Chains.{Chain, Location, sharded}
use Rattle.zarr_codecs_meaning.specs.Encoding.{Pair, absent_pair, index_size}
use Rattle.zarr_codecs_meaning.specs.Fits.{fits}
use Rattle.zarr_codecs_meaning.specs.Places.{index_shape, parts_of}
use Rattle.zarr_codecs_meaning.specs.Types.{Elements}
use Rattle.zarr_codecs_meaning.proofs.Fitting.{fitted}
use Rattle.zarr_codecs_traits.specs.Indexers.{numbers_of}
use Rattle.zarr_codecs_traits.specs.ReadBytes.{most_of_numbers, slice_length}
use Rattle.zarr_sharding_index.specs.HeldIndex.{held_pairs}
use Rattle.zarr_sharding_places.specs.Groups.{StartsAnother}
use Rattle.zarr_sharding_places.specs.Locating.{asked_places}
use Rattle.zarr_sharding_places.specs.declared.locating.AskedPlace.{AskedPlace}
use Rattle.zarr_sharding_codec.specs.BoxReading.{AreMet, IsCutOut, StandIn, cut_places}
use Rattle.zarr_sharding_codec.specs.BytesMet.{bytes_met}
use Rattle.zarr_sharding_codec.specs.declared.box_reading.BoxCut.{BoxCut}
use Rattle.zarr_sharding_codec.proofs.BoxInSubchunk.{numbers_many}
use Rattle.zarr_sharding_codec.proofs.BoxRead.{GivenBefore, given_next}
use Rattle.zarr_sharding_codec.proofs.GivenSoFar.{GivenSoFar, given_more}
use Rattle.zarr_sharding_codec.proofs.GroupsRead.{AskedShard, IsAskable}
use Rattle.zarr_sharding_codec.proofs.MostTaken.{slices_taken}
use Rattle.zarr_sharding_codec.proofs.SoFarRead.{IsLeft, group_asked, pair_at}

-- one subchunk more that places of a box lie in
pub box_given : (s : AskedShard) (total : ℕ) (region : Region) (met : List ℕ) (cut : BoxCut) (before now after j : ℕ) → IsAskable s → AreMet s.shape s.subchunk s.numbers met → s.numbers ≡ numbers_of s.shape region → j < length met → IsCutOut s.shape s.subchunk region (get_or met j 0) cut
    → GivenBefore s total met before now j → after ≤ now + slice_length total (get_or s.pairs (get_or met j 0) absent_pair) → GivenBefore s total met before after (j + 1)
box_given s total region met cut before now after j can are numbers low out was given =
    let k = get_or met j 0 in
    let inside = region_of cut.inside.region in
    let positions = numbers_of region.shape (region_of cut.target) in
    let insides = numbers_of cut.inside.shape.items inside in
    let stand = subst (λ (ns : List ℕ). StandIn (cut_places s.shape s.subchunk ns) positions insides k) (sym numbers) out.stand in
    let some = out.some in
    let size = numbers_many cut.inside.shape.items inside cut.inside.region.same in
    let many = stand.many in
    given_next s total met positions insides k before now after j can are stand (omega (arith, some, size, many)) low refl was given

-- one group more of places that are listed
pub group_given : (s : AskedShard) (total : ℕ) (places rest group others : List AskedPlace) (before now after : ℕ) → IsAskable s → IsPermutation (asked_places s.shape s.subchunk s.numbers) places → IsLeft places rest → group ++ others ≡ rest → 0 < length group → StartsAnother group others
    → IsNonDecreasingBy (λ (place : AskedPlace). place.subchunk) rest → GivenSoFar s total before now rest → after ≤ now + slice_length total (pair_at s group) → GivenSoFar s total before after others
group_given s total places rest group others before now after can moved left cut some next sorted was given =
    given_more s total before now after group others can (group_asked s places rest group others moved left cut) some next
    (subst (λ (ps : List AskedPlace). IsNonDecreasingBy (λ (place : AskedPlace). place.subchunk) ps) (sym cut) sorted) (subst (λ (ps : List AskedPlace). GivenSoFar s total before now ps) (sym cut) was) given

-- of a value whose index was read, and then slices
pub value_taken : (subchunk : List ℕ) (inner index : Chain) (location : Location) (elements : Elements) (shape : List ℕ) (stored : Option (List ℕ)) (value numbers : List ℕ) (pairs : List Pair) (total size before opened after : ℕ) → stored ≡ Some value → total ≡ length value → fits (sharded subchunk inner index location) elements.type shape ≡ true
    → length pairs ≡ length (parts_of shape subchunk) → list_all (λ n. nat_lt n (product shape)) numbers ≡ true → held_pairs index location (index_shape shape subchunk) value ≡ Some pairs → size ≡ index_size index (index_shape shape subchunk) → opened ≤ before + size
    → after ≤ opened + bytes_met shape subchunk numbers pairs total → after ≤ before + most_of_numbers (sharded subchunk inner index location) elements.type shape stored numbers
value_taken subchunk inner index location elements shape stored value numbers pairs total size before opened after is long fit many below held same first second =
    subst (λ (o : Option (List ℕ)). after ≤ before + most_of_numbers (sharded subchunk inner index location) elements.type shape o numbers) (sym is)
    (slices_taken subchunk inner index location elements.type shape value numbers pairs total size before opened after long (fitted subchunk inner index location elements shape fit).cuts many below held same first second)
