-- How many bytes of a shard are taken at most: those of its index, and of the slices that places lie in.
use Rattle.std.proofs.Common.{◌≡◌, ◌∙◌, ℕ, zero, suc, ◌+◌, ◌≤◌, List, [], ◌∷◌, length, replicate, ap, sym, refl, subst, arith, Option, None, Some, unwrap_or, Bool, true, false, if◌then◌else◌}
use Rattle.std.specs.Prelude.{nat_lt}
use Rattle.std.specs.List.{list_all}
use Rattle.zarr_grids_boxes.specs.Boxes.{product}
use Rattle.zarr_codecs_meaning.specs.Chains.{Chain, Location, sharded}
use Rattle.zarr_codecs_meaning.specs.Encoding.{Pair, absent_pair, index_size}
use Rattle.zarr_codecs_meaning.specs.Fits.{can_cut}
use Rattle.zarr_codecs_meaning.specs.Places.{Part, index_shape, parts_of}
use Rattle.zarr_codecs_meaning.specs.Types.{DataType, Elements}
use Rattle.zarr_codecs_traits.specs.PartWriting.{is_met}
use Rattle.zarr_codecs_traits.specs.ReadBytes.{bytes_of_numbers, most_of_numbers, slices_met}
use Rattle.zarr_codecs_traits.specs.Sources.{value_length}
use Rattle.zarr_sharding_index.specs.HeldIndex.{held_pairs}
use Rattle.zarr_sharding_codec.specs.BytesMet.{bytes_met}
use Rattle.zarr_sharding_codec.proofs.MetParts.{bytes_alike}
use Rattle.zarr_sharding_codec.proofs.PartShown.{IsShardOpened}

-- ---- where the index alone was read

pub index_taken : (subchunk : List ℕ) (inner index : Chain) (location : Location) (type : DataType) (shape : List ℕ) (stored : Option (List ℕ)) (numbers : List ℕ) (size before after : ℕ) → size ≡ index_size index (index_shape shape subchunk) → after ≤ before + size → after ≤ before + value_length stored
    → after ≤ before + most_of_numbers (sharded subchunk inner index location) type shape stored numbers
index_taken subchunk inner index location type shape None numbers size before after same first within = within
index_taken subchunk inner index location type shape (Some value) numbers size before after same first within = omega (arith, same, first)

-- ---- where slices were read

pub slices_taken : (subchunk : List ℕ) (inner index : Chain) (location : Location) (type : DataType) (shape value numbers : List ℕ) (pairs : List Pair) (total size before opened after : ℕ) → total ≡ length value → can_cut shape subchunk ≡ true → length pairs ≡ length (parts_of shape subchunk)
    → list_all (λ n. nat_lt n (product shape)) numbers ≡ true → held_pairs index location (index_shape shape subchunk) value ≡ Some pairs → size ≡ index_size index (index_shape shape subchunk) → opened ≤ before + size → after ≤ opened + bytes_met shape subchunk numbers pairs total
    → after ≤ before + bytes_of_numbers (sharded subchunk inner index location) type shape numbers value
slices_taken subchunk inner index location type shape value numbers pairs total size before opened after long cuts many below held same first second =
    let parts = parts_of shape subchunk in
    let here = subst (λ n. after ≤ opened + bytes_met shape subchunk numbers pairs n) long second in
    let alike = bytes_alike shape subchunk numbers pairs (length value) cuts many below in
    let most : after ≤ before + (index_size index (index_shape shape subchunk) + slices_met (length value) numbers parts pairs) = omega (arith, same, first, here, alike) in
    subst (λ (o : Option (List Pair)). after ≤ before + (index_size index (index_shape shape subchunk) + slices_met (length value) numbers parts (unwrap_or o []))) (sym held) most

-- no slices are taken where no subchunk is present
none_taken : (met : Bool) → ◌≡◌ {A = ℕ} (if met then 0 else 0) 0
none_taken true = refl
none_taken false = refl

absent_taken : (total : ℕ) (numbers : List ℕ) (parts : List Part) (count : ℕ) → slices_met total numbers parts (replicate count absent_pair) ≡ 0
absent_taken total numbers [] count = refl
absent_taken total numbers (part ∷ parts) zero = refl
absent_taken total numbers (part ∷ parts) (suc count) =
    let others = slices_met total numbers parts (replicate count absent_pair) in
    let none : 0 + others ≡ others = omega arith in
    ap (λ n. n + others) (none_taken (is_met numbers part)) ∙ (none ∙ absent_taken total numbers parts count)

-- of a shard that was opened, and of which it is known how many bytes it has, where it is there
pub opened_taken : (subchunk : List ℕ) (inner index : Chain) (location : Location) (elements : Elements) (shape : List ℕ) (stored : Option (List ℕ)) (pairs : List Pair) (numbers : List ℕ) (total size before opened after : ℕ) → IsShardOpened subchunk inner index location elements shape stored pairs
    → ((value : List ℕ) → stored ≡ Some value → total ≡ length value)
    → list_all (λ n. nat_lt n (product shape)) numbers ≡ true → size ≡ index_size index (index_shape shape subchunk) → opened ≤ before + size → opened ≤ before + value_length stored → after ≤ opened + bytes_met shape subchunk numbers pairs total
    → after ≤ before + most_of_numbers (sharded subchunk inner index location) elements.type shape stored numbers
opened_taken subchunk inner index location elements shape None pairs numbers total size before opened after is long below same first within second =
    let alike = bytes_alike shape subchunk numbers pairs total is.cuts is.many below in
    let none = ap (slices_met total numbers (parts_of shape subchunk)) is.opened.0 ∙ absent_taken total numbers (parts_of shape subchunk) is.count in
    omega (arith, within, second, alike, none)
opened_taken subchunk inner index location elements shape (Some value) pairs numbers total size before opened after is long below same first within second =
    slices_taken subchunk inner index location elements.type shape value numbers pairs total size before opened after (long value refl) is.cuts is.many below is.opened.0 same first second
