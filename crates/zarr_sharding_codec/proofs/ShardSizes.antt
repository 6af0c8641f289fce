-- What is told of the size of a shard.
use Rattle.std.proofs.Common.{◌≡◌, ◌∙◌, inl, inr, ℕ, ◌+◌, ◌-◌, ◌^◌, ◌<◌, ◌≤◌, List, [], ◌∷◌, ◌++◌, length, map, get_or, ap, sym, refl, subst, arith, Bool, true, false, ◌||◌, Option, Some, None, option_map, IsTrue, Result, Ok, Err}
use Rattle.std.specs.List.{list_any}
use Rattle.std.proofs.lemmas.List.{get_or-map, length-map}
use Rattle.std.proofs.lemmas.List.Folds.{list_any_at}
use Rattle.std.proofs.lemmas.Bool.{and_parts, le-leb, lt-leb, or_from}
use Rattle.zarr_grids_boxes.specs.Boxes.{product}
use Rattle.zarr_codecs_meaning.specs.Types.{DataType, uint64, zero_filled}
use Rattle.zarr_codecs_meaning.specs.Chains as chains
use Rattle.zarr_codecs_meaning.specs.Chains.{Chain, Location, sharded}
use Rattle.zarr_codecs_meaning.specs.Encoding.{index_size}
use Rattle.zarr_codecs_meaning.specs.Fits.{at_most, bound_of, can_cut, fits, fixed_of, has_index_size, is_too_long, representation_of, sum_of_bounds, tells_too_long}
use Rattle.zarr_codecs_meaning.specs.Places.{Part, index_shape, parts_of}
use Rattle.zarr_codecs_meaning.proofs.Fitting.{fitted, index_is_short}
use Rattle.zarr_codecs_meaning.proofs.Parts.{no_part}
use Rattle.zarr_codecs_arrays.specs.declared.error.CodecError.{CodecError}
use Rattle.zarr_codecs_arrays.specs.declared.error.CodecError.TheVariants as error
use Rattle.zarr_codecs_traits.specs.Representations.{RepresentsArray, RepresentsShort}
use Rattle.zarr_codecs_traits.specs.declared.bytes_representation.BytesRepresentation.{BytesRepresentation}
use Rattle.zarr_codecs_traits.specs.declared.bytes_representation.BytesRepresentation.TheVariants as size_told
use Rattle.zarr_sharding_index.specs.Stored.{index_fits}
use Rattle.zarr_sharding_index.proofs.StoredIndex.{index_below}
use Rattle.zarr_sharding_places.specs.Locating.{part_shape}
use Rattle.zarr_sharding_codec.specs.Fitting.{BoundsShapes, any_told_long, behind, bound_of_shapes, capped, shapes_behind}
use Rattle.zarr_sharding_codec.proofs.FitParts.{index_fit}
use Rattle.zarr_sharding_codec.proofs.NumberedParts.{part_fewer, part_is}
use Rattle.zarr_sharding_codec.proofs.PartShapes.{behind_are, no_shapes}
use Rattle.zarr_sharding_codec.proofs.ShardBounds.{bounds_all, is_told, none_told, told_all}
use Rattle.zarr_sharding_codec.proofs.StoredLoop.{too_large}

-- ---- the sum

-- the slices together, as they are told, and an index
pub sum_told : (size sum told all : ℕ) → told ≡ capped sum → all ≡ told + size → all < 2 ^ 63 → RepresentsShort (at_most (Some (size + sum))) (Ok (size_told.BoundedSize all))
sum_told size sum told all is added low =
    let turned : all ≡ size + sum = omega (arith, is, added, low) in
    (ap chains.BytesRepresentation.bounded_size turned, lt-leb (2 ^ 63) (size + sum) (omega (arith, turned, low)))

-- or too long a sum
pub sum_long : (size sum told all : ℕ) → told ≡ capped sum → all ≡ told + size → 2 ^ 63 ≤ all → IsTrue (is_too_long (at_most (Some (size + sum))))
sum_long size sum told all is added long = le-leb (2 ^ 63) (size + sum) (omega (arith, is, added, long))

-- ---- the shard

index_bound : (known : chains.BytesRepresentation) (size : ℕ) → fixed_of known ≡ Some size → bound_of known ≡ Some size
index_bound (chains.BytesRepresentation.fixed_size n) size is = is
index_bound (chains.BytesRepresentation.bounded_size n) size is = cc
index_bound chains.BytesRepresentation.unbounded_size size is = cc

-- what is told of a shard's size is the index and the slices together
shard_sum : (subchunk : List ℕ) (inner index : Chain) (location : Location) (type : DataType) (shape : List ℕ) (size : ℕ) → index_fits index (index_shape shape subchunk) ≡ true → size ≡ index_size index (index_shape shape subchunk)
    → representation_of (sharded subchunk inner index location) type shape ≡ at_most (option_map (λ m. size + m) (bound_of_shapes inner type (behind [] shape subchunk)))
shard_sum subchunk inner index location type shape size fit is =
    let known = index_below index (index_shape shape subchunk) fit in
    let bounds = map (λ (part : Part). bound_of (representation_of inner type part.shape)) (parts_of shape subchunk) in
    ap (λ (o : Option ℕ). at_most (sum_of_bounds (o ∷ bounds))) (index_bound (representation_of index uint64 (index_shape shape subchunk)) (index_size index (index_shape shape subchunk)) known.0 ∙ ap Some (sym is))
    ∙ ap (λ (os : List (Option ℕ)). at_most (sum_of_bounds (Some size ∷ os))) (bounds_all inner type (parts_of shape subchunk))

third : (a b c : Bool) → c ≡ true → (a || (b || c)) ≡ true
third true b c h = refl
third false true c h = refl
third false false c h = h

second : (a b c : Bool) → b ≡ true → (a || (b || c)) ≡ true
second true b c h = refl
second false true c h = refl
second false false c h = cc

module _ (subchunk : List ℕ) (inner index : Chain) (location : Location) (type : DataType) (shape : List ℕ) (fit : fits (sharded subchunk inner index location) type shape ≡ true) where
  cuts : can_cut shape subchunk ≡ true
  cuts = (fitted subchunk inner index location (zero_filled type) shape fit).cuts

  index_fits_it : index_fits index (index_shape shape subchunk) ≡ true
  index_fits_it = index_fit subchunk inner index location type shape fit

  index_short : tells_too_long index uint64 (index_shape shape subchunk) ≡ false
  index_short = index_is_short index (index_shape shape subchunk) (and_parts (fits index uint64 (index_shape shape subchunk)) (has_index_size index (index_shape shape subchunk)) index_fits_it).1

  pub shard_told : (size : ℕ) (result : Result BytesRepresentation CodecError) → size ≡ index_size index (index_shape shape subchunk) → any_told_long inner type (behind [] shape subchunk) ≡ false
      → RepresentsShort (at_most (option_map (λ m. size + m) (bound_of_shapes inner type (behind [] shape subchunk)))) result → RepresentsArray (sharded subchunk inner index location) type shape result
  shard_told size (Ok known) is short told =
      let same = shard_sum subchunk inner index location type shape size index_fits_it is in
      let parts = parts_of shape subchunk in
      let slices_short : list_any (λ (part : Part). tells_too_long inner type part.shape) parts ≡ false = told_all inner type parts ∙ short in
      record {
        fit = fit;
        is = told.0 ∙ sym same;
        short = or_from (tells_too_long index uint64 (index_shape shape subchunk)) _ index_short (or_from (list_any (λ (part : Part). tells_too_long inner type part.shape) parts) _ slices_short (ap is_too_long same ∙ told.1));
      }
  shard_told size (Err error.Size) is short told =
      let same = shard_sum subchunk inner index location type shape size index_fits_it is in
      inr (third (tells_too_long index uint64 (index_shape shape subchunk)) (list_any (λ (part : Part). tells_too_long inner type part.shape) (parts_of shape subchunk)) (is_too_long (representation_of (sharded subchunk inner index location) type shape))
      (ap is_too_long same ∙ told))
  shard_told size (Err e) is short told = absurd told

  -- where there is no place, it is the index alone
  pub index_told : (size : ℕ) → size ≡ index_size index (index_shape shape subchunk) → product shape ≡ 0 → RepresentsArray (sharded subchunk inner index location) type shape (Ok (size_told.BoundedSize size))
  index_told size is none =
      let no_part_there : shapes_behind (behind [] shape subchunk) ≡ [] = behind_are [] (parts_of shape subchunk) ∙ ap (map (λ s. [] ++ s)) (no_shapes shape subchunk cuts none) in
      let whole : size ≡ size + 0 = omega arith in
      let told = ap chains.BytesRepresentation.bounded_size whole ∙ sym (ap (λ (ss : List (List ℕ)). at_most (option_map (λ m. size + m) (sum_of_bounds (map (λ (s : List ℕ). bound_of (representation_of inner type s)) ss)))) no_part_there) in
      let low : size < 2 ^ 63 = subst (λ n. n < 2 ^ 63) (sym is) (index_below index (index_shape shape subchunk) index_fits_it).1 in
      shard_told size (Ok (size_told.BoundedSize size)) is (ap (list_any (λ (s : List ℕ). tells_too_long inner type s)) no_part_there) (told, ap is_too_long (sym told) ∙ lt-leb (2 ^ 63) size low)

  -- where the slices have a bound together
  pub slices_told : (size slices : ℕ) (result : Result BytesRepresentation CodecError) → size ≡ index_size index (index_shape shape subchunk) → Some slices ≡ option_map capped (bound_of_shapes inner type (behind [] shape subchunk))
      → any_told_long inner type (behind [] shape subchunk) ≡ false → ((sum : ℕ) → slices ≡ capped sum → RepresentsShort (at_most (Some (size + sum))) result) → RepresentsArray (sharded subchunk inner index location) type shape result
  slices_told size slices result is bounds short law =
      let told = is_told (bound_of_shapes inner type (behind [] shape subchunk)) slices bounds in
      shard_told size result is short (subst (λ (o : Option ℕ). RepresentsShort (at_most (option_map (λ m. size + m) o)) result) (sym told.is) (law told.number told.as_told))

  -- where they have none
  pub slices_unknown : (size : ℕ) → size ≡ index_size index (index_shape shape subchunk) → None ≡ option_map capped (bound_of_shapes inner type (behind [] shape subchunk)) → any_told_long inner type (behind [] shape subchunk) ≡ false
      → RepresentsArray (sharded subchunk inner index location) type shape (Ok size_told.UnboundedSize)
  slices_unknown size is none short =
      let told = sym (ap (λ (o : Option ℕ). at_most (option_map (λ m. size + m) o)) (none_told (bound_of_shapes inner type (behind [] shape subchunk)) none)) in
      shard_told size (Ok size_told.UnboundedSize) is short (told, ap is_too_long (sym told))

  -- where a subchunk is too long, the shard is
  slice_too_long : (k : ℕ) → k < length (parts_of shape subchunk) → RepresentsArray inner type (part_shape shape subchunk k) (Err error.Size) → RepresentsArray (sharded subchunk inner index location) type shape (Err error.Size)
  slice_too_long k below (inl large) = inl (too_large type (product (part_shape shape subchunk k)) (product shape) (part_fewer shape subchunk k cuts) large)
  slice_too_long k below (inr long) =
      let parts = parts_of shape subchunk in
      inr (second (tells_too_long index uint64 (index_shape shape subchunk)) (list_any (λ (part : Part). tells_too_long inner type part.shape) parts) (is_too_long (representation_of (sharded subchunk inner index location) type shape))
      (list_any_at (λ (part : Part). tells_too_long inner type part.shape) parts k no_part below (ap (tells_too_long inner type) (part_is shape subchunk k no_part below) ∙ long)))

  pub slices_refused : (e : CodecError) → BoundsShapes inner type (behind [] shape subchunk) (Err e) → RepresentsArray (sharded subchunk inner index location) type shape (Err e)
  slices_refused error.Size long =
      let parts = parts_of shape subchunk in
      let count = length-map parts (λ (part : Part). [] ++ part.shape) in
      let low = long.below in
      let below : long.number < length parts = omega (arith, low, count) in
      let here : get_or (shapes_behind (behind [] shape subchunk)) long.number [] ≡ part_shape shape subchunk long.number =
      get_or-map (λ (part : Part). [] ++ part.shape) parts long.number no_part [] below ∙ part_is shape subchunk long.number no_part below in
      slice_too_long long.number below (subst (λ (s : List ℕ). RepresentsArray inner type s (Err error.Size)) here (long.is []))
  slices_refused error.Memory why = tt
  slices_refused e why = absurd why
