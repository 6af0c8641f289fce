-- Boxes of an array that lie in one of its subchunks.
use Rattle.std.specs.Prelude.{◌≡◌, ℕ, ◌<◌, List, length, get_or, true}
use Rattle.zarr_codecs_meaning.specs.Places.{parts_of}
use Rattle.zarr_codecs_traits.specs.Indexers.{shape_has, numbers_of}
use Rattle.zarr_grids_boxes.specs.Boxes.{Region, product}
use Rattle.zarr_grids_boxes.specs.Subsets.{region_of}
use Rattle.zarr_sharding_codec.specs.PartWriting.{insides, positions}
use Rattle.zarr_sharding_codec.specs.declared.box_reading.BoxCut.{BoxCut}
use Rattle.zarr_sharding_codec.specs.declared.box_reading.BoxInside.{BoxInside}
use Rattle.zarr_sharding_places.specs.Locating.{inside_of, part_shape, subchunk_of}
use Rattle.zarr_sharding_places.specs.declared.locating.AskedPlace.{AskedPlace}

-- the places with these numbers all lie in one subchunk, and there have those numbers
pub record LieInside (shape subchunk numbers insides : List ℕ) (k : ℕ) : Type 0 where
  pub below : k < length (parts_of shape subchunk)
  pub many : length insides ≡ length numbers
  pub part : (t : ℕ) → t < length numbers → subchunk_of shape subchunk (get_or numbers t 0) ≡ k
  pub place : (t : ℕ) → t < length numbers → inside_of shape subchunk (get_or numbers t 0) ≡ get_or insides t 0

-- a box with places, which are these, is a box of one subchunk
pub record IsBoxInside (shape subchunk numbers : List ℕ) (found : BoxInside) : Type 0 where
  pub edges : found.shape.items ≡ part_shape shape subchunk found.number
  pub inside : shape_has found.shape.items (region_of found.region) ≡ true
  pub some : 0 < product (region_of found.region).shape
  pub lie : LieInside shape subchunk numbers (numbers_of found.shape.items (region_of found.region)) found.number

-- one of several numbers is this one
pub record HasNumber (ns : List ℕ) (n : ℕ) : Type 0 where
  pub at_ : ℕ
  pub below : at_ < length ns
  pub is : get_or ns at_ 0 ≡ n

-- the numbers of subchunks, in rising order, where each place with one of the given numbers lies in one of them
pub record AreMet (shape subchunk numbers met : List ℕ) : Type 0 where
  pub below : (i : ℕ) → i < length met → get_or met i 0 < length (parts_of shape subchunk)
  pub rising : (i j : ℕ) → i < j → j < length met → get_or met i 0 < get_or met j 0
  pub all : (t : ℕ) → t < length numbers → HasNumber met (subchunk_of shape subchunk (get_or numbers t 0))

-- places of an array of this shape, which is cut into subchunks of that one, by their numbers
pub record CutPlaces : Type 0 where
  pub shape : List ℕ
  pub subchunk : List ℕ
  pub numbers : List ℕ

-- the same, put together
abbrev pub cut_places : List ℕ → List ℕ → List ℕ → CutPlaces
cut_places shape subchunk numbers = record { shape = shape; subchunk = subchunk; numbers = numbers }

-- of these places, those at some rising positions are the ones that lie in a subchunk, and there have these numbers
pub record StandIn (asked : CutPlaces) (positions insides : List ℕ) (k : ℕ) : Type 0 where
  pub many : length insides ≡ length positions
  pub rising : (i j : ℕ) → i < j → j < length positions → get_or positions i 0 < get_or positions j 0
  pub low : (i : ℕ) → i < length positions → get_or positions i 0 < length asked.numbers
  pub part : (i : ℕ) → i < length positions → subchunk_of asked.shape asked.subchunk (get_or asked.numbers (get_or positions i 0) 0) ≡ k
  pub place : (i : ℕ) → i < length positions → inside_of asked.shape asked.subchunk (get_or asked.numbers (get_or positions i 0) 0) ≡ get_or insides i 0
  pub all : (t : ℕ) → t < length asked.numbers → subchunk_of asked.shape asked.subchunk (get_or asked.numbers t 0) ≡ k → HasNumber positions t

-- what of a box lies in the subchunk with this number: a box with places, as it stands there, and as it stands in the whole one
pub record IsCutOut (shape subchunk : List ℕ) (region : Region) (k : ℕ) (cut : BoxCut) : Type 0 where
  pub number : cut.inside.number ≡ k
  pub edges : cut.inside.shape.items ≡ part_shape shape subchunk k
  pub inside : shape_has cut.inside.shape.items (region_of cut.inside.region) ≡ true
  pub some : 0 < product (region_of cut.inside.region).shape
  pub stand : StandIn (cut_places shape subchunk (numbers_of shape region)) (numbers_of region.shape (region_of cut.target)) (numbers_of cut.inside.shape.items (region_of cut.inside.region)) k

-- places of a subchunk are those of what of a box lies there: in their order they stand in the subchunk, and in the box with these lengths, as it does
pub record IsCutGroup (lengths : List ℕ) (cut : BoxCut) (group : List AskedPlace) : Type 0 where
  pub positions_are : positions group ≡ numbers_of lengths (region_of cut.target)
  pub insides_are : insides group ≡ numbers_of cut.inside.shape.items (region_of cut.inside.region)
