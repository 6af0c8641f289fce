-- Laws of extension points and of trees that are the same.
use Rattle.std.specs.Prelude.{◌≡◌, false, Some, Float, Decides}
use Rattle.serde_json.specs.Data.{Data, number, float}
use Rattle.serde_json.specs.Written.{has_float, members_have_float}
use Rattle.zarr_grids_metadata.specs.ExtensionPoints.{ExtensionPoint, extension_point, configuration_members, written_point, written_point_in}
use Rattle.zarr_grids_metadata.specs.Equal.{equal_points}
use Rattle.zarr_grids_metadata.specs.Trees.{SameTree}

-- ---- extension points

-- what is written for an extension point reads as that one
abbrev pub PointReadsBack : Type 0
PointReadsBack = (point : ExtensionPoint) → extension_point (written_point point) ≡ Some point

-- what is written for a written tree is that tree
abbrev pub WrittenPointOnce : Type 0
WrittenPointOnce = (d : Data) → written_point_in (written_point_in d) ≡ written_point_in d

-- a tree and what is written for it read as the same extension point, or neither is one
abbrev pub WrittenPointReads : Type 0
WrittenPointReads = (d : Data) → extension_point (written_point_in d) ≡ extension_point d

-- an extension point without floats is equal to itself alone
abbrev pub EqualWithoutFloat : Type 0
EqualWithoutFloat = (p q : ExtensionPoint) → members_have_float (configuration_members p.configuration) ≡ false → Decides (equal_points p q) (p ≡ q)

-- ---- trees

-- a tree is the same as itself
abbrev pub SameTreeReflexive : Type 0
SameTreeReflexive = (a : Data) → SameTree a a

-- which of two trees comes first doesn't matter
abbrev pub SameTreeSymmetric : Type 0
SameTreeSymmetric = (a b : Data) → SameTree a b → SameTree b a

-- trees that are the same as a third are the same
abbrev pub SameTreeTransitive : Type 0
SameTreeTransitive = (a b c : Data) → SameTree a b → SameTree b c → SameTree a c

-- a tree without a float is the same only as itself
abbrev pub SameWithoutFloat : Type 0
SameWithoutFloat = (a b : Data) → has_float a ≡ false → SameTree a b → a ≡ b

-- nor is another tree the same as one without a float
abbrev pub SameAsWithoutFloat : Type 0
SameAsWithoutFloat = (a b : Data) → has_float b ≡ false → SameTree a b → a ≡ b

-- a tree that is the same as one without a float has none
abbrev pub SameFloats : Type 0
SameFloats = (a b : Data) → SameTree a b → has_float a ≡ has_float b

-- any two floats are the same
abbrev pub FloatsAreSame : Type 0
FloatsAreSame = (x y : Float) → SameTree (number (float x)) (number (float y))
