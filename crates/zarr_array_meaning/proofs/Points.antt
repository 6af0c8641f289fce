-- Extension points as they are written: they say the same, and codecs are no deeper and have no more floats.
use Rattle.std.proofs.Common.{◌≡◌, ◌≤◌, false, option_and_then, refl, ap, arith, rules}
use Rattle.std.proofs.lemmas.Bool.{or_parts, or_from}
use Rattle.serde_json.specs.Data.{Data, null, boolean, number, string, array, object, Items, no_items, item, depth, items_depth}
use Rattle.serde_json.specs.Written.{has_float, items_have_float}
use Rattle.zarr_grids_metadata.specs.ExtensionPoints.{extension_point, written_point_in}
use Rattle.zarr_grids_metadata.proofs.PointLemmas.{depth_written_point_in, float_written_point_in}
use Rattle.zarr_codecs_metadata.specs.Chains.{ReadsCodecs, points_in}
use Rattle.zarr_sharding_metadata.specs.Metadata.{array_chain_of}
use Rattle.zarr_array_meaning.specs.Parts.{codecs_in}
use Rattle.zarr_array_meaning.specs.Written.{written_points, written_codecs}

-- ---- what a written tree says

pub extension_point-written : (d : Data) → extension_point (written_point_in d) ≡ extension_point d
extension_point-written d = search rules

points_in-written : (ds : Items) → points_in (written_points ds) ≡ points_in ds
points_in-written no_items = refl
points_in-written (item d ds) = rw (extension_point-written d, points_in-written ds)

-- codecs say the same chain once they are written
pub codecs_in-written : (reads : ReadsCodecs) (d : Data) → codecs_in reads (written_codecs d) ≡ codecs_in reads d
codecs_in-written reads null = refl
codecs_in-written reads (boolean b) = refl
codecs_in-written reads (number n) = refl
codecs_in-written reads (string s) = refl
codecs_in-written reads (array ds) = ap (option_and_then (array_chain_of reads)) (points_in-written ds)
codecs_in-written reads (object ms) = refl

-- ---- written again

pub written_point_in-twice : (d : Data) → written_point_in (written_point_in d) ≡ written_point_in d
written_point_in-twice d = search rules

pub written_points-twice : (ds : Items) → written_points (written_points ds) ≡ written_points ds
written_points-twice no_items = refl
written_points-twice (item d ds) = rw (written_point_in-twice d, written_points-twice ds)

pub written_codecs-twice : (d : Data) → written_codecs (written_codecs d) ≡ written_codecs d
written_codecs-twice null = refl
written_codecs-twice (boolean b) = refl
written_codecs-twice (number n) = refl
written_codecs-twice (string s) = refl
written_codecs-twice (array ds) = ap array (written_points-twice ds)
written_codecs-twice (object ms) = refl

-- ---- depth

items_depth-written_points : (ds : Items) → items_depth (written_points ds) ≤ items_depth ds
items_depth-written_points no_items = omega arith
items_depth-written_points (item d ds) = let h = depth_written_point_in d in let g = items_depth-written_points ds in omega arith

-- codecs are no deeper once they are written
pub depth-written_codecs : (d : Data) → depth (written_codecs d) ≤ depth d
depth-written_codecs null = omega arith
depth-written_codecs (boolean b) = omega arith
depth-written_codecs (number n) = omega arith
depth-written_codecs (string s) = omega arith
depth-written_codecs (array ds) = let h = items_depth-written_points ds in omega arith
depth-written_codecs (object ms) = omega arith

-- ---- floats

items_have_float-written_points : (ds : Items) → items_have_float ds ≡ false → items_have_float (written_points ds) ≡ false
items_have_float-written_points no_items h = h
items_have_float-written_points (item d ds) h =
    let parts = or_parts (has_float d) (items_have_float ds) h in
    or_from _ _ (float_written_point_in d parts.0) (items_have_float-written_points ds parts.1)

-- codecs without a float have none once they are written
pub has_float-written_codecs : (d : Data) → has_float d ≡ false → has_float (written_codecs d) ≡ false
has_float-written_codecs null h = h
has_float-written_codecs (boolean b) h = h
has_float-written_codecs (number n) h = h
has_float-written_codecs (string s) h = h
has_float-written_codecs (array ds) h = items_have_float-written_points ds h
has_float-written_codecs (object ms) h = h
