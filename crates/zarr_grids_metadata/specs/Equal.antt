-- Equality of JSON trees and of extension points, as tests. Floats are compared as IEEE 754 does.
use Rattle.std.specs.Prelude.{◌==◌, ◌&&◌, bytes_eq, Bool, true, false, Option, Some, None}
use Rattle.std.specs.Ordering.{int_eq}
use Rattle.std.specs.Bool.{beq}
use Rattle.std.specs.Float.Ieee as ieee
use Rattle.serde_json.specs.Data.{Num, unsigned, negative, float, Data, null, boolean, number, string, array, object, Items, no_items, item, Members, no_members, member}
use Rattle.zarr_grids_metadata.specs.ExtensionPoints.{ExtensionPoint}

-- whether two numbers are equal, and both integers or both floats
abbrev pub equal_numbers : Num → Num → Bool
equal_numbers (unsigned m) (unsigned n) = m == n
equal_numbers (negative y) (negative z) = int_eq y z
equal_numbers (float x) (float y) = ieee.eq x y
equal_numbers _ _ = false

-- whether two trees are equal
abbrev mutual
  pub equal : Data → Data → Bool
  equal null null = true
  equal (boolean b) (boolean c) = beq b c
  equal (number m) (number n) = equal_numbers m n
  equal (string s) (string t) = bytes_eq s t
  equal (array ds) (array es) = equal_items ds es
  equal (object ms) (object ns) = equal_members ms ns
  equal _ _ = false

  pub equal_items : Items → Items → Bool
  equal_items no_items no_items = true
  equal_items (item d ds) (item e es) = equal d e && equal_items ds es
  equal_items _ _ = false

  pub equal_members : Members → Members → Bool
  equal_members no_members no_members = true
  equal_members (member k d ms) (member l e ns) = bytes_eq k l && (equal d e && equal_members ms ns)
  equal_members _ _ = false

-- whether two configurations are equal: both absent, or equal objects
abbrev pub equal_configurations : Option Members → Option Members → Bool
equal_configurations None None = true
equal_configurations (Some ms) (Some ns) = equal_members ms ns
equal_configurations _ _ = false

-- whether two extension points are equal in each part
abbrev pub equal_points : ExtensionPoint → ExtensionPoint → Bool
equal_points p q = bytes_eq p.name q.name && (equal_configurations p.configuration q.configuration && beq p.must_understand q.must_understand)
