-- JSON trees, compared without regard to the values of floats.
use Rattle.std.specs.Prelude.{◌≡◌, pos}
use Rattle.std.specs.Float.{binary64}
use Rattle.std.specs.Float.Ieee.{of_int}
use Rattle.serde_json.specs.Data.{Num, unsigned, negative, float, Data, null, boolean, number, string, array, object, Items, no_items, item, Members, no_members, member}

-- a number with each float put as one and the same
abbrev pub one_float : Num → Num
one_float (unsigned n) = unsigned n
one_float (negative z) = negative z
one_float (float x) = float (of_int binary64 (pos 0))

-- a tree with each float put as one and the same
abbrev mutual
  pub with_one_float : Data → Data
  with_one_float null = null
  with_one_float (boolean b) = boolean b
  with_one_float (number n) = number (one_float n)
  with_one_float (string s) = string s
  with_one_float (array ds) = array (items_with_one_float ds)
  with_one_float (object ms) = object (members_with_one_float ms)

  pub items_with_one_float : Items → Items
  items_with_one_float no_items = no_items
  items_with_one_float (item d ds) = item (with_one_float d) (items_with_one_float ds)

  pub members_with_one_float : Members → Members
  members_with_one_float no_members = no_members
  members_with_one_float (member k d ms) = member k (with_one_float d) (members_with_one_float ms)

-- two trees are the same where they are equal with all floats taken as one
abbrev pub SameTree : Data → Data → Type 0
SameTree a b = with_one_float a ≡ with_one_float b
