-- Trees that are the same, and trees without floats.
use Rattle.std.proofs.Common.{◌≡◌, false, ◌||◌, refl, sym, ap, ◌∙◌}
use Rattle.std.proofs.lemmas.Bool.{or_parts}
use Rattle.serde_json.specs.Data.{Num, unsigned, negative, float, Data, null, boolean, number, string, array, object, Items, no_items, item, Members, no_members, member}
use Rattle.serde_json.specs.Find.{is_float}
use Rattle.serde_json.specs.Written.{has_float, items_have_float, members_have_float}
use Rattle.zarr_grids_metadata.specs.Trees.{one_float, with_one_float, items_with_one_float, members_with_one_float, SameTree}

abbrev pub SameItems : Items → Items → Type 0
SameItems ds es = items_with_one_float ds ≡ items_with_one_float es

abbrev pub SameMembers : Members → Members → Type 0
SameMembers ms ns = members_with_one_float ms ≡ members_with_one_float ns

-- ---- a tree without floats is kept as it is

one_float-kept : (n : Num) → is_float n ≡ false → one_float n ≡ n
one_float-kept (unsigned n) h = refl
one_float-kept (negative z) h = refl
one_float-kept (float x) h = absurd (cc)

mutual
  pub with_one_float-kept : (d : Data) → has_float d ≡ false → with_one_float d ≡ d
  with_one_float-kept null h = refl
  with_one_float-kept (boolean b) h = refl
  with_one_float-kept (number n) h = ap number (one_float-kept n h)
  with_one_float-kept (string s) h = refl
  with_one_float-kept (array ds) h = ap array (items_with_one_float-kept ds h)
  with_one_float-kept (object ms) h = ap object (members_with_one_float-kept ms h)

  items_with_one_float-kept : (ds : Items) → items_have_float ds ≡ false → items_with_one_float ds ≡ ds
  items_with_one_float-kept no_items h = refl
  items_with_one_float-kept (item d ds) h =
      let parts = or_parts (has_float d) (items_have_float ds) h in
      ap (λ e. item e (items_with_one_float ds)) (with_one_float-kept d parts.0) ∙ ap (item d) (items_with_one_float-kept ds parts.1)

  members_with_one_float-kept : (ms : Members) → members_have_float ms ≡ false → members_with_one_float ms ≡ ms
  members_with_one_float-kept no_members h = refl
  members_with_one_float-kept (member k d ms) h =
      let parts = or_parts (has_float d) (members_have_float ms) h in
      ap (λ e. member k e (members_with_one_float ms)) (with_one_float-kept d parts.0) ∙ ap (member k d) (members_with_one_float-kept ms parts.1)

-- ---- it has floats where the tree has

one_float-is_float : (n : Num) → is_float (one_float n) ≡ is_float n
one_float-is_float (unsigned n) = refl
one_float-is_float (negative z) = refl
one_float-is_float (float x) = refl

mutual
  has_float-with_one_float : (d : Data) → has_float (with_one_float d) ≡ has_float d
  has_float-with_one_float null = refl
  has_float-with_one_float (boolean b) = refl
  has_float-with_one_float (number n) = one_float-is_float n
  has_float-with_one_float (string s) = refl
  has_float-with_one_float (array ds) = items_have_float-with_one_float ds
  has_float-with_one_float (object ms) = members_have_float-with_one_float ms

  items_have_float-with_one_float : (ds : Items) → items_have_float (items_with_one_float ds) ≡ items_have_float ds
  items_have_float-with_one_float no_items = refl
  items_have_float-with_one_float (item d ds) =
      ap (λ b. b || items_have_float (items_with_one_float ds)) (has_float-with_one_float d) ∙ ap (λ b. has_float d || b) (items_have_float-with_one_float ds)

  members_have_float-with_one_float : (ms : Members) → members_have_float (members_with_one_float ms) ≡ members_have_float ms
  members_have_float-with_one_float no_members = refl
  members_have_float-with_one_float (member k d ms) =
      ap (λ b. b || members_have_float (members_with_one_float ms)) (has_float-with_one_float d) ∙ ap (λ b. has_float d || b) (members_have_float-with_one_float ms)

-- ---- the laws

pub same_floats : (a b : Data) → SameTree a b → has_float a ≡ has_float b
same_floats a b h = sym (has_float-with_one_float a) ∙ ap has_float h ∙ has_float-with_one_float b

pub same_without_float : (a b : Data) → has_float a ≡ false → SameTree a b → a ≡ b
same_without_float a b none h = sym (with_one_float-kept a none) ∙ h ∙ with_one_float-kept b (sym (same_floats a b h) ∙ none)

pub same_as_without_float : (a b : Data) → has_float b ≡ false → SameTree a b → a ≡ b
same_as_without_float a b none h = same_without_float a b (same_floats a b h ∙ none) h
