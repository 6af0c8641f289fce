-- Trees that are the same have the same version.
use Rattle.std.proofs.Common.{◌≡◌, ℕ, List, codes, Bool, false, Option, Some, None, option_map, Ordering, Less, Equal, Greater, nat_cmp, refl, sym, ap, ◌∙◌}
use Rattle.std.specs.Cmp.Lexicographic.{slice_cmp}
use Rattle.std.specs.Option.{option_map_or}
use Rattle.std.specs.Ordering.{match_ordering}
use Rattle.serde_json.specs.Data.{Num, unsigned, negative, float, Data, null, boolean, number, string, array, object, Members, no_members, member}
use Rattle.serde_json.specs.Find.{get_member}
use Rattle.zarr_grids_metadata.specs.Trees.{with_one_float, members_with_one_float, SameTree}
use Rattle.zarr_array_v2.specs.Dtypes.{is_number}
use Rattle.zarr_array_v2.specs.Versions.{has_version_2, is_version_2}

at_number : (n : Num) → is_number 2 (with_one_float (number n)) ≡ is_number 2 (number n)
at_number (unsigned n) = refl
at_number (negative z) = refl
at_number (float x) = refl

is_2 : (d : Data) → is_number 2 (with_one_float d) ≡ is_number 2 d
is_2 null = refl
is_2 (boolean b) = refl
is_2 (number n) = at_number n
is_2 (string s) = refl
is_2 (array ds) = refl
is_2 (object ms) = refl

found_at : (o : Ordering) (d : Data) (p q : Option Data) → p ≡ option_map with_one_float q → match_ordering o p (Some (with_one_float d)) p ≡ option_map with_one_float (match_ordering o q (Some d) q)
found_at Less d p q same = same
found_at Equal d p q same = refl
found_at Greater d p q same = same

-- what stands at a name, with each float put as one and the same
pub found : (k : List ℕ) (ms : Members) → get_member k (members_with_one_float ms) ≡ option_map with_one_float (get_member k ms)
found k no_members = refl
found k (member l d ms) = found_at (slice_cmp nat_cmp k l) d (get_member k (members_with_one_float ms)) (get_member k ms) (found k ms)

version_at : (o : Option Data) → option_map_or (is_number 2) (option_map with_one_float o) false ≡ option_map_or (is_number 2) o false
version_at None = refl
version_at (Some d) = is_2 d

members_version : (ms : Members) → has_version_2 (members_with_one_float ms) ≡ has_version_2 ms
members_version ms = ap (λ o. option_map_or (is_number 2) o false) (found (codes "zarr_format") ms) ∙ version_at (get_member (codes "zarr_format") ms)

version : (d : Data) → is_version_2 (with_one_float d) ≡ is_version_2 d
version null = refl
version (boolean b) = refl
version (number n) = refl
version (string s) = refl
version (array ds) = refl
version (object ms) = members_version ms

pub same_version : (a b : Data) → SameTree a b → is_version_2 a ≡ is_version_2 b
same_version a b same = sym (version a) ∙ ap is_version_2 same ∙ version b
