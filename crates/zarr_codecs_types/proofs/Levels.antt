-- How deep optional types nest in metadata.
use Rattle.std.proofs.Common.{◌≡◌, ℕ, zero, suc, ◌<◌, ◌≤◌, List, [], ◌∷◌, codes, Bool, true, false, if◌then◌else◌, Option, Some, None, option_map, option_and_then, refl, sym, ap, ◌∙◌, arith}
use Rattle.serde_json.specs.Data.{Data, null, boolean, number, string, array, object, Members, depth, members_depth}
use Rattle.serde_json.specs.Find.{get_member, as_str}
use Rattle.zarr_grids_metadata.specs.ExtensionPoints.{ExtensionPoint, configuration_in, configuration_members}
use Rattle.zarr_grids_metadata.specs.Members.{has_only}
use Rattle.zarr_grids_metadata.proofs.PutLemmas.{depth_got}
use Rattle.zarr_codecs_meaning.specs.Types.{DataType, optional_of}
use Rattle.zarr_codecs_types.specs.Metadata.{named, inner_point, is_optional_name, plain_type, type_within, configuration_depth, point_type}

configuration_less : (o : Option Data) (c : Option Members) (limit : ℕ) → configuration_in o ≡ Some c → ((d : Data) → o ≡ Some d → depth d ≤ limit) → configuration_depth c ≤ limit
configuration_less None c limit is h = let e : c ≡ None = cc in let g = ap configuration_depth e in omega arith
configuration_less (Some null) c limit is h = cc
configuration_less (Some (boolean b)) c limit is h = cc
configuration_less (Some (number x)) c limit is h = cc
configuration_less (Some (string s)) c limit is h = cc
configuration_less (Some (array ds)) c limit is h = cc
configuration_less (Some (object ms)) c limit is h = let e : c ≡ Some ms = cc in let g = ap configuration_depth e in let k = h (object ms) refl in omega arith

inner_at : (b : Bool) (n : Option (List ℕ)) (o : Option (Option Members)) (q : ExtensionPoint)
    → (if b then option_and_then (λ name. option_map (λ configuration. named configuration name) o) n else None) ≡ Some q → o ≡ Some q.configuration
inner_at false n o q is = cc
inner_at true None o q is = cc
inner_at true (Some name) None q is = cc
inner_at true (Some name) (Some c) q is = ap (option_map (λ (p : ExtensionPoint). p.configuration)) is

-- the configuration of the inner type nests less deep
pub inner_less : (c : Option Members) (q : ExtensionPoint) → inner_point (configuration_members c) ≡ Some q → configuration_depth q.configuration < configuration_depth c
inner_less None q is = cc
inner_less (Some ms) q is =
    let o = get_member (codes "configuration") ms in
    let there = inner_at (has_only (codes "name" ∷ codes "configuration" ∷ []) ms) (option_and_then as_str (get_member (codes "name") ms)) (configuration_in o) q is in
    let less = configuration_less o q.configuration (members_depth ms) there (λ d e. depth_got (codes "configuration") d ms e) in
    omega arith

same_inner : (f g : ExtensionPoint → Option DataType) (o : Option ExtensionPoint) → ((q : ExtensionPoint) → o ≡ Some q → f q ≡ g q) → option_and_then f o ≡ option_and_then g o
same_inner f g None h = refl
same_inner f g (Some q) h = h q refl

-- more levels than the configuration has say no more
pub levels_alike : (n m : ℕ) (point : ExtensionPoint) → configuration_depth point.configuration < n → configuration_depth point.configuration < m → type_within n point ≡ type_within m point
levels_alike zero m point h k = absurd (omega arith)
levels_alike (suc n) zero point h k = absurd (omega arith)
levels_alike (suc n) (suc m) point h k =
    ap (λ (o : Option DataType). if is_optional_name point.name then option_map optional_of o else plain_type point)
    (same_inner (type_within n) (type_within m) (inner_point (configuration_members point.configuration)) (λ q is.
    let less = inner_less point.configuration q is in
    let one : configuration_depth q.configuration < n = omega arith in
    let two : configuration_depth q.configuration < m = omega arith in
    levels_alike n m q one two))

-- what an extension point says, without levels
pub point_type_is : (point : ExtensionPoint) → point_type point ≡ (if is_optional_name point.name then option_map optional_of (option_and_then point_type (inner_point (configuration_members point.configuration))) else plain_type point)
point_type_is point =
    ap (λ (o : Option DataType). if is_optional_name point.name then option_map optional_of o else plain_type point)
    (same_inner (type_within (configuration_depth point.configuration)) point_type (inner_point (configuration_members point.configuration)) (λ q is.
    let less = inner_less point.configuration q is in
    let one : configuration_depth q.configuration < suc (configuration_depth q.configuration) = omega arith in
    levels_alike (configuration_depth point.configuration) (suc (configuration_depth q.configuration)) q less one))

-- ---- an optional type

optional_is : (point q : ExtensionPoint) → is_optional_name point.name ≡ true → inner_point (configuration_members point.configuration) ≡ Some q → point_type point ≡ option_map optional_of (point_type q)
optional_is point q named_so is =
    point_type_is point
    ∙ (ap (λ (b : Bool). if b then option_map optional_of (option_and_then point_type (inner_point (configuration_members point.configuration))) else plain_type point) named_so
    ∙ ap (λ o. option_map optional_of (option_and_then point_type o)) is)

pub optional_read : (point q : ExtensionPoint) (inner type : DataType) → is_optional_name point.name ≡ true → inner_point (configuration_members point.configuration) ≡ Some q → point_type q ≡ Some inner → type ≡ optional_of inner → point_type point ≡ Some type
optional_read point q inner type named_so is there e = optional_is point q named_so is ∙ (ap (option_map optional_of) there ∙ ap Some (sym e))

pub optional_refused : (point q : ExtensionPoint) → is_optional_name point.name ≡ true → inner_point (configuration_members point.configuration) ≡ Some q → point_type q ≡ None → point_type point ≡ None
optional_refused point q named_so is none = optional_is point q named_so is ∙ ap (option_map optional_of) none
