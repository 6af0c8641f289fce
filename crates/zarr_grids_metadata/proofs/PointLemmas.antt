-- What is written for a tree is no deeper than the tree, and has a float only where the tree has.
use Rattle.std.proofs.Common.{◌≡◌, ℕ, suc, ◌≤◌, List, [], ◌∷◌, codes, Bool, true, false, cond, Option, Some, None, option_map, option_and_then, unwrap_or, refl, sym, ap, ◌∙◌, arith}
use Rattle.serde_json.specs.Data.{Data, null, boolean, number, string, array, object, Members, no_members, put, depth, members_depth}
use Rattle.serde_json.specs.Find.{get_member, as_str}
use Rattle.serde_json.specs.Written.{has_float, members_have_float}
use Rattle.zarr_grids_metadata.specs.ExtensionPoints.{ExtensionPoint, configuration_in, flag_in, point_of_members, put_flag, written_point, written_point_in}
use Rattle.zarr_grids_metadata.specs.Members.{has_only}
use Rattle.zarr_grids_metadata.proofs.PutLemmas.{depth_put, depth_got, float_put, float_got}

-- ---- a configuration that a member gives

depth_configuration_in : (o : Option Data) (c : Members) (n : ℕ) → configuration_in o ≡ Some (Some c) → ((d : Data) → o ≡ Some d → depth d ≤ n) → depth (object c) ≤ n
depth_configuration_in None c n is h = absurd (cc)
depth_configuration_in (Some null) c n is h = absurd (cc)
depth_configuration_in (Some (boolean b)) c n is h = absurd (cc)
depth_configuration_in (Some (number x)) c n is h = absurd (cc)
depth_configuration_in (Some (string s)) c n is h = absurd (cc)
depth_configuration_in (Some (array ds)) c n is h = absurd (cc)
depth_configuration_in (Some (object ms)) c n is h = let e : ms ≡ c = cc in let g = ap members_depth e in let k = h (object ms) refl in omega arith

float_configuration_in : (o : Option Data) (c : Members) → configuration_in o ≡ Some (Some c) → ((d : Data) → o ≡ Some d → has_float d ≡ false) → members_have_float c ≡ false
float_configuration_in None c is h = absurd (cc)
float_configuration_in (Some null) c is h = absurd (cc)
float_configuration_in (Some (boolean b)) c is h = absurd (cc)
float_configuration_in (Some (number x)) c is h = absurd (cc)
float_configuration_in (Some (string s)) c is h = absurd (cc)
float_configuration_in (Some (array ds)) c is h = absurd (cc)
float_configuration_in (Some (object ms)) c is h = let e : ms ≡ c = cc in ap members_have_float (sym e) ∙ h (object ms) refl

-- ---- the configuration that was read

read_configuration_at : (b : Bool) (n : Option (List ℕ)) (c : Option (Option Members)) (f : Option Bool) (point : ExtensionPoint)
    → cond b (option_and_then (λ name. option_and_then (λ configuration. option_map (λ must_understand. record { name = name; configuration = configuration; must_understand = must_understand }) f) c) n) None ≡ Some point → c ≡ Some point.configuration
read_configuration_at false n c f point is = absurd (cc)
read_configuration_at true None c f point is = absurd (cc)
read_configuration_at true (Some n) None f point is = absurd (cc)
read_configuration_at true (Some n) (Some c) None point is = absurd (cc)
read_configuration_at true (Some n) (Some c) (Some f) point is = ap (option_map (λ (p : ExtensionPoint). p.configuration)) is

-- the configuration of the extension point that an object is stands at `configuration`
pub read_configuration : (ms : Members) (point : ExtensionPoint) → point_of_members ms ≡ Some point → configuration_in (get_member (codes "configuration") ms) ≡ Some point.configuration
read_configuration ms point is =
    read_configuration_at (has_only (codes "name" ∷ codes "configuration" ∷ codes "must_understand" ∷ []) ms) (option_and_then as_str (get_member (codes "name") ms)) (configuration_in (get_member (codes "configuration") ms)) (flag_in (get_member (codes "must_understand") ms)) point is

-- ---- what is written for an extension point

depth_put_flag : (n : ℕ) (b : Bool) (ms : Members) → members_depth ms ≤ n → members_depth (put_flag b ms) ≤ n
depth_put_flag n true ms h = h
depth_put_flag n false ms h = depth_put n (codes "must_understand") (boolean false) ms (omega arith) h

depth_written_at : (n : ℕ) (s : List ℕ) (c : Option Members) (b : Bool) → ((ms : Members) → c ≡ Some ms → depth (object ms) ≤ n) → depth (written_point (record { name = s; configuration = c; must_understand = b })) ≤ suc n
depth_written_at n s None true h = omega arith
depth_written_at n s None false h = omega arith
depth_written_at n s (Some ms) b h =
    let named = put (codes "name") (string s) no_members in
    let configured = put (codes "configuration") (object ms) named in
    let shallow : members_depth named ≤ n = omega arith in
    let all : members_depth (put_flag b configured) ≤ n = depth_put_flag n b configured (depth_put n (codes "configuration") (object ms) named (h ms refl) shallow) in
    omega arith

-- it is one level deeper than what its configuration is bounded by
pub depth_written : (n : ℕ) (point : ExtensionPoint) → ((ms : Members) → point.configuration ≡ Some ms → depth (object ms) ≤ n) → depth (written_point point) ≤ suc n
depth_written n point h = depth_written_at n point.name point.configuration point.must_understand h

float_put_flag : (b : Bool) (ms : Members) → members_have_float ms ≡ false → members_have_float (put_flag b ms) ≡ false
float_put_flag true ms h = h
float_put_flag false ms h = float_put (codes "must_understand") (boolean false) ms refl h

float_written_at : (s : List ℕ) (c : Option Members) (b : Bool) → ((ms : Members) → c ≡ Some ms → members_have_float ms ≡ false) → has_float (written_point (record { name = s; configuration = c; must_understand = b })) ≡ false
float_written_at s None true h = refl
float_written_at s None false h = refl
float_written_at s (Some ms) b h =
    let named = put (codes "name") (string s) no_members in
    float_put_flag b (put (codes "configuration") (object ms) named) (float_put (codes "configuration") (object ms) named (h ms refl) refl)

-- it has a float only where its configuration has one
pub float_written : (point : ExtensionPoint) → ((ms : Members) → point.configuration ≡ Some ms → members_have_float ms ≡ false) → has_float (written_point point) ≡ false
float_written point h = float_written_at point.name point.configuration point.must_understand h

-- ---- what is written for a tree

depth_object : (ms : Members) (o : Option ExtensionPoint) → point_of_members ms ≡ o → depth (unwrap_or (option_map written_point o) (object ms)) ≤ depth (object ms)
depth_object ms None is = omega arith
depth_object ms (Some point) is =
    depth_written (members_depth ms) point (λ c h. depth_configuration_in (get_member (codes "configuration") ms) c (members_depth ms) (read_configuration ms point is ∙ ap (λ x. Some x) h) (λ d g. depth_got (codes "configuration") d ms g))

-- what is written for a tree is no deeper than the tree
pub depth_written_point_in : (d : Data) → depth (written_point_in d) ≤ depth d
depth_written_point_in null = omega arith
depth_written_point_in (boolean b) = omega arith
depth_written_point_in (number n) = omega arith
depth_written_point_in (string s) = omega arith
depth_written_point_in (array ds) = omega arith
depth_written_point_in (object ms) = depth_object ms (point_of_members ms) refl

float_object : (ms : Members) (o : Option ExtensionPoint) → point_of_members ms ≡ o → members_have_float ms ≡ false → has_float (unwrap_or (option_map written_point o) (object ms)) ≡ false
float_object ms None is none = none
float_object ms (Some point) is none =
    float_written point (λ c h. float_configuration_in (get_member (codes "configuration") ms) c (read_configuration ms point is ∙ ap (λ x. Some x) h) (λ d g. float_got (codes "configuration") d ms none g))

-- what is written for a tree with no float has none
pub float_written_point_in : (d : Data) → has_float d ≡ false → has_float (written_point_in d) ≡ false
float_written_point_in null h = refl
float_written_point_in (boolean b) h = refl
float_written_point_in (number n) h = h
float_written_point_in (string s) h = refl
float_written_point_in (array ds) h = h
float_written_point_in (object ms) h = float_object ms (point_of_members ms) refl h
