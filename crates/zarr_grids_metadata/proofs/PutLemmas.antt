-- What `put` leaves: what stands at each name, which names there are, how deep it nests and its floats. No lemma asks that the members be sorted.
use Rattle.std.proofs.Common.{◌≡◌, ℕ, ◌≤◌, max, List, bytes_eq, Bool, true, false, ◌&&◌, Option, Some, Ordering, Less, Equal, Greater, nat_cmp, is_eq, refl, sym, ap, ◌∙◌, arith}
use Rattle.std.specs.Cmp.Lexicographic.{slice_cmp}
use Rattle.std.specs.List.{list_any}
use Rattle.std.specs.Ordering.{match_ordering}
use Rattle.std.proofs.lemmas.Bool.{both_ways, or_parts, or_from}
use Rattle.std.proofs.lemmas.Cmp.{nat_list_cmp_total, tied_itself}
use Rattle.std.proofs.lemmas.Map.Text.{is_eq-slice_cmp}
use Rattle.std.proofs.lemmas.Slice.Eq.{bytes_eq-Decides}
use Rattle.serde_json.specs.Data.{Data, Members, no_members, member, put, depth, members_depth}
use Rattle.serde_json.specs.Find.{get_member}
use Rattle.serde_json.specs.Written.{has_float, members_have_float}
use Rattle.serde_json.proofs.Views.{get_member-put, get_member-put_other}
use Rattle.zarr_grids_metadata.specs.Members.{has_only}

-- ---- what stands at a name

-- what was put at a name is found there
pub get_put_same : (k : List ℕ) (d : Data) (ms : Members) → get_member k (put k d ms) ≡ Some d
get_put_same = get_member-put

-- the other names keep their values
pub get_put_apart : (q k : List ℕ) (d : Data) (ms : Members) → (q ≡ k → ⊥) → get_member q (put k d ms) ≡ get_member q ms
get_put_apart = get_member-put_other

-- the same, by a test that computes at written-out names
pub get_put_other : (q k : List ℕ) (d : Data) (ms : Members) → bytes_eq q k ≡ false → get_member q (put k d ms) ≡ get_member q ms
get_put_other q k d ms e = get_put_apart q k d ms (λ h. both_ways (bytes_eq q k) e ((bytes_eq-Decides q k).1 h))

-- ---- one step of `put`

abbrev step : Ordering → List ℕ → List ℕ → Data → Data → Members → Members
step o k l d e ms = match_ordering o (member k d (member l e ms)) (member l d ms) (member l e (put k d ms))

equal_names : (k l : List ℕ) → slice_cmp nat_cmp k l ≡ Equal → k ≡ l
equal_names k l e = (bytes_eq-Decides k l).0 (sym (is_eq-slice_cmp k l) ∙ ap is_eq e)

-- ---- the later of two values put at a name stays

put_put_at : (o : Ordering) (k l : List ℕ) (d e f : Data) (ms : Members) → slice_cmp nat_cmp k l ≡ o → put k d (put k f ms) ≡ put k d ms → put k d (step o k l f e ms) ≡ step o k l d e ms
put_put_at Less k l d e f ms is later = rw (tied_itself nat_list_cmp_total k)
put_put_at Equal k l d e f ms is later = rw is
put_put_at Greater k l d e f ms is later = rw is (ap (member l e) later)

pub put_put : (k : List ℕ) (d f : Data) (ms : Members) → put k d (put k f ms) ≡ put k d ms
put_put k d f no_members = rw (tied_itself nat_list_cmp_total k)
put_put k d f (member l e ms) = put_put_at _ k l d e f ms refl (put_put k d f ms)

-- ---- which names there are

and_twice : (a b : Bool) → (a && b) ≡ (a && (a && b))
and_twice true b = refl
and_twice false b = refl

and_swap : (a b c : Bool) → (a && (b && c)) ≡ (b && (a && c))
and_swap true b c = refl
and_swap false true c = refl
and_swap false false c = refl

only_put_at : (o : Ordering) (names : List (List ℕ)) (k l : List ℕ) (d e : Data) (ms : Members) → slice_cmp nat_cmp k l ≡ o → has_only names (put k d ms) ≡ (list_any (bytes_eq k) names && has_only names ms)
    → has_only names (step o k l d e ms) ≡ (list_any (bytes_eq k) names && has_only names (member l e ms))
only_put_at Less names k l d e ms is later = refl
only_put_at Equal names k l d e ms is later = rw (equal_names k l is) (and_twice (list_any (bytes_eq l) names) (has_only names ms))
only_put_at Greater names k l d e ms is later = rw later (and_swap (list_any (bytes_eq l) names) (list_any (bytes_eq k) names) (has_only names ms))

-- what was put adds its name to those that are there
pub only_put : (names : List (List ℕ)) (k : List ℕ) (d : Data) (ms : Members) → has_only names (put k d ms) ≡ (list_any (bytes_eq k) names && has_only names ms)
only_put names k d no_members = refl
only_put names k d (member l e ms) = only_put_at _ names k l d e ms refl (only_put names k d ms)

-- ---- how deep it nests

depth_put_at : (o : Ordering) (n : ℕ) (k l : List ℕ) (d e : Data) (ms : Members) → depth d ≤ n → depth e ≤ n → members_depth ms ≤ n → members_depth (put k d ms) ≤ n → members_depth (step o k l d e ms) ≤ n
depth_put_at Less n k l d e ms h g rest later = omega arith
depth_put_at Equal n k l d e ms h g rest later = omega arith
depth_put_at Greater n k l d e ms h g rest later = omega arith

-- a bound on the members and on what was put is one on both together
pub depth_put : (n : ℕ) (k : List ℕ) (d : Data) (ms : Members) → depth d ≤ n → members_depth ms ≤ n → members_depth (put k d ms) ≤ n
depth_put n k d no_members h g = omega arith
depth_put n k d (member l e ms) h g = depth_put_at _ n k l d e ms h (omega arith) (omega arith) (depth_put n k d ms h (omega arith))

depth_got_at : (o : Ordering) (e d : Data) (rest : Option Data) (n : ℕ) → match_ordering o rest (Some e) rest ≡ Some d → (rest ≡ Some d → depth d ≤ n) → depth d ≤ max (depth e) n
depth_got_at Less e d rest n is later = let h = later is in omega arith
depth_got_at Equal e d rest n is later = let h : e ≡ d = cc in let g = ap depth h in omega arith
depth_got_at Greater e d rest n is later = let h = later is in omega arith

-- what stands at a name is no deeper than the members
pub depth_got : (k : List ℕ) (d : Data) (ms : Members) → get_member k ms ≡ Some d → depth d ≤ members_depth ms
depth_got k d no_members is = absurd (cc)
depth_got k d (member l e ms) is = depth_got_at (slice_cmp nat_cmp k l) e d (get_member k ms) (members_depth ms) is (depth_got k d ms)

-- ---- floats

float_put_at : (o : Ordering) (k l : List ℕ) (d e : Data) (ms : Members) → has_float d ≡ false → has_float e ≡ false → members_have_float ms ≡ false → members_have_float (put k d ms) ≡ false → members_have_float (step o k l d e ms) ≡ false
float_put_at Less k l d e ms h g rest later = or_from (has_float d) _ h (or_from (has_float e) _ g rest)
float_put_at Equal k l d e ms h g rest later = or_from (has_float d) _ h rest
float_put_at Greater k l d e ms h g rest later = or_from (has_float e) _ g later

-- what has no float, put among what has none, leaves none
pub float_put : (k : List ℕ) (d : Data) (ms : Members) → has_float d ≡ false → members_have_float ms ≡ false → members_have_float (put k d ms) ≡ false
float_put k d no_members h g = or_from (has_float d) false h refl
float_put k d (member l e ms) h g =
    let parts = or_parts (has_float e) (members_have_float ms) g in
    float_put_at _ k l d e ms h parts.0 parts.1 (float_put k d ms h parts.1)

float_got_at : (o : Ordering) (e d : Data) (rest : Option Data) → match_ordering o rest (Some e) rest ≡ Some d → has_float e ≡ false → (rest ≡ Some d → has_float d ≡ false) → has_float d ≡ false
float_got_at Less e d rest is h later = later is
float_got_at Equal e d rest is h later = let g : e ≡ d = cc in ap has_float (sym g) ∙ h
float_got_at Greater e d rest is h later = later is

-- what stands at a name among members with no float has none
pub float_got : (k : List ℕ) (d : Data) (ms : Members) → members_have_float ms ≡ false → get_member k ms ≡ Some d → has_float d ≡ false
float_got k d no_members h is = absurd (cc)
float_got k d (member l e ms) h is =
    let parts = or_parts (has_float e) (members_have_float ms) h in
    float_got_at (slice_cmp nat_cmp k l) e d (get_member k ms) is parts.0 (float_got k d ms parts.1)
