-- Written documents nest no deeper than the given ones and the mark, and have no float where those have none.
use Rattle.std.proofs.Common.{◌≡◌, ℕ, suc, ◌≤◌, max, List, bytes_eq, codes, Bool, true, false, not, nat_le, Option, Some, None, option_and_then, unwrap_or, is_some, if◌then◌else◌, refl, arith}
use Rattle.std.proofs.lemmas.Bool.{leb-true, le-leb, not-true, not_from_false, or_parts, or_from}
use Rattle.serde_json.specs.Data.{Data, null, boolean, number, string, array, object, Members, no_members, member, depth, members_depth}
use Rattle.serde_json.specs.Find.{get_member, as_object}
use Rattle.serde_json.specs.Written.{has_float, members_have_float}
use Rattle.zarr_grids_metadata.proofs.PutLemmas.{depth_put, depth_got, float_put, float_got}
use Rattle.zarr_array_v2.specs.Attributes.{without, without_attributes}
use Rattle.zarr_array_meaning.specs.Documents.{depth_limit}
use Rattle.zarr_array_meaning.specs.Written.{type_given, mark, marked, written_fields, given_attributes, written_members, with_separator, written_version_2}
use Rattle.zarr_array_meaning.proofs.TypeLevels.{levels-type_given}
use Rattle.zarr_array_meaning.proofs.WrittenFields.{members_depth-written_fields, members_have_float-written_fields}
use Rattle.zarr_array_meaning.proofs.WrittenDocuments.{marked_attributes, names_given}
use Rattle.zarr_array_meaning.proofs.WrittenVersions.{separator_name, separated}

-- ---- depth

given_depth : (o : Option Data) (n : ℕ) → 1 ≤ n → ((d : Data) → o ≡ Some d → depth d ≤ n) → suc (members_depth (unwrap_or (option_and_then as_object o) no_members)) ≤ n
given_depth None n low h = omega arith
given_depth (Some null) n low h = omega arith
given_depth (Some (boolean b)) n low h = omega arith
given_depth (Some (number x)) n low h = omega arith
given_depth (Some (string s)) n low h = omega arith
given_depth (Some (array ds)) n low h = omega arith
given_depth (Some (object ms)) n low h = h (object ms) refl

attributes_depth : (ms : Members) → depth (marked_attributes ms) ≤ max (members_depth ms) 2
attributes_depth ms =
    let attributes = given_attributes ms in
    let given : suc (members_depth attributes) ≤ max (members_depth ms) 2 =
    given_depth (get_member (codes "attributes") ms) (max (members_depth ms) 2) (omega arith) (λ d e. let h = depth_got (codes "attributes") d ms e in omega arith) in
    let h : members_depth (marked attributes) ≤ max (members_depth attributes) 1 = depth_put (max (members_depth attributes) 1) (codes "_zarrs") mark attributes (omega arith) (omega arith) in
    omega arith

-- a written document is no deeper than the document and the mark
depth-written : (ms : Members) → depth (object (written_members ms)) ≤ max (depth (object ms)) 3
depth-written ms =
    let fields = written_fields (type_given ms) (names_given ms) ms in
    let h = members_depth-written_fields (type_given ms) (names_given ms) ms in
    let t = levels-type_given ms in
    let g : members_depth (written_members ms) ≤ max (members_depth ms) 2 = depth_put (max (members_depth ms) 2) (codes "attributes") (marked_attributes ms) fields (attributes_depth ms) (omega arith) in
    omega arith

pub shallow-written : (ms : Members) → nat_le (depth (object ms)) depth_limit ≡ true → nat_le (depth (object (written_members ms))) depth_limit ≡ true
shallow-written ms h =
    let low = leb-true (depth (object ms)) 127 h in
    let g = depth-written ms in
    le-leb (depth (object (written_members ms))) 127 (omega arith)

-- ---- floats

given_float : (o : Option Data) → ((d : Data) → o ≡ Some d → has_float d ≡ false) → members_have_float (unwrap_or (option_and_then as_object o) no_members) ≡ false
given_float None h = refl
given_float (Some null) h = refl
given_float (Some (boolean b)) h = refl
given_float (Some (number x)) h = refl
given_float (Some (string s)) h = refl
given_float (Some (array ds)) h = refl
given_float (Some (object ms)) h = h (object ms) refl

attributes_float : (ms : Members) → members_have_float ms ≡ false → has_float (marked_attributes ms) ≡ false
attributes_float ms h =
    float_put (codes "_zarrs") mark (given_attributes ms) refl (given_float (get_member (codes "attributes") ms) (λ d e. float_got (codes "attributes") d ms h e))

float-written : (ms : Members) → members_have_float ms ≡ false → members_have_float (written_members ms) ≡ false
float-written ms h =
    float_put (codes "attributes") (marked_attributes ms) (written_fields (type_given ms) (names_given ms) ms) (attributes_float ms h) (members_have_float-written_fields (type_given ms) (names_given ms) ms h)

pub exact-written : (ms : Members) → not (has_float (object ms)) ≡ true → not (has_float (object (written_members ms))) ≡ true
exact-written ms h = not_from_false (members_have_float (written_members ms)) (float-written ms (not-true (members_have_float ms) h))

-- ---- version 2

without_depth_at : (b : Bool) (k : List ℕ) (d : Data) (rest ms : Members) → members_depth rest ≤ members_depth ms → members_depth (if b then rest else member k d rest) ≤ members_depth (member k d ms)
without_depth_at true k d rest ms h = omega arith
without_depth_at false k d rest ms h = omega arith

without_depth : (name : List ℕ) (ms : Members) → members_depth (without name ms) ≤ members_depth ms
without_depth name no_members = omega arith
without_depth name (member k d ms) = without_depth_at (bytes_eq name k) k d (without name ms) ms (without_depth name ms)

separated_depth : (b : Bool) (ms : Members) → members_depth (separated b ms) ≤ members_depth ms
separated_depth true ms = omega arith
separated_depth false ms = depth_put (members_depth ms) separator_name (string (codes ".")) ms (omega arith) (omega arith)

depth-written_2 : (ms : Members) → depth (object (written_version_2 ms)) ≤ max (depth (object ms)) 3
depth-written_2 ms =
    let h = without_depth (codes "attributes") (with_separator ms) in
    let s = separated_depth (is_some (get_member separator_name ms)) ms in
    let g : members_depth (written_version_2 ms) ≤ max (members_depth ms) 2 = depth_put (max (members_depth ms) 2) (codes "attributes") (marked_attributes ms) (without_attributes (with_separator ms)) (attributes_depth ms) (omega arith) in
    omega arith

pub shallow-written_2 : (ms : Members) → nat_le (depth (object ms)) depth_limit ≡ true → nat_le (depth (object (written_version_2 ms))) depth_limit ≡ true
shallow-written_2 ms h =
    let low = leb-true (depth (object ms)) 127 h in
    let g = depth-written_2 ms in
    le-leb (depth (object (written_version_2 ms))) 127 (omega arith)

without_float_at : (b : Bool) (k : List ℕ) (d : Data) (rest : Members) → has_float d ≡ false → members_have_float rest ≡ false → members_have_float (if b then rest else member k d rest) ≡ false
without_float_at true k d rest h g = g
without_float_at false k d rest h g = or_from (has_float d) (members_have_float rest) h g

-- members without those of one name have a float only where they had one
pub without_float : (name : List ℕ) (ms : Members) → members_have_float ms ≡ false → members_have_float (without name ms) ≡ false
without_float name no_members h = refl
without_float name (member k d ms) h =
    let parts = or_parts (has_float d) (members_have_float ms) h in
    without_float_at (bytes_eq name k) k d (without name ms) parts.0 (without_float name ms parts.1)

separated_float : (b : Bool) (ms : Members) → members_have_float ms ≡ false → members_have_float (separated b ms) ≡ false
separated_float true ms h = h
separated_float false ms h = float_put separator_name (string (codes ".")) ms refl h

float-written_2 : (ms : Members) → members_have_float ms ≡ false → members_have_float (written_version_2 ms) ≡ false
float-written_2 ms h =
    float_put (codes "attributes") (marked_attributes ms) (without_attributes (with_separator ms)) (attributes_float ms h)
    (without_float (codes "attributes") (with_separator ms) (separated_float (is_some (get_member separator_name ms)) ms h))

pub exact-written_2 : (ms : Members) → not (has_float (object ms)) ≡ true → not (has_float (object (written_version_2 ms))) ≡ true
exact-written_2 ms h = not_from_false (members_have_float (written_version_2 ms)) (float-written_2 ms (not-true (members_have_float ms) h))
