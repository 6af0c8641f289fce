-- Written documents of version 3: they open, say the same with the mark, and stay when they are written again.
use Rattle.std.proofs.Common.{◌≡◌, ℕ, List, bytes_eq, codes, Bool, true, false, Option, Some, None, option_map, option_and_then, if◌then◌else◌, refl, ap, ◌∙◌}
use Rattle.serde_json.specs.Data.{Data, null, boolean, number, string, array, object, Members, put}
use Rattle.serde_json.specs.Find.{get_member}
use Rattle.zarr_grids_metadata.proofs.PutLemmas.{get_put_same, get_put_other, put_put}
use Rattle.zarr_grids_metadata.specs.ExtensionPoints.{written_point_in}
use Rattle.zarr_codecs_meaning.specs.Types.{DataType}
use Rattle.zarr_codecs_types.specs.Metadata.{data_type_in, point_type}
use Rattle.zarr_array_meaning.proofs.Points.{extension_point-written}
use Rattle.zarr_array_meaning.specs.Parts.{dimension_names_in}
use Rattle.zarr_array_meaning.specs.Written.{mark, marked, is_given, is_left_out, type_given, written_value, written_fields, given_attributes, written_members}
use Rattle.zarr_array_meaning.proofs.WrittenFields.{get_member-written_fields, get_member-left_out, written_fields-put}

-- ---- the fields

-- what is put among the fields: the attributes with the mark
abbrev pub marked_attributes : Members → Data
marked_attributes ms = object (marked (given_attributes ms))

abbrev pub names_given : Members → Bool
names_given ms = is_given (get_member (codes "dimension_names") ms)

pub get_attributes : (ms : Members) → get_member (codes "attributes") (written_members ms) ≡ Some (marked_attributes ms)
get_attributes ms = get_put_same (codes "attributes") (marked_attributes ms) (written_fields (type_given ms) (names_given ms) ms)

-- a field that stands beside the attributes, and is written
pub get_written : (k : List ℕ) (ms : Members) → bytes_eq k (codes "attributes") ≡ false → is_left_out (names_given ms) k ≡ false → get_member k (written_members ms) ≡ option_map (written_value (type_given ms) k) (get_member k ms)
get_written k ms apart kept =
    get_put_other k (codes "attributes") (marked_attributes ms) (written_fields (type_given ms) (names_given ms) ms) apart ∙ get_member-written_fields (type_given ms) (names_given ms) k ms kept

pub get_left_out : (k : List ℕ) (ms : Members) → bytes_eq k (codes "attributes") ≡ false → is_left_out (names_given ms) k ≡ true → get_member k (written_members ms) ≡ None
get_left_out k ms apart out =
    get_put_other k (codes "attributes") (marked_attributes ms) (written_fields (type_given ms) (names_given ms) ms) apart ∙ get_member-left_out (type_given ms) (names_given ms) k ms out

plain : (type : Option DataType) (k : List ℕ) (o : Option Data) → ((d : Data) → written_value type k d ≡ d) → option_map (written_value type k) o ≡ o
plain type k None h = refl
plain type k (Some d) h = rw (h d)

-- one that is written as it is
pub get_plain : (k : List ℕ) (ms : Members) → bytes_eq k (codes "attributes") ≡ false → is_left_out (names_given ms) k ≡ false → ((d : Data) → written_value (type_given ms) k d ≡ d) → get_member k (written_members ms) ≡ get_member k ms
get_plain k ms apart kept h = get_written k ms apart kept ∙ plain (type_given ms) k (get_member k ms) h

-- ---- the names

abbrev pub get_names : Members → Option Data
get_names ms = get_member (codes "dimension_names") ms

get_names_at : (given : Bool) (ms : Members) → names_given ms ≡ given → get_names (written_members ms) ≡ (if given then get_names ms else None)
get_names_at true ms is = get_plain (codes "dimension_names") ms refl (rw is) (λ d. refl)
get_names_at false ms is = get_left_out (codes "dimension_names") ms refl (rw is)

given_at : (given : Bool) (o : Option Data) → is_given o ≡ given → is_given (if given then o else None) ≡ given
given_at true o is = is
given_at false o is = refl

names_given-written : (ms : Members) → names_given (written_members ms) ≡ names_given ms
names_given-written ms = ap is_given (get_names_at (names_given ms) ms refl) ∙ given_at (names_given ms) (get_names ms) refl

names_at : (o : Option Data) (dimensions : ℕ) → dimension_names_in dimensions (if is_given o then o else None) ≡ dimension_names_in dimensions o
names_at None dimensions = refl
names_at (Some null) dimensions = refl
names_at (Some (boolean b)) dimensions = refl
names_at (Some (number n)) dimensions = refl
names_at (Some (string s)) dimensions = refl
names_at (Some (array ds)) dimensions = refl
names_at (Some (object ms)) dimensions = refl

pub names-written : (ms : Members) (dimensions : ℕ) → dimension_names_in dimensions (get_names (written_members ms)) ≡ dimension_names_in dimensions (get_names ms)
names-written ms dimensions = ap (dimension_names_in dimensions) (get_names_at (names_given ms) ms refl) ∙ names_at (get_names ms) dimensions

-- ---- the data type

type_given_at : (o : Option Data) → option_and_then data_type_in (option_map written_point_in o) ≡ option_and_then data_type_in o
type_given_at None = refl
type_given_at (Some d) = ap (option_and_then point_type) (extension_point-written d)

type_given-written : (ms : Members) → type_given (written_members ms) ≡ type_given ms
type_given-written ms = ap (option_and_then data_type_in) (get_written (codes "data_type") ms refl refl) ∙ type_given_at (get_member (codes "data_type") ms)

-- ---- written once

given_attributes-written : (ms : Members) → given_attributes (written_members ms) ≡ marked (given_attributes ms)
given_attributes-written ms = rw (get_attributes ms)

-- what is written for version 3 stays when it is written again
pub written_members-twice : (ms : Members) → written_members (written_members ms) ≡ written_members ms
written_members-twice ms =
    let written = written_members ms in
    let attributes = marked_attributes ms in
    let fields = written_fields (type_given ms) (names_given ms) ms in
    let same : marked_attributes written ≡ attributes = ap (λ as'. object (marked as')) (given_attributes-written ms) ∙ ap object (put_put (codes "_zarrs") mark mark (given_attributes ms)) in
    ap (λ d. put (codes "attributes") d (written_fields (type_given written) (names_given written) written)) same
    ∙ ap (λ type. put (codes "attributes") attributes (written_fields type (names_given written) written)) (type_given-written ms)
    ∙ ap (λ given. put (codes "attributes") attributes (written_fields (type_given ms) given written)) (names_given-written ms)
    ∙ ap (put (codes "attributes") attributes) (written_fields-put (type_given ms) (names_given ms) (codes "attributes") attributes ms refl refl)
    ∙ put_put (codes "attributes") attributes attributes fields
