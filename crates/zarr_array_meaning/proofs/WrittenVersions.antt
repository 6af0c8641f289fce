-- What is written of a document of version 2, by the names of its fields; what is written has the version of what was given, and stays when it is written again.
use Rattle.std.proofs.Common.{◌≡◌, ℕ, List, bytes_eq, codes, Bool, true, false, Option, Some, None, is_some, if◌then◌else◌, subst, refl, sym, ap, ◌∙◌}
use Rattle.std.specs.Option.{option_map_or}
use Rattle.serde_json.specs.Data.{Data, null, boolean, number, string, array, object, Members, put}
use Rattle.serde_json.specs.Find.{get_member}
use Rattle.zarr_grids_metadata.proofs.PutLemmas.{get_put_same, get_put_other, put_put}
use Rattle.zarr_array_v2.specs.Attributes.{attributes_of, without_attributes, joined}
use Rattle.zarr_array_v2.specs.Conversion.{separator_of}
use Rattle.zarr_array_v2.specs.Dtypes.{is_number}
use Rattle.zarr_array_v2.specs.Versions.{has_version_2, is_version_2}
use Rattle.zarr_array_v2.proofs.Apart.{takes, splits}
use Rattle.zarr_array_meaning.specs.Laws.{KeepsMembers}
use Rattle.zarr_array_meaning.specs.Written.{mark, marked, given_attributes, written_members, with_separator, written_version_2, written_document}
use Rattle.zarr_array_meaning.proofs.WrittenDocuments.{marked_attributes, get_plain, written_members-twice}

-- ---- the separator

-- the name of the separator
abbrev pub separator_name : List ℕ
separator_name = codes "dimension_separator"

-- members with a dot put where no separator is given
abbrev pub separated : Bool → Members → Members
separated given ms = if given then ms else put separator_name (string (codes ".")) ms

separated_other : (given : Bool) (k : List ℕ) (ms : Members) → bytes_eq k separator_name ≡ false → get_member k (separated given ms) ≡ get_member k ms
separated_other true k ms apart = refl
separated_other false k ms apart = get_put_other k separator_name (string (codes ".")) ms apart

separated_here : (given : Bool) (o : Option Data) (ms : Members) → is_some o ≡ given → get_member separator_name ms ≡ o → get_member separator_name (separated given ms) ≡ Some (separator_of o)
separated_here true None ms is at = absurd (cc)
separated_here true (Some d) ms is at = at
separated_here false None ms is at = get_put_same separator_name (string (codes ".")) ms
separated_here false (Some d) ms is at = absurd (cc)

-- ---- by name

-- every field but the attributes and the separator is as it is given
pub get_given : (k : List ℕ) (ms : Members) → bytes_eq k (codes "attributes") ≡ false → bytes_eq k separator_name ≡ false → get_member k (written_version_2 ms) ≡ get_member k ms
get_given k ms apart other =
    get_put_other k (codes "attributes") (marked_attributes ms) (without_attributes (with_separator ms)) apart ∙ (takes (with_separator ms)).others k apart
    ∙ separated_other (is_some (get_member separator_name ms)) k ms other

-- the separator is the given one, or a dot
pub get_separator : (ms : Members) → get_member separator_name (written_version_2 ms) ≡ Some (separator_of (get_member separator_name ms))
get_separator ms =
    get_put_other separator_name (codes "attributes") (marked_attributes ms) (without_attributes (with_separator ms)) refl ∙ (takes (with_separator ms)).others separator_name refl
    ∙ separated_here (is_some (get_member separator_name ms)) (get_member separator_name ms) ms refl refl

-- the attributes are the given ones with the mark
pub get_marked : (ms : Members) → get_member (codes "attributes") (written_version_2 ms) ≡ Some (marked_attributes ms)
get_marked ms = get_put_same (codes "attributes") (marked_attributes ms) (without_attributes (with_separator ms))

-- ---- the version

version_by : (ms ns : Members) → get_member (codes "zarr_format") ns ≡ get_member (codes "zarr_format") ms → has_version_2 ns ≡ has_version_2 ms
version_by ms ns same = ap (λ o. option_map_or (is_number 2) o false) same

-- what is written of version 2 is of version 2
pub version_2-written : (ms : Members) → has_version_2 (written_version_2 ms) ≡ has_version_2 ms
version_2-written ms = version_by ms (written_version_2 ms) (get_given (codes "zarr_format") ms refl refl)

-- what is written of version 3 is not of version 2
pub version_3-written : (ms : Members) → has_version_2 (written_members ms) ≡ has_version_2 ms
version_3-written ms = version_by ms (written_members ms) (get_plain (codes "zarr_format") ms refl refl (λ d. refl))

version_at : (b : Bool) (ms : Members) → has_version_2 (if b then written_version_2 ms else written_members ms) ≡ has_version_2 ms
version_at true ms = version_2-written ms
version_at false ms = version_3-written ms

-- a written document has the version of the given one
pub keeps_version : (d : Data) → is_version_2 (written_document d) ≡ is_version_2 d
keeps_version null = refl
keeps_version (boolean b) = refl
keeps_version (number n) = refl
keeps_version (string s) = refl
keeps_version (array ds) = refl
keeps_version (object ms) = version_at (has_version_2 ms) ms

-- ---- what is written of a document of version 2

-- the members that are written of version 2
pub written_2 : (ms : Members) → has_version_2 ms ≡ true → written_document (object ms) ≡ object (written_version_2 ms)
written_2 ms is = ap (λ b. object (if b then written_version_2 ms else written_members ms)) is

-- the members that are written of version 3
pub written_3 : (ms : Members) → has_version_2 ms ≡ false → written_document (object ms) ≡ object (written_members ms)
written_3 ms is = ap (λ b. object (if b then written_version_2 ms else written_members ms)) is

pub keeps_members : (ms written : Members) → has_version_2 ms ≡ true → written_document (object ms) ≡ object written → KeepsMembers ms written
keeps_members ms written version is =
    let same : written_version_2 ms ≡ written = cc in
    subst (λ (w : Members). KeepsMembers ms w) same (record { attributes = get_marked ms; separator = get_separator ms; others = λ name apart other. get_given name ms apart other })

-- the parts of what is written of version 2 are those of the joined document
again_at : (ms ns : Members) → written_version_2 ms ≡ ns → joined ns (attributes_of ns) ≡ ns
again_at ms ns same = subst (λ (w : Members). joined w (attributes_of w) ≡ w) same (splits (with_separator ms) (marked_attributes ms)).again

pub joined_again : (d : Data) (ns : Members) → is_version_2 (written_document d) ≡ true → written_document d ≡ object ns → joined ns (attributes_of ns) ≡ ns
joined_again null ns version is = absurd (cc)
joined_again (boolean b) ns version is = absurd (cc)
joined_again (number n) ns version is = absurd (cc)
joined_again (string s) ns version is = absurd (cc)
joined_again (array ds) ns version is = absurd (cc)
joined_again (object ms) ns version is =
    let e : object (written_version_2 ms) ≡ object ns = sym (written_2 ms (sym (keeps_version (object ms)) ∙ version)) ∙ is in
    again_at ms ns (cc)

-- ---- written once

given_attributes-written : (ms : Members) → given_attributes (written_version_2 ms) ≡ marked (given_attributes ms)
given_attributes-written ms = rw (get_marked ms)

marked-twice : (ms : Members) → marked_attributes (written_version_2 ms) ≡ marked_attributes ms
marked-twice ms = ap (λ as'. object (marked as')) (given_attributes-written ms) ∙ ap object (put_put (codes "_zarrs") mark mark (given_attributes ms))

-- a document that has a separator keeps it
separator_kept : (ms : Members) → with_separator (written_version_2 ms) ≡ written_version_2 ms
separator_kept ms = ap (λ o. separated (is_some o) (written_version_2 ms)) (get_separator ms)

written_version_2-twice : (ms : Members) → written_version_2 (written_version_2 ms) ≡ written_version_2 ms
written_version_2-twice ms =
    let written = written_version_2 ms in
    let attributes = marked_attributes ms in
    ap (λ m. joined m (marked_attributes written)) (separator_kept ms) ∙ ap (joined written) (marked-twice ms) ∙ ap (put (codes "attributes") attributes) (splits (with_separator ms) attributes).rest

twice_at : (b : Bool) (ms : Members) → has_version_2 ms ≡ b → written_document (object (if b then written_version_2 ms else written_members ms)) ≡ object (if b then written_version_2 ms else written_members ms)
twice_at true ms is = written_2 (written_version_2 ms) (version_2-written ms ∙ is) ∙ ap object (written_version_2-twice ms)
twice_at false ms is = written_3 (written_members ms) (version_3-written ms ∙ is) ∙ ap object (written_members-twice ms)

-- what is written for a written document is that document
pub written_document-twice : (d : Data) → written_document (written_document d) ≡ written_document d
written_document-twice null = refl
written_document-twice (boolean b) = refl
written_document-twice (number n) = refl
written_document-twice (string s) = refl
written_document-twice (array ds) = refl
written_document-twice (object ms) = twice_at (has_version_2 ms) ms refl
