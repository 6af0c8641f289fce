-- The document that is written for one that opens says what that one says, with the mark.
use Rattle.std.proofs.Common.{◌≡◌, codes, Bool, true, false, not, nat_le, Option, Some, None, option_map, option_and_then, unwrap_or, is_some, if◌then◌else◌, Result, Ok, Err, refl, sym, ap, ◌∙◌}
use Rattle.std.specs.Option.{ok_or}
use Rattle.serde_json.specs.Data.{Data, null, boolean, number, string, array, object, Members, no_members, put, depth}
use Rattle.serde_json.specs.Find.{get_member, as_object}
use Rattle.serde_json.specs.Written.{has_float}
use Rattle.zarr_codecs_metadata.specs.Chains.{ReadsCodecs}
use Rattle.zarr_array_v2.specs.Conversion.{to_v3}
use Rattle.zarr_array_v2.specs.Versions.{has_version_2}
use Rattle.zarr_array_v2.proofs.Apart.{converts_parts, converts_dot}
use Rattle.zarr_array_v2.proofs.Converted.{converts}
use Rattle.zarr_array_meaning.specs.Documents.{Document, Metadata, ◌>>=◌, ◌>>◌, check, depth_limit, read_members, version_3_of, read_metadata, read_document}
use Rattle.zarr_array_meaning.specs.Written.{marked, written_members, with_separator, written_version_2, written_document, with_mark}
use Rattle.zarr_array_meaning.specs.declared.error.DocumentError.{DocumentError}
use Rattle.zarr_array_meaning.specs.declared.error.DocumentError.TheVariants.{Depth, Float, Fields}
use Rattle.zarr_array_meaning.proofs.ReadMembers.{members-written, members-marked}
use Rattle.zarr_array_meaning.proofs.WrittenDocuments.{marked_attributes}
use Rattle.zarr_array_meaning.proofs.WrittenTrees.{shallow-written, exact-written, shallow-written_2, exact-written_2}
use Rattle.zarr_array_meaning.proofs.WrittenVersions.{separator_name, separated, version_2-written, version_3-written}

-- ---- the members of the version 3 document that says the same

-- those of a document of version 2 are the converted ones
pub version_3_of-2 : (ms : Members) → has_version_2 ms ≡ true → version_3_of ms ≡ ok_or (to_v3 ms) Fields
version_3_of-2 ms is = ap (λ b. if b then ok_or (to_v3 ms) Fields else Ok ms) is

-- those of any other are its own
pub version_3_of-3 : (ms : Members) → has_version_2 ms ≡ false → version_3_of ms ≡ Ok ms
version_3_of-3 ms is = ap (λ b. if b then ok_or (to_v3 ms) Fields else Ok ms) is

no_separator : (o : Option Data) → is_some o ≡ false → o ≡ None
no_separator None is = refl
no_separator (Some d) is = absurd (cc)

separated_converts : (given : Bool) (ms : Members) → is_some (get_member separator_name ms) ≡ given → to_v3 (separated given ms) ≡ to_v3 ms
separated_converts true ms is = refl
separated_converts false ms is = converts_dot ms (no_separator (get_member separator_name ms) is)

-- what is written of version 2 differs in version 3 by its attributes alone
to_v3-written : (ms : Members) → to_v3 (written_version_2 ms) ≡ option_map (put (codes "attributes") (marked_attributes ms)) (to_v3 ms)
to_v3-written ms =
    converts_parts (with_separator ms) (marked_attributes ms) ∙ ap (option_map (put (codes "attributes") (marked_attributes ms))) (separated_converts (is_some (get_member separator_name ms)) ms refl)

found : (o : Option Members) (c : Members) → ok_or o Fields ≡ Ok c → o ≡ Some c
found None c is = absurd (cc)
found (Some d) c is = let e : d ≡ c = cc in ap Some e

-- ---- all checks

-- the checks of a document, up to its members
abbrev pub all_checks : Bool → Bool → Result Members DocumentError → (Members → Result Metadata DocumentError) → Result Metadata DocumentError
all_checks shallow exact members rest = do
  check shallow Depth
  check exact Float
  ms ← members
  rest ms

-- members of the version 3 document, which say this
record Says (members : Result Members DocumentError) (rest : Members → Result Metadata DocumentError) (m : Metadata) : Type 0 where
  these : Members
  are : members ≡ Ok these
  say : rest these ≡ Ok m

says : (members : Result Members DocumentError) (rest : Members → Result Metadata DocumentError) (m : Metadata) → Says members rest m → (members >>= rest) ≡ Ok m
says members rest m s = ap (λ r. r >>= rest) s.are ∙ s.say

all_checks-written : (shallow exact new_shallow new_exact : Bool) (members new : Result Members DocumentError) (rest : Members → Result Metadata DocumentError) (m n : Metadata)
    → (shallow ≡ true → new_shallow ≡ true) → (exact ≡ true → new_exact ≡ true) → ((c : Members) → members ≡ Ok c → rest c ≡ Ok m → Says new rest n)
    → all_checks shallow exact members rest ≡ Ok m → all_checks new_shallow new_exact new rest ≡ Ok n
all_checks-written false exact a b members new rest m n p q s is = absurd (cc)
all_checks-written true false a b members new rest m n p q s is = absurd (cc)
all_checks-written true true a b (Err e) new rest m n p q s is = absurd (cc)
all_checks-written true true a b (Ok c) new rest m n p q s is = rw (p refl, q refl) (says new rest n (s c refl is))

-- version 2
says_2 : (reads : ReadsCodecs) (ms c : Members) (m : Metadata) → has_version_2 ms ≡ true → version_3_of ms ≡ Ok c → read_members reads c ≡ Ok m → Says (version_3_of (written_version_2 ms)) (read_members reads) (with_mark m)
says_2 reads ms c m version members is =
    let converted : to_v3 ms ≡ Some c = found (to_v3 ms) c (sym (version_3_of-2 ms version) ∙ members) in
    let same : marked_attributes ms ≡ marked_attributes c = ap (λ o. object (marked (unwrap_or (option_and_then as_object o) no_members))) (sym (converts ms c converted).2.attributes) in
    record {
      these = put (codes "attributes") (marked_attributes c) c;
      are = version_3_of-2 (written_version_2 ms) (version_2-written ms ∙ version) ∙ ap (λ o. ok_or o Fields) (to_v3-written ms ∙ ap (option_map (put (codes "attributes") (marked_attributes ms))) converted)
          ∙ ap (λ d. Ok (put (codes "attributes") d c)) same;
      say = members-marked reads c m is;
    }

-- version 3
says_3 : (reads : ReadsCodecs) (ms c : Members) (m : Metadata) → has_version_2 ms ≡ false → version_3_of ms ≡ Ok c → read_members reads c ≡ Ok m → Says (version_3_of (written_members ms)) (read_members reads) (with_mark m)
says_3 reads ms c m version members is =
    let same : Ok ms ≡ Ok c = sym (version_3_of-3 ms version) ∙ members in
    let itself : ms ≡ c = cc in
    record {
      these = written_members ms;
      are = version_3_of-3 (written_members ms) (version_3-written ms ∙ version);
      say = members-written reads ms m (ap (read_members reads) itself ∙ is);
    }

object_at : (b : Bool) (reads : ReadsCodecs) (ms : Members) (m : Metadata) → has_version_2 ms ≡ b → read_metadata reads (object ms) ≡ Ok m → read_metadata reads (object (if b then written_version_2 ms else written_members ms)) ≡ Ok (with_mark m)
object_at true reads ms m version is =
    all_checks-written (nat_le (depth (object ms)) depth_limit) (not (has_float (object ms))) (nat_le (depth (object (written_version_2 ms))) depth_limit) (not (has_float (object (written_version_2 ms))))
    (version_3_of ms) (version_3_of (written_version_2 ms)) (read_members reads) m (with_mark m) (shallow-written_2 ms) (exact-written_2 ms) (λ c e h. says_2 reads ms c m version e h) is
object_at false reads ms m version is =
    all_checks-written (nat_le (depth (object ms)) depth_limit) (not (has_float (object ms))) (nat_le (depth (object (written_members ms))) depth_limit) (not (has_float (object (written_members ms))))
    (version_3_of ms) (version_3_of (written_members ms)) (read_members reads) m (with_mark m) (shallow-written ms) (exact-written ms) (λ c e h. says_3 reads ms c m version e h) is

-- what is no object does not open
no_object : (shallow exact : Bool) (m : Metadata) → all_checks shallow exact (Err Fields) (λ found. Err Fields) ≡ Ok m → ⊥
no_object false exact m is = absurd (cc)
no_object true false m is = absurd (cc)
no_object true true m is = absurd (cc)

pub read_metadata-written_document : (reads : ReadsCodecs) (d : Data) (m : Metadata) → read_metadata reads d ≡ Ok m → read_metadata reads (written_document d) ≡ Ok (with_mark m)
read_metadata-written_document reads null m is = absurd (no_object true true m is)
read_metadata-written_document reads (boolean b) m is = absurd (no_object true true m is)
read_metadata-written_document reads (number n) m is = absurd (no_object true (not (has_float (number n))) m is)
read_metadata-written_document reads (string s) m is = absurd (no_object true true m is)
read_metadata-written_document reads (array ds) m is = absurd (no_object (nat_le (depth (array ds)) depth_limit) (not (has_float (array ds))) m is)
read_metadata-written_document reads (object ms) m is = object_at (has_version_2 ms) reads ms m refl is

document_of : (r : Result Metadata DocumentError) (document : Document) → (r >>= λ m. Ok m.document) ≡ Ok document → (m : Metadata) × (r ≡ Ok m) × (m.document ≡ document)
document_of (Err e) document is = absurd (cc)
document_of (Ok m) document is = (m, refl, cc)

pub read_document-written_document : (reads : ReadsCodecs) (d : Data) (document : Document) → read_document reads d ≡ Ok document → read_document reads (written_document d) ≡ Ok document
read_document-written_document reads d document is =
    let found = document_of (read_metadata reads d) document is in
    rw (read_metadata-written_document reads d found.0 found.1) (ap (λ x. Ok x) found.2)
