-- The fields that are written: what stands at each name, which are additional, their depth and floats. No lemma asks that the members be sorted.
use Rattle.std.proofs.Common.{◌≡◌, ℕ, ◌≤◌, max, List, bytes_eq, codes, Bool, true, false, not, ◌&&◌, Option, Some, None, option_map, if◌then◌else◌, Ordering, Less, Equal, Greater, nat_cmp, is_eq, refl, sym, ap, ◌∙◌, arith, ⊎_elim}
use Rattle.std.specs.Cmp.Lexicographic.{slice_cmp}
use Rattle.std.specs.List.{list_any}
use Rattle.std.specs.Ordering.{match_ordering}
use Rattle.std.proofs.lemmas.Bool.{both_ways, false_from_ne_true, or_cases, or_parts, or_from, and_parts}
use Rattle.std.proofs.lemmas.Map.Text.{is_eq-slice_cmp}
use Rattle.std.proofs.lemmas.Slice.Eq.{bytes_eq-Decides}
use Rattle.serde_json.specs.Data.{Data, Members, no_members, member, put, depth, members_depth}
use Rattle.serde_json.specs.Find.{get_member}
use Rattle.serde_json.specs.Written.{has_float, members_have_float}
use Rattle.zarr_grids_metadata.specs.ExtensionPoints.{written_point_in}
use Rattle.zarr_grids_metadata.proofs.PointLemmas.{depth_written_point_in, float_written_point_in}
use Rattle.zarr_codecs_meaning.specs.Types.{DataType}
use Rattle.zarr_array_meaning.specs.Documents.{is_own_name, additional_in}
use Rattle.zarr_array_meaning.specs.Written.{written_codecs, written_fill, point_names, is_left_out, written_value, written_fields}
use Rattle.zarr_array_meaning.proofs.WrittenFills.{levels_given, written_fill-twice, depth-written_fill, has_float-written_fill}
use Rattle.zarr_array_meaning.proofs.Points.{written_point_in-twice, written_codecs-twice, depth-written_codecs, has_float-written_codecs}

same_name : (k l : List ℕ) → slice_cmp nat_cmp k l ≡ Equal → k ≡ l
same_name k l e = (bytes_eq-Decides k l).0 (sym (is_eq-slice_cmp k l) ∙ ap is_eq e)

-- ---- the value of one field

abbrev value_by : Option DataType → Bool → Bool → Bool → Data → Data
value_by type is_point is_codecs is_fill d = if is_point then written_point_in d else (if is_codecs then written_codecs d else (if is_fill then written_fill type d else d))

value_by-twice : (type : Option DataType) (is_point is_codecs is_fill : Bool) (d : Data) → value_by type is_point is_codecs is_fill (value_by type is_point is_codecs is_fill d) ≡ value_by type is_point is_codecs is_fill d
value_by-twice type true is_codecs is_fill d = written_point_in-twice d
value_by-twice type false true is_fill d = written_codecs-twice d
value_by-twice type false false true d = written_fill-twice type d
value_by-twice type false false false d = refl

-- a written value stays when it is written again
pub written_value-twice : (type : Option DataType) (name : List ℕ) (d : Data) → written_value type name (written_value type name d) ≡ written_value type name d
written_value-twice type name d = value_by-twice type (list_any (bytes_eq name) point_names) (bytes_eq name (codes "codecs")) (bytes_eq name (codes "fill_value")) d

depth-value_by : (type : Option DataType) (is_point is_codecs is_fill : Bool) (d : Data) → depth (value_by type is_point is_codecs is_fill d) ≤ max (depth d) (levels_given type)
depth-value_by type true is_codecs is_fill d = let h = depth_written_point_in d in omega arith
depth-value_by type false true is_fill d = let h = depth-written_codecs d in omega arith
depth-value_by type false false true d = depth-written_fill type d
depth-value_by type false false false d = omega arith

depth-written_value : (type : Option DataType) (name : List ℕ) (d : Data) → depth (written_value type name d) ≤ max (depth d) (levels_given type)
depth-written_value type name d = depth-value_by type (list_any (bytes_eq name) point_names) (bytes_eq name (codes "codecs")) (bytes_eq name (codes "fill_value")) d

has_float-value_by : (type : Option DataType) (is_point is_codecs is_fill : Bool) (d : Data) → has_float d ≡ false → has_float (value_by type is_point is_codecs is_fill d) ≡ false
has_float-value_by type true is_codecs is_fill d h = float_written_point_in d h
has_float-value_by type false true is_fill d h = has_float-written_codecs d h
has_float-value_by type false false true d h = has_float-written_fill type d h
has_float-value_by type false false false d h = h

has_float-written_value : (type : Option DataType) (name : List ℕ) (d : Data) → has_float d ≡ false → has_float (written_value type name d) ≡ false
has_float-written_value type name d = has_float-value_by type (list_any (bytes_eq name) point_names) (bytes_eq name (codes "codecs")) (bytes_eq name (codes "fill_value")) d

-- ---- depth and floats

depth_kept : (left_out : Bool) (name : List ℕ) (d e : Data) (fields ms : Members) (n : ℕ) → depth e ≤ max (depth d) n → members_depth fields ≤ max (members_depth ms) n
    → members_depth (if left_out then fields else member name e fields) ≤ max (members_depth (member name d ms)) n
depth_kept true name d e fields ms n h g = omega arith
depth_kept false name d e fields ms n h g = omega arith

-- the fields are no deeper once they are written, or than the cells of the type nest
pub members_depth-written_fields : (type : Option DataType) (given : Bool) (ms : Members) → members_depth (written_fields type given ms) ≤ max (members_depth ms) (levels_given type)
members_depth-written_fields type given no_members = omega arith
members_depth-written_fields type given (member name d ms) =
    depth_kept (is_left_out given name) name d (written_value type name d) (written_fields type given ms) ms (levels_given type) (depth-written_value type name d) (members_depth-written_fields type given ms)

float_kept : (left_out : Bool) (name : List ℕ) (e : Data) (fields : Members) → has_float e ≡ false → members_have_float fields ≡ false → members_have_float (if left_out then fields else member name e fields) ≡ false
float_kept true name e fields h g = g
float_kept false name e fields h g = or_from (has_float e) (members_have_float fields) h g

pub members_have_float-written_fields : (type : Option DataType) (given : Bool) (ms : Members) → members_have_float ms ≡ false → members_have_float (written_fields type given ms) ≡ false
members_have_float-written_fields type given no_members h = h
members_have_float-written_fields type given (member name d ms) h =
    let parts = or_parts (has_float d) (members_have_float ms) h in
    float_kept (is_left_out given name) name (written_value type name d) (written_fields type given ms) (has_float-written_value type name d parts.0) (members_have_float-written_fields type given ms parts.1)

-- ---- what stands at a name

kept_at : (type : Option DataType) (o : Ordering) (left_out : Bool) (k l : List ℕ) (d e : Data) (fields ms : Members) → slice_cmp nat_cmp k l ≡ o → (o ≡ Equal → left_out ≡ false) → (o ≡ Equal → e ≡ written_value type k d)
    → get_member k fields ≡ option_map (written_value type k) (get_member k ms)
    → get_member k (if left_out then fields else member l e fields) ≡ option_map (written_value type k) (match_ordering o (get_member k ms) (Some d) (get_member k ms))
kept_at type Less true k l d e fields ms is kept same later = later
kept_at type Less false k l d e fields ms is kept same later = rw is later
kept_at type Equal true k l d e fields ms is kept same later = absurd (both_ways true (kept refl) refl)
kept_at type Equal false k l d e fields ms is kept same later = rw (is, same refl)
kept_at type Greater true k l d e fields ms is kept same later = later
kept_at type Greater false k l d e fields ms is kept same later = rw is later

-- a field that is written has its written value
pub get_member-written_fields : (type : Option DataType) (given : Bool) (k : List ℕ) (ms : Members) → is_left_out given k ≡ false → get_member k (written_fields type given ms) ≡ option_map (written_value type k) (get_member k ms)
get_member-written_fields type given k no_members kept = refl
get_member-written_fields type given k (member l d ms) kept =
    kept_at type (slice_cmp nat_cmp k l) (is_left_out given l) k l d (written_value type l d) (written_fields type given ms) ms refl
    (λ e. ap (is_left_out given) (sym (same_name k l e)) ∙ kept)
    (λ e. ap (λ name. written_value type name d) (sym (same_name k l e)))
    (get_member-written_fields type given k ms kept)

left_out_at : (o : Ordering) (left_out : Bool) (k l : List ℕ) (e : Data) (fields : Members) → slice_cmp nat_cmp k l ≡ o → (o ≡ Equal → left_out ≡ true) → get_member k fields ≡ None
    → get_member k (if left_out then fields else member l e fields) ≡ None
left_out_at o true k l e fields is out later = later
left_out_at Less false k l e fields is out later = rw is later
left_out_at Equal false k l e fields is out later = absurd (both_ways false refl (out refl))
left_out_at Greater false k l e fields is out later = rw is later

-- a field that is left out is not there
pub get_member-left_out : (type : Option DataType) (given : Bool) (k : List ℕ) (ms : Members) → is_left_out given k ≡ true → get_member k (written_fields type given ms) ≡ None
get_member-left_out type given k no_members out = refl
get_member-left_out type given k (member l d ms) out =
    left_out_at (slice_cmp nat_cmp k l) (is_left_out given l) k l (written_value type l d) (written_fields type given ms) refl
    (λ e. ap (is_left_out given) (sym (same_name k l e)) ∙ out)
    (get_member-left_out type given k ms out)

-- ---- additional fields

-- a name that equals an own name is one
own_by : (name known : List ℕ) → bytes_eq name known ≡ true → is_own_name known ≡ true → is_own_name name ≡ true
own_by name known is own = ap is_own_name ((bytes_eq-Decides name known).0 is) ∙ own

left_out_is_own : (given : Bool) (name : List ℕ) → is_left_out given name ≡ true → is_own_name name ≡ true
left_out_is_own given name out =
    ⊎_elim (λ e. own_by name (codes "storage_transformers") e refl)
    (λ e. own_by name (codes "dimension_names") (and_parts _ _ e).0 refl)
    (or_cases (bytes_eq name (codes "storage_transformers")) (bytes_eq name (codes "dimension_names") && not given) out)

apart_by : (name known : List ℕ) → is_own_name name ≡ false → is_own_name known ≡ true → bytes_eq name known ≡ false
apart_by name known other own = false_from_ne_true (bytes_eq name known) (λ e. both_ways (is_own_name name) other (own_by name known e own))

plain_value : (type : Option DataType) (is_point is_codecs is_fill : Bool) (d : Data) → is_point ≡ false → is_codecs ≡ false → is_fill ≡ false → value_by type is_point is_codecs is_fill d ≡ d
plain_value type is_point is_codecs is_fill d h g k = rw (h, g, k)

-- an additional field is written as it is
written_value-additional : (type : Option DataType) (name : List ℕ) (d : Data) → is_own_name name ≡ false → written_value type name d ≡ d
written_value-additional type name d other =
    plain_value type (list_any (bytes_eq name) point_names) (bytes_eq name (codes "codecs")) (bytes_eq name (codes "fill_value")) d
    (or_from _ _ (apart_by name (codes "data_type") other refl) (or_from _ _ (apart_by name (codes "chunk_grid") other refl) (or_from _ _ (apart_by name (codes "chunk_key_encoding") other refl) refl)))
    (apart_by name (codes "codecs") other refl) (apart_by name (codes "fill_value") other refl)

additional_kept : (left_out own : Bool) (name : List ℕ) (d e : Data) (fields ms : Members) → is_own_name name ≡ own → (left_out ≡ true → own ≡ true) → (own ≡ false → e ≡ d)
    → additional_in fields ≡ additional_in ms → additional_in (if left_out then fields else member name e fields) ≡ (if own then additional_in ms else member name d (additional_in ms))
additional_kept true true name d e fields ms is out same later = later
additional_kept true false name d e fields ms is out same later = absurd (both_ways false refl (out refl))
additional_kept false true name d e fields ms is out same later = rw is later
additional_kept false false name d e fields ms is out same later = rw (is, same refl, later)

-- the additional fields stay
pub additional_in-written_fields : (type : Option DataType) (given : Bool) (ms : Members) → additional_in (written_fields type given ms) ≡ additional_in ms
additional_in-written_fields type given no_members = refl
additional_in-written_fields type given (member name d ms) =
    additional_kept (is_left_out given name) (is_own_name name) name d (written_value type name d) (written_fields type given ms) ms refl
    (left_out_is_own given name) (written_value-additional type name d) (additional_in-written_fields type given ms)

additional_put_at : (o : Ordering) (k l : List ℕ) (d e : Data) (ms : Members) → is_own_name k ≡ true → slice_cmp nat_cmp k l ≡ o → additional_in (put k d ms) ≡ additional_in ms
    → additional_in (match_ordering o (member k d (member l e ms)) (member l d ms) (member l e (put k d ms))) ≡ additional_in (member l e ms)
additional_put_at Less k l d e ms own is later = rw own
additional_put_at Equal k l d e ms own is later = let h : is_own_name l ≡ true = ap is_own_name (sym (same_name k l is)) ∙ own in rw h
additional_put_at Greater k l d e ms own is later = rw later

-- and a put of an own field adds none
pub additional_in-put : (k : List ℕ) (d : Data) (ms : Members) → is_own_name k ≡ true → additional_in (put k d ms) ≡ additional_in ms
additional_in-put k d no_members own = rw own
additional_in-put k d (member l e ms) own = additional_put_at (slice_cmp nat_cmp k l) k l d e ms own refl (additional_in-put k d ms own)

-- ---- written again

twice_at : (type : Option DataType) (left_out given : Bool) (l : List ℕ) (e : Data) (fields : Members) → is_left_out given l ≡ left_out → written_value type l e ≡ e → written_fields type given fields ≡ fields
    → let all = (if left_out then fields else member l e fields) in written_fields type given all ≡ all
twice_at type true given l e fields out same here = here
twice_at type false given l e fields out same here = rw (out, same, here)

-- fields that are written again stay
pub written_fields-twice : (type : Option DataType) (given : Bool) (ms : Members) → written_fields type given (written_fields type given ms) ≡ written_fields type given ms
written_fields-twice type given no_members = refl
written_fields-twice type given (member l e ms) = twice_at type (is_left_out given l) given l (written_value type l e) (written_fields type given ms) refl (written_value-twice type l e) (written_fields-twice type given ms)

again_at : (type : Option DataType) (o : Ordering) (left_out : Bool) (given : Bool) (k l : List ℕ) (d e : Data) (fields : Members) → slice_cmp nat_cmp k l ≡ o → is_left_out given l ≡ left_out
    → is_left_out given k ≡ false → written_value type k d ≡ d → written_value type l e ≡ e → written_fields type given fields ≡ fields → written_fields type given (put k d fields) ≡ put k d fields
    → let all = (if left_out then fields else member l e fields) in written_fields type given (put k d all) ≡ put k d all
again_at type o true given k l d e fields is out kept plain same here later = later
again_at type Less false given k l d e fields is out kept plain same here later = rw (is, kept, out, plain, same, here)
again_at type Equal false given k l d e fields is out kept plain same here later =
    let stays : written_value type l d ≡ d = ap (λ name. written_value type name d) (sym (same_name k l is)) ∙ plain in
    rw (is, out, stays, here)
again_at type Greater false given k l d e fields is out kept plain same here later = rw (is, out, same, later)

-- also with a field put that is written as it is
pub written_fields-put : (type : Option DataType) (given : Bool) (k : List ℕ) (d : Data) (ms : Members) → is_left_out given k ≡ false → written_value type k d ≡ d → written_fields type given (put k d (written_fields type given ms)) ≡ put k d (written_fields type given ms)
written_fields-put type given k d no_members kept plain = rw (kept, plain)
written_fields-put type given k d (member l e ms) kept plain =
    again_at type (slice_cmp nat_cmp k l) (is_left_out given l) given k l d (written_value type l e) (written_fields type given ms) refl refl kept plain
    (written_value-twice type l e) (written_fields-twice type given ms) (written_fields-put type given k d ms kept plain)
