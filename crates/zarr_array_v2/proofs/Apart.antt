-- A version 2 document and its attributes, apart and joined.
use Rattle.std.proofs.Common.{◌≡◌, ℕ, List, codes, bytes_eq, Bool, true, false, if◌then◌else◌, Option, Some, None, option_map, option_and_then, unwrap_or, Ordering, Less, Equal, Greater, nat_cmp, is_eq, subst, refl, sym, ap, ◌∙◌}
use Rattle.std.specs.Cmp.Lexicographic.{slice_cmp}
use Rattle.std.specs.List.{list_any}
use Rattle.std.specs.Ordering.{match_ordering}
use Rattle.std.proofs.lemmas.Bool.{both_ways}
use Rattle.std.proofs.lemmas.Map.Text.{is_eq-slice_cmp}
use Rattle.std.proofs.lemmas.Slice.Eq.{bytes_eq-Decides}
use Rattle.serde_json.specs.Data.{Data, string, object, Members, no_members, member, put}
use Rattle.serde_json.specs.Find.{get_member}
use Rattle.zarr_grids_metadata.proofs.PutLemmas.{get_put_same, get_put_other, put_put}
use Rattle.zarr_array_v2.specs.Attributes.{without, attributes_of, without_attributes, with_attributes}
use Rattle.zarr_array_v2.specs.Conversion.{v3_fields, to_v3}
use Rattle.zarr_array_v2.specs.Fields.{Fields, order_in, fields_in}
use Rattle.zarr_array_v2.specs.Laws.{IsWithoutAttributes, IsJoined, field_names}
use Rattle.zarr_array_v2.specs.declared.fields.Order.{Order}
use Rattle.zarr_array_v2.proofs.Named.{fields_at, same_fields}

-- ---- members without those of one name

skips : (o : Ordering) (d : Data) (rest : Option Data) → is_eq o ≡ false → match_ordering o rest (Some d) rest ≡ rest
skips Less d rest apart = refl
skips Equal d rest apart = absurd (cc)
skips Greater d rest apart = refl

-- a member of another name is passed over
passes : (name k : List ℕ) (d : Data) (ms : Members) → bytes_eq name k ≡ false → get_member name (member k d ms) ≡ get_member name ms
passes name k d ms apart = skips (slice_cmp nat_cmp name k) d (get_member name ms) (is_eq-slice_cmp name k ∙ apart)

gone_at : (b : Bool) (name k : List ℕ) (d : Data) (rest : Members) → bytes_eq name k ≡ b → get_member name rest ≡ None → get_member name (if b then rest else member k d rest) ≡ None
gone_at true name k d rest is none = none
gone_at false name k d rest is none = passes name k d rest is ∙ none

gone : (name : List ℕ) (ms : Members) → get_member name (without name ms) ≡ None
gone name no_members = refl
gone name (member k d ms) = gone_at (bytes_eq name k) name k d (without name ms) refl (gone name ms)

kept_at : (b : Bool) (q name k : List ℕ) (d : Data) (rest ms : Members) → bytes_eq name k ≡ b → bytes_eq q name ≡ false → get_member q rest ≡ get_member q ms → get_member q (if b then rest else member k d rest) ≡ get_member q (member k d ms)
kept_at true q name k d rest ms is apart same =
    let named : name ≡ k = (bytes_eq-Decides name k).0 is in
    same ∙ sym (passes q k d ms (ap (bytes_eq q) (sym named) ∙ apart))
kept_at false q name k d rest ms is apart same = ap (λ r. match_ordering (slice_cmp nat_cmp q k) r (Some d) r) same

kept : (q name : List ℕ) (ms : Members) → bytes_eq q name ≡ false → get_member q (without name ms) ≡ get_member q ms
kept q name no_members apart = refl
kept q name (member k d ms) apart = kept_at (bytes_eq name k) q name k d (without name ms) ms refl apart (kept q name ms apart)

pub takes : (ms : Members) → IsWithoutAttributes ms
takes ms = record { attributes = gone (codes "attributes") ms; others = λ name apart. kept name (codes "attributes") ms apart }

-- ---- joined

joins_at : (b : Bool) (ms : Members) (attributes : Data) (name : List ℕ) → bytes_eq name (codes "attributes") ≡ b → get_member (codes "attributes") ms ≡ Some attributes
    → get_member name (put (codes "attributes") (attributes_of ms) (without_attributes ms)) ≡ get_member name ms
joins_at true ms attributes name is given =
    let named : name ≡ codes "attributes" = (bytes_eq-Decides name (codes "attributes")).0 is in
    subst (λ (n : List ℕ). get_member n (put (codes "attributes") (attributes_of ms) (without_attributes ms)) ≡ get_member n ms) (sym named)
    (get_put_same (codes "attributes") (attributes_of ms) (without_attributes ms) ∙ ap (λ o. Some (unwrap_or o (object no_members))) given ∙ sym given)
joins_at false ms attributes name is given =
    get_put_other name (codes "attributes") (attributes_of ms) (without_attributes ms) is ∙ kept name (codes "attributes") ms is

pub joins : (ms : Members) (attributes : Data) → get_member (codes "attributes") ms ≡ Some attributes → (name : List ℕ) → get_member name (with_attributes (Some (attributes_of ms)) (without_attributes ms)) ≡ get_member name ms
joins ms attributes given name = joins_at (bytes_eq name (codes "attributes")) ms attributes name refl given

without_put_at : (o : Ordering) (k l : List ℕ) (d e : Data) (ms : Members) → slice_cmp nat_cmp k l ≡ o → without k (put k d ms) ≡ without k ms
    → without k (match_ordering o (member k d (member l e ms)) (member l d ms) (member l e (put k d ms))) ≡ without k (member l e ms)
without_put_at Less k l d e ms is same = let itself : bytes_eq k k ≡ true = (bytes_eq-Decides k k).1 refl in rw itself
without_put_at Equal k l d e ms is same = let named : bytes_eq k l ≡ true = sym (is_eq-slice_cmp k l) ∙ ap is_eq is in rw named
without_put_at Greater k l d e ms is same = ap (λ m. if bytes_eq k l then m else member l e m) same

-- what was put at a name goes with the name
without_put : (k : List ℕ) (d : Data) (ms : Members) → without k (put k d ms) ≡ without k ms
without_put k d no_members = let itself : bytes_eq k k ≡ true = (bytes_eq-Decides k k).1 refl in rw itself
without_put k d (member l e ms) = without_put_at _ k l d e ms refl (without_put k d ms)

once_at : (b : Bool) (name k : List ℕ) (d : Data) (rest : Members) → bytes_eq name k ≡ b → without name rest ≡ rest → without name (if b then rest else member k d rest) ≡ (if b then rest else member k d rest)
once_at true name k d rest is same = same
once_at false name k d rest is same = rw is (ap (member k d) same)

-- a name goes once and for all
once : (name : List ℕ) (ms : Members) → without name (without name ms) ≡ without name ms
once name no_members = refl
once name (member k d ms) = once_at (bytes_eq name k) name k d (without name ms) refl (once name ms)

pub splits : (ms : Members) (attributes : Data) → IsJoined ms attributes
splits ms attributes =
    let name = codes "attributes" in
    let rest : without name (put name attributes (without name ms)) ≡ without name ms = without_put name attributes (without name ms) ∙ once name ms in
    let given : attributes_of (put name attributes (without name ms)) ≡ attributes = ap (λ o. unwrap_or o (object no_members)) (get_put_same name attributes (without name ms)) in
    record { rest = rest; attributes_are = given; again = ap (λ a. put name a (without name (put name attributes (without name ms)))) given ∙ ap (put name attributes) rest }

-- ---- the version 3 document

attributes_at : (o : Option Fields) (given : Option Data) (attributes : Data)
    → option_map (λ f. with_attributes (Some attributes) (v3_fields f)) o ≡ option_map (put (codes "attributes") attributes) (option_map (λ f. with_attributes given (v3_fields f)) o)
attributes_at None given attributes = refl
attributes_at (Some f) None attributes = refl
attributes_at (Some f) (Some d) attributes = ap (λ m. Some m) (sym (put_put (codes "attributes") attributes d (v3_fields f)))

-- documents of the same fields
converts_same : (ns ms : Members) (attributes : Data) → fields_in ns ≡ fields_in ms → get_member (codes "attributes") ns ≡ Some attributes → to_v3 ns ≡ option_map (put (codes "attributes") attributes) (to_v3 ms)
converts_same ns ms attributes same given =
    ap (λ o. option_map (λ f. with_attributes (get_member (codes "attributes") ns) (v3_fields f)) o) same ∙ ap (λ g. option_map (λ f. with_attributes g (v3_fields f)) (fields_in ms)) given
    ∙ attributes_at (fields_in ms) (get_member (codes "attributes") ms) attributes

-- the names of the fields are not that of the attributes
apart_at : (b : Bool) (name : List ℕ) → bytes_eq name (codes "attributes") ≡ b → list_any (bytes_eq name) field_names ≡ true → b ≡ false
apart_at false name is one = refl
apart_at true name is one =
    let named : name ≡ codes "attributes" = (bytes_eq-Decides name (codes "attributes")).0 is in
    absurd (both_ways false refl (subst (λ (n : List ℕ). list_any (bytes_eq n) field_names ≡ true) named one))

is_apart : (name : List ℕ) → list_any (bytes_eq name) field_names ≡ true → bytes_eq name (codes "attributes") ≡ false
is_apart name one = apart_at (bytes_eq name (codes "attributes")) name refl one

pub converts_attributes : (ms : Members) (attributes : Data) → to_v3 (put (codes "attributes") attributes ms) ≡ option_map (put (codes "attributes") attributes) (to_v3 ms)
converts_attributes ms attributes =
    converts_same (put (codes "attributes") attributes ms) ms attributes
    (same_fields (put (codes "attributes") attributes ms) ms (λ name one. get_put_other name (codes "attributes") attributes ms (is_apart name one)))
    (get_put_same (codes "attributes") attributes ms)

pub converts_parts : (ms : Members) (attributes : Data) → to_v3 (with_attributes (Some attributes) (without_attributes ms)) ≡ option_map (put (codes "attributes") attributes) (to_v3 ms)
converts_parts ms attributes =
    let rest = without_attributes ms in
    converts_same (put (codes "attributes") attributes rest) ms attributes
    (same_fields (put (codes "attributes") attributes rest) ms (λ name one. get_put_other name (codes "attributes") attributes rest (is_apart name one) ∙ kept name (codes "attributes") ms (is_apart name one)))
    (get_put_same (codes "attributes") attributes rest)

-- ---- the separator

dot_at : (shape chunks dtype fill_value : Option Data) (order : Option Order) (filters compressor given : Option Data)
    → option_map (λ f. with_attributes given (v3_fields f)) (fields_at shape chunks dtype fill_value order filters compressor (Some (string (codes "."))))
    ≡ option_map (λ f. with_attributes given (v3_fields f)) (fields_at shape chunks dtype fill_value order filters compressor None)
dot_at None c d v o fs k given = refl
dot_at (Some s) None d v o fs k given = refl
dot_at (Some s) (Some c) None v o fs k given = refl
dot_at (Some s) (Some c) (Some d) None o fs k given = refl
dot_at (Some s) (Some c) (Some d) (Some v) None fs k given = refl
dot_at (Some s) (Some c) (Some d) (Some v) (Some o) None k given = refl
dot_at (Some s) (Some c) (Some d) (Some v) (Some o) (Some fs) None given = refl
dot_at (Some s) (Some c) (Some d) (Some v) (Some o) (Some fs) (Some k) given = refl

pub converts_dot : (ms : Members) → get_member (codes "dimension_separator") ms ≡ None → to_v3 (put (codes "dimension_separator") (string (codes ".")) ms) ≡ to_v3 ms
converts_dot ms none =
    let name = codes "dimension_separator" in
    let dot = string (codes ".") in
    let other = λ (q : List ℕ) (apart : bytes_eq q name ≡ false). get_put_other q name dot ms apart in
    rw (other (codes "shape") refl, other (codes "chunks") refl, other (codes "dtype") refl, other (codes "fill_value") refl, other (codes "order") refl, other (codes "filters") refl, other (codes "compressor") refl, other (codes "attributes") refl, get_put_same name dot ms, none)
    (dot_at (get_member (codes "shape") ms) (get_member (codes "chunks") ms) (get_member (codes "dtype") ms) (get_member (codes "fill_value") ms) (option_and_then order_in (get_member (codes "order") ms)) (get_member (codes "filters") ms) (get_member (codes "compressor") ms) (get_member (codes "attributes") ms))
