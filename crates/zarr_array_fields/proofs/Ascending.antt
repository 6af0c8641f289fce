-- Members in the order of their names: one that is put at the end stays there.
use Rattle.std.proofs.Common.{◌≡◌, ℕ, List, [], ◌∷◌, Bool, true, false, if◌then◌else◌, Option, String, Global, Less, Greater, string_bytes, string_cmp, nat_cmp, refl, sym, ap, ◌∙◌}
use Rattle.std.specs.Cmp.Lexicographic.{slice_cmp}
use Rattle.std.specs.List.{AllByRecursion}
use Rattle.std.specs.List.Sorted.{IsStrictlySortedBy}
use Rattle.std.specs.Map.{keys_of}
use Rattle.std.specs.Ordering.{ordering_reverse}
use Rattle.std.proofs.lemmas.Cmp.{nat_list_cmp_total}
use Rattle.serde_json.specs.Data.{Data, Members, no_members, member, put}
use Rattle.serde_json.specs.View.{view, members_view}
use Rattle.serde_json.proofs.Views.{Entry}
use Rattle.zarr_codecs_meaning.specs.Types.{DataType}
use Rattle.zarr_array_meaning.specs.Written.{is_left_out, written_value, written_fields, with_field}

-- a name comes before that of each member
abbrev pub IsBefore : List ℕ → Members → Type 0
IsBefore k no_members = Unit {0}
IsBefore k (member l d ms) = (slice_cmp nat_cmp k l ≡ Less) × IsBefore k ms

abbrev pub IsAscending : Members → Type 0
IsAscending no_members = Unit {0}
IsAscending (member k d ms) = IsBefore k ms × IsAscending ms

-- the members of the one and then of the other
abbrev pub joined : Members → Members → Members
joined no_members more = more
joined (member k d ms) more = member k d (joined ms more)

-- ---- the members of a map

before_entries : (key : String Global) (es : List Entry) → AllByRecursion (λ y. string_cmp key y ≡ Less) (keys_of es) → IsBefore (string_bytes key) (members_view es)
before_entries key [] h = tt
before_entries key (e ∷ es) h = (h.0, before_entries key es h.1)

pub IsAscending-entries : (es : List Entry) → IsStrictlySortedBy string_cmp (keys_of es) → IsAscending (members_view es)
unfolding IsStrictlySortedBy
IsAscending-entries [] h = tt
IsAscending-entries (e ∷ es) h = (before_entries e.0 es h.0, IsAscending-entries es h.1)

-- ---- one member between

before_without : (j : List ℕ) (done : Members) (k : List ℕ) (d : Data) (more : Members) → IsBefore j (joined done (member k d more)) → IsBefore j (joined done more)
before_without j no_members k d more h = h.1
before_without j (member l e done) k d more h = (h.0, before_without j done k d more h.1)

ascending_without : (done : Members) (k : List ℕ) (d : Data) (more : Members) → IsAscending (joined done (member k d more)) → IsAscending (joined done more)
ascending_without no_members k d more h = h.1
ascending_without (member l e done) k d more h = (before_without l done k d more h.0, ascending_without done k d more h.1)

before_with : (j : List ℕ) (done : Members) (k : List ℕ) (d f : Data) (more : Members) → IsBefore j (joined done (member k d more)) → IsBefore j (joined done (member k f more))
before_with j no_members k d f more h = h
before_with j (member l e done) k d f more h = (h.0, before_with j done k d f more h.1)

ascending_with : (done : Members) (k : List ℕ) (d f : Data) (more : Members) → IsAscending (joined done (member k d more)) → IsAscending (joined done (member k f more))
ascending_with no_members k d f more h = h
ascending_with (member l e done) k d f more h = (before_with l done k d f more h.0, ascending_with done k d f more h.1)

before_middle : (j : List ℕ) (done : Members) (k : List ℕ) (d : Data) (more : Members) → IsBefore j (joined done (member k d more)) → slice_cmp nat_cmp j k ≡ Less
before_middle j no_members k d more h = h.0
before_middle j (member l e done) k d more h = before_middle j done k d more h.1

-- what is put at a name after all others goes last
put_last : (done : Members) (k : List ℕ) (d f : Data) (more : Members) → IsAscending (joined done (member k d more)) → put k f done ≡ joined done (member k f no_members)
put_last no_members k d f more h = refl
put_last (member l e done) k d f more h =
    let above : slice_cmp nat_cmp k l ≡ Greater = nat_list_cmp_total.antisymm k l ∙ ap ordering_reverse (before_middle l done k d more h.0) in
    rw above (ap (member l e) (put_last done k d f more h.1))

joined_last : (done : Members) (k : List ℕ) (d : Data) (more : Members) → joined (joined done (member k d no_members)) more ≡ joined done (member k d more)
joined_last no_members k d more = refl
joined_last (member l e done) k d more = ap (member l e) (joined_last done k d more)

-- ---- a walk that writes fields

-- `done` was written for the fields that were passed, and `rest` is left
pub record Walk (type : Option DataType) (given : Bool) (all done rest : Members) : Type 0 where
  pub ascends : IsAscending (joined done rest)
  pub goes_on : written_fields type given all ≡ joined done (written_fields type given rest)

ascends_at : (left_out : Bool) (k : List ℕ) (d f : Data) (done rest : Members) → IsAscending (joined done (member k d rest)) → IsAscending (joined (if left_out then done else put k f done) rest)
ascends_at true k d f done rest h = ascending_without done k d rest h
ascends_at false k d f done rest h = rw (put_last done k d f rest h, joined_last done k f rest) (ascending_with done k d f rest h)

goes_on_at : (left_out : Bool) (k : List ℕ) (d f : Data) (done rest fields : Members) → IsAscending (joined done (member k d rest))
    → joined done (if left_out then fields else member k f fields) ≡ joined (if left_out then done else put k f done) fields
goes_on_at true k d f done rest fields h = refl
goes_on_at false k d f done rest fields h = rw (put_last done k d f rest h, joined_last done k f fields)

-- at first all fields are left
pub Walk-none : (type : Option DataType) (given : Bool) (es left written : List Entry) → IsStrictlySortedBy string_cmp (keys_of es) → left ≡ es → written ≡ [] → Walk type given (members_view es) (members_view written) (members_view left)
Walk-none type given es left written ordered is none = rw (is, none) (record { ascends = IsAscending-entries es ordered; goes_on = refl })

-- one field more
pub Walk-more : (type : Option DataType) (given : Bool) (all done : Members) (left : List Entry) (e : Entry) (rest : List Entry) (name : List ℕ) (new : Members)
    → Walk type given all done (members_view left) → left ≡ e ∷ rest → name ≡ string_bytes e.0 → new ≡ with_field type given name (view e.1) done → Walk type given all new (members_view rest)
Walk-more type given all done left e rest name new walk is named made =
    let k = string_bytes e.0 in
    let d = view e.1 in
    let here : Walk type given all done (member k d (members_view rest)) = rw (ap members_view is) at walk in
    let same : new ≡ with_field type given k d done = made ∙ ap (λ n. with_field type given n d done) named in
    rw same (record {
      ascends = ascends_at (is_left_out given k) k d (written_value type k d) done (members_view rest) here.ascends;
      goes_on = here.goes_on ∙ goes_on_at (is_left_out given k) k d (written_value type k d) done (members_view rest) (written_fields type given (members_view rest)) here.ascends;
    })

joined_none : (done : Members) → joined done no_members ≡ done
joined_none no_members = refl
joined_none (member k d done) = ap (member k d) (joined_none done)

-- at last none is left
pub Walk-all : (type : Option DataType) (given : Bool) (all done : Members) (left : List Entry) → Walk type given all done (members_view left) → left ≡ [] → done ≡ written_fields type given all
Walk-all type given all done left walk is =
    let here : Walk type given all done no_members = rw (ap members_view is) at walk in
    sym (here.goes_on ∙ joined_none done)
