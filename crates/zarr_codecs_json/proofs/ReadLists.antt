-- Elements read one by one.
use Rattle.std.proofs.Common.{◌≡◌, ℕ, zero, suc, ◌+◌, ◌-◌, ◌*◌, ◌/◌, ◌%◌, ◌^◌, ◌<◌, ◌≤◌, ℤ, pos, negsuc, List, [], ◌∷◌, ◌++◌, length, map, take, drop, get_or, replicate, ap, ◌∙◌, sym, refl, subst, arith, Option, Some, None, IfSome, Bool, true, false, if◌then◌else◌, ◌&&◌, option_map, option_and_then, append-nil, append_assoc, length-append}
use Rattle.std.proofs.lemmas.Bool.{le-leb, eq-eqb}
use Rattle.std.proofs.lemmas.List.{drop_more, drop_all, length-replicate, map-append}
use Rattle.std.proofs.Math.Nat.{add-mul-mod_self_right, zero-mod}
use Rattle.std.proofs.Math.Seq.{take-append_seam, drop-append_seam}
use mir.Val.{bool_byte}
use Rattle.serde_json.specs.Data.{Data, Items, no_items, item}
use Rattle.serde_json.specs.View.{view, items_view}
use Rattle.serde_json.specs.declared.value.Value.{Value}
use Rattle.zarr_codecs_meaning.specs.Encoding.{ends_from}
use Rattle.zarr_codecs_meaning.specs.Numbers.{digits}
use Rattle.zarr_codecs_meaning.specs.Types.{DataType, bool, integer, custom, optional_of, Sign, Component, bytes_in, byte_width, is_variable, Cell, of_bytes, absent, present}
use Rattle.zarr_codecs_meaning.specs.Payloads.{Payload, fixed, variable, optional, fixed_in, fixed_cells, bytes_between, variable_in, masked, masked_in, cells_in}
use Rattle.zarr_codecs_meaning.proofs.Lists.{bind_some, map_some, some_same}
use Rattle.zarr_codecs_meaning.proofs.Values.{length-digits}
use Rattle.zarr_codecs_types.specs.FillMetadata.{integer_in, bool_bytes, byte_in, byte_list, option_in, option_cell}
use Rattle.zarr_codecs_types.specs.Given.{element_in, elements_in}
use Rattle.zarr_codecs_types.specs.Integers.{integer_bytes, Reaches}
use Rattle.zarr_codecs_types.proofs.Integers.{in_reaches}
use Rattle.zarr_codecs_arrays.specs.Offsets.{are_rising}
use Rattle.zarr_codecs_arrays.proofs.FixedCells.{fixed_cells-nil, fixed_cells-cons, fixed_cells-append, fixed_in-some}
use Rattle.zarr_codecs_json.specs.Inside.{inside, next_inside, some_cell, cell_inside, mark_of, mark_inside, is_absent, said}
use Rattle.zarr_codecs_json.specs.Outcomes.{AreGiven, AreInside, AppendsBytes}

-- ---- what values say, one more

-- all values say what some said before and what the values left say
abbrev pub AreRead : {A : Type 0} → (Data → Option A) → List A → Items → Items → Type 0
AreRead says before rest all = said says all ≡ option_map (λ more. before ++ more) (said says rest)

option_id : {X : Type 0} (o : Option X) → o ≡ option_map (λ x. x) o
option_id None = refl
option_id (Some x) = refl

pub none_read : {A : Type 0} (says : Data → Option A) (before : List A) (all : Items) → before ≡ [] → AreRead says before all all
none_read says before all empty = option_id (said says all) ∙ ap (λ xs. option_map (λ more. xs ++ more) (said says all)) (sym empty)

moved : {A : Type 0} (x : A) (before : List A) (o : Option (List A)) → option_map (λ more. before ++ more) (option_map (λ xs. x ∷ xs) o) ≡ option_map (λ more. (before ++ x ∷ []) ++ more) o
moved x before None = refl
moved x before (Some xs) = ap Some (sym (append_assoc before (x ∷ []) xs))

pub one_read : {A : Type 0} (says : Data → Option A) (before : List A) (x : A) (d : Data) (rest all : Items) → says d ≡ Some x → AreRead says before (item d rest) all → AreRead says (before ++ x ∷ []) rest all
one_read {A} says before x d rest all says_x r = r ∙ (ap (λ (o : Option A). option_map (λ more. before ++ more) (option_and_then (λ y. option_map (λ xs. y ∷ xs) (said says rest)) o)) says_x ∙ moved x before (said says rest))

pub not_read : {A : Type 0} (says : Data → Option A) (before : List A) (d : Data) (rest all : Items) → says d ≡ None → AreRead says before (item d rest) all → said says all ≡ None
not_read {A} says before d rest all none r = r ∙ ap (λ (o : Option A). option_map (λ more. before ++ more) (option_and_then (λ y. option_map (λ xs. y ∷ xs) (said says rest)) o)) none

pub all_read : {A : Type 0} (says : Data → Option A) (before : List A) (rest all : Items) → rest ≡ no_items → AreRead says before rest all → said says all ≡ Some before
all_read says before rest all ended r = r ∙ (ap (λ ds. option_map (λ more. before ++ more) (said says ds)) ended ∙ ap Some (append-nil before))

-- ---- the values of a slice

pub next_value : (values : List Value) (index : ℕ) (value : Value) → index < length values → value ≡ get_or values index value → items_view (drop index values) ≡ item (view value) (items_view (drop (index + 1) values))
next_value values index value h is = ap items_view (drop_more values index value h) ∙ ap (λ v. item (view v) (items_view (drop (index + 1) values))) (sym is)

pub last_value : (values : List Value) (index : ℕ) → length values ≤ index → items_view (drop index values) ≡ no_items
last_value values index h = ap items_view (drop_all index values h)

pub value_read : {A : Type 0} (says : Data → Option A) (before new : List A) (x : A) (values : List Value) (index : ℕ) (value : Value) → says (view value) ≡ Some x → new ≡ before ++ x ∷ []
    → index < length values → value ≡ get_or values index value → AreRead says before (items_view (drop index values)) (items_view values) → AreRead says new (items_view (drop (index + 1) values)) (items_view values)
value_read says before new x values index value says_x grew less is r =
    subst (λ xs. AreRead says xs (items_view (drop (index + 1) values)) (items_view values)) (sym grew)
    (one_read says before x (view value) (items_view (drop (index + 1) values)) (items_view values) says_x (subst (λ ds. AreRead says before ds (items_view values)) (next_value values index value less is) r))

pub value_not_read : {A : Type 0} (says : Data → Option A) (before : List A) (values : List Value) (index : ℕ) (value : Value) → says (view value) ≡ None
    → index < length values → value ≡ get_or values index value → AreRead says before (items_view (drop index values)) (items_view values) → said says (items_view values) ≡ None
value_not_read says before values index value none less is r =
    not_read says before (view value) (items_view (drop (index + 1) values)) (items_view values) none (subst (λ ds. AreRead says before ds (items_view values)) (next_value values index value less is) r)

pub values_read : {A : Type 0} (says : Data → Option A) (before : List A) (values : List Value) (index : ℕ) → length values ≤ index → AreRead says before (items_view (drop index values)) (items_view values) → said says (items_view values) ≡ Some before
values_read says before values index ended r = all_read says before (items_view (drop index values)) (items_view values) (last_value values index ended) r

-- ---- elements of one size

-- the bytes so far are the elements that the values before said
pub record FixedRead (says : Data → Option Cell) (count : ℕ) (bytes : List ℕ) (rest all : Items) : Type 0 where
  pub whole : length bytes % count ≡ 0
  pub same : AreRead says (fixed_cells count bytes) rest all

pub fixed_begins : (says : Data → Option Cell) (count : ℕ) (bytes : List ℕ) (all : Items) → bytes ≡ [] → FixedRead says count bytes all all
fixed_begins says count bytes all empty = record {
  whole = ap (λ (ns : List ℕ). length ns % count) empty ∙ zero-mod count;
  same = none_read says (fixed_cells count bytes) all (ap (fixed_cells count) empty ∙ fixed_cells-nil count);
}

pub fixed_read : (says : Data → Option Cell) (count : ℕ) (bytes new element : List ℕ) (values : List Value) (index : ℕ) (value : Value) → 0 < count → length element ≡ count → says (view value) ≡ Some (of_bytes element)
    → index < length values → value ≡ get_or values index value → new ≡ bytes ++ element → FixedRead says count bytes (items_view (drop index values)) (items_view values) → FixedRead says count new (items_view (drop (index + 1) values)) (items_view values)
fixed_read says count bytes new element values index value h long says_x less is grew r =
    let alone : fixed_cells count element ≡ of_bytes element ∷ [] =
    ap (fixed_cells count) (sym (append-nil element)) ∙ (fixed_cells-cons count element [] h long ∙ ap (λ (cs : List Cell). of_bytes element ∷ cs) (fixed_cells-nil count)) in
    let more : fixed_cells count new ≡ fixed_cells count bytes ++ of_bytes element ∷ [] =
    ap (fixed_cells count) grew ∙ (fixed_cells-append count bytes element h r.whole ∙ ap (λ cs. fixed_cells count bytes ++ cs) alone) in
    let sum : length new ≡ length bytes + 1 * count = ap length grew ∙ (length-append bytes element ∙ omega (arith, long)) in
    record {
      whole = ap (λ n. n % count) sum ∙ (add-mul-mod_self_right (length bytes) 1 count ∙ r.whole);
      same = value_read says (fixed_cells count bytes) (fixed_cells count new) (of_bytes element) values index value says_x more less is r.same;
    }

pub fixed_ends : (type : DataType) (levels count : ℕ) (bytes : List ℕ) (values : List Value) (index : ℕ) → 0 < count → byte_width type ≡ Some count → length values ≤ index
    → FixedRead (cell_inside type levels) count bytes (items_view (drop index values)) (items_view values) → AreInside type levels (items_view values) (fixed bytes)
fixed_ends type levels count bytes values index h wide ended r = record {
  cells = fixed_cells count bytes;
  are = values_read (cell_inside type levels) (fixed_cells count bytes) values index ended r.same;
  lists = ap (λ (o : Option ℕ). option_and_then (λ n. fixed_in n bytes) o) wide ∙ fixed_in-some count bytes h r.whole;
}

-- ---- elements of variable length

-- pieces, joined
abbrev pub joined : List (List ℕ) → List ℕ
joined [] = []
joined (piece ∷ pieces) = piece ++ joined pieces

joined_more : (pieces : List (List ℕ)) (piece : List ℕ) → joined (pieces ++ piece ∷ []) ≡ joined pieces ++ piece
joined_more [] piece = append-nil piece
joined_more (first ∷ pieces) piece = ap (λ ns. first ++ ns) (joined_more pieces piece) ∙ sym (append_assoc first (joined pieces) piece)

ends_more : (offset : ℕ) (pieces : List (List ℕ)) (piece : List ℕ) → ends_from offset (pieces ++ piece ∷ []) ≡ ends_from offset pieces ++ (offset + (length (joined pieces) + length piece)) ∷ []
ends_more offset [] piece = let e : offset + length piece ≡ offset + (0 + length piece) = omega arith in ap (λ n. n ∷ []) e
ends_more offset (first ∷ pieces) piece =
    let end = offset + length first in
    let e : end + (length (joined pieces) + length piece) ≡ offset + (length (first ++ joined pieces) + length piece) = omega (arith, length-append first (joined pieces)) in
    ap (λ ns. end ∷ ns) (ends_more end pieces piece ∙ ap (λ n. ends_from end pieces ++ n ∷ []) e)

pub ends_rise : (offset : ℕ) (pieces : List (List ℕ)) → are_rising (offset ∷ ends_from offset pieces) ≡ true
ends_rise offset [] = refl
ends_rise offset (first ∷ pieces) =
    ap (λ (b : Bool). b && are_rising ((offset + length first) ∷ ends_from (offset + length first) pieces)) (le-leb offset (offset + length first) (omega arith)) ∙ ends_rise (offset + length first) pieces

between_joined : (front : List ℕ) (offset : ℕ) (pieces : List (List ℕ)) → length front ≡ offset → bytes_between offset (ends_from offset pieces) (front ++ joined pieces) ≡ Some pieces
between_joined front offset [] long = ap (λ (b : Bool). if b then Some [] else None) (eq-eqb offset (length (front ++ [])) (omega (arith, long, length-append front [])))
between_joined front offset (first ∷ pieces) long =
    let end = offset + length first in
    let others = joined pieces in
    let bytes = front ++ (first ++ others) in
    let again : bytes ≡ (front ++ first) ++ others = sym (append_assoc front first others) in
    let test = le-leb offset end (omega arith) in
    let width : end - offset ≡ length first = omega arith in
    let back : drop offset bytes ≡ first ++ others = ap (λ n. drop n bytes) (sym long) ∙ drop-append_seam front (first ++ others) in
    let piece : take (end - offset) (drop offset bytes) ≡ first = ap (λ n. take n (drop offset bytes)) width ∙ (ap (take (length first)) back ∙ take-append_seam first others) in
    let long-more : length (front ++ first) ≡ end = length-append front first ∙ omega (arith, long) in
    ap (λ (b : Bool). if b then option_map (λ rest. take (end - offset) (drop offset bytes) ∷ rest) (bytes_between end (ends_from end pieces) bytes) else None) test
    ∙ (ap (λ (ns : List ℕ). option_map (λ rest. take (end - offset) (drop offset bytes) ∷ rest) (bytes_between end (ends_from end pieces) ns)) again
    ∙ (ap (option_map (λ (rest : List (List ℕ)). take (end - offset) (drop offset bytes) ∷ rest)) (between_joined (front ++ first) end pieces long-more)
    ∙ ap (λ (ns : List ℕ). Some (ns ∷ pieces)) piece))

-- the bytes and offsets so far are the elements that the values before said
pub record VariableRead (says : Data → Option Cell) (bytes offsets : List ℕ) (rest all : Items) : Type 0 where
  pub pieces : List (List ℕ)
  pub joins : bytes ≡ joined pieces
  pub ends : offsets ≡ 0 ∷ ends_from 0 pieces
  pub same : AreRead says (map of_bytes pieces) rest all

pub variable_begins : (says : Data → Option Cell) (bytes offsets : List ℕ) (all : Items) → bytes ≡ [] → offsets ≡ 0 ∷ [] → VariableRead says bytes offsets all all
variable_begins says bytes offsets all empty first = record { pieces = []; joins = empty; ends = first; same = none_read says [] all refl }

pub variable_read : (says : Data → Option Cell) (bytes more piece offsets next : List ℕ) (end : ℕ) (values : List Value) (index : ℕ) (value : Value) → says (view value) ≡ Some (of_bytes piece) → more ≡ bytes ++ piece → end ≡ length more → next ≡ offsets ++ end ∷ []
    → index < length values → value ≡ get_or values index value → VariableRead says bytes offsets (items_view (drop index values)) (items_view values) → VariableRead says more next (items_view (drop (index + 1) values)) (items_view values)
variable_read says bytes more piece offsets next end values index value says_x grew long pushed less is r =
    let all = r.pieces ++ piece ∷ [] in
    let e : end ≡ 0 + (length (joined r.pieces) + length piece) = omega (arith, long, ap length grew, length-append bytes piece, ap length r.joins) in record {
      pieces = all;
      joins = grew ∙ (ap (λ ns. ns ++ piece) r.joins ∙ sym (joined_more r.pieces piece));
      ends = pushed ∙ (ap (λ ns. ns ++ end ∷ []) r.ends ∙ (ap (λ n. 0 ∷ (ends_from 0 r.pieces ++ n ∷ [])) e ∙ ap (λ ns. 0 ∷ ns) (sym (ends_more 0 r.pieces piece))));
      same = value_read says (map of_bytes r.pieces) (map of_bytes all) (of_bytes piece) values index value says_x (map-append of_bytes r.pieces (piece ∷ [])) less is r.same;
    }

pub variable_rises : (says : Data → Option Cell) (bytes offsets : List ℕ) (rest all : Items) → VariableRead says bytes offsets rest all → are_rising offsets ≡ true
variable_rises says bytes offsets rest all r = ap are_rising r.ends ∙ ends_rise 0 r.pieces

pub variable_ends : (type : DataType) (levels : ℕ) (payload : Payload) (bytes offsets : List ℕ) (values : List Value) (index : ℕ) → is_variable type ≡ true → payload ≡ variable bytes offsets → length values ≤ index
    → VariableRead (cell_inside type levels) bytes offsets (items_view (drop index values)) (items_view values) → AreInside type levels (items_view values) payload
variable_ends type levels payload bytes offsets values index v p ended r =
    let cut : variable_in offsets bytes ≡ Some (map of_bytes r.pieces) = ap (λ ns. variable_in ns bytes) r.ends ∙ (ap (λ ns. option_map (map of_bytes) (bytes_between 0 (ends_from 0 r.pieces) ns)) r.joins ∙ ap (option_map (map of_bytes)) (between_joined [] 0 r.pieces refl)) in record {
      cells = map of_bytes r.pieces;
      are = values_read (cell_inside type levels) (map of_bytes r.pieces) values index ended r.same;
      lists = ap (cells_in type) p ∙ (ap (λ (b : Bool). if b then variable_in offsets bytes else None) v ∙ cut);
    }

-- ---- bytes

as_said : (ds : Items) → byte_list ds ≡ said byte_in ds
as_said no_items = refl
as_said (item d ds) = ap (λ (o : Option (List ℕ)). option_and_then (λ b. option_map (λ bs. b ∷ bs) o) (byte_in d)) (as_said ds)

pub bytes_begin : (old new : List ℕ) (all : Items) → new ≡ old → (more : List ℕ) × (new ≡ old ++ more) × AreRead byte_in more all all
bytes_begin old new all same = ([], same ∙ sym (append-nil old), none_read byte_in [] all refl)

abbrev pub BytesRead : List ℕ → List ℕ → Items → Items → Type 0
BytesRead old new rest all = (more : List ℕ) × (new ≡ old ++ more) × AreRead byte_in more rest all

pub byte_read : (old now new : List ℕ) (byte : ℕ) (values : List Value) (index : ℕ) (value : Value) → Some byte ≡ byte_in (view value) → new ≡ now ++ byte ∷ [] → index < length values → value ≡ get_or values index value
    → BytesRead old now (items_view (drop index values)) (items_view values) → BytesRead old new (items_view (drop (index + 1) values)) (items_view values)
byte_read old now new byte values index value says grew less is r =
    (r.0 ++ byte ∷ [], grew ∙ (ap (λ ns. ns ++ byte ∷ []) r.1 ∙ append_assoc old r.0 (byte ∷ [])), value_read byte_in r.0 (r.0 ++ byte ∷ []) byte values index value (sym says) refl less is r.2)

pub byte_not_read : (old now : List ℕ) (values : List Value) (index : ℕ) (value : Value) → None ≡ byte_in (view value) → index < length values → value ≡ get_or values index value → BytesRead old now (items_view (drop index values)) (items_view values)
    → byte_list (items_view values) ≡ None
byte_not_read old now values index value none less is r = as_said (items_view values) ∙ value_not_read byte_in r.0 values index value (sym none) less is r.2

pub bytes_read : (old new : List ℕ) (values : List Value) (index : ℕ) → length values ≤ index → BytesRead old new (items_view (drop index values)) (items_view values) → AppendsBytes (items_view values) old new true
bytes_read old new values index ended r = (r.0, as_said (items_view values) ∙ values_read byte_in r.0 values index ended r.2, r.1)

pub bytes_appended : (items : Items) (old new : List ℕ) (b : Bool) → AppendsBytes items old new b → b ≡ true → AppendsBytes items old new true
bytes_appended items old new b h is = subst (AppendsBytes items old new) is h

-- ---- elements of optional types

absent_said : (inner : DataType) (o : Option (Option Data)) → option_and_then (some_cell (optional_of inner)) o ≡ option_and_then (λ cell. option_and_then (masked cell) (option_map mark_of (option_and_then next_inside o))) (option_and_then (some_cell inner) (option_and_then next_inside o))
absent_said inner None = refl
absent_said inner (Some None) = refl
absent_said inner (Some (Some d)) = at_option (option_in d) where
  at_cell : (o : Option Cell) → option_map present o ≡ option_and_then (λ cell. Some (present cell)) o
  at_cell None = refl
  at_cell (Some cell) = refl

  at_option : (o : Option (Option Data)) → option_and_then (option_cell (element_in inner)) o ≡ option_and_then (λ cell. option_and_then (masked cell) (option_map mark_of o)) (option_and_then (some_cell inner) o)
  at_option None = refl
  at_option (Some None) = refl
  at_option (Some (Some v)) = at_cell (element_in inner v)

abbrev none_list : Option (List Cell)
none_list = None

no_masked : {X : Type 0} (o : Option X) → none_list ≡ option_and_then (λ x. none_list) o
no_masked None = refl
no_masked (Some x) = refl

-- one element, and those after it
masked_step : (first : Option Cell) (mark : Option ℕ) (cells : Option (List Cell)) (marks : Option (List ℕ))
    → option_and_then (λ c. option_map (λ cs. c ∷ cs) (option_and_then (λ cs. option_and_then (masked_in cs) marks) cells)) (option_and_then (λ cell. option_and_then (masked cell) mark) first)
    ≡ option_and_then (λ cs. option_and_then (masked_in cs) (option_and_then (λ m. option_map (λ ms. m ∷ ms) marks) mark)) (option_and_then (λ c. option_map (λ cs. c ∷ cs) cells) first)
masked_step None mark cells marks = refl
masked_step (Some c) None None marks = refl
masked_step (Some c) None (Some cs) marks = refl
masked_step (Some c) (Some m) None marks = sym (no_masked (masked c m))
masked_step (Some c) (Some m) (Some cs) None = sym (no_masked (masked c m))
masked_step (Some c) (Some m) (Some cs) (Some ms) = refl

pub optional_said : (inner : DataType) (levels : ℕ) (ds : Items)
    → said (cell_inside (optional_of inner) levels) ds ≡ option_and_then (λ cells. option_and_then (masked_in cells) (said (mark_inside (suc levels)) ds)) (said (cell_inside inner (suc levels)) ds)
optional_said inner levels no_items = refl
optional_said inner levels (item d ds) =
    ap (λ (o : Option (List Cell)). option_and_then (λ c. option_map (λ cs. c ∷ cs) o) (cell_inside (optional_of inner) levels d)) (optional_said inner levels ds)
    ∙ (ap (λ (o : Option Cell). option_and_then (λ c. option_map (λ cs. c ∷ cs) (option_and_then (λ cells. option_and_then (masked_in cells) (said (mark_inside (suc levels)) ds)) (said (cell_inside inner (suc levels)) ds))) o) (absent_said inner (inside levels d))
    ∙ masked_step (cell_inside inner (suc levels) d) (mark_inside (suc levels) d) (said (cell_inside inner (suc levels)) ds) (said (mark_inside (suc levels)) ds))

deeper_is : (levels deeper : ℕ) → deeper ≡ levels + 1 → deeper ≡ suc levels
deeper_is levels deeper h = omega arith

pub not_marked : (inner : DataType) (levels deeper : ℕ) (ds : Items) → deeper ≡ levels + 1 → None ≡ said (mark_inside deeper) ds → said (cell_inside (optional_of inner) levels) ds ≡ None
not_marked inner levels deeper ds h none =
    let k = deeper_is levels deeper h in
    optional_said inner levels ds
    ∙ (ap (λ (o : Option (List ℕ)). option_and_then (λ cells. option_and_then (masked_in cells) o) (said (cell_inside inner (suc levels)) ds)) (sym (none ∙ ap (λ n. said (mark_inside n) ds) k)) ∙ sym (no_masked (said (cell_inside inner (suc levels)) ds)))

pub none_inside : (inner : DataType) (levels deeper : ℕ) (ds : Items) → deeper ≡ levels + 1 → said (cell_inside inner deeper) ds ≡ None → said (cell_inside (optional_of inner) levels) ds ≡ None
none_inside inner levels deeper ds h none =
    let k = deeper_is levels deeper h in
    optional_said inner levels ds ∙ ap (option_and_then (λ cells. option_and_then (masked_in cells) (said (mark_inside (suc levels)) ds))) (sym (ap (λ n. said (cell_inside inner n) ds) k) ∙ none)

marked : (x : Cell) (o : Option Data) → (cell : Cell) × (masked x (mark_of o) ≡ Some cell)
marked x None = (absent, refl)
marked x (Some d) = (present x, refl)

masked_all : (f : Data → Option Cell) (levels : ℕ) (ds : Items) (xs : List Cell) (ms : List ℕ) → said f ds ≡ Some xs → said (mark_inside levels) ds ≡ Some ms → (all : List Cell) × (masked_in xs ms ≡ Some all)
masked_all f levels no_items xs ms h k = ([], ap (λ zs. masked_in zs ms) (sym (some_same h)) ∙ ap (masked_in []) (sym (some_same k)))
masked_all f levels (item d ds) xs ms h k =
    let one = bind_some (λ x. option_map (λ xs. x ∷ xs) (said f ds)) (f d) xs h in
    let rest = map_some (λ more. one.0 ∷ more) (said f ds) xs one.2 in
    let mark = bind_some (λ m. option_map (λ ms. m ∷ ms) (said (mark_inside levels) ds)) (mark_inside levels d) ms k in
    let marks = map_some (λ more. mark.0 ∷ more) (said (mark_inside levels) ds) ms mark.2 in
    let is = map_some mark_of (inside levels d) mark.0 mark.1 in
    let tail = masked_all f levels ds rest.0 marks.0 rest.1 marks.1 in
    let first = marked one.0 is.0 in (
      first.0 ∷ tail.0,
      ap (λ zs. masked_in zs ms) (sym rest.2)
          ∙ (ap (masked_in (one.0 ∷ rest.0)) (sym marks.2)
          ∙ (ap (λ (o : Option Cell). option_and_then (λ first. option_map (λ others. first ∷ others) (masked_in rest.0 marks.0)) o) (ap (masked one.0) (sym is.2) ∙ first.1)
          ∙ ap (λ (o : Option (List Cell)). option_map (λ others. first.0 ∷ others) o) tail.1)),
    )

pub optional_read : (inner : DataType) (levels deeper : ℕ) (ds : Items) (below payload : Payload) (mask : List ℕ) → deeper ≡ levels + 1 → payload ≡ optional below mask → Some mask ≡ said (mark_inside deeper) ds → AreInside inner deeper ds below
    → AreInside (optional_of inner) levels ds payload
optional_read inner levels deeper ds below payload mask h p marks r =
    let k = deeper_is levels deeper h in
    let all = masked_all (cell_inside inner deeper) deeper ds r.cells mask r.are (sym marks) in record {
      cells = all.0;
      are =
          optional_said inner levels ds
          ∙ (ap (λ n. option_and_then (λ cells. option_and_then (masked_in cells) (said (mark_inside n) ds)) (said (cell_inside inner n) ds)) (sym k)
          ∙ (ap (option_and_then (λ cells. option_and_then (masked_in cells) (said (mark_inside deeper) ds))) r.are
          ∙ (ap (option_and_then (masked_in r.cells)) (sym marks) ∙ all.1)));
      lists = ap (cells_in (optional_of inner)) p ∙ (ap (option_and_then (λ cells. masked_in cells mask)) r.lists ∙ all.1);
    }

-- ---- elements that are not inside of another type's

as_inside : (type : DataType) (ds : Items) → elements_in type ds ≡ said (cell_inside type 0) ds
as_inside type no_items = refl
as_inside type (item d ds) = ap (λ (o : Option (List Cell)). option_and_then (λ cell. option_map (λ cells. cell ∷ cells) o) (element_in type d)) (as_inside type ds)

pub given_alone : (type : DataType) (ds : Items) (payload : Payload) → AreInside type 0 ds payload → AreGiven type ds payload
given_alone type ds payload r = record { cells = r.cells; said = as_inside type ds ∙ r.are; lists = r.lists }

pub none_alone : (type : DataType) (ds : Items) → said (cell_inside type 0) ds ≡ None → elements_in type ds ≡ None
none_alone type ds none = as_inside type ds ∙ none

-- ---- one value

pub zero_digits : (count : ℕ) → digits 256 count 0 ≡ replicate count 0
zero_digits zero = refl
zero_digits (suc count) = ap (λ ns. 0 ∷ ns) (zero_digits count)

pub zero_inside : (sign : Sign) (width levels : ℕ) (d : Data) → Some None ≡ inside levels d → Some (of_bytes (digits 256 ((width + 7) / 8) 0)) ≡ cell_inside (integer sign width) levels d
zero_inside sign width levels d h = ap (λ ns. Some (of_bytes ns)) (zero_digits ((width + 7) / 8)) ∙ ap (option_and_then (some_cell (integer sign width))) h

pub integer_reaches : (sign : Sign) (width : ℕ) (d : Data) (o : Option ℤ) → o ≡ integer_in sign width d → IfSome o (Reaches ((width + 7) / 8))
integer_reaches sign width d None h = tt
integer_reaches sign width d (Some z) h = in_reaches sign width d z (sym h)

pub flag_byte : (flag : Bool) → bool_byte flag ≡ (if flag then 1 else 0)
flag_byte true = refl
flag_byte false = refl

pub says_flag : (levels : ℕ) (d : Data) (flag : Bool) → Some (of_bytes (bool_bytes flag)) ≡ cell_inside bool levels d → cell_inside bool levels d ≡ Some (of_bytes (bool_byte flag ∷ []))
says_flag levels d flag h = sym h ∙ ap (λ n. Some (of_bytes (n ∷ []))) (sym (flag_byte flag))

pub length-integer_bytes : (count : ℕ) (z : ℤ) → length (integer_bytes count z) ≡ count
length-integer_bytes count (pos n) = length-digits 256 count n
length-integer_bytes count (negsuc n) = length-digits 256 count (256 ^ count - suc n)

-- no value says an element of a caller's type
absent_custom : (parts : List Component) (o : Option (Option Data)) → true ≡ is_absent o → option_and_then (some_cell (custom parts)) o ≡ Some (of_bytes (replicate (bytes_in parts) 0))
absent_custom parts None h = cc
absent_custom parts (Some None) h = refl
absent_custom parts (Some (Some d)) h = cc

present_custom : (parts : List Component) (o : Option (Option Data)) → false ≡ is_absent o → option_and_then (some_cell (custom parts)) o ≡ None
present_custom parts None h = refl
present_custom parts (Some None) h = cc
present_custom parts (Some (Some d)) h = refl

pub custom_width : (type : DataType) (parts : List Component) (width : ℕ) → type ≡ custom parts → byte_width type ≡ Some width → bytes_in parts ≡ width
custom_width type parts width t h = some_same (sym (ap byte_width t) ∙ h)

pub zero_read : (parts : List Component) (levels width : ℕ) (bytes new element : List ℕ) (values : List Value) (index : ℕ) (value : Value) → 0 < width → bytes_in parts ≡ width → element ≡ replicate width 0 → true ≡ is_absent (inside levels (view value))
    → index < length values → value ≡ get_or values index value → new ≡ bytes ++ element → FixedRead (cell_inside (custom parts) levels) width bytes (items_view (drop index values)) (items_view values)
    → FixedRead (cell_inside (custom parts) levels) width new (items_view (drop (index + 1) values)) (items_view values)
zero_read parts levels width bytes new element values index value h wide zeros absent_ less is grew r =
    let says : cell_inside (custom parts) levels (view value) ≡ Some (of_bytes element) = absent_custom parts (inside levels (view value)) absent_ ∙ ap (λ ns. Some (of_bytes ns)) (ap (λ n. replicate n 0) wide ∙ sym zeros) in
    fixed_read (cell_inside (custom parts) levels) width bytes new element values index value h (ap length zeros ∙ length-replicate width 0) says less is grew r

pub zero_not_read : (parts : List Component) (levels width : ℕ) (bytes : List ℕ) (values : List Value) (index : ℕ) (value : Value) → false ≡ is_absent (inside levels (view value)) → index < length values → value ≡ get_or values index value
    → FixedRead (cell_inside (custom parts) levels) width bytes (items_view (drop index values)) (items_view values) → said (cell_inside (custom parts) levels) (items_view values) ≡ None
zero_not_read parts levels width bytes values index value present_ less is r = value_not_read (cell_inside (custom parts) levels) (fixed_cells width bytes) values index value (present_custom parts (inside levels (view value)) present_) less is r.same
