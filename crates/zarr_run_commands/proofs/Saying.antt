-- What the value of a member says, and the boxes that are lists of pairs.
use Rattle.std.proofs.Common.{◌≡◌, ℕ, ◌-◌, ◌<◌, ◌≤◌, List, [], ◌∷◌, ◌++◌, length, Option, Some, None, option_map, option_and_then, refl, sym, ap, ◌∙◌, append_assoc, append-nil, arith}
use Rattle.json.specs.Token.{Token}
use Rattle.json.specs.Json as json
use Rattle.json.specs.Json.{Parse, parse_map, after_end_array, items, value}
use Rattle.json.proofs.Grammar.{value_is, value-begin_array, closed_array, items_end}
use Rattle.serde_json.specs.Data.{Data, array, number, string, unsigned, Items, no_items, item}
use Rattle.serde_json.specs.Read.{of_json, of_items, converted, number_of}
use Rattle.zarr_grids_boxes.specs.Boxes.{Region}
use Rattle.zarr_run_commands.specs.Lines.{Interval, interval_in, region_in, region_of_pairs, with_dimension}
use Rattle.zarr_run_commands.proofs.Pairs.{after}
use Rattle.zarr_run_commands.proofs.Turns.{converted_some, converted-array, item_read, items_over}

pub no_value : {A P : Type 0} (a : A) → None ≡ Some a → P
no_value a e = absurd (cc)

-- ---- what a value says

abbrev pub saying : {A : Type 0} → (Data → Option A) → Option (json.Json × List Token) → Option (A × List Token)
saying says o = converted (λ j. option_and_then says (of_json j)) o

pub said : {A : Type 0} (says : Data → Option A) (o : Option (json.Json × List Token)) (d : Data) (r : List Token) (a : A) → converted of_json o ≡ Some (d, r) → says d ≡ Some a → saying says o ≡ Some (a, r)
said says o d r a e is =
    let j = converted_some of_json o d r e in
    ap (saying says) j.1 ∙ (ap (λ x. option_map (λ b. (b, r)) (option_and_then says x)) j.2 ∙ ap (option_map (λ b. (b, r))) is)

then_some : {A B : Type 0} (f : A → Option B) (o : Option A) (b : B) → option_and_then f o ≡ Some b → (a : A) × (o ≡ Some a) × (f a ≡ Some b)
then_some f None b e = no_value b e
then_some f (Some a) b e = (a, refl, e)

pub unsaid : {A : Type 0} (says : Data → Option A) (o : Option (json.Json × List Token)) (a : A) (r : List Token) → saying says o ≡ Some (a, r) → (d : Data) × (converted of_json o ≡ Some (d, r)) × (says d ≡ Some a)
unsaid says o a r e =
    let j = converted_some (λ j. option_and_then says (of_json j)) o a r e in
    let d = then_some says (of_json j.0) a j.2 in
    (d.0, ap (converted of_json) j.1 ∙ ap (option_map (λ b. (b, r))) d.1, d.2)

-- ---- a value does not begin with the bracket that ends a list

going_on : (depth : ℕ) (ts : List Token) (p : Data × List Token) (o : Option (List Token)) → after_end_array ts ≡ o → converted of_json (value depth ts) ≡ Some p → o ≡ None
going_on depth ts p None is e = refl
going_on depth ts p (Some r) is e = no_value p (sym (ap (λ x. converted of_json (value depth x)) (closed_array ts r is) ∙ ap (converted of_json) (value_is depth (Token.end_array ∷ r))) ∙ e)

pub goes_on : (depth : ℕ) (ts : List Token) (p : Data × List Token) → converted of_json (value depth ts) ≡ Some p → after_end_array ts ≡ None
goes_on depth ts p e = going_on depth ts p (after_end_array ts) refl e

-- ---- values of one token

pub number_token : (depth : ℕ) (ts r : List Token) (text : List ℕ) (n : ℕ) → ts ≡ Token.number text ∷ r → number_of text ≡ Some (unsigned n) → converted of_json (value depth ts) ≡ Some (number (unsigned n), r)
number_token depth ts r text n is said = ap (λ x. converted of_json (value depth x)) is ∙ (ap (converted of_json) (value_is depth (Token.number text ∷ r)) ∙ ap (λ o. option_map (λ b. (b, r)) (option_map number o)) said)

pub string_token : (depth : ℕ) (ts r : List Token) (text : List ℕ) → ts ≡ Token.string text ∷ r → converted of_json (value depth ts) ≡ Some (string text, r)
string_token depth ts r text is = ap (λ x. converted of_json (value depth x)) is ∙ ap (converted of_json) (value_is depth (Token.string text ∷ r))

-- ---- intervals

pub interval_read : (ts ts0 ts1 ts2 r : List Token) (s e : ℕ) → ts ≡ Token.begin_array ∷ ts0
    → converted of_json (value 124 ts0) ≡ Some (number (unsigned s), ts1) → converted of_json (value 124 ts1) ≡ Some (number (unsigned e), ts2) → after_end_array ts2 ≡ Some r
    → length ts1 < length ts0 → length ts2 < length ts1 → saying interval_in (value 125 ts) ≡ Some ((s, e - s), r)
interval_read ts ts0 ts1 ts2 r s e is first second end less lesser =
    let p = value 124 in
    let n = length ts0 in
    let a = number (unsigned s) in
    let b = number (unsigned e) in
    let opened = ap (converted of_json) (ap (value 125) is ∙ value-begin_array 125 ts0 (omega arith)) ∙ converted-array (items p n ts0) in
    let one = item_read p n ts0 ts1 a (omega (arith, less)) (goes_on 124 ts0 _ first) first in
    let two = item_read p (n - 1) ts1 ts2 b (omega (arith, less, lesser)) (goes_on 124 ts1 _ second) second in
    let over = items_over p (n - 1 - 1) ts2 r (omega (arith, less, lesser)) end in
    let pair : converted of_json (value 125 ts) ≡ Some (array (item a (item b no_items)), r) = opened ∙ ap (parse_map array) (one ∙ ap (parse_map (item a)) (two ∙ ap (parse_map (item b)) over)) in
    said interval_in (value 125 ts) (array (item a (item b no_items))) r (s, e - s) pair refl

-- ---- boxes

abbrev pub regions : Option (json.Items × List Token) → Option (Region × List Token)
regions o = converted (λ js. option_and_then region_of_pairs (of_items js)) o

abbrev region_with_rest : Items × List Token → Option (Region × List Token)
region_with_rest q = option_map (λ region. (region, q.1)) (region_of_pairs q.0)

by_items_at : (r : List Token) (o : Option Items) → option_map {U = Region × List Token} (λ b. (b, r)) (option_and_then region_of_pairs o) ≡ option_and_then region_with_rest (option_map (λ b. (b, r)) o)
by_items_at r None = refl
by_items_at r (Some ds) = refl

by_items : (o : Option (json.Items × List Token)) → regions o ≡ option_and_then region_with_rest (converted of_items o)
by_items None = refl
by_items (Some q) = by_items_at q.1 (of_items q.0)

wider : (i : Interval) (r : List Token) (o : Option Region) → option_map {U = Region × List Token} (λ b. (b, r)) (option_map (with_dimension i) o) ≡ parse_map (with_dimension i) (option_map (λ b. (b, r)) o)
wider i r None = refl
wider i r (Some region) = refl

one_wider : (d : Data) (i : Interval) (o : Option (Items × List Token)) → interval_in d ≡ Some i → option_and_then region_with_rest (parse_map (item d) o) ≡ parse_map (with_dimension i) (option_and_then region_with_rest o)
one_wider d i None is = refl
one_wider d i (Some q) is =
    ap (λ x. option_map (λ region. (region, q.1)) (option_and_then (λ interval. option_map (with_dimension interval) (region_of_pairs q.0)) x)) is ∙ wider i q.1 (region_of_pairs q.0)

module _ (p : Parse json.Json) where
  pub region_read : (n : ℕ) (ts r : List Token) (i : Interval) → 0 < n → after_end_array ts ≡ None → saying interval_in (p ts) ≡ Some (i, r)
      → regions (items p n ts) ≡ parse_map (with_dimension i) (regions (items p (n - 1) r))
  region_read n ts r i some going e =
      let d = unsaid interval_in (p ts) i r e in
      by_items (items p n ts) ∙ (ap (option_and_then region_with_rest) (item_read p n ts r d.0 some going d.1)
      ∙ (one_wider d.0 i (converted of_items (items p (n - 1) r)) d.2 ∙ ap (parse_map (with_dimension i)) (sym (by_items (items p (n - 1) r)))))

pub one_more_interval : (start shape : List ℕ) (i : Interval) (o : Option (Region × List Token))
    → parse_map (after start shape) (parse_map (with_dimension i) o) ≡ parse_map (after (start ++ i.0 ∷ []) (shape ++ i.1 ∷ [])) o
one_more_interval start shape i None = refl
one_more_interval start shape i (Some q) = rw (append_assoc start (i.0 ∷ []) q.0.start, append_assoc shape (i.1 ∷ []) q.0.shape) refl

pub none_before_regions : (o : Option (Region × List Token)) → o ≡ parse_map (after [] []) o
none_before_regions None = refl
none_before_regions (Some q) = refl

pub regions_over : (p : Parse json.Json) (n : ℕ) (ts r : List Token) (start shape : List ℕ) → length ts ≤ n → after_end_array ts ≡ Some r
    → parse_map (after start shape) (regions (items p n ts)) ≡ Some (record { start = start; shape = shape }, r)
regions_over p n ts r start shape enough end =
    ap (λ o. parse_map (after start shape) (regions o)) (items_end p n ts r enough end) ∙ rw (append-nil start, append-nil shape) refl

listed_at : (r : List Token) (o : Option Items) → option_map {U = Region × List Token} (λ b. (b, r)) (option_and_then region_in (option_map array o)) ≡ option_map (λ b. (b, r)) (option_and_then region_of_pairs o)
listed_at r None = refl
listed_at r (Some ds) = refl

pub regions_listed : (o : Option (json.Items × List Token)) → saying region_in (parse_map json.array o) ≡ regions o
regions_listed None = refl
regions_listed (Some q) = listed_at q.1 (of_items q.0)
