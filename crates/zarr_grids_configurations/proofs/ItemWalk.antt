-- Lists of JSON read item by item.
use Rattle.std.proofs.Common.{◌≡◌, ℕ, ◌+◌, ◌<◌, ◌≤◌, List, [], ◌∷◌, ◌++◌, length, drop, get_or, Option, Some, None, option_map, option_and_then, append_assoc, append-nil, refl, ap, sym, ◌∙◌}
use Rattle.std.proofs.lemmas.List.{drop_more, drop_all}
use Rattle.serde_json.specs.Data.{Data, Items, no_items, item}
use Rattle.serde_json.specs.View.{view, items_view}
use Rattle.serde_json.specs.declared.value.Value.{Value}

-- a list says what each of its items says, where each says something
abbrev pub OfEach : {A : Type 0} → (Data → Option A) → (Items → Option (List A)) → Type 0
OfEach of_item of_items = (d : Data) (ds : Items) → of_items (item d ds) ≡ option_and_then (λ x. option_map (λ xs. x ∷ xs) (of_items ds)) (of_item d)

-- a list says what its first items said, and then what those from an index on say
abbrev pub SaidSoFar : {A : Type 0} → (Items → Option (List A)) → List Value → ℕ → List A → Type 0
SaidSoFar of_items values index said = of_items (items_view values) ≡ option_map (λ xs. said ++ xs) (of_items (items_view (drop index values)))

next_value : (values : List Value) (index : ℕ) (value : Value) → index < length values → value ≡ get_or values index value → items_view (drop index values) ≡ item (view value) (items_view (drop (index + 1) values))
next_value values index value h is = ap items_view (drop_more values index value h) ∙ ap (λ v. item (view v) (items_view (drop (index + 1) values))) (sym is)

moved : {A : Type 0} (x : A) (before : List A) (o : Option (List A)) → option_map (λ xs. before ++ xs) (option_map (λ xs. x ∷ xs) o) ≡ option_map (λ xs. (before ++ x ∷ []) ++ xs) o
moved x before None = refl
moved x before (Some xs) = ap Some (sym (append_assoc before (x ∷ []) xs))

-- at an item, the list says what so far was said, and then what the item and those after it say
at_item : {A : Type 0} (of_item : Data → Option A) (of_items : Items → Option (List A)) → OfEach of_item of_items → (values : List Value) (index : ℕ) (value : Value) (said : List A) (o : Option A) → index < length values → value ≡ get_or values index value
    → of_item (view value) ≡ o → SaidSoFar of_items values index said → of_items (items_view values) ≡ option_map (λ xs. said ++ xs) (option_and_then (λ x. option_map (λ xs. x ∷ xs) (of_items (items_view (drop (index + 1) values)))) o)
at_item of_item of_items each values index value said o h is says so_far =
    so_far
    ∙ (ap (λ ds. option_map (λ xs. said ++ xs) (of_items ds)) (next_value values index value h is)
    ∙ (ap (option_map (λ xs. said ++ xs)) (each (view value) (items_view (drop (index + 1) values)))
    ∙ ap (λ p. option_map (λ xs. said ++ xs) (option_and_then (λ x. option_map (λ xs. x ∷ xs) (of_items (items_view (drop (index + 1) values)))) p)) says))

pub one_said : {A : Type 0} (of_item : Data → Option A) (of_items : Items → Option (List A)) → OfEach of_item of_items → (values : List Value) (index : ℕ) (value : Value) (x : A) (said now : List A) → index < length values → value ≡ get_or values index value
    → Some x ≡ of_item (view value) → now ≡ said ++ x ∷ [] → SaidSoFar of_items values index said → SaidSoFar of_items values (index + 1) now
one_said of_item of_items each values index value x said now h is says grew so_far =
    let rest = of_items (items_view (drop (index + 1) values)) in
    at_item of_item of_items each values index value said (Some x) h is (sym says) so_far ∙ (moved x said rest ∙ ap (λ ys. option_map (λ xs. ys ++ xs) rest) (sym grew))

pub none_said : {A : Type 0} (of_item : Data → Option A) (of_items : Items → Option (List A)) → OfEach of_item of_items → (values : List Value) (index : ℕ) (value : Value) (said : List A) → index < length values → value ≡ get_or values index value
    → None ≡ of_item (view value) → SaidSoFar of_items values index said → None ≡ of_items (items_view values)
none_said of_item of_items each values index value said h is says so_far = sym (at_item of_item of_items each values index value said None h is (sym says) so_far)

pub all_said : {A : Type 0} (of_items : Items → Option (List A)) → of_items no_items ≡ Some [] → (values : List Value) (index : ℕ) (said : List A) → length values ≤ index → SaidSoFar of_items values index said → Some said ≡ of_items (items_view values)
all_said of_items none values index said h so_far =
    sym (so_far
    ∙ (ap (λ vs. option_map (λ xs. said ++ xs) (of_items (items_view vs))) (drop_all index values h)
    ∙ (ap (option_map (λ xs. said ++ xs)) none ∙ ap Some (append-nil said))))
