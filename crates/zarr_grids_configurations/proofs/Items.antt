-- Items of a configuration in JSON.
use Rattle.std.proofs.Common.{◌≡◌, ℕ, zero, suc, ◌*◌, ◌<◌, ◌≤◌, ◌≢◌, List, [], ◌∷◌, length, true, false, nat_lt, get_or, Option, None, option_map, option_and_then, ap, sym, ◌∙◌, refl, arith}
use Rattle.std.proofs.lemmas.Bool.{lt-ltb, and_right, and_from}
use Rattle.serde_json.specs.Data.{no_items, item}
use Rattle.serde_json.specs.View.{view, items_view}
use Rattle.serde_json.specs.declared.value.Value.{Value}
use Rattle.zarr_grids_boxes.specs.Boxes.{product}
use Rattle.zarr_grids_dimensions.specs.Lookups.{all_positive}
use Rattle.zarr_grids_configurations.specs.Configurations.{pair_of}
use Rattle.zarr_grids_configurations.specs.Numbers.{size_in}

-- a list without exactly two items is no pair
pub no_pair : (items : List Value) → length items ≢ 2 → pair_of (items_view items) ≡ None
no_pair [] h = refl
no_pair (a ∷ []) h = refl
no_pair (a ∷ b ∷ []) h = absurd (h refl)
no_pair (a ∷ b ∷ c ∷ items) h = refl

two_items : (items : List Value) (edge count : Value) → 2 ≤ length items → length items < 3 → edge ≡ get_or items 0 edge → count ≡ get_or items 1 count → items_view items ≡ item (view edge) (item (view count) no_items)
two_items [] edge count l h e n = absurd (omega arith)
two_items (a ∷ []) edge count l h e n = absurd (omega arith)
two_items (a ∷ b ∷ []) edge count l h e n = ap (λ v. item (view v) (item (view b) no_items)) (sym e) ∙ ap (λ v. item (view edge) (item (view v) no_items)) (sym n)
two_items (a ∷ b ∷ d ∷ items) edge count l h e n = absurd (omega arith)

-- a list of exactly two items says what they say
pub pair : (items : List Value) (edge count : Value) (e n : Option ℕ) → 2 ≤ length items → length items < 3 → edge ≡ get_or items 0 edge → count ≡ get_or items 1 count → e ≡ size_in (view edge) → n ≡ size_in (view count)
    → option_and_then (λ i. option_map (λ j. record { edge = i; count = j }) n) e ≡ pair_of (items_view items)
pair items edge count e n l h at_0 at_1 says_edge says_count =
    ap (λ o. option_and_then (λ i. option_map (λ j. record { edge = i; count = j }) n) o) says_edge
    ∙ (ap (λ o. option_and_then (λ i. option_map (λ j. record { edge = i; count = j }) o) (size_in (view edge))) says_count
    ∙ sym (ap pair_of (two_items items edge count l h at_0 at_1)))

-- edges with a positive product are positive
pub positive_edges : (es : List ℕ) → 0 < product es → all_positive es ≡ true
positive_edges [] h = refl
positive_edges (zero ∷ es) h = absurd (omega arith)
positive_edges (suc e ∷ es) h = let p : 0 < product es = elim (product es) as (λ n. 0 < suc e * n → 0 < n) [ zero ↦ λ g. absurd (omega arith) | suc n ↦ λ g. omega arith ] h in
    and_from (nat_lt 0 (suc e)) (all_positive es) (lt-ltb 0 (suc e) (omega arith)) (positive_edges es p)

-- edges whose product is 0 are not
pub zero_edge : (es : List ℕ) → product es ≡ 0 → all_positive es ≡ false
zero_edge [] h = absurd (omega arith)
zero_edge (zero ∷ es) h = refl
zero_edge (suc e ∷ es) h = let p : product es ≡ 0 = omega arith in and_right (nat_lt 0 (suc e)) (all_positive es) (zero_edge es p)
