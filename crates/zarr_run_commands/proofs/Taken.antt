-- Members after the value of one was taken.
use Rattle.std.proofs.Common.{◌≡◌, ℕ, List, [], ◌∷◌, Bool, true, false, true≢false, cond, Some, bytes_eq, nat_cmp, string_bytes, refl, sym, ap, ◌∙◌}
use Rattle.std.proofs.lemmas.Map.Text.{is_eq-slice_cmp}
use Rattle.std.proofs.lemmas.Slice.Eq.{bytes_eq-Decides}
use Rattle.std.specs.BTreeMap.{is_at}
use Rattle.std.specs.Cmp.Lexicographic.{slice_cmp}
use Rattle.std.specs.Map.{set_value}
use Rattle.std.specs.Ordering.{match_ordering}
use Rattle.serde_json.specs.Find.{get_member}
use Rattle.serde_json.specs.declared.value.Value.{Value}
use Rattle.serde_json.specs.View.{view, members_view}
use Rattle.serde_json.proofs.Views.{Entry, member_later}

-- the other names keep their values: the first entry, whose value may be another, and those after it
kept_at : (here : Bool) (name other : List ℕ) (e : Entry) (es rest : List Entry) (left : Value) → bytes_eq other name ≡ false → bytes_eq name (string_bytes e.0) ≡ here
    → get_member other (members_view rest) ≡ get_member other (members_view es)
    → get_member other (members_view (cond here ((e.0, left) ∷ es) (e ∷ rest))) ≡ get_member other (members_view (e ∷ es))
kept_at true name other e es rest left differ is later =
    let same = (bytes_eq-Decides name (string_bytes e.0)).0 is in
    let apart : other ≡ string_bytes e.0 → ⊥ = λ at_first. true≢false (sym ((bytes_eq-Decides other name).1 (at_first ∙ sym same)) ∙ differ) in
    member_later other (e.0, left) es apart ∙ sym (member_later other e es apart)
kept_at false name other e es rest left differ is later = ap (λ r. match_ordering (slice_cmp nat_cmp other (string_bytes e.0)) r (Some (view e.1)) r) later

-- after the member with a name got another value, the other names keep theirs
pub get_member-set_value : (name other : List ℕ) (es : List Entry) (left : Value) → bytes_eq other name ≡ false
    → get_member other (members_view (set_value (is_at (λ k. slice_cmp nat_cmp name (string_bytes k))) es left)) ≡ get_member other (members_view es)
get_member-set_value name other [] left differ = refl
get_member-set_value name other (e ∷ es) left differ =
    kept_at _ name other e es _ left differ (sym (is_eq-slice_cmp name (string_bytes e.0))) (get_member-set_value name other es left differ)
