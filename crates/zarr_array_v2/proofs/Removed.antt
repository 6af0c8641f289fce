-- The entries of a map without that of one name, beside the members that they stand for.
use Rattle.std.proofs.Common.{◌≡◌, ℕ, List, [], ◌∷◌, Bool, true, false, bytes_eq, cond, if◌then◌else◌, Option, Some, None, String, Global, string_bytes, nat_cmp, refl, sym, ap, ◌∙◌}
use Rattle.std.proofs.lemmas.Map.Text.{is_eq-slice_cmp}
use Rattle.std.specs.BTreeMap.{is_at}
use Rattle.std.specs.Cmp.Lexicographic.{slice_cmp}
use Rattle.std.specs.Map.{lookup, remove_entry}
use Rattle.serde_json.specs.Data.{member}
use Rattle.serde_json.specs.View.{view, members_view}
use Rattle.serde_json.specs.declared.value.Value.{Value}
use Rattle.serde_json.proofs.Views.{Entry}
use Rattle.zarr_array_v2.specs.Attributes.{without}

abbrev has_name : List ℕ → String Global → Bool
has_name name = is_at (λ k. slice_cmp nat_cmp name (string_bytes k))

first_at : (b : Bool) (name : List ℕ) (e : Entry) (es rest : List Entry) → bytes_eq name (string_bytes e.0) ≡ b → without name (members_view rest) ≡ without name (members_view es)
    → without name (members_view (cond b es (e ∷ rest))) ≡ (if b then without name (members_view es) else member (string_bytes e.0) (view e.1) (without name (members_view es)))
first_at true name e es rest is same = refl
first_at false name e es rest is same = rw is (ap (member (string_bytes e.0) (view e.1)) same)

-- the first entry of a name that goes makes no difference where all go
first : (name : List ℕ) (es : List Entry) → without name (members_view (remove_entry (has_name name) es)) ≡ without name (members_view es)
first name [] = refl
first name (e ∷ es) = rw (is_eq-slice_cmp name (string_bytes e.0)) (first_at (bytes_eq name (string_bytes e.0)) name e es _ refl (first name es))

absent_at : (b : Bool) (name : List ℕ) (e : Entry) (es : List Entry) (o : Option Value) → cond b (Some e.1) o ≡ None → (o ≡ None → without name (members_view es) ≡ members_view es)
    → (if b then without name (members_view es) else member (string_bytes e.0) (view e.1) (without name (members_view es))) ≡ member (string_bytes e.0) (view e.1) (members_view es)
absent_at true name e es o is same = absurd (cc)
absent_at false name e es o is same = ap (member (string_bytes e.0) (view e.1)) (same is)

-- where no entry has the name, none goes
absent : (name : List ℕ) (es : List Entry) → lookup (has_name name) es ≡ None → without name (members_view es) ≡ members_view es
absent name [] is = refl
absent name (e ∷ es) is = absent_at (bytes_eq name (string_bytes e.0)) name e es (lookup (has_name name) es) (ap (λ b. cond b (Some e.1) (lookup (has_name name) es)) (sym (is_eq-slice_cmp name (string_bytes e.0))) ∙ is) (absent name es)

-- the entries that are left when one is removed, and none of the name is left
pub removed : (name : List ℕ) (es fs : List Entry) → fs ≡ remove_entry (has_name name) es → lookup (has_name name) fs ≡ None → members_view fs ≡ without name (members_view es)
removed name es fs is none = sym (absent name fs none) ∙ ap (λ l. without name (members_view l)) is ∙ first name es
