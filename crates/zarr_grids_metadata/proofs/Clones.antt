-- The members of a map that was cloned.
use Rattle.std.proofs.Common.{◌≡◌, List, [], ◌∷◌, string_bytes, refl, ap, ◌∙◌}
use Rattle.std.specs.List.{AllZip}
use Rattle.serde_json.specs.Data.{member}
use Rattle.serde_json.specs.View.{view, members_view}
use Rattle.serde_json.proofs.Views.{Entry}

-- clones, entry by entry, have the same members
pub members_view-clone : (es fs : List Entry) → AllZip (λ e f. (string_bytes f.0 ≡ string_bytes e.0) × (view f.1 ≡ view e.1)) es fs → members_view fs ≡ members_view es
members_view-clone [] [] h = refl
members_view-clone [] (f ∷ fs) h = absurd h
members_view-clone (e ∷ es) [] h = absurd h
members_view-clone (e ∷ es) (f ∷ fs) h =
    ap (λ k. member k (view f.1) (members_view fs)) h.0.0 ∙ ap (λ d. member (string_bytes e.0) d (members_view fs)) h.0.1 ∙ ap (member (string_bytes e.0) (view e.1)) (members_view-clone es fs h.1)
