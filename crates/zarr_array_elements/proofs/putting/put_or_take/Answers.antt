use Rattle.std.proofs.Common.{◌∙◌, ℕ, List, ap, sym}
use Rattle.std.proofs.lemmas.Bool.{and_parts}
use Rattle.std.specs.Cmp.Lexicographic.{same_text}
use Rattle.zarr_grids_boxes.specs.Laid.{laid, overlaid}
use Rattle.zarr_grids_overlay.proofs.Overlays.{laid-overlaid_same}
use Rattle.zarr_array_elements.proofs.putting.put_or_take.Goals as goal

pub returns-then-eq : goal.returns-then-eq
returns-then-eq c = λ old new _ _ _ given.
    let from = c.args.from.now in
    let region = c.args.region.now in
    let same = and_parts _ _ (sym c.if-eq.ensures) in
    let put : List ℕ → List ℕ → List ℕ = laid (overlaid from.start.items from.shape.items new old) in
    given ∙ sym (laid-overlaid_same new old from.start.items from.shape.items from.same)
    ∙ ap (λ (start : List ℕ). put start from.shape.items) (same_text from.start.items region.start.items (sym same.0))
    ∙ ap (put region.start.items) (same_text from.shape.items region.shape.items (sym same.1))
