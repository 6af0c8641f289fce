use Rattle.std.proofs.Common.{◌≡◌, ◌∙◌, ◌*◌, ℕ, List, IfOk, replicate, ap, sym, rules}
use Rattle.std.proofs.lemmas.Bool.{and_parts}
use Rattle.std.proofs.lemmas.Result.{IfOk-weaker}
use Rattle.std.specs.Cmp.Lexicographic.{same_text}
use Rattle.zarr_grids_boxes.specs.Boxes.{product}
use Rattle.zarr_grids_boxes.specs.Laid.{laid, overlaid}
use Rattle.zarr_grids_boxes.specs.Subsets.{region_of}
use Rattle.zarr_grids_overlay.specs.Overlays.{IsOverlaid}
use Rattle.zarr_grids_overlay.proofs.Overlays.{laid-overlaid_same}
use Rattle.zarr_array_elements.proofs.cutting.take_fixed.Goals as goal

pub returns-then-eq : goal.returns-then-eq
returns-then-eq c =
    let bytes = c.args.bytes.now in
    let from = c.args.from.now in
    let wanted = c.args.wanted.now in
    let width = c.args.width in
    let same = and_parts _ _ (sym c.if-eq.ensures) in
    let copied : IfOk c.to_vec.result (λ made. made.items ≡ bytes) = search rules in
    IfOk-weaker c.to_vec.result (λ made. made.items ≡ bytes)
    (λ made. IsOverlaid width (region_of wanted) (region_of from) (replicate (product wanted.shape.items * width) 0) bytes made.items)
    (λ made is old new _ _ _ given.
    let put : List ℕ → List ℕ → List ℕ = laid (overlaid from.start.items from.shape.items new old) in
    is ∙ given ∙ sym (laid-overlaid_same new old from.start.items from.shape.items from.same)
    ∙ ap (λ (start : List ℕ). put start from.shape.items) (same_text from.start.items wanted.start.items (sym same.0))
    ∙ ap (put wanted.start.items) (same_text from.shape.items wanted.shape.items (sym same.1)))
    copied
