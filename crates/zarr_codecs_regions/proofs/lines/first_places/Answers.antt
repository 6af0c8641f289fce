use Rattle.std.proofs.Common.{◌≡◌, ◌∙◌, ℕ, List, length, ap, sym, subst, rules}
use Rattle.zarr_grids_boxes.specs.Boxes.{EndsFit}
use Rattle.zarr_codecs_regions.specs.BoxLines.{with_first_alone}
use Rattle.zarr_codecs_regions.proofs.BoxLines.{alone_fits, alone_length}
use Rattle.zarr_codecs_regions.proofs.lines.first_places.Goals as goal

pub invariant_of-result : goal.invariant_of-result
invariant_of-result c =
    let region = c.args.region.now in
    let start : c.in_ok-start.start.items ≡ region.start.items = search rules in
    let shape : c.with_first_alone-shape.result.items ≡ with_first_alone region.shape.items = search rules in
    record {
      same = ap length shape ∙ (alone_length region.shape.items ∙ (region.same ∙ ap length (sym start)));
      fit = subst (λ (ss : List ℕ). EndsFit ss c.with_first_alone-shape.result.items) (sym start) (subst (λ (es : List ℕ). EndsFit region.start.items es) (sym shape) (alone_fits region.start.items region.shape.items c.requires region.fit));
    }
