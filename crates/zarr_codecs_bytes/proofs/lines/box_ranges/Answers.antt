use Rattle.std.proofs.Common.{◌≡◌, ◌∙◌, ◌+◌, ◌*◌, take, drop, ap, sym, subst, rules}
use Rattle.std.specs.List.{list_any, flat_map}
use Rattle.zarr_grids_boxes.specs.Boxes.{each2, product}
use Rattle.zarr_grids_boxes.specs.Cuts.{IsAtMost}
use Rattle.zarr_grids_boxes.specs.Subsets.{region_of}
use Rattle.zarr_codecs_traits.specs.Sources.{bytes_in_ranges}
use Rattle.zarr_codecs_bytes.specs.Lines.{ends_after}
use Rattle.zarr_codecs_bytes.specs.Parts.{part_width}
use Rattle.zarr_codecs_bytes.proofs.BoxElements.{box_has, no_numbers, part_found, part_inside}
use Rattle.zarr_codecs_bytes.proofs.lines.box_ranges.Goals as goal

pub returns-in_default : goal.returns-in_default
returns-in_default c =
    let part = c.args.part in
    let width = part_width part in
    let none : product part.region.now.shape.items ≡ 0 = c.in_default.ensures.none in
    let empty = no_numbers part.shape.now (region_of part.region.now) part.region.now.same none in
    record {
      size = c.requires.size;
      small = c.requires.small;
      within = ap (list_any (ends_after c.args.size)) c.new-ranges.ensures.items;
      are = λ value whole. box_has part value (bytes_in_ranges value c.new-ranges.result.items) c.requires.some (whole ∙ c.requires.size)
          (ap (bytes_in_ranges value) c.new-ranges.ensures.items ∙ sym (ap (flat_map (λ n. take width (drop (n * width) value))) empty));
    }

pub ranges_in-requires-clause-inside : goal.ranges_in-requires-clause-inside
ranges_in-requires-clause-inside c =
    let part = c.args.part in
    let start : part.region.now.start.items ≡ c.start.result.now = search rules in
    let shape : part.region.now.shape.items ≡ c.shape.result.now = search rules in
    subst (λ ss. IsAtMost (each2 (λ s e. s + e) ss c.shape.result.now) part.shape.now) start (subst (λ es. IsAtMost (each2 (λ s e. s + e) part.region.now.start.items es) part.shape.now) shape (part_inside part c.in-Some.ensures.some))

pub returns : goal.returns
returns c =
    let part = c.args.part in
    let start : c.start.result.now ≡ part.region.now.start.items = search rules in
    let shape : c.shape.result.now ≡ part.region.now.shape.items = search rules in
    part_found part c.ranges_in.result c.args.size c.in-Some.width c.start.result.now c.shape.result.now c.requires.some c.in-Some.ensures.width c.requires.size c.requires.small start shape c.ranges_in.ensures
