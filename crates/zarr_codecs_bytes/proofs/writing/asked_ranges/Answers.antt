use Rattle.std.proofs.Common.{◌≡◌, ◌∙◌, ap, option_and_then, subst, sym, true}
use Rattle.zarr_grids_boxes.specs.Boxes.{product}
use Rattle.zarr_codecs_meaning.specs.Types.{byte_width, bytes_in, components}
use Rattle.zarr_codecs_types.specs.Parts.{word_sized}
use Rattle.zarr_codecs_arrays.specs.Views.{elements_of}
use Rattle.zarr_codecs_traits.specs.Indexers.{are_inside, asked_of, numbers_asked}
use Rattle.zarr_codecs_bytes.specs.Writing.{AreRangesOf}
use Rattle.zarr_codecs_bytes.proofs.AskedRanges.{box_ranges_of, no_ranges_of}
use Rattle.zarr_codecs_bytes.proofs.PartBytes.{numbers_end}
use Rattle.zarr_codecs_bytes.proofs.PartDecoding.{fixed_width}
use Rattle.zarr_codecs_bytes.proofs.writing.asked_ranges.Goals as goal

pub number_ranges-requires : goal.number_ranges-requires
number_ranges-requires c =
    let type = (elements_of c.args.part.elements.now).type in
    let shape = c.args.part.shape.now in
    let same = fixed_width type c.in-Some.width c.requires.fixed (c.in-Some.ensures ∙ ap (λ t. option_and_then word_sized (byte_width t)) c.data_type.ensures) in
    let inside = subst (λ i. are_inside shape (asked_of i) ≡ true) c.in-List.is c.requires.inside in
    numbers_end (record { width = c.in-Some.width; line = c.in-Some.width; value = c.args.size }) (bytes_in (components type)) (product shape) c.in-List.numbers.now same same c.requires.size inside

pub returns-in_ok-box_ranges-in-Subset : goal.returns-in_ok-box_ranges-in-Subset
returns-in_ok-box_ranges-in-Subset c =
    let found = c.in_ok-box_ranges-in-Subset.field-0 in
    let width = bytes_in (components (elements_of c.args.part.elements.now).type) in
    subst (λ i. AreRangesOf width c.args.size (numbers_asked c.args.part.shape.now (asked_of i)) found.ranges.items) (sym c.in-Subset.is)
    (box_ranges_of _ found c.args.size c.requires.positive c.requires.size c.in_ok-box_ranges-in-Subset.ensures)

pub returns-in-None : goal.returns-in-None
returns-in-None c =
    let type = (elements_of c.args.part.elements.now).type in
    let shape = c.args.part.shape.now in
    let inside = subst (λ i. are_inside shape (asked_of i) ≡ true) c.in-List.is c.requires.inside in
    subst (λ i. AreRangesOf (bytes_in (components type)) c.args.size (numbers_asked shape (asked_of i)) c.new.result.items) (sym c.in-List.is)
    (no_ranges_of type shape c.in-List.numbers.now c.args.size c.new.result.items c.requires.fixed (c.in-None.ensures ∙ ap (λ t. option_and_then word_sized (byte_width t)) c.data_type.ensures) c.requires.size c.requires.small inside c.new.ensures.items)
