use Rattle.std.proofs.Common.{◌∙◌, ◌^◌, ◌<◌, ap, length, rules, option_and_then}
use Rattle.zarr_codecs_types.specs.Parts.{word_sized}
use Rattle.zarr_codecs_meaning.specs.Types.{byte_width}
use Rattle.zarr_codecs_arrays.specs.Views.{elements_of}
use Rattle.zarr_codecs_bytes.specs.Parts.{listed_width}
use Rattle.zarr_codecs_bytes.proofs.ListedParts.{listed_by, nothing_listed}
use Rattle.zarr_codecs_bytes.proofs.PartDecoding.{fixed_width}
use Rattle.zarr_codecs_bytes.proofs.listed.extract.Goals as goal

pub returns-in-Some : goal.returns-in-Some
returns-in-Some c =
    let type = (elements_of c.args.part.elements.now).type in
    let same = fixed_width type c.in-Some.width c.requires.fixed (c.in-Some.ensures ∙ ap (λ t. option_and_then word_sized (byte_width t)) c.data_type.ensures) in
    listed_by c.extract_list.result c.in-Some.width (listed_width c.args.part) c.args.value.now c.args.part.numbers.now same c.extract_list.ensures.elements c.extract_list.ensures.length

pub returns-in-None : goal.returns-in-None
returns-in-None c =
    let type = (elements_of c.args.part.elements.now).type in
    let few : length c.args.value.now < 2 ^ 64 = search rules in
    nothing_listed type c.args.value.now c.args.part.shape.now c.args.part.numbers.now c.new.result.items c.requires.fixed (c.in-None.ensures ∙ ap (λ t. option_and_then word_sized (byte_width t)) c.data_type.ensures) c.requires.whole few c.args.part.inside
    c.new.ensures.items
