use Rattle.std.proofs.Common.{◌≡◌, ◌∙◌, List, map, sym, ap}
use Rattle.std.proofs.lemmas.Bool.{false≢true}
use Rattle.std.proofs.lemmas.Simd.{map-map}
use Rattle.zarr_codecs_arrays.specs.Views.{elements_of}
use Rattle.zarr_codecs_meaning.specs.Types.{Cell, Component, Elements, components, custom, is_value}
use Rattle.zarr_codecs_types.specs.Views.{component_of, fill_of}
use Rattle.zarr_array_core.specs.ChunkValues.{plain_component, plain_type}
use Rattle.zarr_array_core.proofs.PlainBytes.{value_plain}
use Rattle.zarr_array_core.proofs.plain_bytes.as_plain_bytes.Goals as goal

pub returns : goal.returns
returns c =
    let type = (elements_of c.args.elements.now).type in
    let are : map component_of c.in_ok-plain.plain.items ≡ map plain_component (components type) =
    c.in_ok-plain.ensures ∙ (ap (map (λ part. plain_component (component_of part))) c.as_slice.ensures.value
    ∙ (sym (map-map plain_component component_of c.in_ok-parts.parts.items) ∙ ap (map plain_component) (c.in_ok-parts.ensures ∙ ap components c.data_type.ensures))) in
    c.in-Some.ensures.some ∙ (ap (λ (parts : List Component). let made : Elements = record { type = custom parts; fill = fill_of c.in_ok-fill_value.fill_value } in made) are
    ∙ ap (λ (fill : Cell). let made : Elements = record { type = plain_type type; fill = fill } in made) (c.in_ok-fill_value.ensures ∙ c.fill_value.ensures))

pub unreachable-requires : goal.unreachable-requires
unreachable-requires c =
    let elements = elements_of c.args.elements.now in
    let are : map component_of c.in_ok-plain.plain.items ≡ map plain_component (components elements.type) =
    c.in_ok-plain.ensures ∙ (ap (map (λ part. plain_component (component_of part))) c.as_slice.ensures.value
    ∙ (sym (map-map plain_component component_of c.in_ok-parts.parts.items) ∙ ap (map plain_component) (c.in_ok-parts.ensures ∙ ap components c.data_type.ensures))) in
    let fill : fill_of c.in_ok-fill_value.fill_value ≡ elements.fill = c.in_ok-fill_value.ensures ∙ c.fill_value.ensures in
    false≢true (sym c.in-None.ensures.none
    ∙ (ap (λ (parts : List Component). is_value (custom parts) (fill_of c.in_ok-fill_value.fill_value)) are
    ∙ (ap (is_value (plain_type elements.type)) fill ∙ value_plain elements.type elements.fill c.requires c.args.elements.now.fills)))
