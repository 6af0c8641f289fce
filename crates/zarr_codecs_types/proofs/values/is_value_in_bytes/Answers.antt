use Rattle.std.proofs.Common.{ap, sym, ◌∙◌, rules}
use Rattle.std.specs.Option.{option_map}
use Rattle.zarr_codecs_types.specs.Views.{type_of, components_of, component_of}
use Rattle.zarr_codecs_types.specs.Parts.{are_components_of}
use Rattle.zarr_codecs_meaning.specs.Types.{is_value_in_bytes}
use Rattle.zarr_codecs_types.proofs.ValueLemmas as lemma
use Rattle.zarr_codecs_types.proofs.values.is_value_in_bytes.Goals as goal

pub returns-in-Custom : goal.returns-in-Custom
returns-in-Custom c =
    c.are_components.ensures ∙ (ap (λ parts. are_components_of (components_of parts) c.args.bytes.now) c.as_slice.ensures.value
    ∙ (lemma.custom_value (components_of c.in-Custom.parts.items) c.args.bytes.now c.type_inv.bytes ∙ ap (λ t. is_value_in_bytes (type_of t) c.args.bytes.now) (sym c.in-Custom.is)))

pub returns-in-Some : goal.returns-in-Some
returns-in-Some c =
    c.are_components-in-Some.ensures
    ∙ lemma.single_value (type_of c.args.data_type.now) (component_of c.in-Some.component) c.args.bytes.now (ap (option_map component_of) (sym c.in-Some.is) ∙ c.single_component.ensures) c.type_inv.bytes

pub returns-in-String : goal.returns-in-String
returns-in-String c = lemma.variable_value (type_of c.args.data_type.now) c.args.bytes.now (search rules) (search rules) c.type_inv.bytes

pub returns-in-String-2 : goal.returns-in-String-2
returns-in-String-2 c = lemma.variable_value (type_of c.args.data_type.now) c.args.bytes.now (search rules) (search rules) c.type_inv.bytes
