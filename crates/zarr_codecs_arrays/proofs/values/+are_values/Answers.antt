use Rattle.std.proofs.Common.{◌∙◌, sym, ap, ◌≡◌}
use Rattle.std.specs.List.{list_all}
use Rattle.zarr_codecs_meaning.specs.Types.{optional_of, is_value}
use Rattle.zarr_codecs_meaning.specs.Payloads.{optional}
use Rattle.zarr_codecs_types.specs.Views.{type_of}
use Rattle.zarr_codecs_arrays.specs.Views.{payload_of}
use Rattle.zarr_codecs_arrays.proofs.Masks.{masked_parts, values_above}
use Rattle.zarr_codecs_arrays.proofs.values.+are_values.Goals as goal

pub returns-then-are_values : goal.returns-then-are_values
returns-then-are_values t c cells is =
    let type = type_of c.deref-in-Optional-data_type.result.now in
    let inner = payload_of c.deref.result.now in
    let mask = c.in-Optional.mask.items in
    let t-eq : type_of c.args.data_type.now ≡ optional_of type = ap type_of c.in-Optional-data_type.is ∙ ap (λ x. optional_of (type_of x)) (sym c.deref-in-Optional-data_type.ensures) in
    let m = masked_parts (type_of c.args.data_type.now) type (payload_of c.args.elements.now) inner mask cells t-eq
    (ap payload_of c.in-Optional.is ∙ ap (λ x. optional (payload_of x) mask) (sym c.deref.ensures)) is in
    c.if-are_values.true
    ∙ sym (ap (λ x. list_all (is_value x) cells) t-eq ∙ values_above type m.below mask cells m.marked (sym (c.are_values.ensures m.below m.inside) ∙ c.if-are_values.true))
