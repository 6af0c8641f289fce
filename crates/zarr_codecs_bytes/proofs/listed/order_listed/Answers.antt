use Rattle.std.proofs.Common.{◌∙◌, ap, refl, length, option_map, Err}
use Rattle.zarr_codecs_meaning.specs.Types.{components}
use Rattle.zarr_codecs_meaning.specs.Payloads.{fixed}
use Rattle.zarr_codecs_arrays.specs.Views.{elements_of}
use Rattle.zarr_codecs_traits.specs.Indexers.{listed}
use Rattle.zarr_codecs_bytes.specs.Orders.{all_ordered}
use Rattle.zarr_codecs_bytes.specs.Views.{order_of}
use Rattle.zarr_codecs_bytes.proofs.Decoding.{IsValid-at, Validates-at}
use Rattle.zarr_codecs_bytes.proofs.PartDecoding.{IsPartRead, nothing, part_valid, part_damaged}
use Rattle.zarr_codecs_bytes.proofs.listed.order_listed.Goals as goal

pub returns-in-Ok-validate-clause-part : goal.returns-in-Ok-validate-clause-part
returns-in-Ok-validate-clause-part c = λ value has.
    let order = option_map order_of c.args.codec.endian in
    let elements = elements_of c.args.part.elements.now in
    let numbers = c.args.part.numbers.now in
    let extracted = c.args.extracted.items in
    let made = c.in_ok-ordered.field-0.items in
    let read : IsPartRead order elements.type c.args.part.shape.now (listed numbers) (length numbers) value extracted made = record {
      fit = c.requires;
      positive = has.positive;
      whole = has.whole;
      inside = c.args.part.inside;
      long = has.are.long;
      elements = has.are.elements nothing;
      is = c.in_ok-ordered.ensures ∙ ap (λ t. all_ordered order (components t) extracted) c.data_type-data_type.ensures;
    } in
    let found = c.in-Ok-validate.ensures in
    part_valid order elements c.args.part.shape.now (listed numbers) (length numbers) value extracted made found.0 read (IsValid-at c.data_type-data_type.ensures refl found.1)

pub returns-in-Err-validate-clause-part : goal.returns-in-Err-validate-clause-part
returns-in-Err-validate-clause-part c = λ value has.
    let order = option_map order_of c.args.codec.endian in
    let elements = elements_of c.args.part.elements.now in
    let numbers = c.args.part.numbers.now in
    let extracted = c.args.extracted.items in
    let made = c.in_ok-ordered.field-0.items in
    let read : IsPartRead order elements.type c.args.part.shape.now (listed numbers) (length numbers) value extracted made = record {
      fit = c.requires;
      positive = has.positive;
      whole = has.whole;
      inside = c.args.part.inside;
      long = has.are.long;
      elements = has.are.elements nothing;
      is = c.in_ok-ordered.ensures ∙ ap (λ t. all_ordered order (components t) extracted) c.data_type-data_type.ensures;
    } in
    let e = c.in-Err-validate.field-0 in
    (c.requires, c.args.part.inside, part_damaged order elements c.args.part.shape.now (listed numbers) (length numbers) value extracted made e read (Validates-at (fixed made) (Err e) c.data_type-data_type.ensures refl c.in-Err-validate.ensures))
