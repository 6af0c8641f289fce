use Rattle.std.proofs.Common.{◌∙◌, ◌<◌, ◌^◌, ◌*◌, ap, inl, sym, subst, option_map, Some, Err, arith}
use Rattle.zarr_grids_boxes.specs.Boxes.{product}
use Rattle.zarr_grids_boxes.specs.Subsets.{region_of}
use Rattle.zarr_codecs_meaning.specs.Types.{components, bytes_in}
use Rattle.zarr_codecs_meaning.specs.Payloads.{fixed}
use Rattle.zarr_codecs_types.specs.Views.{type_of}
use Rattle.zarr_codecs_arrays.specs.Views.{elements_of}
use Rattle.zarr_codecs_traits.specs.Indexers.{in_box}
use Rattle.zarr_codecs_bytes.specs.Orders.{all_ordered}
use Rattle.zarr_codecs_bytes.specs.Parts.{part_width}
use Rattle.zarr_codecs_bytes.specs.Views.{order_of, bytes_chain}
use Rattle.zarr_codecs_bytes.proofs.Decoding.{IsValid-at, Validates-at}
use Rattle.zarr_codecs_regions.proofs.FillValues.{larger_too}
use Rattle.zarr_codecs_bytes.proofs.PartDecoding.{IsPartRead, nothing, at_least, uncounted_part, part_valid, part_damaged}
use Rattle.zarr_codecs_bytes.proofs.partial.order_elements.Goals as goal

pub returns-in_default-clause-part : goal.returns-in_default-clause-part
returns-in_default-clause-part c = λ value has.
    larger_too (elements_of c.args.part.elements.now).type c.args.part.shape.now (region_of c.args.part.region.now) c.args.part.region.now.same c.args.part.inside
    (inl (at_least (product c.args.part.region.now.shape.items) (2 ^ 63) (λ below. c.in_default.ensures (subst (λ es. product es < 2 ^ 63) (sym c.shape.ensures) below))))

pub returns-then-len-length-clause-part : goal.returns-then-len-length-clause-part
returns-then-len-length-clause-part c = λ value has.
    let counted = c.in-Some.ensures.1 ∙ ap product c.shape.ensures in
    let wide = ap (λ t. c.in-Some.count * bytes_in (components t)) c.data_type-data_type.ensures in
    let long = c.in-Ok.ensures.ok ∙ (wide ∙ ap (λ n. n * part_width c.args.part) counted) in
    absurd (omega (arith, long, (has.are nothing).long, c.if-len-length.true))

pub returns-in-Err-clause-part : goal.returns-in-Err-clause-part
returns-in-Err-clause-part c = λ value has.
    uncounted_part (bytes_chain c.args.codec) (elements_of c.args.part.elements.now) c.args.part.shape.now (Some value) (region_of c.args.part.region.now) (type_of c.data_type-data_type.result.now) c.in-Some.count c.in-Err.error
    c.args.part.region.now.same c.args.part.inside c.data_type-data_type.ensures (c.in-Some.ensures.1 ∙ ap product c.shape.ensures) c.in-Err.ensures.err

pub returns-in-Ok-validate-clause-part : goal.returns-in-Ok-validate-clause-part
returns-in-Ok-validate-clause-part c = λ value has.
    let order = option_map order_of c.args.codec.endian in
    let elements = elements_of c.args.part.elements.now in
    let region = region_of c.args.part.region.now in
    let extracted = c.args.extracted.items in
    let made = c.in_ok-ordered.field-0.items in
    let read : IsPartRead order elements.type c.args.part.shape.now (in_box region) (product region.shape) value extracted made = record {
      fit = c.requires;
      positive = subst (λ t. 0 < bytes_in (components t)) c.data_type-data_type.ensures c.in-Ok.ensures.some;
      whole = has.whole;
      inside = c.args.part.inside;
      long = (has.are nothing).long;
      elements = (has.are nothing).elements;
      is = c.in_ok-ordered.ensures ∙ ap (λ t. all_ordered order (components t) extracted) c.data_type-data_type.ensures;
    } in
    let found = c.in-Ok-validate.ensures in
    part_valid order elements c.args.part.shape.now (in_box region) (product region.shape) value extracted made found.0 read (IsValid-at c.data_type-data_type.ensures (c.in-Some.ensures.1 ∙ ap product c.shape.ensures) found.1)

pub returns-in-Err-validate-clause-part : goal.returns-in-Err-validate-clause-part
returns-in-Err-validate-clause-part c = λ value has.
    let order = option_map order_of c.args.codec.endian in
    let elements = elements_of c.args.part.elements.now in
    let region = region_of c.args.part.region.now in
    let extracted = c.args.extracted.items in
    let made = c.in_ok-ordered.field-0.items in
    let read : IsPartRead order elements.type c.args.part.shape.now (in_box region) (product region.shape) value extracted made = record {
      fit = c.requires;
      positive = subst (λ t. 0 < bytes_in (components t)) c.data_type-data_type.ensures c.in-Ok.ensures.some;
      whole = has.whole;
      inside = c.args.part.inside;
      long = (has.are nothing).long;
      elements = (has.are nothing).elements;
      is = c.in_ok-ordered.ensures ∙ ap (λ t. all_ordered order (components t) extracted) c.data_type-data_type.ensures;
    } in
    let e = c.in-Err-validate.field-0 in
    (c.requires, c.args.part.inside, part_damaged order elements c.args.part.shape.now (in_box region) (product region.shape) value extracted made e read (Validates-at (fixed made) (Err e) c.data_type-data_type.ensures (c.in-Some.ensures.1 ∙ ap product c.shape.ensures) c.in-Err-validate.ensures))
