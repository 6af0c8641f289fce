use Rattle.std.proofs.Common.{◌≡◌, ◌*◌, length, ap, ◌∙◌, sym, Err, option_map}
use Rattle.zarr_grids_boxes.specs.Boxes.{product}
use Rattle.zarr_codecs_meaning.specs.Payloads.{fixed}
use Rattle.zarr_codecs_meaning.specs.Types.{components, bytes_in}
use Rattle.zarr_codecs_types.specs.Views.{type_of}
use Rattle.zarr_codecs_arrays.specs.Views.{elements_of}
use Rattle.zarr_codecs_bytes.specs.Views.{order_of}
use Rattle.zarr_codecs_bytes.proofs.Decoding.{read_as, IsValid-at, Validates-at, read_valid, read_damaged}
use Rattle.zarr_codecs_bytes.proofs.bytes.BytesCodecArrayToBytesCodecTraits.decode_in_order.Goals as goal

pub returns-in-Ok-validate : goal.returns-in-Ok-validate
returns-in-Ok-validate c =
    let order = option_map order_of c.args.self.now.endian in
    let elements = elements_of c.args.elements.now in
    let type = type_of c.data_type-data_type.result.now in
    let value = c.args.value.items in
    let made = c.in_ok-ordered.field-0.items in
    let long : length value ≡ c.in-Ok.count * bytes_in (components type) = ap length (sym c.as_slice.ensures.value) ∙ c.in-Ok.ensures.long in
    let found = c.in-Ok-validate.ensures in
    read_valid order elements c.args.shape.now value made found.0
    (read_as order type elements.type c.in-Ok.count (product c.args.shape.now) value made c.data_type-data_type.ensures c.in-Ok.ensures.count (sym c.suits.ensures ∙ c.if-not-suits.false) c.in-Ok.ensures.some long c.in_ok-ordered.ensures)
    (IsValid-at c.data_type-data_type.ensures c.in-Ok.ensures.count found.1)

pub returns-in-Err-validate : goal.returns-in-Err-validate
returns-in-Err-validate c =
    let order = option_map order_of c.args.self.now.endian in
    let elements = elements_of c.args.elements.now in
    let type = type_of c.data_type-data_type.result.now in
    let value = c.args.value.items in
    let made = c.in_ok-ordered.field-0.items in
    let long : length value ≡ c.in-Ok.count * bytes_in (components type) = ap length (sym c.as_slice.ensures.value) ∙ c.in-Ok.ensures.long in
    let read = read_as order type elements.type c.in-Ok.count (product c.args.shape.now) value made c.data_type-data_type.ensures c.in-Ok.ensures.count (sym c.suits.ensures ∙ c.if-not-suits.false) c.in-Ok.ensures.some long c.in_ok-ordered.ensures in
    let e = c.in-Err-validate.field-0 in
    (read.fit, read_damaged order elements c.args.shape.now value made e read (Validates-at (fixed made) (Err e) c.data_type-data_type.ensures c.in-Ok.ensures.count c.in-Err-validate.ensures))
