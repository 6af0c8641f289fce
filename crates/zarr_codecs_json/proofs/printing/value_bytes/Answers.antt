use Rattle.std.proofs.Common.{◌≡◌, length, ap, ◌∙◌, sym, ◌/◌, arith}
use Rattle.zarr_codecs_types.specs.Views.{type_of}
use Rattle.zarr_codecs_arrays.specs.Views.{payload_of}
use Rattle.zarr_codecs_json.proofs.Valid.{refused_at}
use Rattle.zarr_codecs_json.proofs.printing.value_bytes.Goals as goal

pub returns-else-is_ok : goal.returns-else-is_ok
returns-else-is_ok c =
    let long : c.len.result ≡ length c.in-Fixed.bytes.items = omega (arith, c.in-Fixed.bytes.ok.0, c.len.ensures) in
    refused_at (type_of c.args.data_type.now) c.args.width (c.len.result / c.args.width) (payload_of c.args.elements.now) c.in-Fixed.bytes.items c.validate.result c.requires.width (ap payload_of c.in-Fixed.is) (ap (λ n. n / c.args.width) long) c.validate.ensures (sym c.is_ok.ensures.value ∙ c.if-is_ok.false)
