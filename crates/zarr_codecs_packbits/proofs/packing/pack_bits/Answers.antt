use Rattle.std.proofs.Common.{◌*◌, ◌≤◌, ◌∙◌, ap, sym, subst, length, List, ℕ}
use Rattle.std.specs.Prelude.{unwrap_or}
use Rattle.std.proofs.lemmas.Result.{IfOk-weaker}
use Rattle.zarr_codecs_meaning.specs.Encoding.{with_padding}
use Rattle.zarr_codecs_types.specs.Views.{components_of}
use Rattle.zarr_codecs_types.proofs.Bytes.{each_byte}
use Rattle.zarr_codecs_packbits.specs.Turning.{are_bits, element_bits_read}
use Rattle.zarr_codecs_packbits.specs.Views.{padding_of}
use Rattle.zarr_codecs_packbits.specs.declared.turning.Turn.{Turn}
use Rattle.zarr_codecs_packbits.specs.declared.turning.Way.TheVariants.{Keep}
use Rattle.zarr_codecs_packbits.proofs.PackedCells.{all_bits, enough_to_keep, kept_are_bits, kept_is}
use Rattle.zarr_codecs_packbits.proofs.packing.pack_bits.Goals as goal

pub put_turned-requires-clause-bits : goal.put_turned-requires-clause-bits
put_turned-requires-clause-bits c = all_bits c.args.bytes.now c.as_slice.result.now (c.as_slice.ensures.value ∙ c.in_ok-put_bits.ensures)

pub put_turned-requires-clause-enough : goal.put_turned-requires-clause-enough
put_turned-requires-clause-enough c =
    let first = unwrap_or c.args.codec.first_bit 0 in
    let last = c.args.codec.last_bit in
    let parts = components_of c.args.parts.now in
    let bits = c.as_slice.result.now in
    subst (λ (t : Turn). c.args.count * element_bits_read t.way t.first t.last parts ≤ length bits) (sym c.turn.ensures)
    (subst (λ (ns : List ℕ). c.args.count * element_bits_read Keep first last parts ≤ length ns) (sym (c.as_slice.ensures.value ∙ c.in_ok-put_bits.ensures)) (enough_to_keep first last parts c.args.count c.args.bytes.now c.requires.whole))

pub with_padding-requires : goal.with_padding-requires
with_padding-requires c =
    let first = unwrap_or c.args.codec.first_bit 0 in
    let last = c.args.codec.last_bit in
    let parts = components_of c.args.parts.now in
    let is = kept_is c.turn.result first last parts c.args.count c.args.bytes.now c.as_slice.result.now c.as_slice-2.result.now c.turn.ensures (c.as_slice.ensures.value ∙ c.in_ok-put_bits.ensures) (c.as_slice-2.ensures.value ∙ c.in_ok-put_turned.ensures)
    c.requires.positive c.requires.whole (each_byte c.args.bytes.now c.type_inv.bytes) in
    ap are_bits is ∙ kept_are_bits first last parts c.args.bytes.now

pub returns : goal.returns
returns c =
    let first = unwrap_or c.args.codec.first_bit 0 in
    let last = c.args.codec.last_bit in
    let parts = components_of c.args.parts.now in
    let is = kept_is c.turn.result first last parts c.args.count c.args.bytes.now c.as_slice.result.now c.as_slice-2.result.now c.turn.ensures (c.as_slice.ensures.value ∙ c.in_ok-put_bits.ensures) (c.as_slice-2.ensures.value ∙ c.in_ok-put_turned.ensures)
    c.requires.positive c.requires.whole (each_byte c.args.bytes.now c.type_inv.bytes) in
    IfOk-weaker c.with_padding.result _ _ (λ v h. h ∙ ap (with_padding (padding_of c.args.codec.padding)) is) c.with_padding.ensures
