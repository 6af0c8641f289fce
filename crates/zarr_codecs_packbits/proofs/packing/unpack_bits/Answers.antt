use Rattle.std.proofs.Common.{◌++◌, ◌*◌, ◌≤◌, ◌∙◌, ap, sym, subst, length, List, ℕ}
use Rattle.std.specs.Prelude.{unwrap_or}
use Rattle.std.proofs.lemmas.Result.{on_ok_weaker}
use Rattle.zarr_codecs_meaning.specs.Decoding.{without_padding}
use Rattle.zarr_codecs_types.specs.Views.{components_of}
use Rattle.zarr_codecs_packbits.specs.Packing.{bytes_of}
use Rattle.zarr_codecs_packbits.specs.Turning.{bits_of, element_bits_read}
use Rattle.zarr_codecs_packbits.specs.Views.{padding_of}
use Rattle.zarr_codecs_packbits.specs.declared.turning.Turn.{Turn}
use Rattle.zarr_codecs_packbits.specs.declared.turning.Way.TheVariants.{Restore}
use Rattle.zarr_codecs_packbits.proofs.PackedCells.{all_bits, enough_to_restore, restored_bytes, restored_is}
use Rattle.zarr_codecs_packbits.proofs.packing.unpack_bits.Goals as goal

pub put_turned-requires-clause-bits : goal.put_turned-requires-clause-bits
put_turned-requires-clause-bits c = all_bits c.without_padding.result.now c.as_slice.result.now (c.as_slice.ensures.value ∙ c.in_ok-put_bits.ensures)

pub put_turned-requires-clause-enough : goal.put_turned-requires-clause-enough
put_turned-requires-clause-enough c =
    let first = unwrap_or c.args.codec.first_bit 0 in
    let last = c.args.codec.last_bit in
    let parts = components_of c.args.parts.now in
    let bits = c.as_slice.result.now in
    let is = c.as_slice.ensures.value ∙ (c.in_ok-put_bits.ensures ∙ ap bits_of c.without_padding.ensures) in
    subst (λ (t : Turn). c.args.count * element_bits_read t.way t.first t.last parts ≤ length bits) (sym c.turn.ensures)
    (subst (λ (ns : List ℕ). c.args.count * element_bits_read Restore first last parts ≤ length ns) (sym is) (enough_to_restore (padding_of c.args.codec.padding) first last parts c.args.count c.args.value.now c.requires.whole))

pub push_packed-requires : goal.push_packed-requires
push_packed-requires c =
    let first = unwrap_or c.args.codec.first_bit 0 in
    let last = c.args.codec.last_bit in
    let parts = components_of c.args.parts.now in
    let given = bits_of (without_padding (padding_of c.args.codec.padding) c.args.value.now) in
    let is = c.as_slice.ensures.value ∙ (c.in_ok-put_bits.ensures ∙ ap bits_of c.without_padding.ensures) in
    all_bits (bytes_of first last parts c.args.count given) c.as_slice-2.result.now
    (restored_is c.turn.result first last parts c.args.count given c.as_slice.result.now c.as_slice-2.result.now c.turn.ensures is (c.as_slice-2.ensures.value ∙ c.in_ok-put_turned.ensures))

pub returns : goal.returns
returns c =
    let first = unwrap_or c.args.codec.first_bit 0 in
    let last = c.args.codec.last_bit in
    let parts = components_of c.args.parts.now in
    let given = bits_of (without_padding (padding_of c.args.codec.padding) c.args.value.now) in
    let is = c.as_slice.ensures.value ∙ (c.in_ok-put_bits.ensures ∙ ap bits_of c.without_padding.ensures) in
    let all = restored_is c.turn.result first last parts c.args.count given c.as_slice.result.now c.as_slice-2.result.now c.turn.ensures is (c.as_slice-2.ensures.value ∙ c.in_ok-put_turned.ensures) in
    on_ok_weaker c.push_packed.result (λ w. w ∙ ap (λ ns. c.args.made.now.bytes.items ++ ns) (restored_bytes first last parts c.args.count given c.as_slice-2.result.now all)) c.push_packed.ensures
