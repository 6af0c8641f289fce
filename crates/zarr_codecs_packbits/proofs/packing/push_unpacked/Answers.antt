use Rattle.std.proofs.Common.{◌++◌, ◌∙◌, ap, subst, List, ℕ}
use Rattle.std.specs.Prelude.{unwrap_or}
use Rattle.std.proofs.lemmas.Result.{on_ok_weaker}
use Rattle.zarr_codecs_meaning.specs.Decoding.{without_padding}
use Rattle.zarr_codecs_types.specs.Views.{components_of}
use Rattle.zarr_codecs_packbits.specs.Packing.{AreSingle, bytes_restored}
use Rattle.zarr_codecs_packbits.specs.Turning.{bits_of}
use Rattle.zarr_codecs_packbits.specs.Views.{padding_of}
use Rattle.zarr_codecs_packbits.specs.declared.turning.Turn.{Turn}
use Rattle.zarr_codecs_packbits.proofs.Singles.{single_restored, single_room}
use Rattle.zarr_codecs_packbits.proofs.packing.push_unpacked.Goals as goal

pub unpack_bytes-requires : goal.unpack_bytes-requires
unpack_bytes-requires c =
    let parts = components_of c.args.parts.now in
    let kept = c.in-Some.kept in
    let s = subst (λ (t : Turn). AreSingle t.first t.last parts kept) c.turn.ensures c.in-Some.ensures in
    single_room (padding_of c.args.codec.padding) (unwrap_or c.args.codec.first_bit 0) c.args.codec.last_bit parts kept c.args.count c.args.value.now c.without_padding-packed.result.now s c.requires.whole c.without_padding-packed.ensures

pub returns-in-Some : goal.returns-in-Some
returns-in-Some c =
    let parts = components_of c.args.parts.now in
    let kept = c.in-Some.kept in
    let s = subst (λ (t : Turn). AreSingle t.first t.last parts kept) c.turn.ensures c.in-Some.ensures in
    let packed = without_padding (padding_of c.args.codec.padding) c.args.value.now in
    on_ok_weaker c.unpack_bytes.result (λ w. w ∙ ap (λ ns. c.args.made.now.bytes.items ++ ns) (ap (λ (ns : List ℕ). bytes_restored kept c.args.count (bits_of ns)) c.without_padding-packed.ensures ∙ single_restored (unwrap_or c.args.codec.first_bit 0) c.args.codec.last_bit parts kept c.args.count (bits_of packed) s)) c.unpack_bytes.ensures
