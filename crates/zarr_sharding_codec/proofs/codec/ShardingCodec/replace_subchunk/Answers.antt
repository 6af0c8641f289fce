use Rattle.std.proofs.Common.{◌∙◌, ap, sym, refl, Some}
use Rattle.zarr_codecs_arrays.specs.Views.{elements_of, payload_of}
use Rattle.zarr_grids_boxes.specs.Boxes.{product}
use Rattle.std.proofs.Common.{get_or}
use Rattle.zarr_sharding_index.specs.Known.{pairs_in}
use Rattle.zarr_sharding_codec.specs.PartWriting.{Stored, stored_in}
use Rattle.zarr_sharding_codec.proofs.GroupWritten.{IsGroupPut, group_refused, group_stored, group_valid, held_cells}
use Rattle.zarr_codecs_meaning.specs.Encoding.{absent_pair}
use Rattle.zarr_sharding_codec.proofs.codec.ShardingCodec.replace_subchunk.Goals as goal

pub returns-in-Ok-store_piece-clause-change : goal.returns-in-Ok-store_piece-clause-change
returns-in-Ok-store_piece-clause-change g c = λ honest of cells group valid all.
    let self = c.args.self.now in
    let elements = elements_of c.args.shard.elements.now in
    let shape = c.args.given.subchunk.shape.now in
    let k = c.args.given.subchunk.number in
    let stored : Stored = stored_in (g.I.ArrayToBytesCodecTraits.meaning self.inner_codecs) (g.I.ArrayToBytesCodecTraits.is_function self.inner_codecs) elements (g.D.BytesPartialDecoderTraits.contents c.args.source.now) (pairs_in c.args.shard.known.now) in
    let read = c.in-Ok.ensures.elements honest of in
    let new = payload_of c.args.given.bytes in
    let whole = (held_cells stored.inner elements stored.value shape (get_or stored.pairs k absent_pair) read.cells c.requires.fit c.args.shard.elements.now.fills read.is).whole in
    let lists = valid.is.lists ∙ ap Some (sym (all read.cells whole)) in
    let h : IsGroupPut stored shape shape k (product shape) group cells new new = record { fit = c.requires.fit; fill = c.args.shard.elements.now.fills; same = refl; valid = valid; before = read.cells; held = read.is; lists = lists } in
    let is = group_valid stored shape shape k (product shape) group cells new new h in
    group_stored stored shape shape k (product shape) group cells new new c.in-Ok-store_piece.slice _ h refl refl (c.in-Ok-store_piece.ensures.stored _ is)

pub returns-in-Ok-clause-change : goal.returns-in-Ok-clause-change
returns-in-Ok-clause-change g c = λ honest of cells group valid all.
    let self = c.args.self.now in
    let elements = elements_of c.args.shard.elements.now in
    let shape = c.args.given.subchunk.shape.now in
    let k = c.args.given.subchunk.number in
    let stored : Stored = stored_in (g.I.ArrayToBytesCodecTraits.meaning self.inner_codecs) (g.I.ArrayToBytesCodecTraits.is_function self.inner_codecs) elements (g.D.BytesPartialDecoderTraits.contents c.args.source.now) (pairs_in c.args.shard.known.now) in
    let read = c.in-Ok.ensures.elements honest of in
    let new = payload_of c.args.given.bytes in
    let whole = (held_cells stored.inner elements stored.value shape (get_or stored.pairs k absent_pair) read.cells c.requires.fit c.args.shard.elements.now.fills read.is).whole in
    let lists = valid.is.lists ∙ ap Some (sym (all read.cells whole)) in
    let h : IsGroupPut stored shape shape k (product shape) group cells new new = record { fit = c.requires.fit; fill = c.args.shard.elements.now.fills; same = refl; valid = valid; before = read.cells; held = read.is; lists = lists } in
    let is = group_valid stored shape shape k (product shape) group cells new new h in
    let e = c.in-Err-store_piece.error in
    group_refused stored shape shape k (product shape) group cells new new e h (c.in-Err-store_piece.ensures.stored _ is)
