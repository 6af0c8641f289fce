use Rattle.std.proofs.Common.{◌≡◌, ◌∙◌, sym, refl, subst, nat_lt, true}
use Rattle.std.specs.List.{list_all}
use Rattle.zarr_codecs_arrays.specs.Views.{elements_of, payload_of}
use Rattle.zarr_sharding_places.specs.Groups.{no_place}
use Rattle.std.proofs.Common.{get_or}
use Rattle.zarr_sharding_index.specs.Known.{pairs_in}
use Rattle.zarr_sharding_codec.specs.PartWriting.{Stored, positions, stored_in}
use Rattle.zarr_sharding_codec.proofs.GroupWritten.{IsGroupPut, group_refused, group_stored, group_valid, held_cells}
use Rattle.zarr_codecs_meaning.specs.Encoding.{absent_pair}
use Rattle.zarr_sharding_codec.proofs.codec.ShardingCodec.update_group.Goals as goal

pub returns-in-Ok-store_piece-clause-change : goal.returns-in-Ok-store_piece-clause-change
returns-in-Ok-store_piece-clause-change g c = λ honest of cells count valid at inside.
    let self = c.args.self.now in
    let elements = elements_of c.args.shard.elements.now in
    let k = (get_or c.args.given.group.now 0 no_place).subchunk in
    let stored : Stored = stored_in (g.I.ArrayToBytesCodecTraits.meaning self.inner_codecs) (g.I.ArrayToBytesCodecTraits.is_function self.inner_codecs) elements (g.D.BytesPartialDecoderTraits.contents c.args.source.now) (pairs_in c.args.shard.known.now) in
    let read = c.in-Ok.ensures.elements honest of in
    let shape = c.args.given.shape.now in
    let whole = (held_cells stored.inner elements stored.value shape (get_or stored.pairs k absent_pair) read.cells c.requires.fit c.args.shard.elements.now.fills read.is).whole in
    let lists = c.in_ok-updated-in-Ok.ensures read.cells cells (record { lists = read.lists; many = whole }) valid.is.lists (subst (λ n. list_all (λ m. nat_lt m n) (positions c.args.given.group.now) ≡ true) (sym valid.is.many) at) inside in
    let h : IsGroupPut stored shape shape k count c.args.given.group.now cells (payload_of c.args.given.bytes.now) (payload_of c.in_ok-updated-in-Ok.updated) =
    record { fit = c.requires.fit; fill = c.args.shard.elements.now.fills; same = refl; valid = valid; before = read.cells; held = read.is; lists = lists } in
    group_stored stored shape shape k count c.args.given.group.now cells (payload_of c.args.given.bytes.now) (payload_of c.in_ok-updated-in-Ok.updated) c.in-Ok-store_piece.slice _ h refl refl
    (c.in-Ok-store_piece.ensures.stored _ (group_valid stored shape shape k count c.args.given.group.now cells (payload_of c.args.given.bytes.now) (payload_of c.in_ok-updated-in-Ok.updated) h))

pub returns-in-Err-store_piece-clause-change : goal.returns-in-Err-store_piece-clause-change
returns-in-Err-store_piece-clause-change g c = λ honest of cells count valid at inside.
    let self = c.args.self.now in
    let elements = elements_of c.args.shard.elements.now in
    let k = (get_or c.args.given.group.now 0 no_place).subchunk in
    let stored : Stored = stored_in (g.I.ArrayToBytesCodecTraits.meaning self.inner_codecs) (g.I.ArrayToBytesCodecTraits.is_function self.inner_codecs) elements (g.D.BytesPartialDecoderTraits.contents c.args.source.now) (pairs_in c.args.shard.known.now) in
    let read = c.in-Ok.ensures.elements honest of in
    let shape = c.args.given.shape.now in
    let e = c.in-Err-store_piece.error in
    let whole = (held_cells stored.inner elements stored.value shape (get_or stored.pairs k absent_pair) read.cells c.requires.fit c.args.shard.elements.now.fills read.is).whole in
    let lists = c.in_ok-updated-in-Ok.ensures read.cells cells (record { lists = read.lists; many = whole }) valid.is.lists (subst (λ n. list_all (λ m. nat_lt m n) (positions c.args.given.group.now) ≡ true) (sym valid.is.many) at) inside in
    let h : IsGroupPut stored shape shape k count c.args.given.group.now cells (payload_of c.args.given.bytes.now) (payload_of c.in_ok-updated-in-Ok.updated) =
    record { fit = c.requires.fit; fill = c.args.shard.elements.now.fills; same = refl; valid = valid; before = read.cells; held = read.is; lists = lists } in
    let why = c.in-Err-store_piece.ensures.stored _ (group_valid stored shape shape k count c.args.given.group.now cells (payload_of c.args.given.bytes.now) (payload_of c.in_ok-updated-in-Ok.updated) h) in
    group_refused stored shape shape k count c.args.given.group.now cells (payload_of c.args.given.bytes.now) (payload_of c.in_ok-updated-in-Ok.updated) e h why

pub returns-in-Err-store_piece-clause-refused : goal.returns-in-Err-store_piece-clause-refused
returns-in-Err-store_piece-clause-refused g c = c.in-Ok.ensures.refused ∙ sym (c.in-Err-store_piece.ensures.no_source (g.D.BytesPartialDecoderTraits.refused_calls c.args.source.now))
