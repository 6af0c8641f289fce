use Rattle.std.proofs.Common.{◌≡◌, ◌∙◌, List, ℕ, Ok, Err, Some, ap, sym, refl, subst, get_or}
use Rattle.zarr_grids_boxes.specs.Boxes.{product}
use Rattle.zarr_codecs_arrays.specs.Views.{elements_of, payload_of}
use Rattle.zarr_codecs_meaning.specs.Encoding.{absent_pair}
use Rattle.zarr_codecs_meaning.specs.Fits.{fits}
use Rattle.zarr_sharding_index.specs.Known.{pairs_in}
use Rattle.zarr_sharding_codec.specs.PartWriting.{Stored, cells_held, group_put, stored_in}
use Rattle.zarr_sharding_codec.specs.Reading.{ListsRead}
use Rattle.zarr_sharding_codec.specs.Slices.{StoresPiece}
use Rattle.zarr_sharding_codec.proofs.BoxWritten.{group_cut}
use Rattle.zarr_sharding_codec.proofs.GroupWritten.{IsGroupPut, group_refused, group_stored, group_unread, group_valid, held_cells}
use Rattle.zarr_sharding_codec.proofs.codec.ShardingCodec.update_cut.Goals as goal

pub returns-in-Ok-store_piece-clause-change : goal.returns-in-Ok-store_piece-clause-change
returns-in-Ok-store_piece-clause-change g c = λ honest of cells group valid is.
    let self = c.args.self.now in
    let elements = elements_of c.args.shard.elements.now in
    let cut = c.args.given.cut.now in
    let k = cut.inside.number in
    let edges = cut.inside.shape.items in
    let shape = c.as_slice-shape.result.now in
    let same : shape ≡ edges = c.as_slice-shape.ensures.value in
    let stored : Stored = stored_in (g.I.ArrayToBytesCodecTraits.meaning self.inner_codecs) (g.I.ArrayToBytesCodecTraits.is_function self.inner_codecs) elements (g.D.BytesPartialDecoderTraits.contents c.args.source.now) (pairs_in c.args.shard.known.now) in
    let count = product c.args.given.lengths.now in
    let given = payload_of c.args.given.bytes.now in
    let updated = payload_of c.in_ok-updated-in-Ok.updated in
    let read = subst (λ (es : List ℕ). ListsRead elements es (cells_held stored es k) (Ok c.in-Ok.piece)) same (c.in-Ok.ensures.elements honest of) in
    let whole = (held_cells stored.inner elements stored.value edges (get_or stored.pairs k absent_pair) read.cells c.requires.fit c.args.shard.elements.now.fills read.is).whole in
    let lists = c.in_ok-updated-in-Ok.ensures read.cells cells (record { lists = read.lists; many = whole }) valid.is ∙ ap Some (group_cut elements.fill c.args.given.lengths.now cut group cells read.cells is) in
    let h : IsGroupPut stored edges shape k count group cells given updated = record { fit = c.requires.fit; fill = c.args.shard.elements.now.fills; same = same; valid = valid; before = read.cells; held = read.is; lists = lists } in
    group_stored stored edges shape k count group cells given updated c.in-Ok-store_piece.slice _ h refl refl (c.in-Ok-store_piece.ensures.stored _ (group_valid stored edges shape k count group cells given updated h))

pub returns-in-Err-store_piece-clause-change : goal.returns-in-Err-store_piece-clause-change
returns-in-Err-store_piece-clause-change g c = λ honest of cells group valid is.
    let self = c.args.self.now in
    let elements = elements_of c.args.shard.elements.now in
    let cut = c.args.given.cut.now in
    let k = cut.inside.number in
    let edges = cut.inside.shape.items in
    let shape = c.as_slice-shape.result.now in
    let same : shape ≡ edges = c.as_slice-shape.ensures.value in
    let stored : Stored = stored_in (g.I.ArrayToBytesCodecTraits.meaning self.inner_codecs) (g.I.ArrayToBytesCodecTraits.is_function self.inner_codecs) elements (g.D.BytesPartialDecoderTraits.contents c.args.source.now) (pairs_in c.args.shard.known.now) in
    let count = product c.args.given.lengths.now in
    let given = payload_of c.args.given.bytes.now in
    let updated = payload_of c.in_ok-updated-in-Ok.updated in
    let read = subst (λ (es : List ℕ). ListsRead elements es (cells_held stored es k) (Ok c.in-Ok.piece)) same (c.in-Ok.ensures.elements honest of) in
    let whole = (held_cells stored.inner elements stored.value edges (get_or stored.pairs k absent_pair) read.cells c.requires.fit c.args.shard.elements.now.fills read.is).whole in
    let lists = c.in_ok-updated-in-Ok.ensures read.cells cells (record { lists = read.lists; many = whole }) valid.is ∙ ap Some (group_cut elements.fill c.args.given.lengths.now cut group cells read.cells is) in
    let h : IsGroupPut stored edges shape k count group cells given updated = record { fit = c.requires.fit; fill = c.args.shard.elements.now.fills; same = same; valid = valid; before = read.cells; held = read.is; lists = lists } in
    let e = c.in-Err-store_piece.error in
    let why = c.in-Err-store_piece.ensures.stored _ (group_valid stored edges shape k count group cells given updated h) in
    group_refused stored edges shape k count group cells given updated e h (subst (λ (es : List ℕ). StoresPiece stored.inner stored.exact elements (es, group_put elements.fill group cells read.cells) (Err e)) same why)

pub returns-in-Err-store_piece-clause-refused : goal.returns-in-Err-store_piece-clause-refused
returns-in-Err-store_piece-clause-refused g c = c.in-Ok.ensures.refused ∙ sym (c.in-Err-store_piece.ensures.no_source (g.D.BytesPartialDecoderTraits.refused_calls c.args.source.now))

pub returns-in-Err-clause-change : goal.returns-in-Err-clause-change
returns-in-Err-clause-change g c = λ honest of cells group valid is.
    let self = c.args.self.now in
    let elements = elements_of c.args.shard.elements.now in
    let cut = c.args.given.cut.now in
    let k = cut.inside.number in
    let edges = cut.inside.shape.items in
    let shape = c.as_slice-shape.result.now in
    let same : shape ≡ edges = c.as_slice-shape.ensures.value in
    let stored : Stored = stored_in (g.I.ArrayToBytesCodecTraits.meaning self.inner_codecs) (g.I.ArrayToBytesCodecTraits.is_function self.inner_codecs) elements (g.D.BytesPartialDecoderTraits.contents c.args.source.now) (pairs_in c.args.shard.known.now) in
    let e = c.in-Err.error in
    group_unread stored edges k group cells e (subst (λ (es : List ℕ). ListsRead elements es (cells_held stored es k) (Err e)) same (c.in-Err.ensures.elements honest of))

pub read_subchunk-requires-clause-fit : goal.read_subchunk-requires-clause-fit
read_subchunk-requires-clause-fit g c =
    let elements = elements_of c.args.shard.elements.now in
    ap (fits (g.I.ArrayToBytesCodecTraits.meaning c.args.self.now.inner_codecs) elements.type) c.as_slice-shape.ensures.value ∙ c.requires.fit
