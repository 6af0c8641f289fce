use Rattle.std.proofs.Common.{List, Ok, length, refl, subst}
use Rattle.zarr_codecs_arrays.specs.Views.{elements_of}
use Rattle.zarr_codecs_arrays.specs.declared.array_bytes.ArrayBytes.{ArrayBytes}
use Rattle.zarr_codecs_meaning.specs.Chains.{sharded}
use Rattle.zarr_codecs_traits.specs.Arrays.{coded}
use Rattle.zarr_codecs_traits.specs.Indexers.{asked_of}
use Rattle.zarr_codecs_traits.specs.declared.pieces.PieceSlice.{PieceSlice}
use Rattle.zarr_sharding_index.specs.Views.{location_of}
use Rattle.zarr_sharding_codec.specs.Pieces.{DecodesPieceOf, PutsPart}
use Rattle.zarr_sharding_codec.proofs.CutPart.{cut_stopped, part_lost, part_put, stopped_told, unstopped}
use Rattle.zarr_sharding_codec.proofs.array_to_bytes.ShardingCodecArrayToBytesCodecTraits.put_part.Goals as goal

pub returns-in-Err-clause-part : goal.returns-in-Err-clause-part
returns-in-Err-clause-part g c = λ stored cut are.
    let self = c.args.self.now in
    let subchunk = self.subchunk_shape in
    let inner = g.I.ArrayToBytesCodecTraits.meaning self.inner_codecs in
    let index = g.X.ArrayToBytesCodecTraits.meaning self.index_codecs in
    let location = location_of self.index_location in
    let elements = elements_of c.args.part.elements.now in
    let shape = c.args.part.shape.now in
    part_lost subchunk inner index location elements shape stored (asked_of c.args.part.indexer) c.args.pieces cut c.args.made.items are c.in-Err.error c.in-Err.ensures.err

pub returns-in-Err-clause-stopped : goal.returns-in-Err-clause-stopped
returns-in-Err-clause-stopped g c = λ are.
    let self = c.args.self.now in
    let chain = sharded self.subchunk_shape (g.I.ArrayToBytesCodecTraits.meaning self.inner_codecs) (g.X.ArrayToBytesCodecTraits.meaning self.index_codecs) (location_of self.index_location) in
    let pieces = c.args.pieces in
    unstopped ArrayBytes (DecodesPieceOf (coded chain (elements_of c.args.part.elements.now) pieces.shape.items) pieces) (length pieces.slices.items) c.args.made.items pieces.stopped c.in-Err.error are c.in-Err.ensures.err

pub returns-in-Some-clause-part : goal.returns-in-Some-clause-part
returns-in-Some-clause-part g c = λ stored cut are.
    let self = c.args.self.now in
    let subchunk = self.subchunk_shape in
    let inner = g.I.ArrayToBytesCodecTraits.meaning self.inner_codecs in
    let index = g.X.ArrayToBytesCodecTraits.meaning self.index_codecs in
    let location = location_of self.index_location in
    let elements = elements_of c.args.part.elements.now in
    let shape = c.args.part.shape.now in
    cut_stopped subchunk inner index location elements shape stored (asked_of c.args.part.indexer) c.args.pieces cut c.in-Some.error c.in-Some.is

pub returns-in-Some-clause-stopped : goal.returns-in-Some-clause-stopped
returns-in-Some-clause-stopped g c = λ are. stopped_told ArrayBytes c.args.pieces.stopped c.in-Some.error c.in-Some.is

pub returns-clause-part : goal.returns-clause-part
returns-clause-part g c = λ stored cut are.
    let self = c.args.self.now in
    let subchunk = self.subchunk_shape in
    let inner = g.I.ArrayToBytesCodecTraits.meaning self.inner_codecs in
    let index = g.X.ArrayToBytesCodecTraits.meaning self.index_codecs in
    let location = location_of self.index_location in
    let elements = elements_of c.args.part.elements.now in
    let shape = c.args.part.shape.now in
    let asked = asked_of c.args.part.indexer in
    let found = c.in-Ok.found.items in
    let bytes = c.in_ok-put_found-in-None.field-0 in
    let puts = subst (λ (xs : List PieceSlice). PutsPart elements asked xs found (Ok bytes)) c.as_slice-slices.ensures.value
    (subst (λ (ys : List ArrayBytes). PutsPart elements asked c.as_slice-slices.result.now ys (Ok bytes)) c.as_slice-found.ensures.value c.in_ok-put_found-in-None.ensures) in
    part_put subchunk inner index location elements shape stored asked c.args.pieces cut c.args.made.items are found (Ok bytes) bytes c.in-Ok.ensures.ok c.in-None.is puts refl
