use Rattle.std.proofs.Common.{◌≡◌, ◌∙◌, ℕ, List, ap, sym, get_or, length}
use Rattle.std.proofs.lemmas.List.{get_or_default}
use Rattle.zarr_grids_boxes.specs.Subsets.{region_of}
use Rattle.zarr_codecs_arrays.specs.Views.{elements_of}
use Rattle.zarr_codecs_meaning.specs.Places.{grid_of}
use Rattle.zarr_codecs_traits.specs.declared.pieces.PieceSlice.{PieceSlice}
use Rattle.zarr_sharding_index.specs.Views.{location_of}
use Rattle.zarr_sharding_places.specs.Locating.{subchunk_box}
use Rattle.zarr_sharding_codec.specs.Pieces.{no_slice}
use Rattle.zarr_sharding_codec.proofs.PutSlices.{put_end, put_start, put_step}
use Rattle.zarr_sharding_codec.proofs.codec.ShardingCodec.put_slices.Goals as goal

pub grid_of-requires : goal.grid_of-requires
grid_of-requires g c = c.if-array-edges.false ∙ ap length c.as_slice-edges.ensures.edges

pub move_to_subchunk-requires-clause-grid : goal.move_to_subchunk-requires-clause-grid
move_to_subchunk-requires-clause-grid g c = c.as_slice-grid.ensures.value ∙ (c.in_ok-counts.ensures ∙ ap (grid_of c.args.array.shape.now) (sym c.as_slice-edges.ensures.edges))

pub loop-j-init : goal.loop-j-init
loop-j-init g c = record {
  shown = λ value pairs fit many sliced are.
      let self = c.args.self.now in
      put_start (g.I.ArrayToBytesCodecTraits.meaning self.inner_codecs) (elements_of c.args.array.elements.now) c.args.array.shape.now self.subchunk_shape value sliced.present c.in_ok-filled.filled c.in-Some-count_elements.total c.in-Some-count_elements.ensures.some c.in_ok-filled.ensures;
}

pub loop-j-preserved : goal.loop-j-preserved
loop-j-preserved g c = record {
  shown = λ value pairs fit many sliced are.
      let self = c.args.self.now in
      let subchunk = self.subchunk_shape in
      let inner = g.I.ArrayToBytesCodecTraits.meaning self.inner_codecs in
      let index = g.X.ArrayToBytesCodecTraits.meaning self.index_codecs in
      let location = location_of self.index_location in
      let elements = elements_of c.args.array.elements.now in
      let shape = c.args.array.shape.now in
      let j = c.loop-j.j in
      let slices = c.args.slices.now in
      let found = c.args.found.now in
      let low = c.loop-j-test.true in
      let slice = get_or slices j c.index-slices-j.result in
      let region = region_of c.in_ok-region-2.region in
      let moved : region ≡ subchunk_box shape subchunk slice.number = c.in_ok-region-2.ensures ∙ ap (λ (es : List ℕ). subchunk_box shape es slice.number) c.as_slice-edges.ensures.edges in
      let box : region ≡ subchunk_box shape subchunk (get_or slices j no_slice).number = moved ∙ ap (λ (s : PieceSlice). subchunk_box shape subchunk s.number) (get_or_default slices j c.index-slices-j.result no_slice low) in
      put_step subchunk inner index location elements shape value pairs slices fit many sliced found j region c.loop-j.all c.in_ok-all.all c.index-found-j.result are low c.index-found-j.is box c.in_ok-all.ensures
      (c.loop-j.invariant.shown value pairs fit many sliced are);
}

pub returns : goal.returns
returns g c = λ value pairs fit many sliced are.
    let self = c.args.self.now in
    let subchunk = self.subchunk_shape in
    let inner = g.I.ArrayToBytesCodecTraits.meaning self.inner_codecs in
    let index = g.X.ArrayToBytesCodecTraits.meaning self.index_codecs in
    let location = location_of self.index_location in
    let elements = elements_of c.args.array.elements.now in
    let shape = c.args.array.shape.now in
    let last = c.loop-j.invariant.shown value pairs fit many sliced are in
    record {
      cells = last.cells;
      is = put_end subchunk inner index location elements shape value pairs c.args.slices.now fit many sliced c.loop-j.all c.loop-j.j c.loop-j-test.false last;
      lists = c.in_ok-into_bytes.ensures last.cells last.shows;
    }
