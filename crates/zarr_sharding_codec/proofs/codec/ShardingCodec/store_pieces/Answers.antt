use Rattle.std.proofs.Common.{◌≡◌, ℕ, ◌+◌, List, ◌++◌, ◌∷◌, [], ap, ◌∙◌, sym, arith, length}
use Rattle.zarr_grids_boxes.specs.Boxes.{Region, product}
use Rattle.zarr_grids_boxes.specs.Subsets.{region_of}
use Rattle.zarr_codecs_arrays.specs.Views.{elements_of, payload_of}
use Rattle.zarr_codecs_meaning.specs.Encoding.{base_of, pair_at}
use Rattle.zarr_codecs_meaning.specs.Fits.{fits}
use Rattle.zarr_codecs_meaning.specs.Places.{gather, grid_of}
use Rattle.zarr_codecs_meaning.proofs.Parts.{length-parts}
use Rattle.zarr_codecs_traits.specs.Indexers.{numbers_of}
use Rattle.zarr_sharding_index.specs.Views.{location_of, pairs_of}
use Rattle.zarr_sharding_places.specs.Locating.{part_shape, subchunk_box}
use Rattle.zarr_sharding_codec.specs.Slices.{slice_of}
use Rattle.zarr_sharding_codec.proofs.Gapless.{base_small}
use Rattle.zarr_sharding_codec.proofs.NumberedParts.{part_at, part_fits, region_numbers}
use Rattle.zarr_sharding_codec.proofs.StoredLoop.{is_subchunk, piece_valid, rank_fits, refused_step, stored_end, stored_step}
use Rattle.zarr_sharding_codec.proofs.codec.ShardingCodec.store_pieces.Goals as goal

pub grid_of-requires : goal.grid_of-requires
grid_of-requires g c =
    let self = c.args.self.now in
    rank_fits self.subchunk_shape (g.I.ArrayToBytesCodecTraits.meaning self.inner_codecs) (g.X.ArrayToBytesCodecTraits.meaning self.index_codecs) (location_of self.index_location) (elements_of c.args.array.elements.now) c.args.array.shape.now c.requires.fit

pub move_to_subchunk-requires-clause-grid : goal.move_to_subchunk-requires-clause-grid
move_to_subchunk-requires-clause-grid g c =
    let self = c.args.self.now in
    let shape = c.args.array.shape.now in
    c.as_slice-grid.ensures.value ∙ (c.in_ok-counts.ensures ∙ ap (grid_of shape) (sym c.as_slice-edges.ensures.edges))

pub store_piece-requires : goal.store_piece-requires
store_piece-requires g c =
    let self = c.args.self.now in
    let subchunk = self.subchunk_shape in
    let inner = g.I.ArrayToBytesCodecTraits.meaning self.inner_codecs in
    let elements = elements_of c.args.array.elements.now in
    let shape = c.args.array.shape.now in
    let count : c.in-Some.count ≡ product (grid_of shape subchunk) = c.in-Some.ensures.1 ∙ ap product (c.as_slice-grid.ensures.value ∙ c.in_ok-counts.ensures) in
    let parts = length-parts shape subchunk in
    let box : region_of c.in_ok-moved.moved ≡ subchunk_box shape subchunk c.loop-n.n = c.in_ok-moved.ensures ∙ ap (λ (es : List ℕ). subchunk_box shape es c.loop-n.n) c.as_slice-edges.ensures.edges in
    ap (λ (s : List ℕ). fits inner elements.type s) (c.shape.ensures ∙ ap (λ (r : Region). r.shape) box)
    ∙ part_fits subchunk inner (g.X.ArrayToBytesCodecTraits.meaning self.index_codecs) (location_of self.index_location) elements shape c.loop-n.n c.requires.fit (omega (arith, c.loop-n-test.true, count, parts))

pub push_slice-requires : goal.push_slice-requires
push_slice-requires g c =
    let less = base_small (location_of c.args.self.now.index_location) c.args.size in
    let low = c.requires.low in
    let base = c.base-base.ensures in
    omega (arith, less, low, base)

pub returns-in-Err : goal.returns-in-Err
returns-in-Err g c = λ cells valid.
    let self = c.args.self.now in
    let subchunk = self.subchunk_shape in
    let inner = g.I.ArrayToBytesCodecTraits.meaning self.inner_codecs in
    let exact = g.I.ArrayToBytesCodecTraits.is_function self.inner_codecs in
    let elements = elements_of c.args.array.elements.now in
    let shape = c.args.array.shape.now in
    let n = c.loop-n.n in
    let count : c.in-Some.count ≡ product (grid_of shape subchunk) = c.in-Some.ensures.1 ∙ ap product (c.as_slice-grid.ensures.value ∙ c.in_ok-counts.ensures) in
    let box : region_of c.in_ok-moved.moved ≡ subchunk_box shape subchunk n = c.in_ok-moved.ensures ∙ ap (λ (es : List ℕ). subchunk_box shape es n) c.as_slice-edges.ensures.edges in
    let edges = c.shape.result.now in
    let same : edges ≡ part_shape shape subchunk n = c.shape.ensures ∙ ap (λ (r : Region). r.shape) box in
    let is = is_subchunk subchunk inner (g.X.ArrayToBytesCodecTraits.meaning self.index_codecs) (location_of self.index_location) elements shape n c.requires.fit (omega (arith, c.loop-n-test.true, count)) in
    let numbers = numbers_of shape (region_of c.in_ok-moved.moved) in
    let are = region_numbers shape subchunk (region_of c.in_ok-moved.moved) n box in
    let taken = c.in_ok-piece.ensures cells valid.is in
    let whole = piece_valid elements shape subchunk edges numbers n cells (payload_of c.args.bytes.now) (payload_of c.in_ok-piece.piece) c.args.array.elements.now.fills is valid same are taken in
    refused_step inner exact elements shape subchunk edges n (base_of (location_of self.index_location) c.args.size) cells c.in-Err.error is same (c.in-Err.ensures.stored (gather elements.fill cells (part_at shape subchunk n).places) whole)

pub loop-n-preserved : goal.loop-n-preserved
loop-n-preserved g c = record {
  laid = λ cells valid.
      let self = c.args.self.now in
      let subchunk = self.subchunk_shape in
      let inner = g.I.ArrayToBytesCodecTraits.meaning self.inner_codecs in
      let exact = g.I.ArrayToBytesCodecTraits.is_function self.inner_codecs in
      let elements = elements_of c.args.array.elements.now in
      let shape = c.args.array.shape.now in
      let n = c.loop-n.n in
      let count : c.in-Some.count ≡ product (grid_of shape subchunk) = c.in-Some.ensures.1 ∙ ap product (c.as_slice-grid.ensures.value ∙ c.in_ok-counts.ensures) in
      let box : region_of c.in_ok-moved.moved ≡ subchunk_box shape subchunk n = c.in_ok-moved.ensures ∙ ap (λ (es : List ℕ). subchunk_box shape es n) c.as_slice-edges.ensures.edges in
      let edges = c.shape.result.now in
      let same : edges ≡ part_shape shape subchunk n = c.shape.ensures ∙ ap (λ (r : Region). r.shape) box in
      let is = is_subchunk subchunk inner (g.X.ArrayToBytesCodecTraits.meaning self.index_codecs) (location_of self.index_location) elements shape n c.requires.fit (omega (arith, c.loop-n-test.true, count)) in
      let numbers = numbers_of shape (region_of c.in_ok-moved.moved) in
      let are = region_numbers shape subchunk (region_of c.in_ok-moved.moved) n box in
      let taken = c.in_ok-piece.ensures cells valid.is in
      let whole = piece_valid elements shape subchunk edges numbers n cells (payload_of c.args.bytes.now) (payload_of c.in_ok-piece.piece) c.args.array.elements.now.fills is valid same are taken in
      let one = c.in-Ok.ensures.stored (gather elements.fill cells (part_at shape subchunk n).places) whole in
      let pair = c.in_ok-room-in-Ok.ensures.pair ∙ ap (λ b. pairs_of c.loop-n.index ++ pair_at (b + length c.loop-n.data.items) (slice_of c.in-Ok.slice) ∷ []) c.base-base.ensures in
      stored_step inner exact elements shape subchunk edges n (base_of (location_of self.index_location) c.args.size) cells c.loop-n.data.items _ (pairs_of c.loop-n.index) _ (slice_of c.in-Ok.slice) is same (c.loop-n.invariant.laid cells valid) one c.in_ok-room-in-Ok.ensures.slice pair;
}

pub returns : goal.returns
returns g c = λ cells valid.
    let self = c.args.self.now in
    let count : c.in-Some.count ≡ product (grid_of c.args.array.shape.now self.subchunk_shape) = c.in-Some.ensures.1 ∙ ap product (c.as_slice-grid.ensures.value ∙ c.in_ok-counts.ensures) in
    stored_end (g.I.ArrayToBytesCodecTraits.meaning self.inner_codecs) (g.I.ArrayToBytesCodecTraits.is_function self.inner_codecs) (elements_of c.args.array.elements.now) c.args.array.shape.now self.subchunk_shape c.loop-n.n (base_of (location_of self.index_location) c.args.size) cells c.loop-n.data.items (pairs_of c.loop-n.index)
    (omega (arith, count, c.loop-n-test.false)) (c.loop-n.invariant.laid cells valid)
