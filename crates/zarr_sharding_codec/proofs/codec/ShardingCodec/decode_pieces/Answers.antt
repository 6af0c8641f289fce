use Rattle.std.proofs.Common.{◌≡◌, ◌≤◌, ℕ, List, Some, Err, ap, ◌∙◌, sym, subst, arith, get_or, length}
use Rattle.zarr_grids_boxes.specs.Boxes.{Region, product}
use Rattle.zarr_codecs_arrays.specs.Views.{elements_of}
use Rattle.zarr_codecs_meaning.specs.Encoding.{absent_pair}
use Rattle.zarr_codecs_meaning.specs.Fits.{fits}
use Rattle.zarr_codecs_meaning.specs.Places.{grid_of, parts_of}
use Rattle.zarr_codecs_meaning.proofs.Fitting.{fitted}
use Rattle.zarr_codecs_meaning.proofs.Parts.{length-parts}
use Rattle.zarr_codecs_regions.specs.Updates.{put}
use Rattle.zarr_codecs_traits.specs.Indexers.{numbers_of}
use Rattle.zarr_grids_boxes.specs.Subsets.{region_of}
use Rattle.zarr_sharding_places.proofs.BoxPuts.{length-numbers}
use Rattle.zarr_sharding_index.specs.Views.{location_of, pairs_of}
use Rattle.zarr_sharding_places.proofs.ReadPieces.{shown_all}
use Rattle.zarr_sharding_places.specs.Locating.{part_shape, subchunk_box}
use Rattle.zarr_sharding_places.specs.Pieces.{piece_decoded}
use Rattle.zarr_sharding_codec.specs.Reading.{Lists}
use Rattle.zarr_sharding_codec.proofs.DecodedShard.{decode_lost, decode_step}
use Rattle.zarr_sharding_codec.proofs.NumberedParts.{part_fits, region_numbers}
use Rattle.zarr_sharding_codec.proofs.StoredLoop.{is_subchunk, rank_fits}
use Rattle.zarr_sharding_codec.proofs.codec.ShardingCodec.decode_pieces.Goals as goal

pub grid_of-requires : goal.grid_of-requires
grid_of-requires g c =
    let self = c.args.self.now in
    rank_fits self.subchunk_shape (g.I.ArrayToBytesCodecTraits.meaning self.inner_codecs) (g.X.ArrayToBytesCodecTraits.meaning self.index_codecs) (location_of self.index_location) (elements_of c.args.array.elements.now) c.args.array.shape.now c.requires.fit

pub move_to_subchunk-requires-clause-grid : goal.move_to_subchunk-requires-clause-grid
move_to_subchunk-requires-clause-grid g c = c.as_slice-grid.ensures.value ∙ (c.in_ok-counts.ensures ∙ ap (grid_of c.args.array.shape.now) (sym c.as_slice-edges.ensures.edges))

pub put_piece-requires-clause-fit : goal.put_piece-requires-clause-fit
put_piece-requires-clause-fit g c =
    let self = c.args.self.now in
    let subchunk = self.subchunk_shape in
    let inner = g.I.ArrayToBytesCodecTraits.meaning self.inner_codecs in
    let elements = elements_of c.args.array.elements.now in
    let shape = c.args.array.shape.now in
    let count : c.in-Some.count ≡ product (grid_of shape subchunk) = c.in-Some.ensures.1 ∙ ap product (c.as_slice-grid.ensures.value ∙ c.in_ok-counts.ensures) in
    let parts = length-parts shape subchunk in
    let below = c.loop-n-test.true in
    let box : region_of c.in_ok-moved.moved ≡ subchunk_box shape subchunk c.loop-n.n = c.in_ok-moved.ensures ∙ ap (λ (es : List ℕ). subchunk_box shape es c.loop-n.n) c.as_slice-edges.ensures.edges in
    ap (λ (r : Region). fits inner elements.type r.shape) box
    ∙ part_fits subchunk inner (g.X.ArrayToBytesCodecTraits.meaning self.index_codecs) (location_of self.index_location) elements shape c.loop-n.n c.requires.fit (omega (arith, below, count, parts))

pub put_piece-requires-clause-below : goal.put_piece-requires-clause-below
put_piece-requires-clause-below g c =
    let shape = c.args.array.shape.now in
    let subchunk = c.args.self.now.subchunk_shape in
    let count : c.in-Some.count ≡ product (grid_of shape subchunk) = c.in-Some.ensures.1 ∙ ap product (c.as_slice-grid.ensures.value ∙ c.in_ok-counts.ensures) in
    let parts = length-parts shape subchunk in
    let many = c.requires.many in
    let below = c.loop-n-test.true in
    omega (arith, count, parts, many, below)

pub returns-in-Err : goal.returns-in-Err
returns-in-Err g c =
    let self = c.args.self.now in
    let subchunk = self.subchunk_shape in
    let inner = g.I.ArrayToBytesCodecTraits.meaning self.inner_codecs in
    let elements = elements_of c.args.array.elements.now in
    let shape = c.args.array.shape.now in
    let n = c.loop-n.n in
    let count : c.in-Some.count ≡ product (grid_of shape subchunk) = c.in-Some.ensures.1 ∙ ap product (c.as_slice-grid.ensures.value ∙ c.in_ok-counts.ensures) in
    let is = is_subchunk subchunk inner (g.X.ArrayToBytesCodecTraits.meaning self.index_codecs) (location_of self.index_location) elements shape n c.requires.fit (omega (arith, c.loop-n-test.true, count)) in
    let box : region_of c.in_ok-moved.moved ≡ subchunk_box shape subchunk n = c.in_ok-moved.ensures ∙ ap (λ (es : List ℕ). subchunk_box shape es n) c.as_slice-edges.ensures.edges in
    let pair = get_or (pairs_of c.args.shard.index.now) n absent_pair in
    decode_lost inner elements shape subchunk c.args.shard.value.now (pairs_of c.args.shard.index.now) n c.in-Err.error is
    (subst (λ (r : Region). Lists elements r.shape (piece_decoded inner elements c.args.shard.value.now r.shape pair) (Err c.in-Err.error)) box c.in-Err.ensures)

pub loop-n-preserved : goal.loop-n-preserved
loop-n-preserved g c =
    let self = c.args.self.now in
    let subchunk = self.subchunk_shape in
    let inner = g.I.ArrayToBytesCodecTraits.meaning self.inner_codecs in
    let elements = elements_of c.args.array.elements.now in
    let shape = c.args.array.shape.now in
    let n = c.loop-n.n in
    let count : c.in-Some.count ≡ product (grid_of shape subchunk) = c.in-Some.ensures.1 ∙ ap product (c.as_slice-grid.ensures.value ∙ c.in_ok-counts.ensures) in
    let is = is_subchunk subchunk inner (g.X.ArrayToBytesCodecTraits.meaning self.index_codecs) (location_of self.index_location) elements shape n c.requires.fit (omega (arith, c.loop-n-test.true, count)) in
    let box : region_of c.in_ok-moved.moved ≡ subchunk_box shape subchunk n = c.in_ok-moved.ensures ∙ ap (λ (es : List ℕ). subchunk_box shape es n) c.as_slice-edges.ensures.edges in
    let are = region_numbers shape subchunk (region_of c.in_ok-moved.moved) n box in
    let before = c.loop-n.invariant.shown in
    let piece = c.in-Ok.ensures in
    let region = region_of c.in_ok-moved.moved in
    let numbers = numbers_of shape region in
    let pair = get_or (pairs_of c.args.shard.index.now) n absent_pair in
    let read : piece_decoded inner elements c.args.shard.value.now (part_shape shape subchunk n) pair ≡ Some piece.0 =
    ap (λ (r : Region). piece_decoded inner elements c.args.shard.value.now r.shape pair) (sym box) ∙ piece.1 in
    let step = decode_step inner elements shape subchunk c.args.shard.value.now (pairs_of c.args.shard.index.now) n numbers before.0 piece.0 is are read before.2 before.3 in
    let many = step.many ∙ length-numbers shape region (sym c.in_ok-moved.moved.same) in
    record {
      shown = (put numbers piece.0 before.0, piece.2 before.0 before.1 many, step.whole, step.shows);
    }

pub returns : goal.returns
returns g c =
    let self = c.args.self.now in
    let subchunk = self.subchunk_shape in
    let inner = g.I.ArrayToBytesCodecTraits.meaning self.inner_codecs in
    let elements = elements_of c.args.array.elements.now in
    let shape = c.args.array.shape.now in
    let count : c.in-Some.count ≡ product (grid_of shape subchunk) = c.in-Some.ensures.1 ∙ ap product (c.as_slice-grid.ensures.value ∙ c.in_ok-counts.ensures) in
    let parts = length-parts shape subchunk in
    let past = c.loop-n-test.false in
    let all : length (parts_of shape subchunk) ≤ c.loop-n.n = omega (arith, count, parts, past) in
    let last = c.loop-n.invariant.shown in
    record {
      cells = last.0;
      is = shown_all inner elements shape subchunk c.args.shard.value.now (pairs_of c.args.shard.index.now) last.0 c.loop-n.n
          (fitted subchunk inner (g.X.ArrayToBytesCodecTraits.meaning self.index_codecs) (location_of self.index_location) elements shape c.requires.fit).cuts c.requires.many all last.2 last.3;
      lists = c.in_ok-into_bytes.ensures last.0 last.1;
    }
