use Rattle.std.proofs.Common.{◌≡◌, ◌∙◌, ◌<◌, List, ℕ, ap, sym, refl, subst, arith, true}
use Rattle.zarr_grids_boxes.specs.Boxes.{Region, is_in_box, product}
use Rattle.zarr_grids_boxes.specs.Cuts.{overlapped, relative}
use Rattle.zarr_grids_boxes.specs.Subsets.{region_of}
use Rattle.zarr_codecs_meaning.specs.Places.{grid_of}
use Rattle.zarr_codecs_meaning.proofs.Parts.{length-parts}
use Rattle.zarr_codecs_traits.specs.Indexers.{numbers_of, shape_has}
use Rattle.zarr_sharding_places.specs.Locating.{subchunk_box}
use Rattle.zarr_sharding_codec.specs.BoxReading.{StandIn, cut_places}
use Rattle.zarr_sharding_codec.proofs.BoxCuts.{IsPiece, piece_stands}
use Rattle.zarr_sharding_codec.proofs.BoxInSubchunk.{is_around, some_place}
use Rattle.zarr_sharding_codec.proofs.codec.ShardingCodec.cut_at.Goals as goal

pub subchunk_region-requires-clause-grid : goal.subchunk_region-requires-clause-grid
subchunk_region-requires-clause-grid g c = c.as_slice-grid.ensures.value ∙ (c.in_ok-counted.ensures ∙ ap (grid_of c.args.shape.now) (sym c.as_slice-edges.ensures.edges))

pub subchunk_region-requires-clause-below : goal.subchunk_region-requires-clause-below
subchunk_region-requires-clause-below g c =
    let shape = c.args.shape.now in
    let subchunk = c.args.self.now.subchunk_shape in
    let below = c.requires.below in
    let many = length-parts shape subchunk in
    let grid = ap product (c.as_slice-grid.ensures.value ∙ c.in_ok-counted.ensures) in
    omega (arith, below, many, grid)

pub returns : goal.returns
returns g c =
    let shape = c.args.shape.now in
    let subchunk = c.args.self.now.subchunk_shape in
    let region = region_of c.args.region.now in
    let n = c.args.number in
    let around = region_of c.in_ok-around.around in
    let both = c.in-Ok.both in
    let inside = c.in-Ok-relative_to.inside in
    let target = c.in-Ok-relative_to-2.target in
    let below = c.requires.below in
    let many = length-parts shape subchunk in
    let low : n < product (grid_of shape subchunk) = omega (arith, below, many) in
    let box : around ≡ subchunk_box shape subchunk n = c.in_ok-around.ensures ∙ ap (λ (e : List ℕ). subchunk_box shape e n) c.as_slice-edges.ensures.edges in
    let some = some_place (product both.shape.items) (λ none. let e = c.is_empty.ensures.1 none in let f = c.if-is_empty.false in absurd (cc)) in
    let begins = ap (is_in_box around.start around.shape) (sym c.start.ensures) ∙ (sym c.contains.ensures ∙ c.if-not-contains.false) in
    let moved = c.in-Ok-relative_to.ensures.made ∙ ap (relative (region_of both)) c.start-2.ensures in
    let within : shape_has around.shape (region_of inside) ≡ true = ap (λ s. shape_has s (region_of inside)) (sym c.shape.ensures) ∙ (sym c.is_inside.ensures ∙ c.if-not-is_inside.false) in
    let here = is_around shape subchunk around (region_of both) (region_of inside) n c.requires.cuts low box begins both.same moved inside.same within in
    let is : IsPiece shape subchunk region (region_of both) (region_of inside) (region_of target) n = record {
      around = here;
      inside = c.requires.inside;
      same = c.args.region.now.same;
      some = some;
      overlap = c.in-Ok.ensures.made ∙ ap (overlapped region) box;
      target_is = c.in-Ok-relative_to-2.ensures.made ∙ ap (relative (region_of both)) c.start-3.ensures;
      target_long = target.same;
      target_in = ap (λ s. shape_has s (region_of target)) (sym c.shape-else-not-is_inside.ensures) ∙ (sym c.is_inside-else-not-is_inside.ensures ∙ c.if-not-is_inside-2.false);
    } in
    let edges = ap (λ (b : Region). b.shape) box in
    let size = ap product here.shape_is in
    record {
      number = refl;
      edges = edges;
      inside = within;
      some = omega (arith, some, size);
      stand = subst (λ (e : List ℕ). StandIn (cut_places shape subchunk (numbers_of shape region)) (numbers_of region.shape (region_of target)) (numbers_of e (region_of inside)) n) (sym edges)
          (piece_stands shape subchunk region (region_of both) (region_of inside) (region_of target) n is);
    }
