use Rattle.std.proofs.Common.{◌≡◌, ◌∙◌, ◌++◌, List, ℕ, Vec, ap, sym, subst, arith, true}
use Rattle.std.specs.declared.alloc.Global.{Global}
use Rattle.zarr_grids_boxes.specs.Boxes.{product, ravel}
use Rattle.zarr_grids_boxes.specs.Subsets.{region_of}
use Rattle.zarr_codecs_meaning.specs.Places.{box_of, grid_of}
use Rattle.zarr_codecs_meaning.proofs.Parts.{block, inside}
use Rattle.zarr_codecs_traits.specs.Indexers.{numbers_of, shape_has}
use Rattle.zarr_sharding_codec.specs.BoxReading.{LieInside}
use Rattle.zarr_sharding_codec.proofs.BoxInSubchunk.{box_lies, some_place}
use Rattle.zarr_sharding_codec.proofs.NumberedSubchunks.{BeginsIn, around_is, extents_are}
use Rattle.zarr_sharding_codec.proofs.codec.ShardingCodec.subchunk_around.Goals as goal

pub returns-then-is_inside : goal.returns-then-is_inside
returns-then-is_inside g c =
    let shape = c.args.shape.now in
    let subchunk = c.args.self.now.subchunk_shape in
    let region = region_of c.args.region.now in
    let moved = region_of c.in-Ok.region in
    let n = c.in-Some.number in
    let edges = c.as_slice-edges.result.now in
    let same = c.as_slice-edges.ensures.edges in
    let number : n ≡ ravel (block region.start subchunk) (grid_of shape subchunk) =
    c.in-Some.ensures.number ∙ (ap (λ (s : List ℕ). ravel (block s edges) (grid_of shape edges)) c.start.ensures ∙ ap (λ (e : List ℕ). ravel (block region.start e) (grid_of shape e)) same) in
    let some = some_place (product region.shape) (λ none. let e = c.is_empty.ensures.1 none in let f = c.if-is_empty.false in absurd (cc)) in
    let begins : BeginsIn shape subchunk region n = record { cuts = c.requires.cuts; inside = c.requires.inside; same = c.args.region.now.same; some = some; number = number } in
    let rests = c.in_ok-push_remainders.ensures
    ∙ (ap (λ (xs : List ℕ). xs ++ inside c.start-2.result.now edges) c.in_ok-start.ensures.items
    ∙ (ap (λ (s : List ℕ). inside s edges) c.start-2.ensures ∙ ap (inside region.start) same)) in
    let extents = c.as_slice.ensures.value
    ∙ (c.in_ok-push_extents.ensures
    ∙ (ap (λ (xs : List ℕ). xs ++ (box_of shape edges (block c.start-3.result.now edges)).shape) c.in_ok-around.ensures.items
    ∙ (ap (λ (s : List ℕ). (box_of shape edges (block s edges)).shape) c.start-3.ensures ∙ ap (λ (e : List ℕ). (box_of shape e (block region.start e)).shape) same))) in
    let start = ap (λ (v : Vec ℕ Global). v.items) c.in-Ok.ensures.start ∙ rests in
    let lengths = ap (λ (v : Vec ℕ Global). v.items) c.in-Ok.ensures.shape ∙ (c.in_ok-lengths.ensures.items_if_clones_equal (λ x y e. e) ∙ c.shape.ensures) in
    let within : shape_has c.as_slice.result.now moved ≡ true = sym c.is_inside.ensures ∙ c.if-is_inside.true in
    let is = around_is shape subchunk region n begins moved start lengths c.in-Ok.region.same (ap (λ (e : List ℕ). shape_has e moved) (sym extents) ∙ within) in
    let whole = extents ∙ sym (extents_are shape subchunk region n begins) in
    let size = ap product lengths in
    let back = sym c.as_slice.ensures.value in
    record {
      edges = back ∙ whole;
      inside = ap (λ (e : List ℕ). shape_has e moved) back ∙ within;
      some = omega (arith, some, size);
      lie = subst (λ (e : List ℕ). LieInside shape subchunk (numbers_of shape region) (numbers_of e moved) n) (sym (back ∙ whole)) (box_lies shape subchunk region moved n is);
    }
