use Rattle.std.proofs.Common.{◌≡◌, ◌∙◌, List, ℕ, ap, sym}
use Rattle.zarr_grids_boxes.specs.Boxes.{product, ravel}
use Rattle.zarr_grids_boxes.specs.Subsets.{region_of}
use Rattle.zarr_codecs_meaning.specs.Places.{box_of, grid_of}
use Rattle.zarr_codecs_meaning.proofs.Parts.{block}
use Rattle.zarr_sharding_codec.proofs.BoxInSubchunk.{some_place}
use Rattle.zarr_sharding_codec.proofs.NumberedSubchunks.{BeginsIn, extents_are, whole_is}
use Rattle.zarr_sharding_codec.proofs.codec.ShardingCodec.subchunk_of_box.Goals as goal

pub returns : goal.returns
returns g c =
    let shape = c.args.shape.now in
    let subchunk = c.args.self.now.subchunk_shape in
    let region = region_of c.args.region.now in
    let n = c.in_ok-number.number in
    let edges = c.as_slice-edges.result.now in
    let same = c.as_slice-edges.ensures.edges in
    let at_ = c.start-start.ensures in
    let told = c.if-not-is_subchunk.false in
    let start_is : region.start ≡ (box_of shape subchunk (block region.start subchunk)).start =
    sym at_ ∙ (c.is_subchunk.ensures.start told ∙ (ap (λ (s : List ℕ). (box_of shape edges (block s edges)).start) at_ ∙ ap (λ (e : List ℕ). (box_of shape e (block region.start e)).start) same)) in
    let shape_is : region.shape ≡ (box_of shape subchunk (block region.start subchunk)).shape =
    sym c.shape.ensures ∙ (c.is_subchunk.ensures.shape told ∙ (ap (λ (s : List ℕ). (box_of shape edges (block s edges)).shape) at_ ∙ ap (λ (e : List ℕ). (box_of shape e (block region.start e)).shape) same)) in
    let number : n ≡ ravel (block region.start subchunk) (grid_of shape subchunk) =
    c.in_ok-number.ensures.number ∙ (ap (λ (s : List ℕ). ravel (block s edges) (grid_of shape edges)) at_ ∙ ap (λ (e : List ℕ). ravel (block region.start e) (grid_of shape e)) same) in
    let some = some_place (product region.shape) (λ none. let e = c.is_empty.ensures.1 none in let f = c.if-is_empty.false in absurd (cc)) in
    let is : BeginsIn shape subchunk region n = record { cuts = c.requires.cuts; inside = c.requires.inside; same = c.args.region.now.same; some = some; number = number } in
    record { places = whole_is shape subchunk region n is start_is shape_is; shape = shape_is ∙ sym (extents_are shape subchunk region n is) }
