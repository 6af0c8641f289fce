use Rattle.std.proofs.Common.{◌∙◌, List, ℕ, ap, replicate, subst, sym}
use Rattle.std.proofs.lemmas.List.{get_or_default}
use Rattle.std.proofs.lemmas.Result.{IfOk-weaker}
use Rattle.zarr_codecs_meaning.specs.Types.{Cell, Elements}
use Rattle.zarr_codecs_regions.specs.Updates.{put}
use Rattle.zarr_codecs_traits.specs.Indexers.{numbers_of}
use Rattle.zarr_codecs_traits.specs.declared.pieces.PieceSlice.{PieceSlice}
use Rattle.zarr_grids_boxes.specs.Boxes.{product}
use Rattle.zarr_grids_boxes.specs.Subsets.{region_of}
use Rattle.zarr_sharding_places.specs.Boxed.{ShowsBoxes}
use Rattle.zarr_sharding_codec.specs.Pieces.{no_slice}
use Rattle.zarr_sharding_codec.proofs.PartFound.{box_count, found_all, found_box, found_none}
use Rattle.zarr_codecs_arrays.specs.Views.{elements_of}
use Rattle.zarr_sharding_codec.proofs.cut_parts.put_boxes.Goals as goal

pub loop-j-init : goal.loop-j-init
loop-j-init c = record {
  shown = λ part «data» same box can are decoded.
      let count = c.in-Some.count in
      let region = region_of c.args.region.now in
      let many = box_count part region count box c.args.region.now.same (c.in-Some.ensures.1 ∙ ap product c.shape-shape.ensures) in
      found_none (λ (cells : List Cell). ShowsBoxes part.array.elements c.in_ok-filled.filled cells) part c.args.slices.now count many
      (subst (λ (e : Elements). ShowsBoxes e c.in_ok-filled.filled (replicate count e.fill)) (sym same) c.in_ok-filled.ensures);
}

pub loop-j-preserved : goal.loop-j-preserved
loop-j-preserved c = record {
  shown = λ part «data» same box can are decoded.
      let elements = elements_of c.args.elements.now in
      let region = region_of c.args.region.now in
      let j = c.loop-j.j in
      let slices = c.args.slices.now in
      let low = c.loop-j-test.true in
      let places = ap (λ (s : PieceSlice). s.places) (get_or_default slices j no_slice c.index-slices-j.result low) ∙ c.in-InBox.is in
      let target = c.in-InBox.target in
      found_box elements region part «data» slices c.args.found.now j _ target c.index-found-j.result c.loop-j.all c.in_ok-all-in-InBox.all same box can are decoded low places c.index-found-j.is
      (λ cells others shows lists many. subst (λ (l : List ℕ). ShowsBoxes elements c.in_ok-all-in-InBox.all (put (numbers_of l (region_of target)) others cells)) c.shape-shape.ensures (c.in_ok-all-in-InBox.ensures cells others shows lists many))
      (c.loop-j.invariant.shown part «data» same box can are decoded);
}

pub returns : goal.returns
returns c = λ part «data» same box can are decoded covered.
    let last = c.loop-j.invariant.shown part «data» same box can are decoded in
    let is = found_all (λ (cells : List Cell). ShowsBoxes part.array.elements c.loop-j.all cells) part «data» c.args.slices.now c.loop-j.j can are c.loop-j-test.false covered last in
    IfOk-weaker c.into_bytes.result _ _ (λ made lists. record { cells = last.cells; is = is; lists = lists })
    (c.into_bytes.ensures last.cells (subst (λ (e : Elements). ShowsBoxes e c.loop-j.all last.cells) same last.shows))
