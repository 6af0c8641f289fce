use Rattle.std.proofs.Common.{◌∙◌, List, ℕ, ap, length, replicate, subst, sym}
use Rattle.std.proofs.lemmas.List.{get_or_default}
use Rattle.std.proofs.lemmas.Result.{IfOk-weaker}
use Rattle.zarr_codecs_arrays.specs.Views.{elements_of}
use Rattle.zarr_codecs_meaning.specs.Types.{Cell, Elements}
use Rattle.zarr_codecs_regions.specs.Updates.{put}
use Rattle.zarr_codecs_traits.specs.Indexers.{Asked, numbers_asked}
use Rattle.zarr_codecs_traits.specs.declared.pieces.PieceSlice.{PieceSlice}
use Rattle.zarr_sharding_places.specs.Placed.{Shows}
use Rattle.zarr_sharding_codec.specs.Pieces.{no_slice}
use Rattle.zarr_sharding_codec.proofs.PartFound.{found_all, found_list, found_none}
use Rattle.zarr_sharding_codec.proofs.cut_parts.put_listed.Goals as goal

pub loop-j-init : goal.loop-j-init
loop-j-init c = record {
  shown = λ numbers long part «data» same list can are decoded.
      let count = c.args.count in
      let many = sym long ∙ sym (ap (λ (a : Asked). length (numbers_asked part.array.shape a)) list) in
      found_none (λ (cells : List Cell). Shows part.array.elements c.in_ok-filled.filled cells) part c.args.slices.now count many
      (subst (λ (e : Elements). Shows e c.in_ok-filled.filled (replicate count e.fill)) (sym same) c.in_ok-filled.ensures);
}

pub loop-j-preserved : goal.loop-j-preserved
loop-j-preserved c = record {
  shown = λ numbers long part «data» same list can are decoded.
      let elements = elements_of c.args.elements.now in
      let j = c.loop-j.j in
      let slices = c.args.slices.now in
      let low = c.loop-j-test.true in
      let places = ap (λ (s : PieceSlice). s.places) (get_or_default slices j no_slice c.index-slices-j.result low) ∙ c.in-Listed.is in
      let positions = c.in-Listed.positions in
      found_list elements numbers part «data» slices c.args.found.now j _ positions c.index-found-j.result c.loop-j.all c.in_ok-all-in-Listed.all same list can are decoded low places c.index-found-j.is
      (λ cells others shows lists many. subst (λ (l : List ℕ). Shows elements c.in_ok-all-in-Listed.all (put l others cells)) c.as_slice.ensures.value (c.in_ok-all-in-Listed.ensures cells others shows lists (many ∙ ap (λ (l : List ℕ). length l) (sym c.as_slice.ensures.value))))
      (c.loop-j.invariant.shown numbers long part «data» same list can are decoded);
}

pub returns : goal.returns
returns c = λ numbers long part «data» same list can are decoded covered.
    let last = c.loop-j.invariant.shown numbers long part «data» same list can are decoded in
    let is = found_all (λ (cells : List Cell). Shows part.array.elements c.loop-j.all cells) part «data» c.args.slices.now c.loop-j.j can are c.loop-j-test.false covered last in
    IfOk-weaker c.gather.result _ _ (λ made lists. record { cells = last.cells; is = is; lists = lists })
    (c.gather.ensures last.cells (subst (λ (e : Elements). Shows e c.loop-j.all last.cells) same last.shows))
