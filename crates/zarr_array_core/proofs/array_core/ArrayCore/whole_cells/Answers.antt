use Rattle.std.proofs.Common.{◌≡◌, ◌∙◌, sym, subst, ap, length, true}
use Rattle.zarr_grids_boxes.specs.Boxes.{Region, product, is_in_box}
use Rattle.zarr_grids_boxes.specs.Subsets.{region_of}
use Rattle.zarr_grids_overlay.specs.Overlays.{extent_of}
use Rattle.zarr_codecs_arrays.specs.Outcomes.{IsCounted}
use Rattle.zarr_codecs_arrays.specs.Views.{payload_of}
use Rattle.zarr_array_elements.specs.Boxes.{AreTakenOut}
use Rattle.zarr_array_core.specs.BoxWrites.{write_of}
use Rattle.zarr_array_core.specs.Views.{document_of, array_cells}
use Rattle.zarr_array_meaning.proofs.HeldBoxes.{held_place}
use Rattle.zarr_array_core.proofs.ChunkCells.{whole_become}
use Rattle.zarr_array_core.proofs.array_core.ArrayCore.whole_cells.Goals as goal

pub take_out-requires-clause-given : goal.take_out-requires-clause-given
take_out-requires-clause-given g c =
    let document = document_of g.C.ArrayToBytesCodecTraits.meaning c.args.self.now in
    subst (λ n. IsCounted document.elements.type (payload_of c.args.write.now.bytes.now) n (array_cells c.args.self.now c.args.write.now.bytes.now)) (sym (ap (λ (r : Region). product r.shape) c.args.write.now.same_box)) c.requires.many

pub take_out-requires-clause-rank : goal.take_out-requires-clause-rank
take_out-requires-clause-rank g c = sym c.requires.rank ∙ sym (ap (λ (r : Region). length r.start) c.args.write.now.same_box)

pub take_out-requires-clause-inside : goal.take_out-requires-clause-inside
take_out-requires-clause-inside g c = λ place t.
    let box : Region = region_of c.args.own.now in
    let region : Region = extent_of c.args.write.now.region in
    subst (λ (r : Region). is_in_box r.start r.shape place ≡ true) (sym c.args.write.now.same_box) (held_place region box place (sym c.args.write.now.region.same) (sym c.args.own.now.same) c.requires.rank c.requires.holds t)

pub returns-clause-ok : goal.returns-clause-ok
returns-clause-ok g c = λ stored.
    let document = document_of g.C.ArrayToBytesCodecTraits.meaning c.args.self.now in
    let box : Region = region_of c.args.own.now in
    let region : Region = extent_of c.args.write.now.region in
    let given = array_cells c.args.self.now c.args.write.now.bytes.now in
    let made = array_cells c.args.self.now c.in_ok-take_out.field-0 in
    let taken : AreTakenOut document.elements.fill box region given made = subst (λ (r : Region). AreTakenOut document.elements.fill box r given made) c.args.write.now.same_box c.in_ok-take_out.ensures.cells in
    whole_become (write_of g.C.ArrayToBytesCodecTraits c.args.self.now c.args.write.now) box made stored taken (sym c.args.write.now.region.same) (sym c.args.own.now.same) c.requires.rank c.args.self.now.elements.fills c.requires.values c.requires.holds
