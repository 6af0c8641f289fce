use Rattle.std.proofs.Common.{◌≡◌, ◌∙◌, ℕ, List, sym, subst, ap, length, true, Some}
use Rattle.zarr_grids_boxes.specs.Boxes.{Region, product, share_place}
use Rattle.zarr_grids_boxes.specs.Subsets.{region_of}
use Rattle.zarr_grids_overlay.specs.Overlays.{extent_of}
use Rattle.zarr_codecs_meaning.specs.Chunks.{chunk_decoded}
use Rattle.zarr_codecs_arrays.specs.Outcomes.{IsCounted}
use Rattle.zarr_codecs_arrays.specs.Views.{payload_of}
use Rattle.zarr_array_elements.specs.Boxes.{ArePutOver, cells_at}
use Rattle.zarr_array_storage.specs.Stores.{value_bytes}
use Rattle.zarr_array_core.specs.BoxWrites.{write_of}
use Rattle.zarr_array_core.specs.Views.{document_of, array_cells}
use Rattle.zarr_array_core.proofs.ChunkCells.{part_become}
use Rattle.zarr_array_core.proofs.ChunkPayloads.{decoded_chunk_values}
use Rattle.zarr_array_core.proofs.array_core.ArrayCore.part_cells.Goals as goal

pub put_over-requires-clause-given : goal.put_over-requires-clause-given
put_over-requires-clause-given g c =
    let document = document_of g.C.ArrayToBytesCodecTraits.meaning c.args.self.now in
    subst (λ n. IsCounted document.elements.type (payload_of c.args.write.now.bytes.now) n (array_cells c.args.self.now c.args.write.now.bytes.now)) (sym (ap (λ (r : Region). product r.shape) c.args.write.now.same_box)) c.requires.many

pub put_over-requires-clause-rank : goal.put_over-requires-clause-rank
put_over-requires-clause-rank g c = ap (λ (r : Region). length r.start) c.args.write.now.same_box ∙ c.requires.rank

pub put_over-requires-clause-shares : goal.put_over-requires-clause-shares
put_over-requires-clause-shares g c =
    subst (λ (r : Region). share_place c.args.own.now.start.items c.args.own.now.shape.items r.start r.shape ≡ true) (sym c.args.write.now.same_box) c.requires.shares

pub returns-clause-ok : goal.returns-clause-ok
returns-clause-ok g c =
    let document = document_of g.C.ArrayToBytesCodecTraits.meaning c.args.self.now in
    let box : Region = region_of c.args.own.now in
    let region : Region = extent_of c.args.write.now.region in
    let stored = value_bytes c.args.stored in
    let given = array_cells c.args.self.now c.args.write.now.bytes.now in
    let before = array_cells c.args.self.now c.in_ok-before.before in
    let made = array_cells c.args.self.now c.in_ok-put_over.field-0 in
    let put : ArePutOver document.elements.fill (cells_at region given) (cells_at box before) made = subst (λ (r : Region). ArePutOver document.elements.fill (cells_at r given) (cells_at box before) made) c.args.write.now.same_box c.in_ok-put_over.ensures.cells in
    let is : chunk_decoded document.chain document.elements box.shape stored ≡ Some before = subst (λ (shape : List ℕ). chunk_decoded document.chain document.elements shape stored ≡ Some before) c.shape.ensures c.in_ok-before.ensures.ok in
    let values = decoded_chunk_values document.chain document.elements box.shape stored before c.args.self.now.elements.fills c.requires.fit is in
    part_become (write_of g.C.ArrayToBytesCodecTraits c.args.self.now c.args.write.now) box before made stored put (sym c.args.own.now.same) c.args.self.now.elements.fills c.requires.values values is
