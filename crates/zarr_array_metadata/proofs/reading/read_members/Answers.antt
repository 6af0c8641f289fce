use Rattle.std.proofs.Common.{◌≡◌, ◌≢◌, length, codes, true, Some, Err, rules, sym}
use Rattle.serde_json.specs.Find.{get_member}
use Rattle.serde_json.specs.View.{view, members_view}
use Rattle.zarr_grids_configurations.specs.Grids.{grid_in}
use Rattle.zarr_grids_chunk_grids.specs.Grids.{edges_of_grid, grid_of_chunks}
use Rattle.zarr_array_meaning.specs.Documents.{read_members, document_of}
use Rattle.zarr_array_meaning.specs.Parts.{has_no_transformers}
use Rattle.zarr_array_meaning.specs.declared.error.DocumentError.TheVariants.{Memory}
use Rattle.zarr_array_fields.specs.Grids.{grid_for}
use Rattle.zarr_array_fields.proofs.ChunkGrids.{members_refused, members_refused_at_fill, members_refused_at_keys}
use Rattle.zarr_array_metadata.proofs.reading.read_members.Goals as goal

pub returns-in_err-grid-clause-err : goal.returns-in_err-grid-clause-err
returns-in_err-grid-clause-err g c =
    let ms = members_view c.args.members.now.entries in
    let e = c.in_err-grid.field-0.0 in
    let refused : e ≢ Memory → document_of (read_members g.B.BytesToBytesCodecTraits.reads ms) ≡ Err e = λ h.
    let grid : grid_for c.in_ok-fields.fields.shape.items (view c.in_ok-fields.fields.chunk_grid.now) ≡ Err e = rw (← c.deref.ensures.value) (c.in_err-grid.ensures.err h) in
    members_refused g.B.BytesToBytesCodecTraits.reads ms _ _ _ e c.in_ok-fields.ensures.ok (sym c.if-must_understand_any.ensures) c.in_ok-codecs.ensures.ok c.in_ok-data_type.ensures.ok grid in
    search (rules, refused)

pub returns-in_err-elements-clause-err : goal.returns-in_err-elements-clause-err
returns-in_err-elements-clause-err g c =
    let ms = members_view c.args.members.now.entries in
    let e = c.in_err-elements.field-0.0 in
    let grid = c.in_ok-grid.grid in
    let shape = c.in_ok-fields.fields.shape.items in
    let same : length (edges_of_grid grid) ≡ length shape = rw (← c.deref.ensures.value) c.in_ok-grid.ensures.same in
    let made : grid_in shape (edges_of_grid grid) ≡ Some (grid_of_chunks grid) = rw (← c.deref.ensures.value) c.in_ok-grid.ensures.grid in
    let refused : e ≢ Memory → document_of (read_members g.B.BytesToBytesCodecTraits.reads ms) ≡ Err e = λ h.
    members_refused_at_fill g.B.BytesToBytesCodecTraits.reads ms _ _ _ (edges_of_grid grid) (grid_of_chunks grid) e c.in_ok-fields.ensures.ok (sym c.if-must_understand_any.ensures) c.in_ok-codecs.ensures.ok c.in_ok-data_type.ensures.ok
    c.in_ok-grid.ensures.configuration same made (c.in_err-elements.ensures.err h) in
    search (rules, refused)

pub returns-in_err-keys-clause-err : goal.returns-in_err-keys-clause-err
returns-in_err-keys-clause-err g c =
    let ms = members_view c.args.members.now.entries in
    let e = c.in_err-keys.field-0.0 in
    let grid = c.in_ok-grid.grid in
    let shape = c.in_ok-fields.fields.shape.items in
    let same : length (edges_of_grid grid) ≡ length shape = rw (← c.deref.ensures.value) c.in_ok-grid.ensures.same in
    let made : grid_in shape (edges_of_grid grid) ≡ Some (grid_of_chunks grid) = rw (← c.deref.ensures.value) c.in_ok-grid.ensures.grid in
    let none : has_no_transformers (get_member (codes "storage_transformers") ms) ≡ true = search rules in
    let refused : e ≢ Memory → document_of (read_members g.B.BytesToBytesCodecTraits.reads ms) ≡ Err e = λ h.
    members_refused_at_keys g.B.BytesToBytesCodecTraits.reads ms _ _ _ (edges_of_grid grid) (grid_of_chunks grid) _ e c.in_ok-fields.ensures.ok (sym c.if-must_understand_any.ensures) c.in_ok-codecs.ensures.ok c.in_ok-data_type.ensures.ok
    c.in_ok-grid.ensures.configuration same made c.in_ok-elements.ensures.fill none (c.in_err-keys.ensures.err h) in
    search (rules, refused)
