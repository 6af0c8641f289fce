use Rattle.std.proofs.Common.{◌≡◌, ℕ, List, Option, IsTrue, refl}
use Rattle.std.specs.FinMap.{get}
use Rattle.std.proofs.lemmas.Result.{IfOk-weaker}
use Rattle.zarr_codecs_arrays.specs.declared.array_bytes.ArrayBytes.{ArrayBytes}
use Rattle.zarr_grids_boxes.specs.Subsets.{region_of}
use Rattle.zarr_grids_overlay.specs.Overlays.{extent_of}
use Rattle.zarr_array_core.specs.BoxWrites.{write_of}
use Rattle.zarr_array_core.specs.ChunkValues.{CellsBecome}
use Rattle.zarr_array_core.specs.Views.{array_cells}
use Rattle.zarr_array_core.proofs.ChunkCells.{shares_some}
use Rattle.zarr_array_core.proofs.array_core.ArrayCore.cells_after.Goals as goal

pub returns-then-holds_box-clause-ok : goal.returns-then-holds_box-clause-ok
returns-then-holds_box-clause-ok g c =
    let found = get (g.S.ReadableStorageTraits.held c.args.store.now) c.args.key.now in
    let becomes : Option (List ℕ) → ArrayBytes → Type 0 = λ stored bytes.
    CellsBecome (write_of g.C.ArrayToBytesCodecTraits c.args.self.now c.args.write.now) (region_of c.args.own.now) stored (array_cells c.args.self.now bytes) in
    IfOk-weaker c.whole_cells.result (λ bytes. (stored : Option (List ℕ)) → becomes stored bytes)
    (λ bytes. (stored : Option (List ℕ)) × (IsTrue (g.S.ReadableStorageTraits.is_honest c.args.store.now) → stored ≡ found) × becomes stored bytes)
    (λ bytes law. (found, (λ honest. refl), law found)) c.whole_cells.ensures.ok

pub whole_cells-requires-clause-some : goal.whole_cells-requires-clause-some
whole_cells-requires-clause-some g c κs within = shares_some (extent_of c.args.write.now.region) (region_of c.args.own.now) c.requires.writes.shares
