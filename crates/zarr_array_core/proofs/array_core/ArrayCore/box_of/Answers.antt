use Rattle.std.proofs.Common.{rules, ◌≡◌, ◌++◌, length, take, drop}
use Rattle.std.proofs.lemmas.List.{take_at}
use Rattle.zarr_grids_boxes.specs.Boxes.{EndsFit}
use Rattle.zarr_grids_cover.proofs.ChunkBoxes.{chunk_box-fits}
use Rattle.zarr_grids_dimensions.specs.Dimensions.{grid_of}
use Rattle.zarr_array_core.proofs.array_core.ArrayCore.box_of.Goals as goal

pub invariant_of-result : goal.invariant_of-result
invariant_of-result g c =
    let start = c.chunk_box_into.new.origin in
    let shape = c.chunk_box_into.new.shape in
    let first : length start ≡ c.resize.new.self.len = search rules in
    let long : length shape ≡ c.resize-2.new.self.len = search rules in
    let starts : take c.resize.new.self.len (start ++ drop (length start) c.resize.new.self.items) ≡ start = take_at start (drop (length start) c.resize.new.self.items) c.resize.new.self.len first in
    let shapes : take c.resize-2.new.self.len (shape ++ drop (length shape) c.resize-2.new.self.items) ≡ shape = take_at shape (drop (length shape) c.resize-2.new.self.items) c.resize-2.new.self.len long in
    let alike : length shape ≡ length start = search rules in
    let fits : EndsFit start shape = chunk_box-fits (grid_of c.dimensions-grid.result.now) c.args.chunk.now (record { start = start; shape = shape }) c.chunk_box_into.ensures.written.has_box in
    record { same = rw (starts, shapes) alike; fit = rw (starts, shapes) fits }
