-- What writes of cells ask of one array, over a store that takes ranges of a value or doesn't.
use Rattle.std.specs.Prelude.{Bool}
use Rattle.zarr_grids_boxes.specs.Boxes.{Region}
use Rattle.zarr_codecs_arrays.specs.Views.{payload_of}
use Rattle.zarr_codecs_types.specs.Given.{given_bytes}
use Rattle.zarr_array_meaning.specs.Writes.{allowed}
use Rattle.zarr_run_commands.specs.Commands.{given}
use Rattle.zarr_run_meaning.specs.Requests.{Target, WriteAsked}
use Rattle.zarr_run_boxes.specs.Outcomes.{BoxAsked}
use Rattle.zarr_run_boxes.specs.declared.cell_write.CellWrite.{CellWrite}
use Rattle.zarr_run_boxes.specs.declared.cell_write.ElementWrite.{ElementWrite}

-- the cells that a command gives for a target, and how they are stored: a chunk is encoded in part only where the store takes ranges of a value
abbrev pub asked_of : Bool → Target → CellWrite → WriteAsked
asked_of takes_ranges target write = record { target = target; cells = given write.cells.now; options = allowed takes_ranges write.options.now }

-- the cells that a command gives for a covered box, and how they are stored
abbrev pub box_asked : Bool → Region → CellWrite → BoxAsked
box_asked takes_ranges region write = record { region = region; cells = given write.cells.now; options = allowed takes_ranges write.options.now }

-- elements as the cells for a covered box, and how they are stored
abbrev pub elements_asked : Bool → Region → ElementWrite → BoxAsked
elements_asked takes_ranges region write = record { region = region; cells = given_bytes (payload_of write.elements.now); options = allowed takes_ranges write.options.now }
