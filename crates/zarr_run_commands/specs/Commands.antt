-- Commands and replies without the memory that holds them.
use Rattle.std.specs.Prelude.{string_bytes}
use Rattle.serde_json.specs.Data.{array}
use Rattle.serde_json.specs.View.{view}
use Rattle.zarr_grids_boxes.specs.Subsets.{region_of}
use Rattle.zarr_codecs_arrays.specs.Views.{payload_of}
use Rattle.zarr_codecs_json.specs.Numbers.{number_items}
use Rattle.zarr_codecs_types.specs.Given.{GivenCells, given_bytes, given_json}
use Rattle.zarr_run_meaning.specs.Requests.{in_box, in_chunk, Request, create, reopen, write, read, erase, compact, rewrite, Answer, done, cells, compacted, refused}
use Rattle.zarr_run_commands.specs.declared.command.CommandCells.{CommandCells}
use Rattle.zarr_run_commands.specs.declared.command.CommandCells.TheVariants.{Bytes, Json, Numbers}
use Rattle.zarr_run_commands.specs.declared.command.Command.{Command}
use Rattle.zarr_run_commands.specs.declared.command.Command.TheVariants.{Create, Reopen, WriteBox, WriteChunk, ReadBox, ReadChunk, EraseChunks, Compact, Rewrite}
use Rattle.zarr_run_commands.specs.declared.command.Reply.{Reply}
use Rattle.zarr_run_commands.specs.declared.command.Reply.TheVariants.{Done, Cells, Compacted, Refused}

-- the cells that a command gives
abbrev pub given : CommandCells → GivenCells
given (Bytes bytes) = given_bytes (payload_of bytes)
given (Json value) = given_json (view value)
given (Numbers numbers) = given_json (array (number_items numbers.items))

-- what a command asks
abbrev pub asked : Command → Request
asked (Create path document order) = create (string_bytes path) (view document) order
asked (Reopen path order) = reopen (string_bytes path) order
asked (WriteBox path region values options) = write (string_bytes path) (in_box (region_of region)) (given values) options
asked (WriteChunk path chunk values options) = write (string_bytes path) (in_chunk chunk.items) (given values) options
asked (ReadBox path region options) = read (string_bytes path) (in_box (region_of region)) options
asked (ReadChunk path chunk options) = read (string_bytes path) (in_chunk chunk.items) options
asked (EraseChunks path chunks) = erase (string_bytes path) (region_of chunks)
asked (Compact path chunk options) = compact (string_bytes path) chunk.items options
asked (Rewrite path options) = rewrite (string_bytes path) options

-- what a reply answers
abbrev pub answered : Reply → Answer
answered Done = done
answered (Cells bytes) = cells (payload_of bytes)
answered (Compacted changed) = compacted changed
answered (Refused cause applied) = refused cause applied
