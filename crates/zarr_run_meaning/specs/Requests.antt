-- What is asked of a session, and what it answers.
use Rattle.std.specs.Prelude.{ℕ, List, Bool}
use Rattle.serde_json.specs.Data.{Data}
use Rattle.zarr_grids_boxes.specs.Boxes.{Region}
use Rattle.zarr_codecs_meaning.specs.Payloads.{Payload}
use Rattle.zarr_codecs_options.specs.declared.codec_options.CodecOptions.{CodecOptions}
use Rattle.zarr_codecs_options.specs.declared.subchunk_write_order.SubchunkWriteOrder.{SubchunkWriteOrder}
use Rattle.zarr_codecs_types.specs.Given.{GivenCells}
use Rattle.zarr_array_meaning.specs.Writes.{allowed}
use Rattle.zarr_run_meaning.specs.declared.cause.Cause.{Cause}

-- the cells that a command means: those of a box, or those of a chunk
pub data Target : Type 0 where
  in_box : (region : Region) → Target
  in_chunk : (chunk : List ℕ) → Target

-- the cells that a write gives for a target, and how they are stored
pub record WriteAsked : Type 0 where
  pub target : Target
  pub cells : GivenCells
  pub options : CodecOptions

-- the document that a creation gives for a path, and in which order subchunks are written there
pub record Creation : Type 0 where
  pub path : List ℕ
  pub document : Data
  pub order : SubchunkWriteOrder

-- why a command is refused, and of how many chunks it has made its change before
pub data Refusal : Type 0 where
  refusal : (cause : Cause) (applied : ℕ) → Refusal

-- why it is refused
abbrev pub cause_in : Refusal → Cause
cause_in (refusal c n) = c

-- of how many chunks it has made its change before
abbrev pub applied_in : Refusal → ℕ
applied_in (refusal c n) = n

-- a command, without the memory that holds it
pub data Request : Type 0 where
  create : (path : List ℕ) (document : Data) (order : SubchunkWriteOrder) → Request
  reopen : (path : List ℕ) (order : SubchunkWriteOrder) → Request
  write : (path : List ℕ) (target : Target) (cells : GivenCells) (options : CodecOptions) → Request
  read : (path : List ℕ) (target : Target) (options : CodecOptions) → Request
  erase : (path : List ℕ) (chunks : Region) → Request
  compact : (path : List ℕ) (chunk : List ℕ) (options : CodecOptions) → Request
  rewrite : (path : List ℕ) (options : CodecOptions) → Request

-- a reply, without the memory that holds it
pub data Answer : Type 0 where
  done : Answer
  cells : Payload → Answer
  compacted : (changed : Bool) → Answer
  refused : (cause : Cause) (applied : ℕ) → Answer

-- a command as it is run over a store that takes ranges of a value, or doesn't: only where it does is a chunk encoded in part
abbrev pub over_store : Bool → Request → Request
over_store takes_ranges (write path target given options) = write path target given (allowed takes_ranges options)
over_store takes_ranges request = request

-- the path that a command names
abbrev pub path_of : Request → List ℕ
path_of (create path document order) = path
path_of (reopen path order) = path
path_of (write path target values options) = path
path_of (read path target options) = path
path_of (erase path chunks) = path
path_of (compact path chunk options) = path
path_of (rewrite path options) = path
