-- Commands with and without workers.
use Rattle.std.specs.Prelude.{Bool}
use Rattle.zarr_codecs_metadata.specs.Chains.{ReadsCodecs}
use Rattle.zarr_run_meaning.specs.Requests.{Request, write, read, compact, rewrite, Answer}
use Rattle.zarr_run_meaning.specs.Steps.{Step}
use Rattle.zarr_run_meaning.specs.Worlds.{World}

-- a command with this value of the option `workers`, if it has options
abbrev pub with_workers : Bool → Request → Request
with_workers workers (write path target given options) = write path target given (record options { workers = workers })
with_workers workers (read path target options) = read path target (record options { workers = workers })
with_workers workers (compact path chunk options) = compact path chunk (record options { workers = workers })
with_workers workers (rewrite path options) = rewrite path (record options { workers = workers })
with_workers workers request = request

-- workers change nothing that is answered or stored: a step of a command is one of the same command with any value of the option
abbrev pub WorkersAlike : Type 0
WorkersAlike = (reads : ReadsCodecs) (old new : World) (request : Request) (answer : Answer) (workers : Bool)
    → Step reads old request answer new → Step reads old (with_workers workers request) answer new
