-- What a run of the program does.
use Rattle.std.specs.Prelude.{ℕ, List, Option}
use Rattle.zarr_run_meaning.specs.Worlds.{World}
use Rattle.zarr_run_lines.specs.Lines.{Setting, Output, RunsAll}

-- from a world, all lines of an input were run, and a line of answer to each was written after what there was before
abbrev pub RunsAllFrom : Setting → World → Option (List ℕ) → Output → Type 0
RunsAllFrom setting old input written = (new : World) × RunsAll setting input written old new
