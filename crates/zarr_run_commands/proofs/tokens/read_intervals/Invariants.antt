use Rattle.std.proofs.Common.{◌≡◌, ℕ, ◌≤◌, length}
use Rattle.json.specs.Json.{items, value, parse_map}
use Rattle.zarr_grids_boxes.specs.Boxes.{EndsFit}
use Rattle.zarr_run_commands.proofs.Pairs.{after}
use Rattle.zarr_run_commands.proofs.Saying.{regions}
use Rattle.zarr_run_commands.proofs.tokens.read_intervals.Given as goal

abbrev pub invariant-pairs : goal.invariant-pairs
invariant-pairs l =
    (n : ℕ) × (length l.reader ≤ n)
    × (regions (items (value 125) (length l.initial.reader) l.initial.reader) ≡ parse_map (after l.start.items l.shape.items) (regions (items (value 125) n l.reader)))
    × (length l.reader ≤ length l.initial.reader) × (length l.shape.items ≡ length l.start.items) × EndsFit l.start.items l.shape.items

abbrev pub decreases-pairs : goal.decreases-pairs
decreases-pairs l = length l.reader
