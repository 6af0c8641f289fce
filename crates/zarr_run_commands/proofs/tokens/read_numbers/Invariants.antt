use Rattle.std.proofs.Common.{◌≡◌, ℕ, ◌≤◌, length}
use Rattle.json.specs.Json.{items, value, parse_map}
use Rattle.serde_json.specs.Read.{of_items, converted}
use Rattle.zarr_run_commands.proofs.Turns.{numbers_before}
use Rattle.zarr_run_commands.proofs.tokens.read_numbers.Given as goal

abbrev pub invariant-items : goal.invariant-items
invariant-items l =
    (n : ℕ) × (length l.reader ≤ n)
    × (converted of_items (items (value 125) (length l.initial.reader) l.initial.reader) ≡ parse_map (numbers_before l.found.items) (converted of_items (items (value 125) n l.reader)))
    × (length l.reader ≤ length l.initial.reader)

abbrev pub decreases-items : goal.decreases-items
decreases-items l = length l.reader
