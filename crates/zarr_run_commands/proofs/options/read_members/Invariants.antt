use Rattle.std.proofs.Common.{◌≡◌, ℕ, ◌≤◌, length, Some}
use Rattle.json.specs.Json.{members, value}
use Rattle.serde_json.specs.Data.{Members, no_members}
use Rattle.serde_json.specs.Read.{of_members, converted}
use Rattle.zarr_run_commands.specs.Lines.{options_of}
use Rattle.zarr_run_commands.proofs.options.read_members.Given as goal

abbrev pub invariant-members : goal.invariant-members
invariant-members l =
    (n : ℕ) × (ms : Members) × (options_of l.fn.workers ms ≡ Some l.options) × (length l.reader ≤ n)
    × (converted (λ js. of_members js no_members) (members (value 125) (length l.initial.reader) l.initial.reader) ≡ converted (λ js. of_members js ms) (members (value 125) n l.reader))
    × (length l.reader ≤ length l.initial.reader)

abbrev pub decreases-members : goal.decreases-members
decreases-members l = length l.reader
