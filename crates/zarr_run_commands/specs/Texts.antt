-- The texts of answers, part by part.
use Rattle.std.specs.Prelude.{ℕ, List, ◌++◌, codes, decimal}
use Rattle.zarr_run_meaning.specs.declared.cause.Cause.{Cause}
use Rattle.zarr_run_commands.specs.Answers.{cause_name}

-- the end of a refusal: its cause
abbrev pub cause_text : Cause → List ℕ
cause_text cause = codes ",\"refused\":\"" ++ (cause_name cause ++ codes "\"}")

-- the answer with this refusal
abbrev pub refusal_text : Cause → ℕ → List ℕ
refusal_text cause applied = codes "{\"applied\":" ++ (decimal applied ++ cause_text cause)
