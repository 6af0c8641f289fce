use Rattle.std.proofs.Common.{◌∙◌, map, string_bytes}
use Rattle.clap.specs.Words.{takes}
use Rattle.zarr_run_words.specs.CommandLines.{program}
use Rattle.zarr_run_start.proofs.Endings.{none_of_map, not_taken}
use Rattle.zarr_run_start.proofs.program.run_words.Goals as goal

pub returns-in-Ok-run_root-clause-success : goal.returns-in-Ok-run_root-clause-success
returns-in-Ok-run_root-clause-success g c = λ taken unnamed ended.
    c.in-Ok-run_root.ensures (none_of_map _ c.in-Ok.asked.root (c.in-Ok.ensures.root ∙ unnamed))

pub returns-in-Err-clause-usage : goal.returns-in-Err-clause-usage
returns-in-Err-clause-usage g c = λ two.
    (not_taken (takes program (map string_bytes c.args.words.now)) _ two (λ taken. c.end_by_words.ensures.memory (c.in-Err.ensures.err taken)), c.end_by_words.ensures.usage two)
