use Rattle.std.proofs.Common.{rules, ap, ap₂, ◌∙◌}
use Rattle.clap.specs.Simple.{app_of_fields}
use Rattle.clap.specs.Words.{with_rule}
use Rattle.zarr_run_words.proofs.command_line.command_line.Goals as goal

pub returns : goal.returns
returns c =
    ap app_of_fields c.about.ensures ∙
    (c.in_ok-whole.ensures.shape (search rules) ∙ ap₂ with_rule
    (c.in_ok-with_workers.ensures.shape (search rules) ∙ ap₂ with_rule
    (c.in_ok-with_root.ensures.shape (search rules) ∙ ap₂ with_rule c.new-bare.ensures.app c.root.ensures.rule) c.workers.ensures.rule) c.second.ensures.rule)
