-- The program's command line, and what its words ask for.
use Rattle.std.specs.Prelude.{List, Option, Some, Bool, false, codes, bytes_eq}
use Rattle.std.specs.Option.{option_map_or}
use Rattle.clap.specs.Words.{App, Rule, Text, new_app, new_rule, with_rule, matches_of, first_of, one_of}
use Rattle.clap.specs.declared.builder.ArgAction.TheVariants.{SetTrue, Set}

-- the option `--root DIR`
abbrev pub root_rule : Rule
root_rule = record (new_rule (codes "root")) { long = Some (codes "root"); action = Some Set; value_names = 1 }

-- the flag `--workers`
abbrev pub workers_rule : Rule
workers_rule = record (new_rule (codes "workers")) { long = Some (codes "workers"); action = Some SetTrue }

-- the option `--second FILE`
abbrev pub second_rule : Rule
second_rule = record (new_rule (codes "second")) { long = Some (codes "second"); action = Some Set; value_names = 1 }

-- the program's command line, with these three
abbrev pub program : App
program = with_rule (with_rule (with_rule (new_app (codes "zarr_run")) root_rule) workers_rule) second_rule

-- the folder that `clap` finds in words that it takes
abbrev pub root_in : List Text → Option Text
root_in words = first_of (codes "root") (matches_of program words)

-- whether `clap` finds the flag `--workers` in words that it takes
abbrev pub workers_in : List Text → Bool
workers_in words = option_map_or (bytes_eq (codes "true")) (one_of (codes "workers") (matches_of program words)) false

-- the second file that `clap` finds in words that it takes
abbrev pub second_in : List Text → Option Text
second_in words = first_of (codes "second") (matches_of program words)
