use Rattle.std.proofs.Common.{codes, ap, ◌∙◌, map, string_bytes, false}
use Rattle.std.specs.Prelude.{bytes_eq}
use Rattle.std.specs.Option.{option_map_or}
use Rattle.clap.specs.Words.{found_of, one_text}
use Rattle.zarr_run_words.proofs.Found.{flag_reads, found-in, text-in}
use Rattle.zarr_run_words.proofs.read_words.Goals as goal

pub returns-in-Ok-try_get_matches_from-clause-root :
    goal.returns-in-Ok-try_get_matches_from-clause-root
returns-in-Ok-try_get_matches_from-clause-root c =
    c.get_str.ensures ∙ found-in c.in-Ok-try_get_matches_from.matches _ (codes "root") (map string_bytes c.args.words.now) c.in-Ok.ensures c.in-Ok-try_get_matches_from.ensures.matches

pub returns-in-Ok-try_get_matches_from-clause-workers :
    goal.returns-in-Ok-try_get_matches_from-clause-workers
returns-in-Ok-try_get_matches_from-clause-workers c =
    let found = c.in-Ok-try_get_matches_from.matches in
    c.unwrap_or.ensures ∙ flag_reads _ (one_text (found_of found) (codes "workers")) c.get_one.result c.get_one.ensures.none c.get_one.ensures.value
    ∙ ap (λ text. option_map_or (bytes_eq (codes "true")) text false) (text-in found _ (codes "workers") (map string_bytes c.args.words.now) c.in-Ok.ensures c.in-Ok-try_get_matches_from.ensures.matches)

pub returns-in-Ok-try_get_matches_from-clause-second :
    goal.returns-in-Ok-try_get_matches_from-clause-second
returns-in-Ok-try_get_matches_from-clause-second c =
    c.get_str-in-Ok-try_get_matches_from.ensures ∙ found-in c.in-Ok-try_get_matches_from.matches _ (codes "second") (map string_bytes c.args.words.now) c.in-Ok.ensures c.in-Ok-try_get_matches_from.ensures.matches
