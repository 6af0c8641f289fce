use Rattle.std.proofs.Common.{◌≡◌, ◌∙◌, ap, false, rules, string_bytes}
use Rattle.zarr_grids_keys.specs.Paths.{ends_with_slash}
use Rattle.zarr_run_opening.proofs.OpeningLemmas.{document_key-no_slash}
use Rattle.zarr_run_opening.proofs.store_calls.store_key.Goals as goal

pub unreachable-requires : goal.unreachable-requires
unreachable-requires c =
    let none : ends_with_slash (string_bytes c.in_ok-text.text) ≡ false = ap ends_with_slash c.in_ok-text.ensures ∙ document_key-no_slash c.args.path.now c.args.name in
    search rules
