use Rattle.std.proofs.Common.{◌≡◌, ◌∙◌, ap, false, rules, string_bytes}
use Rattle.zarr_grids_keys.specs.Paths.{ends_with_slash}
use Rattle.zarr_grids_keys.proofs.KeyEnds.{chunk_key-no_slash}
use Rattle.zarr_array_core.proofs.array_core.ArrayCore.key_of.Goals as goal

pub unreachable-requires : goal.unreachable-requires
unreachable-requires g c =
    let none : ends_with_slash (string_bytes c.in_ok-text.text) ≡ false = ap ends_with_slash c.in_ok-text.ensures ∙ chunk_key-no_slash c.as_str.result.now c.keys.result.now c.args.chunk.now in
    search rules
