use Rattle.std.proofs.Common.{ℕ, ◌≤◌, subst}
use Rattle.zarr_codecs_meaning.specs.Types.{Elements, IsTooLarge}
use Rattle.zarr_array_core.proofs.array_core.ArrayCore.cell_limit.Goals as goal

pub returns : goal.returns
returns g c =
    subst (λ (e : Elements). (count : ℕ) → (c.limit.result ≤ count → IsTooLarge e.type count) × (IsTooLarge e.type count → c.limit.result ≤ count)) c.elements.ensures c.limit.ensures
