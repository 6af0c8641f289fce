use Rattle.std.proofs.Common.{ℕ, ◌≤◌, subst}
use Rattle.zarr_codecs_meaning.specs.Types.{IsTooLarge}
use Rattle.zarr_codecs_arrays.proofs.elements.Elements.limit.Goals as goal

pub returns : goal.returns
returns c =
    subst (λ type. (count : ℕ) → (c.type_limit.result ≤ count → IsTooLarge type count) × (IsTooLarge type count → c.type_limit.result ≤ count)) c.data_type.ensures c.type_limit.ensures
