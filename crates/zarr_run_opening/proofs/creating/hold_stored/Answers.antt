use Rattle.std.proofs.Common.{ℕ, List, subst}
use Rattle.zarr_run_opening.specs.Arrays.{KeepsOtherArrays}
use Rattle.zarr_run_opening.proofs.ArrayLemmas.{kept_back}
use Rattle.zarr_run_opening.proofs.creating.hold_stored.Goals as goal

pub returns-clause-arrays : goal.returns-clause-arrays
returns-clause-arrays g c =
    let P : List ℕ → Type 0 = λ p. KeepsOtherArrays p c.args.arrays.now c.hold.new.arrays in
    kept_back c.args.arrays.now c.hold.new.arrays c.release.new.arrays c.args.path.now c.requires.free (subst P c.requires.at c.in-Ok.ensures.others) c.release.ensures.gone c.release.ensures.others
