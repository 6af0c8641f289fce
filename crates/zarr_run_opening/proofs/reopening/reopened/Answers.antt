use Rattle.std.proofs.Common.{ap, subst, sym, ◌∙◌, Option, Ok}
use Rattle.zarr_run_opening.specs.Reopenings.{Reopening, Reopened}
use Rattle.zarr_run_opening.specs.Sessions.{array_at}
use Rattle.zarr_run_opening.specs.declared.held.HeldArray.{HeldArray}
use Rattle.zarr_run_opening.proofs.reopening.reopened.Goals as goal

pub returns-in-Ok-hold-clause-found : goal.returns-in-Ok-hold-clause-found
returns-in-Ok-hold-clause-found g c = λ honest.
    let codec = g.B.BytesToBytesCodecTraits in
    let given : Reopening g.row.B.Denot = record { path = c.args.path.now; order = c.args.order; arrays = c.args.arrays.now; store = g.S.ReadableStorageTraits.held c.args.store.now } in
    let P : Option (HeldArray g.row.B.Denot) → Type 0 = λ o. Reopened (codec.meaning, codec.reads) given o (Ok tt) c.hold.new.arrays in
    subst P c.in_default.ensures (c.in-Ok-open.array, ap (array_at c.hold.new.arrays) (sym c.in-Ok-from_str.ensures.ok) ∙ c.in-Ok-hold.ensures.held, c.in-Ok-open.ensures.ok honest)
