-- No command of a run is refused for damage, where each array begins over chunks that stand for cells.
use Rattle.std.proofs.Common.{zero, suc, [], ◌∷◌, subst}
use Rattle.std.proofs.lemmas.Option.{none-some, same_Some}
use Rattle.zarr_codecs_metadata.specs.Chains.{ReadsCodecs}
use Rattle.zarr_run_meaning.specs.declared.cause.Cause.TheVariants as cause
use Rattle.zarr_run_meaning.specs.Laws.{IsUndamaged, RunsUndamaged, OwnedRunsUndamaged}
use Rattle.zarr_run_meaning.specs.Requests.{Request, read, compact, rewrite, Answer, refused}
use Rattle.zarr_run_meaning.specs.Sound.{IsSound, ReadsGood}
use Rattle.zarr_run_meaning.specs.Steps.{Step}
use Rattle.zarr_run_meaning.specs.Worlds.{World}
use Rattle.zarr_run_meaning.proofs.Reading.{never_damaged, reads_fit}
use Rattle.zarr_run_meaning.proofs.Sound.{steps_sound, owned_run}

step_undamaged : (reads : ReadsCodecs) (old new : World) (request : Request) (answer : Answer) → ReadsGood reads → IsSound reads old → Step reads old request answer new → IsUndamaged request answer
step_undamaged reads old new request (refused cause.Damage n) good sound s = (never_damaged reads old new request n good sound).0 s
step_undamaged reads old new request (refused cause.DocumentChanged n) good sound s = (never_damaged reads old new request n good sound).1 s
step_undamaged reads old new (read path target options) (refused cause.Fit n) good sound s = reads_fit reads old new (read path target options) n sound tt s
step_undamaged reads old new (compact path chunk options) (refused cause.Fit n) good sound s = reads_fit reads old new (compact path chunk options) n sound tt s
step_undamaged reads old new (rewrite path options) (refused cause.Fit n) good sound s = reads_fit reads old new (rewrite path options) n sound tt s
step_undamaged reads old new request answer good sound s = tt

pub runs_undamaged : RunsUndamaged
runs_undamaged reads old new [] answers good sound r n request answer e f = absurd (none-some request e)
runs_undamaged reads old new (first ∷ requests) [] good sound r n request answer e f = absurd r
runs_undamaged reads old new (first ∷ requests) (given ∷ answers) good sound r zero request answer e f =
    let P : Request → Type 0 = λ q. IsUndamaged q answer in
    let Q : Answer → Type 0 = λ a. IsUndamaged first a in
    subst P (same_Some first request e) (subst Q (same_Some given answer f) (step_undamaged reads old r.0 first given good sound r.2))
runs_undamaged reads old new (first ∷ requests) (given ∷ answers) good sound r (suc n) request answer e f =
    runs_undamaged reads r.0 new requests answers good (steps_sound reads old r.0 first given good r.1 sound r.2) r.3 n request answer e f

pub owned_runs_undamaged : OwnedRunsUndamaged
owned_runs_undamaged reads old new requests answers good owned faithful sound r = runs_undamaged reads old new requests answers good sound (owned_run reads old new requests answers good owned faithful sound r)
