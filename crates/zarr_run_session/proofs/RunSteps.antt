-- Runs that go on by one step, and the tables of the arrays at their end.
use Rattle.std.proofs.Common.{ℕ, ◌<◌, ◌+◌, List, [], ◌∷◌, ◌++◌, map, take, length, get_or, refl, sym, subst}
use Rattle.std.proofs.lemmas.List.{take_more, map-append}
use Rattle.zarr_codecs_meaning.specs.Chains.{ByteCodec}
use Rattle.zarr_codecs_metadata.specs.Chains.{ReadsCodecs}
use Rattle.zarr_run_meaning.specs.Laws.{HasTables}
use Rattle.zarr_run_meaning.specs.Requests.{Request, Answer}
use Rattle.zarr_run_meaning.specs.Runs.{Run, world_over}
use Rattle.zarr_run_meaning.specs.Steps.{Step}
use Rattle.zarr_run_meaning.specs.Worlds.{World, held_at, IsTableAt}
use Rattle.zarr_run_commands.specs.Commands.{answered}
use Rattle.zarr_run_commands.specs.declared.command.Command.{Command}
use Rattle.zarr_run_commands.specs.declared.command.Reply.{Reply}
use Rattle.zarr_run_opening.specs.Sessions.{State, IsIn, StepsFrom, array_at}
use Rattle.zarr_run_opening.proofs.HoldsLemmas.{agreed_some}
use Rattle.zarr_run_session.specs.Sessions.{Exchanges, Contents, RunsFrom, RunsOver}

-- ---- one step more

run_more : (reads : ReadsCodecs) (old mid new : World) (requests : List Request) (answers : List Answer) (request : Request) (answer : Answer) → Run reads old requests answers mid → Step reads mid request answer new
    → Run reads old (requests ++ request ∷ []) (answers ++ answer ∷ []) new
run_more reads old mid new [] [] request answer ran step = (new, subst (λ w. Step reads w request answer new) ran step, refl)
run_more reads old mid new [] (a ∷ answers) request answer ran step = absurd ran
run_more reads old mid new (r ∷ requests) [] request answer ran step = absurd ran
run_more reads old mid new (r ∷ requests) (a ∷ answers) request answer ran step = (ran.0, ran.1, run_more reads ran.0 mid new requests answers request answer ran.2 step)

module _ (B : Type 0) (meaning : B → ByteCodec) (reads : ReadsCodecs) (old : State B) where
  -- before the first command
  pub runs_none : RunsFrom (meaning, reads) old ([], []) old
  runs_none before k = (before, refl, k)

  -- the next of the commands, whatever commands ask
  pub runs_more : (asked : Command → Request) (mid new : State B) (commands : List Command) (n : ℕ) (other : Command) (replies : List Reply) (reply : Reply) → n < length commands
      → RunsFrom (meaning, reads) old (map asked (take n commands), map answered replies) mid → StepsFrom (meaning, reads) mid (asked (get_or commands n other), answered reply) new
      → RunsFrom (meaning, reads) old (map asked (take (n + 1) commands), map answered (replies ++ reply ∷ [])) new
  runs_more asked mid new commands n other replies reply low ran steps before k =
      let r = ran before k in
      let s = steps r.0 r.2 in (
        s.0,
        rw (take_more commands n other low, map-append asked (take n commands) (get_or commands n other ∷ []), map-append answered replies (reply ∷ []))
            (run_more reads before r.0 s.0 (map asked (take n commands)) (map answered replies) (asked (get_or commands n other)) (answered reply) r.1 s.1),
        s.2,
      )

  -- ---- the tables of the arrays

  pub tables_in : (world : World) → IsIn meaning reads old world → HasTables reads world
  tables_in world k path h e =
      let a = agreed_some B meaning reads old.1.0 (array_at old.0 path) (held_at path world.arrays) h (k.agree path) e in
      (a.2.node, a.2.says, subst (λ s. IsTableAt h.path h.document s h.table) (sym k.store) a.2.table)

-- a run of a session that began with no array
pub runs_over : (B : Type 0) (meaning : B → ByteCodec) (reads : ReadsCodecs) (old new : State B) (contents : Contents) (es : Exchanges) → IsIn meaning reads old (world_over contents.0 contents.1)
    → RunsFrom (meaning, reads) old es new → RunsOver reads contents es new.1
runs_over B meaning reads old new contents es begins ran =
    let r = ran (world_over contents.0 contents.1) begins in
    (r.0, r.1, r.2.store, r.2.refused, tables_in B meaning reads new r.0 r.2)
