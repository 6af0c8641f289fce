-- The headline and tight layout, of sessions and of stores.
use Rattle.std.proofs.Common.{⊎_elim, sym, subst}
use Rattle.std.proofs.lemmas.Option.{none-some}
use Rattle.std.specs.FinMap.{empty}
use Rattle.std.specs.Prelude.{All}
use Rattle.zarr_codecs_metadata.specs.Chains.{ReadsCodecs}
use Rattle.zarr_array_meaning.specs.StoreMaps.{StoreMap}
use Rattle.zarr_run_meaning.specs.Laws.{HasTables}
use Rattle.zarr_run_meaning.specs.Requests.{Request, rewrite}
use Rattle.zarr_run_meaning.specs.Runs.{world_over}
use Rattle.zarr_run_meaning.specs.Sound.{AsksOwned, ReadsGood}
use Rattle.zarr_run_meaning.specs.Steps.{Step}
use Rattle.zarr_run_meaning.proofs.Alone.{steps_keep_sound}
use Rattle.zarr_run_meaning.proofs.Beginning.{no_arrays_sound}
use Rattle.zarr_run_meaning.proofs.KeptCanon.{all_owned}
use Rattle.zarr_run_meaning.proofs.KeptTight.{steps_keep_tight}
use Rattle.zarr_run_meaning.proofs.Owning.{empty_owned}
use Rattle.zarr_run_meaning.proofs.Sound.{steps_sound}
use Rattle.zarr_run_opening.specs.Sessions.{Codecs, State, Exchange, StepsFrom}
use Rattle.zarr_run_session.specs.Headline.{KeepsTables, StaysAlone, BeginsAlone, KeepsAlone, RewritesAfresh, KeepsTight, TablesFrom, AloneFrom, AsksFresh, BeginsFresh, TablesOver, AloneOver}
use Rattle.zarr_run_session.specs.Sessions.{Exchanges, Contents, RunsFrom, RunsOver}
use Rattle.zarr_run_session.proofs.Headline.{undamaged, intact, rewritten, compacted_afresh, begun, table_run}
use Rattle.zarr_run_session.proofs.AloneRuns.{alone_run, ends_alone, ends_tables}
use Rattle.zarr_run_session.proofs.RunSteps.{tables_in}

module _ (B : Type 0) (codecs : Codecs B) (good : ReadsGood codecs.1) (old new : State B) where
  -- ---- one command
  module _ (e : Exchange) (steps : StepsFrom codecs old e new) where
    pub keeps_tables : KeepsTables codecs old e new
    keeps_tables before k sound begins =
        let s = steps before k in (
          (s.0, s.1, s.2, steps_sound codecs.1 before s.0 e.0 e.1 good begins sound s.1),
          undamaged codecs.1 good before s.0 e.0 e.1 sound begins s.1,
        )

    stays_alone : StaysAlone codecs old e new
    stays_alone before path k alone away =
        let s = steps before k in (
          (s.0, s.1, s.2, steps_keep_sound codecs.1 before s.0 e.0 e.1 path good (tables_in B codecs.0 codecs.1 old before k) away alone s.1),
          λ same. intact codecs.1 good before s.0 path e.0 e.1 alone same s.1,
        )

    begins : BeginsAlone codecs old e new
    begins before k none sound = let s = steps before k in (s.0, s.1, s.2, λ h found. begun codecs.1 good before s.0 e.0 e.1 h (tables_in B codecs.0 codecs.1 old before k) none sound s.1 found)

    pub keeps_alone : KeepsAlone codecs old e new
    keeps_alone = (stays_alone, begins)

    pub rewrites_afresh : RewritesAfresh codecs old e new
    rewrites_afresh before path options k alone exact unstored is =
        let s = steps before k in
        let P : Request → Type 0 = λ q. Step codecs.1 before q e.1 s.0 in
        let step = subst P is s.1 in
        let left = rewritten codecs.1 good before s.0 path options e.1 alone exact unstored step in
        let sound = steps_keep_sound codecs.1 before s.0 (rewrite path options) e.1 path good (tables_in B codecs.0 codecs.1 old before k) tt alone step in
        (s.0, s.1, s.2, (sound, left.0, left.1))

    pub keeps_tight : KeepsTight codecs old e new
    keeps_tight before path k tight exact away =
        let s = steps before k in (
          s.0,
          s.1,
          s.2,
          (
            steps_keep_tight codecs.1 before s.0 e.0 e.1 path good (tables_in B codecs.0 codecs.1 old before k) away tight exact s.1,
            compacted_afresh codecs.1 good before s.0 path tight.sound.array e.0 e.1 tight.sound.found tight.tight s.1,
          ),
        )

  -- ---- runs
  module _ (es : Exchanges) (runs : RunsFrom codecs old es new) where
    pub tables_from : TablesFrom codecs old es new
    tables_from before k sound fresh =
        let r = runs before k in
        (r.0, table_run codecs.1 good before r.0 es.0 es.1 fresh.owned fresh.faithful sound r.1, ends_tables codecs.1 good before r.0 es sound fresh r.1, r.2)

    pub alone_from : AloneFrom codecs old es new
    alone_from before path k asks =
        let r = runs before k in
        let tables = tables_in B codecs.0 codecs.1 old before k in
        (r.0, alone_run codecs.1 path good before r.0 es.0 es.1 tables asks.there asks.faithful asks.apart r.1, ends_alone codecs.1 path good before r.0 es tables asks r.1, r.2)

-- ---- runs over a store

module _ (reads : ReadsCodecs) (good : ReadsGood reads) (old new : Contents) (es : Exchanges) (runs : RunsOver reads old es new) where
  fresh : BeginsFresh reads old es → AsksFresh reads (world_over old.0 old.1) es
  fresh begins =
      let P : StoreMap → Type 0 = λ s. All (AsksOwned (world_over s old.1)) es.0 in
      record { faithful = begins.faithful; owned = ⊎_elim (λ none. subst P (sym none) (all_owned (world_over empty old.1) (empty_owned old.1) es.0)) (λ owned. owned) begins.free }

  pub tables_over : TablesOver reads old es new
  tables_over begins =
      let asks = fresh begins in
      let sound = no_arrays_sound reads old.0 old.1 in
      let before = world_over old.0 old.1 in
      (runs.0, table_run reads good before runs.0 es.0 es.1 asks.owned asks.faithful sound runs.1, ends_tables reads good before runs.0 es sound asks runs.1, (runs.2, runs.3))

  pub alone_over : AloneOver reads old es new
  alone_over path asks =
      let before = world_over old.0 old.1 in
      let tables : HasTables reads before = λ p h found. absurd (none-some h found) in
      (runs.0, alone_run reads path good before runs.0 es.0 es.1 tables asks.there asks.faithful asks.apart runs.1, ends_alone reads path good before runs.0 es tables asks runs.1, (runs.2, runs.3))
