-- One array of a run, whatever is stored for the others and done to them.
use Rattle.std.proofs.Common.{◌≡◌, ◌∙◌, ◌⊎◌, inl, inr, ⊎_elim, ℕ, Bool, true, false, List, [], ◌∷◌, ◌++◌, ◌||◌, length, refl, sym, ap, subst, Option, Some, None}
use Rattle.std.specs.Prelude.{All}
use Rattle.std.proofs.lemmas.List.Elements.{All-head, All-tail}
use Rattle.std.proofs.lemmas.Option.{none-some, same_Some}
use Rattle.zarr_codecs_meaning.specs.Fits.{is_plain}
use Rattle.zarr_codecs_metadata.specs.Chains.{ReadsCodecs}
use Rattle.zarr_codecs_options.specs.declared.codec_options.CodecOptions.{CodecOptions}
use Rattle.zarr_run_meaning.specs.Laws.{HasTables}
use Rattle.zarr_run_meaning.specs.Requests.{Request, create, rewrite, path_of, Answer, done}
use Rattle.zarr_run_meaning.specs.Rewrites.{IsCanonHeld, IsCanonAlone, ReopensApart}
use Rattle.zarr_run_meaning.specs.Runs.{Run}
use Rattle.zarr_run_meaning.specs.Sound.{IsSound, IsSoundAlone, OpensApart, OwnsKeysUnder, AsksOwned, AsksFaithful, AllAskFaithful, ReadsGood}
use Rattle.zarr_run_meaning.specs.Steps.{Step}
use Rattle.zarr_run_meaning.specs.Tight.{IsTightHeld, AsksRowMajor, AllAskRowMajor}
use Rattle.zarr_run_meaning.specs.Worlds.{Held, World, held_at, is_row_major, writes_exactly}
use Rattle.zarr_run_meaning.proofs.Again.{runs_go_on}
use Rattle.zarr_run_meaning.proofs.Alone.{sound_alone, steps_keep_sound, reopens_apart, begins_apart}
use Rattle.zarr_run_meaning.proofs.Arrays.{held_at-new, free_none}
use Rattle.zarr_run_meaning.proofs.Begun.{no_chunks_are_fill, created_array, creates_fill}
use Rattle.zarr_run_meaning.proofs.Canon.{rewrites_canon}
use Rattle.zarr_run_meaning.proofs.Frames.{steps_show}
use Rattle.zarr_run_meaning.proofs.KeptCanon.{sound_tables, runs_keep_canon}
use Rattle.zarr_run_meaning.proofs.KeptTight.{steps_keep_tight, begins_tight}
use Rattle.zarr_run_meaning.proofs.Orders.{IsRowMajorThere, orders}
use Rattle.zarr_run_meaning.proofs.Owning.{steps_own, free_no_chunks}
use Rattle.zarr_run_meaning.proofs.Sound.{steps_sound, owned_begins, asks_still, all_still}
use Rattle.zarr_run_meaning.proofs.TightChunks.{no_chunks_are_tight}
use Rattle.zarr_run_session.specs.Headline.{IsIntact, BeginsFill, IsPlainThere, EndsCanonAt, IsAloneOrFree, NamesFaithful, AsksAlone, AloneStep, RunOf, IsTightExactly, EndsAlone, EndsTables, AsksFresh}
use Rattle.zarr_run_session.specs.Sessions.{Exchanges}
use Rattle.zarr_run_session.proofs.Beginning.{asks_free, begins_free, free_intact}
use Rattle.zarr_run_session.proofs.Headline.{All-left, All-right, intact, ends_canon, or_left, or_right, written_exactly}
use Rattle.zarr_run_session.proofs.Plain.{document_stays, plain_before}

names_parts : (reads : ReadsCodecs) (path : List ℕ) (first last : List Request) (firsts lasts : List Answer) → length first ≡ length firsts → NamesFaithful reads path (first ++ last) (firsts ++ lasts)
    → NamesFaithful reads path first firsts × NamesFaithful reads path last lasts
names_parts reads path [] last [] lasts many names = (tt, names)
names_parts reads path [] last (a ∷ firsts) lasts many names = absurd (cc)
names_parts reads path (r ∷ first) last [] lasts many names = absurd (cc)
names_parts reads path (r ∷ first) last (a ∷ firsts) lasts many names =
    let rest = names_parts reads path first last firsts lasts (cc) names.1 in
    ((names.0, rest.0), rest.1)

-- ---- one step

module _ (reads : ReadsCodecs) (path : List ℕ) (good : ReadsGood reads) (old new : World) (request : Request) (answer : Answer) (tables : HasTables reads old) (s : Step reads old request answer new)
    (h : Held) (found : held_at path new.arrays ≡ Some h) where
  -- what is stored for an array that was held stays tight
  tight_kept : (alone : IsSoundAlone reads old path) → OpensApart path old request answer → IsTightExactly path old → IsTightHeld new.store h
  tight_kept alone away was =
      let g = was alone.array alone.found in
      let next = steps_keep_tight reads old new request answer path good tables away (record { sound = alone; tight = g.1 }) g.0 s in
      let P : Held → Type 0 = λ x. IsTightHeld new.store x in
      subst P (same_Some next.sound.array h (sym next.sound.found ∙ found)) next.tight

  -- and that of one that begins is
  tight_begun : held_at path old.arrays ≡ None → (path_of request ≡ path → AsksOwned old request) → (path_of request ≡ path → AsksFaithful reads request answer) → IsTightHeld new.store h
  tight_begun none owned faithful =
      let b = begins_free reads old new path h good tables none found request answer owned faithful s in
      begins_tight reads old new request answer path h (λ place. h.document.elements.fill) good none s found
      (no_chunks_are_fill path h.document old.store (good h.tree h.document (steps_show reads old new request answer tables s path h found).1) b.lossless b.none)
      (no_chunks_are_tight path h.document old.store b.none)

module _ (reads : ReadsCodecs) (path : List ℕ) (good : ReadsGood reads) (old new : World) (request : Request) (answer : Answer) (tables : HasTables reads old)
    (faithful : path_of request ≡ path → AsksFaithful reads request answer) (beside : ReopensApart path request) (s : Step reads old request answer new) where
  alone_after : IsSoundAlone reads old path → IsSoundAlone reads new path
  alone_after alone = steps_keep_sound reads old new request answer path good tables (reopens_apart reads old new path alone request answer beside) alone s

  free_after : held_at path old.arrays ≡ None → OwnsKeysUnder path old → IsAloneOrFree reads path new
  free_after none owned = go (held_at path new.arrays) refl where
    go : (o : Option Held) → held_at path new.arrays ≡ o → IsAloneOrFree reads path new
    go None e = inr (e, λ name. steps_own reads old new request answer _ s (owned name))
    go (Some h) e = let b = begins_free reads old new path h good tables none e request answer (asks_free old path request owned) faithful s in inl b.alone

  pub there_after : IsAloneOrFree reads path old → IsAloneOrFree reads path new
  there_after there = ⊎_elim (λ alone. inl (alone_after alone)) (λ free. free_after free.0 free.1) there

  intact_there : IsAloneOrFree reads path old → path_of request ≡ path → IsIntact answer
  intact_there there same = ⊎_elim
      (λ alone. intact reads good old new path request answer alone same s)
      (λ free. free_intact reads old new request answer (ap (λ p. held_at p old.arrays) same ∙ free.0) s)
      there

  -- what is stored for the array is tight afterwards
  tight_after : IsAloneOrFree reads path old → IsTightExactly path old → (h : Held) → held_at path new.arrays ≡ Some h → IsTightHeld new.store h
  tight_after there was h found = ⊎_elim
      (λ alone. tight_kept reads path good old new request answer tables s h found alone (reopens_apart reads old new path alone request answer beside) was)
      (λ free. tight_begun reads path good old new request answer tables s h found free.0 (asks_free old path request free.1) faithful)
      there

-- an array that is created at the path begins as fill
fill_there : (reads : ReadsCodecs) (path : List ℕ) (good : ReadsGood reads) (old new : World) (request : Request) (answer : Answer) → HasTables reads old → (path_of request ≡ path → AsksFaithful reads request answer) → IsAloneOrFree reads path old
    → Step reads old request answer new → path_of request ≡ path → BeginsFill request answer new
fill_there reads path good old new (create p document order) done tables faithful there s same =
    let c = s.0 in
    let h = created_array reads old new p document order c in
    let found : held_at p new.arrays ≡ Some h = ap (held_at p) c.begins.holds ∙ held_at-new p old.arrays h (free_none p old.arrays c.free) refl in
    let Q : List ℕ → Type 0 = λ q. OwnsKeysUnder q old in
    ⊎_elim
    (λ alone. absurd (none-some alone.array (sym (ap (λ q. held_at q old.arrays) (sym same) ∙ free_none p old.arrays c.free) ∙ alone.found)))
    (λ free. (
      h,
      found,
      creates_fill reads old new p document order h good s found (faithful same c.meaning c.opens).lossless
          (free_no_chunks old p c.meaning (λ q g at. (tables q g at).0) (subst Q (sym same) free.1) c.node c.free (inl (faithful same c.meaning c.opens).ends)),
    ))
    there
fill_there reads path good old new request answer tables faithful there s same = tt

-- ---- how the array is written

pub exactly_by_order : (h : Held) → is_row_major h.order ≡ true → writes_exactly h ≡ true
exactly_by_order h e = or_right (is_plain h.document.chain) (is_row_major h.order) e

exactly_cases : (h : Held) → writes_exactly h ≡ true → (is_plain h.document.chain ≡ true) ⊎ (is_row_major h.order ≡ true)
exactly_cases h e = go (is_plain h.document.chain) e where
  go : (b : Bool) → (b || is_row_major h.order) ≡ true → (b ≡ true) ⊎ (is_row_major h.order ≡ true)
  go true f = inl refl
  go false f = inr f

-- a step that asks for no other order keeps it
exactly_after : (reads : ReadsCodecs) (path : List ℕ) (old new : World) (request : Request) (answer : Answer) → AsksRowMajor path request answer → ((g : Held) → held_at path old.arrays ≡ Some g → writes_exactly g ≡ true) → Step reads old request answer new
    → (h : Held) → held_at path new.arrays ≡ Some h → writes_exactly h ≡ true
exactly_after reads path old new request answer asks was s h found = go (held_at path old.arrays) refl where
  ordered : IsRowMajorThere old path → writes_exactly h ≡ true
  ordered there = exactly_by_order h (orders reads old new path there request answer asks s h found)

  go : (o : Option Held) → held_at path old.arrays ≡ o → writes_exactly h ≡ true
  go None e = ordered (λ g at. absurd (none-some g (sym e ∙ at)))
  go (Some g) e = ⊎_elim
      (λ plain.
      let x = document_stays reads old new request answer path g e s in
      let same = same_Some x.0 h (sym x.1 ∙ found) in
      or_left (is_plain h.document.chain) (is_row_major h.order) (sym (ap (λ (y : Held). is_plain y.document.chain) same) ∙ ap is_plain (ap (λ d. d.chain) x.2) ∙ plain))
      (λ order. ordered (λ y at. let P : Held → Type 0 = λ z. is_row_major z.order ≡ true in subst P (same_Some g y (sym e ∙ at)) order))
      (exactly_cases g (was g e))

-- ---- runs

-- an array whose chunks were rewritten
rewritten_canon : (reads : ReadsCodecs) (path : List ℕ) (good : ReadsGood reads) (old new : World) (options : CodecOptions) → HasTables reads old → (alone : IsSoundAlone reads old path) → writes_exactly alone.array ≡ true
    → options.store_empty_chunks ≡ false → Step reads old (rewrite path options) done new → IsCanonAlone reads new path
rewritten_canon reads path good old new options tables alone exact unstored s =
    let left = (rewrites_canon reads old new path options alone.array good alone alone.found exact unstored).0 s in
    let sound = steps_keep_sound reads old new (rewrite path options) done path good tables tt alone s in
    let P : Held → Type 0 = λ x. IsCanonHeld new.store x in
    record { sound = sound; canon = subst P (same_Some alone.array sound.array (sym left.0 ∙ sound.found)) left.1 }

module _ (reads : ReadsCodecs) (path : List ℕ) (good : ReadsGood reads) where
  pub alone_run : (old new : World) (requests : List Request) (answers : List Answer) → HasTables reads old → IsAloneOrFree reads path old → NamesFaithful reads path requests answers → All (ReopensApart path) requests
      → Run reads old requests answers new → RunOf (AloneStep reads path) old requests answers new
  alone_run old new [] [] tables there names beside r = r
  alone_run old new [] (answer ∷ answers) tables there names beside r = absurd r
  alone_run old new (request ∷ requests) [] tables there names beside r = absurd r
  alone_run old new (request ∷ requests) (answer ∷ answers) tables there names beside r =
      let apart = All-head (ReopensApart path) request requests beside in
      let next = there_after reads path good old r.0 request answer tables names.0 apart r.1 there in (
        r.0,
        record {
          step = r.1;
          there = next;
          intact = intact_there reads path good old r.0 request answer tables names.0 apart r.1 there;
          fill = fill_there reads path good old r.0 request answer tables names.0 there r.1;
        },
        alone_run r.0 new requests answers (steps_show reads old r.0 request answer tables r.1) next names.1 (All-tail (ReopensApart path) request requests beside) r.2,
      )

  -- the world at the end
  alone_end : (old new : World) (requests : List Request) (answers : List Answer) → HasTables reads old → IsAloneOrFree reads path old → NamesFaithful reads path requests answers → All (ReopensApart path) requests
      → Run reads old requests answers new → HasTables reads new × IsAloneOrFree reads path new
  alone_end old new [] [] tables there names beside r = let P : World → Type 0 = λ w. HasTables reads w × IsAloneOrFree reads path w in subst P (sym r) (tables, there)
  alone_end old new [] (answer ∷ answers) tables there names beside r = absurd r
  alone_end old new (request ∷ requests) [] tables there names beside r = absurd r
  alone_end old new (request ∷ requests) (answer ∷ answers) tables there names beside r =
      alone_end r.0 new requests answers (steps_show reads old r.0 request answer tables r.1)
      (there_after reads path good old r.0 request answer tables names.0 (All-head (ReopensApart path) request requests beside) r.1 there) names.1 (All-tail (ReopensApart path) request requests beside) r.2

  -- how the array is written after the first command
  exactly_next : (old mid new : World) (request : Request) (answer : Answer) (requests : List Request) (answers : List Answer) → AllAskRowMajor path (request ∷ requests) (answer ∷ answers) ⊎ IsPlainThere path new
      → ((g : Held) → held_at path old.arrays ≡ Some g → writes_exactly g ≡ true) → Step reads old request answer mid → Run reads mid requests answers new → (h : Held) → held_at path mid.arrays ≡ Some h → writes_exactly h ≡ true
  exactly_next old mid new request answer requests answers asks was s rest h found = ⊎_elim
      (λ order. exactly_after reads path old mid request answer order.0 was s h found)
      (λ plain. or_left (is_plain h.document.chain) (is_row_major h.order) (plain_before reads mid new requests answers path rest plain h found))
      asks

  -- tight layout
  tight_end : (old new : World) (requests : List Request) (answers : List Answer) → HasTables reads old → IsAloneOrFree reads path old → NamesFaithful reads path requests answers → All (ReopensApart path) requests
      → AllAskRowMajor path requests answers ⊎ IsPlainThere path new → IsTightExactly path old → Run reads old requests answers new → IsTightExactly path new
  tight_end old new [] [] tables there names beside asks was r = let P : World → Type 0 = λ w. IsTightExactly path w in subst P (sym r) was
  tight_end old new [] (answer ∷ answers) tables there names beside asks was r = absurd r
  tight_end old new (request ∷ requests) [] tables there names beside asks was r = absurd r
  tight_end old new (request ∷ requests) (answer ∷ answers) tables there names beside asks was r =
      let apart = All-head (ReopensApart path) request requests beside in
      let next : IsTightExactly path r.0 = λ h found. (
        exactly_next old r.0 new request answer requests answers asks (λ g at. (was g at).0) r.1 r.2 h found,
        tight_after reads path good old r.0 request answer tables names.0 apart r.1 there was h found,
      ) in
      tight_end r.0 new requests answers (steps_show reads old r.0 request answer tables r.1) (there_after reads path good old r.0 request answer tables names.0 apart r.1 there) names.1
      (All-tail (ReopensApart path) request requests beside) (⊎_elim (λ order. inl order.1) (λ plain. inr plain) asks) next r.2

  -- what the last rewrite leaves
  canon_end : (before after : World) (es : Exchanges) → HasTables reads before → AsksAlone reads path before es → Run reads before es.0 es.1 after → EndsCanonAt path before es after
  canon_end before after es tables asks r k =
      let rest : Exchanges = (rewrite path k.options ∷ k.last.0, done ∷ k.last.1) in
      let P : List Request → Type 0 = λ q. All (ReopensApart path) q in
      let Q : List Request → Type 0 = λ q. NamesFaithful reads path q es.1 in
      let R : List Answer → Type 0 = λ a. NamesFaithful reads path (k.first.0 ++ rest.0) a in
      let S : List Request → Type 0 = λ q. Run reads before q es.1 after in
      let T : List Answer → Type 0 = λ a. Run reads before (k.first.0 ++ rest.0) a after in
      let beside = subst P k.requests asks.apart in
      let names = names_parts reads path k.first.0 rest.0 k.first.1 rest.1 k.many (subst R k.answers (subst Q k.requests asks.faithful)) in
      let parts = runs_go_on reads before after k.first.0 rest.0 k.first.1 rest.1 k.many (subst T k.answers (subst S k.requests r)) in
      let mid = parts.0 in
      let next = parts.2.0 in
      let s : Step reads mid (rewrite path k.options) done next = parts.2.1 in
      let at = alone_end before mid k.first.0 k.first.1 tables asks.there names.0 (All-left (ReopensApart path) k.first.0 rest.0 beside) parts.1 in
      let alone = ⊎_elim (λ a. a) (λ free. absurd (none-some s.0.held (sym free.0 ∙ s.0.found))) at.1 in
      let exact = written_exactly reads path before mid after k.first rest parts.1 parts.2 k.exact alone.array alone.found in
      let canon = rewritten_canon reads path good mid next k.options at.0 alone exact k.unstored s in
      let end = runs_keep_canon reads next after k.last.0 k.last.1 path good (steps_show reads mid next (rewrite path k.options) done at.0 s) k.leaves
      (All-tail (ReopensApart path) (rewrite path k.options) k.last.0 (All-right (ReopensApart path) k.first.0 rest.0 beside)) canon parts.2.2 in
      (end.sound.array, end.sound.found, end.canon)

  pub ends_alone : (before after : World) (es : Exchanges) → HasTables reads before → AsksAlone reads path before es → Run reads before es.0 es.1 after → EndsAlone reads path before es after
  ends_alone before after es tables asks r = record {
    there = (alone_end before after es.0 es.1 tables asks.there asks.faithful asks.apart r).1;
    canon = canon_end before after es tables asks r;
    still = λ canon leaves. runs_keep_canon reads before after es.0 es.1 path good tables leaves asks.apart canon r;
    tight = λ order was. tight_end before after es.0 es.1 tables asks.there asks.faithful asks.apart order was r;
  }

-- ---- runs from sound worlds

module _ (reads : ReadsCodecs) (path : List ℕ) (good : ReadsGood reads) where
  tight_sound : (old new : World) (request : Request) (answer : Answer) → AsksOwned old request → AsksFaithful reads request answer → IsSound reads old → IsTightExactly path old → Step reads old request answer new
      → (h : Held) → held_at path new.arrays ≡ Some h → IsTightHeld new.store h
  tight_sound old new request answer own faithful sound was s h found = go (held_at path old.arrays) refl where
    go : (o : Option Held) → held_at path old.arrays ≡ o → IsTightHeld new.store h
    go None e = tight_begun reads path good old new request answer (sound_tables reads old good sound) s h found e (λ same. own) (λ same. faithful)
    go (Some g) e =
        let alone = sound_alone reads old path g sound e in
        let away = begins_apart reads old new path alone request answer (owned_begins reads old new request answer good own faithful sound s) s in
        tight_kept reads path good old new request answer (sound_tables reads old good sound) s h found alone away was

  pub sound_tight_end : (old new : World) (requests : List Request) (answers : List Answer) → All (AsksOwned old) requests → AllAskFaithful reads requests answers → IsSound reads old
      → AllAskRowMajor path requests answers ⊎ IsPlainThere path new → IsTightExactly path old → Run reads old requests answers new → IsTightExactly path new
  sound_tight_end old new [] [] owned faithful sound asks was r = let P : World → Type 0 = λ w. IsTightExactly path w in subst P (sym r) was
  sound_tight_end old new [] (answer ∷ answers) owned faithful sound asks was r = absurd r
  sound_tight_end old new (request ∷ requests) [] owned faithful sound asks was r = absurd r
  sound_tight_end old new (request ∷ requests) (answer ∷ answers) owned faithful sound asks was r =
      let own = All-head (AsksOwned old) request requests owned in
      let begins = owned_begins reads old r.0 request answer good own faithful.0 sound r.1 in
      let next : IsTightExactly path r.0 = λ h found. (
        exactly_next reads path good old r.0 new request answer requests answers asks (λ g at. (was g at).0) r.1 r.2 h found,
        tight_sound old r.0 request answer own faithful.0 sound was r.1 h found,
      ) in
      sound_tight_end r.0 new requests answers (all_still old r.0 (asks_still reads old r.0 request answer r.1) requests (All-tail (AsksOwned old) request requests owned)) faithful.1
      (steps_sound reads old r.0 request answer good begins sound r.1) (⊎_elim (λ (order : AllAskRowMajor path (request ∷ requests) (answer ∷ answers)). inl order.1) (λ plain. inr plain) asks) next r.2

pub ends_tables : (reads : ReadsCodecs) (good : ReadsGood reads) (before after : World) (es : Exchanges) → IsSound reads before → AsksFresh reads before es → Run reads before es.0 es.1 after → EndsTables before es after
ends_tables reads good before after es sound fresh r = record {
  canon = ends_canon reads good before after es sound fresh r;
  tight = λ path asks was. sound_tight_end reads path good before after es.0 es.1 fresh.owned fresh.faithful sound asks was r;
}
