-- One array that a session left sound, opened by another one over the same store, whatever is stored for the others and done to them.
use Rattle.std.proofs.Common.{◌≡◌, ◌∙◌, ◌⊎◌, inl, inr, ⊎_elim, ℕ, zero, suc, false, List, [], ◌∷◌, ◌++◌, slice_get, refl, sym, ap, subst, Option, Some, None}
use Rattle.std.specs.Prelude.{All}
use Rattle.std.proofs.lemmas.Bool.{false≢true}
use Rattle.std.proofs.lemmas.List.Elements.{All-head, All-tail}
use Rattle.std.proofs.lemmas.Option.{none-some, same_Some}
use Rattle.serde_json.specs.Data.{Data}
use Rattle.zarr_grids_keys.specs.Keys.{encoded_key}
use Rattle.zarr_grids_keys.specs.Related.{is_related}
use Rattle.zarr_grids_keys.proofs.RelatedLemmas.{is_related-comm, is_related-refl, key_under-unrelated}
use Rattle.zarr_codecs_metadata.specs.Chains.{ReadsCodecs}
use Rattle.zarr_codecs_options.specs.declared.subchunk_write_order.SubchunkWriteOrder.{SubchunkWriteOrder}
use Rattle.zarr_array_meaning.specs.Chunks.{KeepsOtherKeys}
use Rattle.zarr_array_meaning.specs.StoreMaps.{StoreMap}
use Rattle.zarr_array_meaning.specs.Texts.{version_key}
use Rattle.zarr_run_meaning.specs.declared.cause.Cause.{Cause}
use Rattle.zarr_run_meaning.specs.declared.cause.Cause.TheVariants as cause
use Rattle.zarr_run_meaning.specs.Causes.{ReopenRefuses, IsChunkKeyIn}
use Rattle.zarr_run_meaning.specs.Changes.{Creates, Reopens, Opens}
use Rattle.zarr_run_meaning.specs.Laws.{HasTables, HasCells, IsReopenedAs, IsAgain, IsAnsweredAgain, AsksBeside, IsHeldAgain, RunsReopenOne}
use Rattle.zarr_run_meaning.specs.Requests.{refusal, Request, create, reopen, write, read, erase, compact, rewrite, path_of, Answer, done, cells, compacted, refused}
use Rattle.zarr_run_meaning.specs.Runs.{Run, world_over}
use Rattle.zarr_run_meaning.specs.Sound.{IsSoundAt, IsSoundAlone, ReadsGood}
use Rattle.zarr_run_meaning.specs.Steps.{Stays, WritesFirst, ErasesFirst, RewritesFirst, RefusesWrite, RefusesRead, RefusesErase, RefusesCompact, RefusesRewrite, Refuses, RefusesAt, Step}
use Rattle.zarr_run_meaning.specs.Tables.{Table, cell}
use Rattle.zarr_run_meaning.specs.Worlds.{Held, World, held_at, WithTable}
use Rattle.zarr_run_meaning.proofs.Arrays.{Stayed, at_path, near, apart, held_at-first, held_at-path, held_at-more, held_at-new, held_at-ordered, held_at-reordered, held_before, free_none}
use Rattle.zarr_run_meaning.proofs.Begun.{created_array, created_put, opened_array}
use Rattle.zarr_run_meaning.proofs.Effects.{LeftAttributes, left_put, step_effect, held_effect, at_cases, create_cases, held_cases}
use Rattle.zarr_run_meaning.proofs.Frames.{steps_show}
use Rattle.zarr_run_meaning.proofs.Keys.{others_kept}
use Rattle.zarr_run_meaning.proofs.Reading.{alone_undamaged}
use Rattle.zarr_run_meaning.proofs.Reopening.{again_sound, reopens_alike}
use Rattle.zarr_run_meaning.proofs.Standing.{sound_under}
use Rattle.zarr_run_meaning.proofs.Stored.{put_kept}

-- the array is stored as it was; only it is held at a related path, if at all, with its document and its cells
record Keeps (reads : ReadsCodecs) (h : Held) (world : World) : Type 0 where
  pub there : IsSoundAt reads world.store h
  pub alone : (q : List ℕ) (g : Held) → held_at q world.arrays ≡ Some g → (q ≡ h.path) ⊎ (is_related h.path q ≡ false)
  pub same : (g : Held) → held_at h.path world.arrays ≡ Some g → IsAgain h g

-- where it is held it is sound alone
held_alone : (reads : ReadsCodecs) (h : Held) (world : World) → Keeps reads h world → (g : Held) → held_at h.path world.arrays ≡ Some g → IsSoundAlone reads world h.path
held_alone reads h world k g e =
    let again = k.same g e in
    let P : Held → Type 0 = λ x. IsSoundAt reads world.store x in
    let Q : Held → Type 0 = λ x. HasCells x (cell h.document.elements.fill h.table) in
    record {
      array = g;
      found = e;
      there = subst P (sym again.0) (again_sound reads world.store world.store h g.order g.table k.there refl (subst Q again.0 again.1));
      alone = λ other x found differs. ⊎_elim (λ is. absurd (differs is)) (λ away. away) (k.alone other x found);
    }

-- ---- one step

module _ (reads : ReadsCodecs) (old new : World) (h : Held) (good : ReadsGood reads) (tables : HasTables reads old) (k : Keeps reads h old) where
  unmoved : new.arrays ≡ old.arrays → new.store ≡ old.store → Keeps reads h new
  unmoved arrays store = record {
    there = let P : StoreMap → Type 0 = λ s. IsSoundAt reads s h in subst P (sym store) k.there;
    alone = λ q g e. k.alone q g (sym (ap (held_at q) arrays) ∙ e);
    same = λ g e. k.same g (sym (ap (held_at h.path) arrays) ∙ e);
  }

  stayed : (c : Cause) (n : ℕ) → Stays c n old new → Keeps reads h new
  stayed c n s = unmoved (ap (λ (w : World). w.arrays) s.is) (ap (λ (w : World). w.store) s.is)

  -- one more array
  more : (b : Held) → held_at b.path old.arrays ≡ None → new.arrays ≡ old.arrays ++ b ∷ [] → IsSoundAt reads new.store h → (b.path ≡ h.path) ⊎ (is_related h.path b.path ≡ false) → (b.path ≡ h.path → IsAgain h b) → Keeps reads h new
  more b none arrays there beside again = record {
    there = there;
    alone = λ q g e. ⊎_elim
        (λ is.
        let at : q ≡ b.path = held_at-path q new.arrays g e ∙ ap (λ (x : Held). x.path) is in
        ⊎_elim (λ same. inl (at ∙ same)) (λ away. inr (ap (is_related h.path) at ∙ away)) beside)
        (k.alone q g)
        (held_at-more q old.arrays b g none (sym (ap (held_at q) arrays) ∙ e));
    same = λ g e. ⊎_elim
        (λ is. let P : Held → Type 0 = λ x. IsAgain h x in subst P (sym is) (again (sym (ap (λ (x : Held). x.path) is) ∙ sym (held_at-path h.path new.arrays g e))))
        (k.same g)
        (held_at-more h.path old.arrays b g none (sym (ap (held_at h.path) arrays) ∙ e));
  }

  -- an unrelated path is another one
  other : (p : List ℕ) → is_related h.path p ≡ false → p ≡ h.path → ⊥
  other p away same = false≢true (sym away ∙ ap (is_related h.path) same ∙ is_related-refl h.path)

  created_beside : (p : List ℕ) (document : Data) (order : SubchunkWriteOrder) → is_related h.path p ≡ false → Creates reads (record { path = p; document = document; order = order }) old new → Keeps reads h new
  created_beside p document order away c =
      more (created_array reads old new p document order c) (free_none p old.arrays c.free) c.begins.holds
      (sound_under reads old.store new.store h (put_kept p h.path old.store new.store (created_put reads old new p document order c) c.node k.there.node (is_related-comm p h.path ∙ away)) k.there)
      (inr away) (λ same. absurd (other p away same))

  -- where only attributes were stored, at an unrelated path
  left_beside : (l : LeftAttributes old new) → is_related h.path l.path ≡ false → Keeps reads h new
  left_beside l away = record {
    there = sound_under reads old.store new.store h (put_kept l.path h.path old.store new.store (left_put old new l) l.node k.there.node (is_related-comm l.path h.path ∙ away)) k.there;
    alone = λ q g e. k.alone q g (sym (ap (held_at q) l.arrays) ∙ e);
    same = λ g e. k.same g (sym (ap (held_at h.path) l.arrays) ∙ e);
  }

  opened_beside : (p : List ℕ) (order : SubchunkWriteOrder) → is_related h.path p ≡ false → Opens reads p order old new → Keeps reads h new
  opened_beside p order away o =
      let P : StoreMap → Type 0 = λ s. IsSoundAt reads s h in
      more (opened_array reads old new p order o) o.begins.free o.begins.holds (subst P (sym o.stores) k.there) (inr away) (λ same. absurd (other p away same))

  with_order_again : (p : List ℕ) (order : SubchunkWriteOrder) → Reopens p order old new → Keeps reads h new
  with_order_again p order r = record {
    there = let P : StoreMap → Type 0 = λ s. IsSoundAt reads s h in subst P (sym r.stores) k.there;
    alone = λ q g e. let w = held_at-ordered p q order old.arrays g (sym (ap (held_at q) r.updates) ∙ e) in k.alone q w.0 w.1;
    same = λ g e.
        let w = held_at-ordered p h.path order old.arrays g (sym (ap (held_at h.path) r.updates) ∙ e) in
        let was = k.same w.0 w.1 in
        let P : Held → Type 0 = λ x. IsAgain h x in
        ⊎_elim (λ is. subst P (sym is) was) (λ is. subst P (sym is) (ap (λ (y : Held). record y { order = order }) was.0, was.1)) w.2;
  }

  changed_beside : (p : List ℕ) (held : Held) (chunks : List (List ℕ)) (table : Table) → is_related h.path p ≡ false → held_at p old.arrays ≡ Some held → WithTable held.path table new.store old.arrays new.arrays → KeepsOtherKeys held.path held.document chunks old.store new.store → Keeps reads h new
  changed_beside p held chunks table away found updates others = record {
    there = sound_under reads old.store new.store h (others_kept held.path held.document chunks old.store new.store h.path others (tables p held found).0 k.there.node apart_from) k.there;
    alone = λ q g e. let b = held_before held.path table new.store old.arrays new.arrays updates q g e in k.alone q b.0 b.1;
    same = λ g e. let b = held_before held.path table new.store old.arrays new.arrays updates h.path g e in go g b.0 b.1 b.2;
  } where
    at : p ≡ held.path
    at = held_at-path p old.arrays held found

    apart_from : is_related held.path h.path ≡ false
    apart_from = ap (λ q. is_related q h.path) (sym at) ∙ is_related-comm p h.path ∙ away

    go : (g b : Held) → held_at h.path old.arrays ≡ Some b → Stayed held.path table new.store b g → IsAgain h g
    go g b e (at_path same is) = absurd (other p away (at ∙ same ∙ sym (held_at-path h.path old.arrays b e)))
    go g b e (near differs related is shows) = absurd (false≢true (sym apart_from ∙ ap (is_related held.path) (held_at-path h.path old.arrays b e) ∙ related))
    go g b e (apart unrelated is) = let P : Held → Type 0 = λ x. IsAgain h x in subst P (sym is) (k.same b e)

  -- a command at an unrelated path
  whole : (request : Request) (c : Cause) (n : ℕ) → RefusesAt reads request (refusal c n) old new → (Refuses reads request (refusal c n) old new → Keeps reads h new) → Keeps reads h new
  whole request c n s refuses = at_cases reads request c n old new (Keeps reads h new) s (stayed c n) refuses

  beside : (request : Request) (answer : Answer) → is_related h.path (path_of request) ≡ false → Step reads old request answer new → Keeps reads h new
  beside (create p document order) done away s = created_beside p document order away s.0
  beside (create p document order) (cells payload) away s = absurd s
  beside (create p document order) (compacted changed) away s = absurd s
  beside (create p document order) (refused c n) away s = create_cases reads p document order c n old new (Keeps reads h new) s (stayed c n) (λ l at. left_beside l (ap (is_related h.path) at ∙ away))
  beside (reopen p order) done away s = ⊎_elim (with_order_again p order) (opened_beside p order away) s.0
  beside (reopen p order) (cells payload) away s = absurd s
  beside (reopen p order) (compacted changed) away s = absurd s
  beside (reopen p order) (refused c n) away s = whole (reopen p order) c n s (λ r. stayed c n r.1)
  beside (write p target given options) done away s = let w = s.0 in changed_beside p w.held _ w.writes.table away w.found w.writes.updates w.writes.stores.others
  beside (write p target given options) (cells payload) away s = absurd s
  beside (write p target given options) (compacted changed) away s = absurd s
  beside (write p target given options) (refused c n) away s = whole (write p target given options) c n s (λ r.
      held_cases (held_at p old.arrays) (RefusesWrite (record { target = target; cells = given; options = options })) c n old new (Keeps reads h new) r (stayed c n) (λ g found.
      ⊎_elim (λ first. stayed c n first.1) (λ (first : WritesFirst g (record { target = target; cells = given; options = options }) (refusal c n) old new). changed_beside p g _ first.writes.table away found first.writes.updates first.writes.stores.others)))
  beside (read p target options) done away s = absurd s
  beside (read p target options) (compacted changed) away s = absurd s
  beside (read p target options) (cells payload) away s = unmoved (ap (λ (w : World). w.arrays) s.1) (ap (λ (w : World). w.store) s.1)
  beside (read p target options) (refused c n) away s = whole (read p target options) c n s (λ r.
      held_cases (held_at p old.arrays) (RefusesRead target) c n old new (Keeps reads h new) r (stayed c n) (λ g found q. stayed c n q.1))
  beside (erase p chunks) done away s = let e = s.0 in changed_beside p e.held _ e.erases.table away e.found e.erases.updates e.erases.stores.others
  beside (erase p chunks) (cells payload) away s = absurd s
  beside (erase p chunks) (compacted changed) away s = absurd s
  beside (erase p chunks) (refused c n) away s = whole (erase p chunks) c n s (λ r.
      held_cases (held_at p old.arrays) (RefusesErase chunks) c n old new (Keeps reads h new) r (stayed c n) (λ g found.
      ⊎_elim (λ first. stayed c n first.1) (λ (first : ErasesFirst g chunks (refusal c n) old new). changed_beside p g _ first.erases.table away found first.erases.updates first.erases.stores.others)))
  beside (compact p chunk options) done away s = absurd s
  beside (compact p chunk options) (cells payload) away s = absurd s
  beside (compact p chunk options) (compacted changed) away s = let c = s.0 in changed_beside p c.held (chunk ∷ []) c.held.table away c.found c.updates c.stores.others
  beside (compact p chunk options) (refused c n) away s = whole (compact p chunk options) c n s (λ r.
      held_cases (held_at p old.arrays) (RefusesCompact chunk) c n old new (Keeps reads h new) r (stayed c n) (λ g found q. stayed c n q.1))
  beside (rewrite p options) done away s = let r = s.0 in changed_beside p r.held _ r.held.table away r.found r.rewrites.updates r.rewrites.stores.others
  beside (rewrite p options) (cells payload) away s = absurd s
  beside (rewrite p options) (compacted changed) away s = absurd s
  beside (rewrite p options) (refused c n) away s = whole (rewrite p options) c n s (λ r.
      held_cases (held_at p old.arrays) (RefusesRewrite options) c n old new (Keeps reads h new) r (stayed c n) (λ g found.
      ⊎_elim (λ first. stayed c n first.1) (λ (first : RewritesFirst g options (refusal c n) old new). changed_beside p g _ g.table away found first.rewrites.updates first.rewrites.stores.others)))

  -- ---- a reopening of the path

  -- the key of the document is no chunk's
  no_chunk : held_at h.path old.arrays ≡ None → IsChunkKeyIn old.arrays (version_key h.path h.tree) → ⊥
  no_chunk none c = ⊎_elim
      (λ same. none-some c.held (sym none ∙ ap (λ q. held_at q old.arrays) (sym same) ∙ c.found))
      (λ away. key_under-unrelated h.path c.held.path _ (encoded_key c.held.document.keys c.names.chunk) k.there.node (tables c.held.path c.held c.found).0 away c.names.is)
      (k.alone c.held.path c.held c.found)

  alike : (order : SubchunkWriteOrder) (answer : Answer) → held_at h.path old.arrays ≡ None → Step reads old (reopen h.path order) answer new → IsReopenedAs h order answer new ⊎ (answer ≡ refused cause.Memory 0) ⊎ (answer ≡ refused cause.Store 0)
  alike order answer none s =
      let closed : World = record { arrays = h ∷ []; store = old.store; refused = 0 } in
      reopens_alike reads closed old new h.path h order answer good (held_at-first h.path h [] refl) k.there refl none (no_chunk none) s

  opened_again : (order : SubchunkWriteOrder) → Opens reads h.path order old new → IsReopenedAs h order done new → Keeps reads h new
  opened_again order o r =
      let b = opened_array reads old new h.path order o in
      let P : StoreMap → Type 0 = λ s. IsSoundAt reads s h in
      let Q : Held → Type 0 = λ x. IsAgain h x in
      let is : b ≡ record h { order = order; table = r.table } =
      same_Some b (record h { order = order; table = r.table }) (sym (ap (held_at h.path) o.begins.holds ∙ held_at-new h.path old.arrays b o.begins.free refl) ∙ r.held) in
      more b o.begins.free o.begins.holds (subst P (sym o.stores) k.there) (inl refl) (λ same. subst Q (sym is) (refl, r.cells))

  mine : (order : SubchunkWriteOrder) (answer : Answer) → Step reads old (reopen h.path order) answer new → Keeps reads h new
  mine order done s = ⊎_elim (with_order_again h.path order) opens s.0 where
    not_refused : (c : Cause) → done ≡ refused c 0 → ⊥
    not_refused c e = cc

    opens : Opens reads h.path order old new → Keeps reads h new
    opens o = ⊎_elim (opened_again order o) (λ no. absurd (⊎_elim (not_refused cause.Memory) (not_refused cause.Store) no)) (alike order done o.begins.free s)
  mine order (cells payload) s = absurd s
  mine order (compacted changed) s = absurd s
  mine order (refused c n) s = whole (reopen h.path order) c n s (λ r. stayed c n r.1)

  held_refused : (order : SubchunkWriteOrder) (c : Cause) (n : ℕ) (g : Held) → held_at h.path old.arrays ≡ Some g → RefusesAt reads (reopen h.path order) (refusal c n) old new → IsAnsweredAgain (refused c n)
  held_refused order cause.Path n g at s = absurd (false≢true (sym s.0 ∙ k.there.node))
  held_refused order cause.Memory n g at s = inr (inl (ap (refused cause.Memory) (⊎_elim (λ (x : Stays cause.Memory n old new). x.applied) (λ x. x.1.1.applied) s)))
  held_refused order cause.Store n g at s = inr (inr (ap (refused cause.Store) s.1.1.applied))
  held_refused order cause.DocumentChanged n g at s = absurd ((alone_undamaged reads old new (reopen h.path order) n good (held_alone reads h old k g at)).1 s)
  held_refused order c n g at s = let P : Option Held → Type 0 = λ o. ReopenRefuses reads old h.path o c in absurd (subst P at s.1.0)

  answered : (order : SubchunkWriteOrder) (answer : Answer) → Step reads old (reopen h.path order) answer new → IsAnsweredAgain answer
  answered order done s = inl refl
  answered order (cells payload) s = absurd s
  answered order (compacted changed) s = absurd s
  answered order (refused c n) s = go (held_at h.path old.arrays) refl where
    go : (o : Option Held) → held_at h.path old.arrays ≡ o → IsAnsweredAgain (refused c n)
    go None e = ⊎_elim (λ r. inl r.is) inr (alike order (refused c n) e s)
    go (Some g) e = held_refused order c n g e s

  held_then : (order : SubchunkWriteOrder) → Step reads old (reopen h.path order) done new → (g : Held) × (held_at h.path new.arrays ≡ Some g)
  held_then order s = ⊎_elim
      (λ (r : Reopens h.path order old new). let g = held_at-reordered h.path h.path order old.arrays r.held r.found in (g.0, ap (held_at h.path) r.updates ∙ g.1))
      (λ (o : Opens reads h.path order old new). (_, ap (held_at h.path) o.begins.holds ∙ held_at-new h.path old.arrays _ o.begins.free refl))
      s.0

  next : (request : Request) (answer : Answer) → AsksBeside h.path request → Step reads old request answer new → Keeps reads h new
  next (reopen p order) answer asks s = ⊎_elim (λ same. let P : List ℕ → Type 0 = λ q. Step reads old (reopen q order) answer new in mine order answer (subst P same s)) (λ away. beside (reopen p order) answer away s) asks
  next request answer asks s = beside request answer asks s

-- ---- a run

-- after a run, and how each reopening of the path was answered
record Ran (reads : ReadsCodecs) (h : Held) (old new : World) (requests : List Request) (answers : List Answer) : Type 0 where
  pub keeps : Keeps reads h new
  pub named : (n : ℕ) (order : SubchunkWriteOrder) (answer : Answer) → slice_get requests n ≡ Some (reopen h.path order) → slice_get answers n ≡ Some answer
      → IsAnsweredAgain answer × (answer ≡ done → (g : Held) × (held_at h.path new.arrays ≡ Some g))
  pub still : (g : Held) → held_at h.path old.arrays ≡ Some g → (x : Held) × (held_at h.path new.arrays ≡ Some x)

module _ (reads : ReadsCodecs) (new : World) (h : Held) (good : ReadsGood reads) where
  -- a command, and the rest of the run after it
  first : (old mid : World) (request : Request) (requests : List Request) (answer : Answer) (answers : List Answer) → HasTables reads old → Keeps reads h old → Step reads old request answer mid → Ran reads h mid new requests answers
      → Ran reads h old new (request ∷ requests) (answer ∷ answers)
  first old mid request requests answer answers tables k s rest = record { keeps = rest.keeps; named = named; still = still } where
    still : (g : Held) → held_at h.path old.arrays ≡ Some g → (x : Held) × (held_at h.path new.arrays ≡ Some x)
    still g e = let x = held_effect reads old mid request answer (step_effect reads old mid request answer s) h.path g e in rest.still x.0 x.1

    named : (n : ℕ) (order : SubchunkWriteOrder) (given : Answer) → slice_get (request ∷ requests) n ≡ Some (reopen h.path order) → slice_get (answer ∷ answers) n ≡ Some given → IsAnsweredAgain given × (given ≡ done → (g : Held) × (held_at h.path new.arrays ≡ Some g))
    named zero order given e f =
        let P : Request → Type 0 = λ q. Step reads old q given mid in
        let Q : Answer → Type 0 = λ a. Step reads old request a mid in
        let R : Answer → Type 0 = λ a. Step reads old (reopen h.path order) a mid in
        let t = subst P (same_Some request (reopen h.path order) e) (subst Q (same_Some answer given f) s) in
        (answered reads old mid h good tables k order given t, λ is. let g = held_then reads old mid h good tables k order (subst R is t) in rest.still g.0 g.1)
    named (suc n) order given e f = rest.named n order given e f

  ran : (old : World) (requests : List Request) (answers : List Answer) → HasTables reads old → Keeps reads h old → All (AsksBeside h.path) requests → Run reads old requests answers new → Ran reads h old new requests answers
  ran old [] [] tables k asks r = record {
    keeps = let P : World → Type 0 = λ w. Keeps reads h w in subst P (sym r) k;
    named = λ n order answer e f. absurd (none-some _ e);
    still = λ g e. (g, ap (λ (w : World). held_at h.path w.arrays) r ∙ e);
  }
  ran old [] (answer ∷ answers) tables k asks r = absurd r
  ran old (request ∷ requests) [] tables k asks r = absurd r
  ran old (request ∷ requests) (answer ∷ answers) tables k asks r =
      first old r.0 request requests answer answers tables k r.1
      (ran r.0 requests answers (steps_show reads old r.0 request answer tables r.1) (next reads old r.0 h good tables k request answer (All-head (AsksBeside h.path) request requests asks) r.1) (All-tail (AsksBeside h.path) request requests asks) r.2)

pub runs_reopen_one : RunsReopenOne
runs_reopen_one reads closed new count path h requests answers good found there =
    let begins : Keeps reads h (world_over closed.store count) = record { there = there; alone = λ q g e. absurd (none-some g e); same = λ g e. absurd (none-some g e) } in
    let P : List ℕ → Type 0 = λ p. All (AsksBeside p) requests → Run reads (world_over closed.store count) requests answers new
    → (n : ℕ) (order : SubchunkWriteOrder) (answer : Answer) → slice_get requests n ≡ Some (reopen p order) → slice_get answers n ≡ Some answer
    → IsAnsweredAgain answer × (answer ≡ done → IsHeldAgain reads p h new) in
    subst P (sym (held_at-path path closed.arrays h found)) (λ asks r n order answer e f.
    let after = ran reads new h good (world_over closed.store count) requests answers (λ q g e. absurd (none-some g e)) begins asks r in
    let named = after.named n order answer e f in
    (named.0, λ is. let g = named.1 is in record { array = g.0; found = g.1; again = after.keeps.same g.0 g.1; sound = held_alone reads h new after.keeps g.0 g.1 }))
