-- A session over the store that another one left, which reopens the paths that were held.
use Rattle.std.proofs.Common.{◌≡◌, ◌∙◌, inl, inr, ⊎_elim, ℕ, zero, suc, true, false, List, arith, [], ◌∷◌, slice_get, refl, sym, ap, subst, Option, Some, None}
use Rattle.std.specs.Prelude.{All}
use Rattle.std.proofs.lemmas.Bool.{false≢true}
use Rattle.std.proofs.lemmas.List.Elements.{All-head, All-tail, All-nil, All-cons}
use Rattle.std.proofs.lemmas.Option.{none-some, same_Some}
use Rattle.zarr_grids_keys.specs.Keys.{encoded_key}
use Rattle.zarr_grids_keys.specs.Paths.{is_node_path}
use Rattle.zarr_grids_keys.specs.Related.{is_related}
use Rattle.zarr_grids_keys.proofs.RelatedLemmas.{key_under-unrelated}
use Rattle.zarr_codecs_metadata.specs.Chains.{ReadsCodecs}
use Rattle.zarr_codecs_options.specs.declared.subchunk_write_order.SubchunkWriteOrder.{SubchunkWriteOrder}
use Rattle.zarr_array_meaning.specs.StoreMaps.{StoreMap}
use Rattle.zarr_array_meaning.specs.Texts.{version_key}
use Rattle.zarr_run_meaning.specs.declared.cause.Cause.{Cause}
use Rattle.zarr_run_meaning.specs.declared.cause.Cause.TheVariants as cause
use Rattle.zarr_run_meaning.specs.Causes.{ReopenRefuses, IsChunkKeyIn}
use Rattle.zarr_run_meaning.specs.Changes.{Reopens, Opens}
use Rattle.zarr_run_meaning.specs.Laws.{IsReopenedAs, IsAgain, AreReopened, AsksAgain, IsAnsweredAgain, RunsReopen, RunsGoOn}
use Rattle.zarr_run_meaning.specs.Requests.{refusal, Request, reopen, Answer, done, cells, compacted, refused}
use Rattle.zarr_run_meaning.specs.Runs.{Run, world_over}
use Rattle.zarr_run_meaning.specs.Sound.{AreApart, IsSound, ReadsGood}
use Rattle.zarr_run_meaning.specs.Steps.{Stays, RefusesAt, Step}
use Rattle.zarr_run_meaning.specs.Worlds.{Held, World, held_at, is_taken, with_order}
use Rattle.zarr_run_meaning.proofs.Arrays.{held_at-path, held_at-before, held_at-more, held_at-new, held_at-ordered, held_at-reordered, apart_more, apart_ordered, free_of, free_from, unrelated_paths}
use Rattle.zarr_run_meaning.proofs.Effects.{at_cases}
use Rattle.zarr_run_meaning.proofs.Reading.{never_damaged}
use Rattle.zarr_run_meaning.proofs.Reopening.{reopens_alike, reopened_sound}

-- an array of the world is one that was held, with its cells
abbrev WasHeld : World → List ℕ → Held → Type 0
WasHeld closed path h = (before : Held) × (held_at path closed.arrays ≡ Some before) × IsAgain before h

-- what is held at a path is held there still
abbrev HoldsStill : World → World → Type 0
HoldsStill old new = (q : List ℕ) (g : Held) → held_at q old.arrays ≡ Some g → (h : Held) × (held_at q new.arrays ≡ Some h)

-- a world with the arrays and the store of another
same_again : (closed old new : World) → AreReopened closed old → new.arrays ≡ old.arrays → new.store ≡ old.store → AreReopened closed new
same_again closed old new again arrays store =
    let P : List Held → StoreMap → Type 0 = λ hs s. AreReopened closed (record { arrays = hs; store = s; refused = new.refused }) in
    let Q : StoreMap → Type 0 = λ s. P new.arrays s in
    let R : List Held → Type 0 = λ hs. P hs old.store in
    subst Q (sym store) (subst R (sym arrays) (record { apart = again.apart; store = again.store; each = again.each }))

holds_same : (old new : World) → new.arrays ≡ old.arrays → HoldsStill old new
holds_same old new arrays q g at = (g, ap (held_at q) arrays ∙ at)

-- ---- one reopening

module _ (reads : ReadsCodecs) (closed old new : World) (path : List ℕ) (h : Held) (order : SubchunkWriteOrder) (good : ReadsGood reads) (sound : IsSound reads closed) (found : held_at path closed.arrays ≡ Some h) (again : AreReopened closed old) where
  here : path ≡ h.path
  here = held_at-path path closed.arrays h found

  node : is_node_path path ≡ true
  node = ap is_node_path here ∙ (sound.each path h found).node

  old_sound : IsSound reads old
  old_sound = reopened_sound reads closed old sound again

  -- where no array is held at the path, none is at a related one
  free : held_at path old.arrays ≡ None → is_taken path old.arrays ≡ false
  free none = free_from path old.arrays again.apart (λ q g at.
      let was = again.each q g at in
      let differs = λ (same : path ≡ q). none-some g (sym none ∙ ap (λ r. held_at r old.arrays) same ∙ at) in
      ap (λ p. is_related p g.path) here ∙ ap (is_related h.path) (ap (λ (x : Held). x.path) was.2.0) ∙ unrelated_paths closed.arrays path q h was.0 sound.apart found was.1 differs)

  -- and the key of the document is no key of a chunk
  no_chunk : held_at path old.arrays ≡ None → IsChunkKeyIn old.arrays (version_key path h.tree) → ⊥
  no_chunk none k =
      key_under-unrelated path k.held.path _ (encoded_key k.held.document.keys k.names.chunk) node (old_sound.each k.held.path k.held k.found).node
      (free_of path k.held.path old.arrays k.held (free none) k.found) k.names.is

  -- ---- it is done

  reordered_again : Reopens path order old new → AreReopened closed new
  reordered_again r = same_again closed (record { arrays = with_order path order old.arrays; store = old.store; refused = old.refused }) new (record { apart = apart_ordered path order old.arrays again.apart; store = again.store; each = each }) r.updates r.stores where
    each : (q : List ℕ) (x : Held) → held_at q (with_order path order old.arrays) ≡ Some x → WasHeld closed q x
    each q x e =
        let g = held_at-ordered path q order old.arrays x e in
        let was = again.each q g.0 g.1 in
        let P : Held → Type 0 = λ y. WasHeld closed q y in
        ⊎_elim (λ is. subst P (sym is) was) (λ is. subst P (sym is) (was.0, was.1, (ap (λ (y : Held). record y { order = order }) was.2.0, was.2.1))) g.2

  opened_again : Opens reads path order old new → IsReopenedAs h order done new → AreReopened closed new
  opened_again o r = record {
    apart = let P : List Held → Type 0 = λ hs. AreApart hs in subst P (sym o.begins.holds) (apart_more old.arrays begun again.apart (free o.begins.free));
    store = o.stores ∙ again.store;
    each = λ q x e. ⊎_elim (λ is. fresh q x e is) (again.each q x) (held_at-more q old.arrays begun x o.begins.free (sym (ap (held_at q) o.begins.holds) ∙ e));
  } where
    begun : Held
    begun = record { path = path; tree = o.tree; document = o.meaning; order = order; table = o.table }

    fresh : (q : List ℕ) (x : Held) → held_at q new.arrays ≡ Some x → x ≡ begun → WasHeld closed q x
    fresh q x e is =
        let at : q ≡ path = held_at-path q new.arrays x e ∙ ap (λ (y : Held). y.path) is in
        let one : x ≡ record h { order = order; table = r.table } = same_Some x (record h { order = order; table = r.table }) (sym e ∙ ap (λ p. held_at p new.arrays) (at ∙ here) ∙ r.held) in
        let Q : Held → Type 0 = λ y. WasHeld closed q y in
        subst Q (sym one) (h, ap (λ p. held_at p closed.arrays) at ∙ found, (refl, r.cells))

  -- ---- it is refused

  refused_same : (c : Cause) (n : ℕ) → RefusesAt reads (reopen path order) (refusal c n) old new → (new.arrays ≡ old.arrays) × (new.store ≡ old.store)
  refused_same c n s =
      let P : Type 0 = (new.arrays ≡ old.arrays) × (new.store ≡ old.store) in
      let stays : Stays c n old new → P = λ k. (ap (λ (w : World). w.arrays) k.is, ap (λ (w : World). w.store) k.is) in
      at_cases reads (reopen path order) c n old new P s stays (λ k. stays k.1)

  held_refused : (c : Cause) (n : ℕ) (g : Held) → held_at path old.arrays ≡ Some g → RefusesAt reads (reopen path order) (refusal c n) old new → IsAnsweredAgain (refused c n)
  held_refused cause.Path n g at s = absurd (false≢true (sym s.0 ∙ node))
  held_refused cause.Memory n g at s = inr (inl (ap (refused cause.Memory) (⊎_elim (λ (k : Stays cause.Memory n old new). k.applied) (λ k. k.1.1.applied) s)))
  held_refused cause.Store n g at s = inr (inr (ap (refused cause.Store) s.1.1.applied))
  held_refused cause.DocumentChanged n g at s = absurd ((never_damaged reads old new (reopen path order) n good old_sound).1 s)
  held_refused c n g at s = let P : Option Held → Type 0 = λ o. ReopenRefuses reads old path o c in absurd (subst P at s.1.0)

  answered : (answer : Answer) → Step reads old (reopen path order) answer new → IsAnsweredAgain answer
  answered done s = inl refl
  answered (cells payload) s = absurd s
  answered (compacted changed) s = absurd s
  answered (refused c n) s = go (held_at path old.arrays) refl where
    go : (o : Option Held) → held_at path old.arrays ≡ o → IsAnsweredAgain (refused c n)
    go None e = ⊎_elim (λ r. inl r.is) inr (reopens_alike reads closed old new path h order (refused c n) good found (sound.each path h found) again.store e (no_chunk e) s)
    go (Some g) e = held_refused c n g e s

  -- ---- in all cases

  pub next_again : (answer : Answer) → Step reads old (reopen path order) answer new → AreReopened closed new
  next_again done s = ⊎_elim reordered_again opens s.0 where
    opens : Opens reads path order old new → AreReopened closed new
    opens o = ⊎_elim (opened_again o) (λ other. absurd (⊎_elim (λ e. not_refused cause.Memory 0 e) (λ e. not_refused cause.Store 0 e) other))
        (reopens_alike reads closed old new path h order done good found (sound.each path h found) again.store o.begins.free (no_chunk o.begins.free) s) where
          not_refused : (c : Cause) (n : ℕ) → done ≡ refused c n → ⊥
          not_refused c n e = cc
  next_again (cells payload) s = absurd s
  next_again (compacted changed) s = absurd s
  next_again (refused c n) s = let same = refused_same c n s in same_again closed old new again same.0 same.1

  pub held_then : Step reads old (reopen path order) done new → (g : Held) × (held_at path new.arrays ≡ Some g)
  held_then s = ⊎_elim
      (λ (r : Reopens path order old new). let g = held_at-reordered path path order old.arrays r.held r.found in (g.0, ap (held_at path) r.updates ∙ g.1))
      (λ (o : Opens reads path order old new). (_, ap (held_at path) o.begins.holds ∙ held_at-new path old.arrays _ o.begins.free refl))
      s.0

  pub held_still : (answer : Answer) → Step reads old (reopen path order) answer new → HoldsStill old new
  held_still done s q g at = ⊎_elim
      (λ (r : Reopens path order old new). let x = held_at-reordered path q order old.arrays g at in (x.0, ap (held_at q) r.updates ∙ x.1))
      (λ (o : Opens reads path order old new). (g, ap (held_at q) o.begins.holds ∙ held_at-before q old.arrays _ g at))
      s.0
  held_still (cells payload) s q g at = absurd s
  held_still (compacted changed) s q g at = absurd s
  held_still (refused c n) s q g at = holds_same old new (refused_same c n s).0 q g at

-- ---- a run

-- after a run of reopenings
record RunsAgain (closed old new : World) (requests : List Request) (answers : List Answer) : Type 0 where
  pub again : AreReopened closed new
  pub answered : All IsAnsweredAgain answers
  pub named : (n : ℕ) (path : List ℕ) (order : SubchunkWriteOrder) → slice_get requests n ≡ Some (reopen path order) → slice_get answers n ≡ Some done → (h : Held) × (held_at path new.arrays ≡ Some h)
  pub still : HoldsStill old new

module _ (reads : ReadsCodecs) (closed new : World) (good : ReadsGood reads) (sound : IsSound reads closed) where
  ran : (old : World) (requests : List Request) (answers : List Answer) → AreReopened closed old → All (AsksAgain closed) requests → Run reads old requests answers new → RunsAgain closed old new requests answers
  ran old [] [] again asks r = record {
    again = let P : World → Type 0 = λ w. AreReopened closed w in subst P (sym r) again;
    answered = All-nil IsAnsweredAgain;
    named = λ n path order e f. absurd (none-some _ e);
    still = holds_same old new (ap (λ (w : World). w.arrays) r);
  }
  ran old [] (answer ∷ answers) again asks r = absurd r
  ran old (request ∷ requests) [] again asks r = absurd r
  ran old (reopen path order ∷ requests) (answer ∷ answers) again asks r =
      let h = All-head (AsksAgain closed) (reopen path order) requests asks in
      let rest = ran r.0 requests answers (next_again reads closed old r.0 path h.0 order good sound h.1 again answer r.1) (All-tail (AsksAgain closed) (reopen path order) requests asks) r.2 in
      record {
        again = rest.again;
        answered = All-cons IsAnsweredAgain answer answers (answered reads closed old r.0 path h.0 order good sound h.1 again answer r.1) rest.answered;
        named = named r.0 path order answer requests answers (λ is. let P : Answer → Type 0 = λ a. Step reads old (reopen path order) a r.0 in held_then reads closed old r.0 path h.0 order good sound h.1 again (subst P is r.1)) rest.named rest.still;
        still = λ q g at. let mid = held_still reads closed old r.0 path h.0 order good sound h.1 again answer r.1 q g at in rest.still q mid.0 mid.1;
      } where
        named : (mid : World) (path : List ℕ) (order : SubchunkWriteOrder) (answer : Answer) (requests : List Request) (answers : List Answer) → (answer ≡ done → (g : Held) × (held_at path mid.arrays ≡ Some g))
            → ((n : ℕ) (p : List ℕ) (o : SubchunkWriteOrder) → slice_get requests n ≡ Some (reopen p o) → slice_get answers n ≡ Some done → (h : Held) × (held_at p new.arrays ≡ Some h)) → HoldsStill mid new
            → (n : ℕ) (p : List ℕ) (o : SubchunkWriteOrder) → slice_get (reopen path order ∷ requests) n ≡ Some (reopen p o) → slice_get (answer ∷ answers) n ≡ Some done → (h : Held) × (held_at p new.arrays ≡ Some h)
        named mid path order answer requests answers held more still zero p o e f =
            let is : answer ≡ done = same_Some answer done f in
            let same : path ≡ p = cc in
            let mid_held = held is in
            let then = still path mid_held.0 mid_held.1 in
            (then.0, ap (λ q. held_at q new.arrays) (sym same) ∙ then.1)
        named mid path order answer requests answers held more still (suc n) p o e f = more n p o e f
  ran old (request ∷ requests) (answer ∷ answers) again asks r = absurd (All-head (AsksAgain closed) request requests asks)

pub runs_reopen : RunsReopen
runs_reopen reads closed new count requests answers good sound asks r =
    let begins : AreReopened closed (world_over closed.store count) = record { apart = tt; store = refl; each = λ path h e. absurd (none-some h e) } in
    let after = ran reads closed new good sound (world_over closed.store count) requests answers begins asks r in
    (after.again, reopened_sound reads closed new sound after.again, after.answered, after.named)

-- ---- and on

pub runs_go_on : RunsGoOn
runs_go_on reads old new [] others [] more same r = (old, refl, r)
runs_go_on reads old new [] others (answer ∷ answers) more same r = absurd (omega (arith, same))
runs_go_on reads old new (request ∷ requests) others [] more same r = absurd (omega (arith, same))
runs_go_on reads old new (request ∷ requests) others (answer ∷ answers) more same r =
    let rest = runs_go_on reads r.0 new requests others answers more (omega (arith, same)) r.2 in
    (rest.0, (r.0, r.1, rest.1), rest.2)
