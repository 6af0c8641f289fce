-- The headline and tight layout, by the laws of steps and runs.
use Rattle.std.proofs.Common.{◌≡◌, ◌≢◌, ◌∙◌, ◌⊎◌, inl, inr, ⊎_elim, ℕ, zero, Bool, true, false, if◌then◌else◌, List, [], ◌∷◌, ◌++◌, ◌||◌, length, bytes_eq, refl, sym, ap, subst, Option, Some, None}
use Rattle.std.specs.Option.{option_map_or}
use Rattle.std.specs.Prelude.{All}
use Rattle.std.proofs.lemmas.Bool.{false≢true}
use Rattle.std.proofs.lemmas.List.Elements.{All-head, All-tail, All-nil, All-cons}
use Rattle.std.proofs.lemmas.Option.{none-some, same_Some}
use Rattle.std.proofs.lemmas.Slice.Eq.{bytes_eq-Decides}
use Rattle.zarr_grids_chunks.proofs.Filters.{told}
use Rattle.zarr_codecs_meaning.specs.Fits.{is_plain}
use Rattle.zarr_codecs_metadata.specs.Chains.{ReadsCodecs}
use Rattle.zarr_codecs_options.specs.declared.codec_options.CodecOptions.{CodecOptions}
use Rattle.zarr_codecs_options.specs.declared.subchunk_write_order.SubchunkWriteOrder.{SubchunkWriteOrder}
use Rattle.zarr_run_meaning.specs.declared.cause.Cause.TheVariants as cause
use Rattle.zarr_run_meaning.specs.Changes.{Reopens, Opens}
use Rattle.zarr_run_meaning.specs.Laws.{IsUndamaged, HasTables}
use Rattle.zarr_run_meaning.specs.Requests.{Request, create, reopen, compact, rewrite, path_of, Answer, done, cells, compacted, refused}
use Rattle.zarr_run_meaning.specs.Rewrites.{IsHeldStill, IsCanonHeld, IsCanonAlone, LeavesCells}
use Rattle.zarr_run_meaning.specs.Runs.{Run}
use Rattle.zarr_run_meaning.specs.Sound.{IsSoundAt, IsSound, IsSoundAlone, BeginsSound, AsksOwned, AsksFaithful, AllAskFaithful, ReadsGood}
use Rattle.zarr_run_meaning.specs.Steps.{Step}
use Rattle.zarr_run_meaning.specs.Tight.{IsTightHeld}
use Rattle.zarr_run_meaning.specs.Worlds.{Held, World, held_at, with_order, is_row_major, writes_exactly}
use Rattle.zarr_run_meaning.proofs.Again.{runs_go_on}
use Rattle.zarr_run_meaning.proofs.Alone.{begins_alone, sound_alone, steps_keep_sound}
use Rattle.zarr_run_meaning.proofs.Arrays.{held_at-path, held_at-new, free_none}
use Rattle.zarr_run_meaning.proofs.Begun.{no_chunks_are_fill, created_array, creates_fill}
use Rattle.zarr_run_meaning.proofs.Canon.{rewrites_canon}
use Rattle.zarr_run_meaning.proofs.Changed.{changes_no_cell}
use Rattle.zarr_run_meaning.proofs.KeptCanon.{sound_tables, sound_runs_keep_canon}
use Rattle.zarr_run_meaning.proofs.KeptTight.{begins_tight, compacts_exactly}
use Rattle.zarr_run_meaning.proofs.Orders.{IsRowMajorThere, orders}
use Rattle.zarr_run_meaning.proofs.Owning.{runs_own, owned_has_no_chunks}
use Rattle.zarr_run_meaning.proofs.Reading.{alone_undamaged}
use Rattle.zarr_run_meaning.proofs.Sound.{steps_sound, owned_begins, asks_still, all_still, owned_run, owned_runs_sound}
use Rattle.zarr_run_meaning.proofs.TightChunks.{no_chunks_are_tight}
use Rattle.zarr_run_meaning.proofs.Undamaged.{runs_undamaged}
use Rattle.zarr_run_session.proofs.Plain.{plain_before}
use Rattle.zarr_run_session.specs.Headline.{IsIntact, LeavesCanon, CompactsAfresh, BeginsFill, TableRun, is_row_major_at, is_row_major_by, is_row_major_after, IsPlainThere, EndsCanon, HasBegun, AsksFresh}
use Rattle.zarr_run_session.specs.Sessions.{Exchanges}

-- ---- lists of commands in two parts

pub All-left : {X : Type 0} (P : X → Type 0) (xs ys : List X) → All P (xs ++ ys) → All P xs
All-left P [] ys all = All-nil P
All-left P (x ∷ xs) ys all = All-cons P x xs (All-head P x (xs ++ ys) all) (All-left P xs ys (All-tail P x (xs ++ ys) all))

pub All-right : {X : Type 0} (P : X → Type 0) (xs ys : List X) → All P (xs ++ ys) → All P ys
All-right P [] ys all = all
All-right P (x ∷ xs) ys all = All-right P xs ys (All-tail P x (xs ++ ys) all)

faithful_parts : (reads : ReadsCodecs) (first last : List Request) (firsts lasts : List Answer) → length first ≡ length firsts → AllAskFaithful reads (first ++ last) (firsts ++ lasts) → AllAskFaithful reads first firsts × AllAskFaithful reads last lasts
faithful_parts reads [] last [] lasts many asks = (tt, asks)
faithful_parts reads [] last (a ∷ firsts) lasts many asks = absurd (cc)
faithful_parts reads (r ∷ first) last [] lasts many asks = absurd (cc)
faithful_parts reads (r ∷ first) last (a ∷ firsts) lasts many asks =
    let rest = faithful_parts reads first last firsts lasts (cc) asks.1 in
    ((asks.0, rest.0), rest.1)

-- ---- the order that the last create or reopening asks for

ordered_at : (path : List ℕ) (order : SubchunkWriteOrder) (w : List Held) (h : Held) → held_at path (with_order path order w) ≡ Some h → h.order ≡ order
ordered_at path order [] h e = absurd (none-some h e)
ordered_at path order (x ∷ w) h e = go (bytes_eq path x.path) refl (ordered_at path order w h) e where
  go : (b : Bool) → bytes_eq path x.path ≡ b → (held_at path (with_order path order w) ≡ Some h → h.order ≡ order) → held_at path (if b then record x { order = order } ∷ w else x ∷ with_order path order w) ≡ Some h → h.order ≡ order
  go true t rest f = ap (λ (y : Held). y.order) (same_Some h (record x { order = order }) (sym f ∙ ap (λ (b : Bool). if b then Some (record x { order = order }) else held_at path w) t))
  go false t rest f = rest (sym (ap (λ (b : Bool). if b then Some x else held_at path (with_order path order w)) t) ∙ f)

-- a command of the path asks for the order, or one of another path leaves it
asked_by : (path other : List ℕ) (order : SubchunkWriteOrder) (was : Bool) → (if bytes_eq other path then is_row_major order else was) ≡ true → ((other ≡ path) × (is_row_major order ≡ true)) ⊎ ((other ≢ path) × (was ≡ true))
asked_by path other order was now = ⊎_elim
    (λ t. inl ((bytes_eq-Decides other path).0 t, sym (ap (λ (b : Bool). if b then is_row_major order else was) t) ∙ now))
    (λ f. inr ((λ same. false≢true (sym f ∙ (bytes_eq-Decides other path).1 same)), sym (ap (λ (b : Bool). if b then is_row_major order else was) f) ∙ now))
    (told (bytes_eq other path))

module _ (reads : ReadsCodecs) (path : List ℕ) where
  none_there : (world : World) (other : List ℕ) → other ≡ path → held_at other world.arrays ≡ None → IsRowMajorThere world path
  none_there world other same none h e = absurd (none-some h (sym none ∙ ap (λ p. held_at p world.arrays) same ∙ e))

  order_by : (old new : World) (request : Request) (answer : Answer) (was : Bool) → (was ≡ true → IsRowMajorThere old path) → is_row_major_by path request answer was ≡ true → Step reads old request answer new → IsRowMajorThere new path
  order_by old new (create other document order) done was there now s = ⊎_elim
      (λ here. orders reads old new path (none_there old other here.0 (free_none other old.arrays s.0.free)) (create other document order) done (λ same. here.1) s)
      (λ away. orders reads old new path (there away.1) (create other document order) done (λ same. absurd (away.0 same)) s)
      (asked_by path other order was now)
  order_by old new (reopen other order) done was there now s = ⊎_elim
      (λ here. ⊎_elim
      (λ (r : Reopens other order old new). λ h e.
      let P : List ℕ → Type 0 = λ p. held_at path (with_order p order old.arrays) ≡ Some h in
      ap is_row_major (ordered_at path order old.arrays h (subst P here.0 (sym (ap (held_at path) r.updates) ∙ e))) ∙ here.1)
      (λ (o : Opens reads other order old new). orders reads old new path (none_there old other here.0 o.begins.free) (reopen other order) done (λ same. here.1) s)
      s.0)
      (λ away. orders reads old new path (there away.1) (reopen other order) done (λ same. absurd (away.0 same)) s)
      (asked_by path other order was now)
  order_by old new request answer was there now s = orders reads old new path (there now) request answer tt s

  order_after : (old new : World) (requests : List Request) (answers : List Answer) (was : Bool) → (was ≡ true → IsRowMajorThere old path) → is_row_major_after path requests answers was ≡ true → Run reads old requests answers new → IsRowMajorThere new path
  order_after old new [] [] was there now r = let P : World → Type 0 = λ w. IsRowMajorThere w path in subst P (sym r) (there now)
  order_after old new [] (answer ∷ answers) was there now r = absurd r
  order_after old new (request ∷ requests) [] was there now r = absurd r
  order_after old new (request ∷ requests) (answer ∷ answers) was there now r =
      order_after r.0 new requests answers (is_row_major_by path request answer was) (λ asks. order_by old r.0 request answer was there asks r.1) now r.2

-- how an array is written before a run
row_major_there : (path : List ℕ) (world : World) → is_row_major_at path world ≡ true → IsRowMajorThere world path
row_major_there path world now h e = sym (ap (λ (o : Option Held). option_map_or (λ (g : Held). is_row_major g.order) o false) e) ∙ now

pub or_left : (b c : Bool) → b ≡ true → (b || c) ≡ true
or_left true c e = refl
or_left false c e = absurd (false≢true e)

pub or_right : (b c : Bool) → c ≡ true → (b || c) ≡ true
or_right true c e = refl
or_right false c e = e

-- how an array is written in the midst of a run
pub written_exactly : (reads : ReadsCodecs) (path : List ℕ) (before mid after : World) (first last : Exchanges) → Run reads before first.0 first.1 mid → Run reads mid last.0 last.1 after
    → (is_row_major_after path first.0 first.1 (is_row_major_at path before) ≡ true) ⊎ IsPlainThere path after → (h : Held) → held_at path mid.arrays ≡ Some h → writes_exactly h ≡ true
written_exactly reads path before mid after first last start rest written h found = ⊎_elim
    (λ order. or_right (is_plain h.document.chain) (is_row_major h.order) (order_after reads path before mid first.0 first.1 (is_row_major_at path before) (row_major_there path before) order start h found))
    (λ plain. or_left (is_plain h.document.chain) (is_row_major h.order) (plain_before reads mid after last.0 last.1 path rest plain h found))
    written

module _ (reads : ReadsCodecs) (good : ReadsGood reads) where
  -- ---- one command

  pub undamaged : (old new : World) (request : Request) (answer : Answer) → IsSound reads old → BeginsSound reads old request answer → Step reads old request answer new → IsUndamaged request answer
  undamaged old new request answer sound begins s = runs_undamaged reads old new (request ∷ []) (answer ∷ []) good sound (new, begins, s, refl) zero request answer refl refl

  pub intact : (old new : World) (path : List ℕ) (request : Request) (answer : Answer) → IsSoundAlone reads old path → path_of request ≡ path → Step reads old request answer new → IsIntact answer
  intact old new path request (refused cause.Damage n) alone same s = let P : List ℕ → Type 0 = λ p. IsSoundAlone reads old p in (alone_undamaged reads old new request n good (subst P (sym same) alone)).0 s
  intact old new path request (refused cause.DocumentChanged n) alone same s = let P : List ℕ → Type 0 = λ p. IsSoundAlone reads old p in (alone_undamaged reads old new request n good (subst P (sym same) alone)).1 s
  intact old new path request answer alone same s = tt

  pub rewritten : (old new : World) (path : List ℕ) (options : CodecOptions) (answer : Answer) → (alone : IsSoundAlone reads old path) → writes_exactly alone.array ≡ true → options.store_empty_chunks ≡ false
      → Step reads old (rewrite path options) answer new → IsHeldStill path alone.array new × LeavesCanon alone.array answer old.store new.store
  rewritten old new path options answer alone exact unstored s = (changes_no_cell reads old new (rewrite path options) answer path alone.array tt alone.found (inl refl) s, go answer s) where
    go : (a : Answer) → Step reads old (rewrite path options) a new → LeavesCanon alone.array a old.store new.store
    go done t = ((rewrites_canon reads old new path options alone.array good alone alone.found exact unstored).0 t).1
    go (cells payload) t = absurd t
    go (compacted changed) t = absurd t
    go (refused c n) t = (rewrites_canon reads old new path options alone.array good alone alone.found exact unstored).1 c n t

  pub compacted_afresh : (old new : World) (path : List ℕ) (h : Held) (request : Request) (answer : Answer) → held_at path old.arrays ≡ Some h → IsTightHeld old.store h → Step reads old request answer new → CompactsAfresh path h request answer new.store
  compacted_afresh old new path h (compact other chunk options) (compacted true) found tight s = λ same.
      let P : List ℕ → Type 0 = λ p. Step reads old (compact p chunk options) (compacted true) new in
      compacts_exactly reads old new path chunk options h found tight (subst P same s)
  compacted_afresh old new path h request answer found tight s = tt

  pub begun : (old new : World) (request : Request) (answer : Answer) (h : Held) → HasTables reads old → held_at (path_of request) old.arrays ≡ None → BeginsSound reads old request answer → Step reads old request answer new
      → held_at (path_of request) new.arrays ≡ Some h → HasBegun reads h old.store new
  begun old new request answer h tables none begins s found =
      let P : List ℕ → Type 0 = λ p. IsSoundAlone reads new p in
      let at = held_at-path (path_of request) new.arrays h found in
      let alone = subst P at (begins_alone reads old new request answer (path_of request) h good tables begins none s found) in
      let Q : Held → Type 0 = λ x. IsSoundAt reads new.store x in
      let there = subst Q (same_Some alone.array h (sym alone.found ∙ ap (λ p. held_at p new.arrays) (sym at) ∙ found)) alone.there in (
        alone,
        λ empty. begins_tight reads old new request answer h.path h (λ place. h.document.elements.fill) good (ap (λ p. held_at p old.arrays) (sym at) ∙ none) s (ap (λ p. held_at p new.arrays) (sym at) ∙ found)
            (no_chunks_are_fill h.path h.document old.store (good h.tree h.document there.says) there.lossless empty) (no_chunks_are_tight h.path h.document old.store empty),
      )

  -- ---- runs

  begins_fill : (old new : World) (request : Request) (answer : Answer) → AsksOwned old request → AsksFaithful reads request answer → IsSound reads old → Step reads old request answer new → BeginsFill request answer new
  begins_fill old new (create path document order) done owned faithful sound s =
      let c = s.0 in
      let h = created_array reads old new path document order c in
      let found : held_at path new.arrays ≡ Some h = ap (held_at path) c.begins.holds ∙ held_at-new path old.arrays h (free_none path old.arrays c.free) refl in
      let is = faithful c.meaning c.opens in
      (h, found, creates_fill reads old new path document order h good s found is.lossless (owned_has_no_chunks reads old path c.meaning sound owned c.node c.free (inl is.ends)))
  begins_fill old new request answer owned faithful sound s = tt

  pub table_run : (old new : World) (requests : List Request) (answers : List Answer) → All (AsksOwned old) requests → AllAskFaithful reads requests answers → IsSound reads old → Run reads old requests answers new → TableRun reads old requests answers new
  table_run old new [] [] owned faithful sound r = r
  table_run old new [] (answer ∷ answers) owned faithful sound r = absurd r
  table_run old new (request ∷ requests) [] owned faithful sound r = absurd r
  table_run old new (request ∷ requests) (answer ∷ answers) owned faithful sound r =
      let own = All-head (AsksOwned old) request requests owned in
      let begins = owned_begins reads old r.0 request answer good own faithful.0 sound r.1 in
      let next = steps_sound reads old r.0 request answer good begins sound r.1 in (
        r.0,
        record {
          step = r.1;
          sound = next;
          undamaged = undamaged old r.0 request answer sound begins r.1;
          fill = begins_fill old r.0 request answer own faithful.0 sound r.1;
        },
        table_run r.0 new requests answers
            (all_still old r.0 (asks_still reads old r.0 request answer r.1) requests (All-tail (AsksOwned old) request requests owned)) faithful.1 next r.2,
      )

  -- what a command asks is owned still after a run
  owned_later : (old new : World) (requests : List Request) (answers : List Answer) → Run reads old requests answers new → (other : Request) → AsksOwned old other → AsksOwned new other
  owned_later old new [] [] r other owned = let P : World → Type 0 = λ w. AsksOwned w other in subst P (sym r) owned
  owned_later old new [] (answer ∷ answers) r other owned = absurd r
  owned_later old new (request ∷ requests) [] r other owned = absurd r
  owned_later old new (request ∷ requests) (answer ∷ answers) r other owned = owned_later r.0 new requests answers r.2 other (asks_still reads old r.0 request answer r.1 other owned)

  -- what the last rewrite leaves
  module _ (path : List ℕ) (before after : World) (first last : Exchanges) (options : CodecOptions) (unstored : options.store_empty_chunks ≡ false) (many : length first.0 ≡ length first.1)
      (written : (is_row_major_after path first.0 first.1 (is_row_major_at path before) ≡ true) ⊎ IsPlainThere path after) (leaves : All (LeavesCells path) last.0) (sound : IsSound reads before)
      (owned : All (AsksOwned before) (first.0 ++ rewrite path options ∷ last.0)) (faithful : AllAskFaithful reads (first.0 ++ rewrite path options ∷ last.0) (first.1 ++ done ∷ last.1)) where
    end_canon : (mid next : World) → Run reads before first.0 first.1 mid → Step reads mid (rewrite path options) done next → Run reads next last.0 last.1 after → (h : Held) × (held_at path after.arrays ≡ Some h) × IsCanonHeld after.store h
    end_canon mid next start s rest =
        let asks = faithful_parts reads first.0 (rewrite path options ∷ last.0) first.1 (done ∷ last.1) many faithful in
        let sound_mid = owned_runs_sound reads before mid first.0 first.1 good (All-left (AsksOwned before) first.0 (rewrite path options ∷ last.0) owned) asks.0 sound start in
        let h = s.0.held in
        let alone = sound_alone reads mid path h sound_mid s.0.found in
        let exact = written_exactly reads path before mid after first (rewrite path options ∷ last.0, done ∷ last.1) start (next, s, rest) written h s.0.found in
        let left = (rewrites_canon reads mid next path options h good alone s.0.found exact unstored).0 s in
        let alone_then = steps_keep_sound reads mid next (rewrite path options) done path good (sound_tables reads mid good sound_mid) tt alone s in
        let P : Held → Type 0 = λ x. IsCanonHeld next.store x in
        let canon : IsCanonAlone reads next path = record { sound = alone_then; canon = subst P (same_Some h alone_then.array (sym left.0 ∙ alone_then.found)) left.1 } in
        let sound_then = steps_sound reads mid next (rewrite path options) done good tt sound_mid s in
        let later = λ (other : Request). λ (own : AsksOwned before other). asks_still reads mid next (rewrite path options) done s other (owned_later before mid first.0 first.1 start other own) in
        let owned_then = all_still before next later last.0 (All-tail (AsksOwned before) (rewrite path options) last.0 (All-right (AsksOwned before) first.0 (rewrite path options ∷ last.0) owned)) in
        let end = sound_runs_keep_canon reads next after last.0 last.1 path good sound_then leaves canon (owned_run reads next after last.0 last.1 good owned_then asks.1.1 sound_then rest) in
        (end.sound.array, end.sound.found, end.canon)

  pub ends_canon : (before after : World) (es : Exchanges) → IsSound reads before → AsksFresh reads before es → Run reads before es.0 es.1 after → EndsCanon before es after
  ends_canon before after es sound fresh r path k =
      let P : List Request → Type 0 = λ q. All (AsksOwned before) q in
      let Q : List Request → Type 0 = λ q. AllAskFaithful reads q es.1 in
      let R : List Answer → Type 0 = λ a. AllAskFaithful reads (k.first.0 ++ rewrite path k.options ∷ k.last.0) a in
      let S : List Request → Type 0 = λ q. Run reads before q es.1 after in
      let T : List Answer → Type 0 = λ a. Run reads before (k.first.0 ++ rewrite path k.options ∷ k.last.0) a after in
      let parts = runs_go_on reads before after k.first.0 (rewrite path k.options ∷ k.last.0) k.first.1 (done ∷ k.last.1) k.many (subst T k.answers (subst S k.requests r)) in
      end_canon path before after k.first k.last k.options k.unstored k.many k.exact k.leaves sound
      (subst P k.requests fresh.owned) (subst R k.answers (subst Q k.requests fresh.faithful))
      parts.0 parts.2.0 parts.1 parts.2.1 parts.2.2
