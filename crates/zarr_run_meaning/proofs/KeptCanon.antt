-- What is stored for an array stays what storing its cells afresh leaves.
use Rattle.std.proofs.Common.{◌≡◌, ◌≢◌, ◌∙◌, ⊎_elim, ℕ, Bool, true, false, List, [], ◌∷◌, map, refl, sym, ap, subst, Option, Some, None, is_some, bytes_eq}
use Rattle.std.specs.FinMap.{get, empty}
use Rattle.std.specs.Prelude.{All}
use Rattle.std.proofs.lemmas.Bool.{false≢true}
use Rattle.std.proofs.lemmas.List.Elements.{All-head, All-tail, All-nil, All-cons}
use Rattle.std.proofs.lemmas.Option.{same_Some}
use Rattle.std.proofs.lemmas.Slice.Eq.{bytes_eq-Decides}
use Rattle.zarr_grids_boxes.specs.Boxes.{places}
use Rattle.zarr_grids_chunks.proofs.Filters.{told}
use Rattle.zarr_grids_keys.specs.Documents.{document_key}
use Rattle.zarr_grids_keys.specs.Keys.{key_under, chunk_key, encoded_key}
use Rattle.zarr_grids_keys.specs.Related.{is_related}
use Rattle.zarr_grids_keys.specs.declared.document_name.DocumentName.TheVariants.{ZarrJson, ZArray}
use Rattle.zarr_grids_keys.proofs.RelatedLemmas.{is_related-comm}
use Rattle.zarr_codecs_meaning.specs.Encoding.{encoded, stored_chunk}
use Rattle.zarr_codecs_meaning.specs.Laws.{AreCells}
use Rattle.zarr_codecs_meaning.specs.Types.{Cell, is_fill}
use Rattle.zarr_codecs_meaning.proofs.Lists.{some_same}
use Rattle.zarr_codecs_meaning.proofs.Shards.{stored_cases}
use Rattle.zarr_sharding_values.proofs.ChainCompaction.{encoded_gains_nothing}
use Rattle.zarr_codecs_metadata.specs.Chains.{ReadsCodecs}
use Rattle.zarr_codecs_options.specs.declared.codec_options.CodecOptions.{CodecOptions}
use Rattle.zarr_codecs_options.specs.declared.subchunk_write_order.SubchunkWriteOrder.{SubchunkWriteOrder}
use Rattle.zarr_array_meaning.specs.Arrays.{value_at}
use Rattle.zarr_array_meaning.specs.Compacting.{IsCompacted, CompactsChunk}
use Rattle.zarr_array_meaning.specs.Documents.{Document}
use Rattle.zarr_array_meaning.specs.Standing.{IsGood, IsLossless}
use Rattle.zarr_array_meaning.specs.StoreMaps.{StoreMap}
use Rattle.zarr_array_meaning.proofs.Showing.{are_cells, standing_shows}
use Rattle.zarr_run_meaning.specs.declared.cause.Cause.{Cause}
use Rattle.zarr_run_meaning.specs.Changes.{Reopens, Opens, Compacts}
use Rattle.zarr_run_meaning.specs.Laws.{HasTables}
use Rattle.zarr_run_meaning.specs.Requests.{Target, Refusal, refusal, Request, create, reopen, write, read, erase, compact, rewrite, path_of, Answer, done, cells, compacted, refused}
use Rattle.zarr_run_meaning.specs.Rewrites.{IsHeldStill, IsCanonHeld, IsCanonAlone, LeavesCells, ReopensApart, KeepsCanon, RunsKeepCanon, SoundRunsKeepCanon, RunsLeaveCanon, RewrittenTwice}
use Rattle.zarr_run_meaning.specs.Runs.{world_over}
use Rattle.zarr_run_meaning.specs.Sound.{IsSoundAt, IsSound, IsSoundAlone, OpensApart, OwnsAllKeys, AsksOwned, ReadsGood}
use Rattle.zarr_run_meaning.specs.Steps.{Stays, RefusesHeld, RefusesWrite, RefusesRead, RefusesErase, RefusesCompact, RefusesRewrite, Refuses, RefusesAt, Step}
use Rattle.zarr_run_meaning.specs.Tables.{cell}
use Rattle.zarr_run_meaning.specs.Worlds.{Held, World, array_of, held_at, writes_exactly}
use Rattle.zarr_run_meaning.proofs.Alone.{sound_alone, steps_keep_sound, reopens_apart, begins_apart}
use Rattle.zarr_run_meaning.proofs.Arrays.{held_at-path, free_of}
use Rattle.zarr_run_meaning.proofs.Beginning.{no_arrays_sound}
use Rattle.zarr_run_meaning.proofs.Canon.{rewrites_canon, canon_stays}
use Rattle.zarr_run_meaning.proofs.Changed.{step_change, keeps_unrelated, holds_unrelated, reordered, same_table}
use Rattle.zarr_run_meaning.proofs.Effects.{at_cases, create_cases, held_cases}
use Rattle.zarr_run_meaning.proofs.Frames.{steps_show}
use Rattle.zarr_run_meaning.proofs.Keys.{key_listed}
use Rattle.zarr_run_meaning.proofs.Owning.{empty_owned, steps_own, runs_own}
use Rattle.zarr_run_meaning.proofs.Reading.{box_same}
use Rattle.zarr_run_meaning.proofs.Sound.{steps_sound, owned_run, owned_runs_sound}
use Rattle.zarr_run_meaning.proofs.StoredAnew.{only}

-- ---- compactions

-- what storing cells afresh leaves is not compacted
module _ (document : Document) (shape : List ℕ) (cells : List Cell) (good : IsGood document) (lossless : IsLossless document) (are : AreCells document.elements shape cells) where
  canon_compacted : (changed : Bool) (old new : Option (List ℕ)) → (is_some old ≡ true → stored_chunk document.chain document.elements shape cells ≡ Some old) → IsCompacted document shape changed old new → new ≡ old
  canon_compacted true None new canon is = is.1
  canon_compacted false None new canon is = is.1
  canon_compacted false (Some value) new canon is = is.2
  canon_compacted true (Some value) new canon is = ⊎_elim
      (λ none. let no = none.1 in absurd (cc))
      (λ made.
      let writes = made.1.1 ∙ ap Some (some_same (sym made.1.2)) in
      let gains = encoded_gains_nothing document.chain document.elements shape value cells good.lawful is.0 lossless are writes in
      let what = sym gains ∙ is.1.1 in
      absurd (cc))
      (stored_cases (is_fill document.elements.fill cells) (encoded document.chain document.elements shape cells) (Some value) (canon refl))

-- what is stored for each chunk of an array stays
abbrev SameChunks : Held → StoreMap → StoreMap → Type 0
SameChunks h old new = (chunk : List ℕ) → value_at (array_of h) new chunk ≡ value_at (array_of h) old chunk

module _ (reads : ReadsCodecs) (h : Held) (chunk : List ℕ) (changed : Bool) (old new : StoreMap) (good : IsGood h.document) (sound : IsSoundAt reads old h) (canon : IsCanonHeld old h) where
  compacted_same : CompactsChunk (array_of h) chunk changed old new → SameChunks h old new
  compacted_same c other = ⊎_elim
      (λ k.
      let at = k.2 ∙ ap (chunk_key h.path h.document.keys) (only chunk k.0 k.1) in
      ap (get new) at ∙ here ∙ sym (ap (get old) at))
      (λ ne. c.others (chunk_key h.path h.document.keys other) ne)
      (key_listed h.path h.document (chunk ∷ []) (chunk_key h.path h.document.keys other)) where
        here : value_at (array_of h) new chunk ≡ value_at (array_of h) old chunk
        here =
            let there = canon chunk c.box c.below in
            canon_compacted h.document c.box.shape (map (cell h.document.elements.fill h.table) (places c.box.start c.box.shape)) good sound.lossless
            (are_cells h.document chunk c.box (cell h.document.elements.fill h.table) (box_same h.document chunk c.box c.below) good sound.values c.below)
            changed (value_at (array_of h) old chunk) (value_at (array_of h) new chunk) (λ has. there.0 (there.1 has)) c.is

-- ---- one step

canon_kept : (old new : StoreMap) (h : Held) (order : SubchunkWriteOrder) → SameChunks h old new → IsCanonHeld old h → IsCanonHeld new (record h { order = order })
canon_kept old new h order same canon chunk box below =
    let there = canon chunk box below in
    (λ fit. there.0 fit ∙ ap Some (sym (same chunk)), λ has. there.1 (sym (ap is_some (same chunk)) ∙ has))

module _ (reads : ReadsCodecs) (old new : World) (path : List ℕ) (good : ReadsGood reads) (tables : HasTables reads old) (k : IsCanonAlone reads old path) where
  abbrev h : Held
  h = k.sound.array

  here : path ≡ h.path
  here = held_at-path path old.arrays h k.sound.found

  -- the array is held still, and its chunks stay
  record Same : Type 0 where
    pub held : IsHeldStill path h new
    pub chunks : SameChunks h old.store new.store

  same_canon : Same → IsSoundAlone reads new path → IsCanonAlone reads new path
  same_canon same sound =
      let P : Held → Type 0 = λ x. IsCanonHeld new.store x in
      let is = same_Some (record h { order = same.held.order }) sound.array (sym same.held.found ∙ sound.found) in
      record { sound = sound; canon = subst P is (canon_kept old.store new.store h same.held.order same.chunks k.canon) }

  same_store : new.store ≡ old.store → SameChunks h old.store new.store
  same_store store chunk = ap (λ s. value_at (array_of h) s chunk) store

  unmoved : new.arrays ≡ old.arrays → new.store ≡ old.store → Same
  unmoved arrays store = record { held = record { order = h.order; found = ap (held_at path) arrays ∙ k.sound.found }; chunks = same_store store }

  stayed : (c : Cause) (n : ℕ) → Stays c n old new → Same
  stayed c n s = unmoved (ap (λ (w : World). w.arrays) s.is) (ap (λ (w : World). w.store) s.is)

  -- a command at an unrelated path
  beside : (request : Request) (answer : Answer) → is_related (path_of request) path ≡ false → Step reads old request answer new → Same
  beside request answer away s =
      let change = step_change reads old new request answer s in
      record {
        held = holds_unrelated (path_of request) path old new h k.sound.found away change;
        chunks = λ chunk. (keeps_unrelated (path_of request) h.path old new k.sound.there.node (ap (is_related (path_of request)) (sym here) ∙ away) change).under (encoded_key h.document.keys chunk);
      }

  after_read : (p : List ℕ) (target : Target) (options : CodecOptions) (answer : Answer) → Step reads old (read p target options) answer new → Same
  after_read p target options done s = absurd s
  after_read p target options (cells payload) s = unmoved (ap (λ (w : World). w.arrays) s.1) (ap (λ (w : World). w.store) s.1)
  after_read p target options (compacted changed) s = absurd s
  after_read p target options (refused c n) s = at_cases reads (read p target options) c n old new Same s (stayed c n) (λ r.
      held_cases (held_at p old.arrays) (RefusesRead target) c n old new Same r (stayed c n) (λ g found q. stayed c n q.1))

  -- a compaction of the array changes nothing
  compacted_here : (p chunk : List ℕ) (changed : Bool) (c : Compacts p chunk changed old new) → p ≡ path → Same
  compacted_here p chunk changed c same =
      let is = same_Some c.held h (sym c.found ∙ ap (λ q. held_at q old.arrays) same ∙ k.sound.found) in
      let P : Held → Type 0 = λ x. CompactsChunk (array_of x) chunk changed old.store new.store in
      let Q : Held → Type 0 = λ x. held_at p new.arrays ≡ Some x in
      record {
        held = record { order = h.order; found = ap (λ q. held_at q new.arrays) (sym same) ∙ subst Q is (same_table p c.held old new c.found c.updates) };
        chunks = compacted_same reads h chunk changed old.store new.store (good h.tree h.document k.sound.there.says) k.sound.there k.canon (subst P is c.stores);
      }

  after_compaction : (p chunk : List ℕ) (options : CodecOptions) (answer : Answer) → Step reads old (compact p chunk options) answer new → Same
  after_compaction p chunk options done s = absurd s
  after_compaction p chunk options (cells payload) s = absurd s
  after_compaction p chunk options (compacted changed) s =
      let c = s.0 in
      ⊎_elim
      (λ t. compacted_here p chunk changed c ((bytes_eq-Decides p path).0 t))
      (λ f. beside (compact p chunk options) (compacted changed) (is_related-comm p path ∙ k.sound.alone p c.held c.found (λ same. false≢true (sym f ∙ (bytes_eq-Decides p path).1 same))) s)
      (told (bytes_eq p path))
  after_compaction p chunk options (refused c n) s = at_cases reads (compact p chunk options) c n old new Same s (stayed c n) (λ r.
      held_cases (held_at p old.arrays) (RefusesCompact chunk) c n old new Same r (stayed c n) (λ g found q. stayed c n q.1))

  -- an array that is held at another path is at an unrelated one
  named_apart : (p : List ℕ) (g : Held) → p ≢ path → held_at p old.arrays ≡ Some g → is_related p path ≡ false
  named_apart p g differs found = is_related-comm p path ∙ k.sound.alone p g found differs

  -- a refusal by what is held at another path
  refused_there : (request : Request) (c : Cause) (n : ℕ) (refuses : Held → Refusal → World → World → Type 0) → path_of request ≢ path → Step reads old request (refused c n) new → RefusesAt reads request (refusal c n) old new
      → (Refuses reads request (refusal c n) old new → RefusesHeld (held_at (path_of request) old.arrays) refuses (refusal c n) old new) → Same
  refused_there request c n refuses differs s r by = at_cases reads request c n old new Same r (stayed c n) (λ q.
      held_cases (held_at (path_of request) old.arrays) refuses c n old new Same (by q) (stayed c n) (λ g found x. beside request (refused c n) (named_apart (path_of request) g differs found) s))

  after : (request : Request) (answer : Answer) → LeavesCells path request → OpensApart path old request answer → Step reads old request answer new → Same
  after (create p document order) done differs away s = beside (create p document order) done (ap (is_related p) here ∙ free_of p path old.arrays h s.0.free k.sound.found) s
  after (create p document order) (cells payload) differs away s = absurd s
  after (create p document order) (compacted changed) differs away s = absurd s
  after (create p document order) (refused c n) differs away s = create_cases reads p document order c n old new Same s (stayed c n) (λ l at.
      beside (create p document order) (refused c n) (ap (λ q. is_related q path) (sym at) ∙ ap (is_related l.path) here ∙ free_of l.path path old.arrays h l.free k.sound.found) s)
  after (reopen p order) done differs away s = ⊎_elim
      (λ (r : Reopens p order old new). record { held = reordered p path order old new h k.sound.found r.updates; chunks = same_store r.stores })
      (λ (o : Opens reads p order old new). beside (reopen p order) done (is_related-comm p path ∙ away o.begins.free) s)
      s.0
  after (reopen p order) (cells payload) differs away s = absurd s
  after (reopen p order) (compacted changed) differs away s = absurd s
  after (reopen p order) (refused c n) differs away s = at_cases reads (reopen p order) c n old new Same s (stayed c n) (λ r. stayed c n r.1)
  after (write p target given options) done differs away s = let w = s.0 in beside (write p target given options) done (named_apart p w.held differs w.found) s
  after (write p target given options) (cells payload) differs away s = absurd s
  after (write p target given options) (compacted changed) differs away s = absurd s
  after (write p target given options) (refused c n) differs away s = refused_there (write p target given options) c n (RefusesWrite (record { target = target; cells = given; options = options })) differs s s (λ q. q)
  after (read p target options) answer differs away s = after_read p target options answer s
  after (erase p chunks) done differs away s = let e = s.0 in beside (erase p chunks) done (named_apart p e.held differs e.found) s
  after (erase p chunks) (cells payload) differs away s = absurd s
  after (erase p chunks) (compacted changed) differs away s = absurd s
  after (erase p chunks) (refused c n) differs away s = refused_there (erase p chunks) c n (RefusesErase chunks) differs s s (λ q. q)
  after (compact p chunk options) answer differs away s = after_compaction p chunk options answer s
  after (rewrite p options) done differs away s = let r = s.0 in beside (rewrite p options) done (named_apart p r.held differs r.found) s
  after (rewrite p options) (cells payload) differs away s = absurd s
  after (rewrite p options) (compacted changed) differs away s = absurd s
  after (rewrite p options) (refused c n) differs away s = refused_there (rewrite p options) c n (RefusesRewrite options) differs s s (λ q. q)

-- an array whose chunks were rewritten
rewritten_alone : (reads : ReadsCodecs) (old new : World) (path : List ℕ) (options : CodecOptions) (h : Held) → ReadsGood reads → HasTables reads old → IsSoundAlone reads old path → Step reads old (rewrite path options) done new
    → (held_at path new.arrays ≡ Some h) × IsCanonHeld new.store h → IsCanonAlone reads new path
rewritten_alone reads old new path options h good tables alone s left =
    let sound = steps_keep_sound reads old new (rewrite path options) done path good tables tt alone s in
    let P : Held → Type 0 = λ x. IsCanonHeld new.store x in
    record { sound = sound; canon = subst P (same_Some h sound.array (sym left.0 ∙ sound.found)) left.1 }

pub keeps_canon : KeepsCanon
keeps_canon reads old new request answer path good tables asks away k s =
    same_canon reads old new path good tables k (after reads old new path good tables k request answer asks away s) (steps_keep_sound reads old new request answer path good tables away k.sound s)

-- ---- runs

pub runs_keep_canon : RunsKeepCanon
runs_keep_canon reads old new [] [] path good tables asks apart k r = let P : World → Type 0 = λ w. IsCanonAlone reads w path in subst P (sym r) k
runs_keep_canon reads old new [] (answer ∷ answers) path good tables asks apart k r = absurd r
runs_keep_canon reads old new (request ∷ requests) [] path good tables asks apart k r = absurd r
runs_keep_canon reads old new (request ∷ requests) (answer ∷ answers) path good tables asks apart k r =
    let away = reopens_apart reads old r.0 path k.sound request answer (All-head (ReopensApart path) request requests apart) in
    let next = keeps_canon reads old r.0 request answer path good tables (All-head (LeavesCells path) request requests asks) away k r.1 in
    runs_keep_canon reads r.0 new requests answers path good (steps_show reads old r.0 request answer tables r.1)
    (All-tail (LeavesCells path) request requests asks) (All-tail (ReopensApart path) request requests apart) next r.2

pub rewritten_twice : RewrittenTwice
rewritten_twice reads old mid last new path options more h g requests answers answer good tables alone found exact unstored first asks apart run found_last exact_last unstored_last s =
    let left = (rewrites_canon reads old mid path options h good alone found exact unstored).0 first in
    let canon = rewritten_alone reads old mid path options h good tables alone first left in
    let still = runs_keep_canon reads mid last requests answers path good (steps_show reads old mid (rewrite path options) done tables first) asks apart canon run in
    canon_stays reads last new path more answer good still (ap writes_exactly (same_Some still.sound.array g (sym still.sound.found ∙ found_last)) ∙ exact_last) unstored_last s

-- ---- runs from sound worlds

-- what is stored in a sound world shows only the cells of its tables
pub sound_tables : (reads : ReadsCodecs) (world : World) → ReadsGood reads → IsSound reads world → HasTables reads world
sound_tables reads world good sound path h found =
    let s = sound.each path h found in
    (s.node, s.says, λ lossless. standing_shows h.path h.document world.store (cell h.document.elements.fill h.table) (good h.tree h.document s.says) lossless s.values s.stands)

pub sound_runs_keep_canon : SoundRunsKeepCanon
sound_runs_keep_canon reads old new [] [] path good sound asks k r = let P : World → Type 0 = λ w. IsCanonAlone reads w path in subst P (sym r) k
sound_runs_keep_canon reads old new [] (answer ∷ answers) path good sound asks k r = absurd r
sound_runs_keep_canon reads old new (request ∷ requests) [] path good sound asks k r = absurd r
sound_runs_keep_canon reads old new (request ∷ requests) (answer ∷ answers) path good sound asks k r =
    let tables = sound_tables reads old good sound in
    let next = keeps_canon reads old r.0 request answer path good tables (All-head (LeavesCells path) request requests asks) (begins_apart reads old r.0 path k.sound request answer r.1 r.2) k r.2 in
    sound_runs_keep_canon reads r.0 new requests answers path good (steps_sound reads old r.0 request answer good r.1 sound r.2) (All-tail (LeavesCells path) request requests asks) next r.3

-- where no key is foreign, each command asks for what is owned
pub all_owned : (world : World) → OwnsAllKeys world → (requests : List Request) → All (AsksOwned world) requests
all_owned world owned [] = All-nil (AsksOwned world)
all_owned world owned (request ∷ requests) = All-cons (AsksOwned world) request requests (one request) (all_owned world owned requests) where
  one : (other : Request) → AsksOwned world other
  one (create path document order) = λ name. owned (key_under path name)
  one (reopen path order) = λ none. (owned (document_key path ZarrJson), owned (document_key path ZArray))
  one other = tt

pub runs_leave_canon : RunsLeaveCanon
runs_leave_canon reads mid last new count requests more answers others path options h good faithful first found exact unstored s faithful_more asks then =
    let begins = world_over empty count in
    let sound = owned_runs_sound reads begins mid requests answers good (all_owned begins (empty_owned count) requests) faithful (no_arrays_sound reads empty count) first in
    let alone = sound_alone reads mid path h sound found in
    let canon = rewritten_alone reads mid last path options h good (sound_tables reads mid good sound) alone s ((rewrites_canon reads mid last path options h good alone found exact unstored).0 s) in
    let next = steps_sound reads mid last (rewrite path options) done good tt sound s in
    let owned : OwnsAllKeys last = λ key. steps_own reads mid last (rewrite path options) done key s (runs_own reads begins mid requests answers key first (empty_owned count key)) in
    let end = sound_runs_keep_canon reads last new more others path good next asks canon (owned_run reads last new more others good (all_owned last owned more) faithful_more next then) in
    (end.sound.array, end.sound.found, end.canon)
