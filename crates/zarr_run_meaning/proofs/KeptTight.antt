-- What is stored for an array stays tight.
use Rattle.std.proofs.Common.{◌≡◌, ◌∙◌, inl, ⊎_elim, ℕ, Bool, true, false, List, [], ◌∷◌, ◌++◌, ◌||◌, map, refl, sym, ap, subst, Option, Some, None}
use Rattle.std.specs.FinMap.{empty}
use Rattle.std.proofs.lemmas.Bool.{false≢true}
use Rattle.std.proofs.lemmas.List.Elements.{All-head, All-tail}
use Rattle.std.proofs.lemmas.Option.{none-some, same_Some}
use Rattle.serde_json.specs.Data.{Data}
use Rattle.zarr_grids_boxes.specs.Boxes.{places}
use Rattle.zarr_grids_keys.specs.Related.{is_related}
use Rattle.zarr_grids_keys.proofs.RelatedLemmas.{is_related-comm}
use Rattle.zarr_codecs_meaning.specs.Fits.{is_plain}
use Rattle.zarr_codecs_meaning.specs.Types.{Cell}
use Rattle.zarr_codecs_metadata.specs.Chains.{ReadsCodecs}
use Rattle.zarr_codecs_options.specs.declared.subchunk_write_order.SubchunkWriteOrder.{SubchunkWriteOrder}
use Rattle.zarr_codecs_traits.specs.PartWriting.{ChunkTight}
use Rattle.zarr_sharding_values.proofs.ChainCompaction.{chain_compacted_encoded}
use Rattle.zarr_array_meaning.specs.Arrays.{value_at}
use Rattle.zarr_array_meaning.specs.Chunks.{KeepsOtherKeys}
use Rattle.zarr_array_meaning.specs.Compacting.{IsCompacted, CompactsChunk}
use Rattle.zarr_array_meaning.specs.Standing.{ChunkTightAt, IsGood, IsLossless}
use Rattle.zarr_array_meaning.specs.StoreMaps.{StoreMap}
use Rattle.zarr_run_meaning.specs.Changes.{Creates, Reopens, Opens}
use Rattle.zarr_run_meaning.specs.Laws.{HasTables}
use Rattle.zarr_run_meaning.specs.Requests.{Request, create, reopen, Answer, done}
use Rattle.zarr_run_meaning.specs.Rewrites.{ReopensApart}
use Rattle.zarr_run_meaning.specs.Runs.{world_over}
use Rattle.zarr_run_meaning.specs.Sound.{IsSoundAt, IsSound, HasNoChunks, IsStoredAs, AsksFaithful, AsksOwned, ReadsGood}
use Rattle.zarr_run_meaning.specs.Steps.{Step}
use Rattle.zarr_run_meaning.specs.Tables.{Table, cell}
use Rattle.zarr_run_meaning.specs.Tight.{StoreTight, IsTightHeld, IsTightAlone, IsTightThere, BeginsTight, StepsKeepTight, IsEncodedAt, CompactsExactly, AsksRowMajor, RunsKeepTight, OwnedRunsTight, RunsTight}
use Rattle.zarr_run_meaning.specs.Worlds.{Held, World, array_of, held_at, is_row_major, writes_exactly, IsTableAt, WithTable}
use Rattle.zarr_run_meaning.proofs.Alone.{sound_alone, steps_keep_sound, reopens_apart, begins_apart}
use Rattle.zarr_run_meaning.proofs.Arrays.{Stayed, at_path, near, apart, held_at-path, held_once, held_at-before, held_at-more, held_at-ordered, held_at-reordered, held_after, free_of, free_none}
use Rattle.zarr_run_meaning.proofs.Beginning.{no_arrays_sound}
use Rattle.zarr_run_meaning.proofs.Begun.{stored_cells, no_chunks_are_fill, created_array, created_put, opened_array}
use Rattle.zarr_run_meaning.proofs.Effects.{LeftAttributes, left_put, Effect, kept, left, created, reordered, opened, wrote, erased, stored_anew, step_effect}
use Rattle.zarr_run_meaning.proofs.Frames.{steps_show}
use Rattle.zarr_run_meaning.proofs.KeptCanon.{sound_tables, all_owned}
use Rattle.zarr_run_meaning.proofs.Keys.{others_kept}
use Rattle.zarr_run_meaning.proofs.Orders.{Begun, none_began, creates, reopens, step_begun, orders}
use Rattle.zarr_run_meaning.proofs.Owning.{empty_owned, owned_has_no_chunks, opens_none}
use Rattle.zarr_run_meaning.proofs.Sound.{steps_sound, owned_begins, all_still, asks_still}
use Rattle.zarr_run_meaning.proofs.Stored.{put_kept, put_chunk}
use Rattle.zarr_run_meaning.proofs.TightChunks.{tight_alike, tight_same, tight_under, written_tight, erased_tight, anew_tight, no_chunks_are_tight}

-- ---- one step

-- the array that is held at a path afterwards is tight
abbrev HeldTight : World → List ℕ → Type 0
HeldTight world path = (h : Held) × (held_at path world.arrays ≡ Some h) × IsTightHeld world.store h

module _ (reads : ReadsCodecs) (old new : World) (path : List ℕ) (good : ReadsGood reads) (tables : HasTables reads old) (t : IsTightAlone reads old path) (exact : writes_exactly t.sound.array ≡ true) where
  abbrev h : Held
  h = t.sound.array

  here : path ≡ h.path
  here = held_at-path path old.arrays h t.sound.found

  stored_in : (x : Held) (store : StoreMap) → new.store ≡ store → IsTightHeld store x → IsTightHeld new.store x
  stored_in x store is tight = let P : StoreMap → Type 0 = λ s. IsTightHeld s x in subst P (sym is) tight

  -- one more array
  more_tight : (b : Held) (store : StoreMap) → IsTightHeld store h → new.arrays ≡ old.arrays ++ b ∷ [] → new.store ≡ store → HeldTight new path
  more_tight b store tight arrays is = (h, ap (held_at path) arrays ∙ held_at-before path old.arrays b h t.sound.found, stored_in h store is tight)

  created_kept : (p : List ℕ) (document : Data) (order : SubchunkWriteOrder) → Creates reads (record { path = p; document = document; order = order }) old new → HeldTight new path
  created_kept p document order c =
      let away = free_of p path old.arrays h c.free t.sound.found in
      more_tight (created_array reads old new p document order c) new.store
      (tight_under old.store new.store h (put_kept p h.path old.store new.store (created_put reads old new p document order c) c.node t.sound.there.node away) t.tight) c.begins.holds refl

  -- where only the attributes of a free path were stored
  left_kept : LeftAttributes old new → HeldTight new path
  left_kept l = (
    h,
    ap (held_at path) l.arrays ∙ t.sound.found,
    tight_under old.store new.store h (put_kept l.path h.path old.store new.store (left_put old new l) l.node t.sound.there.node (free_of l.path path old.arrays h l.free t.sound.found)) t.tight,
  )

  reordered_kept : (p : List ℕ) (order : SubchunkWriteOrder) → Reopens p order old new → HeldTight new path
  reordered_kept p order r =
      let x = held_at-reordered p path order old.arrays h t.sound.found in
      let P : Held → Type 0 = λ y. IsTightHeld new.store y in
      let tight = stored_in h old.store r.stores t.tight in
      (x.0, ap (held_at path) r.updates ∙ x.1, ⊎_elim (λ is. subst P (sym is) tight) (λ is. subst P (sym is) (λ chunk box below. tight chunk box below)) x.2)

  -- where the array at one path has another table
  changed_tight : (p : List ℕ) (held : Held) (chunks : List (List ℕ)) (table : Table) → held_at p old.arrays ≡ Some held → WithTable held.path table new.store old.arrays new.arrays → KeepsOtherKeys held.path held.document chunks old.store new.store
      → (writes_exactly held ≡ true → IsSoundAt reads old.store held → IsTightHeld old.store held → IsTightHeld new.store (record held { table = table })) → HeldTight new path
  changed_tight p held chunks table found updates others next = (after.0, after.1, go after.2) where
    after : (x : Held) × (held_at path new.arrays ≡ Some x) × Stayed held.path table new.store h x
    after = held_after held.path table new.store old.arrays new.arrays updates path h t.sound.found

    there : p ≡ held.path
    there = held_at-path p old.arrays held found

    go : Stayed held.path table new.store h after.0 → IsTightHeld new.store after.0
    go (at_path same is) =
        let P : Held → Type 0 = λ x. IsTightHeld new.store x in
        let Q : Held → Type 0 = λ x. (writes_exactly x ≡ true) × IsSoundAt reads old.store x × IsTightHeld old.store x in
        let one = held_once path p old.arrays h held t.sound.found found (here ∙ sym same ∙ sym there) in
        let was = subst Q one (exact, t.sound.there, t.tight) in
        subst P (sym (is ∙ ap (λ (x : Held). record x { table = table }) one)) (next was.0 was.1 was.2)
    go (near differs related is shows) =
        absurd (false≢true (sym (t.sound.alone p held found (λ same. differs (sym there ∙ same ∙ here))) ∙ is_related-comm path p ∙ ap (λ q. is_related q path) there ∙ ap (is_related held.path) here ∙ related))
    go (apart unrelated is) =
        let P : Held → Type 0 = λ x. IsTightHeld new.store x in
        subst P (sym is) (tight_under old.store new.store h (others_kept held.path held.document chunks old.store new.store h.path others (tables p held found).0 t.sound.there.node unrelated) t.tight)

  effect_tight : (request : Request) (answer : Answer) → Effect reads request answer old new → HeldTight new path
  effect_tight request answer (kept arrays store) = (h, ap (held_at path) arrays ∙ t.sound.found, stored_in h old.store store t.tight)
  effect_tight request answer (left l) = left_kept l
  effect_tight request answer (created p document order begins c) = created_kept p document order c
  effect_tight request answer (reordered p order r) = reordered_kept p order r
  effect_tight request answer (opened p order begins such o) = more_tight (opened_array reads old new p order o) old.store t.tight o.begins.holds o.stores
  effect_tight request answer (wrote w) =
      changed_tight w.path w.held w.chunks w.writes.table w.found w.writes.updates w.writes.stores.others
      (λ e s k. written_tight reads w.held old.store new.store w.box w.values w.options w.chunks w.writes.table w.writes.is w.few w.many e w.writes.stores s k)
  effect_tight request answer (erased w) =
      changed_tight w.path w.held w.chunks w.erases.table w.found w.erases.updates w.erases.stores.others
      (λ e s k. erased_tight reads w.held old.store new.store w.chunks w.erases.table w.erases.is w.below w.erases.stores s k)
  effect_tight request answer (stored_anew w) =
      changed_tight w.path w.held w.chunks w.held.table w.found w.updates w.keeps.others
      (λ e s k. anew_tight reads w.held old.store new.store w.chunks (good w.held.tree w.held.document s.says) e w.below w.keeps s k)

pub steps_keep_tight : StepsKeepTight
steps_keep_tight reads old new request answer path good tables away t exact s =
    let sound = steps_keep_sound reads old new request answer path good tables away t.sound s in
    let after = effect_tight reads old new path good tables t exact request answer (step_effect reads old new request answer s) in
    let P : Held → Type 0 = λ x. IsTightHeld new.store x in
    record { sound = sound; tight = subst P (same_Some after.0 sound.array (sym after.1 ∙ sound.found)) after.2 }

-- ---- compactions

pub compacts_exactly : CompactsExactly
compacts_exactly reads old new path chunk options h found tight s =
    let c = s.0 in
    let one = same_Some c.held h (sym c.found ∙ found) in
    let P : Held → Type 0 = λ x. CompactsChunk (array_of x) chunk true old.store new.store in
    exactly (subst P one c.stores) where
      exactly : CompactsChunk (array_of h) chunk true old.store new.store → IsEncodedAt h new.store chunk
      exactly k = go (value_at (array_of h) old.store chunk) refl k.is where
        shown : List Cell
        shown = map (cell h.document.elements.fill h.table) (places k.box.start k.box.shape)

        go : (o : Option (List ℕ)) → value_at (array_of h) old.store chunk ≡ o → IsCompacted h.document k.box.shape true o (value_at (array_of h) new.store chunk) → IsEncodedAt h new.store chunk
        go None e is = absurd (false≢true (sym is.0))
        go (Some value) e is =
            let Q : Option (List ℕ) → Type 0 = λ o. ChunkTight h.document.chain h.document.elements k.box.shape o shown in
            record {
              box = k.box;
              below = k.below;
              value = is.1.0;
              stored = is.1.2;
              is = chain_compacted_encoded h.document.chain h.document.elements k.box.shape value is.1.0 shown (subst Q e (tight chunk k.box k.below)) is.1.1;
            }

-- ---- arrays that begin

-- an array has a table of what is stored for it, and a store has the same chunks
record BeginsOver (old : StoreMap) (store : StoreMap) (h : Held) : Type 0 where
  pub good : IsGood h.document
  pub shows : IsTableAt h.path h.document old h.table
  pub chunks : (chunk : List ℕ) → value_at (array_of h) store chunk ≡ value_at (array_of h) old chunk

module _ (reads : ReadsCodecs) (old new : World) (path : List ℕ) (h : Held) (cells : List ℕ → Cell) (good : ReadsGood reads) (none : held_at path old.arrays ≡ None) (found : held_at path new.arrays ≡ Some h)
    (stored : IsStoredAs path h.document old.store cells) (tight : StoreTight path h.document old.store cells) where
  began_tight : (store : StoreMap) → BeginsOver old.store store h → new.store ≡ store → IsTightHeld new.store h
  began_tight store b is chunk box below =
      let at = held_at-path path new.arrays h found in
      let P : List ℕ → Type 0 = λ p. IsStoredAs p h.document old.store cells in
      let Q : List ℕ → Type 0 = λ p. StoreTight p h.document old.store cells in
      let R : StoreMap → Type 0 = λ s. ChunkTightAt h.document box (value_at (array_of h) s chunk) (cell h.document.elements.fill h.table) in
      let same = stored_cells h.path h.document old.store h.table cells b.good (subst P at stored) b.shows in
      subst R (sym is) (tight_same h.path h.document old.store store chunk box (cell h.document.elements.fill h.table) (b.chunks chunk)
      (tight_alike h.path h.document old.store chunk box cells (cell h.document.elements.fill h.table) below (λ place inside. sym (same chunk box place below inside)) (subst Q at tight chunk box below)))

  -- it is the new array
  new_tight : (b : Held) (store : StoreMap) → held_at b.path old.arrays ≡ None → new.arrays ≡ old.arrays ++ b ∷ [] → BeginsOver old.store store b → new.store ≡ store → IsTightHeld new.store h
  new_tight b store free arrays begins is = ⊎_elim
      (λ same. let P : Held → Type 0 = λ x. BeginsOver old.store store x in began_tight store (subst P (sym same) begins) is)
      (λ before. absurd (none-some h (sym none ∙ before)))
      (held_at-more path old.arrays b h free (sym (ap (held_at path) arrays) ∙ found))

  created_tight : (p : List ℕ) (document : Data) (order : SubchunkWriteOrder) → Creates reads (record { path = p; document = document; order = order }) old new → IsTightHeld new.store h
  created_tight p document order c = new_tight (created_array reads old new p document order c) new.store (free_none p old.arrays c.free) c.begins.holds
      (record { good = good document c.meaning c.opens; shows = c.begins.shows; chunks = put_chunk p c.meaning old.store new.store (created_put reads old new p document order c) }) refl

  opened_tight : (p : List ℕ) (order : SubchunkWriteOrder) → Opens reads p order old new → IsTightHeld new.store h
  opened_tight p order o = new_tight (opened_array reads old new p order o) old.store o.begins.free o.begins.holds (record { good = good o.tree o.meaning o.opens; shows = o.begins.shows; chunks = λ chunk. refl }) o.stores

  began : (request : Request) (answer : Answer) → Begun reads request answer old new → IsTightHeld new.store h
  began request answer (none_began same) = let g = same path h found in absurd (none-some g.0 (sym none ∙ g.1))
  began request answer (creates p document order is ends c) = created_tight p document order c
  began request answer (reopens p order is ends r) = ⊎_elim
      (λ (again : Reopens p order old new). let g = held_at-ordered p path order old.arrays h (sym (ap (held_at path) again.updates) ∙ found) in absurd (none-some g.0 (sym none ∙ g.1)))
      (λ (o : Opens reads p order old new). opened_tight p order o)
      r

pub begins_tight : BeginsTight
begins_tight reads old new request answer path h cells good none s found stored tight = began reads old new path h cells good none found stored tight request answer (step_begun reads old new request answer s)

-- ---- runs

exactly_written : (h : Held) → is_row_major h.order ≡ true → writes_exactly h ≡ true
exactly_written h e = ap (λ b. is_plain h.document.chain || b) e ∙ or_true (is_plain h.document.chain) where
  or_true : (b : Bool) → (b || true) ≡ true
  or_true true = refl
  or_true false = refl

-- the order of an array that is held stays row-major
order_then : (reads : ReadsCodecs) (old new : World) (request : Request) (answer : Answer) (path : List ℕ) (g h : Held) → held_at path old.arrays ≡ Some g → is_row_major g.order ≡ true → AsksRowMajor path request answer → Step reads old request answer new
    → held_at path new.arrays ≡ Some h → is_row_major h.order ≡ true
order_then reads old new request answer path g h at order asks s found =
    orders reads old new path (λ x e. let P : Held → Type 0 = λ y. is_row_major y.order ≡ true in subst P (same_Some g x (sym at ∙ e)) order) request answer asks s h found

pub runs_keep_tight : RunsKeepTight
runs_keep_tight reads old new [] [] path good tables beside asks t order r = let P : World → Type 0 = λ w. IsTightAlone reads w path in subst P (sym r) t
runs_keep_tight reads old new [] (answer ∷ answers) path good tables beside asks t order r = absurd r
runs_keep_tight reads old new (request ∷ requests) [] path good tables beside asks t order r = absurd r
runs_keep_tight reads old new (request ∷ requests) (answer ∷ answers) path good tables beside asks t order r =
    let away = reopens_apart reads old r.0 path t.sound request answer (All-head (ReopensApart path) request requests beside) in
    let next = steps_keep_tight reads old r.0 request answer path good tables away t (exactly_written t.sound.array order) r.1 in
    let then = order_then reads old r.0 request answer path t.sound.array next.sound.array t.sound.found order asks.0 r.1 next.sound.found in
    runs_keep_tight reads r.0 new requests answers path good (steps_show reads old r.0 request answer tables r.1) (All-tail (ReopensApart path) request requests beside) asks.1 next then r.2

-- ---- runs from sound worlds

-- the array has no chunks, and its chain keeps every bit
abbrev IsEmptyIn : StoreMap → Held → Type 0
IsEmptyIn store h = IsLossless h.document × HasNoChunks h.path h.document store

-- an array that begins in a sound world over keys that aren't foreign has no chunks
begun_empty : (reads : ReadsCodecs) (old new : World) (request : Request) (answer : Answer) (path : List ℕ) (h : Held) → IsSound reads old → AsksOwned old request → AsksFaithful reads request answer → held_at path old.arrays ≡ None
    → Step reads old request answer new → held_at path new.arrays ≡ Some h → IsLossless h.document × HasNoChunks path h.document old.store
begun_empty reads old new request answer path h sound owned faithful none s found = go (step_begun reads old new request answer s) where
  there : IsEmptyIn old.store h → IsLossless h.document × HasNoChunks path h.document old.store
  there e = let P : List ℕ → Type 0 = λ p. HasNoChunks p h.document old.store in (e.0, subst P (sym (held_at-path path new.arrays h found)) e.1)

  created_empty : (p : List ℕ) (document : Data) (order : SubchunkWriteOrder) → AsksOwned old (create p document order) → AsksFaithful reads (create p document order) done → Creates reads (record { path = p; document = document; order = order }) old new → IsEmptyIn old.store h
  created_empty p document order own keeps c =
      let faithful = keeps c.meaning c.opens in
      let P : Held → Type 0 = λ x. IsEmptyIn old.store x in
      ⊎_elim
      (λ same. subst P (sym same) (faithful.lossless, owned_has_no_chunks reads old p c.meaning sound own c.node c.free (inl faithful.ends)))
      (λ before. absurd (none-some h (sym none ∙ before)))
      (held_at-more path old.arrays (created_array reads old new p document order c) h (free_none p old.arrays c.free) (sym (ap (held_at path) c.begins.holds) ∙ found))

  go : Begun reads request answer old new → IsLossless h.document × HasNoChunks path h.document old.store
  go (none_began same) = let g = same path h found in absurd (none-some g.0 (sym none ∙ g.1))
  go (creates p document order is ends c) =
      let P : Request → Type 0 = λ q. AsksOwned old q in
      let Q : Request → Type 0 = λ q. AsksFaithful reads q answer in
      let R : Answer → Type 0 = λ a. AsksFaithful reads (create p document order) a in
      there (created_empty p document order (subst P is owned) (subst R ends (subst Q is faithful)) c)
  go (reopens p order is ends r) = ⊎_elim
      (λ (again : Reopens p order old new). let g = held_at-ordered p path order old.arrays h (sym (ap (held_at path) again.updates) ∙ found) in absurd (none-some g.0 (sym none ∙ g.1)))
      (λ (o : Opens reads p order old new).
      let P : Request → Type 0 = λ q. AsksOwned old q in
      let Q : Request → Type 0 = λ q. Step reads old q answer new in
      let R : Answer → Type 0 = λ a. Step reads old (reopen p order) a new in
      let asked : AsksOwned old (reopen p order) = subst P is owned in
      let own = asked o.begins.free in
      absurd ((opens_none reads old new p order sound own.0 own.1 o.begins.free).0 (subst R ends (subst Q is s))))
      r

module _ (reads : ReadsCodecs) (old new : World) (request : Request) (answer : Answer) (path : List ℕ) (good : ReadsGood reads) (sound : IsSound reads old) (owned : AsksOwned old request) (faithful : AsksFaithful reads request answer)
    (there : IsTightThere old path) (s : Step reads old request answer new) where
  -- what was tight, and what begins
  next_tight : (h : Held) → held_at path new.arrays ≡ Some h → IsTightHeld new.store h
  next_tight h found = go (held_at path old.arrays) refl where
    held : (g : Held) → held_at path old.arrays ≡ Some g → IsTightHeld new.store h
    held g at =
        let alone = sound_alone reads old path g sound at in
        let was = there alone.array alone.found in
        let t : IsTightAlone reads old path = record { sound = alone; tight = was.1 } in
        let away = begins_apart reads old new path alone request answer (owned_begins reads old new request answer good owned faithful sound s) s in
        let next = steps_keep_tight reads old new request answer path good (sound_tables reads old good sound) away t (exactly_written alone.array was.0) s in
        let P : Held → Type 0 = λ x. IsTightHeld new.store x in
        subst P (same_Some next.sound.array h (sym next.sound.found ∙ found)) next.tight

    fresh : held_at path old.arrays ≡ None → IsTightHeld new.store h
    fresh none =
        let empty_there = begun_empty reads old new request answer path h sound owned faithful none s found in
        let good_document = held_good in
        begins_tight reads old new request answer path h (λ place. h.document.elements.fill) good none s found
        (no_chunks_are_fill path h.document old.store good_document empty_there.0 empty_there.1) (no_chunks_are_tight path h.document old.store empty_there.1) where
          held_good : IsGood h.document
          held_good = let after = (steps_sound reads old new request answer good (owned_begins reads old new request answer good owned faithful sound s) sound s).each path h found in good h.tree h.document after.says

    go : (o : Option Held) → held_at path old.arrays ≡ o → IsTightHeld new.store h
    go None e = fresh e
    go (Some g) e = held g e

  next_there : AsksRowMajor path request answer → IsTightThere new path
  next_there asks h found = (orders reads old new path (λ g e. (there g e).0) request answer asks s h found, next_tight h found)

pub owned_runs_tight : OwnedRunsTight
owned_runs_tight reads old new [] [] path good owned faithful asks sound there r = let P : World → Type 0 = λ w. IsTightThere w path in subst P (sym r) there
owned_runs_tight reads old new [] (answer ∷ answers) path good owned faithful asks sound there r = absurd r
owned_runs_tight reads old new (request ∷ requests) [] path good owned faithful asks sound there r = absurd r
owned_runs_tight reads old new (request ∷ requests) (answer ∷ answers) path good owned faithful asks sound there r =
    let own = All-head (AsksOwned old) request requests owned in
    let begins = owned_begins reads old r.0 request answer good own faithful.0 sound r.1 in
    owned_runs_tight reads r.0 new requests answers path good
    (all_still old r.0 (asks_still reads old r.0 request answer r.1) requests (All-tail (AsksOwned old) request requests owned)) faithful.1 asks.1
    (steps_sound reads old r.0 request answer good begins sound r.1) (next_there reads old r.0 request answer path good sound own faithful.0 there r.1 asks.0) r.2

pub runs_tight : RunsTight
runs_tight reads new count requests answers path good faithful asks r =
    let begins = world_over empty count in
    owned_runs_tight reads begins new requests answers path good (all_owned begins (empty_owned count) requests) faithful asks (no_arrays_sound reads empty count) (λ h e. absurd (none-some h e)) r
