-- A step leads from a sound world to a sound one.
use Rattle.std.proofs.Common.{◌≡◌, ◌∙◌, inl, ⊎_elim, ℕ, true, false, List, [], ◌∷◌, ◌++◌, refl, sym, ap, subst, Option, Some, None}
use Rattle.std.specs.Prelude.{All}
use Rattle.std.proofs.lemmas.Bool.{false≢true}
use Rattle.std.proofs.lemmas.List.Elements.{All-head, All-tail, All-nil, All-cons}
use Rattle.std.proofs.lemmas.Option.{none-some}
use Rattle.serde_json.specs.Data.{Data}
use Rattle.zarr_grids_keys.specs.Documents.{document_key}
use Rattle.zarr_grids_keys.specs.Paths.{is_node_path}
use Rattle.zarr_grids_keys.specs.declared.document_name.DocumentName.TheVariants.{ZarrJson, ZArray}
use Rattle.zarr_codecs_meaning.specs.Types.{Cell}
use Rattle.zarr_codecs_metadata.specs.Chains.{ReadsCodecs}
use Rattle.zarr_codecs_options.specs.declared.subchunk_write_order.SubchunkWriteOrder.{SubchunkWriteOrder}
use Rattle.zarr_array_meaning.specs.Chunks.{KeepsOtherKeys}
use Rattle.zarr_array_meaning.specs.StoreMaps.{StoreMap}
use Rattle.zarr_run_meaning.specs.Changes.{Creates, Reopens, Opens}
use Rattle.zarr_run_meaning.specs.Laws.{StepsSound, RunsSound, OwnedBegins, OwnedRunsSound}
use Rattle.zarr_run_meaning.specs.Requests.{Request, create, reopen, Answer, done}
use Rattle.zarr_run_meaning.specs.Runs.{Run}
use Rattle.zarr_run_meaning.specs.Sound.{AreApart, IsSoundAt, IsSound, IsStoredAs, BeginsSound, SoundRun, AllAskFaithful, AsksOwned, ReadsGood}
use Rattle.zarr_run_meaning.specs.Steps.{Step}
use Rattle.zarr_run_meaning.specs.Tables.{Table}
use Rattle.zarr_run_meaning.specs.Worlds.{Held, World, held_at, is_taken, with_order, WithTable}
use Rattle.zarr_run_meaning.proofs.Arrays.{AreNodes, Stayed, at_path, near, apart, held_at-path, held_once, held_at-more, held_at-ordered, held_before, apart_more, apart_ordered, apart_after, free_of, free_none, unrelated_paths}
use Rattle.zarr_run_meaning.proofs.Begun.{no_chunks_are_fill, created_array, created_put, created_there, opened_array, opened_there}
use Rattle.zarr_run_meaning.proofs.Effects.{LeftAttributes, left_put, Effect, kept, left, created, reordered, opened, wrote, erased, stored_anew, Wrote, Erased, step_effect, held_effect}
use Rattle.zarr_run_meaning.proofs.Keys.{others_kept}
use Rattle.zarr_run_meaning.proofs.Owning.{steps_own, owned_has_no_chunks, opens_none}
use Rattle.zarr_run_meaning.proofs.Standing.{sound_under, written_sound, erased_sound, anew_sound}
use Rattle.zarr_run_meaning.proofs.Stored.{PutsDocuments, put_kept}
use Rattle.zarr_run_meaning.proofs.StoredAnew.{StoredAnew}

-- a world with a sound one's arrays and store
pub same_sound : (reads : ReadsCodecs) (old new : World) → IsSound reads old → new.arrays ≡ old.arrays → new.store ≡ old.store → IsSound reads new
same_sound reads old new sound arrays store =
    let P : List Held → StoreMap → Type 0 = λ hs s. IsSound reads (record { arrays = hs; store = s; refused = new.refused }) in
    let Q : StoreMap → Type 0 = λ s. P new.arrays s in
    let R : List Held → Type 0 = λ hs. P hs old.store in
    subst Q (sym store) (subst R (sym arrays) (record { apart = sound.apart; each = sound.each }))

-- ---- a new array

-- each of some arrays is sound over a store
abbrev AreSoundOver : ReadsCodecs → List Held → StoreMap → Type 0
AreSoundOver reads arrays store = (q : List ℕ) (h : Held) → held_at q arrays ≡ Some h → IsSoundAt reads store h

-- one more array at a free path
more_sound : (reads : ReadsCodecs) (old new : World) (store : StoreMap) (b : Held) → AreSoundOver reads old.arrays store → IsSound reads old → is_taken b.path old.arrays ≡ false → IsSoundAt reads store b
    → new.arrays ≡ old.arrays ++ b ∷ [] → new.store ≡ store → IsSound reads new
more_sound reads old new store b before sound free there arrays is =
    same_sound reads (record { arrays = old.arrays ++ b ∷ []; store = store; refused = old.refused }) new (record { apart = apart_more old.arrays b sound.apart free; each = each }) arrays is where
      each : (q : List ℕ) (h : Held) → held_at q (old.arrays ++ b ∷ []) ≡ Some h → IsSoundAt reads store h
      each q h e = ⊎_elim
          (λ same. let P : Held → Type 0 = λ x. IsSoundAt reads store x in subst P (sym same) there)
          (λ at. before q h at)
          (held_at-more q old.arrays b h (free_none b.path old.arrays free) e)

sound_nodes : (reads : ReadsCodecs) (world : World) → IsSound reads world → AreNodes world.arrays
sound_nodes reads world sound q g at = (sound.each q g at).node

module _ (reads : ReadsCodecs) (old new : World) (sound : IsSound reads old) where
  -- where only keys of documents at a free path changed, each array is sound still
  still : (p : List ℕ) → is_node_path p ≡ true → is_taken p old.arrays ≡ false → PutsDocuments p old.store new.store → AreSoundOver reads old.arrays new.store
  still p node free put q h at = let s = sound.each q h at in sound_under reads old.store new.store h (put_kept p h.path old.store new.store put node s.node (free_of p q old.arrays h free at)) s

  -- where only the attributes of a free path were stored
  left_sound : LeftAttributes old new → IsSound reads new
  left_sound l = record {
    apart = let P : List Held → Type 0 = λ hs. AreApart hs in subst P (sym l.arrays) sound.apart;
    each = λ q h e. still l.path l.node l.free (left_put old new l) q h (sym (ap (held_at q) l.arrays) ∙ e);
  }

module _ (reads : ReadsCodecs) (old new : World) (path : List ℕ) (order : SubchunkWriteOrder) (good : ReadsGood reads) (sound : IsSound reads old) where
  created_sound : (document : Data) (c : Creates reads (record { path = path; document = document; order = order }) old new) → (cells : List ℕ → Cell) × IsStoredAs path c.meaning old.store cells → IsSound reads new
  created_sound document c begins =
      more_sound reads old new new.store (created_array reads old new path document order c)
      (still reads old new sound path c.node c.free (created_put reads old new path document order c))
      sound c.free (created_there reads old new path document order c good begins) c.begins.holds refl

  opened_sound : (o : Opens reads path order old new) → is_taken path old.arrays ≡ false → (cells : List ℕ → Cell) × IsStoredAs path o.meaning old.store cells → IsSound reads new
  opened_sound o free begins = more_sound reads old new old.store (opened_array reads old new path order o) sound.each sound free (opened_there reads old new path order o good (sound_nodes reads old sound) free begins) o.begins.holds o.stores

-- ---- another write order

reordered_sound : (reads : ReadsCodecs) (old new : World) (path : List ℕ) (order : SubchunkWriteOrder) → IsSound reads old → Reopens path order old new → IsSound reads new
reordered_sound reads old new path order sound r = same_sound reads (record { arrays = with_order path order old.arrays; store = old.store; refused = old.refused }) new (record { apart = apart_ordered path order old.arrays sound.apart; each = each }) r.updates r.stores where
  each : (q : List ℕ) (h : Held) → held_at q (with_order path order old.arrays) ≡ Some h → IsSoundAt reads old.store h
  each q h e =
      let P : Held → Type 0 = λ x. IsSoundAt reads old.store x in
      let g = held_at-ordered path q order old.arrays h e in
      let s = sound.each q g.0 g.1 in
      ⊎_elim
      (λ is. subst P (sym is) s)
      (λ is. subst P (sym is) (record { node = s.node; says = s.says; stored = s.stored; first = s.first; lossless = s.lossless; values = s.values; stands = s.stands }))
      g.2

-- ---- another table

module _ (reads : ReadsCodecs) (old new : World) (path : List ℕ) (held : Held) (chunks : List (List ℕ)) (table : Table) (sound : IsSound reads old) (found : held_at path old.arrays ≡ Some held) (updates : WithTable held.path table new.store old.arrays new.arrays)
    (others : KeepsOtherKeys held.path held.document chunks old.store new.store) (next : IsSoundAt reads new.store (record held { table = table })) where
  changed_each : (q : List ℕ) (g h : Held) → held_at q old.arrays ≡ Some g → Stayed held.path table new.store g h → IsSoundAt reads new.store h
  changed_each q g h at (at_path same is) =
      let P : Held → Type 0 = λ x. IsSoundAt reads new.store x in
      let one = held_once q path old.arrays g held at found (held_at-path q old.arrays g at ∙ sym same ∙ sym (held_at-path path old.arrays held found)) in
      subst P (sym (is ∙ ap (λ (x : Held). record x { table = table }) one)) next
  changed_each q g h at (near differs related is shows) =
      absurd (false≢true (sym (unrelated_paths old.arrays path q held g sound.apart found at (λ e. differs (sym (held_at-path path old.arrays held found) ∙ e ∙ held_at-path q old.arrays g at))) ∙ related))
  changed_each q g h at (apart unrelated is) =
      let P : Held → Type 0 = λ x. IsSoundAt reads new.store x in
      let s = sound.each q g at in
      subst P (sym is) (sound_under reads old.store new.store g (others_kept held.path held.document chunks old.store new.store g.path others (sound.each path held found).node s.node unrelated) s)

  changed_sound : IsSound reads new
  changed_sound = record {
    apart = apart_after held.path table new.store old.arrays new.arrays updates sound.apart;
    each = λ q h e. let g = held_before held.path table new.store old.arrays new.arrays updates q h e in changed_each q g.0 h g.1 g.2;
  }

-- ---- each effect

module _ (reads : ReadsCodecs) (old new : World) (good : ReadsGood reads) (sound : IsSound reads old) where
  wrote_sound : Wrote old new → IsSound reads new
  wrote_sound w =
      let s = sound.each w.path w.held w.found in
      changed_sound reads old new w.path w.held w.chunks w.writes.table sound w.found w.writes.updates w.writes.stores.others
      (written_sound reads w.held old.store new.store w.box w.values w.options w.chunks w.writes.table (good w.held.tree w.held.document s.says) w.writes.is w.few w.many w.are w.writes.stores s)

  all_erased_sound : Erased old new → IsSound reads new
  all_erased_sound w =
      let s = sound.each w.path w.held w.found in
      changed_sound reads old new w.path w.held w.chunks w.erases.table sound w.found w.erases.updates w.erases.stores.others
      (erased_sound reads w.held old.store new.store w.chunks w.erases.table (good w.held.tree w.held.document s.says) w.erases.is w.below w.erases.stores s)

  all_anew_sound : StoredAnew old new → IsSound reads new
  all_anew_sound w =
      let s = sound.each w.path w.held w.found in
      changed_sound reads old new w.path w.held w.chunks w.held.table sound w.found w.updates w.keeps.others
      (anew_sound reads w.held old.store new.store w.chunks (good w.held.tree w.held.document s.says) w.below w.keeps s)

  effect_sound : (request : Request) (answer : Answer) → BeginsSound reads old request answer → Effect reads request answer old new → IsSound reads new
  effect_sound request answer begins (kept arrays store) = same_sound reads old new sound arrays store
  effect_sound request answer begins (left l) = left_sound reads old new sound l
  effect_sound request answer begins (created path document order such c) = created_sound reads old new path order good sound document c (such begins c.meaning c.opens)
  effect_sound request answer begins (reordered path order r) = reordered_sound reads old new path order sound r
  effect_sound request answer begins (opened path order such away o) =
      let b = such begins o.tree o.meaning o.begins.free o.found o.opens in
      opened_sound reads old new path order good sound o b.0 b.1
  effect_sound request answer begins (wrote w) = wrote_sound w
  effect_sound request answer begins (erased w) = all_erased_sound w
  effect_sound request answer begins (stored_anew w) = all_anew_sound w

pub steps_sound : StepsSound
steps_sound reads old new request answer good begins sound s = effect_sound reads old new good sound request answer begins (step_effect reads old new request answer s)

-- ---- runs

pub runs_sound : RunsSound
runs_sound reads old new [] [] good sound r = let P : World → Type 0 = λ w. IsSound reads w in subst P (sym r) sound
runs_sound reads old new [] (answer ∷ answers) good sound r = absurd r
runs_sound reads old new (request ∷ requests) [] good sound r = absurd r
runs_sound reads old new (request ∷ requests) (answer ∷ answers) good sound r = runs_sound reads r.0 new requests answers good (steps_sound reads old r.0 request answer good r.1 sound r.2) r.3

-- ---- where no key is foreign

pub owned_begins : OwnedBegins
owned_begins reads old new (create path document order) done good owned faithful sound s = λ meaning opens. (
  λ place. meaning.elements.fill,
  no_chunks_are_fill path meaning old.store (good document meaning opens) (faithful meaning opens).lossless (owned_has_no_chunks reads old path meaning sound owned s.0.node s.0.free (inl (faithful meaning opens).ends)),
)
owned_begins reads old new (reopen path order) done good owned faithful sound s = λ tree meaning none found opens. let own = owned none in absurd ((opens_none reads old new path order sound own.0 own.1 none).0 s)
owned_begins reads old new request answer good owned faithful sound s = tt

-- what a command asks is owned still after a step
pub asks_still : (reads : ReadsCodecs) (old mid : World) (request : Request) (answer : Answer) → Step reads old request answer mid → (other : Request) → AsksOwned old other → AsksOwned mid other
asks_still reads old mid request answer s (create path document order) owned = λ name. steps_own reads old mid request answer _ s (owned name)
asks_still reads old mid request answer s (reopen path order) owned = λ none. let own = owned (not_before (held_at path old.arrays) refl none) in
    (steps_own reads old mid request answer (document_key path ZarrJson) s own.0, steps_own reads old mid request answer (document_key path ZArray) s own.1) where
      -- what is held stays so
      not_before : (o : Option Held) → held_at path old.arrays ≡ o → held_at path mid.arrays ≡ None → held_at path old.arrays ≡ None
      not_before None e none = e
      not_before (Some g) e none = let x = held_effect reads old mid request answer (step_effect reads old mid request answer s) path g e in absurd (none-some x.0 (sym none ∙ x.1))
asks_still reads old mid request answer s other owned = tt

pub all_still : (old mid : World) → ((other : Request) → AsksOwned old other → AsksOwned mid other) → (requests : List Request) → All (AsksOwned old) requests → All (AsksOwned mid) requests
all_still old mid still [] owned = All-nil (AsksOwned mid)
all_still old mid still (request ∷ requests) owned =
    All-cons (AsksOwned mid) request requests (still request (All-head (AsksOwned old) request requests owned)) (all_still old mid still requests (All-tail (AsksOwned old) request requests owned))

-- in such a run each array begins over chunks that stand for cells
pub owned_run : (reads : ReadsCodecs) (old new : World) (requests : List Request) (answers : List Answer) → ReadsGood reads → All (AsksOwned old) requests → AllAskFaithful reads requests answers
    → IsSound reads old → Run reads old requests answers new → SoundRun reads old requests answers new
owned_run reads old new [] [] good owned faithful sound r = r
owned_run reads old new [] (answer ∷ answers) good owned faithful sound r = absurd r
owned_run reads old new (request ∷ requests) [] good owned faithful sound r = absurd r
owned_run reads old new (request ∷ requests) (answer ∷ answers) good owned faithful sound r =
    let begins = owned_begins reads old r.0 request answer good (All-head (AsksOwned old) request requests owned) faithful.0 sound r.1 in (
      r.0,
      begins,
      r.1,
      owned_run reads r.0 new requests answers good
          (all_still old r.0 (asks_still reads old r.0 request answer r.1) requests (All-tail (AsksOwned old) request requests owned)) faithful.1
          (steps_sound reads old r.0 request answer good begins sound r.1) r.2,
    )

pub owned_runs_sound : OwnedRunsSound
owned_runs_sound reads old new requests answers good owned faithful sound r = runs_sound reads old new requests answers good sound (owned_run reads old new requests answers good owned faithful sound r)
