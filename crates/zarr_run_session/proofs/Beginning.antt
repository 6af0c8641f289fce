-- An array that begins at a path under which no key is foreign, whatever is stored elsewhere.
use Rattle.std.proofs.Common.{◌≡◌, ◌∙◌, inl, ⊎_elim, ℕ, List, sym, ap, subst, Option, Some, None, Ok}
use Rattle.std.proofs.lemmas.Option.{none-some}
use Rattle.serde_json.specs.Data.{Data}
use Rattle.zarr_grids_keys.specs.Documents.{document_name}
use Rattle.zarr_grids_keys.specs.declared.document_name.DocumentName.TheVariants.{ZarrJson, ZArray}
use Rattle.zarr_codecs_metadata.specs.Chains.{ReadsCodecs}
use Rattle.zarr_codecs_options.specs.declared.subchunk_write_order.SubchunkWriteOrder.{SubchunkWriteOrder}
use Rattle.zarr_array_meaning.specs.Documents.{Document, read_document}
use Rattle.zarr_array_meaning.specs.Standing.{IsLossless}
use Rattle.zarr_run_meaning.specs.declared.cause.Cause.TheVariants as cause
use Rattle.zarr_run_meaning.specs.Causes.{ReopenRefuses}
use Rattle.zarr_run_meaning.specs.Changes.{Reopens, Opens}
use Rattle.zarr_run_meaning.specs.Laws.{HasTables}
use Rattle.zarr_run_meaning.specs.Requests.{refusal, Request, create, reopen, write, read, erase, compact, rewrite, path_of, Answer, done, refused}
use Rattle.zarr_run_meaning.specs.Sound.{IsSoundAlone, BeginsSound, HasNoChunks, OwnsKeysUnder, AsksOwned, AsksFaithful, ReadsGood}
use Rattle.zarr_run_meaning.specs.Steps.{RefusesHeld, RefusesWrite, RefusesRead, RefusesErase, RefusesCompact, RefusesRewrite, Step}
use Rattle.zarr_run_meaning.specs.Worlds.{Held, World, held_at}
use Rattle.zarr_run_meaning.proofs.Alone.{begins_alone}
use Rattle.zarr_run_meaning.proofs.Arrays.{held_at-path, held_at-more, held_at-ordered, free_none}
use Rattle.zarr_run_meaning.proofs.Begun.{no_chunks_are_fill, created_array, opened_array}
use Rattle.zarr_run_meaning.proofs.Orders.{Begun, none_began, creates, reopens, step_begun}
use Rattle.zarr_run_meaning.proofs.Owning.{free_no_chunks, no_opening}
use Rattle.zarr_run_session.specs.Headline.{IsIntact}

-- an array that began: it is sound alone, and nothing was stored for its chunks
pub record BeganFree (reads : ReadsCodecs) (old new : World) (path : List ℕ) (h : Held) : Type 0 where
  pub alone : IsSoundAlone reads new path
  pub lossless : IsLossless h.document
  pub none : HasNoChunks path h.document old.store

module _ (reads : ReadsCodecs) (old new : World) (path : List ℕ) (h : Held) (good : ReadsGood reads) (tables : HasTables reads old) (none : held_at path old.arrays ≡ None)
    (found : held_at path new.arrays ≡ Some h) where
  created_free : (p : List ℕ) (document : Data) (order : SubchunkWriteOrder) → (p ≡ path → OwnsKeysUnder p old) → (p ≡ path → AsksFaithful reads (create p document order) done) → Step reads old (create p document order) done new → BeganFree reads old new path h
  created_free p document order own faithful s =
      let c = s.0 in
      let b = created_array reads old new p document order c in
      ⊎_elim
      (λ same.
      let at : p ≡ path = sym (held_at-path path new.arrays h found ∙ ap (λ (x : Held). x.path) same) in
      let empty = λ (meaning : Document). λ (opens : read_document reads document ≡ Ok meaning).
      free_no_chunks old p meaning (λ q g e. (tables q g e).0) (own at) c.node c.free (inl (faithful at meaning opens).ends) in
      let begins : BeginsSound reads old (create p document order) done = λ meaning opens. (
        λ place. meaning.elements.fill,
        no_chunks_are_fill p meaning old.store (good document meaning opens) (faithful at meaning opens).lossless (empty meaning opens),
      ) in
      let P : Held → Type 0 = λ x. IsLossless x.document in
      let R : Held → Type 0 = λ x. HasNoChunks p x.document old.store in
      let S : List ℕ → Type 0 = λ q. HasNoChunks q h.document old.store in
      record {
        alone = begins_alone reads old new (create p document order) done path h good tables begins none s found;
        lossless = subst P (sym same) (faithful at c.meaning c.opens).lossless;
        none = subst S at (subst R (sym same) (empty c.meaning c.opens));
      })
      (λ before. absurd (none-some h (sym none ∙ before)))
      (held_at-more path old.arrays b h (free_none p old.arrays c.free) (sym (ap (held_at path) c.begins.holds) ∙ found))

  not_opened : (p : List ℕ) (order : SubchunkWriteOrder) → (p ≡ path → AsksOwned old (reopen p order)) → Opens reads p order old new → ⊥
  not_opened p order asks o = ⊎_elim
      (λ same.
      let at : p ≡ path = sym (held_at-path path new.arrays h found ∙ ap (λ (x : Held). x.path) same) in
      let own = asks at o.begins.free in
      no_opening reads old p (λ q g e. (tables q g e).0) own.0 own.1 o.begins.free new order o)
      (λ before. none-some h (sym none ∙ before))
      (held_at-more path old.arrays (opened_array reads old new p order o) h o.begins.free (sym (ap (held_at path) o.begins.holds) ∙ found))

  pub begins_free : (request : Request) (answer : Answer) → (path_of request ≡ path → AsksOwned old request) → (path_of request ≡ path → AsksFaithful reads request answer) → Step reads old request answer new → BeganFree reads old new path h
  begins_free request answer owned faithful s = go (step_begun reads old new request answer s) where
    go : Begun reads request answer old new → BeganFree reads old new path h
    go (none_began same) = let g = same path h found in absurd (none-some g.0 (sym none ∙ g.1))
    go (creates p document order is ends c) =
        let P : Request → Type 0 = λ q. path_of q ≡ path → AsksFaithful reads q answer in
        let T : Request → Type 0 = λ q. path_of q ≡ path → AsksOwned old q in
        let Q : Answer → Type 0 = λ a. p ≡ path → AsksFaithful reads (create p document order) a in
        let R : Request → Type 0 = λ q. Step reads old q answer new in
        let S : Answer → Type 0 = λ a. Step reads old (create p document order) a new in
        created_free p document order (subst T is owned) (subst Q ends (subst P is faithful)) (subst S ends (subst R is s))
    go (reopens p order is ends r) = ⊎_elim
        (λ (again : Reopens p order old new). let g = held_at-ordered p path order old.arrays h (sym (ap (held_at path) again.updates) ∙ found) in absurd (none-some g.0 (sym none ∙ g.1)))
        (λ (o : Opens reads p order old new). let T : Request → Type 0 = λ q. path_of q ≡ path → AsksOwned old q in absurd (not_opened p order (subst T is owned) o))
        r

-- a command on a path asks for what is owned, where no key under the path is foreign
pub asks_free : (old : World) (path : List ℕ) (request : Request) → OwnsKeysUnder path old → path_of request ≡ path → AsksOwned old request
asks_free old path (create p document order) owned same = let P : List ℕ → Type 0 = λ q. OwnsKeysUnder q old in subst P (sym same) owned
asks_free old path (reopen p order) owned same = λ none.
    let P : List ℕ → Type 0 = λ q. OwnsKeysUnder q old in
    let own = subst P (sym same) owned in (own (document_name ZarrJson), own (document_name ZArray))
asks_free old path request owned same = tt

-- ---- commands on a path where no array is held

module _ (reads : ReadsCodecs) (old new : World) (n : ℕ) where
  free_undamaged : (request : Request) → held_at (path_of request) old.arrays ≡ None → Step reads old request (refused cause.Damage n) new → ⊥
  free_undamaged (create p document order) none s = s.1.0
  free_undamaged (reopen p order) none s = let P : Option Held → Type 0 = λ o. ReopenRefuses reads old p o cause.Damage in subst P none s.1.0
  free_undamaged (write p target given options) none s = let P : Option Held → Type 0 = λ o. RefusesHeld o (RefusesWrite (record { target = target; cells = given; options = options })) (refusal cause.Damage n) old new in subst P none s.1
  free_undamaged (read p target options) none s = let P : Option Held → Type 0 = λ o. RefusesHeld o (RefusesRead target) (refusal cause.Damage n) old new in subst P none s.1
  free_undamaged (erase p chunks) none s = let P : Option Held → Type 0 = λ o. RefusesHeld o (RefusesErase chunks) (refusal cause.Damage n) old new in subst P none s.1
  free_undamaged (compact p chunk options) none s = let P : Option Held → Type 0 = λ o. RefusesHeld o (RefusesCompact chunk) (refusal cause.Damage n) old new in subst P none s.1
  free_undamaged (rewrite p options) none s = let P : Option Held → Type 0 = λ o. RefusesHeld o (RefusesRewrite options) (refusal cause.Damage n) old new in subst P none s.1

  free_unchanged : (request : Request) → held_at (path_of request) old.arrays ≡ None → Step reads old request (refused cause.DocumentChanged n) new → ⊥
  free_unchanged (create p document order) none s = s.1.0
  free_unchanged (reopen p order) none s = let P : Option Held → Type 0 = λ o. ReopenRefuses reads old p o cause.DocumentChanged in subst P none s.1.0
  free_unchanged (write p target given options) none s = let P : Option Held → Type 0 = λ o. RefusesHeld o (RefusesWrite (record { target = target; cells = given; options = options })) (refusal cause.DocumentChanged n) old new in subst P none s.1
  free_unchanged (read p target options) none s = let P : Option Held → Type 0 = λ o. RefusesHeld o (RefusesRead target) (refusal cause.DocumentChanged n) old new in subst P none s.1
  free_unchanged (erase p chunks) none s = let P : Option Held → Type 0 = λ o. RefusesHeld o (RefusesErase chunks) (refusal cause.DocumentChanged n) old new in subst P none s.1
  free_unchanged (compact p chunk options) none s = let P : Option Held → Type 0 = λ o. RefusesHeld o (RefusesCompact chunk) (refusal cause.DocumentChanged n) old new in subst P none s.1
  free_unchanged (rewrite p options) none s = let P : Option Held → Type 0 = λ o. RefusesHeld o (RefusesRewrite options) (refusal cause.DocumentChanged n) old new in subst P none s.1

pub free_intact : (reads : ReadsCodecs) (old new : World) (request : Request) (answer : Answer) → held_at (path_of request) old.arrays ≡ None → Step reads old request answer new → IsIntact answer
free_intact reads old new request (refused cause.Damage n) none s = free_undamaged reads old new n request none s
free_intact reads old new request (refused cause.DocumentChanged n) none s = free_unchanged reads old new n request none s
free_intact reads old new request answer none s = tt
