-- Which arrays a step begins, and the write orders that arrays have after it.
use Rattle.std.proofs.Common.{◌≡◌, ◌≢◌, ◌∙◌, ◌⊎◌, ⊎_elim, ℕ, Bool, true, false, if◌then◌else◌, List, [], ◌∷◌, ◌++◌, refl, sym, ap, subst, Option, Some, None, bytes_eq}
use Rattle.std.proofs.lemmas.Bool.{false≢true}
use Rattle.std.proofs.lemmas.Slice.Eq.{bytes_eq-Decides}
use Rattle.zarr_grids_chunks.proofs.Filters.{told}
use Rattle.serde_json.specs.Data.{Data}
use Rattle.zarr_codecs_metadata.specs.Chains.{ReadsCodecs}
use Rattle.zarr_codecs_options.specs.declared.subchunk_write_order.SubchunkWriteOrder.{SubchunkWriteOrder}
use Rattle.zarr_array_meaning.specs.StoreMaps.{StoreMap}
use Rattle.zarr_run_meaning.specs.declared.cause.Cause.{Cause}
use Rattle.zarr_run_meaning.specs.Changes.{Creates, Reopens, Opens}
use Rattle.zarr_run_meaning.specs.Requests.{Refusal, refusal, Request, create, reopen, write, read, erase, compact, rewrite, path_of, Answer, done, cells, compacted, refused}
use Rattle.zarr_run_meaning.specs.Steps.{Stays, WritesFirst, ErasesFirst, RewritesFirst, RefusesWrite, RefusesRead, RefusesErase, RefusesCompact, RefusesRewrite, RefusesHeld, Refuses, RefusesAt, Step}
use Rattle.zarr_run_meaning.specs.Tables.{Table}
use Rattle.zarr_run_meaning.specs.Tight.{AsksRowMajor}
use Rattle.zarr_run_meaning.specs.Worlds.{Held, World, held_at, with_order, WithTable, is_row_major}
use Rattle.zarr_run_meaning.proofs.Arrays.{Stayed, at_path, near, apart, held_at-path, held_at-later, held_at-more, held_at-ordered, held_before, free_none}
use Rattle.zarr_run_meaning.proofs.Effects.{at_cases, create_cases, held_cases}

-- another path has the array that it had
other_order : (p q : List ℕ) (order : SubchunkWriteOrder) (w : List Held) → q ≢ p → held_at q (with_order p order w) ≡ held_at q w
other_order p q order [] ne = refl
other_order p q order (x ∷ w) ne = go (bytes_eq p x.path) refl (other_order p q order w ne) where
  go : (b : Bool) → bytes_eq p x.path ≡ b → held_at q (with_order p order w) ≡ held_at q w → held_at q (if b then record x { order = order } ∷ w else x ∷ with_order p order w) ≡ held_at q (x ∷ w)
  go true t rest =
      let same = (bytes_eq-Decides p x.path).0 t in
      let differs = λ (e : q ≡ x.path). ne (e ∙ sym same) in
      held_at-later q (record x { order = order }) w differs ∙ sym (held_at-later q x w differs)
  go false t rest = ap (λ (o : Option Held). if bytes_eq q x.path then Some x else o) rest

-- how an array stays but for its table
stayed_order : (p : List ℕ) (t : Table) (store : StoreMap) (old new : Held) → Stayed p t store old new → new.order ≡ old.order
stayed_order p t store old new (at_path e is) = ap (λ (h : Held). h.order) is
stayed_order p t store old new (near ne r is shows) = ap (λ (h : Held). h.order) is
stayed_order p t store old new (apart r is) = ap (λ (h : Held). h.order) is

-- each array that is held afterwards was held before, with its write order
abbrev pub NoneBegan : World → World → Type 0
NoneBegan old new = (path : List ℕ) (h : Held) → held_at path new.arrays ≡ Some h → (g : Held) × (held_at path old.arrays ≡ Some g) × (h.order ≡ g.order)

-- a step begins no array and gives none another order, or it is a create or a reopening that is done
pub data Begun (reads : ReadsCodecs) (request : Request) (answer : Answer) (old new : World) : Type 0 where
  none_began : NoneBegan old new → Begun reads request answer old new
  creates : (path : List ℕ) (document : Data) (order : SubchunkWriteOrder) → request ≡ create path document order → answer ≡ done → Creates reads (record { path = path; document = document; order = order }) old new → Begun reads request answer old new
  reopens : (path : List ℕ) (order : SubchunkWriteOrder) → request ≡ reopen path order → answer ≡ done → Reopens path order old new ⊎ Opens reads path order old new → Begun reads request answer old new

module _ (reads : ReadsCodecs) (old new : World) (request : Request) (answer : Answer) where
  same_arrays : new.arrays ≡ old.arrays → Begun reads request answer old new
  same_arrays arrays = none_began (λ path h e. (h, sym (ap (held_at path) arrays) ∙ e, refl))

  stays : (c : Cause) (n : ℕ) → Stays c n old new → Begun reads request answer old new
  stays c n s = same_arrays (ap (λ (w : World). w.arrays) s.is)

  tabled : (p : List ℕ) (t : Table) → WithTable p t new.store old.arrays new.arrays → Begun reads request answer old new
  tabled p t updates = none_began (λ path h e. let g = held_before p t new.store old.arrays new.arrays updates path h e in (g.0, g.1, stayed_order p t new.store g.0 h g.2))

-- a refusal by a held array
refusing : (reads : ReadsCodecs) (old new : World) (request : Request) (refuses : Held → Refusal → World → World → Type 0) (c : Cause) (n : ℕ) → RefusesAt reads request (refusal c n) old new
    → (Refuses reads request (refusal c n) old new → RefusesHeld (held_at (path_of request) old.arrays) refuses (refusal c n) old new) → ((g : Held) → refuses g (refusal c n) old new → Begun reads request (refused c n) old new) → Begun reads request (refused c n) old new
refusing reads old new request refuses c n s by held = at_cases reads request c n old new (Begun reads request (refused c n) old new) s (stays reads old new request (refused c n) c n) (λ r.
    held_cases (held_at (path_of request) old.arrays) refuses c n old new (Begun reads request (refused c n) old new) (by r) (stays reads old new request (refused c n) c n) (λ g found. held g))

whole : (reads : ReadsCodecs) (old new : World) (request : Request) (c : Cause) (n : ℕ) → RefusesAt reads request (refusal c n) old new → (Refuses reads request (refusal c n) old new → Stays c n old new) → Begun reads request (refused c n) old new
whole reads old new request c n s by = at_cases reads request c n old new (Begun reads request (refused c n) old new) s (stays reads old new request (refused c n) c n) (λ r. stays reads old new request (refused c n) c n (by r))

pub step_begun : (reads : ReadsCodecs) (old new : World) (request : Request) (answer : Answer) → Step reads old request answer new → Begun reads request answer old new
step_begun reads old new (create p document order) done s = creates p document order refl refl s.0
step_begun reads old new (create p document order) (cells payload) s = absurd s
step_begun reads old new (create p document order) (compacted changed) s = absurd s
step_begun reads old new (create p document order) (refused c n) s =
    let q : Request = create p document order in
    create_cases reads p document order c n old new (Begun reads q (refused c n) old new) s (stays reads old new q (refused c n) c n) (λ l at. same_arrays reads old new q (refused c n) l.arrays)
step_begun reads old new (reopen p order) done s = reopens p order refl refl s.0
step_begun reads old new (reopen p order) (cells payload) s = absurd s
step_begun reads old new (reopen p order) (compacted changed) s = absurd s
step_begun reads old new (reopen p order) (refused c n) s = whole reads old new (reopen p order) c n s (λ r. r.1)
step_begun reads old new (write p target given options) done s = let w = s.0 in tabled reads old new (write p target given options) done w.held.path w.writes.table w.writes.updates
step_begun reads old new (write p target given options) (cells payload) s = absurd s
step_begun reads old new (write p target given options) (compacted changed) s = absurd s
step_begun reads old new (write p target given options) (refused c n) s =
    let q : Request = write p target given options in
    refusing reads old new q (RefusesWrite (record { target = target; cells = given; options = options })) c n s (λ r. r) (λ g r.
    ⊎_elim (λ first. stays reads old new q (refused c n) c n first.1) (λ (first : WritesFirst g (record { target = target; cells = given; options = options }) (refusal c n) old new). tabled reads old new q (refused c n) g.path first.writes.table first.writes.updates) r)
step_begun reads old new (read p target options) done s = absurd s
step_begun reads old new (read p target options) (cells payload) s = same_arrays reads old new (read p target options) (cells payload) (ap (λ (w : World). w.arrays) s.1)
step_begun reads old new (read p target options) (compacted changed) s = absurd s
step_begun reads old new (read p target options) (refused c n) s =
    let q : Request = read p target options in
    refusing reads old new q (RefusesRead target) c n s (λ r. r) (λ g r. stays reads old new q (refused c n) c n r.1)
step_begun reads old new (erase p chunks) done s = let e = s.0 in tabled reads old new (erase p chunks) done e.held.path e.erases.table e.erases.updates
step_begun reads old new (erase p chunks) (cells payload) s = absurd s
step_begun reads old new (erase p chunks) (compacted changed) s = absurd s
step_begun reads old new (erase p chunks) (refused c n) s =
    let q : Request = erase p chunks in
    refusing reads old new q (RefusesErase chunks) c n s (λ r. r) (λ g r.
    ⊎_elim (λ first. stays reads old new q (refused c n) c n first.1) (λ (first : ErasesFirst g chunks (refusal c n) old new). tabled reads old new q (refused c n) g.path first.erases.table first.erases.updates) r)
step_begun reads old new (compact p chunk options) done s = absurd s
step_begun reads old new (compact p chunk options) (cells payload) s = absurd s
step_begun reads old new (compact p chunk options) (compacted changed) s = let c = s.0 in tabled reads old new (compact p chunk options) (compacted changed) c.held.path c.held.table c.updates
step_begun reads old new (compact p chunk options) (refused c n) s =
    let q : Request = compact p chunk options in
    refusing reads old new q (RefusesCompact chunk) c n s (λ r. r) (λ g r. stays reads old new q (refused c n) c n r.1)
step_begun reads old new (rewrite p options) done s = let r = s.0 in tabled reads old new (rewrite p options) done r.held.path r.held.table r.rewrites.updates
step_begun reads old new (rewrite p options) (cells payload) s = absurd s
step_begun reads old new (rewrite p options) (compacted changed) s = absurd s
step_begun reads old new (rewrite p options) (refused c n) s =
    let q : Request = rewrite p options in
    refusing reads old new q (RefusesRewrite options) c n s (λ r. r) (λ g r.
    ⊎_elim (λ first. stays reads old new q (refused c n) c n first.1) (λ (first : RewritesFirst g options (refusal c n) old new). tabled reads old new q (refused c n) g.path g.table first.rewrites.updates) r)

-- ---- row-major order

-- the array at a path, if one is held there, is written row-major
abbrev pub IsRowMajorThere : World → List ℕ → Type 0
IsRowMajorThere world path = (h : Held) → held_at path world.arrays ≡ Some h → is_row_major h.order ≡ true

module _ (reads : ReadsCodecs) (old new : World) (path : List ℕ) (there : IsRowMajorThere old path) where
  more_order : (b : Held) → held_at b.path old.arrays ≡ None → (b.path ≡ path → is_row_major b.order ≡ true) → new.arrays ≡ old.arrays ++ b ∷ [] → IsRowMajorThere new path
  more_order b free asks arrays h e = ⊎_elim
      (λ same. let P : Held → Type 0 = λ x. is_row_major x.order ≡ true in
      subst P (sym same) (asks (sym (held_at-path path new.arrays h e ∙ ap (λ (x : Held). x.path) same))))
      (there h)
      (held_at-more path old.arrays b h free (sym (ap (held_at path) arrays) ∙ e))

  reopened_order : (p : List ℕ) (order : SubchunkWriteOrder) → (p ≡ path → is_row_major order ≡ true) → Reopens p order old new → IsRowMajorThere new path
  reopened_order p order asks r h e = ⊎_elim
      (λ t.
      let g = held_at-ordered p path order old.arrays h here in
      let P : Held → Type 0 = λ x. is_row_major x.order ≡ true in
      ⊎_elim (λ same. subst P (sym same) (there g.0 g.1)) (λ same. subst P (sym same) (asks ((bytes_eq-Decides p path).0 t))) g.2)
      (λ f. there h (sym (other_order p path order old.arrays (λ same. false≢true (sym f ∙ (bytes_eq-Decides p path).1 (sym same)))) ∙ here))
      (told (bytes_eq p path)) where
        here : held_at path (with_order p order old.arrays) ≡ Some h
        here = sym (ap (held_at path) r.updates) ∙ e

  pub orders : (request : Request) (answer : Answer) → AsksRowMajor path request answer → Step reads old request answer new → IsRowMajorThere new path
  orders request answer asks s = go (step_begun reads old new request answer s) where
    go : Begun reads request answer old new → IsRowMajorThere new path
    go (none_began none) = λ h e. let g = none path h e in ap is_row_major g.2 ∙ there g.0 g.1
    go (creates p document order is ends c) =
        let asked : AsksRowMajor path (create p document order) done = subst (λ (a : Answer). AsksRowMajor path (create p document order) a) ends (subst (λ (q : Request). AsksRowMajor path q answer) is asks) in
        more_order _ (free_none p old.arrays c.free) asked c.begins.holds
    go (reopens p order is ends r) =
        let asked : AsksRowMajor path (reopen p order) done = subst (λ (a : Answer). AsksRowMajor path (reopen p order) a) ends (subst (λ (q : Request). AsksRowMajor path q answer) is asks) in
        ⊎_elim (reopened_order p order asked) (λ (o : Opens reads p order old new). more_order _ o.begins.free asked o.begins.holds) r
