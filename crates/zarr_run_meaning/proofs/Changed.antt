-- What a command changes at the path that it names, and what it leaves alone.
use Rattle.std.proofs.Common.{◌≡◌, ◌∙◌, ⊎_elim, ℕ, true, false, List, [], ◌∷◌, ◌++◌, refl, sym, ap, subst, Some}
use Rattle.std.specs.FinMap.{get}
use Rattle.std.proofs.lemmas.Bool.{false≢true}
use Rattle.std.proofs.lemmas.Option.{none-some, same_Some}
use Rattle.zarr_grids_keys.specs.Keys.{key_under}
use Rattle.zarr_grids_keys.specs.Paths.{is_node_path}
use Rattle.zarr_grids_keys.specs.Related.{is_related}
use Rattle.zarr_grids_keys.proofs.RelatedLemmas.{is_related-refl}
use Rattle.zarr_codecs_metadata.specs.Chains.{ReadsCodecs}
use Rattle.zarr_codecs_options.specs.declared.subchunk_write_order.SubchunkWriteOrder.{SubchunkWriteOrder}
use Rattle.zarr_array_meaning.specs.Chunks.{KeepsOtherKeys}
use Rattle.zarr_run_meaning.specs.declared.cause.Cause.{Cause}
use Rattle.zarr_run_meaning.specs.declared.cause.Cause.TheVariants as cause
use Rattle.zarr_run_meaning.specs.Changes.{Reopens, Opens}
use Rattle.zarr_run_meaning.specs.Requests.{Refusal, refusal, Request, create, reopen, write, read, erase, compact, rewrite, path_of, Answer, done, cells, compacted, refused}
use Rattle.zarr_run_meaning.specs.Rewrites.{StepsLeaveUnrelated, GivesNoCells, IsHeldStill, ChangesNoCell}
use Rattle.zarr_run_meaning.specs.Steps.{Stays, WritesFirst, ErasesFirst, RewritesFirst, RefusesHeld, RefusesWrite, RefusesRead, RefusesErase, RefusesCompact, RefusesRewrite, Refuses, RefusesAt, Step}
use Rattle.zarr_run_meaning.specs.Tables.{Table}
use Rattle.zarr_run_meaning.specs.Worlds.{Held, World, held_at, with_order, WithTable}
use Rattle.zarr_run_meaning.proofs.Arrays.{Stayed, at_path, near, apart, held_at-path, held_at-before, held_at-reordered, held_after}
use Rattle.zarr_run_meaning.proofs.Begun.{created_put}
use Rattle.zarr_run_meaning.proofs.Effects.{left_put, at_cases, create_cases, held_cases}
use Rattle.zarr_run_meaning.proofs.Keys.{KeepsUnder, others_kept}
use Rattle.zarr_run_meaning.proofs.Stored.{PutsDocuments, put_kept}

-- what a command changes, by the path that it names
pub data Change (path : List ℕ) (old new : World) : Type 0 where
  -- nothing
  unchanged : new.arrays ≡ old.arrays → new.store ≡ old.store → Change path old new
  -- one more array is held
  more : (b : Held) → new.arrays ≡ old.arrays ++ b ∷ [] → new.store ≡ old.store → Change path old new
  -- and its document is written
  put : is_node_path path ≡ true → (b : Held) → new.arrays ≡ old.arrays ++ b ∷ [] → PutsDocuments path old.store new.store → Change path old new
  -- attributes alone
  attributes : is_node_path path ≡ true → new.arrays ≡ old.arrays → PutsDocuments path old.store new.store → Change path old new
  -- a write order
  ordered : (order : SubchunkWriteOrder) → new.arrays ≡ with_order path order old.arrays → new.store ≡ old.store → Change path old new
  -- the table of the array at the path, and some of its chunks
  chunked : is_node_path path ≡ true → (held : Held) → held_at path old.arrays ≡ Some held → (chunks : List (List ℕ)) → (table : Table) → WithTable held.path table new.store old.arrays new.arrays
      → KeepsOtherKeys held.path held.document chunks old.store new.store → Change path old new

-- ---- each step changes just so much

module _ (reads : ReadsCodecs) (old new : World) where
  stayed : (path : List ℕ) (c : Cause) (n : ℕ) → Stays c n old new → Change path old new
  stayed path c n s = unchanged (ap (λ (w : World). w.arrays) s.is) (ap (λ (w : World). w.store) s.is)

  -- a refusal
  whole : (request : Request) (c : Cause) (n : ℕ) → RefusesAt reads request (refusal c n) old new → (is_node_path (path_of request) ≡ true → Refuses reads request (refusal c n) old new → Change (path_of request) old new) → Change (path_of request) old new
  whole request cause.Path n s refuses = stayed (path_of request) cause.Path n s.1
  whole request cause.Memory n s refuses = ⊎_elim (stayed (path_of request) cause.Memory n) (λ r. refuses r.0 r.1) s
  whole request c n s refuses = refuses s.0 s.1

  -- a refusal by the array that is held at the path
  refusing : (request : Request) (refuses : Held → Refusal → World → World → Type 0) (c : Cause) (n : ℕ) → RefusesAt reads request (refusal c n) old new
      → (Refuses reads request (refusal c n) old new → RefusesHeld (held_at (path_of request) old.arrays) refuses (refusal c n) old new)
      → (is_node_path (path_of request) ≡ true → (h : Held) → held_at (path_of request) old.arrays ≡ Some h → refuses h (refusal c n) old new → Change (path_of request) old new) → Change (path_of request) old new
  refusing request refuses c n s by held = whole request c n s (λ node r. held_cases (held_at (path_of request) old.arrays) refuses c n old new (Change (path_of request) old new) (by r) (stayed (path_of request) c n) (held node))

  pub step_change : (request : Request) (answer : Answer) → Step reads old request answer new → Change (path_of request) old new
  step_change (create path document order) done s = let c = s.0 in put c.node _ c.begins.holds (created_put reads old new path document order c)
  step_change (create path document order) (cells payload) s = absurd s
  step_change (create path document order) (compacted changed) s = absurd s
  step_change (create path document order) (refused c n) s = create_cases reads path document order c n old new (Change path old new) s (stayed path c n) (λ l at.
      let P : List ℕ → Type 0 = λ p. Change p old new in
      subst P at (attributes l.node l.arrays (left_put old new l)))
  step_change (reopen path order) done s = ⊎_elim (λ (r : Reopens path order old new). ordered order r.updates r.stores) (λ (o : Opens reads path order old new). more _ o.begins.holds o.stores) s.0
  step_change (reopen path order) (cells payload) s = absurd s
  step_change (reopen path order) (compacted changed) s = absurd s
  step_change (reopen path order) (refused c n) s = whole (reopen path order) c n s (λ node r. stayed path c n r.1)
  step_change (write path target given options) done s = let w = s.0 in chunked w.node w.held w.found _ w.writes.table w.writes.updates w.writes.stores.others
  step_change (write path target given options) (cells payload) s = absurd s
  step_change (write path target given options) (compacted changed) s = absurd s
  step_change (write path target given options) (refused c n) s = refusing (write path target given options) (RefusesWrite (record { target = target; cells = given; options = options })) c n s (λ r. r) (λ node h found.
      ⊎_elim (λ first. stayed path c n first.1) (λ (first : WritesFirst h (record { target = target; cells = given; options = options }) (refusal c n) old new). chunked node h found _ first.writes.table first.writes.updates first.writes.stores.others))
  step_change (read path target options) done s = absurd s
  step_change (read path target options) (cells payload) s = unchanged (ap (λ (w : World). w.arrays) s.1) (ap (λ (w : World). w.store) s.1)
  step_change (read path target options) (compacted changed) s = absurd s
  step_change (read path target options) (refused c n) s = refusing (read path target options) (RefusesRead target) c n s (λ r. r) (λ node h found q. stayed path c n q.1)
  step_change (erase path chunks) done s = let e = s.0 in chunked e.node e.held e.found _ e.erases.table e.erases.updates e.erases.stores.others
  step_change (erase path chunks) (cells payload) s = absurd s
  step_change (erase path chunks) (compacted changed) s = absurd s
  step_change (erase path chunks) (refused c n) s = refusing (erase path chunks) (RefusesErase chunks) c n s (λ r. r) (λ node h found.
      ⊎_elim (λ first. stayed path c n first.1) (λ (first : ErasesFirst h chunks (refusal c n) old new). chunked node h found _ first.erases.table first.erases.updates first.erases.stores.others))
  step_change (compact path chunk options) done s = absurd s
  step_change (compact path chunk options) (cells payload) s = absurd s
  step_change (compact path chunk options) (compacted changed) s = let c = s.0 in chunked c.node c.held c.found (chunk ∷ []) c.held.table c.updates c.stores.others
  step_change (compact path chunk options) (refused c n) s = refusing (compact path chunk options) (RefusesCompact chunk) c n s (λ r. r) (λ node h found q. stayed path c n q.1)
  step_change (rewrite path options) done s = let r = s.0 in chunked r.node r.held r.found _ r.held.table r.rewrites.updates r.rewrites.stores.others
  step_change (rewrite path options) (cells payload) s = absurd s
  step_change (rewrite path options) (compacted changed) s = absurd s
  step_change (rewrite path options) (refused c n) s = refusing (rewrite path options) (RefusesRewrite options) c n s (λ r. r) (λ node h found.
      ⊎_elim (λ first. stayed path c n first.1) (λ (first : RewritesFirst h options (refusal c n) old new). chunked node h found _ h.table first.rewrites.updates first.rewrites.stores.others))

-- ---- what is left alone

store_under : (path : List ℕ) (old new : World) → new.store ≡ old.store → KeepsUnder path old.store new.store
store_under path old new same = record { under = λ name. ap (λ store. get store (key_under path name)) same }

-- what is stored under an unrelated path
pub keeps_unrelated : (path other : List ℕ) (old new : World) → is_node_path other ≡ true → is_related path other ≡ false → Change path old new → KeepsUnder other old.store new.store
keeps_unrelated path other old new there away (unchanged arrays store) = store_under other old new store
keeps_unrelated path other old new there away (more b arrays store) = store_under other old new store
keeps_unrelated path other old new there away (put node b arrays stored) = put_kept path other old.store new.store stored node there away
keeps_unrelated path other old new there away (attributes node arrays stored) = put_kept path other old.store new.store stored node there away
keeps_unrelated path other old new there away (ordered order arrays store) = store_under other old new store
keeps_unrelated path other old new there away (chunked node held found chunks table updates others) =
    let at = held_at-path path old.arrays held found in
    others_kept held.path held.document chunks old.store new.store other others (ap is_node_path (sym at) ∙ node) there (ap (λ p. is_related p other) (sym at) ∙ away)

-- an array whose write order, or that of another one, is given anew
pub reordered : (path other : List ℕ) (order : SubchunkWriteOrder) (old new : World) (h : Held) → held_at other old.arrays ≡ Some h → new.arrays ≡ with_order path order old.arrays → IsHeldStill other h new
reordered path other order old new h found arrays =
    let x = held_at-reordered path other order old.arrays h found in
    let is = ap (held_at other) arrays ∙ x.1 in
    ⊎_elim (λ same. record { order = h.order; found = is ∙ ap Some same }) (λ same. record { order = order; found = is ∙ ap Some same }) x.2

-- an array at an unrelated path
pub holds_unrelated : (path other : List ℕ) (old new : World) (h : Held) → held_at other old.arrays ≡ Some h → is_related path other ≡ false → Change path old new → IsHeldStill other h new
holds_unrelated path other old new h found away (unchanged arrays store) = record { order = h.order; found = ap (held_at other) arrays ∙ found }
holds_unrelated path other old new h found away (more b arrays store) = record { order = h.order; found = ap (held_at other) arrays ∙ held_at-before other old.arrays b h found }
holds_unrelated path other old new h found away (put node b arrays stored) = record { order = h.order; found = ap (held_at other) arrays ∙ held_at-before other old.arrays b h found }
holds_unrelated path other old new h found away (attributes node arrays stored) = record { order = h.order; found = ap (held_at other) arrays ∙ found }
holds_unrelated path other old new h found away (ordered order arrays store) = reordered path other order old new h found arrays
holds_unrelated path other old new h found away (chunked node held at chunks table updates others) = go after.2 where
  after : (x : Held) × (held_at other new.arrays ≡ Some x) × Stayed held.path table new.store h x
  after = held_after held.path table new.store old.arrays new.arrays updates other h found

  related : is_related path other ≡ is_related held.path h.path
  related = ap (λ p. is_related p other) (held_at-path path old.arrays held at) ∙ ap (is_related held.path) (held_at-path other old.arrays h found)

  go : Stayed held.path table new.store h after.0 → IsHeldStill other h new
  go (at_path same is) = absurd (false≢true (sym away ∙ related ∙ ap (is_related held.path) (sym same) ∙ is_related-refl held.path))
  go (near differs close is shows) = absurd (false≢true (sym away ∙ related ∙ close))
  go (apart unrelated is) = record { order = h.order; found = after.1 ∙ ap Some is }

-- an array that keeps its table
pub same_table : (path : List ℕ) (held : Held) (old new : World) → held_at path old.arrays ≡ Some held → WithTable held.path held.table new.store old.arrays new.arrays → held_at path new.arrays ≡ Some held
same_table path held old new found updates = go after.2 where
  after : (x : Held) × (held_at path new.arrays ≡ Some x) × Stayed held.path held.table new.store held x
  after = held_after held.path held.table new.store old.arrays new.arrays updates path held found

  go : Stayed held.path held.table new.store held after.0 → held_at path new.arrays ≡ Some held
  go (at_path same is) = after.1 ∙ ap Some is
  go (near differs close is shows) = absurd (differs refl)
  go (apart unrelated is) = after.1 ∙ ap Some is

-- ---- the laws

pub steps_leave_unrelated : StepsLeaveUnrelated
steps_leave_unrelated reads old new request answer path name node away s = (keeps_unrelated (path_of request) path old new node away (step_change reads old new request answer s)).under name

module _ (reads : ReadsCodecs) (old new : World) (h : Held) where
  -- the array at the path of the command
  same_array : (path : List ℕ) → held_at path old.arrays ≡ Some h → new.arrays ≡ old.arrays → IsHeldStill path h new
  same_array path found arrays = record { order = h.order; found = ap (held_at path) arrays ∙ found }

  still : (path : List ℕ) (c : Cause) (n : ℕ) → held_at path old.arrays ≡ Some h → Stays c n old new → IsHeldStill path h new
  still path c n found s = same_array path found (ap (λ (w : World). w.arrays) s.is)

  with_its_table : (path : List ℕ) (g : Held) → held_at path old.arrays ≡ Some h → held_at path old.arrays ≡ Some g → WithTable g.path g.table new.store old.arrays new.arrays → IsHeldStill path h new
  with_its_table path g found at updates =
      let P : Held → Type 0 = λ x. held_at path new.arrays ≡ Some x in
      record { order = h.order; found = subst P (same_Some g h (sym at ∙ found)) (same_table path g old new at updates) }

  own_cells : (request : Request) (answer : Answer) → GivesNoCells request → held_at (path_of request) old.arrays ≡ Some h → Step reads old request answer new → IsHeldStill (path_of request) h new
  own_cells (create path document order) answer asks found s = absurd asks
  own_cells (write path target given options) answer asks found s = absurd asks
  own_cells (read path target options) answer asks found s = absurd asks
  own_cells (erase path chunks) answer asks found s = absurd asks
  own_cells (reopen path order) done asks found s = ⊎_elim
      (λ (r : Reopens path order old new). reordered path path order old new h found r.updates)
      (λ (o : Opens reads path order old new). absurd (none-some h (sym o.begins.free ∙ found)))
      s.0
  own_cells (reopen path order) (cells payload) asks found s = absurd s
  own_cells (reopen path order) (compacted changed) asks found s = absurd s
  own_cells (reopen path order) (refused c n) asks found s = at_cases reads (reopen path order) c n old new (IsHeldStill path h new) s (still path c n found) (λ r. still path c n found r.1)
  own_cells (compact path chunk options) done asks found s = absurd s
  own_cells (compact path chunk options) (cells payload) asks found s = absurd s
  own_cells (compact path chunk options) (compacted changed) asks found s = let c = s.0 in with_its_table path c.held found c.found c.updates
  own_cells (compact path chunk options) (refused c n) asks found s = at_cases reads (compact path chunk options) c n old new (IsHeldStill path h new) s (still path c n found) (λ r.
      held_cases (held_at path old.arrays) (RefusesCompact chunk) c n old new (IsHeldStill path h new) r (still path c n found) (λ g at q. still path c n found q.1))
  own_cells (rewrite path options) done asks found s = let r = s.0 in with_its_table path r.held found r.found r.rewrites.updates
  own_cells (rewrite path options) (cells payload) asks found s = absurd s
  own_cells (rewrite path options) (compacted changed) asks found s = absurd s
  own_cells (rewrite path options) (refused c n) asks found s = at_cases reads (rewrite path options) c n old new (IsHeldStill path h new) s (still path c n found) (λ r.
      held_cases (held_at path old.arrays) (RefusesRewrite options) c n old new (IsHeldStill path h new) r (still path c n found) (λ g at.
      ⊎_elim (λ first. still path c n found first.1) (λ (first : RewritesFirst g options (refusal c n) old new). with_its_table path g found at first.rewrites.updates)))

pub changes_no_cell : ChangesNoCell
changes_no_cell reads old new request answer path h asks found beside s = ⊎_elim
    (λ same. let P : List ℕ → Type 0 = λ p. IsHeldStill p h new in subst P same (own_cells reads old new h request answer asks (ap (λ p. held_at p old.arrays) same ∙ found) s))
    (λ away. holds_unrelated (path_of request) path old new h found away (step_change reads old new request answer s))
    beside
