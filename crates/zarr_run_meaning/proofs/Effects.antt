-- What a step does to the arrays and to what is stored, by kinds.
use Rattle.std.proofs.Common.{◌≡◌, ◌∙◌, ℕ, Bool, List, [], ◌∷◌, length, take, refl, sym, ap, subst, ⊎_elim, true, false, Option, Some, None, is_some, option_and_then}
use Rattle.std.specs.List.{list_all}
use Rattle.serde_json.specs.Data.{Data}
use Rattle.serde_json.specs.Find.{as_array}
use Rattle.zarr_grids_boxes.specs.Boxes.{Region, product, places}
use Rattle.zarr_grids_chunks.specs.Grids.{Grid, intersecting}
use Rattle.zarr_grids_cover.specs.Boxed.{boxed_chunks}
use Rattle.zarr_grids_keys.specs.Documents.{document_key}
use Rattle.zarr_grids_keys.specs.Paths.{is_node_path}
use Rattle.zarr_grids_keys.specs.declared.document_name.DocumentName.TheVariants.{ZAttrs}
use Rattle.zarr_codecs_meaning.specs.Types.{Cell, DataType, is_value}
use Rattle.zarr_codecs_meaning.specs.Payloads.{values_only, cells_in}
use Rattle.zarr_codecs_meaning.proofs.Lists.{bind_some, if_some, some_same}
use Rattle.zarr_codecs_metadata.specs.Chains.{ReadsCodecs}
use Rattle.zarr_codecs_options.specs.declared.codec_options.CodecOptions.{CodecOptions}
use Rattle.zarr_codecs_options.specs.declared.subchunk_write_order.SubchunkWriteOrder.{SubchunkWriteOrder}
use Rattle.zarr_codecs_types.specs.Given.{GivenCells, given_bytes, given_json, given_in, elements_in}
use Rattle.zarr_array_meaning.specs.Arrays.{Array, value_at}
use Rattle.zarr_array_meaning.specs.Chunks.{is_listed}
use Rattle.zarr_array_meaning.specs.Rewriting.{keyed_chunks}
use Rattle.zarr_array_meaning.specs.StoreMaps.{StoreMap}
use Rattle.zarr_array_meaning.specs.Texts.{StoresTree}
use Rattle.zarr_array_meaning.specs.Writes.{write_to}
use Rattle.zarr_array_meaning.specs.Written.{written_document}
use Rattle.zarr_run_meaning.specs.declared.cause.Cause.{Cause}
use Rattle.zarr_run_meaning.specs.declared.cause.Cause.TheVariants as cause
use Rattle.zarr_run_meaning.specs.Causes.{AreTargets, CreateRefuses}
use Rattle.zarr_run_meaning.specs.Changes.{Creates, Reopens, Opens, WritesChunks, ErasesChunks, Compacts, RewritesChunks}
use Rattle.zarr_run_meaning.specs.Requests.{Refusal, refusal, Request, create, reopen, write, read, erase, compact, rewrite, path_of, Answer, done, cells, compacted, refused}
use Rattle.zarr_run_meaning.specs.Sound.{OpensApart, BeginsSound}
use Rattle.zarr_run_meaning.specs.Steps.{Stays, LeavesAttributes, WritesFirst, ErasesFirst, RewritesFirst, RefusesHeld, RefusesWrite, RefusesRead, RefusesErase, RefusesCompact, RefusesRewrite, Refuses, RefusesAt, Step}
use Rattle.zarr_run_meaning.specs.Worlds.{Held, World, array_of, held_at, is_taken}
use Rattle.zarr_run_meaning.proofs.Arrays.{held_at-before, held_at-reordered, held_after}
use Rattle.zarr_run_meaning.proofs.Keys.{AreBelow, listed_take, listed_filter, listed_inside, boxed_below}
use Rattle.zarr_run_meaning.proofs.Stored.{PutsDocuments, attributes_put}
use Rattle.zarr_run_meaning.proofs.StoredAnew.{StoredAnew, compacted_below, compacted_keeps, rewritten_keeps}

only_values : (type : DataType) (cs values : List Cell) → values_only type cs ≡ Some values → list_all (is_value type) values ≡ true
only_values type cs values e = let kept = if_some (list_all (is_value type) cs) (Some cs) values e in ap (list_all (is_value type)) (sym (some_same kept.1)) ∙ kept.0

-- the values of a write are values of the type
pub given_values : (type : DataType) (given : GivenCells) (values : List Cell) → given_in type given ≡ Some values → list_all (is_value type) values ≡ true
given_values type (given_bytes payload) values h = let found = bind_some (values_only type) (cells_in type payload) values h in only_values type found.0 values found.2
given_values type (given_json d) values h = let found = bind_some (values_only type) (option_and_then (elements_in type) (as_array d)) values h in only_values type found.0 values found.2

-- ---- kinds of effects

-- the cells of a box were given to some of the chunks that it intersects
pub record Wrote (old new : World) : Type 0 where
  pub path : List ℕ
  pub held : Held
  pub found : held_at path old.arrays ≡ Some held
  pub box : Region
  pub values : List Cell
  pub options : CodecOptions
  pub chunks : List (List ℕ)
  pub few : (chunk : List ℕ) → is_listed chunks chunk ≡ true → is_listed (intersecting held.document.grid box) chunk ≡ true
  pub many : length values ≡ product box.shape
  pub are : list_all (is_value held.document.elements.type) values ≡ true
  pub writes : WritesChunks held (write_to (array_of held) box values options) chunks old new

-- some chunks in the grid were erased
pub record Erased (old new : World) : Type 0 where
  pub path : List ℕ
  pub held : Held
  pub found : held_at path old.arrays ≡ Some held
  pub chunks : List (List ℕ)
  pub below : AreBelow held.document.grid chunks
  pub erases : ErasesChunks held chunks old new

-- only the attributes of a free path were stored
pub record LeftAttributes (old new : World) : Type 0 where
  pub path : List ℕ
  pub node : is_node_path path ≡ true
  pub free : is_taken path old.arrays ≡ false
  pub arrays : new.arrays ≡ old.arrays
  pub tree : Data
  pub stores : StoresTree (document_key path ZAttrs) tree old.store new.store

-- no other key changed
pub left_put : (old new : World) (l : LeftAttributes old new) → PutsDocuments l.path old.store new.store
left_put old new l = attributes_put l.path l.tree old.store new.store l.stores

-- what a step does
pub data Effect (reads : ReadsCodecs) (request : Request) (answer : Answer) (old new : World) : Type 0 where
  kept : new.arrays ≡ old.arrays → new.store ≡ old.store → Effect reads request answer old new
  left : LeftAttributes old new → Effect reads request answer old new
  created : (path : List ℕ) (document : Data) (order : SubchunkWriteOrder) → (BeginsSound reads old request answer → BeginsSound reads old (create path document order) done) → Creates reads (record { path = path; document = document; order = order }) old new → Effect reads request answer old new
  reordered : (path : List ℕ) (order : SubchunkWriteOrder) → Reopens path order old new → Effect reads request answer old new
  opened : (path : List ℕ) (order : SubchunkWriteOrder) → (BeginsSound reads old request answer → BeginsSound reads old (reopen path order) done) → ((other : List ℕ) → OpensApart other old request answer → OpensApart other old (reopen path order) done) → Opens reads path order old new → Effect reads request answer old new
  wrote : Wrote old new → Effect reads request answer old new
  erased : Erased old new → Effect reads request answer old new
  stored_anew : StoredAnew old new → Effect reads request answer old new

-- ---- refusals

-- how a command with a path is refused, by what came first
pub node_cases : (reads : ReadsCodecs) (request : Request) (c : Cause) (n : ℕ) (old new : World) (P : Type 0) → RefusesAt reads request (refusal c n) old new → (Stays c n old new → P)
    → (is_node_path (path_of request) ≡ true → Refuses reads request (refusal c n) old new → P) → P
node_cases reads request cause.Path n old new P h stays refuses = stays h.1
node_cases reads request cause.Memory n old new P h stays refuses = ⊎_elim stays (λ r. refuses r.0 r.1) h
node_cases reads request c n old new P h stays refuses = refuses h.0 h.1

pub at_cases : (reads : ReadsCodecs) (request : Request) (c : Cause) (n : ℕ) (old new : World) (P : Type 0) → RefusesAt reads request (refusal c n) old new → (Stays c n old new → P) → (Refuses reads request (refusal c n) old new → P) → P
at_cases reads request c n old new P h stays refuses = node_cases reads request c n old new P h stays (λ node. refuses)

-- a create is refused where its path is free, if it leaves attributes
left_free : (reads : ReadsCodecs) (old new : World) (path : List ℕ) (document tree : Data) (c : Cause) → CreateRefuses reads old path document c → LeavesAttributes path tree c old new → is_taken path old.arrays ≡ false
left_free reads old new path document tree c r l =
    let P : Cause → Type 0 = λ x. CreateRefuses reads old path document x in
    ⊎_elim (λ is. let s : P cause.Store = subst P is r in s.0) (λ is. let m : P cause.Memory = subst P is r in m.0) l.by

pub create_cases : (reads : ReadsCodecs) (path : List ℕ) (document : Data) (order : SubchunkWriteOrder) (c : Cause) (n : ℕ) (old new : World) (P : Type 0) → RefusesAt reads (create path document order) (refusal c n) old new
    → (Stays c n old new → P) → ((l : LeftAttributes old new) → l.path ≡ path → P) → P
create_cases reads path document order c n old new P h stays left_some = node_cases reads (create path document order) c n old new P h stays (λ node r.
    ⊎_elim stays
    (λ l. left_some (record {
      path = path;
      node = node;
      free = left_free reads old new path document (written_document document) c r.0 l.1;
      arrays = ap (λ (w : World). w.arrays) l.1.is;
      tree = _;
      stores = l.1.stores.attributes;
    }) refl)
    r.1)

-- how a command on a held array is refused
pub held_cases : (o : Option Held) (refuses : Held → Refusal → World → World → Type 0) (c : Cause) (n : ℕ) (old new : World) (P : Type 0) → RefusesHeld o refuses (refusal c n) old new → (Stays c n old new → P) → ((h : Held) → o ≡ Some h → refuses h (refusal c n) old new → P) → P
held_cases None refuses cause.NoArray n old new P r stays held = stays r
held_cases None refuses c n old new P r stays held = absurd r
held_cases (Some h) refuses c n old new P r stays held = held h refl r

module _ (reads : ReadsCodecs) (request : Request) (c : Cause) (n : ℕ) (old new : World) where
  stayed : Stays c n old new → Effect reads request (refused c n) old new
  stayed s = kept (ap (λ (w : World). w.arrays) s.is) (ap (λ (w : World). w.store) s.is)

-- ---- effects of writes and erasures

wrote_some : (path : List ℕ) (h : Held) (options : CodecOptions) (box : Region) (values : List Cell) (chunks : List (List ℕ)) (old new : World) → held_at path old.arrays ≡ Some h
    → ((chunk : List ℕ) → is_listed chunks chunk ≡ true → is_listed (intersecting h.document.grid box) chunk ≡ true)
    → list_all (is_value h.document.elements.type) values ≡ true → length values ≡ product box.shape → WritesChunks h (write_to (array_of h) box values options) chunks old new → Wrote old new
wrote_some path h options box values chunks old new found few are many writes =
    record { path = path; held = h; found = found; box = box; values = values; options = options; chunks = chunks; few = few; many = many; are = are; writes = writes }

targets_below : (grid : Grid) (chunks : Region) → AreTargets grid chunks → AreBelow grid (places chunks.start chunks.shape)
targets_below grid chunks are = record { below = λ c l. are.1.below c (listed_inside chunks.start chunks.shape c are.0 l) }

pub first_below : (grid : Grid) (n : ℕ) (chunks : List (List ℕ)) → AreBelow grid chunks → AreBelow grid (take n chunks)
first_below grid n chunks are = record { below = λ c l. are.below c (listed_take n chunks c l) }

-- ---- effects of compactions and rewrites

compacted_one : (path chunk : List ℕ) (changed : Bool) (old new : World) → Compacts path chunk changed old new → StoredAnew old new
compacted_one path chunk changed old new c =
    record { path = path; held = c.held; found = c.found; chunks = chunk ∷ []; below = compacted_below c.held chunk changed old.store new.store c.stores; updates = c.updates; keeps = compacted_keeps c.held chunk changed old.store new.store c.stores }

pub keyed_below : (array : Array) (store : StoreMap) → AreBelow array.document.grid (keyed_chunks array store)
keyed_below array store = record { below = λ c l. boxed_below array.document.grid c (listed_filter (λ chunk. is_some (value_at array store chunk)) (boxed_chunks array.document.grid) c l) }

rewrote_some : (path : List ℕ) (h : Held) (options : CodecOptions) (chunks : List (List ℕ)) (old new : World) → held_at path old.arrays ≡ Some h → AreBelow h.document.grid chunks → RewritesChunks h options chunks old new → StoredAnew old new
rewrote_some path h options chunks old new found below rewrites =
    record { path = path; held = h; found = found; chunks = chunks; below = below; updates = rewrites.updates; keeps = rewritten_keeps h options.store_empty_chunks chunks old.store new.store rewrites.stores }

-- ---- each step has an effect

pub step_effect : (reads : ReadsCodecs) (old new : World) (request : Request) (answer : Answer) → Step reads old request answer new → Effect reads request answer old new
step_effect reads old new (create path document order) done s = created path document order (λ begins. begins) s.0
step_effect reads old new (create path document order) (cells payload) s = absurd s
step_effect reads old new (create path document order) (compacted changed) s = absurd s
step_effect reads old new (create path document order) (refused c n) s =
    let r : Request = create path document order in
    create_cases reads path document order c n old new (Effect reads r (refused c n) old new) s (stayed reads r c n old new) (λ l at. left l)
step_effect reads old new (reopen path order) done s = ⊎_elim (λ h. reordered path order h) (λ h. opened path order (λ begins. begins) (λ other away. away) h) s.0
step_effect reads old new (reopen path order) (cells payload) s = absurd s
step_effect reads old new (reopen path order) (compacted changed) s = absurd s
step_effect reads old new (reopen path order) (refused c n) s =
    let r : Request = reopen path order in
    at_cases reads r c n old new (Effect reads r (refused c n) old new) s (stayed reads r c n old new) (λ h. stayed reads r c n old new h.1)
step_effect reads old new (write path target given options) done s =
    let w = s.0 in
    wrote (wrote_some path w.held options w.box w.values (intersecting w.held.document.grid w.box) old new w.found (λ c l. l) (given_values w.held.document.elements.type given w.values w.is.gives.0) w.is.gives.1 w.writes)
step_effect reads old new (write path target given options) (cells payload) s = absurd s
step_effect reads old new (write path target given options) (compacted changed) s = absurd s
step_effect reads old new (write path target given options) (refused c n) s =
    let r : Request = write path target given options in
    at_cases reads r c n old new (Effect reads r (refused c n) old new) s (stayed reads r c n old new) (λ h.
    held_cases (held_at path old.arrays) (RefusesWrite (record { target = target; cells = given; options = options })) c n old new (Effect reads r (refused c n) old new) h (stayed reads r c n old new) (λ g found.
    ⊎_elim (λ whole. stayed reads r c n old new whole.1) (λ (first : WritesFirst g (record { target = target; cells = given; options = options }) (refusal c n) old new).
    wrote (wrote_some path g options first.box first.values (take n (intersecting g.document.grid first.box)) old new found (λ d l. listed_take n (intersecting g.document.grid first.box) d l) (given_values g.document.elements.type given first.values first.is.gives.0) first.is.gives.1 first.writes))))
step_effect reads old new (read path target options) done s = absurd s
step_effect reads old new (read path target options) (compacted changed) s = absurd s
step_effect reads old new (read path target options) (cells payload) s = kept (ap (λ (w : World). w.arrays) s.1) (ap (λ (w : World). w.store) s.1)
step_effect reads old new (read path target options) (refused c n) s =
    let r : Request = read path target options in
    at_cases reads r c n old new (Effect reads r (refused c n) old new) s (stayed reads r c n old new) (λ h.
    held_cases (held_at path old.arrays) (RefusesRead target) c n old new (Effect reads r (refused c n) old new) h (stayed reads r c n old new) (λ g found q. stayed reads r c n old new q.1))
step_effect reads old new (erase path chunks) done s =
    let e = s.0 in
    erased (record { path = path; held = e.held; found = e.found; chunks = places chunks.start chunks.shape; below = targets_below e.held.document.grid chunks e.below; erases = e.erases })
step_effect reads old new (erase path chunks) (cells payload) s = absurd s
step_effect reads old new (erase path chunks) (compacted changed) s = absurd s
step_effect reads old new (erase path chunks) (refused c n) s =
    let r : Request = erase path chunks in
    at_cases reads r c n old new (Effect reads r (refused c n) old new) s (stayed reads r c n old new) (λ h.
    held_cases (held_at path old.arrays) (RefusesErase chunks) c n old new (Effect reads r (refused c n) old new) h (stayed reads r c n old new) (λ g found.
    ⊎_elim (λ whole. stayed reads r c n old new whole.1) (λ (first : ErasesFirst g chunks (refusal c n) old new).
    erased (record {
      path = path;
      held = g;
      found = found;
      chunks = take n (places chunks.start chunks.shape);
      below = first_below g.document.grid n (places chunks.start chunks.shape) (targets_below g.document.grid chunks first.below);
      erases = first.erases;
    }))))
step_effect reads old new (compact path chunk options) done s = absurd s
step_effect reads old new (compact path chunk options) (cells payload) s = absurd s
step_effect reads old new (compact path chunk options) (compacted changed) s = stored_anew (compacted_one path chunk changed old new s.0)
step_effect reads old new (compact path chunk options) (refused c n) s =
    let r : Request = compact path chunk options in
    at_cases reads r c n old new (Effect reads r (refused c n) old new) s (stayed reads r c n old new) (λ h.
    held_cases (held_at path old.arrays) (RefusesCompact chunk) c n old new (Effect reads r (refused c n) old new) h (stayed reads r c n old new) (λ g found q. stayed reads r c n old new q.1))
step_effect reads old new (rewrite path options) done s =
    let r = s.0 in
    stored_anew (rewrote_some path r.held options (keyed_chunks (array_of r.held) old.store) old new r.found (keyed_below (array_of r.held) old.store) r.rewrites)
step_effect reads old new (rewrite path options) (cells payload) s = absurd s
step_effect reads old new (rewrite path options) (compacted changed) s = absurd s
step_effect reads old new (rewrite path options) (refused c n) s =
    let r : Request = rewrite path options in
    at_cases reads r c n old new (Effect reads r (refused c n) old new) s (stayed reads r c n old new) (λ h.
    held_cases (held_at path old.arrays) (RefusesRewrite options) c n old new (Effect reads r (refused c n) old new) h (stayed reads r c n old new) (λ g found.
    ⊎_elim (λ whole. stayed reads r c n old new whole.1) (λ (first : RewritesFirst g options (refusal c n) old new).
    let keyed = keyed_chunks (array_of g) old.store in
    stored_anew (rewrote_some path g options (take n keyed) old new found (first_below g.document.grid n keyed (keyed_below (array_of g) old.store)) first.rewrites))))

-- ---- what is held stays so

pub held_effect : (reads : ReadsCodecs) (old new : World) (request : Request) (answer : Answer) → Effect reads request answer old new → (q : List ℕ) (g : Held) → held_at q old.arrays ≡ Some g → (x : Held) × (held_at q new.arrays ≡ Some x)
held_effect reads old new request answer (kept arrays store) q g e = (g, ap (held_at q) arrays ∙ e)
held_effect reads old new request answer (left l) q g e = (g, ap (held_at q) l.arrays ∙ e)
held_effect reads old new request answer (created p document order begins c) q g e = (g, ap (held_at q) c.begins.holds ∙ held_at-before q old.arrays _ g e)
held_effect reads old new request answer (reordered p order r) q g e = let x = held_at-reordered p q order old.arrays g e in (x.0, ap (held_at q) r.updates ∙ x.1)
held_effect reads old new request answer (opened p order begins such o) q g e = (g, ap (held_at q) o.begins.holds ∙ held_at-before q old.arrays _ g e)
held_effect reads old new request answer (wrote w) q g e = let x = held_after w.held.path w.writes.table new.store old.arrays new.arrays w.writes.updates q g e in (x.0, x.1)
held_effect reads old new request answer (erased w) q g e = let x = held_after w.held.path w.erases.table new.store old.arrays new.arrays w.erases.updates q g e in (x.0, x.1)
held_effect reads old new request answer (stored_anew w) q g e = let x = held_after w.held.path w.held.table new.store old.arrays new.arrays w.updates q g e in (x.0, x.1)
