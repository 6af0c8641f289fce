-- From what is stored for one array to the world: the array at a path has another table, and each array that was held stays one of the session's.
use Rattle.std.proofs.Common.{◌≡◌, ◌∙◌, ℕ, List, [], ◌∷◌, refl, sym, ap, subst, Bool, true, false, ◌||◌, MatchBool, Option, Some, None, bytes_eq}
use Rattle.std.specs.List.{list_any}
use Rattle.zarr_grids_keys.specs.Related.{is_related}
use Rattle.zarr_codecs_meaning.specs.Chains.{ByteCodec}
use Rattle.zarr_codecs_metadata.specs.Chains.{ReadsCodecs}
use Rattle.zarr_array_meaning.specs.StoreMaps.{StoreMap}
use Rattle.zarr_array_meaning.specs.Writes.{Write}
use Rattle.zarr_array_meaning.specs.Writing.{WroteChunks, ErasedChunks}
use Rattle.zarr_run_meaning.specs.Changes.{WritesChunks, ErasesChunks}
use Rattle.zarr_run_meaning.specs.Laws.{HasTables}
use Rattle.zarr_run_meaning.specs.Requests.{Request, Answer}
use Rattle.zarr_run_meaning.specs.Steps.{Step}
use Rattle.zarr_run_meaning.specs.Tables.{Table, updated, changes, changes_in, fills}
use Rattle.zarr_run_meaning.specs.Worlds.{Held, World, held_at, IsTableAt, StaysBut, WithTable}
use Rattle.zarr_run_meaning.proofs.Arrays.{Stayed, at_path, near, apart, stayed, stayed_path, held_before, held_after}
use Rattle.zarr_run_meaning.proofs.Frames.{steps_show}
use Rattle.zarr_run_meaning.proofs.FoundTables.{table_found}
use Rattle.zarr_run_opening.specs.Sessions.{Arrays, array_at, IsHeld, Agrees, AreDistinct, IsIn}
use Rattle.zarr_run_opening.specs.declared.held.HeldArray.{HeldArray}
use Rattle.zarr_run_opening.proofs.HoldsLemmas.{agreed_some, none_from}

-- ---- the arrays with another table at a path

-- one array: at a related path it gets a table of what is stored
one_after : (path : List ℕ) (table : Table) (store : StoreMap) (old : Held) → (new : Held) × StaysBut path table store old new
one_after path table store old = go (bytes_eq path old.path) (is_related path old.path) where
  go : (same related : Bool) → (new : Held) × MatchBool same (new ≡ record old { table = table }) (MatchBool related ((new ≡ record old { table = new.table }) × IsTableAt old.path old.document store new.table) (new ≡ old))
  go true related = (record old { table = table }, refl)
  go false true = let found = table_found old.path old.document store in (record old { table = found.0 }, (refl, found.1))
  go false false = (old, refl)

pub arrays_after : (path : List ℕ) (table : Table) (store : StoreMap) (olds : List Held) → (news : List Held) × WithTable path table store olds news
arrays_after path table store [] = ([], tt)
arrays_after path table store (old ∷ olds) =
    let new = one_after path table store old in
    let news = arrays_after path table store olds in
    (new.0 ∷ news.0, (new.1, news.1))

-- the world after
abbrev pub world_after : List ℕ → Table → World → StoreMap → ℕ → World
world_after path table world store count = record { arrays = (arrays_after path table store world.arrays).0; store = store; refused = count }

pub has_table : (path : List ℕ) (table : Table) (world : World) (store : StoreMap) (count : ℕ) → WithTable path table store world.arrays (world_after path table world store count).arrays
has_table path table world store count = (arrays_after path table store world.arrays).1

-- ---- no path is that of two arrays

named_after : (path : List ℕ) (table : Table) (store : StoreMap) (olds news : List Held) → WithTable path table store olds news → (q : List ℕ)
    → list_any (λ (other : Held). bytes_eq q other.path) news ≡ list_any (λ (other : Held). bytes_eq q other.path) olds
named_after path table store [] [] w q = refl
named_after path table store [] (new ∷ news) w q = absurd w
named_after path table store (old ∷ olds) [] w q = absurd w
named_after path table store (old ∷ olds) (new ∷ news) w q =
    ap (λ r. bytes_eq q r || list_any (λ (other : Held). bytes_eq q other.path) news) (stayed_path path table store old new (stayed path table store old new w.0))
    ∙ ap (λ b. bytes_eq q old.path || b) (named_after path table store olds news w.1 q)

distinct_after : (path : List ℕ) (table : Table) (store : StoreMap) (olds news : List Held) → WithTable path table store olds news → AreDistinct olds → AreDistinct news
distinct_after path table store [] [] w d = tt
distinct_after path table store [] (new ∷ news) w d = absurd w
distinct_after path table store (old ∷ olds) [] w d = absurd w
distinct_after path table store (old ∷ olds) (new ∷ news) w d = (
  ap (λ r. list_any (λ (other : Held). bytes_eq r other.path) news) (stayed_path path table store old new (stayed path table store old new w.0)) ∙ named_after path table store olds news w.1 old.path ∙ d.0,
  distinct_after path table store olds news w.1 d.1,
)

-- ---- an array differs at most by its table

but_for_table : (path : List ℕ) (table : Table) (store : StoreMap) (old new : Held) → Stayed path table store old new → new ≡ record old { table = new.table }
but_for_table path table store old new (at_path same is) = is ∙ ap (λ (h : Held). record old { table = h.table }) (sym is)
but_for_table path table store old new (near differs related is shows) = is
but_for_table path table store old new (apart unrelated is) = is ∙ ap (λ (h : Held). record old { table = h.table }) (sym is)

-- ---- the state is in the world after

module _ (B : Type 0) (meaning : B → ByteCodec) (reads : ReadsCodecs) where
  tables_in : (arrays : Arrays B) (store : StoreMap) (n : ℕ) (w : World) → IsIn meaning reads (arrays, (store, n)) w → HasTables reads w
  tables_in arrays store n w k path h e =
      let a = agreed_some B meaning reads store (array_at arrays path) (held_at path w.arrays) h (k.agree path) e in
      let P : StoreMap → Type 0 = λ s. IsTableAt h.path h.document s h.table in
      (a.2.node, a.2.says, subst P (sym k.store) a.2.table)

  held_with : (array : HeldArray B) (old new : StoreMap) (h : Held) (table : Table) → IsHeld meaning reads old array h → IsTableAt h.path h.document new table → IsHeld meaning reads new array (record h { table = table })
  held_with array old new h table k shows = record { node = k.node; path = k.path; tree = k.tree; document = k.document; order = k.order; says = k.says; exact = k.exact; table = shows }

  -- what is held at a path stays one of the session's, where the world after has tables
  agrees_after : (path : List ℕ) (table : Table) (old new : StoreMap) (olds news : List Held) → WithTable path table new olds news
      → ((q : List ℕ) (h : Held) → held_at q news ≡ Some h → IsTableAt h.path h.document new h.table)
      → (q : List ℕ) (found : Option (HeldArray B)) → Agrees meaning reads old found (held_at q olds) → Agrees meaning reads new found (held_at q news)
  agrees_after path table old new olds news w shows q found a = go found (held_at q olds) refl a where
    go : (found : Option (HeldArray B)) (o : Option Held) → held_at q olds ≡ o → Agrees meaning reads old found o → Agrees meaning reads new found (held_at q news)
    go None None e a =
        let P : Option Held → Type 0 = λ o. Agrees meaning reads new None o in
        let none : held_at q news ≡ None = none_from (held_at q news) (λ h f. let g = held_before path table new olds news w q h f in cc) in
        subst P (sym none) tt
    go None (Some g) e a = absurd a
    go (Some array) None e a = absurd a
    go (Some array) (Some g) e a =
        let P : Option Held → Type 0 = λ o. Agrees meaning reads new (Some array) o in
        let Q : Held → Type 0 = λ h. IsHeld meaning reads new array h in
        let R : Held → Type 0 = λ h. IsTableAt h.path h.document new h.table in
        let next = held_after path table new olds news w q g e in
        let is = but_for_table path table new g next.0 next.2 in
        subst P (sym next.1) (subst Q (sym is) (held_with array old new g next.0.table a (subst R is (shows q next.0 next.1))))

  -- a step that leads to the world after leads to one that the state is in
  pub in_after : (arrays : Arrays B) (store store' : StoreMap) (n n' : ℕ) (w : World) (request : Request) (answer : Answer) (path : List ℕ) (table : Table) → IsIn meaning reads (arrays, (store, n)) w
      → Step reads w request answer (world_after path table w store' n') → IsIn meaning reads (arrays, (store', n')) (world_after path table w store' n')
  in_after arrays store store' n n' w request answer path table k step =
      let after = world_after path table w store' n' in
      let tables = steps_show reads w after request answer (tables_in arrays store n w k) step in
      let changed = has_table path table w store' n' in
      record {
        agree = λ q. agrees_after path table store store' w.arrays after.arrays changed (λ r h e. (tables r h e).2) q (array_at arrays q) (k.agree q);
        distinct = distinct_after path table store' w.arrays after.arrays changed k.distinct;
        store = refl;
        refused = refl;
      }

-- ---- chunks of one array

abbrev pub table_written : Held → Write → List (List ℕ) → Table
table_written h write chunks = updated h.document.elements.fill h.table (changes_in h.document.grid chunks (changes write.region write.cells))

pub written : (h : Held) (write : Write) (chunks : List (List ℕ)) (w : World) (store : StoreMap) (n : ℕ) → WroteChunks write chunks w.store store
    → WritesChunks h write chunks w (world_after h.path (table_written h write chunks) w store n)
written h write chunks w store n wrote = record {
  table = table_written h write chunks;
  is = refl;
  updates = has_table h.path (table_written h write chunks) w store n;
  stores = wrote;
}

abbrev pub table_erased : Held → List (List ℕ) → Table
table_erased h chunks = updated h.document.elements.fill h.table (fills h.document.grid h.document.elements.fill chunks)

pub erased : (h : Held) (chunks : List (List ℕ)) (w : World) (store : StoreMap) (n : ℕ) → ErasedChunks h.path h.document chunks w.store store
    → ErasesChunks h chunks w (world_after h.path (table_erased h chunks) w store n)
erased h chunks w store n gone = record {
  table = table_erased h chunks;
  is = refl;
  updates = has_table h.path (table_erased h chunks) w store n;
  stores = gone;
}
