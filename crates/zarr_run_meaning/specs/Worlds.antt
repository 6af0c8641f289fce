-- The arrays that a session holds, each with its table, and the store that they are in.
use Rattle.std.specs.Prelude.{◌≡◌, ℕ, List, [], ◌∷◌, bytes_eq, Bool, true, false, ◌||◌, MatchBool, if◌then◌else◌, Option, Some, None}
use Rattle.std.specs.List.{list_any}
use Rattle.serde_json.specs.Data.{Data}
use Rattle.zarr_grids_keys.specs.Related.{is_related}
use Rattle.zarr_codecs_meaning.specs.Fits.{is_plain}
use Rattle.zarr_codecs_options.specs.declared.subchunk_write_order.SubchunkWriteOrder.{SubchunkWriteOrder}
use Rattle.zarr_codecs_options.specs.declared.subchunk_write_order.SubchunkWriteOrder.TheVariants.{C}
use Rattle.zarr_array_meaning.specs.Arrays.{Array}
use Rattle.zarr_array_meaning.specs.Documents.{Document}
use Rattle.zarr_array_meaning.specs.Standing.{IsLossless, ShowsOnly}
use Rattle.zarr_array_meaning.specs.StoreMaps.{StoreMap}
use Rattle.zarr_run_meaning.specs.Tables.{Table, cell}

-- an array that is held: its path, the tree of its document and what that says, its write order and its table
pub record Held : Type 0 where
  pub path : List ℕ
  pub tree : Data
  pub document : Document
  pub order : SubchunkWriteOrder
  pub table : Table

-- the arrays that are held, what their store holds, and how many of its calls it has refused
pub record World : Type 0 where
  pub arrays : List Held
  pub store : StoreMap
  pub refused : ℕ

-- whether subchunks are written row-major
abbrev pub is_row_major : SubchunkWriteOrder → Bool
is_row_major C = true
is_row_major order = false

-- whether a chunk's value depends on its cells alone: the chain makes no shard, or the subchunks of its shards are written row-major
abbrev pub writes_exactly : Held → Bool
writes_exactly h = is_plain h.document.chain || is_row_major h.order

-- an array that is held, in its store
abbrev pub array_of : Held → Array
array_of h = record { path = h.path; document = h.document; exact = writes_exactly h }

-- the array that is held at a path, if there is one
abbrev pub held_at : List ℕ → List Held → Option Held
held_at path [] = None
held_at path (h ∷ hs) = if bytes_eq path h.path then Some h else held_at path hs

-- whether a path is related to that of an array that is held: they are equal, or one is under the other
abbrev pub is_taken : List ℕ → List Held → Bool
is_taken path arrays = list_any (λ h. is_related path h.path) arrays

-- the arrays with another write order at a path
abbrev pub with_order : List ℕ → SubchunkWriteOrder → List Held → List Held
with_order path order [] = []
with_order path order (h ∷ hs) = if bytes_eq path h.path then record h { order = order } ∷ hs else h ∷ with_order path order hs

-- whatever cell a store shows for an array is its table's, where the chain keeps every bit
abbrev pub IsTableAt : List ℕ → Document → StoreMap → Table → Type 0
IsTableAt path document store table = IsLossless document → ShowsOnly path document store (cell document.elements.fill table)

-- one array before and after a command that gives the array at a path another table: an array at an unrelated path stays as it was. One at a related path may share keys, so its table is one of what is stored then
abbrev pub StaysBut : List ℕ → Table → StoreMap → Held → Held → Type 0
StaysBut path table store old new =
    MatchBool (bytes_eq path old.path) (new ≡ record old { table = table })
    (MatchBool (is_related path old.path) ((new ≡ record old { table = new.table }) × IsTableAt old.path old.document store new.table) (new ≡ old))

-- the arrays before and after a command that gives the array at a path another table
abbrev pub WithTable : List ℕ → Table → StoreMap → List Held → List Held → Type 0
WithTable path table store [] [] = Unit {0}
WithTable path table store [] (new ∷ news) = ⊥
WithTable path table store (old ∷ olds) [] = ⊥
WithTable path table store (old ∷ olds) (new ∷ news) = StaysBut path table store old new × WithTable path table store olds news
