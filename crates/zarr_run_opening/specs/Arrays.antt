-- Arrays that are held at paths related to a path, those that stay, and those that get another write order.
use Rattle.std.specs.Prelude.{◌≡◌, ◌≢◌, ℕ, List, false, IsTrue, Some}
use Rattle.zarr_grids_keys.specs.Paths.{is_node_path}
use Rattle.zarr_grids_keys.specs.Related.{is_under, is_related}
use Rattle.zarr_codecs_meaning.specs.Chains.{ByteCodec}
use Rattle.zarr_codecs_options.specs.declared.subchunk_write_order.SubchunkWriteOrder.{SubchunkWriteOrder}
use Rattle.zarr_array_core.specs.Views.{path_of}
use Rattle.zarr_run_opening.specs.Sessions.{Arrays, array_at, document_of, FollowsOrder}
use Rattle.zarr_run_opening.specs.declared.held.HeldArray.{HeldArray}

-- an array is held at a path that is related to this one
pub record IsTakenIn {B : Type 0} (arrays : Arrays B) (path : List ℕ) : Type 0 where
  pub other : List ℕ
  pub array : HeldArray B
  pub found : array_at arrays other ≡ Some array
  pub related : IsTrue (is_related path other)

-- no array is held at a node path that is related to this one
abbrev pub IsFreeIn : {B : Type 0} → Arrays B → List ℕ → Type 0
IsFreeIn {B} arrays path = (other : List ℕ) (array : HeldArray B) → IsTrue (is_node_path other) → array_at arrays other ≡ Some array → is_related path other ≡ false

-- no array is held at a node path above this one
abbrev pub IsFreeAbove : {B : Type 0} → Arrays B → List ℕ → Type 0
IsFreeAbove {B} arrays path = (other : List ℕ) (array : HeldArray B) → IsTrue (is_node_path other) → array_at arrays other ≡ Some array → is_under other path ≡ false

-- no array is held at a path under this one
abbrev pub IsFreeUnder : {B : Type 0} → Arrays B → List ℕ → Type 0
IsFreeUnder {B} arrays path = (other : List ℕ) (array : HeldArray B) → array_at arrays other ≡ Some array → is_under path other ≡ false

-- the arrays at all paths but one stay
abbrev pub KeepsOtherArrays : {B : Type 0} → List ℕ → Arrays B → Arrays B → Type 0
KeepsOtherArrays path old new = (other : List ℕ) → other ≢ path → array_at new other ≡ array_at old other

-- the arrays at all paths stay
abbrev pub KeepsArrays : {B : Type 0} → Arrays B → Arrays B → Type 0
KeepsArrays old new = (path : List ℕ) → array_at new path ≡ array_at old path

-- an array with another write order, which its codecs follow: its path, its tree and what its document says are as before
pub record IsReordered {B : Type 0} (meaning : B → ByteCodec) (order : SubchunkWriteOrder) (old new : HeldArray B) : Type 0 where
  pub path : path_of new.core ≡ path_of old.core
  pub tree : new.tree ≡ old.tree
  pub document : document_of meaning new ≡ document_of meaning old
  pub order_is : new.order ≡ order
  pub exact : FollowsOrder meaning order new.core

-- an array is held at a path with another write order
abbrev pub IsReorderedAt : {B : Type 0} → (B → ByteCodec) → SubchunkWriteOrder → HeldArray B → Arrays B → List ℕ → Type 0
IsReorderedAt {B} meaning order array arrays path = (new : HeldArray B) × (array_at arrays path ≡ Some new) × IsReordered meaning order array new
