-- Documents as they are stored: of version 3 under `zarr.json`; of version 2 in two parts, the attributes under `.zattrs` and all else under `.zarray`.
use Rattle.std.specs.Prelude.{◌≡◌, ℕ, List, Option, Some, None, IsUtf8, MatchBool, true, if◌then◌else◌}
use Rattle.std.specs.FinMap.{get, insert}
use Rattle.json.specs.Layout.{pretty}
use Rattle.json.specs.Lex.{tokens}
use Rattle.serde_json.specs.Data.{Data, object, Members}
use Rattle.serde_json.specs.Read.{read}
use Rattle.serde_json.specs.Written.{IsInOrder}
use Rattle.zarr_grids_keys.specs.Documents.{document_key}
use Rattle.zarr_grids_keys.specs.declared.document_name.DocumentName.TheVariants.{ZarrJson, ZArray, ZAttrs}
use Rattle.zarr_array_v2.specs.Attributes.{attributes_of, without_attributes, with_attributes}
use Rattle.zarr_array_v2.specs.Versions.{is_version_2}
use Rattle.zarr_array_meaning.specs.StoreMaps.{StoreMap}

-- the text of a tree as it is stored (this project's profile): in pretty layout, the members in the order of their names, which is the tree's
pub record IsTextOf (tree : Data) (text : List ℕ) : Type 0 where
  pub utf8 : IsUtf8 text
  pub reads : read text ≡ Some tree
  pub layout : text ≡ pretty (tokens text)
  pub order : IsInOrder text tree

-- ---- what is stored

-- under a key stands a text that reads as a tree
pub record HasTree (key : List ℕ) (tree : Data) (store : StoreMap) : Type 0 where
  pub text : List ℕ
  pub found : get store key ≡ Some text
  pub utf8 : IsUtf8 text
  pub reads : read text ≡ Some tree

-- under the key of a path's attributes stands a text that reads as a tree, or nothing
abbrev pub HasAttributes : List ℕ → Option Data → StoreMap → Type 0
HasAttributes path None store = get store (document_key path ZAttrs) ≡ None
HasAttributes path (Some attributes) store = HasTree (document_key path ZAttrs) attributes store

-- the parts of a document of version 2 stand under their keys: what `.zarray` holds, with the attributes that `.zattrs` holds in place of its own
pub record HasParts (path : List ℕ) (tree : Data) (store : StoreMap) : Type 0 where
  pub members : Members
  pub attributes : Option Data
  pub zarray : HasTree (document_key path ZArray) (object members) store
  pub zattrs : HasAttributes path attributes store
  pub is : tree ≡ object (with_attributes attributes members)

-- a document is stored at a path, under the keys of its version
abbrev pub HasDocument : List ℕ → Data → StoreMap → Type 0
HasDocument path tree store = MatchBool (is_version_2 tree) (HasParts path tree store) (HasTree (document_key path ZarrJson) tree store)

-- the key by which a document of this version is found at a path
abbrev pub version_key : List ℕ → Data → List ℕ
version_key path tree = document_key path (if is_version_2 tree then ZArray else ZarrJson)

-- no document of an array, of Zarr version 3 or 2, is stored at a path
pub record HasNoDocument (path : List ℕ) (store : StoreMap) : Type 0 where
  pub zarr_json : get store (document_key path ZarrJson) ≡ None
  pub zarray : get store (document_key path ZArray) ≡ None

-- ---- what is written

-- the text of a tree was stored under a key, and no other key changed
pub record StoresTree (key : List ℕ) (tree : Data) (old new : StoreMap) : Type 0 where
  pub text : List ℕ
  pub writes : IsTextOf tree text
  pub stores : new ≡ insert old key text

-- a document of version 2 was stored in its parts: the attributes, an empty object where it has none, and then all else
pub record StoresParts (path : List ℕ) (tree : Data) (old new : StoreMap) : Type 0 where
  pub members : Members
  pub is : tree ≡ object members
  pub between : StoreMap
  pub attributes : StoresTree (document_key path ZAttrs) (attributes_of members) old between
  pub zarray : StoresTree (document_key path ZArray) (object (without_attributes members)) between new

-- of a document of version 2 the attributes alone were stored
pub record StoresAttributes (path : List ℕ) (tree : Data) (old new : StoreMap) : Type 0 where
  pub older : is_version_2 tree ≡ true
  pub members : Members
  pub is : tree ≡ object members
  pub attributes : StoresTree (document_key path ZAttrs) (attributes_of members) old new

-- a document was stored at a path, under the keys of its version, and no other key changed
abbrev pub StoresDocument : List ℕ → Data → StoreMap → StoreMap → Type 0
StoresDocument path tree old new = MatchBool (is_version_2 tree) (StoresParts path tree old new) (StoresTree (document_key path ZarrJson) tree old new)
