-- The names and the store keys of documents.
use Rattle.std.specs.Prelude.{ℕ, List, codes}
use Rattle.zarr_grids_keys.specs.declared.document_name.DocumentName.{DocumentName}
use Rattle.zarr_grids_keys.specs.declared.document_name.DocumentName.TheVariants.{ZarrJson, ZArray, ZAttrs}
use Rattle.zarr_grids_keys.specs.Keys.{key_under}

-- the name of a document
abbrev pub document_name : DocumentName → List ℕ
document_name ZarrJson = codes "zarr.json"
document_name ZArray = codes ".zarray"
document_name ZAttrs = codes ".zattrs"

-- the store key of a document of the node at a path (Zarr core: the document of `/a/b` stands under a/b/zarr.json, that of `/` under zarr.json)
abbrev pub document_key : List ℕ → DocumentName → List ℕ
document_key path name = key_under path (document_name name)
