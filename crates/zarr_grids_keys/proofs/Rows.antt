-- Worked paths and keys: what the definitions say of them, by computation.
use Rattle.std.proofs.Common.{◌≡◌, true, false, codes, None, Some, refl}
use Rattle.zarr_grids_keys.specs.declared.document_name.DocumentName.TheVariants.{ZarrJson, ZArray, ZAttrs}
use Rattle.zarr_grids_keys.specs.Documents.{document_key}
use Rattle.zarr_grids_keys.specs.Related.{is_under, is_related, parent_path}

pub child_under : is_under (codes "/a") (codes "/a/b") ≡ true
child_under = refl

pub deep_under : is_under (codes "/a") (codes "/a/b/c") ≡ true
deep_under = refl

pub all_under_root : is_under (codes "/") (codes "/ab") ≡ true
all_under_root = refl

pub root_not_under_root : is_under (codes "/") (codes "/") ≡ false
root_not_under_root = refl

pub root_under_none : is_under (codes "/a") (codes "/") ≡ false
root_under_none = refl

pub same_not_under : is_under (codes "/a") (codes "/a") ≡ false
same_not_under = refl

-- a longer name is another name
pub name_continued : is_under (codes "/a") (codes "/ab") ≡ false
name_continued = refl

pub above_related : is_related (codes "/a/b") (codes "/a") ≡ true
above_related = refl

pub same_related : is_related (codes "/a") (codes "/a") ≡ true
same_related = refl

pub root_related : is_related (codes "/a/b") (codes "/") ≡ true
root_related = refl

pub name_continued_unrelated : is_related (codes "/a") (codes "/ab") ≡ false
name_continued_unrelated = refl

pub siblings_unrelated : is_related (codes "/a/b") (codes "/a/c") ≡ false
siblings_unrelated = refl

pub parent_of_root : parent_path (codes "/") ≡ None
parent_of_root = refl

pub parent_under_root : parent_path (codes "/ab") ≡ Some (codes "/")
parent_under_root = refl

pub parent_of_deep : parent_path (codes "/ab/c/de") ≡ Some (codes "/ab/c")
parent_of_deep = refl

pub document_at_root : document_key (codes "/") ZarrJson ≡ codes "zarr.json"
document_at_root = refl

pub document_under_path : document_key (codes "/a/b") ZarrJson ≡ codes "a/b/zarr.json"
document_under_path = refl

pub array_of_version_2 : document_key (codes "/a") ZArray ≡ codes "a/.zarray"
array_of_version_2 = refl

pub attributes_of_version_2 : document_key (codes "/a") ZAttrs ≡ codes "a/.zattrs"
attributes_of_version_2 = refl
