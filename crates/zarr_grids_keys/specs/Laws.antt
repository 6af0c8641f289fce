-- Laws of store keys and of related paths.
use Rattle.std.specs.Prelude.{◌≡◌, ◌≢◌, ◌↔◌, ℕ, List, ◌∷◌, ◌++◌, length, codes, bytes_eq, false, ◌||◌, IsTrue, MatchOption}
use Rattle.std.specs.BTreeMap.Range.{IsInRange}
use Rattle.std.specs.Cmp.Lexicographic.{slice_cmp}
use Rattle.std.specs.declared.ops.Bound.TheVariants.{Included, Excluded}
use Rattle.std.specs.Ordering.{nat_cmp}
use Rattle.zarr_grids_boxes.specs.Boxes.{IsSmall}
use Rattle.zarr_grids_keys.specs.declared.document_name.DocumentName.{DocumentName}
use Rattle.zarr_grids_keys.specs.Documents.{document_key}
use Rattle.zarr_grids_keys.specs.Keys.{KeyEncoding, key_under, chunk_key, is_v2, has_separator, has_flat_suffix}
use Rattle.zarr_grids_keys.specs.Paths.{is_node_path}
use Rattle.zarr_grids_keys.specs.Related.{is_under, is_related, parent_path, IsReached}

-- chunks of one array whose keys are equal are equal, where they have as many dimensions
abbrev pub KeysDiffer : Type 0
KeysDiffer = (path : List ℕ) (keys : KeyEncoding) (c d : List ℕ) → IsTrue (has_separator keys) → length c ≡ length d → IsSmall c → IsSmall d → chunk_key path keys c ≡ chunk_key path keys d → c ≡ d

-- chunks whose keys under one path are equal are equal, whatever their numbers of dimensions are, where the encoding is not `v2`
abbrev pub DefaultKeysDiffer : Type 0
DefaultKeysDiffer = (path : List ℕ) (keys : KeyEncoding) (c d : List ℕ) → is_v2 keys ≡ false → IsTrue (has_separator keys) → IsSmall c → IsSmall d → chunk_key path keys c ≡ chunk_key path keys d → c ≡ d

-- no matter what the names are, the store keys under two unrelated node paths differ
abbrev pub UnrelatedKeysDiffer : Type 0
UnrelatedKeysDiffer = (p q x y : List ℕ) → IsTrue (is_node_path p) → IsTrue (is_node_path q) → is_related p q ≡ false → key_under p x ≡ key_under q y → ⊥

-- no key of a chunk of an array is the key of a document of any node, where the suffix of the keys holds no slash
abbrev pub ChunksAreNoDocuments : Type 0
ChunksAreNoDocuments = (p q : List ℕ) (keys : KeyEncoding) (chunk : List ℕ) (name : DocumentName) → IsTrue (has_flat_suffix keys) → IsTrue (has_separator keys) → chunk_key p keys chunk ≡ document_key q name → ⊥

-- a key of a chunk that is the key of a document has a suffix with a slash, and the node of the document is under the array
abbrev pub OnlyDocumentsUnder : Type 0
OnlyDocumentsUnder = (p q : List ℕ) (keys : KeyEncoding) (chunk : List ℕ) (name : DocumentName) → IsTrue (is_node_path p) → IsTrue (is_node_path q) → IsTrue (has_separator keys) → chunk_key p keys chunk ≡ document_key q name
    → IsTrue (is_under p q) × (has_flat_suffix keys ≡ false)

-- whatever the suffix is, no key of a chunk of an array is the key of a document of that array
abbrev pub NoChunkIsOwnDocument : Type 0
NoChunkIsOwnDocument = (path : List ℕ) (keys : KeyEncoding) (chunk : List ℕ) (name : DocumentName) → chunk_key path keys chunk ≡ document_key path name → ⊥

-- documents whose keys are equal are the same document of one node
abbrev pub DocumentKeysDiffer : Type 0
DocumentKeysDiffer = (p q : List ℕ) (name other : DocumentName) → IsTrue (is_node_path p) → IsTrue (is_node_path q) → document_key p name ≡ document_key q other → (p ≡ q) × (name ≡ other)

-- whether two paths are related doesn't depend on which comes first
abbrev pub RelatedIsSymmetric : Type 0
RelatedIsSymmetric = (p q : List ℕ) → is_related p q ≡ is_related q p

-- each path is related to itself
abbrev pub RelatedIsReflexive : Type 0
RelatedIsReflexive = (p : List ℕ) → IsTrue (is_related p p)

-- what is related to a node path is related to each node path above that
abbrev pub RelatedAbove : Type 0
RelatedAbove = (p q r : List ℕ) → IsTrue (is_node_path p) → IsTrue (is_node_path q) → IsTrue (is_node_path r) → IsTrue (is_under p q) → IsTrue (is_related q r) → IsTrue (is_related p r)

-- a node path under one that is under another is under that other
abbrev pub UnderIsTransitive : Type 0
UnderIsTransitive = (p q r : List ℕ) → IsTrue (is_node_path p) → IsTrue (is_node_path q) → IsTrue (is_node_path r) → IsTrue (is_under p q) → IsTrue (is_under q r) → IsTrue (is_under p r)

-- no node path is under itself
abbrev pub UnderIsStrict : Type 0
UnderIsStrict = (p : List ℕ) → IsTrue (is_node_path p) → is_under p p ≡ false

-- what is under a path other than `/` begins with that path and a slash, and all that begins so is under it
abbrev pub UnderBeginsWithPath : Type 0
UnderBeginsWithPath = (p q : List ℕ) → p ≢ codes "/" → IsTrue (is_under p q) ↔ ((rest : List ℕ) × (q ≡ p ++ 47 ∷ rest))

-- in the order of bytes, what is under a path other than `/` stands from the path and a slash up to the path and a 0, the byte after the slash, and nothing else stands there
abbrev pub UnderIsRange : Type 0
UnderIsRange = (p q : List ℕ) → p ≢ codes "/" → IsTrue (is_under p q) ↔ IsInRange (slice_cmp nat_cmp) (Included (p ++ codes "/")) (Excluded (p ++ codes "0")) q

-- above a node path are its parent and what is above that, and nothing is above `/`
abbrev pub AboveByParent : Type 0
AboveByParent = (path above : List ℕ) → IsTrue (is_node_path path) → IsTrue (is_node_path above) → MatchOption (parent_path path) (is_under above path ≡ false) (λ parent. is_under above path ≡ (bytes_eq above parent || is_under above parent))

-- the node paths above another are those that its parent, the parent of that, and so on, reach
abbrev pub AboveIsReached : Type 0
AboveIsReached = (path above : List ℕ) → IsTrue (is_node_path path) → IsTrue (is_node_path above) → IsTrue (is_under above path) ↔ IsReached above path
