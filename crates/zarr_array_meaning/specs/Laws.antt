-- Laws of written documents.
use Rattle.std.specs.Prelude.{◌≡◌, ℕ, ◌≤◌, List, codes, bytes_eq, true, false, Some, Ok}
use Rattle.serde_json.specs.Data.{Data, object, Members, depth}
use Rattle.serde_json.specs.Find.{get_member}
use Rattle.serde_json.specs.Written.{has_float}
use Rattle.zarr_codecs_metadata.specs.Chains.{ReadsCodecs}
use Rattle.zarr_array_meaning.specs.Documents.{Document, Metadata, depth_limit, read_metadata, read_document}
use Rattle.zarr_array_v2.specs.Conversion.{separator_of, to_v3}
use Rattle.zarr_array_v2.specs.Versions.{has_version_2, is_version_2}
use Rattle.zarr_array_meaning.specs.StoreMaps.{StoreMap}
use Rattle.zarr_array_meaning.specs.Texts.{HasDocument, StoresDocument}
use Rattle.zarr_array_meaning.specs.Written.{marked, given_attributes, with_mark, written_document}

-- the document that is written for one that opens says what that one says, and has the mark
abbrev pub MetadataReadsBack : Type 0
MetadataReadsBack = (reads : ReadsCodecs) (d : Data) (metadata : Metadata) → read_metadata reads d ≡ Ok metadata → read_metadata reads (written_document d) ≡ Ok (with_mark metadata)

-- so it says the same of cells and of where they are stored
abbrev pub DocumentReadsBack : Type 0
DocumentReadsBack = (reads : ReadsCodecs) (d : Data) (document : Document) → read_document reads d ≡ Ok document → read_document reads (written_document d) ≡ Ok document

-- what is written for a written document is that document, whether or not it opens
abbrev pub WrittenOnce : Type 0
WrittenOnce = (d : Data) → written_document (written_document d) ≡ written_document d

-- ---- version 2

-- the document that is written has the version of the given one
abbrev pub KeepsVersion : Type 0
KeepsVersion = (d : Data) → is_version_2 (written_document d) ≡ is_version_2 d

-- what is written has each of these members as it is given, also one that isn't known, but for the attributes, which get the mark, and for the separator, which is a dot where none is given
pub record KeepsMembers (ms written : Members) : Type 0 where
  pub attributes : get_member (codes "attributes") written ≡ Some (object (marked (given_attributes ms)))
  pub separator : get_member (codes "dimension_separator") written ≡ Some (separator_of (get_member (codes "dimension_separator") ms))
  pub others : (name : List ℕ) → bytes_eq name (codes "attributes") ≡ false → bytes_eq name (codes "dimension_separator") ≡ false → get_member name written ≡ get_member name ms

-- the document that is written for one of version 2 keeps its members
abbrev pub KeepsGiven : Type 0
KeepsGiven = (ms written : Members) → has_version_2 ms ≡ true → written_document (object ms) ≡ object written → KeepsMembers ms written

-- the version 3 document that a document of version 2 is converted to says what it says, where no number of it is a float, and neither of them nests too deep: the converted one may nest two levels deeper
abbrev pub ConvertedSaysSame : Type 0
ConvertedSaysSame = (reads : ReadsCodecs) (ms converted : Members) → has_version_2 ms ≡ true → to_v3 ms ≡ Some converted → has_float (object ms) ≡ false
    → depth (object ms) ≤ depth_limit → depth (object converted) ≤ depth_limit → read_metadata reads (object converted) ≡ read_metadata reads (object ms)

-- ---- stored documents

-- a written document that was stored at a path, under the keys of its version, is read from there again
abbrev pub StoredReadsBack : Type 0
StoredReadsBack = (path : List ℕ) (d : Data) (old new : StoreMap) → StoresDocument path (written_document d) old new → HasDocument path (written_document d) new

-- of one version a path has no more than one document
abbrev pub HasOneDocument : Type 0
HasOneDocument = (path : List ℕ) (a b : Data) (store : StoreMap) → is_version_2 a ≡ is_version_2 b → HasDocument path a store → HasDocument path b store → a ≡ b
