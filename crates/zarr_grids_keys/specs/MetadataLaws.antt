-- Laws of the metadata of chunk key encodings.
use Rattle.std.specs.Prelude.{◌≡◌, IsTrue, Some, Ok}
use Rattle.zarr_grids_metadata.specs.ExtensionPoints.{ExtensionPoint, written_point}
use Rattle.zarr_grids_keys.specs.Keys.{KeyEncoding}
use Rattle.zarr_grids_keys.specs.EncodingMetadata.{keys_made, keys_in, point_of_keys, is_encoding}

-- of the metadata of an encoding that encoding is made
abbrev pub KeysReadBack : Type 0
KeysReadBack = (keys : KeyEncoding) → IsTrue (is_encoding keys) → keys_made (point_of_keys keys) ≡ Ok keys

-- what is made of metadata is an encoding, so that its own metadata makes it again
abbrev pub MadeReadBack : Type 0
MadeReadBack = (point : ExtensionPoint) (keys : KeyEncoding) → keys_made point ≡ Ok keys → keys_made (point_of_keys keys) ≡ Ok keys

-- the JSON that is written for an encoding says that encoding
abbrev pub WrittenKeysReadBack : Type 0
WrittenKeysReadBack = (keys : KeyEncoding) → IsTrue (is_encoding keys) → keys_in (written_point (point_of_keys keys)) ≡ Some keys
