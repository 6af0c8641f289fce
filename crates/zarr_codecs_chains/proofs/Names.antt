-- The names that codecs keep.
use Rattle.std.proofs.Common.{◌≡◌, List, [], ◌∷◌, length, drop, take, map, subst}
use Rattle.zarr_grids_metadata.specs.ExtensionPoints.{ExtensionPoint}
use Rattle.zarr_grids_metadata.specs.Views.{point_view}
use Rattle.zarr_grids_metadata.specs.declared.extension_point.ExtensionPoint as lent
use Rattle.zarr_codecs_array_to_array.specs.Names.{written_codec}
use Rattle.zarr_codecs_array_to_array.specs.declared.codec.ArrayToArrayCodec.{ArrayToArrayCodec}
use Rattle.zarr_codecs_chains.specs.Names.{NameAll}

-- the metadata that array codecs were read from names them, and the rest the codec after them
pub names_split : (codecs : List ArrayToArrayCodec) (names_codec : ExtensionPoint → Type 0) (metadatas rest : List lent.ExtensionPoint)
    → map (λ (c : ArrayToArrayCodec). (written_codec c).name) codecs ≡ map (λ (m : lent.ExtensionPoint). (point_view m).name) (take (length codecs) metadatas) → rest ≡ drop (length codecs) metadatas
    → NameAll [] names_codec (map point_view rest) → NameAll codecs names_codec (map point_view metadatas)
names_split codecs names_codec metadatas rest same is found = go codecs metadatas same (subst (λ (ps : List lent.ExtensionPoint). NameAll [] names_codec (map point_view ps)) is found) where
  go : (codecs : List ArrayToArrayCodec) (metadatas : List lent.ExtensionPoint) → map (λ (c : ArrayToArrayCodec). (written_codec c).name) codecs ≡ map (λ (m : lent.ExtensionPoint). (point_view m).name) (take (length codecs) metadatas)
      → NameAll [] names_codec (map point_view (drop (length codecs) metadatas)) → NameAll codecs names_codec (map point_view metadatas)
  go [] metadatas same found = found
  go (codec ∷ codecs) [] same found = absurd found
  go (codec ∷ codecs) (metadata ∷ metadatas) same found =
      let one : (written_codec codec).name ≡ (point_view metadata).name = cc in
      let rest : map (λ (c : ArrayToArrayCodec). (written_codec c).name) codecs ≡ map (λ (m : lent.ExtensionPoint). (point_view m).name) (take (length codecs) metadatas) = cc in
      (one, go codecs metadatas rest found)
