-- Copies are written as what they are copies of.
use Rattle.std.proofs.Common.{◌≡◌, List, [], ◌∷◌, map, refl}
use Rattle.zarr_grids_metadata.specs.ExtensionPoints.{ExtensionPoint}
use Rattle.zarr_codecs_meaning.specs.Chains.{ByteCodec}
use Rattle.zarr_codecs_around.specs.Copies.{WritesAlike}

-- the caller's codecs that do the same, in their order, are written as the same extension points
pub described_alike : {B : Type 0} (meaning : B → ByteCodec) (described : B → ExtensionPoint) → WritesAlike meaning described
    → (copies codecs : List B) → map meaning copies ≡ map meaning codecs → map described copies ≡ map described codecs
described_alike meaning described alike [] [] e = refl
described_alike meaning described alike [] (codec ∷ codecs) e = absurd (cc)
described_alike meaning described alike (copy ∷ copies) [] e = absurd (cc)
described_alike meaning described alike (copy ∷ copies) (codec ∷ codecs) e =
    let first : meaning copy ≡ meaning codec = cc in
    let others : map meaning copies ≡ map meaning codecs = cc in
    cc (alike copy codec first, described_alike meaning described alike copies codecs others)
