use Rattle.std.proofs.Common.{◌≡◌, List, ℕ}
use Rattle.zarr_codecs_arrays.specs.Views.{elements_of}
use Rattle.zarr_codecs_meaning.specs.Types.{Cell}
use Rattle.zarr_codecs_traits.specs.Indexers.{in_box}
use Rattle.zarr_grids_boxes.specs.Subsets.{region_of}
use Rattle.zarr_sharding_places.specs.Boxed.{ShowsBoxes}
use Rattle.zarr_sharding_codec.specs.Pieces.{AreDecoded, AreRead, AskedPart, CanBeAsked}
use Rattle.zarr_sharding_codec.proofs.PartFound.{FoundSoFar}
use Rattle.zarr_sharding_codec.proofs.cut_parts.put_boxes.Given as goal

-- the elements of the first slices were put over the fill
abbrev pub invariant-loop-j : goal.invariant-loop-j
invariant-loop-j l = record {
  shown : (part : AskedPart) («data» : List ℕ) → part.array.elements ≡ elements_of l.elements → part.asked ≡ in_box (region_of l.region) → CanBeAsked part → AreRead part «data» l.slices → AreDecoded part.array «data» l.slices l.found
      → FoundSoFar (λ (cells : List Cell). ShowsBoxes part.array.elements l.all cells) part l.slices l.j;
}
