use Rattle.std.proofs.Common.{◌≡◌, List, ℕ, length}
use Rattle.zarr_codecs_arrays.specs.Views.{elements_of}
use Rattle.zarr_codecs_meaning.specs.Types.{Cell}
use Rattle.zarr_codecs_traits.specs.Indexers.{listed}
use Rattle.zarr_sharding_places.specs.Placed.{Shows}
use Rattle.zarr_sharding_codec.specs.Pieces.{AreDecoded, AreRead, AskedPart, CanBeAsked}
use Rattle.zarr_sharding_codec.proofs.PartFound.{FoundSoFar}
use Rattle.zarr_sharding_codec.proofs.cut_parts.put_listed.Given as goal

-- the elements of the first slices were put over the fill
abbrev pub invariant-loop-j : goal.invariant-loop-j
invariant-loop-j l = record {
  shown : (numbers : List ℕ) → length numbers ≡ l.count → (part : AskedPart) («data» : List ℕ) → part.array.elements ≡ elements_of l.elements → part.asked ≡ listed numbers → CanBeAsked part → AreRead part «data» l.slices → AreDecoded part.array «data» l.slices l.found
      → FoundSoFar (λ (cells : List Cell). Shows part.array.elements l.all cells) part l.slices l.j;
}
