-- What was found of a chunk, put over the cells of a box that meets it.
use Rattle.std.proofs.Common.{◌≡◌, List, ℕ, refl, subst, true, Option, Some}
use Rattle.zarr_grids_boxes.specs.Boxes.{Region}
use Rattle.zarr_grids_boxes.specs.Cuts.{relative}
use Rattle.zarr_grids_boxes.specs.Subsets.{region_of}
use Rattle.zarr_grids_chunks.specs.Grids.{IsInGrid, intersects}
use Rattle.zarr_array_meaning.specs.Documents.{Document}
use Rattle.zarr_array_elements.proofs.Meeting.{IsMeeting, shares_own}
use Rattle.zarr_array_core.specs.Fetching.{AreOfChunk}
use Rattle.zarr_array_core.specs.Parts.{AreShared}
use Rattle.zarr_array_core.specs.declared.chunk_reading.ChunkPart.{ChunkPart}
use Rattle.zarr_array_core.proofs.Placed.{meets, same_box}

-- a part's places are those that a chunk shares with a box
pub record SharesPlaces (document : Document) (region : Region) (chunk : List ℕ) (part : ChunkPart) : Type 0 where
  pub box : Region
  pub below : IsInGrid document.grid chunk box
  pub shared : AreShared document.elements.type region box part
  pub meet : IsMeeting region box (region_of part.shared) (relative (region_of part.shared) box.start)
  pub at_ : (other : Region) → IsInGrid document.grid chunk other → IsMeeting region other (region_of part.shared) (relative (region_of part.shared) other.start)

pub shares_places : (document : Document) (region : Region) (found : Option ChunkPart) (part : ChunkPart) → found ≡ Some part → (met : (chunk : List ℕ) × (intersects document.grid region chunk ≡ true) × AreOfChunk document region chunk found) → SharesPlaces document region met.0 part
shares_places document region found part e met =
    let is = subst (λ (o : Option ChunkPart). AreOfChunk document region met.0 o) e met.2 in
    let shared : Region = region_of part.shared in
    let meet = meets region is.0 shared (relative shared is.0.start) (shares_own document.grid met.0 region is.0 is.1.has_box met.1) is.2.places refl in
    record {
      box = is.0;
      below = is.1;
      shared = is.2;
      meet = meet;
      at_ = λ other below. subst (λ (b : Region). IsMeeting region b shared (relative shared b.start)) (same_box document.grid met.0 is.0 other is.1 below) meet;
    }
