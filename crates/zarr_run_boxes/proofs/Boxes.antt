-- Boxes that commands mean: the chunks that they intersect, and whether they are too large.
use Rattle.std.proofs.Common.{◌≡◌, ◌∙◌, ℕ, bytes_eq, ◌*◌, ◌<◌, ◌≤◌, ◌^◌, true, false, List, [], length, Option, Some, None, sym, ap, subst, arith, inl, inr}
use Rattle.std.specs.Prelude.{MatchOption, Result, Ok, Err, IfOk}
use Rattle.std.specs.Option.{option_map_or}
use Rattle.std.specs.List.{list_any}
use Rattle.zarr_grids_boxes.specs.Boxes.{Region, product, place_at, is_in_box, share_place}
use Rattle.zarr_grids_boxes.proofs.InBox.{in_box-place_at}
use Rattle.zarr_grids_boxes.proofs.Places.{places_by_number}
use Rattle.zarr_grids_boxes.proofs.Sharing.{share_place-has}
use Rattle.zarr_grids_chunks.specs.Grids.{Grid, IsInGrid, IsCovered, intersects, chunk_indices}
use Rattle.zarr_grids_chunks.proofs.Filters.{filter-any}
use Rattle.zarr_grids_chunks.proofs.Partition.{any_places}
use Rattle.zarr_grids_dimensions.proofs.Intersecting.{lies_in_interval_some}
use Rattle.zarr_grids_cover.specs.Intersecting.{AreIntersecting}
use Rattle.zarr_grids_cover.specs.Sizes.{HasChunkOf}
use Rattle.zarr_grids_cover.proofs.ChunkLaws.{IsInGrid-covered}
use Rattle.zarr_codecs_meaning.specs.Types.{DataType, byte_width, IsTooLarge}
use Rattle.zarr_codecs_meaning.specs.Payloads.{Payload, cells_in}
use Rattle.zarr_codecs_arrays.specs.Views.{payload_of}
use Rattle.zarr_codecs_arrays.specs.declared.array_bytes.ArrayBytes.{ArrayBytes}
use Rattle.zarr_array_core.proofs.Listed.{intersecting_listed, listed_number}
use Rattle.zarr_array_core.specs.Outcomes.{IsSmall}
use Rattle.zarr_array_meaning.specs.Chunks.{is_listed}
use Rattle.zarr_array_meaning.specs.Documents.{Document}
use Rattle.zarr_array_meaning.specs.StoreMaps.{StoreMap}
use Rattle.zarr_run_meaning.specs.Causes.{HasTooLarge, HasTooLargeChunk}
use Rattle.zarr_run_meaning.specs.declared.cause.Cause.{Cause}
use Rattle.zarr_run_boxes.specs.Outcomes.{GivesCovered}

-- ---- boxes with no place

-- an empty box has no place, and intersects no chunk
empty_box : (ss es p : List ℕ) → product es ≡ 0 → is_in_box ss es p ≡ true → ⊥
empty_box ss es p z h = let some = lies_in_interval_some ss es p h in absurd (omega arith)

pub shares_none : (region box : Region) → product region.shape ≡ 0 → share_place box.start box.shape region.start region.shape ≡ true → ⊥
shares_none region box z s = let p = share_place-has box.start box.shape region.start region.shape s in empty_box region.start region.shape p.0 z p.2

pub intersects_none : (document : Document) (region : Region) (chunk : List ℕ) (box : Region) → product region.shape ≡ 0 → IsInGrid document.grid chunk box → intersects document.grid region chunk ≡ true → ⊥
intersects_none document region chunk box z below shares = shares_none region box z (sym (ap (λ o. option_map_or (λ (b : Region). share_place b.start b.shape region.start region.shape) o false) below.has_box) ∙ shares)

-- ---- the intersecting chunks

-- a chunk that is intersecting lies in the box of the intersecting chunks
intersecting_in_box : (grid : Grid) (region chunks : Region) (chunk : List ℕ) (box : Region) → length chunks.start ≡ length chunks.shape → AreIntersecting grid region chunks → IsInGrid grid chunk box → intersects grid region chunk ≡ true → is_in_box chunks.start chunks.shape chunk ≡ true
intersecting_in_box grid region chunks chunk box l m below shares =
    let numbered = sym (places_by_number chunks.start chunks.shape l) ∙ m.listed in
    let listed = ap (λ (cs : List (List ℕ)). is_listed cs chunk) numbered ∙ intersecting_listed grid region chunk box below shares in
    let n = listed_number (place_at chunks.start chunks.shape) 0 (product chunks.shape) chunk listed in
    let b = n.1 in
    let i : n.0 < product chunks.shape = omega arith in
    ap (is_in_box chunks.start chunks.shape) n.2 ∙ in_box-place_at chunks.start chunks.shape n.0 l i

-- and a chunk of that box is intersecting
box_intersects : (grid : Grid) (region chunks : Region) (chunk : List ℕ) → length chunks.start ≡ length chunks.shape → AreIntersecting grid region chunks → is_in_box chunks.start chunks.shape chunk ≡ true → intersects grid region chunk ≡ true
box_intersects grid region chunks chunk l m h = filter-any (intersects grid region) chunk (chunk_indices grid) (ap (list_any (bytes_eq chunk)) (sym m.listed) ∙ any_places chunks.start chunks.shape chunk l h)

-- a box that reaches the limit is too large
pub large_region : (document : Document) (region : Region) (count : ℕ) → count ≡ product region.shape → IsTooLarge document.elements.type count → HasTooLarge document region
large_region document region count is large = inl (subst (λ n. IsTooLarge document.elements.type n) is large)

-- where neither the box nor a chunk reaches the limit, both are small
pub small_region : (document : Document) (region chunks : Region) (limit : ℕ) → length chunks.start ≡ length chunks.shape → AreIntersecting document.grid region chunks
    → ((count : ℕ) → (limit ≤ count → IsTooLarge document.elements.type count) × (IsTooLarge document.elements.type count → limit ≤ count))
    → product region.shape < limit → (HasChunkOf document.grid chunks limit → ⊥) → IsSmall document region
small_region document region chunks limit l m tells few none = record {
  whole = λ large. let up = (tells (product region.shape)).1 large in absurd (omega arith);
  chunks = λ chunk box below shares large. none (chunk, box, below, intersecting_in_box document.grid region chunks chunk box l m below shares, (tells (product box.shape)).1 large);
}

-- where a chunk reaches the limit, it is too large
pub large_chunk : (document : Document) (region chunks : Region) (limit : ℕ) → length chunks.start ≡ length chunks.shape → AreIntersecting document.grid region chunks
    → ((count : ℕ) → (limit ≤ count → IsTooLarge document.elements.type count) × (IsTooLarge document.elements.type count → limit ≤ count))
    → HasChunkOf document.grid chunks limit → HasTooLarge document region
large_chunk document region chunks limit l m tells (chunk, box, below, among, count) = inr (chunk, box, below, box_intersects document.grid region chunks chunk l m among, (tells (product box.shape)).0 count)

-- of not too many chunks one is too large where one reaches the limit
pub erased_large : (document : Document) (chunks : Region) (limit : ℕ) → product chunks.shape < 2 ^ 63 → ((count : ℕ) → (limit ≤ count → IsTooLarge document.elements.type count) × (IsTooLarge document.elements.type count → limit ≤ count))
    → HasChunkOf document.grid chunks limit → HasTooLargeChunk document chunks
erased_large document chunks limit few tells (chunk, box, below, among, count) = inr (chunk, box, below, among, (tells (product box.shape)).0 count)

-- and no other
pub large_erased : (document : Document) (chunks : Region) (limit : ℕ) → product chunks.shape < 2 ^ 63 → ((count : ℕ) → (limit ≤ count → IsTooLarge document.elements.type count) × (IsTooLarge document.elements.type count → limit ≤ count))
    → HasTooLargeChunk document chunks → HasChunkOf document.grid chunks limit
large_erased document chunks limit few tells (inl many) = absurd (omega arith)
large_erased document chunks limit few tells (inr (chunk, box, below, among, large)) = (chunk, box, below, among, (tells (product box.shape)).1 large)

-- what is small is not too large
pub small_fits : (document : Document) (region : Region) → IsSmall document region → HasTooLarge document region → ⊥
small_fits document region small (inl large) = small.whole large
small_fits document region small (inr (chunk, box, below, shares, large)) = small.chunks chunk box below shares large

-- ---- empty boxes

-- no cells are too many
none_too_many : (type : DataType) (count : ℕ) → count ≡ 0 → IsTooLarge type count → ⊥
none_too_many type count z (inl many) = absurd (omega arith)
none_too_many type count z (inr many) = go (byte_width type) many where
  go : (o : Option ℕ) → MatchOption o ⊥ (λ width. 2 ^ 63 ≤ count * width) → ⊥
  go None many = many
  go (Some w) many = let times = ap (λ n. n * w) z in absurd (omega arith)

pub fits_empty : (document : Document) (region : Region) → product region.shape ≡ 0 → HasTooLarge document region → ⊥
fits_empty document region z (inl large) = none_too_many document.elements.type (product region.shape) z large
fits_empty document region z (inr (chunk, box, below, shares, large)) = intersects_none document region chunk box z below shares

pub gives_empty : (path : List ℕ) (document : Document) (store : StoreMap) (region : Region) (payload : Payload) → product region.shape ≡ 0 → cells_in document.elements.type payload ≡ Some [] → GivesCovered path document store region payload
gives_empty path document store region payload z none = record {
  small = fits_empty document region z;
  values = [];
  lists = none;
  read = record {
    many = sym z;
    each = λ chunk box place is. absurd (empty_box region.start region.shape place z is.of_region);
    fit = λ chunk box below shares stored. absurd (intersects_none document region chunk box z below shares);
  };
}

-- ---- the box of one chunk

pub chunk_covered : (document : Document) (chunk : List ℕ) (box : Region) → IsInGrid document.grid chunk box → IsCovered document.grid box
chunk_covered document chunk box below = IsInGrid-covered document.grid chunk box below

-- no cells are the cells of an empty box
pub none_gives : (path : List ℕ) (document : Document) (store : StoreMap) (region : Region) (result : Result ArrayBytes Cause) → product region.shape ≡ 0
    → IfOk result (λ bytes. cells_in document.elements.type (payload_of bytes) ≡ Some []) → IfOk result (λ bytes. GivesCovered path document store region (payload_of bytes))
none_gives path document store region (Ok bytes) z none = gives_empty path document store region (payload_of bytes) z none
none_gives path document store region (Err c) z none = tt
