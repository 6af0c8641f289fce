-- The elements of a box, put over others of a box of its shape.
use Rattle.std.proofs.Common.{◌≡◌, ◌∙◌, ℕ, ◌-◌, ◌*◌, ◌<◌, List, length, replicate, ap, sym, arith, true}
use Rattle.std.specs.List.{flat_map, range_with_len}
use Rattle.std.proofs.lemmas.List.Folds.{flat_map-map}
use Rattle.zarr_grids_boxes.specs.Boxes.{Region, each2, place_at, product}
use Rattle.zarr_grids_boxes.specs.Laid.{HasWidth, laid, overlaid}
use Rattle.zarr_grids_boxes.proofs.InBox.{ravel-place_at}
use Rattle.zarr_grids_boxes.proofs.Places.{places_by_number}
use Rattle.zarr_grids_overlay.specs.Overlays.{IsOverlaid}
use Rattle.zarr_grids_overlay.proofs.Blocks.{blocks_congr}
use Rattle.zarr_codecs_meaning.specs.Payloads.{fixed_cells}
use Rattle.zarr_codecs_meaning.specs.Places.{gather}
use Rattle.zarr_codecs_meaning.specs.Types.{Cell}
use Rattle.zarr_codecs_meaning.proofs.Covers.{zeros}
use Rattle.zarr_codecs_regions.proofs.Extracts.{array_laid, bytes_of_place, element_bytes, elements_are, gathered_box, place_width}
use Rattle.zarr_codecs_traits.specs.Indexers.{shape_has, numbers_of}
use Rattle.zarr_sharding_codec.proofs.NumberedParts.{zeros_are}

-- an array is put over bytes of a box that are as many as its elements take
pub record IsTaken (width : ℕ) (bytes shape : List ℕ) (region : Region) (start ss es before after : List ℕ) : Type 0 where
  pub some : 0 < width
  pub whole : length bytes ≡ product shape * width
  pub inside : shape_has shape region ≡ true
  pub rank : length region.shape ≡ length region.start
  pub full : length before ≡ product region.shape * width
  pub start_is : start ≡ replicate (length shape) 0
  pub ss_is : ss ≡ region.start
  pub es_is : es ≡ region.shape
  pub over : IsOverlaid width (record { start = ss; shape = es }) (record { start = start; shape = shape }) before bytes after

module _ (width : ℕ) (bytes shape : List ℕ) (region : Region) (start ss es before after : List ℕ) (is : IsTaken width bytes shape region start ss es before after) where
  -- what was at a place of the box
  abbrev old : List ℕ → List ℕ
  old place = bytes_of_place width before region.shape (each2 (λ p s. p - s) place region.start)

  old_width : HasWidth width old
  old_width place = place_width width before region.shape (each2 (λ p s. p - s) place region.start)

  before_laid : before ≡ laid old region.start region.shape
  before_laid =
      sym (ap (flat_map old) (places_by_number region.start region.shape (sym is.rank))
      ∙ (flat_map-map old (place_at region.start region.shape) (range_with_len 0 (product region.shape))
      ∙ (blocks_congr (λ n. old (place_at region.start region.shape n)) (element_bytes width before) 0 (product region.shape)
      (λ n low below. ap (element_bytes width before) (ravel-place_at region.start region.shape n (sym is.rank) (omega (arith, below))))
      ∙ elements_are width (product region.shape) before is.some is.full)))

  after_laid : after ≡ laid (overlaid (zeros shape) shape (bytes_of_place width bytes shape) old) region.start region.shape
  after_laid =
      let new = bytes_of_place width bytes shape in
      let is_zeros : start ≡ zeros shape = is.start_is ∙ zeros_are shape in
      let sides : (f : List ℕ → List ℕ) → laid f ss es ≡ laid f region.start region.shape = λ f. ap (λ starts. laid f starts es) is.ss_is ∙ ap (laid f region.start) is.es_is in
      is.over old new old_width (place_width width bytes shape) (before_laid ∙ sym (sides old)) (array_laid width bytes shape is.some is.whole ∙ ap (λ starts. laid new starts shape) (sym is_zeros))
      ∙ (sides (overlaid start shape new old) ∙ ap (λ starts. laid (overlaid starts shape new old) region.start region.shape) is_zeros)

  -- nothing of what was there is left
  pub taken_cells : (other : Cell) → fixed_cells width after ≡ gather other (fixed_cells width bytes) (numbers_of shape region)
  taken_cells other = ap (fixed_cells width) after_laid ∙ gathered_box width bytes shape region other old is.some is.whole old_width is.inside
