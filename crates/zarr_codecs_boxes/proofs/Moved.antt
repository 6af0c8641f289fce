-- A box put over an array, and a box that is read, behind an array codec.
use Rattle.std.proofs.Common.{◌≡◌, ℕ, List, length, ap, ◌∙◌, sym, refl, Some, subst, true, ◌&&◌, ◌⊎◌, inl, inr, ◌==◌}
use Rattle.std.proofs.lemmas.Bool.{and_parts}
use Rattle.std.proofs.lemmas.Map.Views.{exact_unsigned_eq}
use Rattle.zarr_grids_boxes.specs.Boxes.{Region, product}
use Rattle.zarr_codecs_meaning.specs.Types.{Cell}
use Rattle.zarr_codecs_meaning.specs.Chains.{ArrayCodec}
use Rattle.zarr_codecs_meaning.specs.Chains.ArrayCodec.{transpose, reshape, squeeze}
use Rattle.zarr_codecs_meaning.specs.Places.{gather, encoded_shape, source_places, undone_places, part_of}
use Rattle.zarr_codecs_meaning.specs.Fits.{array_codec_fits, is_permutation}
use Rattle.zarr_codecs_meaning.proofs.ArrayCodecs.{length-gather, array_codec_count}
use Rattle.zarr_codecs_meaning.proofs.Covers.{is_order, array_codec_covers}
use Rattle.zarr_codecs_meaning.proofs.Positions.{gathered_back}
use Rattle.zarr_codecs_meaning.proofs.Lists.{some_same, map_some}
use Rattle.zarr_sharding_changes.specs.Regions.{IsInside, whole, overlaid}
use Rattle.zarr_sharding_changes.proofs.Overlays as changes
use Rattle.zarr_codecs_boxes.specs.Regions.{encoded_region}
use Rattle.zarr_codecs_boxes.specs.Updates.{IsBoxIn, Update, IsUpdate, updated}
use Rattle.zarr_codecs_boxes.specs.Laws.{RegionUndone, UpdateOverlaid, UpdateEncoded, RegionRead}
use Rattle.zarr_codecs_boxes.proofs.Lying.{some_or_none, no_elements, lies_dimensions, lies_inside, inside_lies, empty_lies}
use Rattle.zarr_codecs_boxes.proofs.Empty.{IsEmptyIn, no_places, none_put, none_overlaid, none_gathered, empty_encoded}
use Rattle.zarr_codecs_boxes.proofs.Puts.{put_overlaid, same_overlaid, box_dimensions, length-numbers}
use Rattle.zarr_codecs_boxes.proofs.Transposed.{overlaid_transposed, transposed_count, transposed_inside}
use Rattle.zarr_codecs_boxes.proofs.Squeezed.{overlaid_squeezed, squeezed_count, squeezed_inside}

-- a box put over an array, as it is put over the encoded one
record IsEncodedBox (fill : Cell) (codec : ArrayCodec) (shape : List ℕ) (region : Region) (new cells : List Cell) (moved : Region) : Type 0 where
  inside : IsInside moved.start moved.shape (encoded_shape codec shape)
  count : length (gather fill new (source_places codec region.shape)) ≡ product moved.shape
  is : gather fill (overlaid fill (whole shape) region new cells) (source_places codec shape)
      ≡ overlaid fill (whole (encoded_shape codec shape)) moved (gather fill new (source_places codec region.shape)) (gather fill cells (source_places codec shape))

overlaid_encoded : (fill : Cell) (codec : ArrayCodec) (shape : List ℕ) (region moved : Region) (new cells : List Cell) → array_codec_fits codec shape ≡ true → IsInside region.start region.shape shape → length new ≡ product region.shape
    → encoded_region codec shape region ≡ Some moved → IsEncodedBox fill codec shape region new cells moved
overlaid_encoded fill (transpose order) shape region moved new cells fit within count h =
    let one = and_parts (length order == length shape) (is_permutation order) fit in
    let same = exact_unsigned_eq (length order) (length shape) one.0 in
    subst (IsEncodedBox fill (transpose order) shape region new cells) (some_same h) (record {
      inside = transposed_inside order shape region (is_order order one.1) same within;
      count = transposed_count fill order region new;
      is = overlaid_transposed fill order shape region new cells fit within;
    })
overlaid_encoded fill (reshape entries) shape region moved new cells fit within count h = cc
overlaid_encoded fill squeeze shape region moved new cells fit within count h =
    subst (IsEncodedBox fill squeeze shape region new cells) (some_same h) (record {
      inside = squeezed_inside shape region within;
      count = squeezed_count fill shape region new within;
      is = overlaid_squeezed fill shape region new cells within count;
    })

-- the encoded array has as many cells as its shape has places
pub encoded_count : (fill : Cell) (codec : ArrayCodec) (shape : List ℕ) (cells : List Cell) → array_codec_fits codec shape ≡ true → length (gather fill cells (source_places codec shape)) ≡ product (encoded_shape codec shape)
encoded_count fill codec shape cells fit = length-gather fill cells (source_places codec shape) ∙ array_codec_count codec shape fit

-- a box that lies in an array lies in it with its places, or has none
pub places_or_none : (shape : List ℕ) (region : Region) → IsBoxIn shape region → IsInside region.start region.shape shape ⊎ IsEmptyIn shape region
places_or_none shape region is = elim (some_or_none (product region.shape)) [
  | inl some ↦ inl (lies_inside shape region is.dimensions is.inside some)
  | inr none ↦ inr (record { starts = lies_dimensions shape region is.inside; dims = is.dimensions; none = none })
]

inside_box : (shape : List ℕ) (region : Region) → IsInside region.start region.shape shape → IsBoxIn shape region
inside_box shape region within = record { dimensions = sym (box_dimensions region shape within); inside = inside_lies shape region within }

empty_box : (shape : List ℕ) (region : Region) → IsEmptyIn shape region → IsBoxIn shape region
empty_box shape region is = record { dimensions = is.dims; inside = empty_lies shape region is.starts is.dims is.none }

-- what is put over an array is the box put over it, also where the box has no place
pub update_overlaid : UpdateOverlaid
update_overlaid fill shape update cells is all = elim (places_or_none shape update.region is.box) as (λ _. updated shape update cells ≡ overlaid fill (whole shape) update.region update.cells cells) [
  | inl within ↦ put_overlaid fill shape update.region update.cells cells within is.count all
  | inr empty ↦ none_put shape update.region update.cells cells empty.dims empty.none ∙ sym (none_overlaid fill shape update.region update.cells cells empty.none all)
]

-- an update of the encoded array, and what it makes of that
abbrev IsMoved : Cell → ArrayCodec → List ℕ → Update → List Cell → Update → Type 0
IsMoved fill codec shape update cells made =
    IsUpdate (encoded_shape codec shape) made × (gather fill (updated shape update cells) (source_places codec shape) ≡ updated (encoded_shape codec shape) made (gather fill cells (source_places codec shape)))

moved_places : (fill : Cell) (codec : ArrayCodec) (shape : List ℕ) (update : Update) (moved : Region) (cells : List Cell) → array_codec_fits codec shape ≡ true → IsUpdate shape update → length cells ≡ product shape
    → encoded_region codec shape update.region ≡ Some moved → IsInside update.region.start update.region.shape shape → IsMoved fill codec shape update cells (record { region = moved; cells = gather fill update.cells (source_places codec update.region.shape) })
moved_places fill codec shape update moved cells fit is all h within =
    let region = update.region in
    let own = gather fill update.cells (source_places codec region.shape) in
    let before = gather fill cells (source_places codec shape) in
    let box = overlaid_encoded fill codec shape region moved update.cells cells fit within is.count h in (
      record { box = inside_box (encoded_shape codec shape) moved box.inside; count = box.count },
      ap (λ (after : List Cell). gather fill after (source_places codec shape)) (put_overlaid fill shape region update.cells cells within is.count all)
          ∙ (box.is ∙ sym (put_overlaid fill (encoded_shape codec shape) moved own before box.inside box.count (encoded_count fill codec shape cells fit))),
    )

moved_none : (fill : Cell) (codec : ArrayCodec) (shape : List ℕ) (update : Update) (moved : Region) (cells : List Cell) → array_codec_fits codec shape ≡ true
    → encoded_region codec shape update.region ≡ Some moved → IsEmptyIn shape update.region → IsMoved fill codec shape update cells (record { region = moved; cells = gather fill update.cells (source_places codec update.region.shape) })
moved_none fill codec shape update moved cells fit h empty =
    let own = gather fill update.cells (source_places codec update.region.shape) in
    let after = empty_encoded codec shape update.region moved fit empty h in (
      record { box = empty_box (encoded_shape codec shape) moved after; count = length-gather fill update.cells (source_places codec update.region.shape) ∙ none_gathered codec shape update.region moved fit empty h },
      ap (λ (found : List Cell). gather fill found (source_places codec shape)) (none_put shape update.region update.cells cells empty.dims empty.none)
          ∙ sym (none_put (encoded_shape codec shape) moved own (gather fill cells (source_places codec shape)) after.dims after.none),
    )

-- new cells for a box
abbrev pub update_of : List Cell → Region → Update
update_of own box = record { region = box; cells = own }

pub update_encoded : UpdateEncoded
update_encoded fill codec shape update moved cells fit is all h =
    let found = map_some (update_of (gather fill update.cells (source_places codec update.region.shape))) (encoded_region codec shape update.region) moved h in
    subst (IsMoved fill codec shape update cells) found.2 (elim (places_or_none shape update.region is.box) as (λ _. IsMoved fill codec shape update cells (record { region = found.0; cells = gather fill update.cells (source_places codec update.region.shape) })) [
      | inl within ↦ moved_places fill codec shape update found.0 cells fit is all found.1 within
      | inr empty ↦ moved_none fill codec shape update found.0 cells fit found.1 empty
    ])

read_places : (fill : Cell) (codec : ArrayCodec) (shape : List ℕ) (region moved : Region) (cells : List Cell)
    → array_codec_fits codec shape ≡ true → IsInside region.start region.shape shape → length cells ≡ product shape → encoded_region codec shape region ≡ Some moved
    → gather fill (gather fill cells (source_places codec shape)) (part_of (encoded_shape codec shape) moved).places ≡ gather fill (gather fill cells (part_of shape region).places) (source_places codec region.shape)
read_places fill codec shape region moved cells fit within all h =
    let own = gather fill cells (part_of shape region).places in
    let turned = gather fill own (source_places codec region.shape) in
    let before = gather fill cells (source_places codec shape) in
    let new_shape = encoded_shape codec shape in
    let count : length own ≡ product region.shape = length-gather fill cells (part_of shape region).places ∙ length-numbers shape region (box_dimensions region shape within) in
    let box = overlaid_encoded fill codec shape region moved own cells fit within count h in
    let same : overlaid fill (whole new_shape) moved turned before ≡ before = sym box.is ∙ ap (λ (found : List Cell). gather fill found (source_places codec shape)) (same_overlaid fill shape region cells within all) in
    ap (λ (found : List Cell). gather fill found (part_of new_shape moved).places) (sym same) ∙ changes.region_read fill new_shape moved turned before box.inside box.count

pub region_read : RegionRead
region_read fill codec shape region moved cells fit is all h = elim (places_or_none shape region is) as (λ _. gather fill before (part_of new_shape moved).places ≡ gather fill own (source_places codec region.shape)) [
  | inl within ↦ read_places fill codec shape region moved cells fit within all h
  | inr empty ↦
      let after = empty_encoded codec shape region moved fit empty h in
      ap (gather fill before) (no_places new_shape moved after.dims after.none)
      ∙ sym (ap (gather fill own) (no_elements (source_places codec region.shape) (none_gathered codec shape region moved fit empty h ∙ after.none)))
] where
  new_shape : List ℕ
  new_shape = encoded_shape codec shape

  before : List Cell
  before = gather fill cells (source_places codec shape)

  own : List Cell
  own = gather fill cells (part_of shape region).places

-- the codec suits an array of the box's shape
pub fits_box : (codec : ArrayCodec) (shape : List ℕ) (region moved : Region) → array_codec_fits codec shape ≡ true → IsBoxIn shape region → encoded_region codec shape region ≡ Some moved → array_codec_fits codec region.shape ≡ true
fits_box (transpose order) shape region moved fit is h =
    let one = and_parts (length order == length shape) (is_permutation order) fit in
    let same : length region.shape ≡ length shape = is.dimensions ∙ lies_dimensions shape region is.inside in
    ap (λ n. (length order == n) && is_permutation order) same ∙ fit
fits_box (reshape entries) shape region moved fit is h = cc
fits_box squeeze shape region moved fit is h = refl

pub region_undone : RegionUndone
region_undone fill codec shape region moved cells fit is all h =
    let own = gather fill cells (part_of shape region).places in
    let count : length own ≡ product region.shape = length-gather fill cells (part_of shape region).places ∙ length-numbers shape region (sym is.dimensions) in
    ap (λ (found : List Cell). gather fill found (undone_places codec region.shape)) (region_read fill codec shape region moved cells fit is all h)
    ∙ gathered_back fill own (source_places codec region.shape) (product region.shape) count (array_codec_covers codec region.shape (fits_box codec shape region moved fit is h))
