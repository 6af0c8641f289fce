-- The ranges of the elements that are asked for.
use Rattle.std.proofs.Common.{◌≡◌, ◌∙◌, ℕ, ◌*◌, ◌%◌, ◌^◌, ◌<◌, true, List, [], ◌∷◌, length, sym, ap, arith, None, option_and_then}
use Rattle.std.specs.Prelude.{nat_lt}
use Rattle.std.specs.List.{list_all, list_any}
use Rattle.std.proofs.Math.Nat.{mul-mod_left}
use Rattle.std.proofs.lemmas.Bool.{and_parts, ltb-true}
use Rattle.zarr_grids_boxes.specs.Boxes.{product}
use Rattle.zarr_grids_boxes.specs.Subsets.{region_of}
use Rattle.zarr_codecs_meaning.specs.Types.{DataType, byte_width, bytes_in, components, is_fixed}
use Rattle.zarr_codecs_types.specs.Parts.{word_sized}
use Rattle.zarr_codecs_arrays.proofs.FixedCells.{same_bytes}
use Rattle.zarr_codecs_regions.proofs.AskedPlaces.{asked_places}
use Rattle.zarr_codecs_traits.specs.Indexers.{in_box, numbers_of}
use Rattle.zarr_codecs_traits.specs.declared.byte_range.ByteRange.{ByteRange}
use Rattle.zarr_codecs_traits.specs.Sources.{bytes_in_ranges}
use Rattle.zarr_codecs_bytes.specs.Lines.{ArePartRanges, bytes_of_lines, ends_after}
use Rattle.zarr_codecs_bytes.specs.Parts.{part_width}
use Rattle.zarr_codecs_bytes.specs.Writing.{AreRangesOf}
use Rattle.zarr_codecs_bytes.specs.declared.lines.PartRanges.{PartRanges}
use Rattle.zarr_codecs_bytes.specs.declared.part.BoxPart.{BoxPart}
use Rattle.zarr_codecs_bytes.proofs.PartBytes.{numbers_listed}
use Rattle.zarr_codecs_bytes.proofs.PartDecoding.{no_places, nothing, too_wide}

-- the ranges that were found of a box have the bytes of its elements
pub box_ranges_of : (part : BoxPart) (found : PartRanges) (size : ℕ) → 0 < part_width part → size ≡ product part.shape.now * part_width part → ArePartRanges part found
    → AreRangesOf (part_width part) size (numbers_of part.shape.now (region_of part.region.now)) found.ranges.items
box_ranges_of part found size some all h =
    let width = part_width part in
    let count = product part.shape.now in
    let numbers = numbers_of part.shape.now (region_of part.region.now) in
    let same : size ≡ found.size = all ∙ sym h.size in
    record {
      within = ap (λ n. list_any (ends_after n) found.ranges.items) same ∙ h.within;
      are = λ value long.
          let has = (h.are value (long ∙ same)).are nothing in
          let told = numbers_listed width count value numbers some (long ∙ all) (asked_places part.shape.now (in_box (region_of part.region.now)) part.inside) in
          same_bytes width (bytes_in_ranges value found.ranges.items) (bytes_of_lines width width value numbers) some
          (ap (λ n. n % width) has.long ∙ mul-mod_left (product part.region.now.shape.items) width) (ap (λ n. n % width) told.long ∙ mul-mod_left (length numbers) width)
          (has.elements ∙ sym (told.elements nothing));
    }

-- of an array whose elements are too wide for a slice no element is asked for
pub no_ranges_of : (type : DataType) (shape numbers : List ℕ) (size : ℕ) (ranges : List ByteRange) → is_fixed type ≡ true → None ≡ option_and_then word_sized (byte_width type) → size ≡ product shape * bytes_in (components type) → size < 2 ^ 63
    → list_all (λ n. nat_lt n (product shape)) numbers ≡ true → ranges ≡ [] → AreRangesOf (bytes_in (components type)) size numbers ranges
no_ranges_of type shape [] size ranges one_size h all small inside empty = record {
  within = ap (list_any (ends_after size)) empty;
  are = λ value long. ap (bytes_in_ranges value) empty;
}
no_ranges_of type shape (n ∷ ns) size ranges one_size h all small inside empty =
    let none : product shape ≡ 0 = no_places (product shape) (bytes_in (components type)) (product shape) (omega arith) (omega (arith, all, small)) (too_wide type one_size h) in
    let below = ltb-true n (product shape) (and_parts (nat_lt n (product shape)) (list_all (λ n. nat_lt n (product shape)) ns) inside).0 in
    absurd (omega (arith, below, none))
