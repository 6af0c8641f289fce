-- The bytes of the elements of a box of an array.
use Rattle.std.proofs.Common.{◌≡◌, ℕ, suc, ◌+◌, ◌-◌, ◌*◌, ◌^◌, ◌<◌, ◌≤◌, Bool, true, ◌&&◌, nat_le, nat_lt, cond, List, [], ◌∷◌, ◌++◌, length, map, take, drop, refl, sym, ap, ◌∙◌, subst, arith, length-drop}
use Rattle.std.proofs.Math.Seq.{take-add}
use Rattle.std.proofs.lemmas.Bool.{and_parts}
use Rattle.std.proofs.lemmas.List.{drop-drop, take-append-le, length-replicate}
use Rattle.std.proofs.lemmas.List.Folds.{flat_map-map}
use Rattle.std.specs.Prelude.{IfOk, Result, Ok, Err}
use Rattle.std.specs.List.{flat_map}
use Rattle.zarr_grids_boxes.specs.Boxes.{Region, product, places, ravel, each2, is_in_box}
use Rattle.zarr_grids_boxes.specs.Cuts.{IsAtMost}
use Rattle.zarr_grids_boxes.specs.Laid.{laid, overlaid}
use Rattle.zarr_grids_boxes.specs.Subsets.{region_of}
use Rattle.zarr_grids_boxes.proofs.Dimensions.{ravel_below}
use Rattle.zarr_grids_boxes.proofs.InBox.{length-places}
use Rattle.zarr_grids_boxes.proofs.Places.{in_box_below}
use Rattle.zarr_grids_overlay.proofs.Overlays.{HasWidth-overlaid, length-laid}
use Rattle.zarr_codecs_meaning.specs.Types.{Cell}
use Rattle.zarr_codecs_meaning.specs.Payloads.{fixed_cells}
use Rattle.zarr_codecs_meaning.proofs.Covers.{zeros}
use Rattle.zarr_codecs_meaning.proofs.Lists.{Each, each_passes, zero_list}
use Rattle.zarr_codecs_traits.specs.Indexers.{shape_has, numbers_of}
use Rattle.zarr_codecs_traits.specs.Sources.{bytes_at, bytes_in_ranges}
use Rattle.zarr_codecs_traits.specs.declared.byte_range.ByteRange.{ByteRange}
use Rattle.zarr_codecs_regions.proofs.InsideArray.{each_place, ends_at_most, inside_rank, inside_places}
use Rattle.zarr_codecs_regions.proofs.Extracts.{bytes_of_place, place_width, gathered_box}
use Rattle.zarr_codecs_bytes.specs.Lines.{AreBoxRanges, ArePartRanges, bytes_of_lines}
use Rattle.zarr_codecs_bytes.specs.Parts.{HasPart, IsExtracted, part_width, fixed_array}
use Rattle.zarr_codecs_bytes.specs.declared.lines.PartRanges.{PartRanges}
use Rattle.zarr_codecs_bytes.specs.declared.part.BoxPart.{BoxPart}

-- ---- ranges one after another

pub joined_bytes : (value : List ℕ) (first second both : ByteRange) → both.offset ≡ first.offset → both.length ≡ first.length + second.length → second.offset ≡ first.offset + first.length → bytes_at value both ≡ bytes_at value first ++ bytes_at value second
joined_bytes value first second both at long next =
    ap (λ n. take both.length (drop n value)) at
    ∙ (ap (λ n. take n (drop first.offset value)) long
    ∙ (take-add first.length second.length (drop first.offset value)
    ∙ ap (λ ns. bytes_at value first ++ take second.length ns) (drop-drop first.length first.offset value ∙ ap (λ n. drop n value) (sym next))))

-- ---- the elements of a box

-- the bytes of the element with this number
abbrev element : ℕ → List ℕ → ℕ → List ℕ
element width value n = take width (drop (n * width) value)

pub mul_le : (n count width : ℕ) → n < count → suc n * width ≤ count * width
mul_le n count width h =
    let e : count ≡ suc n + (count - suc n) = omega arith in
    let f : count * width ≡ suc n * width + (count - suc n) * width = ap (λ k. k * width) e ∙ grind arith in
    omega arith

-- an element that lies in the value takes nothing from what would come after it
element_inside : (width : ℕ) (value : List ℕ) (n count : ℕ) → length value ≡ count * width → n < count → element width value n ≡ take width (drop (n * width) value ++ zero_list width)
element_inside width value n count whole below =
    let all : suc n * width ≤ count * width = mul_le n count width below in
    let more : suc n * width ≡ width + n * width = grind arith in
    sym (take-append-le width (drop (n * width) value) (zero_list width) (omega (arith, length-drop (n * width) value, whole, all, more)))

pub from_zero : (shape p : List ℕ) → is_in_box (zeros shape) shape p ≡ true → each2 (λ p s. p - s) p (zeros shape) ≡ p
from_zero [] [] h = refl
from_zero [] (n ∷ p) h = absurd (cc)
from_zero (e ∷ shape) [] h = refl
from_zero (e ∷ shape) (n ∷ p) h =
    let z : n - 0 ≡ n = omega arith in
    ap (λ k. k ∷ each2 (λ p s. p - s) p (zeros shape)) z ∙ ap (λ ks. n ∷ ks) (from_zero shape p (and_parts (nat_le 0 n && nat_lt n (0 + e)) (is_in_box (zeros shape) shape p) h).1)

pub number_below : (shape p : List ℕ) → is_in_box (zeros shape) shape p ≡ true → ravel p shape < product shape
number_below shape p h =
    let b = ravel_below (each2 (λ p s. p - s) p (zeros shape)) shape (in_box_below (zeros shape) shape p h) in
    omega (arith, b, ap (λ q. ravel q shape) (from_zero shape p h))

pub same_flat : {X : Type 0} (P : X → Type 0) (f g : X → List ℕ) (xs : List X) → Each P xs → ((x : X) → P x → f x ≡ g x) → flat_map f xs ≡ flat_map g xs
same_flat P f g [] each law = refl
same_flat P f g (x ∷ xs) each law = ap (λ ys. ys ++ flat_map f xs) (law x each.0) ∙ ap (λ ys. g x ++ ys) (same_flat P f g xs each.1 law)

-- the bytes of the elements at the places of a box are what is to be extracted
box_extracted : (width : ℕ) (value shape : List ℕ) (region : Region) (other : Cell) → 0 < width → length value ≡ product shape * width → shape_has shape region ≡ true → length region.shape ≡ length region.start
    → IsExtracted (fixed_array width value shape) region other (flat_map (element width value) (numbers_of shape region))
box_extracted width value shape region other some whole inside same =
    let ps = places region.start region.shape in
    let old : List ℕ → List ℕ = λ place. zero_list width in
    let new = bytes_of_place width value shape in
    let put = overlaid (zeros shape) shape new old in
    let wide = HasWidth-overlaid width (zeros shape) shape new old (λ place. length-replicate {A = ℕ} width 0) (place_width width value shape) in
    let are : flat_map (element width value) (numbers_of shape region) ≡ laid put region.start region.shape =
    flat_map-map (element width value) (λ p. ravel p shape) ps
    ∙ same_flat (λ p. is_in_box (zeros shape) shape p ≡ true) (λ p. element width value (ravel p shape)) put ps (each_passes (is_in_box (zeros shape) shape) ps (inside_places shape region inside))
    (λ p here. element_inside width value (ravel p shape) (product shape) whole (number_below shape p here) ∙ sym (ap (λ (b : Bool). cond b (new p) (old p)) here)) in
    record {
      long = ap length are ∙ length-laid put width region.start region.shape same wide;
      elements = ap (fixed_cells width) are ∙ gathered_box width value shape region other old some whole (λ place. length-replicate {A = ℕ} width 0) inside;
    }

-- bytes of the elements at the places of a part are those of the part
pub box_has : (part : BoxPart) (value extracted : List ℕ) → 0 < part_width part → length value ≡ product part.shape.now * part_width part
    → extracted ≡ flat_map (λ n. take (part_width part) (drop (n * part_width part) value)) (numbers_of part.shape.now (region_of part.region.now)) → HasPart part value extracted
box_has part value extracted some long is =
    let shape = part.shape.now in
    let region : Region = region_of part.region.now in
    record {
      whole = long;
      are = λ other. subst (λ bs. IsExtracted (fixed_array (part_width part) value shape) region other bs) (sym is) (box_extracted (part_width part) value shape region other some long part.inside part.region.now.same);
    }

-- a box without places has no numbers
pub no_numbers : (shape : List ℕ) (region : Region) → length region.shape ≡ length region.start → product region.shape ≡ 0 → numbers_of shape region ≡ []
no_numbers shape region same none = ap (map (λ place. ravel place shape)) (no_elements (places region.start region.shape) (length-places region.start region.shape (sym same) ∙ none)) where
  no_elements : (ps : List (List ℕ)) → length ps ≡ 0 → ps ≡ []
  no_elements [] h = refl
  no_elements (p ∷ ps) h = absurd (omega arith)

-- a part with an element ends in its array
pub part_inside : (part : BoxPart) → 0 < product part.region.now.shape.items → IsAtMost (each2 (λ s e. s + e) part.region.now.start.items part.region.now.shape.items) part.shape.now
part_inside part some =
    let shape = part.shape.now in
    let region : Region = region_of part.region.now in
    let same = part.region.now.same in
    let rank = inside_rank shape region part.inside in
    ends_at_most region.start region.shape shape same (sym rank) some (λ p here. each_place (is_in_box (zeros shape) shape) region.start region.shape p (sym same) (inside_places shape region part.inside) here)

-- the ranges of a box are those of its part
pub part_ranges : (part : BoxPart) (found : PartRanges) (size width : ℕ) → 0 < part_width part → width ≡ part_width part → size ≡ product part.shape.now * part_width part → size < 2 ^ 63
    → AreBoxRanges width part.region.now.start.items part.region.now.shape.items part.shape.now found → ArePartRanges part found
part_ranges part found size width some wide all small h =
    let shape = part.shape.now in
    let region : Region = region_of part.region.now in
    let whole : found.size ≡ product shape * part_width part = h.size ∙ ap (λ w. product shape * w) wide in
    record {
      size = whole;
      small = omega (arith, whole, all, small);
      within = h.within;
      are = λ value long. box_has part value (bytes_in_ranges value found.ranges.items) some (long ∙ whole) (h.are value ∙ ap (λ w. bytes_of_lines w w value (numbers_of shape region)) wide);
    }

pub part_found : {E : Type 0} (part : BoxPart) (found : Result PartRanges E) (size width : ℕ) (start region : List ℕ) → 0 < part_width part → width ≡ part_width part → size ≡ product part.shape.now * part_width part → size < 2 ^ 63 → start ≡ part.region.now.start.items → region ≡ part.region.now.shape.items
    → IfOk found (AreBoxRanges width start region part.shape.now) → IfOk found (ArePartRanges part)
part_found part (Ok found) size width start region some wide all small first long h =
    part_ranges part found size width some wide all small (subst (λ es. AreBoxRanges width part.region.now.start.items es part.shape.now found) long (subst (λ ss. AreBoxRanges width ss region part.shape.now found) first h))
part_found part (Err e) size width start region some wide all small first long h = tt
