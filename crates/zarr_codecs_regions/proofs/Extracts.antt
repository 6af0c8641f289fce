-- The elements of a box, as what an overlay gives and as what places gather.
use Rattle.std.proofs.Common.{◌≡◌, ◌∙◌, ℕ, zero, suc, ◌+◌, ◌-◌, ◌*◌, ◌/◌, ◌%◌, ◌<◌, ◌≤◌, Bool, true, ◌&&◌, nat_le, nat_lt, cond, List, [], ◌∷◌, ◌++◌, length, map, get_or, take, drop, refl, sym, ap, arith, length-append, length-drop}
use Rattle.std.specs.List.{range_with_len, flat_map}
use Rattle.std.proofs.Math.Nat.{mul-mod_left, mul-div_left}
use Rattle.std.proofs.Math.Seq.{take-append_seam}
use Rattle.std.proofs.lemmas.Bool.{and_parts}
use Rattle.std.proofs.lemmas.List.{take-append-le, length-take-le, length-replicate}
use Rattle.std.proofs.lemmas.List.Folds.{flat_map-map}
use Rattle.std.proofs.lemmas.Simd.{map-map}
use Rattle.zarr_grids_boxes.specs.Boxes.{Region, product, places, place_at, ravel, each2, is_in_box}
use Rattle.zarr_grids_boxes.specs.Laid.{laid, overlaid, HasWidth}
use Rattle.zarr_grids_boxes.proofs.Dimensions.{ravel_below}
use Rattle.zarr_grids_boxes.proofs.Places.{places_by_number, in_box_below}
use Rattle.zarr_grids_boxes.proofs.InBox.{length-places}
use Rattle.zarr_grids_overlay.specs.Overlays.{IsOverlaid}
use Rattle.zarr_grids_overlay.proofs.Blocks.{blocks_congr}
use Rattle.zarr_grids_overlay.proofs.Overlays.{HasWidth-overlaid}
use Rattle.zarr_codecs_meaning.specs.Types.{Cell, of_bytes, cell_bytes}
use Rattle.zarr_codecs_meaning.specs.Payloads.{fixed_cells}
use Rattle.zarr_codecs_meaning.specs.Places.{gather}
use Rattle.zarr_codecs_meaning.proofs.Covers.{zeros, length-zeros, ravel_place}
use Rattle.zarr_codecs_meaning.proofs.Lists.{Each, each_passes, zero_list}
use Rattle.zarr_codecs_arrays.proofs.FixedCells.{fixed_cells-nil, fixed_cells-cons, get_or-fixed_cells, flat_map-fixed_cells}
use Rattle.zarr_codecs_traits.specs.Indexers.{shape_has, numbers_of}
use Rattle.zarr_codecs_regions.proofs.InsideArray.{inside_places}

-- ---- the bytes of one element

-- the bytes of the element with this number, with zeros after the end
abbrev pub element_bytes : ℕ → List ℕ → ℕ → List ℕ
element_bytes width bytes n = take width (drop (n * width) bytes ++ zero_list width)

-- the bytes of the element at a place
abbrev pub bytes_of_place : ℕ → List ℕ → List ℕ → List ℕ → List ℕ
bytes_of_place width bytes shape place = element_bytes width bytes (ravel place shape)

pub place_width : (width : ℕ) (bytes shape : List ℕ) → HasWidth width (bytes_of_place width bytes shape)
place_width width bytes shape place =
    let front = drop (ravel place shape * width) bytes in
    length-take-le width (front ++ zero_list width) (omega (arith, length-append front (zero_list width), length-replicate {A = ℕ} width 0))

pub element_within : (width : ℕ) (bytes : List ℕ) (n count : ℕ) → length bytes ≡ count * width → n < count → element_bytes width bytes n ≡ take width (drop (n * width) bytes)
element_within width bytes n count whole below =
    let all : suc n * width ≤ count * width = mul_le n count width below in
    let sum : suc n * width ≡ width + n * width = grind arith in
    take-append-le width (drop (n * width) bytes) (zero_list width) (omega (arith, length-drop (n * width) bytes, whole, all, sum)) where
      mul_le : (n count width : ℕ) → n < count → suc n * width ≤ count * width
      mul_le n count width h =
          let e : count ≡ suc n + (count - suc n) = omega arith in
          let f : count * width ≡ suc n * width + (count - suc n) * width = ap (λ k. k * width) e ∙ grind arith in
          omega arith

-- ---- the bytes of an array

pub elements_are : (width count : ℕ) (bytes : List ℕ) → 0 < width → length bytes ≡ count * width → flat_map (element_bytes width bytes) (range_with_len 0 count) ≡ bytes
elements_are width count bytes some whole =
    let many : length bytes / width ≡ count = ap (λ n. n / width) whole ∙ mul-div_left count some in
    let even : length bytes % width ≡ 0 = ap (λ n. n % width) whole ∙ mul-mod_left count width in
    blocks_congr (element_bytes width bytes) (λ n. take width (drop (n * width) bytes)) 0 count (λ n low below. element_within width bytes n count whole (omega arith))
    ∙ (ap (λ n. flat_map (λ k. take width (drop (k * width) bytes)) (range_with_len 0 n)) (sym many)
    ∙ (sym (flat_map-map cell_bytes (λ n. of_bytes (take width (drop (n * width) bytes))) (range_with_len 0 (length bytes / width)))
    ∙ flat_map-fixed_cells width bytes some even))

pub array_laid : (width : ℕ) (bytes shape : List ℕ) → 0 < width → length bytes ≡ product shape * width → bytes ≡ laid (bytes_of_place width bytes shape) (zeros shape) shape
array_laid width bytes shape some whole =
    sym (ap (flat_map (bytes_of_place width bytes shape)) (places_by_number (zeros shape) shape (length-zeros shape))
    ∙ (flat_map-map (bytes_of_place width bytes shape) (place_at (zeros shape) shape) (range_with_len 0 (product shape))
    ∙ (blocks_congr (λ n. bytes_of_place width bytes shape (place_at (zeros shape) shape n)) (element_bytes width bytes) 0 (product shape) (λ n low below. ap (element_bytes width bytes) (ravel_place shape n (omega arith)))
    ∙ elements_are width (product shape) bytes some whole)))

zeros-append : (m n : ℕ) → zero_list m ++ zero_list n ≡ zero_list (m + n)
zeros-append zero n = ap zero_list (let e : n ≡ zero + n = omega arith in e)
zeros-append (suc m) n = ap (λ ns. 0 ∷ ns) (zeros-append m n) ∙ ap zero_list (let e : suc (m + n) ≡ suc m + n = omega arith in e)

pub zeros_laid : (width : ℕ) (ss es : List ℕ) → length ss ≡ length es → zero_list (product es * width) ≡ laid (λ place. zero_list width) ss es
zeros_laid width ss es l = ap (λ n. zero_list (n * width)) (sym (length-places ss es l)) ∙ each (places ss es) where
  each : (ps : List (List ℕ)) → zero_list (length ps * width) ≡ flat_map (λ place. zero_list width) ps
  each [] = ap zero_list (let e : 0 * width ≡ 0 = omega arith in e)
  each (p ∷ ps) =
      let e : suc (length ps) * width ≡ width + length ps * width = grind arith in
      ap zero_list e ∙ (sym (zeros-append width (length ps * width)) ∙ ap (λ ns. zero_list width ++ ns) (each ps))

pub zeros_are : (shape : List ℕ) → zero_list (length shape) ≡ zeros shape
zeros_are [] = refl
zeros_are (n ∷ shape) = ap (λ ns. 0 ∷ ns) (zeros_are shape)

-- ---- the elements of laid bytes

pub laid_cells : (width : ℕ) (cells : List ℕ → List ℕ) (ps : List (List ℕ)) → 0 < width → HasWidth width cells → fixed_cells width (flat_map cells ps) ≡ map (λ p. of_bytes (cells p)) ps
laid_cells width cells [] some h = fixed_cells-nil width
laid_cells width cells (p ∷ ps) some h = fixed_cells-cons width (cells p) (flat_map cells ps) some (h p) ∙ ap (λ cs. of_bytes (cells p) ∷ cs) (laid_cells width cells ps some h)

same_map : {X Y : Type 0} (P : X → Type 0) (f g : X → Y) (xs : List X) → Each P xs → ((x : X) → P x → f x ≡ g x) → map f xs ≡ map g xs
same_map P f g [] each law = refl
same_map P f g (x ∷ xs) each law = ap (λ y. y ∷ map f xs) (law x each.0) ∙ ap (λ ys. g x ∷ ys) (same_map P f g xs each.1 law)

-- the elements that an overlay of an array gives a box are those that the box's places gather
pub gathered_box : (width : ℕ) (bytes shape : List ℕ) (region : Region) (other : Cell) (old : List ℕ → List ℕ) → 0 < width → length bytes ≡ product shape * width → HasWidth width old → shape_has shape region ≡ true
    → fixed_cells width (laid (overlaid (zeros shape) shape (bytes_of_place width bytes shape) old) region.start region.shape) ≡ gather other (fixed_cells width bytes) (numbers_of shape region)
gathered_box width bytes shape region other old some whole h inside =
    let new = bytes_of_place width bytes shape in
    let ps = places region.start region.shape in
    let many : length bytes / width ≡ product shape = ap (λ n. n / width) whole ∙ mul-div_left (product shape) some in
    laid_cells width (overlaid (zeros shape) shape new old) ps some (HasWidth-overlaid width (zeros shape) shape new old h (place_width width bytes shape))
    ∙ (same_map (λ p. is_in_box (zeros shape) shape p ≡ true) (λ p. of_bytes (overlaid (zeros shape) shape new old p)) (λ p. get_or (fixed_cells width bytes) (ravel p shape) other) ps
    (each_passes (is_in_box (zeros shape) shape) ps (inside_places shape region inside))
    (λ p here.
    let below : ravel p shape < product shape = number_below shape p here in
    ap (λ (b : Bool). of_bytes (cond b (new p) (old p))) here
    ∙ (ap of_bytes (element_within width bytes (ravel p shape) (product shape) whole below)
    ∙ sym (get_or-fixed_cells width bytes (ravel p shape) other (omega (arith, below, many)))))
    ∙ sym (map-map (λ n. get_or (fixed_cells width bytes) n other) (λ p. ravel p shape) ps)) where
      from_zero : (shape p : List ℕ) → is_in_box (zeros shape) shape p ≡ true → each2 (λ p s. p - s) p (zeros shape) ≡ p
      from_zero [] [] h = refl
      from_zero [] (n ∷ p) h = absurd (cc)
      from_zero (e ∷ shape) [] h = refl
      from_zero (e ∷ shape) (n ∷ p) h =
          let z : n - 0 ≡ n = omega arith in
          ap (λ k. k ∷ each2 (λ p s. p - s) p (zeros shape)) z ∙ ap (λ ks. n ∷ ks) (from_zero shape p (and_parts (nat_le 0 n && nat_lt n (0 + e)) (is_in_box (zeros shape) shape p) h).1)

      number_below : (shape p : List ℕ) → is_in_box (zeros shape) shape p ≡ true → ravel p shape < product shape
      number_below shape p h =
          let b = ravel_below (each2 (λ p s. p - s) p (zeros shape)) shape (in_box_below (zeros shape) shape p h) in
          omega (arith, b, ap (λ q. ravel q shape) (from_zero shape p h))

-- an array is put over the zeros of a box
pub record IsPutOver (width : ℕ) (bytes shape : List ℕ) (region : Region) (start ss es before after : List ℕ) : Type 0 where
  pub some : 0 < width
  pub whole : length bytes ≡ product shape * width
  pub inside : shape_has shape region ≡ true
  pub rank : length region.shape ≡ length region.start
  pub start_is : start ≡ zero_list (length shape)
  pub ss_is : ss ≡ region.start
  pub es_is : es ≡ region.shape
  pub before_is : before ≡ zero_list (product region.shape * width)
  pub put : IsOverlaid width (record { start = ss; shape = es }) (record { start = start; shape = shape }) before bytes after

-- the bytes of the box are then the array's bytes at its places
after_laid : (width : ℕ) (bytes shape : List ℕ) (region : Region) (start ss es before after : List ℕ) → IsPutOver width bytes shape region start ss es before after
    → after ≡ laid (overlaid (zeros shape) shape (bytes_of_place width bytes shape) (λ place. zero_list width)) region.start region.shape
after_laid width bytes shape region start ss es before after h =
    let old : List ℕ → List ℕ = λ place. zero_list width in
    let new = bytes_of_place width bytes shape in
    let is_zeros : start ≡ zeros shape = h.start_is ∙ zeros_are shape in
    let sides : (f : List ℕ → List ℕ) → laid f ss es ≡ laid f region.start region.shape = λ f. ap (λ starts. laid f starts es) h.ss_is ∙ ap (laid f region.start) h.es_is in
    h.put old new (λ place. length-replicate {A = ℕ} width 0) (place_width width bytes shape)
    (h.before_is ∙ (zeros_laid width region.start region.shape (sym h.rank) ∙ sym (sides old)))
    (array_laid width bytes shape h.some h.whole ∙ ap (λ starts. laid new starts shape) (sym is_zeros))
    ∙ (sides (overlaid start shape new old) ∙ ap (λ starts. laid (overlaid starts shape new old) region.start region.shape) is_zeros)

pub overlay_gathers : (width : ℕ) (bytes shape : List ℕ) (region : Region) (start ss es before after : List ℕ) (other : Cell) → IsPutOver width bytes shape region start ss es before after
    → fixed_cells width after ≡ gather other (fixed_cells width bytes) (numbers_of shape region)
overlay_gathers width bytes shape region start ss es before after other h =
    ap (fixed_cells width) (after_laid width bytes shape region start ss es before after h)
    ∙ gathered_box width bytes shape region other (λ place. zero_list width) h.some h.whole (λ place. length-replicate {A = ℕ} width 0) h.inside

-- a slice of all bytes of a vector that was written to
pub written_over : (n : ℕ) (bytes before : List ℕ) → length bytes ≡ n → take n (bytes ++ drop (length bytes) before) ≡ bytes
written_over n bytes before h = ap (λ k. take k (bytes ++ drop (length bytes) before)) (sym h) ∙ take-append_seam bytes (drop (length bytes) before)
