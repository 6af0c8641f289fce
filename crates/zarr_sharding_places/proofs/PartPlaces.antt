-- Each place of a shape is one place of one subchunk.
use Rattle.std.proofs.Common.{◌≡◌, ◌∙◌, inl, inr, ℕ, suc, ◌<◌, ◌≤◌, List, [], ◌∷◌, length, map, get_or, refl, sym, ap, arith, Bool, true, false}
use Rattle.std.specs.Prelude.{nat_lt}
use Rattle.std.specs.List.{range_with_len}
use Rattle.std.proofs.Math.ListN.{get_or-eq_default}
use Rattle.std.proofs.lemmas.Bool.{ltb-false, ltb-true}
use Rattle.std.proofs.lemmas.List.{get_or-map}
use Rattle.std.proofs.lemmas.List.FromFn.{get_or-map-range_with_len, length-map-range_with_len}
use Rattle.zarr_grids_boxes.specs.Boxes.{product}
use Rattle.zarr_codecs_meaning.specs.Fits.{can_cut}
use Rattle.zarr_codecs_meaning.specs.Keeping.{arranged}
use Rattle.zarr_codecs_meaning.specs.Places.{Part, parts_of, place_numbers, position_of}
use Rattle.zarr_codecs_meaning.specs.Types.{Cell, of_bytes, absent, cell_bytes}
use Rattle.zarr_codecs_meaning.proofs.Parts.{no_part, parts_cover}
use Rattle.zarr_codecs_meaning.proofs.PartsOnce.{number_in, parts_again}
use Rattle.zarr_codecs_meaning.proofs.Positions.{position_found, position_read}
use Rattle.zarr_codecs_meaning.proofs.Shards.{IsCovered, part_cells}

-- a place of a part: there is such a part, and it has such a place
pub record IsPlace (parts : List Part) (k i : ℕ) : Type 0 where
  pub part : k < length parts
  pub place : i < length (get_or parts k no_part).places

-- ---- what is arranged of pieces is cut into them again

pub record HasCount (parts : List Part) (pieces : List (List Cell)) : Type 0 where
  pub many : length pieces ≡ length parts
  pub each : (k : ℕ) → k < length parts → length (get_or pieces k []) ≡ length (get_or parts k no_part).places

-- the cell of the whole at a place of a part is the one of its piece
pub arranged_place : (fill : Cell) (shape subchunk : List ℕ) (pieces : List (List Cell)) (k i : ℕ) → can_cut shape subchunk ≡ true → HasCount (parts_of shape subchunk) pieces → IsPlace (parts_of shape subchunk) k i
    → get_or (map (arranged fill (parts_of shape subchunk) pieces) (place_numbers shape)) (number_in (parts_of shape subchunk) k i) fill ≡ get_or (get_or pieces k []) i fill
arranged_place fill shape subchunk pieces k i cuts counts is =
    let parts = parts_of shape subchunk in
    let cells = map (arranged fill parts pieces) (place_numbers shape) in
    let again = parts_again fill shape subchunk pieces cuts counts.many counts.each in
    sym (get_or-map (λ n. get_or cells n fill) (get_or parts k no_part).places i 0 fill is.place)
    ∙ (ap (λ cs. get_or cs i fill) (sym (get_or-map (part_cells fill cells) parts k no_part [] is.part)) ∙ ap (λ (ps : List (List Cell)). get_or (get_or ps k []) i fill) again)

-- ---- no two places of parts are one: the labels of all places, arranged, tell them apart

abbrev pub label : ℕ → ℕ → Cell
label k i = of_bytes (k ∷ i ∷ [])

abbrev pub labels : List Part → List (List Cell)
labels parts = map (λ k. map (label k) (range_with_len 0 (length (get_or parts k no_part).places))) (range_with_len 0 (length parts))

labels_at : (parts : List Part) (k : ℕ) → k < length parts → get_or (labels parts) k [] ≡ map (label k) (range_with_len 0 (length (get_or parts k no_part).places))
labels_at parts k below = get_or-map-range_with_len (λ k. map (label k) (range_with_len 0 (length (get_or parts k no_part).places))) 0 (length parts) k k [] below (omega arith)

labels_count : (parts : List Part) → HasCount parts (labels parts)
labels_count parts = record {
  many = length-map-range_with_len (λ k. map (label k) (range_with_len 0 (length (get_or parts k no_part).places))) 0 (length parts);
  each = λ k below. ap (λ (cs : List Cell). length cs) (labels_at parts k below) ∙ length-map-range_with_len (label k) 0 (length (get_or parts k no_part).places);
}

abbrev pub labelled : List ℕ → List ℕ → List Cell
labelled shape subchunk = map (arranged absent (parts_of shape subchunk) (labels (parts_of shape subchunk))) (place_numbers shape)

labelled_at : (shape subchunk : List ℕ) (k i : ℕ) → can_cut shape subchunk ≡ true → IsPlace (parts_of shape subchunk) k i → get_or (labelled shape subchunk) (number_in (parts_of shape subchunk) k i) absent ≡ label k i
labelled_at shape subchunk k i cuts is =
    let parts = parts_of shape subchunk in
    arranged_place absent shape subchunk (labels parts) k i cuts (labels_count parts) is
    ∙ (ap (λ (cs : List Cell). get_or cs i absent) (labels_at parts k is.part) ∙ get_or-map-range_with_len (label k) 0 (length (get_or parts k no_part).places) i i absent is.place (omega arith))

pub places_apart : (shape subchunk : List ℕ) (k i l j : ℕ) → can_cut shape subchunk ≡ true → IsPlace (parts_of shape subchunk) k i → IsPlace (parts_of shape subchunk) l j
    → number_in (parts_of shape subchunk) k i ≡ number_in (parts_of shape subchunk) l j → (k ≡ l) × (i ≡ j)
places_apart shape subchunk k i l j cuts one other same =
    let e : label k i ≡ label l j = sym (labelled_at shape subchunk k i cuts one) ∙ (ap (λ n. get_or (labelled shape subchunk) n absent) same ∙ labelled_at shape subchunk l j cuts other) in
    (ap (λ c. get_or (cell_bytes c) 0 0) e, ap (λ c. get_or (cell_bytes c) 1 0) e)

labelled_or_not : (b : Bool) (n count : ℕ) → nat_lt n count ≡ b → (count ≤ n → ⊥) → n < count
labelled_or_not true n count e never = ltb-true n count e
labelled_or_not false n count e never = absurd (never (ltb-false n count e))

-- each is a place of the shape
pub place_below : (shape subchunk : List ℕ) (k i : ℕ) → can_cut shape subchunk ≡ true → IsPlace (parts_of shape subchunk) k i → number_in (parts_of shape subchunk) k i < product shape
place_below shape subchunk k i cuts is =
    let n = number_in (parts_of shape subchunk) k i in
    let cells = labelled shape subchunk in
    let long : length cells ≡ product shape = length-map-range_with_len (arranged absent (parts_of shape subchunk) (labels (parts_of shape subchunk))) 0 (product shape) in
    labelled_or_not (nat_lt n (product shape)) n (product shape) refl (λ past.
    let none : get_or cells n absent ≡ absent = get_or-eq_default cells absent (omega (arith, past, long)) in
    let e : absent ≡ label k i = sym none ∙ labelled_at shape subchunk k i cuts is in cc)

-- ---- each place of the shape is one of a part

-- the part and the place in it that a number stands for
pub record IsHeld (parts : List Part) (n : ℕ) : Type 0 where
  pub part : ℕ
  pub place : ℕ
  pub is : IsPlace parts part place
  pub here : number_in parts part place ≡ n

held : (n : ℕ) (parts : List Part) → IsCovered n parts → IsHeld parts n
held n [] covered = elim covered [ ]
held n (part ∷ parts) (inl among) = record { part = 0; place = position_of n part.places; is = record { part = omega arith; place = position_found n part.places among }; here = position_read n 0 part.places (position_found n part.places among) }
held n (part ∷ parts) (inr covered) =
    let rest = held n parts covered in
    let low = rest.is.part in
    record { part = suc rest.part; place = rest.place; is = record { part = omega (arith, low); place = rest.is.place }; here = rest.here }

pub place_held : (shape subchunk : List ℕ) (n : ℕ) → can_cut shape subchunk ≡ true → n < product shape → IsHeld (parts_of shape subchunk) n
place_held shape subchunk n cuts below = held n (parts_of shape subchunk) (parts_cover shape subchunk n cuts below)
