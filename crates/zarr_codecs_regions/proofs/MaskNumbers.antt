-- The numbers of masks, taken and put as elements of one byte.
use Rattle.std.proofs.Common.{◌≡◌, ◌∙◌, ℕ, zero, suc, List, [], ◌∷◌, length, map, get_or, set, slice_index, flat_map, Some, option_map, option_and_then, refl, sym, ap, arith}
use Rattle.zarr_codecs_meaning.specs.Types.{DataType, optional_of, Cell, of_bytes, cell_bytes}
use Rattle.zarr_codecs_meaning.specs.Payloads.{Payload, optional, fixed_cells, masked, masked_in, cells_in}
use Rattle.zarr_codecs_meaning.specs.Places.{gather}
use Rattle.zarr_codecs_meaning.proofs.Lists.{some_same, bind_some, map_some}
use Rattle.zarr_codecs_arrays.proofs.FixedCells.{fixed_cells-nil, fixed_cells-cons}
use Rattle.zarr_codecs_arrays.proofs.Masks.{masked_parts, masked_lengths}
use Rattle.zarr_codecs_regions.specs.Updates.{put}
use Rattle.zarr_codecs_regions.proofs.Puts.{map_put}

-- ---- a mask's numbers as elements

abbrev pub as_cell : ℕ → Cell
as_cell n = of_bytes (n ∷ [])

mask_cells : (mask : List ℕ) → fixed_cells 1 mask ≡ map as_cell mask
mask_cells [] = fixed_cells-nil 1
mask_cells (n ∷ mask) = fixed_cells-cons 1 (n ∷ []) mask (omega arith) refl ∙ ap (λ cs. as_cell n ∷ cs) (mask_cells mask)

numbers_back : (mask : List ℕ) → flat_map cell_bytes (map as_cell mask) ≡ mask
numbers_back [] = refl
numbers_back (n ∷ mask) = ap (λ ns. n ∷ ns) (numbers_back mask)

same_numbers : (ms ns : List ℕ) → map as_cell ms ≡ map as_cell ns → ms ≡ ns
same_numbers ms ns e = sym (numbers_back ms) ∙ (ap (flat_map cell_bytes) e ∙ numbers_back ns)

get_cell : (mask : List ℕ) (n : ℕ) → get_or (map as_cell mask) n (as_cell 0) ≡ as_cell (slice_index mask n)
get_cell [] zero = refl
get_cell [] (suc n) = refl
get_cell (m ∷ mask) zero = refl
get_cell (m ∷ mask) (suc n) = get_cell mask n

gathered_cells : (mask numbers : List ℕ) → gather (as_cell 0) (map as_cell mask) numbers ≡ map as_cell (map (slice_index mask) numbers)
gathered_cells mask [] = refl
gathered_cells mask (n ∷ numbers) = ap (λ c. c ∷ gather (as_cell 0) (map as_cell mask) numbers) (get_cell mask n) ∙ ap (λ cs. as_cell (slice_index mask n) ∷ cs) (gathered_cells mask numbers)

pub mask_taken : (mask made numbers : List ℕ) → fixed_cells 1 made ≡ gather (as_cell 0) (fixed_cells 1 mask) numbers → made ≡ map (slice_index mask) numbers
mask_taken mask made numbers h =
    same_numbers made (map (slice_index mask) numbers) (sym (mask_cells made) ∙ (h ∙ (ap (λ cs. gather (as_cell 0) cs numbers) (mask_cells mask) ∙ gathered_cells mask numbers)))

pub mask_put : (mask marks made numbers : List ℕ) → fixed_cells 1 made ≡ put numbers (fixed_cells 1 marks) (fixed_cells 1 mask) → made ≡ put numbers marks mask
mask_put mask marks made numbers h =
    same_numbers made (put numbers marks mask)
    (sym (mask_cells made) ∙ (h ∙ (ap (λ cs. put numbers cs (fixed_cells 1 mask)) (mask_cells marks) ∙ (ap (put numbers (map as_cell marks)) (mask_cells mask) ∙ sym (map_put as_cell numbers marks mask)))))

-- ---- elements below a mask

set_masked : (below : List Cell) (mask : List ℕ) (all : List Cell) (n : ℕ) (c : Cell) (m : ℕ) (x : Cell) → masked_in below mask ≡ Some all → masked c m ≡ Some x → masked_in (set below n c) (set mask n m) ≡ Some (set all n x)
set_masked [] [] all zero c m x h is = ap (λ cs. Some (set cs 0 x)) (some_same h)
set_masked [] [] all (suc n) c m x h is = ap (λ cs. Some (set cs (suc n) x)) (some_same h)
set_masked [] (k ∷ mask) all n c m x h is = cc
set_masked (b ∷ below) [] all n c m x h is = cc
set_masked (b ∷ below) (k ∷ mask) all zero c m x h is =
    let one = bind_some (λ first. option_map (λ others. first ∷ others) (masked_in below mask)) (masked b k) all h in
    let two = map_some (λ others. one.0 ∷ others) (masked_in below mask) all one.2 in
    ap (option_and_then (λ first. option_map (λ others. first ∷ others) (masked_in below mask))) is
    ∙ (ap (option_map (λ others. x ∷ others)) two.1 ∙ ap (λ cs. Some (set cs 0 x)) two.2)
set_masked (b ∷ below) (k ∷ mask) all (suc n) c m x h is =
    let one = bind_some (λ first. option_map (λ others. first ∷ others) (masked_in below mask)) (masked b k) all h in
    let two = map_some (λ others. one.0 ∷ others) (masked_in below mask) all one.2 in
    ap (option_and_then (λ first. option_map (λ others. first ∷ others) (masked_in (set below n c) (set mask n m)))) one.1
    ∙ (ap (option_map (λ others. one.0 ∷ others)) (set_masked below mask two.0 n c m x two.1 is) ∙ ap (λ cs. Some (set cs (suc n) x)) two.2)

put_masked : (numbers : List ℕ) (new below : List Cell) (marks mask : List ℕ) (given before : List Cell) → masked_in below mask ≡ Some before → masked_in new marks ≡ Some given → masked_in (put numbers new below) (put numbers marks mask) ≡ Some (put numbers given before)
put_masked [] new below marks mask given before b g = b
put_masked (n ∷ numbers) [] below [] mask given before b g = b ∙ ap (λ cs. Some (put (n ∷ numbers) cs before)) (some_same g)
put_masked (n ∷ numbers) [] below (m ∷ marks) mask given before b g = cc
put_masked (n ∷ numbers) (c ∷ new) below [] mask given before b g = cc
put_masked (n ∷ numbers) (c ∷ new) below (m ∷ marks) mask given before b g =
    let one = bind_some (λ first. option_map (λ others. first ∷ others) (masked_in new marks)) (masked c m) given g in
    let two = map_some (λ others. one.0 ∷ others) (masked_in new marks) given one.2 in
    put_masked numbers new (set below n c) marks (set mask n m) two.0 (set before n one.0) (set_masked below mask before n c m one.0 b one.1) two.1
    ∙ ap (λ cs. Some (put (n ∷ numbers) cs before)) two.2

-- elements that may be absent, of those below a mask and of the mask, after new ones were put
pub put_masked_cells : (whole type : DataType) (array update inner others made : Payload) (mask marks after : List ℕ) (before given : List Cell) (numbers : List ℕ) (count : ℕ) → whole ≡ optional_of type → array ≡ optional inner mask → update ≡ optional others marks → after ≡ put numbers marks mask
    → ((below new : List Cell) → cells_in type inner ≡ Some below → length below ≡ count → cells_in type others ≡ Some new → length new ≡ length numbers → cells_in type made ≡ Some (put numbers new below))
    → cells_in whole array ≡ Some before → length before ≡ count → cells_in whole update ≡ Some given → length given ≡ length numbers → cells_in whole (optional made after) ≡ Some (put numbers given before)
put_masked_cells whole type array update inner others made mask marks after before given numbers count t a u is law b old g new =
    let one = masked_parts whole type array inner mask before t a b in
    let two = masked_parts whole type update others marks given t u g in
    let ones = masked_lengths one.below mask before one.marked in
    let twos = masked_lengths two.below marks given two.marked in
    let cells = law one.below two.below one.inside (ones.1 ∙ (sym ones.0 ∙ old)) two.inside (twos.1 ∙ (sym twos.0 ∙ new)) in
    ap (λ x. cells_in x (optional made after)) t
    ∙ (ap (option_and_then (λ cs. masked_in cs after)) cells
    ∙ (ap (masked_in (put numbers two.below one.below)) is ∙ put_masked numbers two.below one.below marks mask given before one.marked two.marked))
