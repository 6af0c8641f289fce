-- The chunks that a box intersects, one by one.
use Rattle.std.proofs.Common.{◌≡◌, ◌∙◌, ℕ, zero, suc, ◌+◌, ◌<◌, ◌≤◌, true, List, [], ◌∷◌, ◌++◌, length, map, get_or, slice_get, take, sym, ap, subst, arith, bytes_eq, Some, ⊎_elim}
use Rattle.std.specs.List.{range_with_len, list_any}
use Rattle.std.proofs.lemmas.Bool.{cases_order}
use Rattle.std.proofs.lemmas.List.FromFn.{get_or-map-range_with_len, map-range_with_len_more}
use Rattle.std.proofs.lemmas.Option.{slice_get-get_or}
use Rattle.zarr_grids_boxes.specs.Boxes.{Region, product, places, place_at, is_in_box}
use Rattle.zarr_grids_boxes.proofs.Places.{places_by_number, take_places}
use Rattle.zarr_grids_boxes.proofs.InBox.{in_box-place_at, length-places}
use Rattle.zarr_grids_chunks.specs.Grids.{Grid, IsInGrid, AreInGrid, chunk_indices, intersects, intersecting}
use Rattle.zarr_grids_chunks.proofs.Filters.{filter-any}
use Rattle.zarr_grids_chunks.proofs.Partition.{any_places}
use Rattle.zarr_grids_cover.specs.Intersecting.{AreIntersecting}
use Rattle.zarr_codecs_meaning.proofs.Lists.{some_same}
use Rattle.zarr_array_meaning.specs.Chunks.{IsNthIntersecting, is_listed}
use Rattle.zarr_array_core.proofs.Listed.{before_listed, last_listed, listed_number}

-- the first chunks of a box of chunk indices
abbrev pub first_chunks : Region → ℕ → List (List ℕ)
first_chunks chunks n = map (place_at chunks.start chunks.shape) (range_with_len 0 n)

pub first_chunks-more : (chunks : Region) (n : ℕ) → first_chunks chunks (n + 1) ≡ first_chunks chunks n ++ place_at chunks.start chunks.shape n ∷ []
first_chunks-more chunks n = map-range_with_len_more (place_at chunks.start chunks.shape) 0 n n (omega arith)

pub first_chunks-places : (chunks : Region) (n : ℕ) → length chunks.start ≡ length chunks.shape → n ≡ product chunks.shape → first_chunks chunks n ≡ places chunks.start chunks.shape
first_chunks-places chunks n l e = ap (first_chunks chunks) e ∙ sym (places_by_number chunks.start chunks.shape l)

pub first_chunks-taken : (chunks : Region) (n : ℕ) → length chunks.start ≡ length chunks.shape → n ≤ product chunks.shape → first_chunks chunks n ≡ take n (places chunks.start chunks.shape)
first_chunks-taken chunks n l h = sym (take_places chunks.start chunks.shape n l h)

pub first_chunks-all : (grid : Grid) (region chunks : Region) (n : ℕ) → length chunks.start ≡ length chunks.shape → AreIntersecting grid region chunks → n ≡ product chunks.shape → first_chunks chunks n ≡ intersecting grid region
first_chunks-all grid region chunks n l m e = first_chunks-places chunks n l e ∙ m.listed

pub first_chunks-take : (grid : Grid) (region chunks : Region) (n : ℕ) → length chunks.start ≡ length chunks.shape → AreIntersecting grid region chunks → n ≤ product chunks.shape → first_chunks chunks n ≡ take n (intersecting grid region)
first_chunks-take grid region chunks n l m h = first_chunks-taken chunks n l h ∙ ap (take n) m.listed

pub length-intersecting : (grid : Grid) (region chunks : Region) → length chunks.start ≡ length chunks.shape → AreIntersecting grid region chunks → length (intersecting grid region) ≡ product chunks.shape
length-intersecting grid region chunks l m = sym (ap length m.listed) ∙ length-places chunks.start chunks.shape l

-- one of them
pub nth_here : (grid : Grid) (chunks : Region) (n : ℕ) (chunk : List ℕ) → length chunks.start ≡ length chunks.shape → AreInGrid grid chunks → n < product chunks.shape → chunk ≡ place_at chunks.start chunks.shape n
    → (box : Region) × IsInGrid grid chunk box
nth_here grid chunks n chunk l below h e = below.below chunk (ap (is_in_box chunks.start chunks.shape) e ∙ in_box-place_at chunks.start chunks.shape n l h)

pub shares_here : (grid : Grid) (region chunks : Region) (n : ℕ) (chunk : List ℕ) → length chunks.start ≡ length chunks.shape → AreIntersecting grid region chunks → n < product chunks.shape → chunk ≡ place_at chunks.start chunks.shape n
    → intersects grid region chunk ≡ true
shares_here grid region chunks n chunk l m h e =
    let c = place_at chunks.start chunks.shape n in
    ap (intersects grid region) e
    ∙ filter-any (intersects grid region) c (chunk_indices grid) (ap (list_any (bytes_eq c)) (sym m.listed) ∙ any_places chunks.start chunks.shape c l (in_box-place_at chunks.start chunks.shape n l h))

pub first_chunks-below : (grid : Grid) (chunks : Region) (n : ℕ) (d : List ℕ) → length chunks.start ≡ length chunks.shape → AreInGrid grid chunks → n ≤ product chunks.shape → is_listed (first_chunks chunks n) d ≡ true
    → (box : Region) × IsInGrid grid d box
first_chunks-below grid chunks n d l below h t =
    let k = listed_number (place_at chunks.start chunks.shape) 0 n d t in
    let b = k.1 in
    let i : k.0 < product chunks.shape = omega arith in
    nth_here grid chunks k.0 d l below i k.2

-- ---- the chunk at a number

at_number : (grid : Grid) (region chunks : Region) (n : ℕ) → length chunks.start ≡ length chunks.shape → AreIntersecting grid region chunks → n < product chunks.shape → slice_get (intersecting grid region) n ≡ Some (place_at chunks.start chunks.shape n)
at_number grid region chunks n l m below =
    ap (λ (cs : List (List ℕ)). slice_get cs n) (sym m.listed) ∙ (slice_get-get_or (places chunks.start chunks.shape) n [] (omega (arith, below, length-places chunks.start chunks.shape l))
    ∙ ap Some (ap (λ (cs : List (List ℕ)). get_or cs n []) (places_by_number chunks.start chunks.shape l) ∙ get_or-map-range_with_len (place_at chunks.start chunks.shape) 0 (product chunks.shape) n n [] below (omega arith)))

pub nth_number : (grid : Grid) (region chunks : Region) (n : ℕ) (chunk : List ℕ) (box : Region) → length chunks.start ≡ length chunks.shape → AreIntersecting grid region chunks → n < product chunks.shape → chunk ≡ place_at chunks.start chunks.shape n → IsInGrid grid chunk box
    → IsNthIntersecting grid region n chunk box
nth_number grid region chunks n chunk box l m below e here = record { listed = at_number grid region chunks n l m below ∙ ap Some (sym e); has_box = here.has_box }

earlier_listed : (chunks : Region) (n m : ℕ) → m < n → is_listed (first_chunks chunks n) (place_at chunks.start chunks.shape m) ≡ true
earlier_listed chunks zero m h = absurd (omega arith)
earlier_listed chunks (suc n) m h =
    let last = place_at chunks.start chunks.shape n in
    let here = place_at chunks.start chunks.shape m in
    let one_more : suc n ≡ n + 1 = omega arith in
    let listed : is_listed (first_chunks chunks n ++ last ∷ []) here ≡ true = ⊎_elim
    (λ e. last_listed (first_chunks chunks n) last here (ap (place_at chunks.start chunks.shape) e))
    (λ apart. ⊎_elim (λ less. before_listed (first_chunks chunks n) last here (earlier_listed chunks n m less)) (λ more. absurd (omega arith)) apart)
    (cases_order m n) in
    subst (λ (k : ℕ). is_listed (first_chunks chunks k) here ≡ true) (sym one_more) (subst (λ (cs : List (List ℕ)). is_listed cs here ≡ true) (sym (first_chunks-more chunks n)) listed)

-- a chunk that stands before another
pub nth_before : (grid : Grid) (region chunks : Region) (n m : ℕ) (earlier : List ℕ) (other : Region) → length chunks.start ≡ length chunks.shape → AreIntersecting grid region chunks → n ≤ product chunks.shape → m < n → IsNthIntersecting grid region m earlier other
    → (is_listed (first_chunks chunks n) earlier ≡ true) × IsInGrid grid earlier other
nth_before grid region chunks n m earlier other l are h less nth =
    let low : m < product chunks.shape = omega arith in
    let e : earlier ≡ place_at chunks.start chunks.shape m = some_same (sym nth.listed ∙ at_number grid region chunks m l are low) in
    let found = nth_here grid chunks m earlier l are.below low e in
    let same : found.0 ≡ other = some_same (sym found.1.has_box ∙ nth.has_box) in
    (ap (is_listed (first_chunks chunks n)) e ∙ earlier_listed chunks n m less, subst (λ (b : Region). IsInGrid grid earlier b) same found.1)
