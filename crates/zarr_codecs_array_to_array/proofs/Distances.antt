-- Places of an array as sums of strides.
use Rattle.std.proofs.Common.{◌≡◌, ℕ, zero, suc, ◌+◌, ◌*◌, ◌<◌, List, [], ◌∷◌, ◌++◌, length, map, set, get_or, slice_index, replicate, ap, ◌∙◌, sym, refl, arith}
use Rattle.std.specs.Prelude.{flat_map, Option, Some, None, IfSome}
use Rattle.std.specs.List.{range_with_len}
use Rattle.std.proofs.lemmas.Simd.{map-map}
use Rattle.zarr_grids_boxes.specs.Boxes.{product, place_at, ravel}
use Rattle.zarr_grids_boxes.proofs.Places.{places_by_number}
use Rattle.zarr_codecs_meaning.specs.Places.{place_numbers, places_of}
use Rattle.zarr_codecs_meaning.proofs.Covers.{zeros, length-zeros}
use Rattle.zarr_codecs_strides.specs.Strides.{strided}
use Rattle.zarr_codecs_strides.proofs.Walks.{flat_same}
use Rattle.zarr_codecs_array_to_array.specs.Moving.{picked_number}
use Rattle.zarr_codecs_array_to_array.specs.Strided.{distance}

-- ---- a stride that grows

distance_set : (place strides : List ℕ) (d x : ℕ) → d < length strides → length place ≡ length strides → distance place (set strides d (get_or strides d 0 + x)) ≡ distance place strides + get_or place d 0 * x
distance_set [] [] d x h l = absurd (omega (arith, h))
distance_set [] (s ∷ ss) d x h l = absurd (omega (arith, l))
distance_set (p ∷ ps) [] d x h l = absurd (omega (arith, l))
distance_set (p ∷ ps) (s ∷ ss) zero x h l = let e : p * (s + x) ≡ p * s + p * x = grind arith in omega (arith, e)
distance_set (p ∷ ps) (s ∷ ss) (suc d) x h l = let rest = distance_set ps ss d x (omega (arith, h)) (omega (arith, l)) in omega (arith, rest)

-- one dimension more of the other shape
pub distance_added : (place old mid : List ℕ) (d size : ℕ) (picks to picked shape : List ℕ) → picked ≡ d ∷ picks → shape ≡ size ∷ to → d < length mid → length place ≡ length mid
    → distance place mid ≡ distance place old + ravel (map (slice_index place) picks) to → distance place (set mid d (get_or mid d 0 + product to)) ≡ distance place old + ravel (map (slice_index place) picked) shape
distance_added place old mid d size picks to picked shape e f h l rest =
    let more = distance_set place mid d (product to) h l in
    let is : ravel (map (slice_index place) (d ∷ picks)) (size ∷ to) ≡ get_or place d 0 * product to + ravel (map (slice_index place) picks) to = refl in
    let all : distance place (set mid d (get_or mid d 0 + product to)) ≡ distance place old + ravel (map (slice_index place) (d ∷ picks)) (size ∷ to) = omega (arith, more, rest, is) in
    all ∙ (ap (λ ns. distance place old + ravel (map (slice_index place) ns) (size ∷ to)) (sym e) ∙ ap (λ ns. distance place old + ravel (map (slice_index place) picked) ns) (sym f))

distance_zeros : (place : List ℕ) (n : ℕ) → distance place (replicate n 0) ≡ 0
distance_zeros [] n = refl
distance_zeros (p ∷ ps) zero = refl
distance_zeros (p ∷ ps) (suc n) = let rest = distance_zeros ps n in let z : p * 0 ≡ 0 = omega arith in omega (arith, rest, z)

pub distance_from_zeros : (place : List ℕ) (n more : ℕ) → distance place (replicate n 0) + more ≡ more
distance_from_zeros place n more = let z = distance_zeros place n in omega (arith, z)

-- ---- a walk along strides

map_append : {B C : Type 0} (f : B → C) (xs ys : List B) → map f (xs ++ ys) ≡ map f xs ++ map f ys
map_append f [] ys = refl
map_append f (x ∷ xs) ys = ap (λ zs. f x ∷ zs) (map_append f xs ys)

map_flat_map : {A B C : Type 0} (f : B → C) (g : A → List B) (xs : List A) → map f (flat_map g xs) ≡ flat_map (λ x. map f (g x)) xs
map_flat_map f g [] = refl
map_flat_map f g (x ∷ xs) = map_append f (g x) (flat_map g xs) ∙ ap (λ ys. map f (g x) ++ ys) (map_flat_map f g xs)

-- functions that agree on lists of a length agree on all places of a shape
map_places : {X : Type 0} (f g : List ℕ → X) (shape : List ℕ) → ((p : List ℕ) → length p ≡ length shape → f p ≡ g p) → map f (places_of shape) ≡ map g (places_of shape)
map_places f g [] h = ap (λ x. x ∷ []) (h [] refl)
map_places f g (e ∷ es) h =
    map_flat_map f (λ k. map (λ r. k ∷ r) (places_of es)) (range_with_len 0 e)
    ∙ flat_same (λ k. map f (map (λ r. k ∷ r) (places_of es))) (λ k. map g (map (λ r. k ∷ r) (places_of es))) (range_with_len 0 e)
    (λ k. map-map f (λ r. k ∷ r) (places_of es) ∙ map_places (λ r. f (k ∷ r)) (λ r. g (k ∷ r)) es (λ p l. h (k ∷ p) (ap suc l)) ∙ sym (map-map g (λ r. k ∷ r) (places_of es)))
    ∙ sym (map_flat_map g (λ k. map (λ r. k ∷ r) (places_of es)) (range_with_len 0 e))

strided_places : (base : ℕ) (sizes strides : List ℕ) → length strides ≡ length sizes → strided base sizes strides ≡ map (λ p. base + distance p strides) (places_of sizes)
strided_places base [] [] l = ap (λ n. n ∷ []) (omega arith)
strided_places base [] (s ∷ ss) l = absurd (omega arith)
strided_places base (e ∷ es) [] l = absurd (omega arith)
strided_places base (e ∷ es) (s ∷ ss) l =
    flat_same (λ k. strided (base + k * s) es ss) (λ k. map (λ p. base + distance p (s ∷ ss)) (map (λ r. k ∷ r) (places_of es))) (range_with_len 0 e)
    (λ k. strided_places (base + k * s) es ss (omega arith)
    ∙ map_places (λ p. base + k * s + distance p ss) (λ r. base + (k * s + distance r ss)) es (λ p _. omega arith)
    ∙ sym (map-map (λ p. base + distance p (s ∷ ss)) (λ r. k ∷ r) (places_of es)))
    ∙ sym (map_flat_map (λ p. base + distance p (s ∷ ss)) (λ k. map (λ r. k ∷ r) (places_of es)) (range_with_len 0 e))

-- a walk comes by the places that a route picks
pub picked_strided : (from picks to strides : List ℕ) → length strides ≡ length from → ((place : List ℕ) → length place ≡ length from → distance place strides ≡ ravel (map (slice_index place) picks) to)
    → strided 0 from strides ≡ map (picked_number from picks to) (place_numbers from)
picked_strided from picks to strides l law =
    let f : List ℕ → ℕ = λ place. ravel (map (slice_index place) picks) to in
    strided_places 0 from strides l
    ∙ (map_places (λ p. 0 + distance p strides) f from (λ p long. let e = law p long in omega (arith, e))
    ∙ (ap (map f) (places_by_number (zeros from) from (length-zeros from)) ∙ map-map f (place_at (zeros from) from) (place_numbers from)))

pub any_some : {P : Type 0} (r : Option ℕ) → P → IfSome r (λ n. P)
any_some None h = tt
any_some (Some n) h = h
