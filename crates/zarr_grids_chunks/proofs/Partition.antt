-- The intersecting chunks partition a covered box.
use Rattle.std.proofs.Common.{◌≡◌, ◌∙◌, ℕ, suc, ◌+◌, ◌-◌, ◌<◌, Bool, true, false, ◌||◌, List, [], ◌∷◌, length, map, get_or, replicate, refl, sym, ap, ⊎_elim, arith, Option, Some, None, bytes_eq}
use Rattle.std.specs.Option.{option_map_or}
use Rattle.std.specs.List.{range_with_len, list_any}
use Rattle.std.proofs.lemmas.Slice.Eq.{bytes_eq-Decides}
use Rattle.std.proofs.lemmas.Bool.{false≢true}
use Rattle.std.proofs.lemmas.List.Folds.{list_any_at}
use Rattle.std.proofs.lemmas.List.FromFn.{get_or-map-range_with_len, length-map-range_with_len}
use Rattle.std.proofs.Math.Bool.{or-true}
use Rattle.zarr_grids_boxes.specs.Boxes.{Region, product, places, place_at, ravel, each2, is_in_box, share_place}
use Rattle.zarr_grids_boxes.proofs.Dimensions.{ravel_below}
use Rattle.zarr_grids_boxes.proofs.Places.{places_by_number, in_box_below}
use Rattle.zarr_grids_boxes.proofs.InBox.{place_at-number}
use Rattle.zarr_grids_chunks.specs.Grids.{Grid, IsCovered, chunk_box, lies_in_chunk, intersects, intersecting, chunk_indices, grid_shape}
use Rattle.zarr_grids_chunks.proofs.Filters.{told, any-filter}
use Rattle.zarr_grids_boxes.proofs.Sharing.{share_place-of}

-- where a place of a chunk lies
pub lies_here : (grid : Grid) (chunk p : List ℕ) (box : Region) → chunk_box grid chunk ≡ Some box → lies_in_chunk grid p chunk ≡ is_in_box box.start box.shape p
lies_here grid chunk p box h = ap (λ o. option_map_or (λ (b : Region). is_in_box b.start b.shape p) o false) h

pub lies_has : (grid : Grid) (chunk p : List ℕ) → lies_in_chunk grid p chunk ≡ true → (box : Region) × (chunk_box grid chunk ≡ Some box) × (is_in_box box.start box.shape p ≡ true)
lies_has grid chunk p h = go (chunk_box grid chunk) refl h where
  go : (o : Option Region) → chunk_box grid chunk ≡ o → option_map_or (λ (b : Region). is_in_box b.start b.shape p) o false ≡ true → (box : Region) × (chunk_box grid chunk ≡ Some box) × (is_in_box box.start box.shape p ≡ true)
  go None e t = absurd (false≢true t)
  go (Some b) e t = (b, e, t)

-- a test that one element passes
pub any_at : (p : List ℕ → Bool) (c : List ℕ) (xs : List (List ℕ)) → list_any (bytes_eq c) xs ≡ true → p c ≡ true → list_any p xs ≡ true
any_at p c [] h t = absurd (false≢true h)
any_at p c (x ∷ xs) h t = go (any_at p c xs) where
  go : (list_any (bytes_eq c) xs ≡ true → p c ≡ true → list_any p xs ≡ true) → list_any p (x ∷ xs) ≡ true
  go i = ⊎_elim
      (λ e. ap (λ b. b || list_any p xs) (ap p (sym ((bytes_eq-Decides c x).0 e)) ∙ t))
      (λ e. ap (λ b. p x || b) (i (sym (ap (λ b. b || list_any (bytes_eq c) xs) e) ∙ h) t) ∙ or-true (p x))
      (told (bytes_eq c x))

-- each index of a box of indices stands in its list
pub any_places : (ss es q : List ℕ) → length ss ≡ length es → is_in_box ss es q ≡ true → list_any (bytes_eq q) (places ss es) ≡ true
any_places ss es q l t =
    let i = ravel (each2 (λ p s. p - s) q ss) es in
    let b : i < product es = ravel_below _ _ (in_box_below ss es q t) in
    let z : 0 + i ≡ i = omega arith in
    let k : i < length (map (place_at ss es) (range_with_len 0 (product es))) = rw (length-map-range_with_len (place_at ss es) 0 (product es)) b in
    ap (list_any (bytes_eq q)) (places_by_number ss es l)
    ∙ list_any_at (bytes_eq q) (map (place_at ss es) (range_with_len 0 (product es))) i [] k
    ((bytes_eq-Decides q (get_or (map (place_at ss es) (range_with_len 0 (product es))) i [])).1 (sym (get_or-map-range_with_len (place_at ss es) 0 (product es) i i [] b z ∙ place_at-number ss es q t)))

length-shape : (grid : Grid) → (let zeros : List ℕ = replicate (length grid) 0 in length zeros) ≡ length (grid_shape grid)
length-shape [] = refl
length-shape (d ∷ grid) = ap (λ n. suc n) (length-shape grid)

-- a place of a covered box lies in a chunk intersecting
pub intersecting-any : (grid : Grid) (region : Region) (p : List ℕ) → IsCovered grid region → is_in_box region.start region.shape p ≡ true → list_any (lies_in_chunk grid p) (intersecting grid region) ≡ true
intersecting-any grid region p covered t =
    let c = covered.covered p t in
    let shares : intersects grid region c.0 ≡ true = ap (λ o. option_map_or (λ (b : Region). share_place b.start b.shape region.start region.shape) o false) c.2.has_box ∙ share_place-of c.1.start c.1.shape region.start region.shape p c.3 t in
    let among = any_places (replicate (length grid) 0) (grid_shape grid) c.0 (length-shape grid) c.2.below in
    any_at (lies_in_chunk grid p) c.0 (intersecting grid region) (any-filter (intersects grid region) c.0 (chunk_indices grid) among shares) (lies_here grid c.0 p c.1 c.2.has_box ∙ c.3)
