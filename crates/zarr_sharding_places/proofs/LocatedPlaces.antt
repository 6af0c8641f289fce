-- The subchunk that a place lies in, and its place there.
use Rattle.std.proofs.Common.{◌≡◌, ◌∙◌, ℕ, ◌+◌, ◌-◌, ◌*◌, ◌/◌, ◌%◌, min, List, [], ◌∷◌, ◌++◌, map, get_or, refl, sym, ap, arith}
use Rattle.std.specs.List.{range_with_len}
use Rattle.std.proofs.lemmas.List.FromFn.{map-range_with_len_more}
use Rattle.zarr_grids_boxes.specs.Boxes.{product}
use Rattle.zarr_codecs_meaning.specs.Places.{box_of, grid_of}
use Rattle.zarr_sharding_places.specs.Locating.{asked_place, axes_of, block_of, inside_of, located, subchunk_of}
use Rattle.zarr_sharding_places.specs.declared.locating.AskedPlace.{AskedPlace}
use Rattle.zarr_sharding_places.specs.declared.locating.Axis.{Axis}
use Rattle.zarr_sharding_places.specs.declared.locating.Located.{Located}

-- what one dimension adds: here is its size, edge and how many subchunks the later dimensions have
abbrev step : ℕ → ℕ → ℕ → ℕ → Located → Located
step size edge subchunks along rest =
    let block = along / edge in
    record {
      subchunk = block * subchunks + rest.subchunk;
      inside = along % edge * rest.count + rest.inside;
      count = min edge (size - block * edge) * rest.count;
    }

-- where a place lies, by the definitions
abbrev place_in : List ℕ → List ℕ → ℕ → Located
place_in shape subchunk n =
    record {
      subchunk = subchunk_of shape subchunk n;
      inside = inside_of shape subchunk n;
      count = product (box_of shape subchunk (block_of shape subchunk n)).shape;
    }

-- the numbers by the axes
located_as : (shape subchunk : List ℕ) (n : ℕ) → located (axes_of shape subchunk (grid_of shape subchunk)) n ≡ place_in shape subchunk n
located_as [] [] n = refl
located_as [] (edge ∷ edges) n = refl
located_as (size ∷ sizes) [] n = refl
located_as (size ∷ sizes) (edge ∷ edges) n =
    let along = n / product sizes in
    let left = n % product sizes in
    let zero_first : 0 + along ≡ along = omega arith in
    let here = step size edge (product (grid_of sizes edges)) in
    ap (here along) (located_as sizes edges left) ∙ ap (λ a. here a (place_in sizes edges left)) (sym zero_first)

-- a place by where it lies
abbrev asked_at : Located → ℕ → AskedPlace
asked_at p t = record { subchunk = p.subchunk; inside = p.inside; position = t }

-- one place more
pub places_more : (shape subchunk grid numbers : List ℕ) (axes : List Axis) (places made : List AskedPlace) (t n : ℕ) (found : Located) → grid ≡ grid_of shape subchunk → axes ≡ axes_of shape subchunk grid → n ≡ get_or numbers t 0
    → found ≡ located axes n → places ≡ map (asked_place shape subchunk numbers) (range_with_len 0 t) → made ≡ places ++ asked_at found t ∷ []
    → made ≡ map (asked_place shape subchunk numbers) (range_with_len 0 (t + 1))
places_more shape subchunk grid numbers axes places made t n found is_grid are at_ is before pushed =
    let f = asked_place shape subchunk numbers in
    let m = get_or numbers t 0 in
    let both : found ≡ place_in shape subchunk m =
    is ∙ (ap (λ xs. located xs n) (are ∙ ap (axes_of shape subchunk) is_grid) ∙ (ap (located (axes_of shape subchunk (grid_of shape subchunk))) at_ ∙ located_as shape subchunk m)) in
    let one : AskedPlace = f t in
    let same : asked_at found t ≡ f t = ap (λ (p : Located). asked_at p t) both in
    pushed ∙ (ap (λ ps. places ++ ps ∷ []) same ∙ (ap (λ ps. ps ++ f t ∷ []) before ∙ sym (map-range_with_len_more f 0 t t (omega arith))))
