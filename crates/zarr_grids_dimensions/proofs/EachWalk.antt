-- Walks that find a number of each dimension of a chunk.
use Rattle.std.proofs.Common.{◌≡◌, ◌∙◌, ℕ, ◌+◌, ◌<◌, ◌≤◌, List, [], ◌∷◌, ◌++◌, length, get_or, drop, refl, sym, ap, Option, Some, None, option_map, option_and_then, append_assoc, append-nil}
use Rattle.std.proofs.Math.ListN.{drop_of_length-le}
use Rattle.zarr_grids_chunks.specs.Grids.{Dimension}
use Rattle.zarr_grids_dimensions.specs.declared.dimension.Dimension.{Dimension as DeclaredDimension}
use Rattle.zarr_grids_dimensions.specs.Dimensions.{dimension_of, grid_of}
use Rattle.zarr_grids_dimensions.specs.Chunks.{in_each}
use Rattle.zarr_grids_dimensions.proofs.PlaceWalk.{grid-at, numbers-at}

-- what in_each answers at an index
here : (f : Dimension → ℕ → Option ℕ) (ds : List DeclaredDimension) (chunk : List ℕ) (i k : ℕ) (d : DeclaredDimension) → i < length ds → i < length chunk → d ≡ get_or ds i d → k ≡ get_or chunk i 0
    → in_each f (grid_of (drop i ds)) (drop i chunk) ≡ option_and_then (λ n. option_map (λ ns. n ∷ ns) (in_each f (grid_of (drop (i + 1) ds)) (drop (i + 1) chunk))) (f (dimension_of d) k)
here f ds chunk i k d h l e g = ap (λ xs. in_each f xs (drop i chunk)) (grid-at ds i d h e) ∙ ap (λ ks. in_each f (dimension_of d ∷ grid_of (drop (i + 1) ds)) ks) (numbers-at chunk i k l g)

more : (found : List ℕ) (n : ℕ) (o : Option (List ℕ)) → option_map (λ (ns : List ℕ). found ++ ns) (option_map (λ (ns : List ℕ). n ∷ ns) o) ≡ option_map (λ (ns : List ℕ). (found ++ n ∷ []) ++ ns) o
more found n None = refl
more found n (Some ns) = ap (λ c. Some c) (sym (append_assoc found (n ∷ []) ns))

pub each-step : (f : Dimension → ℕ → Option ℕ) (ds : List DeclaredDimension) (chunk found : List ℕ) (i k n : ℕ) (d : DeclaredDimension) (whole : Option (List ℕ)) → i < length ds → i < length chunk
    → d ≡ get_or ds i d → k ≡ get_or chunk i 0 → Some n ≡ f (dimension_of d) k
    → whole ≡ option_map (λ (ns : List ℕ). found ++ ns) (in_each f (grid_of (drop i ds)) (drop i chunk))
    → whole ≡ option_map (λ (ns : List ℕ). (found ++ n ∷ []) ++ ns) (in_each f (grid_of (drop (i + 1) ds)) (drop (i + 1) chunk))
each-step f ds chunk found i k n d whole h l e g s w =
    let rest : Option (List ℕ) = in_each f (grid_of (drop (i + 1) ds)) (drop (i + 1) chunk) in
    w ∙ ap (λ o. option_map (λ (ns : List ℕ). found ++ ns) o) (here f ds chunk i k d h l e g ∙ ap (λ o. option_and_then (λ m. option_map (λ ns. m ∷ ns) rest) o) (sym s)) ∙ more found n rest

pub each-none : (f : Dimension → ℕ → Option ℕ) (ds : List DeclaredDimension) (chunk found : List ℕ) (i k : ℕ) (d : DeclaredDimension) (whole : Option (List ℕ)) → i < length ds → i < length chunk
    → d ≡ get_or ds i d → k ≡ get_or chunk i 0 → None ≡ f (dimension_of d) k
    → whole ≡ option_map (λ (ns : List ℕ). found ++ ns) (in_each f (grid_of (drop i ds)) (drop i chunk)) → None ≡ whole
each-none f ds chunk found i k d whole h l e g s w =
    let rest : Option (List ℕ) = in_each f (grid_of (drop (i + 1) ds)) (drop (i + 1) chunk) in
    sym (w ∙ ap (λ o. option_map (λ (ns : List ℕ). found ++ ns) o) (here f ds chunk i k d h l e g ∙ ap (λ o. option_and_then (λ m. option_map (λ ns. m ∷ ns) rest) o) (sym s)))

pub each-all : (f : Dimension → ℕ → Option ℕ) (ds : List DeclaredDimension) (chunk found : List ℕ) (i : ℕ) (whole : Option (List ℕ)) → length ds ≤ i → length chunk ≤ i
    → whole ≡ option_map (λ (ns : List ℕ). found ++ ns) (in_each f (grid_of (drop i ds)) (drop i chunk)) → Some found ≡ whole
each-all f ds chunk found i whole h l w =
    sym (w ∙ ap (λ xs. option_map (λ (ns : List ℕ). found ++ ns) (in_each f (grid_of xs) (drop i chunk))) (drop_of_length-le ds h)
    ∙ ap (λ ks. option_map (λ (ns : List ℕ). found ++ ns) (in_each f [] ks)) (drop_of_length-le chunk l) ∙ ap (λ c. Some c) (append-nil found))
