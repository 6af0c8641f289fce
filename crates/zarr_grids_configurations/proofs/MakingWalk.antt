-- The walk that makes a dimension of each size and the edges given for it.
use Rattle.std.proofs.Common.{◌≡◌, ◌≢◌, ◌∙◌, ℕ, zero, suc, ◌+◌, ◌<◌, ◌≤◌, List, [], ◌∷◌, ◌++◌, length, get_or, drop, Bool, true, false, ◌&&◌, if◌then◌else◌, Option, Some, None, option_map, option_and_then, refl, sym, ap, subst, add-one, append_assoc, append-nil, arith}
use Rattle.std.specs.Prelude.{slice_get}
use Rattle.std.proofs.Math.Seq.{drop-cons}
use Rattle.std.proofs.Math.ListN.{drop_of_length-le}
use Rattle.std.proofs.lemmas.List.{map-append}
use Rattle.zarr_grids_chunks.specs.Grids.{Dimension, Grid}
use Rattle.zarr_grids_dimensions.specs.declared.dimension.Dimension.{Dimension as DeclaredDimension}
use Rattle.zarr_grids_dimensions.specs.Dimensions.{dimension_of, grid_of}
use Rattle.zarr_grids_configurations.specs.Grids.{Edges, is_positive, suits, is_countable, dimension_with, dimension_in, grid_in, in_every}
use Rattle.zarr_grids_configurations.specs.Errors.{Refuses, RefusesAt, RefusesGrid}
use Rattle.zarr_grids_configurations.specs.declared.error.GridError.{GridError}
use Rattle.zarr_grids_configurations.specs.declared.error.GridError.TheVariants.{Dimensionality, ZeroEdge, Sum, TooManyChunks, Memory}

abbrev positive_at : ℕ → Edges → Bool
positive_at size given = is_positive given

abbrev countable_at : ℕ → Edges → Bool
countable_at size given = is_countable given

-- what is left goes on from the dimensions so far, and fails each test that the whole fails
pub record MadeSoFar (shape : List ℕ) (given : List Edges) (made : Grid) (left : List ℕ) (rest : List Edges) : Type 0 where
  pub onward : grid_in shape given ≡ option_map (λ more. made ++ more) (grid_in left rest)
  pub positive : in_every (λ _ g. is_positive g) shape given ≡ in_every (λ _ g. is_positive g) left rest
  pub suited : in_every suits shape given ≡ in_every suits left rest
  pub countable : in_every (λ _ g. is_countable g) shape given ≡ in_every (λ _ g. is_countable g) left rest

unchanged : (o : Option Grid) → o ≡ option_map (λ more. [] ++ more) o
unchanged None = refl
unchanged (Some ds) = refl

pub made-start : (shape : List ℕ) (given : List Edges) → MadeSoFar shape given [] shape given
made-start shape given = record { onward = unchanged (grid_in shape given); positive = refl; suited = refl; countable = refl }

-- ---- one dimension
pub all-true : (a b c : Bool) (x d : Dimension) → (if (a && b) && c then Some x else None) ≡ Some d → (a ≡ true) × (b ≡ true) × (c ≡ true)
all-true true true true x d h = (refl, refl, refl)
all-true true true false x d h = absurd (cc)
all-true true false c x d h = absurd (cc)
all-true false b c x d h = absurd (cc)

joined : (made : Grid) (d : Dimension) (o : Option Grid) → option_map (λ more. made ++ more) (option_map (λ ds. d ∷ ds) o) ≡ option_map (λ more. (made ++ d ∷ []) ++ more) o
joined made d None = refl
joined made d (Some ds) = ap (λ xs. Some xs) (sym (append_assoc made (d ∷ []) ds))

head-made : (shape : List ℕ) (given : List Edges) (made : Grid) (s : ℕ) (ss : List ℕ) (g : Edges) (gs : List Edges) (d : Dimension) → dimension_in s g ≡ Some d
    → MadeSoFar shape given made (s ∷ ss) (g ∷ gs) → MadeSoFar shape given (made ++ d ∷ []) ss gs
head-made shape given made s ss g gs d h w =
    let t = all-true (is_positive g) (suits s g) (is_countable g) (dimension_with s g) d h in
    record {
      onward = w.onward ∙ ap (λ o. option_map (λ more. made ++ more) (option_and_then (λ x. option_map (λ ds. x ∷ ds) (grid_in ss gs)) o)) h ∙ joined made d (grid_in ss gs);
      positive = w.positive ∙ ap (λ b. b && in_every (λ _ x. is_positive x) ss gs) t.0;
      suited = w.suited ∙ ap (λ b. b && in_every suits ss gs) t.1;
      countable = w.countable ∙ ap (λ b. b && in_every (λ _ x. is_countable x) ss gs) t.2;
    }

refused-none : (s : ℕ) (g : Edges) (e : GridError) → e ≢ Memory → Refuses s g e → dimension_in s g ≡ None
refused-none s g (Dimensionality x) n h = absurd h
refused-none s g ZeroEdge n h = ap (λ b. if (b && suits s g) && is_countable g then Some (dimension_with s g) else None) h
refused-none s g Sum n h = ap (λ b. if (is_positive g && b) && is_countable g then Some (dimension_with s g) else None) h ∙ ap (λ b. if b && is_countable g then Some (dimension_with s g) else None) (no-and (is_positive g)) where
  no-and : (b : Bool) → (b && false) ≡ false
  no-and true = refl
  no-and false = refl
refused-none s g TooManyChunks n h = ap (λ b. if (is_positive g && suits s g) && b then Some (dimension_with s g) else None) h ∙ ap (λ b. if b then Some (dimension_with s g) else None) (no-and (is_positive g && suits s g)) where
  no-and : (b : Bool) → (b && false) ≡ false
  no-and true = refl
  no-and false = refl
refused-none s g Memory n h = absurd (n refl)

head-none : (shape : List ℕ) (given : List Edges) (made : Grid) (s : ℕ) (ss : List ℕ) (g : Edges) (gs : List Edges) (e : GridError) → e ≢ Memory → Refuses s g e
    → MadeSoFar shape given made (s ∷ ss) (g ∷ gs) → grid_in shape given ≡ None
head-none shape given made s ss g gs e n h w =
    w.onward ∙ ap (λ o. option_map (λ more. made ++ more) (option_and_then (λ x. option_map (λ ds. x ∷ ds) (grid_in ss gs)) o)) (refused-none s g e n h)

head-refused : (shape : List ℕ) (given : List Edges) (made : Grid) (s : ℕ) (ss : List ℕ) (g : Edges) (gs : List Edges) (e : GridError) → length given ≡ length shape → Refuses s g e
    → MadeSoFar shape given made (s ∷ ss) (g ∷ gs) → RefusesGrid shape given e
head-refused shape given made s ss g gs (Dimensionality x) l h w = absurd h
head-refused shape given made s ss g gs ZeroEdge l h w = w.positive ∙ ap (λ b. b && in_every (λ _ x. is_positive x) ss gs) h
head-refused shape given made s ss g gs Sum l h w = w.suited ∙ ap (λ b. b && in_every suits ss gs) h
head-refused shape given made s ss g gs TooManyChunks l h w = w.countable ∙ ap (λ b. b && in_every (λ _ x. is_countable x) ss gs) h
head-refused shape given made s ss g gs Memory l h w = l

-- ---- at an index
edges-within : (given : List Edges) (k : ℕ) → k < length given → (g : Edges) × (slice_get given k ≡ Some g)
edges-within [] k h = absurd (omega arith)
edges-within (g ∷ gs) zero h = (g, refl)
edges-within (g ∷ gs) (suc k) h = edges-within gs k (omega arith)

edges-at : (given : List Edges) (k : ℕ) (g : Edges) → slice_get given k ≡ Some g → drop k given ≡ g ∷ drop (suc k) given
edges-at [] k g h = absurd (cc)
edges-at (x ∷ xs) zero g h = let e : x ≡ g = cc in ap (λ y. y ∷ xs) e
edges-at (x ∷ xs) (suc k) g h = edges-at xs k g h

at-index : (shape : List ℕ) (given : List Edges) (made : Grid) (k : ℕ) (g : Edges) → k < length shape → slice_get given k ≡ Some g → MadeSoFar shape given made (drop k shape) (drop k given)
    → MadeSoFar shape given made (get_or shape k 0 ∷ drop (suc k) shape) (g ∷ drop (suc k) given)
at-index shape given made k g h e w =
    subst (λ (ss : List ℕ). MadeSoFar shape given made ss (g ∷ drop (suc k) given)) (drop-cons shape k 0 h)
    (subst (λ (gs : List Edges). MadeSoFar shape given made (drop k shape) gs) (edges-at given k g e) w)

pub made-step : (shape : List ℕ) (given : List Edges) (old new : List DeclaredDimension) (k : ℕ) (d : DeclaredDimension) → k < length shape → k < length given → new ≡ old ++ d ∷ []
    → option_and_then (dimension_in (get_or shape k 0)) (slice_get given k) ≡ Some (dimension_of d)
    → MadeSoFar shape given (grid_of old) (drop k shape) (drop k given) → MadeSoFar shape given (grid_of new) (drop (k + 1) shape) (drop (k + 1) given)
made-step shape given old new k d h l q m w =
    let x = edges-within given k l in
    let y : dimension_in (get_or shape k 0) x.0 ≡ Some (dimension_of d) = sym (ap (option_and_then (dimension_in (get_or shape k 0))) x.1) ∙ m in
    let z = head-made shape given (grid_of old) (get_or shape k 0) (drop (suc k) shape) x.0 (drop (suc k) given) (dimension_of d) y (at-index shape given (grid_of old) k x.0 h x.1 w) in
    let v : grid_of new ≡ grid_of old ++ dimension_of d ∷ [] = ap grid_of q ∙ map-append dimension_of old (d ∷ []) in
    subst (λ (ds : Grid). MadeSoFar shape given ds (drop (k + 1) shape) (drop (k + 1) given)) (sym v)
    (subst (λ (n : ℕ). MadeSoFar shape given (grid_of old ++ dimension_of d ∷ []) (drop n shape) (drop n given)) (sym (add-one k)) z)

at-edges : (size : ℕ) (o : Option Edges) (g : Edges) (e : GridError) → o ≡ Some g → RefusesAt size o e → Refuses size g e
at-edges size o g e q h = subst (λ (x : Option Edges). RefusesAt size x e) q h

pub none-at : (shape : List ℕ) (given : List Edges) (made : Grid) (k : ℕ) (e : GridError) → k < length shape → k < length given → e ≢ Memory
    → RefusesAt (get_or shape k 0) (slice_get given k) e → MadeSoFar shape given made (drop k shape) (drop k given) → grid_in shape given ≡ None
none-at shape given made k e h l n r w =
    let x = edges-within given k l in
    head-none shape given made (get_or shape k 0) (drop (suc k) shape) x.0 (drop (suc k) given) e n (at-edges _ _ _ e x.1 r) (at-index shape given made k x.0 h x.1 w)

pub refused-at : (shape : List ℕ) (given : List Edges) (made : Grid) (k : ℕ) (e : GridError) → k < length shape → length given ≡ length shape
    → RefusesAt (get_or shape k 0) (slice_get given k) e → MadeSoFar shape given made (drop k shape) (drop k given) → RefusesGrid shape given e
refused-at shape given made k e h l r w =
    let x = edges-within given k (omega arith) in
    head-refused shape given made (get_or shape k 0) (drop (suc k) shape) x.0 (drop (suc k) given) e l (at-edges _ _ _ e x.1 r) (at-index shape given made k x.0 h x.1 w)

pub made-all : (shape : List ℕ) (given : List Edges) (made : Grid) (k : ℕ) → length shape ≤ k → length given ≡ length shape → MadeSoFar shape given made (drop k shape) (drop k given) → grid_in shape given ≡ Some made
made-all shape given made k h l w =
    let g : length given ≤ k = omega arith in
    w.onward ∙ ap (λ ss. option_map (λ more. made ++ more) (grid_in ss (drop k given))) (drop_of_length-le shape h)
    ∙ ap (λ gs. option_map (λ more. made ++ more) (grid_in [] gs)) (drop_of_length-le given g) ∙ ap (λ c. Some c) (append-nil made)

-- another number of dimensions makes no grid
pub other_length : (shape : List ℕ) (given : List Edges) → length given ≢ length shape → grid_in shape given ≡ None
other_length [] [] h = absurd (h refl)
other_length [] (g ∷ given) h = refl
other_length (s ∷ shape) [] h = refl
other_length (s ∷ shape) (g ∷ given) h = ap (λ o. option_and_then (λ d. option_map (λ ds. d ∷ ds) o) (dimension_in s g)) (other_length shape given (λ e. h (omega arith))) ∙ nothing (dimension_in s g) where
  nothing : (o : Option Dimension) → option_and_then (λ d. option_map (λ ds. d ∷ ds) None) o ≡ None
  nothing None = refl
  nothing (Some d) = refl
