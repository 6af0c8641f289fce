-- Causes that a grid is never refused for.
use Rattle.std.proofs.Common.{◌≡◌, ◌∙◌, ℕ, ◌<◌, ◌^◌, List, [], ◌∷◌, length, map, Bool, true, false, ◌&&◌, nat_lt, refl, sym, subst, arith}
use Rattle.std.proofs.lemmas.Bool.{and_from, lt-ltb}
use Rattle.zarr_grids_boxes.specs.Boxes.{product}
use Rattle.zarr_grids_dimensions.specs.Lookups.{all_positive}
use Rattle.zarr_grids_configurations.specs.Errors.{RefusesGrid}
use Rattle.zarr_grids_configurations.specs.Grids.{Edges, fixed, bounded, is_positive, suits, is_countable, in_every}
use Rattle.zarr_grids_configurations.specs.Views.{rectangular_view}
use Rattle.zarr_grids_configurations.specs.declared.error.GridError.{GridError}
use Rattle.zarr_grids_configurations.specs.declared.error.GridError.TheVariants.{Dimensionality, ZeroEdge, Sum, TooManyChunks, Memory}
use Rattle.zarr_grids_configurations.specs.declared.rectangular.RectangularChunkGridDimensionConfiguration.{RectangularChunkGridDimensionConfiguration}
use Rattle.zarr_grids_configurations.specs.declared.rectangular.RectangularChunkGridDimensionConfiguration.TheVariants.{Fixed, Varying}
use Rattle.zarr_grids_configurations.proofs.Items.{positive_edges}

-- a test that all edges pass
passed : {X : Type 0} (test : ℕ → Edges → Bool) (view : X → Edges) (shape : List ℕ) (xs : List X) → ((s : ℕ) (x : X) → test s (view x) ≡ true) → in_every test shape (map view xs) ≡ true
passed test view [] xs h = refl
passed test view (s ∷ shape) [] h = refl
passed test view (s ∷ shape) (x ∷ xs) h = and_from (test s (view x)) (in_every test shape (map view xs)) (h s x) (passed test view shape xs h)

both : (a b : Bool) → (a && b) ≡ true → (a ≡ true) × (b ≡ true)
both true true q = (refl, refl)
both true false q = absurd (cc)
both false b q = absurd (cc)

-- one positive edge for each dimension
positive : (view : ℕ → Edges) (shape es : List ℕ) → ((e : ℕ) → is_positive (view e) ≡ nat_lt 0 e) → all_positive es ≡ true → in_every (λ _ g. is_positive g) shape (map view es) ≡ true
positive view [] es h p = refl
positive view (s ∷ shape) [] h p = refl
positive view (s ∷ shape) (e ∷ es) h p =
    let q = both (nat_lt 0 e) (all_positive es) p in
    and_from (is_positive (view e)) (in_every (λ _ g. is_positive g) shape (map view es)) (h e ∙ q.0) (positive view shape es h q.1)

clash : (b : Bool) → b ≡ true → b ≡ false → ⊥
clash b p q = absurd (cc)

-- another number of dimensions, or that memory ran out
abbrev pub OfLengthOrMemory : GridError → Type 0
OfLengthOrMemory (Dimensionality e) = Unit {0}
OfLengthOrMemory ZeroEdge = ⊥
OfLengthOrMemory Sum = ⊥
OfLengthOrMemory TooManyChunks = ⊥
OfLengthOrMemory Memory = Unit {0}

-- chunk shapes are refused for no other cause
of_fixed : (shape es : List ℕ) (e : GridError) → 0 < product es → RefusesGrid shape (map fixed es) e → OfLengthOrMemory e
of_fixed shape es (Dimensionality d) p h = tt
of_fixed shape es ZeroEdge p h = clash (in_every (λ _ g. is_positive g) shape (map fixed es)) (positive fixed shape es (λ e. refl) (positive_edges es p)) h
of_fixed shape es Sum p h = clash (in_every suits shape (map fixed es)) (passed suits fixed shape es (λ s e. refl)) h
of_fixed shape es TooManyChunks p h = clash (in_every (λ _ g. is_countable g) shape (map fixed es)) (passed (λ _ g. is_countable g) fixed shape es (λ s e. refl)) h
of_fixed shape es Memory p h = tt

of_bounded : (shape es : List ℕ) (e : GridError) → 0 < product es → RefusesGrid shape (map bounded es) e → OfLengthOrMemory e
of_bounded shape es (Dimensionality d) p h = tt
of_bounded shape es ZeroEdge p h = clash (in_every (λ _ g. is_positive g) shape (map bounded es)) (positive bounded shape es (λ e. refl) (positive_edges es p)) h
of_bounded shape es Sum p h = clash (in_every suits shape (map bounded es)) (passed suits bounded shape es (λ s e. refl)) h
of_bounded shape es TooManyChunks p h = clash (in_every (λ _ g. is_countable g) shape (map bounded es)) (passed (λ _ g. is_countable g) bounded shape es (λ s e. refl)) h
of_bounded shape es Memory p h = tt

pub no_other_fixed : (shape es edges : List ℕ) (e cause : GridError) → es ≡ edges → 0 < product edges → RefusesGrid shape (map fixed es) e → e ≡ cause → OfLengthOrMemory cause
no_other_fixed shape es edges e cause q p h r = subst OfLengthOrMemory r (of_fixed shape es e (subst (λ (xs : List ℕ). 0 < product xs) (sym q) p) h)

pub no_other_bounded : (shape es edges : List ℕ) (e cause : GridError) → es ≡ edges → 0 < product edges → RefusesGrid shape (map bounded es) e → e ≡ cause → OfLengthOrMemory cause
no_other_bounded shape es edges e cause q p h r = subst OfLengthOrMemory r (of_bounded shape es e (subst (λ (xs : List ℕ). 0 < product xs) (sym q) p) h)

-- a list in memory has fewer than 2^64 edges
few : (given : RectangularChunkGridDimensionConfiguration) → is_countable (rectangular_view given) ≡ true
few (Fixed edge) = refl
few (Varying edges) =
    let o = edges.ok in
    let s = edges.small in
    let l : length edges.items < 2 ^ 64 = omega arith in
    lt-ltb (length edges.items) (2 ^ 64) l

-- listed edges are never too many
pub never_many : (shape : List ℕ) (given : List RectangularChunkGridDimensionConfiguration) (e : GridError) → e ≡ TooManyChunks → RefusesGrid shape (map rectangular_view given) e → ⊥
never_many shape given e q h =
    clash (in_every (λ _ g. is_countable g) shape (map rectangular_view given)) (passed (λ _ g. is_countable g) rectangular_view shape given (λ s x. few x))
    (subst (λ (x : GridError). RefusesGrid shape (map rectangular_view given) x) q h)
