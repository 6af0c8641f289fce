-- Which chunks are listed.
use Rattle.std.proofs.Common.{◌≡◌, ◌∙◌, ℕ, zero, suc, ◌+◌, ◌<◌, Bool, true, false, ◌||◌, List, [], ◌∷◌, ◌++◌, length, map, replicate, refl, sym, ap, ◌⊎◌, inl, inr, ⊎_elim, arith, bytes_eq}
use Rattle.std.specs.List.{range_with_len, list_any}
use Rattle.std.proofs.lemmas.Slice.Eq.{bytes_eq-Decides}
use Rattle.std.proofs.lemmas.Bool.{false≢true}
use Rattle.zarr_grids_boxes.specs.Boxes.{Region}
use Rattle.zarr_grids_chunks.specs.Grids.{Grid, IsInGrid, intersects, intersecting, chunk_indices, grid_shape}
use Rattle.zarr_grids_chunks.proofs.Filters.{told, any-filter}
use Rattle.zarr_grids_chunks.proofs.Partition.{any_places}
use Rattle.zarr_array_meaning.specs.Chunks.{is_listed}

pub list_any-append : (p : List ℕ → Bool) (xs : List (List ℕ)) (x : List ℕ) → list_any p (xs ++ x ∷ []) ≡ (list_any p xs || p x)
list_any-append p [] x = or_false (p x) where
  or_false : (b : Bool) → (b || false) ≡ (false || b)
  or_false true = refl
  or_false false = refl
list_any-append p (y ∷ xs) x = ap (λ b. p y || b) (list_any-append p xs x) ∙ regroup (p y) (list_any p xs) (p x) where
  regroup : (a b c : Bool) → (a || (b || c)) ≡ ((a || b) || c)
  regroup true b c = refl
  regroup false b c = refl

pub or_true : (a b : Bool) → (a || b) ≡ true → (a ≡ true) ⊎ (b ≡ true)
or_true true b h = inl refl
or_true false b h = inr h

true_or : (b : Bool) → (b || true) ≡ true
true_or true = refl
true_or false = refl

-- one chunk alone
pub listed_one : (c d : List ℕ) → is_listed (c ∷ []) d ≡ true → d ≡ c
listed_one c d h = ⊎_elim (λ t. (bytes_eq-Decides d c).0 t) (λ t. absurd (false≢true t)) (or_true (bytes_eq d c) false h)

pub one_listed : (c d : List ℕ) → d ≡ c → is_listed (c ∷ []) d ≡ true
one_listed c d e = ap (λ b. b || false) ((bytes_eq-Decides d c).1 e)

-- one more
pub listed_more : (cs : List (List ℕ)) (c d : List ℕ) → is_listed (cs ++ c ∷ []) d ≡ true → (d ≡ c) ⊎ ((d ≡ c → ⊥) × (is_listed cs d ≡ true))
listed_more cs c d h = ⊎_elim
    (λ t. inl ((bytes_eq-Decides d c).0 t))
    (λ t. inr ((λ e. false≢true (sym t ∙ (bytes_eq-Decides d c).1 e)), ⊎_elim (λ l. l) (λ l. absurd (false≢true (sym t ∙ l))) (or_true (is_listed cs d) (bytes_eq d c) (sym (list_any-append (bytes_eq d) cs c) ∙ h))))
    (told (bytes_eq d c))

pub before_listed : (cs : List (List ℕ)) (c d : List ℕ) → is_listed cs d ≡ true → is_listed (cs ++ c ∷ []) d ≡ true
before_listed cs c d h = list_any-append (bytes_eq d) cs c ∙ ap (λ b. b || bytes_eq d c) h

pub last_listed : (cs : List (List ℕ)) (c d : List ℕ) → d ≡ c → is_listed (cs ++ c ∷ []) d ≡ true
last_listed cs c d e = list_any-append (bytes_eq d) cs c ∙ ap (λ b. is_listed cs d || b) ((bytes_eq-Decides d c).1 e) ∙ true_or (is_listed cs d)

-- one of a listing by numbers
pub listed_number : (f : ℕ → List ℕ) (a n : ℕ) (d : List ℕ) → is_listed (map f (range_with_len a n)) d ≡ true → (i : ℕ) × (i < a + n) × (d ≡ f i)
listed_number f a zero d h = absurd (false≢true h)
listed_number f a (suc n) d h = ⊎_elim
    (λ t. (a, omega arith, (bytes_eq-Decides d (f a)).0 t))
    (λ l. let k = listed_number f (a + 1) n d l in let b = k.1 in (k.0, omega arith, k.2))
    (or_true (bytes_eq d (f a)) (is_listed (map f (range_with_len (a + 1) n)) d) h)

length-shape : (grid : Grid) → (let zeros : List ℕ = replicate (length grid) 0 in length zeros) ≡ length (grid_shape grid)
length-shape [] = refl
length-shape (d ∷ grid) = ap (λ n. suc n) (length-shape grid)

-- a chunk that is intersecting is listed
pub intersecting_listed : (grid : Grid) (region : Region) (chunk : List ℕ) (box : Region) → IsInGrid grid chunk box → intersects grid region chunk ≡ true → is_listed (intersecting grid region) chunk ≡ true
intersecting_listed grid region chunk box below shares = any-filter (intersects grid region) chunk (chunk_indices grid) (any_places (replicate (length grid) 0) (grid_shape grid) chunk (length-shape grid) below.below) shares
