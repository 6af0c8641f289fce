-- Walks over chunks, and the chunks that they pass over.
use Rattle.std.proofs.Common.{◌≡◌, ◌≢◌, ◌∙◌, ℕ, List, [], ◌∷◌, ◌++◌, length, Bool, true, false, ◌&&◌, Option, Some, None, is_none, option_map, option_and_then, replicate, refl, sym, ap, subst, append_assoc, arith}
use Rattle.std.specs.List.{list_all}
use Rattle.std.proofs.lemmas.List.{length-map}
use Rattle.zarr_grids_boxes.specs.Boxes.{Region, places}
use Rattle.zarr_grids_chunks.specs.Grids.{Grid, Interval, interval, addressable, onto_box, chunk_box, chunk_count, grid_shape, chunk_indices}
use Rattle.zarr_grids_dimensions.specs.Errors.{Tells}
use Rattle.zarr_grids_dimensions.specs.declared.error.IncompatibleDimensionalityError.{IncompatibleDimensionalityError}
use Rattle.zarr_grids_dimensions.specs.declared.error.LookupError.{LookupError}
use Rattle.zarr_grids_dimensions.specs.declared.error.LookupError.TheVariants.{Dimensionality}
use Rattle.zarr_grids_chunk_grids.specs.Walks.{PassesOver}

-- a chunk of another dimensionality has no box
pub other_length : (grid : Grid) (chunk : List ℕ) → length chunk ≢ length grid → chunk_box grid chunk ≡ None
other_length [] [] h = absurd (h refl)
other_length [] (k ∷ ks) h = refl
other_length (d ∷ ds) [] h = refl
other_length (d ∷ ds) (k ∷ ks) h = nothing (option_and_then addressable (interval d k)) (chunk_box ds ks) (other_length ds ks (λ e. h (omega arith))) where
  nothing : (o : Option Interval) (p : Option Region) → p ≡ None → option_and_then (λ i. option_map (onto_box i) p) o ≡ None
  nothing None p e = refl
  nothing (Some i) p e = ap (option_map (onto_box i)) e

pub passes-start : (grid : Grid) (chunks : List (List ℕ)) → PassesOver grid chunks chunks
passes-start grid chunks = record { passed = []; split = refl; without = refl }

all-append : (test : List ℕ → Bool) (xs : List (List ℕ)) (x : List ℕ) → list_all test xs ≡ true → test x ≡ true → list_all test (xs ++ x ∷ []) ≡ true
all-append test [] x a t = rw t refl
all-append test (y ∷ xs) x a t = more (test y) (list_all test xs) (list_all test (xs ++ x ∷ [])) a (all-append test xs x) where
  more : (b c e : Bool) → (b && c) ≡ true → (c ≡ true → test x ≡ true → e ≡ true) → (b && e) ≡ true
  more true c e h f = f h t
  more false c e h f = h

-- one chunk more without a box
pub passes-step : (grid : Grid) (old left new : List (List ℕ)) (chunk : List ℕ) → left ≡ chunk ∷ new → None ≡ chunk_box grid chunk → PassesOver grid old left → PassesOver grid old new
passes-step grid old left new chunk e n p = record {
  passed = p.passed ++ chunk ∷ [];
  split = p.split ∙ ap (λ cs. p.passed ++ cs) e ∙ sym (append_assoc p.passed (chunk ∷ []) new);
  without = all-append (λ c. is_none (chunk_box grid c)) p.passed chunk p.without (ap is_none (sym n));
}

pub passes-to : (grid : Grid) (old left new : List (List ℕ)) → left ≡ new → PassesOver grid old left → PassesOver grid old new
passes-to grid old left new e p = record { passed = p.passed; split = p.split ∙ ap (λ cs. p.passed ++ cs) e; without = p.without }

-- the places of the box of a grid shape are the chunks below it
pub all-chunks : (grid : Grid) (start shape counts : List ℕ) → start ≡ replicate (length counts) 0 → shape ≡ counts → counts ≡ grid_shape grid → places start shape ≡ chunk_indices grid
all-chunks grid start shape counts s e g =
    let p : start ≡ replicate (length grid) 0 = s ∙ ap (λ n. replicate n 0) (ap length g ∙ length-map grid chunk_count) in
    ap (λ ss. places ss shape) p ∙ ap (places (replicate (length grid) 0)) (e ∙ g)

-- the error of another dimensionality tells that the numbers differ
pub told : (got expected : ℕ) (e : LookupError) (d : IncompatibleDimensionalityError) → e ≡ Dimensionality d → Tells got expected e → got ≢ expected
told got expected e d q t = let u : Tells got expected (Dimensionality d) = subst (λ (x : LookupError). Tells got expected x) q t in u.2
