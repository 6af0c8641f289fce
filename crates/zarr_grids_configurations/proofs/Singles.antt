-- Repeats of one chunk each.
use Rattle.std.proofs.Common.{◌≡◌, ◌∙◌, ℕ, ◌<◌, ◌^◌, ◌==◌, List, [], ◌∷◌, length, map, Bool, true, false, ◌&&◌, nat_lt, nat_le, if◌then◌else◌, Some, None, refl, sym, ap, subst, arith}
use Rattle.std.specs.Prelude.{sum}
use Rattle.std.proofs.lemmas.Bool.{leb-false, ne_eqb, eq-eqb, lt-ltb, and_right}
use Rattle.zarr_grids_chunks.specs.Grids.{varying}
use Rattle.zarr_grids_dimensions.specs.declared.repeat.RepeatedEdge.{RepeatedEdge}
use Rattle.zarr_grids_dimensions.specs.RepeatedEdges.{expanded, edges, counts}
use Rattle.zarr_grids_dimensions.specs.Lookups.{all_positive}
use Rattle.zarr_grids_configurations.specs.Grids.{exact, covering, single_repeat, dimension_in}
use Rattle.zarr_grids_configurations.specs.Errors.{Refuses}
use Rattle.zarr_grids_configurations.specs.declared.error.GridError.{GridError}
use Rattle.zarr_grids_configurations.specs.declared.error.GridError.TheVariants.{Dimensionality, ZeroEdge, Sum, TooManyChunks, Memory}

pub expanded-single : (es : List ℕ) → expanded (map single_repeat es) ≡ es
expanded-single [] = refl
expanded-single (e ∷ es) = ap (λ xs. e ∷ xs) (expanded-single es)

pub edges-single : (es : List ℕ) → edges (map single_repeat es) ≡ es
edges-single [] = refl
edges-single (e ∷ es) = ap (λ xs. e ∷ xs) (edges-single es)

counts-single : (es : List ℕ) → all_positive (counts (map single_repeat es)) ≡ true
counts-single [] = refl
counts-single (e ∷ es) = counts-single es

-- a test that single repeats fail is failed by their edges
single-refused : (size : ℕ) (es : List ℕ) (e : GridError) → Refuses size (covering (map single_repeat es)) e → Refuses size (exact es) e
single-refused size es (Dimensionality d) h = h
single-refused size es ZeroEdge h =
    let a : (all_positive es && true) ≡ false = ap (λ b. b && true) (sym (ap all_positive (edges-single es))) ∙ ap (λ b. all_positive (edges (map single_repeat es)) && b) (sym (counts-single es)) ∙ h in
    let b : all_positive es ≡ false = and-true (all_positive es) a in
    and_right (nat_lt 0 (length es)) (all_positive es) b where
      and-true : (b : Bool) → (b && true) ≡ false → b ≡ false
      and-true true g = g
      and-true false g = refl
single-refused size es Sum h =
    let a = leb-false size (sum es) (ap (λ xs. nat_le size (sum xs)) (sym (expanded-single es)) ∙ h) in
    ne_eqb (sum es) size (λ q. omega arith)
single-refused size es TooManyChunks h = ap (λ xs. nat_lt (length xs) (2 ^ 64)) (sym (expanded-single es)) ∙ h
single-refused size es Memory h = tt

pub exact-refused : (size : ℕ) (es : List ℕ) (repeats : List RepeatedEdge) (e : GridError) → repeats ≡ map single_repeat es → Refuses size (covering repeats) e → Refuses size (exact es) e
exact-refused size es repeats e q h = single-refused size es e (subst (λ (rs : List RepeatedEdge). Refuses size (covering rs) e) q h)

-- single repeats whose sum is the size make the dimension of their edges
pub exact-made : (size : ℕ) (es : List ℕ) (n : ℕ) (repeats : List RepeatedEdge) → repeats ≡ map single_repeat es → n ≡ size → 0 < length es → sum (expanded repeats) ≡ size
    → all_positive (edges repeats) ≡ true → length (expanded repeats) < 2 ^ 64 → dimension_in size (exact es) ≡ Some (varying n (expanded repeats))
exact-made size es n repeats q r l s p f =
    let x : expanded repeats ≡ es = ap expanded q ∙ expanded-single es in
    let y : all_positive es ≡ true = sym (ap all_positive (ap edges q ∙ edges-single es)) ∙ p in
    let z : (sum es == size) ≡ true = eq-eqb (sum es) size (ap sum (sym x) ∙ s) in
    let w : nat_lt (length es) (2 ^ 64) ≡ true = lt-ltb (length es) (2 ^ 64) (subst (λ (xs : List ℕ). length xs < 2 ^ 64) x f) in
    let v : nat_lt 0 (length es) ≡ true = lt-ltb 0 (length es) l in
    made (nat_lt 0 (length es)) (all_positive es) (sum es == size) (nat_lt (length es) (2 ^ 64)) v y z w ∙ ap (λ m. Some (varying m es)) (sym r) ∙ ap (λ xs. Some (varying n xs)) (sym x) where
      made : (a b c d : Bool) → a ≡ true → b ≡ true → c ≡ true → d ≡ true → (if ((a && b) && c) && d then Some (varying size es) else None) ≡ Some (varying size es)
      made a b c d h i j k = rw (h, i, j, k) refl

-- single repeats whose sum is another number do not suit
pub exact-unsuited : (size : ℕ) (es : List ℕ) (repeats : List RepeatedEdge) → repeats ≡ map single_repeat es → (sum (expanded repeats) ≡ size → ⊥) → (sum es == size) ≡ false
exact-unsuited size es repeats q n = ne_eqb (sum es) size (λ e. n (ap sum (ap expanded q ∙ expanded-single es) ∙ e))
