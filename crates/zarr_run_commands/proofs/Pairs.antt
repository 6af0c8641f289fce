-- Boxes, pair by pair.
use Rattle.std.proofs.Common.{◌≡◌, ℕ, zero, suc, ◌+◌, ◌^◌, ◌<◌, ◌≤◌, List, [], ◌∷◌, ◌++◌, length, get_or, drop, Option, Some, None, option_map, option_and_then, refl, ap, ◌∙◌, arith, append_assoc, append-nil}
use Rattle.std.proofs.lemmas.List.{drop_more}
use Rattle.serde_json.specs.View.{view, items_view}
use Rattle.serde_json.specs.declared.value.Value.{Value}
use Rattle.zarr_grids_boxes.specs.Boxes.{Region, EndsFit}
use Rattle.zarr_run_commands.specs.Lines.{Interval, interval_of, interval_in, with_dimension, region_of_pairs}

pub interval_of-short : (vs : List Value) → length vs < 2 → None ≡ interval_of (items_view vs)
interval_of-short [] h = refl
interval_of-short (v ∷ []) h = refl
interval_of-short (v ∷ w ∷ vs) h = absurd (omega arith)

pub interval_of-long : (vs : List Value) → 3 ≤ length vs → None ≡ interval_of (items_view vs)
interval_of-long [] h = absurd (omega arith)
interval_of-long (v ∷ []) h = absurd (omega arith)
interval_of-long (v ∷ w ∷ []) h = absurd (omega arith)
interval_of-long (v ∷ w ∷ x ∷ vs) h = refl

-- a box after the dimensions that were read
abbrev pub after : List ℕ → List ℕ → Region → Region
after start shape region = record { start = start ++ region.start; shape = shape ++ region.shape }

-- what is left of the pairs, after what was read, says what all say
abbrev pub ReadsOn : List Value → ℕ → List ℕ → List ℕ → Type 0
ReadsOn vs k start shape = region_of_pairs (items_view vs) ≡ option_map (after start shape) (region_of_pairs (items_view (drop k vs)))

after_more : (start shape : List ℕ) (s e : ℕ) (found : Option Region) → option_map (after start shape) (option_map (with_dimension (s, e)) found) ≡ option_map (after (start ++ s ∷ []) (shape ++ e ∷ [])) found
after_more start shape s e None = refl
after_more start shape s e (Some region) = rw (append_assoc start (s ∷ []) region.start, append_assoc shape (e ∷ []) region.shape) refl

at_pair : (vs : List Value) (k : ℕ) (d : Value) (found : Option Interval) → k < length vs → interval_in (view (get_or vs k d)) ≡ found
    → region_of_pairs (items_view (drop k vs)) ≡ option_and_then (λ interval. option_map (with_dimension interval) (region_of_pairs (items_view (drop (k + 1) vs)))) found
at_pair vs k d found h is =
    ap (λ ws. region_of_pairs (items_view ws)) (drop_more vs k d h)
    ∙ ap (option_and_then (λ interval. option_map (with_dimension interval) (region_of_pairs (items_view (drop (k + 1) vs))))) is

pub reads_more : (vs : List Value) (k : ℕ) (d : Value) (start shape : List ℕ) (s e : ℕ) → k < length vs → ReadsOn vs k start shape → interval_in (view (get_or vs k d)) ≡ Some (s, e)
    → ReadsOn vs (k + 1) (start ++ s ∷ []) (shape ++ e ∷ [])
reads_more vs k d start shape s e h on is =
    on ∙ ap (option_map (after start shape)) (at_pair vs k d (Some (s, e)) h is) ∙ after_more start shape s e (region_of_pairs (items_view (drop (k + 1) vs)))

pub reads_none : (vs : List Value) (k : ℕ) (d : Value) (start shape : List ℕ) → k < length vs → ReadsOn vs k start shape → interval_in (view (get_or vs k d)) ≡ None → region_of_pairs (items_view vs) ≡ None
reads_none vs k d start shape h on is = on ∙ ap (option_map (after start shape)) (at_pair vs k d None h is)

pub reads_all : (vs : List Value) (start shape : List ℕ) → ReadsOn vs (length vs) start shape → region_of_pairs (items_view vs) ≡ Some (record { start = start; shape = shape })
reads_all vs start shape on = on ∙ rw (drop_all vs) (rw (append-nil start, append-nil shape) refl) where
  drop_all : (vs : List Value) → drop (length vs) vs ≡ []
  drop_all [] = refl
  drop_all (v ∷ vs) = drop_all vs

pub fit_more : (start shape : List ℕ) (s e : ℕ) → length shape ≡ length start → EndsFit start shape → s + e < 2 ^ 64 → EndsFit (start ++ s ∷ []) (shape ++ e ∷ [])
fit_more [] [] s e same fit h zero l = h
fit_more [] [] s e same fit h (suc k) l = absurd (omega arith)
fit_more [] (b ∷ shape) s e same fit h k l = absurd (omega arith)
fit_more (a ∷ start) [] s e same fit h k l = absurd (omega arith)
fit_more (a ∷ start) (b ∷ shape) s e same fit h zero l = fit zero (omega arith)
fit_more (a ∷ start) (b ∷ shape) s e same fit h (suc k) l = fit_more start shape s e (omega arith) (λ j g. fit (suc j) (omega arith)) h k (omega arith)
