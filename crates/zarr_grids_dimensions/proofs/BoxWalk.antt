-- A walk that finds the box of a chunk.
use Rattle.std.proofs.Common.{◌≡◌, ◌∙◌, ℕ, zero, suc, ◌+◌, ◌<◌, ◌≤◌, ◌^◌, Bool, true, false, if◌then◌else◌, List, [], ◌∷◌, ◌++◌, length, get_or, drop, refl, sym, ap, arith, Option, Some, None, option_map, option_and_then, append_assoc, append-nil}
use Rattle.std.proofs.Math.Dec.{ltb}
use Rattle.std.proofs.Math.ListN.{drop_of_length-le}
use Rattle.std.proofs.lemmas.Bool.{ltb-true}
use Rattle.zarr_grids_boxes.specs.Boxes.{Region, EndsFit}
use Rattle.zarr_grids_chunks.specs.Grids.{Grid, Interval, interval, addressable, onto_box, chunk_box}
use Rattle.zarr_grids_dimensions.specs.declared.dimension.Dimension.{Dimension as DeclaredDimension}
use Rattle.zarr_grids_dimensions.specs.Dimensions.{dimension_of, grid_of}
use Rattle.zarr_grids_dimensions.proofs.PlaceWalk.{grid-at, numbers-at}

-- a box that goes on from what was found
abbrev pub after : List ℕ → List ℕ → Region → Region
after start shape r = record { start = start ++ r.start; shape = shape ++ r.shape }

here : (ds : List DeclaredDimension) (chunk : List ℕ) (i k : ℕ) (d : DeclaredDimension) → i < length ds → i < length chunk → d ≡ get_or ds i d → k ≡ get_or chunk i 0
    → chunk_box (grid_of (drop i ds)) (drop i chunk) ≡ option_and_then (λ j. option_map (onto_box j) (chunk_box (grid_of (drop (i + 1) ds)) (drop (i + 1) chunk))) (option_and_then addressable (interval (dimension_of d) k))
here ds chunk i k d h l e g = ap (λ xs. chunk_box xs (drop i chunk)) (grid-at ds i d h e) ∙ ap (λ ks. chunk_box (dimension_of d ∷ grid_of (drop (i + 1) ds)) ks) (numbers-at chunk i k l g)

more : (start shape : List ℕ) (j : Interval) (o : Option Region) → option_map (after start shape) (option_map (onto_box j) o) ≡ option_map (after (start ++ j.first ∷ []) (shape ++ j.count ∷ [])) o
more start shape j None = refl
more start shape j (Some r) =
    ap (λ s. Some (let b : Region = record { start = s; shape = shape ++ j.count ∷ r.shape } in b)) (sym (append_assoc start (j.first ∷ []) r.start))
    ∙ ap (λ s. Some (let b : Region = record { start = start ++ j.first ∷ [] ++ r.start; shape = s } in b)) (sym (append_assoc shape (j.count ∷ []) r.shape))

pub box-step : (ds : List DeclaredDimension) (chunk start shape : List ℕ) (i k : ℕ) (j : Interval) (d : DeclaredDimension) (whole : Option Region) → i < length ds → i < length chunk
    → d ≡ get_or ds i d → k ≡ get_or chunk i 0 → Some j ≡ option_and_then addressable (interval (dimension_of d) k)
    → whole ≡ option_map (after start shape) (chunk_box (grid_of (drop i ds)) (drop i chunk))
    → whole ≡ option_map (after (start ++ j.first ∷ []) (shape ++ j.count ∷ [])) (chunk_box (grid_of (drop (i + 1) ds)) (drop (i + 1) chunk))
box-step ds chunk start shape i k j d whole h l e g s w =
    let rest : Option Region = chunk_box (grid_of (drop (i + 1) ds)) (drop (i + 1) chunk) in
    w ∙ ap (λ o. option_map (after start shape) o) (here ds chunk i k d h l e g ∙ ap (λ o. option_and_then (λ (m : Interval). option_map (onto_box m) rest) o) (sym s)) ∙ more start shape j rest

pub box-none : (ds : List DeclaredDimension) (chunk start shape : List ℕ) (i k : ℕ) (d : DeclaredDimension) (whole : Option Region) → i < length ds → i < length chunk
    → d ≡ get_or ds i d → k ≡ get_or chunk i 0 → None ≡ option_and_then addressable (interval (dimension_of d) k)
    → whole ≡ option_map (after start shape) (chunk_box (grid_of (drop i ds)) (drop i chunk)) → None ≡ whole
box-none ds chunk start shape i k d whole h l e g s w =
    let rest : Option Region = chunk_box (grid_of (drop (i + 1) ds)) (drop (i + 1) chunk) in
    sym (w ∙ ap (λ o. option_map (after start shape) o) (here ds chunk i k d h l e g ∙ ap (λ o. option_and_then (λ (m : Interval). option_map (onto_box m) rest) o) (sym s)))

pub box-all : (ds : List DeclaredDimension) (chunk start shape : List ℕ) (i : ℕ) (whole : Option Region) → length ds ≤ i → length chunk ≤ i
    → whole ≡ option_map (after start shape) (chunk_box (grid_of (drop i ds)) (drop i chunk)) → Some (record { start = start; shape = shape }) ≡ whole
box-all ds chunk start shape i whole h l w =
    sym (w ∙ ap (λ xs. option_map (after start shape) (chunk_box (grid_of xs) (drop i chunk))) (drop_of_length-le ds h)
    ∙ ap (λ ks. option_map (after start shape) (chunk_box [] ks)) (drop_of_length-le chunk l)
    ∙ ap (λ s. Some (let b : Region = record { start = s; shape = shape ++ [] } in b)) (append-nil start) ∙ ap (λ s. Some (let b : Region = record { start = start; shape = s } in b)) (append-nil shape))

-- ---- the box of a chunk ends below 2^64
pub record Fits (box : Region) : Type 0 where
  pub same : length box.shape ≡ length box.start
  pub fit : EndsFit box.start box.shape

fits-onto : (j : Interval) (r : Region) → j.first + j.count < 2 ^ 64 → Fits r → Fits (onto_box j r)
fits-onto j r h f = record { same = let s = f.same in omega arith; fit = fit } where
  fit : EndsFit (j.first ∷ r.start) (j.count ∷ r.shape)
  fit zero g = h
  fit (suc k) g = f.fit k (omega arith)

pub box-fits : (grid : Grid) (chunk : List ℕ) (box : Region) → Some box ≡ chunk_box grid chunk → Fits box
box-fits [] [] box h = let e : box ≡ record { start = []; shape = [] } = cc in rw e (record { same = refl; fit = λ k g. absurd (omega arith) })
box-fits [] (k ∷ ks) box h = absurd (cc)
box-fits (d ∷ ds) [] box h = absurd (cc)
box-fits (d ∷ ds) (k ∷ ks) box h = go (interval d k) h (box-fits ds ks) where
  last : (j : Interval) (b : Bool) (o : Option Region) → ltb (j.first + j.count) (2 ^ 64) ≡ b → ((r : Region) → Some r ≡ o → Fits r)
      → Some box ≡ option_and_then (λ i. option_map (onto_box i) o) (if b then Some j else None) → Fits box
  last j false o e f t = absurd (cc)
  last j true None e f t = absurd (cc)
  last j true (Some r) e f t = let q : box ≡ onto_box j r = cc in rw q (fits-onto j r (ltb-true (j.first + j.count) (2 ^ 64) e) (f r refl))

  go : (o : Option Interval) → Some box ≡ option_and_then (λ i. option_map (onto_box i) (chunk_box ds ks)) (option_and_then addressable o) → ((r : Region) → Some r ≡ chunk_box ds ks → Fits r) → Fits box
  go None t f = absurd (cc)
  go (Some j) t f = last j (ltb (j.first + j.count) (2 ^ 64)) (chunk_box ds ks) refl f t
