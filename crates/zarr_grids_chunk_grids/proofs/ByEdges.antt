-- Equal `rectilinear` grids have equal shapes and equal edges.
use Rattle.std.proofs.Common.{◌≡◌, ◌∙◌, ℕ, suc, Bool, true, false, ◌&&◌, if◌then◌else◌, List, [], ◌∷◌, length, map, refl, sym, ap, ap₂, arith, Option, Some, None, option_map, option_and_then}
use Rattle.std.proofs.lemmas.Bool.Decides.{Decides-like}
use Rattle.zarr_grids_chunks.specs.Grids.{Grid, varying}
use Rattle.zarr_grids_dimensions.specs.Dimensions.{grid_of}
use Rattle.zarr_grids_dimensions.specs.declared.repeat.RepeatedEdge.{RepeatedEdge}
use Rattle.zarr_grids_dimensions.specs.RepeatedEdges.{expanded}
use Rattle.zarr_grids_dimensions.specs.Same.{same_grid}
use Rattle.zarr_grids_dimensions.specs.SameEquivalence.{same_grid_decides}
use Rattle.zarr_grids_configurations.specs.Grids.{Edges, fixed, bounded, exact, covering, single_repeat, is_positive, suits, is_countable, dimension_with, grid_in}
use Rattle.zarr_grids_configurations.specs.Views.{rectilinear_view}
use Rattle.zarr_grids_configurations.specs.declared.rectilinear.ChunkEdgeLengths.{ChunkEdgeLengths}
use Rattle.zarr_grids_configurations.specs.declared.rectilinear.ChunkEdgeLengths.TheVariants.{Scalar, Varying}
use Rattle.zarr_grids_configurations.proofs.Singles.{expanded-single}
use Rattle.zarr_grids_chunk_grids.specs.Laws.{without_repeats, RectilinearByEdges}

-- the dimensions of sizes and of the edges given for each
abbrev pub made_of : List ℕ → List Edges → Grid
made_of (size ∷ shape) (given ∷ configuration) = dimension_with size given ∷ made_of shape configuration
made_of [] configuration = []
made_of (size ∷ shape) [] = []

is_made : (shape : List ℕ) (configuration : List Edges) (g : Grid) → grid_in shape configuration ≡ Some g → (g ≡ made_of shape configuration) × (length shape ≡ length configuration)
is_made [] [] g e = (cc, refl)
is_made [] (x ∷ xs) g e = absurd (cc)
is_made (s ∷ ss) [] g e = absurd (cc)
is_made (s ∷ ss) (x ∷ xs) g e = go (is_positive x && suits s x && is_countable x) (grid_in ss xs) refl (is_made ss xs) e where
  go : (b : Bool) (o : Option Grid) → grid_in ss xs ≡ o → ((ds : Grid) → grid_in ss xs ≡ Some ds → (ds ≡ made_of ss xs) × (length ss ≡ length xs)) → option_and_then (λ d. option_map (λ ds. d ∷ ds) o) (if b then Some (dimension_with s x) else None) ≡ Some g
      → (g ≡ made_of (s ∷ ss) (x ∷ xs)) × (length (s ∷ ss) ≡ length (x ∷ xs))
  go false o q r t = absurd (cc)
  go true None q r t = absurd (cc)
  go true (Some ds) q r t =
      let i = r ds q in
      let f : g ≡ dimension_with s x ∷ ds = cc in
      (f ∙ ap (λ z. dimension_with s x ∷ z) i.0, ap (λ n. suc n) i.1)

-- ---- repeats written out make the same dimensions
written_out : (s : ℕ) (x : Edges) → dimension_with s (without_repeats x) ≡ dimension_with s x
written_out s (fixed e) = refl
written_out s (bounded e) = refl
written_out s (exact es) = refl
written_out s (covering repeats) = ap (varying s) (expanded-single (expanded repeats))

all_written_out : (shape : List ℕ) (configuration : List Edges) → made_of shape (map without_repeats configuration) ≡ made_of shape configuration
all_written_out [] xs = refl
all_written_out (s ∷ ss) [] = refl
all_written_out (s ∷ ss) (x ∷ xs) = ap₂ (λ d ds. d ∷ ds) (written_out s x) (all_written_out ss xs)

-- the repeats of given edges
abbrev pub repeats_in : Edges → List RepeatedEdge
repeats_in (fixed e) = []
repeats_in (bounded e) = []
repeats_in (exact es) = map single_repeat es
repeats_in (covering repeats) = repeats

-- ---- equal dimensions are of equal sizes and edges
same_given : (s t : ℕ) (x y : ChunkEdgeLengths) → dimension_with s (rectilinear_view x) ≡ dimension_with t (rectilinear_view y)
    → (s ≡ t) × (without_repeats (rectilinear_view x) ≡ without_repeats (rectilinear_view y))
same_given s t (Scalar e) (Scalar f) h = let g : e ≡ f = cc in (cc, ap fixed g)
same_given s t (Scalar e) (Varying f) h = absurd (cc)
same_given s t (Varying e) (Scalar f) h = absurd (cc)
same_given s t (Varying e) (Varying f) h =
    let es : List ℕ = expanded (repeats_in (rectilinear_view (Varying e))) in
    let fs : List ℕ = expanded (repeats_in (rectilinear_view (Varying f))) in
    let k : varying s es ≡ varying t fs = h in
    let g : es ≡ fs = cc in
    (cc, ap (λ ns. covering (map single_repeat ns)) g)

all_same_given : (shape other : List ℕ) (xs ys : List ChunkEdgeLengths) → length shape ≡ length (map rectilinear_view xs) → length other ≡ length (map rectilinear_view ys)
    → made_of shape (map rectilinear_view xs) ≡ made_of other (map rectilinear_view ys)
    → (shape ≡ other) × (map without_repeats (map rectilinear_view xs) ≡ map without_repeats (map rectilinear_view ys))
all_same_given [] [] [] [] l m h = (refl, refl)
all_same_given [] [] [] (y ∷ ys) l m h = absurd (omega arith)
all_same_given [] (t ∷ ts) [] [] l m h = absurd (omega arith)
all_same_given [] (t ∷ ts) [] (y ∷ ys) l m h = absurd (cc)
all_same_given [] other (x ∷ xs) ys l m h = absurd (omega arith)
all_same_given (s ∷ ss) other [] ys l m h = absurd (omega arith)
all_same_given (s ∷ ss) [] (x ∷ xs) [] l m h = absurd (cc)
all_same_given (s ∷ ss) [] (x ∷ xs) (y ∷ ys) l m h = absurd (omega arith)
all_same_given (s ∷ ss) (t ∷ ts) (x ∷ xs) [] l m h = absurd (omega arith)
all_same_given (s ∷ ss) (t ∷ ts) (x ∷ xs) (y ∷ ys) l m h =
    let d : dimension_with s (rectilinear_view x) ≡ dimension_with t (rectilinear_view y) = cc in
    let r : made_of ss (map rectilinear_view xs) ≡ made_of ts (map rectilinear_view ys) = cc in
    let o = same_given s t x y d in
    let i = all_same_given ss ts xs ys (omega arith) (omega arith) r in
    (ap₂ (λ z zs. z ∷ zs) o.0 i.0, ap₂ (λ z zs. z ∷ zs) o.1 i.1)

pub by_edges : RectilinearByEdges
by_edges g h =
    let x : List Edges = map rectilinear_view g.chunk_shapes.items in
    let y : List Edges = map rectilinear_view h.chunk_shapes.items in
    let m = is_made g.array_shape.items x (grid_of g.dimensions.items) g.made in
    let n = is_made h.array_shape.items y (grid_of h.dimensions.items) h.made in
    Decides-like (same_grid (grid_of g.dimensions.items) (grid_of h.dimensions.items))
    (λ (e : grid_of g.dimensions.items ≡ grid_of h.dimensions.items). all_same_given g.array_shape.items h.array_shape.items g.chunk_shapes.items h.chunk_shapes.items m.1 n.1 (sym m.0 ∙ e ∙ n.0))
    (λ (p : (g.array_shape.items ≡ h.array_shape.items) × (map without_repeats x ≡ map without_repeats y)).
    m.0 ∙ sym (all_written_out g.array_shape.items x) ∙ ap₂ made_of p.0 p.1 ∙ all_written_out h.array_shape.items y ∙ sym n.0)
    (same_grid_decides (grid_of g.dimensions.items) (grid_of h.dimensions.items))
