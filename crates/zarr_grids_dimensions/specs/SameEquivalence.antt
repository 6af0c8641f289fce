-- The tests of equality hold of a thing and itself alone, and so are equivalences.
use Rattle.std.proofs.Common.{◌≡◌, [], ◌∷◌, Bool, ◌&&◌, ◌==◌, ap, sym, refl}
use Rattle.std.specs.Bool.{Decides}
use Rattle.std.specs.Prelude.{bytes_eq}
use Rattle.std.specs.Cmp.{IsEquivalence, both_ways}
use Rattle.std.proofs.lemmas.Slice.Eq.{bytes_eq-Decides}
use Rattle.std.proofs.lemmas.Bool.Decides.{Decides-eqb, Decides-like, Decides-and}
use Rattle.zarr_grids_chunks.specs.Grids.{Dimension, regular, clipped, varying, Grid}
use Rattle.zarr_grids_dimensions.specs.Same.{same_dimension, same_grid}

-- a test that decides equality is an equivalence
equivalence : {K : Type 0} (test : K → K → Bool) → ((a b : K) → Decides (test a b) (a ≡ b)) → IsEquivalence test
equivalence test law = record {
  refl = λ x. (law x x).1 refl;
  symm = λ x y. both_ways (test x y) (test y x) (λ h. (law y x).1 (sym ((law x y).0 h))) (λ h. (law x y).1 (sym ((law y x).0 h)));
  congr = λ x y z h. ap (λ w. test w z) ((law x y).0 h);
}

pub same_dimension_decides : (a b : Dimension) → Decides (same_dimension a b) (a ≡ b)
same_dimension_decides (regular size edge) (regular other other_edge) =
    Decides-like (size == other && edge == other_edge) (λ (h : (size ≡ other) × (edge ≡ other_edge)). cc) (λ (h : regular size edge ≡ regular other other_edge). (cc, cc))
    (Decides-and (size == other) (edge == other_edge) (Decides-eqb size other) (Decides-eqb edge other_edge))
same_dimension_decides (clipped size edge) (clipped other other_edge) =
    Decides-like (size == other && edge == other_edge) (λ (h : (size ≡ other) × (edge ≡ other_edge)). cc) (λ (h : clipped size edge ≡ clipped other other_edge). (cc, cc))
    (Decides-and (size == other) (edge == other_edge) (Decides-eqb size other) (Decides-eqb edge other_edge))
same_dimension_decides (varying size edges) (varying other others) =
    Decides-like (size == other && bytes_eq edges others) (λ (h : (size ≡ other) × (edges ≡ others)). cc) (λ (h : varying size edges ≡ varying other others). (cc, cc))
    (Decides-and (size == other) (bytes_eq edges others) (Decides-eqb size other) (bytes_eq-Decides edges others))
same_dimension_decides _ _ = (λ h. cc, λ h. cc)

pub same_grid_decides : (a b : Grid) → Decides (same_grid a b) (a ≡ b)
same_grid_decides [] [] = (λ h. refl, λ h. refl)
same_grid_decides [] (e ∷ es) = (λ h. cc, λ h. cc)
same_grid_decides (d ∷ ds) [] = (λ h. cc, λ h. cc)
same_grid_decides (d ∷ ds) (e ∷ es) =
    Decides-like (same_dimension d e && same_grid ds es) (λ (h : (d ≡ e) × (ds ≡ es)). cc) (λ (h : d ∷ ds ≡ e ∷ es). (cc, cc))
    (Decides-and (same_dimension d e) (same_grid ds es) (same_dimension_decides d e) (same_grid_decides ds es))

pub same_dimension_equiv : IsEquivalence same_dimension
same_dimension_equiv = equivalence same_dimension same_dimension_decides

pub same_grid_equiv : IsEquivalence same_grid
same_grid_equiv = equivalence same_grid same_grid_decides
