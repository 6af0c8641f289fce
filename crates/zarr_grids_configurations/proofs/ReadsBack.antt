-- What is written reads back.
use Rattle.std.proofs.Common.{◌≡◌, ◌∙◌, ℕ, List, [], ◌∷◌, map, if◌then◌else◌, Some, None, option_map, option_and_then, refl, ap}
use Rattle.serde_json.specs.View.{items_of}
use Rattle.zarr_grids_configurations.specs.Numbers.{sizes_of, positive_sizes}
use Rattle.zarr_grids_configurations.specs.Grids.{fixed, bounded, exact, covering}
use Rattle.zarr_grids_configurations.specs.Configurations as json
use Rattle.zarr_grids_configurations.specs.Views.{rectangular_view, rectilinear_view, repeat_of}
use Rattle.zarr_grids_configurations.specs.Written.{size_data, element_data, rectangular_data, rectilinear_data}
use Rattle.zarr_grids_configurations.specs.Laws.{RegularReadsBack, RectangularReadsBack, RectilinearReadsBack}
use Rattle.zarr_grids_configurations.specs.declared.rectangular.RectangularChunkGridDimensionConfiguration.{RectangularChunkGridDimensionConfiguration}
use Rattle.zarr_grids_configurations.specs.declared.rectangular.RectangularChunkGridDimensionConfiguration.TheVariants as rectangular
use Rattle.zarr_grids_configurations.specs.declared.rectilinear.RunLengthElement.{RunLengthElement}
use Rattle.zarr_grids_configurations.specs.declared.rectilinear.RunLengthElement.TheVariants.{Single, Repeated}
use Rattle.zarr_grids_configurations.specs.declared.rectilinear.ChunkEdgeLengths.{ChunkEdgeLengths}
use Rattle.zarr_grids_configurations.specs.declared.rectilinear.ChunkEdgeLengths.TheVariants as rectilinear

sizes-back : (ns : List ℕ) → sizes_of (items_of (map size_data ns)) ≡ Some ns
sizes-back [] = refl
sizes-back (n ∷ ns) = ap (option_map (λ ms. n ∷ ms)) (sizes-back ns)

pub regular-back : RegularReadsBack
regular-back es p = (ap (option_map (map fixed)) e, ap (option_map (map bounded)) e) where
  e : option_and_then positive_sizes (sizes_of (items_of (map size_data es))) ≡ Some es
  e = ap (option_and_then positive_sizes) (sizes-back es) ∙ ap (λ b. if b then Some es else None) p

-- ---- rectangular
rectangular-edge : (given : RectangularChunkGridDimensionConfiguration) → json.rectangular_edges (rectangular_data given) ≡ Some (rectangular_view given)
rectangular-edge (rectangular.Fixed edge) = refl
rectangular-edge (rectangular.Varying edges) = ap (option_map exact) (sizes-back edges.items)

rectangular-items : (given : List RectangularChunkGridDimensionConfiguration) → json.in_each_item json.rectangular_edges (items_of (map rectangular_data given)) ≡ Some (map rectangular_view given)
rectangular-items [] = refl
rectangular-items (g ∷ gs) =
    ap (option_and_then (λ e. option_map (λ es. e ∷ es) (json.in_each_item json.rectangular_edges (items_of (map rectangular_data gs))))) (rectangular-edge g)
    ∙ ap (option_map (λ es. rectangular_view g ∷ es)) (rectangular-items gs)

pub rectangular-back : RectangularReadsBack
rectangular-back given p = ap (option_and_then json.positive_edges) (rectangular-items given) ∙ ap (λ b. if b then Some (map rectangular_view given) else None) p

-- ---- rectilinear
element-back : (e : RunLengthElement) → json.repeat_in (element_data e) ≡ Some (repeat_of e)
element-back (Single edge) = refl
element-back (Repeated repeat) = refl

elements-back : (es : List RunLengthElement) → json.repeats_of (items_of (map element_data es)) ≡ Some (map repeat_of es)
elements-back [] = refl
elements-back (e ∷ es) =
    ap (option_and_then (λ r. option_map (λ rs. r ∷ rs) (json.repeats_of (items_of (map element_data es))))) (element-back e)
    ∙ ap (option_map (λ rs. repeat_of e ∷ rs)) (elements-back es)

rectilinear-edge : (given : ChunkEdgeLengths) → json.rectilinear_edges (rectilinear_data given) ≡ Some (rectilinear_view given)
rectilinear-edge (rectilinear.Scalar edge) = refl
rectilinear-edge (rectilinear.Varying elements) = ap (option_map covering) (elements-back elements.items)

rectilinear-items : (given : List ChunkEdgeLengths) → json.in_each_item json.rectilinear_edges (items_of (map rectilinear_data given)) ≡ Some (map rectilinear_view given)
rectilinear-items [] = refl
rectilinear-items (g ∷ gs) =
    ap (option_and_then (λ e. option_map (λ es. e ∷ es) (json.in_each_item json.rectilinear_edges (items_of (map rectilinear_data gs))))) (rectilinear-edge g)
    ∙ ap (option_map (λ es. rectilinear_view g ∷ es)) (rectilinear-items gs)

pub rectilinear-back : RectilinearReadsBack
rectilinear-back given p = ap (option_and_then json.positive_edges) (rectilinear-items given) ∙ ap (λ b. if b then Some (map rectilinear_view given) else None) p
