-- The box that a subset is.
use Rattle.zarr_grids_boxes.specs.Boxes.{Region}
use Rattle.zarr_grids_boxes.specs.declared.subset.ArraySubset.{ArraySubset}

-- the box that a value of the type `ArraySubset` is
abbrev pub region_of : ArraySubset → Region
region_of subset = record { start = subset.start.items; shape = subset.shape.items }
