use Rattle.std.proofs.Common.{◌≡◌, List, Some, true, take}
use Rattle.std.specs.List.{list_all}
use Rattle.zarr_codecs_meaning.specs.Types.{Cell, is_value, optional_of}
use Rattle.zarr_codecs_meaning.specs.Payloads.{cells_in, masked_in}
use Rattle.zarr_codecs_types.specs.Views.{type_of}
use Rattle.zarr_codecs_arrays.specs.Views.{payload_of}
use Rattle.zarr_codecs_arrays.proofs.values.are_present_values.Given as goal

abbrev pub invariant-loop-index : goal.invariant-loop-index
invariant-loop-index l = (cells all : List Cell) → cells_in (type_of l.data_type) (payload_of l.elements) ≡ Some cells → masked_in cells l.mask ≡ Some all → list_all (is_value (optional_of (type_of l.data_type))) (take l.index all) ≡ true
