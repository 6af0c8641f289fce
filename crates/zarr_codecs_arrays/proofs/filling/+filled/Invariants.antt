use Rattle.zarr_codecs_types.specs.Views.{type_of}
use Rattle.zarr_codecs_arrays.proofs.Fillings.{levels}
use Rattle.zarr_codecs_arrays.proofs.filling.+filled.Given as goal

abbrev pub decreases-filled : goal.decreases-filled
decreases-filled l = levels (type_of l.data_type.now)
