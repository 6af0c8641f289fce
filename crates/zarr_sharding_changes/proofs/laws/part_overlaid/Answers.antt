use Rattle.zarr_codecs_meaning.specs.Places.{box_of}
use Rattle.zarr_sharding_changes.proofs.Subchunks.{box_within}
use Rattle.zarr_sharding_changes.proofs.Overlays.{part_overlaid}
use Rattle.zarr_sharding_changes.proofs.laws.part_overlaid.Goals as goal

pub returns : goal.returns
returns c = λ fill shape subchunk index region new cells cuts is. part_overlaid fill shape (box_of shape subchunk index) region new cells (box_within shape subchunk index cuts is)
