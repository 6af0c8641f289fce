use Rattle.zarr_codecs_meaning.specs.Places.{box_of}
use Rattle.zarr_sharding_changes.proofs.Subchunks.{box_within}
use Rattle.zarr_sharding_changes.proofs.Overlays.{part_kept}
use Rattle.zarr_sharding_changes.proofs.laws.part_kept.Goals as goal

pub returns : goal.returns
returns c = λ fill shape subchunk index region new cells cuts is apart. part_kept fill shape (box_of shape subchunk index) region new cells (box_within shape subchunk index cuts is) apart
