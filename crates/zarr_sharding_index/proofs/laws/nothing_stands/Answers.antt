use Rattle.zarr_codecs_meaning.specs.Encoding.{base_of, index_size}
use Rattle.zarr_sharding_changes.specs.Changes.{SliceStandsBy}
use Rattle.zarr_sharding_index.proofs.Stands.{nothing_left}
use Rattle.zarr_sharding_index.proofs.laws.nothing_stands.Goals as goal

pub returns : goal.returns
returns c = λ slices inner index elements location shape end pieces pairs h. nothing_left (SliceStandsBy slices inner elements) elements.fill (base_of location (index_size index shape)) h.«data» pieces pairs h.stand h.held.1
