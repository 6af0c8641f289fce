use Rattle.std.proofs.Common.{◌+◌, ◌*◌, map}
use Rattle.zarr_grids_metadata.specs.Views.{point_view}
use Rattle.zarr_codecs_metadata.specs.Chains.{point_depth}
use Rattle.zarr_codecs_chains.proofs.Nested.{points_depth}
use Rattle.zarr_codecs_chains.proofs.reading.+reading.Given as goal

-- the chains inside of a codec nest less deep than its configuration
abbrev pub decreases-read_chain : goal.decreases-read_chain
decreases-read_chain g l = 4 * points_depth (map point_view l.codecs.now) + 3

abbrev pub decreases-read_bytes_chain : goal.decreases-read_bytes_chain
decreases-read_bytes_chain g l = 4 * points_depth (map point_view l.codecs.now) + 2

abbrev pub decreases-read_codec : goal.decreases-read_codec
decreases-read_codec g l = 4 * point_depth (point_view l.point) + 1

abbrev pub decreases-read_vlen : goal.decreases-read_vlen
decreases-read_vlen g l = 4 * point_depth (point_view l.point)

abbrev pub decreases-read_optional : goal.decreases-read_optional
decreases-read_optional g l = 4 * point_depth (point_view l.point)
