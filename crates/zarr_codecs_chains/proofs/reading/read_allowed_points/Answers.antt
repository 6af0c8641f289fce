use Rattle.std.proofs.Common.{◌∙◌, sym, map, inl}
use Rattle.zarr_grids_metadata.specs.Views.{point_view}
use Rattle.zarr_codecs_chains.specs.Views.{meaning_of}
use Rattle.zarr_codecs_chains.proofs.Refused.{misplaced}
use Rattle.zarr_codecs_chains.proofs.reading.read_allowed_points.Goals as goal

pub returns-else-is_allowed-clause-refused : goal.returns-else-is_allowed-clause-refused
returns-else-is_allowed-clause-refused g c = λ other.
    let b = g.B.BytesToBytesCodecTraits in
    misplaced b.reads (map point_view c.args.codecs.now) (meaning_of b.meaning c.in-Ok.chain) c.in-Ok.ensures.ok (sym c.is_allowed.ensures ∙ c.if-is_allowed.false)

pub returns-in-Err-clause-refused : goal.returns-in-Err-clause-refused
returns-in-Err-clause-refused g c = λ other. inl (c.in-Err.ensures.refused other)
