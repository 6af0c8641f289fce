use Rattle.std.proofs.Common.{◌∙◌, ap, subst, sym, inl}
use Rattle.zarr_grids_metadata.specs.ExtensionPoints.{ExtensionPoint}
use Rattle.zarr_grids_metadata.specs.Views.{point_of}
use Rattle.zarr_codecs_metadata.specs.Chains.{array_to_bytes_in}
use Rattle.zarr_codecs_chains.specs.Refusals.{RefusedCodec}
use Rattle.zarr_codecs_chains.specs.Views.{codec_chain}
use Rattle.zarr_codecs_chains.proofs.Refused.{misplaced_codec}
use Rattle.zarr_codecs_chains.proofs.array_to_bytes.read_allowed_codec.Goals as goal

pub returns-else-codec_is_allowed-clause-refused : goal.returns-else-codec_is_allowed-clause-refused
returns-else-codec_is_allowed-clause-refused g c = λ other.
    let b = g.B.BytesToBytesCodecTraits in
    let said = ap (array_to_bytes_in b.reads) (sym c.as_point.ensures) ∙ c.in-Ok.ensures.ok in
    misplaced_codec b.reads (point_of c.args.metadata.now) (codec_chain b.meaning c.in-Ok.codec) said (sym c.codec_is_allowed.ensures ∙ c.if-codec_is_allowed.false)

pub returns-in-Err-clause-refused : goal.returns-in-Err-clause-refused
returns-in-Err-clause-refused g c = λ other. inl (subst (λ (p : ExtensionPoint). RefusedCodec g.B.BytesToBytesCodecTraits.reads p c.in-Err.error) c.as_point.ensures (c.in-Err.ensures.refused other))
