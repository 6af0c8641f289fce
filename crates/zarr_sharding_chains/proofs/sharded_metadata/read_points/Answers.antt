use Rattle.std.proofs.Common.{◌∙◌, List, length, drop, map, ap, sym, subst, Some, None}
use Rattle.zarr_grids_metadata.specs.Views.{point_view}
use Rattle.zarr_codecs_array_to_array.specs.declared.codec.ArrayToArrayCodec.{ArrayToArrayCodec}
use Rattle.zarr_codecs_around.specs.ThenBytes.{codec_of, then_meaning}
use Rattle.zarr_codecs_chains.proofs.Names.{names_split}
use Rattle.zarr_codecs_chains.specs.Views.{meaning_of}
use Rattle.zarr_sharding_metadata.specs.Nesting.{shard_in}
use Rattle.zarr_sharding_codec.specs.Views.{shard_chain}
use Rattle.zarr_sharding_chains.specs.Metadata.{NamesShard}
use Rattle.zarr_sharding_chains.specs.Refusals.{RefusesSharded}
use Rattle.zarr_sharding_chains.proofs.Reading.{chain_split, misconfigured, misconfigured_none, rest_begins, rest_refused}
use Rattle.zarr_sharding_chains.proofs.sharded_metadata.read_points.Goals as goal

pub returns-in-Ok-read_others-clause-ok : goal.returns-in-Ok-read_others-clause-ok
returns-in-Ok-read_others-clause-ok g c =
    let b = g.B.BytesToBytesCodecTraits in
    let others = then_meaning (shard_chain g.I.ArrayToBytesCodecTraits.meaning (meaning_of b.meaning)) b.meaning c.in-Ok-read_others.others in
    let rest = c.rest_after.ensures ∙ ap (λ (xs : List ArrayToArrayCodec). drop (length xs) c.args.codecs.now) c.as_slice.ensures.value in
    chain_split b.reads (shard_in b.reads g.I.ChainOfMetadata.reads) c.args.codecs.now c.rest_after.result.now c.in-Ok.array_to_array.items (Some others) c.in-Ok.ensures.first rest c.in-Ok-read_others.ensures.ok

pub returns-in-Ok-read_others-clause-names : goal.returns-in-Ok-read_others-clause-names
returns-in-Ok-read_others-clause-names g c =
    let rest = c.rest_after.ensures ∙ ap (λ (xs : List ArrayToArrayCodec). drop (length xs) c.args.codecs.now) c.as_slice.ensures.value in
    names_split c.in-Ok.array_to_array.items (NamesShard g.I.ChainOfMetadata.names (codec_of c.in-Ok-read_others.others)) c.args.codecs.now c.rest_after.result.now c.in-Ok.ensures.names rest c.in-Ok-read_others.ensures.names

pub returns-in-Err-clause-err : goal.returns-in-Err-clause-err
returns-in-Err-clause-err g c = λ other. misconfigured_none g.B.BytesToBytesCodecTraits.reads g.I.ChainOfMetadata.reads (map point_view c.args.codecs.now) (c.in-Err.ensures.refused other)

pub returns-in-Err-clause-refused : goal.returns-in-Err-clause-refused
returns-in-Err-clause-refused g c = λ other.
    let reads = g.B.BytesToBytesCodecTraits.reads in
    let i = g.I.ChainOfMetadata in
    let points = map point_view c.args.codecs.now in
    subst (RefusesSharded reads i.reads i.refuses points) (sym (c.in-Err.ensures.cause other)) (misconfigured reads i.reads i.refuses points (c.in-Err.ensures.refused other))

pub returns-in-Err-read_others-clause-err : goal.returns-in-Err-read_others-clause-err
returns-in-Err-read_others-clause-err g c = λ other.
    let b = g.B.BytesToBytesCodecTraits in
    let rest = c.rest_after.ensures ∙ ap (λ (xs : List ArrayToArrayCodec). drop (length xs) c.args.codecs.now) c.as_slice.ensures.value in
    chain_split b.reads (shard_in b.reads g.I.ChainOfMetadata.reads) c.args.codecs.now c.rest_after.result.now c.in-Ok.array_to_array.items None c.in-Ok.ensures.first rest (c.in-Err-read_others.ensures.err other)

pub returns-in-Err-read_others-clause-refused : goal.returns-in-Err-read_others-clause-refused
returns-in-Err-read_others-clause-refused g c = λ other.
    let reads = g.B.BytesToBytesCodecTraits.reads in
    let i = g.I.ChainOfMetadata in
    let codecs = c.args.codecs.now in
    let arrays = c.in-Ok.array_to_array.items in
    let rest = c.rest_after.ensures ∙ ap (λ (xs : List ArrayToArrayCodec). drop (length xs) codecs) c.as_slice.ensures.value in
    let begins = rest_begins codecs c.rest_after.result.now arrays c.in-Ok.ensures.first rest c.in-Ok.ensures.all in
    rest_refused reads i.reads i.refuses codecs c.rest_after.result.now arrays c.in-Err-read_others.error c.in-Ok.ensures.first rest (c.in-Err-read_others.ensures.refused begins other)
