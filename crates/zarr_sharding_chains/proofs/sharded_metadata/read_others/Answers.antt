use Rattle.std.proofs.Common.{List, [], map, sym, subst, Some, None}
use Rattle.zarr_grids_metadata.specs.Views.{point_view}
use Rattle.zarr_grids_metadata.specs.declared.extension_point.ExtensionPoint as lent
use Rattle.zarr_codecs_around.specs.ThenBytes.{codec_of}
use Rattle.zarr_codecs_chains.specs.Names.{NameAll}
use Rattle.zarr_codecs_chains.specs.Views.{meaning_of}
use Rattle.zarr_sharding_metadata.specs.Nesting.{shard_in}
use Rattle.zarr_sharding_codec.specs.Views.{shard_chain}
use Rattle.zarr_sharding_chains.specs.Metadata.{NamesShard}
use Rattle.zarr_sharding_chains.proofs.Reading.{first_begins, first_none, first_refused, nothing_refused, nothing_said, others_refused, others_split}
use Rattle.zarr_sharding_chains.proofs.sharded_metadata.read_others.Goals as goal

pub returns-in_default-clause-err : goal.returns-in_default-clause-err
returns-in_default-clause-err g c = λ other. nothing_said g.B.BytesToBytesCodecTraits.reads (shard_in g.B.BytesToBytesCodecTraits.reads g.I.ChainOfMetadata.reads) c.args.codecs.now c.in_default.ensures.cases

pub returns-in_default-clause-refused : goal.returns-in_default-clause-refused
returns-in_default-clause-refused g c = λ begins. λ other. nothing_refused g.B.BytesToBytesCodecTraits.reads g.I.ChainOfMetadata.reads g.I.ChainOfMetadata.refuses c.args.codecs.now c.in_default.ensures.cases

pub returns-in-Err-clause-err : goal.returns-in-Err-clause-err
returns-in-Err-clause-err g c = λ other.
    let reads = g.B.BytesToBytesCodecTraits.reads in
    first_none reads (shard_in reads g.I.ChainOfMetadata.reads) c.args.codecs.now c.in-Some.others.now c.in-Some.first.now c.in-Some.ensures.cases.0 (c.in-Err.ensures.err other)

pub returns-in-Err-clause-refused : goal.returns-in-Err-clause-refused
returns-in-Err-clause-refused g c = λ begins. λ other.
    let reads = g.B.BytesToBytesCodecTraits.reads in
    let i = g.I.ChainOfMetadata in
    let first = c.in-Some.first.now in
    let others = c.in-Some.others.now in
    let named = first_begins c.args.codecs.now others first c.in-Some.ensures.cases.0 begins in
    first_refused reads i.reads i.refuses c.args.codecs.now others first c.in-Err.error c.in-Some.ensures.cases.0 (c.in-Err.ensures.refused named other (map point_view others))

pub returns-in-Ok-read_codecs-clause-ok : goal.returns-in-Ok-read_codecs-clause-ok
returns-in-Ok-read_codecs-clause-ok g c =
    let b = g.B.BytesToBytesCodecTraits in
    let chain = shard_chain g.I.ArrayToBytesCodecTraits.meaning (meaning_of b.meaning) in
    let codecs = c.in-Ok-read_codecs.bytes_to_bytes.items in
    let read = others_split b.reads (shard_in b.reads g.I.ChainOfMetadata.reads) c.args.codecs.now c.in-Some.others.now c.in-Some.first.now (chain c.in-Ok.shard) (Some (map b.meaning codecs)) c.in-Some.ensures.cases.0 c.in-Ok.ensures.ok c.in-Ok-read_codecs.ensures.ok in
    search (read, c.new.ensures.codec, c.new.ensures.bytes)

pub returns-in-Ok-read_codecs-clause-names : goal.returns-in-Ok-read_codecs-clause-names
returns-in-Ok-read_codecs-clause-names g c =
    let names = g.I.ChainOfMetadata.names in
    let shard = subst (λ codec. NamesShard names codec (point_view c.in-Some.first.now)) (sym c.new.ensures.codec) c.in-Ok.ensures.names in
    subst (λ (ps : List lent.ExtensionPoint). NameAll [] (NamesShard names (codec_of c.new.result)) (map point_view ps)) (sym c.in-Some.ensures.cases.0) shard

pub returns-in-Err-read_codecs-clause-err : goal.returns-in-Err-read_codecs-clause-err
returns-in-Err-read_codecs-clause-err g c = λ other.
    let b = g.B.BytesToBytesCodecTraits in
    let chain = shard_chain g.I.ArrayToBytesCodecTraits.meaning (meaning_of b.meaning) in
    others_split b.reads (shard_in b.reads g.I.ChainOfMetadata.reads) c.args.codecs.now c.in-Some.others.now c.in-Some.first.now (chain c.in-Ok.shard) None c.in-Some.ensures.cases.0 c.in-Ok.ensures.ok (c.in-Err-read_codecs.ensures.err other)

pub returns-in-Err-read_codecs-clause-refused : goal.returns-in-Err-read_codecs-clause-refused
returns-in-Err-read_codecs-clause-refused g c = λ begins. λ other.
    let b = g.B.BytesToBytesCodecTraits in
    let i = g.I.ChainOfMetadata in
    let first = c.in-Some.first.now in
    let others = c.in-Some.others.now in
    let chain = shard_chain g.I.ArrayToBytesCodecTraits.meaning (meaning_of b.meaning) c.in-Ok.shard in
    let refused = others_refused b.reads i.reads i.refuses (point_view first) (map point_view others) chain c.in-Err-read_codecs.error c.in-Ok.ensures.ok (c.in-Err-read_codecs.ensures.err other) in
    first_refused b.reads i.reads i.refuses c.args.codecs.now others first c.in-Err-read_codecs.error c.in-Some.ensures.cases.0 refused
