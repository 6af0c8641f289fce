use Rattle.std.proofs.Common.{◌≡◌, ◌≢◌, ◌∙◌, List, ap, subst, map, Some, None}
use Rattle.std.specs.Prelude.{IfOk, IfErr}
use Rattle.zarr_grids_metadata.specs.ExtensionPoints.{ExtensionPoint}
use Rattle.zarr_grids_metadata.specs.Views.{point_view}
use Rattle.zarr_grids_metadata.specs.declared.error.PluginCreateError.TheVariants.{Memory}
use Rattle.zarr_sharding_metadata.specs.Nesting.{sharded_chain_of}
use Rattle.zarr_sharding_chains.specs.Metadata.{NamesSharded}
use Rattle.zarr_sharding_chains.specs.Refusals.{RefusesSharded}
use Rattle.zarr_sharding_chains.specs.Views.{sharded_meaning}
use Rattle.zarr_sharding_chains.proofs.sharded_metadata.ShardedChainChainOfMetadata.read_metadata.Goals as goal

pub returns-clause-ok : goal.returns-clause-ok
returns-clause-ok g c =
    let b = g.B.BytesToBytesCodecTraits in
    let inner = g.I.ChainOfMetadata.reads in
    let same = ap (map point_view) c.as_slice.ensures.value ∙ c.in_ok-points.ensures in
    subst (λ (ps : List ExtensionPoint). IfOk c.read_points.result (λ chain. sharded_chain_of b.reads inner ps ≡ Some (sharded_meaning g.I.ArrayToBytesCodecTraits.meaning b.meaning chain))) same c.read_points.ensures.ok

pub returns-clause-names : goal.returns-clause-names
returns-clause-names g c =
    let names = g.I.ChainOfMetadata.names in
    let same = ap (map point_view) c.as_slice.ensures.value ∙ c.in_ok-points.ensures in
    subst (λ (ps : List ExtensionPoint). IfOk c.read_points.result (λ chain. NamesSharded names chain ps)) same c.read_points.ensures.names

pub returns-clause-err : goal.returns-clause-err
returns-clause-err g c =
    let reads = g.B.BytesToBytesCodecTraits.reads in
    let inner = g.I.ChainOfMetadata.reads in
    let same = ap (map point_view) c.as_slice.ensures.value ∙ c.in_ok-points.ensures in
    subst (λ (ps : List ExtensionPoint). IfErr c.read_points.result (λ e. e ≢ Memory → sharded_chain_of reads inner ps ≡ None)) same c.read_points.ensures.err

pub returns-clause-refused : goal.returns-clause-refused
returns-clause-refused g c =
    let reads = g.B.BytesToBytesCodecTraits.reads in
    let i = g.I.ChainOfMetadata in
    let same = ap (map point_view) c.as_slice.ensures.value ∙ c.in_ok-points.ensures in
    subst (λ (ps : List ExtensionPoint). IfErr c.read_points.result (λ e. e ≢ Memory → RefusesSharded reads i.reads i.refuses ps e)) same c.read_points.ensures.refused
