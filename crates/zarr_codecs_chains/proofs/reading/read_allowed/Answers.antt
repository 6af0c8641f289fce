use Rattle.std.proofs.Common.{◌≡◌, ◌≢◌, ◌∙◌, List, ap, subst, map, Some, None}
use Rattle.std.specs.Prelude.{IfOk, IfErr}
use Rattle.zarr_grids_metadata.specs.ExtensionPoints.{ExtensionPoint}
use Rattle.zarr_grids_metadata.specs.Views.{point_view}
use Rattle.zarr_grids_metadata.specs.declared.error.PluginCreateError.TheVariants.{Memory}
use Rattle.zarr_codecs_metadata.specs.Chains.{allowed_chain}
use Rattle.zarr_codecs_chains.specs.Names.{NamesChain}
use Rattle.zarr_codecs_chains.specs.Refusals.{RefusesChain}
use Rattle.zarr_codecs_chains.specs.Views.{meaning_of}
use Rattle.zarr_codecs_chains.proofs.reading.read_allowed.Goals as goal

pub returns-clause-ok : goal.returns-clause-ok
returns-clause-ok g c =
    let b = g.B.BytesToBytesCodecTraits in
    let same = ap (map point_view) c.as_slice.ensures.value ∙ c.in_ok-points.ensures in
    subst (λ (ps : List ExtensionPoint). IfOk c.read_allowed_points.result (λ chain. allowed_chain b.reads ps ≡ Some (meaning_of b.meaning chain))) same c.read_allowed_points.ensures.ok

pub returns-clause-names : goal.returns-clause-names
returns-clause-names g c =
    let same = ap (map point_view) c.as_slice.ensures.value ∙ c.in_ok-points.ensures in
    subst (λ (ps : List ExtensionPoint). IfOk c.read_allowed_points.result (λ chain. NamesChain chain ps)) same c.read_allowed_points.ensures.names

pub returns-clause-err : goal.returns-clause-err
returns-clause-err g c =
    let reads = g.B.BytesToBytesCodecTraits.reads in
    let same = ap (map point_view) c.as_slice.ensures.value ∙ c.in_ok-points.ensures in
    subst (λ (ps : List ExtensionPoint). IfErr c.read_allowed_points.result (λ e. e ≢ Memory → allowed_chain reads ps ≡ None)) same c.read_allowed_points.ensures.err

pub returns-clause-refused : goal.returns-clause-refused
returns-clause-refused g c =
    let reads = g.B.BytesToBytesCodecTraits.reads in
    let same = ap (map point_view) c.as_slice.ensures.value ∙ c.in_ok-points.ensures in
    subst (λ (ps : List ExtensionPoint). IfErr c.read_allowed_points.result (λ e. e ≢ Memory → RefusesChain reads ps e)) same c.read_allowed_points.ensures.refused
