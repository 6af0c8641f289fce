use Rattle.std.proofs.Common.{◌++◌, map, sym, ap, ◌∙◌, arith}
use Rattle.std.proofs.lemmas.List.{take_all}
use Rattle.serde_json.specs.View.{view}
use Rattle.zarr_array_v2.specs.Codecs.{codec_in}
use Rattle.zarr_array_v2.proofs.Listed.{codecs_listed}
use Rattle.zarr_array_v2.proofs.codecs.push_codecs.Goals as goal

pub returns : goal.returns
returns c =
    let values = c.args.values.now in
    c.loop-value.invariant ∙ ap (λ ds. map view c.args.codecs.now.items ++ ds) (ap (map (λ v. codec_in (view v))) (take_all c.loop-value.value-index values (omega arith)) ∙ sym (codecs_listed values))
