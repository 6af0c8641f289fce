use Rattle.std.proofs.Common.{◌≡◌, ◌++◌, map, take}
use Rattle.serde_json.specs.View.{view}
use Rattle.zarr_array_v2.specs.Codecs.{codec_in}
use Rattle.zarr_array_v2.proofs.codecs.push_codecs.Given as goal

-- so far the codec of each value was put last
abbrev pub invariant-loop-value : goal.invariant-loop-value
invariant-loop-value l = map view l.codecs.items ≡ map view l.fn.codecs.items ++ map (λ v. codec_in (view v)) (take l.value-index l.values)
