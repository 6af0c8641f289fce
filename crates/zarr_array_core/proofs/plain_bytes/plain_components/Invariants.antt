use Rattle.std.proofs.Common.{◌≡◌, map, take}
use Rattle.zarr_codecs_types.specs.Views.{component_of}
use Rattle.zarr_array_core.specs.ChunkValues.{plain_component}
use Rattle.zarr_array_core.proofs.plain_bytes.plain_components.Given as goal

-- the components so far
abbrev pub invariant-loop-part : goal.invariant-loop-part
invariant-loop-part l = map component_of l.plain.items ≡ map (λ part. plain_component (component_of part)) (take l.part-index l.parts)
