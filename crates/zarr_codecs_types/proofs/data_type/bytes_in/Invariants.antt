use Rattle.std.proofs.Common.{◌≡◌, ◌+◌, ◌<◌, ◌^◌, drop}
use Rattle.zarr_codecs_meaning.specs.Types.{bytes_in}
use Rattle.zarr_codecs_types.specs.Views.{components_of}
use Rattle.zarr_codecs_types.proofs.data_type.bytes_in.Given as goal

-- what is counted and what is left are the whole
abbrev pub invariant-loop-part : goal.invariant-loop-part
invariant-loop-part l = record {
  fits : l.count < 2 ^ 64;
  whole : bytes_in (components_of l.parts) ≡ l.count + bytes_in (components_of (drop l.part-index l.parts));
}
