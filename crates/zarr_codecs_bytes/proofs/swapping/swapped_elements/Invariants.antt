use Rattle.std.proofs.Common.{◌≡◌, ◌%◌, ◌++◌, length, Some}
use Rattle.zarr_codecs_meaning.specs.Chains.Endianness.{big}
use Rattle.zarr_codecs_meaning.specs.Types.{bytes_in}
use Rattle.zarr_codecs_types.specs.Views.{components_of}
use Rattle.zarr_codecs_bytes.specs.Orders.{all_ordered}
use Rattle.zarr_codecs_bytes.proofs.swapping.swapped_elements.Given as goal

abbrev pub invariant-loop-rest : goal.invariant-loop-rest
invariant-loop-rest l = record {
  whole : length l.rest % bytes_in (components_of l.parts) ≡ 0;
  written : l.out.items ++ all_ordered (Some big) (components_of l.parts) l.rest ≡ all_ordered (Some big) (components_of l.parts) l.bytes;
}

abbrev pub decreases-loop-rest : goal.decreases-loop-rest
decreases-loop-rest l = length l.rest
