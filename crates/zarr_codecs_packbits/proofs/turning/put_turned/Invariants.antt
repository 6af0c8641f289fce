use Rattle.std.proofs.Common.{◌≡◌, ◌++◌, ◌-◌, ◌*◌, ◌≤◌, length, true}
use Rattle.zarr_codecs_types.specs.Views.{components_of}
use Rattle.zarr_codecs_packbits.specs.Turning.{are_bits, element_bits_read, turned}
use Rattle.zarr_codecs_packbits.proofs.turning.put_turned.Given as goal

-- the elements so far, and before those that are left
abbrev pub invariant-loop-element : goal.invariant-loop-element
invariant-loop-element l = record {
  bits : are_bits l.rest ≡ true;
  enough : (l.count - l._element) * element_bits_read l.turn.way l.turn.first l.turn.last (components_of l.parts) ≤ length l.rest;
  written : l.out.items ++ turned l.turn (components_of l.parts) (l.count - l._element) l.rest ≡ turned l.turn (components_of l.parts) l.count l.bits;
}
