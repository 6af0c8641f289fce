use Rattle.std.proofs.Common.{◌≡◌, ◌+◌, ◌-◌, ◌<◌, ◌≤◌, ◌++◌}
use Rattle.std.specs.Prelude.{flat_map}
use Rattle.std.specs.List.{range_with_len}
use Rattle.zarr_codecs_strides.specs.Strides.{walked}
use Rattle.zarr_codecs_strides.proofs.columns.push_panels.Given as goal

abbrev pub decreases-loop-done : goal.decreases-loop-done
decreases-loop-done l = l.side.count - l.done

-- the panels so far
abbrev pub invariant-loop-done : goal.invariant-loop-done
invariant-loop-done l = record {
  some : 0 < l.most;
  within : l.done ≤ l.side.count;
  panels : l.out.items ≡ l.initial.out.items ++ flat_map (λ c. walked l.stretches.width l.stretches.bytes.now (l.side.base + c) l.walk.sizes.now l.walk.strides.now) (range_with_len 0 l.done);
}
