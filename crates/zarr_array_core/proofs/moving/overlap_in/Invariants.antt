use Rattle.std.proofs.Common.{◌≡◌, ℕ, ◌+◌, ◌-◌, ◌<◌, ◌^◌, ◌++◌, length, get_or, drop, max, min}
use Rattle.zarr_grids_boxes.specs.Boxes.{each2}
use Rattle.zarr_array_core.proofs.moving.overlap_in.Given as goal

abbrev pub invariant-loop-k : goal.invariant-loop-k
invariant-loop-k l = record {
  start : each2 max l.one.start.items l.other.start.items ≡ l.start.items ++ each2 max (drop l.k l.one.start.items) (drop l.k l.other.start.items);
  shape : each2 (λ s e. e - s) (each2 max l.one.start.items l.other.start.items) (each2 min (each2 (λ s e. s + e) l.one.start.items l.one.shape.items) (each2 (λ s e. s + e) l.other.start.items l.other.shape.items))
      ≡ l.shape.items ++ each2 (λ s e. e - s) (each2 max (drop l.k l.one.start.items) (drop l.k l.other.start.items)) (each2 min (each2 (λ s e. s + e) (drop l.k l.one.start.items) (drop l.k l.one.shape.items)) (each2 (λ s e. s + e) (drop l.k l.other.start.items) (drop l.k l.other.shape.items)));
  starts : length l.start.items ≡ l.k;
  shapes : length l.shape.items ≡ l.k;
  fit : (j : ℕ) → j < l.k → get_or l.start.items j 0 + get_or l.shape.items j 0 < 2 ^ 64;
}
