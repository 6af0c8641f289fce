use Rattle.std.proofs.Common.{ℕ, ◌+◌, List, Bool, true, false, Option, ap, ap₂, refl, []}
use Rattle.zarr_grids_boxes.specs.Boxes.{Region}
use Rattle.zarr_sharding_changes.specs.WorkedCompactions.{shard_of_twos}
use Rattle.zarr_array_meaning.specs.ReadBytes.{box_read, most_of_chunk}
use Rattle.zarr_array_meaning.specs.StoreMaps.{StoreMap}
use Rattle.zarr_array_meaning.specs.WorkedReads.{eight_by, stretch}
use Rattle.zarr_array_meaning.proofs.laws.box_read_rows.Goals as goal

-- how many bytes are taken of the first chunk, and of both, by what is stored for them
abbrev of_first : Region → Bool → StoreMap → Option (List ℕ) → ℕ
of_first region workers store first = 0 + most_of_chunk (box_read [] (eight_by shard_of_twos) store region workers) (stretch 0 4) first

abbrev of_both : Region → Bool → StoreMap → Option (List ℕ) → Option (List ℕ) → ℕ
of_both region workers store first second = of_first region workers store first + most_of_chunk (box_read [] (eight_by shard_of_twos) store region workers) (stretch 4 4) second

pub returns : goal.returns
returns c = record {
  in_order = λ store first second. ap₂ (of_both (stretch 2 6) false store) first second;
  by_workers = λ store first second. ap₂ (of_both (stretch 2 6) true store) first second;
  both = λ store first second. ap₂ (of_both (stretch 0 8) false store) first second;
  first_alone = λ store first second. ap (of_first (stretch 0 4) true store) first;
  no_place = λ store first second. refl;
}
