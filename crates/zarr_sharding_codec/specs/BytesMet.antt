-- How many bytes of a shard's slices are read for places of its array.
use Rattle.std.specs.Prelude.{ℕ, List, length, get_or, if◌then◌else◌, Bool, ◌==◌, sum_by}
use Rattle.std.specs.List.{list_any, range_with_len}
use Rattle.zarr_codecs_meaning.specs.Encoding.{Pair, absent_pair}
use Rattle.zarr_codecs_traits.specs.ReadBytes.{slice_length}
use Rattle.zarr_sharding_places.specs.Locating.{subchunk_of}

-- whether one of the places with these numbers lies in the subchunk with this one
abbrev pub is_met : List ℕ → List ℕ → List ℕ → ℕ → Bool
is_met shape subchunk numbers n = list_any (λ number. subchunk_of shape subchunk number == n) numbers

-- how many bytes the slices have of the subchunks that places lie in, by the pairs of a shard of so many bytes: each slice is counted once
abbrev pub bytes_met : List ℕ → List ℕ → List ℕ → List Pair → ℕ → ℕ
bytes_met shape subchunk numbers pairs total = sum_by (λ n. if is_met shape subchunk numbers n then slice_length total (get_or pairs n absent_pair) else 0) (range_with_len 0 (length pairs))
