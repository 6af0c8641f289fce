-- An index of which the pairs of present subchunks are kept.
use Rattle.std.specs.Prelude.{List, Bool, is_some}
use Rattle.zarr_codecs_meaning.specs.Encoding.{Pair}
use Rattle.zarr_sharding_index.specs.Listed.{full_list, numbered}
use Rattle.zarr_sharding_index.specs.Views.{numbers_or_all, pairs_of}
use Rattle.zarr_sharding_index.specs.declared.pair.PresentPair.{PresentPair}
use Rattle.zarr_sharding_index.specs.declared.present.PresentPairs.{PresentPairs}

-- the pairs that are kept
abbrev pub kept_pairs : PresentPairs → List PresentPair
kept_pairs index = numbered (numbers_or_all index.count index.numbers) (pairs_of index.ranges)

-- all pairs of the index
abbrev pub all_pairs : PresentPairs → List Pair
all_pairs index = full_list index.count (kept_pairs index)

-- whether the numbers of the present subchunks are listed
abbrev pub are_numbers_listed : PresentPairs → Bool
are_numbers_listed index = is_some index.numbers
