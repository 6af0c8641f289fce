-- What is kept of a shard that is read in part.
use Rattle.std.specs.Prelude.{◌≡◌, ℕ, ◌*◌, ◌<◌, ◌^◌, List, length, Bool, true, IsTrue, Option, option_and_then, option_map}
use Rattle.zarr_grids_boxes.specs.Boxes.{product}
use Rattle.zarr_codecs_meaning.specs.Encoding.{Pair}
use Rattle.zarr_codecs_meaning.specs.Fits.{fits}
use Rattle.zarr_codecs_meaning.specs.Places.{grid_of}
use Rattle.zarr_sharding_index.specs.declared.fetched_index.FetchedIndex.{FetchedIndex}
use Rattle.zarr_sharding_partial.specs.Pairs.{count_fetched, counts, pairs_fetched, stored_pairs, totals}
use Rattle.zarr_sharding_partial.specs.Shards.{ShardOf, chain_of}
use Rattle.zarr_sharding_partial.specs.declared.opened_index.OpenedIndex.{OpenedIndex}

-- the pairs of the index that is kept, if a shard is held
abbrev pub pairs_opened : OpenedIndex → Option (List Pair)
pairs_opened opened = pairs_fetched opened.held

-- the codec suits the array, and what is kept is its grid and the index that a source holds, where the source is honest
pub record IsOpened (s : ShardOf) (honest : Bool) (contents : Option (List ℕ)) (opened : OpenedIndex) : Type 0 where
  pub fit : fits (chain_of s) s.elements.type s.shape ≡ true
  pub told : IsTrue honest → option_map length contents ≡ totals opened.held
  pub pairs : IsTrue honest → option_and_then (stored_pairs s) contents ≡ pairs_fetched opened.held
  pub many : counts opened.held ≡ option_map (λ (found : FetchedIndex). product (grid_of s.shape s.subchunk)) opened.held
  pub cut : opened.grid.items ≡ grid_of s.shape s.subchunk
  pub few : product (grid_of s.shape s.subchunk) < 2 ^ 63
  pub sized : opened.size ≡ 24 * count_fetched opened.held
