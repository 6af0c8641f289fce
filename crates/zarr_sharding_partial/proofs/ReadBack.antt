-- What is read of a shard by what is known of it.
use Rattle.std.proofs.Common.{◌≡◌, ◌∙◌, ℕ, ◌*◌, List, [], ◌∷◌, length, map, get_or, ap, sym, refl, true, Option, None, Some, option_and_then, option_map, unwrap_or, Result, Ok, Err}
use Rattle.std.specs.Prelude.{nat_lt}
use Rattle.std.specs.List.{list_all}
use Rattle.std.proofs.lemmas.Bool.{and_parts, ltb-true}
use Rattle.zarr_grids_boxes.specs.Boxes.{product}
use Rattle.zarr_codecs_arrays.specs.declared.array_bytes.ArrayBytes.{ArrayBytes}
use Rattle.zarr_codecs_arrays.specs.declared.error.CodecError.{CodecError}
use Rattle.zarr_codecs_arrays.specs.declared.error.CodecError.TheVariants as error
use Rattle.zarr_codecs_meaning.specs.Chains.{Chain}
use Rattle.zarr_codecs_meaning.specs.Encoding.{Pair, absent_pair}
use Rattle.zarr_codecs_meaning.specs.Fits.{can_cut, fits}
use Rattle.zarr_codecs_meaning.specs.Places.{parts_of}
use Rattle.zarr_codecs_meaning.specs.Types.{Cell, Elements}
use Rattle.zarr_codecs_meaning.proofs.Fitting.{fitted}
use Rattle.zarr_codecs_meaning.proofs.Parts.{index_product}
use Rattle.zarr_codecs_traits.specs.Indexers.{Asked, are_inside, numbers_asked}
use Rattle.zarr_codecs_traits.specs.Arrays.{coded}
use Rattle.zarr_codecs_traits.specs.Outcomes.{DecodesPart}
use Rattle.zarr_sharding_codec.specs.PartWriting.{IsOf}
use Rattle.zarr_sharding_codec.specs.Reading.{IsTotalOf, ListsRead, place_decoded, shard_cell, shard_cells, subchunks_of}
use Rattle.zarr_sharding_codec.proofs.PartShown.{absent_at}
use Rattle.zarr_sharding_codec.proofs.PartsRead.{part_found}
use Rattle.zarr_sharding_codec.proofs.PlaceCells.{shard_place}
use Rattle.zarr_sharding_partial.specs.Pairs.{index_length}
use Rattle.zarr_sharding_partial.specs.Shards.{ShardOf, chain_of}
use Rattle.zarr_sharding_places.specs.Locating.{inside_of, part_shape, subchunk_of}
use Rattle.zarr_sharding_index.specs.Held.{shard_length, Held, held_as}
use Rattle.zarr_sharding_partial.specs.Tables.{IsTold}
use Rattle.zarr_sharding_partial.proofs.Known.{told_of}

-- how many bytes the shard has
total_of : (s : ShardOf) (contents : Option (List ℕ)) (pairs : List Pair) (end total : ℕ) → IsOf s.location (index_length s) contents pairs end → total ≡ shard_length s.location (index_length s) end → IsTotalOf contents pairs total
total_of s None pairs end total of is = of
total_of s (Some value) pairs end total of is = is ∙ sym of

pub told_total : (s : ShardOf) (held : Held) (total : ℕ) → IsTold s held → total ≡ shard_length s.location (index_length s) held.end → IsTotalOf held.contents held.pairs total
told_total s held total told is = total_of s held.contents held.pairs held.end total (told_of s held told) is

-- where no subchunk is present, each place has the fill value
filled_cells : (inner : Chain) (elements : Elements) (shape subchunk : List ℕ) (pairs : List Pair) (numbers : List ℕ) → can_cut shape subchunk ≡ true → length pairs ≡ length (parts_of shape subchunk) → ((k : ℕ) → get_or pairs k absent_pair ≡ absent_pair)
    → list_all (λ n. nat_lt n (product shape)) numbers ≡ true → shard_cells (subchunks_of inner elements shape subchunk) [] pairs numbers ≡ Some (map (λ n. elements.fill) numbers)
filled_cells inner elements shape subchunk pairs [] cuts many absent below = refl
filled_cells inner elements shape subchunk pairs (n ∷ ns) cuts many absent below =
    let both = and_parts (nat_lt n (product shape)) (list_all (λ m. nat_lt m (product shape)) ns) below in
    let here : shard_cell (subchunks_of inner elements shape subchunk) [] pairs n ≡ Some elements.fill =
    shard_place inner elements shape subchunk [] pairs n cuts many (ltb-true n (product shape) both.0)
    ∙ ap (λ (p : Pair). place_decoded (coded inner elements (part_shape shape subchunk (subchunk_of shape subchunk n))) [] p (inside_of shape subchunk n)) (absent (subchunk_of shape subchunk n)) in
    ap (λ (o : Option Cell). option_and_then (λ x. option_map (λ xs. x ∷ xs) (shard_cells (subchunks_of inner elements shape subchunk) [] pairs ns)) o) here
    ∙ ap (option_map (λ xs. elements.fill ∷ xs)) (filled_cells inner elements shape subchunk pairs ns cuts many absent both.1)

-- the elements at places that are asked for, by what is known of the shard
module _ (s : ShardOf) (numbers : List ℕ) (asked : Asked) (fit : fits (chain_of s) s.elements.type s.shape ≡ true) (inside : are_inside s.shape asked ≡ true) (are : numbers ≡ numbers_asked s.shape asked)
    (below : list_all (λ n. nat_lt n (product s.shape)) numbers ≡ true) where
  nothing_read : (pairs : List Pair) (result : Result ArrayBytes CodecError) → shard_cells (subchunks_of s.inner s.elements s.shape s.subchunk) [] pairs numbers ≡ Some (map (λ n. s.elements.fill) numbers)
      → ListsRead s.elements s.shape (shard_cells (subchunks_of s.inner s.elements s.shape s.subchunk) [] pairs numbers) result → DecodesPart (coded (chain_of s) s.elements s.shape) None asked result
  nothing_read pairs (Ok bytes) filled read = record {
    cells = read.cells;
    fit = fit;
    inside = inside;
    lists = read.lists;
    is = ap (λ ns. Some (map (λ n. s.elements.fill) ns)) (sym are) ∙ (sym filled ∙ read.is);
  }
  nothing_read pairs (Err error.Damage) filled read = let no : Some (map (λ n. s.elements.fill) numbers) ≡ None = sym filled ∙ read in absurd (cc)
  nothing_read pairs (Err error.Size) filled read = read
  nothing_read pairs (Err error.Source) filled read = tt
  nothing_read pairs (Err error.Memory) filled read = tt
  nothing_read pairs (Err e) filled read = absurd read

  by_contents : (contents : Option (List ℕ)) (pairs : List Pair) (end : ℕ) (result : Result ArrayBytes CodecError) → length pairs ≡ length (parts_of s.shape s.subchunk) → IsTold s (held_as contents pairs end)
      → ListsRead s.elements s.shape (shard_cells (subchunks_of s.inner s.elements s.shape s.subchunk) (unwrap_or contents []) pairs numbers) result → DecodesPart (coded (chain_of s) s.elements s.shape) contents asked result
  by_contents None pairs end result count told read =
      let absent : (k : ℕ) → get_or pairs k absent_pair ≡ absent_pair = λ k. ap (λ (ps : List Pair). get_or ps k absent_pair) told.0 ∙ absent_at (length (parts_of s.shape s.subchunk)) k in
      let cuts = (fitted s.subchunk s.inner s.index s.location s.elements s.shape fit).cuts in
      nothing_read pairs result (filled_cells s.inner s.elements s.shape s.subchunk pairs numbers cuts count absent below) read
  by_contents (Some value) pairs end result count told read =
      part_found s.subchunk s.inner s.index s.location s.elements s.shape value pairs numbers asked result fit inside are (record { is = told.0; many = index_product s.shape s.subchunk ∙ ap (λ n. 2 * n) (sym count) }) read

  pub part_read_back : (held : Held) (result : Result ArrayBytes CodecError) → length held.pairs ≡ length (parts_of s.shape s.subchunk) → IsTold s held
      → ListsRead s.elements s.shape (shard_cells (subchunks_of s.inner s.elements s.shape s.subchunk) (unwrap_or held.contents []) held.pairs numbers) result → DecodesPart (coded (chain_of s) s.elements s.shape) held.contents asked result
  part_read_back held result count told read = by_contents held.contents held.pairs held.end result count told read
