-- What a part of a shard is read as depends on what it meets.
use Rattle.std.proofs.Common.{◌≡◌, ◌∙◌, ℕ, ◌<◌, suc, List, [], ◌∷◌, length, map, get_or, ap, sym, refl, arith, true, Option, Some, None, option_and_then, is_some, if◌then◌else◌, ◌==◌}
use Rattle.std.proofs.lemmas.Bool.{eq-eqb, ltb-true}
use Rattle.std.proofs.lemmas.List.Folds.{list_any_at}
use Rattle.std.specs.Prelude.{nat_lt}
use Rattle.std.specs.List.{list_all}
use Rattle.zarr_grids_boxes.specs.Boxes.{product}
use Rattle.zarr_codecs_meaning.specs.Decoding.{all_there, cell_at, cell_of_part, is_absent, part_decoded, cell_of_pair}
use Rattle.zarr_codecs_meaning.specs.Encoding.{Pair, absent_pair}
use Rattle.zarr_codecs_meaning.specs.Fits.{fits}
use Rattle.zarr_codecs_meaning.specs.Places.{index_shape, parts_of}
use Rattle.zarr_codecs_meaning.specs.Types.{Cell}
use Rattle.zarr_codecs_meaning.proofs.Fitting.{fitted}
use Rattle.zarr_codecs_meaning.proofs.Lists.{each_passes}
use Rattle.zarr_codecs_meaning.proofs.Parts.{index_product}
use Rattle.zarr_codecs_meaning.proofs.Positions.{each_at}
use Rattle.zarr_sharding_codec.specs.BytesMet.{is_met}
use Rattle.zarr_sharding_codec.specs.Reading.{shard_cell, shard_cells, subchunks_of}
use Rattle.zarr_sharding_codec.proofs.PlaceCells.{shard_place}
use Rattle.zarr_sharding_index.specs.HeldIndex.{IsIndexHeld}
use Rattle.zarr_sharding_places.specs.Locating.{inside_of, part_shape, subchunk_of}
use Rattle.zarr_sharding_partial.specs.Laws.{MeetAlike, PartIsLocal}
use Rattle.zarr_sharding_partial.specs.Shards.{ShardOf, chain_of}

map_alike : (f g : ℕ → Option Cell) (numbers : List ℕ) → ((i : ℕ) → i < length numbers → f (get_or numbers i 0) ≡ g (get_or numbers i 0)) → map f numbers ≡ map g numbers
map_alike f g [] same = refl
map_alike f g (n ∷ ns) same =
    ap (λ x. x ∷ map f ns) (same 0 (omega arith)) ∙ ap (λ xs. g n ∷ xs) (map_alike f g ns (λ i below. same (suc i) (omega (arith, below))))

-- a part is the cells at its places
part_of_shard : (s : ShardOf) (numbers value : List ℕ) (pairs : List Pair) → IsIndexHeld s.index s.location (index_shape s.shape s.subchunk) value pairs
    → part_decoded (chain_of s) s.elements s.shape value numbers ≡ shard_cells (subchunks_of s.inner s.elements s.shape s.subchunk) value pairs numbers
part_of_shard s numbers value pairs held =
    let meet = λ (n : ℕ). cell_of_part (cell_of_pair (cell_at s.inner s.elements) s.elements.fill value) n (parts_of s.shape s.subchunk) in
    ap (λ (o : Option (List Pair)). if is_some o then all_there (map (λ n. option_and_then (meet n) o) numbers) else None) held.is

-- the cell at a place depends on its slice
place_alike : (s : ShardOf) (numbers value other : List ℕ) (i : ℕ) → fits (chain_of s) s.elements.type s.shape ≡ true → list_all (λ n. nat_lt n (product s.shape)) numbers ≡ true → (alike : MeetAlike s numbers value other) → i < length numbers
    → shard_cell (subchunks_of s.inner s.elements s.shape s.subchunk) value alike.pairs (get_or numbers i 0) ≡ shard_cell (subchunks_of s.inner s.elements s.shape s.subchunk) other alike.pairs (get_or numbers i 0)
place_alike s numbers value other i fit inside alike below =
    let n = get_or numbers i 0 in
    let pairs = alike.pairs in
    let k = subchunk_of s.shape s.subchunk n in
    let pair = get_or pairs k absent_pair in
    let cuts = (fitted s.subchunk s.inner s.index s.location s.elements s.shape fit).cuts in
    let two = index_product s.shape s.subchunk in
    let count = alike.first.many in
    let many : length pairs ≡ length (parts_of s.shape s.subchunk) = omega (arith, two, count) in
    let low : n < product s.shape = ltb-true n (product s.shape) (each_at (λ n. nat_lt n (product s.shape) ≡ true) numbers i 0 (each_passes (λ n. nat_lt n (product s.shape)) numbers inside) below) in
    let met : is_met s.shape s.subchunk numbers k ≡ true = list_any_at (λ (number : ℕ). subchunk_of s.shape s.subchunk number == k) numbers i 0 below (eq-eqb k k refl) in
    shard_place s.inner s.elements s.shape s.subchunk value pairs n cuts many low
    ∙ (ap (λ (o : Option (List ℕ)). if is_absent pair then Some s.elements.fill else option_and_then (λ slice. cell_at s.inner s.elements (part_shape s.shape s.subchunk k) slice (inside_of s.shape s.subchunk n)) o) (alike.slices k met)
    ∙ sym (shard_place s.inner s.elements s.shape s.subchunk other pairs n cuts many low))

pub part_is_local : PartIsLocal
part_is_local s numbers value other fit inside alike =
    part_of_shard s numbers value alike.pairs alike.first
    ∙ (ap all_there (map_alike (shard_cell (subchunks_of s.inner s.elements s.shape s.subchunk) value alike.pairs) (shard_cell (subchunks_of s.inner s.elements s.shape s.subchunk) other alike.pairs) numbers (λ i below. place_alike s numbers value other i fit inside alike below))
    ∙ sym (part_of_shard s numbers other alike.pairs alike.second))
