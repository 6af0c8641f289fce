-- A read of places of a shard depends on its length, its index and the slices that it meets alone.
use Rattle.std.proofs.Common.{◌≡◌, ◌∙◌, ℕ, List, [], ◌∷◌, map, length, ap, refl, sym, Option, Some, None, is_some, Bool, true, false, option_and_then, option_map, if◌then◌else◌, nat_lt, nat_le}
use Rattle.std.specs.Prelude.{◌||◌}
use Rattle.std.specs.List.{list_any}
use Rattle.zarr_codecs_meaning.specs.Types.{Cell, Elements, uint64, zero_filled}
use Rattle.zarr_codecs_meaning.specs.Chains.{Chain}
use Rattle.zarr_codecs_meaning.specs.Chains.Chain.{sharded}
use Rattle.zarr_codecs_meaning.specs.Places.{Part, index_shape, parts_of, position_of}
use Rattle.zarr_codecs_meaning.specs.Encoding.{Pair}
use Rattle.zarr_codecs_meaning.specs.Decoding.{all_there, cell_at, cell_of_part, decoded, index_bytes, is_absent, pairs_of_cells, slice_at, cell_of_pair}
use Rattle.zarr_sharding_values.specs.Local.{AreSameFor, HaveSameSlices, ReadIsLocal, ShardRead, pairs_read, size_of_index}

-- whether a place lies in a subchunk
abbrev lies_in : Part → ℕ → Bool
lies_in part n = nat_lt (position_of n part.places) (length part.places)

-- the slices of the subchunks that one place lies in are the same
abbrev SameAt : ℕ → List ℕ → List ℕ → List Part → List Pair → Type 0
SameAt n value other [] pairs = Unit {0}
SameAt n value other (part ∷ parts) [] = Unit {0}
SameAt n value other (part ∷ parts) (pair ∷ pairs) = (lies_in part n ≡ true → slice_at other pair ≡ slice_at value pair) × SameAt n value other parts pairs

first_any : (b c : Bool) → b ≡ true → (b || c) ≡ true
first_any true c h = refl
first_any false c h = cc

other_any : (b c : Bool) → c ≡ true → (b || c) ≡ true
other_any true c h = refl
other_any false c h = h

first_place : (n : ℕ) (ns value other : List ℕ) (parts : List Part) (pairs : List Pair) → HaveSameSlices (n ∷ ns) value other parts pairs → SameAt n value other parts pairs
first_place n ns value other [] pairs h = h
first_place n ns value other (part ∷ parts) [] h = h
first_place n ns value other (part ∷ parts) (pair ∷ pairs) h = (λ is. h.0 (first_any (lies_in part n) (list_any (lies_in part) ns) is), first_place n ns value other parts pairs h.1)

other_places : (n : ℕ) (ns value other : List ℕ) (parts : List Part) (pairs : List Pair) → HaveSameSlices (n ∷ ns) value other parts pairs → HaveSameSlices ns value other parts pairs
other_places n ns value other [] pairs h = h
other_places n ns value other (part ∷ parts) [] h = h
other_places n ns value other (part ∷ parts) (pair ∷ pairs) h = (λ is. h.0 (other_any (lies_in part n) (list_any (lies_in part) ns) is), other_places n ns value other parts pairs h.1)

chosen : (b : Bool) (here also rest also_rest : Option Cell) → (b ≡ true → here ≡ also) → rest ≡ also_rest → ◌≡◌ {A = Option Cell} (elim b [ true ↦ here | false ↦ rest ]) (elim b [ true ↦ also | false ↦ also_rest ])
chosen true here also rest also_rest h r = h refl
chosen false here also rest also_rest h r = r

at_place : (read : List ℕ → List ℕ → ℕ → Option Cell) (fill : Cell) (n : ℕ) (value other : List ℕ) (parts : List Part) (pairs : List Pair) → SameAt n value other parts pairs
    → cell_of_part (cell_of_pair read fill other) n parts pairs ≡ cell_of_part (cell_of_pair read fill value) n parts pairs
at_place read fill n value other [] pairs h = refl
at_place read fill n value other (part ∷ parts) [] h = refl
at_place read fill n value other (part ∷ parts) (pair ∷ pairs) h =
    let k = position_of n part.places in
    let cell : Option (List ℕ) → Option Cell = λ slice. if is_absent pair then Some fill else option_and_then (λ found. read part.shape found k) slice in
    chosen (lies_in part n) (cell (slice_at other pair)) (cell (slice_at value pair)) (cell_of_part (cell_of_pair read fill other) n parts pairs) (cell_of_part (cell_of_pair read fill value) n parts pairs) (λ is. ap cell (h.0 is))
    (at_place read fill n value other parts pairs h.1)

each_place : (f g : ℕ → Option Cell) (value other : List ℕ) (parts : List Part) (pairs : List Pair) → ((n : ℕ) → SameAt n value other parts pairs → f n ≡ g n)
    → (numbers : List ℕ) → HaveSameSlices numbers value other parts pairs → map f numbers ≡ map g numbers
each_place f g value other parts pairs h [] same = refl
each_place f g value other parts pairs h (n ∷ ns) same =
    ap (λ (cell : Option Cell). cell ∷ map f ns) (h n (first_place n ns value other parts pairs same))
    ∙ ap (λ (cells : List (Option Cell)). g n ∷ cells) (each_place f g value other parts pairs h ns (other_places n ns value other parts pairs same))

same_pairs : (read : ShardRead) (value other : List ℕ) → AreSameFor read value other → pairs_read read other ≡ pairs_read read value
same_pairs read value other same =
    let size = size_of_index read in
    let read_pairs : List ℕ → Option (List Cell) = decoded read.index (zero_filled uint64) (index_shape read.shape read.subchunk) in
    ap (λ (long : ℕ). if nat_le size long then option_map pairs_of_cells (read_pairs (index_bytes read.location size other)) else None) same.long
    ∙ ap (λ (bytes : List ℕ). if nat_le size (length value) then option_map pairs_of_cells (read_pairs bytes) else None) same.same_index

pub read_is_local : ReadIsLocal
read_is_local read inner elements value other same = go (pairs_read read value) refl where
  chain : Chain
  chain = sharded read.subchunk inner read.index read.location

  parts : List Part
  parts = parts_of read.shape read.subchunk

  cells : List ℕ → List (Option Cell)
  cells bytes = map (cell_at chain elements read.shape bytes) read.numbers

  part_of : Option (List Pair) → List ℕ → Option (List Cell)
  part_of found bytes = if is_some found then all_there (cells bytes) else None

  go : (found : Option (List Pair)) → pairs_read read value ≡ found → part_of (pairs_read read other) other ≡ part_of (pairs_read read value) value
  go None is = ap (λ (o : Option (List Pair)). part_of o other) (same_pairs read value other same ∙ is) ∙ sym (ap (λ (o : Option (List Pair)). part_of o value) is)
  go (Some pairs) is =
      let take : List ℕ → ℕ → Option (List Pair) → Option Cell = λ bytes n. option_and_then (cell_of_part (cell_of_pair (cell_at inner elements) elements.fill bytes) n parts) in
      let pointwise = λ (n : ℕ) (at : SameAt n value other parts pairs). ap (take other n) (same_pairs read value other same ∙ is) ∙ at_place (cell_at inner elements) elements.fill n value other parts pairs at ∙ sym (ap (take value n) is) in
      let all : cells other ≡ cells value = each_place (cell_at chain elements read.shape other) (cell_at chain elements read.shape value) value other parts pairs pointwise read.numbers (same.slices pairs is) in
      ap (λ (o : Option (List Pair)). part_of o other) (same_pairs read value other same) ∙ ap (λ (found : List (Option Cell)). if is_some (pairs_read read value) then all_there found else None) all
