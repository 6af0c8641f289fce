-- What is decoded whole is read at places alone.
use Rattle.std.proofs.Common.{◌≡◌, ℕ, zero, suc, ◌<◌, List, [], ◌∷◌, length, map, get_or, slice_get, replicate, ap, ◌∙◌, sym, refl, arith, Option, Some, None, option_and_then, option_map, is_some, Bool, true, false, inl, inr, if◌then◌else◌}
use Rattle.std.proofs.lemmas.Bool.{ltb-true, lt-ltb, and_parts}
use Rattle.std.proofs.lemmas.List.{get_or-map, get_or-replicate}
use Rattle.std.proofs.lemmas.Option.{slice_get-get_or}
use Rattle.std.proofs.lemmas.List.FromFn.{length-range_with_len, length-map-range_with_len, get_or-range_with_len, get_or-map-range_with_len}
use Rattle.std.specs.Prelude.{nat_lt}
use Rattle.std.specs.List.{list_all, range_with_len}
use Rattle.zarr_grids_boxes.specs.Boxes.{product}
use Rattle.zarr_codecs_meaning.specs.Types.{uint64, Elements, Cell, zero_filled}
use Rattle.zarr_codecs_meaning.specs.Chains.{Chain}
use Rattle.zarr_codecs_meaning.specs.Chains.Chain.{bytes, packbits, vlen, optional, after_array_codec, then_bytes, sharded}
use Rattle.zarr_codecs_meaning.specs.Places.{gather, place_numbers, position_of, encoded_shape, source_places, undone_places, Part, parts_of, index_shape}
use Rattle.zarr_codecs_meaning.specs.Fits.{fits, array_codec_fits}
use Rattle.zarr_codecs_meaning.specs.Encoding.{Pair, index_size}
use Rattle.zarr_codecs_meaning.specs.Keeping.{arranged}
use Rattle.zarr_codecs_meaning.specs.Decoding.{all_there, element_at, is_whole, decoded, cell_at, cell_of_part, opens, part_decoded, is_absent, slice_at, pairs_in, pieces_decoded, cell_of_pair}
use Rattle.zarr_codecs_meaning.proofs.Lists.{bind_some, map_some, elim_some, Each, each_passes}
use Rattle.zarr_codecs_meaning.proofs.ArrayCodecs.{array_codec_count}
use Rattle.zarr_codecs_meaning.proofs.Positions.{position_found}
use Rattle.zarr_codecs_meaning.proofs.Covers.{array_codec_covers}
use Rattle.zarr_codecs_meaning.proofs.Shards.{IsCovered}
use Rattle.zarr_codecs_meaning.proofs.Parts.{part_counts, parts_cover}
use Rattle.zarr_codecs_meaning.proofs.Fitting.{fitted}
use Rattle.zarr_codecs_meaning.proofs.Counts.{decoded_count}

-- what is shown of a value: its places can be read, and each gives its cell
record Reads (chain : Chain) (elements : Elements) (shape value : List ℕ) (cells : List Cell) : Type 0 where
  pub opened : opens chain elements shape value ≡ true
  pub cell : (n : ℕ) → n < product shape → cell_at chain elements shape value n ≡ Some (get_or cells n elements.fill)

selected : (o : Option (List Cell)) (cells : List Cell) (n : ℕ) (fill : Cell) → o ≡ Some cells → n < length cells → option_and_then (λ found. slice_get found n) o ≡ Some (get_or cells n fill)
selected o cells n fill is h = ap (option_and_then (λ (found : List Cell). slice_get found n)) is ∙ slice_get-get_or cells n fill h

-- where all are there, each is
found_at : {X : Type 0} (f : ℕ → Option X) (ns : List ℕ) (xs : List X) (i : ℕ) (d : X) → all_there (map f ns) ≡ Some xs → i < length ns → f (get_or ns i 0) ≡ Some (get_or xs i d)
found_at f [] xs i d h below = absurd (omega arith)
found_at f (n ∷ ns) xs i d h below =
    let first = bind_some (λ x. option_map (λ ys. x ∷ ys) (all_there (map f ns))) (f n) xs h in
    let rest = map_some (λ ys. first.0 ∷ ys) (all_there (map f ns)) xs first.2 in
    at_place f n ns first.0 rest.0 i d first.1 (λ j low. found_at f ns rest.0 j d rest.1 low) below ∙ ap (λ ys. Some (get_or ys i d)) rest.2 where
      at_place : {X : Type 0} (f : ℕ → Option X) (n : ℕ) (ns : List ℕ) (x : X) (xs : List X) (i : ℕ) (d : X) → f n ≡ Some x → ((j : ℕ) → j < length ns → f (get_or ns j 0) ≡ Some (get_or xs j d)) → i < length (n ∷ ns)
          → f (get_or (n ∷ ns) i 0) ≡ Some (get_or (x ∷ xs) i d)
      at_place f n ns x xs zero d e law below = e
      at_place f n ns x xs (suc j) d e law below = law j (omega arith)

-- ---- shards

-- what is asked of a part: each cell of what its slice is decoded to is read
pub record PartLaw (read : List ℕ → List ℕ → ℕ → Option Cell) (decode : List ℕ → List ℕ → Option (List Cell)) (fill : Cell) (part : Part) : Type 0 where
  pub count : length part.places ≡ product part.shape
  pub cell : (slice : List ℕ) (cells : List Cell) (n : ℕ) → decode part.shape slice ≡ Some cells → n < length part.places → read part.shape slice n ≡ Some (get_or cells n fill)

-- the cell of the part that holds the place
held_cell : (absent : Bool) (read : List ℕ → List ℕ → ℕ → Option Cell) (decode : List ℕ → List ℕ → Option (List Cell)) (fill : Cell) (part : Part) (slice : Option (List ℕ)) (cells : List Cell) (n : ℕ) → PartLaw read decode fill part → n < length part.places
    → (if absent then Some (replicate (product part.shape) fill) else option_and_then (decode part.shape) slice) ≡ Some cells
    → (if absent then Some fill else option_and_then (λ made. read part.shape made n) slice) ≡ Some (get_or cells n fill)
held_cell true read decode fill part slice cells n law below h =
    let count = law.count in
    let low : n < product part.shape = omega (arith, below, count) in
    let same : replicate (product part.shape) fill ≡ cells = cc in
    ap Some (sym (get_or-replicate (product part.shape) n fill fill low) ∙ ap (λ xs. get_or xs n fill) same)
held_cell false read decode fill part slice cells n law below h =
    let made = bind_some (decode part.shape) slice cells h in
    ap (option_and_then (λ found. read part.shape found n)) made.1 ∙ law.cell made.0 cells n made.2 below

-- the first part that holds the place decides in the whole and in the part alike
meet : (b : Bool) (here there : Option Cell) (one other : Cell) → (b ≡ true → here ≡ Some one) → (b ≡ false → there ≡ Some other) → elim b [ true ↦ here | false ↦ there ] ≡ Some (if b then one else other)
meet true here there one other f g = f refl
meet false here there one other f g = g refl

place_read : (read : List ℕ → List ℕ → ℕ → Option Cell) (decode : List ℕ → List ℕ → Option (List Cell)) (fill : Cell) (value : List ℕ) (n : ℕ) (parts : List Part) (ps : List Pair) (pieces : List (List Cell))
    → Each (PartLaw read decode fill) parts → pieces_decoded decode fill value parts ps ≡ Some pieces → IsCovered n parts → cell_of_part (cell_of_pair read fill value) n parts ps ≡ Some (arranged fill parts pieces n)
place_read read decode fill value n [] ps pieces law h covered = elim covered [ ]
place_read read decode fill value n (part ∷ parts) [] pieces law h covered = cc
place_read read decode fill value n (part ∷ parts) (p ∷ ps) pieces law h covered =
    let k = position_of n part.places in
    let now = if is_absent p then Some (replicate (product part.shape) fill) else option_and_then (decode part.shape) (slice_at value p) in
    let later = pieces_decoded decode fill value parts ps in
    let first = bind_some (λ (cells : List Cell). option_map (λ (others : List (List Cell)). cells ∷ others) later) now pieces h in
    let rest = map_some (λ (others : List (List Cell)). first.0 ∷ others) later pieces first.2 in
    meet (nat_lt k (length part.places)) (if is_absent p then Some fill else option_and_then (λ slice. read part.shape slice k) (slice_at value p)) (cell_of_part (cell_of_pair read fill value) n parts ps)
    (get_or first.0 k fill) (arranged fill parts rest.0 n)
    (λ e. held_cell (is_absent p) read decode fill part (slice_at value p) first.0 k law.0 (ltb-true k (length part.places) e) first.1)
    (λ e. elim covered [
      | inl is ↦ let yes : true ≡ false = sym (lt-ltb k (length part.places) (position_found n part.places is)) ∙ e in absurd (cc)
      | inr is ↦ place_read read decode fill value n parts ps rest.0 law.1 rest.1 is
    ])
    ∙ ap (λ found. Some (arranged fill (part ∷ parts) found n)) rest.2

each_law : (read : List ℕ → List ℕ → ℕ → Option Cell) (decode : List ℕ → List ℕ → Option (List Cell)) (fill : Cell) (test : Part → Bool) (parts : List Part)
    → ((part : Part) → test part ≡ true → (slice : List ℕ) (cells : List Cell) (n : ℕ) → decode part.shape slice ≡ Some cells → n < product part.shape → read part.shape slice n ≡ Some (get_or cells n fill))
    → Each (λ (part : Part). length part.places ≡ product part.shape) parts → Each (λ part. test part ≡ true) parts → Each (PartLaw read decode fill) parts
each_law read decode fill test [] law counts fit = tt
each_law read decode fill test (part ∷ parts) law counts fit =
    let count = counts.0 in
    (record { count = count; cell = λ slice cells n e below. law part fit.0 slice cells n e (omega (arith, below, count)) }, each_law read decode fill test parts law counts.1 fit.1)

-- ---- chains

reads_of : (chain : Chain) (elements : Elements) (shape value : List ℕ) (cells : List Cell) → fits chain elements.type shape ≡ true → decoded chain elements shape value ≡ Some cells → Reads chain elements shape value cells
reads_of (bytes order) elements shape value cells fit h =
    let read = element_at order elements.type value in
    let count = product shape in
    let told = elim_some (is_whole elements.type shape value) (all_there (map read (place_numbers shape))) cells h in record {
      opened = told.0;
      cell = λ n below.
          let here : get_or (place_numbers shape) n 0 ≡ n = get_or-range_with_len 0 count n 0 below ∙ omega arith in
          ap (λ (b : Bool). if b then read n else None) told.0 ∙ (ap read (sym here) ∙ found_at read (place_numbers shape) cells n elements.fill told.1 (omega (arith, below, length-range_with_len 0 count)));
    }
reads_of (packbits padding first last) elements shape value cells fit h =
    let many = decoded_count (packbits padding first last) elements shape value cells h in record {
      opened = ap is_some h;
      cell = λ n below. selected (decoded (packbits padding first last) elements shape value) cells n elements.fill h (omega (arith, below, many));
    }
reads_of (vlen index «data» width location) elements shape value cells fit h =
    let many = decoded_count (vlen index «data» width location) elements shape value cells h in record {
      opened = ap is_some h;
      cell = λ n below. selected (decoded (vlen index «data» width location) elements shape value) cells n elements.fill h (omega (arith, below, many));
    }
reads_of (optional mask values) elements shape value cells fit h =
    let many = decoded_count (optional mask values) elements shape value cells h in record {
      opened = ap is_some h;
      cell = λ n below. selected (decoded (optional mask values) elements shape value) cells n elements.fill h (omega (arith, below, many));
    }
reads_of (after_array_codec codec chain) elements shape value cells fit h =
    let both = and_parts (array_codec_fits codec shape) (fits chain elements.type (encoded_shape codec shape)) fit in
    let ns = source_places codec shape in
    let made = map_some (λ (found : List Cell). gather elements.fill found (undone_places codec shape)) (decoded chain elements (encoded_shape codec shape) value) cells h in
    let rest = reads_of chain elements (encoded_shape codec shape) value made.0 both.1 made.1 in record {
      opened = rest.opened;
      cell = λ n below.
          let found = position_found n ns (array_codec_covers codec shape both.0 n below) in
          rest.cell (position_of n ns) (omega (arith, found, array_codec_count codec shape both.0))
          ∙ (ap Some (sym (undone_read elements.fill made.0 ns (product shape) n below)) ∙ ap (λ (xs : List Cell). Some (get_or xs n elements.fill)) made.2);
    } where
      undone_read : (fill : Cell) (cells : List Cell) (ns : List ℕ) (count n : ℕ) → n < count → get_or (gather fill cells (map (λ m. position_of m ns) (range_with_len 0 count))) n fill ≡ get_or cells (position_of n ns) fill
      undone_read fill cells ns count n below =
          let undone = map (λ m. position_of m ns) (range_with_len 0 count) in
          get_or-map (λ k. get_or cells k fill) undone n 0 fill (omega (arith, below, length-map-range_with_len (λ m. position_of m ns) 0 count))
          ∙ ap (λ k. get_or cells k fill) (get_or-map-range_with_len (λ m. position_of m ns) 0 count n n 0 below (omega arith))
reads_of (then_bytes chain codec) elements shape value cells fit h =
    let inside = bind_some (decoded chain elements shape) (codec.decode value) cells h in
    let rest = reads_of chain elements shape inside.0 cells fit inside.2 in record {
      opened = ap (λ (o : Option (List ℕ)). elim o [ None ↦ false | Some found ↦ opens chain elements shape found ]) inside.1 ∙ rest.opened;
      cell = λ n below. ap (option_and_then (λ found. cell_at chain elements shape found n)) inside.1 ∙ rest.cell n below;
    }
reads_of (sharded subchunk inner index location) elements shape value cells fit h =
    let pairs_shape = index_shape shape subchunk in
    let parts = parts_of shape subchunk in
    let fill = elements.fill in
    let f = fitted subchunk inner index location elements shape fit in
    let arrange = λ (pieces : List (List Cell)). map (arranged fill parts pieces) (place_numbers shape) in
    let next = λ (ps : List Pair). option_map arrange (pieces_decoded (decoded inner elements) fill value parts ps) in
    let pairs = bind_some next (pairs_in (decoded index (zero_filled uint64) pairs_shape) location (index_size index pairs_shape) value) cells h in
    let made = map_some arrange (pieces_decoded (decoded inner elements) fill value parts pairs.0) cells pairs.2 in
    let test = λ (part : Part). fits inner elements.type part.shape in
    let each : Each (PartLaw (cell_at inner elements) (decoded inner elements) fill) parts =
    each_law (cell_at inner elements) (decoded inner elements) fill test parts (λ part one slice found n e below. (reads_of inner elements part.shape slice found one e).cell n below) (part_counts shape subchunk f.cuts) (each_passes test parts f.each) in record {
      opened = ap is_some pairs.1;
      cell = λ n below.
          ap (option_and_then (cell_of_part (cell_of_pair (cell_at inner elements) fill value) n parts)) pairs.1
          ∙ (place_read (cell_at inner elements) (decoded inner elements) fill value n parts pairs.0 made.0 each made.1 (parts_cover shape subchunk n f.cuts below)
          ∙ (ap Some (sym (get_or-map-range_with_len (arranged fill parts made.0) 0 (product shape) n n fill below (omega arith))) ∙ ap (λ (xs : List Cell). Some (get_or xs n fill)) made.2));
    }

all_cells : (read : ℕ → Option Cell) (fill : Cell) (cells : List Cell) (bound : ℕ) (ns : List ℕ) → ((n : ℕ) → n < bound → read n ≡ Some (get_or cells n fill)) → Each (λ n. nat_lt n bound ≡ true) ns → all_there (map read ns) ≡ Some (gather fill cells ns)
all_cells read fill cells bound [] law h = refl
all_cells read fill cells bound (n ∷ ns) law h =
    ap (option_and_then (λ x. option_map (λ xs. x ∷ xs) (all_there (map read ns)))) (law n (ltb-true n bound h.0)) ∙ ap (option_map (λ xs. get_or cells n fill ∷ xs)) (all_cells read fill cells bound ns law h.1)

pub part_read : (chain : Chain) (elements : Elements) (shape value : List ℕ) (cells : List Cell) (ns : List ℕ) → fits chain elements.type shape ≡ true → decoded chain elements shape value ≡ Some cells → list_all (λ n. nat_lt n (product shape)) ns ≡ true
    → part_decoded chain elements shape value ns ≡ Some (gather elements.fill cells ns)
part_read chain elements shape value cells ns fit h below =
    let reads = reads_of chain elements shape value cells fit h in
    ap (λ (t : Bool). if t then all_there (map (cell_at chain elements shape value) ns) else None) reads.opened
    ∙ all_cells (cell_at chain elements shape value) elements.fill cells (product shape) ns reads.cell (each_passes (λ n. nat_lt n (product shape)) ns below)
