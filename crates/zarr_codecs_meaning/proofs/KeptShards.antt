-- What is kept of the cells of a shard: of its subchunks those that are all fill whole, and of the others what their chain keeps.
use Rattle.std.proofs.Common.{◌≡◌, ℕ, ◌<◌, List, [], ◌∷◌, length, map, get_or, replicate, ap, ◌∙◌, sym, refl, inl, inr, Option, Some, None, option_and_then, option_map, Bool, true, false, if◌then◌else◌}
use Rattle.std.proofs.lemmas.Bool.{le-leb}
use Rattle.std.proofs.lemmas.List.{length-map, get_or-map}
use Rattle.std.proofs.lemmas.List.FromFn.{length-map-range_with_len, fill_by_all}
use Rattle.std.specs.Prelude.{nat_lt}
use Rattle.std.specs.List.{list_all}
use Rattle.zarr_grids_boxes.specs.Boxes.{product}
use Rattle.zarr_codecs_meaning.specs.Types.{is_value, Cell, is_fill, Elements, uint64, zero_filled}
use Rattle.zarr_codecs_meaning.specs.Places.{place_numbers, position_of, Part, parts_of}
use Rattle.zarr_codecs_meaning.specs.Fits.{can_cut}
use Rattle.zarr_codecs_meaning.specs.Encoding.{Pair, Piece, piece_of, pieces_of, base_of}
use Rattle.zarr_codecs_meaning.specs.Keeping.{arranged, kept_piece}
use Rattle.zarr_codecs_meaning.specs.Decoding.{is_absent, slice_at, pairs_of_cells, index_bytes, pairs_in, pieces_decoded, decoded}
use Rattle.zarr_codecs_meaning.specs.Standing.{HasSlice, PieceStands, PiecesStand, ShardStands, data_part, layout_size, IndexLayout, Standing}
use Rattle.zarr_codecs_meaning.specs.Laws.{AreCells}
use Rattle.zarr_codecs_meaning.proofs.Lists.{Each, each_passes, all_pass, each_get, each_map}
use Rattle.zarr_codecs_meaning.proofs.Positions.{each_at}
use Rattle.zarr_codecs_meaning.proofs.Shards.{fill_is_replicate, words_of, pairs_back, is_present, index_read, slice_found, part_cells, arranged_back}
use Rattle.zarr_codecs_meaning.proofs.Parts.{part_counts, no_part, parts_cover}
use Rattle.zarr_codecs_meaning.proofs.PartsOnce.{parts_again}

-- what is kept of a subchunk
abbrev pub kept_part : (List ℕ → List Cell → List Cell) → Cell → List Cell → Part → List Cell
kept_part keep fill cells part = kept_piece keep fill (piece_of fill cells part)

-- what is kept of a shard
abbrev pub kept_shard : (List ℕ → List Cell → List Cell) → Cell → List ℕ → List ℕ → List Cell → List Cell
kept_shard keep fill shape subchunk cells = map (arranged fill (parts_of shape subchunk) (map (λ (part : Part). kept_part keep fill cells part) (parts_of shape subchunk))) (place_numbers shape)

each_both : {X : Type 0} (P Q R : X → Type 0) (xs : List X) → ((x : X) → P x → Q x → R x) → Each P xs → Each Q xs → Each R xs
each_both P Q R [] law p q = tt
each_both P Q R (x ∷ xs) law p q = (law x p.0 q.0, each_both P Q R xs law p.1 q.1)

maps_alike : {X Y : Type 0} (f g : X → Y) (xs : List X) → Each (λ x. f x ≡ g x) xs → map f xs ≡ map g xs
maps_alike f g [] h = refl
maps_alike f g (x ∷ xs) h = ap (λ y. y ∷ map f xs) h.0 ∙ ap (λ ys. g x ∷ ys) (maps_alike f g xs h.1)

each_of_maps : {X Y : Type 0} (f g : X → Y) (xs : List X) → map f xs ≡ map g xs → Each (λ x. f x ≡ g x) xs
each_of_maps f g [] h = tt
each_of_maps f g (x ∷ xs) h = (cc, each_of_maps f g xs (cc))

-- ---- a subchunk

piece_either : (t : Bool) (P : List Cell → Type 0) (whole some : List Cell) → P whole → P some → P (if t then whole else some)
piece_either true P whole some h k = h
piece_either false P whole some h k = k

piece_same : (t : Bool) (one other x : List Cell) → one ≡ x → other ≡ x → (if t then one else other) ≡ x
piece_same true one other x h k = h
piece_same false one other x h k = k

piece_twice : (t : Bool) (keep : List Cell → List Cell) (fill : Cell) (cells : List Cell) → is_fill fill cells ≡ t → keep (keep cells) ≡ keep cells
    → let some = if t then cells else keep cells in (if is_fill fill some then some else keep some) ≡ some
piece_twice true keep fill cells e h = ap (λ (b : Bool). if b then cells else keep cells) e
piece_twice false keep fill cells e h = piece_same (is_fill fill (keep cells)) (keep cells) (keep (keep cells)) (keep cells) refl h

-- ---- the laws of cells

pub arranged_value : (test : Cell → Bool) (fill : Cell) (parts : List Part) (pieces : List (List Cell)) (n : ℕ) → test fill ≡ true → Each (λ piece. list_all test piece ≡ true) pieces → test (arranged fill parts pieces n) ≡ true
arranged_value test fill [] pieces n one h = one
arranged_value test fill (part ∷ parts) [] n one h = one
arranged_value test fill (part ∷ parts) (cells ∷ pieces) n one h =
    value_step (nat_lt (position_of n part.places) (length part.places)) (get_or cells (position_of n part.places) fill) (arranged fill parts pieces n)
    (each_get (λ c. test c ≡ true) cells (position_of n part.places) fill (each_passes test cells h.0) one) (arranged_value test fill parts pieces n one h.1) where
      value_step : (t : Bool) (x y : Cell) → test x ≡ true → test y ≡ true → test (if t then x else y) ≡ true
      value_step true x y a b = a
      value_step false x y a b = b

-- what is kept of each subchunk are cells of it
abbrev pub PartsKept : (List ℕ → List Cell → List Cell) → Elements → List Cell → List Part → Type 0
PartsKept keep elements cells parts = Each (λ (part : Part). AreCells elements part.shape (kept_part keep elements.fill cells part)) parts

pub part_kept : (keep : List ℕ → List Cell → List Cell) (elements : Elements) (cells : List Cell) (part : Part) → AreCells elements part.shape (part_cells elements.fill cells part) → AreCells elements part.shape (keep part.shape (part_cells elements.fill cells part))
    → AreCells elements part.shape (kept_part keep elements.fill cells part)
part_kept keep elements cells part whole some = piece_either (is_fill elements.fill (part_cells elements.fill cells part)) (AreCells elements part.shape) (part_cells elements.fill cells part) (keep part.shape (part_cells elements.fill cells part)) whole some

pub shard_cells : (keep : List ℕ → List Cell → List Cell) (elements : Elements) (shape subchunk : List ℕ) (cells : List Cell) → is_value elements.type elements.fill ≡ true → PartsKept keep elements cells (parts_of shape subchunk)
    → AreCells elements shape (kept_shard keep elements.fill shape subchunk cells)
shard_cells keep elements shape subchunk cells fine each =
    let parts = parts_of shape subchunk in
    let pieces = map (λ (part : Part). kept_part keep elements.fill cells part) parts in
    let values = each_values parts each in
    record {
      fill = fine;
      values = all_pass (is_value elements.type) (map (arranged elements.fill parts pieces) (place_numbers shape))
          (each_map (λ c. is_value elements.type c ≡ true) (arranged elements.fill parts pieces) (place_numbers shape) (λ n. arranged_value (is_value elements.type) elements.fill parts pieces n fine values));
      whole = length-map-range_with_len (arranged elements.fill parts pieces) 0 (product shape);
    } where
      each_values : (parts : List Part) → PartsKept keep elements cells parts → Each (λ piece. list_all (is_value elements.type) piece ≡ true) (map (λ (part : Part). kept_part keep elements.fill cells part) parts)
      each_values [] h = tt
      each_values (part ∷ parts) h = (h.0.values, each_values parts h.1)

pub shard_twice : (keep : List ℕ → List Cell → List Cell) (elements : Elements) (shape subchunk : List ℕ) (cells : List Cell) → can_cut shape subchunk ≡ true → PartsKept keep elements cells (parts_of shape subchunk)
    → Each (λ (part : Part). keep part.shape (keep part.shape (part_cells elements.fill cells part)) ≡ keep part.shape (part_cells elements.fill cells part)) (parts_of shape subchunk)
    → kept_shard keep elements.fill shape subchunk (kept_shard keep elements.fill shape subchunk cells) ≡ kept_shard keep elements.fill shape subchunk cells
shard_twice keep elements shape subchunk cells cuts are twice =
    let fill = elements.fill in
    let parts = parts_of shape subchunk in
    let kept_one = λ (part : Part). kept_part keep fill cells part in
    let pieces = map kept_one parts in
    let again = kept_shard keep fill shape subchunk cells in
    let counts = each_both (λ (part : Part). AreCells elements part.shape (kept_one part)) (λ (part : Part). length part.places ≡ product part.shape) (λ (part : Part). length (kept_one part) ≡ length part.places) parts
    (λ part a b. a.whole ∙ sym b) are (part_counts shape subchunk cuts) in
    let long : (k : ℕ) → k < length parts → length (get_or pieces k []) ≡ length (get_or parts k no_part).places = λ k h.
    ap length (get_or-map kept_one parts k no_part [] h) ∙ each_at (λ (part : Part). length (kept_one part) ≡ length part.places) parts k no_part counts h in
    let cut = each_of_maps (part_cells fill again) kept_one parts (parts_again fill shape subchunk pieces cuts (length-map parts kept_one) long) in
    let same = each_both (λ (part : Part). part_cells fill again part ≡ kept_one part)
    (λ (part : Part). keep part.shape (keep part.shape (part_cells fill cells part)) ≡ keep part.shape (part_cells fill cells part)) (λ (part : Part). kept_part keep fill again part ≡ kept_one part) parts
    (λ part a b. ap (λ (xs : List Cell). kept_piece keep fill (part.shape, xs)) a ∙ piece_twice (is_fill fill (part_cells fill cells part)) (keep part.shape) fill (part_cells fill cells part) refl b) cut twice in
    ap (λ (found : List (List Cell)). map (arranged fill parts found) (place_numbers shape)) (maps_alike (λ (part : Part). kept_part keep fill again part) kept_one parts same)

-- the cells of all parts are arranged to the whole
arranged_whole : (fill : Cell) (shape subchunk : List ℕ) (cells : List Cell) → can_cut shape subchunk ≡ true → length cells ≡ product shape → map (arranged fill (parts_of shape subchunk) (map (part_cells fill cells) (parts_of shape subchunk))) (place_numbers shape) ≡ cells
arranged_whole fill shape subchunk cells cuts whole =
    let parts = parts_of shape subchunk in
    sym (fill_by_all (arranged fill parts (map (part_cells fill cells) parts)) cells (product shape) fill whole (λ n below. sym (arranged_back fill cells n parts (parts_cover shape subchunk n cuts below))))

pub shard_same : (keep : List ℕ → List Cell → List Cell) (fill : Cell) (shape subchunk : List ℕ) (cells : List Cell) → can_cut shape subchunk ≡ true → length cells ≡ product shape → Each (λ (part : Part). keep part.shape (part_cells fill cells part) ≡ part_cells fill cells part) (parts_of shape subchunk)
    → kept_shard keep fill shape subchunk cells ≡ cells
shard_same keep fill shape subchunk cells cuts whole same =
    let parts = parts_of shape subchunk in
    ap (λ (found : List (List Cell)). map (arranged fill parts found) (place_numbers shape)) (maps_alike (λ (part : Part). kept_part keep fill cells part) (part_cells fill cells) parts (each_same parts same)) ∙ arranged_whole fill shape subchunk cells cuts whole where
      each_same : (parts : List Part) → Each (λ (part : Part). keep part.shape (part_cells fill cells part) ≡ part_cells fill cells part) parts → Each (λ (part : Part). kept_part keep fill cells part ≡ part_cells fill cells part) parts
      each_same [] h = tt
      each_same (part ∷ parts) h = (piece_same (is_fill fill (part_cells fill cells part)) (part_cells fill cells part) (keep part.shape (part_cells fill cells part)) (part_cells fill cells part) refl h.0, each_same parts h.1)

-- ---- reading

-- the pairs that are read of a value that stands by some relation of slices
pub pairs_found : (layout : IndexLayout) (inner : Standing) (fill : Cell) (pieces : List Piece) (value : List ℕ) (h : ShardStands layout inner fill pieces value)
    → pairs_in (decoded layout.chain (zero_filled uint64) layout.shape) layout.location (layout_size layout) value ≡ Some h.0
pairs_found layout inner fill pieces value h =
    let index = decoded layout.chain (zero_filled uint64) layout.shape in
    let location = layout.location in
    let size = layout_size layout in
    let laid = h.2 in
    let at_ = index_read location size laid.index_bytes h.1 value laid.long laid.is in
    ap (λ (t : Bool). if t then option_map pairs_of_cells (index (index_bytes location size value)) else None) (le-leb size (length value) at_.0)
    ∙ (ap (λ (front : List ℕ). option_map pairs_of_cells (index front)) at_.1 ∙ (ap (option_map pairs_of_cells) laid.read ∙ ap Some (pairs_back h.0 (words_of inner fill (base_of location size) h.1 pieces h.0 h.3))))

-- a subchunk that stands is decoded to what is kept of it
piece_read : (decode : List ℕ → List ℕ → Option (List Cell)) (keep : List ℕ → List Cell → List Cell) (inner : List ℕ → List ℕ → List Cell → Type 0) (fill : Cell) (base : ℕ) (was value : List ℕ) (x : Piece) (p : Pair)
    → ((q : Pair) (slice : List ℕ) → HasSlice base was q slice → slice_at value q ≡ Some slice) → ((v : List ℕ) → inner x.0 v x.1 → decode x.0 v ≡ Some (keep x.0 x.1)) → length x.1 ≡ product x.0 → PieceStands inner fill (data_part base was) x p
    → (if is_absent p then Some (replicate (product x.0) fill) else option_and_then (decode x.0) (slice_at value p)) ≡ Some (kept_piece keep fill x)
piece_read decode keep inner fill base was value x p reads law count (inl h) =
    ap (λ (q : Pair). if is_absent q then Some (replicate (product x.0) fill) else option_and_then (decode x.0) (slice_at value q)) h.1
    ∙ (ap Some (sym (fill_is_replicate fill x.1 h.0 ∙ ap (λ n. replicate n fill) count)) ∙ sym (ap (λ (t : Bool). Some (if t then x.1 else keep x.0 x.1)) h.0))
piece_read decode keep inner fill base was value x p reads law count (inr h) =
    ap (λ (t : Bool). if t then Some (replicate (product x.0) fill) else option_and_then (decode x.0) (slice_at value p)) (is_present base was p h.1.0 h.1.1)
    ∙ (ap (option_and_then (decode x.0)) (reads p h.1.0 h.1.1) ∙ (law h.1.0 h.1.2 ∙ sym (ap (λ (t : Bool). Some (if t then x.1 else keep x.0 x.1)) h.0)))

-- what is asked of each part of a shard
abbrev pub PartKeeps : (List ℕ → List ℕ → Option (List Cell)) → (List ℕ → List Cell → List Cell) → (List ℕ → List ℕ → List Cell → Type 0) → Cell → List Cell → Part → Type 0
PartKeeps decode keep inner fill cells part =
    (length (part_cells fill cells part) ≡ product part.shape) × ((v : List ℕ) → inner part.shape v (part_cells fill cells part) → decode part.shape v ≡ Some (keep part.shape (part_cells fill cells part)))

parts_read : (decode : List ℕ → List ℕ → Option (List Cell)) (keep : List ℕ → List Cell → List Cell) (inner : List ℕ → List ℕ → List Cell → Type 0) (fill : Cell) (cells : List Cell) (base : ℕ) (was value : List ℕ)
    → ((q : Pair) (slice : List ℕ) → HasSlice base was q slice → slice_at value q ≡ Some slice) → (parts : List Part) (ps : List Pair) → Each (PartKeeps decode keep inner fill cells) parts → PiecesStand inner fill (data_part base was) (pieces_of fill cells parts) ps
    → pieces_decoded decode fill value parts ps ≡ Some (map (λ (part : Part). kept_part keep fill cells part) parts)
parts_read decode keep inner fill cells base was value reads [] [] law h = refl
parts_read decode keep inner fill cells base was value reads [] (p ∷ ps) law h = elim h [ ]
parts_read decode keep inner fill cells base was value reads (part ∷ parts) [] law h = elim h [ ]
parts_read decode keep inner fill cells base was value reads (part ∷ parts) (p ∷ ps) law h =
    let here = piece_read decode keep inner fill base was value (piece_of fill cells part) p reads law.0.1 law.0.0 h.0 in
    let rest = parts_read decode keep inner fill cells base was value reads parts ps law.1 h.1 in
    ap (option_and_then (λ (found : List Cell). option_map (λ (others : List (List Cell)). found ∷ others) (pieces_decoded decode fill value parts ps))) here
    ∙ ap (option_map (λ (others : List (List Cell)). kept_part keep fill cells part ∷ others)) rest

-- a shard that stands is decoded to what is kept of its subchunks
pub shard_read : (layout : IndexLayout) (decode : List ℕ → List ℕ → Option (List Cell)) (keep : List ℕ → List Cell → List Cell) (inner : Standing) (fill : Cell) (cells : List Cell) (shape subchunk value : List ℕ)
    → Each (PartKeeps decode keep inner fill cells) (parts_of shape subchunk) → ShardStands layout inner fill (pieces_of fill cells (parts_of shape subchunk)) value
    → option_and_then (λ (pairs : List Pair). option_map (λ (found : List (List Cell)). map (arranged fill (parts_of shape subchunk) found) (place_numbers shape)) (pieces_decoded decode fill value (parts_of shape subchunk) pairs)) (pairs_in (decoded layout.chain (zero_filled uint64) layout.shape) layout.location (layout_size layout) value)
    ≡ Some (kept_shard keep fill shape subchunk cells)
shard_read layout decode keep inner fill cells shape subchunk value law h =
    let location = layout.location in
    let size = layout_size layout in
    let parts = parts_of shape subchunk in
    let laid = h.2 in
    let base = base_of location size in
    let begins : base ≡ base_of location (length laid.index_bytes) = ap (base_of location) (sym laid.long) in
    let next : List Pair → Option (List Cell) = λ (ps : List Pair). option_map (λ (found : List (List Cell)). map (arranged fill parts found) (place_numbers shape)) (pieces_decoded decode fill value parts ps) in
    ap (option_and_then next) (pairs_found layout inner fill (pieces_of fill cells parts) value h)
    ∙ ap (option_map (λ (found : List (List Cell)). map (arranged fill parts found) (place_numbers shape)))
    (parts_read decode keep inner fill cells base h.1 value (λ q s k. slice_found location base laid.index_bytes h.1 value q s laid.is begins k) parts h.0 law h.3)
