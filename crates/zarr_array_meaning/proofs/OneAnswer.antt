-- No two answers to one read, or to one write.
use Rattle.std.proofs.Common.{◌≡◌, ◌∙◌, ℕ, ◌<◌, Bool, true, false, ◌||◌, List, length, get_or, slice_get, refl, sym, ap, arith, Option, Some, None, is_some, ⊎_elim}
use Rattle.std.specs.Prelude.{not}
use Rattle.std.proofs.lemmas.Bool.{cases_order, false≢true, MatchBool-at_true, MatchBool-at_false}
use Rattle.std.proofs.lemmas.List.{ext_get_or}
use Rattle.std.proofs.lemmas.Option.{none-some}
use Rattle.zarr_grids_boxes.specs.Boxes.{Region, product, place_at, is_in_box}
use Rattle.zarr_grids_boxes.proofs.InBox.{in_box-place_at, ravel-place_at}
use Rattle.zarr_grids_boxes.proofs.Steps.{number_in_grid}
use Rattle.zarr_grids_chunks.specs.Grids.{Grid, chunk_box, intersecting}
use Rattle.zarr_grids_cover.proofs.ChunkBoxes.{chunk_box-rank}
use Rattle.zarr_codecs_meaning.specs.Encoding.{encoded}
use Rattle.zarr_codecs_meaning.specs.Types.{Cell, is_fill}
use Rattle.zarr_codecs_meaning.proofs.Lists.{some_same}
use Rattle.zarr_array_meaning.specs.Arrays.{value_at}
use Rattle.zarr_array_meaning.specs.Boxes.{cell_of_box, IsDamagedIn, IsUnfitIn, ReadsOneWay}
use Rattle.zarr_array_meaning.specs.Chunks.{fits_box, holds_box, IsNthIntersecting}
use Rattle.zarr_array_meaning.specs.Documents.{Document}
use Rattle.zarr_array_meaning.specs.StoreMaps.{StoreMap}
use Rattle.zarr_array_meaning.specs.Writes.{Write}
use Rattle.zarr_array_meaning.specs.Writing.{cell_read, goes_into_shard, keeps_fill, ChunkBecomes, DecodesAlikeOutside, Takes, WrittenUndamaged, WrittenKeysAlike, RewrittenAlike}
use Rattle.zarr_array_meaning.proofs.HeldBoxes.{not_held}
use Rattle.zarr_array_meaning.proofs.TakenParts.{read_of_decoded}

-- ---- reads

-- one chunk stands at each number
nth_once : (grid : Grid) (region : Region) (n m : ℕ) (chunk other : List ℕ) (box over : Region) → IsNthIntersecting grid region n chunk box → IsNthIntersecting grid region m other over → n ≡ m → box ≡ over
nth_once grid region n m chunk other box over a b e =
    let same : chunk ≡ other = some_same (sym a.listed ∙ (ap (slice_get (intersecting grid region)) e ∙ b.listed)) in
    some_same (sym a.has_box ∙ (ap (chunk_box grid) same ∙ b.has_box))

damaged_or_unfit : (path : List ℕ) (document : Document) (store : StoreMap) (region : Region) → IsDamagedIn path document store region → IsUnfitIn path document store region → ⊥
damaged_or_unfit path document store region d u = ⊎_elim
    (λ e.
    let same = nth_once document.grid region d.number u.number d.chunk u.chunk d.box u.box d.nth u.nth e in
    false≢true (sym u.fit ∙ (ap (fits_box document) (sym same) ∙ d.fit)))
    (λ apart. ⊎_elim
    (λ less.
    let read = u.first d.number d.chunk d.box less d.nth in
    false≢true (sym (ap is_some d.lost) ∙ read.whole d.place d.is.of_region d.is.of_chunk))
    (λ more.
    let read = d.first u.number u.chunk u.box more u.nth in
    false≢true (sym u.fit ∙ read.fit u.stored))
    apart)
    (cases_order d.number u.number)

-- a box is read, or a chunk is damaged first, or one doesn't fit first
pub reads_one_way : ReadsOneWay
reads_one_way path document store region cells = (
  damaged_or_unfit path document store region,
  (λ read d. none-some _ (sym d.lost ∙ read.each d.chunk d.box d.place d.is)),
  (λ read u. false≢true (sym u.fit ∙ read.fit u.chunk u.box u.below u.shares u.stored)),
)

-- ---- writes

-- what was written was not damaged
pub written_undamaged : WrittenUndamaged
written_undamaged write chunks old new chunk box wrote below listed damaged = go (goes_into_shard write box) refl where
  taken : Takes write.array.document write.options write.region box (value_at write.array old chunk)
  taken = wrote.undamaged chunk box below listed damaged.part

  go : (b : Bool) → goes_into_shard write box ≡ b → ⊥
  go true e = MatchBool-at_true _ _ e taken (MatchBool-at_true _ _ e damaged.lost)
  go false e = false≢true (sym (MatchBool-at_false _ _ e damaged.lost) ∙ MatchBool-at_false _ _ e taken)

-- where a part of a chunk is to stay, the same cells are read of two values of it, or none
abbrev SameRead : Document → Region → Region → Option (List ℕ) → Option (List ℕ) → Type 0
SameRead document region box stored other = holds_box region box ≡ false → (place : List ℕ) → is_in_box region.start region.shape place ≡ false → is_in_box box.start box.shape place ≡ true
    → cell_read document box stored place ≡ cell_read document box other place

-- a write gives a chunk's place one cell
one_cell : (write : Write) (box : Region) (stored other : Option (List ℕ)) (a b : List Cell) (place : List ℕ) (t : Bool)
    → length write.region.start ≡ length write.region.shape → length box.start ≡ length box.shape → length write.region.start ≡ length box.start → SameRead write.array.document write.region box stored other
    → ChunkBecomes write box stored a → ChunkBecomes write box other b → is_in_box box.start box.shape place ≡ true → is_in_box write.region.start write.region.shape place ≡ t
    → cell_of_box box a write.array.document.elements.fill place ≡ cell_of_box box b write.array.document.elements.fill place
one_cell write box stored other a b place true r l s alike one two inside e = one.written place e inside ∙ sym (two.written place e inside)
one_cell write box stored other a b place false r l s alike one two inside e =
    let part = not_held write.region box place (holds_box write.region box) refl r l s inside e in
    one.kept part place e inside ∙ (alike part place e inside ∙ sym (two.kept part place e inside))

-- so it gives a chunk one list of cells
one_list : (write : Write) (box : Region) (stored other : Option (List ℕ)) (a b : List Cell)
    → length write.region.start ≡ length write.region.shape → length box.start ≡ length box.shape → length write.region.start ≡ length box.start → SameRead write.array.document write.region box stored other
    → ChunkBecomes write box stored a → ChunkBecomes write box other b → a ≡ b
one_list write box stored other a b r l s alike one two =
    let fill = write.array.document.elements.fill in
    ext_get_or fill a b (one.many ∙ sym two.many) (λ i below.
    let low : i < product box.shape = omega (arith, below, one.many) in
    let place = place_at box.start box.shape i in
    let number = ravel-place_at box.start box.shape i l low in
    let inside = in_box-place_at box.start box.shape i l low in
    ap (λ n. get_or a n fill) (sym number)
    ∙ (one_cell write box stored other a b place (is_in_box write.region.start write.region.shape place) r l s alike one two inside refl ∙ ap (λ n. get_or b n fill) number))

-- two writes of the same cells leave keys to the same chunks
pub written_keys_alike : WrittenKeysAlike
written_keys_alike write chunks old new other chunk box first second below listed whole region_rank grid_rank =
    let stored = value_at write.array old chunk in
    let rank = chunk_box-rank write.array.document.grid chunk box below.has_box in
    let one = first.keyed chunk box below listed in
    let two = second.keyed chunk box below listed in
    let same = one_list write box stored stored one.cells two.cells region_rank (rank.0 ∙ sym rank.1) (grid_rank ∙ sym rank.0) (λ part place out inside. refl) one.becomes two.becomes in
    one.key whole ∙ (ap (λ (cells : List Cell). keeps_fill write box || not (is_fill write.array.document.elements.fill cells)) same ∙ sym (two.key whole))

-- no value and no value, or a value and the same value
one_stored : (a b : Option (List ℕ)) → is_some a ≡ is_some b → ((x y : List ℕ) → a ≡ Some x → b ≡ Some y → x ≡ y) → a ≡ b
one_stored None None both same = refl
one_stored None (Some y) both same = absurd (false≢true both)
one_stored (Some x) None both same = absurd (false≢true (sym both))
one_stored (Some x) (Some y) both same = ap Some (same x y refl refl)

-- what is decoded alike is read alike
read_alike : (document : Document) (region box : Region) (stored other : Option (List ℕ)) → fits_box document box ≡ true → (holds_box region box ≡ false → DecodesAlikeOutside document region box stored other)
    → SameRead document region box stored other
read_alike document region box stored other fit alike part place out inside =
    let is = alike part in
    let low = number_in_grid box.start box.shape place inside in
    read_of_decoded document box stored place is.0 fit low is.2
    ∙ (is.4 place out inside ∙ sym (read_of_decoded document box other place is.1 fit low is.3))

-- two writes of the same cells leave the same values
pub rewritten_alike : RewrittenAlike
rewritten_alike write chunks others old new before after chunk box exact first second below listed other_listed whole region_rank grid_rank alike =
    let stored = value_at write.array old chunk in
    let other = value_at write.array before chunk in
    let rank = chunk_box-rank write.array.document.grid chunk box below.has_box in
    let one = first.keyed chunk box below listed in
    let two = second.keyed chunk box below other_listed in
    let read = read_alike write.array.document write.region box stored other (first.fit chunk box below listed) alike in
    let same = one_list write box stored other one.cells two.cells region_rank (rank.0 ∙ sym rank.1) (grid_rank ∙ sym rank.0) read one.becomes two.becomes in
    one_stored (value_at write.array new chunk) (value_at write.array after chunk)
    (one.key whole ∙ (ap (λ (cells : List Cell). keeps_fill write box || not (is_fill write.array.document.elements.fill cells)) same ∙ sym (two.key whole)))
    (λ x y is also.
    some_same (sym (one.encodes exact whole (λ part. ap is_some (alike part).2) x is) ∙ (ap (encoded write.array.document.chain write.array.document.elements box.shape) same ∙ two.encodes exact whole (λ part. ap is_some (alike part).3) y also)))
