-- A box of an array of a shard, read subchunk by subchunk.
use Rattle.std.proofs.Common.{◌≡◌, ◌∙◌, inl, inr, ℕ, suc, ◌+◌, ◌<◌, ◌≤◌, List, [], length, get_or, replicate, unwrap_or, ap, sym, arith, subst, Bool, true, ◌==◌, if◌then◌else◌, Option, Some, Result, Err}
use Rattle.std.specs.Prelude.{nat_lt}
use Rattle.std.proofs.lemmas.Bool.{cases_lt, eq-eqb, ltb-true}
use Rattle.std.proofs.lemmas.List.{length-replicate}
use Rattle.std.proofs.lemmas.List.Folds.{list_any_at}
use Rattle.zarr_grids_boxes.specs.Boxes.{product}
use Rattle.zarr_codecs_meaning.specs.Encoding.{absent_pair}
use Rattle.zarr_codecs_meaning.specs.Types.{Cell}
use Rattle.zarr_codecs_meaning.proofs.Lists.{each_passes}
use Rattle.zarr_codecs_meaning.proofs.Positions.{each_at}
use Rattle.zarr_codecs_regions.specs.Updates.{put}
use Rattle.zarr_codecs_arrays.specs.declared.array_bytes.ArrayBytes.{ArrayBytes}
use Rattle.zarr_codecs_arrays.specs.declared.error.CodecError.{CodecError}
use Rattle.zarr_codecs_arrays.specs.declared.error.CodecError.TheVariants as error
use Rattle.zarr_sharding_places.specs.Boxed.{ShowsBoxes}
use Rattle.zarr_sharding_places.specs.Locating.{inside_of, part_shape, subchunk_of}
use Rattle.zarr_sharding_places.specs.declared.boxed.BoxedElements.{BoxedElements}
use Rattle.zarr_sharding_places.proofs.PutPlaces.{length-put, put_cases}
use Rattle.zarr_codecs_traits.specs.ReadBytes.{slice_length}
use Rattle.zarr_sharding_codec.specs.BoxReading.{AreMet, StandIn, cut_places}
use Rattle.zarr_sharding_codec.specs.BytesMet.{bytes_met, is_met}
use Rattle.zarr_sharding_codec.specs.Reading.{ListsRead, places_decoded, shard_cells, subchunks_of}
use Rattle.zarr_sharding_codec.proofs.AllThere.{all_found, length-there, lost_one, one_lost, there_at}
use Rattle.zarr_sharding_codec.proofs.NumberedParts.{part_fewer}
use Rattle.zarr_sharding_codec.proofs.GivenSoFar.{met_before, met_length, sum_least, sum_next}
use Rattle.zarr_sharding_codec.proofs.GroupsRead.{AskedShard, IsAskable, cell_of, piece_cell, piece_cells}
use Rattle.zarr_sharding_codec.proofs.PlaceCells.{shard_place}
use Rattle.zarr_sharding_codec.proofs.StoredLoop.{too_large}
use Rattle.zarr_codecs_traits.specs.Arrays.{coded}

abbrev pub number_at : AskedShard → ℕ → ℕ
number_at s t = get_or s.numbers t 0

-- the cells that stand in the first of the subchunks were put
pub record BoxSoFar (s : AskedShard) (met : List ℕ) (all : BoxedElements) (j : ℕ) : Type 0 where
  pub cells : List Cell
  pub shows : ShowsBoxes s.elements all cells
  pub whole : length cells ≡ length s.numbers
  pub read : (t i : ℕ) → t < length s.numbers → i < j → subchunk_of s.shape s.subchunk (number_at s t) ≡ get_or met i 0 → cell_of s (number_at s t) ≡ Some (get_or cells t s.elements.fill)

pub box_begun : (s : AskedShard) (met : List ℕ) (all : BoxedElements) → ShowsBoxes s.elements all (replicate (length s.numbers) s.elements.fill) → BoxSoFar s met all 0
box_begun s met all shows = record {
  cells = replicate (length s.numbers) s.elements.fill;
  shows = shows;
  whole = length-replicate (length s.numbers) s.elements.fill;
  read = λ t i low none same. absurd (omega (arith, none));
}

-- all of the subchunks were read
pub box_done : (s : AskedShard) (met : List ℕ) (all : BoxedElements) (j : ℕ) → AreMet s.shape s.subchunk s.numbers met → length met ≤ j → (so_far : BoxSoFar s met all j)
    → shard_cells (subchunks_of s.inner s.elements s.shape s.subchunk) s.value s.pairs s.numbers ≡ Some so_far.cells
box_done s met all j are past so_far =
    all_found (cell_of s) s.numbers so_far.cells s.elements.fill so_far.whole (λ t low.
    let has = are.all t low in
    let below = has.below in
    so_far.read t has.at_ low (omega (arith, below, past)) (sym has.is))

-- what is read is the same where the source holds the same as before
pub box_before : (s : AskedShard) (one other : Option (List ℕ)) (edges : List ℕ) (k : ℕ) (insides : List ℕ) (result : Result ArrayBytes CodecError) → one ≡ other → edges ≡ part_shape s.shape s.subchunk k
    → ListsRead s.elements edges (places_decoded (coded s.inner s.elements edges) (unwrap_or other []) (get_or s.pairs k absent_pair) insides) result
    → ListsRead s.elements (part_shape s.shape s.subchunk k) (places_decoded (coded s.inner s.elements (part_shape s.shape s.subchunk k)) (unwrap_or one []) (get_or s.pairs k absent_pair) insides) result
box_before s one other edges k insides result same is read =
    subst (λ (o : Option (List ℕ)). ListsRead s.elements (part_shape s.shape s.subchunk k) (places_decoded (coded s.inner s.elements (part_shape s.shape s.subchunk k)) (unwrap_or o []) (get_or s.pairs k absent_pair) insides) result) (sym same)
    (subst (λ (e : List ℕ). ListsRead s.elements e (places_decoded (coded s.inner s.elements e) (unwrap_or other []) (get_or s.pairs k absent_pair) insides) result) is read)

-- ---- one subchunk

module _ (s : AskedShard) (positions insides : List ℕ) (k : ℕ) (can : IsAskable s) (stand : StandIn (cut_places s.shape s.subchunk s.numbers) positions insides k) where
  -- the cell at a position is that of its subchunk
  cell_there : (i : ℕ) → i < length positions → cell_of s (number_at s (get_or positions i 0)) ≡ piece_cell s k (get_or insides i 0)
  cell_there i low =
      let t = get_or positions i 0 in
      let n = number_at s t in
      let below = ltb-true n (product s.shape) (each_at (λ m. nat_lt m (product s.shape) ≡ true) s.numbers t 0 (each_passes (λ m. nat_lt m (product s.shape)) s.numbers can.below) (stand.low i low)) in
      shard_place s.inner s.elements s.shape s.subchunk s.value s.pairs n can.cuts can.many below ∙ (ap (λ m. piece_cell s m (inside_of s.shape s.subchunk n)) (stand.part i low) ∙ ap (piece_cell s k) (stand.place i low))

  pub piece_many : (piece : List Cell) → piece_cells s k insides ≡ Some piece → length piece ≡ length positions
  piece_many piece read = length-there (piece_cell s k) insides piece read ∙ stand.many

  pub box_more : (met : List ℕ) (before after : BoxedElements) (j : ℕ) (piece : List Cell) → get_or met j 0 ≡ k → (so_far : BoxSoFar s met before j) → piece_cells s k insides ≡ Some piece
      → ((cells : List Cell) → ShowsBoxes s.elements before cells → length piece ≡ length positions → ShowsBoxes s.elements after (put positions piece cells)) → BoxSoFar s met after (j + 1)
  box_more met before after j piece here so_far read law =
      let fill = s.elements.fill in
      let cells = so_far.cells in
      let many = piece_many piece read in
      let whole = so_far.whole in
      record {
        cells = put positions piece cells;
        shows = law cells so_far.shows many;
        whole = length-put positions piece cells ∙ whole;
        read = λ t i low less same.
            elim (put_cases positions piece cells t fill many (omega (arith, low, whole))) [
              | inl was ↦
                  let under = was.below in
                  let count = stand.many in
                  ap (λ u. cell_of s (number_at s u)) (sym was.there)
                  ∙ (cell_there was.at_ was.below
                  ∙ (there_at (piece_cell s k) insides piece was.at_ fill read (omega (arith, under, count)) ∙ ap Some (sym was.is)))
              | inr kept ↦
                  elim (cases_lt i j) [
                    | inl earlier ↦ so_far.read t i low earlier same ∙ ap Some (sym kept.is)
                    | inr late ↦
                        let now : i ≡ j = omega (arith, late, less) in
                        let has = stand.all t low (same ∙ (ap (λ m. get_or met m 0) now ∙ here)) in
                        absurd (kept.none has.at_ has.below has.is)
                  ]
            ];
      }

  -- a subchunk that isn't read
  pub box_unread : (e : CodecError) → ListsRead s.elements (part_shape s.shape s.subchunk k) (piece_cells s k insides) (Err e) → ListsRead s.elements s.shape (shard_cells (subchunks_of s.inner s.elements s.shape s.subchunk) s.value s.pairs s.numbers) (Err e)
  box_unread error.Damage lost =
      let one = lost_one (piece_cell s k) insides lost in
      let under = one.below in
      let count = stand.many in
      let low : one.at_ < length positions = omega (arith, under, count) in
      one_lost (cell_of s) s.numbers (get_or positions one.at_ 0) (stand.low one.at_ low) (cell_there one.at_ low ∙ one.is)
  box_unread error.Size large = too_large s.elements.type (product (part_shape s.shape s.subchunk k)) (product s.shape) (part_fewer s.shape s.subchunk k can.cuts) large
  box_unread error.Source h = tt
  box_unread error.Memory h = tt
  box_unread e h = absurd h

-- ---- how many bytes were given

-- no more bytes were given than the slices have of the subchunks before a bound, and those that are left stand later
pub record GivenBefore (s : AskedShard) (total : ℕ) (met : List ℕ) (before now j : ℕ) : Type 0 where
  pub bound : ℕ
  pub within : bound ≤ length s.pairs
  pub later : (i : ℕ) → j ≤ i → i < length met → bound ≤ get_or met i 0
  pub given : now ≤ before + met_before s total bound

pub given_begun : (s : AskedShard) (total : ℕ) (met : List ℕ) (before : ℕ) → GivenBefore s total met before before 0
given_begun s total met before = record { bound = 0; within = omega arith; later = λ i less low. omega arith; given = omega arith }

pub given_next : (s : AskedShard) (total : ℕ) (met positions insides : List ℕ) (k before now after j : ℕ) → IsAskable s → AreMet s.shape s.subchunk s.numbers met → StandIn (cut_places s.shape s.subchunk s.numbers) positions insides k → 0 < length positions → j < length met → get_or met j 0 ≡ k
    → GivenBefore s total met before now j → after ≤ now + slice_length total (get_or s.pairs k absent_pair) → GivenBefore s total met before after (j + 1)
given_next s total met positions insides k before now after j can are stand some low here was given =
    let f : ℕ → ℕ = λ n. met_length s total n in
    let t = get_or positions 0 0 in
    let test = λ (number : ℕ). subchunk_of s.shape s.subchunk number == k in
    let met_k : is_met s.shape s.subchunk s.numbers k ≡ true = list_any_at test s.numbers t 0 (stand.low 0 some) (eq-eqb (subchunk_of s.shape s.subchunk (number_at s t)) k (stand.part 0 some)) in
    let size : f k ≡ slice_length total (get_or s.pairs k absent_pair) = ap (λ (b : Bool). if b then slice_length total (get_or s.pairs k absent_pair) else 0) met_k in
    let so_far = was.given in
    let first = was.later j (omega arith) low in
    let least = sum_least f was.bound k (omega (arith, first, here)) in
    let next = sum_next f k in
    let below = are.below j low in
    let many = can.many in
    record {
      bound = suc k;
      within = omega (arith, below, here, many);
      later = λ i less under. let rise = are.rising j i (omega (arith, less)) under in omega (arith, rise, here);
      given = omega (arith, given, so_far, least, next, size);
    }

pub given_done : (s : AskedShard) (total : ℕ) (met : List ℕ) (before now j : ℕ) → GivenBefore s total met before now j → now ≤ before + bytes_met s.shape s.subchunk s.numbers s.pairs total
given_done s total met before now j was =
    let so_far = was.given in
    let least : met_before s total was.bound ≤ bytes_met s.shape s.subchunk s.numbers s.pairs total = sum_least (λ n. met_length s total n) was.bound (length s.pairs) was.within in
    omega (arith, so_far, least)
