-- No two answers to one command.
use Rattle.std.proofs.Common.{◌≡◌, ◌∙◌, ℕ, ◌<◌, List, [], length, get_or, sym, ap, arith, subst, ⊎_elim, true, Option, Some, None}
use Rattle.std.proofs.lemmas.Bool.{false≢true}
use Rattle.std.proofs.lemmas.List.{ext_get_or}
use Rattle.std.proofs.lemmas.Option.{same_Some}
use Rattle.zarr_grids_boxes.specs.Boxes.{Region, product, place_at, is_in_box}
use Rattle.zarr_grids_boxes.proofs.InBox.{in_box-place_at, ravel-place_at}
use Rattle.zarr_grids_chunks.specs.Grids.{Grid, IsInGrid}
use Rattle.zarr_grids_cover.proofs.ChunkBoxes.{chunk_box-rank}
use Rattle.zarr_codecs_meaning.specs.Payloads.{Payload, cells_in}
use Rattle.zarr_codecs_meaning.specs.Types.{Cell}
use Rattle.zarr_codecs_meaning.proofs.Lists.{some_same}
use Rattle.zarr_codecs_options.specs.declared.codec_options.CodecOptions.{CodecOptions}
use Rattle.zarr_array_meaning.specs.Arrays.{Array, value_at}
use Rattle.zarr_array_meaning.specs.Boxes.{cell_of_box, IsPlaceOf, IsRead, IsDamagedIn, IsUnfitIn}
use Rattle.zarr_array_meaning.specs.Chunks.{IsNthIntersecting}
use Rattle.zarr_array_meaning.specs.Documents.{Document}
use Rattle.zarr_array_meaning.specs.StoreMaps.{StoreMap}
use Rattle.zarr_array_meaning.specs.Writes.{write_to}
use Rattle.zarr_array_meaning.specs.Writing.{IsPartDamaged, LacksRoom, is_into_shard}
use Rattle.zarr_array_meaning.proofs.OneAnswer.{reads_one_way, written_undamaged}
use Rattle.zarr_run_meaning.specs.declared.cause.Cause.TheVariants as cause
use Rattle.zarr_run_meaning.specs.Causes.{IsTarget}
use Rattle.zarr_run_meaning.specs.Changes.{Reads}
use Rattle.zarr_run_meaning.specs.Laws.{ReadsApart, ReadsAlike, WritesApart}
use Rattle.zarr_run_meaning.specs.Printing.{IsFormed}
use Rattle.zarr_run_meaning.specs.Requests.{Target, in_box, in_chunk, refusal, read, cells as gives, refused}
use Rattle.zarr_run_meaning.specs.Steps.{RefusesHeld, RefusesWrite, RefusesRead, WritesFirst, Step}
use Rattle.zarr_run_meaning.specs.Worlds.{Held, array_of, held_at}
use Rattle.zarr_run_meaning.proofs.Frames.{read_once}
use Rattle.zarr_run_meaning.proofs.Keys.{number_listed, listed_below}

-- a command means one box
target_once : (grid : Grid) (target : Target) (a b : Region) → IsTarget grid target a → IsTarget grid target b → a ≡ b
target_once grid (in_box region) a b is other = is.0 ∙ sym other.0
target_once grid (in_chunk chunk) a b is other = some_same (sym is.has_box ∙ other.has_box)

pub reads_apart : ReadsApart
reads_apart reads old new other path target options more payload n m = (whole_damaged, whole_unfit, λ s t. both (held_at path old.arrays) s.1 t.1) where
  both : (o : Option Held) → RefusesHeld o (RefusesRead target) (refusal cause.Damage n) old new → RefusesHeld o (RefusesRead target) (refusal cause.Fit m) old other → ⊥
  both (Some h) s t =
      let same = target_once h.document.grid target s.0.0 t.0.0 s.0.1 t.0.1 in
      (reads_one_way h.path h.document old.store t.0.0 []).0 (subst (λ (box : Region). IsDamagedIn h.path h.document old.store box) same s.0.3) t.0.3
  both None s t = s

  whole_damaged : Step reads old (read path target options) (gives payload) new → Step reads old (read path target more) (refused cause.Damage n) other → ⊥
  whole_damaged s t =
      let is = s.0 in
      let h = is.held in
      let r = subst (λ (o : Option Held). RefusesHeld o (RefusesRead target) (refusal cause.Damage n) old other) is.found t.1 in
      let same = target_once h.document.grid target r.0.0 is.box r.0.1 is.is in
      (reads_one_way h.path h.document old.store is.box is.values).1 is.read (subst (λ (box : Region). IsDamagedIn h.path h.document old.store box) same r.0.3)

  whole_unfit : Step reads old (read path target options) (gives payload) new → Step reads old (read path target more) (refused cause.Fit n) other → ⊥
  whole_unfit s t =
      let is = s.0 in
      let h = is.held in
      let r = subst (λ (o : Option Held). RefusesHeld o (RefusesRead target) (refusal cause.Fit n) old other) is.found t.1 in
      let same = target_once h.document.grid target r.0.0 is.box r.0.1 is.is in
      (reads_one_way h.path h.document old.store is.box is.values).2 is.read (subst (λ (box : Region). IsUnfitIn h.path h.document old.store box) same r.0.3)

-- whether a part that is to stay is damaged doesn't depend on the cells that are written
damaged_alike : (array : Array) (region : Region) (values others : List Cell) (options : CodecOptions) (box : Region) (stored : Option (List ℕ)) → IsPartDamaged (write_to array region values options) box stored → IsPartDamaged (write_to array region others options) box stored
damaged_alike array region values others options box stored damaged = record { fit = damaged.fit; part = damaged.part; lost = damaged.lost }

pub writes_apart : WritesApart
writes_apart reads old new other path target given options n puts s t =
    let is = s.0 in
    let h = is.held in
    let r = subst (λ (o : Option Held). RefusesHeld o (RefusesWrite (record { target = target; cells = given; options = options })) (refusal cause.Damage n) old other) is.found t.1 in
    ⊎_elim
    (λ whole. whole.0)
    (λ (first : WritesFirst h (record { target = target; cells = given; options = options }) (refusal cause.Damage n) old other).
    let same = target_once h.document.grid target first.box is.box first.is.is is.is.is in
    let nth = subst (λ (box : Region). IsNthIntersecting h.document.grid box n first.stops.chunk first.stops.box) same first.stops.nth in
    let listed = number_listed _ n first.stops.chunk nth.listed in
    let among = listed_below h.document.grid is.box first.stops.chunk listed in
    let below : IsInGrid h.document.grid first.stops.chunk first.stops.box = record { below = among.1.below; has_box = nth.has_box } in
    ⊎_elim
    (λ part.
    let stored = value_at (array_of h) old.store first.stops.chunk in
    let damaged = subst (λ (box : Region). IsPartDamaged (write_to (array_of h) box is.values options) first.stops.box stored) same (damaged_alike (array_of h) first.box first.values is.values options first.stops.box stored part) in
    written_undamaged (write_to (array_of h) is.box is.values options) _ old.store new.store first.stops.chunk first.stops.box is.writes.stores below listed damaged)
    (λ (no : LacksRoom (write_to (array_of h) first.box first.values options) first.stops.box (value_at (array_of h) old.store first.stops.chunk)).
    let into = ap (λ (box : Region). is_into_shard h.document options box first.stops.box) (sym same) ∙ no.into in
    false≢true (sym (puts h is.box first.stops.chunk first.stops.box is.found is.is.is below) ∙ into))
    first.stops.refuses)
    r

-- ---- two reads

-- a box has a length for each start, and each place of it lies in a chunk in the grid
pub record IsFilled (grid : Grid) (box : Region) : Type 0 where
  pub formed : length box.start ≡ length box.shape
  pub covered : (place : List ℕ) → is_in_box box.start box.shape place ≡ true → (chunk : List ℕ) × (other : Region) × IsInGrid grid chunk other × (is_in_box other.start other.shape place ≡ true)

pub target_filled : (grid : Grid) (target : Target) (box : Region) → IsFormed target → IsTarget grid target box → IsFilled grid box
target_filled grid (in_box region) box formed is = subst (IsFilled grid) (sym is.0) (record { formed = formed; covered = is.1.covered })
target_filled grid (in_chunk chunk) box formed is =
    let rank = chunk_box-rank grid chunk box is.has_box in
    record { formed = rank.0 ∙ sym rank.1; covered = λ place inside. (chunk, box, is, inside) }

-- a box that is covered is read as one list of cells
one_reading : (path : List ℕ) (document : Document) (store : StoreMap) (box : Region) (a b : List Cell) → IsFilled document.grid box → IsRead path document store box a → IsRead path document store box b → a ≡ b
one_reading path document store box a b filled one other = ext_get_or document.elements.fill a b (one.many ∙ sym other.many) same where
  same : (n : ℕ) → n < length a → get_or a n document.elements.fill ≡ get_or b n document.elements.fill
  same n low =
      let small : n < product box.shape = omega (arith, low, one.many) in
      let place = place_at box.start box.shape n in
      let inside = in_box-place_at box.start box.shape n filled.formed small in
      let number = ravel-place_at box.start box.shape n filled.formed small in
      let c = filled.covered place inside in
      let is : IsPlaceOf document box c.0 c.1 place = record { below = c.2; of_region = inside; of_chunk = c.3 } in
      ap (λ m. get_or a m document.elements.fill) (sym number)
      ∙ read_once path document store c.0 c.1 place (cell_of_box box a document.elements.fill place) (cell_of_box box b document.elements.fill place) (one.each c.0 c.1 place is) (other.each c.0 c.1 place is)
      ∙ ap (λ m. get_or b m document.elements.fill) number

pub reads_alike : ReadsAlike
reads_alike reads old new other path target options more payload again h formed found s t = one.1 ∙ ap Some listed ∙ sym two.1 where
  -- the cells of a read of the array
  reading : (given : Payload) → Reads path target given old → (box : Region) × (values : List Cell) × (cells_in h.document.elements.type given ≡ Some values) × IsTarget h.document.grid target box × IsRead h.path h.document old.store box values
  reading given r = subst (λ (x : Held). (box : Region) × (values : List Cell) × (cells_in x.document.elements.type given ≡ Some values) × IsTarget x.document.grid target box × IsRead x.path x.document old.store box values)
      (same_Some r.held h (sym r.found ∙ found)) (r.box, r.values, r.lists, r.is, r.read)

  first : (box : Region) × (values : List Cell) × (cells_in h.document.elements.type payload ≡ Some values) × IsTarget h.document.grid target box × IsRead h.path h.document old.store box values
  first = reading payload s.0

  second : (box : Region) × (values : List Cell) × (cells_in h.document.elements.type again ≡ Some values) × IsTarget h.document.grid target box × IsRead h.path h.document old.store box values
  second = reading again t.0

  one : (values : List Cell) × (cells_in h.document.elements.type payload ≡ Some values)
  one = (first.1, first.2)

  two : (values : List Cell) × (cells_in h.document.elements.type again ≡ Some values)
  two = (second.1, second.2)

  listed : one.0 ≡ two.0
  listed =
      let same = target_once h.document.grid target second.0 first.0 second.3 first.3 in
      one_reading h.path h.document old.store first.0 first.1 second.1 (target_filled h.document.grid target first.0 formed first.3) first.4
      (subst (λ (box : Region). IsRead h.path h.document old.store box second.1) same second.4)
