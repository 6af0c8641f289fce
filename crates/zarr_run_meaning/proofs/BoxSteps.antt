-- What a read and a write of a box are of one array's table; the cells of boxes and of their parts.
use Rattle.std.proofs.Common.{◌≡◌, ◌∙◌, ⊎_elim, ℕ, Bool, true, false, if◌then◌else◌, ◌&&◌, ◌||◌, List, [], ◌∷◌, length, map, take, get_or, refl, sym, ap, subst, Option, Some, None}
use Rattle.std.specs.Prelude.{All}
use Rattle.std.specs.List.{list_any}
use Rattle.std.specs.Option.{option_map_or}
use Rattle.std.proofs.lemmas.Bool.{false≢true}
use Rattle.std.proofs.lemmas.List.{get_or_default}
use Rattle.std.proofs.lemmas.List.Elements.{All-head, All-tail}
use Rattle.std.proofs.lemmas.Option.{none-some, same_Some}
use Rattle.zarr_grids_boxes.specs.Boxes.{Region, product, places, is_in_box, share_place}
use Rattle.zarr_grids_boxes.proofs.Sharing.{share_place-of, share_place-has}
use Rattle.zarr_grids_boxes.proofs.Steps.{number_in_grid}
use Rattle.zarr_grids_chunks.specs.Grids.{Grid, IsCovered, intersects, intersecting}
use Rattle.zarr_grids_chunks.proofs.Filters.{told}
use Rattle.zarr_grids_chunks.proofs.Partition.{intersecting-any}
use Rattle.zarr_grids_cover.proofs.ChunkLaws.{IsInGrid-covered}
use Rattle.zarr_grids_keys.proofs.RelatedLemmas.{is_related-refl}
use Rattle.zarr_codecs_meaning.specs.Payloads.{Payload, cells_in}
use Rattle.zarr_codecs_meaning.specs.Types.{Cell}
use Rattle.zarr_codecs_meaning.proofs.Lists.{some_same, Each}
use Rattle.zarr_codecs_metadata.specs.Chains.{ReadsCodecs}
use Rattle.zarr_codecs_options.specs.declared.codec_options.CodecOptions.{CodecOptions}
use Rattle.zarr_codecs_types.specs.Given.{GivenCells}
use Rattle.zarr_array_meaning.specs.Boxes.{cell_of_box, IsRead, IsDamagedIn, IsUnfitIn}
use Rattle.zarr_array_meaning.specs.Chunks.{number_in, stored_at, part_at, is_listed}
use Rattle.zarr_array_meaning.specs.Standing.{IsLossless}
use Rattle.zarr_array_meaning.specs.StoreMaps.{StoreMap}
use Rattle.zarr_array_meaning.specs.Writes.{write_to}
use Rattle.zarr_array_meaning.proofs.Showing.{listed_at, each_inside}
use Rattle.zarr_run_meaning.specs.declared.cause.Cause.{Cause}
use Rattle.zarr_run_meaning.specs.declared.cause.Cause.TheVariants as cause
use Rattle.zarr_run_meaning.specs.BoxLaws.{BoxCells, MayRead, ReadsAgree, ReadsOfParts, LiesInSome, PartsReadWhole, lies_in_some, cell_among, IsHeldWithCells, StoresBack}
use Rattle.zarr_run_meaning.specs.Causes.{IsTarget, IsGiven}
use Rattle.zarr_run_meaning.specs.Changes.{Reads, Writes, WritesChunks}
use Rattle.zarr_run_meaning.specs.Requests.{Target, in_box, in_chunk, refusal, write, Answer, done, cells as gives, compacted, refused}
use Rattle.zarr_run_meaning.specs.Steps.{Stays, RefusesHeld, RefusesWrite, RefusesRead, RefusesAt, WritesFirst, Step}
use Rattle.zarr_run_meaning.specs.Tables.{Table, cell, updated, changes, changes_in}
use Rattle.zarr_run_meaning.specs.Worlds.{Held, World, array_of, held_at, WithTable}
use Rattle.zarr_run_meaning.proofs.Arrays.{Stayed, at_path, near, apart, held_after}
use Rattle.zarr_run_meaning.proofs.Keys.{listed_take}
use Rattle.zarr_run_meaning.proofs.TableLemmas.{cells_of_box}
use Rattle.zarr_run_meaning.proofs.Tables.{cell-written}

-- ---- targets

-- a target means one box
pub target_once : (grid : Grid) (target : Target) (a b : Region) → IsTarget grid target a → IsTarget grid target b → a ≡ b
target_once grid (in_box region) a b is other = is.0 ∙ sym other.0
target_once grid (in_chunk chunk) a b is other = some_same (sym is.has_box ∙ other.has_box)

-- and its places are covered
pub target_covered : (grid : Grid) (target : Target) (box : Region) → IsTarget grid target box → IsCovered grid box
target_covered grid (in_box region) box is = subst (λ (b : Region). IsCovered grid b) (sym is.0) is.1
target_covered grid (in_chunk chunk) box is = IsInGrid-covered grid chunk box is

-- ---- a read

-- what a read of an array has
pub record IsBoxRead (h : Held) (target : Target) (payload : Payload) (store : StoreMap) : Type 0 where
  pub box : Region
  pub is : IsTarget h.document.grid target box
  pub values : List Cell
  pub lists : cells_in h.document.elements.type payload ≡ Some values
  pub read : IsRead h.path h.document store box values
  pub table : IsLossless h.document → values ≡ map (cell h.document.elements.fill h.table) (places box.start box.shape)

pub box_read : (path : List ℕ) (target : Target) (payload : Payload) (old : World) (h : Held) → held_at path old.arrays ≡ Some h → Reads path target payload old → IsBoxRead h target payload old.store
box_read path target payload old h found r =
    let P : Held → Type 0 = λ x. IsBoxRead x target payload old.store in
    subst P (same_Some r.held h (sym r.found ∙ found)) (record { box = r.box; is = r.is; values = r.values; lists = r.lists; read = r.read; table = r.table })

-- ---- a write

-- the array whose table a command changed
pub table_at : (path : List ℕ) (h : Held) (t : Table) (store : StoreMap) (olds news : List Held) → held_at path olds ≡ Some h → WithTable h.path t store olds news → held_at path news ≡ Some (record h { table = t })
table_at path h t store olds news found w =
    let after = held_after h.path t store olds news w path h found in
    after.1 ∙ ap (λ (x : Held). Some x) (go after.0 after.2) where
      go : (x : Held) → Stayed h.path t store h x → x ≡ record h { table = t }
      go x (at_path e is) = is
      go x (near ne r is shows) = absurd (ne refl)
      go x (apart r is) = absurd (false≢true (sym r ∙ is_related-refl h.path))

-- what a write did to an array: cells were given to some chunks of those that the box intersects, or nothing was
pub data BoxWritten (h : Held) (target : Target) (given : GivenCells) (new : Option Held) : Type 0 where
  some_chunks : (box : Region) → (values : List Cell) → (chunks : List (List ℕ)) → IsGiven h.document target given box values
      → ((chunk : List ℕ) → is_listed chunks chunk ≡ true → is_listed (intersecting h.document.grid box) chunk ≡ true)
      → new ≡ Some (record h { table = updated h.document.elements.fill h.table (changes_in h.document.grid chunks (changes box values)) }) → BoxWritten h target given new
  no_chunks : new ≡ Some h → BoxWritten h target given new

-- the table after some chunks were given cells
pub chunks_given : (path : List ℕ) (h : Held) (box : Region) (values : List Cell) (options : CodecOptions) (chunks : List (List ℕ)) (old new : World) → held_at path old.arrays ≡ Some h → WritesChunks h (write_to (array_of h) box values options) chunks old new
    → held_at path new.arrays ≡ Some (record h { table = updated h.document.elements.fill h.table (changes_in h.document.grid chunks (changes box values)) })
chunks_given path h box values options chunks old new found w = table_at path h w.table new.store old.arrays new.arrays found w.updates ∙ ap (λ (t : Table). Some (record h { table = t })) w.is

-- a write that is done
pub record IsBoxWritten (h : Held) (target : Target) (given : GivenCells) (new : Option Held) : Type 0 where
  pub box : Region
  pub values : List Cell
  pub is : IsGiven h.document target given box values
  pub held : new ≡ Some (record h { table = updated h.document.elements.fill h.table (changes_in h.document.grid (intersecting h.document.grid box) (changes box values)) })

pub box_written : (path : List ℕ) (target : Target) (given : GivenCells) (options : CodecOptions) (old new : World) (h : Held) → held_at path old.arrays ≡ Some h → Writes path (record { target = target; cells = given; options = options }) old new → IsBoxWritten h target given (held_at path new.arrays)
box_written path target given options old new h found w =
    let P : Held → Type 0 = λ x. IsBoxWritten x target given (held_at path new.arrays) in
    subst P (same_Some w.held h (sym w.found ∙ found)) (record { box = w.box; values = w.values; is = w.is; held = chunks_given path w.held w.box w.values options (intersecting w.held.document.grid w.box) old new w.found w.writes })

-- the cells of the table after it
pub box_cell : (grid : Grid) (fill : Cell) (t : Table) (box : Region) (values : List Cell) (place : List ℕ) → IsCovered grid box → length values ≡ product box.shape
    → cell fill (updated fill t (changes_in grid (intersecting grid box) (changes box values))) place ≡ (if is_in_box box.start box.shape place then cell_of_box box values fill place else cell fill t place)
box_cell grid fill t box values place covered many =
    cell-written fill t grid box values (intersecting grid box) fill place (λ c l. l) many
    ∙ go (is_in_box box.start box.shape place) (list_any _ (intersecting grid box)) (λ inside. intersecting-any grid box place covered inside) where
      go : (a b : Bool) → (a ≡ true → b ≡ true) → (if a && b then cell_of_box box values fill place else cell fill t place) ≡ (if a then cell_of_box box values fill place else cell fill t place)
      go true b c = ap (λ (x : Bool). if x then cell_of_box box values fill place else cell fill t place) (c refl)
      go false b c = refl

-- a write, whatever is answered
module _ (reads : ReadsCodecs) (path : List ℕ) (target : Target) (given : GivenCells) (options : CodecOptions) (old new : World) (h : Held) (found : held_at path old.arrays ≡ Some h) where
  stayed : (c : Cause) (n : ℕ) → Stays c n old new → BoxWritten h target given (held_at path new.arrays)
  stayed c n s = no_chunks (ap (λ (w : World). held_at path w.arrays) s.is ∙ found)

  by_held : (o : Option Held) (c : Cause) (n : ℕ) → held_at path old.arrays ≡ o → RefusesHeld o (RefusesWrite (record { target = target; cells = given; options = options })) (refusal c n) old new → BoxWritten h target given (held_at path new.arrays)
  by_held None cause.NoArray n e r = stayed cause.NoArray n r
  by_held None c n e r = absurd r
  by_held (Some g) c n e r =
      let P : Held → Type 0 = λ x. BoxWritten x target given (held_at path new.arrays) in
      ⊎_elim (λ whole. stayed c n whole.1)
      (λ (first : WritesFirst g (record { target = target; cells = given; options = options }) (refusal c n) old new).
      subst P (same_Some g h (sym e ∙ found))
      (some_chunks first.box first.values (take n (intersecting g.document.grid first.box)) first.is (λ d l. listed_take n (intersecting g.document.grid first.box) d l)
      (chunks_given path g first.box first.values options (take n (intersecting g.document.grid first.box)) old new e first.writes)))
      r

  by_cause : (c : Cause) (n : ℕ) → RefusesAt reads (write path target given options) (refusal c n) old new → BoxWritten h target given (held_at path new.arrays)
  by_cause cause.Path n r = stayed cause.Path n r.1
  by_cause cause.Memory n r = ⊎_elim (stayed cause.Memory n) (λ s. by_held (held_at path old.arrays) cause.Memory n refl s.1) r
  by_cause c n r = by_held (held_at path old.arrays) c n refl r.1

  pub write_answered : (answer : Answer) → Step reads old (write path target given options) answer new → BoxWritten h target given (held_at path new.arrays)
  write_answered done s =
      let w = box_written path target given options old new h found s.0 in
      some_chunks w.box w.values (intersecting h.document.grid w.box) w.is (λ c l. l) w.held
  write_answered (gives payload) s = absurd s
  write_answered (compacted changed) s = absurd s
  write_answered (refused c n) s = by_cause c n s

-- ---- the cells of a read, written again

pub stores_back : StoresBack
stores_back reads old mid new path target options more payload given answer h found lossless same r w = left (write_answered reads path target given more mid new h (ap (λ (w : World). held_at path w.arrays) r.1 ∙ found) answer w) where
  fill : Cell
  fill = h.document.elements.fill

  was : IsBoxRead h target payload old.store
  was = box_read path target payload old h found r.0

  left : BoxWritten h target given (held_at path new.arrays) → IsHeldWithCells path h new
  left (no_chunks is) = record { table = h.table; found = is; same = λ place. refl }
  left (some_chunks box values chunks is few held) = record {
    table = updated fill h.table (changes_in h.document.grid chunks (changes box values));
    found = held;
    same = λ place. cell-written fill h.table h.document.grid box values chunks fill place few is.gives.1 ∙ stays (is_in_box box.start box.shape place) (list_any _ chunks) (cell_of_box box values fill place) (cell fill h.table place) (inside place);
  } where
    region : was.box ≡ box
    region = target_once h.document.grid target was.box box was.is is.is

    listed : values ≡ map (cell fill h.table) (places box.start box.shape)
    listed = some_same (sym is.gives.0 ∙ same ∙ was.lists) ∙ was.table lossless ∙ ap (λ (b : Region). map (cell fill h.table) (places b.start b.shape)) region

    inside : (place : List ℕ) → is_in_box box.start box.shape place ≡ true → cell_of_box box values fill place ≡ cell fill h.table place
    inside place i = ap (λ (vs : List Cell). get_or vs (number_in box place) fill) listed ∙ listed_at (cell fill h.table) box place fill i

    stays : (a b : Bool) (x y : Cell) → (a ≡ true → x ≡ y) → (if a && b then x else y) ≡ y
    stays true true x y e = e refl
    stays true false x y e = refl
    stays false b x y e = refl

-- ---- several reads

-- what may be answered for a box is what is read of it, and its places are covered
pub may_read : (reads : ReadsCodecs) (world : World) (path : List ℕ) (box : BoxCells) (h : Held) → held_at path world.arrays ≡ Some h → MayRead reads world path box
    → IsRead h.path h.document world.store box.region box.cells × IsCovered h.document.grid box.region
may_read reads world path box h found m =
    let was = box_read path m.target m.payload world m.held m.found m.step.0 in
    let P : Region → Type 0 = λ region. IsRead m.held.path m.held.document world.store region was.values in
    let Q : List Cell → Type 0 = λ cells. IsRead m.held.path m.held.document world.store box.region cells in
    let R : Held → Type 0 = λ x. IsRead x.path x.document world.store box.region box.cells × IsCovered x.document.grid box.region in
    subst R (same_Some m.held h (sym m.found ∙ found)) (
      subst Q (some_same (sym was.lists ∙ m.lists)) (subst P (target_once m.held.document.grid m.target was.box box.region was.is m.is) was.read),
      target_covered m.held.document.grid m.target box.region m.is,
    )

-- at a place of a box its list has a cell
pub any_default : (region : Region) (cells : List Cell) (place : List ℕ) (a b : Cell) → length cells ≡ product region.shape → is_in_box region.start region.shape place ≡ true → cell_of_box region cells a place ≡ cell_of_box region cells b place
any_default region cells place a b many inside = get_or_default cells (number_in region place) a b (rw many (number_in_grid region.start region.shape place inside))

pub reads_agree : ReadsAgree
reads_agree reads world path one two place other a b in_one in_two =
    let first = may_read reads world path one a.held a.found a in
    let second = may_read reads world path two a.held a.found b in
    let fill = a.held.document.elements.fill in
    let c = first.1.covered place in_one in
    any_default one.region one.cells place other fill first.0.many in_one
    ∙ same_cell (part_at a.held.document c.1 (stored_at a.held.path a.held.document world.store c.0) place) _ _
    (first.0.each c.0 c.1 place (record { below = c.2; of_region = in_one; of_chunk = c.3 }))
    (second.0.each c.0 c.1 place (record { below = c.2; of_region = in_two; of_chunk = c.3 }))
    ∙ any_default two.region two.cells place fill other second.0.many in_two where
      same_cell : (o : Option (List Cell)) (x y : Cell) → o ≡ Some (x ∷ []) → o ≡ Some (y ∷ []) → x ≡ y
      same_cell o x y e f = cc

pub map_same : (f g : List ℕ → Cell) (ps : List (List ℕ)) → Each (λ p. f p ≡ g p) ps → map f ps ≡ map g ps
map_same f g [] each = refl
map_same f g (p ∷ ps) each = ap (λ (c : Cell). c ∷ map f ps) each.0 ∙ ap (λ (cs : List Cell). g p ∷ cs) (map_same f g ps each.1)

pub reads_of_parts : ReadsOfParts
reads_of_parts reads world path whole parts other lengths was all cover =
    let is = may_read reads world path whole was.held was.found was in
    sym (cells_of_box whole.region whole.cells other lengths is.0.many)
    ∙ map_same (cell_of_box whole.region whole.cells other) (cell_among other parts) (places whole.region.start whole.region.shape)
    (each_inside (λ p. cell_of_box whole.region whole.cells other p ≡ cell_among other parts p) whole.region.start whole.region.shape lengths (λ p inside. among parts p inside all (cover p inside))) where
      among : (boxes : List BoxCells) (place : List ℕ) → is_in_box whole.region.start whole.region.shape place ≡ true → All (MayRead reads world path) boxes → lies_in_some place boxes ≡ true
          → cell_of_box whole.region whole.cells other place ≡ cell_among other boxes place
      among [] place inside each lies = absurd (false≢true lies)
      among (box ∷ boxes) place inside each lies =
          let Q : BoxCells → Type 0 = MayRead reads world path in
          ⊎_elim
          (λ t. reads_agree reads world path whole box place other was (All-head Q box boxes each) inside t
          ∙ sym (ap (λ (b : Bool). if b then cell_of_box box.region box.cells other place else cell_among other boxes place) t))
          (λ f. among boxes place inside (All-tail Q box boxes each) (sym (ap (λ (b : Bool). b || lies_in_some place boxes) f) ∙ lies)
          ∙ sym (ap (λ (b : Bool). if b then cell_of_box box.region box.cells other place else cell_among other boxes place) f))
          (told (is_in_box box.region.start box.region.shape place))

-- the first of some boxes that a place lies in
some_box : (reads : ReadsCodecs) (world : World) (path place : List ℕ) (boxes : List BoxCells) → All (MayRead reads world path) boxes → lies_in_some place boxes ≡ true
    → (box : BoxCells) × MayRead reads world path box × (is_in_box box.region.start box.region.shape place ≡ true)
some_box reads world path place [] all lies = absurd (false≢true lies)
some_box reads world path place (box ∷ boxes) all lies =
    let Q : BoxCells → Type 0 = MayRead reads world path in
    ⊎_elim
    (λ t. (box, All-head Q box boxes all, t))
    (λ f. some_box reads world path place boxes (All-tail Q box boxes all) (sym (ap (λ (b : Bool). b || lies_in_some place boxes) f) ∙ lies))
    (told (is_in_box box.region.start box.region.shape place))

module _ (reads : ReadsCodecs) (world after : World) (path : List ℕ) (region : Region) (parts : List BoxCells) (all : All (MayRead reads world path) parts) (cover : LiesInSome region parts) (h : Held) (found : held_at path world.arrays ≡ Some h) where
  undamaged : IsDamagedIn h.path h.document world.store region → ⊥
  undamaged d =
      let part = some_box reads world path d.place parts all (cover d.place d.is.of_region) in
      let is = may_read reads world path part.0 h found part.1 in
      none-some _ (sym d.lost ∙ is.0.each d.chunk d.box d.place (record { below = d.is.below; of_region = part.2; of_chunk = d.is.of_chunk }))

  all_fit : IsUnfitIn h.path h.document world.store region → ⊥
  all_fit u =
      let box_shares : (r : Region) → intersects h.document.grid r u.chunk ≡ share_place u.box.start u.box.shape r.start r.shape = λ r. ap (λ (o : Option Region). option_map_or (λ (b : Region). share_place b.start b.shape r.start r.shape) o false) u.below.has_box in
      let both = share_place-has u.box.start u.box.shape region.start region.shape (sym (box_shares region) ∙ u.shares) in
      let part = some_box reads world path both.0 parts all (cover both.0 both.2) in
      let is = may_read reads world path part.0 h found part.1 in
      false≢true (sym u.fit ∙ is.0.fit u.chunk u.box u.below (box_shares part.0.region ∙ share_place-of u.box.start u.box.shape part.0.region.start part.0.region.shape both.0 both.1 part.2) u.stored)

pub parts_read_whole : PartsReadWhole
parts_read_whole reads world after path region parts options n all cover = (λ s. damage (held_at path world.arrays) refl s.1, λ s. fit (held_at path world.arrays) refl s.1) where
  damage : (o : Option Held) → held_at path world.arrays ≡ o → RefusesHeld o (RefusesRead (in_box region)) (refusal cause.Damage n) world after → ⊥
  damage None e r = r
  damage (Some h) e r = undamaged reads world after path region parts all cover h e (subst (λ (b : Region). IsDamagedIn h.path h.document world.store b) r.0.1.0 r.0.3)

  fit : (o : Option Held) → held_at path world.arrays ≡ o → RefusesHeld o (RefusesRead (in_box region)) (refusal cause.Fit n) world after → ⊥
  fit None e r = r
  fit (Some h) e r = all_fit reads world after path region parts all cover h e (subst (λ (b : Region). IsUnfitIn h.path h.document world.store b) r.0.1.0 r.0.3)
