-- The places that are asked of a shard, read subchunk by subchunk.
use Rattle.std.proofs.Common.{◌≡◌, ◌≢◌, ◌∙◌, inl, inr, ℕ, suc, ◌<◌, List, [], ◌∷◌, ◌++◌, length, map, get_or, ap, sym, refl, arith, subst, Bool, true, ◌&&◌, Option, Some, None}
use Rattle.std.specs.Prelude.{nat_lt}
use Rattle.std.specs.List.{list_all}
use Rattle.std.specs.List.Sorted.{IsPermutation}
use Rattle.std.proofs.lemmas.Bool.{ltb-true, lt-ltb}
use Rattle.std.proofs.lemmas.Grind.{StandsIn, get_or_moved, in_moved}
use Rattle.std.proofs.lemmas.List.{get_or-map, length-map}
use Rattle.std.proofs.lemmas.List.FromFn.{get_or-map-range_with_len, length-map-range_with_len}
use Rattle.zarr_grids_boxes.specs.Boxes.{product}
use Rattle.zarr_codecs_meaning.specs.Chains.{Chain}
use Rattle.zarr_codecs_meaning.specs.Encoding.{Pair, absent_pair}
use Rattle.zarr_codecs_meaning.specs.Fits.{can_cut}
use Rattle.zarr_codecs_meaning.specs.Places.{parts_of}
use Rattle.zarr_codecs_meaning.specs.Types.{Cell, Elements}
use Rattle.zarr_codecs_meaning.proofs.Lists.{Each, each_append, each_passes, each_weaker}
use Rattle.zarr_codecs_meaning.proofs.Positions.{each_at}
use Rattle.zarr_codecs_regions.specs.Updates.{put}
use Rattle.zarr_sharding_places.specs.Locating.{asked_place, asked_places}
use Rattle.zarr_sharding_places.specs.declared.locating.AskedPlace.{AskedPlace}
use Rattle.zarr_sharding_codec.specs.Reading.{place_decoded, places_decoded, shard_cell, shard_cells, subchunks_of}
use Rattle.zarr_sharding_places.specs.Groups as groups
use Rattle.zarr_sharding_places.specs.Groups.{no_place}
use Rattle.zarr_sharding_places.specs.Locating.{inside_of, part_shape, subchunk_of}
use Rattle.zarr_sharding_places.proofs.PutPlaces.{length-put, put_cases}
use Rattle.zarr_sharding_codec.proofs.NumberedParts.{each_from}
use Rattle.zarr_sharding_codec.proofs.AllThere.{all_found, length-there, lost_one, one_lost, there_at}
use Rattle.zarr_sharding_codec.proofs.LocatedParts.{located_place}
use Rattle.zarr_sharding_codec.proofs.PlaceCells.{inside_below, shard_place}
use Rattle.zarr_codecs_traits.specs.Arrays.{coded}

-- a shard, and the numbers of the places that are asked of it
pub record AskedShard : Type 0 where
  pub inner : Chain
  pub elements : Elements
  pub shape : List ℕ
  pub subchunk : List ℕ
  pub value : List ℕ
  pub pairs : List Pair
  pub numbers : List ℕ

-- the array is cut into subchunks, each has a pair, and the places are the array's
pub record IsAskable (s : AskedShard) : Type 0 where
  pub cuts : can_cut s.shape s.subchunk ≡ true
  pub many : length s.pairs ≡ length (parts_of s.shape s.subchunk)
  pub below : list_all (λ n. nat_lt n (product s.shape)) s.numbers ≡ true

-- a place is that of the number at its position
pub record IsAsked (s : AskedShard) (place : AskedPlace) : Type 0 where
  pub below : place.position < length s.numbers
  pub is : place ≡ asked_place s.shape s.subchunk s.numbers place.position

abbrev pub number_of : AskedShard → AskedPlace → ℕ
number_of s place = get_or s.numbers place.position 0

abbrev pub cell_of : AskedShard → ℕ → Option Cell
cell_of s n = shard_cell (subchunks_of s.inner s.elements s.shape s.subchunk) s.value s.pairs n

number_below : (s : AskedShard) (place : AskedPlace) → IsAskable s → IsAsked s place → number_of s place < product s.shape
number_below s place can asked =
    ltb-true (number_of s place) (product s.shape) (each_at (λ n. nat_lt n (product s.shape) ≡ true) s.numbers place.position 0 (each_passes (λ n. nat_lt n (product s.shape)) s.numbers can.below) asked.below)

-- the cell at a place of the subchunk with a number, and the cells at some of them
abbrev pub piece_cell : AskedShard → ℕ → ℕ → Option Cell
piece_cell s k place = place_decoded (coded s.inner s.elements (part_shape s.shape s.subchunk k)) s.value (get_or s.pairs k absent_pair) place

abbrev pub piece_cells : AskedShard → ℕ → List ℕ → Option (List Cell)
piece_cells s k places = places_decoded (coded s.inner s.elements (part_shape s.shape s.subchunk k)) s.value (get_or s.pairs k absent_pair) places

-- the cell at a place is that of its subchunk
asked_cell : (s : AskedShard) (place : AskedPlace) → IsAskable s → IsAsked s place → cell_of s (number_of s place) ≡ piece_cell s place.subchunk place.inside
asked_cell s place can asked =
    shard_place s.inner s.elements s.shape s.subchunk s.value s.pairs (number_of s place) can.cuts can.many (number_below s place can asked)
    ∙ ap (λ (p : AskedPlace). piece_cell s p.subchunk p.inside) (sym asked.is)

-- there is a pair for it, and it is a place of its subchunk
pub subchunk_below : (s : AskedShard) (place : AskedPlace) → IsAskable s → IsAsked s place → place.subchunk < length s.pairs
subchunk_below s place can asked =
    let located = located_place s.shape s.subchunk (number_of s place) can.cuts (number_below s place can asked) in
    let low = located.part in
    let many = can.many in
    let here : place.subchunk ≡ subchunk_of s.shape s.subchunk (number_of s place) = ap (λ (p : AskedPlace). p.subchunk) asked.is in
    omega (arith, low, many, here)

asked_inside : (s : AskedShard) (place : AskedPlace) → IsAskable s → IsAsked s place → nat_lt place.inside (product (part_shape s.shape s.subchunk place.subchunk)) ≡ true
asked_inside s place can asked =
    let n = number_of s place in
    ap (λ (p : AskedPlace). nat_lt p.inside (product (part_shape s.shape s.subchunk p.subchunk))) asked.is
    ∙ lt-ltb (inside_of s.shape s.subchunk n) (product (part_shape s.shape s.subchunk (subchunk_of s.shape s.subchunk n))) (inside_below s.shape s.subchunk n can.cuts (number_below s place can asked))

all_inside : (s : AskedShard) (k : ℕ) (group : List AskedPlace) → IsAskable s → Each (IsAsked s) group → ((i : ℕ) → i < length group → (get_or group i no_place).subchunk ≡ k)
    → list_all (λ n. nat_lt n (product (part_shape s.shape s.subchunk k))) (map (λ (p : AskedPlace). p.inside) group) ≡ true
all_inside s k [] can asked alike = refl
all_inside s k (place ∷ group) can asked alike =
    let count = product (part_shape s.shape s.subchunk k) in
    let here : nat_lt place.inside count ≡ true = ap (λ j. nat_lt place.inside (product (part_shape s.shape s.subchunk j))) (sym (alike 0 (omega arith))) ∙ asked_inside s place can asked.0 in
    ap (λ (b : Bool). b && list_all (λ n. nat_lt n count) (map (λ (p : AskedPlace). p.inside) group)) here ∙ all_inside s k group can asked.1 (λ i below. alike (suc i) (omega (arith, below)))

-- places of one subchunk are places of its shape
pub insides_below : (s : AskedShard) (group : List AskedPlace) → IsAskable s → Each (IsAsked s) group → groups.IsGroup group
    → list_all (λ n. nat_lt n (product (part_shape s.shape s.subchunk (get_or group 0 no_place).subchunk))) (map (λ (p : AskedPlace). p.inside) group) ≡ true
insides_below s group can asked one = all_inside s (get_or group 0 no_place).subchunk group can asked one

-- ---- places of one subchunk

-- places of one subchunk, of which this is the number
pub record IsGroup (s : AskedShard) (k : ℕ) (group : List AskedPlace) : Type 0 where
  pub asked : Each (IsAsked s) group
  pub alike : (i : ℕ) → i < length group → (get_or group i no_place).subchunk ≡ k

abbrev pub positions : List AskedPlace → List ℕ
positions group = map (λ (p : AskedPlace). p.position) group

abbrev pub insides : List AskedPlace → List ℕ
insides group = map (λ (p : AskedPlace). p.inside) group

-- the cell at a place of the group
group_cell : (s : AskedShard) (k : ℕ) (group : List AskedPlace) (i : ℕ) → IsAskable s → IsGroup s k group → i < length group → cell_of s (number_of s (get_or group i no_place)) ≡ piece_cell s k (get_or (insides group) i 0)
group_cell s k group i can is below =
    let place = get_or group i no_place in
    asked_cell s place can (each_at (IsAsked s) group i no_place is.asked below)
    ∙ (ap (λ j. piece_cell s j place.inside) (is.alike i below) ∙ ap (piece_cell s k) (sym (get_or-map (λ (p : AskedPlace). p.inside) group i no_place 0 below)))

-- cells have what a place asks for at its position
pub record IsRead (s : AskedShard) (cells : List Cell) (place : AskedPlace) : Type 0 where
  pub asked : IsAsked s place
  pub cell : cell_of s (number_of s place) ≡ Some (get_or cells place.position s.elements.fill)

-- what is put at a position is the cell that it asks for
read_put : (s : AskedShard) (k : ℕ) (group : List AskedPlace) (cells piece : List Cell) (place : AskedPlace) → IsAskable s → IsGroup s k group → length cells ≡ length s.numbers
    → piece_cells s k (insides group) ≡ Some piece → IsAsked s place
    → (((i : ℕ) → i < length group → (get_or group i no_place).position ≢ place.position) → cell_of s (number_of s place) ≡ Some (get_or cells place.position s.elements.fill))
    → IsRead s (put (positions group) piece cells) place
read_put s k group cells piece place can is whole read asked kept_cell =
    let fill = s.elements.fill in
    let ats = positions group in
    let many : length ats ≡ length group = length-map group (λ (p : AskedPlace). p.position) in
    let count : length (insides group) ≡ length group = length-map group (λ (p : AskedPlace). p.inside) in
    let long = length-there (piece_cell s k) (insides group) piece read in
    let low = asked.below in
    record {
      asked = asked;
      cell = elim (put_cases ats piece cells place.position fill (omega (arith, long, many, count)) (omega (arith, low, whole))) [
        | inl was ↦
            let under = was.below in
            let below : was.at_ < length group = omega (arith, under, many) in
            let there : (get_or group was.at_ no_place).position ≡ place.position = sym (get_or-map (λ (p : AskedPlace). p.position) group was.at_ no_place 0 below) ∙ was.there in
            ap (λ t. cell_of s (get_or s.numbers t 0)) (sym there)
            ∙ (group_cell s k group was.at_ can is below
            ∙ (there_at (piece_cell s k) (insides group) piece was.at_ fill read (omega (arith, below, count)) ∙ ap Some (sym was.is)))
        | inr kept ↦
            kept_cell (λ i below same. kept.none i (omega (arith, below, many)) (get_or-map (λ (p : AskedPlace). p.position) group i no_place 0 below ∙ same)) ∙ ap Some (sym kept.is)
      ];
    }

-- ---- one group more

pub group_put : (s : AskedShard) (k : ℕ) (cells piece : List Cell) (done group : List AskedPlace) → IsAskable s → IsGroup s k group → length cells ≡ length s.numbers
    → piece_cells s k (insides group) ≡ Some piece → Each (IsRead s cells) done → Each (IsRead s (put (positions group) piece cells)) (done ++ group)
group_put s k cells piece done group can is whole read before =
    let after = put (positions group) piece cells in
    each_append (IsRead s after) done group
    (each_weaker (IsRead s cells) (IsRead s after) done (λ place old. read_put s k group cells piece place can is whole read old.asked (λ none. old.cell)) before)
    (each_from (IsRead s after) group no_place (λ i below.
    let place = get_or group i no_place in
    read_put s k group cells piece place can is whole read (each_at (IsAsked s) group i no_place is.asked below) (λ none. absurd (none i below refl))))

pub put_whole : (s : AskedShard) (cells piece : List Cell) (group : List AskedPlace) → length cells ≡ length s.numbers → length (put (positions group) piece cells) ≡ length s.numbers
put_whole s cells piece group whole = length-put (positions group) piece cells ∙ whole

pub piece_many : (s : AskedShard) (k : ℕ) (piece : List Cell) (group : List AskedPlace) → piece_cells s k (insides group) ≡ Some piece → length piece ≡ length (positions group)
piece_many s k piece group read =
    length-there (piece_cell s k) (insides group) piece read ∙ (length-map group (λ (p : AskedPlace). p.inside) ∙ sym (length-map group (λ (p : AskedPlace). p.position)))

-- where a place of a group has no cell, the places have none together
pub group_lost : (s : AskedShard) (k : ℕ) (group : List AskedPlace) → IsAskable s → IsGroup s k group → piece_cells s k (insides group) ≡ None
    → shard_cells (subchunks_of s.inner s.elements s.shape s.subchunk) s.value s.pairs s.numbers ≡ None
group_lost s k group can is lost =
    let one = lost_one (piece_cell s k) (insides group) lost in
    let count : length (insides group) ≡ length group = length-map group (λ (p : AskedPlace). p.inside) in
    let low = one.below in
    let below : one.at_ < length group = omega (arith, low, count) in
    let place = get_or group one.at_ no_place in
    let asked = each_at (IsAsked s) group one.at_ no_place is.asked below in
    one_lost (cell_of s) s.numbers place.position asked.below (group_cell s k group one.at_ can is below ∙ one.is)

-- ---- all places

pub all_asked : (s : AskedShard) (places : List AskedPlace) → IsPermutation (asked_places s.shape s.subchunk s.numbers) places → Each (IsAsked s) places
all_asked s places moved =
    let first = asked_places s.shape s.subchunk s.numbers in
    let f = asked_place s.shape s.subchunk s.numbers in
    let count : length first ≡ length s.numbers = length-map-range_with_len f 0 (length s.numbers) in
    subst (λ ps. Each (IsAsked s) ps) (sym moved.is)
    (each_from (IsAsked s) _ no_place (λ m below.
    let found = (get_or_moved first moved.moves m no_place moved.below below).1 in
    let low = found.1 in
    let under : found.0 < length s.numbers = omega (arith, low, count) in
    let is = found.2 ∙ get_or-map-range_with_len f 0 (length s.numbers) found.0 found.0 no_place under (omega arith) in
    let at_ : (get_or _ m no_place).position ≡ found.0 = ap (λ (p : AskedPlace). p.position) is in
    record { below = omega (arith, under, at_); is = is ∙ ap f (sym at_) }))

-- a place is one of a list's
pub record StandsAt (ps : List AskedPlace) (p : AskedPlace) : Type 0 where
  pub at_ : ℕ
  pub below : at_ < length ps
  pub is : get_or ps at_ p ≡ p

pub stands_at : {ps : List AskedPlace} {p : AskedPlace} → StandsIn ps p → StandsAt ps p
stands_at h = record { at_ = h.1.0; below = h.1.1; is = h.1.2 }

pub all_read : (s : AskedShard) (places : List AskedPlace) (cells : List Cell) → IsPermutation (asked_places s.shape s.subchunk s.numbers) places → length cells ≡ length s.numbers → Each (IsRead s cells) places
    → shard_cells (subchunks_of s.inner s.elements s.shape s.subchunk) s.value s.pairs s.numbers ≡ Some cells
all_read s places cells moved whole are =
    let first = asked_places s.shape s.subchunk s.numbers in
    let f = asked_place s.shape s.subchunk s.numbers in
    let fill = s.elements.fill in
    let count : length first ≡ length s.numbers = length-map-range_with_len f 0 (length s.numbers) in
    all_found (cell_of s) s.numbers cells fill whole (λ t below.
    let here = λ (d : AskedPlace). get_or-map-range_with_len f 0 (length s.numbers) t t d below (omega arith) in
    let stands = subst (λ ps. StandsAt ps (f t)) (sym moved.is) (stands_at (in_moved first moved.moves t (f t) moved.below (omega (arith, below, count)) (sym (here (f t))))) in
    let read = each_at (IsRead s cells) places stands.at_ (f t) are stands.below in
    subst (λ (p : AskedPlace). cell_of s (number_of s p) ≡ Some (get_or cells p.position fill)) stands.is read.cell)
