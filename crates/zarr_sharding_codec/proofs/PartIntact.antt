-- A write in part meets no subchunk that isn't decoded, or is refused.
use Rattle.std.proofs.Common.{◌≡◌, ◌∙◌, inl, inr, ℕ, zero, suc, ◌<◌, List, [], ◌∷◌, length, get_or, replicate, ap, sym, refl, subst, arith, Bool, true, false, ◌||◌, if◌then◌else◌, Option, Some, None, option_and_then}
use Rattle.std.proofs.lemmas.Bool.{lt-ltb, ltb-true, or_left, or_right}
use Rattle.std.specs.Prelude.{MatchOption, nat_lt}
use Rattle.std.specs.List.{list_all}
use Rattle.zarr_grids_boxes.specs.Boxes.{product}
use Rattle.zarr_codecs_meaning.specs.Chains.{Chain, Location, sharded}
use Rattle.zarr_codecs_meaning.specs.Decoding.{decoded, is_absent, pairs_in, slice_at}
use Rattle.zarr_codecs_meaning.specs.Encoding.{Pair, absent_pair, index_size}
use Rattle.zarr_codecs_meaning.specs.Fits.{can_cut}
use Rattle.zarr_codecs_meaning.specs.Places.{Part, index_shape, parts_of, position_of}
use Rattle.zarr_codecs_meaning.specs.Types.{Cell, Elements, uint64, zero_filled}
use Rattle.zarr_codecs_meaning.specs.Standing.{index_layout}
use Rattle.zarr_codecs_meaning.proofs.Lists.{some_same}
use Rattle.zarr_codecs_meaning.proofs.Parts.{no_part}
use Rattle.zarr_codecs_meaning.proofs.PartsOnce.{number_in}
use Rattle.zarr_codecs_meaning.proofs.Positions.{among_at, position_found, position_read}
use Rattle.zarr_codecs_regions.proofs.Puts.{number_below}
use Rattle.zarr_codecs_traits.specs.PartWriting.{IsLostAmong, MeetsLost, is_met}
use Rattle.zarr_sharding_changes.specs.Changes.{Change}
use Rattle.zarr_sharding_places.specs.Locating.{inside_of, part_shape, subchunk_of}
use Rattle.zarr_sharding_places.specs.Pieces.{piece_decoded}
use Rattle.zarr_sharding_index.specs.Held.{IsOpened}
use Rattle.zarr_sharding_codec.specs.PartWriting.{AreChanged, AreUpdated, HasChange, IsLostAt, IsUpdated, Put, Stored, put_at, stored_in}
use Rattle.zarr_sharding_codec.proofs.NumberedParts.{part_is}
use Rattle.zarr_sharding_codec.proofs.LocatedParts.{located_place}
use Rattle.zarr_sharding_codec.proofs.PutPieces.{place_tells}

-- a subchunk, by its number, that one of the places lies in and that isn't decoded
record IsLostPart (inner : List ℕ → List ℕ → Option (List Cell)) (value numbers : List ℕ) (parts : List Part) (pairs : List Pair) : Type 0 where
  pub k : ℕ
  pub part : k < length parts
  pub pair : k < length pairs
  pub met : is_met numbers (get_or parts k no_part) ≡ true
  pub there : is_absent (get_or pairs k absent_pair) ≡ false
  pub lost : option_and_then (inner (get_or parts k no_part).shape) (slice_at value (get_or pairs k absent_pair)) ≡ None

lost_part : (inner : List ℕ → List ℕ → Option (List Cell)) (value numbers : List ℕ) (parts : List Part) (pairs : List Pair) → IsLostAmong inner value numbers parts pairs → IsLostPart inner value numbers parts pairs
lost_part inner value numbers [] pairs lost = absurd lost
lost_part inner value numbers (part ∷ parts) [] lost = absurd lost
lost_part inner value numbers (part ∷ parts) (pair ∷ pairs) (inl lost) = record { k = 0; part = omega arith; pair = omega arith; met = lost.0; there = lost.1; lost = lost.2 }
lost_part inner value numbers (part ∷ parts) (pair ∷ pairs) (inr lost) =
    let rest = lost_part inner value numbers parts pairs lost in
    let low = rest.part in
    let low_pair = rest.pair in record { k = suc rest.k; part = omega (arith, low); pair = omega (arith, low_pair); met = rest.met; there = rest.there; lost = rest.lost }

-- one of the places that lie in a subchunk
pub record IsMetBy (numbers : List ℕ) (part : Part) : Type 0 where
  pub at_ : ℕ
  pub below : at_ < length numbers
  pub inside : nat_lt (position_of (get_or numbers at_ 0) part.places) (length part.places) ≡ true

pub met_by : (numbers : List ℕ) (part : Part) → is_met numbers part ≡ true → IsMetBy numbers part
met_by [] part met = absurd (cc)
met_by (n ∷ ns) part met = by_test (nat_lt (position_of n part.places) (length part.places)) refl (λ rest. met_by ns part rest) met where
  by_test : (b : Bool) → nat_lt (position_of n part.places) (length part.places) ≡ b → (is_met ns part ≡ true → IsMetBy ns part) → (b || is_met ns part) ≡ true → IsMetBy (n ∷ ns) part
  by_test true e rest h = record { at_ = 0; below = omega arith; inside = e }
  by_test false e rest h = let found = rest h in let low = found.below in record { at_ = suc found.at_; below = omega (arith, low); inside = found.inside }

-- the change of a subchunk that has one
changed_at : (stored : Stored) (new : Put) (changes : List Change) (k : ℕ) → AreUpdated stored new changes → HasChange k changes → (change : Change) × (change.0 ≡ k) × IsUpdated stored new change
changed_at stored new [] k are has = absurd has
changed_at stored new (change ∷ changes) k are (inl same) = (change, same, are.0)
changed_at stored new (change ∷ changes) k are (inr has) = changed_at stored new changes k are.1 has

each_met : (subchunk : List ℕ) (inner index : Chain) (location : Location) (exact : Bool) (elements : Elements) (shape numbers : List ℕ) (cells : List Cell) (value : List ℕ) (pairs : List Pair) (changes : List Change)
    → can_cut shape subchunk ≡ true → AreChanged (stored_in inner exact elements (Some value) pairs) (put_at shape subchunk numbers cells) changes
    → pairs_in (decoded index (zero_filled uint64) (index_shape shape subchunk)) location (index_size index (index_shape shape subchunk)) value ≡ Some pairs → MeetsLost (sharded subchunk inner index location) elements shape value numbers → ⊥
each_met subchunk inner index location exact elements shape numbers cells value pairs changes cuts changed read meets =
    let parts = parts_of shape subchunk in
    let same : meets.0 ≡ pairs = some_same (sym meets.1 ∙ read) in
    let lost = lost_part (decoded inner elements) value numbers parts pairs (subst (λ (ps : List Pair). IsLostAmong (decoded inner elements) value numbers parts ps) same meets.2) in
    let part = get_or parts lost.k no_part in
    let pair = get_or pairs lost.k absent_pair in
    let by = met_by numbers part lost.met in
    let n = get_or numbers by.at_ 0 in
    let i = position_of n part.places in
    let low : i < length part.places = ltb-true i (length part.places) by.inside in
    let here : number_in parts lost.k i ≡ n = position_read n 0 part.places low in
    let tells = place_tells shape subchunk lost.k i cuts (record { part = lost.part; place = low }) in
    let number : subchunk_of shape subchunk n ≡ lost.k = ap (subchunk_of shape subchunk) (sym here) ∙ tells.part in
    let change = changed_at (stored_in inner exact elements (Some value) pairs) (put_at shape subchunk numbers cells) changes lost.k changed.are (subst (λ (k : ℕ). HasChange k changes) number (changed.all by.at_ by.below)) in
    let size = part_shape shape subchunk lost.k in
    let whole : part.shape ≡ size = part_is shape subchunk lost.k no_part lost.part in
    let held : piece_decoded inner elements value size pair ≡ Some change.2.before = ap (λ (k : ℕ). piece_decoded inner elements value (part_shape shape subchunk k) (get_or pairs k absent_pair)) (sym change.1) ∙ change.2.held in
    let is : option_and_then (decoded inner elements size) (slice_at value pair) ≡ Some change.2.before =
    ap (λ (b : Bool). if b then Some (replicate (product size) elements.fill) else option_and_then (decoded inner elements size) (slice_at value pair)) (sym lost.there) ∙ held in
    let none : option_and_then (decoded inner elements size) (slice_at value pair) ≡ None = ap (λ (s : List ℕ). option_and_then (decoded inner elements s) (slice_at value pair)) (sym whole) ∙ lost.lost in cc

-- what is written in part was read where the places lie
pub part_intact : (subchunk : List ℕ) (inner index : Chain) (location : Location) (exact : Bool) (elements : Elements) (shape numbers : List ℕ) (cells : List Cell) (count end : ℕ) (old : Option (List ℕ)) (pairs : List Pair) (changes : List Change)
    → can_cut shape subchunk ≡ true → AreChanged (stored_in inner exact elements old pairs) (put_at shape subchunk numbers cells) changes → IsOpened (index_layout index location (index_shape shape subchunk)) count old pairs end
    → MatchOption old (Unit {0}) (λ value. ¬ MeetsLost (sharded subchunk inner index location) elements shape value numbers)
part_intact subchunk inner index location exact elements shape numbers cells count end None pairs changes cuts changed opened = tt
part_intact subchunk inner index location exact elements shape numbers cells count end (Some value) pairs changes cuts changed opened =
    λ meets. each_met subchunk inner index location exact elements shape numbers cells value pairs changes cuts changed opened.0 meets

-- ---- a subchunk that isn't decoded is one that the write meets

among_lost : (inner : List ℕ → List ℕ → Option (List Cell)) (value numbers : List ℕ) (parts : List Part) (pairs : List Pair) (k : ℕ) → k < length parts → k < length pairs → is_met numbers (get_or parts k no_part) ≡ true → is_absent (get_or pairs k absent_pair) ≡ false
    → option_and_then (inner (get_or parts k no_part).shape) (slice_at value (get_or pairs k absent_pair)) ≡ None → IsLostAmong inner value numbers parts pairs
among_lost inner value numbers [] pairs k part pair met there lost = absurd (omega (arith, part))
among_lost inner value numbers (part ∷ parts) [] k below low met there lost = absurd (omega (arith, low))
among_lost inner value numbers (part ∷ parts) (pair ∷ pairs) zero below low met there lost = inl (met, there, lost)
among_lost inner value numbers (part ∷ parts) (pair ∷ pairs) (suc k) below low met there lost = inr (among_lost inner value numbers parts pairs k (omega (arith, below)) (omega (arith, low)) met there lost)

-- a place that lies in a subchunk meets it
pub meets_part : (numbers : List ℕ) (part : Part) (t : ℕ) → t < length numbers → nat_lt (position_of (get_or numbers t 0) part.places) (length part.places) ≡ true → is_met numbers part ≡ true
meets_part [] part t below inside = absurd (omega (arith, below))
meets_part (n ∷ ns) part zero below inside = or_left (nat_lt (position_of n part.places) (length part.places)) (is_met ns part) inside
meets_part (n ∷ ns) part (suc t) below inside = or_right (nat_lt (position_of n part.places) (length part.places)) (is_met ns part) (meets_part ns part t (omega (arith, below)) inside)

-- what isn't read of a subchunk was present
unread_there : (gone : Bool) (fill : List Cell) (read : Option (List Cell)) → (if gone then Some fill else read) ≡ None → (gone ≡ false) × (read ≡ None)
unread_there true fill read lost = absurd (cc)
unread_there false fill read lost = (refl, lost)

pub lost_meets : (subchunk : List ℕ) (inner index : Chain) (location : Location) (exact : Bool) (elements : Elements) (shape numbers : List ℕ) (cells : List Cell) (value : List ℕ) (pairs : List Pair)
    → can_cut shape subchunk ≡ true → length pairs ≡ length (parts_of shape subchunk) → list_all (λ n. nat_lt n (product shape)) numbers ≡ true
    → pairs_in (decoded index (zero_filled uint64) (index_shape shape subchunk)) location (index_size index (index_shape shape subchunk)) value ≡ Some pairs → IsLostAt (stored_in inner exact elements (Some value) pairs) (put_at shape subchunk numbers cells)
    → MeetsLost (sharded subchunk inner index location) elements shape value numbers
lost_meets subchunk inner index location exact elements shape numbers cells value pairs cuts many below read lost =
    let parts = parts_of shape subchunk in
    let k = lost.number in
    let low = lost.below in
    let there : k < length parts = omega (arith, low, many) in
    let part = get_or parts k no_part in
    let pair = get_or pairs k absent_pair in
    let t = lost.met.at_ in
    let n = get_or numbers t 0 in
    let located = located_place shape subchunk n cuts (number_below (product shape) numbers t below lost.met.below) in
    let i = inside_of shape subchunk n in
    let same : subchunk_of shape subchunk n ≡ k = lost.met.is in
    let in_part : i < length part.places = subst (λ (j : ℕ). i < length (get_or parts j no_part).places) same located.place in
    let here : get_or part.places i 0 ≡ n = subst (λ (j : ℕ). get_or (get_or parts j no_part).places i 0 ≡ n) same located.here in
    let inside = position_found n part.places (among_at part.places i n in_part here) in
    let size = part_shape shape subchunk k in
    let unread = unread_there (is_absent pair) (replicate (product size) elements.fill) (option_and_then (decoded inner elements size) (slice_at value pair)) lost.lost in
    let whole : part.shape ≡ size = part_is shape subchunk k no_part there in (
      pairs,
      read,
      among_lost (decoded inner elements) value numbers parts pairs k there low (meets_part numbers part t lost.met.below (lt-ltb (position_of n part.places) (length part.places) inside)) unread.0
          (ap (λ (s : List ℕ). option_and_then (decoded inner elements s) (slice_at value pair)) whole ∙ unread.1),
    )
