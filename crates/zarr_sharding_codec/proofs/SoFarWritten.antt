-- The subchunks of some places were updated.
use Rattle.std.proofs.Common.{◌≡◌, ◌≢◌, ◌∙◌, inl, inr, ℕ, suc, ◌+◌, ◌-◌, ◌<◌, ◌≤◌, List, [], ◌∷◌, ◌++◌, length, map, get_or, cond, ap, sym, refl, subst, arith, Bool, true, false, ◌==◌, None, Err, append_assoc, append-nil, length-append}
use Rattle.std.specs.Prelude.{nat_lt}
use Rattle.std.specs.List.{filter, list_all}
use Rattle.std.specs.List.Sorted.{IsNonDecreasingBy, IsPermutation}
use Rattle.std.proofs.Math.ListN.{get_or-append}
use Rattle.std.proofs.lemmas.Bool.{and_from, and_parts, cases_lt, eqb-true, eq-eqb, lt-ltb}
use Rattle.std.proofs.lemmas.Grind.{in_moved}
use Rattle.std.proofs.lemmas.List.{get_or-append-add, get_or_default}
use Rattle.std.proofs.lemmas.List.Elements.{filter-append}
use Rattle.std.proofs.lemmas.List.FromFn.{get_or-map-range_with_len, length-map-range_with_len}
use Rattle.zarr_codecs_meaning.specs.Places.{gather}
use Rattle.zarr_codecs_meaning.specs.Encoding.{absent_pair}
use Rattle.zarr_codecs_meaning.specs.Refusals.{CodecRefuses, PassesIndex}
use Rattle.zarr_codecs_meaning.specs.Types.{Cell, is_fill}
use Rattle.zarr_codecs_meaning.proofs.Lists.{Each}
use Rattle.zarr_codecs_meaning.proofs.Positions.{each_at}
use Rattle.zarr_codecs_traits.specs.Indexers.{put}
use Rattle.zarr_codecs_arrays.specs.declared.error.CodecError.{CodecError}
use Rattle.zarr_codecs_arrays.specs.declared.error.CodecError.TheVariants as error
use Rattle.zarr_sharding_changes.specs.Changes.{Change}
use Rattle.zarr_sharding_places.specs.Groups.{IsGroup, no_place, places_in}
use Rattle.zarr_sharding_places.specs.Locating.{asked_place, asked_places, inside_of, part_shape, subchunk_of}
use Rattle.zarr_sharding_places.specs.Pieces.{piece_decoded}
use Rattle.zarr_sharding_places.specs.declared.locating.AskedPlace.{AskedPlace}
use Rattle.zarr_sharding_index.specs.SliceChanges.{is_below}
use Rattle.zarr_sharding_index.specs.declared.slice_changes.SliceChange.{SliceChange}
use Rattle.zarr_sharding_codec.specs.PartWriting.{AreChanged, AreUpdated, HasChange, IsGroupUpdated, IsMet, IsUpdated, Put, Stored, UpdatesGroup, UpdatesSlices, cells_put, given_group, given_in, group_put, insides, number_at, numbers_in, positions}
use Rattle.zarr_sharding_codec.specs.Slices.{IsPieceStored}
use Rattle.zarr_sharding_codec.proofs.GroupsRead.{AskedShard, IsAskable, IsAsked, StandsAt, stands_at, subchunk_below}
use Rattle.zarr_sharding_codec.proofs.PutPieces.{given_asked, insides_asked}
use Rattle.zarr_sharding_codec.proofs.SoFarRead.{group_asked}

-- ---- places that were cut off in front

-- these places are left, none of a subchunk of those before them
pub record IsCutAt (places rest : List AskedPlace) : Type 0 where
  pub done : List AskedPlace
  pub split : done ++ rest ≡ places
  pub apart : (i : ℕ) → i < length done → 0 < length rest → (get_or done i no_place).subchunk ≡ (get_or rest 0 no_place).subchunk → ⊥

pub nothing_cut : (places : List AskedPlace) → IsCutAt places places
nothing_cut places = record { done = []; split = refl; apart = λ i low some same. absurd (omega (arith, low)) }

-- a group in front of the places that are left
pub record IsFront (places rest group others : List AskedPlace) : Type 0 where
  pub sorted : IsNonDecreasingBy (λ (place : AskedPlace). place.subchunk) places
  pub cut : IsCutAt places rest
  pub all : group ++ others ≡ rest
  pub some : 0 < length group
  pub one : IsGroup group
  pub last : 0 < length others → (get_or others 0 no_place).subchunk ≢ (get_or group 0 no_place).subchunk

-- the subchunk of a group
abbrev pub number_of : List AskedPlace → ℕ
number_of group = (get_or group 0 no_place).subchunk

none_in : (k : ℕ) (places : List AskedPlace) → ((i : ℕ) → i < length places → (get_or places i no_place).subchunk ≢ k) → places_in k places ≡ []
none_in k [] other = refl
none_in k (p ∷ ps) other = first (p.subchunk == k) refl ∙ none_in k ps (λ i low. other (suc i) (omega (arith, low))) where
  first : (b : Bool) → (p.subchunk == k) ≡ b → cond b (p ∷ places_in k ps) (places_in k ps) ≡ places_in k ps
  first true e = absurd (other 0 (omega arith) (eqb-true p.subchunk k e))
  first false e = refl

all_in : (k : ℕ) (places : List AskedPlace) → ((i : ℕ) → i < length places → (get_or places i no_place).subchunk ≡ k) → places_in k places ≡ places
all_in k [] same = refl
all_in k (p ∷ ps) same = ap (λ (b : Bool). cond b (p ∷ places_in k ps) (places_in k ps)) (eq-eqb p.subchunk k (same 0 (omega arith))) ∙ ap (λ qs. p ∷ qs) (all_in k ps (λ i low. same (suc i) (omega (arith, low))))

module _ (places rest group others : List AskedPlace) (front : IsFront places rest group others) where
  whole : front.cut.done ++ (group ++ others) ≡ places
  whole = ap (λ ps. front.cut.done ++ ps) front.all ∙ front.cut.split

  -- where the group's first place and the others stand
  group_at : get_or places (length front.cut.done + 0) no_place ≡ get_or group 0 no_place
  group_at = ap (λ ps. get_or ps (length front.cut.done + 0) no_place) (sym whole) ∙ (get_or-append-add front.cut.done (group ++ others) 0 no_place ∙ get_or-append group others no_place 0 front.some)

  other_at : (j : ℕ) → get_or places (length front.cut.done + (length group + j)) no_place ≡ get_or others j no_place
  other_at j = ap (λ ps. get_or ps (length front.cut.done + (length group + j)) no_place) (sym whole) ∙ (get_or-append-add front.cut.done (group ++ others) (length group + j) no_place ∙ get_or-append-add group others j no_place)

  long : length front.cut.done + (length group + length others) ≡ length places
  long = sym (length-append front.cut.done (group ++ others) ∙ ap (λ n. length front.cut.done + n) (length-append group others)) ∙ ap (λ ps. length ps) whole

  -- the others come after the group
  pub others_after : (j : ℕ) → j < length others → number_of group < (get_or others j no_place).subchunk
  others_after j low =
      let count = long in
      let some = front.some in
      let first = front.sorted (length front.cut.done + 0) (length front.cut.done + (length group + 0)) no_place (omega arith) (omega (arith, low, count)) in
      let next = front.sorted (length front.cut.done + (length group + 0)) (length front.cut.done + (length group + j)) no_place (omega arith) (omega (arith, low, count)) in
      let g = ap (λ (p : AskedPlace). p.subchunk) group_at in
      let o = ap (λ (p : AskedPlace). p.subchunk) (other_at 0) in
      let at_ = ap (λ (p : AskedPlace). p.subchunk) (other_at j) in
      let other : (get_or others 0 no_place).subchunk ≢ number_of group = front.last (omega (arith, low)) in
      omega (arith, first, next, g, o, at_, other)

  rest_first : get_or rest 0 no_place ≡ get_or group 0 no_place
  rest_first = ap (λ ps. get_or ps 0 no_place) (sym front.all) ∙ get_or-append group others no_place 0 front.some

  rest_some : 0 < length rest
  rest_some = let some = front.some in let count = length-append group others in let is = ap (λ (ps : List AskedPlace). length ps) front.all in omega (arith, some, count, is)

  -- the group has all places of its subchunk
  pub group_is : places_in (number_of group) places ≡ group
  group_is =
      let k = number_of group in
      let p = λ (place : AskedPlace). place.subchunk == k in
      ap (places_in k) (sym whole)
      ∙ (filter-append p front.cut.done (group ++ others)
      ∙ (ap (λ ps. ps ++ filter p (group ++ others)) (none_in k front.cut.done (λ i low same. front.cut.apart i low rest_some (same ∙ sym (ap (λ (q : AskedPlace). q.subchunk) rest_first))))
      ∙ (filter-append p group others
      ∙ (ap (λ ps. ps ++ filter p others) (all_in k group (λ i low. front.one i low))
      ∙ (ap (λ ps. group ++ ps) (none_in k others (λ i low same. let after = others_after i low in omega (arith, after, same))) ∙ append-nil group)))))

  -- one group more is cut off
  pub cut_more : IsCutAt places others
  cut_more = record {
    done = front.cut.done ++ group;
    split = append_assoc front.cut.done group others ∙ whole;
    apart = λ i low some same.
        let count = length-append front.cut.done group in
        let after = others_after 0 some in
        elim (cases_lt i (length front.cut.done)) [
          | inl before ↦
              let here = get_or-append front.cut.done group no_place i before in
              let e = ap (λ (p : AskedPlace). p.subchunk) here in
              let some_left = front.some in
              let total = long in
              let place = ap (λ ps. get_or ps i no_place) (sym whole) ∙ get_or-append front.cut.done (group ++ others) no_place i before in
              let up = front.sorted i (length front.cut.done + 0) no_place (omega (arith, before)) (omega (arith, total, some_left)) in
              let one = ap (λ (p : AskedPlace). p.subchunk) place in
              let two = ap (λ (p : AskedPlace). p.subchunk) group_at in
              omega (arith, e, up, one, two, after, same)
          | inr past ↦
              let at_ : length front.cut.done + (i - length front.cut.done) ≡ i = omega (arith, past) in
              let here = ap (λ n. get_or (front.cut.done ++ group) n no_place) (sym at_) ∙ get_or-append-add front.cut.done group (i - length front.cut.done) no_place in
              let e = ap (λ (p : AskedPlace). p.subchunk) here in
              let one = front.one (i - length front.cut.done) (omega (arith, low, count, past)) in
              omega (arith, e, one, after, same)
        ];
  }

-- ---- one subchunk more

pub are_more : (stored : Stored) (new : Put) (changes : List Change) (change : Change) → AreUpdated stored new changes → IsUpdated stored new change → AreUpdated stored new (changes ++ change ∷ [])
are_more stored new [] change are is = (is, tt)
are_more stored new (c ∷ cs) change are is = (are.0, are_more stored new cs change are.1 is)

has_more : (k : ℕ) (changes more : List Change) → HasChange k changes → HasChange k (changes ++ more)
has_more k [] more has = absurd has
has_more k (c ∷ cs) more (inl is) = inl is
has_more k (c ∷ cs) more (inr has) = inr (has_more k cs more has)

has_last : (k : ℕ) (changes : List Change) (change : Change) → change.0 ≡ k → HasChange k (changes ++ change ∷ [])
has_last k [] change is = inl is
has_last k (c ∷ cs) change is = inr (has_last k cs change is)

pub below_more : (count : ℕ) (changes : List SliceChange) (change : SliceChange) → list_all (is_below count) changes ≡ true → change.number < count → list_all (is_below count) (changes ++ change ∷ []) ≡ true
below_more count [] change all low = and_from (is_below count change) true (lt-ltb change.number count low) refl
below_more count (c ∷ cs) change all low =
    let both = and_parts (is_below count c) (list_all (is_below count) cs) all in
    and_from (is_below count c) (list_all (is_below count) (cs ++ change ∷ [])) both.0 (below_more count cs change both.1 low)

-- what is stored of a shard of which places are asked
abbrev pub stored_as : AskedShard → Bool → Stored
stored_as s exact = record { inner = s.inner; exact = exact; elements = s.elements; value = s.value; pairs = s.pairs }

-- new cells for those places
abbrev pub put_as : AskedShard → List Cell → Put
put_as s cells = record { shape = s.shape; subchunk = s.subchunk; numbers = s.numbers; cells = cells }

-- the places that are asked of a shard, subchunk by subchunk
pub record IsWriting (s : AskedShard) (cells : List Cell) (places : List AskedPlace) : Type 0 where
  pub can : IsAskable s
  pub many : length cells ≡ length s.numbers
  pub moved : IsPermutation (asked_places s.shape s.subchunk s.numbers) places
  pub stable : (k : ℕ) → places_in k places ≡ places_in k (asked_places s.shape s.subchunk s.numbers)

-- places are all those that are asked for in the subchunk with a number, in their order, and there is one
pub record IsWholeGroup (s : AskedShard) (cells : List Cell) (k : ℕ) (group : List AskedPlace) : Type 0 where
  pub many : length cells ≡ length s.numbers
  pub below : k < length s.pairs
  pub met : IsMet (put_as s cells) k
  pub all : group ≡ places_in k (asked_places s.shape s.subchunk s.numbers)

module _ (s : AskedShard) (exact : Bool) (cells : List Cell) (k : ℕ) (group : List AskedPlace) (has : IsWholeGroup s cells k group) where
  asked_at : (i : ℕ) → asked_place s.shape s.subchunk s.numbers (0 + i) ≡ record { subchunk = subchunk_of s.shape s.subchunk (get_or s.numbers i 0); inside = inside_of s.shape s.subchunk (get_or s.numbers i 0); position = 0 + i }
  asked_at i =
      let start : 0 + i ≡ i = omega arith in
      ap (λ j. record { subchunk = subchunk_of s.shape s.subchunk (get_or s.numbers j 0); inside = inside_of s.shape s.subchunk (get_or s.numbers j 0); position = 0 + i }) start

  insides_are : insides group ≡ numbers_in s.shape s.subchunk k s.numbers
  insides_are = ap insides has.all ∙ insides_asked s.shape s.subchunk k (asked_place s.shape s.subchunk s.numbers) s.numbers 0 (λ i low. asked_at i)

  given_are : gather s.elements.fill cells (positions group) ≡ given_in s.shape s.subchunk k s.numbers cells
  given_are =
      let g : ℕ → Cell = λ n. get_or cells n s.elements.fill in
      ap (λ (ps : List AskedPlace). map g (positions ps)) has.all
      ∙ given_asked s.shape s.subchunk k (asked_place s.shape s.subchunk s.numbers) g s.numbers cells 0 s.elements.fill has.many (λ i low. asked_at i) (λ i low. let start : 0 + i ≡ i = omega arith in ap g start)

  put_is : (before : List Cell) → group_put s.elements.fill group cells before ≡ cells_put (put_as s cells) k before
  put_is before = ap (λ ns. put ns (gather s.elements.fill cells (positions group)) before) insides_are ∙ ap (λ (cs : List Cell). put (numbers_in s.shape s.subchunk k s.numbers) cs before) given_are

  pub part_updated : (change : Change) → IsGroupUpdated (stored_as s exact) (given_group (part_shape s.shape s.subchunk k) k group cells) change → IsUpdated (stored_as s exact) (put_as s cells) change
  part_updated change is =
      let low = has.below in
      let number = is.number in
      let met = has.met in
      let here = subst (λ (cs : List Cell). IsPieceStored s.inner exact s.elements (part_shape s.shape s.subchunk k, cs) change.1) (put_is is.before) is.slice in
      record {
        below = omega (arith, low, number);
        met = record { at_ = met.at_; below = met.below; is = met.is ∙ sym number };
        before = is.before;
        held = ap (λ n. piece_decoded s.inner s.elements s.value (part_shape s.shape s.subchunk n) (get_or s.pairs n absent_pair)) number ∙ is.held;
        slice = subst (λ (n : ℕ). IsPieceStored s.inner exact s.elements (part_shape s.shape s.subchunk n, cells_put (put_as s cells) n is.before) change.1) (sym number) here;
      }

  pub part_unwritten : (e : CodecError) → UpdatesGroup (stored_as s exact) (given_group (part_shape s.shape s.subchunk k) k group cells) (Err e) → UpdatesSlices (stored_as s exact) (put_as s cells) (Err e)
  part_unwritten error.Damage why = record { number = k; below = has.below; met = has.met; lost = why }
  part_unwritten error.Codec why = record {
    number = k;
    below = has.below;
    met = has.met;
    before = why.before;
    held = why.held;
    some = subst (λ (cs : List Cell). is_fill s.elements.fill cs ≡ false) (put_is why.before) why.some;
    is = subst (CodecRefuses s.inner s.elements (part_shape s.shape s.subchunk k)) (put_is why.before) why.is;
  }
  part_unwritten error.Size (inl large) = inl (record { number = k; below = has.below; met = has.met; is = large })
  part_unwritten error.Size (inr why) =
      inr (record {
        number = k;
        below = has.below;
        met = has.met;
        before = why.before;
        held = why.held;
        some = subst (λ (cs : List Cell). is_fill s.elements.fill cs ≡ false) (put_is why.before) why.some;
        is = subst (PassesIndex s.inner s.elements (part_shape s.shape s.subchunk k)) (put_is why.before) why.is;
      })
  part_unwritten error.Memory why = tt
  part_unwritten error.Source why = tt
  part_unwritten e why = absurd why

module _ (s : AskedShard) (exact : Bool) (cells : List Cell) (places rest group others : List AskedPlace) (writing : IsWriting s cells places) (front : IsFront places rest group others) where
  pub front_asked : Each (IsAsked s) group
  front_asked = group_asked s places rest group others writing.moved (record { done = front.cut.done; split = front.cut.split }) front.all

  first_asked : IsAsked s (get_or group 0 no_place)
  first_asked = each_at (IsAsked s) group 0 no_place front_asked front.some

  group_whole : IsWholeGroup s cells (number_of group) group
  group_whole = record {
    many = writing.many;
    below = subchunk_below s (get_or group 0 no_place) writing.can first_asked;
    met = record { at_ = (get_or group 0 no_place).position; below = first_asked.below; is = sym (ap (λ (p : AskedPlace). p.subchunk) first_asked.is) };
    all = sym (group_is places rest group others front) ∙ writing.stable (number_of group);
  }

  pub group_updated : (change : Change) → IsGroupUpdated (stored_as s exact) (given_group (part_shape s.shape s.subchunk (number_of group)) (number_of group) group cells) change → IsUpdated (stored_as s exact) (put_as s cells) change
  group_updated change is = part_updated s exact cells (number_of group) group group_whole change is

  pub group_unwritten : (e : CodecError) → UpdatesGroup (stored_as s exact) (given_group (part_shape s.shape s.subchunk (number_of group)) (number_of group) group cells) (Err e) → UpdatesSlices (stored_as s exact) (put_as s cells) (Err e)
  group_unwritten e why = part_unwritten s exact cells (number_of group) group group_whole e why

-- ---- several subchunks

-- the subchunks of the first places were updated, and these places are left
pub record UpdatedSoFar (s : AskedShard) (exact : Bool) (cells : List Cell) (places rest : List AskedPlace) (changes : List Change) : Type 0 where
  pub done : List AskedPlace
  pub split : done ++ rest ≡ places
  pub are : AreUpdated (stored_as s exact) (put_as s cells) changes
  pub all : (i : ℕ) → i < length done → HasChange (get_or done i no_place).subchunk changes
  pub once : (i j : ℕ) → i < j → j < length changes → number_at changes i < number_at changes j
  pub before : (i j : ℕ) → i < length changes → j < length rest → number_at changes i < (get_or rest j no_place).subchunk

pub nothing_updated : (s : AskedShard) (exact : Bool) (cells : List Cell) (places : List AskedPlace) → UpdatedSoFar s exact cells places places []
nothing_updated s exact cells places = record {
  done = [];
  split = refl;
  are = tt;
  all = λ i low. absurd (omega (arith, low));
  once = λ i j less low. absurd (omega (arith, low));
  before = λ i j low there. absurd (omega (arith, low));
}

-- one change more, of a later subchunk
pub number_front : (changes : List Change) (change : Change) (i : ℕ) → i < length changes → number_at (changes ++ change ∷ []) i ≡ number_at changes i
number_front changes change i low = ap (λ (c : Change). c.0) (get_or-append changes (change ∷ []) (0, None) i low)

pub number_last : (changes : List Change) (change : Change) → number_at (changes ++ change ∷ []) (length changes + 0) ≡ change.0
number_last changes change = ap (λ (c : Change). c.0) (get_or-append-add changes (change ∷ []) 0 (0, None))

pub updated_more : (s : AskedShard) (exact : Bool) (cells : List Cell) (places rest group others : List AskedPlace) (changes : List Change) (change : Change) → IsWriting s cells places → IsFront places rest group others → UpdatedSoFar s exact cells places rest changes
    → IsGroupUpdated (stored_as s exact) (given_group (part_shape s.shape s.subchunk (number_of group)) (number_of group) group cells) change → UpdatedSoFar s exact cells places others (changes ++ change ∷ [])
updated_more s exact cells places rest group others changes change writing front so_far is = record {
  done = so_far.done ++ group;
  split = append_assoc so_far.done group others ∙ (ap (λ ps. so_far.done ++ ps) front.all ∙ so_far.split);
  are = are_more (stored_as s exact) (put_as s cells) changes change so_far.are (group_updated s exact cells places rest group others writing front change is);
  all = λ i low.
      let count = length-append so_far.done group in
      elim (cases_lt i (length so_far.done)) [
        | inl before ↦
            subst (λ (p : AskedPlace). HasChange p.subchunk (changes ++ change ∷ [])) (sym (get_or-append so_far.done group no_place i before)) (has_more (get_or so_far.done i no_place).subchunk changes (change ∷ []) (so_far.all i before))
        | inr past ↦
            let at_ : length so_far.done + (i - length so_far.done) ≡ i = omega (arith, past) in
            let here = ap (λ n. get_or (so_far.done ++ group) n no_place) (sym at_) ∙ get_or-append-add so_far.done group (i - length so_far.done) no_place in
            let one = front.one (i - length so_far.done) (omega (arith, low, count, past)) in
            has_last (get_or (so_far.done ++ group) i no_place).subchunk changes change (is.number ∙ (sym one ∙ sym (ap (λ (p : AskedPlace). p.subchunk) here)))
      ];
  once = λ i j less low.
      let count = length-append changes (change ∷ []) in
      elim (cases_lt j (length changes)) [
        | inl inside ↦
            let one = number_front changes change i (omega (arith, less, inside)) in
            let two = number_front changes change j inside in
            let up = so_far.once i j less inside in
            omega (arith, one, two, up)
        | inr past ↦
            let some = front.some in
            let at_ : length changes + 0 ≡ j = omega (arith, past, low, count) in
            let one = number_front changes change i (omega (arith, less, low, count)) in
            let two : number_at (changes ++ change ∷ []) j ≡ change.0 = ap (number_at (changes ++ change ∷ [])) (sym at_) ∙ number_last changes change in
            let number = is.number in
            let first = ap (λ (p : AskedPlace). p.subchunk) (rest_first places rest group others front) in
            let up = so_far.before i 0 (omega (arith, less, low, count)) (rest_some places rest group others front) in
            omega (arith, one, two, number, first, up)
      ];
  before = λ i j low there.
      let count = length-append changes (change ∷ []) in
      elim (cases_lt i (length changes)) [
        | inl inside ↦
            let one = number_front changes change i inside in
            let cut = length-append group others in
            let all = ap (λ (ps : List AskedPlace). length ps) front.all in
            let here : (get_or rest (length group + j) no_place).subchunk ≡ (get_or others j no_place).subchunk = ap (λ (p : AskedPlace). p.subchunk) (ap (λ ps. get_or ps (length group + j) no_place) (sym front.all) ∙ get_or-append-add group others j no_place) in
            let up = so_far.before i (length group + j) inside (omega (arith, there, cut, all)) in
            omega (arith, one, here, up)
        | inr past ↦
            let at_ : length changes + 0 ≡ i = omega (arith, past, low, count) in
            let two : number_at (changes ++ change ∷ []) i ≡ change.0 = ap (number_at (changes ++ change ∷ [])) (sym at_) ∙ number_last changes change in
            let number = is.number in
            let after = others_after places rest group others front j there in
            omega (arith, two, number, after)
      ];
}

-- all subchunks were updated
pub updated_all : (s : AskedShard) (exact : Bool) (cells : List Cell) (places rest : List AskedPlace) (changes : List Change) → IsWriting s cells places → UpdatedSoFar s exact cells places rest changes → length rest ≤ 0 → AreChanged (stored_as s exact) (put_as s cells) changes
updated_all s exact cells places (place ∷ rest) changes writing so_far none = absurd (omega (arith, none))
updated_all s exact cells places [] changes writing so_far none = record {
  are = so_far.are;
  once = so_far.once;
  all = λ t low.
      let first = asked_places s.shape s.subchunk s.numbers in
      let f = asked_place s.shape s.subchunk s.numbers in
      let count : length first ≡ length s.numbers = length-map-range_with_len f 0 (length s.numbers) in
      let here = λ (d : AskedPlace). get_or-map-range_with_len f 0 (length s.numbers) t t d low (omega arith) in
      let stands = subst (λ ps. StandsAt ps (f t)) (sym writing.moved.is) (stands_at (in_moved first writing.moved.moves t (f t) writing.moved.below (omega (arith, low, count)) (sym (here (f t))))) in
      let e : so_far.done ≡ places = sym (append-nil so_far.done) ∙ so_far.split in
      let within = stands.below in
      let long = ap (λ (ps : List AskedPlace). length ps) e in
      let is : get_or so_far.done stands.at_ no_place ≡ f t = ap (λ ps. get_or ps stands.at_ no_place) e ∙ (get_or_default places stands.at_ no_place (f t) within ∙ stands.is) in
      subst (λ (p : AskedPlace). HasChange p.subchunk changes) is (so_far.all stands.at_ (omega (arith, within, long)));
}

-- ---- what the loop knows

-- the places of a group stand among all that are asked for
pub positions_below : (s : AskedShard) (group : List AskedPlace) → Each (IsAsked s) group → list_all (λ n. nat_lt n (length s.numbers)) (positions group) ≡ true
positions_below s [] asked = refl
positions_below s (p ∷ ps) asked = and_from (nat_lt p.position (length s.numbers)) (list_all (λ n. nat_lt n (length s.numbers)) (positions ps)) (lt-ltb p.position (length s.numbers) asked.0.below) (positions_below s ps asked.1)

pub writing_of : (s : AskedShard) (cells : List Cell) (places items : List AskedPlace) → places ≡ items → IsAskable s → length cells ≡ length s.numbers → IsPermutation (asked_places s.shape s.subchunk s.numbers) items
    → ((k : ℕ) → places_in k items ≡ places_in k (asked_places s.shape s.subchunk s.numbers)) → IsWriting s cells places
writing_of s cells places items are can many moved stable = record {
  can = can;
  many = many;
  moved = subst (λ ps. IsPermutation (asked_places s.shape s.subchunk s.numbers) ps) (sym are) moved;
  stable = λ k. ap (places_in k) are ∙ stable k;
}

pub front_of : (places items rest group others : List AskedPlace) → places ≡ items → IsNonDecreasingBy (λ (place : AskedPlace). place.subchunk) items → IsCutAt places rest → group ++ others ≡ rest → 0 < length group → IsGroup group
    → (0 < length others → (get_or others 0 no_place).subchunk ≢ (get_or group 0 no_place).subchunk) → IsFront places rest group others
front_of places items rest group others are sorted cut all some one last = record {
  sorted = subst (λ ps. IsNonDecreasingBy (λ (place : AskedPlace). place.subchunk) ps) (sym are) sorted;
  cut = cut;
  all = all;
  some = some;
  one = one;
  last = last;
}
