-- A box of an array, written into its shard subchunk by subchunk.
use Rattle.std.proofs.Common.{◌≡◌, ◌∙◌, inl, inr, ℕ, zero, suc, ◌+◌, ◌<◌, ◌≤◌, List, [], ◌∷◌, ◌++◌, length, map, get_or, cond, ap, sym, refl, subst, arith, Bool, true, false, ◌==◌, Option, Result, length-append}
use Rattle.std.specs.List.{range_with_len}
use Rattle.std.proofs.Math.Arith.{lt_of_le-ne}
use Rattle.std.proofs.lemmas.Bool.{cases_lt, eqb-true, eq-eqb}
use Rattle.zarr_grids_boxes.specs.Boxes.{Region}
use Rattle.zarr_grids_boxes.specs.Subsets.{region_of}
use Rattle.zarr_codecs_meaning.specs.Chains.{Chain}
use Rattle.zarr_codecs_meaning.specs.Encoding.{Pair, absent_pair}
use Rattle.zarr_codecs_meaning.specs.Places.{gather, parts_of}
use Rattle.zarr_codecs_meaning.specs.Types.{Cell, Elements}
use Rattle.zarr_codecs_traits.specs.Indexers.{numbers_of, put}
use Rattle.zarr_codecs_arrays.specs.declared.error.CodecError.{CodecError}
use Rattle.zarr_sharding_changes.specs.Changes.{Change}
use Rattle.zarr_sharding_places.specs.Groups.{places_in}
use Rattle.zarr_sharding_places.specs.Locating.{asked_place, asked_places, inside_of, part_shape, subchunk_of}
use Rattle.zarr_sharding_places.specs.declared.locating.AskedPlace.{AskedPlace}
use Rattle.zarr_codecs_traits.specs.ReadBytes.{slice_length}
use Rattle.zarr_sharding_index.specs.declared.slice_changes.SliceChange.{SliceChange}
use Rattle.zarr_sharding_codec.specs.BoxReading.{AreMet, HasNumber, IsCutGroup, IsCutOut, StandIn, cut_places}
use Rattle.zarr_sharding_codec.specs.PartWriting.{AreChanged, AreUpdated, HasChange, IsGroupUpdated, UpdatesGroup, given_group, group_put, insides, number_at, positions, stored_in}
use Rattle.zarr_sharding_codec.specs.declared.box_reading.BoxCut.{BoxCut}
use Rattle.zarr_sharding_codec.proofs.BoxInSubchunk.{numbers_many}
use Rattle.zarr_sharding_codec.proofs.BoxRead.{GivenBefore, given_next}
use Rattle.zarr_sharding_codec.proofs.GroupsRead.{AskedShard, IsAskable}
use Rattle.zarr_sharding_codec.proofs.SoFarWritten.{IsWholeGroup, are_more, number_front, number_last, part_updated, put_as, stored_as}

-- ---- places found by rising numbers

-- rising numbers are those of a stretch at which a place lies in the subchunk with a number
record AreFound (f : ℕ → AskedPlace) (k a n : ℕ) (ts : List ℕ) : Type 0 where
  pub rising : (i j : ℕ) → i < j → j < length ts → get_or ts i 0 < get_or ts j 0
  pub from : (i : ℕ) → i < length ts → a ≤ get_or ts i 0
  pub low : (i : ℕ) → i < length ts → get_or ts i 0 < a + n
  pub lie : (i : ℕ) → i < length ts → (f (get_or ts i 0)).subchunk ≡ k
  pub all : (t : ℕ) → a ≤ t → t < a + n → (f t).subchunk ≡ k → HasNumber ts t

-- the least number stands first
first_is : (t a i : ℕ) (ts : List ℕ) → ((i j : ℕ) → i < j → j < length (t ∷ ts) → get_or (t ∷ ts) i 0 < get_or (t ∷ ts) j 0) → a ≤ t → i < length (t ∷ ts) → get_or (t ∷ ts) i 0 ≡ a → t ≡ a
first_is t a zero ts rising least low is = is
first_is t a (suc i) ts rising least low is =
    let up : t < get_or ts i 0 = rising 0 (suc i) (omega arith) low in
    let here : get_or ts i 0 ≡ a = is in
    absurd (omega (arith, up, here, least))

-- a larger one stands behind it
later_has : (t u i : ℕ) (ts : List ℕ) → t < u → i < length (t ∷ ts) → get_or (t ∷ ts) i 0 ≡ u → HasNumber ts u
later_has t u zero ts more low is = let here : t ≡ u = is in absurd (omega (arith, more, here))
later_has t u (suc i) ts more low is = record { at_ = i; below = omega (arith, low); is = is }

found_step : (f : ℕ → AskedPlace) (k a n : ℕ) (ts : List ℕ) (rest : List AskedPlace) (b : Bool) → ((f a).subchunk == k) ≡ b → AreFound f k a (suc n) ts
    → ((us : List ℕ) → AreFound f k (a + 1) n us → rest ≡ map f us) → cond b (f a ∷ rest) rest ≡ map f ts
found_step f k a n [] rest true e are law =
    let has = are.all a (omega arith) (omega arith) (eqb-true (f a).subchunk k e) in
    let low = has.below in
    absurd (omega (arith, low))
found_step f k a n (t ∷ ts) rest true e are law =
    let has = are.all a (omega arith) (omega arith) (eqb-true (f a).subchunk k e) in
    let first : t ≡ a = first_is t a has.at_ ts are.rising (are.from 0 (omega arith)) has.below has.is in
    let more : AreFound f k (a + 1) n ts = record {
      rising = λ i j less low. are.rising (suc i) (suc j) (omega (arith, less)) (omega (arith, low));
      from = λ i low. let up : t < get_or ts i 0 = are.rising 0 (suc i) (omega arith) (omega (arith, low)) in omega (arith, up, first);
      low = λ i low. let under : get_or ts i 0 < a + suc n = are.low (suc i) (omega (arith, low)) in omega (arith, under);
      lie = λ i low. are.lie (suc i) (omega (arith, low));
      all = λ u from low same. let there = are.all u (omega (arith, from)) (omega (arith, low)) same in later_has t u there.at_ ts (omega (arith, from, first)) there.below there.is;
    } in
    ap (λ u. f u ∷ rest) (sym first) ∙ ap (λ ps. f t ∷ ps) (law ts more)
found_step f k a n ts rest false e are law =
    law ts (record {
      rising = are.rising;
      from = λ i low.
          let least = are.from i low in
          let past = lt_of_le-ne least (λ same. let yes = eq-eqb (f a).subchunk k (ap (λ t. (f t).subchunk) same ∙ are.lie i low) in cc) in
          omega (arith, past);
      low = λ i low. let under = are.low i low in omega (arith, under);
      lie = are.lie;
      all = λ t from low same. are.all t (omega (arith, from)) (omega (arith, low)) same;
    })

places_found : (f : ℕ → AskedPlace) (k a n : ℕ) (ts : List ℕ) → AreFound f k a n ts → places_in k (map f (range_with_len a n)) ≡ map f ts
places_found f k a zero [] are = refl
places_found f k a zero (t ∷ ts) are = let least = are.from 0 (omega arith) in let under = are.low 0 (omega arith) in absurd (omega (arith, least, under))
places_found f k a (suc n) ts are = found_step f k a n ts (places_in k (map f (range_with_len (a + 1) n))) ((f a).subchunk == k) refl are (λ us more. places_found f k (a + 1) n us more)

-- ---- what of a box lies in one subchunk

positions_back : (shape subchunk numbers ts : List ℕ) → positions (map (asked_place shape subchunk numbers) ts) ≡ ts
positions_back shape subchunk numbers [] = refl
positions_back shape subchunk numbers (t ∷ ts) = ap (λ us. t ∷ us) (positions_back shape subchunk numbers ts)

insides_back : (shape subchunk numbers ts ns : List ℕ) → length ns ≡ length ts → ((i : ℕ) → i < length ts → inside_of shape subchunk (get_or numbers (get_or ts i 0) 0) ≡ get_or ns i 0) → insides (map (asked_place shape subchunk numbers) ts) ≡ ns
insides_back shape subchunk numbers [] [] many law = refl
insides_back shape subchunk numbers [] (n ∷ ns) many law = absurd (omega (arith, many))
insides_back shape subchunk numbers (t ∷ ts) [] many law = absurd (omega (arith, many))
insides_back shape subchunk numbers (t ∷ ts) (n ∷ ns) many law =
    ap (λ m. m ∷ insides (map (asked_place shape subchunk numbers) ts)) (law 0 (omega arith)) ∙ ap (λ ms. n ∷ ms) (insides_back shape subchunk numbers ts ns (omega (arith, many)) (λ i low. law (suc i) (omega (arith, low))))

-- the places that are asked of a shard in one of its subchunks
abbrev pub group_at : AskedShard → ℕ → List AskedPlace
group_at s k = places_in k (asked_places s.shape s.subchunk s.numbers)

-- a box that is asked of a shard
abbrev pub box_asked : Chain → Elements → List ℕ → List ℕ → List ℕ → List Pair → Region → AskedShard
box_asked inner elements shape subchunk value pairs region =
    record { inner = inner; elements = elements; shape = shape; subchunk = subchunk; value = value; pairs = pairs; numbers = numbers_of shape region }

module _ (s : AskedShard) (region : Region) (cut : BoxCut) (n : ℕ) (boxed : s.numbers ≡ numbers_of s.shape region) (out : IsCutOut s.shape s.subchunk region n cut) where
  abbrev ts : List ℕ
  ts = numbers_of region.shape (region_of cut.target)

  abbrev ns : List ℕ
  ns = numbers_of cut.inside.shape.items (region_of cut.inside.region)

  abbrev k : ℕ
  k = cut.inside.number

  stand : StandIn (cut_places s.shape s.subchunk s.numbers) ts ns k
  stand = subst (λ (ms : List ℕ). StandIn (cut_places s.shape s.subchunk ms) ts ns k) (sym boxed) (subst (λ (m : ℕ). StandIn (cut_places s.shape s.subchunk (numbers_of s.shape region)) ts ns m) (sym out.number) out.stand)

  some : 0 < length ts
  some =
      let places = out.some in
      let size = numbers_many cut.inside.shape.items (region_of cut.inside.region) cut.inside.region.same in
      let many = stand.many in
      omega (arith, places, size, many)

  group_is : group_at s k ≡ map (asked_place s.shape s.subchunk s.numbers) ts
  group_is =
      places_found (asked_place s.shape s.subchunk s.numbers) k 0 (length s.numbers) ts (record {
        rising = stand.rising;
        from = λ i low. omega arith;
        low = λ i low. let under = stand.low i low in omega (arith, under);
        lie = stand.part;
        all = λ t from low same. stand.all t (omega (arith, low)) same;
      })

  -- where its places stand, and which they are
  pub cut_group : (lengths : List ℕ) → lengths ≡ region.shape → IsCutGroup lengths cut (group_at s k)
  cut_group lengths is = record {
    positions_are = ap positions group_is ∙ (positions_back s.shape s.subchunk s.numbers ts ∙ ap (λ (l : List ℕ). numbers_of l (region_of cut.target)) (sym is));
    insides_are = ap insides group_is ∙ insides_back s.shape s.subchunk s.numbers ts ns stand.many stand.place;
  }

  pub cut_whole : (cells : List Cell) → length cells ≡ length s.numbers → k < length s.pairs → IsWholeGroup s cells k (group_at s k)
  cut_whole cells many below = record {
    many = many;
    below = below;
    met = record { at_ = get_or ts 0 0; below = stand.low 0 some; is = stand.part 0 some };
    all = refl;
  }

  -- it is one of the subchunks that are met
  pub cut_below : (met : List ℕ) (j : ℕ) → length s.pairs ≡ length (parts_of s.shape s.subchunk) → AreMet s.shape s.subchunk s.numbers met → j < length met → get_or met j 0 ≡ n → k < length s.pairs
  cut_below met j many are low here = let below = are.below j low in let number = out.number in omega (arith, many, below, here, number)

  -- its slice alone is given for it
  pub cut_given : (total : ℕ) (met : List ℕ) (before now after j : ℕ) → IsAskable s → AreMet s.shape s.subchunk s.numbers met → j < length met → get_or met j 0 ≡ n → GivenBefore s total met before now j
      → after ≤ now + slice_length total (get_or s.pairs k absent_pair) → GivenBefore s total met before after (j + 1)
  cut_given total met before now after j can are low here was given = given_next s total met ts ns k before now after j can are stand some low (here ∙ sym out.number) was given

  -- what is stored of it is the same where the source holds the same as before
  pub cut_before : (exact : Bool) (one other : Option (List ℕ)) (cells : List Cell) (result : Result SliceChange CodecError) → one ≡ other
      → UpdatesGroup (stored_in s.inner exact s.elements other s.pairs) (given_group cut.inside.shape.items k (group_at s k) cells) result
      → UpdatesGroup (stored_in s.inner exact s.elements one s.pairs) (given_group (part_shape s.shape s.subchunk k) k (group_at s k) cells) result
  cut_before exact one other cells result same updates =
      subst (λ (es : List ℕ). UpdatesGroup (stored_in s.inner exact s.elements one s.pairs) (given_group es k (group_at s k) cells) result) (out.edges ∙ ap (part_shape s.shape s.subchunk) (sym out.number))
      (subst (λ (o : Option (List ℕ)). UpdatesGroup (stored_in s.inner exact s.elements o s.pairs) (given_group cut.inside.shape.items k (group_at s k) cells) result) (sym same) updates)

-- what is put at them is what is put at the box there
pub group_cut : (fill : Cell) (lengths : List ℕ) (cut : BoxCut) (group : List AskedPlace) (cells before : List Cell) → IsCutGroup lengths cut group
    → put (numbers_of cut.inside.shape.items (region_of cut.inside.region)) (gather fill cells (numbers_of lengths (region_of cut.target))) before ≡ group_put fill group cells before
group_cut fill lengths cut group cells before is =
    ap (λ ns. put (numbers_of cut.inside.shape.items (region_of cut.inside.region)) (gather fill cells ns) before) (sym is.positions_are) ∙ ap (λ ns. put ns (gather fill cells (positions group)) before) (sym is.insides_are)

-- ---- several subchunks

-- the first of the subchunks were updated
pub record BoxUpdated (s : AskedShard) (exact : Bool) (cells : List Cell) (met : List ℕ) (changes : List Change) (j : ℕ) : Type 0 where
  pub are : AreUpdated (stored_as s exact) (put_as s cells) changes
  pub many : length changes ≡ j
  pub within : j ≤ length met
  pub numbers : (i : ℕ) → i < j → number_at changes i ≡ get_or met i 0

pub none_updated : (s : AskedShard) (exact : Bool) (cells : List Cell) (met : List ℕ) → BoxUpdated s exact cells met [] 0
none_updated s exact cells met = record { are = tt; many = refl; within = omega arith; numbers = λ i low. absurd (omega (arith, low)) }

-- one subchunk more
pub box_updated : (s : AskedShard) (exact : Bool) (cells : List Cell) (met : List ℕ) (changes : List Change) (change : Change) (j k : ℕ) → IsWholeGroup s cells k (group_at s k) → j < length met → get_or met j 0 ≡ k → BoxUpdated s exact cells met changes j
    → IsGroupUpdated (stored_as s exact) (given_group (part_shape s.shape s.subchunk k) k (group_at s k) cells) change → BoxUpdated s exact cells met (changes ++ change ∷ []) (j + 1)
box_updated s exact cells met changes change j k whole below here so_far is =
    let long = length-append changes (change ∷ []) in
    let many = so_far.many in
    record {
      are = are_more (stored_as s exact) (put_as s cells) changes change so_far.are (part_updated s exact cells k (group_at s k) whole change is);
      many = omega (arith, long, many);
      within = omega (arith, below);
      numbers = λ i low.
          elim (cases_lt i j) [
            | inl before ↦ number_front changes change i (omega (arith, before, many)) ∙ so_far.numbers i before
            | inr past ↦
                let last : length changes + 0 ≡ i = omega (arith, past, low, many) in
                let now : i ≡ j = omega (arith, past, low) in
                ap (number_at (changes ++ change ∷ [])) (sym last) ∙ (number_last changes change ∙ (is.number ∙ (sym here ∙ ap (λ m. get_or met m 0) (sym now))))
          ];
    }

has_at : (k i : ℕ) (changes : List Change) → i < length changes → number_at changes i ≡ k → HasChange k changes
has_at k i [] low is = absurd (omega (arith, low))
has_at k zero (change ∷ changes) low is = inl is
has_at k (suc i) (change ∷ changes) low is = inr (has_at k i changes (omega (arith, low)) is)

-- all of them
pub all_updated : (s : AskedShard) (exact : Bool) (cells : List Cell) (met : List ℕ) (changes : List Change) (j : ℕ) → AreMet s.shape s.subchunk s.numbers met → length met ≤ j → BoxUpdated s exact cells met changes j → AreChanged (stored_as s exact) (put_as s cells) changes
all_updated s exact cells met changes j are past so_far =
    let many = so_far.many in
    let within = so_far.within in
    record {
      are = so_far.are;
      once = λ i h less low.
          let one = so_far.numbers i (omega (arith, less, low, many)) in
          let two = so_far.numbers h (omega (arith, low, many)) in
          let rise = are.rising i h less (omega (arith, low, many, within)) in
          omega (arith, one, two, rise);
      all = λ t low.
          let has = are.all t low in
          let below = has.below in
          has_at (subchunk_of s.shape s.subchunk (get_or s.numbers t 0)) has.at_ changes (omega (arith, below, many, past)) (so_far.numbers has.at_ (omega (arith, below, past)) ∙ has.is);
    }
