-- Places that are one whole subchunk, in its order.
use Rattle.std.proofs.Common.{◌≡◌, ◌∙◌, ℕ, zero, suc, ◌+◌, ◌<◌, ◌≤◌, List, [], ◌∷◌, ◌++◌, length, map, get_or, set, ap, sym, refl, subst, arith, Bool, true, Err, append_assoc, append-nil, length-append}
use Rattle.std.specs.Prelude.{nat_lt}
use Rattle.std.specs.List.{range_with_len}
use Rattle.std.specs.List.Sorted.{IsNonDecreasingBy}
use Rattle.std.proofs.lemmas.Bool.{ltb-true}
use Rattle.std.proofs.lemmas.List.{get_or-append-add}
use Rattle.std.proofs.lemmas.List.FromFn.{get_or-map-range_with_len, length-map-range_with_len}
use Rattle.std.proofs.lemmas.List.Sorted.{IsPermutation-refl}
use Rattle.zarr_grids_boxes.specs.Boxes.{product}
use Rattle.zarr_codecs_meaning.specs.Encoding.{absent_pair}
use Rattle.zarr_codecs_meaning.specs.Places.{gather}
use Rattle.zarr_codecs_meaning.specs.Types.{Cell}
use Rattle.zarr_codecs_meaning.proofs.Lists.{each_passes}
use Rattle.zarr_codecs_meaning.proofs.Parts.{no_part}
use Rattle.zarr_codecs_meaning.proofs.Positions.{each_at}
use Rattle.zarr_codecs_traits.specs.Indexers.{put}
use Rattle.zarr_codecs_arrays.specs.declared.error.CodecError.{CodecError}
use Rattle.zarr_sharding_changes.specs.Changes.{Change}
use Rattle.zarr_sharding_places.specs.Groups.{no_place}
use Rattle.zarr_sharding_places.specs.Locating.{asked_place, asked_places, inside_of, part_shape, subchunk_of}
use Rattle.zarr_sharding_places.specs.declared.locating.AskedPlace.{AskedPlace}
use Rattle.zarr_sharding_places.proofs.PartPlaces.{places_apart}
use Rattle.zarr_codecs_traits.specs.ReadBytes.{slice_length}
use Rattle.zarr_sharding_codec.specs.BytesMet.{bytes_met}
use Rattle.zarr_sharding_codec.specs.PartWriting.{AreChanged, IsGroupUpdated, AreSubchunk, PutsAll, UpdatesGroup, UpdatesSlices, given_group, insides, positions}
use Rattle.zarr_sharding_codec.proofs.NumberedParts.{part_count, part_some}
use Rattle.zarr_sharding_codec.proofs.GivenSoFar.{given_refused, none_given}
use Rattle.zarr_sharding_codec.proofs.GroupsRead.{AskedShard, IsAskable}
use Rattle.zarr_sharding_codec.proofs.LocatedParts.{located_place}
use Rattle.zarr_sharding_codec.proofs.SoFarWritten.{IsFront, IsWriting, front_asked, group_unwritten, nothing_cut, nothing_updated, number_of, put_as, stored_as, updated_all, updated_more}

-- ---- lists

set_here : {X : Type 0} (front : List X) (b x : X) (bs : List X) → set (front ++ b ∷ bs) (length front) x ≡ front ++ x ∷ bs
set_here [] b x bs = refl
set_here (y ∷ ys) b x bs = ap (λ zs. y ∷ zs) (set_here ys b x bs)

-- what is put at all places from one on is there afterwards
put_from : {X : Type 0} (xs before front : List X) (a : ℕ) → a ≡ length front → length before ≡ length xs → put (range_with_len a (length xs)) xs (front ++ before) ≡ front ++ xs
put_from [] [] front a is same = refl
put_from [] (b ∷ bs) front a is same = absurd (omega (arith, same))
put_from (x ∷ xs) [] front a is same = absurd (omega (arith, same))
put_from (x ∷ xs) (b ∷ bs) front a is same =
    let here : set (front ++ b ∷ bs) a x ≡ (front ++ x ∷ []) ++ bs = ap (λ n. set (front ++ b ∷ bs) n x) is ∙ (set_here front b x bs ∙ sym (append_assoc front (x ∷ []) bs)) in
    let long = length-append front (x ∷ []) in
    let next : a + 1 ≡ length (front ++ x ∷ []) = omega (arith, is, long) in
    ap (put (range_with_len (a + 1) (length xs)) xs) here ∙ (put_from xs bs (front ++ x ∷ []) (a + 1) next (omega (arith, same)) ∙ append_assoc front (x ∷ []) xs)

gathered_from : (fill : Cell) (xs front : List Cell) (a : ℕ) → a ≡ length front → gather fill (front ++ xs) (range_with_len a (length xs)) ≡ xs
gathered_from fill [] front a is = refl
gathered_from fill (x ∷ xs) front a is =
    let long = length-append front (x ∷ []) in
    let next : a + 1 ≡ length (front ++ x ∷ []) = omega (arith, is, long) in
    let start : a ≡ length front + 0 = omega (arith, is) in
    let here : get_or (front ++ x ∷ xs) a fill ≡ x = ap (λ n. get_or (front ++ x ∷ xs) n fill) start ∙ get_or-append-add front (x ∷ xs) 0 fill in
    ap (λ c. c ∷ gather fill (front ++ x ∷ xs) (range_with_len (a + 1) (length xs))) here
    ∙ ap (λ cs. x ∷ cs) (ap (λ (all : List Cell). gather fill all (range_with_len (a + 1) (length xs))) (sym (append_assoc front (x ∷ []) xs)) ∙ gathered_from fill xs (front ++ x ∷ []) (a + 1) next)

maps_back : (f : ℕ → AskedPlace) (g : AskedPlace → ℕ) (a count : ℕ) → ((j : ℕ) → a ≤ j → j < a + count → g (f j) ≡ j) → map g (map f (range_with_len a count)) ≡ range_with_len a count
maps_back f g a zero law = refl
maps_back f g a (suc count) law =
    ap (λ n. n ∷ map g (map f (range_with_len (a + 1) count))) (law a (omega arith) (omega arith)) ∙ ap (λ ns. a ∷ ns) (maps_back f g (a + 1) count (λ j low high. law j (omega (arith, low)) (omega (arith, high))))

-- ---- the places of a subchunk

-- the places that are asked of a shard, in their order
abbrev pub asked_of_shard : AskedShard → List AskedPlace
asked_of_shard s = asked_places s.shape s.subchunk s.numbers

module _ (s : AskedShard) (k : ℕ) (can : IsAskable s) (whole : AreSubchunk s.shape s.subchunk s.numbers k) where
  abbrev f : ℕ → AskedPlace
  f t = asked_place s.shape s.subchunk s.numbers t

  pub whole_count : length s.numbers ≡ product (part_shape s.shape s.subchunk k)
  whole_count = sym (ap (λ (ns : List ℕ). length ns) (whole.is no_part)) ∙ part_count s.shape s.subchunk k no_part can.cuts whole.below

  pub located : (t : ℕ) → t < length s.numbers → (subchunk_of s.shape s.subchunk (get_or s.numbers t 0) ≡ k) × (inside_of s.shape s.subchunk (get_or s.numbers t 0) ≡ t)
  located t low =
      let n = get_or s.numbers t 0 in
      let below = ltb-true n (product s.shape) (each_at (λ m. nat_lt m (product s.shape) ≡ true) s.numbers t 0 (each_passes (λ m. nat_lt m (product s.shape)) s.numbers can.below) low) in
      let found = located_place s.shape s.subchunk n can.cuts below in
      let is = whole.is no_part in
      let long = ap (λ (ns : List ℕ). length ns) is in
      places_apart s.shape s.subchunk (subchunk_of s.shape s.subchunk n) (inside_of s.shape s.subchunk n) k t can.cuts (record { part = found.part; place = found.place }) (record { part = whole.below; place = omega (arith, low, long) })
      (found.here ∙ sym (ap (λ (ns : List ℕ). get_or ns t 0) is))

  place_is : (i : ℕ) (d : AskedPlace) → i < length s.numbers → get_or (asked_of_shard s) i d ≡ f i
  place_is i d low = get_or-map-range_with_len f 0 (length s.numbers) i i d low (omega arith)

  places_many : length (asked_of_shard s) ≡ length s.numbers
  places_many = length-map-range_with_len f 0 (length s.numbers)

  subchunk_is : (i : ℕ) (d : AskedPlace) → i < length s.numbers → (get_or (asked_of_shard s) i d).subchunk ≡ k
  subchunk_is i d low = ap (λ (p : AskedPlace). p.subchunk) (place_is i d low) ∙ (located i low).0

  some : 0 < length s.numbers
  some = let count = whole_count in let one = part_some s.shape s.subchunk k can.cuts whole.below in omega (arith, count, one)

  pub whole_first : number_of (asked_of_shard s) ≡ k
  whole_first = subchunk_is 0 no_place some

  sorted : IsNonDecreasingBy (λ (place : AskedPlace). place.subchunk) (asked_of_shard s)
  sorted i j d less low =
      let many = places_many in
      let one = subchunk_is i d (omega (arith, less, low, many)) in
      let two = subchunk_is j d (omega (arith, low, many)) in
      omega (arith, one, two)

  front : IsFront (asked_of_shard s) (asked_of_shard s) (asked_of_shard s) []
  front = record {
    sorted = sorted;
    cut = nothing_cut (asked_of_shard s);
    all = append-nil (asked_of_shard s);
    some = let many = places_many in let any = some in omega (arith, many, any);
    one = λ m low. let many = places_many in subchunk_is m no_place (omega (arith, low, many)) ∙ sym whole_first;
    last = λ low. absurd (omega (arith, low));
  }

  -- no other slice is read
  pub whole_given : (total before after : ℕ) → after ≤ before + slice_length total (get_or s.pairs k absent_pair) → after ≤ before + bytes_met s.shape s.subchunk s.numbers s.pairs total
  whole_given total before after given =
      let all = append-nil (asked_of_shard s) in
      let writing : IsWriting s (map (λ n. s.elements.fill) s.numbers) (asked_of_shard s) = record { can = can; many = filled s.elements.fill s.numbers; moved = IsPermutation-refl (asked_of_shard s); stable = λ j. refl } in
      let asked = front_asked s true (map (λ n. s.elements.fill) s.numbers) (asked_of_shard s) (asked_of_shard s) (asked_of_shard s) [] writing front in
      given_refused s total before before after (asked_of_shard s) [] can asked front.some (λ low. absurd (omega (arith, low))) (subst (λ (ps : List AskedPlace). IsNonDecreasingBy (λ (place : AskedPlace). place.subchunk) ps) (sym all) sorted)
      (none_given s total before (asked_of_shard s ++ [])) (subst (λ n. after ≤ before + slice_length total (get_or s.pairs n absent_pair)) (sym whole_first) given) where
        filled : (fill : Cell) (ns : List ℕ) → length (map (λ n. fill) ns) ≡ length ns
        filled fill [] = refl
        filled fill (n ∷ ns) = ap suc (filled fill ns)

  module _ (exact : Bool) (cells : List Cell) (many : length cells ≡ length s.numbers) where
    writing : IsWriting s cells (asked_of_shard s)
    writing = record { can = can; many = many; moved = IsPermutation-refl (asked_of_shard s); stable = λ j. refl }

    -- what is put at all of its places is there afterwards
    pub whole_puts : PutsAll (part_shape s.shape s.subchunk k) s.elements.fill (asked_of_shard s) cells
    whole_puts before same =
        let count = whole_count in
        let numbers = ap (λ n. range_with_len 0 n) (sym many) in
        let one : insides (asked_of_shard s) ≡ range_with_len 0 (length cells) = maps_back f (λ p. p.inside) 0 (length s.numbers) (λ j low high. (located j (omega (arith, high))).1) ∙ numbers in
        let two : positions (asked_of_shard s) ≡ range_with_len 0 (length cells) = maps_back f (λ p. p.position) 0 (length s.numbers) (λ j low high. refl) ∙ numbers in
        ap (λ ns. put ns (gather s.elements.fill cells (positions (asked_of_shard s))) before) one
        ∙ (ap (λ ns. put (range_with_len 0 (length cells)) (gather s.elements.fill cells ns) before) two
        ∙ (ap (λ cs. put (range_with_len 0 (length cells)) cs before) (gathered_from s.elements.fill cells [] 0 refl) ∙ put_from cells before [] 0 refl (omega (arith, same, count, many))))

    pub whole_updated : (change : Change) → IsGroupUpdated (stored_as s exact) (given_group (part_shape s.shape s.subchunk k) k (asked_of_shard s) cells) change → AreChanged (stored_as s exact) (put_as s cells) (change ∷ [])
    whole_updated change is =
        let ps = asked_of_shard s in
        updated_all s exact cells ps [] (change ∷ []) writing
        (updated_more s exact cells ps ps ps [] [] change writing front (nothing_updated s exact cells ps) (subst (λ n. IsGroupUpdated (stored_as s exact) (given_group (part_shape s.shape s.subchunk n) n ps cells) change) (sym whole_first) is)) (omega arith)

    pub whole_unwritten : (e : CodecError) → UpdatesGroup (stored_as s exact) (given_group (part_shape s.shape s.subchunk k) k (asked_of_shard s) cells) (Err e) → UpdatesSlices (stored_as s exact) (put_as s cells) (Err e)
    whole_unwritten e why =
        let ps = asked_of_shard s in
        group_unwritten s exact cells ps ps ps [] writing front e (subst (λ n. UpdatesGroup (stored_as s exact) (given_group (part_shape s.shape s.subchunk n) n ps cells) (Err e)) (sym whole_first) why)
