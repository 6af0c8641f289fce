-- The places of a box, or of a list, that lie in one subchunk.
use Rattle.std.proofs.Common.{◌≡◌, ◌∙◌, ◌⊎◌, inl, inr, ℕ, ◌+◌, ◌-◌, ◌<◌, ◌≤◌, List, ◌++◌, length, get_or, ap, sym, refl, arith, subst, length-append, Vec, Global}
use Rattle.std.specs.Prelude.{nat_lt}
use Rattle.std.specs.List.{list_all}
use Rattle.std.specs.List.Sorted.{IsPermutation}
use Rattle.std.proofs.lemmas.Bool.{cases_lt}
use Rattle.std.proofs.lemmas.Grind.{in_moved}
use Rattle.std.proofs.lemmas.List.{get_or_append_left, get_or-append_right, get_or_default, get_or-map, length-map}
use Rattle.std.proofs.lemmas.List.FromFn.{get_or-map-range_with_len, length-map-range_with_len}
use Rattle.zarr_grids_boxes.specs.Boxes.{Region, product}
use Rattle.zarr_grids_boxes.specs.Subsets.{region_of}
use Rattle.zarr_codecs_meaning.proofs.Lists.{Each}
use Rattle.zarr_codecs_meaning.proofs.Positions.{each_at}
use Rattle.zarr_codecs_traits.specs.Indexers.{in_box, listed, numbers_asked, numbers_of, shape_has}
use Rattle.zarr_codecs_traits.specs.declared.pieces.PiecePlaces.TheVariants as places
use Rattle.zarr_sharding_places.specs.Groups.{no_place}
use Rattle.zarr_sharding_places.specs.Groups as groups
use Rattle.zarr_sharding_places.specs.Locating.{asked_place, asked_places, part_shape}
use Rattle.zarr_sharding_places.specs.declared.locating.AskedPlace.{AskedPlace}
use Rattle.zarr_sharding_codec.specs.BoxReading.{AreMet, IsCutOut, StandIn, cut_places}
use Rattle.zarr_sharding_codec.specs.declared.box_reading.BoxCut.{BoxCut}
use Rattle.zarr_sharding_codec.specs.Pieces.{AskedPart, CanBeAsked, IsReadFor, asked_numbers, inside_at, part_array, positions_in, subchunk_at, subchunk_in}
use Rattle.zarr_sharding_codec.proofs.BoxInSubchunk.{numbers_many}
use Rattle.zarr_sharding_codec.proofs.GroupsRead.{IsAskable, IsAsked, StandsAt, insides, insides_below, positions, stands_at}
use Rattle.zarr_sharding_codec.proofs.PartFound.{shard_asked}
use Rattle.zarr_sharding_codec.proofs.SlicesRead.{IsOneOf}

-- ---- a box

-- the places of a box that lie in one of the first of the subchunks that it meets
abbrev pub BoxDone : AskedPart → List ℕ → ℕ → ℕ → Type 0
BoxDone part met j t = (i : ℕ) × (i < j) × (subchunk_at part t ≡ get_or met i 0)

module _ (part : AskedPart) (region : Region) (box : part.asked ≡ in_box region) where
  -- as the box stands in the subchunk
  box_stands : (k : ℕ) (cut : BoxCut) → IsCutOut part.array.shape (subchunk_in part.array.chain) region k cut
      → StandIn (cut_places part.array.shape (subchunk_in part.array.chain) (numbers_of part.array.shape region)) (numbers_of region.shape (region_of cut.target)) (numbers_of (part_array part.array k).shape (region_of cut.inside.region)) k
  box_stands k cut out =
      subst (λ (edges : List ℕ). StandIn (cut_places part.array.shape (subchunk_in part.array.chain) (numbers_of part.array.shape region)) (numbers_of region.shape (region_of cut.target)) (numbers_of edges (region_of cut.inside.region)) k) out.edges out.stand

  pub box_reads : (k : ℕ) (cut : BoxCut) → IsCutOut part.array.shape (subchunk_in part.array.chain) region k cut → IsReadFor part k (places.InBox cut.inside.region cut.target)
  box_reads k cut out =
      let stand = box_stands k cut out in
      let edges = (part_array part.array k).shape in
      let inside = region_of cut.inside.region in
      let target = region_of cut.target in
      let some = out.some in
      let count = numbers_many edges inside cut.inside.region.same in
      subst (λ asked. IsReadFor (record part { asked = asked }) k (places.InBox cut.inside.region cut.target)) (sym box) (record {
        asked = record { some = omega (arith, some, count); inside = ap (λ (e : List ℕ). shape_has e inside) (sym out.edges) ∙ out.inside };
        many = stand.many;
        low = stand.low;
        lies = stand.part;
        place = stand.place;
      })

  pub box_either : (met : List ℕ) (j k : ℕ) (cut : BoxCut) → get_or met j 0 ≡ k → IsCutOut part.array.shape (subchunk_in part.array.chain) region k cut
      → (t : ℕ) → t < length (asked_numbers part) → BoxDone part met (j + 1) t → BoxDone part met j t ⊎ IsOneOf part k (places.InBox cut.inside.region cut.target) t
  box_either met j k cut here out t low done = elim (cases_lt done.0 j) [
    | inl earlier ↦ inl (done.0, earlier, done.2)
    | inr late ↦
        let less = done.1 in
        let now : done.0 ≡ j = omega (arith, late, less) in
        let lies : subchunk_at part t ≡ k = done.2 ∙ (ap (λ i. get_or met i 0) now ∙ here) in
        let has = one_here k cut out t low lies in
        inr has
  ] where
    one_here : (k : ℕ) (cut : BoxCut) → IsCutOut part.array.shape (subchunk_in part.array.chain) region k cut → (t : ℕ) → t < length (asked_numbers part) → subchunk_at part t ≡ k → IsOneOf part k (places.InBox cut.inside.region cut.target) t
    one_here k cut out t low lies =
        let has = out.stand.all t (subst (λ asked. t < length (asked_numbers (record part { asked = asked }))) box low) (subst (λ asked. subchunk_at (record part { asked = asked }) t ≡ k) box lies) in
        record {
          lies = lies;
          position = has.at_;
          within = subst (λ asked. has.at_ < length (positions_in asked (places.InBox cut.inside.region cut.target))) (sym box) has.below;
          is = subst (λ asked. get_or (positions_in asked (places.InBox cut.inside.region cut.target)) has.at_ 0 ≡ t) (sym box) has.is;
        }

  -- each place lies in one of the subchunks that are met
  pub box_all : (met : List ℕ) (j : ℕ) → AreMet part.array.shape (subchunk_in part.array.chain) (numbers_of part.array.shape region) met → length met ≤ j → (t : ℕ) → t < length (asked_numbers part) → BoxDone part met j t
  box_all met j are past t low =
      let has = are.all t (subst (λ asked. t < length (asked_numbers (record part { asked = asked }))) box low) in
      let below = has.below in
      (has.at_, omega (arith, below, past), subst (λ asked. subchunk_at (record part { asked = asked }) t ≡ get_or met has.at_ 0) (sym box) (sym has.is))

-- ---- a list

-- the places that are among the first ones
abbrev pub ListDone : List AskedPlace → ℕ → Type 0
ListDone done t = (i : ℕ) × (i < length done) × ((get_or done i no_place).position ≡ t)

list_place : (part : AskedPart) (group : List AskedPlace) (ats : List ℕ) (i : ℕ) → ats ≡ positions group → i < length group → get_or ats i 0 ≡ (get_or group i no_place).position
list_place part group ats i ats_are low = ap (λ (ns : List ℕ). get_or ns i 0) ats_are ∙ get_or-map (λ (p : AskedPlace). p.position) group i no_place 0 low

module _ (part : AskedPart) (numbers : List ℕ) (list : part.asked ≡ listed numbers) where
  pub list_reads : (k : ℕ) (group : List AskedPlace) (ins ats : Vec ℕ Global) → CanBeAsked part → Each (IsAsked (shard_asked part)) group → groups.IsGroup group → 0 < length group → (get_or group 0 no_place).subchunk ≡ k
      → ins.items ≡ insides group → ats.items ≡ positions group → IsReadFor part k (places.Listed ins ats)
  list_reads k group ins ats can asked one some here ins_are ats_are =
      let s = shard_asked part in
      let askable : IsAskable s = record { cuts = can.cuts; many = can.many; below = can.below } in
      let edges = (part_array part.array k).shape in
      let ins_long : length ins.items ≡ length group = ap (λ (ns : List ℕ). length ns) ins_are ∙ length-map group (λ (p : AskedPlace). p.inside) in
      let ats_long : length ats.items ≡ length group = ap (λ (ns : List ℕ). length ns) ats_are ∙ length-map group (λ (p : AskedPlace). p.position) in
      let below = insides_below s group askable asked one in
      subst (λ asked. IsReadFor (record part { asked = asked }) k (places.Listed ins ats)) (sym list) (record {
        asked = record {
          some = omega (arith, some, ins_long);
          inside = ap (list_all (λ n. nat_lt n (product edges))) ins_are ∙ (ap (λ m. list_all (λ n. nat_lt n (product (part_shape s.shape s.subchunk m))) (insides group)) (sym here) ∙ below);
        };
        many = ins_long ∙ sym ats_long;
        low = λ i low. low_at group ats i asked ats_are (omega (arith, low, ats_long));
        lies = λ i low. lies_at k group ats i asked one here ats_are (omega (arith, low, ats_long));
        place = λ i low. place_at k group ins ats i asked ins_are ats_are (omega (arith, low, ats_long));
      }) where
        at_place : (group : List AskedPlace) (i : ℕ) → Each (IsAsked (shard_asked part)) group → i < length group → IsAsked (shard_asked part) (get_or group i no_place)
        at_place group i asked low = each_at (IsAsked (shard_asked part)) group i no_place asked low

        low_at : (group : List AskedPlace) (ats : Vec ℕ Global) (i : ℕ) → Each (IsAsked (shard_asked part)) group → ats.items ≡ positions group → i < length group → get_or ats.items i 0 < length (numbers_asked part.array.shape (listed numbers))
        low_at group ats i asked ats_are low =
            let at = list_place part group ats.items i ats_are low in
            let under : (get_or group i no_place).position < length (numbers_asked part.array.shape part.asked) = (at_place group i asked low).below in
            let same : length (numbers_asked part.array.shape part.asked) ≡ length numbers = ap (λ a. length (numbers_asked part.array.shape a)) list in
            omega (arith, at, under, same)

        lies_at : (k : ℕ) (group : List AskedPlace) (ats : Vec ℕ Global) (i : ℕ) → Each (IsAsked (shard_asked part)) group → groups.IsGroup group → (get_or group 0 no_place).subchunk ≡ k → ats.items ≡ positions group → i < length group
            → subchunk_at (record part { asked = listed numbers }) (get_or ats.items i 0) ≡ k
        lies_at k group ats i asked one here ats_are low =
            let is = (at_place group i asked low).is in
            let at = list_place part group ats.items i ats_are low in
            ap (λ t. subchunk_at (record part { asked = listed numbers }) t) at
            ∙ (ap (λ a. subchunk_at (record part { asked = a }) (get_or group i no_place).position) (sym list)
            ∙ (sym (ap (λ (p : AskedPlace). p.subchunk) is) ∙ (one i low ∙ here)))

        place_at : (k : ℕ) (group : List AskedPlace) (ins ats : Vec ℕ Global) (i : ℕ) → Each (IsAsked (shard_asked part)) group → ins.items ≡ insides group → ats.items ≡ positions group → i < length group
            → inside_at (record part { asked = listed numbers }) (get_or ats.items i 0) ≡ get_or ins.items i 0
        place_at k group ins ats i asked ins_are ats_are low =
            let is = (at_place group i asked low).is in
            let at = list_place part group ats.items i ats_are low in
            ap (λ t. inside_at (record part { asked = listed numbers }) t) at
            ∙ (ap (λ a. inside_at (record part { asked = a }) (get_or group i no_place).position) (sym list)
            ∙ (sym (ap (λ (p : AskedPlace). p.inside) is)
            ∙ sym (ap (λ (ns : List ℕ). get_or ns i 0) ins_are ∙ get_or-map (λ (p : AskedPlace). p.inside) group i no_place 0 low)))

  pub list_either : (k : ℕ) (done group : List AskedPlace) (ins ats : Vec ℕ Global) → Each (IsAsked (shard_asked part)) group → groups.IsGroup group → (get_or group 0 no_place).subchunk ≡ k → ats.items ≡ positions group
      → (t : ℕ) → t < length (asked_numbers part) → ListDone (done ++ group) t → ListDone done t ⊎ IsOneOf part k (places.Listed ins ats) t
  list_either k done group ins ats asked one here ats_are t low among = elim (cases_lt among.0 (length done)) [
    | inl earlier ↦ inl (among.0, earlier, ap (λ (p : AskedPlace). p.position) (sym (get_or_append_left done group no_place among.0 earlier)) ∙ among.2)
    | inr late ↦
        let under = among.1 in
        let long = length-append done group in
        inr (one_here (among.0 - length done) (omega (arith, late, under, long)) (ap (λ (p : AskedPlace). p.position) (sym (get_or-append_right done group (length done) among.0 no_place refl late)) ∙ among.2))
  ] where
    one_here : (i : ℕ) → i < length group → (get_or group i no_place).position ≡ t → IsOneOf part k (places.Listed ins ats) t
    one_here i inside is =
        let place = each_at (IsAsked (shard_asked part)) group i no_place asked inside in
        let long : length ats.items ≡ length group = ap (λ (ns : List ℕ). length ns) ats_are ∙ length-map group (λ (p : AskedPlace). p.position) in
        record {
          lies = ap (subchunk_at part) (sym is) ∙ (sym (ap (λ (p : AskedPlace). p.subchunk) place.is) ∙ (one i inside ∙ here));
          position = i;
          within = subst (λ a. i < length (positions_in a (places.Listed ins ats))) (sym list) (omega (arith, inside, long));
          is = subst (λ a. get_or (positions_in a (places.Listed ins ats)) i 0 ≡ t) (sym list) (list_place part group ats.items i ats_are inside ∙ is);
        }

  -- each place is one of the list's
  pub list_all_done : (all : List AskedPlace) → IsPermutation (asked_places part.array.shape (subchunk_in part.array.chain) (asked_numbers part)) all → (t : ℕ) → t < length (asked_numbers part) → ListDone all t
  list_all_done all moved t low =
      let ns = asked_numbers part in
      let first = asked_places part.array.shape (subchunk_in part.array.chain) ns in
      let f = asked_place part.array.shape (subchunk_in part.array.chain) ns in
      let count : length first ≡ length ns = length-map-range_with_len f 0 (length ns) in
      let here = λ (d : AskedPlace). get_or-map-range_with_len f 0 (length ns) t t d low (omega arith) in
      let stands = subst (λ ps. StandsAt ps (f t)) (sym moved.is) (stands_at (in_moved first moved.moves t (f t) moved.below (omega (arith, low, count)) (sym (here (f t))))) in
      (stands.at_, stands.below, ap (λ (p : AskedPlace). p.position) (get_or_default all stands.at_ no_place (f t) stands.below ∙ stands.is))
