-- How many bytes were given for the subchunks of a shard that were read so far.
use Rattle.std.proofs.Common.{◌≡◌, ◌∙◌, ℕ, zero, suc, ◌+◌, ◌-◌, ◌<◌, ◌≤◌, List, [], ◌∷◌, ◌++◌, length, get_or, ap, sym, subst, drop, arith, Bool, true, if◌then◌else◌, ◌==◌, sum_by, length-append}
use Rattle.std.specs.List.{range_with_len}
use Rattle.std.specs.List.Sorted.{IsNonDecreasingBy}
use Rattle.std.proofs.Math.Arith.{lt_of_le-ne}
use Rattle.std.proofs.lemmas.Bool.{eq-eqb}
use Rattle.std.proofs.Math.Seq.{drop-append_seam}
use Rattle.std.proofs.lemmas.List.{get_or-append-add}
use Rattle.std.proofs.lemmas.List.Folds.{list_any_at}
use Rattle.std.proofs.lemmas.List.Sorted.{IsNonDecreasingBy-drop}
use Rattle.std.proofs.lemmas.List.Sums.{sum_by-cons}
use Rattle.zarr_codecs_meaning.specs.Chains.{Chain}
use Rattle.zarr_codecs_meaning.specs.Encoding.{Pair, absent_pair}
use Rattle.zarr_codecs_meaning.specs.Types.{Elements}
use Rattle.zarr_codecs_meaning.proofs.Lists.{Each}
use Rattle.zarr_sharding_places.specs.Groups.{StartsAnother, no_place}
use Rattle.zarr_sharding_places.specs.Locating.{subchunk_of}
use Rattle.zarr_sharding_places.specs.declared.locating.AskedPlace.{AskedPlace}
use Rattle.zarr_codecs_traits.specs.ReadBytes.{slice_length}
use Rattle.zarr_sharding_codec.specs.BytesMet.{bytes_met, is_met}
use Rattle.zarr_sharding_codec.proofs.GroupsRead.{AskedShard, IsAskable, IsAsked, subchunk_below}
use Rattle.zarr_sharding_codec.proofs.SoFarRead.{pair_at}

-- ---- sums

sum_more : (f : ℕ → ℕ) (a n : ℕ) → sum_by f (range_with_len a (suc n)) ≡ sum_by f (range_with_len a n) + f (a + n)
sum_more f a zero =
    let first = sum_by-cons f a [] in
    let e : a ≡ a + 0 = omega arith in
    let same : f a ≡ f (a + 0) = ap f e in
    omega (arith, first, same)
sum_more f a (suc n) =
    let here = sum_by-cons f a (range_with_len (a + 1) (suc n)) in
    let there = sum_by-cons f a (range_with_len (a + 1) n) in
    let more = sum_more f (a + 1) n in
    let e : a + 1 + n ≡ a + suc n = omega arith in
    let same : f (a + 1 + n) ≡ f (a + suc n) = ap f e in
    omega (arith, here, there, more, same)

pub sum_next : (f : ℕ → ℕ) (n : ℕ) → sum_by f (range_with_len 0 (suc n)) ≡ sum_by f (range_with_len 0 n) + f n
sum_next f n =
    let more = sum_more f 0 n in
    let e : 0 + n ≡ n = omega arith in
    let same : f (0 + n) ≡ f n = ap f e in
    omega (arith, more, same)

sum_grows : (f : ℕ → ℕ) (n k : ℕ) → sum_by f (range_with_len 0 n) ≤ sum_by f (range_with_len 0 (n + k))
sum_grows f n zero =
    let e : n ≡ n + 0 = omega arith in
    let same : sum_by f (range_with_len 0 n) ≡ sum_by f (range_with_len 0 (n + 0)) = ap (λ m. sum_by f (range_with_len 0 m)) e in
    omega (arith, same)
sum_grows f n (suc k) =
    let e : suc (n + k) ≡ n + suc k = omega arith in
    let same : sum_by f (range_with_len 0 (suc (n + k))) ≡ sum_by f (range_with_len 0 (n + suc k)) = ap (λ m. sum_by f (range_with_len 0 m)) e in
    let less = sum_grows f n k in
    let more = sum_more f 0 (n + k) in
    omega (arith, same, less, more)

pub sum_least : (f : ℕ → ℕ) (n m : ℕ) → n ≤ m → sum_by f (range_with_len 0 n) ≤ sum_by f (range_with_len 0 m)
sum_least f n m less =
    let e : n + (m - n) ≡ m = omega (arith, less) in
    let grows = sum_grows f n (m - n) in
    let same : sum_by f (range_with_len 0 (n + (m - n))) ≡ sum_by f (range_with_len 0 m) = ap (λ k. sum_by f (range_with_len 0 k)) e in
    omega (arith, grows, same)

-- ---- subchunks in their order

-- how many bytes the slice of a subchunk has in a shard of so many bytes, if places are asked for that lie in it
abbrev pub met_length : AskedShard → ℕ → ℕ → ℕ
met_length s total n = if is_met s.shape s.subchunk s.numbers n then slice_length total (get_or s.pairs n absent_pair) else 0

-- how many bytes the slices have of the subchunks before this one that are met
abbrev pub met_before : AskedShard → ℕ → ℕ → ℕ
met_before s total bound = sum_by (λ n. met_length s total n) (range_with_len 0 bound)

-- no more bytes were given than the slices have of the subchunks before a bound, and the places that are left lie in later ones
pub record GivenSoFar (s : AskedShard) (total before now : ℕ) (rest : List AskedPlace) : Type 0 where
  pub bound : ℕ
  pub within : bound ≤ length s.pairs
  pub later : (i : ℕ) → i < length rest → bound ≤ (get_or rest i no_place).subchunk
  pub given : now ≤ before + met_before s total bound

-- the same shard, where no matter what it holds
abbrev pub shard_asked : Chain → Elements → List ℕ → List ℕ → List Pair → List ℕ → AskedShard
shard_asked inner elements shape subchunk pairs numbers =
    record { inner = inner; elements = elements; shape = shape; subchunk = subchunk; value = []; pairs = pairs; numbers = numbers }

pub none_given : (s : AskedShard) (total before : ℕ) (rest : List AskedPlace) → GivenSoFar s total before before rest
none_given s total before rest = record { bound = 0; within = omega arith; later = λ i below. omega arith; given = omega arith }

-- the subchunk of a place that is asked for is met
met_here : (s : AskedShard) (total : ℕ) (place : AskedPlace) → IsAsked s place → met_length s total place.subchunk ≡ slice_length total (get_or s.pairs place.subchunk absent_pair)
met_here s total place asked =
    let test = λ (number : ℕ). subchunk_of s.shape s.subchunk number == place.subchunk in
    let here : subchunk_of s.shape s.subchunk (get_or s.numbers place.position 0) ≡ place.subchunk = sym (ap (λ (p : AskedPlace). p.subchunk) asked.is) in
    let met : is_met s.shape s.subchunk s.numbers place.subchunk ≡ true = list_any_at test s.numbers place.position 0 asked.below (eq-eqb (subchunk_of s.shape s.subchunk (get_or s.numbers place.position 0)) place.subchunk here) in
    ap (λ (b : Bool). if b then slice_length total (get_or s.pairs place.subchunk absent_pair) else 0) met

-- the places that are left after a group are in order
pub rest_sorted : (rest group others : List AskedPlace) → group ++ others ≡ rest → IsNonDecreasingBy (λ (p : AskedPlace). p.subchunk) rest → IsNonDecreasingBy (λ (p : AskedPlace). p.subchunk) others
rest_sorted rest group others cut sorted =
    subst (λ (ps : List AskedPlace). IsNonDecreasingBy (λ (p : AskedPlace). p.subchunk) ps) (ap (drop (length group)) (sym cut) ∙ drop-append_seam group others)
    (IsNonDecreasingBy-drop (λ (p : AskedPlace). p.subchunk) (length group) rest sorted)

-- one group more, where the places that are left are in the order of their subchunks
pub given_more : (s : AskedShard) (total before now after : ℕ) (group others : List AskedPlace) → IsAskable s → Each (IsAsked s) group → 0 < length group → StartsAnother group others → IsNonDecreasingBy (λ (p : AskedPlace). p.subchunk) (group ++ others)
    → GivenSoFar s total before now (group ++ others) → after ≤ now + slice_length total (pair_at s group) → GivenSoFar s total before after others
given_more s total before now after [] others can asked some next sorted was given = absurd (omega (arith, some))
given_more s total before now after (place ∷ places) others can asked some next sorted was given =
    let group = place ∷ places in
    let all = group ++ others in
    let f : ℕ → ℕ = λ n. met_length s total n in
    let long = length-append group others in
    let here = place.subchunk in
    let low = was.later 0 (omega (arith, some, long)) in
    let below = subchunk_below s place can asked.0 in
    let so_far = was.given in
    let least : met_before s total was.bound ≤ met_before s total here = sum_least f was.bound here low in
    let more : met_before s total (suc here) ≡ met_before s total here + met_length s total here = sum_next f here in
    let met : met_length s total here ≡ slice_length total (pair_at s group) = met_here s total place asked.0 in
    record {
      bound = suc here;
      within = omega (arith, below);
      later = λ i under.
          let first : (get_or all (length group + 0) no_place).subchunk ≡ (get_or others 0 no_place).subchunk = ap (λ (p : AskedPlace). p.subchunk) (get_or-append-add group others 0 no_place) in
          let this : (get_or all (length group + i) no_place).subchunk ≡ (get_or others i no_place).subchunk = ap (λ (p : AskedPlace). p.subchunk) (get_or-append-add group others i no_place) in
          let one = sorted 0 (length group + 0) no_place (omega arith) (omega (arith, long, under)) in
          let two = sorted (length group + 0) (length group + i) no_place (omega arith) (omega (arith, long, under)) in
          let least : here ≤ (get_or others 0 no_place).subchunk = omega (arith, one, first) in
          let past = lt_of_le-ne least (λ same. next (omega (arith, under)) (sym same)) in
          omega (arith, past, two, first, this);
      given = omega (arith, given, so_far, least, more, met);
    }

-- all places were read
pub given_all : (s : AskedShard) (total before now : ℕ) (rest : List AskedPlace) → GivenSoFar s total before now rest → now ≤ before + bytes_met s.shape s.subchunk s.numbers s.pairs total
given_all s total before now rest was =
    let so_far = was.given in
    let least : met_before s total was.bound ≤ bytes_met s.shape s.subchunk s.numbers s.pairs total = sum_least (λ n. met_length s total n) was.bound (length s.pairs) was.within in
    omega (arith, so_far, least)

-- the places of a group that isn't read any further
pub given_refused : (s : AskedShard) (total before now after : ℕ) (group others : List AskedPlace) → IsAskable s → Each (IsAsked s) group → 0 < length group → StartsAnother group others → IsNonDecreasingBy (λ (p : AskedPlace). p.subchunk) (group ++ others)
    → GivenSoFar s total before now (group ++ others) → after ≤ now + slice_length total (pair_at s group) → after ≤ before + bytes_met s.shape s.subchunk s.numbers s.pairs total
given_refused s total before now after group others can asked some next sorted was given = given_all s total before after others (given_more s total before now after group others can asked some next sorted was given)
