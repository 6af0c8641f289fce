-- Which subchunks places lie in, told by the subchunks' numbers and by their places.
use Rattle.std.proofs.Common.{◌≡◌, ◌∙◌, ℕ, suc, ◌+◌, ◌<◌, List, [], ◌∷◌, length, get_or, ap, sym, refl, subst, arith, Bool, true, false, ◌||◌, ◌==◌, if◌then◌else◌}
use Rattle.std.specs.Prelude.{nat_lt, sum_by}
use Rattle.std.specs.List.{list_all, range_with_len}
use Rattle.std.proofs.lemmas.Bool.{and_parts, eq-eqb, eqb-true, lt-ltb, ltb-true}
use Rattle.std.proofs.lemmas.List.Sums.{sum_by-cons}
use Rattle.zarr_grids_boxes.specs.Boxes.{product}
use Rattle.zarr_codecs_meaning.specs.Encoding.{Pair, absent_pair}
use Rattle.zarr_codecs_meaning.specs.Fits.{can_cut}
use Rattle.zarr_codecs_meaning.specs.Places.{Part, parts_of, position_of}
use Rattle.zarr_codecs_meaning.proofs.Parts.{no_part}
use Rattle.zarr_codecs_meaning.proofs.PartsOnce.{number_in}
use Rattle.zarr_codecs_meaning.proofs.Positions.{among_at, position_found, position_read}
use Rattle.zarr_codecs_traits.specs.PartWriting.{is_met}
use Rattle.zarr_codecs_traits.specs.ReadBytes.{slice_length, slices_met}
use Rattle.zarr_sharding_places.specs.Locating.{inside_of, subchunk_of}
use Rattle.zarr_sharding_codec.specs.BytesMet as counted
use Rattle.zarr_sharding_codec.specs.BytesMet.{bytes_met}
use Rattle.zarr_sharding_codec.proofs.LocatedParts.{located_place}
use Rattle.zarr_sharding_codec.proofs.PutPieces.{place_tells, places_at}

-- ---- whether a place lies in a subchunk

both_ways : (one other : Bool) → (one ≡ true → other ≡ true) → (other ≡ true → one ≡ true) → one ≡ other
both_ways true other first second = sym (first refl)
both_ways false true first second = second refl
both_ways false false first second = refl

-- it does where the number of its subchunk is this one
pub place_met : (shape subchunk : List ℕ) (k n : ℕ) → can_cut shape subchunk ≡ true → k < length (parts_of shape subchunk) → n < product shape → nat_lt (position_of n (places_at shape subchunk k)) (length (places_at shape subchunk k)) ≡ (subchunk_of shape subchunk n == k)
place_met shape subchunk k n cuts there below =
    let places = places_at shape subchunk k in
    both_ways (nat_lt (position_of n places) (length places)) (subchunk_of shape subchunk n == k)
    (λ inside.
    let low : position_of n places < length places = ltb-true (position_of n places) (length places) inside in
    let here : number_in (parts_of shape subchunk) k (position_of n places) ≡ n = position_read n 0 places low in
    let tells = place_tells shape subchunk k (position_of n places) cuts (record { part = there; place = low }) in
    eq-eqb (subchunk_of shape subchunk n) k (ap (subchunk_of shape subchunk) (sym here) ∙ tells.part))
    (λ is.
    let same : subchunk_of shape subchunk n ≡ k = eqb-true (subchunk_of shape subchunk n) k is in
    let located = located_place shape subchunk n cuts below in
    let i = inside_of shape subchunk n in
    let in_part : i < length places = subst (λ (j : ℕ). i < length (places_at shape subchunk j)) same located.place in
    let here : get_or places i 0 ≡ n = subst (λ (j : ℕ). get_or (places_at shape subchunk j) i 0 ≡ n) same located.here in
    lt-ltb (position_of n places) (length places) (position_found n places (among_at places i n in_part here)))

-- so is it whether one of several places does
pub met_alike : (shape subchunk numbers : List ℕ) (k : ℕ) → can_cut shape subchunk ≡ true → k < length (parts_of shape subchunk) → list_all (λ n. nat_lt n (product shape)) numbers ≡ true → counted.is_met shape subchunk numbers k ≡ is_met numbers (get_or (parts_of shape subchunk) k no_part)
met_alike shape subchunk [] k cuts there below = refl
met_alike shape subchunk (n ∷ ns) k cuts there below =
    let both = and_parts (nat_lt n (product shape)) (list_all (λ m. nat_lt m (product shape)) ns) below in
    let part = get_or (parts_of shape subchunk) k no_part in
    ap (λ (b : Bool). b || counted.is_met shape subchunk ns k) (sym (place_met shape subchunk k n cuts there (ltb-true n (product shape) both.0)))
    ∙ ap (λ (b : Bool). nat_lt (position_of n part.places) (length part.places) || b) (met_alike shape subchunk ns k cuts there both.1)

-- ---- how many bytes their slices have

-- how many bytes a pair's slice has, if it is met
abbrev taken_of : ℕ → List ℕ → Part → Pair → ℕ
taken_of total numbers part pair = if is_met numbers part then slice_length total pair else 0

-- a sum by numbers is one by parts and pairs
sum_by_parts : (total : ℕ) (numbers : List ℕ) (parts : List Part) (pairs : List Pair) (count : ℕ → ℕ) (first : ℕ) → length pairs ≡ length parts → ((i : ℕ) → i < length pairs → count (first + i) ≡ taken_of total numbers (get_or parts i no_part) (get_or pairs i absent_pair))
    → sum_by count (range_with_len first (length pairs)) ≡ slices_met total numbers parts pairs
sum_by_parts total numbers [] [] count first many each = refl
sum_by_parts total numbers [] (pair ∷ pairs) count first many each = absurd (omega (arith, many))
sum_by_parts total numbers (part ∷ parts) [] count first many each = absurd (omega (arith, many))
sum_by_parts total numbers (part ∷ parts) (pair ∷ pairs) count first many each =
    let here : first ≡ first + 0 = omega arith in
    let next : (i : ℕ) → first + 1 + i ≡ first + suc i = λ i. omega arith in
    sum_by-cons count first (range_with_len (first + 1) (length pairs))
    ∙ (ap (λ n. n + sum_by count (range_with_len (first + 1) (length pairs))) (ap count here ∙ each 0 (omega arith))
    ∙ ap (λ n. taken_of total numbers part pair + n) (sum_by_parts total numbers parts pairs count (first + 1) (omega (arith, many)) (λ i low. ap count (next i) ∙ each (suc i) (omega (arith, low)))))

pub bytes_alike : (shape subchunk numbers : List ℕ) (pairs : List Pair) (total : ℕ) → can_cut shape subchunk ≡ true → length pairs ≡ length (parts_of shape subchunk) → list_all (λ n. nat_lt n (product shape)) numbers ≡ true
    → bytes_met shape subchunk numbers pairs total ≡ slices_met total numbers (parts_of shape subchunk) pairs
bytes_alike shape subchunk numbers pairs total cuts many below =
    let count : ℕ → ℕ = λ n. if counted.is_met shape subchunk numbers n then slice_length total (get_or pairs n absent_pair) else 0 in
    sum_by_parts total numbers (parts_of shape subchunk) pairs count 0 many (λ i low.
    let pair = get_or pairs i absent_pair in
    let start : 0 + i ≡ i = omega arith in
    ap count start ∙ ap (λ (b : Bool). if b then slice_length total pair else 0) (met_alike shape subchunk numbers i cuts (omega (arith, low, many)) below))
