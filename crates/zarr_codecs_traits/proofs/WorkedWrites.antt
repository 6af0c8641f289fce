-- What writes in part leave, on small examples.
use Rattle.std.proofs.Common.{◌≡◌, ◌∙◌, ℕ, zero, suc, ◌<◌, ◌^◌, ◌≤◌, ◌+◌, List, [], ◌∷◌, ◌++◌, length, get_or, replicate, ap, sym, subst, refl, inl, inr, arith, Option, None, Some, true, false, MatchOption}
use Rattle.std.specs.List.{list_all}
use Rattle.std.proofs.lemmas.Bool.{false≢true}
use Rattle.zarr_codecs_meaning.specs.Chains.Chain.{bytes}
use Rattle.zarr_codecs_meaning.specs.Decoding.{is_absent}
use Rattle.zarr_codecs_meaning.specs.Encoding.{absent_pair, byte_cells, slice_bytes}
use Rattle.zarr_codecs_meaning.specs.Places.{Part, gather, parts_of}
use Rattle.zarr_codecs_meaning.specs.Types.{Cell, is_fill, of_bytes, uint8, zero_filled}
use Rattle.zarr_codecs_meaning.proofs.Lists.{some_same}
use Rattle.zarr_sharding_changes.specs.Changes.{Change, appended}
use Rattle.zarr_sharding_changes.specs.Compactions.{compacted_to, nothing_to_gain}
use Rattle.zarr_sharding_changes.specs.HeldShards.{HeldShard, held_after, held_shard}
use Rattle.zarr_sharding_changes.specs.WorkedCompactions.{shard_of_twos}
use Rattle.zarr_sharding_changes.specs.WorkedGapless.{first_two, first_two_and_gap}
use Rattle.zarr_codecs_traits.specs.PartWriting.{AreMet, IsNewSlice, NewSlicesMade, PartsRefused, PassesLength, WholeRefused, after_write, is_met, no_part, number_at, part_at}
use Rattle.zarr_codecs_traits.specs.ShardWrites.{Appends}
use Rattle.zarr_codecs_traits.specs.WorkedWrites.{shard_refusing_all}

-- the two subchunks, the cells, and the change of the first subchunk
abbrev twos : List Part
twos = parts_of (4 ∷ []) (2 ∷ [])

abbrev cells : List Cell
cells = byte_cells (1 ∷ 5 ∷ 0 ∷ 0 ∷ [])

abbrev changes : List Change
changes = (0, Some (1 ∷ 5 ∷ [])) ∷ []

-- what holds of the first holds of each, where there is one
only : (P : ℕ → Type 0) (i : ℕ) → i < 1 → P 0 → P i
only P zero low h = h
only P (suc i) low h = absurd (omega (arith, low))

none_after : (i j : ℕ) → i < j → j < 1 → number_at changes i < number_at changes j
none_after i j less low = absurd (omega (arith, less, low))

-- no other subchunk is met
only_met : (k : ℕ) → k < 2 → is_met (1 ∷ []) (get_or twos k no_part) ≡ true → (i : ℕ) × (i < 1) × (number_at changes i ≡ k)
only_met zero low met = (0, omega arith, refl)
only_met (suc zero) low met = absurd (false≢true met)
only_met (suc (suc k)) low met = absurd (omega (arith, low))

changes_met : AreMet (1 ∷ []) twos changes
changes_met = record {
  below = λ i low. only (λ k. number_at changes k < 2) i low (omega arith);
  met = λ i low. only (λ k. is_met (1 ∷ []) (part_at twos changes k) ≡ true) i low refl;
  rising = none_after;
  all = only_met;
}

-- the slice of a change was made of its subchunk's cells
abbrev MadeAt : ℕ → Type 0
MadeAt i =
    let fill = of_bytes (0 ∷ []) in
    let piece = gather fill cells (part_at twos changes i).places in
    MatchOption (get_or changes i (0, None)).1 (is_fill fill piece ≡ true) (λ slice. (is_fill fill piece ≡ false) × IsNewSlice (bytes None) (zero_filled uint8) (part_at twos changes i).shape piece slice)

slices_made : NewSlicesMade (IsNewSlice (bytes None) (zero_filled uint8)) (of_bytes (0 ∷ [])) cells twos changes
slices_made = λ i low. only MadeAt i low (refl, record { made = refl; sized = refl; gapless = tt })

pub slice_appended : Appends shard_of_twos (zero_filled uint8) (4 ∷ []) (after_write (1 ∷ []) (Some first_two) (byte_cells (1 ∷ 5 ∷ 0 ∷ 0 ∷ []))) (Some ((1 ∷ 2 ∷ 1 ∷ 5 ∷ []) ++ (2 ∷ 0 ∷ 0 ∷ 0 ∷ 0 ∷ 0 ∷ 0 ∷ 0 ∷ 2 ∷ 0 ∷ 0 ∷ 0 ∷ 0 ∷ 0 ∷ 0 ∷ 0 ∷ []) ++ replicate 16 255))
slice_appended = λ _. (changes, record { met = changes_met; made = slices_made }, record { held = held_shard ((0, 2) ∷ absent_pair ∷ []) (1 ∷ 2 ∷ []); was = refl; is = (refl, refl) })

-- the data part that there was isn't the beginning of the new one
other_front : (held : HeldShard) (more : List ℕ) → Some (held_shard ((0, 2) ∷ absent_pair ∷ []) (1 ∷ 2 ∷ [])) ≡ Some held → 1 ∷ 5 ∷ [] ≡ held.content ++ more → ⊥
other_front held more was is =
    let front : held_shard ((0, 2) ∷ absent_pair ∷ []) (1 ∷ 2 ∷ []) ≡ held = some_same was in
    let second : get_or (held.content ++ more) 1 0 ≡ 2 = ap (λ (s : HeldShard). get_or (s.content ++ more) 1 0) (sym front) in
    let other : 5 ≡ get_or (held.content ++ more) 1 0 = ap (λ (l : List ℕ). get_or l 1 0) is in
    omega (arith, second, other)

pub repacked_not : Appends shard_of_twos (zero_filled uint8) (4 ∷ []) (after_write (1 ∷ []) (Some first_two) (byte_cells (1 ∷ 5 ∷ 0 ∷ 0 ∷ []))) (Some ((1 ∷ 5 ∷ []) ++ (0 ∷ 0 ∷ 0 ∷ 0 ∷ 0 ∷ 0 ∷ 0 ∷ 0 ∷ 2 ∷ 0 ∷ 0 ∷ 0 ∷ 0 ∷ 0 ∷ 0 ∷ 0 ∷ []) ++ replicate 16 255)) → ⊥
repacked_not h =
    let found = h refl in
    let last = found.2 in
    other_front last.held (appended found.0) last.was (ap (λ (s : HeldShard). s.content) (some_same last.is.1))

gained : (made : List ℕ) → compacted_to made ≡ nothing_to_gain → ⊥
gained made h = cc

-- compaction makes a slice without the gap of this one
pub gap_in_slice : IsNewSlice shard_of_twos (zero_filled uint8) (4 ∷ []) (byte_cells (1 ∷ 2 ∷ 0 ∷ 0 ∷ [])) first_two_and_gap → ⊥
gap_in_slice h = gained first_two (h.gapless refl).0

-- ---- why nothing is written

pub index_asked : PartsRefused shard_refusing_all (zero_filled uint8) (4 ∷ []) (after_write (1 ∷ []) (Some first_two) (byte_cells (1 ∷ 5 ∷ 0 ∷ 0 ∷ [])))
index_asked = inr (
  held_shard ((0, 2) ∷ absent_pair ∷ []) (1 ∷ 2 ∷ []),
  changes,
  refl,
  record { met = changes_met; made = slices_made },
  refl,
  inr ((2 ∷ 0 ∷ 0 ∷ 0 ∷ 0 ∷ 0 ∷ 0 ∷ 0 ∷ 2 ∷ 0 ∷ 0 ∷ 0 ∷ 0 ∷ 0 ∷ 0 ∷ 0 ∷ []) ++ replicate 16 255, refl, refl),
)

-- where the second subchunk isn't met, a change is of the first
first_only : (numbers : List ℕ) (k : ℕ) → is_met numbers (get_or twos 1 no_part) ≡ false → k < 2 → is_met numbers (get_or twos k no_part) ≡ true → k ≡ 0
first_only numbers zero second low met = refl
first_only numbers (suc zero) second low met = absurd (false≢true (sym second ∙ met))
first_only numbers (suc (suc k)) second low met = absurd (omega (arith, low))

-- and there is one
one_change : (numbers : List ℕ) (made : List Change) → is_met numbers (get_or twos 0 no_part) ≡ true → is_met numbers (get_or twos 1 no_part) ≡ false → AreMet numbers twos made → (slice : Option (List ℕ)) × (made ≡ (0, slice) ∷ [])
one_change numbers [] first second met = let found = met.all 0 (omega arith) first in let low = found.1 in absurd (omega (arith, low))
one_change numbers (change ∷ []) first second met =
    let is = first_only numbers change.0 second (met.below 0 (omega arith)) (met.met 0 (omega arith)) in
    (change.1, ap (λ (n : ℕ). (n, change.1) ∷ []) is)
one_change numbers (change ∷ other ∷ more) first second met =
    let one = first_only numbers change.0 second (met.below 0 (omega arith)) (met.met 0 (omega arith)) in
    let two = first_only numbers other.0 second (met.below 1 (omega arith)) (met.met 1 (omega arith)) in
    let less = met.rising 0 1 (omega arith) (omega arith) in
    absurd (omega (arith, one, two, less))

-- a subchunk that is all fill has no slice
no_slice : (slice : Option (List ℕ)) (made : List ℕ → Type 0) → MatchOption slice (true ≡ true) (λ found. (true ≡ false) × made found) → slice ≡ None
no_slice None made h = refl
no_slice (Some found) made h = absurd (false≢true (sym h.0))

-- no subchunk is left then
none_present : (held : HeldShard) (made : List Change) → Some (held_shard ((0, 2) ∷ absent_pair ∷ []) (1 ∷ 2 ∷ [])) ≡ Some held → made ≡ (0, None) ∷ [] → list_all is_absent (held_after 0 made held).pairs ≡ true
none_present held made was is =
    ap (λ (cs : List Change). list_all is_absent (held_after 0 cs held).pairs) is ∙ ap (λ (s : HeldShard). list_all is_absent (held_after 0 ((0, None) ∷ []) s).pairs) (sym (some_same was))

pub no_index : PartsRefused shard_refusing_all (zero_filled uint8) (4 ∷ []) (after_write (0 ∷ 1 ∷ []) (Some first_two) (byte_cells (0 ∷ 0 ∷ 0 ∷ 0 ∷ []))) → ⊥
no_index (inl (inl first)) = first.2
no_index (inl (inr (inl second))) = second.2
no_index (inl (inr (inr none))) = none
no_index (inr h) =
    let one = one_change (0 ∷ 1 ∷ []) h.1 refl refl h.3.met in
    let made = subst (λ (cs : List Change). NewSlicesMade (IsNewSlice (bytes None) (zero_filled uint8)) (of_bytes (0 ∷ [])) (byte_cells (0 ∷ 0 ∷ 0 ∷ 0 ∷ [])) twos cs) one.1 h.3.made in
    let none = no_slice one.0 (IsNewSlice (bytes None) (zero_filled uint8) (2 ∷ []) (byte_cells (0 ∷ 0 ∷ []))) (made 0 (omega arith)) in
    absurd (false≢true (sym h.4 ∙ none_present h.0 h.1 h.2 (one.1 ∙ ap (λ (slice : Option (List ℕ)). (0, slice) ∷ []) none)))

pub no_whole : WholeRefused shard_refusing_all (zero_filled uint8) (4 ∷ []) (byte_cells (0 ∷ 0 ∷ 0 ∷ 0 ∷ [])) → ⊥
no_whole h = false≢true (sym (h.0 refl))

pub whole_asked : WholeRefused shard_refusing_all (zero_filled uint8) (4 ∷ []) (byte_cells (1 ∷ 5 ∷ 0 ∷ 0 ∷ []))
whole_asked = (
  λ _. refl,
  inr (
    Some (1 ∷ 5 ∷ []) ∷ None ∷ [],
    ((refl, refl), (refl, tt)),
    inr ((0 ∷ 0 ∷ 0 ∷ 0 ∷ 0 ∷ 0 ∷ 0 ∷ 0 ∷ 2 ∷ 0 ∷ 0 ∷ 0 ∷ 0 ∷ 0 ∷ 0 ∷ 0 ∷ []) ++ replicate 16 255, refl, refl),
  ),
)

-- the slice of the elements 1 and 5 has two bytes
two_bytes : (slice : Option (List ℕ)) → MatchOption slice (false ≡ true) (λ found. (false ≡ false) × IsNewSlice (bytes None) (zero_filled uint8) (2 ∷ []) (byte_cells (1 ∷ 5 ∷ [])) found) → length (appended ((0, slice) ∷ [])) ≡ 2
two_bytes None h = absurd (false≢true h)
two_bytes (Some found) h = ap (λ (made : Option (List ℕ)). length (slice_bytes made ++ [])) (sym h.1.made)

pub room_left : PassesLength shard_of_twos (zero_filled uint8) (4 ∷ []) (after_write (1 ∷ []) (Some first_two) (byte_cells (1 ∷ 5 ∷ 0 ∷ 0 ∷ []))) → ⊥
room_left (inl long) = let total : length first_two ≡ 34 = refl in omega (arith, long, total)
room_left (inr h) =
    let one = one_change (1 ∷ []) h.0 refl refl h.1.met in
    let made = subst (λ (cs : List Change). NewSlicesMade (IsNewSlice (bytes None) (zero_filled uint8)) (of_bytes (0 ∷ [])) cells twos cs) one.1 h.1.made in
    let count : length (appended h.0) ≡ 2 = ap (λ (cs : List Change). length (appended cs)) one.1 ∙ two_bytes one.0 (made 0 (omega arith)) in
    let total : length first_two ≡ 34 = refl in
    let long = h.2 in
    omega (arith, long, count, total)
