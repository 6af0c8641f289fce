-- What a decoder knows of the shard that its source holds.
use Rattle.std.proofs.Common.{◌≡◌, ◌∙◌, ℕ, ◌+◌, ◌<◌, ◌≤◌, List, [], length, take, drop, ap, sym, refl, subst, arith, Bool, true, false, nat_le, if◌then◌else◌, Option, None, Some, option_map, option_and_then, unwrap_or, length-drop, length-take-le}
use Rattle.std.proofs.lemmas.Bool.{leb-false, leb-true}
use Rattle.zarr_codecs_meaning.specs.Chains.{Chain, Location}
use Rattle.zarr_codecs_meaning.specs.Decoding.{slice_at}
use Rattle.zarr_codecs_meaning.specs.Encoding.{Pair}
use Rattle.zarr_codecs_meaning.specs.Places.{index_shape}
use Rattle.zarr_codecs_meaning.proofs.Lists.{some_same}
use Rattle.zarr_codecs_traits.specs.Indexers.{Asked, numbers_asked}
use Rattle.zarr_codecs_traits.specs.Sources.{value_length}
use Rattle.zarr_codecs_traits.specs.declared.byte_range.ByteRange.{ByteRange}
use Rattle.zarr_sharding_codec.specs.BytesMet.{bytes_met}
use Rattle.zarr_sharding_codec.specs.Reading.{HasPairs}
use Rattle.zarr_sharding_partial.specs.Pairs.{counts, pairs_fetched, stored_pair, stored_slice, totals}
use Rattle.zarr_sharding_partial.specs.Parts.{slices_met}
use Rattle.zarr_sharding_partial.specs.Shards.{ShardOf}
use Rattle.zarr_sharding_index.specs.HeldIndex.{IsFetched, held_pairs}
use Rattle.zarr_sharding_index.specs.Present.{all_pairs}
use Rattle.zarr_sharding_index.specs.Views.{pair_of}
use Rattle.zarr_sharding_index.specs.declared.fetched_index.FetchedIndex.{FetchedIndex}

-- ---- what was fetched is kept

pub kept_totals : (index : Chain) (location : Location) (shape : List ℕ) (contents : Option (List ℕ)) (held : Option FetchedIndex) → IsFetched index location shape contents held → option_map length contents ≡ totals held
kept_totals index location shape None None h = refl
kept_totals index location shape None (Some found) h = elim h [ ]
kept_totals index location shape (Some value) None h = elim h [ ]
kept_totals index location shape (Some value) (Some found) h = ap Some (sym h.1)

pub kept_pairs : (index : Chain) (location : Location) (shape : List ℕ) (contents : Option (List ℕ)) (held : Option FetchedIndex) → IsFetched index location shape contents held → option_and_then (held_pairs index location shape) contents ≡ pairs_fetched held
kept_pairs index location shape None None h = refl
kept_pairs index location shape None (Some found) h = elim h [ ]
kept_pairs index location shape (Some value) None h = elim h [ ]
kept_pairs index location shape (Some value) (Some found) h = h.0.is

pub kept_counts : (count : ℕ) (held : Option FetchedIndex) → HasPairs count held → counts held ≡ option_map (λ (found : FetchedIndex). count) held
kept_counts count None h = refl
kept_counts count (Some found) h = ap Some h

-- ---- what is kept

pub record IsHeld (index : Chain) (location : Location) (shape : List ℕ) (contents : Option (List ℕ)) (found : FetchedIndex) : Type 0 where
  pub value : List ℕ
  pub is : contents ≡ Some value
  pub pairs : held_pairs index location shape value ≡ Some (all_pairs found.pairs)
  pub total : found.total ≡ length value

pub held_value : (index : Chain) (location : Location) (shape : List ℕ) (contents : Option (List ℕ)) (held : Option FetchedIndex) (found : FetchedIndex) → held ≡ Some found → option_map length contents ≡ totals held
    → option_and_then (held_pairs index location shape) contents ≡ pairs_fetched held → IsHeld index location shape contents found
held_value index location shape None held found is told opened = absurd (no_total (told ∙ ap totals is)) where
  no_total : None ≡ Some found.total → ⊥
  no_total h = cc
held_value index location shape (Some value) held found is told opened = record {
  value = value;
  is = refl;
  pairs = opened ∙ ap pairs_fetched is;
  total = some_same (sym (told ∙ ap totals is));
}

pub held_nothing : (contents : Option (List ℕ)) (held : Option FetchedIndex) → held ≡ None → option_map length contents ≡ totals held → contents ≡ None
held_nothing None held is told = refl
held_nothing (Some value) held is told = absurd (some_total (told ∙ ap totals is)) where
  some_total : Some (length value) ≡ None → ⊥
  some_total h = cc

pub held_count : (count : ℕ) (held : Option FetchedIndex) (found : FetchedIndex) → held ≡ Some found → counts held ≡ option_map (λ (found : FetchedIndex). count) held → length (all_pairs found.pairs) ≡ count
held_count count held found is many = some_same (sym (ap counts is) ∙ (many ∙ ap (option_map (λ (found : FetchedIndex). count)) is))

-- ---- how many bytes are given

-- no more than the slice of a range has that may end past the value's end
held_or_none : (value : List ℕ) (range : ByteRange) (within : Bool) (before after : ℕ) → (within ≡ true → range.offset + range.length ≤ length value) → (within ≡ false → after ≡ before) → after ≤ before + range.length
    → after ≤ before + value_length (if within then Some (take range.length (drop range.offset value)) else None)
held_or_none value range true before after inside none few =
    let fits = inside refl in
    let rest = length-drop range.offset value in
    let long = length-take-le range.length (drop range.offset value) (omega (arith, rest, fits)) in
    omega (arith, few, long)
held_or_none value range false before after inside none few = let same : after ≡ before = none refl in omega (arith, same)

-- no more than the slice has of a subchunk whose pair was found
pub slice_taken : (s : ShardOf) (contents : Option (List ℕ)) (indices : List ℕ) (range : ByteRange) (total before after : ℕ) → option_map length contents ≡ Some total → Some (pair_of range) ≡ stored_pair s contents indices → after ≤ before + range.length
    → (total < range.offset + range.length → after ≡ before) → after ≤ before + value_length (stored_slice s contents indices)
slice_taken s None indices range total before after told is few none = absurd (cc)
slice_taken s (Some value) indices range total before after told is few none =
    let many : length value ≡ total = some_same told in
    let end = range.offset + range.length in
    subst (λ (o : Option Pair). after ≤ before + value_length (option_and_then (slice_at value) o)) is
    (held_or_none value range (nat_le end (length value)) before after (leb-true end (length value)) (λ past. (let less : length value < end = leb-false end (length value) past in none (omega (arith, less, many)))) few)

-- no more than the slices have of the subchunks that places lie in, by the index that is kept
pub parts_taken : (s : ShardOf) (contents : Option (List ℕ)) (found : FetchedIndex) (asked : Asked) (before after : ℕ) → IsHeld s.index s.location (index_shape s.shape s.subchunk) contents found
    → after ≤ before + bytes_met s.shape s.subchunk (numbers_asked s.shape asked) (all_pairs found.pairs) found.total → after ≤ before + slices_met s contents asked
parts_taken s contents found asked before after held given =
    let met = bytes_met s.shape s.subchunk (numbers_asked s.shape asked) in
    subst (λ (o : Option (List ℕ)). after ≤ before + slices_met s o asked) (sym held.is)
    (subst (λ (o : Option (List Pair)). after ≤ before + met (unwrap_or o []) (length held.value)) (sym held.pairs) (subst (λ n. after ≤ before + met (all_pairs found.pairs) n) held.total given))
