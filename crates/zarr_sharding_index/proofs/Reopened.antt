-- What is known of a shard after changes are written is what opening it anew tells.
use Rattle.std.proofs.Common.{◌≡◌, ◌∙◌, inl, inr, ℕ, zero, suc, ◌+◌, ◌-◌, ◌≤◌, ◌<◌, ◌^◌, List, [], ◌∷◌, ◌++◌, length, get_or, set, take, drop, replicate, ap, sym, refl, subst, arith, Option, Some, None, option_map, Bool, true, false, ◌&&◌, ◌||◌, ◌==◌, if◌then◌else◌, length-append, length-drop}
use Rattle.std.proofs.lemmas.Bool.{and_from, and_parts, cases_Bool, eqb-true, le-leb, leb-true}
use Rattle.std.proofs.lemmas.List.{length-take, take-append-drop}
use Rattle.std.specs.Prelude.{nat_le}
use Rattle.std.specs.List.{list_all}
use Rattle.zarr_codecs_meaning.specs.Chains.{Chain, Location}
use Rattle.zarr_codecs_meaning.specs.Chains.Location.{at_start, at_end}
use Rattle.zarr_codecs_meaning.specs.Decoding.{decoded, index_bytes, is_absent, pairs_in, pairs_of_cells}
use Rattle.zarr_codecs_meaning.specs.Encoding.{Pair, absent_pair, base_of, index_size, joined, pair_at, pair_cells, slice_bytes}
use Rattle.zarr_codecs_meaning.specs.Fits.{is_lossless}
use Rattle.zarr_codecs_meaning.specs.Standing.{HasSlice, index_layout}
use Rattle.zarr_codecs_meaning.specs.Types.{uint64, zero_filled}
use Rattle.zarr_codecs_meaning.proofs.Lists.{if_some}
use Rattle.zarr_codecs_meaning.proofs.Shards.{AreWords, index_read, pairs_back}
use Rattle.zarr_sharding_changes.specs.Changes.{Change, appended, pairs_after}
use Rattle.zarr_sharding_changes.specs.Compaction.{data_in}
use Rattle.zarr_sharding_index.specs.Held.{IsOpened, are_absent, lies_between, shard_length, held_as, index_coding}
use Rattle.zarr_sharding_index.specs.Written.{IsAppended, IsChanged, with_slices}
use Rattle.zarr_sharding_index.proofs.Counts.{changed_count}
use Rattle.zarr_sharding_index.proofs.Ranges.{slices_first, slices_written}
use Rattle.zarr_sharding_index.proofs.Stands.{data_read}

-- ---- a value as an index and a data part

-- a value is an index of this size and a data part; where there is none, the data part is empty
pub record IsSplit (location : Location) (size : ℕ) (value «data» : List ℕ) : Type 0 where
  pub index : List ℕ
  pub long : length index ≡ size
  pub is : value ≡ joined location index «data»

split_value : (location : Location) (size : ℕ) (value : List ℕ) → size ≤ length value → IsSplit location size value (data_in location size value)
split_value at_start size value fits = record {
  index = take size value;
  long = let count = length-take size value in omega (arith, count, fits);
  is = sym (take-append-drop size value);
}
split_value at_end size value fits = record {
  index = drop (length value - size) value;
  long = let count = length-drop (length value - size) value in omega (arith, count, fits);
  is = sym (take-append-drop (length value - size) value);
}

-- a value that was opened
pub opened_split : (index : Chain) (location : Location) (shape : List ℕ) (count end : ℕ) (value : List ℕ) (pairs : List Pair) → IsOpened (index_layout index location shape) count (Some value) pairs end → IsSplit location (index_size index shape) value (data_in location (index_size index shape) value)
opened_split index location shape count end value pairs opened =
    let size = index_size index shape in
    let both = if_some (nat_le size (length value)) (option_map pairs_of_cells (decoded index (zero_filled uint64) shape (index_bytes location size value))) pairs opened.0 in
    split_value location size value (leb-true size (length value) both.0)

-- how many bytes it has
split_length : (location : Location) (size : ℕ) (value «data» : List ℕ) → IsSplit location size value «data» → length value ≡ shard_length location size (base_of location size + length «data»)
split_length at_start size value «data» split = let long = split.long in let count = ap (λ (l : List ℕ). length l) split.is ∙ length-append split.index «data» in omega (arith, long, count)
split_length at_end size value «data» split = let long = split.long in let count = ap (λ (l : List ℕ). length l) split.is ∙ length-append «data» split.index in omega (arith, long, count)

pub opened_length : (index : Chain) (location : Location) (shape : List ℕ) (count end : ℕ) (value : List ℕ) (pairs : List Pair) → IsOpened (index_layout index location shape) count (Some value) pairs end → length value ≡ shard_length location (index_size index shape) end
opened_length index location shape count end value pairs opened =
    split_length location (index_size index shape) value (data_in location (index_size index shape) value) (opened_split index location shape count end value pairs opened) ∙ ap (shard_length location (index_size index shape)) (sym opened.1)

-- ---- pairs that lie in a data part

-- each pair lies there
abbrev pub AllLie : ℕ → ℕ → List Pair → Type 0
AllLie base end pairs = list_all (lies_between base end) pairs ≡ true

lies_at : (base end : ℕ) (pairs : List Pair) (k : ℕ) → AllLie base end pairs → k < length pairs → lies_between base end (get_or pairs k absent_pair) ≡ true
lies_at base end [] k all low = absurd (omega (arith, low))
lies_at base end (p ∷ ps) zero all low = (and_parts (lies_between base end p) (list_all (lies_between base end) ps) all).0
lies_at base end (p ∷ ps) (suc k) all low = lies_at base end ps k (and_parts (lies_between base end p) (list_all (lies_between base end) ps) all).1 (omega (arith, low))

all_absent_lie : (base end count : ℕ) → AllLie base end (replicate count absent_pair)
all_absent_lie base end zero = refl
all_absent_lie base end (suc count) = all_absent_lie base end count

-- a present pair that lies there
present_lies : (base end : ℕ) (p : Pair) → lies_between base end p ≡ true → is_absent p ≡ false → (base ≤ p.0) × (p.0 + p.1 ≤ end)
present_lies base end p lies present =
    let rest : nat_le base p.0 && nat_le (p.0 + p.1) end ≡ true = sym (ap (λ (b : Bool). b || (nat_le base p.0 && nat_le (p.0 + p.1) end)) present) ∙ lies in
    let both = and_parts (nat_le base p.0) (nat_le (p.0 + p.1) end) rest in
    (leb-true base p.0 both.0, leb-true (p.0 + p.1) end both.1)

-- a present pair has a slice in the data part
pub pair_has_slice : (base end : ℕ) («data» : List ℕ) (p : Pair) → end ≡ base + length «data» → end < 2 ^ 63 → lies_between base end p ≡ true → is_absent p ≡ false → HasSlice base «data» p (take p.1 (drop (p.0 - base) «data»))
pair_has_slice base end «data» p ends low lies present =
    let within = present_lies base end p lies present in
    let first = within.0 in
    let last = within.1 in
    let skip = p.0 - base in
    let front = length-take skip «data» in
    let back = length-drop skip «data» in
    let cut = length-take p.1 (drop skip «data») in
    record {
      before = take skip «data»;
      after = drop p.1 (drop skip «data»);
      is = sym (ap (λ (l : List ℕ). take skip «data» ++ l) (take-append-drop p.1 (drop skip «data»)) ∙ take-append-drop skip «data»);
      begins = omega (arith, first, last, ends, front);
      long = omega (arith, first, last, ends, back, cut);
      low = omega (arith, last, low);
    }

lies_or : (base end more : ℕ) (p : Pair) → end ≤ more → (b : Bool) → is_absent p ≡ b → lies_between base end p ≡ true → lies_between base more p ≡ true
lies_or base end more p le true e lies = ap (λ (b : Bool). b || (nat_le base p.0 && nat_le (p.0 + p.1) more)) e
lies_or base end more p le false e lies =
    let within = present_lies base end p lies e in
    let first = within.0 in
    let last = within.1 in
    ap (λ (b : Bool). b || (nat_le base p.0 && nat_le (p.0 + p.1) more)) e ∙ and_from (nat_le base p.0) (nat_le (p.0 + p.1) more) (le-leb base p.0 first) (le-leb (p.0 + p.1) more (omega (arith, last, le)))

all_lie_more : (base end more : ℕ) (pairs : List Pair) → end ≤ more → AllLie base end pairs → AllLie base more pairs
all_lie_more base end more [] le all = refl
all_lie_more base end more (p ∷ ps) le all =
    let both = and_parts (lies_between base end p) (list_all (lies_between base end) ps) all in
    and_from (lies_between base more p) (list_all (lies_between base more) ps) (lies_or base end more p le (is_absent p) refl both.0) (all_lie_more base end more ps le both.1)

all_lie_set : (base end : ℕ) (pairs : List Pair) (k : ℕ) (p : Pair) → AllLie base end pairs → lies_between base end p ≡ true → AllLie base end (set pairs k p)
all_lie_set base end [] k p all lies = all
all_lie_set base end (q ∷ qs) zero p all lies = and_from (lies_between base end p) (list_all (lies_between base end) qs) lies (and_parts (lies_between base end q) (list_all (lies_between base end) qs) all).1
all_lie_set base end (q ∷ qs) (suc k) p all lies =
    let both = and_parts (lies_between base end q) (list_all (lies_between base end) qs) all in
    and_from (lies_between base end q) (list_all (lies_between base end) (set qs k p)) both.0 (all_lie_set base end qs k p both.1 lies)

-- the pair of a slice that is appended lies in the longer data part
new_lies : (base offset end : ℕ) (slice : Option (List ℕ)) → base ≤ offset → offset + length (slice_bytes slice) ≤ end → end < 2 ^ 63 → lies_between base end (pair_at offset slice) ≡ true
new_lies base offset end None first last low = refl
new_lies base offset end (Some slice) first last low =
    let fits = and_from (nat_le base offset) (nat_le (offset + length slice) end) (le-leb base offset first) (le-leb (offset + length slice) end last) in
    elim (cases_Bool (is_absent (offset, length slice))) [
      | inl gone ↦ ap (λ (b : Bool). b || (nat_le base offset && nat_le (offset + length slice) end)) gone
      | inr there ↦ ap (λ (b : Bool). b || (nat_le base offset && nat_le (offset + length slice) end)) there ∙ fits
    ]

pub pairs_lie : (base end offset : ℕ) (changes : List Change) (pairs : List Pair) → base ≤ offset → offset + length (appended changes) ≤ end → end < 2 ^ 63 → AllLie base end pairs → AllLie base end (pairs_after offset changes pairs)
pairs_lie base end offset [] pairs first last low all = all
pairs_lie base end offset (change ∷ changes) pairs first last low all =
    let count = length-append (slice_bytes change.1) (appended changes) in
    pairs_lie base end (offset + length (slice_bytes change.1)) changes (set pairs change.0 (pair_at offset change.1)) (omega (arith, first)) (omega (arith, last, count)) low
    (all_lie_set base end pairs change.0 (pair_at offset change.1) all (new_lies base offset end change.1 first (omega (arith, last, count)) low))

-- the numbers of such pairs fit eight bytes
pub lying_words : (base end : ℕ) (pairs : List Pair) → end < 2 ^ 63 → AllLie base end pairs → AreWords pairs
lying_words base end [] low all = tt
lying_words base end (p ∷ ps) low all =
    let both = and_parts (lies_between base end p) (list_all (lies_between base end) ps) all in
    let here : (p.0 < 2 ^ 64) × (p.1 < 2 ^ 64) = elim (cases_Bool (is_absent p)) [
      | inl gone ↦
          let two = and_parts (p.0 == 2 ^ 64 - 1) (p.1 == 2 ^ 64 - 1) gone in
          let one = eqb-true p.0 (2 ^ 64 - 1) two.0 in
          let other = eqb-true p.1 (2 ^ 64 - 1) two.1 in
          (omega (arith, one), omega (arith, other))
      | inr there ↦ let last = (present_lies base end p both.0 there).1 in (omega (arith, last, low), omega (arith, last, low))
    ] in
    (here.0, here.1, lying_words base end ps low both.1)

-- ---- after changes

-- pairs and a data part after changes: the value is an index that tells the pairs, and the data part with the slices appended; or there is none, and each subchunk is absent
pub record IsSplitAfter (index : Chain) (location : Location) (shape : List ℕ) (new : Option (List ℕ)) (pairs : List Pair) («data» : List ℕ) (ended : ℕ) : Type 0 where
  pub value : List ℕ
  pub is : new ≡ Some value
  pub split : IsSplit location (index_size index shape) value «data»
  pub read : is_lossless index uint64 ≡ true → decoded index (zero_filled uint64) shape split.index ≡ Some (pair_cells pairs)
  pub ends : ended ≡ base_of location (index_size index shape) + length «data»

-- the data part of what is stored; where nothing is, an empty one
abbrev pub data_of : Location → ℕ → Option (List ℕ) → List ℕ
data_of location size None = []
data_of location size (Some value) = data_in location size value

pub opened_ends : (index : Chain) (location : Location) (shape : List ℕ) (count end : ℕ) (old : Option (List ℕ)) (pairs : List Pair) → IsOpened (index_layout index location shape) count old pairs end → end ≡ base_of location (index_size index shape) + length (data_of location (index_size index shape) old)
opened_ends index location shape count end None pairs opened = let is = opened.1 in omega (arith, is)
opened_ends index location shape count end (Some value) pairs opened = opened.1

pub opened_lies : (index : Chain) (location : Location) (shape : List ℕ) (count end : ℕ) (old : Option (List ℕ)) (pairs : List Pair) → IsOpened (index_layout index location shape) count old pairs end → AllLie (base_of location (index_size index shape)) end pairs
opened_lies index location shape count end None pairs opened =
    let base = base_of location (index_size index shape) in
    subst (λ (ps : List Pair). AllLie base end ps) (sym opened.0) (all_absent_lie base end count)
opened_lies index location shape count end (Some value) pairs opened = opened.2

pub split_after : (index : Chain) (exact : Bool) (location : Location) (shape : List ℕ) (changes : List Change) (count end ended : ℕ) (pairs made : List Pair) (old new : Option (List ℕ)) → IsOpened (index_layout index location shape) count old pairs end
    → IsAppended (index_coding index exact location shape) changes old end (held_as new made ended) → IsSplitAfter index location shape new made (data_of location (index_size index shape) old ++ appended changes) ended
split_after index exact location shape changes count end ended pairs made None new opened h =
    let size = index_size index shape in
    let base = base_of location size in
    let slices = appended changes in
    let ix = h.index_bytes in
    let long = h.written.sized in
    let here = opened.1 in
    let ends = h.ends in
    record {
      value = with_slices location end ix slices [];
      is = h.is;
      split = record {
        index = ix;
        long = long;
        is = ap (λ n. with_slices location n ix slices []) here ∙ slices_first location base ix slices (ap (base_of location) (sym long));
      };
      read = h.written.reads_back;
      ends = omega (arith, here, ends);
    }
split_after index exact location shape changes count end ended pairs made (Some value) new opened h =
    let size = index_size index shape in
    let base = base_of location size in
    let «data» = data_in location size value in
    let slices = appended changes in
    let split = opened_split index location shape count end value pairs opened in
    let ix = h.index_bytes in
    let long = h.written.sized in
    let here = opened.1 in
    let ends = h.ends in
    let both = length-append «data» slices in
    record {
      value = with_slices location end ix slices value;
      is = h.is;
      split = record {
        index = ix;
        long = long;
        is = ap (λ (l : List ℕ). with_slices location end ix slices l) split.is
            ∙ (ap (λ n. with_slices location n ix slices (joined location split.index «data»)) here ∙ slices_written location base split.index ix «data» slices (split.long ∙ sym long) (ap (base_of location) (sym long)));
      };
      read = h.written.reads_back;
      ends = omega (arith, here, ends, both);
    }

-- each pair is absent where all are
absent_pairs : (pairs : List Pair) → are_absent pairs ≡ true → pairs ≡ replicate (length pairs) absent_pair
absent_pairs [] all = refl
absent_pairs (p ∷ ps) all =
    let both = and_parts (is_absent p) (list_all is_absent ps) all in
    let two = and_parts (p.0 == 2 ^ 64 - 1) (p.1 == 2 ^ 64 - 1) both.0 in
    let first : p ≡ absent_pair = ap (λ n. (n, p.1)) (eqb-true p.0 (2 ^ 64 - 1) two.0) ∙ ap (λ n. (2 ^ 64 - 1, n)) (eqb-true p.1 (2 ^ 64 - 1) two.1) in
    ap (λ q. q ∷ ps) first ∙ ap (λ qs. absent_pair ∷ qs) (absent_pairs ps both.1)

-- what was written is opened as what is known of it
pub reopened : (index : Chain) (exact : Bool) (location : Location) (shape : List ℕ) (changes : List Change) (count end ended : ℕ) (pairs : List Pair) (old new : Option (List ℕ)) → is_lossless index uint64 ≡ true → length pairs ≡ count → end + length (appended changes) < 2 ^ 63
    → IsOpened (index_layout index location shape) count old pairs end → IsChanged (index_coding index exact location shape) changes old end (held_as new (pairs_after end changes pairs) ended) → IsOpened (index_layout index location shape) count new (pairs_after end changes pairs) ended
reopened index exact location shape changes count end ended pairs old new lossless many room opened (inl erased) =
    let made = pairs_after end changes pairs in
    subst (λ (o : Option (List ℕ)). IsOpened (index_layout index location shape) count o made ended) (sym erased.1)
    (absent_pairs made erased.0 ∙ ap (λ n. replicate n absent_pair) (changed_count end changes pairs ∙ many), erased.2)
reopened index exact location shape changes count end ended pairs old new lossless many room opened (inr h) =
    let size = index_size index shape in
    let base = base_of location size in
    let made = pairs_after end changes pairs in
    let «data» = data_of location size old ++ appended changes in
    let after = split_after index exact location shape changes count end ended pairs made old new opened h in
    let value = after.value in
    let split = after.split in
    let found = index_read location size split.index «data» value split.long split.is in
    let is = opened_ends index location shape count end old pairs opened in
    let ends = h.ends in
    let all = pairs_lie base ended end changes pairs (omega (arith, is)) (omega (arith, ends)) (omega (arith, room, ends)) (all_lie_more base end ended pairs (omega (arith, ends)) (opened_lies index location shape count end old pairs opened)) in
    let read : pairs_in (decoded index (zero_filled uint64) shape) location size value ≡ Some made =
    ap (λ (b : Bool). if b then option_map pairs_of_cells (decoded index (zero_filled uint64) shape (index_bytes location size value)) else None) (le-leb size (length value) found.0)
    ∙ (ap (λ (l : List ℕ). option_map pairs_of_cells (decoded index (zero_filled uint64) shape l)) found.1
    ∙ (ap (option_map pairs_of_cells) (after.read lossless) ∙ ap Some (pairs_back made (lying_words base ended made (omega (arith, room, ends)) all)))) in
    subst (λ (o : Option (List ℕ)). IsOpened (index_layout index location shape) count o made ended) (sym after.is)
    (read, after.ends ∙ ap (λ (l : List ℕ). base + length l) (sym (data_read location size split.index «data» value split.long split.is)), all)
