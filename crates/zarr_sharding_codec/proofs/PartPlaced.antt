-- A shard that is opened for writing has each present slice in its data part, and no other is.
use Rattle.std.proofs.Common.{◌≡◌, ◌∙◌, inl, inr, ℕ, ◌+◌, ◌-◌, ◌^◌, List, [], ◌∷◌, length, take, drop, ap, sym, refl, subst, Bool, true, false, ◌&&◌, ◌||◌, ◌==◌, if◌then◌else◌, Option, Some, None, option_and_then, option_map, is_some}
use Rattle.std.specs.Prelude.{nat_le, nat_lt}
use Rattle.std.specs.List.{list_all}
use Rattle.zarr_codecs_meaning.specs.Chains.{Chain, Location, sharded}
use Rattle.zarr_codecs_meaning.specs.Decoding.{is_absent}
use Rattle.zarr_codecs_meaning.specs.Encoding.{Pair, base_of, index_size, joined_slices}
use Rattle.zarr_codecs_meaning.specs.Places.{index_shape}
use Rattle.zarr_codecs_meaning.specs.Types.{Elements}
use Rattle.zarr_codecs_meaning.specs.Standing.{index_layout}
use Rattle.zarr_codecs_traits.specs.PartWriting.{IsPlaced, StopsPart}
use Rattle.zarr_sharding_changes.specs.Compaction.{compacted, data_in, slices_in, slices_of}
use Rattle.zarr_sharding_changes.specs.Compactions.{Compaction, by_length, damaged, nothing_to_gain, too_long, unless_refused}
use Rattle.zarr_sharding_index.specs.Held.{IsOpened, lies_between}
use Rattle.zarr_sharding_index.specs.Opened.{IsDamaged}

-- ---- slices by their pairs

outside_by : (base : ℕ) («data» : List ℕ) (p : Pair) (ps : List Pair) (gone within rest : Bool) → is_absent p ≡ gone → (nat_le base p.0 && nat_le (p.0 + p.1) (base + length «data»)) ≡ within → ((gone || within) && rest) ≡ false → (rest ≡ false → slices_of base «data» ps ≡ None)
    → option_and_then (λ (first : Option (List ℕ)). option_map (λ (others : List (Option (List ℕ))). first ∷ others) (slices_of base «data» ps)) (if gone then Some None else option_map Some (if within then Some (take p.1 (drop (p.0 - base) «data»)) else None)) ≡ None
outside_by base «data» p ps true within rest e1 e2 all law = ap (option_map (λ (others : List (Option (List ℕ))). None ∷ others)) (law all)
outside_by base «data» p ps false true rest e1 e2 all law = ap (option_map (λ (others : List (Option (List ℕ))). Some (take p.1 (drop (p.0 - base) «data»)) ∷ others)) (law all)
outside_by base «data» p ps false false rest e1 e2 all law = refl

-- where a present pair lies outside the data part, there are no slices
outside_none : (base : ℕ) («data» : List ℕ) (pairs : List Pair) → list_all (lies_between base (base + length «data»)) pairs ≡ false → slices_of base «data» pairs ≡ None
outside_none base «data» [] all = cc
outside_none base «data» (p ∷ ps) all =
    outside_by base «data» p ps (is_absent p) (nat_le base p.0 && nat_le (p.0 + p.1) (base + length «data»)) (list_all (lies_between base (base + length «data»)) ps) refl refl all (outside_none base «data» ps)

-- where each present pair lies in the data part, there are slices
all_inside : (base : ℕ) («data» : List ℕ) (p : Pair) (ps : List Pair) (gone within rest : Bool) → ((gone || within) && rest) ≡ true → (rest ≡ true → (stored : List (Option (List ℕ))) × (slices_of base «data» ps ≡ Some stored))
    → (stored : List (Option (List ℕ))) × (option_and_then (λ (first : Option (List ℕ)). option_map (λ (others : List (Option (List ℕ))). first ∷ others) (slices_of base «data» ps))
    (if gone then Some None else option_map Some (if within then Some (take p.1 (drop (p.0 - base) «data»)) else None)) ≡ Some stored)
all_inside base «data» p ps true within rest all law = let found = law all in (None ∷ found.0, ap (option_map (λ (others : List (Option (List ℕ))). None ∷ others)) found.1)
all_inside base «data» p ps false true rest all law =
    let slice = take p.1 (drop (p.0 - base) «data») in
    let found = law all in (Some slice ∷ found.0, ap (option_map (λ (others : List (Option (List ℕ))). Some slice ∷ others)) found.1)
all_inside base «data» p ps false false rest all law = absurd (cc)

inside_some : (base : ℕ) («data» : List ℕ) (pairs : List Pair) → list_all (lies_between base (base + length «data»)) pairs ≡ true → (stored : List (Option (List ℕ))) × (slices_of base «data» pairs ≡ Some stored)
inside_some base «data» [] all = ([], refl)
inside_some base «data» (p ∷ ps) all =
    all_inside base «data» p ps (is_absent p) (nat_le base p.0 && nat_le (p.0 + p.1) (base + length «data»)) (list_all (lies_between base (base + length «data»)) ps) all (inside_some base «data» ps)

-- ---- what compaction makes of it

-- what compaction makes of a shard, by its slices
abbrev compaction_by : List ℕ → Chain → Location → List ℕ → List ℕ → Option (List (Option (List ℕ))) → Compaction
compaction_by subchunk index location shape value slices =
    elim slices [ None ↦ damaged | Some stored ↦ by_length (length value) (index_size index (index_shape shape subchunk) + length (joined_slices stored)) (compacted subchunk index location shape value) ]

not_damaged : (same fits : Bool) (made : Option (List ℕ)) → (if same then nothing_to_gain else (if fits then unless_refused made else too_long)) ≡ damaged → ⊥
not_damaged true fits made is = cc
not_damaged false true None is = cc
not_damaged false true (Some value) is = cc
not_damaged false false made is = cc

-- what was opened has each present slice in its data part
pub opened_placed : (subchunk : List ℕ) (inner index : Chain) (location : Location) (shape : List ℕ) (count end : ℕ) (old : Option (List ℕ)) (pairs : List Pair) → IsOpened (index_layout index location (index_shape shape subchunk)) count old pairs end
    → IsPlaced (sharded subchunk inner index location) shape old
opened_placed subchunk inner index location shape count end None pairs opened = tt
opened_placed subchunk inner index location shape count end (Some value) pairs opened = λ partly is.
    let size = index_size index (index_shape shape subchunk) in
    let base = base_of location size in
    let «data» = data_in location size value in
    let found = inside_some base «data» pairs (subst (λ n. list_all (lies_between base n) pairs ≡ true) opened.1 opened.2) in
    let slices : slices_in subchunk index location shape value ≡ Some found.0 = ap (option_and_then (slices_of base «data»)) opened.0 ∙ found.1 in
    let after = size + length (joined_slices found.0) in
    not_damaged (length value == after) (nat_lt after (2 ^ 63)) (compacted subchunk index location shape value) (sym (ap (compaction_by subchunk index location shape value) slices) ∙ is)

-- what isn't opened as a shard stops a write
pub damaged_value : (subchunk : List ℕ) (inner index : Chain) (location : Location) (elements : Elements) (shape value numbers : List ℕ) → IsDamaged index location (index_shape shape subchunk) value
    → StopsPart (sharded subchunk inner index location) elements shape value numbers
damaged_value subchunk inner index location elements shape value numbers (inl lost) = inl (ap is_some lost)
damaged_value subchunk inner index location elements shape value numbers (inr outside) =
    let size = index_size index (index_shape shape subchunk) in
    let base = base_of location size in
    let none : slices_in subchunk index location shape value ≡ None = ap (option_and_then (slices_of base (data_in location size value))) outside.1 ∙ outside_none base (data_in location size value) outside.0 outside.2 in
    inr (inr (ap (compaction_by subchunk index location shape value) none))
