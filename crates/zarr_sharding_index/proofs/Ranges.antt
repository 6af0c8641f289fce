-- Ranges that are written into a shard.
use Rattle.std.proofs.Common.{◌≡◌, ℕ, ◌+◌, ◌-◌, ◌≤◌, List, [], ◌++◌, length, ap, ◌∙◌, sym, refl, arith, inl, inr, take, drop, replicate, append_assoc, append-nil, length-append, length-drop}
use Rattle.std.proofs.lemmas.Bool.{cases_lt}
use Rattle.std.proofs.lemmas.List.{take_at, drop_at, drop_all, length-replicate}
use Rattle.zarr_codecs_meaning.specs.Chains.{Location}
use Rattle.zarr_codecs_meaning.specs.Chains.Location.{at_start, at_end}
use Rattle.zarr_codecs_meaning.specs.Encoding.{base_of, joined}
use Rattle.zarr_codecs_traits.specs.Patches.{written_at}
use Rattle.zarr_sharding_index.specs.Written.{with_slices}

-- what is written from within a value or its end on needs no zeros
written_within : (kept rest bytes : List ℕ) (n : ℕ) → n ≡ length kept → written_at (kept ++ rest) n bytes ≡ kept ++ (bytes ++ drop (n + length bytes) (kept ++ rest))
written_within kept rest bytes n e =
    let value = kept ++ rest in
    let m = n + length bytes in
    let pad : List ℕ = replicate (m - length value) 0 in
    let front : take n (value ++ pad) ≡ kept = ap (take n) (append_assoc kept rest pad) ∙ take_at kept (rest ++ pad) n (sym e) in
    let long : length pad ≡ m - length value = length-replicate (m - length value) 0 in
    let back : drop m (value ++ pad) ≡ drop m value = elim (cases_lt (length value) m) [
      | inr l ↦ let nothing : m - length value ≡ 0 = omega arith in ap (λ k. drop m (value ++ replicate k 0)) nothing ∙ ap (drop m) (append-nil value)
      | inl l ↦ drop_all m (value ++ pad) (omega (arith, length-append value pad, long)) ∙ sym (drop_all m value (omega arith))
    ] in
    ap (λ (l : List ℕ). (l ++ bytes) ++ drop m (value ++ pad)) front ∙ (ap (λ (l : List ℕ). (kept ++ bytes) ++ l) back ∙ append_assoc kept bytes (drop m value))

written_behind : (value bytes : List ℕ) (n : ℕ) → n ≡ length value → written_at value n bytes ≡ value ++ bytes
written_behind value bytes n e =
    let past : length (value ++ []) ≤ n + length bytes = omega (arith, ap (λ (l : List ℕ). length l) (append-nil value)) in
    ap (λ (l : List ℕ). written_at l n bytes) (sym (append-nil value))
    ∙ (written_within value [] bytes n e ∙ ap (λ (l : List ℕ). value ++ l) (ap (λ (l : List ℕ). bytes ++ l) (drop_all (n + length bytes) (value ++ []) past) ∙ append-nil bytes))

written_first : (old new back : List ℕ) → length old ≡ length new → written_at (old ++ back) 0 new ≡ new ++ back
written_first old new back same = written_within [] (old ++ back) new 0 refl ∙ ap (λ (l : List ℕ). new ++ l) (drop_at old back (0 + length new) (omega (arith, same)))

-- what is written reaches to the end of what was there, or past it
written_over : (kept rest bytes : List ℕ) (n : ℕ) → n ≡ length kept → length rest ≤ length bytes → written_at (kept ++ rest) n bytes ≡ kept ++ bytes
written_over kept rest bytes n e short =
    let past : length (kept ++ rest) ≤ n + length bytes = omega (arith, length-append kept rest) in
    written_within kept rest bytes n e ∙ ap (λ (l : List ℕ). kept ++ l) (ap (λ (l : List ℕ). bytes ++ l) (drop_all (n + length bytes) (kept ++ rest) past) ∙ append-nil bytes)

written_before : (kept rest bytes : List ℕ) (n : ℕ) → n ≡ length kept → written_at (kept ++ rest) n bytes ≡ (kept ++ bytes) ++ drop (n + length bytes) (kept ++ rest)
written_before kept rest bytes n e = written_within kept rest bytes n e ∙ sym (append_assoc kept bytes (drop (n + length bytes) (kept ++ rest)))

-- slices that are appended to a shard, and its index
pub slices_written : (location : Location) (base : ℕ) (old index «data» slices : List ℕ) → length old ≡ length index → base ≡ base_of location (length index)
    → with_slices location (base + length «data») index slices (joined location old «data») ≡ joined location index («data» ++ slices)
slices_written at_start base old index «data» slices same begins =
    let one = written_first old index «data» same in
    ap (λ (l : List ℕ). written_at l (base + length «data») slices) one ∙ (written_behind (index ++ «data») slices (base + length «data») (omega (arith, begins, length-append index «data»)) ∙ append_assoc index «data» slices)
slices_written at_end base old index «data» slices same begins =
    let n = base + length «data» in
    let ends : n ≡ length «data» = omega (arith, begins) in
    let rest = drop (n + length slices) («data» ++ old) in
    let few : length rest ≤ length index = omega (arith, length-drop (n + length slices) («data» ++ old), length-append «data» old, same, ends) in
    ap (λ (l : List ℕ). written_at l (n + length slices) index) (written_before «data» old slices n ends) ∙ written_over («data» ++ slices) rest index (n + length slices) (omega (arith, ends, length-append «data» slices)) few

-- the first slices of a shard
pub slices_first : (location : Location) (base : ℕ) (index slices : List ℕ) → base ≡ base_of location (length index) → with_slices location base index slices [] ≡ joined location index slices
slices_first at_start base index slices begins = ap (λ (l : List ℕ). written_at l base slices) (written_behind [] index 0 refl) ∙ written_behind index slices base begins
slices_first at_end base index slices begins =
    ap (λ (l : List ℕ). written_at l (base + length slices) index) (written_behind [] slices base begins) ∙ written_behind slices index (base + length slices) (omega (arith, begins))
