-- Shards: what is written stands, and what stands is read.
use Rattle.std.proofs.Common.{◌≡◌, ℕ, ◌+◌, ◌-◌, ◌*◌, ◌<◌, ◌≤◌, ◌^◌, List, [], ◌∷◌, ◌++◌, length, map, get_or, take, drop, replicate, ap, ◌∙◌, sym, refl, arith, ◌⊎◌, inl, inr, subst, Option, Some, None, Bool, true, false, ◌==◌, option_map, if◌then◌else◌, append_assoc, length-append, mod-eq_of_lt}
use Rattle.std.proofs.lemmas.Bool.{cases_Bool, le-leb, lt-ltb, ltb-true, and_parts}
use Rattle.std.proofs.lemmas.Map.Views.{exact_unsigned_eq}
use Rattle.std.proofs.lemmas.Slice.Eq.{bytes_eq-Decides}
use Rattle.std.proofs.Math.Seq.{take-append_seam, drop-append_seam}
use Rattle.std.specs.Prelude.{nat_lt}
use Rattle.zarr_codecs_meaning.specs.Numbers.{number, word}
use Rattle.zarr_codecs_meaning.specs.Types.{Cell, of_bytes, absent, present, same_cell, is_fill}
use Rattle.zarr_codecs_meaning.specs.Chains.{Location}
use Rattle.zarr_codecs_meaning.specs.Chains.Location.{at_start, at_end}
use Rattle.zarr_codecs_meaning.specs.Places.{gather, position_of, Part}
use Rattle.zarr_codecs_meaning.specs.Encoding.{Pair, Piece, stored_of, stored_pieces, slice_bytes, joined_slices, pairs_from, pair_cells, base_of, joined}
use Rattle.zarr_codecs_meaning.specs.Keeping.{arranged}
use Rattle.zarr_codecs_meaning.specs.Decoding.{is_absent, slice_at, pairs_of_cells, index_bytes}
use Rattle.zarr_codecs_meaning.specs.Standing.{HasSlice, SliceStands, PiecesStand, data_part}
use Rattle.zarr_codecs_meaning.proofs.Lists.{some_same, bind_some, map_some, Each, every}
use Rattle.zarr_codecs_meaning.proofs.Digits.{number_digits}
use Rattle.zarr_codecs_meaning.proofs.Positions.{IsAmong, position_found, gathered_read}

-- ---- cells that are the fill value

same_is : (a b : Cell) → same_cell a b ≡ true → a ≡ b
same_is (of_bytes xs) (of_bytes ys) h = ap of_bytes ((bytes_eq-Decides xs ys).0 h)
same_is (of_bytes xs) absent h = cc
same_is (of_bytes xs) (present b) h = cc
same_is absent (of_bytes ys) h = cc
same_is absent absent h = refl
same_is absent (present b) h = cc
same_is (present a) (of_bytes ys) h = cc
same_is (present a) absent h = cc
same_is (present a) (present b) h = ap present (same_is a b h)

pub fill_is_replicate : (fill : Cell) (cells : List Cell) → is_fill fill cells ≡ true → cells ≡ replicate (length cells) fill
fill_is_replicate fill [] h = refl
fill_is_replicate fill (c ∷ cs) h =
    let k = and_parts (same_cell c fill) (is_fill fill cs) h in
    ap (λ x. x ∷ cs) (same_is c fill k.0) ∙ ap (λ xs. fill ∷ xs) (fill_is_replicate fill cs k.1)

-- ---- writing

-- each slice is what its subchunk is to be stored as, and there are as many of both
abbrev pub SlicesStand : (List ℕ → List ℕ → List Cell → Type 0) → Cell → List Piece → List (Option (List ℕ)) → Type 0
SlicesStand inner fill [] [] = Unit {0}
SlicesStand inner fill [] (o ∷ os) = ⊥
SlicesStand inner fill (x ∷ xs) [] = ⊥
SlicesStand inner fill (x ∷ xs) (o ∷ os) = SliceStands inner fill x o × SlicesStand inner fill xs os

pub stored_cases : (t : Bool) (o : Option (List ℕ)) (first : Option (List ℕ)) → (if t then Some None else option_map Some o) ≡ Some first → ((t ≡ true) × (first ≡ None)) ⊎ ((t ≡ false) × ((v : List ℕ) × (o ≡ Some v) × (first ≡ Some v)))
stored_cases true o first h = inl (refl, cc)
stored_cases false None first h = cc
stored_cases false (Some v) first h = inr (refl, (v, refl, cc))

pub stored_stand : (encode : List ℕ → List Cell → Option (List ℕ)) (inner : List ℕ → List ℕ → List Cell → Type 0) (fill : Cell) (xs : List Piece) (os : List (Option (List ℕ)))
    → Each (λ x. (v : List ℕ) → encode x.0 x.1 ≡ Some v → inner x.0 v x.1) xs → stored_pieces encode fill xs ≡ Some os → SlicesStand inner fill xs os
stored_stand encode inner fill [] os law e = subst (λ (l : List (Option (List ℕ))). SlicesStand inner fill [] l) (some_same e) tt
stored_stand encode inner fill (x ∷ xs) os law e =
    let now = bind_some (λ (first : Option (List ℕ)). option_map (λ (others : List (Option (List ℕ))). first ∷ others) (stored_pieces encode fill xs)) (stored_of fill x.1 (encode x.0 x.1)) os e in
    let rest = map_some (λ (others : List (Option (List ℕ))). now.0 ∷ others) (stored_pieces encode fill xs) os now.2 in
    let others = stored_stand encode inner fill xs rest.0 law.1 rest.1 in
    let first : SliceStands inner fill x now.0 = elim (stored_cases (is_fill fill x.1) (encode x.0 x.1) now.0 now.1) [
      | inl k ↦ subst (λ (o : Option (List ℕ)). SliceStands inner fill x o) (sym k.1) k.0
      | inr k ↦ subst (λ (o : Option (List ℕ)). SliceStands inner fill x o) (sym k.1.2) (k.0, law.0 k.1.0 k.1.1)
    ] in
    subst (λ (l : List (Option (List ℕ))). SlicesStand inner fill (x ∷ xs) l) rest.2 (first, others)

pub put : (inner : List ℕ → List ℕ → List Cell → Type 0) (fill : Cell) (base : ℕ) («data» : List ℕ) (xs : List Piece) (os : List (Option (List ℕ))) (before : List ℕ) (offset : ℕ) → SlicesStand inner fill xs os → «data» ≡ before ++ joined_slices os → offset ≡ base + length before → offset + length (joined_slices os) < 2 ^ 64 - 1
    → PiecesStand inner fill (data_part base «data») xs (pairs_from offset os)
put inner fill base «data» [] [] before offset h is begins low = tt
put inner fill base «data» [] (o ∷ os) before offset h is begins low = elim h [ ]
put inner fill base «data» (x ∷ xs) [] before offset h is begins low = elim h [ ]
put inner fill base «data» (x ∷ xs) (None ∷ os) before offset h is begins low =
    (inl (h.0, refl), put inner fill base «data» xs os before (offset + 0) h.1 is (omega arith) (omega arith))
put inner fill base «data» (x ∷ xs) (Some v ∷ os) before offset h is begins low =
    let count = length-append v (joined_slices os) in
    let short : offset + length v < 2 ^ 64 - 1 = omega arith in
    let others = put inner fill base «data» xs os (before ++ v) (offset + length v) h.1 (is ∙ sym (append_assoc before v (joined_slices os))) (omega (arith, length-append before v)) (omega arith) in
    (inr (h.0.0, (v, record { before = before; after = joined_slices os; is = is; begins = begins; long = refl; low = short }, h.0.1)), others)

pub length-pairs_from : (os : List (Option (List ℕ))) (offset : ℕ) → length (pairs_from offset os) ≡ length os
length-pairs_from [] offset = refl
length-pairs_from (o ∷ os) offset = let h = length-pairs_from os (offset + length (slice_bytes o)) in omega (arith, h)

-- there is a slice, or none, for each piece
pub length-slices : (inner : List ℕ → List ℕ → List Cell → Type 0) (fill : Cell) (xs : List Piece) (os : List (Option (List ℕ))) → SlicesStand inner fill xs os → length os ≡ length xs
length-slices inner fill [] [] h = refl
length-slices inner fill [] (o ∷ os) h = elim h [ ]
length-slices inner fill (x ∷ xs) [] h = elim h [ ]
length-slices inner fill (x ∷ xs) (o ∷ os) h = let rest = length-slices inner fill xs os h.1 in omega (arith, rest)

pub length-stored : (encode : List ℕ → List Cell → Option (List ℕ)) (fill : Cell) (xs : List Piece) (os : List (Option (List ℕ))) → stored_pieces encode fill xs ≡ Some os → length os ≡ length xs
length-stored encode fill xs os e =
    let any = λ (shape slice : List ℕ). λ (cells : List Cell). Unit {0} in
    length-slices any fill xs os (stored_stand encode any fill xs os (every (λ (x : Piece). (v : List ℕ) → encode x.0 x.1 ≡ Some v → Unit {0}) xs (λ x v h. tt)) e)

-- ---- pairs as cells

pub length-pair_cells : (ps : List Pair) → length (pair_cells ps) ≡ 2 * length ps
length-pair_cells [] = refl
length-pair_cells (p ∷ ps) = let h = length-pair_cells ps in omega (arith, h)

-- both numbers of each pair fit eight bytes
abbrev pub AreWords : List Pair → Type 0
AreWords [] = Unit {0}
AreWords (p ∷ ps) = (p.0 < 2 ^ 64) × (p.1 < 2 ^ 64) × AreWords ps

pub number_word : (n : ℕ) → n < 2 ^ 64 → number 256 (word n) ≡ n
number_word n h = number_digits 256 8 n (omega arith) ∙ mod-eq_of_lt h

pub pairs_back : (ps : List Pair) → AreWords ps → pairs_of_cells (pair_cells ps) ≡ ps
pairs_back [] h = refl
pairs_back (p ∷ ps) h =
    ap (λ (n : ℕ). (n, number 256 (word p.1)) ∷ pairs_of_cells (pair_cells ps)) (number_word p.0 h.0)
    ∙ (ap (λ (n : ℕ). (p.0, n) ∷ pairs_of_cells (pair_cells ps)) (number_word p.1 h.1) ∙ ap (λ (qs : List Pair). p ∷ qs) (pairs_back ps h.2))

pub words_of : (inner : List ℕ → List ℕ → List Cell → Type 0) (fill : Cell) (base : ℕ) («data» : List ℕ) (xs : List Piece) (ps : List Pair) → PiecesStand inner fill (data_part base «data») xs ps → AreWords ps
words_of inner fill base «data» [] [] h = tt
words_of inner fill base «data» [] (p ∷ ps) h = elim h [ ]
words_of inner fill base «data» (x ∷ xs) [] h = elim h [ ]
words_of inner fill base «data» (x ∷ xs) (p ∷ ps) h =
    let mark : 2 ^ 64 - 1 < 2 ^ 64 = omega arith in
    let here : (p.0 < 2 ^ 64) × (p.1 < 2 ^ 64) = elim h.0 [
      | inl k ↦ subst (λ (q : Pair). (q.0 < 2 ^ 64) × (q.1 < 2 ^ 64)) (sym k.1) (mark, mark)
      | inr k ↦ let low = k.1.1.low in (omega arith, omega arith)
    ] in
    (here.0, here.1, words_of inner fill base «data» xs ps h.1)

-- the pairs of slices that end below the mark of an absent one
pub words_from : (os : List (Option (List ℕ))) (offset : ℕ) → offset + length (joined_slices os) < 2 ^ 64 - 1 → AreWords (pairs_from offset os)
words_from [] offset low = tt
words_from (None ∷ os) offset low = (omega arith, omega arith, words_from os (offset + 0) (omega (arith, low)))
words_from (Some v ∷ os) offset low =
    let count = length-append v (joined_slices os) in
    (omega (arith, low), omega (arith, low, count), words_from os (offset + length v) (omega (arith, low, count)))

-- ---- reading

not_absent : (m n : ℕ) → m < 2 ^ 64 - 1 → is_absent (m, n) ≡ false
not_absent m n low = elim (cases_Bool (is_absent (m, n))) [
  | inl t ↦ let e = exact_unsigned_eq m (2 ^ 64 - 1) (and_parts (m == 2 ^ 64 - 1) (n == 2 ^ 64 - 1) t).0 in absurd (omega (arith, e))
  | inr f ↦ f
]

pub is_present : (base : ℕ) («data» : List ℕ) (p : Pair) (slice : List ℕ) → HasSlice base «data» p slice → is_absent p ≡ false
is_present base «data» p slice h = let low = h.low in not_absent p.0 p.1 (omega arith)

-- where the index and a slice are read in the value
pub index_read : (location : Location) (size : ℕ) (index «data» value : List ℕ) → length index ≡ size → value ≡ joined location index «data» → (size ≤ length value) × (index_bytes location size value ≡ index)
index_read at_start size index «data» value long is =
    let count = ap length is ∙ length-append index «data» in
    (omega (arith, count, long), ap (take size) is ∙ (ap (λ n. take n (index ++ «data»)) (sym long) ∙ take-append_seam index «data»))
index_read at_end size index «data» value long is =
    let count = ap length is ∙ length-append «data» index in
    let skip : length value - size ≡ length «data» = omega (arith, count, long) in
    (omega (arith, count, long), ap (λ n. drop n value) skip ∙ (ap (drop (length «data»)) is ∙ drop-append_seam «data» index))

slice_written : (base : ℕ) (before v after value : List ℕ) → base ≡ length before → value ≡ before ++ (v ++ after) → slice_at value (base, length v) ≡ Some v
slice_written base before v after value begins is =
    let count = ap length is ∙ (length-append before (v ++ after) ∙ ap (λ n. length before + n) (length-append v after)) in
    let fits : base + length v ≤ length value = omega (arith, count, begins) in
    let test = le-leb (base + length v) (length value) fits in
    let read = ap (λ (xs : List ℕ). take (length v) (drop base xs)) is ∙ (ap (λ n. take (length v) (drop n (before ++ (v ++ after)))) begins ∙ (ap (take (length v)) (drop-append_seam before (v ++ after)) ∙ take-append_seam v after)) in
    ap (λ (t : Bool). if t then Some (take (length v) (drop base value)) else None) test ∙ ap Some read

pub slice_found : (location : Location) (base : ℕ) (index «data» value : List ℕ) (p : Pair) (slice : List ℕ) → value ≡ joined location index «data» → base ≡ base_of location (length index) → HasSlice base «data» p slice → slice_at value p ≡ Some slice
slice_found at_start base index «data» value p slice is begins h =
    let from = h.begins in
    let same : p ≡ (p.0, length slice) = ap (λ n. (p.0, n)) h.long in
    ap (slice_at value) same ∙ slice_written p.0 (index ++ h.before) slice h.after value (omega (arith, from, begins, length-append index h.before)) (is ∙ (ap (λ (xs : List ℕ). index ++ xs) h.is ∙ sym (append_assoc index h.before (slice ++ h.after))))
slice_found at_end base index «data» value p slice is begins h =
    let from = h.begins in
    let same : p ≡ (p.0, length slice) = ap (λ n. (p.0, n)) h.long in
    ap (slice_at value) same ∙ slice_written p.0 h.before slice (h.after ++ index) value (omega (arith, from, begins)) (is ∙ (ap (λ (xs : List ℕ). xs ++ index) h.is ∙ (append_assoc h.before (slice ++ h.after) index ∙ ap (λ (xs : List ℕ). h.before ++ xs) (append_assoc slice h.after index))))

abbrev pub part_cells : Cell → List Cell → Part → List Cell
part_cells fill cells part = gather fill cells part.places

-- ---- arranging

-- some part holds the place
abbrev pub IsCovered : ℕ → List Part → Type 0
IsCovered n [] = ⊥
IsCovered n (part ∷ parts) = IsAmong n part.places ⊎ IsCovered n parts

arranged_step : (b : Bool) (fill : Cell) (cells : List Cell) (n : ℕ) (part : Part) (rest : Cell) → nat_lt (position_of n part.places) (length part.places) ≡ b → (IsAmong n part.places ⊎ (rest ≡ get_or cells n fill))
    → (if b then get_or (part_cells fill cells part) (position_of n part.places) fill else rest) ≡ get_or cells n fill
arranged_step true fill cells n part rest e h = gathered_read fill cells part.places n (ltb-true (position_of n part.places) (length part.places) e)
arranged_step false fill cells n part rest e (inl is) = let yes : true ≡ false = sym (lt-ltb (position_of n part.places) (length part.places) (position_found n part.places is)) ∙ e in cc
arranged_step false fill cells n part rest e (inr is) = is

pub arranged_back : (fill : Cell) (cells : List Cell) (n : ℕ) (parts : List Part) → IsCovered n parts → arranged fill parts (map (part_cells fill cells) parts) n ≡ get_or cells n fill
arranged_back fill cells n [] h = elim h [ ]
arranged_back fill cells n (part ∷ parts) h =
    arranged_step (nat_lt (position_of n part.places) (length part.places)) fill cells n part (arranged fill parts (map (part_cells fill cells) parts) n) refl
    (elim h [ inl is ↦ inl is | inr is ↦ inr (arranged_back fill cells n parts is) ])
