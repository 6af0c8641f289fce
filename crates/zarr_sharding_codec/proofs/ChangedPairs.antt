-- The pair of one subchunk after changes.
use Rattle.std.proofs.Common.{◌≡◌, ◌≢◌, ◌⊎◌, ◌∙◌, inl, inr, ℕ, ◌+◌, ◌<◌, List, [], ◌∷◌, ◌++◌, length, get_or, set, ap, sym, refl, arith, Bool, true, false, ◌==◌, length-append, append_assoc}
use Rattle.std.proofs.lemmas.Bool.{eqb-true, eq-eqb}
use Rattle.std.proofs.lemmas.List.{get_or-set_same, get_or-set_other, length-set}
use Rattle.zarr_codecs_meaning.specs.Encoding.{Pair, absent_pair, pair_at, slice_bytes}
use Rattle.zarr_sharding_changes.specs.Changes.{Change, appended, pairs_after}
use Rattle.zarr_sharding_codec.specs.PartWriting.{HasChange}

-- a subchunk isn't changed, and keeps its pair
pub record IsPairKept (changes : List Change) (pairs made : List Pair) (k : ℕ) : Type 0 where
  pub none : HasChange k changes → ⊥
  pub is : get_or made k absent_pair ≡ get_or pairs k absent_pair

-- the last change of a subchunk, with the pair of its slice
pub record IsPairNew (offset : ℕ) (changes : List Change) (made : List Pair) (k : ℕ) : Type 0 where
  pub front : List Change
  pub change : Change
  pub back : List Change
  pub all : changes ≡ front ++ change ∷ back
  pub number : change.0 ≡ k
  pub is : get_or made k absent_pair ≡ pair_at (offset + length (appended front)) change.1

first_kept : (offset : ℕ) (change : Change) (changes : List Change) (pairs made : List Pair) (k : ℕ) → k < length pairs → IsPairKept changes (set pairs change.0 (pair_at offset change.1)) made k → (b : Bool) → (change.0 == k) ≡ b
    → IsPairNew offset (change ∷ changes) made k ⊎ IsPairKept (change ∷ changes) pairs made k
first_kept offset change changes pairs made k low kept true e =
    let same : change.0 ≡ k = eqb-true change.0 k e in
    let start : offset ≡ offset + 0 = omega arith in
    inl (record {
      front = [];
      change = change;
      back = changes;
      all = refl;
      number = same;
      is = kept.is ∙ (ap (λ j. get_or (set pairs change.0 (pair_at offset change.1)) j absent_pair) (sym same)
          ∙ (get_or-set_same pairs change.0 (pair_at offset change.1) absent_pair (omega (arith, low, same)) ∙ ap (λ n. pair_at n change.1) start));
    })
first_kept offset change changes pairs made k low kept false e =
    let other : change.0 ≢ k = λ same. let yes = eq-eqb change.0 k same in cc in
    inr (record {
      none = λ has. elim has [ inl same ↦ other same | inr later ↦ kept.none later ];
      is = kept.is ∙ get_or-set_other pairs change.0 k (pair_at offset change.1) absent_pair (λ same. other (sym same));
    })

pub pair_cases : (changes : List Change) (offset : ℕ) (pairs : List Pair) (k : ℕ) → k < length pairs → IsPairNew offset changes (pairs_after offset changes pairs) k ⊎ IsPairKept changes pairs (pairs_after offset changes pairs) k
pair_cases [] offset pairs k low = inr (record { none = λ h. h; is = refl })
pair_cases (change ∷ changes) offset pairs k low =
    let first = slice_bytes change.1 in
    let pair = pair_at offset change.1 in
    let long = length-set pairs change.0 pair in
    elim (pair_cases changes (offset + length first) (set pairs change.0 pair) k (omega (arith, low, long))) [
      | inl new ↦
          let count = length-append first (appended new.front) in
          let here : offset + length first + length (appended new.front) ≡ offset + length (first ++ appended new.front) = omega (arith, count) in
          inl (record {
            front = change ∷ new.front;
            change = new.change;
            back = new.back;
            all = ap (λ cs. change ∷ cs) new.all;
            number = new.number;
            is = new.is ∙ ap (λ n. pair_at n new.change.1) here;
          })
      | inr kept ↦ first_kept offset change changes pairs (pairs_after (offset + length first) changes (set pairs change.0 pair)) k low kept (change.0 == k) refl
    ]

-- the slice of a change among those that are appended
pub appended_split : (front back : List Change) (change : Change) → appended (front ++ change ∷ back) ≡ appended front ++ (slice_bytes change.1 ++ appended back)
appended_split [] back change = refl
appended_split (first ∷ front) back change = ap (λ (l : List ℕ). slice_bytes first.1 ++ l) (appended_split front back change) ∙ sym (append_assoc (slice_bytes first.1) (appended front) (slice_bytes change.1 ++ appended back))
