-- The dimensions from the last to the first, one by one.
use Rattle.std.proofs.Common.{◌≡◌, ℕ, zero, suc, ◌+◌, ◌-◌, ◌<◌, List, [], ◌∷◌, ◌++◌, refl, sym, ap, ◌∙◌, arith}
use Rattle.serde_json.specs.Data.{Data, number, unsigned, Items, no_items, item}
use Rattle.serde_json.specs.View.{items_of}
use Rattle.zarr_array_v2.specs.Codecs.{falling}

-- values, and then other items
abbrev pub before : List Data → Items → Items
before [] rest = rest
before (d ∷ ds) rest = item d (before ds rest)

pub before_none : (ds : List Data) → before ds no_items ≡ items_of ds
before_none [] = refl
before_none (d ∷ ds) = ap (item d) (before_none ds)

before_more : (ds : List Data) (d : Data) (rest : Items) → before (ds ++ d ∷ []) rest ≡ before ds (item d rest)
before_more [] d rest = refl
before_more (x ∷ ds) d rest = ap (item x) (before_more ds d rest)

falling_at : (n : ℕ) → 0 < n → falling n ≡ item (number (unsigned (n - 1))) (falling (n - 1))
falling_at zero h = absurd (omega arith)
falling_at (suc n) h = let e : suc n - 1 ≡ n = omega arith in rw e

falling_more : (n i : ℕ) → i < n → falling (n - i) ≡ item (number (unsigned (n - 1 - i))) (falling (n - (i + 1)))
falling_more n i h =
    let a : n - i - 1 ≡ n - 1 - i = omega arith in
    let b : n - i - 1 ≡ n - (i + 1) = omega arith in
    falling_at (n - i) (omega arith) ∙ ap (λ k. item (number (unsigned k)) (falling (n - i - 1))) a ∙ ap (λ k. item (number (unsigned (n - 1 - i))) (falling k)) b

-- at first all dimensions are left
pub falling_first : (n : ℕ) → falling (n - 0) ≡ falling n
falling_first n = let e : n - 0 ≡ n = omega arith in ap falling e

-- one dimension more
pub falling_next : (done : List Data) (n i : ℕ) → i < n → before (done ++ number (unsigned (n - 1 - i)) ∷ []) (falling (n - (i + 1))) ≡ before done (falling (n - i))
falling_next done n i h = before_more done (number (unsigned (n - 1 - i))) (falling (n - (i + 1))) ∙ ap (before done) (sym (falling_more n i h))

-- at last none is left
pub falling_last : (done : List Data) (n : ℕ) → before done (falling (n - n)) ≡ items_of done
falling_last done n = let e : n - n ≡ 0 = omega arith in ap (λ k. before done (falling k)) e ∙ before_none done
