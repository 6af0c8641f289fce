use Rattle.std.proofs.Common.{◌≡◌, ℕ, zero, suc, ◌<◌, List, [], ◌∷◌, ◌++◌, length, map, take, drop, get_or, set, ap, ◌∙◌, sym, refl, arith, add-one, Bool, true, false, ◌==◌, if◌then◌else◌}
use mir.Val.{bool_byte}
use Rattle.zarr_codecs_sections.specs.Marks.{mark_of}
use Rattle.zarr_codecs_sections.proofs.masks.clean_marks.Goals as goal

-- the number that comes next is as it was
next_kept : (ns : List ℕ) (i : ℕ) → get_or (map mark_of (take i ns) ++ drop i ns) i 0 ≡ get_or ns i 0
next_kept [] zero = refl
next_kept [] (suc i) = refl
next_kept (n ∷ ns) zero = refl
next_kept (n ∷ ns) (suc i) = next_kept ns i

-- one mark more
one_more : (ns : List ℕ) (i : ℕ) → i < length ns → set (map mark_of (take i ns) ++ drop i ns) i (mark_of (get_or ns i 0)) ≡ map mark_of (take (suc i) ns) ++ drop (suc i) ns
one_more [] i h = absurd (omega (arith, h))
one_more (n ∷ ns) zero h = refl
one_more (n ∷ ns) (suc i) h = ap (λ ms. mark_of n ∷ ms) (one_more ns i (omega (arith, h)))

byte_of : (b : Bool) → bool_byte b ≡ (if b then 1 else 0)
byte_of true = refl
byte_of false = refl

pub loop-mark-preserved : goal.loop-mark-preserved
loop-mark-preserved c =
    let ns = c.args.numbers.now in
    let i = c.loop-mark.mark-index in
    let now = map mark_of (take i ns) ++ drop i ns in
    let less : i < length ns = omega (arith, c.loop-mark-test.true, ap length c.deref_mut-mark-items.ensures.value, ap length (c.in_ok-marks.ensures.items_if_clones_equal (λ x y e. e))) in
    ap (λ v. set c.loop-mark.mark-items i v) (byte_of (get_or c.loop-mark.mark-items i 0 == 1))
    ∙ (ap (λ ms. set ms i (mark_of (get_or ms i 0))) c.loop-mark.invariant
    ∙ (ap (λ m. set now i (mark_of m)) (next_kept ns i)
    ∙ (one_more ns i less ∙ ap (λ k. map mark_of (take k ns) ++ drop k ns) (sym (add-one i)))))
