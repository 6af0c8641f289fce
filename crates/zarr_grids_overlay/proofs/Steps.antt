-- The steps of an overlay, one dimension at a time.
use Rattle.std.proofs.Common.{◌≡◌, ℕ, suc, ◌+◌, ◌-◌, ◌*◌, ◌/◌, ◌<◌, ◌≤◌, min, max, List, [], ◌∷◌, ◌++◌, length, get_or, take, drop, refl, sym, ap, ap₂, ◌∙◌, arith, Bool, true, false, length-drop, length-take, nat_le, nat_lt, get_or-drop}
use Rattle.std.specs.List.{range_with_len, flat_map}
use Rattle.std.proofs.lemmas.List.{drop-drop, take_all}
use Rattle.std.proofs.lemmas.Bool.{leb-true, leb-false, ltb-true, ltb-false}
use Rattle.std.proofs.Math.Nat.{mul_assoc, add-mul, mul-div_cancel_left, mul-le-mul_right, mul-one}
use Rattle.zarr_grids_boxes.specs.Boxes.{product, EndsFit}
use Rattle.zarr_grids_boxes.specs.Laid.{laid, overlaid, HasWidth}
use Rattle.zarr_grids_overlay.proofs.Blocks.{half, blocks_congr, blocks-split, block_at, half-block_at, half-more, half-put, stretch-blocks}
use Rattle.zarr_grids_overlay.proofs.Overlays.{part, laid-parts, length-part, part-inside, part-outside, HasWidth-overlaid, laid-overlaid_same}

-- ---- bytes
product-first : (es : List ℕ) → 0 < length es → product es ≡ get_or es 0 0 * product (drop 1 es)
product-first [] h = absurd (omega arith)
product-first (e ∷ es) h = refl

pub len-blocks : (len width : ℕ) (es : List ℕ) → 0 < length es → len ≡ product es * width → len ≡ get_or es 0 0 * (product (drop 1 es) * width)
len-blocks len width es h e = e ∙ ap (λ n. n * width) (product-first es h) ∙ mul_assoc (get_or es 0 0) (product (drop 1 es)) width

pub block_len-div : (len width : ℕ) (es : List ℕ) → 0 < length es → 0 < get_or es 0 0 → len ≡ product es * width → len / get_or es 0 0 ≡ product (drop 1 es) * width
block_len-div len width es h p e = ap (λ n. n / get_or es 0 0) (len-blocks len width es h e) ∙ mul-div_cancel_left (product (drop 1 es) * width) p

pub stretch_end : (len e inner m n : ℕ) → len ≡ e * inner → m + n ≤ e → m * inner + n * inner ≤ len
stretch_end len e inner m n h l = let a = add-mul m n inner in let b = mul-le-mul_right inner l in omega arith

pub numbers_end : (len width inner first count : ℕ) (es : List ℕ) → 0 < length es → len ≡ product es * width → inner ≡ product (drop 1 es) * width → first + count ≤ get_or es 0 0 → first * inner + count * inner ≤ len
numbers_end len width inner first count es h e i l = stretch_end len (get_or es 0 0) inner first count (len-blocks len width es h e ∙ ap (λ n. get_or es 0 0 * n) (sym i)) l

pub number_end : (len width inner number : ℕ) (es : List ℕ) → 0 < length es → len ≡ product es * width → inner ≡ product (drop 1 es) * width → number < get_or es 0 0 → number * inner + inner ≤ len
number_end len width inner number es h e i l = let a = numbers_end len width inner number 1 es h e i (omega arith) in omega arith

pub EndsFit-rest : (ts es : List ℕ) → EndsFit ts es → EndsFit (drop 1 ts) (drop 1 es)
EndsFit-rest [] es h k l = absurd (omega arith)
EndsFit-rest (t ∷ ts) [] h k l = let a = h (suc k) (omega arith) in omega arith
EndsFit-rest (t ∷ ts) (e ∷ es) h k l = h (suc k) (omega arith)

pub EndsFit-along : (ts es vs ws : List ℕ) → vs ≡ drop 1 ts → ws ≡ drop 1 es → EndsFit ts es → EndsFit vs ws
EndsFit-along ts es vs ws a b h =
    let t : length vs ≡ length (drop 1 ts) = ap length a in
    λ k l. let f = EndsFit-rest ts es h k (omega arith) in let x = ap (λ ys. get_or ys k 0) a in let y = ap (λ ys. get_or ys k 0) b in omega arith

pub rest-all : (xs : List ℕ) → take (length xs - 1) (drop 1 xs) ≡ drop 1 xs
rest-all xs = take_all (length xs - 1) (drop 1 xs) (simp length-drop (omega arith))

-- the length of the bytes of one number of the first dimension
pub length-row : (xs vs es : List ℕ) (len width inner first bytes : ℕ) → length xs ≡ len → first + inner ≤ len → bytes ≡ inner → vs ≡ drop 1 es → inner ≡ product (drop 1 es) * width → length (take bytes (drop first xs)) ≡ product vs * width
length-row xs vs es len width inner first bytes e l b v i =
    let a : length (take bytes (drop first xs)) ≡ inner = simp (length-take, length-drop) (omega arith) in
    a ∙ i ∙ ap (λ ys. product ys * width) (sym v)

-- ---- the second of two dimensions
two-rest : (xs : List ℕ) → length xs ≡ 2 → drop 1 xs ≡ get_or xs 1 0 ∷ []
two-rest [] h = absurd (omega arith)
two-rest (x ∷ []) h = absurd (omega arith)
two-rest (x ∷ y ∷ []) h = refl
two-rest (x ∷ y ∷ z ∷ zs) h = absurd (omega arith)

two-product : (es : List ℕ) (width : ℕ) → length es ≡ 2 → product (drop 1 es) * width ≡ get_or es 1 0 * width
two-product es width h = ap (λ ys. product ys * width) (two-rest es h) ∙ ap (λ n. n * width) (mul-one (get_or es 1 0))

pub line_end : (xs es : List ℕ) (len width inner first bytes left count : ℕ) → length xs ≡ len → first + inner ≤ len → bytes ≡ inner → length es ≡ 2 → inner ≡ product (drop 1 es) * width → left + count ≤ get_or es 1 0 → left * width + count * width ≤ length (take bytes (drop first xs))
line_end xs es len width inner first bytes left count e l b h i n = stretch_end (length (take bytes (drop first xs))) (get_or es 1 0) width left count (length-row xs (drop 1 es) es len width inner first bytes e l b refl i ∙ two-product es width h) n

-- ---- cells
-- with no dimension there is one cell
pub laid-no_dimension : (ts es ss us : List ℕ) (old new : List ℕ → List ℕ) (xs : List ℕ) → length ts ≡ 0 → length es ≡ length ts → length ss ≡ length ts → length us ≡ length ts → xs ≡ laid new ss us → xs ≡ laid (overlaid ss us new old) ts es
laid-no_dimension [] [] [] [] old new xs z a b c e = e
laid-no_dimension [] [] [] (u ∷ us) old new xs z a b c e = absurd (omega arith)
laid-no_dimension [] [] (s ∷ ss) us old new xs z a b c e = absurd (omega arith)
laid-no_dimension [] (e ∷ es) ss us old new xs z a b c w = absurd (omega arith)
laid-no_dimension (t ∷ ts) es ss us old new xs z a b c e = absurd (omega arith)

module _ (ts es ss us : List ℕ) (width : ℕ) (old new : List ℕ → List ℕ) (some : 0 < length ts) (same_e : length es ≡ length ts) (same_s : length ss ≡ length ts) (same_u : length us ≡ length ts) (wide_old : HasWidth width old) (wide_new : HasWidth width new) where
  length-old : (k : ℕ) → length (part old ts es k) ≡ product (drop 1 es) * width
  length-old = length-part old width ts es same_e wide_old

  length-final : (k : ℕ) → length (part (overlaid ss us new old) ts es k) ≡ product (drop 1 es) * width
  length-final = length-part (overlaid ss us new old) width ts es same_e (HasWidth-overlaid width ss us new old wide_old wide_new)

  -- the boxes share no number of the first dimension
  pub not_shared : (xs : List ℕ) → min (get_or ts 0 0 + get_or es 0 0) (get_or ss 0 0 + get_or us 0 0) ≤ max (get_or ts 0 0) (get_or ss 0 0) → xs ≡ laid old ts es → xs ≡ laid (overlaid ss us new old) ts es
  not_shared xs h e =
      e ∙ laid-parts old ts es some same_e
      ∙ blocks_congr (part old ts es) (part (overlaid ss us new old) ts es) (get_or ts 0 0) (get_or es 0 0) (λ k l u. sym (part-outside ss us new old ts es k (omega arith) (omega arith) (λ a. omega arith)))
      ∙ sym (laid-parts (overlaid ss us new old) ts es some same_e)

  -- no number is done yet
  pub begun : (xs : List ℕ) (low m : ℕ) → low ≡ max (get_or ts 0 0) (get_or ss 0 0) → low ≤ get_or ts 0 0 + get_or es 0 0 → m ≡ low - get_or ts 0 0 → xs ≡ laid old ts es → xs ≡ half (part (overlaid ss us new old) ts es) (part old ts es) (get_or ts 0 0) m (get_or es 0 0 - m)
  begun xs low m w h v e =
      let c : get_or es 0 0 ≡ m + (get_or es 0 0 - m) = omega arith in
      e ∙ laid-parts old ts es some same_e
      ∙ ap (λ n. flat_map (part old ts es) (range_with_len (get_or ts 0 0) n)) c
      ∙ blocks-split (part old ts es) (get_or ts 0 0) m (get_or es 0 0 - m)
      ∙ ap (λ ys. ys ++ flat_map (part old ts es) (range_with_len (get_or ts 0 0 + m) (get_or es 0 0 - m)))
      (blocks_congr (part old ts es) (part (overlaid ss us new old) ts es) (get_or ts 0 0) m (λ k l u. sym (part-outside ss us new old ts es k (omega arith) (omega arith) (λ a. absurd (omega arith)))))

  -- every shared number is done
  pub finished : (xs : List ℕ) (m : ℕ) → get_or ts 0 0 + m ≡ min (get_or ts 0 0 + get_or es 0 0) (get_or ss 0 0 + get_or us 0 0) → xs ≡ half (part (overlaid ss us new old) ts es) (part old ts es) (get_or ts 0 0) m (get_or es 0 0 - m) → xs ≡ laid (overlaid ss us new old) ts es
  finished xs m h e =
      let c : m + (get_or es 0 0 - m) ≡ get_or es 0 0 = omega arith in
      e
      ∙ ap (λ ys. flat_map (part (overlaid ss us new old) ts es) (range_with_len (get_or ts 0 0) m) ++ ys)
      (blocks_congr (part old ts es) (part (overlaid ss us new old) ts es) (get_or ts 0 0 + m) (get_or es 0 0 - m) (λ k l u. sym (part-outside ss us new old ts es k (omega arith) (omega arith) (λ a. omega arith))))
      ∙ sym (blocks-split (part (overlaid ss us new old) ts es) (get_or ts 0 0) m (get_or es 0 0 - m))
      ∙ ap (λ n. flat_map (part (overlaid ss us new old) ts es) (range_with_len (get_or ts 0 0) n)) c
      ∙ sym (laid-parts (overlaid ss us new old) ts es some same_e)

  -- ---- one number of the first dimension
  pub old_part : (xs : List ℕ) (m n at_byte inner : ℕ) → inner ≡ product (drop 1 es) * width → 0 < n → at_byte ≡ m * inner → xs ≡ half (part (overlaid ss us new old) ts es) (part old ts es) (get_or ts 0 0) m n → take inner (drop at_byte xs) ≡ part old ts es (get_or ts 0 0 + m)
  old_part xs m n at_byte inner i h b e =
      ap (λ ys. take inner (drop at_byte ys)) e
      ∙ half-block_at (part (overlaid ss us new old) ts es) (part old ts es) inner (get_or ts 0 0) m n at_byte (λ k. length-final k ∙ sym i) (λ k. length-old k ∙ sym i) h b

  pub new_part : (xs : List ℕ) (m at_byte inner k : ℕ) → inner ≡ product (drop 1 us) * width → m < get_or us 0 0 → at_byte ≡ m * inner → get_or ss 0 0 + m ≡ k → xs ≡ laid new ss us → take inner (drop at_byte xs) ≡ part new ss us k
  new_part xs m at_byte inner k i h b v e =
      ap (λ ys. take inner (drop at_byte ys)) (e ∙ laid-parts new ss us (omega arith) (omega arith))
      ∙ block_at (part new ss us) inner (get_or ss 0 0) (get_or us 0 0) m at_byte (λ k. length-part new width ss us (omega arith) wide_new k ∙ sym i) h b
      ∙ ap (part new ss us) v

  pub more : (xs ys zs : List ℕ) (m n from_byte to_byte inner : ℕ) → inner ≡ product (drop 1 es) * width → 0 < n → from_byte ≡ m * inner → to_byte ≡ from_byte + inner → get_or ss 0 0 ≤ get_or ts 0 0 + m → get_or ts 0 0 + m < get_or ss 0 0 + get_or us 0 0 → ys ≡ laid (overlaid (drop 1 ss) (drop 1 us) (λ r. new ((get_or ts 0 0 + m) ∷ r)) (λ r. old ((get_or ts 0 0 + m) ∷ r))) (drop 1 ts) (drop 1 es) → zs ≡ take from_byte xs ++ (ys ++ drop to_byte xs) → xs ≡ half (part (overlaid ss us new old) ts es) (part old ts es) (get_or ts 0 0) m n → zs ≡ half (part (overlaid ss us new old) ts es) (part old ts es) (get_or ts 0 0) (m + 1) (n - 1)
  more xs ys zs m n from_byte to_byte inner i h b w l u y z e =
      z ∙ ap (λ vs. take from_byte vs ++ (ys ++ drop to_byte vs)) e
      ∙ half-more (part (overlaid ss us new old) ts es) (part old ts es) inner (get_or ts 0 0) m n from_byte to_byte ys (λ k. length-final k ∙ sym i) (λ k. length-old k ∙ sym i) h b w
      (y ∙ sym (part-inside ss us new old ts es (get_or ts 0 0 + m) (omega arith) (omega arith) l u))

  -- ---- a stretch: the other dimensions are the same
  part-same : (k : ℕ) → drop 1 ts ≡ drop 1 ss → drop 1 es ≡ drop 1 us → get_or ss 0 0 ≤ k → k < get_or ss 0 0 + get_or us 0 0 → length (drop 1 us) ≡ length (drop 1 ss) → part new ss us k ≡ part (overlaid ss us new old) ts es k
  part-same k a b l u r =
      sym (part-inside ss us new old ts es k (omega arith) (omega arith) l u
      ∙ ap₂ (λ vs ws. laid (overlaid (drop 1 ss) (drop 1 us) (λ r. new (k ∷ r)) (λ r. old (k ∷ r))) vs ws) a b
      ∙ laid-overlaid_same (λ r. new (k ∷ r)) (λ r. old (k ∷ r)) (drop 1 ss) (drop 1 us) r)

  pub stretch : (xs ys zs : List ℕ) (low count inner to_byte from_byte bytes : ℕ) → drop 1 ts ≡ drop 1 ss → drop 1 es ≡ drop 1 us → low ≡ max (get_or ts 0 0) (get_or ss 0 0) → low + count ≡ min (get_or ts 0 0 + get_or es 0 0) (get_or ss 0 0 + get_or us 0 0) → inner ≡ product (drop 1 es) * width → to_byte ≡ (low - get_or ts 0 0) * inner → from_byte ≡ (low - get_or ss 0 0) * inner → bytes ≡ count * inner → xs ≡ laid old ts es → ys ≡ laid new ss us → zs ≡ take to_byte xs ++ (take bytes (drop from_byte ys) ++ drop (to_byte + bytes) xs) → zs ≡ laid (overlaid ss us new old) ts es
  stretch xs ys zs low count inner to_byte from_byte bytes a b v w i p q c x y z =
      finished zs (low - get_or ts 0 0 + count) (omega arith) (z ∙ put) where
        e_is : get_or es 0 0 - (low - get_or ts 0 0) ≡ count + (get_or es 0 0 - (low - get_or ts 0 0 + count))
        e_is = omega arith

        u_is : get_or us 0 0 ≡ (low - get_or ss 0 0) + (count + (get_or us 0 0 - (low - get_or ss 0 0 + count)))
        u_is = omega arith

        rest_same : length (drop 1 us) ≡ length (drop 1 ss)
        rest_same = simp length-drop (omega arith)

        begins : xs ≡ half (part (overlaid ss us new old) ts es) (part old ts es) (get_or ts 0 0) (low - get_or ts 0 0) (count + (get_or es 0 0 - (low - get_or ts 0 0 + count)))
        begins = begun xs low (low - get_or ts 0 0) v (omega arith) refl x ∙ ap (half (part (overlaid ss us new old) ts es) (part old ts es) (get_or ts 0 0) (low - get_or ts 0 0)) e_is

        inner_same : (k : ℕ) → length (part new ss us k) ≡ inner
        inner_same k = length-part new width ss us (omega arith) wide_new k ∙ ap (λ vs. product vs * width) (sym b) ∙ sym i

        middle : take bytes (drop from_byte ys) ≡ flat_map (part (overlaid ss us new old) ts es) (range_with_len (get_or ts 0 0 + (low - get_or ts 0 0)) count)
        middle =
            ap₂ (λ n k. take n (drop k ys)) c q
            ∙ ap (λ vs. take (count * inner) (drop ((low - get_or ss 0 0) * inner) vs)) (y ∙ laid-parts new ss us (omega arith) (omega arith) ∙ ap (λ n. flat_map (part new ss us) (range_with_len (get_or ss 0 0) n)) u_is)
            ∙ stretch-blocks (part new ss us) inner (get_or ss 0 0) (low - get_or ss 0 0) count (get_or us 0 0 - (low - get_or ss 0 0 + count)) inner_same
            ∙ ap (λ n. flat_map (part new ss us) (range_with_len n count)) (let k : get_or ss 0 0 + (low - get_or ss 0 0) ≡ get_or ts 0 0 + (low - get_or ts 0 0) = omega arith in k)
            ∙ blocks_congr (part new ss us) (part (overlaid ss us new old) ts es) (get_or ts 0 0 + (low - get_or ts 0 0)) count (λ k l h. part-same k a b (omega arith) (omega arith) rest_same)

        put : take to_byte xs ++ (take bytes (drop from_byte ys) ++ drop (to_byte + bytes) xs) ≡ half (part (overlaid ss us new old) ts es) (part old ts es) (get_or ts 0 0) (low - get_or ts 0 0 + count) (get_or es 0 0 - (low - get_or ts 0 0 + count))
        put =
            ap₂ (λ vs ws. take to_byte vs ++ (ws ++ drop (to_byte + bytes) vs)) begins middle
            ∙ ap₂ (λ n k. take n (half (part (overlaid ss us new old) ts es) (part old ts es) (get_or ts 0 0) (low - get_or ts 0 0) (count + (get_or es 0 0 - (low - get_or ts 0 0 + count)))) ++ (flat_map (part (overlaid ss us new old) ts es) (range_with_len (get_or ts 0 0 + (low - get_or ts 0 0)) count) ++ drop (n + k) (half (part (overlaid ss us new old) ts es) (part old ts es) (get_or ts 0 0) (low - get_or ts 0 0) (count + (get_or es 0 0 - (low - get_or ts 0 0 + count)))))) p c
            ∙ half-put (part (overlaid ss us new old) ts es) (part old ts es) inner (get_or ts 0 0) (low - get_or ts 0 0) count (get_or es 0 0 - (low - get_or ts 0 0 + count)) (λ k. length-final k ∙ sym i) (λ k. length-old k ∙ sym i)

  -- one row: the call below puts the source's row over the target's
  pub row : (xs source ys zs tr er sr ur : List ℕ) (m n next left at_byte from_byte inner source_inner bytes source_bytes : ℕ) → tr ≡ drop 1 ts → er ≡ drop 1 es → sr ≡ drop 1 ss → ur ≡ drop 1 us → inner ≡ product (drop 1 es) * width → source_inner ≡ product (drop 1 us) * width → at_byte ≡ m * inner → from_byte ≡ (get_or ts 0 0 + m - get_or ss 0 0) * source_inner → bytes ≡ inner → source_bytes ≡ source_inner → 0 < n → get_or ss 0 0 ≤ get_or ts 0 0 + m → get_or ts 0 0 + m < get_or ss 0 0 + get_or us 0 0
      → ((before after : List ℕ → List ℕ) → HasWidth width before → HasWidth width after → take bytes (drop at_byte xs) ≡ laid before tr er → take source_bytes (drop from_byte source) ≡ laid after sr ur → ys ≡ laid (overlaid sr ur after before) tr er)
      → zs ≡ take at_byte xs ++ (ys ++ drop bytes (drop at_byte xs)) → next ≡ m + 1 → left ≡ n - 1 → source ≡ laid new ss us
      → xs ≡ half (part (overlaid ss us new old) ts es) (part old ts es) (get_or ts 0 0) m n
      → zs ≡ half (part (overlaid ss us new old) ts es) (part old ts es) (get_or ts 0 0) next left
  row xs source ys zs tr er sr ur m n next left at_byte from_byte inner source_inner bytes source_bytes rt re rs ru i j a f b c h l u call z p q y e =
      more xs ys zs m n at_byte (at_byte + bytes) inner i h a (omega arith) l u
      (call (λ r. old ((get_or ts 0 0 + m) ∷ r)) (λ r. new ((get_or ts 0 0 + m) ∷ r)) (λ r. wide_old ((get_or ts 0 0 + m) ∷ r)) (λ r. wide_new ((get_or ts 0 0 + m) ∷ r))
      (ap (λ k. take k (drop at_byte xs)) b ∙ old_part xs m n at_byte inner i h a e ∙ sym (ap₂ (laid (λ r. old ((get_or ts 0 0 + m) ∷ r))) rt re))
      (ap (λ k. take k (drop from_byte source)) c ∙ new_part source (get_or ts 0 0 + m - get_or ss 0 0) from_byte source_inner (get_or ts 0 0 + m) j (omega arith) f (omega arith) y ∙ sym (ap₂ (laid (λ r. new ((get_or ts 0 0 + m) ∷ r))) rs ru))
      ∙ ap₂ (λ vs ws. laid (overlaid vs ws (λ r. new ((get_or ts 0 0 + m) ∷ r)) (λ r. old ((get_or ts 0 0 + m) ∷ r))) tr er) rs ru
      ∙ ap₂ (laid (overlaid (drop 1 ss) (drop 1 us) (λ r. new ((get_or ts 0 0 + m) ∷ r)) (λ r. old ((get_or ts 0 0 + m) ∷ r)))) rt re)
      (z ∙ ap (λ vs. take at_byte xs ++ (ys ++ vs)) (drop-drop bytes at_byte xs)) e
      ∙ sym (ap₂ (half (part (overlaid ss us new old) ts es) (part old ts es) (get_or ts 0 0)) p q)

-- ---- two dimensions
module _ (ts es ss us : List ℕ) (width : ℕ) (old new : List ℕ → List ℕ) (two : length ts ≡ 2) (same_e : length es ≡ length ts) (same_s : length ss ≡ length ts) (same_u : length us ≡ length ts) (wide_old : HasWidth width old) (wide_new : HasWidth width new) where
  -- the boxes share no number of the second dimension
  pub no_line : (xs : List ℕ) → min (get_or ts 1 0 + get_or es 1 0) (get_or ss 1 0 + get_or us 1 0) ≤ max (get_or ts 1 0) (get_or ss 1 0) → xs ≡ laid old ts es → xs ≡ laid (overlaid ss us new old) ts es
  no_line xs h e =
      e ∙ laid-parts old ts es (omega arith) same_e
      ∙ blocks_congr (part old ts es) (part (overlaid ss us new old) ts es) (get_or ts 0 0) (get_or es 0 0) (λ k l u. sym (each k (nat_le (get_or ss 0 0) k) (nat_lt k (get_or ss 0 0 + get_or us 0 0)) refl refl))
      ∙ sym (laid-parts (overlaid ss us new old) ts es (omega arith) same_e) where
        other : (xs : List ℕ) → get_or (drop 1 xs) 0 0 ≡ get_or xs 1 0
        other xs = get_or-drop 1 xs 0 0

        apart : min (get_or (drop 1 ts) 0 0 + get_or (drop 1 es) 0 0) (get_or (drop 1 ss) 0 0 + get_or (drop 1 us) 0 0) ≤ max (get_or (drop 1 ts) 0 0) (get_or (drop 1 ss) 0 0)
        apart = rw (other ts, other es, other ss, other us) h

        some : 0 < length (drop 1 ts)
        some = simp length-drop (omega arith)

        rank : (vs : List ℕ) → length vs ≡ length ts → length (drop 1 vs) ≡ length (drop 1 ts)
        rank vs e = simp length-drop (omega arith)

        each : (k : ℕ) (from below : Bool) → nat_le (get_or ss 0 0) k ≡ from → nat_lt k (get_or ss 0 0 + get_or us 0 0) ≡ below → part (overlaid ss us new old) ts es k ≡ part old ts es k
        each k true true a b =
            part-inside ss us new old ts es k (omega arith) (omega arith) (leb-true (get_or ss 0 0) k a) (ltb-true k (get_or ss 0 0 + get_or us 0 0) b)
            ∙ sym (not_shared (drop 1 ts) (drop 1 es) (drop 1 ss) (drop 1 us) width (λ r. old (k ∷ r)) (λ r. new (k ∷ r)) some (rank es same_e) (rank ss same_s) (rank us same_u) (λ r. wide_old (k ∷ r)) (λ r. wide_new (k ∷ r)) (part old ts es k) apart refl)
        each k true false a b = let l = ltb-false k (get_or ss 0 0 + get_or us 0 0) b in part-outside ss us new old ts es k (omega arith) (omega arith) (λ f. l)
        each k false below a b = let l = leb-false (get_or ss 0 0) k a in part-outside ss us new old ts es k (omega arith) (omega arith) (λ f. absurd (omega arith))

  -- one line is one stretch
  pub line : (xs source ys zs : List ℕ) (m n next left at_byte from_byte inner source_inner bytes source_bytes low count to_byte there_byte stretch_bytes : ℕ) → inner ≡ product (drop 1 es) * width → source_inner ≡ product (drop 1 us) * width → at_byte ≡ m * inner → from_byte ≡ (get_or ts 0 0 + m - get_or ss 0 0) * source_inner → bytes ≡ inner → source_bytes ≡ source_inner → 0 < n → get_or ss 0 0 ≤ get_or ts 0 0 + m → get_or ts 0 0 + m < get_or ss 0 0 + get_or us 0 0
      → low ≡ max (get_or ts 1 0) (get_or ss 1 0) → low + count ≡ min (get_or ts 1 0 + get_or es 1 0) (get_or ss 1 0 + get_or us 1 0) → to_byte ≡ (low - get_or ts 1 0) * width → there_byte ≡ (low - get_or ss 1 0) * width → stretch_bytes ≡ count * width
      → ys ≡ take to_byte (take bytes (drop at_byte xs)) ++ (take stretch_bytes (drop there_byte (take source_bytes (drop from_byte source))) ++ drop (to_byte + stretch_bytes) (take bytes (drop at_byte xs)))
      → zs ≡ take at_byte xs ++ (ys ++ drop bytes (drop at_byte xs)) → next ≡ m + 1 → left ≡ n - 1 → source ≡ laid new ss us
      → xs ≡ half (part (overlaid ss us new old) ts es) (part old ts es) (get_or ts 0 0) m n
      → zs ≡ half (part (overlaid ss us new old) ts es) (part old ts es) (get_or ts 0 0) next left
  line xs source ys zs m n next left at_byte from_byte inner source_inner bytes source_bytes low count to_byte there_byte stretch_bytes i j a f b c h l u v w p q r copied z x y s e =
      row ts es ss us width old new (omega arith) same_e same_s same_u wide_old wide_new xs source ys zs (get_or ts 1 0 ∷ []) (get_or es 1 0 ∷ []) (get_or ss 1 0 ∷ []) (get_or us 1 0 ∷ []) m n next left at_byte from_byte inner source_inner bytes source_bytes
      (sym (two-rest ts two)) (sym (two-rest es (omega arith))) (sym (two-rest ss (omega arith))) (sym (two-rest us (omega arith))) i j a f b c h l u
      (λ before after wide_before wide_after here there. stretch (get_or ts 1 0 ∷ []) (get_or es 1 0 ∷ []) (get_or ss 1 0 ∷ []) (get_or us 1 0 ∷ []) width before after (omega arith) refl refl refl wide_before wide_after (take bytes (drop at_byte xs)) (take source_bytes (drop from_byte source)) ys low count width to_byte there_byte stretch_bytes refl refl v w (let o : width ≡ 1 * width = omega arith in o) p q r here there copied)
      z x y s e
