-- Lists of blocks: one block for each number of a range.
use Rattle.std.proofs.Common.{◌≡◌, ℕ, zero, suc, ◌+◌, ◌-◌, ◌*◌, ◌<◌, ◌≤◌, List, [], ◌∷◌, ◌++◌, length, take, drop, refl, sym, ap, ap₂, ◌∙◌, arith, append_assoc, add_assoc}
use Rattle.std.specs.List.{range_with_len, flat_map}
use Rattle.std.proofs.lemmas.Grind.{flat_map-append}
use Rattle.std.proofs.lemmas.List.{append-nil, length-append}
use Rattle.std.proofs.Math.Nat.{add-mul}
use Rattle.std.proofs.Math.Seq.{take-append_seam, drop-append_seam, drop-append-add}
use Rattle.zarr_grids_boxes.proofs.Places.{range_with_len-append}

-- the first m blocks are of f, and the n after them of g
abbrev pub half : (ℕ → List ℕ) → (ℕ → List ℕ) → ℕ → ℕ → ℕ → List ℕ
half f g a m n = flat_map f (range_with_len a m) ++ flat_map g (range_with_len (a + m) n)

pub flat_map-flat_map : {X Y Z : Type 0} (f : Y → List Z) (g : X → List Y) (xs : List X) → flat_map f (flat_map g xs) ≡ flat_map (λ x. flat_map f (g x)) xs
flat_map-flat_map f g [] = refl
flat_map-flat_map f g (x ∷ xs) = flat_map-append f (g x) (flat_map g xs) ∙ ap (λ zs. flat_map f (g x) ++ zs) (flat_map-flat_map f g xs)

pub blocks_congr : (f g : ℕ → List ℕ) (a n : ℕ) → ((k : ℕ) → a ≤ k → k < a + n → f k ≡ g k) → flat_map f (range_with_len a n) ≡ flat_map g (range_with_len a n)
blocks_congr f g a zero h = refl
blocks_congr f g a (suc n) h =
    ap (λ ys. ys ++ flat_map f (range_with_len (a + 1) n)) (h a (omega arith) (omega arith))
    ∙ ap (λ ys. g a ++ ys) (blocks_congr f g (a + 1) n (λ k l u. h k (omega arith) (omega arith)))

pub length-blocks : (f : ℕ → List ℕ) (len a n : ℕ) → ((k : ℕ) → length (f k) ≡ len) → length (flat_map f (range_with_len a n)) ≡ n * len
length-blocks f len a zero h = let z : 0 ≡ 0 * len = omega arith in z
length-blocks f len a (suc n) h =
    let i = length-blocks f len (a + 1) n h in
    let s : suc n * len ≡ len + n * len = omega (arith, add-mul 1 n len) in
    let e = h a in
    let p = length-append (f a) (flat_map f (range_with_len (a + 1) n)) in
    omega arith

pub blocks-split : (f : ℕ → List ℕ) (a m n : ℕ) → flat_map f (range_with_len a (m + n)) ≡ half f f a m n
blocks-split f a m n = ap (flat_map f) (range_with_len-append a m n) ∙ flat_map-append f (range_with_len a m) (range_with_len (a + m) n)

pub take_front : (xs ys : List ℕ) (n : ℕ) → length xs ≡ n → take n (xs ++ ys) ≡ xs
take_front xs ys n e = ap (λ k. take k (xs ++ ys)) (sym e) ∙ take-append_seam xs ys

pub drop_front : (xs ys : List ℕ) (n : ℕ) → length xs ≡ n → drop n (xs ++ ys) ≡ ys
drop_front xs ys n e = ap (λ k. drop k (xs ++ ys)) (sym e) ∙ drop-append_seam xs ys

pub drop_front_more : (xs ys : List ℕ) (n m : ℕ) → length xs ≡ n → drop (n + m) (xs ++ ys) ≡ drop m ys
drop_front_more xs ys n m e = ap (λ k. drop (k + m) (xs ++ ys)) (sym e) ∙ drop-append-add xs ys m

-- a stretch of n blocks after the first m
pub stretch-half : (f g : ℕ → List ℕ) (len a m n r : ℕ) → ((k : ℕ) → length (f k) ≡ len) → ((k : ℕ) → length (g k) ≡ len) → take (n * len) (drop (m * len) (half f g a m (n + r))) ≡ flat_map g (range_with_len (a + m) n)
stretch-half f g len a m n r lf lg =
    ap (take (n * len)) (drop_front (flat_map f (range_with_len a m)) (flat_map g (range_with_len (a + m) (n + r))) (m * len) (length-blocks f len a m lf)
    ∙ blocks-split g (a + m) n r)
    ∙ take_front (flat_map g (range_with_len (a + m) n)) (flat_map g (range_with_len (a + m + n) r)) (n * len) (length-blocks g len (a + m) n lg)

pub stretch-blocks : (f : ℕ → List ℕ) (len a m n r : ℕ) → ((k : ℕ) → length (f k) ≡ len) → take (n * len) (drop (m * len) (flat_map f (range_with_len a (m + (n + r))))) ≡ flat_map f (range_with_len (a + m) n)
stretch-blocks f len a m n r lf = ap (λ xs. take (n * len) (drop (m * len) xs)) (blocks-split f a m (n + r)) ∙ stretch-half f f len a m n r lf lf

-- the next n blocks are replaced by those of f
pub half-put : (f g : ℕ → List ℕ) (len a m n r : ℕ) → ((k : ℕ) → length (f k) ≡ len) → ((k : ℕ) → length (g k) ≡ len) → take (m * len) (half f g a m (n + r)) ++ (flat_map f (range_with_len (a + m) n) ++ drop (m * len + n * len) (half f g a m (n + r))) ≡ half f g a (m + n) r
half-put f g len a m n r lf lg =
    let front : List ℕ = flat_map f (range_with_len a m) in
    let new : List ℕ = flat_map f (range_with_len (a + m) n) in
    let back : List ℕ = flat_map g (range_with_len (a + m) (n + r)) in
    let rest : List ℕ = flat_map g (range_with_len (a + m + n) r) in
    let front_is : take (m * len) (front ++ back) ≡ front = take_front front back (m * len) (length-blocks f len a m lf) in
    let rest_is : drop (m * len + n * len) (front ++ back) ≡ rest =
    drop_front_more front back (m * len) (n * len) (length-blocks f len a m lf)
    ∙ ap (drop (n * len)) (blocks-split g (a + m) n r)
    ∙ drop_front (flat_map g (range_with_len (a + m) n)) rest (n * len) (length-blocks g len (a + m) n lg) in
    ap₂ (λ xs ys. xs ++ (new ++ ys)) front_is rest_is
    ∙ sym (append_assoc front new rest)
    ∙ ap (λ xs. xs ++ rest) (sym (blocks-split f a m n))
    ∙ ap (λ b. flat_map f (range_with_len a (m + n)) ++ flat_map g (range_with_len b r)) (add_assoc a m n)

-- ---- one block
pub block_at : (f : ℕ → List ℕ) (len a n m at_byte : ℕ) → ((k : ℕ) → length (f k) ≡ len) → m < n → at_byte ≡ m * len → take len (drop at_byte (flat_map f (range_with_len a n))) ≡ f (a + m)
block_at f len a n m at_byte lf h e =
    let o : len ≡ 1 * len = omega arith in
    let c : n ≡ m + (1 + (n - m - 1)) = omega arith in
    ap (λ b. take len (drop b (flat_map f (range_with_len a n)))) e
    ∙ ap (λ i. take len (drop (m * len) (flat_map f (range_with_len a i)))) c
    ∙ ap (λ b. take b (drop (m * len) (flat_map f (range_with_len a (m + (1 + (n - m - 1))))))) o
    ∙ stretch-blocks f len a m 1 (n - m - 1) lf
    ∙ append-nil (f (a + m))

pub half-block_at : (f g : ℕ → List ℕ) (len a m n at_byte : ℕ) → ((k : ℕ) → length (f k) ≡ len) → ((k : ℕ) → length (g k) ≡ len) → 0 < n → at_byte ≡ m * len → take len (drop at_byte (half f g a m n)) ≡ g (a + m)
half-block_at f g len a m n at_byte lf lg h e =
    let o : len ≡ 1 * len = omega arith in
    let c : n ≡ 1 + (n - 1) = omega arith in
    ap (λ b. take len (drop b (half f g a m n))) e
    ∙ ap (λ i. take len (drop (m * len) (half f g a m i))) c
    ∙ ap (λ b. take b (drop (m * len) (half f g a m (1 + (n - 1))))) o
    ∙ stretch-half f g len a m 1 (n - 1) lf lg
    ∙ append-nil (g (a + m))

-- the next block is replaced by that of f
pub half-more : (f g : ℕ → List ℕ) (len a m n from_byte to_byte : ℕ) (block : List ℕ) → ((k : ℕ) → length (f k) ≡ len) → ((k : ℕ) → length (g k) ≡ len) → 0 < n → from_byte ≡ m * len → to_byte ≡ from_byte + len → block ≡ f (a + m) → take from_byte (half f g a m n) ++ (block ++ drop to_byte (half f g a m n)) ≡ half f g a (m + 1) (n - 1)
half-more f g len a m n from_byte to_byte block lf lg h e w b =
    let c : n ≡ 1 + (n - 1) = omega arith in
    let t : to_byte ≡ m * len + 1 * len = omega arith in
    ap (λ i. take from_byte (half f g a m i) ++ (block ++ drop to_byte (half f g a m i))) c
    ∙ ap₂ (λ i j. take i (half f g a m (1 + (n - 1))) ++ (block ++ drop j (half f g a m (1 + (n - 1))))) e t
    ∙ ap (λ xs. take (m * len) (half f g a m (1 + (n - 1))) ++ (xs ++ drop (m * len + 1 * len) (half f g a m (1 + (n - 1))))) (b ∙ sym (append-nil (f (a + m))))
    ∙ half-put f g len a m 1 (n - 1) lf lg
