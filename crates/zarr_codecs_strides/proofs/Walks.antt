-- Walks along strides, and the bytes that they come by.
use Rattle.std.proofs.Common.{◌≡◌, ℕ, zero, suc, ◌+◌, ◌-◌, ◌*◌, ◌<◌, ◌≤◌, List, [], ◌∷◌, ◌++◌, length, ap, ◌∙◌, sym, refl, arith, append_assoc, subst}
use Rattle.std.specs.Prelude.{flat_map}
use Rattle.std.specs.List.{range_with_len}
use Rattle.std.proofs.Math.Nat.{mul-le-mul_right, mul-le-mul_left}
use Rattle.std.proofs.Math.Nat.{mul-pos}
use Rattle.std.proofs.lemmas.List.{append-nil}
use Rattle.std.proofs.lemmas.Grind.{flat_map-append}
use Rattle.zarr_grids_boxes.specs.Boxes.{product}
use Rattle.zarr_grids_boxes.proofs.Places.{range_with_len-append}
use Rattle.zarr_codecs_strides.specs.Strides.{strided, reach, stretch_at, walked}

-- a product that is not zero has no factor that is
pub first_some : (a b : ℕ) → 0 < a * b → 0 < a
first_some zero b h = let z : 0 * b ≡ 0 = omega arith in absurd (omega (arith, h, z))
first_some (suc a) b h = omega arith

pub second_some : (a b : ℕ) → 0 < a * b → 0 < b
second_some a zero h = let z : a * 0 ≡ 0 = omega arith in absurd (omega (arith, h, z))
second_some a (suc b) h = omega arith

-- a stretch stays within the bytes where it is not past another one that does
pub within : (m n width stretch long : ℕ) → m ≤ n → n * width + stretch ≤ long → m * width + stretch ≤ long
within m n width stretch long l h = let k = mul-le-mul_right {m = m} {n = n} width l in omega (arith, k, h)

pub number_small : (n width stretch long : ℕ) → 0 < width → n * width + stretch ≤ long → n ≤ long
number_small n width stretch long w h = let k = mul-le-mul_left {m = 1} {n = width} n w in let o : n * 1 ≡ n = omega arith in omega (arith, k, h, o)

-- one number more of the first dimension
pub reach_step : (base size stride rest i : ℕ) → i < size → base + i * stride + rest ≤ base + ((size - 1) * stride + rest)
reach_step base size stride rest i h = let k = mul-le-mul_right {m = i} {n = size - 1} stride (omega arith) in omega (arith, k)

pub flat_more : (f : ℕ → List ℕ) (xs ys zs : List ℕ) (n : ℕ) → ys ≡ xs ++ flat_map f (range_with_len 0 n) → zs ≡ ys ++ f n → zs ≡ xs ++ flat_map f (range_with_len 0 (n + 1))
flat_more f xs ys zs n h e =
    let z : 0 + n ≡ n = omega arith in
    let last : flat_map f (range_with_len (0 + n) 1) ≡ f n = ap (λ k. f k ++ []) z ∙ append-nil (f n) in
    e ∙ ap (λ vs. vs ++ f n) h ∙ append_assoc xs (flat_map f (range_with_len 0 n)) (f n)
    ∙ ap (λ vs. xs ++ (flat_map f (range_with_len 0 n) ++ vs)) (sym last)
    ∙ ap (λ vs. xs ++ vs) (sym (ap (flat_map f) (range_with_len-append 0 n 1) ∙ flat_map-append f (range_with_len 0 n) (range_with_len (0 + n) 1)))

pub flat_flat : {A B C : Type 0} (f : B → List C) (g : A → List B) (xs : List A) → flat_map f (flat_map g xs) ≡ flat_map (λ x. flat_map f (g x)) xs
flat_flat f g [] = refl
flat_flat f g (x ∷ xs) = flat_map-append f (g x) (flat_map g xs) ∙ ap (λ zs. flat_map f (g x) ++ zs) (flat_flat f g xs)

pub flat_same : {A B : Type 0} (f g : A → List B) (xs : List A) → ((x : A) → f x ≡ g x) → flat_map f xs ≡ flat_map g xs
flat_same f g [] h = refl
flat_same f g (x ∷ xs) h = ap (λ ys. ys ++ flat_map f xs) (h x) ∙ ap (λ ys. g x ++ ys) (flat_same f g xs h)

-- what a call on the other dimensions is given
pub record Inner (sizes strides : List ℕ) (base width stretch long size stride i : ℕ) (inner_sizes inner_strides : List ℕ) : Type 0 where
  pub steps : i * stride ≤ long
  pub place : base + i * stride ≤ long
  pub shorter : length inner_sizes < length sizes
  pub ranks : length inner_strides ≡ length inner_sizes
  pub some : 0 < product inner_sizes * width
  pub inside : (base + i * stride + reach inner_sizes inner_strides) * width + stretch ≤ long

-- the first dimension, and what is said of the others
pub record Front (sizes strides : List ℕ) (base width stretch long size stride : ℕ) (inner_sizes inner_strides : List ℕ) : Type 0 where
  pub sided : 0 < size
  pub wide : 0 < width
  pub rest : 0 < product inner_sizes
  pub inside : (base + ((size - 1) * stride + reach inner_sizes inner_strides)) * width + stretch ≤ long
  pub ranks : length inner_strides ≡ length inner_sizes
  pub shorter : length inner_sizes < length sizes

pub front : (sizes strides : List ℕ) (base width stretch long size stride : ℕ) (inner_sizes inner_strides : List ℕ) → sizes ≡ size ∷ inner_sizes → strides ≡ stride ∷ inner_strides → length strides ≡ length sizes → 0 < product sizes * width
    → (base + reach sizes strides) * width + stretch ≤ long → Front sizes strides base width stretch long size stride inner_sizes inner_strides
front sizes strides base width stretch long size stride inner_sizes inner_strides e f l some inside =
    let some' : 0 < size * product inner_sizes * width = subst (λ (v : List ℕ). 0 < product v * width) e some in
    let inside' : (base + ((size - 1) * stride + reach inner_sizes inner_strides)) * width + stretch ≤ long = subst (λ (v : List ℕ). (base + reach (size ∷ inner_sizes) v) * width + stretch ≤ long) f (subst (λ (v : List ℕ). (base + reach v strides) * width + stretch ≤ long) e inside) in
    let le = ap length e in
    let lf = ap length f in
    record {
      sided = first_some size (product inner_sizes) (first_some (size * product inner_sizes) width some');
      wide = second_some (size * product inner_sizes) width some';
      rest = second_some size (product inner_sizes) (first_some (size * product inner_sizes) width some');
      inside = inside';
      ranks = omega (arith, le, lf, l);
      shorter = omega (arith, le);
    }

pub inner_walk : (sizes strides : List ℕ) (base width stretch long size stride i : ℕ) (inner_sizes inner_strides : List ℕ) → sizes ≡ size ∷ inner_sizes → strides ≡ stride ∷ inner_strides → length strides ≡ length sizes → 0 < product sizes * width
    → (base + reach sizes strides) * width + stretch ≤ long → i < size → Inner sizes strides base width stretch long size stride i inner_sizes inner_strides
inner_walk sizes strides base width stretch long size stride i inner_sizes inner_strides e f l some inside h =
    let one = front sizes strides base width stretch long size stride inner_sizes inner_strides e f l some inside in
    let step = reach_step base size stride (reach inner_sizes inner_strides) i h in
    let in_reach = within _ _ width stretch long step one.inside in
    let small = number_small _ width stretch long one.wide in_reach in
    record {
      steps = omega (arith, small);
      place = omega (arith, small);
      shorter = one.shorter;
      ranks = one.ranks;
      some = mul-pos one.rest one.wide;
      inside = in_reach;
    }

-- the walk's stretches, when the first dimension has been gone through
pub stretches_walked : (width stretch base size stride : ℕ) (bytes inner_sizes inner_strides : List ℕ) → flat_map (λ k. flat_map (stretch_at width stretch bytes) (strided (base + k * stride) inner_sizes inner_strides)) (range_with_len 0 size) ≡ flat_map (stretch_at width stretch bytes) (strided base (size ∷ inner_sizes) (stride ∷ inner_strides))
stretches_walked width stretch base size stride bytes inner_sizes inner_strides = sym (flat_flat (stretch_at width stretch bytes) (λ k. strided (base + k * stride) inner_sizes inner_strides) (range_with_len 0 size))

-- elements that stand side by side, each with those of a walk from it on
pub side_walked : (width base size : ℕ) (bytes inner_sizes inner_strides : List ℕ) → flat_map (λ c. walked width bytes (base + c) inner_sizes inner_strides) (range_with_len 0 size) ≡ walked width bytes base (size ∷ inner_sizes) (1 ∷ inner_strides)
side_walked width base size bytes inner_sizes inner_strides =
    flat_same (λ c. walked width bytes (base + c) inner_sizes inner_strides) (λ c. walked width bytes (base + c * 1) inner_sizes inner_strides) (range_with_len 0 size) (λ c. ap (λ n. walked width bytes n inner_sizes inner_strides) (let e : base + c ≡ base + c * 1 = omega arith in e))
    ∙ stretches_walked width width base size 1 bytes inner_sizes inner_strides

-- a walk with no step in some dimension comes by nothing
pub nothing_walked : (width base : ℕ) (bytes sizes strides : List ℕ) → length strides ≡ length sizes → product sizes ≡ 0 → [] ≡ walked width bytes base sizes strides
nothing_walked width base bytes [] strides l z = absurd (omega (arith, z))
nothing_walked width base bytes (e ∷ es) [] l z = refl
nothing_walked width base bytes (zero ∷ es) (s ∷ ss) l z = refl
nothing_walked width base bytes (suc e ∷ es) (s ∷ ss) l z =
    let rest : product es ≡ 0 = let k = mul-le-mul_right {m = 1} {n = suc e} (product es) (omega arith) in omega (arith, k, z) in
    none (λ k. walked width bytes (base + k * s) es ss) (range_with_len 0 (suc e)) (λ k. nothing_walked width (base + k * s) bytes es ss (omega (arith, l)) rest)
    ∙ stretches_walked width width base (suc e) s bytes es ss where
      none : (f : ℕ → List ℕ) (ks : List ℕ) → ((k : ℕ) → [] ≡ f k) → [] ≡ flat_map f ks
      none f [] h = refl
      none f (k ∷ ks) h = none f ks h ∙ ap (λ ys. ys ++ flat_map f ks) (h k)
