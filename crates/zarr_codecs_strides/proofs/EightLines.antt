-- Eight elements of a column, read at once.
use Rattle.std.proofs.Common.{◌≡◌, ℕ, zero, suc, ◌+◌, ◌*◌, ◌/◌, ◌<◌, ◌≤◌, List, [], ◌++◌, length, take, drop, get_or, ap, ◌∙◌, sym, arith}
use Rattle.std.specs.Prelude.{flat_map}
use Rattle.std.specs.List.{range_with_len}
use Rattle.std.specs.Simd.{first_chunks}
use Rattle.std.proofs.Math.Nat.{mul-le-mul_right, mul-div_cancel}
use Rattle.std.proofs.lemmas.List.{drop-drop}
use Rattle.zarr_codecs_strides.specs.Strides.{element_at, element_in, column_of, eight_of}
use Rattle.zarr_codecs_strides.proofs.PanelColumns.{flat_below, panels_more}

-- a chunk is an element
chunk_at : (w n k : ℕ) (xs : List ℕ) → k < n → get_or (first_chunks w n xs) k [] ≡ element_at w xs k
chunk_at w zero k xs h = absurd (omega (arith, h))
chunk_at w (suc n) zero xs h = let z : 0 * w ≡ 0 = omega arith in ap (λ m. take w (drop m xs)) (sym z)
chunk_at w (suc n) (suc k) xs h =
    let sum : suc k * w ≡ w + k * w = grind arith in
    chunk_at w n k (drop w xs) (omega (arith, h)) ∙ ap (take w) (drop-drop (k * w) w xs ∙ ap (λ m. drop m xs) (sym sum))

-- the last of eight lines is one of the lines
pub eight_inside : (w edge count column n chunks long : ℕ) → 0 < w → count * (edge * w) ≡ long → chunks ≡ long / w → column < edge → 8 * n + 7 < count → 8 * n * edge + column + 7 * edge < chunks
eight_inside w edge count column n chunks long some whole is within less =
    let most = mul-le-mul_right {m = 8 * n + 8} {n = count} edge (omega (arith, less)) in
    let sum : (8 * n + 8) * edge ≡ 8 * n * edge + edge * 8 = grind arith in
    let all : count * edge * w ≡ long = let e : count * edge * w ≡ count * (edge * w) = grind arith in e ∙ whole in
    let many : chunks ≡ count * edge = is ∙ (ap (λ m. m / w) (sym all) ∙ mul-div_cancel (count * edge) some) in
    omega (arith, most, sum, many, within)

-- eight lines more
pub eight_more : (w edge count column n chunks : ℕ) (bytes : List ℕ) (cells : List (List ℕ)) (old now next : List ℕ) → 0 < w → count * (edge * w) ≡ length bytes → chunks ≡ length bytes / w → column < edge → 8 * n + 7 < count → cells ≡ first_chunks w chunks bytes
    → now ≡ old ++ column_of w bytes edge (8 * n) column → next ≡ now ++ eight_of cells (8 * n * edge + column) edge → next ≡ old ++ column_of w bytes edge (8 * (n + 1)) column
eight_more w edge count column n chunks bytes cells old now next some whole is within less are h e =
    let f : ℕ → List ℕ = element_in w bytes edge column in
    let g : ℕ → List ℕ = λ k. get_or cells (8 * n * edge + column + k * edge) [] in
    let last = eight_inside w edge count column n chunks (length bytes) some whole is within less in
    let one : (k : ℕ) → 0 ≤ k → k < 0 + 8 → g k ≡ f (0 + 8 * n + k) = λ k _ below.
    let most = mul-le-mul_right {m = k} {n = 7} edge (omega (arith, below)) in
    let number : 8 * n * edge + column + k * edge ≡ (0 + 8 * n + k) * edge + column = grind arith in
    let inside : 8 * n * edge + column + k * edge < chunks = omega (arith, last, most) in
    ap (λ (cs : List (List ℕ)). get_or cs (8 * n * edge + column + k * edge) []) are ∙ (chunk_at w chunks (8 * n * edge + column + k * edge) bytes inside ∙ ap (element_at w bytes) number)
    in
    let same : (k : ℕ) → 0 ≤ k → k < 0 + 8 * n → f k ≡ f (0 + k) = λ k _ below. ap f (let z : k ≡ 0 + k = omega arith in z) in
    let back : (k : ℕ) → 0 ≤ k → k < 0 + (8 * n + 8) → f (0 + k) ≡ f k = λ k _ below. ap f (let z : 0 + k ≡ k = omega arith in z) in
    let all : 8 * n + 8 ≡ 8 * (n + 1) = grind arith in
    panels_more f old now next 0 (8 * n) 8 (h ∙ ap (λ ys. old ++ ys) (flat_below f (λ k. f (0 + k)) 0 (8 * n) same)) (e ∙ ap (λ ys. now ++ ys) (flat_below g (λ k. f (0 + 8 * n + k)) 0 8 one))
    ∙ ap (λ ys. old ++ ys) (flat_below (λ k. f (0 + k)) f 0 (8 * n + 8) back ∙ ap (λ m. flat_map f (range_with_len 0 m)) all)
