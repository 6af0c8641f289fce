-- Panels: lines of elements that stand side by side, read column by column.
use Rattle.std.proofs.Common.{◌≡◌, ℕ, zero, suc, ◌+◌, ◌-◌, ◌*◌, ◌/◌, ◌<◌, ◌≤◌, List, [], ◌∷◌, ◌++◌, length, map, take, drop, get_or, ap, ◌∙◌, sym, refl, arith, subst, length-append, length-drop, append_assoc, ap₂}
use Rattle.std.specs.Prelude.{flat_map}
use Rattle.std.specs.List.{range_with_len, between}
use Rattle.std.proofs.Math.Nat.{mul-le-mul_right, mul-div_cancel, mul-pos}
use Rattle.std.proofs.Math.Seq.{drop-append-add}
use Rattle.std.proofs.lemmas.List.{take_at, length-take-le, append-nil, take-take, drop-drop, drop-take, take-append-drop}
use Rattle.std.proofs.lemmas.Slice.{between_is}
use Rattle.std.proofs.lemmas.List.Folds.{flat_map-map}
use Rattle.std.proofs.lemmas.List.FromFn.{fill_by_all}
use Rattle.std.proofs.lemmas.Grind.{flat_map-append}
use Rattle.zarr_grids_boxes.proofs.Places.{range_with_len-append}
use Rattle.zarr_codecs_strides.specs.Strides.{strided, reach, stretch_at, element_at, walked, element_in, column_of}
use Rattle.zarr_codecs_strides.proofs.Walks.{flat_same, reach_step, within, number_small}

-- ---- no number of a walk lies past its last one

abbrev pub bounded : ℕ → List ℕ → Type 0
bounded b [] = Unit {0}
bounded b (m ∷ ms) = (m ≤ b) × bounded b ms

bounded_append : (b : ℕ) (xs ys : List ℕ) → bounded b xs → bounded b ys → bounded b (xs ++ ys)
bounded_append b [] ys h k = k
bounded_append b (x ∷ xs) ys h k = (h.0, bounded_append b xs ys h.1 k)

bounded_flat : (b : ℕ) (f : ℕ → List ℕ) (a n : ℕ) → ((i : ℕ) → i < a + n → bounded b (f i)) → bounded b (flat_map f (range_with_len a n))
bounded_flat b f a zero h = tt
bounded_flat b f a (suc n) h = bounded_append b (f a) (flat_map f (range_with_len (a + 1) n)) (h a (omega arith)) (bounded_flat b f (a + 1) n (λ i l. h i (omega (arith, l))))

bounded_weaker : (a b : ℕ) (xs : List ℕ) → a ≤ b → bounded a xs → bounded b xs
bounded_weaker a b [] l h = tt
bounded_weaker a b (x ∷ xs) l h = (let k = h.0 in omega (arith, k, l), bounded_weaker a b xs l h.1)

pub strided_bounded : (base : ℕ) (sizes strides : List ℕ) → bounded (base + reach sizes strides) (strided base sizes strides)
strided_bounded base [] strides = (omega arith, tt)
strided_bounded base (e ∷ es) [] = tt
strided_bounded base (e ∷ es) (s ∷ ss) =
    bounded_flat (base + reach (e ∷ es) (s ∷ ss)) (λ i. strided (base + i * s) es ss) 0 e
    (λ i l. bounded_weaker (base + i * s + reach es ss) (base + reach (e ∷ es) (s ∷ ss)) (strided (base + i * s) es ss) (reach_step base e s (reach es ss) i (omega (arith, l))) (strided_bounded (base + i * s) es ss))

-- ---- a walk from another place on

map_append : {B C : Type 0} (f : B → C) (xs ys : List B) → map f (xs ++ ys) ≡ map f xs ++ map f ys
map_append f [] ys = refl
map_append f (x ∷ xs) ys = ap (λ zs. f x ∷ zs) (map_append f xs ys)

map_flat_map : {A B C : Type 0} (f : B → C) (g : A → List B) (xs : List A) → map f (flat_map g xs) ≡ flat_map (λ x. map f (g x)) xs
map_flat_map f g [] = refl
map_flat_map f g (x ∷ xs) = map_append f (g x) (flat_map g xs) ∙ ap (λ ys. map f (g x) ++ ys) (map_flat_map f g xs)

strided_shift : (b c : ℕ) (sizes strides : List ℕ) → strided (b + c) sizes strides ≡ map (λ m. m + c) (strided b sizes strides)
strided_shift b c [] strides = refl
strided_shift b c (e ∷ es) [] = refl
strided_shift b c (e ∷ es) (s ∷ ss) =
    flat_same (λ i. strided (b + c + i * s) es ss) (λ i. map (λ m. m + c) (strided (b + i * s) es ss)) (range_with_len 0 e)
    (λ i. ap (λ n. strided n es ss) (let same : b + c + i * s ≡ b + i * s + c = omega arith in same) ∙ strided_shift (b + i * s) c es ss)
    ∙ sym (map_flat_map (λ m. m + c) (λ i. strided (b + i * s) es ss) (range_with_len 0 e))

pub shifted : (width b c : ℕ) (bytes sizes strides : List ℕ) → flat_map (λ m. element_at width bytes (m + c)) (strided b sizes strides) ≡ walked width bytes (b + c) sizes strides
shifted width b c bytes sizes strides = sym (ap (flat_map (element_at width bytes)) (strided_shift b c sizes strides) ∙ flat_map-map (element_at width bytes) (λ m. m + c) (strided b sizes strides))

-- ---- lines of one length

line_long : (s : ℕ) (line : ℕ → List ℕ) (b : ℕ) (ms : List ℕ) → bounded b ms → ((m : ℕ) → m ≤ b → length (line m) ≡ s) → length (flat_map line ms) ≡ length ms * s
line_long s line b [] h law = let z : 0 * s ≡ 0 = omega arith in sym z
line_long s line b (m ∷ ms) h law =
    let one = law m h.0 in
    let rest = line_long s line b ms h.1 law in
    let sum : suc (length ms) * s ≡ s + length ms * s = grind arith in
    length-append (line m) (flat_map line ms) ∙ omega (arith, one, rest, sum)

line_at : (s : ℕ) (line : ℕ → List ℕ) (b : ℕ) (ms : List ℕ) (r : ℕ) → bounded b ms → ((m : ℕ) → m ≤ b → length (line m) ≡ s) → r < length ms → take s (drop (r * s) (flat_map line ms)) ≡ line (get_or ms r 0)
line_at s line b [] r h law less = absurd (omega (arith, less))
line_at s line b (m ∷ ms) zero h law less =
    let z : 0 * s ≡ 0 = omega arith in
    ap (λ n. take s (drop n (line m ++ flat_map line ms))) z ∙ take_at (line m) (flat_map line ms) s (law m h.0)
line_at s line b (m ∷ ms) (suc r) h law less =
    let one = law m h.0 in
    let sum : suc r * s ≡ s + r * s = grind arith in
    let sum' : suc r * s ≡ length (line m) + r * s = omega (arith, sum, one) in
    ap (λ n. take s (drop n (line m ++ flat_map line ms))) sum'
    ∙ (ap (take s) (drop-append-add (line m) (flat_map line ms) (r * s)) ∙ line_at s line b ms r h.1 law (omega (arith, less)))

-- ---- the elements of a column

take_take : (w k : ℕ) (xs : List ℕ) → w ≤ k → take w (take k xs) ≡ take w xs
take_take w k xs l = take-take w k xs l

drop_take : (i k : ℕ) (xs : List ℕ) → drop i (take k xs) ≡ take (k - i) (drop i xs)
drop_take i k xs = sym (between_is xs i k)

drop_drop : (i j : ℕ) (xs : List ℕ) → drop i (drop j xs) ≡ drop (i + j) xs
drop_drop i j xs = drop-drop i j xs ∙ ap (λ n. drop n xs) (let e : j + i ≡ i + j = omega arith in e)

-- a part of a part
part_of : (w i s : ℕ) (ys : List ℕ) → i + w ≤ s → take w (drop i (take s ys)) ≡ take w (drop i ys)
part_of w i s ys l = ap (take w) (drop_take i s ys) ∙ take_take w (s - i) (drop i ys) (omega (arith, l))

column_fits : (c edge w : ℕ) → c < edge → c * w + w ≤ edge * w
column_fits c edge w l = let k = mul-le-mul_right {m = c + 1} {n = edge} w (omega (arith, l)) in let sum : (c + 1) * w ≡ c * w + w = grind arith in omega (arith, k, sum)

element_is : (w edge c r b : ℕ) (bytes ms : List ℕ) → c < edge → r < length ms → bounded b ms → (b + edge) * w ≤ length bytes
    → element_in w (flat_map (stretch_at w (edge * w) bytes) ms) edge c r ≡ element_at w bytes (get_or ms r 0 + c)
element_is w edge c r b bytes ms l less h inside =
    let s = edge * w in
    let line = stretch_at w (edge * w) bytes in
    let all = flat_map line ms in
    let m = get_or ms r 0 in
    let fits = column_fits c edge w l in
    let law : (k : ℕ) → k ≤ b → length (line k) ≡ s = λ k below. line_whole w edge b bytes k inside below in
    let at : (r * edge + c) * w ≡ c * w + r * s = grind arith in
    let at' : (m + c) * w ≡ c * w + m * w = grind arith in
    ap (λ n. take w (drop n all)) at
    ∙ (ap (take w) (sym (drop_drop (c * w) (r * s) all))
    ∙ (sym (part_of w (c * w) s (drop (r * s) all) fits)
    ∙ (ap (λ ys. take w (drop (c * w) ys)) (line_at s line b ms r h law less)
    ∙ (part_of w (c * w) s (drop (m * w) bytes) fits
    ∙ (ap (take w) (drop_drop (c * w) (m * w) bytes)
    ∙ ap (λ n. take w (drop n bytes)) (sym at')))))) where
      line_whole : (w edge b : ℕ) (bytes : List ℕ) (k : ℕ) → (b + edge) * w ≤ length bytes → k ≤ b → length (stretch_at w (edge * w) bytes k) ≡ edge * w
      line_whole w edge b bytes k inside below =
          let most = mul-le-mul_right {m = k + edge} {n = b + edge} w (omega (arith, below)) in
          let sum : (k + edge) * w ≡ k * w + edge * w = grind arith in
          let long = length-drop (k * w) bytes in
          length-take-le (edge * w) (drop (k * w) bytes) (omega (arith, long, most, sum, inside))

pub flat_below : (f g : ℕ → List ℕ) (a n : ℕ) → ((i : ℕ) → a ≤ i → i < a + n → f i ≡ g i) → flat_map f (range_with_len a n) ≡ flat_map g (range_with_len a n)
flat_below f g a zero h = refl
flat_below f g a (suc n) h =
    ap (λ ys. ys ++ flat_map f (range_with_len (a + 1) n)) (h a (omega arith) (omega arith))
    ∙ ap (λ ys. g a ++ ys) (flat_below f g (a + 1) n (λ i low high. h i (omega (arith, low)) (omega (arith, high))))

by_number : (xs : List ℕ) → map (λ k. get_or xs k 0) (range_with_len 0 (length xs)) ≡ xs
by_number xs = sym (fill_by_all (λ k. get_or xs k 0) xs (length xs) 0 refl (λ k _. refl))

-- the lines of a panel
abbrev pub panel_of : ℕ → ℕ → List ℕ → List ℕ → List ℕ
panel_of w edge bytes ms = flat_map (stretch_at w (edge * w) bytes) ms

column_is : (w edge c b : ℕ) (bytes ms : List ℕ) → c < edge → bounded b ms → (b + edge) * w ≤ length bytes
    → column_of w (panel_of w edge bytes ms) edge (length ms) c ≡ flat_map (λ m. element_at w bytes (m + c)) ms
column_is w edge c b bytes ms l h inside =
    let g : ℕ → List ℕ = λ m. element_at w bytes (m + c) in
    flat_below (element_in w (panel_of w edge bytes ms) edge c) (λ r. g (get_or ms r 0)) 0 (length ms) (λ r _ less. element_is w edge c r b bytes ms l (omega (arith, less)) h inside)
    ∙ (sym (flat_map-map g (λ r. get_or ms r 0) (range_with_len 0 (length ms))) ∙ ap (flat_map g) (by_number ms))

-- a panel's columns are the elements that walks come by
pub panel_columns : (w edge base count : ℕ) (bytes panel sizes strides : List ℕ) → panel ≡ flat_map (stretch_at w (edge * w) bytes) (strided base sizes strides) → (base + edge + reach sizes strides) * w ≤ length bytes → count ≡ length (strided base sizes strides)
    → flat_map (column_of w panel edge count) (range_with_len 0 edge) ≡ flat_map (λ c. walked w bytes (base + c) sizes strides) (range_with_len 0 edge)
panel_columns w edge base count bytes panel sizes strides e inside many =
    let ms = strided base sizes strides in
    let b = base + reach sizes strides in
    let inside' : (b + edge) * w ≤ length bytes = subst (λ (n : ℕ). n * w ≤ length bytes) (let same : base + edge + reach sizes strides ≡ b + edge = omega arith in same) inside in
    flat_below (column_of w panel edge count) (λ c. walked w bytes (base + c) sizes strides) 0 edge
    (λ c _ l.
    ap (λ p. column_of w p edge count c) e ∙ (ap (λ n. column_of w (panel_of w edge bytes ms) edge n c) many
    ∙ (column_is w edge c b bytes ms (omega (arith, l)) (strided_bounded base sizes strides) inside' ∙ shifted w base c bytes sizes strides)))

-- how many lines a panel has
pub panel_lines : (w edge base : ℕ) (bytes panel sizes strides : List ℕ) → panel ≡ flat_map (stretch_at w (edge * w) bytes) (strided base sizes strides) → (base + edge + reach sizes strides) * w ≤ length bytes → length panel ≡ length (strided base sizes strides) * (edge * w)
panel_lines w edge base bytes panel sizes strides e inside =
    ap length e ∙ line_long (edge * w) (stretch_at w (edge * w) bytes) (base + reach sizes strides) (strided base sizes strides) (strided_bounded base sizes strides)
    (λ k below.
    let most = mul-le-mul_right {m = k + edge} {n = base + edge + reach sizes strides} w (omega (arith, below)) in
    let sum : (k + edge) * w ≡ k * w + edge * w = grind arith in
    let long = length-drop (k * w) bytes in
    length-take-le (edge * w) (drop (k * w) bytes) (omega (arith, long, most, sum, inside)))

-- one panel more
pub panels_more : (f : ℕ → List ℕ) (xs ys zs : List ℕ) (base done count : ℕ) → ys ≡ xs ++ flat_map (λ c. f (base + c)) (range_with_len 0 done) → zs ≡ ys ++ flat_map (λ c. f (base + done + c)) (range_with_len 0 count)
    → zs ≡ xs ++ flat_map (λ c. f (base + c)) (range_with_len 0 (done + count))
panels_more f xs ys zs base done count h e =
    let g : ℕ → List ℕ = λ c. f (base + c) in
    let z : 0 + done ≡ done = omega arith in
    e ∙ (ap (λ vs. vs ++ flat_map (λ c. f (base + done + c)) (range_with_len 0 count)) h
    ∙ (append_assoc xs (flat_map g (range_with_len 0 done)) (flat_map (λ c. f (base + done + c)) (range_with_len 0 count))
    ∙ ap (λ vs. xs ++ vs) (ap (λ vs. flat_map g (range_with_len 0 done) ++ vs) (moved f base done 0 count)
    ∙ sym (ap (flat_map g) (range_with_len-append 0 done count) ∙ flat_map-append g (range_with_len 0 done) (range_with_len (0 + done) count))))) where
      moved : (f : ℕ → List ℕ) (base done a n : ℕ) → flat_map (λ c. f (base + done + c)) (range_with_len a n) ≡ flat_map (λ c. f (base + c)) (range_with_len (a + done) n)
      moved f base done a zero = refl
      moved f base done a (suc n) =
          let same : base + done + a ≡ base + (a + done) = omega arith in
          let next : a + 1 + done ≡ a + done + 1 = omega arith in
          ap (λ k. f k ++ flat_map (λ c. f (base + done + c)) (range_with_len (a + 1) n)) same
          ∙ ap (λ vs. f (base + (a + done)) ++ vs) (moved f base done (a + 1) n ∙ ap (λ k. flat_map (λ c. f (base + c)) (range_with_len k n)) next)

-- elements that stand side by side are one stretch of bytes
line_from : (w base a n : ℕ) (bytes : List ℕ) → (base + a + n) * w ≤ length bytes → take (n * w) (drop ((base + a) * w) bytes) ≡ flat_map (λ c. walked w bytes (base + c) [] []) (range_with_len a n)
line_from w base a zero bytes inside = let z : 0 * w ≡ 0 = omega arith in ap (λ k. take k (drop ((base + a) * w) bytes)) z
line_from w base a (suc n) bytes inside =
    let ys = drop ((base + a) * w) bytes in
    let sum : suc n * w ≡ w + n * w = grind arith in
    let next : (base + (a + 1)) * w ≡ w + (base + a) * w = grind arith in
    let one = line_from w base (a + 1) n bytes (subst (λ (k : ℕ). k * w ≤ length bytes) (let e : base + a + suc n ≡ base + (a + 1) + n = omega arith in e) inside) in
    ap (λ k. take k ys) sum
    ∙ (take_both w (n * w) ys
    ∙ (ap (λ vs. take w ys ++ take (n * w) vs) (drop_drop w ((base + a) * w) bytes ∙ ap (λ k. drop k bytes) (sym next))
    ∙ (ap (λ vs. take w ys ++ vs) one
    ∙ ap (λ vs. vs ++ flat_map (λ c. walked w bytes (base + c) [] []) (range_with_len (a + 1) n)) (sym (append-nil (take w ys)))))) where
      take_both : (i j : ℕ) (xs : List ℕ) → take (i + j) xs ≡ take i xs ++ take j (drop i xs)
      take_both i j xs = sym (ap₂ (λ vs ws. vs ++ ws) (sym (take-take i (i + j) xs (omega arith))) (sym (drop-take i j xs)) ∙ take-append-drop i (take (i + j) xs))

pub line_is : (w base n : ℕ) (bytes : List ℕ) → (base + n) * w ≤ length bytes → take (n * w) (drop (base * w) bytes) ≡ flat_map (λ c. walked w bytes (base + c) [] []) (range_with_len 0 n)
line_is w base n bytes inside =
    let z : base ≡ base + 0 = omega arith in
    ap (λ k. take (n * w) (drop (k * w) bytes)) z ∙ line_from w base 0 n bytes (subst (λ (k : ℕ). (k + n) * w ≤ length bytes) z inside)

-- where an element of lines stands
pub element_inside : (w edge count column line long : ℕ) → 0 < w → count * (edge * w) ≡ long → column < edge → line < count → ((line * edge + column) * w + w ≤ long) × (line * edge + column ≤ long)
element_inside w edge count column line long some whole within less =
    let most = mul-le-mul_right {m = line + 1} {n = count} (edge * w) (omega (arith, less)) in
    let sum : (line + 1) * (edge * w) ≡ line * (edge * w) + edge * w = grind arith in
    let at : (line * edge + column) * w ≡ line * (edge * w) + column * w = grind arith in
    let fits = column_fits column edge w within in
    let inside : (line * edge + column) * w + w ≤ long = omega (arith, most, sum, at, fits, whole) in (inside, number_small (line * edge + column) w w long some inside)

-- how many lines a length makes
pub lines_counted : (w edge count long : ℕ) → 0 < w → 0 < edge → long ≡ count * (edge * w) → (long / (edge * w) ≡ count) × (long / (edge * w) * (edge * w) ≡ long)
lines_counted w edge count long some sided e =
    let many : long / (edge * w) ≡ count = ap (λ n. n / (edge * w)) e ∙ mul-div_cancel count (mul-pos sided some) in (many, ap (λ n. n * (edge * w)) many ∙ sym e)

pub line_written : (w base n : ℕ) (bytes old new : List ℕ) → (base + n) * w ≤ length bytes → new ≡ old ++ between (base * w) ((base + n) * w) bytes → new ≡ old ++ flat_map (λ c. walked w bytes (base + c) [] []) (range_with_len 0 n)
line_written w base n bytes old new inside e =
    let sum : (base + n) * w ≡ base * w + n * w = grind arith in
    let long : (base + n) * w - base * w ≡ n * w = omega (arith, sum) in
    e ∙ ap (λ vs. old ++ vs) (ap (λ k. take k (drop (base * w) bytes)) long ∙ line_is w base n bytes inside)

-- all elements of walks from places side by side are there
pub side_inside : (base count rest w stretch long : ℕ) → 0 < count → stretch ≡ w → (base + ((count - 1) * 1 + rest)) * w + stretch ≤ long → (base + count + rest) * w ≤ long
side_inside base count rest w stretch long some is inside =
    let k = base + ((count - 1) * 1 + rest) in
    let e : base + count + rest ≡ k + 1 = omega (arith, some) in
    let sum : (k + 1) * w ≡ k * w + w = grind arith in
    let same = ap (λ n. n * w) e in
    omega (arith, sum, same, is, inside)

pub line_inside : (base count rest w long : ℕ) → (base + count + rest) * w ≤ long → (base + count) * w ≤ long
line_inside base count rest w long inside = let k = mul-le-mul_right {m = base + count} {n = base + count + rest} w (omega arith) in omega (arith, k, inside)

pub empty_list : (xs : List ℕ) → length xs ≡ 0 → xs ≡ []
empty_list [] h = refl
empty_list (x ∷ xs) h = absurd (omega (arith, h))

pub element_written : (w start : ℕ) (bytes old new : List ℕ) → new ≡ old ++ between start (start + w) bytes → new ≡ old ++ take w (drop start bytes)
element_written w start bytes old new e =
    let long : start + w - start ≡ w = omega arith in
    e ∙ ap (λ n. old ++ take n (drop start bytes)) long
