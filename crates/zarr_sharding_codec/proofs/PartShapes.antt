-- The shapes of subchunks, dimension by dimension.
use Rattle.std.proofs.Common.{◌≡◌, ◌∙◌, ℕ, zero, suc, ◌+◌, ◌-◌, ◌*◌, ◌/◌, ◌%◌, ◌<◌, ◌≤◌, min, List, [], ◌∷◌, ◌++◌, map, replicate, ap, sym, refl, subst, arith, true, append-nil, append_assoc}
use Rattle.std.specs.Prelude.{nat_lt}
use Rattle.std.specs.List.{flat_map, range_with_len}
use Rattle.std.proofs.Math.Nat.{le-div_iff_mul-le}
use Rattle.std.proofs.lemmas.Bool.{and_parts, ltb-true}
use Rattle.std.proofs.lemmas.List.{map-append}
use Rattle.std.proofs.lemmas.List.FromFn.{map-range_with_len_more}
use Rattle.std.proofs.lemmas.Nat.{div_below}
use Rattle.zarr_grids_boxes.specs.Boxes.{product}
use Rattle.zarr_codecs_meaning.specs.Fits.{can_cut}
use Rattle.zarr_codecs_meaning.specs.Places.{Part, box_of, grid_of, part_of, parts_of, places_of}
use Rattle.zarr_sharding_codec.specs.Fitting.{behind, shapes_behind}
use Rattle.zarr_sharding_codec.proofs.MetBox.{quotient_is}

-- the shapes of all subchunks
abbrev pub shapes_of : List ℕ → List ℕ → List (List ℕ)
shapes_of shape subchunk = map (λ (part : Part). part.shape) (parts_of shape subchunk)

-- what is left over at the end of a dimension, if anything is
abbrev pub left_over : ℕ → List ℕ
left_over zero = []
left_over (suc rest) = suc rest ∷ []

-- how long the subchunks are along a dimension, one after another
abbrev pub lengths_along : ℕ → ℕ → List ℕ
lengths_along n p = replicate (n / p) p ++ left_over (n % p)

-- ---- one dimension

-- the subchunks that lie within the dimension are as long as the edge
full_lengths : (n p a m : ℕ) → (a + m) * p ≤ n → map (λ k. min p (n - k * p)) (range_with_len a m) ≡ replicate m p
full_lengths n p a zero h = refl
full_lengths n p a (suc m) h =
    let split : (a + suc m) * p ≡ a * p + (p + m * p) = grind arith in
    let first : min p (n - a * p) ≡ p = omega (arith, h, split) in
    let next : (a + 1 + m) * p ≡ (a + suc m) * p = grind arith in
    ap (λ k. k ∷ map (λ j. min p (n - j * p)) (range_with_len (a + 1) m)) first ∙ ap (λ ks. p ∷ ks) (full_lengths n p (a + 1) m (omega (arith, h, next)))

whole_before : (n p : ℕ) → 0 < p → (0 + n / p) * p ≤ n
whole_before n p some =
    let split : p * (n / p) + n % p ≡ n = omega (arith, some) in
    let turn : (0 + n / p) * p ≡ p * (n / p) = grind arith in
    omega (arith, split, turn)

pub lengths_are : (n p : ℕ) → 0 < p → map (λ k. min p (n - k * p)) (range_with_len 0 ((n + (p - 1)) / p)) ≡ lengths_along n p
lengths_are n p some = by (n % p) refl where
  by : (r : ℕ) → n % p ≡ r → map (λ k. min p (n - k * p)) (range_with_len 0 ((n + (p - 1)) / p)) ≡ replicate (n / p) p ++ left_over r
  by zero e =
      let split : p * (n / p) + n % p ≡ n = omega (arith, some) in
      let turn : n / p * p ≡ p * (n / p) = grind arith in
      let count = quotient_is (n + (p - 1)) p (n / p) some (omega (arith, split, turn, e)) (omega (arith, split, turn, e, some)) in
      ap (λ m. map (λ k. min p (n - k * p)) (range_with_len 0 m)) count ∙ (full_lengths n p 0 (n / p) (whole_before n p some) ∙ sym (append-nil (replicate (n / p) p)))
  by (suc r) e =
      let split : p * (n / p) + n % p ≡ n = omega (arith, some) in
      let turn : n / p * p ≡ p * (n / p) = grind arith in
      let more : (n / p + 1) * p ≡ n / p * p + p = grind arith in
      let low : n % p < p = omega (arith, some) in
      let count = quotient_is (n + (p - 1)) p (n / p + 1) some (omega (arith, split, turn, more, e)) (omega (arith, split, turn, more, e, low)) in
      let last : min p (n - n / p * p) ≡ suc r = omega (arith, split, turn, e, low) in
      ap (λ m. map (λ k. min p (n - k * p)) (range_with_len 0 m)) count
      ∙ (map-range_with_len_more (λ k. min p (n - k * p)) 0 (n / p) (n / p) (omega arith)
      ∙ (ap (λ ks. ks ++ min p (n - n / p * p) ∷ []) (full_lengths n p 0 (n / p) (whole_before n p some)) ∙ ap (λ m. replicate (n / p) p ++ m ∷ []) last))

-- ---- all dimensions

-- the shape of the subchunk with an index
abbrev at_index : List ℕ → List ℕ → List ℕ → List ℕ
at_index shape subchunk index = (box_of shape subchunk index).shape

row_shapes : (n p k : ℕ) (ns ps : List ℕ) (rows : List (List ℕ)) → map (at_index (n ∷ ns) (p ∷ ps)) (map (λ r. k ∷ r) rows) ≡ map (λ s. min p (n - k * p) ∷ s) (map (at_index ns ps) rows)
row_shapes n p k ns ps [] = refl
row_shapes n p k ns ps (r ∷ rs) = ap (λ ss. (min p (n - k * p) ∷ at_index ns ps r) ∷ ss) (row_shapes n p k ns ps rs)

rows_shapes : (n p : ℕ) (ns ps : List ℕ) (rows : List (List ℕ)) (ks : List ℕ) → map (at_index (n ∷ ns) (p ∷ ps)) (flat_map (λ k. map (λ r. k ∷ r) rows) ks)
    ≡ flat_map (λ m. map (λ s. m ∷ s) (map (at_index ns ps) rows)) (map (λ k. min p (n - k * p)) ks)
rows_shapes n p ns ps rows [] = refl
rows_shapes n p ns ps rows (k ∷ ks) =
    map-append (at_index (n ∷ ns) (p ∷ ps)) (map (λ r. k ∷ r) rows) (flat_map (λ j. map (λ r. j ∷ r) rows) ks)
    ∙ (ap (λ ss. ss ++ map (at_index (n ∷ ns) (p ∷ ps)) (flat_map (λ j. map (λ r. j ∷ r) rows) ks)) (row_shapes n p k ns ps rows)
    ∙ ap (λ ss. map (λ s. min p (n - k * p) ∷ s) (map (at_index ns ps) rows) ++ ss) (rows_shapes n p ns ps rows ks))

by_index : (shape subchunk : List ℕ) (indices : List (List ℕ)) → map (λ (part : Part). part.shape) (map (λ index. part_of shape (box_of shape subchunk index)) indices) ≡ map (at_index shape subchunk) indices
by_index shape subchunk [] = refl
by_index shape subchunk (i ∷ is) = ap (λ ss. at_index shape subchunk i ∷ ss) (by_index shape subchunk is)

-- a shape begins with a length along the first dimension, and goes on as one of the later ones
pub shapes_step : (n p : ℕ) (ns ps : List ℕ) → 0 < p → shapes_of (n ∷ ns) (p ∷ ps) ≡ flat_map (λ m. map (λ s. m ∷ s) (shapes_of ns ps)) (lengths_along n p)
shapes_step n p ns ps some =
    by_index (n ∷ ns) (p ∷ ps) (places_of (grid_of (n ∷ ns) (p ∷ ps)))
    ∙ (rows_shapes n p ns ps (places_of (grid_of ns ps)) (range_with_len 0 ((n + (p - 1)) / p))
    ∙ (ap (λ ss. flat_map (λ m. map (λ s. m ∷ s) ss) (map (λ k. min p (n - k * p)) (range_with_len 0 ((n + (p - 1)) / p)))) (sym (by_index ns ps (places_of (grid_of ns ps))))
    ∙ ap (flat_map (λ m. map (λ s. m ∷ s) (shapes_of ns ps))) (lengths_are n p some)))

no_rows : (ms : List ℕ) → flat_map (λ m. map (λ s. m ∷ s) []) ms ≡ []
no_rows [] = refl
no_rows (m ∷ ms) = no_rows ms

zero_lengths : (p : ℕ) → 0 < p → lengths_along 0 p ≡ []
zero_lengths p some =
    let none : 0 / p ≡ 0 = omega (arith, some) in
    let over : 0 % p ≡ 0 = omega (arith, some) in
    ap (λ q. replicate q p ++ left_over (0 % p)) none ∙ ap left_over over

-- where the shape has no place, there is no subchunk
pub no_shapes : (shape subchunk : List ℕ) → can_cut shape subchunk ≡ true → product shape ≡ 0 → shapes_of shape subchunk ≡ []
no_shapes [] [] cuts none = absurd (omega (arith, none))
no_shapes [] (p ∷ ps) cuts none = cc
no_shapes (n ∷ ns) [] cuts none = cc
no_shapes (n ∷ ns) (p ∷ ps) cuts none =
    let both = and_parts (nat_lt 0 p) (can_cut ns ps) cuts in
    by n refl (ltb-true 0 p both.0) (λ nothing. no_shapes ns ps both.1 nothing) where
      by : (m : ℕ) → n ≡ m → 0 < p → (product ns ≡ 0 → shapes_of ns ps ≡ []) → shapes_of (n ∷ ns) (p ∷ ps) ≡ []
      by zero e some rest = shapes_step n p ns ps some ∙ ap (flat_map (λ m. map (λ s. m ∷ s) (shapes_of ns ps))) (ap (λ k. lengths_along k p) e ∙ zero_lengths p some)
      by (suc m) e some rest =
          let more : suc m * product ns ≡ product ns + m * product ns = grind arith in
          let split : n * product ns ≡ product ns + m * product ns = ap (λ k. k * product ns) e ∙ more in
          shapes_step n p ns ps some ∙ (ap (λ ss. flat_map (λ k. map (λ s. k ∷ s) ss) (lengths_along n p)) (rest (omega (arith, none, split))) ∙ no_rows (lengths_along n p))

-- ---- the lengths along a dimension

left_some : (rest : ℕ) → 0 < rest → left_over rest ≡ rest ∷ []
left_some zero some = absurd (omega (arith, some))
left_some (suc rest) some = refl

-- where the dimension is shorter than the edge, there is one subchunk
pub short_length : (n p : ℕ) → 0 < n → n < p → lengths_along n p ≡ n ∷ []
short_length n p some less =
    let positive : 0 < p = omega (arith, less) in
    let few : n / p < 1 = div_below n p 1 positive (omega (arith, less)) in
    let none : n / p ≡ 0 = omega (arith, few) in
    let split : p * (n / p) + n % p ≡ n = omega (arith, positive) in
    let nothing : p * 0 ≡ 0 = omega arith in
    let gone : p * (n / p) ≡ 0 = ap (λ k. p * k) none ∙ nothing in
    let rest : n % p ≡ n = omega (arith, split, gone) in
    ap (λ q. replicate q p ++ left_over (n % p)) none ∙ (ap left_over rest ∙ left_some n some)

pub some_whole : (n p : ℕ) → 0 < p → p ≤ n → 0 < n / p
some_whole n p some fit =
    let one : 1 ≤ n / p = (le-div_iff_mul-le {k = p} {x = 1} {y = n} some).1 (omega (arith, fit)) in
    omega (arith, one)

pub even_lengths : (n p : ℕ) → n % p ≡ 0 → lengths_along n p ≡ replicate (n / p) p
even_lengths n p even = ap (λ r. replicate (n / p) p ++ left_over r) even ∙ append-nil (replicate (n / p) p)

pub more_lengths : (n p : ℕ) → 0 < n % p → lengths_along n p ≡ replicate (n / p) p ++ n % p ∷ []
more_lengths n p some = ap (λ ks. replicate (n / p) p ++ ks) (left_some (n % p) some)

-- ---- the shapes behind some lengths

pub behind_are : (front : List ℕ) (parts : List Part) → map (λ (part : Part). front ++ part.shape) parts ≡ map (λ s. front ++ s) (map (λ (part : Part). part.shape) parts)
behind_are front [] = refl
behind_are front (part ∷ parts) = ap (λ ss. (front ++ part.shape) ∷ ss) (behind_are front parts)

one_more : (front : List ℕ) (m : ℕ) (ss : List (List ℕ)) → map (λ s. front ++ s) (map (λ s. m ∷ s) ss) ≡ map (λ s. (front ++ m ∷ []) ++ s) ss
one_more front m [] = refl
one_more front m (s ∷ ss) = ap (λ t. t ∷ map (λ s. front ++ s) (map (λ s. m ∷ s) ss)) (sym (append_assoc front (m ∷ []) s)) ∙ ap (λ ts. ((front ++ m ∷ []) ++ s) ∷ ts) (one_more front m ss)

-- the shapes with one length more
abbrev pub shapes_with : List ℕ → List ℕ → List ℕ → ℕ → List (List ℕ)
shapes_with front sizes edges m = shapes_behind (behind (front ++ m ∷ []) sizes edges)

each_length : (front ns ps ms : List ℕ) → map (λ s. front ++ s) (flat_map (λ m. map (λ s. m ∷ s) (shapes_of ns ps)) ms) ≡ flat_map (shapes_with front ns ps) ms
each_length front ns ps [] = refl
each_length front ns ps (m ∷ ms) =
    let others = flat_map (λ k. map (λ s. k ∷ s) (shapes_of ns ps)) ms in
    map-append (λ s. front ++ s) (map (λ s. m ∷ s) (shapes_of ns ps)) others
    ∙ (ap (λ xs. xs ++ map (λ s. front ++ s) others) (one_more front m (shapes_of ns ps) ∙ sym (behind_are (front ++ m ∷ []) (parts_of ns ps)))
    ∙ ap (λ ys. shapes_with front ns ps m ++ ys) (each_length front ns ps ms))

pub behind_step : (front : List ℕ) (n p : ℕ) (ns ps : List ℕ) → 0 < p → shapes_behind (behind front (n ∷ ns) (p ∷ ps)) ≡ flat_map (shapes_with front ns ps) (lengths_along n p)
behind_step front n p ns ps some = behind_are front (parts_of (n ∷ ns) (p ∷ ps)) ∙ (ap (map (λ s. front ++ s)) (shapes_step n p ns ps some) ∙ each_length front ns ps (lengths_along n p))

-- where the first dimension is shorter than the edge
pub behind_short : (front : List ℕ) (n p : ℕ) (ns ps : List ℕ) → 0 < n → n < p → shapes_behind (behind front (n ∷ ns) (p ∷ ps)) ≡ shapes_with front ns ps n
behind_short front n p ns ps some less =
    behind_step front n p ns ps (omega (arith, less)) ∙ (ap (flat_map (shapes_with front ns ps)) (short_length n p some less) ∙ append-nil (shapes_with front ns ps n))

-- ---- the first dimension

-- the first one of some dimensions, which have places, and the later ones
pub record HasFirst (sizes edges : List ℕ) (n p : ℕ) (ns ps : List ℕ) : Type 0 where
  pub sizes_are : sizes ≡ n ∷ ns
  pub edges_are : edges ≡ p ∷ ps
  pub some : 0 < product sizes
  pub positive : 0 < product edges

positive_first : (n : ℕ) (ns : List ℕ) → 0 < product (n ∷ ns) → 0 < n
positive_first n ns some = grind (arith, some)

pub first_size : (sizes edges : List ℕ) (n p : ℕ) (ns ps : List ℕ) → HasFirst sizes edges n p ns ps → 0 < n
first_size sizes edges n p ns ps h = positive_first n ns (subst (λ (s : List ℕ). 0 < product s) h.sizes_are h.some)

pub first_edge : (sizes edges : List ℕ) (n p : ℕ) (ns ps : List ℕ) → HasFirst sizes edges n p ns ps → 0 < p
first_edge sizes edges n p ns ps h = positive_first p ps (subst (λ (s : List ℕ). 0 < product s) h.edges_are h.positive)

pub behind_first : (front sizes edges : List ℕ) (n p : ℕ) (ns ps : List ℕ) → HasFirst sizes edges n p ns ps → behind front (n ∷ ns) (p ∷ ps) ≡ behind front sizes edges
behind_first front sizes edges n p ns ps h = sym (ap (λ (s : List ℕ). behind front s edges) h.sizes_are ∙ ap (behind front (n ∷ ns)) h.edges_are)
