-- The elements of a box put into an array, one after another.
use Rattle.std.proofs.Common.{◌≡◌, ◌∙◌, ℕ, suc, ◌+◌, ◌-◌, ◌*◌, ◌<◌, ◌≤◌, Bool, true, false, ◌&&◌, ◌||◌, not, if◌then◌else◌, List, [], ◌∷◌, ◌++◌, length, take, drop, refl, sym, ap, arith, append_assoc}
use Rattle.std.specs.Prelude.{bytes_eq}
use Rattle.std.specs.List.{range_with_len, flat_map, list_any, list_all}
use Rattle.std.proofs.lemmas.Bool.{and_parts, false≢true}
use Rattle.std.proofs.lemmas.Slice.Eq.{bytes_eq-Decides}
use Rattle.std.proofs.lemmas.List.Folds.{flat_map-map}
use Rattle.std.proofs.lemmas.List.FromFn.{length-range_with_len}
use Rattle.zarr_grids_boxes.specs.Boxes.{product, places, place_at, ravel, is_in_box}
use Rattle.zarr_grids_boxes.specs.Laid.{laid, overlaid, HasWidth}
use Rattle.zarr_grids_boxes.proofs.Places.{places_by_number}
use Rattle.zarr_grids_boxes.proofs.InBox.{place_at-number}
use Rattle.zarr_grids_overlay.proofs.Blocks.{half, half-more, blocks-split, blocks_congr}
use Rattle.zarr_grids_overlay.proofs.Overlays.{length-laid}
use Rattle.zarr_codecs_meaning.proofs.Covers.{zeros, length-zeros, ravel_place}
use Rattle.zarr_codecs_meaning.proofs.Lists.{Each, every}
use Rattle.zarr_codecs_regions.proofs.InsideArray.{all_places, each_place}
use Rattle.zarr_codecs_traits.specs.Patches.{overwritten}
use Rattle.zarr_codecs_bytes.proofs.BoxElements.{from_zero, number_below, same_flat, mul_le}
use Rattle.zarr_codecs_bytes.proofs.Scattered.{scatter, scatter_range, scatter_append}

-- ---- one element

-- the elements of an array after the one at a place was replaced
abbrev pub updated : List ℕ → (List ℕ → List ℕ) → (List ℕ → List ℕ) → List ℕ → List ℕ
updated p new old q = if bytes_eq q p then new q else old q

HasWidth-updated : (width : ℕ) (p : List ℕ) (new old : List ℕ → List ℕ) → HasWidth width new → HasWidth width old → HasWidth width (updated p new old)
HasWidth-updated width p new old hn ho q = choose (bytes_eq q p) where
  choose : (b : Bool) → length (if b then new q else old q) ≡ width
  choose true = hn q
  choose false = ho q

here_is : (p : List ℕ) (new old : List ℕ → List ℕ) → updated p new old p ≡ new p
here_is p new old = ap (λ (b : Bool). if b then new p else old p) ((bytes_eq-Decides p p).1 refl)

apart_is : (p q : List ℕ) (new old : List ℕ → List ℕ) → (q ≡ p → ⊥) → updated p new old q ≡ old q
apart_is p q new old h = choose (bytes_eq q p) (bytes_eq-Decides q p).0 where
  choose : (b : Bool) → (b ≡ true → q ≡ p) → (if b then new q else old q) ≡ old q
  choose true same = absurd (h (same refl))
  choose false same = refl

numbered : (f : List ℕ → List ℕ) (shape : List ℕ) → laid f (zeros shape) shape ≡ flat_map (λ n. f (place_at (zeros shape) shape n)) (range_with_len 0 (product shape))
numbered f shape = ap (flat_map f) (places_by_number (zeros shape) shape (length-zeros shape)) ∙ flat_map-map f (place_at (zeros shape) shape) (range_with_len 0 (product shape))

-- the place of an element's number
number_place : (shape p : List ℕ) → is_in_box (zeros shape) shape p ≡ true → place_at (zeros shape) shape (ravel p shape) ≡ p
number_place shape p inside = ap (λ q. place_at (zeros shape) shape (ravel q shape)) (sym (from_zero shape p inside)) ∙ place_at-number (zeros shape) shape p inside

put_place : (width : ℕ) (new old : List ℕ → List ℕ) (shape p : List ℕ) → HasWidth width new → HasWidth width old → is_in_box (zeros shape) shape p ≡ true
    → overwritten (laid old (zeros shape) shape) (ravel p shape * width) (new p) ≡ laid (updated p new old) (zeros shape) shape
put_place width new old shape p hn ho inside =
    let at_ = place_at (zeros shape) shape in
    let count = product shape in
    let k = ravel p shape in
    let below = number_below shape p inside in
    let f = λ (n : ℕ). old (at_ n) in
    let g = λ (n : ℕ). updated p new old (at_ n) in
    let wf : (n : ℕ) → length (f n) ≡ width = λ n. ho (at_ n) in
    let wg : (n : ℕ) → length (g n) ≡ width = λ n. HasWidth-updated width p new old hn ho (at_ n) in
    let other : (n : ℕ) → n < count → (n ≡ k → ⊥) → g n ≡ f n = λ n few away. apart_is p (at_ n) new old (λ same. away (sym (ravel_place shape n few) ∙ ap (λ q. ravel q shape) same)) in
    let rest = count - k in
    let split : count ≡ k + rest = omega (arith, below) in
    let front : flat_map f (range_with_len 0 k) ≡ flat_map g (range_with_len 0 k) = blocks_congr f g 0 k (λ n low few. sym (other n (omega (arith, few, below)) (λ same. absurd (omega (arith, few, same))))) in
    let whole : laid old (zeros shape) shape ≡ half g f 0 k rest =
    numbered old shape ∙ (ap (λ n. flat_map f (range_with_len 0 n)) split ∙ (blocks-split f 0 k rest ∙ ap (λ ns. ns ++ flat_map f (range_with_len (0 + k) rest)) front)) in
    let start : 0 + k ≡ k = omega arith in
    let block : new p ≡ g (0 + k) = sym (ap g start ∙ (ap (updated p new old) (number_place shape p inside) ∙ here_is p new old)) in
    let done = half-more g f width 0 k rest (k * width) (k * width + length (new p)) (new p) wg wf (omega (arith, below)) refl (ap (λ n. k * width + n) (hn p)) block in
    let back : flat_map f (range_with_len (0 + (k + 1)) (rest - 1)) ≡ flat_map g (range_with_len (0 + (k + 1)) (rest - 1)) =
    blocks_congr f g (0 + (k + 1)) (rest - 1) (λ n low few. sym (other n (omega (arith, few, below)) (λ same. absurd (omega (arith, low, same))))) in
    let joined : k + 1 + (rest - 1) ≡ count = omega (arith, below) in
    let after : half g f 0 (k + 1) (rest - 1) ≡ laid (updated p new old) (zeros shape) shape =
    ap (λ ns. flat_map g (range_with_len 0 (k + 1)) ++ ns) back ∙ (sym (blocks-split g 0 (k + 1) (rest - 1)) ∙ (ap (λ n. flat_map g (range_with_len 0 n)) joined ∙ sym (numbered (updated p new old) shape))) in
    ap (λ ns. overwritten ns (k * width) (new p)) whole
    ∙ (append_assoc (take (k * width) (half g f 0 k rest)) (new p) (drop (k * width + length (new p)) (half g f 0 k rest)) ∙ (done ∙ after))

-- ---- one element after another

-- the elements of an array after those at places were replaced
abbrev pub all_put : List (List ℕ) → (List ℕ → List ℕ) → (List ℕ → List ℕ) → List ℕ → List ℕ
all_put [] new old = old
all_put (p ∷ ps) new old = all_put ps new (updated p new old)

-- where each byte of the element at a place stands
abbrev pub element_positions : ℕ → List ℕ → List ℕ → List ℕ
element_positions width shape p = range_with_len (ravel p shape * width) width

scatter_places : (width : ℕ) (new old : List ℕ → List ℕ) (shape : List ℕ) (ps : List (List ℕ)) → HasWidth width new → HasWidth width old → Each (λ p. is_in_box (zeros shape) shape p ≡ true) ps
    → scatter (laid old (zeros shape) shape) (flat_map (element_positions width shape) ps) (flat_map new ps) ≡ laid (all_put ps new old) (zeros shape) shape
scatter_places width new old shape [] hn ho inside = refl
scatter_places width new old shape (p ∷ ps) hn ho inside =
    let value = laid old (zeros shape) shape in
    let k = ravel p shape in
    let here = range_with_len (k * width) width in
    let others = flat_map (element_positions width shape) ps in
    let long : length value ≡ product shape * width = length-laid old width (zeros shape) shape (sym (length-zeros shape)) ho in
    let room : suc k * width ≤ product shape * width = mul_le k (product shape) width (number_below shape p inside.0) in
    let more : suc k * width ≡ k * width + width = grind arith in
    let one : scatter value here (new p) ≡ laid (updated p new old) (zeros shape) shape =
    ap (λ n. scatter value (range_with_len (k * width) n) (new p)) (sym (hn p))
    ∙ (scatter_range value (k * width) (new p) (omega (arith, hn p, long, room, more)) ∙ put_place width new old shape p hn ho inside.0) in
    scatter_append value here others (new p) (flat_map new ps) (length-range_with_len (k * width) width ∙ sym (hn p))
    ∙ (ap (λ ns. scatter ns others (flat_map new ps)) one ∙ scatter_places width new (updated p new old) shape ps hn (HasWidth-updated width p new old hn ho) inside.1)

-- ---- the places of a box

one_of_both : (a b : Bool) (x y : List ℕ) → (if b then x else (if a then x else y)) ≡ (if a || b then x else y)
one_of_both true true x y = refl
one_of_both true false x y = refl
one_of_both false b x y = refl

all_put_is : (ps : List (List ℕ)) (new old : List ℕ → List ℕ) (q : List ℕ) → all_put ps new old q ≡ (if list_any (bytes_eq q) ps then new q else old q)
all_put_is [] new old q = refl
all_put_is (p ∷ ps) new old q = all_put_is ps new (updated p new old) q ∙ one_of_both (bytes_eq q p) (list_any (bytes_eq q) ps) (new q) (old q)

none_passes : (test : List ℕ → Bool) (ps : List (List ℕ)) → list_any test ps ≡ false → list_all (λ p. not (test p)) ps ≡ true
none_passes test [] h = refl
none_passes test (p ∷ ps) h = one (test p) h (none_passes test ps) where
  one : (b : Bool) → (b || list_any test ps) ≡ false → (list_any test ps ≡ false → list_all (λ p. not (test p)) ps ≡ true) → (not b && list_all (λ p. not (test p)) ps) ≡ true
  one true k rest = cc
  one false k rest = rest k

-- a place of which a test fails is none of those that pass it
not_among : (test : List ℕ → Bool) (q : List ℕ) (ps : List (List ℕ)) → test q ≡ false → list_all test ps ≡ true → list_any (bytes_eq q) ps ≡ false
not_among test q [] fails passes = refl
not_among test q (p ∷ ps) fails passes = one (bytes_eq q p) (bytes_eq-Decides q p).0 (not_among test q ps fails (and_parts (test p) (list_all test ps) passes).1) where
  one : (b : Bool) → (b ≡ true → q ≡ p) → list_any (bytes_eq q) ps ≡ false → (b || list_any (bytes_eq q) ps) ≡ false
  one true same rest = absurd (false≢true (sym fails ∙ (ap test (same refl) ∙ (and_parts (test p) (list_all test ps) passes).0)))
  one false same rest = rest

among_places : (ss es q : List ℕ) → length ss ≡ length es → list_any (bytes_eq q) (places ss es) ≡ is_in_box ss es q
among_places ss es q same = at_test (is_in_box ss es q) refl where
  found : (b : Bool) → list_any (bytes_eq q) (places ss es) ≡ b → is_in_box ss es q ≡ true → b ≡ true
  found true h inside = refl
  found false h inside =
      let no = each_place (λ p. not (bytes_eq q p)) ss es q same (none_passes (bytes_eq q) (places ss es) h) inside in
      absurd (false≢true (sym (ap not ((bytes_eq-Decides q q).1 refl)) ∙ no))

  at_test : (b : Bool) → is_in_box ss es q ≡ b → list_any (bytes_eq q) (places ss es) ≡ b
  at_test true h = found (list_any (bytes_eq q) (places ss es)) refl h
  at_test false h = not_among (is_in_box ss es) q (places ss es) h (all_places (is_in_box ss es) ss es same (λ p here. here))

-- the elements of a box, each put where it stands in an array
pub scatter_box : (width : ℕ) (new old : List ℕ → List ℕ) (shape ss es : List ℕ) → HasWidth width new → HasWidth width old → length ss ≡ length es → Each (λ p. is_in_box (zeros shape) shape p ≡ true) (places ss es)
    → scatter (laid old (zeros shape) shape) (flat_map (element_positions width shape) (places ss es)) (laid new ss es) ≡ laid (overlaid ss es new old) (zeros shape) shape
scatter_box width new old shape ss es hn ho same inside =
    scatter_places width new old shape (places ss es) hn ho inside
    ∙ same_flat (λ q. Unit {0}) (all_put (places ss es) new old) (overlaid ss es new old) (places (zeros shape) shape) (every (λ q. Unit {0}) (places (zeros shape) shape) (λ q. tt))
    (λ q h. all_put_is (places ss es) new old q ∙ ap (λ (b : Bool). if b then new q else old q) (among_places ss es q same))
