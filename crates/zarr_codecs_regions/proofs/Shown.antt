-- The cells of what is stored, each read by itself, and after others were put in their place.
use Rattle.std.proofs.Common.{◌≡◌, ◌∙◌, ℕ, zero, suc, ◌+◌, ◌<◌, List, [], ◌∷◌, map, length, get_or, set, replicate, refl, sym, ap, subst, arith, Option, Some, None, Bool, true}
use Rattle.std.specs.Prelude.{MatchBool, MatchOption, nat_lt}
use Rattle.std.specs.List.{list_all, range_with_len}
use Rattle.std.proofs.lemmas.Bool.{and_from, and_parts, lt-ltb}
use Rattle.std.proofs.lemmas.List.{get_or-replicate, length-replicate, length-set, map-set}
use Rattle.zarr_grids_boxes.specs.Boxes.{product}
use Rattle.zarr_codecs_meaning.specs.Chains.{Chain}
use Rattle.zarr_codecs_meaning.specs.Chunks.{chunk_decoded, chunk_part}
use Rattle.zarr_codecs_meaning.specs.Decoding.{all_there, cell_at, opens}
use Rattle.zarr_codecs_meaning.specs.Fits.{fits, is_lossless}
use Rattle.zarr_codecs_meaning.specs.Laws.{AreCells, IsLawfulChain}
use Rattle.zarr_codecs_meaning.specs.Standing.{ChunkStands}
use Rattle.zarr_codecs_meaning.specs.Types.{Cell, Elements, is_fill, is_value}
use Rattle.zarr_codecs_meaning.proofs.Chunks.{stored_decoded}
use Rattle.zarr_codecs_meaning.proofs.Counts.{decoded_count}
use Rattle.zarr_codecs_meaning.proofs.DecodedValues.{decoded_cells}
use Rattle.zarr_codecs_meaning.proofs.Lists.{if_some, some_same}
use Rattle.zarr_codecs_meaning.proofs.PartReading.{part_read}
use Rattle.zarr_codecs_meaning.proofs.Tight.{tight_stands}
use Rattle.zarr_codecs_traits.specs.Indexers.{put}
use Rattle.zarr_codecs_traits.specs.Arrays.{coded}
use Rattle.zarr_codecs_traits.specs.PartWriting.{ChunkTight, cells_after, cells_shown, only_cell}

-- ---- elements put into a list

length-put : {X : Type 0} (ns : List ℕ) (xs ys : List X) → length (put ns xs ys) ≡ length ys
length-put [] xs ys = refl
length-put (n ∷ ns) [] ys = refl
length-put (n ∷ ns) (x ∷ xs) ys = length-put ns xs (set ys n x) ∙ length-set ys n x

pub map_put : {X Y : Type 0} (f : X → Y) (ns : List ℕ) (xs ys : List X) → map f (put ns xs ys) ≡ put ns (map f xs) (map f ys)
map_put f [] xs ys = refl
map_put f (n ∷ ns) [] ys = refl
map_put f (n ∷ ns) (x ∷ xs) ys = map_put f ns xs (set ys n x) ∙ ap (put ns (map f xs)) (map-set f ys n x)

all_set : {X : Type 0} (test : X → Bool) (ys : List X) (n : ℕ) (x : X) → test x ≡ true → list_all test ys ≡ true → list_all test (set ys n x) ≡ true
all_set test [] n x one all = all
all_set test (y ∷ ys) zero x one all = and_from (test x) (list_all test ys) one (and_parts (test y) (list_all test ys) all).1
all_set test (y ∷ ys) (suc n) x one all =
    let both = and_parts (test y) (list_all test ys) all in
    and_from (test y) (list_all test (set ys n x)) both.0 (all_set test ys n x one both.1)

pub all_put : {X : Type 0} (test : X → Bool) (ns : List ℕ) (xs ys : List X) → list_all test xs ≡ true → list_all test ys ≡ true → list_all test (put ns xs ys) ≡ true
all_put test [] xs ys new old = old
all_put test (n ∷ ns) [] ys new old = old
all_put test (n ∷ ns) (x ∷ xs) ys new old =
    let both = and_parts (test x) (list_all test xs) new in
    all_put test ns xs (set ys n x) both.1 (all_set test ys n x both.0 old)

-- valid cells put into those of an array are cells of the array
pub put_cells : (elements : Elements) (shape ns : List ℕ) (cells before : List Cell) → list_all (is_value elements.type) cells ≡ true → AreCells elements shape before → AreCells elements shape (put ns cells before)
put_cells elements shape ns cells before values are = record {
  fill = are.fill;
  values = all_put (is_value elements.type) ns cells before values are.values;
  whole = length-put ns cells before ∙ are.whole;
}

-- ---- what is stored

all_filled : (test : Cell → Bool) (fill : Cell) (n : ℕ) → test fill ≡ true → list_all test (replicate n fill) ≡ true
all_filled test fill zero one = refl
all_filled test fill (suc n) one = and_from (test fill) (list_all test (replicate n fill)) one (all_filled test fill n one)

-- the cells of what is stored are cells of the array
pub stored_cells : (chain : Chain) (elements : Elements) (shape : List ℕ) (stored : Option (List ℕ)) (cells : List Cell) → fits chain elements.type shape ≡ true → is_value elements.type elements.fill ≡ true
    → chunk_decoded chain elements shape stored ≡ Some cells → AreCells elements shape cells
stored_cells chain elements shape None cells fit fill is =
    subst (AreCells elements shape) (some_same is) (record {
      fill = fill;
      values = all_filled (is_value elements.type) elements.fill (product shape) fill;
      whole = length-replicate {A = Cell} (product shape) elements.fill;
    })
stored_cells chain elements shape (Some value) cells fit fill is = decoded_cells chain elements shape value cells fit fill is

-- what stands for cells is decoded to them
pub standing_decoded : (chain : Chain) (elements : Elements) (shape : List ℕ) (stored : Option (List ℕ)) (cells : List Cell) → IsLawfulChain chain → fits chain elements.type shape ≡ true → is_lossless chain elements.type ≡ true
    → AreCells elements shape cells → ChunkStands chain elements shape stored cells → chunk_decoded chain elements shape stored ≡ Some cells
standing_decoded chain elements shape stored cells lawful fit lossless are stands =
    stored_decoded chain elements shape stored cells lawful lossless are (subst (λ b. MatchBool b (ChunkStands chain elements shape stored cells) ((stored ≡ None) × (is_fill elements.fill cells ≡ true))) (sym fit) stands)

-- what is tight stands
pub tight_standing : (chain : Chain) (elements : Elements) (shape : List ℕ) (stored : Option (List ℕ)) (cells : List Cell) → IsLawfulChain chain → fits chain elements.type shape ≡ true → is_lossless chain elements.type ≡ true
    → AreCells elements shape cells → ChunkTight chain elements shape stored cells → ChunkStands chain elements shape stored cells
tight_standing chain elements shape None cells lawful fit lossless are tight = tight
tight_standing chain elements shape (Some value) cells lawful fit lossless are tight = tight_stands chain elements shape value cells lawful fit lossless are tight

-- what is decoded can be read in part
pub stored_opens : (chain : Chain) (elements : Elements) (shape : List ℕ) (stored : Option (List ℕ)) (cells : List Cell) → fits chain elements.type shape ≡ true → chunk_decoded chain elements shape stored ≡ Some cells
    → MatchOption stored (Unit {0}) (λ value. opens chain elements shape value ≡ true)
stored_opens chain elements shape None cells fit is = tt
stored_opens chain elements shape (Some value) cells fit is =
    (if_some (opens chain elements shape value) (all_there (map (cell_at chain elements shape value) [])) [] (part_read chain elements shape value cells [] fit is refl)).0

-- ---- each place by itself

shown_at : (chain : Chain) (elements : Elements) (shape : List ℕ) (stored : Option (List ℕ)) (cells : List Cell) (n : ℕ) → fits chain elements.type shape ≡ true → chunk_decoded chain elements shape stored ≡ Some cells → n < product shape
    → chunk_part chain elements shape stored (n ∷ []) ≡ Some (get_or cells n elements.fill ∷ [])
shown_at chain elements shape None cells n fit is below =
    ap (λ c. Some (c ∷ [])) (sym (get_or-replicate {A = Cell} (product shape) n elements.fill elements.fill below) ∙ ap (λ cs. get_or cs n elements.fill) (some_same is))
shown_at chain elements shape (Some value) cells n fit is below =
    part_read chain elements shape value cells (n ∷ []) fit is (and_from (nat_lt n (product shape)) true (lt-ltb n (product shape) below) refl)

stored_count : (chain : Chain) (elements : Elements) (shape : List ℕ) (stored : Option (List ℕ)) (cells : List Cell) → chunk_decoded chain elements shape stored ≡ Some cells → length cells ≡ product shape
stored_count chain elements shape None cells is = ap length (sym (some_same is)) ∙ length-replicate {A = Cell} (product shape) elements.fill
stored_count chain elements shape (Some value) cells is = decoded_count chain elements shape value cells is

each_shown : (read : ℕ → Option (List Cell)) (fill : Cell) (cells : List Cell) (a : ℕ) → ((i : ℕ) → i < length cells → read (a + i) ≡ Some (get_or cells i fill ∷ [])) → map read (range_with_len a (length cells)) ≡ map (λ c. Some (c ∷ [])) cells
each_shown read fill [] a law = refl
each_shown read fill (c ∷ cs) a law =
    let start : a ≡ a + 0 = omega arith in
    let first : read a ≡ Some (c ∷ []) = ap read start ∙ law 0 (omega arith) in
    let rest = each_shown read fill cs (a + 1) (λ i low. let e : a + 1 + i ≡ a + suc i = omega arith in ap read e ∙ law (suc i) (omega (arith, low))) in
    ap (λ x. x ∷ map read (range_with_len (a + 1) (length cs))) first ∙ ap (λ xs. Some (c ∷ []) ∷ xs) rest

-- what is decoded is shown
pub shown_cells : (chain : Chain) (elements : Elements) (shape : List ℕ) (stored : Option (List ℕ)) (cells : List Cell) → fits chain elements.type shape ≡ true → chunk_decoded chain elements shape stored ≡ Some cells
    → cells_shown chain elements shape stored ≡ map (λ c. Some (c ∷ [])) cells
shown_cells chain elements shape stored cells fit is =
    let read = λ (n : ℕ). chunk_part chain elements shape stored (n ∷ []) in
    let many = stored_count chain elements shape stored cells is in
    ap (λ k. map read (range_with_len 0 k)) (sym many)
    ∙ each_shown read elements.fill cells 0 (λ i low. let start : 0 + i ≡ i = omega arith in ap read start ∙ shown_at chain elements shape stored cells i fit is (omega (arith, low, many)))

shown_back : (other : Cell) (cells : List Cell) → map (only_cell other) (map (λ c. Some (c ∷ [])) cells) ≡ cells
shown_back other [] = refl
shown_back other (c ∷ cs) = ap (λ xs. c ∷ xs) (shown_back other cs)

-- the cells that an array would have are those that it had, with the new ones put into them
pub after_decoded : (chain : Chain) (elements : Elements) (shape : List ℕ) (stored : Option (List ℕ)) (ns : List ℕ) (cells before : List Cell) → fits chain elements.type shape ≡ true → chunk_decoded chain elements shape stored ≡ Some before
    → cells_after (coded chain elements shape) stored ns cells ≡ put ns cells before
after_decoded chain elements shape stored ns cells before fit is =
    ap (put ns cells) (ap (map (only_cell elements.fill)) (shown_cells chain elements shape stored before fit is) ∙ shown_back elements.fill before)
