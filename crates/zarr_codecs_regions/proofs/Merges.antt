-- Elements of variable length put over those of the lines of a box.
use Rattle.std.proofs.Common.{◌≡◌, ◌∙◌, ℕ, zero, suc, ◌+◌, ◌-◌, ◌≤◌, List, [], ◌∷◌, ◌++◌, length, set, refl, sym, ap, arith, append_assoc, length-append}
use Rattle.std.specs.List.{range_with_len}
use Rattle.std.proofs.lemmas.List.{length-map, map-append}
use Rattle.std.proofs.lemmas.List.FromFn.{length-range_with_len}
use Rattle.zarr_grids_boxes.proofs.Places.{range_with_len-append}
use Rattle.zarr_codecs_regions.specs.Taken.{IsMerged, IsTaken, pieces_at, pieces_put}
use Rattle.zarr_codecs_regions.specs.Updates.{put}
use Rattle.zarr_codecs_regions.specs.declared.merging.Both.{Both}
use Rattle.zarr_codecs_regions.specs.declared.merging.Merged.{Merged}
use Rattle.zarr_codecs_regions.specs.declared.taken.Pieces.{Pieces}
use Rattle.zarr_codecs_regions.specs.declared.taken.Taken.{Taken}

-- ---- lists that are put

put_append : {X : Type 0} (ms ns : List ℕ) (xs ys bs : List X) → length ms ≡ length xs → put (ms ++ ns) (xs ++ ys) bs ≡ put ns ys (put ms xs bs)
put_append [] ns [] ys bs l = refl
put_append [] ns (x ∷ xs) ys bs l = absurd (omega (arith, l))
put_append (m ∷ ms) ns [] ys bs l = absurd (omega (arith, l))
put_append (m ∷ ms) ns (x ∷ xs) ys bs l = put_append ms ns xs ys (set bs m x) (omega (arith, l))

set_there : {X : Type 0} (front : List X) (b y : X) (rest : List X) (f : ℕ) → length front ≡ f → set (front ++ (b ∷ rest)) f y ≡ (front ++ y ∷ []) ++ rest
set_there [] b y rest zero l = refl
set_there [] b y rest (suc f) l = absurd (omega (arith, l))
set_there (a ∷ front) b y rest zero l = absurd (omega (arith, l))
set_there (a ∷ front) b y rest (suc f) l = ap (λ xs. a ∷ xs) (set_there front b y rest f (omega (arith, l)))

-- one after another
put_stretch : {X : Type 0} (f : ℕ) (ys front bs cs : List X) → length front ≡ f → length bs ≡ length ys → put (range_with_len f (length ys)) ys (front ++ (bs ++ cs)) ≡ front ++ (ys ++ cs)
put_stretch f [] front [] cs l m = refl
put_stretch f [] front (b ∷ bs) cs l m = absurd (omega (arith, m))
put_stretch f (y ∷ ys) front [] cs l m = absurd (omega (arith, m))
put_stretch f (y ∷ ys) front (b ∷ bs) cs l m =
    let long = length-append front (y ∷ []) in
    ap (put (range_with_len (f + 1) (length ys)) ys) (set_there front b y (bs ++ cs) f l)
    ∙ (put_stretch (f + 1) ys (front ++ y ∷ []) bs cs (omega (arith, l, long)) (omega (arith, m)) ∙ append_assoc front (y ∷ []) (ys ++ cs))

-- ---- elements of variable length that are put

pub many_pieces : (from : Pieces) (first n : ℕ) → length (pieces_at from (range_with_len first n)) ≡ n
many_pieces from first n = length-map (range_with_len first n) _ ∙ length-range_with_len first n

pieces_append : (from : Pieces) (first m n : ℕ) → pieces_at from (range_with_len first (m + n)) ≡ pieces_at from (range_with_len first m) ++ pieces_at from (range_with_len (first + m) n)
pieces_append from first m n = ap (pieces_at from) (range_with_len-append first m n) ∙ map-append _ (range_with_len first m) (range_with_len (first + m) n)

-- the elements of one line more
put_line : (both : Both) (numbers : List ℕ) (pieces : List (List ℕ)) (next given first long : ℕ) → length pieces ≡ next → given ≡ length numbers → next ≤ first → first + long ≤ both.count
    → pieces ++ pieces_at both.old (range_with_len next (both.count - next)) ≡ pieces_put both numbers
    → ((pieces ++ pieces_at both.old (range_with_len next (first - next))) ++ pieces_at both.given (range_with_len given long)) ++ pieces_at both.old (range_with_len (first + long) (both.count - (first + long))) ≡ pieces_put both (numbers ++ range_with_len first long)
put_line both numbers pieces next given first long l many low most is =
    let gap = pieces_at both.old (range_with_len next (first - next)) in
    let over = pieces_at both.old (range_with_len first long) in
    let rest = pieces_at both.old (range_with_len (first + long) (both.count - (first + long))) in
    let new = pieces_at both.given (range_with_len given long) in
    let olds = pieces_at both.old (range_with_len 0 both.count) in
    let count = length numbers in
    let front = pieces_at both.given (range_with_len 0 count) in
    let one : both.count - next ≡ (first - next) + (long + (both.count - (first + long))) = omega (arith, low, most) in
    let here : next + (first - next) ≡ first = omega (arith, low) in
    let left : pieces_at both.old (range_with_len next (both.count - next)) ≡ gap ++ (over ++ rest) =
    ap (λ n. pieces_at both.old (range_with_len next n)) one
    ∙ (pieces_append both.old next (first - next) (long + (both.count - (first + long)))
    ∙ ap (λ xs. gap ++ xs) (ap (λ f. pieces_at both.old (range_with_len f (long + (both.count - (first + long))))) here ∙ pieces_append both.old first long (both.count - (first + long)))) in
    let before : put numbers front olds ≡ (pieces ++ gap) ++ (over ++ rest) = sym is ∙ (ap (λ xs. pieces ++ xs) left ∙ sym (append_assoc pieces gap (over ++ rest))) in
    let all : length (numbers ++ range_with_len first long) ≡ count + long = length-append numbers (range_with_len first long) ∙ ap (λ n. count + n) (length-range_with_len first long) in
    let from : 0 + count ≡ given = omega (arith, many) in
    let given_are : pieces_at both.given (range_with_len 0 (length (numbers ++ range_with_len first long))) ≡ front ++ new =
    ap (λ n. pieces_at both.given (range_with_len 0 n)) all
    ∙ (pieces_append both.given 0 count long ∙ ap (λ f. front ++ pieces_at both.given (range_with_len f long)) from) in
    let news = many_pieces both.given given long in
    let overs = many_pieces both.old first long in
    let gaps = many_pieces both.old next (first - next) in
    let fronts = length-append pieces gap in
    let at : length (pieces ++ gap) ≡ first = omega (arith, fronts, gaps, l, low) in
    sym (ap (λ xs. put (numbers ++ range_with_len first long) xs olds) given_are
    ∙ (put_append numbers (range_with_len first long) front new olds (sym (many_pieces both.given 0 count))
    ∙ (ap (put (range_with_len first long) new) before
    ∙ (ap (λ n. put (range_with_len first n) new ((pieces ++ gap) ++ (over ++ rest))) (sym news)
    ∙ (put_stretch first new (pieces ++ gap) over rest at (overs ∙ sym news) ∙ sym (append_assoc (pieces ++ gap) new rest))))))

pub line_merged : (both : Both) (numbers : List ℕ) (old new : Merged) (one : Taken) (first long : ℕ) → IsMerged both numbers old → old.next ≤ first → first + long ≤ both.count → new.next ≡ first + long → new.given ≡ old.given + long
    → ((pieces : List (List ℕ)) → IsTaken pieces old.taken → IsTaken (pieces ++ pieces_at both.old (range_with_len old.next (first - old.next))) one)
    → ((pieces : List (List ℕ)) → IsTaken pieces one → IsTaken (pieces ++ pieces_at both.given (range_with_len old.given long)) new.taken) → IsMerged both (numbers ++ range_with_len first long) new
line_merged both numbers old new one first long h low most next given gap line =
    let front = h.pieces ++ pieces_at both.old (range_with_len old.next (first - old.next)) in
    let gaps = many_pieces both.old old.next (first - old.next) in
    let fronts = length-append h.pieces (pieces_at both.old (range_with_len old.next (first - old.next))) in
    let news = many_pieces both.given old.given long in
    let all = length-append front (pieces_at both.given (range_with_len old.given long)) in
    let l = h.long in
    let many = h.many in
    record {
      pieces = front ++ pieces_at both.given (range_with_len old.given long);
      taken = line front (gap h.pieces h.taken);
      long = omega (arith, gaps, fronts, news, all, l, low, next);
      most = omega (arith, next, most);
      many = given ∙ (ap (λ n. n + long) many ∙ sym (length-append numbers (range_with_len first long) ∙ ap (λ n. length numbers + n) (length-range_with_len first long)));
      is = ap (λ n. (front ++ pieces_at both.given (range_with_len old.given long)) ++ pieces_at both.old (range_with_len n (both.count - n))) next ∙ put_line both numbers h.pieces old.next old.given first long l many low most h.is;
    }
