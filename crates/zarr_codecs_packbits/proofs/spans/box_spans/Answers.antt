use Rattle.std.proofs.Common.{◌≡◌, ◌∙◌, ◌<◌, ◌++◌, ◌∷◌, [], ℕ, List, Bool, length, map, ap, refl, sym, subst, arith, true, append-nil}
use Rattle.std.specs.Prelude.{IfOk, nat_lt}
use Rattle.std.specs.Iterator.{Yields, YieldsFirst}
use Rattle.std.specs.List.{list_all}
use Rattle.std.proofs.iter.Next.{Yields-more}
use Rattle.std.proofs.lemmas.Bool.{and_parts, ltb-true}
use Rattle.zarr_grids_boxes.specs.Boxes.{Region, product, places, ravel}
use Rattle.zarr_grids_boxes.specs.Cuts.{IsAtMost, ends}
use Rattle.zarr_grids_boxes.specs.Subsets.{region_of}
use Rattle.zarr_grids_boxes.specs.Walks.{linearised, linearised_left}
use Rattle.zarr_grids_boxes.proofs.InBox.{length-places}
use Rattle.zarr_codecs_traits.specs.Indexers.{in_box, numbers_of}
use Rattle.zarr_codecs_regions.proofs.AskedPlaces.{asked_places}
use Rattle.zarr_codecs_regions.proofs.InsideArray.{each_place, ends_at_most, inside_places, inside_rank}
use Rattle.zarr_codecs_packbits.specs.Spans.{AreSpans}
use Rattle.zarr_codecs_packbits.proofs.SpanNumbers.{no_spans}
use Rattle.zarr_codecs_packbits.proofs.spans.box_spans.Goals as goal

-- a box without a place has no number
no_numbers : (shape : List ℕ) (region : Region) → length region.shape ≡ length region.start → product region.shape ≡ 0 → [] ≡ numbers_of shape region
no_numbers shape region l none = ap (map (λ place. ravel place shape)) (no_elements (places region.start region.shape) (length-places region.start region.shape (sym l) ∙ none)) where
  no_elements : (ps : List (List ℕ)) → length ps ≡ 0 → [] ≡ ps
  no_elements [] h = refl
  no_elements (p ∷ ps) h = absurd (omega arith)

-- an iterator has given a front of what it had
given_front : {S A : Type 0} (rest : S → List A) (s : S) (xs : List A) (t : S) → Yields (YieldsFirst rest) s xs t → rest s ≡ xs ++ rest t
given_front rest s [] t y = ap rest y
given_front rest s (x ∷ xs) t y = y.1 ∙ ap (λ ys. x ∷ ys) (given_front rest y.0 xs t y.2)

last_passes : {A : Type 0} (test : A → Bool) (xs : List A) (x : A) (ys : List A) → list_all test ((xs ++ x ∷ []) ++ ys) ≡ true → test x ≡ true
last_passes test [] x ys h = (and_parts (test x) (list_all test ys) h).0
last_passes test (z ∷ xs) x ys h = last_passes test xs x ys (and_parts (test z) (list_all test ((xs ++ x ∷ []) ++ ys)) h).1

pub returns-then-is_empty : goal.returns-then-is_empty
returns-then-is_empty c =
    let none = no_numbers c.args.shape.now (region_of c.args.region.now) c.args.region.now.same (c.is_empty.ensures.0 c.if-is_empty.true) in
    subst (λ (ns : List ℕ). AreSpans ns c.new-spans.result.items) none (subst (AreSpans []) (sym c.new-spans.ensures.items) no_spans)

pub unwrap-number-items-requires : goal.unwrap-number-items-requires
unwrap-number-items-requires c =
    let shape = c.args.shape.now in
    let region = region_of c.args.region.now in
    let some : 0 < product region.shape = at_least_one (product region.shape) (λ none. let e = c.is_empty.ensures.1 none in let f = c.if-is_empty.false in cc) in
    let l = c.args.region.now.same in
    let most : IsAtMost (ends region) shape = ends_at_most region.start region.shape shape l (sym (inside_rank shape region c.requires.inside)) some
    (λ p h. each_place _ region.start region.shape p (sym l) (inside_places shape region c.requires.inside) h) in
    let small = c.requires.small in
    c.linearised_indices.ensures.others most (omega (arith, small)) where
      at_least_one : (n : ℕ) → (n ≡ 0 → ⊥) → 0 < n
      at_least_one n some = omega (arith, some)

pub next_span-requires-clause-small : goal.next_span-requires-clause-small
next_span-requires-clause-small c =
    let shape = c.args.shape.now in
    let region = region_of c.args.region.now in
    let it = c.into_iter-number-iterator.result in
    let xs = c.loop-number.yielded in
    let x = c.in-Some.number in
    let more = Yields-more (YieldsFirst linearised_left) it xs c.loop-number.number-iterator x c.next.new.self c.loop-number.yielded_by c.in-Some.ensures.steps in
    let same : linearised_left it ≡ linearised region shape = ap linearised_left c.into_iter-number-iterator.ensures.into_iter_gives ∙ subst (λ r. IfOk r (λ walk. linearised_left walk ≡ linearised region shape)) c.unwrap-number-items.ensures c.linearised_indices.ensures.made in
    let below : list_all (λ n. nat_lt n (product shape)) (linearised region shape) ≡ true = asked_places shape (in_box region) c.requires.inside in
    let low = ltb-true x (product shape) (last_passes (λ n. nat_lt n (product shape)) xs x (linearised_left c.next.new.self) (ap (list_all (λ n. nat_lt n (product shape))) (sym (given_front linearised_left it (xs ++ x ∷ []) c.next.new.self more) ∙ same) ∙ below)) in
    omega (arith, low, c.requires.small)

pub returns : goal.returns
returns c =
    let shape = c.args.shape.now in
    let region = region_of c.args.region.now in
    let it = c.into_iter-number-iterator.result in
    let xs = c.loop-number.yielded in
    let same : linearised_left it ≡ linearised region shape = ap linearised_left c.into_iter-number-iterator.ensures.into_iter_gives ∙ subst (λ r. IfOk r (λ walk. linearised_left walk ≡ linearised region shape)) c.unwrap-number-items.ensures c.linearised_indices.ensures.made in
    let front = given_front linearised_left it xs c.loop-number.number-iterator c.loop-number.yielded_by in
    let all : xs ≡ numbers_of shape region = sym (append-nil xs) ∙ (sym (ap (λ ys. xs ++ ys) c.in-None.ensures.steps.0) ∙ (sym front ∙ same)) in
    subst (λ (ns : List ℕ). AreSpans ns c.end_spans.new.spans.items) all (c.in_ok-end_spans.ensures xs c.loop-number.invariant.so_far)
