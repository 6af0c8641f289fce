use Rattle.std.proofs.Common.{◌≡◌, ◌≤◌, ◌<◌, ◌^◌, ◌∙◌, ◌*◌, true, length, get_or, sym, ap, arith}
use Rattle.std.specs.Prelude.{sum}
use Rattle.zarr_grids_dimensions.specs.declared.repeat.RepeatedEdge.{RepeatedEdge}
use Rattle.zarr_grids_dimensions.specs.RepeatedEdges.{expanded, edges, counts, lengths, running}
use Rattle.zarr_grids_dimensions.specs.Lookups.{all_positive}
use Rattle.zarr_grids_dimensions.proofs.Expanded.{length-expanded}
use Rattle.zarr_grids_dimensions.proofs.VaryingLookups.{starts-length, starts-first, places-total, covering}
use Rattle.zarr_grids_dimensions.proofs.varying.VaryingEdges.new.Goals as goal

pub returns-in_default-clause-many : goal.returns-in_default-clause-many
returns-in_default-clause-many c = λ e.
    let l = length-expanded c.args.repeats.items in
    let s = ap (λ rs. sum (counts rs)) c.deref-2.ensures.value in
    let n = c.in_default.ensures in
    omega (arith, n)

pub index-requires : goal.index-requires
index-requires c = let l = starts-length (λ (r : RepeatedEdge). r.count * r.edge) c.deref-4.result.now _ c.in_ok-first_places.ensures in let d = c.deref-4.ensures.len in omega arith

pub returns-then-index-size-clause-short : goal.returns-then-index-size-clause-short
returns-then-index-size-clause-short c = λ e.
    let n : c.len.result ≡ length c.args.repeats.items = omega arith in
    let p : c.in_ok-first_places.first_places.items ≡ running 0 (lengths c.args.repeats.items) = c.in_ok-first_places.ensures ∙ ap (λ rs. running 0 (lengths rs)) c.deref-4.ensures.value in
    let q : c.index.result.now ≡ sum (expanded c.args.repeats.items) = c.index.ensures ∙ ap (λ m. get_or c.in_ok-first_places.first_places.items m c.index.result.now) n ∙ places-total _ _ c.index.result.now p in
    omega arith

pub invariant_of-result-clause-few : goal.invariant_of-result-clause-few
invariant_of-result-clause-few c =
    let l = length-expanded c.args.repeats.items in
    let s = ap (λ rs. sum (counts rs)) c.deref-2.ensures.value in
    let n = c.in-Some.ensures.0 in
    let g : length (expanded c.args.repeats.items) < 2 ^ 64 = omega arith in g

pub invariant_of-result-clause-extent : goal.invariant_of-result-clause-extent
invariant_of-result-clause-extent c =
    let n : c.len.result ≡ length c.args.repeats.items = omega arith in
    let p : c.in_ok-first_places.first_places.items ≡ running 0 (lengths c.args.repeats.items) = c.in_ok-first_places.ensures ∙ ap (λ rs. running 0 (lengths rs)) c.deref-4.ensures.value in
    let q : c.index.result.now ≡ sum (expanded c.args.repeats.items) = c.index.ensures ∙ ap (λ m. get_or c.in_ok-first_places.first_places.items m c.index.result.now) n ∙ places-total _ _ c.index.result.now p in
    let g : sum (expanded c.args.repeats.items) < 2 ^ 128 = omega arith in g

pub invariant_of-result-clause-positive : goal.invariant_of-result-clause-positive
invariant_of-result-clause-positive c = ap (λ rs. all_positive (edges rs)) (sym c.deref.ensures.value) ∙ c.in_ok-check_repeats.ensures.edges

pub invariant_of-result-clause-counted : goal.invariant_of-result-clause-counted
invariant_of-result-clause-counted c = ap (λ rs. all_positive (counts rs)) (sym c.deref.ensures.value) ∙ c.in_ok-check_repeats.ensures.counts

pub invariant_of-result-clause-dimension : goal.invariant_of-result-clause-dimension
invariant_of-result-clause-dimension c =
    let n : c.len.result ≡ length c.args.repeats.items = omega arith in
    let p : c.in_ok-first_places.first_places.items ≡ running 0 (lengths c.args.repeats.items) = c.in_ok-first_places.ensures ∙ ap (λ rs. running 0 (lengths rs)) c.deref-4.ensures.value in
    let q : c.index.result.now ≡ sum (expanded c.args.repeats.items) = c.index.ensures ∙ ap (λ m. get_or c.in_ok-first_places.first_places.items m c.index.result.now) n ∙ places-total _ _ c.index.result.now p in
    let e : all_positive (edges c.args.repeats.items) ≡ true = ap (λ rs. all_positive (edges rs)) (sym c.deref.ensures.value) ∙ c.in_ok-check_repeats.ensures.edges in
    let s : c.args.size ≤ sum (expanded c.args.repeats.items) = omega arith in
    covering c.args.size c.args.repeats.items e s

pub invariant_of-result-clause-some : goal.invariant_of-result-clause-some
invariant_of-result-clause-some c =
    let p : c.deref-5.result.now ≡ running 0 (lengths c.args.repeats.items) = c.deref-5.ensures.value ∙ c.in_ok-first_places.ensures ∙ ap (λ rs. running 0 (lengths rs)) c.deref-4.ensures.value in
    let l = starts-length (λ (r : RepeatedEdge). r.count * r.edge) _ _ p in
    let z = starts-first (λ (r : RepeatedEdge). r.count * r.edge) _ _ p in
    c.in_ok-near_places.ensures.some (omega arith) (omega arith)
