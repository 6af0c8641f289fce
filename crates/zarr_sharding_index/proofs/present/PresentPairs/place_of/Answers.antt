use Rattle.std.proofs.Common.{◌∙◌, ap, arith, sym}
use Rattle.zarr_sharding_index.specs.Present.{kept_pairs}
use Rattle.zarr_sharding_index.specs.Views.{numbers_or_all, pairs_of}
use Rattle.zarr_sharding_index.proofs.Listed.{are_listed}
use Rattle.zarr_sharding_index.proofs.Searched.{found_place, found_unlisted, gap_past, gap_place}
use Rattle.zarr_sharding_index.proofs.present.PresentPairs.place_of.Goals as goal

pub returns-in-Some-clause-found : goal.returns-in-Some-clause-found
returns-in-Some-clause-found c =
    let facts = c.binary_search.ensures in
    let self = c.args.self.now in
    found_place self.count c.args.n (numbers_or_all self.count self.numbers) c.as_slice.result.now (pairs_of self.ranges) c.binary_search.result (c.as_slice.ensures.value ∙ ap (numbers_or_all self.count) (sym c.in-Some.is)) self.alike
    (are_listed 0 self.count (kept_pairs self) self.listed) facts.bound facts.position

pub returns-in-Some-clause-absent : goal.returns-in-Some-clause-absent
returns-in-Some-clause-absent c =
    let facts = c.binary_search.ensures in
    let self = c.args.self.now in
    gap_place self.count c.args.n (numbers_or_all self.count self.numbers) c.as_slice.result.now (pairs_of self.ranges) c.binary_search.result (c.as_slice.ensures.value ∙ ap (numbers_or_all self.count) (sym c.in-Some.is)) self.alike
    (are_listed 0 self.count (kept_pairs self) self.listed) facts.bound facts.position

pub returns-then-n-self-clause-found : goal.returns-then-n-self-clause-found
returns-then-n-self-clause-found c =
    let self = c.args.self.now in
    let low = c.if-n-self.true in
    found_unlisted self.count c.args.n self.numbers (pairs_of self.ranges) c.in-None.is self.alike (omega (arith, low))

pub returns-else-n-self-clause-absent : goal.returns-else-n-self-clause-absent
returns-else-n-self-clause-absent c =
    let self = c.args.self.now in
    let past = c.if-n-self.false in
    gap_past self.count c.args.n self.numbers (pairs_of self.ranges) c.in-None.is self.alike (omega (arith, past))
