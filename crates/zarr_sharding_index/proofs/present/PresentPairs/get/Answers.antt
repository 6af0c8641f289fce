use Rattle.std.proofs.Common.{◌<◌, ◌∙◌, subst}
use Rattle.zarr_sharding_index.specs.Present.{kept_pairs}
use Rattle.zarr_sharding_index.specs.Views.{numbers_or_all, pairs_of}
use Rattle.zarr_sharding_index.proofs.Listed.{are_listed, full_length, missing_in_gap}
use Rattle.zarr_sharding_index.proofs.Numbered.{length-numbered, pair_numbered}
use Rattle.zarr_sharding_index.proofs.present.PresentPairs.get.Goals as goal

pub get-requires : goal.get-requires
get-requires c =
    let self = c.args.self.now in
    subst (λ n. c.in-Ok.at < n) (length-numbered (numbers_or_all self.count self.numbers) (pairs_of self.ranges) self.alike ∙ self.alike) c.in-Ok.ensures.found.within

pub returns-in-Ok : goal.returns-in-Ok
returns-in-Ok c =
    let self = c.args.self.now in
    let low = subst (λ n. c.args.n < n) (full_length self.count (kept_pairs self)) c.requires in
    let at = c.in-Ok.ensures.found in
    c.get.ensures ∙ pair_numbered self.count c.args.n c.in-Ok.at (numbers_or_all self.count self.numbers) (pairs_of self.ranges) self.alike (are_listed 0 self.count (kept_pairs self) self.listed) low at

pub returns-in-Err : goal.returns-in-Err
returns-in-Err c =
    let self = c.args.self.now in
    let low = subst (λ n. c.args.n < n) (full_length self.count (kept_pairs self)) c.requires in
    missing_in_gap self.count c.args.n c.in-Err.field-0 (kept_pairs self) low c.in-Err.ensures.absent
