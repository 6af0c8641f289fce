use Rattle.std.proofs.Common.{◌∙◌, ◌<◌, sym, subst}
use Rattle.zarr_codecs_meaning.specs.Encoding.{absent_pair}
use Rattle.zarr_sharding_index.specs.Views.{numbers_or_all, pairs_of}
use Rattle.zarr_sharding_index.proofs.Numbered.{at_numbered, length-numbered, one_is}
use Rattle.zarr_sharding_index.proofs.present.PresentPairs.nth.Goals as goal

pub number_at-requires : goal.number_at-requires
number_at-requires c =
    let self = c.args.self.now in
    subst (λ n. c.args.k < n) (length-numbered (numbers_or_all self.count self.numbers) (pairs_of self.ranges) self.alike) c.requires

pub get-requires : goal.get-requires
get-requires c =
    let self = c.args.self.now in
    subst (λ n. c.args.k < n) (length-numbered (numbers_or_all self.count self.numbers) (pairs_of self.ranges) self.alike ∙ self.alike) c.requires

pub returns : goal.returns
returns c = λ other.
    let self = c.args.self.now in
    let ns = numbers_or_all self.count self.numbers in
    let ps = pairs_of self.ranges in
    let low = subst (λ n. c.args.k < n) (length-numbered ns ps self.alike) c.requires in
    one_is (c.number_at.ensures 0) c.get.ensures ∙ sym (at_numbered ns ps c.args.k 0 absent_pair other self.alike low)
