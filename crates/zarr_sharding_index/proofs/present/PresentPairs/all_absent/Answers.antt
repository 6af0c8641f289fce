use Rattle.std.proofs.Common.{◌∙◌, List, ap, length, sym}
use Rattle.zarr_codecs_meaning.specs.Encoding.{Pair}
use Rattle.zarr_sharding_index.specs.Listed.{are_present, full_list, numbered}
use Rattle.zarr_sharding_index.specs.Views.{pairs_of}
use Rattle.zarr_sharding_index.proofs.Listed.{full_absent}
use Rattle.zarr_sharding_index.proofs.present.PresentPairs.all_absent.Goals as goal

pub invariant_of-result : goal.invariant_of-result
invariant_of-result c =
    let none = c.new.ensures.items in
    record {
      listed = ap (λ ns. are_present 0 c.args.count (numbered ns (pairs_of c.new-2.result))) none;
      alike = ap length none ∙ sym (ap (λ (ps : List Pair). length ps) c.new-2.ensures);
    }

pub returns : goal.returns
returns c = ap (λ ns. full_list c.args.count (numbered ns (pairs_of c.new-2.result))) c.new.ensures.items ∙ full_absent c.args.count
