use Rattle.std.proofs.Common.{◌<◌, ◌++◌, ◌%◌, ap, ◌∙◌, sym, arith, Some, take, drop, length, append_assoc}
use Rattle.zarr_codecs_meaning.specs.Chains.Endianness.{big}
use Rattle.zarr_codecs_meaning.specs.Types.{bytes_in}
use Rattle.zarr_codecs_meaning.specs.Encoding.{ordered}
use Rattle.zarr_codecs_types.specs.Views.{components_of}
use Rattle.zarr_codecs_bytes.specs.Orders.{all_ordered}
use Rattle.zarr_codecs_bytes.proofs.Orders.{first_ordered}
use Rattle.zarr_codecs_bytes.proofs.swapping.swapped_elements.Goals as goal

pub push_swapped-requires : goal.push_swapped-requires
push_swapped-requires c =
    let some : 0 < length c.loop-rest.rest.now = grind arith in
    (first_ordered (Some big) (components_of c.args.parts.now) c.loop-rest.rest.now c.requires.positive c.loop-rest.invariant.whole some).enough

pub loop-rest-preserved : goal.loop-rest-preserved
loop-rest-preserved c =
    let some : 0 < length c.loop-rest.rest.now = grind arith in
    let first = first_ordered (Some big) (components_of c.args.parts.now) c.loop-rest.rest.now c.requires.positive c.loop-rest.invariant.whole some in
    let parts = components_of c.args.parts.now in
    let done = c.in_ok-rest.ensures.written in
    let left = c.in_ok-rest.ensures.rest in
    let others = all_ordered (Some big) parts (drop (bytes_in parts) c.loop-rest.rest.now) in
    let one = ordered (Some big) parts (take (bytes_in parts) c.loop-rest.rest.now) in
    record {
      whole = ap (λ ns. length ns % bytes_in parts) left ∙ first.whole;
      written = ap (λ ns. c.push_swapped.new.out.items ++ all_ordered (Some big) parts ns) left
          ∙ (ap (λ ns. ns ++ others) done ∙ (append_assoc c.loop-rest.out.items one others ∙ (ap (λ ns. c.loop-rest.out.items ++ ns) (sym first.is) ∙ c.loop-rest.invariant.written)));
    }
