use Rattle.std.proofs.Common.{◌≡◌, ◌++◌, ◌+◌, ◌∙◌, ap, drop, length, rules}
use Rattle.std.proofs.lemmas.Result.{on_ok_weaker}
use Rattle.std.proofs.lemmas.List.{drop_min}
use Rattle.zarr_codecs_packbits.proofs.BitLists.{each_bit}
use Rattle.zarr_codecs_packbits.proofs.Restored.{kept_written}
use Rattle.zarr_codecs_packbits.proofs.turning.push_kept.Goals as goal

pub returns : goal.returns
returns c =
    let old = c.args.out.now.items in
    let component = c.args.component.now in
    let end : c.in-Some.end ≡ length old + c.args.kept = search rules in
    let rest : c.split_at.result.1.now ≡ drop c.args.first component = search (rules, drop_min) in
    let more = c.extend_from_slice.new.self.items in
    let is : more ≡ old ++ drop c.args.first component = c.in_ok-extend_from_slice.ensures.items ∙ ap (λ ns. old ++ ns) rest in
    on_ok_weaker c.fill_to.result (kept_written c.args.first c.args.kept component old more c.fill_to.new.out.items c.in-Some.end (each_bit component c.requires) end is) c.fill_to.ensures
